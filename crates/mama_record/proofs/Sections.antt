-- The text of a section, and of all of a log, part by part.
use Rattle.std.proofs.Common.{◌≡◌, ℕ, suc, ◌+◌, ◌<◌, ◌≤◌, List, [], ◌∷◌, ◌++◌, length, take, get_or, map, refl, sym, ap, ◌∙◌, append_assoc, arith, length-append}
use Rattle.std.specs.Prelude.{codes}
use Rattle.std.specs.List.{flat_map}
use Rattle.std.proofs.lemmas.List.{take_more, append-nil, length-map}
use Rattle.std.proofs.lemmas.List.Concat.{flat_map-append}
use Rattle.mama_event.specs.declared.callback.CallNote.{CallNote}
use Rattle.mama_event.specs.declared.shape.Shape.{Shape}
use Rattle.mama_event.specs.declared.to_queue.QueueNote.{QueueNote}
use Rattle.mama_event.specs.declared.publisher_entry.PublisherEntry.{PublisherEntry}
use Rattle.mama_event.specs.declared.to_bridge.BridgeNote.{BridgeNote}
use Rattle.mama_event.specs.declared.to_timers.TimersNote.{TimersNote}
use Rattle.mama_words.specs.declared.version.Version.{Version}
use Rattle.mama_record.specs.RunData.{RunData, ObjectCalls, LastImage, GroupNotes, WatchNotes}
use Rattle.mama_record.specs.LogText.{LogSection, line, lines_text, given_text, callback_text, call_texts, client_section, publisher_section, bridge_section, timers_section, queue_section, object_section, group_section, watch_section, images_section, numbered, log_sections, counted, title, log_text}
use Rattle.mama_record.specs.SectionText.{section_text, head_text, call_lines}

pub lines_text-append : (ls ms : List (List ℕ)) → lines_text (ls ++ ms) ≡ lines_text ls ++ lines_text ms
lines_text-append ls ms = flat_map-append line ls ms

pub mapped_text : {X : Type 0} (body : X → List ℕ) (xs : List X) → lines_text (map body xs) ≡ flat_map (λ x. line (body x)) xs
mapped_text body [] = refl
mapped_text body (x ∷ xs) = ap (λ (t : List ℕ). line (body x) ++ t) (mapped_text body xs)

pub calls_text : (calls : List CallNote) → lines_text (flat_map call_texts calls) ≡ flat_map call_lines calls
calls_text [] = refl
calls_text (c ∷ calls) =
    lines_text-append (call_texts c) (flat_map call_texts calls)
    ∙ ap (λ (t : List ℕ). (line (callback_text c.call) ++ t) ++ lines_text (flat_map call_texts calls)) (mapped_text given_text c.orders)
    ∙ ap (λ (t : List ℕ). call_lines c ++ t) (calls_text calls)

-- a section of as many lines as there are elements
pub section_printed : {X : Type 0} (v : Version) (head : List ℕ) (body : X → List ℕ) (xs : List X) (count : ℕ) (out mid new : List ℕ) → count ≡ length xs → mid ≡ out ++ head_text v head count → new ≡ mid ++ flat_map (λ x. line (body x)) xs
    → new ≡ out ++ section_text v (record { head = head; lines = map body xs })
section_printed v head body xs count out mid new many h t =
    let lines = flat_map (λ x. line (body x)) xs in
    let counts : count ≡ length (map body xs) = many ∙ sym (length-map xs body) in
    t ∙ ap (λ (m : List ℕ). m ++ lines) h ∙ append_assoc out (head_text v head count) lines
    ∙ ap (λ (k : ℕ). out ++ (head_text v head k ++ lines)) counts
    ∙ ap (λ (t : List ℕ). out ++ (head_text v head (length (map body xs)) ++ t)) (sym (mapped_text body xs))

-- a section of callbacks
pub object_printed : (v : Version) (o : ObjectCalls) (count : ℕ) (head out mid new lines : List ℕ) → head ≡ (object_section o).head → count ≡ length (flat_map call_texts o.calls) → mid ≡ out ++ head_text v head count → lines ≡ [] ++ flat_map call_lines o.calls → new ≡ mid ++ lines
    → new ≡ out ++ section_text v (object_section o)
object_printed v o count head out mid new lines name many h is t =
    t ∙ ap (λ (m : List ℕ). m ++ lines) h ∙ append_assoc out (head_text v head count) lines
    ∙ ap (λ (k : ℕ). out ++ (head_text v head k ++ lines)) many
    ∙ ap (λ (w : List ℕ). out ++ (head_text v w (length (flat_map call_texts o.calls)) ++ lines)) name
    ∙ ap (λ (t : List ℕ). out ++ (head_text v (object_section o).head (length (flat_map call_texts o.calls)) ++ t)) (is ∙ sym (calls_text o.calls))

-- how many lines some callbacks and one more are
pub count_more : (calls : List CallNote) (i : ℕ) (call : CallNote) (count new : ℕ) → i < length calls → call ≡ get_or calls i call → count ≡ length (flat_map call_texts (take i calls)) → new ≡ count + (1 + length call.orders)
    → new ≡ length (flat_map call_texts (take (i + 1) calls))
count_more calls i call count new lt at so_far more =
    let one : take (i + 1) calls ≡ take i calls ++ call ∷ [] = take_more calls i call lt ∙ ap (λ (c : CallNote). take i calls ++ c ∷ []) (sym at) in
    let all : flat_map call_texts (take (i + 1) calls) ≡ flat_map call_texts (take i calls) ++ call_texts call =
    ap (λ (cs : List CallNote). flat_map call_texts cs) one ∙ flat_map-append call_texts (take i calls) (call ∷ []) ∙ ap (λ (ls : List (List ℕ)). flat_map call_texts (take i calls) ++ ls) (append-nil (call_texts call)) in
    let own : length (call_texts call) ≡ suc (length call.orders) = ap suc (length-map call.orders given_text) in
    let long : length (flat_map call_texts (take (i + 1) calls)) ≡ length (flat_map call_texts (take i calls)) + length (call_texts call) = ap length all ∙ length-append (flat_map call_texts (take i calls)) (call_texts call) in
    omega (arith, so_far, more, own, long)

lines_long : (ls : List (List ℕ)) → length ls ≤ length (lines_text ls)
lines_long [] = omega arith
lines_long (l ∷ ls) = let more = lines_long ls in omega (arith, more, length-append (l ++ 10 ∷ []) (lines_text ls), length-append l (10 ∷ []))

-- no more lines than bytes
pub count_within : (calls : List CallNote) (i : ℕ) (call : CallNote) (count : ℕ) (start out new : List ℕ) → i < length calls → call ≡ get_or calls i call → count ≡ length (flat_map call_texts (take i calls)) → out ≡ start ++ flat_map call_lines (take i calls) → new ≡ out ++ call_lines call
    → count + (1 + length call.orders) ≤ length new
count_within calls i call count start out new lt at so_far printed grown =
    let here : lines_text (call_texts call) ≡ call_lines call = ap (λ (t : List ℕ). line (callback_text call.call) ++ t) (mapped_text given_text call.orders) in
    let own : length (call_texts call) ≡ suc (length call.orders) = ap suc (length-map call.orders given_text) in
    let before = lines_long (flat_map call_texts (take i calls)) in
    let behind = lines_long (call_texts call) in
    let a : length new ≡ length out + length (call_lines call) = ap length grown ∙ length-append out (call_lines call) in
    let b : length out ≡ length start + length (flat_map call_lines (take i calls)) = ap length printed ∙ length-append start (flat_map call_lines (take i calls)) in
    let c : length (lines_text (flat_map call_texts (take i calls))) ≡ length (flat_map call_lines (take i calls)) = ap length (calls_text (take i calls)) in
    let d : length (lines_text (call_texts call)) ≡ length (call_lines call) = ap length here in
    omega (arith, so_far, own, before, behind, a, b, c, d)

-- ---- the whole

sections_text : (v : Version) (ss : List LogSection) → lines_text (flat_map (counted v) ss) ≡ flat_map (section_text v) ss
sections_text v [] = refl
sections_text v (s ∷ ss) = lines_text-append (counted v s) (flat_map (counted v) ss) ∙ ap (λ (t : List ℕ). section_text v s ++ t) (sections_text v ss)

abbrev text_of : Version → List LogSection → List ℕ
text_of v ss = flat_map (section_text v) ss

text_of-append : (v : Version) (xs ys : List LogSection) → text_of v (xs ++ ys) ≡ text_of v xs ++ text_of v ys
text_of-append v xs ys = flat_map-append (section_text v) xs ys

log_sections_text : (v : Version) (shape : Shape) (run : RunData)
    → text_of v (log_sections shape run)
    ≡ text_of v (numbered client_section 0 run.clients)
    ++ (text_of v (numbered publisher_section 0 run.publishers)
    ++ (section_text v (bridge_section shape run.bridge)
    ++ (section_text v (timers_section shape run.timers)
    ++ (text_of v (numbered queue_section 0 run.queues)
    ++ (text_of v (map object_section run.calls)
    ++ (text_of v (map group_section run.groups)
    ++ (text_of v (map watch_section run.watches) ++ section_text v (images_section run.images))))))))
log_sections_text v shape run =
    let images = images_section run.images ∷ [] in
    let watches = map watch_section run.watches ++ images in
    let groups = map group_section run.groups ++ watches in
    let objects = map object_section run.calls ++ groups in
    let queues = numbered queue_section 0 run.queues ++ objects in
    let bridge = bridge_section shape run.bridge ∷ timers_section shape run.timers ∷ queues in
    let publishers = numbered publisher_section 0 run.publishers ++ bridge in
    let W = text_of v (map watch_section run.watches) ++ section_text v (images_section run.images) in
    let G = text_of v (map group_section run.groups) ++ W in
    let O = text_of v (map object_section run.calls) ++ G in
    let last : text_of v images ≡ section_text v (images_section run.images) = append-nil (section_text v (images_section run.images)) in
    let watches_are : text_of v watches ≡ W =
    text_of-append v (map watch_section run.watches) images ∙ ap (λ (t : List ℕ). text_of v (map watch_section run.watches) ++ t) last in
    let groups_are : text_of v groups ≡ G =
    text_of-append v (map group_section run.groups) watches ∙ ap (λ (t : List ℕ). text_of v (map group_section run.groups) ++ t) watches_are in
    let objects_are : text_of v objects ≡ O =
    text_of-append v (map object_section run.calls) groups ∙ ap (λ (t : List ℕ). text_of v (map object_section run.calls) ++ t) groups_are in
    let queues_are : text_of v queues ≡ text_of v (numbered queue_section 0 run.queues) ++ O =
    text_of-append v (numbered queue_section 0 run.queues) objects ∙ ap (λ (t : List ℕ). text_of v (numbered queue_section 0 run.queues) ++ t) objects_are in
    text_of-append v (numbered client_section 0 run.clients) publishers
    ∙ ap (λ (t : List ℕ). text_of v (numbered client_section 0 run.clients) ++ t) (
    text_of-append v (numbered publisher_section 0 run.publishers) bridge
    ∙ ap (λ (t : List ℕ). text_of v (numbered publisher_section 0 run.publishers) ++ (section_text v (bridge_section shape run.bridge) ++ (section_text v (timers_section shape run.timers) ++ t))) queues_are)

pub log_is : (v : Version) (shape : Shape) (run : RunData) → log_text v shape run ≡ lines_text (title v shape.strategy) ++ (text_of v (log_sections shape run) ++ line (codes "end"))
log_is v shape run =
    let sections = flat_map (counted v) (log_sections shape run) in
    let at_end : lines_text (codes "end" ∷ []) ≡ line (codes "end") = append-nil (line (codes "end")) in
    lines_text-append (title v shape.strategy) (sections ++ codes "end" ∷ [])
    ∙ ap (λ (t : List ℕ). lines_text (title v shape.strategy) ++ t)
    (lines_text-append sections (codes "end" ∷ []) ∙ ap (λ (t : List ℕ). t ++ lines_text (codes "end" ∷ [])) (sections_text v (log_sections shape run)) ∙ ap (λ (t : List ℕ). text_of v (log_sections shape run) ++ t) at_end)

regroup : (a b c d e f g h i j k : List ℕ) → (((((((((([] ++ a) ++ b) ++ c) ++ d) ++ e) ++ f) ++ g) ++ h) ++ i) ++ j) ++ k ≡ a ++ ((b ++ (c ++ (d ++ (e ++ (f ++ (g ++ (h ++ (i ++ j)))))))) ++ k)
regroup a b c d e f g h i j k = simp append_assoc

-- all parts were printed, one after the other
pub log_printed : (v : Version) (shape : Shape) (run : RunData)
    → (clients : List (List ℕ)) (publishers : List (List PublisherEntry)) (bridge : List (ℕ × BridgeNote)) (timers : List (ℕ × TimersNote)) (queues : List (List (ℕ × QueueNote))) (calls : List ObjectCalls)
    → (groups : List GroupNotes) (watches : List WatchNotes) (images : List LastImage)
    → clients ≡ run.clients → publishers ≡ run.publishers → bridge ≡ run.bridge → timers ≡ run.timers → queues ≡ run.queues → calls ≡ run.calls → groups ≡ run.groups → watches ≡ run.watches → images ≡ run.images
    → (a b c d e f g h i j out : List ℕ)
    → a ≡ [] ++ lines_text (title v shape.strategy) → b ≡ a ++ flat_map (section_text v) (numbered client_section 0 clients) → c ≡ b ++ flat_map (section_text v) (numbered publisher_section 0 publishers)
    → d ≡ c ++ section_text v (bridge_section shape bridge) → e ≡ d ++ section_text v (timers_section shape timers) → f ≡ e ++ flat_map (section_text v) (numbered queue_section 0 queues)
    → g ≡ f ++ flat_map (section_text v) (map object_section calls) → h ≡ g ++ flat_map (section_text v) (map group_section groups) → i ≡ h ++ flat_map (section_text v) (map watch_section watches)
    → j ≡ i ++ section_text v (images_section images) → out ≡ j ++ line (codes "end")
    → out ≡ log_text v shape run
log_printed v shape run clients publishers bridge timers queues calls groups watches images cs ps bs ts qs os gs ws is a b c d e f g h i j out ea eb ec ed ee ef eg eh ei ej eo =
    let T = text_of v in
    let b' : b ≡ a ++ T (numbered client_section 0 run.clients) = eb ∙ ap (λ (x : List (List ℕ)). a ++ T (numbered client_section 0 x)) cs in
    let c' : c ≡ b ++ T (numbered publisher_section 0 run.publishers) = ec ∙ ap (λ (x : List (List PublisherEntry)). b ++ T (numbered publisher_section 0 x)) ps in
    let d' : d ≡ c ++ section_text v (bridge_section shape run.bridge) = ed ∙ ap (λ (x : List (ℕ × BridgeNote)). c ++ section_text v (bridge_section shape x)) bs in
    let e' : e ≡ d ++ section_text v (timers_section shape run.timers) = ee ∙ ap (λ (x : List (ℕ × TimersNote)). d ++ section_text v (timers_section shape x)) ts in
    let f' : f ≡ e ++ T (numbered queue_section 0 run.queues) = ef ∙ ap (λ (x : List (List (ℕ × QueueNote))). e ++ T (numbered queue_section 0 x)) qs in
    let g' : g ≡ f ++ T (map object_section run.calls) = eg ∙ ap (λ (x : List ObjectCalls). f ++ T (map object_section x)) os in
    let h' : h ≡ g ++ T (map group_section run.groups) = eh ∙ ap (λ (x : List GroupNotes). g ++ T (map group_section x)) gs in
    let i' : i ≡ h ++ T (map watch_section run.watches) = ei ∙ ap (λ (x : List WatchNotes). h ++ T (map watch_section x)) ws in
    let j' : j ≡ i ++ section_text v (images_section run.images) = ej ∙ ap (λ (x : List LastImage). i ++ section_text v (images_section x)) is in
    all v shape run a b c d e f g h i j out ea b' c' d' e' f' g' h' i' j' eo
  where
    all : (v : Version) (shape : Shape) (run : RunData) (a b c d e f g h i j out : List ℕ)
        → a ≡ [] ++ lines_text (title v shape.strategy) → b ≡ a ++ text_of v (numbered client_section 0 run.clients) → c ≡ b ++ text_of v (numbered publisher_section 0 run.publishers)
        → d ≡ c ++ section_text v (bridge_section shape run.bridge) → e ≡ d ++ section_text v (timers_section shape run.timers) → f ≡ e ++ text_of v (numbered queue_section 0 run.queues)
        → g ≡ f ++ text_of v (map object_section run.calls) → h ≡ g ++ text_of v (map group_section run.groups) → i ≡ h ++ text_of v (map watch_section run.watches)
        → j ≡ i ++ section_text v (images_section run.images) → out ≡ j ++ line (codes "end") → out ≡ log_text v shape run
    all v shape run a b c d e f g h i j out ea eb ec ed ee ef eg eh ei ej eo =
        let A = lines_text (title v shape.strategy) in
        let B = text_of v (numbered client_section 0 run.clients) in
        let C = text_of v (numbered publisher_section 0 run.publishers) in
        let D = section_text v (bridge_section shape run.bridge) in
        let E = section_text v (timers_section shape run.timers) in
        let F = text_of v (numbered queue_section 0 run.queues) in
        let G = text_of v (map object_section run.calls) in
        let H = text_of v (map group_section run.groups) in
        let I = text_of v (map watch_section run.watches) in
        let J = section_text v (images_section run.images) in
        let K = line (codes "end") in
        let parts : out ≡ (((((((((([] ++ A) ++ B) ++ C) ++ D) ++ E) ++ F) ++ G) ++ H) ++ I) ++ J) ++ K =
        eo ∙ ap (λ (t : List ℕ). t ++ K) (ej ∙ ap (λ (t : List ℕ). t ++ J) (ei ∙ ap (λ (t : List ℕ). t ++ I) (eh ∙ ap (λ (t : List ℕ). t ++ H) (eg ∙ ap (λ (t : List ℕ). t ++ G) (ef ∙ ap (λ (t : List ℕ). t ++ F) (ee ∙ ap (λ (t : List ℕ). t ++ E) (ed ∙ ap (λ (t : List ℕ). t ++ D) (ec ∙ ap (λ (t : List ℕ). t ++ C) (eb ∙ ap (λ (t : List ℕ). t ++ B) ea))))))))) in
        parts ∙ regroup A B C D E F G H I J K ∙ ap (λ (t : List ℕ). A ++ (t ++ K)) (sym (log_sections_text v shape run)) ∙ sym (log_is v shape run)
