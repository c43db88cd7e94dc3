-- The sections of a script, one after the other, and that each begins with one line.
use Rattle.std.proofs.Common.{◌≡◌, ℕ, zero, suc, ◌+◌, ◌<◌, ◌≤◌, ◌^◌, false, eqb, List, [], ◌∷◌, ◌++◌, length, map, take, get_or, refl, sym, ap, subst, ◌∙◌, append_assoc, arith}
use Rattle.std.specs.List.{All, AllByRecursion}
use Rattle.std.proofs.lemmas.Bool.{or_from, or_parts}
use Rattle.std.proofs.lemmas.List.{map_push, take_more}
use Rattle.mama_edge.specs.Decimal.{decimal}
use Rattle.mama_event.specs.declared.ids.SubId.{SubId}
use Rattle.mama_event.specs.declared.ids.TimerId.{TimerId}
use Rattle.mama_event.specs.declared.ids.InboxId.{InboxId}
use Rattle.mama_event.specs.declared.ids.ObjectId.{ObjectId}
use Rattle.mama_event.specs.declared.ids.ObjectId.TheVariants.{Sub, Timer, Inbox}
use Rattle.mama_event.specs.Ports.{queues_of}
use Rattle.mama_words.proofs.Cutting.{decimal_lacks}
use Rattle.mama_plans.specs.Plans.{planned_objects}
use Rattle.mama_plans.specs.declared.plans.PlannedObject.{PlannedObject}
use Rattle.mama_script.specs.Script.{ScriptData}
use Rattle.std.proofs.lemmas.List.Elements.{All-push, All-from_recursion, recursion_from_All}
use Rattle.std.specs.Prelude.{IfOk, Result, Ok, Err}
use Rattle.mama_script.specs.Within.{IsWithin}
use Rattle.mama_rules_rounds.specs.Client.{Planned}
use Rattle.mama_rules_rounds.specs.Sections.{setting_of}
use Rattle.mama_rules_legal.specs.Form.{objects_of}
use Rattle.mama_event.specs.declared.shape.Strategy.{Strategy}
use Rattle.mama_event.specs.declared.shape.Strategy.TheVariants as strategies
use Rattle.mama_words.specs.declared.version.Version.{Version}
use Rattle.mama_words.specs.declared.version.Version.TheVariants.{One, Two}
use Rattle.mama_log_read.specs.Section.{has_feed, titles, numbered_from, sections_with, HasPlainHead}
use Rattle.mama_log_read.specs.declared.section.Section.{Section}
use Rattle.mama_log_read.specs.declared.section.Section.TheVariants as s

numbers_push : (section : ℕ → Section) (n k : ℕ) → numbered_from section n (suc k) ≡ numbered_from section n k ++ section (n + k) ∷ []
numbers_push section n zero = ap (λ (m : ℕ). section m ∷ []) (omega arith)
numbers_push section n (suc k) = ap (λ (t : List Section). section n ∷ t) (numbers_push section (suc n) k ∙ ap (λ (m : ℕ). numbered_from section (suc n) k ++ section m ∷ []) (omega arith))

-- one numbered section more
pub numbers_more : (section : ℕ → Section) (old now new : List Section) (k : ℕ) → new ≡ now ++ section k ∷ [] → now ≡ old ++ numbered_from section 0 k → new ≡ old ++ numbered_from section 0 (k + 1)
numbers_more section old now new k grown so_far =
    let one : numbered_from section 0 (k + 1) ≡ numbered_from section 0 k ++ section k ∷ [] =
    ap (numbered_from section 0) (let e : k + 1 ≡ suc k = omega arith in e) ∙ numbers_push section 0 k ∙ ap (λ (m : ℕ). numbered_from section 0 k ++ section m ∷ []) (let e : 0 + k ≡ k = omega arith in e) in
    grown ∙ ap (λ (t : List Section). t ++ section k ∷ []) so_far ∙ append_assoc old (numbered_from section 0 k) (section k ∷ []) ∙ ap (λ (t : List Section). old ++ t) (sym one)

-- the objects of planned objects
pub objects_seen : (xs : List PlannedObject) → map (λ p. p.object) (planned_objects xs) ≡ map (λ p. p.object) xs
objects_seen [] = refl
objects_seen (x ∷ xs) = ap (λ (t : List ObjectId). x.object ∷ t) (objects_seen xs)

pub objects_more : (xs : List PlannedObject) (now new : List ObjectId) (i : ℕ) (x : PlannedObject) (o : ObjectId) → i < length xs → x ≡ get_or xs i x → new ≡ now ++ o ∷ [] → o ≡ x.object → now ≡ map (λ p. p.object) (take i xs) → new ≡ map (λ p. p.object) (take (i + 1) xs)
objects_more xs now new i x o lt at grown same so_far =
    let object : PlannedObject → ObjectId = λ p. p.object in
    let one : take (i + 1) xs ≡ take i xs ++ x ∷ [] = take_more xs i x lt ∙ ap (λ (y : PlannedObject). take i xs ++ y ∷ []) (sym at) in
    grown ∙ ap (λ (t : List ObjectId). t ++ o ∷ []) so_far ∙ ap (λ (y : ObjectId). map object (take i xs) ++ y ∷ []) same ∙ sym (ap (map object) one ∙ map_push object (take i xs) x)

pub plain_more : (now new : List ObjectId) (o object : ObjectId) → new ≡ now ++ o ∷ [] → o ≡ object → HasPlainHead (s.Object object) → All (λ x. HasPlainHead (s.Object x)) now → All (λ x. HasPlainHead (s.Object x)) new
plain_more now new o object grown same plain so_far =
    let P : List ObjectId → Type 0 = λ xs. All (λ x. HasPlainHead (s.Object x)) xs in
    let Q : ObjectId → Type 0 = λ x. HasPlainHead (s.Object x) in
    subst P (sym grown) (All-push (λ x. HasPlainHead (s.Object x)) now o so_far (subst Q (sym same) plain))

take-all_le : (i : ℕ) (xs : List PlannedObject) → length xs ≤ i → take i xs ≡ xs
take-all_le zero [] h = refl
take-all_le (suc i) [] h = refl
take-all_le zero (x ∷ xs) h = absurd (omega arith)
take-all_le (suc i) (x ∷ xs) h = ap (λ (t : List PlannedObject). x ∷ t) (take-all_le i xs (omega (arith, h)))

pub objects_end : (script : ScriptData) (xs : List PlannedObject) (planned : List Planned) (now : List ObjectId) (i : ℕ) → now ≡ map (λ p. p.object) (take i xs) → length xs ≤ i → planned_objects xs ≡ planned → planned ≡ (setting_of script).objects → now ≡ objects_of script
objects_end script xs planned now i so_far long seen is =
    let object : PlannedObject → ObjectId = λ p. p.object in
    let of : Planned → ObjectId = λ p. p.object in
    so_far ∙ ap (map object) (take-all_le i xs long) ∙ sym (objects_seen xs) ∙ ap (map of) (seen ∙ is)

-- ---- one line each

pub plain_join : (a b : List ℕ) → has_feed a ≡ false → has_feed b ≡ false → has_feed (a ++ b) ≡ false
plain_join [] b h k = k
plain_join (x ∷ a) b h k = let p = or_parts (eqb x 10) (has_feed a) h in or_from (eqb x 10) (has_feed (a ++ b)) p.0 (plain_join a b p.1 k)

-- the two numbers of an id
pub plain_numbers : (client number : ℕ) → client < 2 ^ 64 → number < 2 ^ 64 → has_feed (decimal client ++ 46 ∷ decimal number) ≡ false
plain_numbers client number h k = plain_join (decimal client) (46 ∷ decimal number) (decimal_lacks 10 client refl h) (decimal_lacks 10 number refl k)

pub plain_sub : (o : ObjectId) (id : SubId) → o ≡ Sub id → id.client < 2 ^ 64 → id.number < 2 ^ 64 → HasPlainHead (s.Object o)
plain_sub o id e h k = let P : ObjectId → Type 0 = λ x. HasPlainHead (s.Object x) in subst P (sym e) (plain_numbers id.client id.number h k)

pub plain_timer : (o : ObjectId) (id : TimerId) → o ≡ Timer id → id.client < 2 ^ 64 → id.number < 2 ^ 64 → HasPlainHead (s.Object o)
plain_timer o id e h k = let P : ObjectId → Type 0 = λ x. HasPlainHead (s.Object x) in subst P (sym e) (plain_numbers id.client id.number h k)

pub plain_inbox : (o : ObjectId) (id : InboxId) → o ≡ Inbox id → id.client < 2 ^ 64 → id.number < 2 ^ 64 → HasPlainHead (s.Object o)
plain_inbox o id e h k = let P : ObjectId → Type 0 = λ x. HasPlainHead (s.Object x) in subst P (sym e) (plain_numbers id.client id.number h k)

plain_client : (n : ℕ) → n < 2 ^ 64 → HasPlainHead (s.Client n)
plain_client n h = decimal_lacks 10 n refl h

plain_publisher : (n : ℕ) → n < 2 ^ 64 → HasPlainHead (s.Publisher n)
plain_publisher n h = decimal_lacks 10 n refl h

plain_queue : (n : ℕ) → n < 2 ^ 64 → HasPlainHead (s.Queue n)
plain_queue n h = decimal_lacks 10 n refl h

plain_from : (section : ℕ → Section) → ((n : ℕ) → n < 2 ^ 64 → HasPlainHead (section n)) → (n k : ℕ) → n + k < 2 ^ 64 → AllByRecursion HasPlainHead (numbered_from section n k)
plain_from section each n zero few = tt
plain_from section each n (suc k) few = (each n (omega (arith, few)), plain_from section each (suc n) k (omega (arith, few)))

plain_objects : (objects : List ObjectId) → AllByRecursion (λ o. HasPlainHead (s.Object o)) objects → AllByRecursion HasPlainHead (map s.Object objects)
plain_objects [] h = tt
plain_objects (o ∷ objects) h = (h.0, plain_objects objects h.1)

joined : (a b : List Section) → AllByRecursion HasPlainHead a → AllByRecursion HasPlainHead b → AllByRecursion HasPlainHead (a ++ b)
joined [] b h k = k
joined (x ∷ a) b h k = (h.0, joined a b h.1 k)

plain_strategy : (strategy : Strategy) → HasPlainHead (s.Strategy strategy)
plain_strategy strategies.One = refl
plain_strategy strategies.Two = refl

plain_titles : (v : Version) (strategy : Strategy) → AllByRecursion HasPlainHead (titles v strategy)
plain_titles One strategy = (refl, tt)
plain_titles Two strategy = (refl, (plain_strategy strategy, tt))

plain_group : (n : ℕ) → n < 2 ^ 64 → HasPlainHead (s.Group n)
plain_group n h = decimal_lacks 10 n refl h

plain_watch : (n : ℕ) → n < 2 ^ 64 → HasPlainHead (s.Watch n)
plain_watch n h = decimal_lacks 10 n refl h

-- each section of a log with few clients, publishers, queues, groups and watches begins with one line
pub plain_sections : (v : Version) (strategy : Strategy) (clients publishers queues : ℕ) (objects : List ObjectId) (groups watches : ℕ) → clients < 2 ^ 64 → publishers < 2 ^ 64 → queues < 2 ^ 64 → AllByRecursion (λ o. HasPlainHead (s.Object o)) objects → groups < 2 ^ 32 → watches < 2 ^ 32
    → AllByRecursion HasPlainHead (sections_with v strategy clients publishers queues objects groups watches)
plain_sections v strategy clients publishers queues objects groups watches c p q h g w =
    let end_part : List Section = s.Images ∷ s.End ∷ [] in
    let at_end : AllByRecursion HasPlainHead end_part = (refl, (refl, tt)) in
    let at_watches = joined (numbered_from s.Watch 0 watches) end_part (plain_from s.Watch plain_watch 0 watches (omega (arith, w))) at_end in
    let watches_part : List Section = numbered_from s.Watch 0 watches ++ end_part in
    let at_groups = joined (numbered_from s.Group 0 groups) watches_part (plain_from s.Group plain_group 0 groups (omega (arith, g))) at_watches in
    let groups_part : List Section = numbered_from s.Group 0 groups ++ watches_part in
    let at_objects = joined (map s.Object objects) groups_part (plain_objects objects h) at_groups in
    let objects_part : List Section = map s.Object objects ++ groups_part in
    let at_queues = joined (numbered_from s.Queue 0 queues) objects_part (plain_from s.Queue plain_queue 0 queues (omega (arith, q))) at_objects in
    let bridge_part : List Section = s.Bridge ∷ s.Timers ∷ (numbered_from s.Queue 0 queues ++ objects_part) in
    let at_bridge : AllByRecursion HasPlainHead bridge_part = (refl, (refl, at_queues)) in
    let at_publishers = joined (numbered_from s.Publisher 0 publishers) bridge_part (plain_from s.Publisher plain_publisher 0 publishers (omega (arith, p))) at_bridge in
    let client_part : List Section = numbered_from s.Client 0 clients ++ (numbered_from s.Publisher 0 publishers ++ bridge_part) in
    joined (titles v strategy) client_part (plain_titles v strategy) (joined (numbered_from s.Client 0 clients) (numbered_from s.Publisher 0 publishers ++ bridge_part) (plain_from s.Client plain_client 0 clients (omega (arith, c))) at_publishers)

-- so do those of a script
pub plain_of : {X : Type 0} (v : Version) (strategy : Strategy) (script : ScriptData) (clients publishers queues : ℕ) (objects : List ObjectId) (groups watches : ℕ) (items : X → List Section) {E : Type 0} (r : Result X E) → IsWithin script → clients ≡ length script.clients → publishers ≡ length script.publishers → queues ≡ queues_of script.shape → groups < 2 ^ 32 → watches < 2 ^ 32
    → IfOk r (λ x. items x ≡ sections_with v strategy clients publishers queues objects groups watches) → IfOk r (λ x. All (λ o. HasPlainHead (s.Object o)) objects → All (λ x. HasPlainHead x) (items x))
plain_of v strategy script clients publishers queues objects groups watches items (Ok x) within c p q g w h = λ plain.
    let P : List Section → Type 0 = λ t. All (λ x. HasPlainHead x) t in
    subst P (sym h) (All-from_recursion (λ x. HasPlainHead x) (sections_with v strategy clients publishers queues objects groups watches) (plain_sections v strategy clients publishers queues objects groups watches (few clients 64 c within.clients_few (omega arith)) (few publishers 1024 p within.publishers_few (omega arith)) (few queues 64 q within.queues_few (omega arith)) (recursion_from_All (λ o. HasPlainHead (s.Object o)) objects plain) g w))
  where
    few : {m : ℕ} (n most : ℕ) → n ≡ m → m ≤ most → most < 2 ^ 64 → n < 2 ^ 64
    few n most e le lt = omega (arith, e, le, lt)
plain_of v strategy script clients publishers queues objects groups watches items (Err e) within c p q g w h = tt

-- ---- sections in a row

abbrev with_sections : List Section → List Section → List Section → List Section → List Section → List Section → List Section → List Section
with_sections t c p q o m w = t ++ (c ++ (p ++ (s.Bridge ∷ s.Timers ∷ (q ++ (o ++ (m ++ (w ++ (s.Images ∷ s.End ∷ []))))))))

one_by_one : (t c p q o m w : List Section) → (((((((((([] ++ t) ++ c) ++ p) ++ s.Bridge ∷ []) ++ s.Timers ∷ []) ++ q) ++ o) ++ m) ++ w) ++ s.Images ∷ []) ++ s.End ∷ [] ≡ with_sections t c p q o m w
one_by_one t c p q o m w = simp append_assoc

-- the sections of a log, listed one after the other
pub in_a_row : {none titled clients publishers bridge timers queues objects groups watches images all : List Section} (t c p q o m w : List Section) → none ≡ [] → titled ≡ none ++ t → clients ≡ titled ++ c → publishers ≡ clients ++ p → bridge ≡ publishers ++ s.Bridge ∷ [] → timers ≡ bridge ++ s.Timers ∷ []
    → queues ≡ timers ++ q → objects ≡ queues ++ o → groups ≡ objects ++ m → watches ≡ groups ++ w → images ≡ watches ++ s.Images ∷ [] → all ≡ images ++ s.End ∷ [] → all ≡ with_sections t c p q o m w
in_a_row t c p q o m w none titled clients publishers bridge timers queues objects groups watches images all =
    let add : List Section → List Section → List Section = λ x y. y ++ x in
    let before = titled ∙ ap (add t) none in
    let sent = publishers ∙ ap (add p) (clients ∙ ap (add c) before) in
    let timed = timers ∙ ap (add (s.Timers ∷ [])) (bridge ∙ ap (add (s.Bridge ∷ [])) sent) in
    let heard = objects ∙ ap (add o) (queues ∙ ap (add q) timed) in
    let listed = watches ∙ ap (add w) (groups ∙ ap (add m) heard) in
    all ∙ ap (add (s.End ∷ [])) (images ∙ ap (add (s.Images ∷ [])) listed) ∙ one_by_one t c p q o m w
