-- No line of an entry is the line that begins a section: their first three bytes differ, or the first six, since "timeout" begins as
-- "timers" does.
use Rattle.std.proofs.Common.{◌≡◌, ℕ, ◌-◌, ◌<◌, ◌^◌, Bool, true, false, cond, eqb, List, [], ◌∷◌, ◌++◌, length, refl, sym, ap, ◌∙◌, append_assoc, arith}
use Rattle.std.specs.Prelude.{◌&&◌, ◌||◌, ◌==◌}
use Rattle.std.specs.List.{list_all}
use Rattle.std.proofs.lemmas.Bool.{and_parts, ne_eqb}
use Rattle.std.proofs.lemmas.Fmt.{decimal_nonempty}
use Rattle.mama_edge.specs.Decimal.{decimal}
use Rattle.mama_words.proofs.Cutting.{is_digit, decimal_digits}
use Rattle.mama_event.specs.declared.order.Order.{Order}
use Rattle.mama_event.specs.declared.callback.Callback.{Callback}
use Rattle.mama_event.specs.declared.callback.Callback.TheVariants as on
use Rattle.mama_event.specs.declared.group.GroupNote.{GroupNote}
use Rattle.mama_event.specs.declared.group.GroupNote.TheVariants as grouped
use Rattle.mama_event.specs.declared.watch.WatchNote.{WatchNote}
use Rattle.mama_event.specs.declared.watch.WatchNote.TheVariants as watched
use Rattle.mama_event.specs.declared.shape.Shape.{Shape}
use Rattle.mama_event.specs.declared.to_bridge.BridgeNote.{BridgeNote}
use Rattle.mama_event.specs.declared.to_publisher.PublisherNote.TheVariants as p
use Rattle.mama_event.specs.declared.to_timers.TimersNote.{TimersNote}
use Rattle.mama_event.specs.declared.to_queue.QueueNote.{QueueNote}
use Rattle.mama_event.specs.declared.publisher_entry.PublisherEntry.{PublisherEntry}
use Rattle.mama_event.specs.declared.publisher_entry.PublisherEntry.TheVariants.{Send, Done, Took}
use Rattle.mama_event.specs.Ports.{clients_of, publishers_of, queue_port_of_bridge, queue_port_of_timers, is_bridge_port_of_client, is_bridge_port_of_publisher, is_bridge_port_of_queue, is_timers_port_of_client, is_timers_port_of_queue, is_timers_port_of_bridge}
use Rattle.mama_rules_services.specs.Ports.{Putter, ByClient, ByPublisher, ByQueue, ByBridge, ByTimers, ByNobody, bridge_putter, timers_putter, queue_putter}
use Rattle.mama_record.specs.RunData.{LastImage}
use Rattle.mama_record.specs.LogText.{putter_text, bridge_note_text, timers_note_text, queue_note_text, publisher_entry_text, callback_text, bridge_entry_text, clock_text, given_text, group_note_text, watch_note_text, image_text, queue_entry_text, timers_entry_text, told}
use Rattle.mama_log_line.specs.Names.{NamesData}
use Rattle.mama_log_line.specs.Entering.{MayEnterBridge, MayEnterTimers, MayEnterQueue, BridgeFrom, TimersFrom, QueueFrom}
use Rattle.mama_words.specs.Kind.{quality_text}
use Rattle.mama_words.specs.Field.{fields_text}
use Rattle.mama_words.specs.Order.{spaced_number}
use Rattle.mama_words.specs.declared.version.Version.{Version}
use Rattle.mama_words.specs.declared.version.Version.TheVariants as version
use Rattle.mama_event.specs.declared.shape.Strategy.TheVariants as strategy
use Rattle.mama_log_read.specs.Section.{head_of, has_count}
use Rattle.mama_log_read.specs.Reading.{IsTold, Begins}
use Rattle.mama_log_read.specs.declared.section.Told.{Told}
use Rattle.mama_log_read.specs.declared.section.Told.TheVariants as t
use Rattle.mama_log_read.specs.declared.section.Section.{Section}
use Rattle.mama_log_read.specs.declared.section.Section.TheVariants as s

abbrev first : List ℕ → ℕ
first [] = 0
first (b ∷ bs) = b

abbrev others : List ℕ → List ℕ
others [] = []
others (b ∷ bs) = bs

abbrev begins : ℕ → ℕ → ℕ → List ℕ → Bool
begins a b c l = first l == a && (first (others l) == b && first (others (others l)) == c)

abbrev begins_timers : List ℕ → Bool
begins_timers l = begins 116 105 109 l && begins 101 114 115 (others (others (others l)))

-- the first bytes are those of a line that begins a section
abbrev pub is_head : List ℕ → Bool
is_head l =
    begins 109 97 109 l || (begins 99 108 105 l || (begins 112 117 98 l || (begins 98 114 105 l || (begins_timers l || (begins 113 117 101 l || (begins 111 110 32 l || (begins 103 114 111 l || (begins 119 97 116 l || (begins 105 109 97 l || (begins 115 116 114 l || begins 101 110 100 l))))))))))

pub head_is : (section : Section) → is_head (head_of section) ≡ true
head_is (s.Title version.One) = refl
head_is (s.Title version.Two) = refl
head_is (s.Strategy strategy.One) = refl
head_is (s.Strategy strategy.Two) = refl
head_is (s.Client n) = refl
head_is (s.Publisher n) = refl
head_is s.Bridge = refl
head_is s.Timers = refl
head_is (s.Queue n) = refl
head_is (s.Object o) = refl
head_is (s.Group n) = refl
head_is (s.Watch n) = refl
head_is s.Images = refl
head_is s.End = refl

-- so are those of a section whose lines are counted, with anything behind them
more_is : (section : Section) (t : List ℕ) → has_count version.Two section ≡ true → is_head (head_of section ++ t) ≡ true
more_is (s.Title v) t h = absurd cc
more_is (s.Strategy strategy) t h = absurd cc
more_is (s.Client n) t h = refl
more_is (s.Publisher n) t h = refl
more_is s.Bridge t h = refl
more_is s.Timers t h = refl
more_is (s.Queue n) t h = refl
more_is (s.Object o) t h = refl
more_is (s.Group n) t h = refl
more_is (s.Watch n) t h = refl
more_is s.Images t h = refl
more_is s.End t h = absurd cc

counted_in_two : (v : Version) (section : Section) → has_count v section ≡ true → has_count version.Two section ≡ true
counted_in_two version.One section h = absurd cc
counted_in_two version.Two section h = h

-- a line that begins a section
pub begins_head : (v : Version) (section : Section) (line : List ℕ) → Begins v section line → is_head line ≡ true
begins_head v section line b = by b.0 b.1
  where
    by : (told : Told) → IsTold v section told line → is_head line ≡ true
    by t.Nothing h = ap is_head h.1 ∙ head_is section
    by (t.Lines count) h = ap is_head h.2 ∙ more_is section (told version.Two count) (counted_in_two v section h.0)

pub moment_no_head : (m : ℕ) → is_head (clock_text m) ≡ false
moment_no_head m = refl

pub publisher_no_head : (e : PublisherEntry) → is_head (publisher_entry_text e) ≡ false
publisher_no_head Send = refl
publisher_no_head Done = refl
publisher_no_head (Took (p.Want sub kind)) = refl
publisher_no_head (Took (p.Ask inbox fids)) = refl
publisher_no_head (Took p.Settle) = refl
publisher_no_head (Took p.Fin) = refl

pub call_no_head : (c : Callback) → is_head (callback_text c) ≡ false
call_no_head on.Create = refl
call_no_head (on.Msg msg quality) = refl
call_no_head (on.Gap first to) = refl
call_no_head (on.Quality quality number) = refl
call_no_head (on.RecapRequest sender) = refl
call_no_head (on.Late sender seq) = refl
call_no_head (on.Error code) = refl
call_no_head on.Destroy = refl
call_no_head (on.Tick moment) = refl
call_no_head (on.Reply body) = refl

pub order_no_head : (o : Order) → is_head (given_text o) ≡ false
order_no_head o = refl

-- a callback's line is no order's
pub call_no_order : (c : Callback) (o : Order) → callback_text c ≡ given_text o → ⊥
call_no_order c o e = let k : false ≡ true = sym (not_o c) ∙ ap (λ (l : List ℕ). begins 111 114 100 l) e in cc
  where
    not_o : (c : Callback) → begins 111 114 100 (callback_text c) ≡ false
    not_o on.Create = refl
    not_o (on.Msg msg quality) = refl
    not_o (on.Gap first to) = refl
    not_o (on.Quality quality number) = refl
    not_o (on.RecapRequest sender) = refl
    not_o (on.Late sender seq) = refl
    not_o (on.Error code) = refl
    not_o on.Destroy = refl
    not_o (on.Tick moment) = refl
    not_o (on.Reply body) = refl

-- ---- who put an event

first_digit : (ds t : List ℕ) (b : ℕ) → list_all is_digit ds ≡ true → 0 < length ds → is_digit b ≡ false → eqb (first (ds ++ t)) b ≡ false
first_digit [] t b h some not_b = absurd (omega arith)
first_digit (d ∷ ds) t b h some not_b = ne_eqb d b (λ e. let p = and_parts (is_digit d) (list_all is_digit ds) h in let k : true ≡ false = sym p.0 ∙ ap is_digit e ∙ not_b in absurd cc)

number_first : (n : ℕ) (t : List ℕ) (b : ℕ) → n < 2 ^ 64 → is_digit b ≡ false → eqb (first (decimal n ++ t)) b ≡ false
number_first n t b small not_b = first_digit (decimal n) t b (decimal_digits n small) (decimal_nonempty n small) not_b

-- a note of a member names a client whose number is below 2 ^ 64
abbrev pub IsSmallNote : GroupNote → Type 0
IsSmallNote (grouped.Call sub call) = sub.client < 2 ^ 64
IsSmallNote (grouped.State state) = Unit {0}

-- an image begins with the id of a subscription
pub image_no_head : (i : LastImage) → i.sub.client < 2 ^ 64 → is_head (image_text i) ≡ false
image_no_head i small =
    let id = decimal i.sub.client in
    let a = 46 ∷ decimal i.sub.number in
    let b = 32 ∷ quality_text i.head.quality in
    let c = spaced_number i.head.sender in
    let d = spaced_number i.head.last in
    let e = fields_text i.body in
    let same : image_text i ≡ 115 ∷ (id ++ (a ++ (b ++ (c ++ (d ++ e))))) = ap (λ (t : List ℕ). 115 ∷ t) (regroup id a b c d e) in
    ap is_head same ∙ (rw (number_first i.sub.client (a ++ (b ++ (c ++ (d ++ e)))) 116 small refl) refl)
  where
    regroup : (id a b c d e : List ℕ) → ((((id ++ a) ++ b) ++ c) ++ d) ++ e ≡ id ++ (a ++ (b ++ (c ++ (d ++ e))))
    regroup id a b c d e = simp append_assoc

pub watch_no_head : (n : WatchNote) → is_head (watch_note_text n) ≡ false
watch_no_head (watched.Retry count moment) = refl
watch_no_head (watched.Timeout moment) = refl

-- so does what a group hears of a member
pub group_no_head : (n : GroupNote) → IsSmallNote n → is_head (group_note_text n) ≡ false
group_no_head (grouped.State state) small = refl
group_no_head (grouped.Call sub call) small =
    let id = decimal sub.client in
    let rest = (46 ∷ decimal sub.number) ++ 32 ∷ callback_text call in
    let same : group_note_text (grouped.Call sub call) ≡ 115 ∷ (id ++ rest) = ap (λ (t : List ℕ). 115 ∷ t) (append_assoc id (46 ∷ decimal sub.number) (32 ∷ callback_text call)) in
    ap is_head same ∙ (rw (number_first sub.client rest 116 small refl) refl)

client_no_head : (c : ℕ) (t : List ℕ) → c < 2 ^ 64 → is_head (99 ∷ (decimal c ++ t)) ≡ false
client_no_head c t small = rw (number_first c t 108 small refl) refl

publisher_put_no_head : (c : ℕ) (t : List ℕ) → c < 2 ^ 64 → is_head (112 ∷ (decimal c ++ t)) ≡ false
publisher_put_no_head c t small = rw (number_first c t 117 small refl) refl

queue_put_no_head : (c : ℕ) (t : List ℕ) → c < 2 ^ 64 → is_head (113 ∷ (decimal c ++ t)) ≡ false
queue_put_no_head c t small = rw (number_first c t 117 small refl) refl

abbrev IsSmall : Putter → Type 0
IsSmall (ByClient c) = c < 2 ^ 64
IsSmall (ByPublisher n) = n < 2 ^ 64
IsSmall (ByQueue n) = n < 2 ^ 64
IsSmall _ = Unit {0}

abbrev IsSomebody : Putter → Type 0
IsSomebody ByNobody = ⊥
IsSomebody _ = Unit {0}

putter_no_head : (putter : Putter) (t : List ℕ) → IsSmall putter → IsSomebody putter → is_head (putter_text putter ++ 32 ∷ t) ≡ false
putter_no_head (ByClient c) t small some = client_no_head c (32 ∷ t) small
putter_no_head (ByPublisher n) t small some = publisher_put_no_head n (32 ∷ t) small
putter_no_head (ByQueue n) t small some = queue_put_no_head n (32 ∷ t) small
putter_no_head ByBridge t small some = refl
putter_no_head ByTimers t small some = refl
putter_no_head ByNobody t small some = absurd some

chosen : (b c d : Bool) (x y z w : Putter) → IsSmall x → IsSmall y → IsSmall z → IsSmall w → IsSmall (cond b x (cond c y (cond d z w)))
chosen true c d x y z w h k l m = h
chosen false true d x y z w h k l m = k
chosen false false true x y z w h k l m = l
chosen false false false x y z w h k l m = m

bridge_small : (shape : Shape) (port : ℕ) → port < 2 ^ 32 → IsSmall (bridge_putter shape port)
bridge_small shape port small =
    chosen (is_bridge_port_of_client shape port) (is_bridge_port_of_publisher shape port) (is_bridge_port_of_queue shape port) (ByClient port) (ByPublisher (port - clients_of shape)) (ByQueue (port - clients_of shape - publishers_of shape)) ByNobody
    (omega (arith, small)) (omega (arith, small)) (omega (arith, small)) tt

timers_small : (shape : Shape) (port : ℕ) → port < 2 ^ 32 → IsSmall (timers_putter shape port)
timers_small shape port small =
    chosen (is_timers_port_of_client shape port) (is_timers_port_of_queue shape port) (is_timers_port_of_bridge shape port) (ByClient port) (ByQueue (port - clients_of shape)) ByBridge ByNobody (omega (arith, small)) (omega (arith, small)) tt tt

queue_small : (port : ℕ) → IsSmall (queue_putter port)
queue_small port = chosen (port == queue_port_of_bridge) (port == queue_port_of_timers) false ByBridge ByTimers ByNobody ByNobody tt tt tt tt

bridge_some : (names : NamesData) (putter : Putter) (note : BridgeNote) → BridgeFrom names putter note → IsSomebody putter
bridge_some names (ByClient c) note h = tt
bridge_some names (ByPublisher n) note h = tt
bridge_some names (ByQueue n) note h = tt
bridge_some names ByBridge note h = tt
bridge_some names ByTimers note h = tt
bridge_some names ByNobody note h = h

timers_some : (names : NamesData) (putter : Putter) (note : TimersNote) → TimersFrom names putter note → IsSomebody putter
timers_some names (ByClient c) note h = tt
timers_some names (ByPublisher n) note h = tt
timers_some names (ByQueue n) note h = tt
timers_some names ByBridge note h = tt
timers_some names ByTimers note h = tt
timers_some names ByNobody note h = h

queue_some : (names : NamesData) (putter : Putter) (note : QueueNote) → QueueFrom names putter note → IsSomebody putter
queue_some names (ByClient c) note h = tt
queue_some names (ByPublisher n) note h = tt
queue_some names (ByQueue n) note h = tt
queue_some names ByBridge note h = tt
queue_some names ByTimers note h = tt
queue_some names ByNobody note h = h

pub bridge_no_head : (names : NamesData) (e : ℕ × BridgeNote) → MayEnterBridge names e → is_head (bridge_entry_text names.shape e) ≡ false
bridge_no_head names e h = putter_no_head (bridge_putter names.shape e.0) (bridge_note_text e.1) (bridge_small names.shape e.0 h.port) (bridge_some names (bridge_putter names.shape e.0) e.1 h.note)

pub timers_no_head : (names : NamesData) (e : ℕ × TimersNote) → MayEnterTimers names e → is_head (timers_entry_text names.shape e) ≡ false
timers_no_head names e h = putter_no_head (timers_putter names.shape e.0) (timers_note_text e.1) (timers_small names.shape e.0 h.port) (timers_some names (timers_putter names.shape e.0) e.1 h.note)

pub queue_no_head : (names : NamesData) (e : ℕ × QueueNote) → MayEnterQueue names e → is_head (queue_entry_text e) ≡ false
queue_no_head names e h = putter_no_head (queue_putter e.0) (queue_note_text e.1) (queue_small e.0) (queue_some names (queue_putter e.0) e.1 h)
