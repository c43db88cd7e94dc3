-- Accepted lines stand in a row: their numbers are within the limits, and the faults of an object have distinct indexes.
use Rattle.std.proofs.Common.{◌≡◌, ◌≢◌, ℕ, suc, ◌+◌, ◌<◌, ◌≤◌, ◌^◌, Bool, true, false, eqb, ltb, leb, List, [], ◌∷◌, ◌++◌, length, map, Option, Some, None, refl, sym, ap, subst, ◌∙◌, arith, length-append, append_assoc, append-nil}
use Rattle.std.specs.Prelude.{◌||◌, ◌==◌, slice_get}
use Rattle.std.specs.List.{flat_map, list_any, AllByRecursion}
use Rattle.std.specs.Option.{option_or}
use Rattle.std.specs.Ordering.{nat_cmp}
use Rattle.std.specs.BTreeMap.{is_at}
use Rattle.std.specs.BTreeSet.{insert_key}
use Rattle.std.proofs.lemmas.Bool.{ltb-true, ltb-false, leb-false, eqb-true, eqb-false, ne_eqb}
use Rattle.std.proofs.lemmas.Option.{slice_get_within}
use Rattle.mama_link.specs.declared.faults.Fault.{Fault}
use Rattle.mama_link.specs.declared.faults.Fault.TheVariants.{Lose, Dup, Hold, Cut}
use Rattle.mama_link.specs.declared.faults.FaultRow.{FaultRow}
use Rattle.mama_link.specs.Faults.{fault_at, is_zero_hold, fault_of_row, first_fault_after, first_fault}
use Rattle.mama_link.proofs.FaultLemmas.{is_at-nat_cmp, fault_at-append}
use Rattle.mama_words.specs.declared.id.IdWord.{IdWord}
use Rattle.mama_words.specs.declared.order.OrderWord.{OrderWord}
use Rattle.mama_words.specs.declared.order.OrderWord.TheVariants as orders
use Rattle.mama_script.specs.declared.fault.Flaw.TheVariants.{Fault as FaultFlaw, Limit}
use Rattle.mama_script.specs.declared.head.Place.{Place}
use Rattle.mama_script.specs.declared.head.Place.TheVariants as places
use Rattle.mama_script.specs.declared.line.QueueName.{QueueName}
use Rattle.mama_script.specs.declared.line.QueueName.TheVariants.{Number, Any}
use Rattle.mama_script.specs.declared.line.Line.{Line}
use Rattle.mama_script.specs.declared.line.Line.TheVariants as lines
use Rattle.mama_script.specs.declared.names.Made.{Made}
use Rattle.mama_script.specs.declared.publisher.PublisherPart.{PublisherPart}
use Rattle.mama_script.specs.declared.client.ClientLine.{ClientLine}
use Rattle.mama_script.specs.Head.{allows}
use Rattle.mama_script.specs.Line.{IsFault, head_of}
use Rattle.mama_script.specs.Before.{Before, opening, start, after, topic_flaw, queue_flaw, order_flaw, object_flaw}
use Rattle.mama_script.specs.Names.{nothing_made, with_sub, with_timer, with_inbox, at_last, made_with, made_after, made_by, makes, is_made, is_order_named, is_named}
use Rattle.mama_script.specs.Reading.{version_of, Fits, FitFrom, AreAccepted}
use Rattle.mama_script.specs.Tree.{fault_line, topic_line, publisher_lines, client_lines, strategy_lines}
use Rattle.mama_words.specs.declared.version.Version.{Version}
use Rattle.mama_event.specs.declared.shape.Strategy.{Strategy}
use Rattle.mama_script.specs.Counted.{IsCounted, AreCounted}
use Rattle.mama_script.specs.Standing.{IsSmallId, IsSmallOrder, IsSmallQueue, IsSmall, place_behind, faults_behind, bad_fault, Stand}
use Rattle.mama_script.proofs.Counted.{counted_more, counted_client, counted_sub, counted_timer, counted_inbox, counted_get}
use Rattle.mama_script.specs.Within.{IsPublisherWithin}
use Rattle.mama_script.proofs.Keeping.{flaw_none, first_none, topic_declared, object_below, sections_of, sections_on}
use Rattle.mama_script.proofs.Casting.{IsSub, IsPlacedLine, all_placed}
use Rattle.mama_script.proofs.Naming.{AllNamed, all_named}

-- ---- how much was declared and made so far

record Tallied (topics queues clients subs objects : ℕ) (made : List Made) : Type 0 where
  topics_few : topics ≤ 1024
  queues_few : queues ≤ 64
  clients_few : clients ≤ 64
  subs_few : subs ≤ 10000
  objects_few : objects ≤ 1024
  clients_are : length made ≡ clients
  counted : AreCounted 1024 subs objects made

abbrev Tally : Before → List Made → Type 0
Tally b made = Tallied b.topics b.queues b.clients b.subs b.objects made

length-at_last : (f : Made → Made) (ms : List Made) → length (at_last f ms) ≡ length ms
length-at_last f [] = refl
length-at_last f (m ∷ []) = refl
length-at_last f (m ∷ n ∷ ms) = ap suc (length-at_last f (n ∷ ms))

tally_line : (b : Before) (made : List Made) (l : Line) → Tally b made → Fits b l → Tally (after b l) (made_with made l)
tally_line b made (lines.Strategy strategy) t fits = t
tally_line b made (lines.Queues n) t fits = record {
  topics_few = t.topics_few;
  queues_few = ltb-false 64 n (flaw_none (ltb 64 n) (Limit 2) None fits.sound).0;
  clients_few = t.clients_few;
  subs_few = t.subs_few;
  objects_few = t.objects_few;
  clients_are = t.clients_are;
  counted = t.counted;
}
tally_line b made (lines.Topic name) t fits = record {
  topics_few = let lt = leb-false 1024 b.topics (flaw_none (leb 1024 b.topics) (Limit 3) None fits.sound).0 in omega (arith, lt);
  queues_few = t.queues_few;
  clients_few = t.clients_few;
  subs_few = t.subs_few;
  objects_few = t.objects_few;
  clients_are = t.clients_are;
  counted = t.counted;
}
tally_line b made lines.Client t fits = record {
  topics_few = t.topics_few;
  queues_few = t.queues_few;
  clients_few = let lt = leb-false 64 b.clients (flaw_none (leb 64 b.clients) (Limit 5) None fits.sound).0 in omega (arith, lt);
  subs_few = t.subs_few;
  objects_few = omega arith;
  clients_are = length-append made (nothing_made ∷ []) ∙ ap (λ (n : ℕ). n + 1) t.clients_are;
  counted = counted_client 1024 b.subs b.objects made t.objects_few t.counted;
}
tally_line b made (lines.Sub topic kind queue cache recaps) t fits = record {
  topics_few = t.topics_few;
  queues_few = t.queues_few;
  clients_few = t.clients_few;
  subs_few =
      let p = first_none (topic_flaw topic b) _ fits.sound in
      let q = first_none (queue_flaw queue b) _ p.1 in
      let lt = leb-false 10000 b.subs (flaw_none (leb 10000 b.subs) (Limit 6) _ q.1).0 in
      omega (arith, lt);
  objects_few = t.objects_few;
  clients_are = length-at_last with_sub made ∙ t.clients_are;
  counted = counted_sub 1024 b.subs b.objects made t.counted;
}
tally_line b made (lines.Timer queue interval) t fits = record {
  topics_few = t.topics_few;
  queues_few = t.queues_few;
  clients_few = t.clients_few;
  subs_few = t.subs_few;
  objects_few =
      let p = first_none (queue_flaw queue b) _ fits.sound in
      let lt = object_below b (flaw_none (interval == 0) (FaultFlaw 12) (object_flaw b) p.1).1 in
      omega (arith, lt);
  clients_are = length-at_last with_timer made ∙ t.clients_are;
  counted = counted_timer 1024 b.subs b.objects made t.counted;
}
tally_line b made (lines.Inbox queue) t fits = record {
  topics_few = t.topics_few;
  queues_few = t.queues_few;
  clients_few = t.clients_few;
  subs_few = t.subs_few;
  objects_few = let lt = object_below b (first_none (queue_flaw queue b) (object_flaw b) fits.sound).1 in omega (arith, lt);
  clients_are = length-at_last with_inbox made ∙ t.clients_are;
  counted = counted_inbox 1024 b.subs b.objects made t.counted;
}
tally_line b made _ t fits = t

-- what all lines make
record AreFew (made : List Made) : Type 0 where
  clients : length made ≤ 64
  counted : AreCounted 1024 10000 1024 made

few_made : (b : Before) (made : List Made) (ls : List Line) → Tally b made → FitFrom b ls → AreFew (made_after made ls)
few_made b made [] t h = record { clients = omega (arith, t.clients_few, t.clients_are); counted = counted_more 1024 b.subs b.objects 10000 1024 made t.subs_few t.objects_few t.counted }
few_made b made (l ∷ ls) t h = few_made (after b l) (made_with made l) ls (tally_line b made l t h.0) h.1

-- ---- numbers of 32 bits

made_get : (kind : Made → ℕ) (o : Option Made) (number : ℕ) → makes kind o number ≡ true → (m : Made) × (o ≡ Some m) × (number < kind m)
made_get kind None number e = absurd cc
made_get kind (Some m) number e = (m, refl, ltb-true number (kind m) e)

small_id : (kind : Made → ℕ) (made : List Made) (id : IdWord) → AreFew made → ((m : Made) → IsCounted 10000 1024 m → kind m ≤ 10000) → is_made kind made id ≡ true → IsSmallId id
small_id kind made id few bound e =
    let g = made_get kind (slice_get made id.client) id.number e in
    let client = slice_get_within made id.client g.0 g.1 in
    let most = bound g.0 (counted_get 1024 10000 1024 made id.client g.0 (omega arith) few.counted g.1) in
    (omega (arith, client, few.clients), omega (arith, g.2, most))

small_sub : (made : List Made) (id : IdWord) → AreFew made → is_made (λ m. m.subs) made id ≡ true → IsSmallId id
small_sub made id few = small_id (λ m. m.subs) made id few (λ m h. h.0)

small_timer : (made : List Made) (id : IdWord) → AreFew made → is_made (λ m. m.timers) made id ≡ true → IsSmallId id
small_timer made id few = small_id (λ m. m.timers) made id few (λ m h. omega (arith, h.1))

small_inbox : (made : List Made) (id : IdWord) → AreFew made → is_made (λ m. m.inboxes) made id ≡ true → IsSmallId id
small_inbox made id few = small_id (λ m. m.inboxes) made id few (λ m h. omega (arith, h.2))

small_topic : (topic : ℕ) (b : Before) → b.topics ≤ 1024 → topic_flaw topic b ≡ None → topic < 2 ^ 32
small_topic topic b few e = let lt = topic_declared topic b e in omega (arith, lt, few)

small_order : (b : Before) (made : List Made) (o : OrderWord) → b.topics ≤ 1024 → AreFew made → order_flaw o b ≡ None → is_order_named made o ≡ true → IsSmallOrder o
small_order b made (orders.Stop id) topics few e named = small_sub made id few named
small_order b made (orders.Disarm id) topics few e named = small_timer made id few named
small_order b made (orders.Close id) topics few e named = small_inbox made id few named
small_order b made (orders.Ask inbox topic fids) topics few e named = (small_inbox made inbox few named, small_topic topic b topics e)

small_queue : (b : Before) (queue : QueueName) → b.queues ≤ 64 → queue_flaw queue b ≡ None → IsSmallQueue queue
small_queue b (Number n) few e = let lt = leb-false b.queues n (flaw_none (leb b.queues n) (FaultFlaw 9) None e).0 in omega (arith, lt, few)
small_queue b Any few e = tt

small_subs : (made : List Made) (ids : List IdWord) → AreFew made → AllByRecursion (IsSub made) ids → AllByRecursion IsSmallId ids
small_subs made [] few h = tt
small_subs made (id ∷ ids) few h = (small_sub made id few h.0, small_subs made ids few h.1)

small_line : (b : Before) (here made : List Made) (l : Line) → Tally b here → AreFew made → is_named made l ≡ true → IsPlacedLine made l → Fits b l → IsSmall l
small_line b here made (lines.Queues n) t few named placed fits = let le = ltb-false 64 n (flaw_none (ltb 64 n) (Limit 2) None fits.sound).0 in omega (arith, le)
small_line b here made (lines.Publisher topic base) t few named placed fits = small_topic topic b t.topics_few (first_none (topic_flaw topic b) _ fits.sound).0
small_line b here made (lines.Sub topic kind queue cache recaps) t few named placed fits =
    let p = first_none (topic_flaw topic b) _ fits.sound in (small_topic topic b t.topics_few p.0, small_queue b queue t.queues_few (first_none (queue_flaw queue b) _ p.1).0)
small_line b here made (lines.Timer queue interval) t few named placed fits = small_queue b queue t.queues_few (first_none (queue_flaw queue b) _ fits.sound).0
small_line b here made (lines.Inbox queue) t few named placed fits = small_queue b queue t.queues_few (first_none (queue_flaw queue b) (object_flaw b) fits.sound).0
small_line b here made (lines.At call order) t few named placed fits = small_order b made order t.topics_few few (first_none (order_flaw order b) _ fits.sound).0 named
small_line b here made (lines.Order order) t few named placed fits = small_order b made order t.topics_few few fits.sound named
small_line b here made (lines.Group ids) t few named placed fits = small_subs made ids few placed
small_line b here made (lines.Watch sub timer retries) t few named placed fits = (small_sub made sub few placed.0, small_timer made timer few placed.1)
small_line b here made _ t few named placed fits = tt

-- ---- the faults of the object at hand

-- behind a link each row's index is one of those that were told
abbrev AreTold : Before → List FaultRow → Type 0
AreTold b rows = b.place ≡ places.Linked → (i : ℕ) → list_any (is_at (nat_cmp i)) b.indexes ≡ false → fault_at rows i ≡ None

neither : (a b : Bool) → (a || b) ≡ false → (a ≡ false) × (b ≡ false)
neither true b e = absurd cc
neither false b e = (refl, e)

other_index : (i k : ℕ) → is_at (nat_cmp i) k ≡ false → eqb k i ≡ false
other_index i k e = ne_eqb k i (λ same. eqb-false i k (sym (is_at-nat_cmp i k) ∙ e) (sym same))

free_step : (i k x : ℕ) (xs : List ℕ) (less same : Bool) → ltb k x ≡ less → eqb k x ≡ same
    → (list_any (is_at (nat_cmp i)) (insert_key nat_cmp xs k) ≡ false → (list_any (is_at (nat_cmp i)) xs ≡ false) × (eqb k i ≡ false))
    → list_any (is_at (nat_cmp i)) (insert_key nat_cmp (x ∷ xs) k) ≡ false → (list_any (is_at (nat_cmp i)) (x ∷ xs) ≡ false) × (eqb k i ≡ false)
free_step i k x xs true same p q more e =
    let n = neither (is_at (nat_cmp i) k) (list_any (is_at (nat_cmp i)) (x ∷ xs)) (rw p at e) in (n.1, other_index i k n.0)
free_step i k x xs false true p q more e =
    let all = rw (p, q) at e in
    let n = neither (is_at (nat_cmp i) x) (list_any (is_at (nat_cmp i)) xs) all in (all, other_index i k (ap (is_at (nat_cmp i)) (eqb-true k x q) ∙ n.0))
free_step i k x xs false false p q more e =
    let n = neither (is_at (nat_cmp i) x) (list_any (is_at (nat_cmp i)) (insert_key nat_cmp xs k)) (rw (p, q) at e) in
    let r = more n.1 in (rw n.0 r.0, r.1)

index_free : (i k : ℕ) (ks : List ℕ) → list_any (is_at (nat_cmp i)) (insert_key nat_cmp ks k) ≡ false → (list_any (is_at (nat_cmp i)) ks ≡ false) × (eqb k i ≡ false)
index_free i k [] e = (refl, other_index i k (neither (is_at (nat_cmp i) k) false e).0)
index_free i k (x ∷ xs) e = free_step i k x xs (ltb k x) (eqb k x) refl refl (index_free i k xs) e

told_more : (rows : List FaultRow) (row : FaultRow) (i : ℕ) → fault_at rows i ≡ None → eqb row.index i ≡ false → fault_at (rows ++ row ∷ []) i ≡ None
told_more rows row i none other = fault_at-append rows row i ∙ rw (none, other) refl

at_link : (place : Place) → allows place (head_of (lines.Fault (record { index = 0; fault = Lose }))) ≡ true → place ≡ places.Linked
at_link places.Linked e = refl
at_link places.Strategy e = absurd cc
at_link places.Start e = absurd cc
at_link places.Topics e = absurd cc
at_link places.Publisher e = absurd cc
at_link places.Client e = absurd cc
at_link places.Planned e = absurd cc
at_link places.Groups e = absurd cc
at_link places.Watches e = absurd cc

sound_fault : (fault : Fault) → IsFault fault → is_zero_hold fault ≡ false
sound_fault Lose h = refl
sound_fault Dup h = refl
sound_fault (Hold by) h = ne_eqb by 0 (λ e. omega (arith, e, h.0))
sound_fault (Cut keep) h = refl

sound_line : (b : Before) (rows : List FaultRow) (l : Line) → AreTold b rows → Fits b l → bad_fault rows l ≡ None
sound_line b rows (lines.Fault row) told fits =
    let index : eqb row.index 0 ≡ false = ne_eqb row.index 0 (λ e. omega (arith, e, fits.form.0)) in
    let none = told (at_link b.place fits.place) row.index (flaw_none (list_any (is_at (nat_cmp row.index)) b.indexes) (FaultFlaw 11) None fits.sound).0 in
    rw (index, sound_fault row.fault fits.form.2, none) refl
sound_line b rows _ told fits = refl

told_line : (b : Before) (rows : List FaultRow) (l : Line) → AreTold b rows → Fits b l → AreTold (after b l) (faults_behind rows l)
told_line b rows (lines.Fault row) told fits = λ at i free. let f = index_free i row.index b.indexes free in told_more rows row i (told at i f.0) f.1
told_line b rows _ told fits = λ at i free. refl

-- ---- lines in a row

stand_line : (b : Before) (l : Line) (rows : List FaultRow) (ls : List Line) → Stand (after b l).place rows ls → Stand (place_behind b.place l) rows ls
stand_line b lines.Client rows ls h = h
stand_line b _ rows ls h = h

stand : (b : Before) (here made : List Made) (rows : List FaultRow) (ls : List Line) → Tally b here → AreFew made → AreTold b rows → AllNamed made ls → AllByRecursion (IsPlacedLine made) ls → FitFrom b ls → Stand b.place rows ls
stand b here made rows [] t few told named placed h = h
stand b here made rows (l ∷ ls) t few told named placed h = (
  h.0.place,
  small_line b here made l t few named.0 placed.0 h.0,
  sound_line b rows l told h.0,
  stand_line b l (faults_behind rows l) ls (stand (after b l) (made_with here l) made (faults_behind rows l) ls (tally_line b here l t h.0) few (told_line b rows l told h.0) named.1 placed.1 h.1),
)

nothing : (v : Version) → Tally (start v) []
nothing v = record { topics_few = omega arith; queues_few = omega arith; clients_few = omega arith; subs_few = omega arith; objects_few = omega arith; clients_are = refl; counted = tt }

pub accepted_stand : (ls : List Line) → AreAccepted ls → Stand (opening (version_of ls)) [] ls
accepted_stand ls is =
    let b = start (version_of ls) in
    stand b [] (made_by ls) [] ls (nothing (version_of ls)) (few_made b [] ls (nothing (version_of ls)) is.fit) (λ at i free. refl) (all_named (made_by ls) 2 ls is.named) (all_placed ls is.placed) is.fit

-- ---- the line that tells the strategy

-- version 1 has none, and begins with the queues
pub unopened : (ls : List Line) (o : Option Line) → o ≡ slice_get ls 0 → ((s : Strategy) → o ≢ Some (lines.Strategy s)) → Stand (opening (version_of ls)) [] ls → Stand places.Start [] ls
unopened [] o is none h = absurd cc
unopened (lines.Strategy s ∷ ls) o is none h = absurd (none s is)
unopened (l ∷ ls) o is none h = h

-- ---- one fault more

row_between : (rows : List FaultRow) (row : FaultRow) (rest : List Line) → map fault_line rows ++ fault_line row ∷ rest ≡ map fault_line (rows ++ row ∷ []) ++ rest
row_between [] row rest = refl
row_between (r ∷ rows) row rest = ap (λ (x : List Line). fault_line r ∷ x) (row_between rows row rest)

or_none : {A : Type 0} (a b : Option A) → option_or a b ≡ None → (a ≡ None) × (b ≡ None)
or_none None b e = (refl, e)
or_none (Some x) b e = absurd cc

first_more : (before rows : List FaultRow) (row : FaultRow) → first_fault_after before rows ≡ None → fault_of_row (before ++ rows) row ≡ None → first_fault_after before (rows ++ row ∷ []) ≡ None
first_more before [] row none sound = let here : fault_of_row before row ≡ None = subst (λ (x : List FaultRow). fault_of_row x row ≡ None) (append-nil before) sound in rw here refl
first_more before (r ∷ rows) row none sound =
    let p = or_none (fault_of_row before r) (first_fault_after (before ++ r ∷ []) rows) none in
    let more = first_more (before ++ r ∷ []) rows row p.1 (subst (λ (x : List FaultRow). fault_of_row x row ≡ None) (sym (append_assoc before (r ∷ []) rows)) sound) in
    rw (p.0, more) refl

pub lines_more : (all ls rest : List Line) (rows next : List FaultRow) (row : FaultRow) → all ≡ map fault_line rows ++ ls → ls ≡ lines.Fault row ∷ rest → next ≡ rows ++ row ∷ [] → all ≡ map fault_line next ++ rest
lines_more all ls rest rows next row e is are =
    e ∙ ap (λ (x : List Line). map fault_line rows ++ x) is ∙ row_between rows row rest ∙ sym (ap (λ (x : List FaultRow). map fault_line x ++ rest) are)

pub sound_more : (rows next : List FaultRow) (row : FaultRow) (ls rest : List Line) → first_fault rows ≡ None → Stand places.Linked rows ls → ls ≡ lines.Fault row ∷ rest → next ≡ rows ++ row ∷ [] → first_fault next ≡ None
sound_more rows next row ls rest sound stands is are =
    let here = subst (λ (x : List Line). Stand places.Linked rows x) is stands in
    subst (λ (x : List FaultRow). first_fault x ≡ None) (sym are) (first_more [] rows row sound here.2)

pub stand_more : (rows next : List FaultRow) (row : FaultRow) (ls rest : List Line) → Stand places.Linked rows ls → ls ≡ lines.Fault row ∷ rest → next ≡ rows ++ row ∷ [] → Stand places.Linked next rest
stand_more rows next row ls rest stands is are =
    let here = subst (λ (x : List Line). Stand places.Linked rows x) is stands in
    subst (λ (x : List FaultRow). Stand places.Linked x rest) (sym are) here.3

-- ---- the sections of accepted lines are few

pub record FewSections (topics : List (List ℕ)) (publishers : List PublisherPart) (clients : List (List ClientLine)) : Type 0 where
  pub topics_few : length topics ≤ 1024
  pub publishers_few : length publishers ≤ 1024
  pub clients_few : length clients ≤ 64
  pub topics_are : AllByRecursion (λ (part : PublisherPart). part.topic < length topics) publishers

topics_within : (ps : List PublisherPart) (n : ℕ) → AllByRecursion (IsPublisherWithin n) ps → AllByRecursion (λ (part : PublisherPart). part.topic < n) ps
topics_within [] n h = tt
topics_within (p ∷ ps) n h = (h.0.topic, topics_within ps n h.1)

pub few_sections : (v : Version) (told : Strategy) (queues : ℕ) (topics : List (List ℕ)) (publishers : List PublisherPart) (clients : List (List ClientLine)) (rest : List Line)
    → AreAccepted (sections_of v told queues topics publishers clients rest) → FewSections topics publishers clients
few_sections v told queues topics publishers clients rest accepted =
    let on = sections_on v told queues topics publishers clients rest accepted in
    record { topics_few = on.topics_few; publishers_few = on.publishers_few; clients_few = on.clients_few; topics_are = topics_within publishers (length topics) on.publishers_are }

pub taken_few : (v : Version) (told : Strategy) (all a b c d rest : List Line) (queues : ℕ) (topics : List (List ℕ)) (publishers : List PublisherPart) (clients : List (List ClientLine)) → AreAccepted all → all ≡ strategy_lines v told ++ a
    → a ≡ lines.Queues queues ∷ b → b ≡ map topic_line topics ++ c → c ≡ flat_map publisher_lines publishers ++ d → d ≡ flat_map client_lines clients ++ rest → FewSections topics publishers clients
taken_few v told all a b c d rest queues topics publishers clients is za ab bc cd de =
    few_sections v told queues topics publishers clients rest
    (subst (λ (x : List Line). AreAccepted x)
    (za ∙ ap (λ (x : List Line). strategy_lines v told ++ x) (ab ∙ ap (λ (x : List Line). lines.Queues queues ∷ x) (bc ∙ ap (λ (x : List Line). map topic_line topics ++ x) (cd ∙ ap (λ (x : List Line). flat_map publisher_lines publishers ++ x) de)))) is)
