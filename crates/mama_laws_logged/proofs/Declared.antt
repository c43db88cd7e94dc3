-- What a script declares: its names list what its lines count, so an object that an order names has its terms.
use Rattle.std.specs.Prelude.{◌^◌, slice_get, is_some, option_map, option_and_then, Option, Some}
use Rattle.std.specs.List.{AllByRecursion}
use Rattle.std.proofs.Common.{◌≡◌, ℕ, zero, suc, ◌+◌, ◌<◌, ◌≤◌, true, List, [], ◌∷◌, ◌++◌, length, map, refl, sym, ◌∙◌, ap, subst, arith}
use Rattle.std.proofs.lemmas.Bool.{ltb-true}
use Rattle.std.proofs.lemmas.Option.{same_Some, none-some, slice_get-map, slice_get_within}
use Rattle.mama_event.specs.Ports.{queues_of}
use Rattle.mama_event.specs.declared.ids.SubId.{SubId}
use Rattle.mama_event.specs.declared.ids.TimerId.{TimerId}
use Rattle.mama_event.specs.declared.ids.InboxId.{InboxId}
use Rattle.mama_event.specs.declared.order.Order.{Order}
use Rattle.mama_event.specs.declared.order.Order.TheVariants as orders
use Rattle.mama_event.specs.declared.to_bridge.SubTerms.{SubTerms}
use Rattle.mama_event.specs.declared.to_bridge.InboxTerms.{InboxTerms}
use Rattle.mama_words.specs.Order.{word_of, IsOrder}
use Rattle.mama_script.specs.declared.client.ClientLine.{ClientLine}
use Rattle.mama_script.specs.declared.client.ClientLine.TheVariants as line
use Rattle.mama_script.specs.declared.names.Made.{Made}
use Rattle.mama_script.specs.Names.{nothing_made, makes, is_order_named}
use Rattle.mama_script.specs.Script.{ScriptData}
use Rattle.mama_script.specs.Tree.{IsScript}
use Rattle.mama_script.specs.Within.{IsWithin, IsClientWithin, IsOrderWithin, subs_of, objects_of, subs_in, objects_in, all_subs, made_with_step, made_with_steps, made_of}
use Rattle.mama_log_line.specs.declared.names.TimerTerms.{TimerTerms}
use Rattle.mama_log_line.specs.Names.{ClientData, NamesData, queue_at, turns_after, data_with, data_after, data_of, no_data, names_of, terms_of, timer_terms_of, inbox_terms_of, IsSub, IsTimer, IsInbox}
use Rattle.mama_log_line.specs.Entering.{MayOrder}

-- ---- places of a list

-- what holds of each holds of the one at a place
pub all_get : {X : Type 0} (P : X → Type 0) (xs : List X) (i : ℕ) (x : X) → AllByRecursion P xs → slice_get xs i ≡ Some x → P x
all_get P [] i x all at = absurd (none-some x at)
all_get P (y ∷ xs) zero x all at = subst P (same_Some y x at) all.0
all_get P (y ∷ xs) (suc i) x all at = all_get P xs i x all.1 at

place_kept : {X : Type 0} (xs ys : List X) (i : ℕ) (x : X) → slice_get xs i ≡ Some x → slice_get (xs ++ ys) i ≡ Some x
place_kept [] ys i x at = absurd (none-some x at)
place_kept (y ∷ xs) ys zero x at = at
place_kept (y ∷ xs) ys (suc i) x at = place_kept xs ys i x at

pub place_last : {X : Type 0} (xs : List X) (x : X) → slice_get (xs ++ x ∷ []) (length xs) ≡ Some x
place_last [] x = refl
place_last (y ∷ xs) x = place_last xs x

place_held : {X : Type 0} (xs : List X) (i : ℕ) → i < length xs → (x : X) × (slice_get xs i ≡ Some x)
place_held [] i below = absurd (omega arith)
place_held (x ∷ xs) zero below = (x, refl)
place_held (x ∷ xs) (suc i) below = place_held xs i (omega arith)

pub length_push : {X : Type 0} (xs : List X) (x : X) → length (xs ++ x ∷ []) ≡ suc (length xs)
length_push [] x = refl
length_push (y ∷ xs) x = ap suc (length_push xs x)

-- ---- what is declared stays declared

pub record Grows (d e : ClientData) : Type 0 where
  pub subs : (i : ℕ) (x : SubTerms) → slice_get d.subs i ≡ Some x → slice_get e.subs i ≡ Some x
  pub timers : (i : ℕ) (x : TimerTerms) → slice_get d.timers i ≡ Some x → slice_get e.timers i ≡ Some x
  pub inboxes : (i : ℕ) (x : InboxTerms) → slice_get d.inboxes i ≡ Some x → slice_get e.inboxes i ≡ Some x

pub grows_not : (d : ClientData) → Grows d d
grows_not d = record { subs = λ i x at. at; timers = λ i x at. at; inboxes = λ i x at. at }

pub grows_more : (d e f : ClientData) → Grows d e → Grows e f → Grows d f
grows_more d e f one two = record {
  subs = λ i x at. two.subs i x (one.subs i x at);
  timers = λ i x at. two.timers i x (one.timers i x at);
  inboxes = λ i x at. two.inboxes i x (one.inboxes i x at);
}

grown : (queues turns : ℕ) (d : ClientData) (l : ClientLine) → Grows d (data_with queues turns d l)
grown queues turns d (line.Sub topic kind queue cache recaps faults plan) =
    let terms : SubTerms = record { topic = topic; kind = kind; queue = queue_at queues turns queue; cache = cache; recaps = recaps; faults = faults } in
    record { subs = λ i x at. place_kept d.subs (terms ∷ []) i x at; timers = λ i x at. at; inboxes = λ i x at. at }
grown queues turns d (line.Timer queue interval plan) =
    let terms : TimerTerms = record { queue = queue_at queues turns queue; interval = interval } in
    record { subs = λ i x at. at; timers = λ i x at. place_kept d.timers (terms ∷ []) i x at; inboxes = λ i x at. at }
grown queues turns d (line.Inbox queue faults plan) =
    let terms : InboxTerms = record { queue = queue_at queues turns queue; faults = faults } in
    record { subs = λ i x at. at; timers = λ i x at. at; inboxes = λ i x at. place_kept d.inboxes (terms ∷ []) i x at }
grown queues turns d (line.Order o) = grows_not d
grown queues turns d (line.Now m) = grows_not d
grown queues turns d line.NowClock = grows_not d
grown queues turns d (line.Pause n) = grows_not d

pub all_grown : (queues turns : ℕ) (d : ClientData) (ls : List ClientLine) → Grows d (data_after queues turns d ls)
all_grown queues turns d [] = grows_not d
all_grown queues turns d (l ∷ ls) =
    grows_more d (data_with queues turns d l) (data_after queues (turns_after turns l) (data_with queues turns d l) ls)
    (grown queues turns d l) (all_grown queues (turns_after turns l) (data_with queues turns d l) ls)

-- ---- as many terms of each kind as objects are made

record IsCounted (made : Made) (d : ClientData) : Type 0 where
  pub subs : made.subs ≡ length d.subs
  pub timers : made.timers ≡ length d.timers
  pub inboxes : made.inboxes ≡ length d.inboxes

one_more : {X : Type 0} (n : ℕ) (xs : List X) (x : X) → n ≡ length xs → n + 1 ≡ length (xs ++ x ∷ [])
one_more n xs x is = omega (arith, length_push xs x)

counted_with : (queues turns : ℕ) (made : Made) (d : ClientData) (l : ClientLine) → IsCounted made d → IsCounted (made_with_step made l) (data_with queues turns d l)
counted_with queues turns made d (line.Sub topic kind queue cache recaps faults plan) is =
    let terms : SubTerms = record { topic = topic; kind = kind; queue = queue_at queues turns queue; cache = cache; recaps = recaps; faults = faults } in
    record { subs = one_more made.subs d.subs terms is.subs; timers = is.timers; inboxes = is.inboxes }
counted_with queues turns made d (line.Timer queue interval plan) is =
    let terms : TimerTerms = record { queue = queue_at queues turns queue; interval = interval } in
    record { subs = is.subs; timers = one_more made.timers d.timers terms is.timers; inboxes = is.inboxes }
counted_with queues turns made d (line.Inbox queue faults plan) is =
    let terms : InboxTerms = record { queue = queue_at queues turns queue; faults = faults } in
    record { subs = is.subs; timers = is.timers; inboxes = one_more made.inboxes d.inboxes terms is.inboxes }
counted_with queues turns made d (line.Order o) is = is
counted_with queues turns made d (line.Now m) is = is
counted_with queues turns made d line.NowClock is = is
counted_with queues turns made d (line.Pause n) is = is

counted_after : (queues turns : ℕ) (made : Made) (d : ClientData) (ls : List ClientLine) → IsCounted made d → IsCounted (made_with_steps made ls) (data_after queues turns d ls)
counted_after queues turns made d [] is = is
counted_after queues turns made d (l ∷ ls) is =
    counted_after queues (turns_after turns l) (made_with_step made l) (data_with queues turns d l) ls (counted_with queues turns made d l is)

counted : (queues : ℕ) (lines : List ClientLine) → IsCounted (made_of lines) (data_of queues lines)
counted queues lines = counted_after queues 0 nothing_made no_data lines (record { subs = refl; timers = refl; inboxes = refl })

-- ---- they are few

sub_made : (made : Made) (l : ClientLine) → (made_with_step made l).subs ≡ made.subs + subs_of l
sub_made made (line.Sub topic kind queue cache recaps faults plan) = refl
sub_made made (line.Timer queue interval plan) = omega arith
sub_made made (line.Inbox queue faults plan) = omega arith
sub_made made (line.Order o) = omega arith
sub_made made (line.Now m) = omega arith
sub_made made line.NowClock = omega arith
sub_made made (line.Pause n) = omega arith

subs_made : (made : Made) (ls : List ClientLine) → (made_with_steps made ls).subs ≡ made.subs + subs_in ls
subs_made made [] = omega arith
subs_made made (l ∷ ls) = omega (arith, sub_made made l, subs_made (made_with_step made l) ls)

object_made : (made : Made) (l : ClientLine) → (made_with_step made l).timers + (made_with_step made l).inboxes ≡ made.timers + made.inboxes + objects_of l
object_made made (line.Sub topic kind queue cache recaps faults plan) = omega arith
object_made made (line.Timer queue interval plan) = omega arith
object_made made (line.Inbox queue faults plan) = omega arith
object_made made (line.Order o) = omega arith
object_made made (line.Now m) = omega arith
object_made made line.NowClock = omega arith
object_made made (line.Pause n) = omega arith

objects_made : (made : Made) (ls : List ClientLine) → (made_with_steps made ls).timers + (made_with_steps made ls).inboxes ≡ made.timers + made.inboxes + objects_in ls
objects_made made [] = omega arith
objects_made made (l ∷ ls) = omega (arith, object_made made l, objects_made (made_with_step made l) ls)

subs_few : (clients : List (List ClientLine)) (c : ℕ) (lines : List ClientLine) → slice_get clients c ≡ Some lines → subs_in lines ≤ all_subs clients
subs_few [] c lines at = absurd (none-some lines at)
subs_few (client ∷ clients) zero lines at = subst (λ (ls : List ClientLine). subs_in ls ≤ all_subs (client ∷ clients)) (same_Some client lines at) (omega arith)
subs_few (client ∷ clients) (suc c) lines at = omega (arith, subs_few clients c lines at)

-- ---- what names know of a client

pub record IsKnown (names : NamesData) (c : ℕ) (d : ClientData) : Type 0 where
  pub client : c < 2 ^ 32
  pub terms : slice_get names.clients c ≡ Some d
  pub subs : length d.subs < 2 ^ 32
  pub timers : length d.timers < 2 ^ 32
  pub inboxes : length d.inboxes < 2 ^ 32

module _ (names : NamesData) (c : ℕ) (d : ClientData) (known : IsKnown names c d) (n : ℕ) where
  pub sub_terms : (terms : SubTerms) → slice_get d.subs n ≡ Some terms → terms_of names (record { client = c; number = n }) ≡ Some terms
  sub_terms terms at = ap (λ (o : Option ClientData). option_and_then (λ (e : ClientData). slice_get e.subs n) o) known.terms ∙ at

  pub timer_terms : (terms : TimerTerms) → slice_get d.timers n ≡ Some terms → timer_terms_of names (record { client = c; number = n }) ≡ Some terms
  timer_terms terms at = ap (λ (o : Option ClientData). option_and_then (λ (e : ClientData). slice_get e.timers n) o) known.terms ∙ at

  pub inbox_terms : (terms : InboxTerms) → slice_get d.inboxes n ≡ Some terms → inbox_terms_of names (record { client = c; number = n }) ≡ Some terms
  inbox_terms terms at = ap (λ (o : Option ClientData). option_and_then (λ (e : ClientData). slice_get e.inboxes n) o) known.terms ∙ at

  pub is_sub : (terms : SubTerms) → slice_get d.subs n ≡ Some terms → IsSub names (record { client = c; number = n })
  is_sub terms at = record {
    client = known.client;
    number = omega (arith, slice_get_within d.subs n terms at);
    declared = ap (λ (o : Option SubTerms). is_some o) (sub_terms terms at);
  }

  pub is_timer : (terms : TimerTerms) → slice_get d.timers n ≡ Some terms → IsTimer names (record { client = c; number = n })
  is_timer terms at = record {
    client = known.client;
    number = omega (arith, slice_get_within d.timers n terms at);
    declared = ap (λ (o : Option TimerTerms). is_some o) (timer_terms terms at);
  }

  pub is_inbox : (terms : InboxTerms) → slice_get d.inboxes n ≡ Some terms → IsInbox names (record { client = c; number = n })
  is_inbox terms at = record {
    client = known.client;
    number = omega (arith, slice_get_within d.inboxes n terms at);
    declared = ap (λ (o : Option InboxTerms). is_some o) (inbox_terms terms at);
  }

-- the client that makes an object of a kind, and its lines
record IsMaker (kind : Made → ℕ) (clients : List (List ClientLine)) (c n : ℕ) : Type 0 where
  pub lines : List ClientLine
  pub at : slice_get clients c ≡ Some lines
  pub made : n < kind (made_of lines)

maker : (kind : Made → ℕ) (clients : List (List ClientLine)) (c n : ℕ) → makes kind (slice_get (map made_of clients) c) n ≡ true → IsMaker kind clients c n
maker kind [] c n makes = absurd cc
maker kind (lines ∷ clients) zero n makes = record { lines = lines; at = refl; made = ltb-true n (kind (made_of lines)) makes }
maker kind (lines ∷ clients) (suc c) n makes =
    let one : IsMaker kind clients c n = maker kind clients c n makes in
    record { lines = one.lines; at = one.at; made = one.made }

module _ (script : ScriptData) (within : IsWithin script) where
  pub known : (c : ℕ) (lines : List ClientLine) → slice_get script.clients c ≡ Some lines
      → IsKnown (names_of script) c (data_of (queues_of script.shape) lines)
  known c lines at =
      let counts : IsCounted (made_of lines) (data_of (queues_of script.shape) lines) = counted (queues_of script.shape) lines in
      let subs : (made_of lines).subs ≤ 10000 = omega (arith, subs_made nothing_made lines, subs_few script.clients c lines at, within.subs_few) in
      let client : IsClientWithin (length script.topics) script.shape.bounds.queues lines =
      all_get (IsClientWithin (length script.topics) script.shape.bounds.queues) script.clients c lines within.clients at in
      let objects : (made_of lines).timers + (made_of lines).inboxes ≤ 1024 = omega (arith, objects_made nothing_made lines, client.objects) in
      record {
        client = omega (arith, slice_get_within script.clients c lines at, within.clients_few);
        terms = slice_get-map (data_of (queues_of script.shape)) script.clients c ∙ ap (λ (o : Option (List ClientLine)). option_map (data_of (queues_of script.shape)) o) at;
        subs = omega (arith, counts.subs, subs);
        timers = omega (arith, counts.timers, objects);
        inboxes = omega (arith, counts.inboxes, objects);
      }

  made_sub : (id : SubId) → makes (λ m. m.subs) (slice_get (map made_of script.clients) id.client) id.number ≡ true → IsSub (names_of script) id
  made_sub id makes =
      let m : IsMaker (λ m. m.subs) script.clients id.client id.number = maker (λ m. m.subs) script.clients id.client id.number makes in
      let d : ClientData = data_of (queues_of script.shape) m.lines in
      let held : (x : SubTerms) × (slice_get d.subs id.number ≡ Some x) =
      place_held d.subs id.number (omega (arith, m.made, (counted (queues_of script.shape) m.lines).subs)) in
      is_sub (names_of script) id.client d (known id.client m.lines m.at) id.number held.0 held.1

  made_timer : (id : TimerId) → makes (λ m. m.timers) (slice_get (map made_of script.clients) id.client) id.number ≡ true → IsTimer (names_of script) id
  made_timer id makes =
      let m : IsMaker (λ m. m.timers) script.clients id.client id.number = maker (λ m. m.timers) script.clients id.client id.number makes in
      let d : ClientData = data_of (queues_of script.shape) m.lines in
      let held : (x : TimerTerms) × (slice_get d.timers id.number ≡ Some x) =
      place_held d.timers id.number (omega (arith, m.made, (counted (queues_of script.shape) m.lines).timers)) in
      is_timer (names_of script) id.client d (known id.client m.lines m.at) id.number held.0 held.1

  made_inbox : (id : InboxId) → makes (λ m. m.inboxes) (slice_get (map made_of script.clients) id.client) id.number ≡ true → IsInbox (names_of script) id
  made_inbox id makes =
      let m : IsMaker (λ m. m.inboxes) script.clients id.client id.number = maker (λ m. m.inboxes) script.clients id.client id.number makes in
      let d : ClientData = data_of (queues_of script.shape) m.lines in
      let held : (x : InboxTerms) × (slice_get d.inboxes id.number ≡ Some x) =
      place_held d.inboxes id.number (omega (arith, m.made, (counted (queues_of script.shape) m.lines).inboxes)) in
      is_inbox (names_of script) id.client d (known id.client m.lines m.at) id.number held.0 held.1

  -- an order of a line or of a plan
  pub may_order : IsScript script → (o : Order) → IsOrder (word_of o) → IsOrderWithin (length script.topics) o → is_order_named (map made_of script.clients) (word_of o) ≡ true
      → MayOrder (names_of script) o
  may_order is (orders.Stop id) sound topic named = made_sub id named
  may_order is (orders.Disarm id) sound topic named = made_timer id named
  may_order is (orders.Close id) sound topic named = made_inbox id named
  may_order is (orders.Ask id topic fids) sound below named = (
    made_inbox id named,
    record { number = sound.1; declared = subst (λ (n : ℕ). topic < n) (sym is.shaped.topics) below },
    record { list = sound.2; small = sound.3 },
  )
