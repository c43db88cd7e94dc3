-- What lines make is counted as they make it: each object that a group or a watch may name is there.
use Rattle.std.proofs.Common.{◌≡◌, ℕ, zero, suc, ◌+◌, Bool, true, false, ltb, List, [], ◌∷◌, ◌++◌, length, Option, Some, None, refl, sym, ap, ◌∙◌, length-append, arith}
use Rattle.std.specs.Prelude.{◌&&◌, not, slice_get, option_and_then}
use Rattle.std.specs.List.{AllByRecursion}
use Rattle.std.proofs.lemmas.Bool.{and_parts, lt-ltb}
use Rattle.std.proofs.lemmas.Option.{slice_get_within}
use Rattle.mama_event.specs.declared.market.SubKind.{SubKind}
use Rattle.mama_words.specs.declared.id.IdWord.{IdWord}
use Rattle.mama_words.specs.declared.order.OrderWord.TheVariants as orders
use Rattle.mama_script.specs.declared.line.QueueName.{QueueName}
use Rattle.mama_script.specs.declared.line.Line.{Line}
use Rattle.mama_script.specs.declared.line.Line.TheVariants as lines
use Rattle.mama_script.specs.declared.names.Made.{Made}
use Rattle.mama_script.specs.Names as names
use Rattle.mama_script.specs.Placing.{Roster, Cast, no_roster, no_cast, with_sub, with_timer, with_inbox, at_last, cast_with, cast_after, cast_of, sub_in, timer_in, is_market_on, are_beside, may_join, may_group, may_watch, group_queue, Placed, none_placed, fault_unless, misplaced, placed_with, fault_at, misplaced_from, has_id}

abbrev pub IsAlike : Made → Roster → Type 0
IsAlike m r = (m.subs ≡ length r.subs) × (m.timers ≡ length r.timers)

-- one by one
abbrev pub AreAlike : List Made → List Roster → Type 0
AreAlike [] [] = Unit {0}
AreAlike (m ∷ ms) (r ∷ rs) = IsAlike m r × AreAlike ms rs
AreAlike _ _ = ⊥

alike_push : (ms : List Made) (rs : List Roster) → AreAlike ms rs → AreAlike (ms ++ names.nothing_made ∷ []) (rs ++ no_roster ∷ [])
alike_push [] [] h = ((refl, refl), tt)
alike_push [] (r ∷ rs) h = absurd h
alike_push (m ∷ ms) [] h = absurd h
alike_push (m ∷ ms) (r ∷ rs) h = (h.0, alike_push ms rs h.1)

alike_at_last : (f : Made → Made) (g : Roster → Roster) (ms : List Made) (rs : List Roster) → ((m : Made) (r : Roster) → IsAlike m r → IsAlike (f m) (g r)) → AreAlike ms rs → AreAlike (names.at_last f ms) (at_last g rs)
alike_at_last f g [] [] more h = tt
alike_at_last f g [] (r ∷ rs) more h = absurd h
alike_at_last f g (m ∷ ms) [] more h = absurd h
alike_at_last f g (m ∷ []) (r ∷ []) more h = (more m r h.0, tt)
alike_at_last f g (m ∷ []) (r ∷ s ∷ rs) more h = absurd h.1
alike_at_last f g (m ∷ n ∷ ms) (r ∷ []) more h = absurd h.1
alike_at_last f g (m ∷ n ∷ ms) (r ∷ s ∷ rs) more h = (h.0, alike_at_last f g (n ∷ ms) (s ∷ rs) more h.1)

one_more : {A : Type 0} (n : ℕ) (xs : List A) (x : A) → n ≡ length xs → n + 1 ≡ length (xs ++ x ∷ [])
one_more n xs x e = ap (λ (k : ℕ). k + 1) e ∙ sym (length-append xs (x ∷ []))

alike_sub : (queues : ℕ) (kind : SubKind) (queue : QueueName) (m : Made) (r : Roster) → IsAlike m r → IsAlike (names.with_sub m) (with_sub queues kind queue r)
alike_sub queues kind queue m r h = (one_more m.subs r.subs _ h.0, h.1)

alike_timer : (queues : ℕ) (queue : QueueName) (m : Made) (r : Roster) → IsAlike m r → IsAlike (names.with_timer m) (with_timer queues queue r)
alike_timer queues queue m r h = (h.0, one_more m.timers r.timers _ h.1)

alike_line : (ms : List Made) (c : Cast) (l : Line) → AreAlike ms c.clients → AreAlike (names.made_with ms l) (cast_with c l).clients
alike_line ms c lines.Client h = alike_push ms c.clients h
alike_line ms c (lines.Sub topic kind queue cache recaps) h = alike_at_last names.with_sub (with_sub c.queues kind queue) ms c.clients (alike_sub c.queues kind queue) h
alike_line ms c (lines.Timer queue interval) h = alike_at_last names.with_timer (with_timer c.queues queue) ms c.clients (alike_timer c.queues queue) h
alike_line ms c (lines.Inbox queue) h = alike_at_last names.with_inbox (with_inbox queue) ms c.clients (λ m r same. same) h
alike_line ms c (lines.At call (orders.Stop id)) h = h
alike_line ms c (lines.At call (orders.Disarm id)) h = h
alike_line ms c (lines.At call (orders.Close id)) h = h
alike_line ms c (lines.At call (orders.Ask id topic fids)) h = h
alike_line ms c (lines.Queues n) h = h
alike_line ms c _ h = h

alike_after : (ms : List Made) (c : Cast) (ls : List Line) → AreAlike ms c.clients → AreAlike (names.made_after ms ls) (cast_after c ls).clients
alike_after ms c [] h = h
alike_after ms c (l ∷ ls) h = alike_after (names.made_with ms l) (cast_with c l) ls (alike_line ms c l h)

pub alike : (ls : List Line) → AreAlike (names.made_by ls) (cast_of ls).clients
alike ls = alike_after [] no_cast ls tt

-- ---- what is found was made

found_below : {A : Type 0} (xs : List A) (n k : ℕ) (x : A) → k ≡ length xs → slice_get xs n ≡ Some x → ltb n k ≡ true
found_below xs n k x e found = let lt = slice_get_within xs n x found in lt-ltb n k (omega (arith, lt, e))

sub_made : (ms : List Made) (rs : List Roster) (client number : ℕ) (x : SubKind × ℕ) → AreAlike ms rs → option_and_then (λ (r : Roster). slice_get r.subs number) (slice_get rs client) ≡ Some x
    → names.makes (λ m. m.subs) (slice_get ms client) number ≡ true
sub_made [] [] client number x h e = absurd cc
sub_made [] (r ∷ rs) client number x h e = absurd h
sub_made (m ∷ ms) [] client number x h e = absurd h
sub_made (m ∷ ms) (r ∷ rs) zero number x h e = found_below r.subs number m.subs x h.0.0 e
sub_made (m ∷ ms) (r ∷ rs) (suc client) number x h e = sub_made ms rs client number x h.1 e

timer_made : (ms : List Made) (rs : List Roster) (client number : ℕ) (x : ℕ) → AreAlike ms rs → option_and_then (λ (r : Roster). slice_get r.timers number) (slice_get rs client) ≡ Some x
    → names.makes (λ m. m.timers) (slice_get ms client) number ≡ true
timer_made [] [] client number x h e = absurd cc
timer_made [] (r ∷ rs) client number x h e = absurd h
timer_made (m ∷ ms) [] client number x h e = absurd h
timer_made (m ∷ ms) (r ∷ rs) zero number x h e = found_below r.timers number m.timers x h.0.1 e
timer_made (m ∷ ms) (r ∷ rs) (suc client) number x h e = timer_made ms rs client number x h.1 e

abbrev pub IsSub : List Made → IdWord → Type 0
IsSub made id = names.is_made (λ m. m.subs) made id ≡ true

abbrev pub IsTimer : List Made → IdWord → Type 0
IsTimer made id = names.is_made (λ m. m.timers) made id ≡ true

market_there : (ms : List Made) (c : Cast) (queue : ℕ) (id : IdWord) (o : Option (SubKind × ℕ)) → AreAlike ms c.clients → sub_in c id ≡ o → is_market_on queue o ≡ true → IsSub ms id
market_there ms c queue id None h e on = absurd cc
market_there ms c queue id (Some x) h e on = sub_made ms c.clients id.client id.number x h e

members_there : (ms : List Made) (c : Cast) (queue : ℕ) (grouped ids : List IdWord) → AreAlike ms c.clients → may_group c queue grouped ids ≡ true → AllByRecursion (IsSub ms) ids
members_there ms c queue grouped [] h may = tt
members_there ms c queue grouped (id ∷ ids) h may =
    let p = and_parts (may_join c queue grouped id) (may_group c queue (grouped ++ id ∷ []) ids) may in
    let j = and_parts (is_market_on queue (sub_in c id) && not (has_id id grouped)) (not (has_id id c.stops)) p.0 in
    let m = and_parts (is_market_on queue (sub_in c id)) (not (has_id id grouped)) j.0 in
    (market_there ms c queue id (sub_in c id) h refl m.0, members_there ms c queue (grouped ++ id ∷ []) ids h p.1)

beside_there : (ms : List Made) (c : Cast) (sub timer : IdWord) (s : Option (SubKind × ℕ)) (t : Option ℕ) → AreAlike ms c.clients → sub_in c sub ≡ s → timer_in c timer ≡ t → are_beside s t ≡ true → IsSub ms sub × IsTimer ms timer
beside_there ms c sub timer None t h e f on = absurd cc
beside_there ms c sub timer (Some x) None h e f on = absurd cc
beside_there ms c sub timer (Some x) (Some q) h e f on = (sub_made ms c.clients sub.client sub.number x h e, timer_made ms c.clients timer.client timer.number q h f)

pub unless_none : (test : Bool) (fault : ℕ) → fault_unless test fault ≡ None → test ≡ true
unless_none true fault e = refl
unless_none false fault e = absurd cc

-- the objects of a group and of a watch are there
abbrev pub IsPlacedLine : List Made → Line → Type 0
IsPlacedLine made (lines.Group ids) = AllByRecursion (IsSub made) ids
IsPlacedLine made (lines.Watch sub timer retries) = IsSub made sub × IsTimer made timer
IsPlacedLine made _ = Unit {0}

placed_line : (ms : List Made) (c : Cast) (p : Placed) (l : Line) → AreAlike ms c.clients → misplaced c p l ≡ None → IsPlacedLine ms l
placed_line ms c p (lines.Group ids) h e = members_there ms c (group_queue c ids) p.grouped ids h (unless_none (may_group c (group_queue c ids) p.grouped ids) 13 e)
placed_line ms c p (lines.Watch sub timer retries) h e =
    let w = and_parts (are_beside (sub_in c sub) (timer_in c timer) && not (has_id sub p.subs)) (not (has_id timer p.timers)) (unless_none (may_watch c p sub timer) 14 e) in
    let b = and_parts (are_beside (sub_in c sub) (timer_in c timer)) (not (has_id sub p.subs)) w.0 in
    beside_there ms c sub timer (sub_in c sub) (timer_in c timer) h refl refl b.0
placed_line ms c p _ h e = tt

pub fault_at_none : (k : ℕ) (o : Option ℕ) (rest : Option (ℕ × ℕ)) → fault_at k o rest ≡ None → (o ≡ None) × (rest ≡ None)
fault_at_none k None rest e = (refl, e)
fault_at_none k (Some fault) rest e = absurd cc

placed_lines : (ms : List Made) (c : Cast) (p : Placed) (k : ℕ) (ls : List Line) → AreAlike ms c.clients → misplaced_from c p k ls ≡ None → AllByRecursion (IsPlacedLine ms) ls
placed_lines ms c p k [] h e = tt
placed_lines ms c p k (l ∷ ls) h e =
    let f = fault_at_none k (misplaced c p l) (misplaced_from c (placed_with p l) (suc k) ls) e in
    (placed_line ms c p l h f.0, placed_lines ms c (placed_with p l) (suc k) ls h f.1)

-- each object that a group or a watch of the lines names is there
pub all_placed : (ls : List Line) → misplaced_from (cast_of ls) none_placed 2 ls ≡ None → AllByRecursion (IsPlacedLine (names.made_by ls)) ls
all_placed ls e = placed_lines (names.made_by ls) (cast_of ls) none_placed 2 ls (alike ls) e
