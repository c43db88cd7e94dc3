-- What the lines of clients make, line by line; and the first line whose group or watch may not be.
use Rattle.std.proofs.Common.{◌≡◌, ℕ, suc, ◌+◌, ◌^◌, ◌<◌, ◌≤◌, List, [], ◌∷◌, ◌++◌, length, drop, get_or, Option, Some, None, IfNone, refl, sym, ap, subst, ◌∙◌, arith}
use Rattle.std.specs.List.{AllByRecursion}
use Rattle.std.proofs.lemmas.List.{drop_more}
use Rattle.mama_words.specs.declared.order.OrderWord.TheVariants as orders
use Rattle.mama_script.specs.declared.line.QueueName.{QueueName}
use Rattle.mama_script.specs.declared.line.QueueName.TheVariants.{Number, Any}
use Rattle.mama_script.specs.declared.line.Line.{Line}
use Rattle.mama_script.specs.declared.line.Line.TheVariants as lines
use Rattle.mama_script.specs.Placing.{Roster, Cast, Placed, no_roster, turns_with, with_sub, with_timer, with_inbox, at_last, cast_with, cast_after, misplaced, placed_with, fault_at, misplaced_from}

pub at_last_push : (f : Roster → Roster) (rs : List Roster) (r : Roster) → at_last f (rs ++ r ∷ []) ≡ rs ++ f r ∷ []
at_last_push f [] r = refl
at_last_push f (x ∷ []) r = refl
at_last_push f (x ∷ y ∷ rs) r = ap (λ (t : List Roster). x ∷ t) (at_last_push f (y ∷ rs) r)

abbrev pub HaveTurns : ℕ → List Roster → Type 0
HaveTurns most rs = AllByRecursion (λ (r : Roster). r.turns ≤ most) rs

abbrev pub HaveRoom : List Roster → Type 0
HaveRoom rs = AllByRecursion (λ (r : Roster). r.turns + 1 < 2 ^ 64) rs

room_last : (rs : List Roster) (r : Roster) → HaveRoom (rs ++ r ∷ []) → r.turns + 1 < 2 ^ 64
room_last [] r h = h.0
room_last (x ∷ rs) r h = room_last rs r h.1

-- the client that was popped can take a turn more
pub few_popped : (rs all : List Roster) (r : Roster) → HaveRoom all → all ≡ rs ++ r ∷ [] → r.turns + 1 < 2 ^ 64
few_popped rs all r h e = room_last rs r (subst HaveRoom e h)

more_turns : (n m : ℕ) (rs : List Roster) → n ≤ m → HaveTurns n rs → HaveTurns m rs
more_turns n m [] le h = tt
more_turns n m (r ∷ rs) le h = (omega (arith, le, h.0), more_turns n m rs le h.1)

turns_push : (n : ℕ) (rs : List Roster) → HaveTurns n rs → HaveTurns n (rs ++ no_roster ∷ [])
turns_push n [] h = (omega arith, tt)
turns_push n (r ∷ rs) h = (h.0, turns_push n rs h.1)

turns_at_last : (n : ℕ) (f : Roster → Roster) (rs : List Roster) → ((r : Roster) → r.turns ≤ n → (f r).turns ≤ n + 1) → HaveTurns n rs → HaveTurns (n + 1) (at_last f rs)
turns_at_last n f [] g h = tt
turns_at_last n f (r ∷ []) g h = (g r h.0, tt)
turns_at_last n f (r ∷ s ∷ rs) g h = (let here = h.0 in omega (arith, here), turns_at_last n f (s ∷ rs) g h.1)

one_turn : (n turns : ℕ) (word : QueueName) → turns ≤ n → turns_with turns word ≤ n + 1
one_turn n turns (Number q) h = omega (arith, h)
one_turn n turns Any h = omega (arith, h)

-- a line takes at most one turn
pub turns_line : (n : ℕ) (c : Cast) (l : Line) → HaveTurns n c.clients → HaveTurns (n + 1) (cast_with c l).clients
turns_line n c lines.Client h = more_turns n (n + 1) (c.clients ++ no_roster ∷ []) (omega arith) (turns_push n c.clients h)
turns_line n c (lines.Sub topic kind queue cache recaps) h = turns_at_last n (with_sub c.queues kind queue) c.clients (λ r few. one_turn n r.turns queue few) h
turns_line n c (lines.Timer queue interval) h = turns_at_last n (with_timer c.queues queue) c.clients (λ r few. one_turn n r.turns queue few) h
turns_line n c (lines.Inbox queue) h = turns_at_last n (with_inbox queue) c.clients (λ r few. one_turn n r.turns queue few) h
turns_line n c (lines.At call (orders.Stop id)) h = more_turns n (n + 1) c.clients (omega arith) h
turns_line n c (lines.At call (orders.Disarm id)) h = more_turns n (n + 1) c.clients (omega arith) h
turns_line n c (lines.At call (orders.Close id)) h = more_turns n (n + 1) c.clients (omega arith) h
turns_line n c (lines.At call (orders.Ask id topic fids)) h = more_turns n (n + 1) c.clients (omega arith) h
turns_line n c (lines.Queues q) h = more_turns n (n + 1) c.clients (omega arith) h
turns_line n c _ h = more_turns n (n + 1) c.clients (omega arith) h

pub turns_next : (i : ℕ) (c d : Cast) (l : Line) → HaveTurns i c.clients → d ≡ cast_with c l → HaveTurns (i + 1) d.clients
turns_next i c d l h e = subst (λ (x : Cast). HaveTurns (i + 1) x.clients) (sym e) (turns_line i c l h)

pub few_turns : (i n : ℕ) (rs : List Roster) → HaveTurns i rs → i < n → n + 2 < 2 ^ 64 → HaveRoom rs
few_turns i n [] h lt few = tt
few_turns i n (r ∷ rs) h lt few = (let here = h.0 in omega (arith, here, lt, few), few_turns i n rs h.1 lt few)

-- what is made, past one line
pub cast_next : (c d : Cast) (ls : List Line) (i : ℕ) (l : Line) (all : Cast) → i < length ls → l ≡ get_or ls i l → d ≡ cast_with c l → cast_after c (drop i ls) ≡ all → cast_after d (drop (i + 1) ls) ≡ all
cast_next c d ls i l all lt is step so_far =
    let at : drop i ls ≡ l ∷ drop (i + 1) ls = drop_more ls i l lt ∙ ap (λ (x : Line). x ∷ drop (i + 1) ls) (sym is) in
    ap (λ (x : Cast). cast_after x (drop (i + 1) ls)) step ∙ sym (ap (cast_after c) at) ∙ so_far

-- ---- the first line that may not be

here_first : (c : Cast) (p : Placed) (k i : ℕ) (ls : List Line) (l : Line) → i < length ls → l ≡ get_or ls i l
    → misplaced_from c p k (drop i ls) ≡ fault_at k (misplaced c p l) (misplaced_from c (placed_with p l) (suc k) (drop (i + 1) ls))
here_first c p k i ls l lt is = ap (misplaced_from c p k) (drop_more ls i l lt ∙ ap (λ (x : Line). x ∷ drop (i + 1) ls) (sym is))

-- a line that may be
pub misplaced_more : (c : Cast) (p q : Placed) (i : ℕ) (ls : List Line) (l : Line) (found : Option ℕ) (all : Option (ℕ × ℕ)) → i < length ls → l ≡ get_or ls i l → found ≡ misplaced c p l
    → ((fault : ℕ) → found ≡ Some fault → ⊥) → IfNone found (q ≡ placed_with p l) → misplaced_from c p (i + 2) (drop i ls) ≡ all → misplaced_from c q (i + 1 + 2) (drop (i + 1) ls) ≡ all
misplaced_more c p q i ls l (Some fault) all lt is told none placed so_far = absurd (none fault refl)
misplaced_more c p q i ls l None all lt is told none placed so_far =
    let rest = misplaced_from c (placed_with p l) (suc (i + 2)) (drop (i + 1) ls) in
    let next : i + 1 + 2 ≡ suc (i + 2) = omega arith in
    ap (λ (x : Placed). misplaced_from c x (i + 1 + 2) (drop (i + 1) ls)) placed
    ∙ ap (λ (n : ℕ). misplaced_from c (placed_with p l) n (drop (i + 1) ls)) next
    ∙ ap (λ (o : Option ℕ). fault_at (i + 2) o rest) told ∙ sym (here_first c p (i + 2) i ls l lt is) ∙ so_far
