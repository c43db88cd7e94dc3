-- How many objects clients make at most, line by line.
use Rattle.std.proofs.Common.{◌≡◌, ℕ, zero, suc, ◌+◌, ◌-◌, ◌^◌, ◌<◌, ◌≤◌, List, [], ◌∷◌, ◌++◌, length, drop, get_or, Some, sym, ap, subst, ◌∙◌, arith}
use Rattle.std.proofs.lemmas.List.{drop_more}
use Rattle.std.specs.Prelude.{slice_get}
use Rattle.mama_script.specs.declared.line.Line.{Line}
use Rattle.mama_script.specs.declared.line.Line.TheVariants as lines
use Rattle.mama_script.specs.declared.names.Made.{Made}
use Rattle.mama_script.specs.Names.{nothing_made, with_sub, with_timer, with_inbox, at_last, made_with, made_after}
use Rattle.mama_script.specs.Counted.{IsCounted, AreCounted}

pub counted_more : (most s o t p : ℕ) (ms : List Made) → s ≤ t → o ≤ p → AreCounted most s o ms → AreCounted most t p ms
counted_more most s o t p [] st op h = tt
counted_more most s o t p (m ∷ []) st op h = (omega (arith, st, h.0), omega (arith, op, h.1), omega (arith, op, h.2))
counted_more most s o t p (m ∷ n ∷ ms) st op h = ((omega (arith, st, h.0.0), h.0.1, h.0.2), counted_more most s o t p (n ∷ ms) st op h.1)

pub counted_client : (most s o : ℕ) (ms : List Made) → o ≤ most → AreCounted most s o ms → AreCounted most s 0 (ms ++ nothing_made ∷ [])
counted_client most s o [] few h = (omega arith, omega arith, omega arith)
counted_client most s o (m ∷ []) few h = ((h.0, omega (arith, few, h.1), omega (arith, few, h.2)), (omega arith, omega arith, omega arith))
counted_client most s o (m ∷ n ∷ ms) few h = (h.0, counted_client most s o (n ∷ ms) few h.1)

counted_at_last : (most s o t p : ℕ) (f : Made → Made) (ms : List Made) → s ≤ t → ((m : Made) → IsCounted s o m → IsCounted t p (f m)) → AreCounted most s o ms → AreCounted most t p (at_last f ms)
counted_at_last most s o t p f [] st g h = tt
counted_at_last most s o t p f (m ∷ []) st g h = g m h
counted_at_last most s o t p f (m ∷ n ∷ []) st g h = ((omega (arith, st, h.0.0), h.0.1, h.0.2), g n h.1)
counted_at_last most s o t p f (m ∷ n ∷ k ∷ ms) st g h = ((omega (arith, st, h.0.0), h.0.1, h.0.2), counted_at_last most s o t p f (n ∷ k ∷ ms) st g h.1)

pub counted_sub : (most s o : ℕ) (ms : List Made) → AreCounted most s o ms → AreCounted most (s + 1) o (at_last with_sub ms)
counted_sub most s o ms = counted_at_last most s o (s + 1) o with_sub ms (omega arith) (λ m h. (omega (arith, h.0), h.1, h.2))

pub counted_timer : (most s o : ℕ) (ms : List Made) → AreCounted most s o ms → AreCounted most s (o + 1) (at_last with_timer ms)
counted_timer most s o ms = counted_at_last most s o s (o + 1) with_timer ms (omega arith) (λ m h. (h.0, omega (arith, h.1), omega (arith, h.2)))

pub counted_inbox : (most s o : ℕ) (ms : List Made) → AreCounted most s o ms → AreCounted most s (o + 1) (at_last with_inbox ms)
counted_inbox most s o ms = counted_at_last most s o s (o + 1) with_inbox ms (omega arith) (λ m h. (h.0, omega (arith, h.1), omega (arith, h.2)))

pub counted_last : (most s o : ℕ) (ms : List Made) (m : Made) → AreCounted most s o (ms ++ m ∷ []) → IsCounted s o m
counted_last most s o [] m h = h
counted_last most s o (x ∷ []) m h = h.1
counted_last most s o (x ∷ y ∷ ms) m h = counted_last most s o (y ∷ ms) m h.1

pub counted_get : (most s o : ℕ) (ms : List Made) (c : ℕ) (m : Made) → o ≤ most → AreCounted most s o ms → slice_get ms c ≡ Some m → IsCounted s most m
counted_get most s o [] c m few h e = absurd cc
counted_get most s o (x ∷ []) zero m few h e = let same : x ≡ m = cc in subst (λ (y : Made). IsCounted s most y) same (h.0, omega (arith, few, h.1), omega (arith, few, h.2))
counted_get most s o (x ∷ []) (suc c) m few h e = absurd cc
counted_get most s o (x ∷ y ∷ ms) zero m few h e = let same : x ≡ m = cc in subst (λ (z : Made). IsCounted s most z) same h.0
counted_get most s o (x ∷ y ∷ ms) (suc c) m few h e = counted_get most s o (y ∷ ms) c m few h.1 e

-- each line makes at most one object
pub counted_line : (most n : ℕ) (ms : List Made) (l : Line) → n ≤ most → AreCounted most n n ms → AreCounted most (n + 1) (n + 1) (made_with ms l)
counted_line most n ms lines.Client few h = counted_more most n 0 (n + 1) (n + 1) (ms ++ nothing_made ∷ []) (omega arith) (omega arith) (counted_client most n n ms few h)
counted_line most n ms (lines.Sub topic kind queue cache recaps) few h = counted_more most (n + 1) n (n + 1) (n + 1) (at_last with_sub ms) (omega arith) (omega arith) (counted_sub most n n ms h)
counted_line most n ms (lines.Timer queue interval) few h = counted_more most n (n + 1) (n + 1) (n + 1) (at_last with_timer ms) (omega arith) (omega arith) (counted_timer most n n ms h)
counted_line most n ms (lines.Inbox queue) few h = counted_more most n (n + 1) (n + 1) (n + 1) (at_last with_inbox ms) (omega arith) (omega arith) (counted_inbox most n n ms h)
counted_line most n ms _ few h = counted_more most n n (n + 1) (n + 1) ms (omega arith) (omega arith) h

-- what is made, past one line
pub made_next : (ms ns : List Made) (ls : List Line) (i : ℕ) (l : Line) (r : List Made) → i < length ls → l ≡ get_or ls i l → ns ≡ made_with ms l → made_after ms (drop i ls) ≡ r → made_after ns (drop (i + 1) ls) ≡ r
made_next ms ns ls i l r lt is step so_far =
    let at : drop i ls ≡ l ∷ drop (i + 1) ls = drop_more ls i l lt ∙ ap (λ (x : Line). x ∷ drop (i + 1) ls) (sym is) in
    ap (λ (m : List Made). made_after m (drop (i + 1) ls)) step ∙ sym (ap (made_after ms) at) ∙ so_far

-- ---- the bound of a counter

abbrev most_made : ℕ
most_made = 2 ^ 64 - 2

pub counted_most : (i n : ℕ) (ms : List Made) → AreCounted most_made i i ms → i < n → n + 2 < 2 ^ 64 → AreCounted most_made most_made most_made ms
counted_most i n ms h lt few = counted_more most_made i i most_made most_made ms (omega (arith, lt, few)) (omega (arith, lt, few)) h

pub counted_next : (i n : ℕ) (ms ns : List Made) (l : Line) → AreCounted most_made i i ms → i < n → n + 2 < 2 ^ 64 → ns ≡ made_with ms l → AreCounted most_made (i + 1) (i + 1) ns
counted_next i n ms ns l h lt few e = subst (λ (x : List Made). AreCounted most_made (i + 1) (i + 1) x) (sym e) (counted_line most_made i ms l (omega (arith, lt, few)) h)

counted_popped : (ms ns : List Made) (m : Made) → AreCounted most_made most_made most_made ns → ns ≡ ms ++ m ∷ [] → IsCounted most_made most_made m
counted_popped ms ns m h e = counted_last most_made most_made most_made ms m (subst (λ (x : List Made). AreCounted most_made most_made most_made x) e h)

pub room_for_sub : (ms ns : List Made) (m : Made) → AreCounted most_made most_made most_made ns → ns ≡ ms ++ m ∷ [] → m.subs + 1 < 2 ^ 64
room_for_sub ms ns m h e = let c = counted_popped ms ns m h e in omega (arith, c.0)

pub room_for_timer : (ms ns : List Made) (m : Made) → AreCounted most_made most_made most_made ns → ns ≡ ms ++ m ∷ [] → m.timers + 1 < 2 ^ 64
room_for_timer ms ns m h e = let c = counted_popped ms ns m h e in omega (arith, c.1)

pub room_for_inbox : (ms ns : List Made) (m : Made) → AreCounted most_made most_made most_made ns → ns ≡ ms ++ m ∷ [] → m.inboxes + 1 < 2 ^ 64
room_for_inbox ms ns m h e = let c = counted_popped ms ns m h e in omega (arith, c.2)
