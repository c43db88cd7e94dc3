-- Lines that fit where they stand, name no object, and have neither a group nor a watch.
use Rattle.std.proofs.Common.{◌≡◌, ℕ, zero, suc, ◌<◌, ◌≤◌, true, List, [], ◌∷◌, ◌++◌, Option, None, refl, sym, ap, subst, ◌∙◌, append-nil, arith}
use Rattle.std.specs.List.{flat_map}
use Rattle.std.proofs.lemmas.List.Concat.{flat_map-append}
use Rattle.mama_script.specs.declared.names.Made.{Made}
use Rattle.mama_script.specs.declared.line.Line.{Line}
use Rattle.mama_script.specs.Head.{may_end}
use Rattle.mama_script.specs.Before.{Before, start, after}
use Rattle.mama_script.specs.Names.{is_named, made_by, unnamed_from}
use Rattle.mama_script.specs.Placing.{Cast, Placed, cast_of, none_placed, placed_with, misplaced, fault_at, misplaced_from}
use Rattle.mama_script.specs.Reading.{version_of, Fits, FitFrom, AreAccepted}
use Rattle.mama_gen.specs.Draws.{Drawn}
use Rattle.mama_gen.proofs.Each.{made, behind, one, made_none, made_more}

abbrev pub IsFree : Line → Type 0
IsFree l = ((made : List Made) → is_named made l ≡ true) × ((c : Cast) (p : Placed) → misplaced c p l ≡ None)

-- each line fits those before it and is free, and behind the last one Q holds
abbrev pub Goes : Before → List Line → (Before → Type 0) → Type 0
Goes b [] Q = Q b
Goes b (l ∷ ls) Q = Fits b l × IsFree l × Goes (after b l) ls Q

pub goes_append : (b : Before) (xs ys : List Line) (Q : Before → Type 0) → Goes b xs (λ c. Goes c ys Q) → Goes b (xs ++ ys) Q
goes_append b [] ys Q h = h
goes_append b (x ∷ xs) ys Q h = (h.0, h.1, goes_append (after b x) xs ys Q h.2)

pub goes_then : (b : Before) (xs : List Line) (P Q : Before → Type 0) → Goes b xs P → ((c : Before) → P c → Q c) → Goes b xs Q
goes_then b [] P Q h more = more b h
goes_then b (x ∷ xs) P Q h more = (h.0, h.1, goes_then (after b x) xs P Q h.2 more)

-- the one and then the other
pub goes_both : (b : Before) (xs ys : List Line) (P Q : Before → Type 0) → Goes b xs P → ((c : Before) → P c → Goes c ys Q) → Goes b (xs ++ ys) Q
goes_both b xs ys P Q h more = goes_append b xs ys Q (goes_then b xs P (λ c. Goes c ys Q) h more)

fit_of : (b : Before) (ls : List Line) → Goes b ls (λ c. may_end c.place ≡ true) → FitFrom b ls
fit_of b [] h = h
fit_of b (l ∷ ls) h = (h.0, fit_of (after b l) ls h.2)

named_of : (b : Before) (ls : List Line) (Q : Before → Type 0) (made : List Made) (k : ℕ) → Goes b ls Q → unnamed_from made k ls ≡ None
named_of b [] Q made k h = refl
named_of b (l ∷ ls) Q made k h = rw (h.1.0 made) (named_of (after b l) ls Q made (suc k) h.2)

placed_of : (b : Before) (ls : List Line) (Q : Before → Type 0) (c : Cast) (p : Placed) (k : ℕ) → Goes b ls Q → misplaced_from c p k ls ≡ None
placed_of b [] Q c p k h = refl
placed_of b (l ∷ ls) Q c p k h =
    ap (λ (o : Option ℕ). fault_at k o (misplaced_from c (placed_with p l) (suc k) ls)) (h.1.1 c p) ∙ placed_of (after b l) ls Q c (placed_with p l) (suc k) h.2

pub accepted : (ls : List Line) → Goes (start (version_of ls)) ls (λ c. may_end c.place ≡ true) → AreAccepted ls
accepted ls h =
    let b = start (version_of ls) in
    record {
      fit = fit_of b ls h;
      named = named_of b ls (λ c. may_end c.place ≡ true) (made_by ls) 2 h;
      placed = placed_of b ls (λ c. may_end c.place ≡ true) (cast_of ls) none_placed 2 h;
    }

-- the lines of things made one after the other: I n holds behind those of the first n
pub goes_each : {X : Type 0} (make : ℕ → Drawn X) (g : X → List Line) (I : ℕ → Before → Type 0) (total : ℕ)
    → ((n : ℕ) (b : Before) (s : ℕ) → n < total → I n b → Goes b (g (make n s).0) (I (suc n)))
    → (n s : ℕ) (b : Before) → n ≤ total → I 0 b → Goes b (flat_map g (made make n s)) (I n)
goes_each make g I total step zero s b le h = subst (λ ls. Goes b (flat_map g ls) (I 0)) (sym (made_none make s)) h
goes_each make g I total step (suc n) s b le h =
    let more : flat_map g (made make (suc n) s) ≡ flat_map g (made make n s) ++ g (one make n s) =
    ap (flat_map g) (made_more make n s) ∙ flat_map-append g (made make n s) (one make n s ∷ []) ∙ ap (λ (t : List Line). flat_map g (made make n s) ++ t) (append-nil (g (one make n s))) in
    subst (λ ls. Goes b ls (I (suc n))) (sym more)
    (goes_both b (flat_map g (made make n s)) (g (one make n s)) (I n) (I (suc n)) (goes_each make g I total step n s b (omega arith) h) (λ c i. step n c (behind make n s) (omega arith) i))
