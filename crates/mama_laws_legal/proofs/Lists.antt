-- Lemmas on lists, and on journals with one entry more.
use Rattle.std.specs.Prelude.{slice_index_or}
use Rattle.std.specs.List.{list_all}
use Rattle.std.proofs.Common.{◌≡◌, ℕ, zero, suc, ◌+◌, ◌<◌, ◌==◌, Bool, true, false, cond, List, [], ◌∷◌, ◌++◌, length, refl, sym, ◌∙◌, ap, arith, ⊎_elim, append-nil, append_assoc}
use Rattle.std.proofs.lemmas.Bool.{and_parts, cases_eq, eq-eqb, ne_eqb, false≢true}
use Rattle.mama_journal.specs.Lane.{by_port, from_port}
use Rattle.mama_rules_rounds.specs.World.{extended, is_empty}

-- ---- a place of a list

-- where something stands, the list reaches
pub within : {X : Type 0} (lanes : List (List X)) (k : ℕ) (x : X) (rest : List X) → slice_index_or lanes k [] ≡ x ∷ rest → k < length lanes
within {X} [] k x rest h = absurd (false≢true (sym (ap is_empty h)))
within (l ∷ lanes) zero x rest h = omega arith
within (l ∷ lanes) (suc k) x rest h = let ih = within lanes k x rest h in omega arith

pub extended-length : {V : Type 0} (more : ℕ → List V) (n : ℕ) (lanes : List (List V)) → length (extended more n lanes) ≡ length lanes
extended-length more n [] = refl
extended-length more n (l ∷ lanes) = ap suc (extended-length more (suc n) lanes)

pub extended-at : {V : Type 0} (more : ℕ → List V) (n : ℕ) (lanes : List (List V)) (k : ℕ) → k < length lanes
    → slice_index_or (extended more n lanes) k [] ≡ slice_index_or lanes k [] ++ more (n + k)
extended-at more n [] k h = absurd (omega arith)
extended-at more n (l ∷ lanes) zero h = let same : n ≡ n + zero = omega arith in ap (λ (m : ℕ). l ++ more m) same
extended-at more n (l ∷ lanes) (suc k) h =
    let same : suc n + k ≡ n + suc k = omega arith in
    extended-at more (suc n) lanes k (omega arith) ∙ ap (λ (m : ℕ). slice_index_or lanes k [] ++ more m) same

pub extended-first : {V : Type 0} (more : ℕ → List V) (lanes : List (List V)) (k : ℕ) → k < length lanes
    → slice_index_or (extended more 0 lanes) k [] ≡ slice_index_or lanes k [] ++ more k
extended-first more lanes k h = let same : 0 + k ≡ k = omega arith in extended-at more 0 lanes k h ∙ ap (λ (m : ℕ). slice_index_or lanes k [] ++ more m) same

-- where all are empty, each is
pub all_empty : {X : Type 0} (lanes : List (List X)) (k : ℕ) → list_all is_empty lanes ≡ true → slice_index_or lanes k [] ≡ []
all_empty [] k h = refl
all_empty (l ∷ lanes) zero h = nothing l (and_parts (is_empty l) (list_all is_empty lanes) h).0
  where
    nothing : {X : Type 0} (l : List X) → is_empty l ≡ true → l ≡ []
    nothing [] h = refl
    nothing (x ∷ xs) h = absurd (false≢true h)
all_empty (l ∷ lanes) (suc k) h = all_empty lanes k (and_parts (is_empty l) (list_all is_empty lanes) h).1

-- ---- lanes with many ports

pub by_port-append : {V : Type 0} (port : ℕ) (xs ys : List (ℕ × V)) → by_port port (xs ++ ys) ≡ by_port port xs ++ by_port port ys
by_port-append port [] ys = refl
by_port-append port (x ∷ xs) ys = by_case (x.0 == port) (by_port-append port xs ys)
  where
    by_case : (b : Bool) → by_port port (xs ++ ys) ≡ by_port port xs ++ by_port port ys → cond b (x.1 ∷ by_port port (xs ++ ys)) (by_port port (xs ++ ys)) ≡ cond b (x.1 ∷ by_port port xs) (by_port port xs) ++ by_port port ys
    by_case true ih = ap (λ (vs : List _). x.1 ∷ vs) ih
    by_case false ih = ih

either_way : {X : Type 0} (b : Bool) (x : X) → x ≡ cond b x x
either_way true x = refl
either_way false x = refl

pub by_port-from : {V : Type 0} (k port : ℕ) (vs : List V) → by_port port (from_port k vs) ≡ cond (k == port) vs []
by_port-from k port [] = either_way (k == port) []
by_port-from k port (v ∷ vs) = by_case (k == port) (by_port-from k port vs)
  where
    by_case : (b : Bool) → by_port port (from_port k vs) ≡ cond b vs [] → cond b (v ∷ by_port port (from_port k vs)) (by_port port (from_port k vs)) ≡ cond b (v ∷ vs) []
    by_case true ih = ap (λ (ws : List _). v ∷ ws) ih
    by_case false ih = ih

-- a take moves the first of what waits to what was taken
pub taken_first : {V : Type 0} (port : ℕ) (taken : List (ℕ × V)) (e : ℕ × V) (rest : List (ℕ × V))
    → by_port port (taken ++ e ∷ []) ++ by_port port rest ≡ by_port port taken ++ by_port port (e ∷ rest)
taken_first port taken e rest =
    ap (λ (vs : List _). vs ++ by_port port rest) (by_port-append port taken (e ∷ []))
    ∙ append_assoc (by_port port taken) (by_port port (e ∷ [])) (by_port port rest)
    ∙ ap (λ (vs : List _). by_port port taken ++ vs) (sym (by_port-append port (e ∷ []) rest))

-- a put makes what waits grow, and what one port put
pub put_last : {V : Type 0} (k port : ℕ) (taken waiting : List (ℕ × V)) (vs : List V)
    → by_port port taken ++ by_port port (waiting ++ from_port k vs) ≡ (by_port port taken ++ by_port port waiting) ++ cond (k == port) vs []
put_last k port taken waiting vs =
    ap (λ (ws : List _). by_port port taken ++ ws) (by_port-append port waiting (from_port k vs) ∙ ap (λ (ws : List _). by_port port waiting ++ ws) (by_port-from k port vs))
    ∙ sym (append_assoc (by_port port taken) (by_port port waiting) (cond (k == port) vs []))

-- what one port put has grown, and what others put has not
pub grows : {V : Type 0} (k port : ℕ) (old vs new : List V) → (k ≡ port → new ≡ old ++ vs) → ((k ≡ port → ⊥) → new ≡ old) → new ≡ old ++ cond (k == port) vs []
grows k port old vs new here apart = ⊎_elim
    (λ same. here same ∙ ap (λ (b : Bool). old ++ cond b vs []) (sym (eq-eqb k port same)))
    (λ other. apart other ∙ sym (append-nil old) ∙ ap (λ (b : Bool). old ++ cond b vs []) (sym (ne_eqb k port other)))
    (cases_eq k port)
