-- The lines of a part's entries.
use Rattle.std.proofs.Common.{◌≡◌, ℕ, List, [], ◌∷◌, ◌++◌, map, refl, sym, ap, ◌∙◌, inl, inr}
use Rattle.std.specs.Prelude.{◌⊎◌}
use Rattle.std.specs.List.{AllByRecursion}

-- ---- two lists that begin alike

-- two pairs of lists in a row are the same: the first lists end together, or one goes on
abbrev pub GoesBeyond : {A : Type 0} → List A → List A → List A → List A → Type 0
GoesBeyond {A} xs us ys bs = (z : A) × ((zs : List A) × (xs ≡ ys ++ z ∷ zs) × (z ∷ (zs ++ us) ≡ bs))

abbrev pub Overlap : {A : Type 0} → List A → List A → List A → List A → Type 0
Overlap xs us ys bs = ((xs ≡ ys) × (us ≡ bs)) ⊎ (GoesBeyond xs us ys bs ⊎ GoesBeyond ys bs xs us)

abbrev pub head_or : {A : Type 0} → A → List A → A
head_or d [] = d
head_or d (x ∷ xs) = x

abbrev pub tail_of : {A : Type 0} → List A → List A
tail_of [] = []
tail_of (x ∷ xs) = xs

beyond_cons : {A : Type 0} (x y : A) (xs us ys bs : List A) → x ≡ y → GoesBeyond xs us ys bs → GoesBeyond (x ∷ xs) us (y ∷ ys) bs
beyond_cons {A} x y xs us ys bs e g = (g.0, (g.1.0, ap (λ (z : A). z ∷ xs) e ∙ ap (λ (zs : List A). y ∷ zs) g.1.1, g.1.2))

overlap_cons : {A : Type 0} (x y : A) (xs us ys bs : List A) → x ≡ y → Overlap xs us ys bs → Overlap (x ∷ xs) us (y ∷ ys) bs
overlap_cons {A} x y xs us ys bs e (inl p) = inl (ap (λ (z : A). z ∷ xs) e ∙ ap (λ (zs : List A). y ∷ zs) p.0, p.1)
overlap_cons x y xs us ys bs e (inr (inl p)) = inr (inl (beyond_cons x y xs us ys bs e p))
overlap_cons x y xs us ys bs e (inr (inr p)) = inr (inr (beyond_cons y x ys bs xs us (sym e) p))

pub overlap : {A : Type 0} (xs us ys bs : List A) → xs ++ us ≡ ys ++ bs → Overlap xs us ys bs
overlap [] us [] bs e = inl (refl, e)
overlap [] us (y ∷ ys) bs e = inr (inr (y, (ys, refl, sym e)))
overlap (x ∷ xs) us [] bs e = inr (inl (x, (xs, refl, e)))
overlap (x ∷ xs) us (y ∷ ys) bs e = overlap_cons x y xs us ys bs (ap (head_or x) e) (overlap xs us ys bs (ap tail_of e))

-- ---- lines that are spelled one by one

pub each_map : {A : Type 0} (May : A → Type 0) (P : List ℕ → Type 0) (body : A → List ℕ) → ((x : A) → May x → P (body x)) → (xs : List A) → AllByRecursion May xs → AllByRecursion P (map body xs)
each_map May P body each [] h = tt
each_map May P body each (x ∷ xs) h = (each x h.0, each_map May P body each xs h.1)

pub same_map : {A : Type 0} (May : A → Type 0) (body : A → List ℕ) → ((x y : A) → May x → May y → body x ≡ body y → x ≡ y) → (xs ys : List A) → AllByRecursion May xs → AllByRecursion May ys → map body xs ≡ map body ys → xs ≡ ys
same_map May body same [] [] h k e = refl
same_map May body same [] (y ∷ ys) h k e = absurd cc
same_map May body same (x ∷ xs) [] h k e = absurd cc
same_map {A} May body same (x ∷ xs) (y ∷ ys) h k e =
    ap (λ (z : A). z ∷ xs) (same x y h.0 k.0 (ap (head_or []) e)) ∙ ap (λ (zs : List A). y ∷ zs) (same_map May body same xs ys h.1 k.1 (ap tail_of e))

-- the entry behind others
pub record IsBeyond {A : Type 0} (May : A → Type 0) (body : A → List ℕ) (xs ys : List A) (l : List ℕ) : Type 0 where
  pub entry : A
  pub others : List A
  pub may : May entry
  pub spelled : l ≡ body entry
  pub is : ys ≡ xs ++ entry ∷ others

pub beyond_map : {A : Type 0} (May : A → Type 0) (body : A → List ℕ) → ((x y : A) → May x → May y → body x ≡ body y → x ≡ y) → (xs ys : List A) (l : List ℕ) (ls : List (List ℕ)) → AllByRecursion May xs → AllByRecursion May ys → map body ys ≡ map body xs ++ l ∷ ls
    → IsBeyond May body xs ys l
beyond_map May body same [] [] l ls h k e = absurd cc
beyond_map May body same [] (y ∷ ys) l ls h k e = record { entry = y; others = ys; may = k.0; spelled = sym (ap (head_or []) e); is = refl }
beyond_map May body same (x ∷ xs) [] l ls h k e = absurd cc
beyond_map {A} May body same (x ∷ xs) (y ∷ ys) l ls h k e =
    let r = beyond_map May body same xs ys l ls h.1 k.1 (ap tail_of e) in
    let one = same y x k.0 h.0 (ap (head_or []) e) in
    record { entry = r.entry; others = r.others; may = r.may; spelled = r.spelled; is = ap (λ (z : A). z ∷ ys) one ∙ ap (λ (zs : List A). x ∷ zs) r.is }
