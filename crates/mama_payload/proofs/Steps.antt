-- Readers, and readers one after the other: what was written is read again, what is cut is truncated, what is read is spelled so.
use Rattle.std.proofs.Common.{◌≡◌, ℕ, suc, ◌+◌, ◌<◌, Bool, true, false, cond, List, [], ◌∷◌, ◌++◌, get_or, take, drop, Result, Ok, Err, refl, sym, ap, subst, ◌∙◌, append_assoc, arith, inl, inr, ◌⊎◌}
use Rattle.std.proofs.lemmas.Bool.{cases_lt}
use Rattle.std.proofs.lemmas.List.{length-take, get_or-drop, get_or-take, get_or_past}
use Rattle.mama_payload.specs.declared.fault.Fault.{Fault}
use Rattle.mama_payload.specs.declared.fault.Rule.TheVariants as rules
use Rattle.mama_payload.specs.Stop.{fault_at}
use Rattle.mama_payload.specs.Reading.{◌>>=◌, seen_as}

abbrev pub IsBytes : List ℕ → Type 0
IsBytes bytes = (i : ℕ) → get_or bytes i 0 < 256

pub IsBytes-drop : (n : ℕ) (bytes : List ℕ) → IsBytes bytes → IsBytes (drop n bytes)
IsBytes-drop n bytes h i = rw get_or-drop (h (n + i))

pub IsBytes-take : (n : ℕ) (bytes : List ℕ) → IsBytes bytes → IsBytes (take n bytes)
IsBytes-take n bytes h i =
    elim (cases_lt i n) [
      | inl lt ↦ rw (get_or-take n bytes i 0 lt) (h i)
      | inr le ↦ rw (get_or_past (take n bytes) i 0 (omega (arith, length-take n bytes))) (omega arith)
    ]

pub IsBytes-rest : (b : ℕ) (bytes : List ℕ) → IsBytes (b ∷ bytes) → IsBytes bytes
IsBytes-rest b bytes h i = h (suc i)

-- a reader answers a value and the bytes after it
abbrev pub Reader : Type 0 → Type 0
Reader X = List ℕ → Result (X × List ℕ) Fault

abbrev pub truncated : Fault
truncated = fault_at rules.Truncated []

-- the value of a step that did not fail
pub bind_ok : {A B : Type 0} (r : Result A Fault) (f : A → Result B Fault) (y : B) → (r >>= f) ≡ Ok y → (x : A) × (r ≡ Ok x) × (f x ≡ Ok y)
bind_ok (Ok x) f y e = (x, refl, e)
bind_ok (Err d) f y e = absurd cc

-- a test that did not fail
pub guard_ok : {A : Type 0} (b : Bool) (d : Fault) (r : Result A Fault) (y : A) → cond b (Err d) r ≡ Ok y → (b ≡ false) × (r ≡ Ok y)
guard_ok true d r y e = absurd cc
guard_ok false d r y e = (refl, e)

abbrev done : {A : Type 0} → A → Result A Fault
done x = Ok x

pub ok_is : {A : Type 0} (x y : A) → done x ≡ done y → x ≡ y
ok_is x y e = cc

-- ---- what was written

-- where a front of two texts ends: in the first, or in the second
pub split : (a b front : List ℕ) (c : ℕ) (rest : List ℕ) → a ++ b ≡ front ++ c ∷ rest
    → ((d : ℕ) × (r : List ℕ) × (a ≡ front ++ d ∷ r)) ⊎ ((f : List ℕ) × (front ≡ a ++ f) × (b ≡ f ++ c ∷ rest))
split [] b front c rest e = inr (front, refl, e)
split (x ∷ a) b [] c rest e = inl (x, a, refl)
split (x ∷ a) b (y ∷ front) c rest e =
    let same : x ≡ y = cc in
    let others : a ++ b ≡ front ++ c ∷ rest = cc in
    elim (split a b front c rest others) [
      | inl w ↦ inl (w.0, w.1, cc (same, w.2))
      | inr w ↦ inr (w.0, cc (same, w.1), w.2)
    ]

-- The text stands for x: it is read as x whatever follows, and a front of it is truncated.
pub record Reads {X : Type 0} (read : Reader X) (text : List ℕ) (x : X) : Type 0 where
  pub again : (rest : List ℕ) → read (text ++ rest) ≡ Ok (x, rest)
  pub cut : (front : List ℕ) (c : ℕ) (rest : List ℕ) → text ≡ front ++ c ∷ rest → read front ≡ Err truncated

pub Reads-then : {X Y : Type 0} (read : Reader X) (next : List ℕ → X → Reader Y) (a b : List ℕ) (x : X) (y : Y)
    → Reads read a x → ((bytes : List ℕ) → Reads (next bytes x) b y) → Reads (λ bytes. read bytes >>= λ r. next bytes r.0 r.1) (a ++ b) y
Reads-then {X} {Y} read next a b x y first second = record {
  again = λ rest.
      let all = (a ++ b) ++ rest in
      let e : read all ≡ Ok (x, b ++ rest) = ap read (append_assoc a b rest) ∙ first.again (b ++ rest) in
      ap (λ (r : Result (X × List ℕ) Fault). r >>= λ r. next all r.0 r.1) e ∙ (second all).again rest;
  cut = λ front c rest e. elim (split a b front c rest e) [
    | inl w ↦ ap (λ (r : Result (X × List ℕ) Fault). r >>= λ r. next front r.0 r.1) (first.cut front w.0 w.1 w.2)
    | inr w ↦
        let e : read front ≡ Ok (x, w.0) = ap read w.1 ∙ first.again w.0 in
        ap (λ (r : Result (X × List ℕ) Fault). r >>= λ r. next front r.0 r.1) e ∙ (second front).cut w.0 c rest w.2
  ];
}

pub Reads-seen : {X Y : Type 0} (read : Reader X) (view : X → Y) (a : List ℕ) (x : X) → Reads read a x → Reads (λ bytes. seen_as view (read bytes)) a (view x)
Reads-seen {X} {Y} read view a x first = record {
  again = λ rest. ap (seen_as view) (first.again rest);
  cut = λ front c rest e. ap (seen_as view) (first.cut front c rest e);
}

-- ---- what is read

-- What is read is spelled so, and P holds of it.
pub record Spells {X : Type 0} (read : Reader X) (text : X → List ℕ) (P : X → Type 0) : Type 0 where
  pub takes : (bytes : List ℕ) (x : X) (rest : List ℕ) → IsBytes bytes → read bytes ≡ Ok (x, rest) → (bytes ≡ text x ++ rest) × IsBytes rest × P x

pub Spells-then : {X Y : Type 0} (read : Reader X) (next : List ℕ → X → Reader Y) (t : X → List ℕ) (u : X → Y → List ℕ) (v : Y → List ℕ)
    (P : X → Type 0) (Q : X → Y → Type 0) (R : Y → Type 0)
    → Spells read t P → ((bytes : List ℕ) (x : X) → P x → Spells (next bytes x) (u x) (Q x))
    → ((x : X) (y : Y) → P x → Q x y → (t x ++ u x y ≡ v y) × R y)
    → Spells (λ bytes. read bytes >>= λ r. next bytes r.0 r.1) v R
Spells-then {X} {Y} read next t u v P Q R first second both = record {
  takes = λ bytes y rest fits e.
      let a = bind_ok (read bytes) (λ r. next bytes r.0 r.1) (y, rest) e in
      let x = a.0.0 in
      let p = first.takes bytes x a.0.1 fits a.1 in
      let q = (second bytes x p.2).takes a.0.1 y rest p.1 a.2 in
      let w = both x y p.2 q.2 in
      (p.0 ∙ ap (λ (r : List ℕ). t x ++ r) q.0 ∙ sym (append_assoc (t x) (u x y) rest) ∙ ap (λ (r : List ℕ). r ++ rest) w.0, q.1, w.1);
}

pub Spells-seen : {X Y : Type 0} (read : Reader X) (view : X → Y) (t : X → List ℕ) (v : Y → List ℕ) (P : X → Type 0) (R : Y → Type 0)
    → Spells read t P → ((x : X) → P x → (t x ≡ v (view x)) × R (view x)) → Spells (λ bytes. seen_as view (read bytes)) v R
Spells-seen {X} {Y} read view t v P R first each = record {
  takes = λ bytes y rest fits e.
      let a = bind_ok (read bytes) (λ x. Ok (view x.0, x.1)) (y, rest) e in
      let x = a.0.0 in
      let p = first.takes bytes x a.0.1 fits a.1 in
      let w = each x p.2 in
      let made : Y × List ℕ = (view x, a.0.1) in
      subst (λ (z : Y × List ℕ). (bytes ≡ v z.0 ++ z.1) × IsBytes z.1 × R z.0) (ok_is made (y, rest) a.2)
      (p.0 ∙ ap (λ (s : List ℕ). s ++ a.0.1) w.0, p.1, w.1);
}

-- ---- a test before a reader

pub Reads-guard : {X : Type 0} (b : Bool) (d : Fault) (read : Reader X) (a : List ℕ) (x : X) → b ≡ false → Reads read a x → Reads (λ bytes. cond b (Err d) (read bytes)) a x
Reads-guard true d read a x passes first = absurd cc
Reads-guard false d read a x passes first = first

pub Spells-guard : {X : Type 0} (b : Bool) (d : Fault) (read : Reader X) (t : X → List ℕ) (P : X → Type 0)
    → Spells read t P → Spells (λ bytes. cond b (Err d) (read bytes)) t (λ x. (b ≡ false) × P x)
Spells-guard true d read t P first = record { takes = λ bytes x rest fits e. absurd cc }
Spells-guard false d read t P first = record {
  takes = λ bytes x rest fits e. let p = first.takes bytes x rest fits e in (p.0, p.1, (refl, p.2));
}
