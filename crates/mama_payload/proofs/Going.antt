-- What more bytes behind the input change: nothing of what was read, and of a fault only how far it is from the end.
use Rattle.std.proofs.Common.{◌≡◌, ◌≢◌, ℕ, ◌+◌, ◌≤◌, Bool, true, false, cond, List, ◌++◌, length, Result, Ok, Err, refl, sym, ap, ◌∙◌, arith, ◌⊎◌, inl, inr}
use Rattle.std.proofs.lemmas.List.{length-append}
use Rattle.mama_payload.specs.declared.fault.Rule.{Rule}
use Rattle.mama_payload.specs.declared.fault.Rule.TheVariants as rules
use Rattle.mama_payload.specs.declared.fault.Fault.{Fault}
use Rattle.mama_payload.specs.Stop.{fault_at}
use Rattle.mama_payload.specs.Reading.{◌>>=◌, seen_as}
use Rattle.mama_payload.proofs.Steps.{Reader, bind_ok, ok_is}

-- the fault, with more bytes behind
abbrev pub later : List ℕ → Fault → Fault
later more f = record { rule = f.rule; left = f.left + length more }

-- A reader of `bytes`, the end of `whole`, which may find a fault at the front of `whole`.
abbrev pub Within : Type 0 → Type 0
Within X = List ℕ → Reader X

pub record Goes {X : Type 0} (read : Within X) : Type 0 where
  pub ok : (whole bytes more : List ℕ) (x : X) (rest : List ℕ) → read whole bytes ≡ Ok (x, rest) → read (whole ++ more) (bytes ++ more) ≡ Ok (x, rest ++ more)
  pub err : (whole bytes more : List ℕ) (f : Fault) → read whole bytes ≡ Err f → f.rule ≢ rules.Truncated → read (whole ++ more) (bytes ++ more) ≡ Err (later more f)
  pub shorter : (whole bytes : List ℕ) (x : X) (rest : List ℕ) → read whole bytes ≡ Ok (x, rest) → length rest ≤ length bytes
  pub within : (whole bytes : List ℕ) (f : Fault) → read whole bytes ≡ Err f → length bytes ≤ length whole → f.left ≤ length whole
  pub end : (whole bytes : List ℕ) (f : Fault) → read whole bytes ≡ Err f → f.rule ≡ rules.Truncated → f.left ≡ 0

abbrev pub failed : {X : Type 0} → Fault → Result X Fault
failed f = Err f

abbrev pub failed_with : {X : Type 0} → Rule → ℕ → Result X Fault
failed_with rule left = failed (record { rule = rule; left = left })

abbrev pub read_as : {X : Type 0} → X → List ℕ → Result (X × List ℕ) Fault
read_as x rest = Ok (x, rest)

pub failed_is : {X : Type 0} (d f : Fault) → failed {X = X} d ≡ failed f → d ≡ f
failed_is {X} d f e = cc

-- what stopped a step and the next
pub bind_err : {A B : Type 0} (r : Result A Fault) (next : A → Result B Fault) (f : Fault) → (r >>= next) ≡ Err f → (r ≡ Err f) ⊎ ((x : A) × (r ≡ Ok x) × (next x ≡ Err f))
bind_err {B = B} (Ok x) next f e = inr (x, refl, e)
bind_err {B = B} (Err d) next f e = inl (ap (λ (d : Fault). failed d) (failed_is {X = B} d f e))

pub Goes-then : {X Y : Type 0} (read : Within X) (next : List ℕ → X → Reader Y)
    → Goes read → ((x : X) → Goes (λ whole. next whole x)) → Goes (λ whole bytes. read whole bytes >>= λ r. next whole r.0 r.1)
Goes-then {X} {Y} read next first second = record {
  ok = λ whole bytes more y rest e.
      let a = bind_ok (read whole bytes) (λ r. next whole r.0 r.1) (y, rest) e in
      rw (first.ok whole bytes more a.0.0 a.0.1 a.1) ((second a.0.0).ok whole a.0.1 more y rest a.2);
  err = λ whole bytes more f e other. elim (bind_err (read whole bytes) (λ r. next whole r.0 r.1) f e) [
    | inl stopped ↦ rw (first.err whole bytes more f stopped other) refl
    | inr a ↦ rw (first.ok whole bytes more a.0.0 a.0.1 a.1) ((second a.0.0).err whole a.0.1 more f a.2 other)
  ];
  shorter = λ whole bytes y rest e.
      let a = bind_ok (read whole bytes) (λ r. next whole r.0 r.1) (y, rest) e in
      omega (arith, first.shorter whole bytes a.0.0 a.0.1 a.1, (second a.0.0).shorter whole a.0.1 y rest a.2);
  within = λ whole bytes f e le. elim (bind_err (read whole bytes) (λ r. next whole r.0 r.1) f e) [
    | inl stopped ↦ first.within whole bytes f stopped le
    | inr a ↦ (second a.0.0).within whole a.0.1 f a.2 (omega (arith, first.shorter whole bytes a.0.0 a.0.1 a.1))
  ];
  end = λ whole bytes f e is. elim (bind_err (read whole bytes) (λ r. next whole r.0 r.1) f e) [
    | inl stopped ↦ first.end whole bytes f stopped is
    | inr a ↦ (second a.0.0).end whole a.0.1 f a.2 is
  ];
}

-- faults at the front of what the reader itself reads
pub Goes-closed : {X : Type 0} (read : Within X) → Goes read → Goes (λ _ bytes. read bytes bytes)
Goes-closed {X} read first = record {
  ok = λ whole bytes more x rest e. first.ok bytes bytes more x rest e;
  err = λ whole bytes more f e other. first.err bytes bytes more f e other;
  shorter = λ whole bytes x rest e. first.shorter bytes bytes x rest e;
  within = λ whole bytes f e le. let here = first.within bytes bytes f e (omega arith) in omega (arith, here);
  end = λ whole bytes f e is. first.end bytes bytes f e is;
}

-- nothing is read
pub Goes-ok : {X : Type 0} (x : X) → Goes (λ _ bytes. Ok (x, bytes))
Goes-ok {X} x = record {
  ok = λ whole bytes more y rest e.
      let made : X × List ℕ = (x, bytes) in
      let same = ok_is made (y, rest) e in
      ap (λ (r : X × List ℕ). read_as r.0 (r.1 ++ more)) same;
  err = λ whole bytes more f e other. absurd cc;
  shorter = λ whole bytes y rest e.
      let made : X × List ℕ = (x, bytes) in
      let same : bytes ≡ rest = ap (λ (r : X × List ℕ). r.1) (ok_is made (y, rest) e) in
      omega (arith, ap length same);
  within = λ whole bytes f e le. absurd cc;
  end = λ whole bytes f e is. absurd cc;
}

-- a fault at the front
pub Goes-fails : {X : Type 0} (rule : Rule) → rule ≢ rules.Truncated → Goes {X = X} (λ whole _. Err (fault_at rule whole))
Goes-fails {X} rule other = record {
  ok = λ whole bytes more x rest e. absurd cc;
  err = λ whole bytes more f e others.
      let same : fault_at rule whole ≡ f = failed_is {X = X × List ℕ} (fault_at rule whole) f e in
      let left : length (whole ++ more) ≡ length whole + length more = length-append whole more in
      ap (λ (k : ℕ). failed_with {X = X × List ℕ} rule k) left ∙ ap (λ (d : Fault). failed {X = X × List ℕ} (later more d)) same;
  shorter = λ whole bytes x rest e. absurd cc;
  within = λ whole bytes f e le.
      let same : fault_at rule whole ≡ f = failed_is {X = X × List ℕ} (fault_at rule whole) f e in
      omega (arith, ap (λ (d : Fault). d.left) same);
  end = λ whole bytes f e is. absurd (other (ap (λ (d : Fault). d.rule) (failed_is {X = X × List ℕ} (fault_at rule whole) f e) ∙ is));
}

pub Goes-cond : {X : Type 0} (b : Bool) (first second : Within X) → Goes first → Goes second → Goes (λ whole bytes. cond b (first whole bytes) (second whole bytes))
Goes-cond true first second goes other = goes
Goes-cond false first second goes other = other

pub Goes-seen : {X Y : Type 0} (read : Within X) (view : X → Y) → Goes read → Goes (λ whole bytes. seen_as view (read whole bytes))
Goes-seen {X} {Y} read view first = Goes-then read (λ _ x rest. Ok (view x, rest)) first (λ x. Goes-ok (view x))

-- a reader that answers as another does
pub Goes-like : {X : Type 0} (read other : Reader X) → ((bytes : List ℕ) → read bytes ≡ other bytes) → Goes (λ _. read) → Goes (λ _. other)
Goes-like {X} read other same first = record {
  ok = λ whole bytes more x rest e. sym (same (bytes ++ more)) ∙ first.ok whole bytes more x rest (same bytes ∙ e);
  err = λ whole bytes more f e others. sym (same (bytes ++ more)) ∙ first.err whole bytes more f (same bytes ∙ e) others;
  shorter = λ whole bytes x rest e. first.shorter whole bytes x rest (same bytes ∙ e);
  within = λ whole bytes f e le. first.within whole bytes f (same bytes ∙ e) le;
  end = λ whole bytes f e is. first.end whole bytes f (same bytes ∙ e) is;
}
