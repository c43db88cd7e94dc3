-- The places of faults, and what more bytes behind the input change of them: nothing.
use Rattle.std.proofs.Common.{◌≡◌, ◌≢◌, ℕ, ◌+◌, ◌-◌, ◌≤◌, List, [], ◌∷◌, ◌++◌, length, Result, Ok, Err, refl, sym, ap, ◌∙◌, arith, ◌⊎◌, inl, inr}
use Rattle.std.proofs.lemmas.List.{length-append}
use Rattle.mama_msg.specs.Field.{FieldData}
use Rattle.mama_payload.specs.declared.fault.Rule.{Rule}
use Rattle.mama_payload.specs.declared.fault.Rule.TheVariants as rules
use Rattle.mama_payload.specs.declared.fault.Fault.{Fault}
use Rattle.mama_payload.specs.declared.fault.DecodeFault.{DecodeFault}
use Rattle.mama_payload.specs.declared.fault.DecodeFault.TheVariants as faults
use Rattle.mama_payload.specs.declared.fault.Stop.{Stop}
use Rattle.mama_payload.specs.declared.fault.Stop.TheVariants as stops
use Rattle.mama_payload.specs.Stop.{fault_at}
use Rattle.mama_payload.specs.Giving.{Stops, IsWithin}
use Rattle.mama_payload.specs.Reading.{message_at, ended, whole, broken, placed, decoded}
use Rattle.mama_payload.proofs.Going.{later, failed, failed_with, failed_is, bind_err}
use Rattle.mama_payload.proofs.GoingOn.{message_goes}

-- bytes that are left after a message
record Trails (bytes : List ℕ) (f : Fault) : Type 0 where
  fields : List FieldData
  first : ℕ
  others : List ℕ
  read : message_at bytes ≡ Ok (fields, first ∷ others)
  fault : fault_at rules.Trailing (first ∷ others) ≡ f

ended_stops : (bytes : List ℕ) (fields : List FieldData) (rest : List ℕ) (f : Fault) → message_at bytes ≡ Ok (fields, rest) → ended (fields, rest) ≡ Err f → Trails bytes f
ended_stops bytes fields [] f read e = absurd cc
ended_stops bytes fields (b ∷ rest) f read e = record {
  fields = fields;
  first = b;
  others = rest;
  read = read;
  fault = failed_is {X = List FieldData} (fault_at rules.Trailing (b ∷ rest)) f e;
}

whole_stops : (bytes : List ℕ) (f : Fault) → whole bytes ≡ Err f → (message_at bytes ≡ Err f) ⊎ Trails bytes f
whole_stops bytes f e = elim (bind_err (message_at bytes) ended f e) [
  | inl stopped ↦ inl stopped
  | inr a ↦ inr (ended_stops bytes a.0.0 a.0.1 f a.1 a.2)
]

-- a fault is not before the bytes
pub whole-within : (bytes : List ℕ) (f : Fault) → whole bytes ≡ Err f → f.left ≤ length bytes
whole-within bytes f e = elim (whole_stops bytes f e) [
  | inl stopped ↦ message_goes.within bytes bytes f stopped (omega arith)
  | inr t ↦ omega (arith, ap (λ (d : Fault). d.left) t.fault, message_goes.shorter bytes bytes t.fields (t.first ∷ t.others) t.read)
]

trailing_is_not : rules.Trailing ≡ rules.Truncated → ⊥
trailing_is_not e = cc

pub stop-within : (bytes : List ℕ) (stop : Stop) → Stops stop (whole bytes) → IsWithin (length bytes) stop
stop-within bytes stops.OutOfMemory e = tt
stop-within bytes (stops.Fault f) e = whole-within bytes f e

whole-truncated : (bytes : List ℕ) (f : Fault) → whole bytes ≡ Err f → f.rule ≡ rules.Truncated → f.left ≡ 0
whole-truncated bytes f e is = elim (whole_stops bytes f e) [
  | inl stopped ↦ message_goes.end bytes bytes f stopped is
  | inr t ↦ absurd (trailing_is_not (ap (λ (d : Fault). d.rule) t.fault ∙ is))
]

trails_more : (bytes more : List ℕ) (f : Fault) → Trails bytes f → whole (bytes ++ more) ≡ Err (later more f)
trails_more bytes more f t =
    let size : length (t.first ∷ (t.others ++ more)) ≡ length (t.first ∷ t.others) + length more = length-append (t.first ∷ t.others) more in
    rw (message_goes.ok bytes bytes more t.fields (t.first ∷ t.others) t.read)
    (ap (λ (k : ℕ). failed_with {X = List FieldData} rules.Trailing k) size ∙ ap (λ (d : Fault). failed {X = List FieldData} (later more d)) t.fault)

whole-more : (bytes more : List ℕ) (f : Fault) → whole bytes ≡ Err f → f.rule ≢ rules.Truncated → whole (bytes ++ more) ≡ Err (later more f)
whole-more bytes more f e other = elim (whole_stops bytes f e) [
  | inl stopped ↦ rw (message_goes.err bytes bytes more f stopped other) refl
  | inr t ↦ trails_more bytes more f t
]

-- ---- places

-- where a fault was placed
record IsPlaced (size : ℕ) (read : Result (List FieldData) Fault) (fault : DecodeFault) : Type 0 where
  found : Fault
  read_is : read ≡ Err found
  fault_is : broken found.rule (size - found.left) ≡ fault

abbrev answered : DecodeFault → Result (List FieldData) DecodeFault
answered fault = Err fault

answered_is : (a b : DecodeFault) → answered a ≡ answered b → a ≡ b
answered_is a b e = cc

placed_at : (size : ℕ) (read : Result (List FieldData) Fault) (fault : DecodeFault) → placed size read ≡ Err fault → IsPlaced size read fault
placed_at size (Ok m) fault e = absurd cc
placed_at size (Err f) fault e = record { found = f; read_is = refl; fault_is = answered_is (broken f.rule (size - f.left)) fault e }

broken-truncated : (rule : Rule) (at place : ℕ) → broken rule at ≡ faults.Truncated place → (rule ≡ rules.Truncated) × (at ≡ place)
broken-truncated rules.Truncated at place e = (refl, cc)
broken-truncated rules.BadTag at place e = absurd cc
broken-truncated rules.BadText at place e = absurd cc
broken-truncated rules.Repeated at place e = absurd cc
broken-truncated rules.TooMany at place e = absurd cc
broken-truncated rules.OldForm at place e = absurd cc
broken-truncated rules.Trailing at place e = absurd cc

-- the end of the bytes is at their end
pub decoded-truncated : (bytes : List ℕ) (place : ℕ) → decoded bytes ≡ Err (faults.Truncated place) → place ≡ length bytes
decoded-truncated bytes place e =
    let p = placed_at (length bytes) (whole bytes) (faults.Truncated place) e in
    let t = broken-truncated p.found.rule (length bytes - p.found.left) place p.fault_is in
    omega (arith, t.1, whole-truncated bytes p.found p.read_is t.0)

-- a fault other than the end of the bytes is found whatever follows
pub decoded-more : (bytes more : List ℕ) (fault : DecodeFault) → decoded bytes ≡ Err fault → ((place : ℕ) → fault ≢ faults.Truncated place) → decoded (bytes ++ more) ≡ Err fault
decoded-more bytes more fault e other =
    let p = placed_at (length bytes) (whole bytes) fault e in
    let f = p.found in
    let not_end : f.rule ≢ rules.Truncated = λ is. other (length bytes - f.left) (sym p.fault_is ∙ ap (λ (rule : Rule). broken rule (length bytes - f.left)) is) in
    let place : length (bytes ++ more) - (f.left + length more) ≡ length bytes - f.left = omega (arith, length-append bytes more) in
    ap (placed (length (bytes ++ more))) (whole-more bytes more f p.read_is not_end)
    ∙ ap (λ (k : ℕ). answered (broken f.rule k)) place ∙ ap answered p.fault_is
