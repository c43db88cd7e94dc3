-- What comes out of a link with cuts and without them, place by place.
use Rattle.std.proofs.Common.{◌≡◌, ℕ, ◌+◌, ◌==◌, Bool, true, false, not, List, [], ◌∷◌, ◌++◌, length, filter, Option, None, Some, is_some, refl, sym, ◌∙◌, ap, inl, inr, eqb-true, subst, if◌then◌else◌}
use Rattle.std.specs.Option.{option_or}
use Rattle.std.specs.List.{AllByRecursion, AllZip, flat_map, range_with_len}
use Rattle.mama_link.specs.declared.faults.Fault.{Fault}
use Rattle.mama_link.specs.declared.faults.Fault.TheVariants.{Lose, Dup, Hold, Cut}
use Rattle.mama_link.specs.declared.faults.FaultRow.{FaultRow}
use Rattle.mama_link.specs.Faults.{fault_at, fault_of_row, first_fault, first_fault_after}
use Rattle.mama_link.specs.Link.{is_held_until, is_held_after, is_due, is_held, copies, own, numbered, messages, emit, held, rest, through}
use Rattle.mama_link.specs.Laws.{is_cut, uncut, IsWholeOrCut, CutsKeepAll, CutsNothing, LongCutsAreNone}
use Rattle.mama_link.proofs.CursorLemmas.{none-first, none-then}
use Rattle.mama_link.proofs.FaultLemmas.{fault_at-append, good_row_is_new}

-- ---- what the rows without cuts tell

-- a fault that is no cut
abbrev plain : Option Fault → Option Fault
plain None = None
plain (Some Lose) = Some Lose
plain (Some Dup) = Some Dup
plain (Some (Hold by)) = Some (Hold by)
plain (Some (Cut keep)) = None

or_some : (o p : Option Fault) → is_some o ≡ true → is_some (option_or o p) ≡ true
or_some None p h = absurd cc
or_some (Some f) p h = refl

none_some : (o : Option Fault) → o ≡ None → is_some o ≡ true → ⊥
none_some None e h = absurd cc
none_some (Some f) e h = absurd cc

-- no row has the index of one before it
alone : (before rows : List FaultRow) (i : ℕ) → first_fault_after before rows ≡ None → is_some (fault_at before i) ≡ true → fault_at rows i ≡ None
alone before [] i h some = refl
alone before (row ∷ rows) i h some =
    let good = none-first (fault_of_row before row) (first_fault_after (before ++ row ∷ []) rows) h in
    let free : fault_at before row.index ≡ None = good_row_is_new before row good in
    let still : is_some (fault_at (before ++ row ∷ []) i) ≡ true = ap is_some (fault_at-append before row i) ∙ or_some (fault_at before i) (if row.index == i then Some row.fault else None) some in
    let later = alone (before ++ row ∷ []) rows i (none-then (fault_of_row before row) (first_fault_after (before ++ row ∷ []) rows) h) still in
    by_test (row.index == i) refl free later
  where
    by_test : (b : Bool) → (row.index == i) ≡ b → fault_at before row.index ≡ None → fault_at rows i ≡ None → (if b then Some row.fault else fault_at rows i) ≡ None
    by_test true same free later = absurd (none_some (fault_at before i) (ap (fault_at before) (sym (eqb-true row.index i same)) ∙ free) some)
    by_test false other free later = later

plain-kept : (fault : Fault) → is_cut fault ≡ false → plain (Some fault) ≡ Some fault
plain-kept Lose h = refl
plain-kept Dup h = refl
plain-kept (Hold by) h = refl
plain-kept (Cut keep) h = absurd cc

plain-cut : (fault : Fault) → is_cut fault ≡ true → plain (Some fault) ≡ None
plain-cut Lose h = absurd cc
plain-cut Dup h = absurd cc
plain-cut (Hold by) h = absurd cc
plain-cut (Cut keep) h = refl

told_after : (before rows : List FaultRow) (i : ℕ) → first_fault_after before rows ≡ None → fault_at (uncut rows) i ≡ plain (fault_at rows i)
told_after before [] i h = refl
told_after before (row ∷ rows) i h =
    let rest_sound = none-then (fault_of_row before row) (first_fault_after (before ++ row ∷ []) rows) h in
    let later = told_after (before ++ row ∷ []) rows i rest_sound in
    by_cut (is_cut row.fault) refl (row.index == i) refl later rest_sound
  where
    here : (b : Bool) → (row.index == i) ≡ b → b ≡ true → is_some (fault_at (before ++ row ∷ []) i) ≡ true
    here true same h = ap is_some (fault_at-append before row i) ∙ some_or (fault_at before i) (row.index == i) same
      where
        some_or : (o : Option Fault) (b : Bool) → b ≡ true → is_some (option_or o (if b then Some row.fault else None)) ≡ true
        some_or None true e = refl
        some_or None false e = absurd cc
        some_or (Some f) b e = refl
    here false other h = absurd cc

    by_cut : (c : Bool) → is_cut row.fault ≡ c → (b : Bool) → (row.index == i) ≡ b → fault_at (uncut rows) i ≡ plain (fault_at rows i) → first_fault_after (before ++ row ∷ []) rows ≡ None →
        fault_at (if not c then row ∷ uncut rows else uncut rows) i ≡ plain (if b then Some row.fault else fault_at rows i)
    by_cut false kept true same later sound = rw same (sym (plain-kept row.fault kept))
    by_cut false kept false other later sound = rw other later
    by_cut true cuts true same later sound = later ∙ ap plain (alone (before ++ row ∷ []) rows i sound (here true same refl)) ∙ sym (plain-cut row.fault cuts)
    by_cut true cuts false other later sound = later

told : (rows : List FaultRow) (i : ℕ) → first_fault rows ≡ None → fault_at (uncut rows) i ≡ plain (fault_at rows i)
told rows i sound = told_after [] rows i sound

-- ---- what is held does not change

until-plain : (place i : ℕ) (fault : Option Fault) → is_held_until place i (plain fault) ≡ is_held_until place i fault
until-plain place i None = refl
until-plain place i (Some Lose) = refl
until-plain place i (Some Dup) = refl
until-plain place i (Some (Hold by)) = refl
until-plain place i (Some (Cut keep)) = refl

after-plain : (place i : ℕ) (fault : Option Fault) → is_held_after place i (plain fault) ≡ is_held_after place i fault
after-plain place i None = refl
after-plain place i (Some Lose) = refl
after-plain place i (Some Dup) = refl
after-plain place i (Some (Hold by)) = refl
after-plain place i (Some (Cut keep)) = refl

filter-same : {X : Type 0} (p q : X → Bool) → ((e : X) → p e ≡ q e) → (es : List X) → filter p es ≡ filter q es
filter-same p q same [] = refl
filter-same p q same (e ∷ es) = rw (same e, filter-same p q same es) refl

module _ {T : Type 0} (rows : List FaultRow) (sound : first_fault rows ≡ None) (x : List T) where
  due-same : (place : ℕ) → messages (filter (is_due (uncut rows) place) (numbered x)) ≡ messages (filter (is_due rows place) (numbered x))
  due-same place = ap messages (filter-same (is_due (uncut rows) place) (is_due rows place) (λ e. ap (is_held_until place e.0) (told rows e.0 sound) ∙ until-plain place e.0 (fault_at rows e.0)) (numbered x))

  rest-same : rest (uncut rows) x ≡ rest rows x
  rest-same = ap messages (filter-same (is_held (uncut rows) (length x)) (is_held rows (length x)) (λ e. ap (is_held_after (length x) e.0) (told rows e.0 sound) ∙ after-plain (length x) e.0 (fault_at rows e.0)) (numbered x))

-- ---- one by one

zip-refl : {X : Type 0} (R : X → X → Type 0) → ((e : X) → R e e) → (es : List X) → AllZip R es es
zip-refl R same [] = tt
zip-refl R same (e ∷ es) = (same e, zip-refl R same es)

zip-append : {X : Type 0} (R : X → X → Type 0) (a b c d : List X) → AllZip R a b → AllZip R c d → AllZip R (a ++ c) (b ++ d)
zip-append R [] [] c d p q = q
zip-append R [] (y ∷ b) c d p q = absurd p
zip-append R (x ∷ a) [] c d p q = absurd p
zip-append R (x ∷ a) (y ∷ b) c d p q = (p.0, zip-append R a b c d p.1 q)

zip-flat_map : {X Y : Type 0} (R : Y → Y → Type 0) (f g : X → List Y) → ((e : X) → AllZip R (f e) (g e)) → (es : List X) → AllZip R (flat_map f es) (flat_map g es)
zip-flat_map R f g each [] = tt
zip-flat_map R f g each (e ∷ es) = zip-append R (f e) (g e) (flat_map f es) (flat_map g es) (each e) (zip-flat_map R f g each es)

module _ {T : Type 0} (cut : ℕ → T → T) where
  whole : (message : T) → IsWholeOrCut cut message message
  whole message = inl refl

  copies-zip : (fault : Option Fault) (message : T) → AllZip (IsWholeOrCut cut) (copies cut (plain fault) message) (copies cut fault message)
  copies-zip None message = (whole message, tt)
  copies-zip (Some Lose) message = tt
  copies-zip (Some Dup) message = (whole message, (whole message, tt))
  copies-zip (Some (Hold by)) message = tt
  copies-zip (Some (Cut keep)) message = (inr (keep, refl), tt)

  own-zip : (rows : List FaultRow) → first_fault rows ≡ None → (e : ℕ × T) → AllZip (IsWholeOrCut cut) (own cut (uncut rows) e) (own cut rows e)
  own-zip rows sound e =
      let Zips : Option Fault → Type 0 = λ fault. AllZip (IsWholeOrCut cut) (copies cut fault e.1) (own cut rows e) in
      subst Zips (sym (told rows e.0 sound)) (copies-zip (fault_at rows e.0) e.1)

  emit-zip : (rows : List FaultRow) → first_fault rows ≡ None → (x : List T) (place : ℕ) → AllZip (IsWholeOrCut cut) (emit cut (uncut rows) x place) (emit cut rows x place)
  emit-zip rows sound x place =
      let at : List (ℕ × T) = filter (λ (entry : ℕ × T). entry.0 == place) (numbered x) in
      let due : List T = messages (filter (is_due rows place) (numbered x)) in
      let Zips : List T → Type 0 = λ ends. AllZip (IsWholeOrCut cut) (flat_map (own cut (uncut rows)) at ++ ends) (emit cut rows x place) in
      subst Zips (sym (due-same rows sound x place))
      (zip-append (IsWholeOrCut cut) (flat_map (own cut (uncut rows)) at) (flat_map (own cut rows) at) due due
      (zip-flat_map (IsWholeOrCut cut) (own cut (uncut rows)) (own cut rows) (own-zip rows sound) at) (zip-refl (IsWholeOrCut cut) whole due))

pub cuts_keep_all : {T : Type 0} → CutsKeepAll T
cuts_keep_all {T} cut rows x sound =
    let places : List ℕ = range_with_len 1 (length x) in
    let Zips : List T → Type 0 = λ ends. AllZip (IsWholeOrCut cut) (flat_map (emit cut (uncut rows) x) places ++ ends) (through cut rows x) in
    subst Zips (sym (rest-same rows sound x))
    (zip-append (IsWholeOrCut cut) (flat_map (emit cut (uncut rows) x) places) (flat_map (emit cut rows x) places) (rest rows x) (rest rows x)
    (zip-flat_map (IsWholeOrCut cut) (emit cut (uncut rows) x) (emit cut rows x) (emit-zip cut rows sound x) places) (zip-refl (IsWholeOrCut cut) (whole cut) (rest rows x)))

-- ---- cuts that change nothing

flat_map-filter : {X Y : Type 0} (f g : X → List Y) (p : X → Bool) (es : List X) → AllByRecursion (λ (e : X). f e ≡ g e) es → flat_map f (filter p es) ≡ flat_map g (filter p es)
flat_map-filter f g p [] h = refl
flat_map-filter {X} {Y} f g p (e ∷ es) h = by_test (p e) (flat_map-filter f g p es h.1)
  where
    by_test : (b : Bool) → flat_map f (filter p es) ≡ flat_map g (filter p es) → flat_map f (if b then e ∷ filter p es else filter p es) ≡ flat_map g (if b then e ∷ filter p es else filter p es)
    by_test true later = rw (h.0, later) refl
    by_test false later = later

flat_map-same : {X Y : Type 0} (f g : X → List Y) → ((e : X) → f e ≡ g e) → (es : List X) → flat_map f es ≡ flat_map g es
flat_map-same f g same [] = refl
flat_map-same f g same (e ∷ es) = rw (same e, flat_map-same f g same es) refl

copies-same : {T : Type 0} (cut : ℕ → T → T) (fault : Option Fault) (message : T) → ((keep : ℕ) → fault ≡ Some (Cut keep) → cut keep message ≡ message) → copies cut fault message ≡ copies cut (plain fault) message
copies-same cut None message h = refl
copies-same cut (Some Lose) message h = refl
copies-same cut (Some Dup) message h = refl
copies-same cut (Some (Hold by)) message h = refl
copies-same {T} cut (Some (Cut keep)) message h = ap (λ (m : T). m ∷ []) (h keep refl)

owns-same : {T : Type 0} (cut : ℕ → T → T) (rows : List FaultRow) → first_fault rows ≡ None → (es : List (ℕ × T))
    → AllByRecursion (CutsNothing cut rows) es → AllByRecursion (λ (e : ℕ × T). own cut rows e ≡ own cut (uncut rows) e) es
owns-same cut rows sound [] h = tt
owns-same {T} cut rows sound (e ∷ es) h = (
  copies-same cut (fault_at rows e.0) e.1 h.0 ∙ ap (λ (fault : Option Fault). copies cut fault e.1) (sym (told rows e.0 sound)),
  owns-same cut rows sound es h.1,
)

pub long_cuts_are_none : {T : Type 0} → LongCutsAreNone T
long_cuts_are_none {T} cut rows x sound nothing =
    let owns = owns-same cut rows sound (numbered x) nothing in
    let emits : (place : ℕ) → emit cut rows x place ≡ emit cut (uncut rows) x place =
    λ place.
    let due = due-same rows sound x place in
    let at = flat_map-filter (own cut rows) (own cut (uncut rows)) (λ (entry : ℕ × T). entry.0 == place) (numbered x) owns in
    rw (at, due) refl in
    let all = flat_map-same (emit cut rows x) (emit cut (uncut rows) x) emits (range_with_len 1 (length x)) in
    rw (all, rest-same rows sound x) refl
