-- What a pass puts out and leaves, by the slots.
use Rattle.std.proofs.Common.{◌≡◌, ℕ, ◌+◌, ◌<◌, ◌≤◌, Bool, not, List, [], ◌∷◌, ◌++◌, length, filter, Option, None, Some, is_some, refl, sym, ◌∙◌, ap, arith, append-nil, length-append, subst, ◌-◌, get_or, if◌then◌else◌}
use Rattle.std.specs.Prelude.{option_to_list, IsSome, slice_get}
use Rattle.std.specs.List.{flat_map}
use Rattle.std.proofs.lemmas.List.Elements.{recursion_from_All}
use Rattle.std.proofs.lemmas.List.Filters.{length-filter_both}
use Rattle.std.proofs.lemmas.List.{length-map}
use Rattle.mama_link.specs.declared.faults.Fault.{Fault}
use Rattle.mama_link.specs.declared.faults.FaultRow.{FaultRow}
use Rattle.mama_link.specs.Faults.{fault_at}
use Rattle.mama_link.specs.Table.{IsTable, slots_due, table_of}
use Rattle.mama_link.specs.Link.{is_due, messages, copies, emit}
use Rattle.mama_link.specs.Standing.{coming, Standing, StandsFor, LinkData}
use Rattle.mama_link.specs.Steps.{held_back, at_place}
use Rattle.mama_link.specs.Prepared.{Readied, IsPreparedFor}
use Rattle.mama_link.specs.Slots.{no_entry, fault_here, held_in, without_due, found_at, taken_at, emptied_at, IsCaughtUp, IsKept}
use Rattle.mama_link.proofs.SlotLemmas.{AreTold, held_in-push, due-held_in, kept-held_in, length-without_due, length-held_in, found_at-due, taken_at-due, emptied_at-due, messages-held_in}
use Rattle.mama_link.proofs.CursorLemmas.{cursor_tells, is_next, caught_up-fault, caught_up-none, holds_by_more}
use Rattle.mama_link.proofs.LinkLemmas.{stands-next, coming-is-emit}

length-at_place : {T : Type 0} (place : ℕ) (message : Option T) → length (at_place place message) ≡ length (option_to_list message)
length-at_place place None = refl
length-at_place place (Some message) = refl

-- what a pass does at a place, where the message has this fault if any
pub record PassEnds {T : Type 0} (cut : ℕ → T → T) (rows : List FaultRow) (table : List (ℕ × Fault)) (passed count : ℕ) (slots : List (Option T)) (fault : Option Fault) (message : T) (place : ℕ) : Type 0 where
  pub lengths : length (coming cut (record { rows = rows; passed = passed; held = held_in table slots }) message) ≡ length (copies cut fault message) + length (taken_at (slots_due place 0 table) slots)
  pub fewer : length (taken_at (slots_due place 0 table) slots) ≤ count
  pub fits : count ≤ length slots
  pub long : length (emptied_at (slots_due place 0 table) slots) ≡ length slots
  pub kept : IsKept table place (count - length (taken_at (slots_due place 0 table) slots) + length (option_to_list (held_back fault message)))
      (if is_some fault then emptied_at (slots_due place 0 table) slots ++ held_back fault message ∷ [] else emptied_at (slots_due place 0 table) slots)
  pub out : (x : List T) → StandsFor x (record { rows = rows; passed = passed; held = held_in table slots }) →
      copies cut fault message ++ taken_at (slots_due place 0 table) slots ≡ emit cut rows (x ++ message ∷ []) (length x + 1)
  pub standing : (x : List T) → StandsFor x (record { rows = rows; passed = passed; held = held_in table slots }) →
      StandsFor (x ++ message ∷ []) (record {
        rows = rows;
        passed = place;
        held = held_in table
            (if is_some fault then emptied_at (slots_due place 0 table) slots ++ held_back fault message ∷ [] else emptied_at (slots_due place 0 table) slots);
      })

module _ {T : Type 0} (cut : ℕ → T → T) (rows : List FaultRow) (table : List (ℕ × Fault)) (passed : ℕ) (slots : List (Option T)) (is : IsTable rows table) (caught : IsCaughtUp table passed (length slots)) where
  are_told : AreTold rows table
  are_told = recursion_from_All (λ (e : ℕ × Fault). fault_at rows e.0 ≡ Some e.1) table is.told

  -- the messages found in the slots that are due are those held until there
  pub found-is-due : found_at (slots_due (passed + 1) 0 table) slots ≡ messages (filter (is_due rows (passed + 1)) (held_in table slots))
  found-is-due = found_at-due (passed + 1) 0 table [] slots refl ∙ sym (due-held_in rows (passed + 1) table slots are_told)

  -- emptying them takes those
  pub taken-is-due : taken_at (slots_due (passed + 1) 0 table) slots ≡ messages (filter (is_due rows (passed + 1)) (held_in table slots))
  taken-is-due = taken_at-due (passed + 1) 0 table [] slots refl ∙ sym (due-held_in rows (passed + 1) table slots are_told)

  emptied-is : emptied_at (slots_due (passed + 1) 0 table) slots ≡ without_due (passed + 1) table slots
  emptied-is = emptied_at-due (passed + 1) 0 table [] slots refl

  long : length (without_due (passed + 1) table slots) ≡ length slots
  long = length-without_due (passed + 1) table slots caught.within

  -- what is held when the slots that are due are emptied, and the next message's slot is added where it has a fault
  pub held-by : (o : Option Fault) → fault_at rows (passed + 1) ≡ o → (message : T) →
      held_in table (if is_some o then emptied_at (slots_due (passed + 1) 0 table) slots ++ held_back o message ∷ [] else emptied_at (slots_due (passed + 1) 0 table) slots)
      ≡ filter (λ (entry : ℕ × T). not (is_due rows (passed + 1) entry)) (held_in table slots) ++ at_place (passed + 1) (held_back o message)
  held-by None none message =
      ap (held_in table) emptied-is ∙ sym (kept-held_in rows (passed + 1) table slots are_told) ∙ sym (append-nil _)
  held-by (Some fault) some message =
      let here = is_next rows table passed (length slots) is caught fault some in
      let within : length (without_due (passed + 1) table slots) < length table = omega (arith, long, here.0) in
      let key : (get_or table (length (without_due (passed + 1) table slots)) no_entry).0 ≡ passed + 1 = ap (λ (n : ℕ). (get_or table n no_entry).0) long ∙ here.1 in
      ap (λ (ss : List (Option T)). held_in table (ss ++ held_back (Some fault) message ∷ [])) emptied-is
      ∙ held_in-push table (without_due (passed + 1) table slots) (held_back (Some fault) message) within
      ∙ ap (λ (n : ℕ). held_in table (without_due (passed + 1) table slots) ++ at_place n (held_back (Some fault) message)) key
      ∙ ap (λ (es : List (ℕ × T)). es ++ at_place (passed + 1) (held_back (Some fault) message)) (sym (kept-held_in rows (passed + 1) table slots are_told))

  -- and the cursor is caught up again
  pub caught_up-by : (o : Option Fault) → fault_at rows (passed + 1) ≡ o → (message : T) →
      IsCaughtUp table (passed + 1) (length (if is_some o then emptied_at (slots_due (passed + 1) 0 table) slots ++ held_back o message ∷ [] else emptied_at (slots_due (passed + 1) 0 table) slots))
  caught_up-by None none message = rw (emptied-is, long) (caught_up-none rows table passed (length slots) is caught none)
  caught_up-by (Some fault) some message =
      rw (emptied-is, length-append (without_due (passed + 1) table slots) (held_back (Some fault) message ∷ []), long) (caught_up-fault rows table passed (length slots) is caught fault some)

  -- as many are held as were, without those due, and with the next message where it is held
  pub counted : (o : Option Fault) (message : T) →
      length (filter (λ (entry : ℕ × T). not (is_due rows (passed + 1) entry)) (held_in table slots) ++ at_place (passed + 1) (held_back o message))
      + length (messages (filter (is_due rows (passed + 1)) (held_in table slots)))
      ≡ length (held_in table slots) + length (option_to_list (held_back o message))
  counted o message =
      let due : ℕ × T → Bool = is_due rows (passed + 1) in
      let other : ℕ × T → Bool = λ (entry : ℕ × T). not (is_due rows (passed + 1) entry) in
      let parts = length-filter_both due other (λ (e : ℕ × T). refl) (held_in table slots) in
      let ends = length-append (filter other (held_in table slots)) (at_place (passed + 1) (held_back o message)) in
      let named = length-map (filter due (held_in table slots)) (λ (entry : ℕ × T). entry.1) in
      let one = length-at_place (passed + 1) (held_back o message) in
      omega arith

  pub pass_ends-next : (count : ℕ) → count ≡ length (held_in table slots) → (fault : Option Fault) → fault_at rows (passed + 1) ≡ fault → (message : T) → PassEnds cut rows table passed count slots fault message (passed + 1)
  pass_ends-next count counts fault tells message =
      let standing : Standing T = record { rows = rows; passed = passed; held = held_in table slots } in
      let due : List T = messages (filter (is_due rows (passed + 1)) (held_in table slots)) in
      let other : List (ℕ × T) = filter (λ (entry : ℕ × T). not (is_due rows (passed + 1) entry)) (held_in table slots) in
      let taken : length (taken_at (slots_due (passed + 1) 0 table) slots) ≡ length due = ap length taken-is-due in
      let copied : copies cut (fault_at rows (passed + 1)) message ≡ copies cut fault message = ap (λ (f : Option Fault). copies cut f message) tells in
      let sum : length other + length due ≡ length (held_in table slots) = omega (arith, length-filter_both (is_due rows (passed + 1)) (λ (entry : ℕ × T). not (is_due rows (passed + 1) entry)) (λ (e : ℕ × T). refl) (held_in table slots), length-map (filter (is_due rows (passed + 1)) (held_in table slots)) (λ (entry : ℕ × T). entry.1)) in
      let held = held-by fault tells message in
      let holds = holds_by_more rows is.sound in
      let with_held : List (ℕ × T) → Standing T = λ es. record { rows = rows; passed = passed + 1; held = es } in
      record {
        lengths = ap (λ (own : List T). length (own ++ due)) copied ∙ length-append (copies cut fault message) due ∙ ap (λ (n : ℕ). length (copies cut fault message) + n) (sym taken);
        fewer = omega (arith, sum, taken, counts);
        fits = omega (arith, counts, length-held_in table slots);
        long = ap length emptied-is ∙ long;
        kept = record {
          caught_up = caught_up-by fault tells message;
          counted = omega (arith, counted fault message, ap length held, taken, counts, sum);
        };
        out = λ x stands. ap (λ (own : List T). own ++ taken_at (slots_due (passed + 1) 0 table) slots) (sym copied)
            ∙ ap (λ (ends : List T). copies cut (fault_at rows (passed + 1)) message ++ ends) taken-is-due
            ∙ coming-is-emit cut standing x message holds stands;
        standing = λ x stands.
            let Stands : Standing T → Type 0 = StandsFor (x ++ message ∷ []) in
            subst Stands (ap with_held (ap (λ (f : Option Fault). other ++ at_place (passed + 1) (held_back f message)) tells ∙ sym held)) (stands-next standing x message holds stands);
      }

-- the same at the place of a prepared pass
pub pass_ends : {T : Type 0} (cut : ℕ → T → T) (rows : List FaultRow) (table : List (ℕ × Fault)) (passed count : ℕ) (slots : List (Option T)) → IsTable rows table → IsKept table passed count slots →
    (fault : Option Fault) (message : T) (place : ℕ) → place ≡ passed + 1 → fault ≡ fault_at rows place → PassEnds cut rows table passed count slots fault message place
pass_ends cut rows table passed count slots is kept fault message place next tells =
    let Ends : ℕ → Type 0 = λ n. PassEnds cut rows table passed count slots fault message n in
    subst Ends (sym next) (pass_ends-next cut rows table passed slots is kept.caught_up count kept.counted fault (sym (tells ∙ ap (fault_at rows) next)) message)

-- what a prepared pass does, by the link as contracts see it
pub record PreparedEnds {T : Type 0} (cut : ℕ → T → T) (rows : List FaultRow) (passed count room : ℕ) (slots : List (Option T)) (link : LinkData T) (prepared : Readied T) : Type 0 where
  pub len : prepared.len ≡ length (copies cut prepared.fault prepared.message) + length (taken_at (slots_due prepared.place 0 (table_of rows)) slots)
  pub room_for : IsSome prepared.fault → 0 < room
  pub ends : PassEnds cut rows (table_of rows) passed count slots prepared.fault prepared.message prepared.place
  pub rows_are : link.standing.rows ≡ rows
  pub out : (x : List T) → StandsFor x link.standing →
      copies cut prepared.fault prepared.message ++ taken_at (slots_due prepared.place 0 (table_of rows)) slots ≡ emit cut link.standing.rows (x ++ prepared.message ∷ []) (length x + 1)
  pub standing : (x : List T) → StandsFor x link.standing →
      StandsFor (x ++ prepared.message ∷ []) (record {
        rows = rows;
        passed = prepared.place;
        held = held_in (table_of rows)
            (if is_some prepared.fault then emptied_at (slots_due prepared.place 0 (table_of rows)) slots ++ held_back prepared.fault prepared.message ∷ [] else emptied_at (slots_due prepared.place 0 (table_of rows)) slots);
      })

-- a link as contracts see it, from its parts
abbrev pub seen : {T : Type 0} → List FaultRow → ℕ → ℕ → List (Option T) → LinkData T
seen rows passed room slots = record { standing = record { rows = rows; passed = passed; held = held_in (table_of rows) slots }; room = room }

seen_ends : {T : Type 0} (cut : ℕ → T → T) (rows : List FaultRow) (passed count room : ℕ) (slots : List (Option T)) → IsTable rows (table_of rows) → IsKept (table_of rows) passed count slots →
    (prepared : Readied T) → IsPreparedFor cut (seen rows passed room slots) prepared → PreparedEnds cut rows passed count room slots (seen rows passed room slots) prepared
seen_ends cut rows passed count room slots is kept prepared for =
    let ends = pass_ends cut rows (table_of rows) passed count slots is kept prepared.fault prepared.message prepared.place for.place for.fault in
    record {
      len = for.len ∙ ends.lengths;
      room_for = for.room;
      ends = ends;
      rows_are = refl;
      out = ends.out;
      standing = ends.standing;
    }

pub prepared_ends : {T : Type 0} (cut : ℕ → T → T) (rows : List FaultRow) (passed count room : ℕ) (slots : List (Option T)) (link : LinkData T) → seen rows passed room slots ≡ link →
    IsTable rows (table_of rows) → IsKept (table_of rows) passed count slots → (prepared : Readied T) → IsPreparedFor cut link prepared → PreparedEnds cut rows passed count room slots link prepared
prepared_ends {T} cut rows passed count room slots link is_seen is kept prepared for =
    let Ends : LinkData T → Type 0 = λ l. IsPreparedFor cut l prepared → PreparedEnds cut rows passed count room slots l prepared in
    subst Ends is_seen (seen_ends cut rows passed count room slots is kept prepared) for

pub kept_along : {T : Type 0} (table : List (ℕ × Fault)) (passed passed' count count' : ℕ) (slots slots' : List (Option T)) → IsKept table passed count slots →
    passed' ≡ passed → count' ≡ count → slots' ≡ slots → IsKept table passed' count' slots'
kept_along table passed passed' count count' slots slots' kept p n s = rw (p, n, s) kept

pub standing_along : {T : Type 0} (rows : List FaultRow) (x : List T) (passed passed' : ℕ) (slots slots' : List (Option T)) →
    StandsFor x (record { rows = rows; passed = passed; held = held_in (table_of rows) slots }) → passed' ≡ passed → slots' ≡ slots →
    StandsFor x (record { rows = rows; passed = passed'; held = held_in (table_of rows) slots' })
standing_along {T} rows x passed passed' slots slots' stands p s =
    let at_passed : ℕ → Type 0 = λ n. StandsFor x (record { rows = rows; passed = n; held = held_in (table_of rows) slots' }) in
    let at_slots : List (Option T) → Type 0 = λ ss. StandsFor x (record { rows = rows; passed = passed; held = held_in (table_of rows) ss }) in
    subst at_passed (sym p) (subst at_slots (sym s) stands)

pub length-option_to_list : {T : Type 0} (o : Option T) → length (option_to_list o) ≤ 1
length-option_to_list None = omega arith
length-option_to_list (Some x) = omega arith

-- ---- before a pass

-- what is made ready for the next pass is prepared for the link
pub is_prepared : {T : Type 0} (cut : ℕ → T → T) (rows : List FaultRow) (passed count room : ℕ) (slots : List (Option T)) → IsTable rows (table_of rows) → IsKept (table_of rows) passed count slots →
    (fault : Option Fault) (message : T) (due : ℕ) → fault ≡ fault_here (slice_get (table_of rows) (length slots)) (passed + 1) → due ≡ length (found_at (slots_due (passed + 1) 0 (table_of rows)) slots) →
    (IsSome fault → 0 < room) → IsPreparedFor cut (seen rows passed room slots) (record { place = passed + 1; fault = fault; message = message; len = length (copies cut fault message) + due })
is_prepared {T} cut rows passed count room slots is kept fault message due here counts room_for =
    let tells : fault ≡ fault_at rows (passed + 1) = here ∙ cursor_tells rows (table_of rows) passed (length slots) is kept.caught_up in
    let ends : List T = messages (filter (is_due rows (passed + 1)) (held_in (table_of rows) slots)) in
    record {
      place = refl;
      fault = tells;
      len = ap (λ (n : ℕ). length (copies cut fault message) + n) (counts ∙ ap length (found-is-due cut rows (table_of rows) passed slots is kept.caught_up))
          ∙ sym (length-append (copies cut fault message) ends) ∙ ap (λ (f : Option Fault). length (copies cut f message ++ ends)) tells;
      room = room_for;
    }

-- its length is that of what its place emits
pub prepared_len : {T : Type 0} (cut : ℕ → T → T) (rows : List FaultRow) (passed room : ℕ) (slots : List (Option T)) → IsTable rows (table_of rows) → (prepared : Readied T) →
    IsPreparedFor cut (seen rows passed room slots) prepared → (x : List T) → StandsFor x (seen rows passed room slots).standing → prepared.len ≡ length (emit cut rows (x ++ prepared.message ∷ []) (length x + 1))
prepared_len cut rows passed room slots is prepared for x stands =
    for.len ∙ ap length (coming-is-emit cut (seen rows passed room slots).standing x prepared.message (holds_by_more rows is.sound) stands)

-- ---- the end

-- as many messages stand in slots as are counted
pub length-slots : {T : Type 0} (table : List (ℕ × Fault)) (passed count : ℕ) (slots : List (Option T)) → IsKept table passed count slots → length (flat_map option_to_list slots) ≡ count
length-slots table passed count slots kept =
    ap length (sym (messages-held_in table slots kept.caught_up.within)) ∙ length-map (held_in table slots) (λ (entry : ℕ × _). entry.1) ∙ sym kept.counted

-- they are the messages held, in order of number
pub slots-are-held : {T : Type 0} (rows : List FaultRow) (passed count room : ℕ) (slots : List (Option T)) (link : LinkData T) → seen rows passed room slots ≡ link → IsKept (table_of rows) passed count slots →
    flat_map option_to_list slots ≡ messages link.standing.held
slots-are-held {T} rows passed count room slots link is_seen kept =
    sym (messages-held_in (table_of rows) slots kept.caught_up.within) ∙ ap (λ (l : LinkData T). messages l.standing.held) is_seen

-- as many as are held
pub length-messages : {T : Type 0} (entries : List (ℕ × T)) → length (messages entries) ≡ length entries
length-messages entries = length-map entries (λ (entry : ℕ × _). entry.1)
