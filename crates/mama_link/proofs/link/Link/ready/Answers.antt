use Rattle.std.proofs.Common.{rules, ◌≡◌, ◌<◌, ◌∙◌, ◌+◌, ◌-◌, ◌++◌, ◌∷◌, [], ℕ, List, Option, IsSome, IsTrue, sym, ap, arith, length, subst, slice_get}
use Rattle.std.specs.Vec.{vec_capacity, vec_len}
use Rattle.std.proofs.lemmas.Result.{IfOk-weaker}
use Rattle.mama_link.specs.declared.faults.Fault.{Fault}
use Rattle.mama_link.specs.declared.faults.FaultRow.{FaultRow}
use Rattle.mama_link.specs.Table.{table_of, slots_due}
use Rattle.mama_link.specs.Link.{emit}
use Rattle.mama_link.specs.Standing.{LinkData, StandsFor}
use Rattle.mama_link.specs.Prepared.{Readied, IsPreparedFor}
use Rattle.mama_link.specs.Slots.{fault_here, found_at, IsKept}
use Rattle.mama_link.proofs.PassLemmas.{seen, is_prepared, prepared_len}
use Rattle.mama_link.proofs.link.Link.ready.Goals as goal

pub returns-clause-prepared : goal.returns-clause-prepared
returns-clause-prepared g c =
    let slots = c.make_room.new.slots in
    let table = table_of c.self.inside.faults in
    let kept : IsKept table c.self.inside.passed c.self.inside.held slots.items = rw c.make_room.ensures.slots c.self.invariant in
    let ok = c.self.inside.slots.ok in
    let long : c.len.result ≡ length slots.items = omega (arith, ap length c.make_room.ensures.slots, ok, c.len.ensures) in
    let here : c.fault_at_cursor-fault.result ≡ fault_here (slice_get table (length slots.items)) (c.self.inside.passed + 1) =
    c.fault_at_cursor-fault.ensures ∙ ap (λ (es : List (ℕ × Fault)). fault_here (slice_get es c.len.result) (c.self.inside.passed + 1)) c.table.ensures.table
    ∙ ap (λ (n : ℕ). fault_here (slice_get table n) (c.self.inside.passed + 1)) long in
    let due : c.count_found-due.result ≡ length (found_at (slots_due (c.self.inside.passed + 1) 0 table) slots.items) =
    c.count_found-due.ensures.count ∙ ap (λ (ds : List ℕ). length (found_at ds c.as_slice.result.now)) c.due_at.ensures.due
    ∙ ap (λ (ss : List (Option _)). length (found_at (slots_due (c.self.inside.passed + 1) 0 table) ss)) c.as_slice.ensures.value in
    let room_for : IsSome c.fault_at_cursor-fault.result → 0 < vec_capacity slots - vec_len slots =
    λ some.
    let faulty : IsTrue c.is_some.result = search rules in
    let room : IsTrue c.is_some.result → vec_len slots < vec_capacity slots = search rules in
    let more = room faulty in
    omega (arith, more) in
    let ready = is_prepared g.T.Cuttable.cut_to c.self.inside.faults c.self.inside.passed c.self.inside.held (vec_capacity slots - vec_len slots) slots.items c.due_at.ensures.entries kept
    c.fault_at_cursor-fault.result c.args.message c.count_found-due.result here due room_for in
    IfOk-weaker c.new.result _ _ (λ prepared same. subst (IsPreparedFor g.T.Cuttable.cut_to (seen c.self.inside.faults c.self.inside.passed (vec_capacity slots - vec_len slots) slots.items)) (sym same) ready) c.new.ensures.prepared

pub returns-clause-len : goal.returns-clause-len
returns-clause-len g c =
    let slots = c.make_room.new.slots in
    let table = table_of c.self.inside.faults in
    let kept : IsKept table c.self.inside.passed c.self.inside.held slots.items = rw c.make_room.ensures.slots c.self.invariant in
    let ok = c.self.inside.slots.ok in
    let long : c.len.result ≡ length slots.items = omega (arith, ap length c.make_room.ensures.slots, ok, c.len.ensures) in
    let here : c.fault_at_cursor-fault.result ≡ fault_here (slice_get table (length slots.items)) (c.self.inside.passed + 1) =
    c.fault_at_cursor-fault.ensures ∙ ap (λ (es : List (ℕ × Fault)). fault_here (slice_get es c.len.result) (c.self.inside.passed + 1)) c.table.ensures.table
    ∙ ap (λ (n : ℕ). fault_here (slice_get table n) (c.self.inside.passed + 1)) long in
    let due : c.count_found-due.result ≡ length (found_at (slots_due (c.self.inside.passed + 1) 0 table) slots.items) =
    c.count_found-due.ensures.count ∙ ap (λ (ds : List ℕ). length (found_at ds c.as_slice.result.now)) c.due_at.ensures.due
    ∙ ap (λ (ss : List (Option _)). length (found_at (slots_due (c.self.inside.passed + 1) 0 table) ss)) c.as_slice.ensures.value in
    let room_for : IsSome c.fault_at_cursor-fault.result → 0 < vec_capacity slots - vec_len slots =
    λ some.
    let faulty : IsTrue c.is_some.result = search rules in
    let room : IsTrue c.is_some.result → vec_len slots < vec_capacity slots = search rules in
    let more = room faulty in
    omega (arith, more) in
    let ready = is_prepared g.T.Cuttable.cut_to c.self.inside.faults c.self.inside.passed c.self.inside.held (vec_capacity slots - vec_len slots) slots.items c.due_at.ensures.entries kept
    c.fault_at_cursor-fault.result c.args.message c.count_found-due.result here due room_for in
    let rows = ap (λ (l : LinkData _). l.standing.rows) c.self.view_is in
    let same_slots = ap (λ (ss : List (Option _)). (seen c.self.inside.faults c.self.inside.passed (vec_capacity slots - vec_len slots) ss).standing) c.make_room.ensures.slots in
    let same_link = ap (λ (l : LinkData _). l.standing) c.self.view_is in
    IfOk-weaker c.new.result _ _
    (λ prepared same x stands.
    let stands_here = subst (StandsFor x) (sym same_link) stands in
    let stands_now = subst (StandsFor x) (sym same_slots) stands_here in
    ap (λ (p : Readied _). p.len) same
    ∙ prepared_len g.T.Cuttable.cut_to c.self.inside.faults c.self.inside.passed (vec_capacity slots - vec_len slots) slots.items c.due_at.ensures.entries _ ready x stands_now
    ∙ ap (λ (rs : List FaultRow). length (emit g.T.Cuttable.cut_to rs (x ++ c.args.message ∷ []) (length x + 1))) rows)
    c.new.ensures.prepared
