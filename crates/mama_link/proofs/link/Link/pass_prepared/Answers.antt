use Rattle.std.proofs.Common.{rules, ◌≡◌, ◌∙◌, ◌+◌, ◌-◌, ◌++◌, ◌∷◌, [], ℕ, List, Option, is_some, IsSome, option_to_list, append_assoc, ap, length, arith, if◌then◌else◌}
use Rattle.mama_link.specs.Table.{table_of, slots_due}
use Rattle.mama_link.specs.Link.{copies}
use Rattle.mama_link.specs.Steps.{held_back}
use Rattle.mama_link.specs.Slots.{taken_at, emptied_at}
use Rattle.mama_link.proofs.PassLemmas.{prepared_ends, kept_along, standing_along, length-option_to_list}
use Rattle.mama_link.proofs.link.Link.pass_prepared.Goals as goal

pub returns-clause-out : goal.returns-clause-out
returns-clause-out g c x stands =
    let e = prepared_ends _ _ _ _ _ _ _ c.self.view_is c.due_at.ensures.entries c.self.invariant c.args.prepared c.requires.prepared in
    let slots = c.self.inside.slots.items in
    let table = table_of c.self.inside.faults in
    let dues : c.due_at.result.now ≡ slots_due c.args.prepared.place 0 table = c.due_at.ensures.due ∙ ap (λ (n : ℕ). slots_due n 0 table) c.place-place.ensures in
    let taken = ap (λ (ds : List ℕ). length (taken_at ds slots)) dues in
    let puts = ap (λ (ds : List ℕ). taken_at ds slots) dues in
    let own = copies g.T.Cuttable.cut_to c.args.prepared.fault c.args.prepared.message in
    let items = c.args.out.now.items in
    c.release-released.ensures.out ∙ rw (c.put_own-own.ensures.out, puts) (append_assoc items own (taken_at (slots_due c.args.prepared.place 0 table) slots) ∙ ap (λ (ends : List _). items ++ ends) (e.out x stands))

pub returns-clause-standing : goal.returns-clause-standing
returns-clause-standing g c x stands =
    let e = prepared_ends _ _ _ _ _ _ _ c.self.view_is c.due_at.ensures.entries c.self.invariant c.args.prepared c.requires.prepared in
    let slots = c.self.inside.slots.items in
    let table = table_of c.self.inside.faults in
    let dues : c.due_at.result.now ≡ slots_due c.args.prepared.place 0 table = c.due_at.ensures.due ∙ ap (λ (n : ℕ). slots_due n 0 table) c.place-place.ensures in
    let taken = ap (λ (ds : List ℕ). length (taken_at ds slots)) dues in
    let fault = c.args.prepared.fault in
    let message = c.args.prepared.message in
    let emptied = ap (λ (ds : List ℕ). emptied_at ds slots) dues in
    let left : c.keep.new.slots.items ≡ (if is_some fault then emptied_at (slots_due c.args.prepared.place 0 table) slots ++ held_back fault message ∷ [] else emptied_at (slots_due c.args.prepared.place 0 table) slots) = cc in
    standing_along c.self.inside.faults (x ++ message ∷ []) _ _ _ _ (e.standing x stands) c.place-place.ensures left

pub returns-clause-spare : goal.returns-clause-spare
returns-clause-spare g c =
    let e = prepared_ends _ _ _ _ _ _ _ c.self.view_is c.due_at.ensures.entries c.self.invariant c.args.prepared c.requires.prepared in
    let slots = c.self.inside.slots.items in
    let table = table_of c.self.inside.faults in
    let dues : c.due_at.result.now ≡ slots_due c.args.prepared.place 0 table = c.due_at.ensures.due ∙ ap (λ (n : ℕ). slots_due n 0 table) c.place-place.ensures in
    let taken = ap (λ (ds : List ℕ). length (taken_at ds slots)) dues in
    omega (arith, taken, e.len, c.put_own-own.ensures.spare, c.release-released.ensures.spare)

pub release-released-requires : goal.release-released-requires
release-released-requires g c =
    let e = prepared_ends _ _ _ _ _ _ _ c.self.view_is c.due_at.ensures.entries c.self.invariant c.args.prepared c.requires.prepared in
    let slots = c.self.inside.slots.items in
    let table = table_of c.self.inside.faults in
    let dues : c.due_at.result.now ≡ slots_due c.args.prepared.place 0 table = c.due_at.ensures.due ∙ ap (λ (n : ℕ). slots_due n 0 table) c.place-place.ensures in
    let taken = ap (λ (ds : List ℕ). length (taken_at ds slots)) dues in
    omega (arith, taken, e.len, c.put_own-own.ensures.spare, c.requires.spare)

pub overflow_sub-self : goal.overflow_sub-self
overflow_sub-self g c =
    let e = prepared_ends _ _ _ _ _ _ _ c.self.view_is c.due_at.ensures.entries c.self.invariant c.args.prepared c.requires.prepared in
    let slots = c.self.inside.slots.items in
    let table = table_of c.self.inside.faults in
    let dues : c.due_at.result.now ≡ slots_due c.args.prepared.place 0 table = c.due_at.ensures.due ∙ ap (λ (n : ℕ). slots_due n 0 table) c.place-place.ensures in
    let taken = ap (λ (ds : List ℕ). length (taken_at ds slots)) dues in
    omega (arith, taken, e.ends.fewer, c.release-released.ensures.count)

pub overflow_add-self : goal.overflow_add-self
overflow_add-self g c =
    let e = prepared_ends _ _ _ _ _ _ _ c.self.view_is c.due_at.ensures.entries c.self.invariant c.args.prepared c.requires.prepared in
    let slots = c.self.inside.slots.items in
    let table = table_of c.self.inside.faults in
    let dues : c.due_at.result.now ≡ slots_due c.args.prepared.place 0 table = c.due_at.ensures.due ∙ ap (λ (n : ℕ). slots_due n 0 table) c.place-place.ensures in
    let taken = ap (λ (ds : List ℕ). length (taken_at ds slots)) dues in
    let small = c.self.inside.slots.small in
    let full = c.self.inside.slots.ok in
    omega (arith, e.ends.fits, small, full, c.count_slot.ensures, length-option_to_list c.put_own-own.result)

pub keep-requires : goal.keep-requires
keep-requires g c =
    let e = prepared_ends _ _ _ _ _ _ _ c.self.view_is c.due_at.ensures.entries c.self.invariant c.args.prepared c.requires.prepared in
    let slots = c.self.inside.slots.items in
    let table = table_of c.self.inside.faults in
    let dues : c.due_at.result.now ≡ slots_due c.args.prepared.place 0 table = c.due_at.ensures.due ∙ ap (λ (n : ℕ). slots_due n 0 table) c.place-place.ensures in
    let taken = ap (λ (ds : List ℕ). length (taken_at ds slots)) dues in
    λ faulty.
    let some : IsSome c.args.prepared.fault = search rules in
    let room = e.room_for some in
    omega (arith, room, c.release-released.ensures.len, c.release-released.ensures.capacity)

pub invariant_of-self : goal.invariant_of-self
invariant_of-self g c =
    let e = prepared_ends _ _ _ _ _ _ _ c.self.view_is c.due_at.ensures.entries c.self.invariant c.args.prepared c.requires.prepared in
    let slots = c.self.inside.slots.items in
    let table = table_of c.self.inside.faults in
    let dues : c.due_at.result.now ≡ slots_due c.args.prepared.place 0 table = c.due_at.ensures.due ∙ ap (λ (n : ℕ). slots_due n 0 table) c.place-place.ensures in
    let taken = ap (λ (ds : List ℕ). length (taken_at ds slots)) dues in
    let fault = c.args.prepared.fault in
    let message = c.args.prepared.message in
    let emptied = ap (λ (ds : List ℕ). emptied_at ds slots) dues in
    let one = ap (λ (o : Option _). length (option_to_list o)) c.put_own-own.ensures.held in
    let count : c.self.inside.held - c.release-released.result + c.count_slot.result ≡ c.self.inside.held - length (taken_at (slots_due c.args.prepared.place 0 table) slots) + length (option_to_list (held_back fault message)) =
    omega (arith, taken, one, c.release-released.ensures.count, c.count_slot.ensures) in
    let left : c.keep.new.slots.items ≡ (if is_some fault then emptied_at (slots_due c.args.prepared.place 0 table) slots ++ held_back fault message ∷ [] else emptied_at (slots_due c.args.prepared.place 0 table) slots) = cc in
    kept_along table _ _ _ _ _ _ e.ends.kept c.place-place.ensures count left
