-- What is left, put into the rows, stays the same.
use Rattle.std.proofs.Common.{◌≡◌, ◌+◌, ◌≤◌, List, [], ◌∷◌, length, ap, sym, subst, ◌∙◌, arith}
use Rattle.std.specs.Vec.Iter.{into_iter_items}
use Rattle.mama_msg.specs.Field.{FieldData}
use Rattle.mama_msg.specs.Message.{AreDistinct, apply}
use Rattle.mama_msg.proofs.Applying.{apply-cons, apply-nil, room_first}
use Rattle.mama_msg.proofs.DistinctKeys.{AreDistinct-updated}
use Rattle.mama_msg.proofs.Places.{empty_of}
use Rattle.mama_msg.proofs.rows.put_reserved.Goals as goal

-- a field with a new key finds room
pub unwrap-from-requires : goal.unwrap-from-requires
unwrap-from-requires c = c.put.ensures.room (λ new.
    let m : List FieldData = c.loop-field.rows.items in
    let rest : List FieldData = into_iter_items c.next.new.self in
    let more : length m + 1 ≤ length (apply m (c.in-Some.field ∷ rest)) = room_first m c.in-Some.field rest new in
    let all : length (apply m (into_iter_items c.loop-field.field-iterator)) ≡ length (apply m (c.in-Some.field ∷ rest)) = ap (λ (xs : List FieldData). length (apply m xs)) c.in-Some.ensures.steps.0 in
    omega (arith, c.loop-field.rows.ok.0, c.loop-field.invariant.room))

pub loop-field-preserved : goal.loop-field-preserved
loop-field-preserved c =
    let m : List FieldData = c.loop-field.rows.items in
    let f : FieldData = c.in-Some.field in
    let rest : List FieldData = into_iter_items c.next.new.self in
    let i = c.loop-field.invariant in
    let steps = c.in-Some.ensures.steps.0 in
    let distinct : AreDistinct (f ∷ rest) = subst AreDistinct steps i.others_distinct in
    let ok = rw c.unwrap-from.ensures at c.put.ensures.ok in
    let next = rw c.unwrap-from.ensures at c.put.ensures.next in
    let same : apply c.put.new.rows.items rest ≡ apply m (into_iter_items c.loop-field.field-iterator) =
    ap (λ (xs : List FieldData). apply xs rest) ok ∙ apply-cons m f rest distinct.0 ∙ sym (ap (apply m) steps) in
    let size : length (apply c.put.new.rows.items rest) ≡ length (apply m (into_iter_items c.loop-field.field-iterator)) = ap length same in
    record {
      value = same ∙ i.value;
      distinct = subst AreDistinct (sym ok) (AreDistinct-updated m f i.distinct);
      others_distinct = distinct.1;
      room = omega (arith, i.room, c.put.ensures.capacity);
      within = next;
    }

pub returns : goal.returns
returns c =
    let m : List FieldData = c.loop-field.rows.items in
    let left : into_iter_items c.loop-field.field-iterator ≡ [] = empty_of (into_iter_items c.loop-field.field-iterator) (omega (arith, c.in-None.ensures.steps.0, c.loop-field.field-iterator.rest.ok.0)) in
    sym (apply-nil m) ∙ sym (ap (apply m) left) ∙ c.loop-field.invariant.value
