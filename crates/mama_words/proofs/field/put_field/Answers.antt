use Rattle.std.proofs.Common.{append_assoc}
use Rattle.mama_words.proofs.Fronts.{front_more, on_err}
use Rattle.mama_words.proofs.field.put_field.Goals as goal

pub returns-in_err-put_type-clause-err : goal.returns-in_err-put_type-clause-err
returns-in_err-put_type-clause-err c =
    on_err _ (front_more _ _ c.in_ok-print_u64.ensures.ok (front_more _ _ c.in_ok-push.ensures.items (front_more _ _ c.in_ok-extend_from_slice.ensures.items (front_more _ _ c.in_ok-push-2.ensures.items c.in_err-put_type.ensures.err))))

pub returns-in_err-put_value-clause-err : goal.returns-in_err-put_value-clause-err
returns-in_err-put_value-clause-err c =
    on_err _ (front_more _ _ c.in_ok-print_u64.ensures.ok (front_more _ _ c.in_ok-push.ensures.items (front_more _ _ c.in_ok-extend_from_slice.ensures.items (front_more _ _ c.in_ok-push-2.ensures.items
    (front_more _ _ c.in_ok-put_type.ensures.ok (front_more _ _ c.in_ok-push-3.ensures.items c.in_err-put_value.ensures.err))))))

pub returns-clause-ok : goal.returns-clause-ok
returns-clause-ok c =
    rw (c.in_ok-put_value.ensures.ok, c.in_ok-push-3.ensures.items, c.in_ok-put_type.ensures.ok, c.type_of.ensures, c.in_ok-push-2.ensures.items, c.in_ok-extend_from_slice.ensures.items, c.bytes.ensures.value, c.in_ok-push.ensures.items, c.in_ok-print_u64.ensures.ok, c.from.ensures, c.fid.ensures.value, c.name.ensures.value, c.value.ensures, c.value-2.ensures) (simp append_assoc)
