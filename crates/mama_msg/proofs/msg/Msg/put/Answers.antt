-- An update of no field, of one, and of more.
use Rattle.std.proofs.Common.{◌≡◌, List, [], ◌∷◌, Result, Ok, Err, OnOk, ap, sym, subst, ◌∙◌}
use Rattle.mama_msg.specs.Field.{FieldData}
use Rattle.mama_msg.specs.Message.{AreDistinct, updated, apply}
use Rattle.mama_msg.specs.Shared.{fields_of}
use Rattle.mama_msg.proofs.Applying.{apply-nil, apply-one, distinct_applied}
use Rattle.mama_msg.proofs.Places.{empty_of, one_of}
use Rattle.mama_msg.proofs.msg.Msg.put.Goals as goal

pub invariant_of-self : goal.invariant_of-self
invariant_of-self c =
    let copies = c.in_ok-copies-in_default.copies.items in
    distinct_applied c.put_fields.result (fields_of c.self.inside.body) (fields_of c.put_fields.new.body) copies c.put_fields.ensures.ok c.put_fields.ensures.err
    c.self.invariant (subst AreDistinct (sym c.in_ok-copies-in_default.ensures) c.requires)

pub returns-in-empty-clause-ok : goal.returns-in-empty-clause-ok
returns-in-empty-clause-ok c =
    let none : c.args.update.now ≡ [] = empty_of c.args.update.now c.in-empty.len_below in
    sym (ap (apply c.args.self.now) none ∙ apply-nil c.args.self.now)

on_ok : {A E : Type 0} (r : Result A E) (P Q : Type 0) → (P → Q) → OnOk r P → OnOk r Q
on_ok (Ok x) P Q f p = f p
on_ok (Err e) P Q f p = p

pub returns-in_ok-try_clone-in-len1-clause-ok : goal.returns-in_ok-try_clone-in-len1-clause-ok
returns-in_ok-try_clone-in-len1-clause-ok c =
    let m : List FieldData = c.args.self.now in
    let only : FieldData = c.only-item.result in
    let copy : FieldData = c.in_ok-try_clone-in-len1.field-0 in
    let one : c.args.update.now ≡ only ∷ [] = one_of c.args.update.now only c.in-len1.len_at_least c.in-len1.len_below c.only-item.is in
    let same : updated m copy ≡ apply m c.args.update.now = ap (updated m) c.in_ok-try_clone-in-len1.ensures.equal ∙ apply-one m only ∙ sym (ap (apply m) one) in
    on_ok c.update.result (c.update.new.self ≡ updated m copy) (c.update.new.self ≡ apply m c.args.update.now) (λ e. e ∙ same) c.update.ensures.ok
