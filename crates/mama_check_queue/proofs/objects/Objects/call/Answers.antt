use Rattle.std.proofs.Common.{ℕ, ◌<◌, List, [], ◌∷◌, ◌++◌, length, take, ap, sym, ◌∙◌, arith}
use Rattle.std.proofs.lemmas.List.{take_more, take_all}
use Rattle.std.proofs.lemmas.Result.{on_ok_weaker}
use Rattle.mama_event.specs.declared.order.Order.{Order}
use Rattle.mama_check_queue.specs.Seen.{at, muted_by, called_so}
use Rattle.mama_check_queue.specs.Rows.{seen_in}
use Rattle.mama_check_queue.proofs.RowLemmas.{muted_none, muted_more}
use Rattle.mama_check_queue.proofs.objects.Objects.call.Goals as goal

pub loop-order-init : goal.loop-order-init
loop-order-init c = λ x. muted_none x (seen_in c.begin.new.self x)

pub loop-order-preserved : goal.loop-order-preserved
loop-order-preserved c = λ x.
    let os = c.as_slice-order-items.result.now in
    let i : ℕ = c.loop-order.order-index in
    let order = c.order-item.result in
    let within : i < length os = omega arith in
    c.mute.ensures x
    ∙ ap (muted_by x (order ∷ [])) (c.loop-order.invariant x)
    ∙ muted_more x (take i os) order (seen_in c.begin.new.self x)
    ∙ ap (λ (xs : List Order). muted_by x xs (seen_in c.begin.new.self x)) (ap (λ (y : Order). take i os ++ y ∷ []) c.order-item.is ∙ sym (take_more os i order within))

pub returns : goal.returns
returns c =
    let os = c.as_slice-order-items.result.now in
    let o = c.args.object.now in
    on_ok_weaker c.note.result (λ changed x.
    changed x
    ∙ ap (at o x (called_so c.args.call c.args.orders)) (
    c.loop-order.invariant x
    ∙ ap (λ (xs : List Order). muted_by x xs (seen_in c.begin.new.self x)) (take_all c.loop-order.order-index os c.loop-order-test.false ∙ c.as_slice-order-items.ensures)
    ∙ ap (muted_by x c.args.orders) (c.in_ok-begin.ensures x)))
    c.note.ensures
