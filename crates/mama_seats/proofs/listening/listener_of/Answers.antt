use Rattle.std.specs.Prelude.{Some}
use Rattle.std.proofs.Common.{List, length, ◌≤◌, refl, ap, sym, subst, ◌∙◌}
use Rattle.mama_event.specs.declared.order.Order.{Order}
use Rattle.mama_event.specs.declared.order.PlanRow.{PlanRow}
use Rattle.mama_event.specs.Listener.{ListenerData}
use Rattle.mama_event.specs.Plan.{planned}
use Rattle.mama_dispatch.specs.Hearing.{ListensAs}
use Rattle.mama_plans.specs.Plans.{IsFew}
use Rattle.mama_plans.specs.Orders.{orders_in}
use Rattle.mama_plans.proofs.FewLemmas.{few_said}
use Rattle.mama_seats.specs.Listening.{data_of}
use Rattle.mama_seats.proofs.listening.listener_of.Goals as goal

pub new-requires : goal.new-requires
new-requires c = record {
  most = λ call.
      subst (λ (orders : List Order). length orders ≤ 8) (sym (c.order_rows-ordered.ensures.same.same call))
      (subst (λ (rows : List PlanRow). IsFew rows) (sym (c.in_ok-plan.ensures.items ∙ c.plan.ensures)) (few_said c.args.object.now c.args.plans.now c.are_few.ensures) call);
}

pub returns-clause-planned : goal.returns-clause-planned
returns-clause-planned c =
    subst (λ (l : ListenerData). ListensAs (orders_in c.args.plans.now c.args.object.now) 0 (Some (data_of l))) (sym c.new.ensures)
    ((λ call. c.order_rows-ordered.ensures.same.same call ∙ ap (λ (rows : List PlanRow). planned rows call) (c.in_ok-plan.ensures.items ∙ c.plan.ensures)), refl)
