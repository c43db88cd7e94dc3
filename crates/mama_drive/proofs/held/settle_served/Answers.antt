use Rattle.std.proofs.Common.{ap}
use Rattle.mama_plans.specs.Put.{notes_of}
use Rattle.mama_seats.specs.Waiting.{waits}
use Rattle.mama_drive.specs.Scene.{Scene}
use Rattle.mama_drive.specs.Held.{lay_untold, lay_wish}
use Rattle.mama_drive.proofs.StageLemmas.{on_ok}
use Rattle.mama_drive.proofs.HeldLemmas.{served_settled, wish_settled, served_clear}
use Rattle.mama_drive.proofs.held.settle_served.Goals as goal

pub returns-in_err-settle_outs-clause-same : goal.returns-in_err-settle_outs-clause-same
returns-in_err-settle_outs-clause-same c = ap (λ (s : Scene). lay_untold c.args.untold.now c.args.queue (lay_wish c.args.bridge_port c.args.wish.now s)) c.settle_outs.ensures.same

pub returns-in_err-settle_wish-clause-same : goal.returns-in_err-settle_wish-clause-same
returns-in_err-settle_wish-clause-same c =
    wish_settled c.args.queue c.args.bridge_port c.args.timers_port (notes_of (waits c.args.outs.now)) (notes_of (waits c.settle_outs.new.outs)) c.args.wish.now c.settle_wish.new.wish c.args.untold.now
    c.args.system.now c.settle_outs.new.system c.settle_wish.new.system c.settle_outs.ensures.same (ap notes_of c.in_ok-settle_outs.ensures.clear) c.settle_wish.ensures.same

pub returns-clause-same : goal.returns-clause-same
returns-clause-same c =
    served_settled c.args.queue c.args.bridge_port c.args.timers_port (notes_of (waits c.args.outs.now)) (notes_of (waits c.settle_outs.new.outs)) c.args.wish.now c.settle_wish.new.wish c.args.untold.now c.settle_untold.new.untold
    c.args.system.now c.settle_outs.new.system c.settle_wish.new.system c.settle_untold.new.system c.settle_outs.ensures.same (ap notes_of c.in_ok-settle_outs.ensures.clear) c.settle_wish.ensures.same
    c.in_ok-settle_wish.ensures.ok c.settle_untold.ensures.same

pub returns-clause-clear : goal.returns-clause-clear
returns-clause-clear c =
    on_ok c.settle_untold.result
    (served_clear c.args.queue c.args.bridge_port c.args.timers_port (notes_of (waits c.settle_outs.new.outs)) c.settle_wish.new.wish c.settle_untold.new.untold
    (ap notes_of c.in_ok-settle_outs.ensures.clear) c.in_ok-settle_wish.ensures.ok)
    c.settle_untold.ensures.told
