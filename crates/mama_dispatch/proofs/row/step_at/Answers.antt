use Rattle.mama_dispatch.proofs.CacheBound.{step_small}
use Rattle.mama_dispatch.proofs.row.step_at.Goals as goal

pub returns-clause-small : goal.returns-clause-small
returns-clause-small g c = step_small c.step.result c.args.row.now.context c.step.new.self c.args.msg.now c.step.ensures.context c.step.ensures.err
