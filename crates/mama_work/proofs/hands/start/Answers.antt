use Rattle.mama_work.specs.Serving.{numbers_of}
use Rattle.mama_work.proofs.Weights.{job_follows}
use Rattle.mama_work.proofs.hands.start.Goals as goal

pub returns-in-Err-clause-refused : goal.returns-in-Err-clause-refused
returns-in-Err-clause-refused g c =
    job_follows c.in-Err.refused.value (c.args.rt, c.args.shared, c.args.held, c.args.hand) c.job.result.hand (numbers_of g.S.Seat.acts c.job.result.kept.items) c.in-Err.ensures.err c.job.ensures
