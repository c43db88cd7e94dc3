use Rattle.mama_plain.proofs.AnswerLemmas.{cause_at_line}
use Rattle.mama_plain.proofs.run.write_log.Goals as goal

pub status_of-requires : goal.status_of-requires
status_of-requires g c = cause_at_line c.args.text.items c.in-Err.fault c.first_fault_is_told.ensures c.in-Err.ensures.cause
