use Rattle.mama_plain.specs.Parts.{script_part, log_part}
use Rattle.mama_plain.proofs.AnswerLemmas.{no_verdict_at_line}
use Rattle.mama_plain.proofs.rewrite.write_in_two.Goals as goal

pub status_of-requires : goal.status_of-requires
status_of-requires g c = no_verdict_at_line (script_part c.args.text.now) (log_part c.args.text.now) c.in-Err.cause c.first_fault_is_told.ensures c.in-Err.ensures.cause
