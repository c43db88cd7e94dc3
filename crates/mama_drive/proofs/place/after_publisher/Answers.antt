use Rattle.mama_drive.proofs.PlaceLemmas.{sender_drains, sender_done}
use Rattle.mama_drive.proofs.place.after_publisher.Goals as goal

pub returns-then-is_drained-clause-on : goal.returns-then-is_drained-clause-on
returns-then-is_drained-clause-on c = λ o. sender_done c.args.next c.args.turn o c.args.run.now (c.is_drained.ensures.turn c.if-is_drained.true) (c.is_drained.ensures.quiet c.if-is_drained.true)

pub returns-clause-on : goal.returns-clause-on
returns-clause-on c = λ o. sender_drains c.args.next c.args.turn _ o c.args.run.now c.next_turn.new.run c.in_ok-next_turn.ensures.on
