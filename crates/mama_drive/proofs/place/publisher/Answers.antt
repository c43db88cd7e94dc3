use Rattle.std.proofs.Common.{◌+◌, arith}
use Rattle.mama_drive.specs.declared.turn.Turn.TheVariants as turn
use Rattle.mama_drive.specs.declared.place.Place.TheVariants as place
use Rattle.mama_drive.proofs.PlaceLemmas.{to_then, senders_passed, sender_steps, round_ends}
use Rattle.mama_drive.proofs.place.publisher.Goals as goal

pub returns-then-next-publisher_count-clause-on : goal.returns-then-next-publisher_count-clause-on
returns-then-next-publisher_count-clause-on c = λ o.
    to_then o o o (place.Publisher c.args.number) (place.Publisher c.next_sender-next.result) (place.AfterPublisher (c.next_sender-next.result + 1) turn.Bridge)
    c.args.run.now c.args.run.now c.sender_turn.new.self (senders_passed c.args.number c.next_sender-next.result o c.args.run.now c.next_sender-next.ensures)
    (sender_steps c.next_sender-next.result o c.args.run.now c.sender_turn.new.self (omega (arith, c.publisher_count.ensures.shape, c.if-next-publisher_count.true))
    c.in_ok-sender_turn.ensures.step c.in_ok-sender_turn.ensures.clients)

pub returns-clause-on : goal.returns-clause-on
returns-clause-on c = λ o.
    to_then o o o (place.Publisher c.args.number) (place.Publisher c.next_sender-next.result) place.Rounds c.args.run.now c.args.run.now c.args.run.now
    (senders_passed c.args.number c.next_sender-next.result o c.args.run.now c.next_sender-next.ensures)
    (round_ends c.next_sender-next.result c.publisher_count.result o c.args.run.now c.if-next-publisher_count.false c.publisher_count.ensures.shape)
