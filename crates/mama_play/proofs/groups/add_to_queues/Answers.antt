use Rattle.std.proofs.lemmas.List.Elements.{All-push, All-same}
use Rattle.mama_shown.specs.Seat.{IsSeatOf}
use Rattle.mama_play.proofs.groups.add_to_queues.Goals as goal

pub returns : goal.returns
returns g c =
    let P = IsSeatOf c.args._script.now c.args._hall.now in
    record { seats = All-same P c.push.new.self.items _ c.in_ok-push.ensures.items (All-push P c.args.queues.now.items c.args.seat c.requires.seats c.requires.seat) }
