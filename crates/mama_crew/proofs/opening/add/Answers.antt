use Rattle.std.proofs.lemmas.List.Elements.{All-push, All-same}
use Rattle.mama_crew.specs.New.{IsNewSeatOf}
use Rattle.mama_crew.proofs.opening.add.Goals as goal

pub returns-clause-seats : goal.returns-clause-seats
returns-clause-seats g c =
    let P = IsNewSeatOf c.args._script.now c.args._hall.now in
    All-same P c.push.new.self.items _ c.in_ok-push.ensures.items (All-push P c.args.seats.now.items c.args.seat c.requires.seats c.requires.seat)
