use Rattle.mama_shown.specs.Seat.{IsSeatOf}
use Rattle.mama_ends.proofs.Answered.{on_ok}
use Rattle.mama_play.proofs.AddingLemmas.{all_added}
use Rattle.mama_play.proofs.groups.add_to_group.Goals as goal

pub returns : goal.returns
returns g c =
    let P = IsSeatOf c.args._script.now c.args._hall.now in
    record { seats = on_ok c.add_to.result (λ added. all_added P c.args.number c.args.seat c.args.groups.now.items c.add_to.new.lists.items added c.requires.seats c.requires.seat) c.add_to.ensures }
