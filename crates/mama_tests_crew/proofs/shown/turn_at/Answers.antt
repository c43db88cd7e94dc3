use Rattle.std.proofs.Common.{◌≡◌, get_or, ap, ◌∙◌, rules, arith}
use Rattle.std.proofs.Math.Seq.{map-set_same}
use Rattle.std.proofs.lemmas.Grind.{common_steps}
use Rattle.std.proofs.lemmas.List.Elements.{All-set}
use Rattle.mama_shown.specs.Seat.{actor_of, IsSeatOf}
use Rattle.mama_tests_crew.proofs.shown.turn_at.Goals as goal

pub returns-in-Some : goal.returns-in-Some
returns-in-Some g c =
    let at : c.in-Some.seat.now ≡ get_or c.args.seats.now.items c.args.place c.in-Some.seat.now = first_of (search rules, grind (arith, common_steps)) in
    record {
      hall_is = c.requires.hall_is;
      actors = map-set_same actor_of c.args.seats.now.items c.args.place c.turn.new.self c.in-Some.seat.now (c.turn.ensures.actor ∙ ap actor_of at) ∙ c.requires.actors;
      each = All-set (IsSeatOf c.args.script.now c.args.hall.now) c.args.seats.now.items c.args.place c.turn.new.self c.turn.ensures.seat c.requires.each;
    }
