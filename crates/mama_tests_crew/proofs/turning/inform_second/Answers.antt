use Rattle.std.proofs.Common.{◌≡◌, ◌<◌, length, get_or, sym, subst, ap, ◌∙◌, refl, rules, arith}
use Rattle.std.proofs.Math.Seq.{map-set_same}
use Rattle.std.proofs.lemmas.Grind.{common_steps}
use Rattle.std.proofs.lemmas.List.Elements.{All-set, All-get_or}
use Rattle.mama_crew.specs.Seat.{actor_of, IsSeatOf}
use Rattle.mama_crew.specs.Informed.{informed}
use Rattle.mama_crew.specs.declared.seat.Seat.{Seat}
use Rattle.mama_crew.specs.declared.seat.Seat.TheVariants.{Client, Publisher, Bridge, Timers, Queue}
use Rattle.mama_tests_crew.proofs.turning.inform_second.Goals as goal

-- who learns stays who it is
informed_actor : {L : Type 0} (teller seat : Seat L) → actor_of (informed teller seat) ≡ actor_of seat
informed_actor teller (Client c seat) = refl
informed_actor teller (Publisher p post) = refl
informed_actor teller (Bridge post) = refl
informed_actor teller (Timers post) = refl
informed_actor teller (Queue q post) = refl

pub inform-requires : goal.inform-requires
inform-requires g c =
    let at : c.in-Some.third.now ≡ get_or c.args.rest.now.items 1 c.in-Some.third.now = first_of (search rules, grind (arith, common_steps)) in
    let within : 1 < length c.args.rest.now.items = first_of (search rules, grind (arith, common_steps)) in
    let P = IsSeatOf c.args._script.now c.args.hall.now in
    record {
      script = c.args._script.now;
      first = c.requires.first;
      second = subst P (sym at) (All-get_or P c.args.rest.now.items 1 c.in-Some.third.now within c.requires.rest);
    }

pub returns-in-Some : goal.returns-in-Some
returns-in-Some g c =
    let at : c.in-Some.third.now ≡ get_or c.args.rest.now.items 1 c.in-Some.third.now = first_of (search rules, grind (arith, common_steps)) in
    let within : 1 < length c.args.rest.now.items = first_of (search rules, grind (arith, common_steps)) in
    let P = IsSeatOf c.args._script.now c.args.hall.now in
    let sits : P c.in-Some.third.now = subst P (sym at) (All-get_or P c.args.rest.now.items 1 c.in-Some.third.now within c.requires.rest) in
    let who : actor_of c.inform.new.other ≡ actor_of c.in-Some.third.now = ap actor_of c.inform.ensures.informed ∙ informed_actor c.args.first.now c.in-Some.third.now in
    record {
      same = c.inform.ensures.same;
      actors = map-set_same actor_of c.args.rest.now.items 1 c.inform.new.other c.in-Some.third.now (who ∙ ap actor_of at);
      each = All-set P c.args.rest.now.items 1 c.inform.new.other (c.inform.ensures.seat c.args._script.now sits) c.requires.rest;
    }
