use Rattle.std.proofs.Common.{◌≡◌, List, ◌∷◌, map, sym, subst, ap, ◌∙◌}
use Rattle.std.specs.List.{All}
use Rattle.std.proofs.lemmas.List.Elements.{All-cons, All-head, All-tail}
use Rattle.mama_edge.specs.declared.gate.GateActor.{GateActor}
use Rattle.mama_script.specs.Script.{ScriptData}
use Rattle.mama_crew.specs.Hall.{HallValue}
use Rattle.mama_crew.specs.Seat.{actor_of, IsSeatOf}
use Rattle.mama_crew.specs.Crew.{IsCrew}
use Rattle.mama_crew.specs.declared.seat.Seat.{Seat}
use Rattle.mama_tests_crew.proofs.turning.inform_third.Goals as goal

module _ {L : Type 0} (script : ScriptData) (hall : HallValue) where
  -- a crew stays one where those behind the first become others of the same actors
  replaced : (all : List (Seat L)) (first same : Seat L) (rest others : List (Seat L)) → all ≡ first ∷ rest → same ≡ first → map actor_of others ≡ map actor_of rest → All (IsSeatOf script hall) others
      → IsCrew script hall all → IsCrew script hall (same ∷ others)
  replaced all first same rest others split kept who sit crew =
      let P : Seat L → Type 0 = IsSeatOf script hall in
      record {
        hall_is = crew.hall_is;
        actors = ap (λ (s : Seat L). actor_of s ∷ map actor_of others) kept
            ∙ ap (λ (actors : List GateActor). actor_of first ∷ actors) who
            ∙ sym (ap (map actor_of) split) ∙ crew.actors;
        each = All-cons P same others (subst P (sym kept) (All-head P first rest (subst (All P) split crew.each))) sit;
      }

  -- the rest of a crew sits as it should, and so does the first
  rest_sits : (all : List (Seat L)) (first : Seat L) (rest : List (Seat L)) → all ≡ first ∷ rest → IsCrew script hall all → All (IsSeatOf script hall) rest
  rest_sits all first rest split crew = All-tail (IsSeatOf script hall) first rest (subst (All (IsSeatOf script hall)) split crew.each)

  first_sits : (all : List (Seat L)) (first : Seat L) (rest : List (Seat L)) → all ≡ first ∷ rest → IsCrew script hall all → IsSeatOf script hall first
  first_sits all first rest split crew = All-head (IsSeatOf script hall) first rest (subst (All (IsSeatOf script hall)) split crew.each)

pub inform_second-informed-requires-clause-first : goal.inform_second-informed-requires-clause-first
inform_second-informed-requires-clause-first g c =
    first_sits c.args.script.now c.args.hall.now c.args.seats.now.items c.first_out-first.result c.first_out-first.new.items.items c.first_out-first.ensures c.requires

pub inform_second-informed-requires-clause-rest : goal.inform_second-informed-requires-clause-rest
inform_second-informed-requires-clause-rest g c =
    rest_sits c.args.script.now c.args.hall.now c.args.seats.now.items c.first_out-first.result c.first_out-first.new.items.items c.first_out-first.ensures c.requires

pub returns : goal.returns
returns g c =
    let told = c.inform_second-informed in
    subst (IsCrew c.args.script.now c.args.hall.now) (sym c.put_first.ensures)
    (replaced c.args.script.now c.args.hall.now c.args.seats.now.items c.first_out-first.result told.new.first c.first_out-first.new.items.items told.new.rest.items
    c.first_out-first.ensures told.ensures.same told.ensures.actors told.ensures.each c.requires)
