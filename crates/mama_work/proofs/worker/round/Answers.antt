use Rattle.std.proofs.Common.{List, length, set, map, ap, ◌∙◌, arith}
use Rattle.std.proofs.Math.Seq.{map-set_same}
use Rattle.std.proofs.lemmas.List.{length-set}
use Rattle.std.proofs.lemmas.List.Elements.{All-set}
use Rattle.mama_work.proofs.Lists.{left_in_place}
use Rattle.mama_work.proofs.worker.round.Goals as goal

pub returns-in_err-moved-clause-actors : goal.returns-in_err-moved-clause-actors
returns-in_err-moved-clause-actors g c =
    let acts = g.S.Seat.acts in
    let xs = c.loop-seat.seat-items in let i = c.loop-seat.seat-index in let x = c.steps.new.seat in
    let here = length-set xs i x in
    let lent = c.deref_mut-seat-items.ensures.value in
    left_in_place acts (set xs i x) c.args.seats.now.items c.args.seats.now.len (omega (arith, here, c.loop-seat.invariant.all, ap length lent, c.args.seats.now.ok.0))
    (map-set_same acts xs i x c.seat-item.result c.steps.ensures.actor ∙ c.loop-seat.invariant.actors ∙ ap (λ (ys : List g.row.S.Denot). map acts ys) lent)

pub loop-seat-preserved : goal.loop-seat-preserved
loop-seat-preserved g c =
    let acts = g.S.Seat.acts in
    let P = g.S.Seat.sits c.args.shared.now.script.now c.args.shared.now.hall.now in
    let xs = c.loop-seat.seat-items in let i = c.loop-seat.seat-index in let x = c.steps.new.seat in
    record {
      sits = All-set P xs i x c.steps.ensures.sits c.loop-seat.invariant.sits;
      all = length-set xs i x ∙ c.loop-seat.invariant.all;
      actors = map-set_same acts xs i x c.seat-item.result c.steps.ensures.actor ∙ c.loop-seat.invariant.actors;
    }
