use Rattle.std.proofs.Common.{◌≡◌, ℕ, ℤ, ◌-◌, ◌<◌, List, length, take, ◌∙◌, arith, rules, FitsSigned, to_z, of_z}
use Rattle.std.specs.Int.{w64}
use Rattle.std.proofs.lemmas.Int.{to_z-of_z}
use Rattle.std.proofs.lemmas.List.{length-set}
use Rattle.mama_payload.specs.Reading.{numbers_at}
use Rattle.mama_payload.proofs.Loops.{number_on, number_stops, numbers_done}
use Rattle.mama_payload.proofs.reading.numbers_of.Goals as goal

pub returns-in-Err : goal.returns-in-Err
returns-in-Err c =
    number_stops c.in-Err.stop c.args.count c.loop-i.i (take c.loop-i.i c.loop-i.numbers) c.loop-i.rest.now (numbers_at c.args.count c.args.bytes.now) (omega arith) c.in-Err.ensures c.loop-i.invariant.1

pub loop-i-preserved : goal.loop-i-preserved
loop-i-preserved c =
    let i : ℕ = c.loop-i.i in
    let zs : List ℤ = c.loop-i.numbers in
    let z : ℤ = c.in-Ok.number in
    let fits : FitsSigned w64 z = search rules in
    let kept : to_z w64 (of_z w64 z) ≡ z = to_z-of_z w64 z fits in
    let lt : i < c.args.count = omega arith in
    let within : i < length zs = omega (arith, c.loop-i.invariant.0) in
    rw kept (
      length-set zs i z ∙ c.loop-i.invariant.0,
      number_on c.args.count i zs c.loop-i.rest.now z c.in-Ok.after.now (numbers_at c.args.count c.args.bytes.now) lt within c.in-Ok.ensures c.loop-i.invariant.1,
    )

pub returns : goal.returns
returns c =
    let is : c.args.count ≡ c.loop-i.i = omega arith in
    numbers_done c.args.count c.loop-i.i c.loop-i.numbers c.loop-i.rest.now (numbers_at c.args.count c.args.bytes.now) is c.loop-i.invariant.1
