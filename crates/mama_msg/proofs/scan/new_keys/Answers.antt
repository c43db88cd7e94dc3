-- One field more is counted where its key was not found.
use Rattle.std.proofs.Common.{◌<◌, length, arith}
use Rattle.mama_msg.specs.Place.{IsPlace}
use Rattle.mama_msg.proofs.Places.{counted_found, counted_new}
use Rattle.mama_msg.proofs.scan.new_keys.Goals.{in-Some, in-None}
use Rattle.mama_msg.proofs.scan.new_keys.Goals as goal

pub loop-field-preserved : goal.loop-field-preserved
loop-field-preserved c =
    let fields = c.args.fields.now in
    let update = c.args.update.now in
    let j = c.loop-field.field-index in
    let f = c.field-item.result in
    let inside : j < length update = omega arith in
    elim c.match-place_of.branch [
      | in-Some w ↦
          let place : IsPlace c.key.result fields w.in-Some.i = w.in-Some.ensures.some in
          let found : w.in-Some.i < length fields = place.within in
          record {
            counted = counted_found fields update j f c.key.result w.in-Some.i c.loop-field.new c.match-place_of.new inside c.field-item.is c.key.ensures place c.loop-field.invariant.counted w.new-is;
            within = omega arith;
          }
      | in-None w ↦ record {
        counted = counted_new fields update j f c.key.result c.loop-field.new c.match-place_of.new inside c.field-item.is c.key.ensures w.in-None.ensures.none c.loop-field.invariant.counted w.new-is;
        within = omega arith;
      }
    ]
