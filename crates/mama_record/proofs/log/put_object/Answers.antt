use Rattle.std.proofs.Common.{◌++◌, refl}
use Rattle.std.specs.Prelude.{codes}
use Rattle.mama_words.specs.Id.{object_text}
use Rattle.mama_record.specs.RunData.{ObjectCalls}
use Rattle.mama_record.proofs.Sections.{object_printed}
use Rattle.mama_record.proofs.log.put_object.Goals as goal

pub returns : goal.returns
returns c =
    let object : ObjectCalls = record { object = c.args.object; calls = c.args.calls.now } in
    let lines = rw c.new-lines.ensures.items at c.in_ok-count.ensures.lines in
    let all = rw c.deref.ensures.value at c.in_ok-extend_from_slice.ensures.items in
    object_printed c.args.version object c.in_ok-count.count (codes "on " ++ object_text c.args.object) c.args.out.now.items c.put_object_head.new.out.items c.extend_from_slice.new.self.items c.put_calls.new.out.items
    refl c.in_ok-count.ensures.count c.in_ok-put_object_head.ensures lines all
