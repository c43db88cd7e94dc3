use Rattle.mama_log_line.specs.Entering.{MayEnterPublisher}
use Rattle.mama_record.specs.LogText.{publisher_entry_text}
use Rattle.mama_log_read.proofs.Taking.{so_far_with_line}
use Rattle.mama_log_read.proofs.entries.read_publisher_entries.Goals as goal

pub entries-preserved : goal.entries-preserved
entries-preserved c =
    so_far_with_line (MayEnterPublisher c.args.names.now) publisher_entry_text c.args.text.now c.entries.entries.items c.push.new.self.items c.in-Ok-Some.entry c.entries.rest.now c.in-Ok-Some.after.now c.entries.invariant
    (rw c.in-Ok-Some.field-0-is at c.in-Ok-Some.ensures) c.in_ok-push-in-Ok-Some.ensures.items
