use Rattle.std.proofs.Common.{◌∙◌, ap, ℕ}
use Rattle.std.proofs.lemmas.List.{map_push}
use Rattle.std.specs.Global.{Vec}
use Rattle.mama_event.specs.declared.to_queue.QueueNote.{QueueNote}
use Rattle.mama_record.specs.RunView.{events_of}
use Rattle.mama_log_read.specs.contracts.built.Built.{the_view}
use Rattle.mama_log_read.proofs.Kept.{queue_kept}
use Rattle.mama_log_read.proofs.built.Built.read_queue.Goals as goal

pub returns : goal.returns
returns c =
    queue_kept c.args.names.now c.args.objects.now c.args.number c.args.text.now c.in_ok-entries.entries.items c.in_ok-entries.rest.now (the_view c.self.inside) c.args.self.now (events_of c.push.new.self.items) c.self.view_is
    (ap events_of c.in_ok-push.ensures.items ∙ map_push (λ (v : Vec (ℕ × QueueNote)). v.items) c.self.inside.queues.items c.in_ok-entries.entries) c.in_ok-entries.ensures
