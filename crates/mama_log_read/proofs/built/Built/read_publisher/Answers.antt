use Rattle.std.proofs.Common.{◌∙◌, ap}
use Rattle.std.proofs.lemmas.List.{map_push}
use Rattle.std.specs.Global.{Vec}
use Rattle.mama_event.specs.declared.publisher_entry.PublisherEntry.{PublisherEntry}
use Rattle.mama_record.specs.RunView.{entries_of}
use Rattle.mama_log_read.specs.contracts.built.Built.{the_view}
use Rattle.mama_log_read.proofs.Kept.{publisher_kept}
use Rattle.mama_log_read.proofs.built.Built.read_publisher.Goals as goal

pub returns : goal.returns
returns c =
    publisher_kept c.args.names.now c.args.objects.now c.args.number c.args.text.now c.in_ok-entries.entries.items c.in_ok-entries.rest.now (the_view c.self.inside) c.args.self.now (entries_of c.push.new.self.items) c.self.view_is
    (ap entries_of c.in_ok-push.ensures.items ∙ map_push (λ (v : Vec PublisherEntry). v.items) c.self.inside.publishers.items c.in_ok-entries.entries) c.in_ok-entries.ensures
