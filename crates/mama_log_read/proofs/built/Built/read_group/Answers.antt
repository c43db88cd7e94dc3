use Rattle.std.proofs.Common.{◌∙◌, ap}
use Rattle.std.proofs.lemmas.List.{map_push}
use Rattle.mama_record.specs.RunView.{group_in, groups_of}
use Rattle.mama_log_read.specs.contracts.built.Built.{the_view}
use Rattle.mama_log_read.proofs.Kept.{group_kept}
use Rattle.mama_log_read.proofs.built.Built.read_group.Goals as goal

pub returns : goal.returns
returns c =
    group_kept c.args.names.now c.args.objects.now c.args.number c.args.text.now c.in_ok-notes.notes.items c.in_ok-notes.rest.now (the_view c.self.inside) c.args.self.now (groups_of c.push.new.self.items) c.self.view_is
    (ap groups_of c.in_ok-push.ensures.items ∙ map_push group_in c.self.inside.groups.items (c.args.number, c.in_ok-notes.notes)) c.in_ok-notes.ensures
