use Rattle.std.proofs.Common.{◌∙◌, ap}
use Rattle.std.proofs.lemmas.List.{map_push}
use Rattle.mama_record.specs.RunView.{calls_in, calls_of}
use Rattle.mama_log_read.specs.contracts.built.Built.{the_view}
use Rattle.mama_log_read.proofs.Kept.{object_kept}
use Rattle.mama_log_read.proofs.built.Built.read_object.Goals as goal

pub returns : goal.returns
returns c =
    object_kept c.args.names.now c.args.objects.now c.args.object c.args.text.now c.in_ok-calls.calls.items c.in_ok-calls.rest.now (the_view c.self.inside) c.args.self.now (calls_of c.push.new.self.items) c.self.view_is
    (ap calls_of c.in_ok-push.ensures.items ∙ map_push calls_in c.self.inside.calls.items (c.args.object, c.in_ok-calls.calls)) c.in_ok-calls.ensures
