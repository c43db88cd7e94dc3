use Rattle.std.proofs.Common.{◌∙◌, ap, ℕ}
use Rattle.std.proofs.lemmas.List.{map_push}
use Rattle.std.specs.Global.{Vec}
use Rattle.mama_record.specs.RunView.{moments_of}
use Rattle.mama_log_read.specs.contracts.built.Built.{the_view}
use Rattle.mama_log_read.proofs.Kept.{client_kept}
use Rattle.mama_log_read.proofs.built.Built.read_client.Goals as goal

pub returns : goal.returns
returns c =
    client_kept c.args.names.now c.args.objects.now c.args.number c.args.text.now c.in_ok-moments.moments.items c.in_ok-moments.rest.now (the_view c.self.inside) c.args.self.now (moments_of c.push.new.self.items) c.self.view_is
    (ap moments_of c.in_ok-push.ensures.items ∙ map_push (λ (v : Vec ℕ). v.items) c.self.inside.clients.items c.in_ok-moments.moments) c.in_ok-moments.ensures
