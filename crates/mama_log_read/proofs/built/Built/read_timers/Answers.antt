use Rattle.mama_log_read.specs.contracts.built.Built.{the_view}
use Rattle.mama_log_read.proofs.Kept.{timers_kept}
use Rattle.mama_log_read.proofs.built.Built.read_timers.Goals as goal

pub returns : goal.returns
returns c =
    timers_kept c.args.names.now c.args.objects.now c.args.text.now c.in_ok-entries.entries.items c.in_ok-entries.rest.now (the_view c.self.inside) c.args.self.now c.self.view_is c.in_ok-entries.ensures
