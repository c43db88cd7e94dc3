use Rattle.std.proofs.Common.{subst}
use Rattle.mama_event.specs.Listener.{told}
use Rattle.mama_dispatch.specs.Keeping.{AreFew}
use Rattle.mama_dispatch.proofs.RowLemmas.{rows_few}
use Rattle.mama_dispatch.proofs.seats.Seats.few.Goals as goal

pub returns : goal.returns
returns g c = subst AreFew c.self.view_is (rows_few (told g.L.Tagged.tagged g.L.Listener.calls g.L.Listener.heard g.L.Listener.given g.L.Listener.plan) c.self.inside.rows.items)
