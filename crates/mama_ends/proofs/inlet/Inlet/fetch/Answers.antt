use Rattle.std.proofs.Common.{ℕ, List, subst}
use Rattle.std.specs.Prelude.{IfNone, Option, None, Some}
use Rattle.std.specs.List.{All}
use mathlib.Core.List.{IsPrefix}
use Rattle.mama_journal.specs.Lane.{by_port}
use Rattle.mama_ends.specs.Inlet.{InletValue}
use Rattle.mama_ends.proofs.inlet.Inlet.fetch.Goals as goal

at_none : {X P : Type 0} (r : Option X) → P → IfNone r P
at_none None p = p
at_none (Some x) p = tt

pub returns-in_err-port-clause-caught_up : goal.returns-in_err-port-clause-caught_up
returns-in_err-port-clause-caught_up g c =
    at_none c.from_residual.result
    (subst (λ (v : InletValue g.row.E-Note.Denot). All (λ (note : ℕ × List g.row.E-Note.Denot). IsPrefix note.1 (by_port note.0 v.taker.taken)) v.taker.learnt)
    c.self.view_is c.in_err-port.ensures.caught_up)
