use Rattle.std.proofs.Common.{sym, ap, ◌∙◌, subst}
use Rattle.mama_rules_services.specs.Ports.{timers_putter}
use Rattle.mama_rules_services.specs.Timers.{heard, put_by, timers_puts_at}
use Rattle.mama_timer.specs.Stands.{IsStill, IsNoWord}
use Rattle.mama_timer.specs.Service.{Service}
use Rattle.mama_timer.proofs.Keeping.{kept_quiet}
use Rattle.mama_timer.proofs.table.Table.remember.Goals as goal

pub invariant_of-self-2 : goal.invariant_of-self-2
invariant_of-self-2 c =
    let P : Service → Type 0 = λ s. IsStill (heard s.shape s.journal) (put_by (timers_putter s.shape c.args.port) c.args.note) in
    let Q : Service → Type 0 = λ s. IsNoWord (put_by (timers_putter s.shape c.args.port) c.args.note) in
    rw c.in_ok-push.ensures.items
    (kept_quiet c.self.inside.shape c.self.inside.journal.items c.args.port c.args.note _ _ _ _ _ _ _
    (subst P (sym c.self.view_is) c.requires.still) (subst Q (sym c.self.view_is) c.requires.no_word)
    (ap (λ (s : Service). timers_puts_at s.shape s.journal (c.args.port, c.args.note)) c.self.view_is ∙ c.requires.quiet)
    c.self.invariant)
