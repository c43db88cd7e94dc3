use Rattle.std.proofs.Common.{List, sym, ◌∙◌, subst}
use Rattle.mama_rules_services.specs.Timers.{TimersEvent, heard, timers_puts, no_event}
use Rattle.mama_timer.specs.Stands.{IsStill, IsNoWord}
use Rattle.mama_timer.proofs.Keeping.{puts_at_is, nothing_puts, nothing_no_word}
use Rattle.mama_timer.proofs.Standing.{nothing_still}
use Rattle.mama_timer.proofs.table.Table.pass_over.Goals as goal

pub remember-requires : goal.remember-requires
remember-requires c =
    let es : List TimersEvent = heard c.args.self.now.shape c.args.self.now.journal in
    let P : TimersEvent → Type 0 = λ e. IsStill es e in
    record {
      still = subst P (sym c.requires) (nothing_still es);
      no_word = subst IsNoWord (sym c.requires) nothing_no_word;
      quiet = puts_at_is c.args.self.now.shape c.args.self.now.journal c.args.port c.args.note no_event c.requires ∙ nothing_puts c.args.self.now.shape es (timers_puts c.args.self.now.shape c.args.self.now.journal);
    }

pub returns-clause-puts : goal.returns-clause-puts
returns-clause-puts c = puts_at_is c.args.self.now.shape c.args.self.now.journal c.args.port c.args.note no_event c.requires ∙ nothing_puts c.args.self.now.shape (heard c.args.self.now.shape c.args.self.now.journal) (timers_puts c.args.self.now.shape c.args.self.now.journal)
