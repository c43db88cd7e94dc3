use Rattle.std.proofs.Common.{◌≡◌, not, true, Result, Ok, Err, ap, ◌∙◌}
use Rattle.std.specs.Result.{OnOk, is_ok}
use Rattle.mama_timer.specs.Heard.{event_of}
use Rattle.mama_timer.specs.Out.{listeners}
use Rattle.mama_timer.proofs.Words.{no_last, no_listener, plain_no_arm, plain_no_bye}
use Rattle.mama_timer.proofs.table.Table.take_other.Goals as goal

on_ok_get : {T E : Type 0} (r : Result T E) (P : Type 0) → is_ok r ≡ true → OnOk r P → P
on_ok_get (Ok x) P h p = p
on_ok_get (Err e) P h p = cc

pub returns-clause-not_last : goal.returns-clause-not_last
returns-clause-not_last g c = no_last c.args.self.now c.args.port c.args.note (event_of c.args.heard) c.requires.means (plain_no_bye c.args.heard c.requires.plain)

pub returns-then-is_err-clause-not_last : goal.returns-then-is_err-clause-not_last
returns-then-is_err-clause-not_last g c = no_last c.args.self.now c.args.port c.args.note (event_of c.args.heard) c.requires.means (plain_no_bye c.args.heard c.requires.plain)

pub returns-clause-listener : goal.returns-clause-listener
returns-clause-listener g c =
    on_ok_get c.take_plain.result _ (c.is_err.ensures.negation ∙ ap not c.if-is_err.false) c.take_plain.ensures.listener
    ∙ no_listener c.args.self.now c.args.port c.args.note (event_of c.args.heard) c.args.event c.requires.means (plain_no_arm c.args.heard c.requires.plain) (listeners c.args.out.now.items)
