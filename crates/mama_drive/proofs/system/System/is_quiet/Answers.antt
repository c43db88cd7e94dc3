use Rattle.std.proofs.Common.{◌∙◌, sym}
use Rattle.mama_drive.proofs.MarkLemmas.{all_empty, none_waits}
use Rattle.mama_drive.proofs.TurnLemmas.{is_quiet_by}
use Rattle.mama_drive.proofs.system.System.is_quiet.Goals as goal

pub returns : goal.returns
returns c = λ free. is_quiet_by _ c.args.self.now c.self.view_is
    (none_waits _ (sym c.is_quiet.ensures ∙ c.if-not-is_quiet.false))
    (none_waits _ (sym c.is_quiet-2.ensures ∙ free))
    (all_empty _ (λ n. c.self.invariant.publishers_marked n (c.is_none_marked.ensures c.if-not-is_none_marked.false n)))
    (all_empty _ (λ n. c.self.invariant.queues_marked n (c.is_none_marked-2.ensures c.if-not-is_none_marked-2.false n)))
