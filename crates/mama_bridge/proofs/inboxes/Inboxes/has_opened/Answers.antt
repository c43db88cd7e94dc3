use Rattle.std.proofs.Common.{ap, ◌∙◌}
use Rattle.mama_bridge.specs.Ids.{is_inbox_among}
use Rattle.mama_bridge.specs.Opened.{Opened}
use Rattle.mama_bridge.proofs.InboxLemmas.{among}
use Rattle.mama_bridge.proofs.inboxes.Inboxes.has_opened.Goals as goal

pub returns : goal.returns
returns c = c.contains_key.ensures ∙ among c.self.inside.indexes c.args.inbox ∙ ap (λ (p : Opened). is_inbox_among p.opened c.args.inbox) c.self.view_is
