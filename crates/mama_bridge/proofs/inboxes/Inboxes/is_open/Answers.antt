use Rattle.std.specs.List.{list_any}
use Rattle.std.proofs.Common.{ap, ◌∙◌}
use Rattle.mama_bridge.specs.Opened.{Opened, is_link_of}
use Rattle.mama_bridge.proofs.InboxLemmas.{found_any}
use Rattle.mama_bridge.proofs.inboxes.Inboxes.is_open.Goals as goal

pub returns : goal.returns
returns c = c.is_some.ensures ∙ found_any c.args.inbox c.self.inside.entries.items c.index_of.result c.index_of.ensures ∙ ap (λ (p : Opened). list_any (is_link_of c.args.inbox) p.links) c.self.view_is
