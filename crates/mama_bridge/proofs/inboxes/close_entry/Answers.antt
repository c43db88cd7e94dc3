use Rattle.std.specs.Prelude.{option_to_list}
use Rattle.std.specs.List.{flat_map}
use Rattle.std.proofs.Common.{◌≡◌, List, ◌++◌, None, Some, ap, map, sym, ◌∙◌}
use Rattle.std.specs.declared.option.Option.{Option}
use Rattle.mama_bridge.specs.Links.{inbox_seen, inbox_end_outs}
use Rattle.mama_bridge.specs.declared.inboxes.InboxLink.{InboxLink}
use Rattle.mama_bridge.specs.declared.out.BridgeOut.{BridgeOut}
use Rattle.mama_bridge.proofs.inboxes.close_entry.Goals as goal

pub returns-clause-less : goal.returns-clause-less
returns-clause-less g c link h = let bad : None ≡ Some link = sym c.take.ensures.after ∙ h in cc

pub returns-clause-ok : goal.returns-clause-ok
returns-clause-ok g c = (
  c.take.ensures.after,
  λ rows h.
      (c.end_entry.ensures.ends rows (ap (λ (e : Option InboxLink). map inbox_seen (option_to_list e)) c.take.ensures.value ∙ h) (c.reserve-2.ensures.items ∙ c.new-bodies.ensures)).0
      ∙ ap (λ (os : List (BridgeOut g.row.L.Denot)). os ++ flat_map inbox_end_outs rows) c.reserve.ensures.items,
)
