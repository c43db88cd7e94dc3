-- inner: Who opened an inbox, and the links of those that are open.
use Rattle.std.specs.Prelude.{ℕ, Bool, List, [], Option}
use Rattle.std.specs.BTreeMap.{BTreeMap}
use Rattle.mama_link.specs.Standing.{standing_after}
use Rattle.mama_link.specs.declared.faults.FaultRow.{FaultRow}
use Rattle.mama_event.specs.Object.{same_inbox}
use Rattle.mama_event.specs.declared.ids.InboxId.{InboxId}
use Rattle.mama_bridge.specs.declared.inboxes.InboxLink.{InboxLink}
use Rattle.mama_bridge.specs.Ids.{inbox_cmp}
use Rattle.mama_bridge.specs.Links.{InboxView}
use Rattle.mama_bridge.specs.Placed.{IndexedBy}

-- who opened an inbox, and the links of those that are open, in order of opening
pub record Opened : Type 0 where
  pub opened : List InboxId
  pub links : List InboxLink

abbrev pub is_link_of : InboxId → InboxLink → Bool
is_link_of i link = same_inbox link.inbox i

-- each link is at the index that is noted for its inbox
abbrev pub LinksIndexed : BTreeMap InboxId ℕ → List (Option InboxLink) → Type 0
LinksIndexed indexes entries = IndexedBy inbox_cmp (λ (link : InboxLink). link.inbox) indexes entries

-- the link of an inbox that no reply has passed
abbrev pub new_inbox_view : InboxId → ℕ → ℕ → List FaultRow → InboxView
new_inbox_view inbox queue slot faults = record { inbox = inbox; queue = queue; slot = slot; link = standing_after faults [] }
