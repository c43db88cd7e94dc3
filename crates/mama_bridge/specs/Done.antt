-- inner: What it says that an actor is done, and which flag it sets.
use Rattle.std.specs.Prelude.{◌≡◌, ◌<◌, length}
use Rattle.mama_rules_services.specs.Bridge.{BridgeEvent, client_done, sends_done, settled}
use Rattle.mama_laws_bridge.specs.Table.{marked, client_in, sender_in, settler_in}
use Rattle.mama_bridge.specs.declared.done.Done.{Done}
use Rattle.mama_bridge.specs.declared.done.Done.TheVariants as done
use Rattle.mama_bridge.specs.declared.desk.Desk.{Desk}

-- the event that says so
abbrev pub said_by : Done → BridgeEvent
said_by (done.Client client) = client_done client
said_by (done.Sends publisher) = sends_done publisher
said_by (done.Settled publisher) = settled publisher

-- there is a flag for it
abbrev pub HasFlag : Desk → Done → Type 0
HasFlag desk (done.Client client) = client < length desk.clients
HasFlag desk (done.Sends publisher) = publisher < length desk.sends
HasFlag desk (done.Settled publisher) = publisher < length desk.settled

-- its flag is set, and nothing else has changed
pub record Marks (who : Done) (before after : Desk) : Type 0 where
  pub opened : after.inboxes.opened ≡ before.inboxes.opened
  pub subs : after.subs ≡ before.subs
  pub inboxes : after.inboxes.links ≡ before.inboxes.links
  pub slots : after.slots ≡ before.slots
  pub clients : after.clients ≡ marked before.clients (client_in (said_by who))
  pub sends : after.sends ≡ marked before.sends (sender_in (said_by who))
  pub settled : after.settled ≡ marked before.settled (settler_in (said_by who))
  pub byes : after.byes ≡ before.byes
