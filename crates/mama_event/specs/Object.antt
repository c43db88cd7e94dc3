-- believed: when two ids name one object.
use Rattle.std.specs.Prelude.{Bool, false, ◌&&◌, ◌==◌}
use Rattle.mama_event.specs.declared.ids.SubId.{SubId}
use Rattle.mama_event.specs.declared.ids.TimerId.{TimerId}
use Rattle.mama_event.specs.declared.ids.InboxId.{InboxId}
use Rattle.mama_event.specs.declared.ids.ObjectId.{ObjectId}
use Rattle.mama_event.specs.declared.ids.ObjectId.TheVariants.{Sub, Timer, Inbox}

-- one subscription: the same client and the same number
abbrev pub same_sub : SubId → SubId → Bool
same_sub a b = a.client == b.client && a.number == b.number

-- one timer
abbrev pub same_timer : TimerId → TimerId → Bool
same_timer a b = a.client == b.client && a.number == b.number

-- one inbox
abbrev pub same_inbox : InboxId → InboxId → Bool
same_inbox a b = a.client == b.client && a.number == b.number

-- one object: of one kind, and the same of that kind
abbrev pub same_object : ObjectId → ObjectId → Bool
same_object (Sub a) (Sub b) = same_sub a b
same_object (Sub a) (Timer b) = false
same_object (Sub a) (Inbox b) = false
same_object (Timer a) (Sub b) = false
same_object (Timer a) (Timer b) = same_timer a b
same_object (Timer a) (Inbox b) = false
same_object (Inbox a) (Sub b) = false
same_object (Inbox a) (Timer b) = false
same_object (Inbox a) (Inbox b) = same_inbox a b
