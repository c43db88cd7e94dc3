-- believed: What a message is to an image, and the tables of actions of market subscriptions.
use Rattle.std.specs.Prelude.{ℕ, suc, Bool, true, false, ◌==◌, nat_lt, if◌then◌else◌}
use Rattle.mama_event.specs.declared.shape.Strategy.{Strategy}
use Rattle.mama_event.specs.declared.shape.Strategy.TheVariants.{One, Two}
use Rattle.mama_event.specs.declared.market.MsgKind.{MsgKind}
use Rattle.mama_event.specs.declared.market.MsgKind.TheVariants.{Initial, Update, Recap}
use Rattle.mama_event.specs.declared.market.MarketMsg.{MarketMsg}
use Rattle.mama_dq.specs.declared.table.Phase.{Phase}
use Rattle.mama_dq.specs.declared.table.Phase.TheVariants.{Await, LiveOk, LiveStale, LiveKept}
use Rattle.mama_dq.specs.declared.table.Relation.{Relation}
use Rattle.mama_dq.specs.declared.table.Relation.TheVariants.{Next, Same, Old, Ahead, Other}
use Rattle.mama_dq.specs.declared.table.Action.{Action}
use Rattle.mama_dq.specs.declared.table.Action.TheVariants.{Keep, Start, Apply, ApplyKeep, KeepOnly, Ignore, Gap, Switch, Replace, Heal, Adopt, StartKeep, Catch, Late, KeepLate}

-- whether a message of this kind is an update, and not an image message
abbrev pub is_update : MsgKind → Bool
is_update Initial = false
is_update Update = true
is_update Recap = false

-- what a number is to the last number of the same sender
abbrev pub relation_of_number : ℕ → ℕ → Relation
relation_of_number last n = if n == suc last then Next else if n == last then Same else if nat_lt n last then Old else Ahead

-- what a message is to a sender and its last number
abbrev pub relation_of : ℕ → ℕ → MarketMsg → Relation
relation_of sender last m = if m.sender == sender then relation_of_number last m.seq else Other

-- the action of strategy one, or that of strategy two, where they differ
abbrev pub either : Strategy → Action → Action → Action
either One one two = one
either Two one two = two

-- the action for an image message while there is an image that is the sender's record
abbrev pub ok_image : Relation → Action
ok_image Next = Replace
ok_image Same = Replace
ok_image Old = Ignore
ok_image Ahead = Replace
ok_image Other = Adopt

-- the action for an update then
abbrev pub ok_update : Strategy → Relation → Action
ok_update strategy Next = Apply
ok_update strategy Same = either strategy Ignore Late
ok_update strategy Old = either strategy Ignore Late
ok_update strategy Ahead = Gap
ok_update strategy Other = Switch

-- the action for an update then, where updates that came before the image are kept
abbrev pub kept_update : Strategy → Relation → Action
kept_update strategy Next = Apply
kept_update strategy Same = either strategy Ignore Late
kept_update strategy Old = either strategy Ignore Late
kept_update strategy Ahead = either strategy Gap Catch
kept_update strategy Other = Switch

-- the action for an image message while there is an image that may lack updates
abbrev pub stale_image : Relation → Action
stale_image Next = Heal
stale_image Same = Heal
stale_image Old = Heal
stale_image Ahead = Heal
stale_image Other = Adopt

-- the action for an update then
abbrev pub stale_update : Strategy → Relation → Action
stale_update strategy Next = ApplyKeep
stale_update strategy Same = either strategy KeepOnly KeepLate
stale_update strategy Old = either strategy KeepOnly KeepLate
stale_update strategy Ahead = Gap
stale_update strategy Other = Switch

-- The action for a message in a phase. While there is no image the relation is not looked at. A context of strategy one
-- never keeps early updates past its image, and its actions there are those of an image without any.
abbrev pub decided : Strategy → Phase → Relation → Bool → Action
decided strategy Await relation false = either strategy Start StartKeep
decided strategy Await relation true = Keep
decided strategy LiveOk relation false = ok_image relation
decided strategy LiveOk relation true = ok_update strategy relation
decided strategy LiveStale relation false = stale_image relation
decided strategy LiveStale relation true = stale_update strategy relation
decided strategy LiveKept relation false = ok_image relation
decided strategy LiveKept relation true = kept_update strategy relation
