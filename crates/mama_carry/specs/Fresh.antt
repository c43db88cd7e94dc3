-- believed: A listener as it was made.
use Rattle.std.specs.Prelude.{◌≡◌, List, [], Option, None, Some}
use Rattle.mama_event.specs.declared.ids.ObjectId.{ObjectId}
use Rattle.mama_event.specs.declared.callback.Callback.{Callback}
use Rattle.mama_event.specs.declared.order.PlanRow.{PlanRow}
use Rattle.mama_event.specs.Listener.{ListenerData}

-- the callbacks that a listener tells; none where it does not tell them
abbrev pub told_calls : Option (List Callback) → List Callback
told_calls None = []
told_calls (Some calls) = calls

-- a listener as it was made for an object with this plan, which it tells: it has got no callbacks
pub record IsFresh (object : ObjectId) (plan : List PlanRow) (l : ListenerData) : Type 0 where
  pub tag : l.tag ≡ object
  pub calls : l.calls ≡ 0
  pub heard : told_calls l.heard ≡ []
  pub planned : l.plan ≡ Some plan
