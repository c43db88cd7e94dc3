-- believed: What a queue's listeners have heard and given since they came, each object's seat by itself.
use Rattle.std.specs.Prelude.{◌≡◌, ℕ, true, List, [], ◌∷◌, ◌++◌, map, length, Option, None, Some, IsSomeAnd}
use Rattle.mama_event.specs.declared.ids.ObjectId.{ObjectId}
use Rattle.mama_event.specs.declared.callback.CallNote.{CallNote}
use Rattle.mama_event.specs.declared.callback.Callback.{Callback}
use Rattle.mama_event.specs.declared.order.Order.{Order}
use Rattle.mama_event.specs.declared.order.PlanRow.{PlanRow}
use Rattle.mama_event.specs.declared.to_queue.ToQueue.{ToQueue}
use Rattle.mama_event.specs.declared.to_queue.ToQueue.TheVariants as event
use Rattle.mama_event.specs.Listener.{ListenerData, reached}
use Rattle.mama_event.specs.Plan.{planned}
use Rattle.mama_event.specs.Object.{same_object}
use Rattle.mama_dispatch.specs.Seats.{SeatData, AreOrders}

-- each seat has a property
abbrev pub AllSeats : (SeatData → Type 0) → List SeatData → Type 0
AllSeats P [] = Unit {0}
AllSeats P (s ∷ ss) = P s × AllSeats P ss

-- the seat of an object has a property, if the object has one
abbrev pub AtSeat : (SeatData → Type 0) → ObjectId → List SeatData → Type 0
AtSeat P object ss = AllSeats (λ s. same_object object s.object ≡ true → P s) ss

-- WHAT A LISTENER HEARD AND GAVE

-- callbacks are told after some more only where they were told before them, and then these come last
abbrev pub HeardOn : List Callback → Option (List Callback) → Option (List Callback) → Type 0
HeardOn calls before None = Unit {0}
HeardOn calls before (Some after) = IsSomeAnd before (λ first. after ≡ first ++ calls)

-- the orders of each callback are told after some more only where they were told before them, and then these come last
abbrev pub GivenOn : List (List Order) → Option (List (List Order)) → Option (List (List Order)) → Type 0
GivenOn orders before None = Unit {0}
GivenOn orders before (Some after) = IsSomeAnd before (λ first. after ≡ first ++ orders)

-- A listener that came so has got the callbacks of these notes since, in order, and no others. The orders of the notes are
-- those that it gave in them.
pub record HasHeard (notes : List CallNote) (came now : ListenerData) : Type 0 where
  pub tag : now.tag ≡ came.tag
  pub plan : now.plan ≡ came.plan
  pub count : now.calls ≡ reached came.calls (length notes)
  pub heard : HeardOn (map (λ n. n.call) notes) came.heard now.heard
  pub given : GivenOn (map (λ n. n.orders) notes) came.given now.given

-- a listener that was not handed back has heard these callbacks since it came
abbrev pub HeardSince : List CallNote → ListenerData → Option ListenerData → Type 0
HeardSince notes came None = Unit {0}
HeardSince notes came (Some l) = HasHeard notes came l

-- the listener of an object's seat, where it is there, came so, and has heard the seat's callbacks since
abbrev pub HeardAt : ObjectId → ListenerData → List SeatData → Type 0
HeardAt object came ss = AtSeat (λ s. HeardSince s.calls came s.listener) object ss

-- WHAT A LISTENER PLANNED

-- a plan that is told gives these orders in the callback of each number
abbrev pub PlanGives : (ℕ → List Order) → Option (List PlanRow) → Type 0
PlanGives f None = ⊥
PlanGives f (Some rows) = (call : ℕ) → planned rows call ≡ f call

-- a listener that was not handed back tells a plan of these orders, and has counted so many callbacks
abbrev pub ListensAs : (ℕ → List Order) → ℕ → Option ListenerData → Type 0
ListensAs f count None = Unit {0}
ListensAs f count (Some l) = PlanGives f l.plan × (l.calls ≡ count)

-- A seat whose listener came with this count and tells a plan of these orders: the orders that were noted with its k-th
-- callback are those that the plan has for the count and k more, also once the listener was handed back.
pub record IsPlannedSeat (f : ℕ → List Order) (count : ℕ) (s : SeatData) : Type 0 where
  pub listener : ListensAs f (reached count (length s.calls)) s.listener
  pub orders : AreOrders (λ k. f (reached count k)) 0 s.calls

-- so it is of an object's seat, if it has one
abbrev pub PlannedAt : ObjectId → (ℕ → List Order) → ℕ → List SeatData → Type 0
PlannedAt object f count ss = AtSeat (IsPlannedSeat f count) object ss

-- each object's listener came with no callbacks and tells a plan of the object's orders
abbrev pub ArePlanned : (ObjectId → ℕ → List Order) → List SeatData → Type 0
ArePlanned orders ss = (object : ObjectId) → PlannedAt object (orders object) 0 ss

-- WHAT COMES

-- the listener that an event brings, with its object
abbrev pub brought : {L : Type 0} → (L → ListenerData) → ToQueue L → Option (ObjectId × ListenerData)
brought view (event.Create slot object make l) = Some (object, view l)
brought view (event.Deliver slot sub msg) = None
brought view (event.Reply slot inbox body) = None
brought view (event.Tick slot timer moment) = None
brought view (event.Gone slot object) = None
brought view event.Fin = None

-- the listener that comes, if one comes for this object, is this one
abbrev pub ComesAs : ObjectId → ListenerData → Option (ObjectId × ListenerData) → Type 0
ComesAs object came None = Unit {0}
ComesAs object came (Some b) = same_object object b.0 ≡ true → came ≡ b.1

-- the listener that comes, if one comes for this object, tells a plan of these orders, and has counted so many callbacks
abbrev pub ComesWith : ObjectId → (ℕ → List Order) → ℕ → Option (ObjectId × ListenerData) → Type 0
ComesWith object f count None = Unit {0}
ComesWith object f count (Some b) = same_object object b.0 ≡ true → ListensAs f count (Some b.1)

-- the listener that comes, if one does, tells a plan of its object's orders, and has counted no callbacks yet
abbrev pub ComesPlanned : (ObjectId → ℕ → List Order) → Option (ObjectId × ListenerData) → Type 0
ComesPlanned orders None = Unit {0}
ComesPlanned orders (Some b) = ListensAs (orders b.0) 0 (Some b.1)
