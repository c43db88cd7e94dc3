-- believed: When the objects that a queue keeps are those that its deeds say.
use Rattle.std.specs.Prelude.{◌≡◌, ℕ, Bool, not, ◌&&◌, List, [], ◌∷◌, ◌++◌, length, map, Some, is_some}
use Rattle.std.specs.List.{flat_map}
use Rattle.mama_event.specs.declared.ids.ObjectId.{ObjectId}
use Rattle.mama_event.specs.declared.callback.Callback.{Callback}
use Rattle.mama_event.specs.declared.order.Order.{Order}
use Rattle.mama_rules_queue.specs.Queue.{Deed, QueuePut, is_muted, is_live, is_create, is_destroy, context_of, made, puts_of, wish_put, order_put}
use Rattle.mama_event.specs.Listener.{ListenerData}
use Rattle.mama_dispatch.specs.Journals.{Born, messages_at, notes_of}
use Rattle.mama_dispatch.specs.Seats.{SeatData, HeardIn, listener_in, at, called_with, muted_by_all}

-- a seat holds what the deeds say of its object, and its listener is there where a test says so
pub record SeatAt (here : ObjectId → Bool) (ds : List Deed) (b : Born) (s : SeatData) : Type 0 where
  pub object : s.object ≡ b.object
  pub listener : is_some s.listener ≡ here b.object
  pub muted : s.muted ≡ is_muted b.object ds
  pub context : s.context ≡ context_of (Some b.make) (messages_at b.object ds)
  pub calls : s.calls ≡ notes_of b.object ds

-- there is one seat for each object, in order
abbrev pub Seated : (ObjectId → Bool) → List Deed → List Born → List SeatData → Type 0
Seated here ds [] [] = Unit {0}
Seated here ds [] (s ∷ ss) = ⊥
Seated here ds (b ∷ bs) [] = ⊥
Seated here ds (b ∷ bs) (s ∷ ss) = SeatAt here ds b s × Seated here ds bs ss

-- a callback that is neither the first nor the last
abbrev pub is_plain : Callback → Bool
is_plain call = not (is_create call) && not (is_destroy call)

-- one callback of an object was made
pub record CalledOnce (o : ObjectId) (call : Callback) (before after : List SeatData) (put_before put_after : List QueuePut) : Type 0 where
  pub orders : List Order
  pub listener : ListenerData
  pub heard : HeardIn call (listener_in o before) (Some listener) orders
  pub seats : after ≡ map (muted_by_all orders) (map (at o (called_with call orders (Some listener))) before)
  pub here : listener_in o after ≡ Some listener
  pub puts : put_after ≡ put_before ++ wish_put o call ++ map order_put orders

-- callbacks of an object were made as the rules say, and put what they say; so many were made
pub record CallsMade (orders : ObjectId → ℕ → List Order) (bs : List Born) (ds : List Deed) (o : ObjectId) (calls : List Callback) (after : List SeatData) (put_before put_after : List QueuePut) (so_many : ℕ) : Type 0 where
  pub seated : Seated (is_live (ds ++ made orders o ds calls)) (ds ++ made orders o ds calls) bs after
  pub puts : put_after ≡ put_before ++ flat_map puts_of (made orders o ds calls)
  pub count : so_many ≡ length (made orders o ds calls)
