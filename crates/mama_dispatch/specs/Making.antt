-- inner: What the calls on seats make of them, by what is served.
use Rattle.std.specs.Prelude.{◌≡◌, ℕ, ◌*◌, ◌≤◌, true, false, List, [], ◌∷◌, ◌++◌, length, map, is_some, Some, None}
use Rattle.std.specs.List.{list_all}
use Rattle.mama_event.specs.declared.ids.ObjectId.{ObjectId}
use Rattle.mama_event.specs.declared.ids.ObjectId.TheVariants.{Sub}
use Rattle.mama_event.specs.declared.ids.SubId.{SubId}
use Rattle.mama_event.specs.declared.market.MarketMsg.{MarketMsg}
use Rattle.mama_event.specs.declared.callback.Callback.{Callback}
use Rattle.mama_event.specs.declared.callback.Callback.TheVariants as on
use Rattle.mama_event.specs.declared.order.Order.{Order}
use Rattle.mama_event.specs.declared.to_queue.Make.{Make}
use Rattle.mama_event.specs.Listener.{ListenerData}
use Rattle.mama_dq.specs.Strategy.{callbacks_of}
use Rattle.mama_rules_queue.specs.Queue.{Deed, QueuePut, handled, is_live}
use Rattle.mama_dispatch.specs.Journals.{Born}
use Rattle.mama_dispatch.specs.declared.turn.Turn.{Turn}
use Rattle.mama_dispatch.specs.declared.turn.Turn.TheVariants as turn
use Rattle.mama_dispatch.specs.Seats.{SeatData, is_muted_in, listener_in, room_in, context_in, at, with_room, with_listener, new_seat, Fits}
use Rattle.mama_dispatch.specs.Seating.{is_plain, Seated, CalledOnce, CallsMade}
use Rattle.mama_dispatch.specs.Keeping.{Kept}

-- a live object may get these callbacks, none of which is its first or its last: there is room for them, and for what they put
pub record MayCall (o : ObjectId) (calls : List Callback) (seats : List SeatData) (free : ℕ) : Type 0 where
  pub here : is_some (listener_in o seats) ≡ true
  pub room : length calls ≤ room_in o seats
  pub spare : 9 * length calls ≤ free
  pub plain : list_all is_plain calls ≡ true

-- these callbacks of an object were made, as long as that was not muted; so many were
pub record WereCalled (o : ObjectId) (calls : List Callback) (before after : List SeatData) (put_before put_after : List QueuePut) (so_many : ℕ) : Type 0 where
  pub kept : Kept before after
  pub fits : (orders : ObjectId → ℕ → List Order) → Fits orders after → Fits orders before
  pub made : (orders : ObjectId → ℕ → List Order) (bs : List Born) (ds : List Deed) → Fits orders after → Seated (is_live ds) ds bs before
      → CallsMade orders bs ds o calls after put_before put_after so_many

-- an object was made and got its first callback
pub record Created (o : ObjectId) (make : Make) (l : ListenerData) (before after : List SeatData) (put_before put_after : List QueuePut) : Type 0 where
  pub room : ℕ
  pub once : CalledOnce o on.Create (before ++ new_seat o make l room ∷ []) after put_before put_after

-- an object got its last callback, and its listener left
pub record Ended (o : ObjectId) (l : ListenerData) (before after : List SeatData) (put_before put_after : List QueuePut) : Type 0 where
  pub room : ℕ
  pub middle : List SeatData
  pub once : CalledOnce o on.Destroy (map (at o (with_room room)) before) middle put_before put_after
  pub left : listener_in o middle ≡ Some l
  pub seats : after ≡ map (at o (with_listener None)) middle

-- A callback was made of an object that was not muted before, and none of one that was: so the turn answers.
pub data WasTold {L : Type 0} (o : ObjectId) (call : Callback) (before after : List SeatData) (put_before put_after : List QueuePut) (answer : Turn L) : Type 0 where
  called : is_muted_in o before ≡ false → WereCalled o (call ∷ []) before after put_before put_after 1 → answer ≡ turn.Called 1 → WasTold o call before after put_before put_after answer
  muted : is_muted_in o before ≡ true → after ≡ before → put_after ≡ put_before → answer ≡ turn.Muted o → WasTold o call before after put_before put_after answer

-- a subscription's context took a message, and the callbacks of that were made
pub record Delivered (s : SubId) (m : MarketMsg) (before after : List SeatData) (put_before put_after : List QueuePut) (so_many : ℕ) : Type 0 where
  pub kept : Kept before after
  pub fits : (orders : ObjectId → ℕ → List Order) → Fits orders after → Fits orders before
  pub made : (orders : ObjectId → ℕ → List Order) (bs : List Born) (ds : List Deed) → Fits orders after → Seated (is_live ds) ds bs before
      → CallsMade orders bs (ds ++ handled s m ∷ []) (Sub s) (callbacks_of (context_in (Sub s) before) m) after put_before put_after so_many
