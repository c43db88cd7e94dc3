-- believed: The objects of a queue as contracts see them, and what a callback and an order make of them.
use Rattle.std.specs.Prelude.{◌≡◌, ℕ, ◌+◌, ◌-◌, Bool, false, ◌&&◌, ◌||◌, List, [], ◌∷◌, ◌++◌, Option, Some, None, is_some, if◌then◌else◌}
use Rattle.std.specs.List.{list_any}
use Rattle.std.specs.Option.{option_map_or, option_and_then}
use Rattle.mama_event.specs.declared.ids.ObjectId.{ObjectId}
use Rattle.mama_event.specs.declared.callback.CallNote.{CallNote}
use Rattle.mama_event.specs.declared.callback.Callback.{Callback}
use Rattle.mama_event.specs.declared.market.SubKind.TheVariants.{Basic}
use Rattle.mama_event.specs.declared.order.Order.{Order}
use Rattle.mama_event.specs.declared.to_queue.Make.{Make}
use Rattle.mama_event.specs.declared.market.MarketMsg.{MarketMsg}
use Rattle.mama_event.specs.Object.{same_object}
use Rattle.mama_dq.specs.Strategy.{after}
use Rattle.mama_dq.specs.Context.{ContextData, new_context}
use Rattle.mama_rules_queue.specs.Queue.{ends, context_of}
use Rattle.mama_event.specs.Listener.{ListenerData, Heard}
use Rattle.mama_event.specs.declared.shape.Strategy.TheVariants.{One}

-- An object that was made on this queue: its listener until that is handed back, whether it is muted, its context, its
-- callbacks, and for how many more there is room.
pub record SeatData : Type 0 where
  pub object : ObjectId
  pub listener : Option ListenerData
  pub muted : Bool
  pub context : ContextData
  pub calls : List CallNote
  pub room : ℕ

-- some seat is this object's
abbrev pub has_seat : ObjectId → List SeatData → Bool
has_seat o seats = list_any (λ s. same_object o s.object) seats

-- no object has two seats
abbrev pub AreApart : List SeatData → Type 0
AreApart [] = Unit {0}
AreApart (s ∷ ss) = (has_seat s.object ss ≡ false) × AreApart ss

-- the seat of an object
abbrev pub seat_of : ObjectId → List SeatData → Option SeatData
seat_of o [] = None
seat_of o (s ∷ ss) = if same_object o s.object then Some s else seat_of o ss

abbrev pub listener_in : ObjectId → List SeatData → Option ListenerData
listener_in o seats = option_and_then (λ s. s.listener) (seat_of o seats)

abbrev pub is_muted_in : ObjectId → List SeatData → Bool
is_muted_in o seats = option_map_or (λ s. s.muted) (seat_of o seats) false

abbrev pub context_in : ObjectId → List SeatData → ContextData
context_in o seats = option_map_or (λ s. s.context) (seat_of o seats) (new_context One Basic 0)

abbrev pub room_in : ObjectId → List SeatData → ℕ
room_in o seats = option_map_or (λ s. s.room) (seat_of o seats) 0

-- a seat changed, if it is this object's
abbrev pub at : ObjectId → (SeatData → SeatData) → SeatData → SeatData
at o change s = if same_object o s.object then change s else s

-- a seat after an order in some callback: it is muted if the order ends its object, and that lives here
abbrev pub muted_by : Order → SeatData → SeatData
muted_by order s = record s { muted = s.muted || (is_some s.listener && ends s.object order) }

-- a seat whose object is muted if it lives here
abbrev pub muted_where_live : SeatData → SeatData
muted_where_live s = record s { muted = s.muted || is_some s.listener }

abbrev pub muted_by_all : List Order → SeatData → SeatData
muted_by_all orders s = record s { muted = s.muted || (is_some s.listener && list_any (ends s.object) orders) }

-- a seat with another listener, or none
abbrev pub with_listener : Option ListenerData → SeatData → SeatData
with_listener l s = record s { listener = l }

-- a seat after a callback of its object that leaves the listener so
abbrev pub called_with : Callback → List Order → Option ListenerData → SeatData → SeatData
called_with call orders l s = record s { listener = l; calls = s.calls ++ record { call = call; orders = orders } ∷ []; room = s.room - 1 }

-- a seat whose context has handled a message
abbrev pub stepped : MarketMsg → SeatData → SeatData
stepped m s = record s { context = after s.context m }

-- a seat with another context
abbrev pub with_context : ContextData → SeatData → SeatData
with_context c s = record s { context = c }

-- a seat with other room
abbrev pub with_room : ℕ → SeatData → SeatData
with_room room s = record s { room = room }

-- the seat of a new object
abbrev pub new_seat : ObjectId → Make → ListenerData → ℕ → SeatData
new_seat object make l room = record { object = object; listener = Some l; muted = false; context = context_of (Some make) []; calls = []; room = room }

-- a listener that is there got a callback
abbrev pub HeardIn : Callback → Option ListenerData → Option ListenerData → List Order → Type 0
HeardIn call (Some before) (Some after) orders = Heard call before after orders
HeardIn call (Some before) None orders = ⊥
HeardIn call None after orders = ⊥

-- the orders of an object's callbacks from the one above number k on are those of a function
abbrev pub AreOrders : (ℕ → List Order) → ℕ → List CallNote → Type 0
AreOrders f k [] = Unit {0}
AreOrders f k (n ∷ ns) = (n.orders ≡ f (k + 1)) × AreOrders f (k + 1) ns

-- the orders of all callbacks are those of a function from an object and the callback's number
abbrev pub Fits : (ObjectId → ℕ → List Order) → List SeatData → Type 0
Fits orders [] = Unit {0}
Fits orders (s ∷ ss) = AreOrders (orders s.object) 0 s.calls × Fits orders ss
