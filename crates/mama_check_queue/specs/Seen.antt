-- inner: What a queue's journal tells of one object, and what each deed makes of that.
use Rattle.std.specs.Prelude.{ℕ, Bool, false, not, ◌&&◌, ◌||◌, List, [], ◌∷◌, ◌++◌, map, Option, None, Some, if◌then◌else◌}
use Rattle.std.specs.List.{list_any}
use Rattle.mama_journal.specs.Journal.{first_said}
use Rattle.mama_event.specs.declared.ids.ObjectId.{ObjectId}
use Rattle.mama_event.specs.declared.ids.ObjectId.TheVariants.{Sub}
use Rattle.mama_event.specs.declared.market.MarketMsg.{MarketMsg}
use Rattle.mama_event.specs.declared.callback.Callback.{Callback}
use Rattle.mama_event.specs.declared.callback.CallNote.{CallNote}
use Rattle.mama_event.specs.declared.order.Order.{Order}
use Rattle.mama_event.specs.declared.to_queue.Make.{Make}
use Rattle.mama_event.specs.declared.to_queue.QueueNote.{QueueNote}
use Rattle.mama_event.specs.Object.{same_object}
use Rattle.mama_dq.specs.Context.{ContextData}
use Rattle.mama_dq.specs.Strategy.{after}
use Rattle.mama_rules_queue.specs.Queue.{Deed, handled, called, ends, is_create, is_destroy, is_muted, calls_of, make_in, context_of, is_live}
use Rattle.mama_rules_rounds.specs.Told.{noted}
use Rattle.mama_dispatch.specs.Journals.{messages_at}

-- An object: how it was made first, whether it is live and whether it is muted, its callbacks, its context, and the
-- messages that may have to be folded anew, since no Create has come.
pub record SeenData : Type 0 where
  pub make : Option Make
  pub live : Bool
  pub muted : Bool
  pub calls : List CallNote
  pub context : ContextData
  pub waiting : List MarketMsg

-- an object of which nothing came
abbrev pub unseen : SeenData
unseen = record { make = None; live = false; muted = false; calls = []; context = context_of None []; waiting = [] }

-- messages are kept while no Create has come
abbrev pub kept_until : Option Make → List MarketMsg → List MarketMsg
kept_until None messages = messages
kept_until (Some make) messages = []

-- what a journal and the deeds of its queue tell of an object
abbrev pub seen_of : ObjectId → List (ℕ × QueueNote) → List Deed → SeenData
seen_of o journal ds = record {
  make = first_said (λ e. make_in o e.1) journal;
  live = is_live ds o;
  muted = is_muted o ds;
  calls = map noted (calls_of o ds);
  context = context_of (first_said (λ e. make_in o e.1) journal) (messages_at o ds);
  waiting = kept_until (first_said (λ e. make_in o e.1) journal) (messages_at o ds);
}

-- with its first callback an object is live
abbrev pub begun : Callback → SeenData → SeenData
begun call s = record s { live = s.live || is_create call }

-- an order that ends an object mutes it where it is live
abbrev pub silenced : SeenData → SeenData
silenced s = record s { muted = s.muted || s.live }

abbrev pub muted_by : ObjectId → List Order → SeenData → SeenData
muted_by o orders s = record s { muted = s.muted || (s.live && list_any (ends o) orders) }

-- a callback was made with these orders, and after the last the object is not live
abbrev pub called_so : Callback → List Order → SeenData → SeenData
called_so call orders s = record s { live = s.live && not (is_destroy call); calls = s.calls ++ record { call = call; orders = orders } ∷ [] }

-- a message more is kept while no Create has come
abbrev pub kept_more : Option Make → List MarketMsg → MarketMsg → List MarketMsg
kept_more None waiting msg = waiting ++ msg ∷ []
kept_more (Some make) waiting msg = waiting

-- the context handled a message
abbrev pub handling : MarketMsg → SeenData → SeenData
handling msg s = record s { context = after s.context msg; waiting = kept_more s.make s.waiting msg }

-- the first Create makes the object, and messages that were handled before it are folded anew
abbrev pub first_made : Option Make → Make → SeenData → SeenData
first_made None make s = record s { make = Some make; context = context_of (Some make) s.waiting; waiting = [] }
first_made (Some first) make s = s

abbrev pub made_as : Make → SeenData → SeenData
made_as make s = first_made s.make make s

-- a change of one object alone
abbrev pub at : ObjectId → ObjectId → (SeenData → SeenData) → SeenData → SeenData
at o x change s = if same_object o x then change s else s

-- what a deed makes of an object x
abbrev pub after_deed : ObjectId → Deed → SeenData → SeenData
after_deed x (called o call orders) s = at o x (called_so call orders) (muted_by x orders (at o x (begun call) s))
after_deed x (handled sub msg) s = at (Sub sub) x (handling msg) s
