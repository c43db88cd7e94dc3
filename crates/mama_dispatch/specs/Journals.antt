-- believed: What a queue's journal says of its objects: which were made on it, which are live, and which images were left.
use Rattle.std.specs.Prelude.{ℕ, Bool, true, false, not, ◌&&◌, ◌||◌, List, [], ◌∷◌, map, fold, Option, Some, None}
use Rattle.std.specs.List.{list_any, flat_map}
use Rattle.mama_msg.specs.Field.{FieldData}
use Rattle.mama_journal.specs.Journal.{puts, first_said}
use Rattle.mama_event.specs.declared.ids.SubId.{SubId}
use Rattle.mama_event.specs.declared.ids.ObjectId.{ObjectId}
use Rattle.mama_event.specs.declared.ids.ObjectId.TheVariants.{Sub, Timer, Inbox}
use Rattle.mama_event.specs.declared.market.MarketMsg.{MarketMsg}
use Rattle.mama_event.specs.declared.market.ImageHead.{ImageHead}
use Rattle.mama_event.specs.declared.callback.CallNote.{CallNote}
use Rattle.mama_event.specs.declared.callback.Callback.{Callback}
use Rattle.mama_event.specs.declared.order.Order.{Order}
use Rattle.mama_event.specs.declared.to_queue.Make.{Make}
use Rattle.mama_event.specs.declared.to_queue.QueueNote.{QueueNote}
use Rattle.mama_event.specs.declared.to_queue.QueueNote.TheVariants as q
use Rattle.mama_event.specs.Object.{same_object}
use Rattle.mama_dq.specs.declared.table.Phase.{Phase}
use Rattle.mama_dq.specs.declared.table.Phase.TheVariants.{Await, LiveOk, LiveStale, LiveKept}
use Rattle.mama_dq.specs.Context.{ContextData, quality_in}
use Rattle.mama_rules_queue.specs.Queue.{Deed, make_in, context_of, messages_of, calls_of, deeds}

-- an object that was made on this queue
pub record Born : Type 0 where
  pub object : ObjectId
  pub make : Make

abbrev pub born_in : QueueNote → List Born
born_in (q.Create slot object make tag) = record { object = object; make = make } ∷ []
born_in (q.Deliver slot sub msg) = []
born_in (q.Reply slot inbox body) = []
born_in (q.Bad slot sub kind sender seq bytes) = []
born_in (q.BadReply slot inbox bytes) = []
born_in (q.Tick slot timer moment) = []
born_in (q.Gone slot object) = []
born_in q.Fin = []

-- the objects that were made here, in the order of their Creates
abbrev pub born : List (ℕ × QueueNote) → List Born
born journal = flat_map (λ e. born_in e.1) journal

-- an object's Create was taken
abbrev pub is_born : ObjectId → List (ℕ × QueueNote) → Bool
is_born o journal = list_any (λ b. same_object o b.object) (born journal)

-- whether an object lives on this queue after a note, if it lived here before it or not
abbrev pub lives : ObjectId → Bool → QueueNote → Bool
lives o live (q.Create slot object make tag) = live || same_object object o
lives o live (q.Deliver slot sub msg) = live
lives o live (q.Reply slot inbox body) = live
lives o live (q.Bad slot sub kind sender seq bytes) = live
lives o live (q.BadReply slot inbox bytes) = live
lives o live (q.Tick slot timer moment) = live
lives o live (q.Gone slot object) = live && not (same_object object o)
lives o live q.Fin = live

-- an object is live on this queue: its Create was taken, and its Gone was not
abbrev pub is_live_here : ObjectId → List (ℕ × QueueNote) → Bool
is_live_here o journal = fold (λ live e. lives o live e.1) false journal

-- an entry may come: a Create is the first of its object, and else the object is live here
abbrev pub may_come : List (ℕ × QueueNote) → QueueNote → Bool
may_come journal (q.Create slot object make tag) = not (is_born object journal)
may_come journal (q.Deliver slot sub msg) = is_live_here (Sub sub) journal
may_come journal (q.Reply slot inbox body) = is_live_here (Inbox inbox) journal
may_come journal (q.Bad slot sub kind sender seq bytes) = is_live_here (Sub sub) journal
may_come journal (q.BadReply slot inbox bytes) = is_live_here (Inbox inbox) journal
may_come journal (q.Tick slot timer moment) = is_live_here (Timer timer) journal
may_come journal (q.Gone slot object) = is_live_here object journal
may_come journal q.Fin = true

-- the messages that an object's context has handled; only a subscription has any
abbrev pub messages_at : ObjectId → List Deed → List MarketMsg
messages_at (Sub s) ds = messages_of s ds
messages_at (Timer t) ds = []
messages_at (Inbox i) ds = []

-- the context of a subscription after a journal
abbrev pub context_after : (ObjectId → ℕ → List Order) → List (ℕ × QueueNote) → SubId → ContextData
context_after orders journal s = context_of (first_said (λ e. make_in (Sub s) e.1) journal) (messages_of s (deeds orders journal))

-- a context's image, if it has one
abbrev pub image_in : ContextData → Option (ImageHead × List FieldData)
image_in c = image_by c.phase c
  where
    image_by : Phase → ContextData → Option (ImageHead × List FieldData)
    image_by Await c = None
    image_by LiveOk c = Some (record { sender = c.sender; last = c.last; quality = quality_in LiveOk }, c.image)
    image_by LiveStale c = Some (record { sender = c.sender; last = c.last; quality = quality_in LiveStale }, c.image)
    image_by LiveKept c = Some (record { sender = c.sender; last = c.last; quality = quality_in LiveKept }, c.image)

-- a subscription with its image
abbrev pub image_put : SubId → Option (ImageHead × List FieldData) → List (SubId × ImageHead × List FieldData)
image_put s None = []
image_put s (Some image) = (s, image.0, image.1) ∷ []

-- the image that a subscription leaves: the one that it had when its Gone was taken
abbrev pub left_by : (SubId → ContextData) → ObjectId → List (SubId × ImageHead × List FieldData)
left_by context (Sub s) = image_put s (image_in (context s))
left_by context (Timer t) = []
left_by context (Inbox i) = []

-- what an entry leaves: a Gone, where the contexts are these, the image of its subscription
abbrev pub left_in : (SubId → ContextData) → QueueNote → List (SubId × ImageHead × List FieldData)
left_in context (q.Create slot object make tag) = []
left_in context (q.Deliver slot sub msg) = []
left_in context (q.Reply slot inbox body) = []
left_in context (q.Bad slot sub kind sender seq bytes) = []
left_in context (q.BadReply slot inbox bytes) = []
left_in context (q.Tick slot timer moment) = []
left_in context (q.Gone slot object) = left_by context object
left_in context q.Fin = []

abbrev pub left_at : (ObjectId → ℕ → List Order) → List (ℕ × QueueNote) → ℕ × QueueNote → List (SubId × ImageHead × List FieldData)
left_at orders before e = left_in (context_after orders before) e.1

-- the images that were left, in the order of the Gones
abbrev pub images_left : (ObjectId → ℕ → List Order) → List (ℕ × QueueNote) → List (SubId × ImageHead × List FieldData)
images_left orders journal = puts (left_at orders) journal

-- a callback that was made, as it is noted
abbrev pub noted : Callback × List Order → CallNote
noted p = record { call = p.0; orders = p.1 }

-- the notes of an object's callbacks
abbrev pub notes_of : ObjectId → List Deed → List CallNote
notes_of o ds = map noted (calls_of o ds)
