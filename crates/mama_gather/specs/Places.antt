-- inner: What was found of each object: its callbacks, its listener and its last image.
use Rattle.std.specs.Prelude.{◌≡◌, ℕ, List, [], slice_set, slice_index_or, Option, Some}
use Rattle.std.specs.Global.{Vec}
use Rattle.std.specs.List.{slice_get}
use Rattle.mama_event.specs.declared.ids.ObjectId.{ObjectId}
use Rattle.mama_event.specs.declared.ids.ObjectId.TheVariants.{Sub, Timer, Inbox}
use Rattle.mama_event.specs.declared.callback.CallNote.{CallNote}
use Rattle.mama_event.specs.declared.to_queue.QueueNote.{QueueNote}
use Rattle.mama_event.specs.Listener.{ListenerData}
use Rattle.mama_record.specs.RunData.{LastImage}
use Rattle.mama_rules_rounds.specs.Client.{Planned}
use Rattle.mama_plans.specs.Image.{image_of}
use Rattle.mama_posts_clients.specs.Queue.{calls_by, HasComeBack}

-- The object of this place is this one, and is on this queue.
pub record IsPlaceOf (objects : List Planned) (place queue : ℕ) (object : ObjectId) : Type 0 where
  pub planned : Planned
  pub there : slice_get objects place ≡ Some planned
  pub object_is : planned.object ≡ object
  pub queue_is : planned.queue ≡ queue

-- A value was put at the place of an object that is on this queue.
pub record IsPut {T : Type 0} (objects : List Planned) (queue : ℕ) (object : ObjectId) (value : T) (old new : List (Option T)) : Type 0 where
  pub place : ℕ
  pub at : IsPlaceOf objects place queue object
  pub after : new ≡ slice_set old place (Some value)

-- the callbacks of an object by the journals of the queues, where these objects are planned
abbrev pub calls_on : List Planned → List (List (ℕ × QueueNote)) → ℕ → ObjectId → List CallNote
calls_on objects journals q o = calls_by objects (slice_index_or journals q []) o

-- The callbacks that stand at the place of an object are its own.
abbrev pub AreCallsFound : (ℕ → ObjectId → List CallNote) → List Planned → List (Option (Vec CallNote)) → Type 0
AreCallsFound calls objects found = (k : ℕ) (p : Planned) (notes : Vec CallNote) → slice_get objects k ≡ Some p → slice_get found k ≡ Some (Some notes)
    → notes.items ≡ calls p.queue p.object

-- The listener that stands at the place of an object is its own, and came back.
abbrev pub AreListenersFound : {L : Type 0} → (L → ListenerData) → (ℕ → ObjectId → List CallNote) → List Planned → List (Option L) → Type 0
AreListenersFound {L} view calls objects found = (k : ℕ) (p : Planned) (listener : L) → slice_get objects k ≡ Some p → slice_get found k ≡ Some (Some listener)
    → HasComeBack (calls p.queue p.object) (p.object, view listener)

-- the last image of an object, if it is a subscription that has one, by the journals of the queues
abbrev pub image_by : List Planned → List (ℕ × QueueNote) → ObjectId → List LastImage
image_by objects journal (Sub s) = image_of objects journal s
image_by objects journal (Timer t) = []
image_by objects journal (Inbox i) = []

abbrev pub images_by : List Planned → List (List (ℕ × QueueNote)) → Planned → List LastImage
images_by objects journals p = image_by objects (slice_index_or journals p.queue []) p.object
