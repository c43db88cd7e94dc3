-- inner: What it is to serve an entry again.
use Rattle.std.specs.Prelude.{◌≡◌, ℕ, List, [], ◌∷◌, ◌++◌}
use Rattle.std.specs.List.{flat_map}
use Rattle.mama_event.specs.declared.ids.ObjectId.{ObjectId}
use Rattle.mama_event.specs.declared.callback.Callback.{Callback}
use Rattle.mama_event.specs.declared.order.Order.{Order}
use Rattle.mama_event.specs.declared.to_queue.QueueNote.{QueueNote}
use Rattle.mama_rules_queue.specs.Queue.{Deed, made, served, puts_of}
use Rattle.mama_check_queue.specs.Puts.{PutData, put_all}
use Rattle.mama_check_queue.specs.Rows.{SeenObjects, AreSeen}

-- the objects and the puts after more deeds of an entry
pub record Goes (entry : ℕ) (journal : List (ℕ × QueueNote)) (ds more : List Deed) (seen : SeenObjects) (put_before put_after : PutData) : Type 0 where
  pub told : AreSeen journal (ds ++ more) seen
  pub puts : put_after ≡ put_all entry (flat_map puts_of more) put_before

-- callbacks of an object were made as the rules say, whatever came before
pub record Makes (orders : ObjectId → ℕ → List Order) (o : ObjectId) (calls : List Callback) (entry : ℕ) (seen_before seen_after : SeenObjects) (put_before put_after : PutData) : Type 0 where
  pub goes : (journal : List (ℕ × QueueNote)) (ds : List Deed) → AreSeen journal ds seen_before
      → Goes entry journal ds (made orders o ds calls) seen_after put_before put_after

-- an entry was served as the rules say, whatever came before
pub record Serves (orders : ObjectId → ℕ → List Order) (note : QueueNote) (entry : ℕ) (seen_before seen_after : SeenObjects) (put_before put_after : PutData) : Type 0 where
  pub goes : (port : ℕ) (journal : List (ℕ × QueueNote)) (ds : List Deed) → AreSeen journal ds seen_before
      → Goes entry (journal ++ (port, note) ∷ []) ds (served orders journal ds note) seen_after put_before put_after
