-- inner: What the seals of the boards tell of the images, and what readers that learnt it see.
use Rattle.std.specs.Prelude.{◌≡◌, ℕ, true, List, [], Option, Some, None, IfSome, slice_index_or, ⊤}
use Rattle.mama_event.specs.declared.ids.SubId.{SubId}
use Rattle.mama_event.specs.declared.to_queue.QueueNote.{QueueNote}
use Rattle.mama_rules_rounds.specs.Client.{Planned}
use Rattle.mama_board.specs.Values.{ToldValue, ReaderValue}
use Rattle.mama_shown.specs.declared.showing.Showing.{Showing}
use Rattle.mama_shown.specs.declared.seat.ShownSeat.{ShownSeat}
use Rattle.mama_shown.specs.Images.{shown_image, own_image}

-- A seal told all sets of a queue, and each subscription has after them the image that the queue's journal gives.
pub record TellsLast (objects : List Planned) (journals : List (List (ℕ × QueueNote))) (told : ToldValue) : Type 0 where
  pub last : told.last ≡ true
  pub images : (sub : SubId) → shown_image sub told.sets ≡ own_image objects (slice_index_or journals told.queue []) sub

abbrev pub ShowsLast : {R : Type 0} → List Planned → List (List (ℕ × QueueNote)) → Option (Showing R) → Type 0
ShowsLast objects journals None = ⊤
ShowsLast objects journals (Some s) = IfSome s.told (λ told. TellsLast objects journals told)

-- the seal of a seat's board, where it has one, told so
abbrev pub HasLast : {L H R : Type 0} → List Planned → List (List (ℕ × QueueNote)) → ShownSeat L H R → Type 0
HasLast objects journals s = ShowsLast objects journals s.showing

-- A reader learnt of the seal of its queue, and reads for each subscription the image that the queue's journal gives.
pub record ReadsLast (objects : List Planned) (journals : List (List (ℕ × QueueNote))) (r : ReaderValue) : Type 0 where
  pub sealed : r.sealed ≡ true
  pub images : (sub : SubId) → shown_image sub r.seen ≡ own_image objects (slice_index_or journals r.queue []) sub
