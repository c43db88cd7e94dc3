-- believed: The image of a subscription, by the sets of a board and by its queue's journal; and when a board shows a journal.
use Rattle.std.specs.Prelude.{◌≡◌, ℕ, ◌≤◌, Bool, false, List, ◌++◌, length, take, drop, Option, Some, None}
use Rattle.std.specs.List.{All, list_any}
use Rattle.std.specs.Option.{option_map}
use Rattle.mama_msg.specs.Field.{FieldData}
use Rattle.mama_event.specs.declared.ids.SubId.{SubId}
use Rattle.mama_event.specs.declared.market.ImageHead.{ImageHead}
use Rattle.mama_event.specs.declared.to_queue.QueueNote.{QueueNote}
use Rattle.mama_event.specs.declared.to_queue.QueueNote.TheVariants as q
use Rattle.mama_event.specs.Object.{same_sub}
use Rattle.mama_rules_rounds.specs.Client.{Planned}
use Rattle.mama_dispatch.specs.Journals.{context_after, image_in}
use Rattle.mama_plans.specs.Orders.{orders_in}
use Rattle.mama_board.specs.declared.image_set.ImageSet.{ImageSet}
use Rattle.mama_board.specs.Rows.{row}
use Rattle.mama_board.specs.Values.{BoardValue}
use Rattle.mama_grouped.specs.Seat.{sub_of_object}

-- an image as readers and seats answer it, if there is one
abbrev pub Image : Type 0
Image = Option (ImageHead × List FieldData)

-- the image of a subscription after some sets of a board
abbrev pub shown_image : SubId → List ImageSet → Image
shown_image sub sets = option_map (λ r. (r.head, r.body)) (row sub sets)

-- the image of a subscription that its queue's journal gives, where these objects are planned
abbrev pub own_image : List Planned → List (ℕ × QueueNote) → SubId → Image
own_image objects journal sub = image_in (context_after (orders_in objects) journal sub)

-- all sets of a board, and those that wait
abbrev pub all_sets : BoardValue → List ImageSet
all_sets b = b.sets ++ b.waiting

-- the subscription whose image an event may change: the one that it makes, or to which it delivers a message; an event that spells
-- no message, and a notice that the subscription is gone, change none
abbrev pub named_in : QueueNote → Option SubId
named_in (q.Create slot object make tag) = sub_of_object object
named_in (q.Deliver slot sub msg) = Some sub
named_in (q.Reply slot inbox body) = None
named_in (q.Bad slot sub kind sender seq bytes) = None
named_in (q.BadReply slot inbox bytes) = None
named_in (q.Tick slot timer moment) = None
named_in (q.Gone slot object) = None
named_in q.Fin = None

abbrev pub is_sub : SubId → Option SubId → Bool
is_sub sub None = false
is_sub sub (Some s) = same_sub s sub

-- an entry may change the image of this subscription
abbrev pub names : SubId → ℕ × QueueNote → Bool
names sub e = is_sub sub (named_in e.1)

-- A set shows an image that its subscription had: the one that the journal gave after so many entries.
pub record WasImage (objects : List Planned) (journal : List (ℕ × QueueNote)) (set : ImageSet) : Type 0 where
  pub entries : ℕ
  pub within : entries ≤ length journal
  pub image : own_image objects (take entries journal) set.sub ≡ Some (set.head, set.body)

-- After these sets, some of which readers may not see yet, the first so many entries of a journal are shown: each subscription has
-- its image, unless an entry that is not yet shown names it; none has one that has no image; and each set shows one that it had.
pub record AreShown (objects : List Planned) (journal : List (ℕ × QueueNote)) (shown : ℕ) (sets : List ImageSet) : Type 0 where
  pub within : shown ≤ length journal
  pub each : All (WasImage objects journal) sets
  pub images : (sub : SubId) → list_any (names sub) (drop shown journal) ≡ false → shown_image sub sets ≡ own_image objects journal sub
  pub absent : (sub : SubId) → own_image objects journal sub ≡ None → shown_image sub sets ≡ None
