-- believed: The images that a queue lends.
use Rattle.std.specs.Prelude.{◌≡◌, ℕ, List, Option, None, Some, is_some, if◌then◌else◌}
use Rattle.mama_msg.specs.Field.{FieldData}
use Rattle.mama_event.specs.Record.{record_after}
use Rattle.mama_event.specs.declared.market.ImageHead.{ImageHead}
use Rattle.mama_event.specs.declared.market.Quality.TheVariants as quality
use Rattle.mama_dispatch.specs.declared.row.ImageRow.{ImageRow}
use Rattle.mama_dispatch.specs.Journals.{image_in}
use Rattle.mama_dispatch.specs.Seats.{SeatData}

-- an image that is lent, as plain data
abbrev pub lent : Option ImageRow → Option (ImageHead × List FieldData)
lent None = None
lent (Some r) = Some (r.head, r.body.now)

-- the image of a seat whose object is live
abbrev pub image_at : SeatData → Option (ImageHead × List FieldData)
image_at s = if is_some s.listener then image_in s.context else None

-- an image that is ok is its sender's record at its number
abbrev pub IsRecord : (ℕ → List FieldData) → (ℕ → List (List FieldData)) → ImageHead × List FieldData → Type 0
IsRecord bases updates image = image.0.quality ≡ quality.Ok → image.1 ≡ record_after (bases image.0.sender) (updates image.0.sender) image.0.last
