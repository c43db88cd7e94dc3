-- An image that is read, as the record of a run has it.
use Rattle.std.specs.Prelude.{slice_index_or, IfOk, OnOk}
use Rattle.std.proofs.Common.{◌≡◌, ℕ, List, [], Result, Ok, Err, ◌∙◌, ap}
use Rattle.mama_journal.specs.Journal.{first_said}
use Rattle.mama_event.specs.declared.ids.SubId.{SubId}
use Rattle.mama_event.specs.declared.ids.ObjectId.TheVariants.{Sub}
use Rattle.mama_event.specs.declared.to_queue.QueueNote.{QueueNote}
use Rattle.mama_rules_queue.specs.Queue.{deeds, make_in, messages_of}
use Rattle.mama_rules_rounds.specs.Client.{Planned}
use Rattle.mama_dispatch.specs.Journals.{context_after}
use Rattle.mama_plans.specs.Image.{found_image}
use Rattle.mama_plans.specs.Orders.{orders_in}
use Rattle.mama_plans.proofs.ImageLemmas.{context_waits, found_as}
use Rattle.mama_gather.specs.Places.{image_by}
use Rattle.mama_board.specs.Values.{ReaderValue, HasLooked}
use Rattle.mama_shown.specs.Images.{Image, shown_image, own_image}
use Rattle.mama_shown.specs.Last.{ReadsLast}
use Rattle.mama_shown.proofs.Lasts.{reads_on}

-- the image that a queue's journal gives is the subscription's last image
pub image_as : (objects : List Planned) (journal : List (ℕ × QueueNote)) (sub : SubId) (image : Image) → image ≡ own_image objects journal sub → found_image sub image ≡ image_by objects journal (Sub sub)
image_as objects journal sub image is =
    ap (found_image sub) is
    ∙ found_as sub (context_after (orders_in objects) journal sub)
    (context_waits (first_said (λ (e : ℕ × QueueNote). make_in (Sub sub) e.1) journal) (messages_of sub (deeds (orders_in objects) journal)))

-- what holds at each answer, and what holds of an answer beside what holds after it
pub on_ok_always : {T E P : Type 0} (r : Result T E) → P → OnOk r P
on_ok_always (Ok x) p = p
on_ok_always (Err e) p = tt

if_ok_with : {X E Q : Type 0} (r : Result X E) (P S : X → Type 0) → ((x : X) → P x → Q → S x) → IfOk r P → OnOk r Q → IfOk r S
if_ok_with (Ok x) P S f p q = f x p q
if_ok_with (Err e) P S f p q = tt

-- a reader of this queue that has learnt of the seal reads the image that the queue's journal gives
pub image_read : {E : Type 0} (objects : List Planned) (queue : ℕ) (sub : SubId) (old new : ReaderValue) (r : Result Image E) → old.queue ≡ queue → IfOk r (λ (image : Image). image ≡ shown_image sub new.seen) → OnOk r (HasLooked old new)
    → IfOk r (λ (image : Image). (journals : List (List (ℕ × QueueNote))) → ReadsLast objects journals old → image ≡ own_image objects (slice_index_or journals queue []) sub)
image_read objects queue sub old new r of ok looked =
    if_ok_with r (λ (image : Image). image ≡ shown_image sub new.seen) (λ (image : Image). (journals : List (List (ℕ × QueueNote))) → ReadsLast objects journals old → image ≡ own_image objects (slice_index_or journals queue []) sub)
    (λ image is look journals h.
    is ∙ (reads_on objects journals old new look h).images sub ∙ ap (λ (q : ℕ). own_image objects (slice_index_or journals q []) sub) (look.queue ∙ of))
    ok looked
