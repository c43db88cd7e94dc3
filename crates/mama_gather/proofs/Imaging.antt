-- The last image of a subscription, by the seat of its queue.
use Rattle.std.specs.Prelude.{slice_index_or, Option}
use Rattle.std.specs.List.{All, slice_get, flat_map}
use Rattle.std.proofs.Common.{◌≡◌, ℕ, ◌<◌, ◌≤◌, ◌+◌, List, [], ◌∷◌, ◌++◌, length, get_or, take, map, None, Some, sym, ◌∙◌, ap, append-nil}
use Rattle.std.proofs.lemmas.List.{get_or_past, length-map, take_more}
use Rattle.std.proofs.lemmas.List.Concat.{flat_map-append}
use Rattle.std.proofs.lemmas.Option.{slice_get-get_or}
use Rattle.mama_journal.specs.Journal.{first_said}
use Rattle.mama_msg.specs.Field.{FieldData}
use Rattle.mama_event.specs.declared.ids.SubId.{SubId}
use Rattle.mama_event.specs.declared.ids.ObjectId.{ObjectId}
use Rattle.mama_event.specs.declared.ids.ObjectId.TheVariants.{Sub}
use Rattle.mama_event.specs.declared.market.ImageHead.{ImageHead}
use Rattle.mama_event.specs.declared.order.Order.{Order}
use Rattle.mama_event.specs.declared.to_queue.QueueNote.{QueueNote}
use Rattle.mama_rules_queue.specs.Queue.{deeds, make_in, messages_of}
use Rattle.mama_rules_rounds.specs.Client.{Planned}
use Rattle.mama_dispatch.specs.Hearing.{ArePlanned}
use Rattle.mama_dispatch.specs.Journals.{context_after, image_in}
use Rattle.mama_plans.specs.Image.{found_image, image_of}
use Rattle.mama_plans.specs.Orders.{orders_in}
use Rattle.mama_plans.proofs.ImageLemmas.{context_waits, found_as}
use Rattle.mama_posts_clients.specs.Queue.{QueuePostValue}
use Rattle.mama_gather.specs.Left.{events_by}
use Rattle.mama_gather.specs.Places.{image_by}
use Rattle.mama_gather.proofs.Lists.{all_at, map_at}

-- what the seat of a queue tells
abbrev pub IsImageOf : QueuePostValue → SubId → Option (ImageHead × List FieldData) → Type 0
IsImageOf post sub found = (objects : List Planned) → ArePlanned (orders_in objects) post.served.seats → found ≡ image_in (context_after (orders_in objects) post.served.journal sub)

pub image_here : (objects : List Planned) (queues : List (ℕ × QueuePostValue)) (queue : ℕ) (sub : SubId) (d : ℕ × QueuePostValue) (found : Option (ImageHead × List FieldData))
    → All (λ s. ArePlanned (orders_in objects) s.1.served.seats) queues → queue < length queues → IsImageOf (get_or queues queue d).1 sub found
    → found_image sub found ≡ image_by objects (slice_index_or (map events_by queues) queue []) (Sub sub)
image_here objects queues queue sub d found planned small is =
    let s : ℕ × QueuePostValue = get_or queues queue d in
    let orders : ObjectId → ℕ → List Order = orders_in objects in
    let journal : List (ℕ × QueueNote) = s.1.served.journal in
    let at : slice_get queues queue ≡ Some s = slice_get-get_or queues queue d small in
    ap (found_image sub) (is objects (all_at (λ (t : ℕ × QueuePostValue). ArePlanned (orders_in objects) t.1.served.seats) queues queue s planned at))
    ∙ found_as sub (context_after orders journal sub) (context_waits (first_said (λ (e : ℕ × QueueNote). make_in (Sub sub) e.1) journal) (messages_of sub (deeds orders journal)))
    ∙ ap (λ (j : List (ℕ × QueueNote)). image_of objects j sub) (sym (map_at events_by queues queue s [] at))

-- past the last queue there is none
pub image_past : (objects : List Planned) (queues : List (ℕ × QueuePostValue)) (queue : ℕ) (sub : SubId) → length queues ≤ queue → found_image sub None ≡ image_by objects (slice_index_or (map events_by queues) queue []) (Sub sub)
image_past objects queues queue sub past =
    let beyond : length (map events_by queues) ≤ queue = simp length-map past in
    ap (λ (j : List (ℕ × QueueNote)). image_of objects j sub) (sym (get_or_past (map events_by queues) queue [] beyond))

-- what one element more of a list adds
pub one_more : {A B : Type 0} (f : A → List B) (xs : List A) (i : ℕ) (d x : A) (old new : List B) → i < length xs → x ≡ get_or xs i d → old ≡ flat_map f (take i xs) → new ≡ old ++ f x → new ≡ flat_map f (take (i + 1) xs)
one_more {A} {B} f xs i d x old new small here was is =
    is ∙ ap (λ (y : A). old ++ f y) here ∙ ap (λ (ys : List B). ys ++ f (get_or xs i d)) was
    ∙ sym (ap (flat_map f) (take_more xs i d small) ∙ flat_map-append f (take i xs) (get_or xs i d ∷ []) ∙ ap (λ (ys : List B). flat_map f (take i xs) ++ ys) (append-nil (f (get_or xs i d))))
