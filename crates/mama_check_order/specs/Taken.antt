-- believed: Whether what was taken is what was put, and which entry put what was taken.
use Rattle.std.specs.Prelude.{◌≡◌, ℕ, List, [], ◌∷◌, length, map, slice_get, slice_index_or, Option, None, option_map}
use Rattle.std.specs.List.{flat_map}
use Rattle.mama_journal.specs.Journal.{puts}
use Rattle.mama_journal.specs.Lane.{by_port}
use Rattle.mama_event.specs.declared.to_publisher.PublisherNote.{PublisherNote}
use Rattle.mama_event.specs.declared.publisher_entry.PublisherEntry.{PublisherEntry}
use Rattle.mama_event.specs.declared.publisher_entry.PublisherEntry.TheVariants.{Send, Done, Took}
use Rattle.mama_check_order.specs.declared.order.Need.{Need}

-- what was put on a lane by a port, where lists has what each port put, each event with the number of the entry that put it
abbrev pub put_by : {N : Type 0} → List (List (ℕ × N)) → ℕ → List N
put_by lists port = map (λ x. x.1) (slice_index_or lists port [])

-- on every edge of a lane what was taken is all that was put, in order
abbrev pub AreWhole : {N : Type 0} → List (List (ℕ × N)) → List (ℕ × N) → Type 0
AreWhole lists journal = (port : ℕ) → by_port port journal ≡ put_by lists port

-- an entry of this actor
abbrev pub entry_of : {N : Type 0} → ℕ → ℕ × N → Need
entry_of actor x = record { actor = actor; entry = x.0 }

-- What an entry needs after those before it: the entry that put what it takes. actors names the actor behind each port.
abbrev pub need_at : {N : Type 0} → List ℕ → List (List (ℕ × N)) → List (ℕ × N) → ℕ × N → List (Option Need)
need_at actors lists before e =
    option_map (entry_of (slice_index_or actors e.0 0)) (slice_get (slice_index_or lists e.0 []) (length (by_port e.0 before))) ∷ []

-- what the entries of a journal need
abbrev pub needs_of : {N : Type 0} → List ℕ → List (List (ℕ × N)) → List (ℕ × N) → List (Option Need)
needs_of actors lists journal = puts (need_at actors lists) journal

-- THE JOURNAL OF A PUBLISHER, which takes by one port and does its own lines between

abbrev pub taken_in : PublisherEntry → List PublisherNote
taken_in (Took note) = note ∷ []
taken_in Send = []
taken_in Done = []

abbrev pub sender_need : ℕ → List (ℕ × PublisherNote) → List PublisherEntry → PublisherEntry → Option Need
sender_need actor list before (Took note) = option_map (entry_of actor) (slice_get list (length (flat_map taken_in before)))
sender_need actor list before Send = None
sender_need actor list before Done = None

abbrev pub sender_need_at : ℕ → List (ℕ × PublisherNote) → List PublisherEntry → PublisherEntry → List (Option Need)
sender_need_at actor list before e = sender_need actor list before e ∷ []

-- what the entries of a publisher's journal need, where this actor put what it takes
abbrev pub sender_needs_of : ℕ → List (ℕ × PublisherNote) → List PublisherEntry → List (Option Need)
sender_needs_of actor list journal = puts (sender_need_at actor list) journal
