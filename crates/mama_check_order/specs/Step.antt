-- inner: What an entry of a publisher's journal takes of what was put to it.
use Rattle.std.specs.Prelude.{◌≡◌, ◌≢◌, ℕ, List, ◌∷◌, Option, None, Some}
use Rattle.mama_event.specs.declared.to_publisher.PublisherNote.{PublisherNote}
use Rattle.mama_event.specs.declared.publisher_entry.PublisherEntry.{PublisherEntry}
use Rattle.mama_event.specs.declared.publisher_entry.PublisherEntry.TheVariants.{Send, Done, Took}
use Rattle.mama_check_order.specs.declared.order.Need.{Need}

-- an entry that takes an event takes the first of what is left, and needs the entry that put it; another takes nothing
abbrev pub Takes : ℕ → PublisherEntry → List (ℕ × PublisherNote) → Option Need → List (ℕ × PublisherNote) → Type 0
Takes actor (Took note) left need rest = (k : ℕ) × (left ≡ (k, note) ∷ rest) × (need ≡ Some (record { actor = actor; entry = k }))
Takes actor Send left need rest = (rest ≡ left) × (need ≡ None)
Takes actor Done left need rest = (rest ≡ left) × (need ≡ None)

-- an entry takes an event that is not the first of what is left
abbrev pub IsStuck : PublisherEntry → List (ℕ × PublisherNote) → Type 0
IsStuck (Took note) left = (k : ℕ) (rest : List (ℕ × PublisherNote)) → left ≢ (k, note) ∷ rest
IsStuck Send left = ⊥
IsStuck Done left = ⊥
