-- What the watches of queues noted, put list by list in the places of their numbers.
use Rattle.std.specs.Global.{Vec}
use Rattle.std.specs.List.{flat_map}
use Rattle.std.proofs.Common.{◌≡◌, ℕ, List, [], ◌∷◌, ◌++◌, sym, ◌∙◌, ap, append-nil}
use Rattle.std.proofs.lemmas.List.{map-append}
use Rattle.std.proofs.lemmas.List.Concat.{flat_map-append}
use Rattle.mama_event.specs.declared.watch.WatchNote.{WatchNote}
use Rattle.mama_plans.specs.Numbered.{numbered, list_put, lists_put}
use Rattle.mama_plans.proofs.NumberedLemmas.{put_more}
use Rattle.mama_posts_clients.specs.Queue.{QueuePostValue}
use Rattle.mama_gather.specs.Left.{noted_by}

abbrev numbered_one : ℕ × Vec WatchNote → ℕ × List WatchNote
numbered_one e = (e.0, e.1.items)

-- one list more is put
pub list_more : (xs : List (ℕ × Vec WatchNote)) (x : ℕ × Vec WatchNote) (old now new : List (ℕ × Vec WatchNote)) → numbered new ≡ list_put x.0 x.1.items (numbered now)
    → numbered now ≡ lists_put (numbered xs) (numbered old) → numbered new ≡ lists_put (numbered (xs ++ x ∷ [])) (numbered old)
list_more xs x old now new put were =
    put ∙ ap (list_put x.0 x.1.items) were
    ∙ sym (ap (λ (es : List (ℕ × List WatchNote)). lists_put es (numbered old)) (map-append numbered_one xs (x ∷ []))
    ∙ put_more (numbered xs) (numbered_one x ∷ []) (numbered old))

-- those of one queue more are put
pub queue_more : (seats : List (ℕ × QueuePostValue)) (s : ℕ × QueuePostValue) (first old new : List (ℕ × List WatchNote)) → new ≡ lists_put (noted_by s) old → old ≡ lists_put (flat_map noted_by seats) first
    → new ≡ lists_put (flat_map noted_by (seats ++ s ∷ [])) first
queue_more seats s first old new put were =
    put ∙ ap (lists_put (noted_by s)) were
    ∙ sym (ap (λ (es : List (ℕ × List WatchNote)). lists_put es first)
    (flat_map-append noted_by seats (s ∷ []) ∙ ap (λ (es : List (ℕ × List WatchNote)). flat_map noted_by seats ++ es) (append-nil (noted_by s)))
    ∙ put_more (flat_map noted_by seats) (noted_by s) first)
