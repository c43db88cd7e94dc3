-- One walk over a publisher's journal, with what is left of what was put to it.
use Rattle.std.proofs.Common.{◌≡◌, ℕ, suc, ◌+◌, ◌<◌, List, [], ◌∷◌, ◌++◌, length, map, take, drop, get_or, refl, ap, sym, subst, ◌∙◌, append_assoc}
use Rattle.std.specs.Prelude.{◌↔◌, Option, option_map}
use Rattle.std.specs.List.{flat_map}
use Rattle.std.proofs.lemmas.List.{append-nil}
use Rattle.std.proofs.lemmas.Grind.{flat_map-append}
use Rattle.mama_journal.specs.Journal.{puts_after}
use Rattle.mama_event.specs.declared.to_publisher.PublisherNote.{PublisherNote}
use Rattle.mama_event.specs.declared.publisher_entry.PublisherEntry.{PublisherEntry}
use Rattle.mama_event.specs.declared.publisher_entry.PublisherEntry.TheVariants.{Send, Done, Took}
use Rattle.mama_check_order.specs.declared.order.Need.{Need}
use Rattle.mama_check_order.specs.Taken.{entry_of, taken_in, sender_need, sender_need_at, sender_needs_of}
use Rattle.mama_check_order.specs.Step.{Takes, IsStuck}
use Rattle.mama_check_order.proofs.LaneWalk.{first_left, rest_left, length_last, none_first, nothing, next_entry, taken_more}

-- where a walk stands: what was done, what is to come, what is left of what was put, and what is needed so far
pub record IsHeard (actor : ℕ) (list : List (ℕ × PublisherNote)) (journal before rest : List PublisherEntry) (left : List (ℕ × PublisherNote)) (needs : List (Option Need)) : Type 0 where
  pub whole : (flat_map taken_in journal ≡ map (λ (x : ℕ × PublisherNote). x.1) list) ↔ (flat_map taken_in rest ≡ map (λ (x : ℕ × PublisherNote). x.1) left)
  pub drops : drop (length (flat_map taken_in before)) list ≡ left
  pub needed : needs ++ puts_after (sender_need_at actor list) before rest ≡ sender_needs_of actor list journal

pub begun : (actor : ℕ) (list : List (ℕ × PublisherNote)) (journal : List PublisherEntry) → IsHeard actor list journal [] journal list []
begun actor list journal = record { whole = (λ h. h, λ h. h); drops = refl; needed = refl }

more : (actor : ℕ) (list : List (ℕ × PublisherNote)) (journal before : List PublisherEntry) (e : PublisherEntry) (rest : List PublisherEntry) (needs : List (Option Need)) (need : Option Need)
    → needs ++ puts_after (sender_need_at actor list) before (e ∷ rest) ≡ sender_needs_of actor list journal → need ≡ sender_need actor list before e
    → (needs ++ need ∷ []) ++ puts_after (sender_need_at actor list) (before ++ e ∷ []) rest ≡ sender_needs_of actor list journal
more actor list journal before e rest needs need h is =
    append_assoc needs (need ∷ []) (puts_after (sender_need_at actor list) (before ++ e ∷ []) rest)
    ∙ ap (λ (o : Option Need). needs ++ (o ∷ puts_after (sender_need_at actor list) (before ++ e ∷ []) rest)) is
    ∙ h

-- an entry that takes nothing
quiet : (before : List PublisherEntry) (e : PublisherEntry) → taken_in e ≡ [] → flat_map taken_in (before ++ e ∷ []) ≡ flat_map taken_in before
quiet before e is = flat_map-append taken_in before (e ∷ []) ∙ ap (λ (vs : List PublisherNote). flat_map taken_in before ++ (vs ++ [])) is ∙ append-nil (flat_map taken_in before)

-- an entry that takes an event
loud : (before : List PublisherEntry) (note : PublisherNote) → length (flat_map taken_in (before ++ Took note ∷ [])) ≡ suc (length (flat_map taken_in before))
loud before note = ap length (flat_map-append taken_in before (Took note ∷ [])) ∙ length_last (flat_map taken_in before) note

-- one entry more
pub heard : (actor : ℕ) (list : List (ℕ × PublisherNote)) (journal before : List PublisherEntry) (e : PublisherEntry) (rest : List PublisherEntry) (left : List (ℕ × PublisherNote)) (needs : List (Option Need)) (need : Option Need) (tail : List (ℕ × PublisherNote))
    → IsHeard actor list journal before (e ∷ rest) left needs → Takes actor e left need tail → IsHeard actor list journal (before ++ e ∷ []) rest tail (needs ++ need ∷ [])
heard actor list journal before (Took note) rest left needs need tail h t =
    let next : left ≡ (t.0, note) ∷ tail = t.1 in
    let now : map (λ (x : ℕ × PublisherNote). x.1) left ≡ note ∷ map (λ (x : ℕ × PublisherNote). x.1) tail = ap (λ (xs : List (ℕ × PublisherNote)). map (λ (x : ℕ × PublisherNote). x.1) xs) next in
    record {
      whole = (
        λ w.
            let both : note ∷ flat_map taken_in rest ≡ note ∷ map (λ (x : ℕ × PublisherNote). x.1) tail = h.whole.0 w ∙ now in
            cc,
        λ w. h.whole.1 (ap (λ (vs : List PublisherNote). note ∷ vs) w ∙ sym now),
      );
      drops = ap (λ (n : ℕ). drop n list) (loud before note) ∙ rest_left list (length (flat_map taken_in before)) (t.0, note) tail (h.drops ∙ next);
      needed = more actor list journal before (Took note) rest needs need h.needed
          (t.2 ∙ ap (λ (o : Option (ℕ × PublisherNote)). option_map (entry_of actor) o) (sym (first_left list (length (flat_map taken_in before)) (t.0, note) tail (h.drops ∙ next))));
    }
heard actor list journal before Send rest left needs need tail h t = record {
  whole = (λ w. h.whole.0 w ∙ ap (λ (xs : List (ℕ × PublisherNote)). map (λ (x : ℕ × PublisherNote). x.1) xs) (sym t.0), λ w. h.whole.1 (w ∙ ap (λ (xs : List (ℕ × PublisherNote)). map (λ (x : ℕ × PublisherNote). x.1) xs) t.0));
  drops = ap (λ (vs : List PublisherNote). drop (length vs) list) (quiet before Send refl) ∙ h.drops ∙ sym t.0;
  needed = more actor list journal before Send rest needs need h.needed t.1;
}
heard actor list journal before Done rest left needs need tail h t = record {
  whole = (λ w. h.whole.0 w ∙ ap (λ (xs : List (ℕ × PublisherNote)). map (λ (x : ℕ × PublisherNote). x.1) xs) (sym t.0), λ w. h.whole.1 (w ∙ ap (λ (xs : List (ℕ × PublisherNote)). map (λ (x : ℕ × PublisherNote). x.1) xs) t.0));
  drops = ap (λ (vs : List PublisherNote). drop (length vs) list) (quiet before Done refl) ∙ h.drops ∙ sym t.0;
  needed = more actor list journal before Done rest needs need h.needed t.1;
}

-- an entry that takes what is not the next
pub stuck : (actor : ℕ) (list : List (ℕ × PublisherNote)) (journal before : List PublisherEntry) (e : PublisherEntry) (rest : List PublisherEntry) (left : List (ℕ × PublisherNote)) (needs : List (Option Need))
    → IsHeard actor list journal before (e ∷ rest) left needs → IsStuck e left → flat_map taken_in journal ≡ map (λ (x : ℕ × PublisherNote). x.1) list → ⊥
stuck actor list journal before (Took note) rest left needs h s w = none_first left note (flat_map taken_in rest) s (sym (h.whole.0 w))
stuck actor list journal before Send rest left needs h s w = s
stuck actor list journal before Done rest left needs h s w = s

-- nothing is to come
pub ended : (actor : ℕ) (list : List (ℕ × PublisherNote)) (journal before : List PublisherEntry) (left : List (ℕ × PublisherNote)) (needs : List (Option Need))
    → IsHeard actor list journal before [] left needs → ((flat_map taken_in journal ≡ map (λ (x : ℕ × PublisherNote). x.1) list) ↔ (left ≡ [])) × (needs ≡ sender_needs_of actor list journal)
ended actor list journal before left needs h = (
  (λ w. nothing left (sym (h.whole.0 w)), λ e. h.whole.1 (sym (ap (λ (xs : List (ℕ × PublisherNote)). map (λ (x : ℕ × PublisherNote). x.1) xs) e))),
  sym (append-nil needs) ∙ h.needed,
)

-- the same of the entry at a place
pub heard_at : (actor : ℕ) (list : List (ℕ × PublisherNote)) (journal : List PublisherEntry) (i : ℕ) (e : PublisherEntry) (left : List (ℕ × PublisherNote)) (needs : List (Option Need)) (need : Option Need) (tail : List (ℕ × PublisherNote))
    → i < length journal → e ≡ get_or journal i e → IsHeard actor list journal (take i journal) (drop i journal) left needs → Takes actor e left need tail
    → IsHeard actor list journal (take (i + 1) journal) (drop (i + 1) journal) tail (needs ++ need ∷ [])
heard_at actor list journal i e left needs need tail lt is h t =
    subst (λ (before : List PublisherEntry). IsHeard actor list journal before (drop (i + 1) journal) tail (needs ++ need ∷ [])) (sym (taken_more journal i e lt is))
    (heard actor list journal (take i journal) e (drop (i + 1) journal) left needs need tail
    (subst (λ (rest : List PublisherEntry). IsHeard actor list journal (take i journal) rest left needs) (next_entry journal i e lt is) h) t)

pub stuck_at : (actor : ℕ) (list : List (ℕ × PublisherNote)) (journal : List PublisherEntry) (i : ℕ) (e : PublisherEntry) (left : List (ℕ × PublisherNote)) (needs : List (Option Need))
    → i < length journal → e ≡ get_or journal i e → IsHeard actor list journal (take i journal) (drop i journal) left needs → IsStuck e left
    → flat_map taken_in journal ≡ map (λ (x : ℕ × PublisherNote). x.1) list → ⊥
stuck_at actor list journal i e left needs lt is h s w =
    stuck actor list journal (take i journal) e (drop (i + 1) journal) left needs
    (subst (λ (rest : List PublisherEntry). IsHeard actor list journal (take i journal) rest left needs) (next_entry journal i e lt is) h) s w
