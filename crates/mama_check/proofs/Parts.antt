-- The journal of a publisher in two parts, before its first Done and after it.
use Rattle.std.proofs.Common.{◌≡◌, ℕ, false, List, [], ◌∷◌, ◌++◌, refl, ap, sym, subst, ◌∙◌, append_assoc}
use Rattle.std.specs.List.{list_any}
use Rattle.std.proofs.lemmas.Bool.{or_parts, both_ways}
use Rattle.mama_event.specs.declared.to_publisher.PublisherNote.TheVariants.{Settle, Fin}
use Rattle.mama_event.specs.declared.publisher_entry.PublisherEntry.{PublisherEntry}
use Rattle.mama_event.specs.declared.publisher_entry.PublisherEntry.TheVariants.{Done, Took}
use Rattle.mama_rules_legal.specs.Lines.{is_done, IsSentOut}
use Rattle.mama_check.specs.Sent.{IsEnd, IsSentBefore}

-- there is one first Done
first_once : (xs ys us vs : List PublisherEntry) → xs ++ Done ∷ ys ≡ us ++ Done ∷ vs → list_any is_done xs ≡ false → list_any is_done us ≡ false → (xs ≡ us) × (ys ≡ vs)
first_once [] ys [] vs e h k = (refl, (cc))
first_once [] ys (u ∷ us) vs e h k =
    let first : Done ≡ u = cc in
    absurd (both_ways (is_done u) (or_parts (is_done u) (list_any is_done us) k).0 (ap is_done (sym first)))
first_once (x ∷ xs) ys [] vs e h k =
    let first : x ≡ Done = cc in
    absurd (both_ways (is_done x) (or_parts (is_done x) (list_any is_done xs) h).0 (ap is_done first))
first_once (x ∷ xs) ys (u ∷ us) vs e h k =
    let first : x ≡ u = cc in
    let later : xs ++ Done ∷ ys ≡ us ++ Done ∷ vs = cc in
    let rest = first_once xs ys us vs later (or_parts (is_done x) (list_any is_done xs) h).1 (or_parts (is_done u) (list_any is_done us) k).1 in
    (ap (λ (es : List PublisherEntry). x ∷ es) rest.0 ∙ ap (λ (e : PublisherEntry). e ∷ us) first, rest.1)

end_whole : (between : List PublisherEntry) → (between ++ Took Settle ∷ []) ++ Took Fin ∷ [] ≡ between ++ (Took Settle ∷ Took Fin ∷ [])
end_whole between = append_assoc between (Took Settle ∷ []) (Took Fin ∷ [])

-- both parts are as they have to be
pub sent_out : (n : ℕ) (journal before after : List PublisherEntry) → journal ≡ before ++ Done ∷ after → list_any is_done before ≡ false → IsSentBefore n before → IsEnd after → IsSentOut n journal
sent_out n journal before after is none b e = record {
  before = before;
  between = e.settled.between;
  whole = is ∙ ap (λ (es : List PublisherEntry). before ++ Done ∷ es) (e.whole ∙ ap (λ (es : List PublisherEntry). es ++ Took Fin ∷ []) e.settled.whole ∙ end_whole e.settled.between);
  sends = b.0;
  first_done = none;
  first_settle = b.1;
  takes = e.settled.takes;
}

pub sent_before : (n : ℕ) (journal before after : List PublisherEntry) → journal ≡ before ++ Done ∷ after → list_any is_done before ≡ false → IsSentOut n journal → IsSentBefore n before
sent_before n journal before after is none h =
    let same = first_once h.before (h.between ++ (Took Settle ∷ Took Fin ∷ [])) before after (sym h.whole ∙ is) h.first_done none in
    subst (λ (es : List PublisherEntry). IsSentBefore n es) same.0 (h.sends, h.first_settle)

pub sent_end : (n : ℕ) (journal before after : List PublisherEntry) → journal ≡ before ++ Done ∷ after → list_any is_done before ≡ false → IsSentOut n journal → IsEnd after
sent_end n journal before after is none h =
    let same = first_once h.before (h.between ++ (Took Settle ∷ Took Fin ∷ [])) before after (sym h.whole ∙ is) h.first_done none in
    record {
      rest = h.between ++ Took Settle ∷ [];
      whole = sym same.1 ∙ sym (end_whole h.between);
      settled = record { between = h.between; whole = refl; takes = h.takes };
    }
