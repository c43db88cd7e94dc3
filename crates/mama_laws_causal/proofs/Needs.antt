-- What the next entry of a journal needs, and when that is met.
use Rattle.std.specs.Prelude.{slice_get, slice_index_or, Option, None, Some, option_map}
use Rattle.std.proofs.Common.{◌≡◌, ℕ, suc, ◌<◌, List, [], ◌∷◌, ◌++◌, length, refl, sym, ◌∙◌, ap, subst, append-nil, append_assoc}
use Rattle.mama_journal.specs.Journal.{puts_after, puts}
use Rattle.mama_journal.specs.Lane.{by_port}
use Rattle.mama_check_order.specs.Order.{turns_of, IsMet, MayCome, MayTakeTurn}
use Rattle.mama_check_order.specs.declared.order.Need.{Need}
use Rattle.mama_check_order.specs.Taken.{entry_of, needs_of, sender_need, sender_needs_of}
use Rattle.mama_event.specs.declared.to_publisher.PublisherNote.{PublisherNote}
use Rattle.mama_event.specs.declared.publisher_entry.PublisherEntry.{PublisherEntry}
use Rattle.mama_laws_causal.proofs.Numbers.{Begins, in_first, AreBelow, below_at}

-- ---- journals each of whose entries gives one need

module _ {E : Type 0} (need : List E → E → Option Need) where
  abbrev pub one_each : List E → E → List (Option Need)
  one_each before e = need before e ∷ []

  count_after : (before es : List E) → length (puts_after one_each before es) ≡ length es
  count_after before [] = refl
  count_after before (e ∷ es) = ap suc (count_after (before ++ e ∷ []) es)

  next_after : (before es : List E) (e : E) (rest : List E) → slice_get (puts_after one_each before (es ++ e ∷ rest)) (length es) ≡ Some (need (before ++ es) e)
  next_after before [] e rest = ap (λ (js : List E). Some (need js e)) (sym (append-nil before))
  next_after before (x ∷ es) e rest =
      next_after (before ++ x ∷ []) es e rest ∙ ap (λ (js : List E). Some (need js e)) (append_assoc before (x ∷ []) es)

  next_in : (journal es : List E) (e : E) → Begins (es ++ e ∷ []) journal → slice_get (puts one_each journal) (length es) ≡ Some (need es e)
  next_in journal es e begins =
      ap (λ (js : List E). slice_get (puts one_each js) (length es)) (sym begins.1 ∙ append_assoc es (e ∷ []) begins.0) ∙ next_after [] es e begins.0

-- ---- of one that takes by ports

-- what an entry needs after those before it
abbrev pub need_of : {N : Type 0} → List ℕ → List (List (ℕ × N)) → List (ℕ × N) → ℕ × N → Option Need
need_of actors lists before e = option_map (entry_of (slice_index_or actors e.0 0)) (slice_get (slice_index_or lists e.0 []) (length (by_port e.0 before)))

pub needs_count : {N : Type 0} (actors : List ℕ) (lists : List (List (ℕ × N))) (journal : List (ℕ × N)) → length (needs_of actors lists journal) ≡ length journal
needs_count actors lists journal = count_after (need_of actors lists) [] journal

pub needs_next : {N : Type 0} (actors : List ℕ) (lists : List (List (ℕ × N))) (journal before : List (ℕ × N)) (e : ℕ × N) → Begins (before ++ e ∷ []) journal
    → slice_get (needs_of actors lists journal) (length before) ≡ Some (need_of actors lists before e)
needs_next actors lists journal before e begins = next_in (need_of actors lists) journal before e begins

-- ---- of a publisher

pub sender_count : (actor : ℕ) (list : List (ℕ × PublisherNote)) (journal : List PublisherEntry) → length (sender_needs_of actor list journal) ≡ length journal
sender_count actor list journal = count_after (sender_need actor list) [] journal

pub sender_next : (actor : ℕ) (list : List (ℕ × PublisherNote)) (journal before : List PublisherEntry) (e : PublisherEntry) → Begins (before ++ e ∷ []) journal
    → slice_get (sender_needs_of actor list journal) (length before) ≡ Some (sender_need actor list before e)
sender_next actor list journal before e begins = next_in (sender_need actor list) journal before e begins

-- ---- turns

-- the next entry of an actor may come where what it needs is met
pub may_take : (needs : List (List (Option Need))) (turns : List ℕ) (actor : ℕ) (own : List (Option Need)) (n : ℕ) (need : Option Need)
    → slice_index_or needs actor [] ≡ own → turns_of actor turns ≡ n → slice_get own n ≡ Some need → IsMet turns need → MayTakeTurn needs turns actor
may_take needs turns actor own n need is count next met =
    subst (MayCome turns)
    (sym (ap (λ (xs : List (Option Need)). slice_get xs (turns_of actor turns)) is ∙ ap (λ (k : ℕ). slice_get own k) count ∙ next)) met

met_by : {N : Type 0} (turns : List ℕ) (actor : ℕ) (found : Option (ℕ × N)) → ((x : ℕ × N) → found ≡ Some x → x.0 < turns_of actor turns) → IsMet turns (option_map (entry_of actor) found)
met_by turns actor None low = tt
met_by turns actor (Some x) low = low x refl

-- what was put at a place of a list is met where all numbers of the list are below the count of the putter's turns
pub met_below : {N : Type 0} (turns : List ℕ) (actor n : ℕ) (list : List (ℕ × N)) (k : ℕ) → turns_of actor turns ≡ n → AreBelow n list → IsMet turns (option_map (entry_of actor) (slice_get list k))
met_below turns actor n list k count below = met_by turns actor (slice_get list k) (λ x is. subst (λ (m : ℕ). x.0 < m) (sym count) (below_at n list k x below is))

-- the same at a place of what was put so far, whatever is put later
pub met_first : {N : Type 0} (turns : List ℕ) (actor n : ℕ) (list whole : List (ℕ × N)) (k : ℕ) → turns_of actor turns ≡ n → AreBelow n list → Begins list whole → k < length list
    → IsMet turns (option_map (entry_of actor) (slice_get whole k))
met_first {N} turns actor n list whole k count below begins inside =
    met_by turns actor (slice_get whole k)
    (λ x is. subst (λ (m : ℕ). x.0 < m) (sym count)
    (below_at n list k x below (in_first list begins.0 k x inside (ap (λ (xs : List (ℕ × N)). slice_get xs k) begins.1 ∙ is))))
