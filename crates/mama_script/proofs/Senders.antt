-- The sender that is taken for a watch is that of its subscription.
use Rattle.std.proofs.Common.{◌≡◌, ℕ, zero, suc, ◌+◌, ◌<◌, ◌≤◌, Bool, true, false, eqb, List, [], ◌∷◌, ◌++◌, length, map, Option, Some, None, refl, sym, ap, ◌∙◌, inl, inr, arith, length-append}
use Rattle.std.specs.Prelude.{◌⊎◌, slice_get, slice_index_or, option_and_then, option_map}
use Rattle.std.specs.List.{AllByRecursion}
use Rattle.std.proofs.lemmas.Bool.{eqb-true, eqb-false, ne_eqb, cases_lt}
use Rattle.std.proofs.lemmas.List.{map-append, length-map}
use Rattle.std.proofs.lemmas.Option.{slice_get-map}
use Rattle.mama_journal.specs.Journal.{numbers_below}
use Rattle.mama_event.specs.declared.ids.SubId.{SubId}
use Rattle.mama_event.specs.declared.watch.WatchRow.{WatchRow}
use Rattle.mama_script.specs.declared.publisher.PublisherPart.{PublisherPart}
use Rattle.mama_script.specs.declared.client.ClientLine.{ClientLine}
use Rattle.mama_script.specs.Tree.{topic_of_part, topics_in, first_sender, sender_or_none}
use Rattle.mama_script.specs.Taken.{first_of, sender_in}

-- ---- a list over the numbers below one

numbers_len : (n : ℕ) → length (numbers_below n) ≡ n
numbers_len zero = refl
numbers_len (suc n) = let more = length-append (numbers_below n) (n ∷ []) in let less = numbers_len n in omega (arith, more, less)

front : (xs ys : List ℕ) (k : ℕ) → k < length xs → slice_index_or (xs ++ ys) k 0 ≡ slice_index_or xs k 0
front [] ys k small = absurd (omega arith)
front (x ∷ xs) ys zero small = refl
front (x ∷ xs) ys (suc k) small = front xs ys k (omega arith)

last : (xs : List ℕ) (x k : ℕ) → k ≡ length xs → slice_index_or (xs ++ x ∷ []) k 0 ≡ x
last [] x zero is = refl
last [] x (suc k) is = absurd (omega arith)
last (y ∷ xs) x zero is = absurd (omega arith)
last (y ∷ xs) x (suc k) is = last xs x k (omega arith)

past : (xs : List ℕ) (k : ℕ) → length xs ≤ k → slice_index_or xs k 0 ≡ 0
past [] k h = refl
past (x ∷ xs) zero h = absurd (omega arith)
past (x ∷ xs) (suc k) h = past xs k (omega arith)

mapped_len : (f : ℕ → ℕ) (n : ℕ) → length (map f (numbers_below n)) ≡ n
mapped_len f n = length-map (numbers_below n) f ∙ numbers_len n

there_step : (f : ℕ → ℕ) (n k : ℕ) (same : Bool) → eqb k n ≡ same → k < suc n → (k < n → slice_index_or (map f (numbers_below n)) k 0 ≡ f k) → slice_index_or (map f (numbers_below n) ++ f n ∷ []) k 0 ≡ f k
there_step f n k true e small below =
    let same : k ≡ n = eqb-true k n e in
    let len = mapped_len f n in
    last (map f (numbers_below n)) (f n) k (omega (arith, same, len)) ∙ ap f (sym same)
there_step f n k false e small below =
    let apart : k ≡ n → ⊥ = eqb-false k n e in
    let len = mapped_len f n in
    front (map f (numbers_below n)) (f n ∷ []) k (omega (arith, small, apart, len)) ∙ below (omega (arith, small, apart))

there : (f : ℕ → ℕ) (n k : ℕ) → k < n → slice_index_or (map f (numbers_below n)) k 0 ≡ f k
there f zero k small = absurd (omega arith)
there f (suc n) k small = ap (λ (xs : List ℕ). slice_index_or xs k 0) (map-append f (numbers_below n) (n ∷ [])) ∙ there_step f n k (eqb k n) refl small (there f n k)

-- ---- a topic that no publisher has

no_sender : (ps : List PublisherPart) (topic n number : ℕ) → AllByRecursion (λ (part : PublisherPart). part.topic < n) ps → n ≤ topic → first_sender topic number (map topic_of_part ps) ≡ 0
no_sender [] topic n number within out = refl
no_sender (p ∷ ps) topic n number within out =
    let other : eqb p.topic topic ≡ false = ne_eqb p.topic topic (λ e. omega (arith, e, within.0, out)) in rw other (no_sender ps topic n (suc number) within.1 out)

abbrev firsts : ℕ → List PublisherPart → List ℕ
firsts n ps = map (λ t. first_sender t 1 (map topic_of_part ps)) (numbers_below n)

first_step : (n : ℕ) (ps : List PublisherPart) (topic : ℕ) → AllByRecursion (λ (part : PublisherPart). part.topic < n) ps → (topic < n) ⊎ (n ≤ topic) → slice_index_or (firsts n ps) topic 0 ≡ first_sender topic 1 (map topic_of_part ps)
first_step n ps topic within (inl small) = there (λ t. first_sender t 1 (map topic_of_part ps)) n topic small
first_step n ps topic within (inr out) =
    let len = mapped_len (λ t. first_sender t 1 (map topic_of_part ps)) n in past (firsts n ps) topic (omega (arith, len, out)) ∙ sym (no_sender ps topic n 1 within out)

first_is : (n : ℕ) (ps : List PublisherPart) (o : Option ℕ) → AllByRecursion (λ (part : PublisherPart). part.topic < n) ps → first_of (firsts n ps) o ≡ sender_or_none (map topic_of_part ps) o
first_is n ps None within = refl
first_is n ps (Some topic) within = first_step n ps topic within (cases_lt topic n)

found_is : (client : Option (List ClientLine)) (number : ℕ) → option_and_then (λ ts. slice_get ts number) (option_map topics_in client) ≡ option_and_then (λ ls. slice_get (topics_in ls) number) client
found_is None number = refl
found_is (Some lines) number = refl

pub sender_is : (n : ℕ) (ps : List PublisherPart) (cs : List (List ClientLine)) (sub : SubId) → AllByRecursion (λ (part : PublisherPart). part.topic < n) ps
    → sender_in (firsts n ps) (map topics_in cs) sub ≡ sender_or_none (map topic_of_part ps) (option_and_then (λ (ls : List ClientLine). slice_get (topics_in ls) sub.number) (slice_get cs sub.client))
sender_is n ps cs sub within =
    first_is n ps (option_and_then (λ ts. slice_get ts sub.number) (slice_get (map topics_in cs) sub.client)) within
    ∙ ap (λ (o : Option (List ℕ)). sender_or_none (map topic_of_part ps) (option_and_then (λ ts. slice_get ts sub.number) o)) (slice_get-map topics_in cs sub.client)
    ∙ ap (sender_or_none (map topic_of_part ps)) (found_is (slice_get cs sub.client) sub.number)

-- the watches that were taken have their senders
pub senders_are : (n : ℕ) (ps : List PublisherPart) (cs : List (List ClientLine)) (rows : List WatchRow) (first : List ℕ) (topics : List (List ℕ)) (told : List ℕ) → AllByRecursion (λ (part : PublisherPart). part.topic < n) ps
    → first ≡ firsts n ps → topics ≡ map topics_in cs → told ≡ map topic_of_part ps → AllByRecursion (λ (row : WatchRow). row.sender ≡ sender_in first topics row.sub) rows
    → AllByRecursion (λ (row : WatchRow). row.sender ≡ sender_or_none told (option_and_then (λ (ls : List ClientLine). slice_get (topics_in ls) row.sub.number) (slice_get cs row.sub.client))) rows
senders_are n ps cs [] first topics told within f t p h = tt
senders_are n ps cs (row ∷ rows) first topics told within f t p h = (
  h.0 ∙ ap (λ (x : List ℕ). sender_in x topics row.sub) f ∙ ap (λ (x : List (List ℕ)). sender_in (firsts n ps) x row.sub) t ∙ sender_is n ps cs row.sub within
      ∙ ap (λ (x : List ℕ). sender_or_none x (option_and_then (λ (ls : List ClientLine). slice_get (topics_in ls) row.sub.number) (slice_get cs row.sub.client))) (sym p),
  senders_are n ps cs rows first topics told within f t p h.1,
)
