-- A stream to a queue that goes on: what holds of its notes, by the blocks that are not finished and the objects known.
use Rattle.std.specs.List.{list_any, fold}
use Rattle.std.proofs.Common.{◌≡◌, ℕ, ◌==◌, Bool, true, false, not, ◌&&◌, ◌||◌, List, [], ◌∷◌, ◌++◌, length, map, refl, sym, ◌∙◌, ap, subst, append-nil, append_assoc, eq-eqb, ⊎_elim}
use Rattle.std.proofs.lemmas.Bool.{and_from, or_left, or_right, or_from, or_cases, false_from_ne_true, both_ways}
use Rattle.mama_journal.specs.Journal.{least_free}
use Rattle.mama_event.specs.Lawful.{each_fits, IsLawful, may_follow}
use Rattle.mama_event.specs.LawfulLaws.{each_fits-append, IsLawful-start, IsLawful-push}
use Rattle.mama_event.specs.Object.{same_object}
use Rattle.mama_event.specs.EqualityLaws.{same_object-Decides}
use Rattle.mama_event.specs.ToQueue.{Block, is_last, fits, blocks_after, open_blocks, is_taken, is_live_in, creates, is_for_port, is_made_as}
use Rattle.mama_event.specs.declared.ids.ObjectId.{ObjectId}
use Rattle.mama_event.specs.declared.to_queue.Make.{Make}
use Rattle.mama_event.specs.declared.to_queue.QueueNote.{QueueNote}
use Rattle.mama_event.specs.declared.to_queue.QueueNote.TheVariants as q
use Rattle.mama_laws_bridge.specs.Laws.{Alone}
use Rattle.mama_laws_bridge.proofs.Lists.{Each, list_any-map}
use Rattle.mama_laws_bridge.proofs.Live.{list_any-push}
use Rattle.mama_laws_lawful.specs.Streams.{takes_least}
use Rattle.mama_slots.proofs.Least.{least_free-free}
use Rattle.mama_laws_lawful.proofs.Slots.{least_free-same}
use Rattle.mama_laws_lawful.proofs.Lists.{any_mid, any_filter, empty_if, alone_put, alone_around, without_one}

-- the block of an object in a slot
abbrev pub is_block : Block → Block → Bool
is_block b c = c.slot == b.slot && same_object c.object b.object

pub record Going (blocks : List Block) (known : ObjectId → Bool) (notes : List QueueNote) : Type 0 where
  pub lawful : IsLawful is_last (fits 0) notes
  pub least : each_fits takes_least [] notes ≡ true
  pub no_last : list_any is_last notes ≡ false
  pub same : (p : Block → Bool) → list_any p (open_blocks notes) ≡ list_any p blocks
  pub apart : Alone ◌==◌ (λ (b : Block). b.slot) blocks
  pub made : (o : ObjectId) → list_any (creates o) notes ≡ true → known o ≡ true

pub going_start : (known : ObjectId → Bool) → Going [] known []
going_start known = record {
  lawful = IsLawful-start is_last (fits 0);
  least = refl;
  no_last = refl;
  same = λ p. refl;
  apart = tt;
  made = λ o h. absurd (both_ways false refl h);
}

-- what is known may become more
pub going_more : (blocks : List Block) (known more : ObjectId → Bool) (notes : List QueueNote) → ((o : ObjectId) → known o ≡ true → more o ≡ true)
    → Going blocks known notes → Going blocks more notes
going_more blocks known more notes h g = record {
  lawful = g.lawful;
  least = g.least;
  no_last = g.no_last;
  same = g.same;
  apart = g.apart;
  made = λ o m. h o (g.made o m);
}

blocks_push : (blocks : List Block) (notes : List QueueNote) (n : QueueNote) → fold blocks_after blocks (notes ++ n ∷ []) ≡ blocks_after (fold blocks_after blocks notes) n
blocks_push blocks [] n = refl
blocks_push blocks (m ∷ notes) n = blocks_push (blocks_after blocks m) notes n

pub open-push : (notes : List QueueNote) (n : QueueNote) → open_blocks (notes ++ n ∷ []) ≡ blocks_after (open_blocks notes) n
open-push notes n = blocks_push [] notes n

follows : (notes : List QueueNote) (n : QueueNote) → list_any is_last notes ≡ false → fits 0 notes n ≡ true → may_follow is_last (fits 0) notes n ≡ true
follows notes n none fit = and_from (not (list_any is_last notes)) (fits 0 notes n) (ap not none) fit

not_last : (notes : List QueueNote) (n : QueueNote) → list_any is_last notes ≡ false → is_last n ≡ false → list_any is_last (notes ++ n ∷ []) ≡ false
not_last notes n none here = list_any-push is_last notes n ∙ or_from (list_any is_last notes) (is_last n) none here

or_none : (b : Bool) → (b || false) ≡ b
or_none true = refl
or_none false = refl

or_swap : (a b : Bool) → (a || b) ≡ (b || a)
or_swap true true = refl
or_swap true false = refl
or_swap false b = sym (or_none b)

not_made : (o : ObjectId) (notes : List QueueNote) (n : QueueNote) → creates o n ≡ false → list_any (creates o) (notes ++ n ∷ []) ≡ list_any (creates o) notes
not_made o notes n none = list_any-push (creates o) notes n ∙ ap (λ b. list_any (creates o) notes || b) none ∙ or_none (list_any (creates o) notes)

pub least_more : (notes : List QueueNote) (n : QueueNote) → each_fits takes_least [] notes ≡ true → takes_least notes n ≡ true → each_fits takes_least [] (notes ++ n ∷ []) ≡ true
least_more notes n before here = each_fits-append takes_least [] notes (n ∷ []) before (and_from (takes_least notes n) true here refl)

-- ---- words of a block

-- a note of a block: a message, a reply or a tick
pub record Belongs (b : Block) (n : QueueNote) : Type 0 where
  pub fit : (before : List QueueNote) → fits 0 before n ≡ is_live_in b.slot b.object before
  pub least : (before : List QueueNote) → takes_least before n ≡ true
  pub last : is_last n ≡ false
  pub still : (blocks : List Block) → blocks_after blocks n ≡ blocks
  pub makes : (o : ObjectId) → creates o n ≡ false

going_word : (blocks : List Block) (known : ObjectId → Bool) (notes : List QueueNote) (b : Block) (n : QueueNote) → Belongs b n
    → list_any (is_block b) blocks ≡ true → Going blocks known notes → Going blocks known (notes ++ n ∷ [])
going_word blocks known notes b n of there g = record {
  lawful = IsLawful-push is_last (fits 0) notes n g.lawful (follows notes n g.no_last (of.fit notes ∙ g.same (is_block b) ∙ there));
  least = least_more notes n g.least (of.least notes);
  no_last = not_last notes n g.no_last of.last;
  same = λ p. ap (list_any p) (open-push notes n ∙ of.still (open_blocks notes)) ∙ g.same p;
  apart = g.apart;
  made = λ o m. g.made o (sym (not_made o notes n (of.makes o)) ∙ m);
}

pub going_words : (blocks : List Block) (known : ObjectId → Bool) (notes : List QueueNote) (b : Block) (ns : List QueueNote) → Each (Belongs b) ns
    → list_any (is_block b) blocks ≡ true → Going blocks known notes → Going blocks known (notes ++ ns)
going_words blocks known notes b [] of there g = subst (Going blocks known) (sym (append-nil notes)) g
going_words blocks known notes b (n ∷ ns) of there g =
    subst (Going blocks known) (append_assoc notes (n ∷ []) ns)
    (going_words blocks known (notes ++ n ∷ []) b ns of.1 there (going_word blocks known notes b n of.0 there g))

-- ---- a block begins

pub going_create : (xs ys : List Block) (b : Block) (known more : ObjectId → Bool) (notes : List QueueNote) (make : Make) (tag : ObjectId)
    → is_for_port 0 b.object ≡ true → is_made_as make b.object ≡ true → b.slot ≡ least_free (map (λ (c : Block). c.slot) (xs ++ ys)) → known b.object ≡ false
    → ((o : ObjectId) → (known o || same_object b.object o) ≡ true → more o ≡ true)
    → Going (xs ++ ys) known notes → Going (xs ++ b ∷ ys) more (notes ++ q.Create b.slot b.object make tag ∷ [])
going_create xs ys b known more notes make tag port kind first_free new grows g =
    let n : QueueNote = q.Create b.slot b.object make tag in
    let slots : List Block → List ℕ = λ bs. map (λ (c : Block). c.slot) bs in
    let free : list_any (λ (c : Block). c.slot == b.slot) (xs ++ ys) ≡ false =
    sym (list_any-map (λ (m : ℕ). m == b.slot) (λ (c : Block). c.slot) (xs ++ ys))
    ∙ ap (λ (i : ℕ). list_any (λ (m : ℕ). m == i) (slots (xs ++ ys))) first_free ∙ least_free-free (slots (xs ++ ys)) in
    let is_least : b.slot ≡ least_free (slots (open_blocks notes)) =
    first_free ∙ least_free-same (slots (xs ++ ys)) (slots (open_blocks notes))
    (λ p. list_any-map p (λ (c : Block). c.slot) (xs ++ ys) ∙ sym (g.same (λ c. p c.slot)) ∙ sym (list_any-map p (λ (c : Block). c.slot) (open_blocks notes))) in
    let slot_free : is_taken b.slot notes ≡ false = g.same (λ c. c.slot == b.slot) ∙ free in
    let first : list_any (creates b.object) notes ≡ false = false_from_ne_true (list_any (creates b.object) notes) (λ m. both_ways (known b.object) new (g.made b.object m)) in
    record {
      lawful = IsLawful-push is_last (fits 0) notes n g.lawful (follows notes n g.no_last
          (and_from (not (is_taken b.slot notes) && not (list_any (creates b.object) notes) && is_for_port 0 b.object) (is_made_as make b.object)
          (and_from (not (is_taken b.slot notes) && not (list_any (creates b.object) notes)) (is_for_port 0 b.object)
          (and_from (not (is_taken b.slot notes)) (not (list_any (creates b.object) notes)) (ap not slot_free) (ap not first)) port) kind));
      least = least_more notes n g.least (eq-eqb b.slot (least_free (slots (open_blocks notes))) is_least);
      no_last = not_last notes n g.no_last refl;
      same = λ p. ap (list_any p) (open-push notes n) ∙ list_any-push p (open_blocks notes) b ∙ ap (λ c. c || p b) (g.same p)
          ∙ or_swap (list_any p (xs ++ ys)) (p b) ∙ sym (any_mid p xs b ys);
      apart = alone_put (λ (c : Block). c.slot) xs b ys g.apart free;
      made = λ o m. grows o (⊎_elim
          (λ old. or_left (known o) (same_object b.object o) (g.made o old))
          (λ now. or_right (known o) (same_object b.object o) now)
          (or_cases (list_any (creates o) notes) (same_object b.object o) (sym (list_any-push (creates o) notes n) ∙ m)));
    }

-- ---- a block ends

pub is_itself : (b : Block) → is_block b b ≡ true
is_itself b = and_from (b.slot == b.slot) (same_object b.object b.object) (eq-eqb b.slot b.slot refl) ((same_object-Decides b.object b.object).1 refl)

pub in_middle : (xs ys : List Block) (b : Block) → list_any (is_block b) (xs ++ b ∷ ys) ≡ true
in_middle xs ys b = any_mid (is_block b) xs b ys ∙ or_left (is_block b b) (list_any (is_block b) (xs ++ ys)) (is_itself b)

pub going_gone : (xs ys : List Block) (b : Block) (known : ObjectId → Bool) (notes : List QueueNote)
    → Going (xs ++ b ∷ ys) known notes → Going (xs ++ ys) known (notes ++ q.Gone b.slot b.object ∷ [])
going_gone xs ys b known notes g =
    let n : QueueNote = q.Gone b.slot b.object in
    let others : Block → Bool = λ c. not (c.slot == b.slot) in
    record {
      lawful = IsLawful-push is_last (fits 0) notes n g.lawful (follows notes n g.no_last (g.same (is_block b) ∙ in_middle xs ys b));
      least = least_more notes n g.least refl;
      no_last = not_last notes n g.no_last refl;
      same = λ p. ap (list_any p) (open-push notes n) ∙ any_filter p others (open_blocks notes) ∙ g.same (λ c. others c && p c)
          ∙ sym (any_filter p others (xs ++ b ∷ ys)) ∙ ap (list_any p) (without_one (λ (c : Block). c.slot) xs b ys g.apart);
      apart = (alone_around (λ (c : Block). c.slot) xs b ys g.apart).0;
      made = λ o m. g.made o (sym (not_made o notes n refl) ∙ m);
    }

-- ---- the end

-- no block is left
pub all_finished : (known : ObjectId → Bool) (notes : List QueueNote) → Going [] known notes → open_blocks notes ≡ []
all_finished known notes g = empty_if (open_blocks notes) (g.same (λ b. true))

pub lawful_fin : (known : ObjectId → Bool) (notes : List QueueNote) → Going [] known notes → IsLawful is_last (fits 0) (notes ++ q.Fin ∷ [])
lawful_fin known notes g =
    IsLawful-push is_last (fits 0) notes q.Fin g.lawful (follows notes q.Fin g.no_last (ap (λ (bs : List Block). length bs == 0) (all_finished known notes g)))

pub least_fin : (known : ObjectId → Bool) (notes : List QueueNote) → Going [] known notes → each_fits takes_least [] (notes ++ q.Fin ∷ []) ≡ true
least_fin known notes g = least_more notes q.Fin g.least refl
