-- How often a lawful stream to a queue creates an object and says that it is gone.
use Rattle.std.specs.List.{list_any}
use Rattle.std.proofs.Common.{◌≡◌, ℕ, suc, ◌+◌, ◌≤◌, ◌==◌, Bool, true, false, not, ◌&&◌, ◌||◌, cond, List, [], ◌∷◌, ◌++◌, refl, sym, ◌∙◌, ap, subst, arith, append-nil, ⊎_elim}
use Rattle.std.proofs.lemmas.Bool.{and_parts, or_cases, or_parts, cases_Bool, both_ways, eqb-true, not-true, false_from_ne_true}
use Rattle.std.proofs.lemmas.List.Folds.{list_any-append}
use Rattle.mama_journal.specs.Journal.{count_of}
use Rattle.mama_event.specs.Lawful.{IsLawful}
use Rattle.mama_event.specs.LawfulLaws.{IsLawful-prefix, IsLawful-at}
use Rattle.mama_event.specs.Object.{same_object}
use Rattle.mama_event.specs.EqualityLaws.{same_object-Decides}
use Rattle.mama_event.specs.ToQueue.{Block, is_last, fits, open_blocks, is_taken, is_live_in, creates, is_for_port, is_made_as}
use Rattle.mama_event.specs.declared.ids.ObjectId.{ObjectId}
use Rattle.mama_event.specs.declared.to_queue.Make.{Make}
use Rattle.mama_event.specs.declared.to_queue.QueueNote.{QueueNote}
use Rattle.mama_event.specs.declared.to_queue.QueueNote.TheVariants as q
use Rattle.mama_laws_bridge.specs.Laws.{Alone}
use Rattle.mama_laws_bridge.proofs.Lists.{count_of-append}
use Rattle.mama_journal.specs.EntryLaws.{by_entries}
use Rattle.mama_laws_lawful.specs.Streams.{is_gone}
use Rattle.mama_laws_lawful.proofs.Lists.{Split, split_of, split_others, alone_put, alone_around, any_mid}
use Rattle.mama_laws_lawful.proofs.Going.{open-push}

-- one or none
abbrev one_if : Bool → ℕ
one_if test = cond test 1 0

count-push : {E : Type 0} (test : E → Bool) (es : List E) (e : E) → count_of test (es ++ e ∷ []) ≡ count_of test es + one_if (test e)
count-push test es e = count_of-append test es (e ∷ [])

count_none : {E : Type 0} (test : E → Bool) (es : List E) → list_any test es ≡ false → count_of test es ≡ 0
count_none test [] h = refl
count_none test (e ∷ es) h =
    let parts = or_parts (test e) (list_any test es) h in
    ap (λ b. cond b (suc (count_of test es)) (count_of test es)) parts.0 ∙ count_none test es parts.1

-- the blocks of an object that are not finished
abbrev of_object : ObjectId → Block → Bool
of_object o b = same_object b.object o

-- each Create of an object was followed by its Gone, or its block is not finished; and there is one Create at most
pub record Tally (o : ObjectId) (notes : List QueueNote) : Type 0 where
  pub apart : Alone ◌==◌ (λ (b : Block). b.slot) (open_blocks notes)
  pub even : count_of (creates o) notes ≡ count_of (is_gone o) notes + count_of (of_object o) (open_blocks notes)
  pub once : count_of (creates o) notes ≤ 1

-- a note that neither begins nor ends a block
idle : (o : ObjectId) (notes : List QueueNote) (n : QueueNote) → open_blocks (notes ++ n ∷ []) ≡ open_blocks notes → creates o n ≡ false → is_gone o n ≡ false → Tally o notes → Tally o (notes ++ n ∷ [])
idle o notes n blocks made gone t =
    let creations : count_of (creates o) (notes ++ n ∷ []) ≡ count_of (creates o) notes = count-push (creates o) notes n ∙ ap (λ b. count_of (creates o) notes + one_if b) made ∙ omega arith in
    let endings : count_of (is_gone o) (notes ++ n ∷ []) ≡ count_of (is_gone o) notes = count-push (is_gone o) notes n ∙ ap (λ b. count_of (is_gone o) notes + one_if b) gone ∙ omega arith in
    record {
      apart = subst (Alone ◌==◌ (λ (b : Block). b.slot)) (sym blocks) t.apart;
      even = creations ∙ t.even ∙ ap (λ k. k + count_of (of_object o) (open_blocks notes)) (sym endings) ∙ ap (λ (bs : List Block). count_of (is_gone o) (notes ++ n ∷ []) + count_of (of_object o) bs) (sym blocks);
      once = subst (λ (k : ℕ). k ≤ 1) (sym creations) t.once;
    }

begun : (o : ObjectId) (notes : List QueueNote) (slot : ℕ) (object : ObjectId) (make : Make) (tag : ObjectId)
    → is_taken slot notes ≡ false → list_any (creates object) notes ≡ false → Tally o notes → Tally o (notes ++ q.Create slot object make tag ∷ [])
begun o notes slot object make tag free new t =
    let n : QueueNote = q.Create slot object make tag in
    let b : Block = record { slot = slot; object = object } in
    let here : ℕ = one_if (same_object object o) in
    let creations : count_of (creates o) (notes ++ n ∷ []) ≡ count_of (creates o) notes + here = count-push (creates o) notes n in
    let endings : count_of (is_gone o) (notes ++ n ∷ []) ≡ count_of (is_gone o) notes = count-push (is_gone o) notes n ∙ omega arith in
    let blocks : count_of (of_object o) (open_blocks (notes ++ n ∷ [])) ≡ count_of (of_object o) (open_blocks notes) + here =
    ap (count_of (of_object o)) (open-push notes n) ∙ count-push (of_object o) (open_blocks notes) b in
    record {
      apart = subst (Alone ◌==◌ (λ (c : Block). c.slot)) (sym (open-push notes n))
          (alone_put (λ (c : Block). c.slot) (open_blocks notes) b [] (subst (Alone ◌==◌ (λ (c : Block). c.slot)) (sym (append-nil (open_blocks notes))) t.apart)
          (ap (list_any (λ (c : Block). c.slot == slot)) (append-nil (open_blocks notes)) ∙ free));
      even = omega (arith, creations, endings, blocks, t.even);
      once = ⊎_elim
          (λ (it : same_object object o ≡ true).
          let none : count_of (creates o) notes ≡ 0 = count_none (creates o) notes (subst (λ (x : ObjectId). list_any (creates x) notes ≡ false) ((same_object-Decides object o).0 it) new) in
          let one : here ≡ 1 = ap one_if it in
          omega (arith, creations, none, one))
          (λ (other : same_object object o ≡ false).
          let nothing : here ≡ 0 = ap one_if other in
          omega (arith, creations, nothing, t.once))
          (cases_Bool (same_object object o));
    }

any_weaker : {X : Type 0} (p r : X → Bool) (xs : List X) → ((x : X) → p x ≡ true → r x ≡ true) → list_any p xs ≡ true → list_any r xs ≡ true
any_weaker p r [] f h = h
any_weaker p r (x ∷ xs) f h = at (p x) (r x) (f x) (any_weaker p r xs f) h
  where
    at : (a b : Bool) → (a ≡ true → b ≡ true) → (list_any p xs ≡ true → list_any r xs ≡ true) → (a || list_any p xs) ≡ true → (b || list_any r xs) ≡ true
    at a true f g h = refl
    at true false f g h = absurd (both_ways false refl (f refl))
    at false false f g h = g h

finished : (o : ObjectId) (notes : List QueueNote) (slot : ℕ) (object : ObjectId) → is_live_in slot object notes ≡ true → Tally o notes → Tally o (notes ++ q.Gone slot object ∷ [])
finished o notes slot object live t =
    let n : QueueNote = q.Gone slot object in
    let open_now : List Block = open_blocks notes in
    let in_slot : Block → Bool = λ b. b.slot == slot in
    let both : Block → Bool = λ b. b.slot == slot && same_object b.object object in
    let s : Split in_slot open_now = split_of ◌==◌ (λ a b. eqb-true a b) (λ (b : Block). b.slot) slot open_now t.apart
    (any_weaker both in_slot open_now (λ b h. (and_parts (b.slot == slot) (same_object b.object object) h).0) live) in
    let others_none : list_any both (s.front ++ s.back) ≡ false = false_from_ne_true (list_any both (s.front ++ s.back)) (λ h.
    let found : list_any in_slot (s.front ++ s.back) ≡ true = any_weaker both in_slot (s.front ++ s.back) (λ b k. (and_parts (b.slot == slot) (same_object b.object object) k).0) h in
    both_ways (list_any in_slot (s.front ++ s.back)) (list_any-append in_slot s.front s.back ∙ ap (λ b. b || list_any in_slot s.back) s.none_front ∙ s.none_back) found) in
    let it : same_object s.it.object object ≡ true = ⊎_elim
    (λ (here : both s.it ≡ true). (and_parts (s.it.slot == slot) (same_object s.it.object object) here).1)
    (λ (there : list_any both (s.front ++ s.back) ≡ true). absurd (both_ways (list_any both (s.front ++ s.back)) others_none there))
    (or_cases (both s.it) (list_any both (s.front ++ s.back)) (sym (any_mid both s.front s.it s.back) ∙ sym (ap (list_any both) s.whole) ∙ live)) in
    let here : ℕ = one_if (same_object object o) in
    let left : open_blocks (notes ++ n ∷ []) ≡ s.front ++ s.back = open-push notes n ∙ split_others in_slot open_now s in
    let creations : count_of (creates o) (notes ++ n ∷ []) ≡ count_of (creates o) notes = count-push (creates o) notes n ∙ omega arith in
    let endings : count_of (is_gone o) (notes ++ n ∷ []) ≡ count_of (is_gone o) notes + here = count-push (is_gone o) notes n in
    let blocks : count_of (of_object o) open_now ≡ count_of (of_object o) (open_blocks (notes ++ n ∷ [])) + here =
    ap (count_of (of_object o)) s.whole ∙ count_mid (of_object o) s.front s.it s.back
    ∙ ap (λ (x : ObjectId). count_of (of_object o) (s.front ++ s.back) + one_if (same_object x o)) ((same_object-Decides s.it.object object).0 it)
    ∙ ap (λ (bs : List Block). count_of (of_object o) bs + here) (sym left) in
    record {
      apart = subst (Alone ◌==◌ (λ (b : Block). b.slot)) (sym left) (alone_around (λ (b : Block). b.slot) s.front s.it s.back (subst (Alone ◌==◌ (λ (b : Block). b.slot)) s.whole t.apart)).0;
      even = omega (arith, creations, endings, blocks, t.even);
      once = subst (λ (k : ℕ). k ≤ 1) (sym creations) t.once;
    }
  where
    count_mid : {X : Type 0} (test : X → Bool) (xs : List X) (y : X) (ys : List X) → count_of test (xs ++ y ∷ ys) ≡ count_of test (xs ++ ys) + one_if (test y)
    count_mid test xs y ys =
        let whole = count_of-append test xs (y ∷ ys) in
        let rest = count_of-append test xs ys in
        let one : count_of test (y ∷ ys) ≡ count_of test ys + one_if (test y) = at (test y) (count_of test ys) in
        omega (arith, whole, rest, one)
      where
        at : (b : Bool) (k : ℕ) → cond b (suc k) k ≡ k + one_if b
        at true k = omega arith
        at false k = omega arith

tally_next : (port : ℕ) (o : ObjectId) (notes : List QueueNote) (n : QueueNote) → fits port notes n ≡ true → Tally o notes → Tally o (notes ++ n ∷ [])
tally_next port o notes (q.Create slot object make tag) fit t =
    let one = and_parts (not (is_taken slot notes) && not (list_any (creates object) notes) && is_for_port port object) (is_made_as make object) fit in
    let two = and_parts (not (is_taken slot notes) && not (list_any (creates object) notes)) (is_for_port port object) one.0 in
    let three = and_parts (not (is_taken slot notes)) (not (list_any (creates object) notes)) two.0 in
    begun o notes slot object make tag (not-true (is_taken slot notes) three.0) (not-true (list_any (creates object) notes) three.1) t
tally_next port o notes (q.Deliver slot sub msg) fit t = idle o notes (q.Deliver slot sub msg) (open-push notes (q.Deliver slot sub msg)) refl refl t
tally_next port o notes (q.Reply slot inbox body) fit t = idle o notes (q.Reply slot inbox body) (open-push notes (q.Reply slot inbox body)) refl refl t
tally_next port o notes (q.Bad slot sub kind sender seq bytes) fit t = idle o notes (q.Bad slot sub kind sender seq bytes) (open-push notes (q.Bad slot sub kind sender seq bytes)) refl refl t
tally_next port o notes (q.BadReply slot inbox bytes) fit t = idle o notes (q.BadReply slot inbox bytes) (open-push notes (q.BadReply slot inbox bytes)) refl refl t
tally_next port o notes (q.Tick slot timer moment) fit t = idle o notes (q.Tick slot timer moment) (open-push notes (q.Tick slot timer moment)) refl refl t
tally_next port o notes (q.Gone slot object) fit t = finished o notes slot object fit t
tally_next port o notes q.Fin fit t = idle o notes q.Fin (open-push notes q.Fin) refl refl t

pub tally : (port : ℕ) (o : ObjectId) (notes : List QueueNote) → IsLawful is_last (fits port) notes → Tally o notes
tally port o notes = by_entries (λ (ns : List QueueNote). IsLawful is_last (fits port) ns → Tally o ns)
    (λ lawful. record { apart = tt; even = refl; once = omega arith })
    (λ ns n ih lawful. tally_next port o ns n
    (and_parts (not (list_any is_last ns)) (fits port ns n) (IsLawful-at is_last (fits port) ns n [] lawful)).1
    (ih (IsLawful-prefix is_last (fits port) ns (n ∷ []) lawful))) notes
