-- What came by lawful ports may come.
use Rattle.std.specs.Prelude.{not, filter, if◌then◌else◌, ◌==◌, nat_lt}
use Rattle.std.specs.List.{list_any, list_all}
use Rattle.std.proofs.Common.{◌≡◌, ℕ, zero, suc, ◌<◌, Bool, true, false, ◌&&◌, ◌||◌, List, [], ◌∷◌, ◌++◌, refl, ap, sym, ◌∙◌, subst, inl, inr, append-nil, append_assoc, arith}
use Rattle.std.proofs.lemmas.Bool.{true≢false, false≢true, and_parts, and_from, or_parts, or_from, or_cases, or_left, or_right, not-true, eqb-true, eq-eqb, ne_eqb, ltb-true, true_from_ne_false, false_from_ne_true}
use Rattle.mama_journal.specs.Lane.{by_port}
use Rattle.mama_event.specs.Lawful.{each_fits, may_follow, IsLawful}
use Rattle.mama_event.specs.LawfulLaws.{IsLawful-at, IsLawful-prefix, IsLawful-start}
use Rattle.mama_event.specs.Object.{same_object}
use Rattle.mama_event.specs.ToQueue.{is_last, fits, Block, blocks_after, open_blocks, is_taken, creates, is_for_port, is_made_as}
use Rattle.mama_event.specs.declared.ids.ObjectId.{ObjectId}
use Rattle.mama_event.specs.declared.ids.ObjectId.TheVariants.{Sub, Timer, Inbox}
use Rattle.mama_event.specs.declared.to_queue.Make.{Make}
use Rattle.mama_event.specs.declared.to_queue.QueueNote.{QueueNote}
use Rattle.mama_event.specs.declared.to_queue.QueueNote.TheVariants as q
use Rattle.mama_dispatch.specs.Journals.{Born, born_in, born, is_born, lives, is_live_here, may_come}
use Rattle.mama_dispatch.specs.Coming.{AreLawful, LawfulMayCome, LawfulAreTurns, TwoPortsSuffice}
use Rattle.mama_dispatch.proofs.DeedLemmas.{same_object-sym, same_object-true}
use Rattle.mama_dispatch.proofs.ArmLemmas.{born_more, lives_more}
use Rattle.mama_dispatch.proofs.BirthLemmas.{any_more}
use Rattle.mama_dispatch.proofs.StreamLemmas.{open_more_blocks}
use Rattle.mama_dispatch.proofs.SlotLemmas.{any_filtered}

-- BLOCKS OF ONE PORT

-- a block of an object is not finished
abbrev has_block : ObjectId → List Block → Bool
has_block o bs = list_any (λ b. same_object b.object o) bs

-- no object has two blocks
abbrev AreAlone : List Block → Type 0
AreAlone [] = Unit {0}
AreAlone (b ∷ bs) = (has_block b.object bs ≡ false) × AreAlone bs

any_end : {A : Type 0} (p : A → Bool) (xs : List A) (x : A) → list_any p (xs ++ x ∷ []) ≡ (list_any p xs || p x)
any_end p [] x = or_nothing (p x)
  where
    or_nothing : (b : Bool) → (b || false) ≡ b
    or_nothing true = refl
    or_nothing false = refl
any_end p (y ∷ xs) x = ap (λ (t : Bool). p y || t) (any_end p xs x) ∙ joined (p y) (list_any p xs) (p x)
  where
    joined : (a b c : Bool) → (a || (b || c)) ≡ ((a || b) || c)
    joined true b c = refl
    joined false b c = refl

-- what a filtered list has, the list has
filtered_has : (p k : Block → Bool) (bs : List Block) → list_any p (filter k bs) ≡ true → list_any p bs ≡ true
filtered_has p k bs has = true_from_ne_false (list_any p bs) (λ none. true≢false (sym has ∙ any_filtered p k bs none))

alone_begun : (bs : List Block) (b : Block) → has_block b.object bs ≡ false → AreAlone bs → AreAlone (bs ++ b ∷ [])
alone_begun [] b free alone = (refl, tt)
alone_begun (c ∷ bs) b free alone =
    let parts = or_parts (same_object c.object b.object) (has_block b.object bs) free in (
      any_end (λ (x : Block). same_object x.object c.object) bs b ∙ or_from (has_block c.object bs) (same_object b.object c.object) alone.0 (same_object-sym b.object c.object ∙ parts.0),
      alone_begun bs b parts.1 alone.1,
    )

alone_filtered : (k : Block → Bool) (bs : List Block) → AreAlone bs → AreAlone (filter k bs)
alone_filtered k [] alone = tt
alone_filtered k (b ∷ bs) alone = elim (k b) as (λ t. AreAlone (if t then b ∷ filter k bs else filter k bs)) [
  | true ↦ (any_filtered (λ (c : Block). same_object c.object b.object) k bs alone.0, alone_filtered k bs alone.1)
  | false ↦ alone_filtered k bs alone.1
]

-- a block of an object in a slot is a block of the object
in_slot : (slot : ℕ) (o : ObjectId) (bs : List Block) → list_any (λ (b : Block). b.slot == slot && same_object b.object o) bs ≡ true → has_block o bs ≡ true
in_slot slot o [] has = has
in_slot slot o (b ∷ bs) has =
    elim (or_cases (b.slot == slot && same_object b.object o) (list_any (λ (c : Block). c.slot == slot && same_object c.object o) bs) has) [
      | inl this ↦ or_left (same_object b.object o) (has_block o bs) (and_parts (b.slot == slot) (same_object b.object o) this).1
      | inr rest ↦ or_right (same_object b.object o) (has_block o bs) (in_slot slot o bs rest)
    ]

-- without its slot's block, an object has none
gone_from : (slot : ℕ) (o : ObjectId) (bs : List Block) → AreAlone bs → list_any (λ (b : Block). b.slot == slot && same_object b.object o) bs ≡ true
    → has_block o (filter (λ (b : Block). not (b.slot == slot)) bs) ≡ false
gone_from slot o [] alone has = absurd (false≢true has)
gone_from slot o (b ∷ bs) alone has =
    elim (or_cases (b.slot == slot && same_object b.object o) (list_any (λ (c : Block). c.slot == slot && same_object c.object o) bs) has) [
      | inl this ↦
          let parts = and_parts (b.slot == slot) (same_object b.object o) this in
          let none : has_block o bs ≡ false = ap (λ (x : ObjectId). has_block x bs) (sym (same_object-true b.object o parts.1)) ∙ alone.0 in
          ap (λ (t : Bool). has_block o (if not t then b ∷ filter (λ (c : Block). not (c.slot == slot)) bs else filter (λ (c : Block). not (c.slot == slot)) bs)) parts.0
          ∙ any_filtered (λ (c : Block). same_object c.object o) (λ (c : Block). not (c.slot == slot)) bs none
      | inr rest ↦
          let later : has_block o (filter (λ (c : Block). not (c.slot == slot)) bs) ≡ false = gone_from slot o bs alone.1 rest in
          let other : same_object b.object o ≡ false =
          false_from_ne_true (same_object b.object o) (λ same. true≢false (sym (in_slot slot o bs rest) ∙ ap (λ (x : ObjectId). has_block x bs) (sym (same_object-true b.object o same)) ∙ alone.0)) in
          elim (not (b.slot == slot)) as (λ t. has_block o (if t then b ∷ filter (λ (c : Block). not (c.slot == slot)) bs else filter (λ (c : Block). not (c.slot == slot)) bs) ≡ false) [
            | true ↦ or_from (same_object b.object o) (has_block o (filter (λ (c : Block). not (c.slot == slot)) bs)) other later
            | false ↦ later
          ]
    ]

-- ONE PORT'S LIST

-- what is so of a list that a port may put
record IsOrderly (port : ℕ) (notes : List QueueNote) : Type 0 where
  alone : AreAlone (open_blocks notes)
  made : (o : ObjectId) → has_block o (open_blocks notes) ≡ true → list_any (creates o) notes ≡ true
  owns : (o : ObjectId) → list_any (creates o) notes ≡ true → is_for_port port o ≡ true

orderly_none : (port : ℕ) → IsOrderly port []
orderly_none port = record { alone = tt; made = λ o has. has; owns = λ o has. absurd (false≢true has) }

-- an entry that begins and ends no block
orderly_quiet : (port : ℕ) (notes : List QueueNote) (note : QueueNote) → ((bs : List Block) → blocks_after bs note ≡ bs) → ((o : ObjectId) → creates o note ≡ false) → IsOrderly port notes → IsOrderly port (notes ++ note ∷ [])
orderly_quiet port notes note same quiet was =
    let blocks : open_blocks (notes ++ note ∷ []) ≡ open_blocks notes = open_more_blocks notes note [] ∙ same (open_blocks notes) in
    record {
      alone = subst AreAlone (sym blocks) was.alone;
      made = λ o has. any_end (creates o) notes note ∙ or_left (list_any (creates o) notes) (creates o note) (was.made o (sym (ap (has_block o) blocks) ∙ has));
      owns = λ o has. elim (or_cases (list_any (creates o) notes) (creates o note) (sym (any_end (creates o) notes note) ∙ has)) [
        | inl before ↦ was.owns o before
        | inr now ↦ absurd (true≢false (sym now ∙ quiet o))
      ];
    }

-- what a Create that fits says
record FitsCreate (port slot : ℕ) (o : ObjectId) (notes : List QueueNote) : Type 0 where
  fresh : list_any (creates o) notes ≡ false
  owned : is_for_port port o ≡ true

create_fits : (port slot : ℕ) (o : ObjectId) (make : Make) (tag : ObjectId) (notes : List QueueNote) → fits port notes (q.Create slot o make tag) ≡ true → FitsCreate port slot o notes
create_fits port slot o make tag notes fit =
    let first = (and_parts (not (is_taken slot notes) && not (list_any (creates o) notes) && is_for_port port o) (is_made_as make o) fit).0 in
    let second = and_parts (not (is_taken slot notes) && not (list_any (creates o) notes)) (is_for_port port o) first in
    record { fresh = not-true (list_any (creates o) notes) (and_parts (not (is_taken slot notes)) (not (list_any (creates o) notes)) second.0).1; owned = second.1 }

orderly_next : (port : ℕ) (notes : List QueueNote) (note : QueueNote) → fits port notes note ≡ true → IsOrderly port notes → IsOrderly port (notes ++ note ∷ [])
orderly_next port notes (q.Create slot x make tag) fit was =
    let note : QueueNote = q.Create slot x make tag in
    let b : Block = record { slot = slot; object = x } in
    let so = create_fits port slot x make tag notes fit in
    let blocks : open_blocks (notes ++ note ∷ []) ≡ open_blocks notes ++ b ∷ [] = open_more_blocks notes note [] in
    let free : has_block x (open_blocks notes) ≡ false = false_from_ne_true (has_block x (open_blocks notes)) (λ has. true≢false (sym (was.made x has) ∙ so.fresh)) in
    record {
      alone = subst AreAlone (sym blocks) (alone_begun (open_blocks notes) b free was.alone);
      made = λ o has.
          any_end (creates o) notes note
          ∙ elim (or_cases (has_block o (open_blocks notes)) (same_object x o) (sym (any_end (λ (c : Block). same_object c.object o) (open_blocks notes) b) ∙ sym (ap (has_block o) blocks) ∙ has)) [
            | inl before ↦ or_left (list_any (creates o) notes) (same_object x o) (was.made o before)
            | inr now ↦ or_right (list_any (creates o) notes) (same_object x o) now
          ];
      owns = λ o has. elim (or_cases (list_any (creates o) notes) (same_object x o) (sym (any_end (creates o) notes note) ∙ has)) [
        | inl before ↦ was.owns o before
        | inr now ↦ ap (is_for_port port) (sym (same_object-true x o now)) ∙ so.owned
      ];
    }
orderly_next port notes (q.Deliver slot sub msg) fit was = orderly_quiet port notes (q.Deliver slot sub msg) (λ bs. refl) (λ o. refl) was
orderly_next port notes (q.Reply slot inbox body) fit was = orderly_quiet port notes (q.Reply slot inbox body) (λ bs. refl) (λ o. refl) was
orderly_next port notes (q.Bad slot sub kind sender seq bytes) fit was = orderly_quiet port notes (q.Bad slot sub kind sender seq bytes) (λ bs. refl) (λ o. refl) was
orderly_next port notes (q.BadReply slot inbox bytes) fit was = orderly_quiet port notes (q.BadReply slot inbox bytes) (λ bs. refl) (λ o. refl) was
orderly_next port notes (q.Tick slot timer moment) fit was = orderly_quiet port notes (q.Tick slot timer moment) (λ bs. refl) (λ o. refl) was
orderly_next port notes (q.Gone slot x) fit was =
    let note : QueueNote = q.Gone slot x in
    let k : Block → Bool = λ b. not (b.slot == slot) in
    let blocks : open_blocks (notes ++ note ∷ []) ≡ filter k (open_blocks notes) = open_more_blocks notes note [] in
    record {
      alone = subst AreAlone (sym blocks) (alone_filtered k (open_blocks notes) was.alone);
      made = λ o has. any_end (creates o) notes note ∙ or_left (list_any (creates o) notes) false (was.made o (filtered_has (λ (b : Block). same_object b.object o) k (open_blocks notes) (sym (ap (has_block o) blocks) ∙ has)));
      owns = λ o has. elim (or_cases (list_any (creates o) notes) false (sym (any_end (creates o) notes note) ∙ has)) [
        | inl before ↦ was.owns o before
        | inr now ↦ absurd (false≢true now)
      ];
    }
orderly_next port notes q.Fin fit was = orderly_quiet port notes q.Fin (λ bs. refl) (λ o. refl) was

orderly_after : (port : ℕ) (before notes : List QueueNote) → each_fits (may_follow is_last (fits port)) before notes ≡ true → IsOrderly port before → IsOrderly port (before ++ notes)
orderly_after port before [] all was = subst (IsOrderly port) (sym (append-nil before)) was
orderly_after port before (n ∷ notes) all was =
    let parts = and_parts (may_follow is_last (fits port) before n) (each_fits (may_follow is_last (fits port)) (before ++ n ∷ []) notes) all in
    subst (IsOrderly port) (append_assoc before (n ∷ []) notes)
    (orderly_after port (before ++ n ∷ []) notes parts.1 (orderly_next port before n (and_parts (not (list_any is_last before)) (fits port before n) parts.0).1 was))

orderly : (port : ℕ) (notes : List QueueNote) → IsLawful is_last (fits port) notes → IsOrderly port notes
orderly port notes lawful = orderly_after port [] notes lawful.each (orderly_none port)

-- an object is for one port
one_port : (p r : ℕ) (o : ObjectId) → is_for_port p o ≡ true → is_for_port r o ≡ true → p ≡ r
one_port p r (Sub s) here there = eqb-true p 0 here ∙ sym (eqb-true r 0 there)
one_port p r (Timer t) here there = eqb-true p 1 here ∙ sym (eqb-true r 1 there)
one_port p r (Inbox i) here there = eqb-true p 0 here ∙ sym (eqb-true r 0 there)

-- A JOURNAL

-- what came by a port, with one entry more
pub by_port_push : (p : ℕ) (journal : List (ℕ × QueueNote)) (e : ℕ × QueueNote) → by_port p (journal ++ e ∷ []) ≡ (if e.0 == p then by_port p journal ++ e.1 ∷ [] else by_port p journal)
by_port_push p [] e = refl
by_port_push p (x ∷ es) e =
    ap (λ (ns : List QueueNote). if x.0 == p then x.1 ∷ ns else ns) (by_port_push p es e)
    ∙ elim (x.0 == p) as (λ t. (if t then x.1 ∷ (if e.0 == p then by_port p es ++ e.1 ∷ [] else by_port p es) else (if e.0 == p then by_port p es ++ e.1 ∷ [] else by_port p es)) ≡ (if e.0 == p then (if t then x.1 ∷ by_port p es else by_port p es) ++ e.1 ∷ [] else (if t then x.1 ∷ by_port p es else by_port p es))) [
      | true ↦ elim (e.0 == p) as (λ u. (x.1 ∷ (if u then by_port p es ++ e.1 ∷ [] else by_port p es)) ≡ (if u then (x.1 ∷ by_port p es) ++ e.1 ∷ [] else x.1 ∷ by_port p es)) [ true ↦ refl | false ↦ refl ]
      | false ↦ refl
    ]

by_this : (p : ℕ) (journal : List (ℕ × QueueNote)) (e : ℕ × QueueNote) → (e.0 == p) ≡ true → by_port p (journal ++ e ∷ []) ≡ by_port p journal ++ e.1 ∷ []
by_this p journal e same = by_port_push p journal e ∙ ap (λ (t : Bool). if t then by_port p journal ++ e.1 ∷ [] else by_port p journal) same

by_other : (p : ℕ) (journal : List (ℕ × QueueNote)) (e : ℕ × QueueNote) → (e.0 == p) ≡ false → by_port p (journal ++ e ∷ []) ≡ by_port p journal
by_other p journal e other = by_port_push p journal e ∙ ap (λ (t : Bool). if t then by_port p journal ++ e.1 ∷ [] else by_port p journal) other

-- a shorter journal is lawful too
lawful_before : (journal : List (ℕ × QueueNote)) (e : ℕ × QueueNote) → AreLawful (journal ++ e ∷ []) → AreLawful journal
lawful_before journal e lawful p = go (e.0 == p) refl
  where
    go : (t : Bool) → (e.0 == p) ≡ t → IsLawful is_last (fits p) (by_port p journal)
    go true same = IsLawful-prefix is_last (fits p) (by_port p journal) (e.1 ∷ []) (subst (IsLawful is_last (fits p)) (by_this p journal e same) (lawful p))
    go false other = subst (IsLawful is_last (fits p)) (by_other p journal e other) (lawful p)

-- the last entry fits what its port put before it
last_fits : (journal : List (ℕ × QueueNote)) (e : ℕ × QueueNote) → AreLawful (journal ++ e ∷ []) → fits e.0 (by_port e.0 journal) e.1 ≡ true
last_fits journal e lawful =
    (and_parts (not (list_any is_last (by_port e.0 journal))) (fits e.0 (by_port e.0 journal) e.1)
    (IsLawful-at is_last (fits e.0) (by_port e.0 journal) e.1 [] (subst (IsLawful is_last (fits e.0)) (by_this e.0 journal e (eq-eqb e.0 e.0 refl)) (lawful e.0)))).1

-- what is so of a lawful journal: an unfinished block is of an object that is live, and what was made was made by some port
record IsKnown (journal : List (ℕ × QueueNote)) : Type 0 where
  live : (p : ℕ) (o : ObjectId) → has_block o (open_blocks (by_port p journal)) ≡ true → is_live_here o journal ≡ true
  made : (o : ObjectId) → is_born o journal ≡ true → (p : ℕ) × (list_any (creates o) (by_port p journal) ≡ true)

-- what a port made it has made later
made_on : (journal : List (ℕ × QueueNote)) (e : ℕ × QueueNote) (o : ObjectId) (p : ℕ) → list_any (creates o) (by_port p journal) ≡ true → list_any (creates o) (by_port p (journal ++ e ∷ [])) ≡ true
made_on journal e o p has =
    ap (list_any (creates o)) (by_port_push p journal e)
    ∙ elim (e.0 == p) as (λ t. list_any (creates o) (if t then by_port p journal ++ e.1 ∷ [] else by_port p journal) ≡ true) [
      | true ↦ any_end (creates o) (by_port p journal) e.1 ∙ or_left (list_any (creates o) (by_port p journal)) (creates o e.1) has
      | false ↦ has
    ]

-- an object that is gone from its port's blocks, or never was there, or was there and is another's
known_next : (journal : List (ℕ × QueueNote)) (port : ℕ) (note : QueueNote) → AreLawful (journal ++ (port, note) ∷ []) → IsKnown journal → IsKnown (journal ++ (port, note) ∷ [])
known_next journal port note lawful was = record { live = live note refl; made = made note refl }
  where
    e : ℕ × QueueNote
    e = (port, note)

    before : AreLawful journal
    before = lawful_before journal e lawful

    fit : fits port (by_port port journal) note ≡ true
    fit = last_fits journal e lawful

    -- an entry that leaves the blocks, and says nothing of lives
    quiet : ((bs : List Block) → blocks_after bs note ≡ bs) → ((o : ObjectId) (l : Bool) → lives o l note ≡ l) → (p : ℕ) (o : ObjectId)
        → has_block o (open_blocks (by_port p (journal ++ e ∷ []))) ≡ true → is_live_here o (journal ++ e ∷ []) ≡ true
    quiet same on p o has = lives_more o journal port note ∙ on o (is_live_here o journal) ∙ was.live p o (go (port == p) refl)
      where
        go : (t : Bool) → (port == p) ≡ t → has_block o (open_blocks (by_port p journal)) ≡ true
        go true this = sym (ap (has_block o) (ap open_blocks (by_this p journal e this) ∙ open_more_blocks (by_port p journal) note [] ∙ same (open_blocks (by_port p journal)))) ∙ has
        go false other = sym (ap (λ (ns : List QueueNote). has_block o (open_blocks ns)) (by_other p journal e other)) ∙ has

    live : (n : QueueNote) → note ≡ n → (p : ℕ) (o : ObjectId) → has_block o (open_blocks (by_port p (journal ++ e ∷ []))) ≡ true → is_live_here o (journal ++ e ∷ []) ≡ true
    live (q.Deliver slot sub msg) is p o has = quiet (λ bs. ap (blocks_after bs) is) (λ x l. ap (lives x l) is) p o has
    live (q.Reply slot inbox body) is p o has = quiet (λ bs. ap (blocks_after bs) is) (λ x l. ap (lives x l) is) p o has
    live (q.Bad slot sub kind sender seq bytes) is p o has = quiet (λ bs. ap (blocks_after bs) is) (λ x l. ap (lives x l) is) p o has
    live (q.BadReply slot inbox bytes) is p o has = quiet (λ bs. ap (blocks_after bs) is) (λ x l. ap (lives x l) is) p o has
    live (q.Tick slot timer moment) is p o has = quiet (λ bs. ap (blocks_after bs) is) (λ x l. ap (lives x l) is) p o has
    live q.Fin is p o has = quiet (λ bs. ap (blocks_after bs) is) (λ x l. ap (lives x l) is) p o has
    live (q.Create slot x make tag) is p o has =
        lives_more o journal port note ∙ ap (lives o (is_live_here o journal)) is ∙ go (port == p) refl
      where
        go : (t : Bool) → (port == p) ≡ t → (is_live_here o journal || same_object x o) ≡ true
        go true this =
            elim (or_cases (has_block o (open_blocks (by_port p journal))) (same_object x o)
            (sym (any_end (λ (c : Block). same_object c.object o) (open_blocks (by_port p journal)) (record { slot = slot; object = x }))
            ∙ sym (ap (has_block o) (ap open_blocks (by_this p journal e this) ∙ open_more_blocks (by_port p journal) note [] ∙ ap (blocks_after (open_blocks (by_port p journal))) is)) ∙ has)) [
              | inl old ↦ or_left (is_live_here o journal) (same_object x o) (was.live p o old)
              | inr new ↦ or_right (is_live_here o journal) (same_object x o) new
            ]
        go false other = or_left (is_live_here o journal) (same_object x o) (was.live p o (sym (ap (λ (ns : List QueueNote). has_block o (open_blocks ns)) (by_other p journal e other)) ∙ has))
    live (q.Gone slot x) is p o has =
        lives_more o journal port note ∙ ap (lives o (is_live_here o journal)) is ∙ go (port == p) refl
      where
        there : list_any (λ (b : Block). b.slot == slot && same_object b.object x) (open_blocks (by_port port journal)) ≡ true
        there = sym (ap (fits port (by_port port journal)) is) ∙ fit

        ours : IsOrderly port (by_port port journal)
        ours = orderly port (by_port port journal) (before port)

        go : (t : Bool) → (port == p) ≡ t → (is_live_here o journal && not (same_object x o)) ≡ true
        go true this =
            let same : port ≡ p = eqb-true port p this in
            let left : has_block o (filter (λ (b : Block). not (b.slot == slot)) (open_blocks (by_port p journal))) ≡ true =
            sym (ap (has_block o) (ap open_blocks (by_this p journal e this) ∙ open_more_blocks (by_port p journal) note [] ∙ ap (blocks_after (open_blocks (by_port p journal))) is)) ∙ has in
            let none : has_block x (filter (λ (b : Block). not (b.slot == slot)) (open_blocks (by_port p journal))) ≡ false =
            ap (λ (r : ℕ). has_block x (filter (λ (b : Block). not (b.slot == slot)) (open_blocks (by_port r journal)))) (sym same) ∙ gone_from slot x (open_blocks (by_port port journal)) ours.alone there in
            and_from (is_live_here o journal) (not (same_object x o)) (was.live p o (filtered_has (λ (b : Block). same_object b.object o) (λ (b : Block). not (b.slot == slot)) (open_blocks (by_port p journal)) left))
            (ap not (false_from_ne_true (same_object x o) (λ one.
            true≢false (sym left ∙ ap (λ (y : ObjectId). has_block y (filter (λ (b : Block). not (b.slot == slot)) (open_blocks (by_port p journal)))) (sym (same_object-true x o one)) ∙ none))))
        go false other =
            let old : has_block o (open_blocks (by_port p journal)) ≡ true = sym (ap (λ (ns : List QueueNote). has_block o (open_blocks ns)) (by_other p journal e other)) ∙ has in
            let theirs = orderly p (by_port p journal) (before p) in
            let mine : is_for_port port x ≡ true = ours.owns x (ours.made x (in_slot slot x (open_blocks (by_port port journal)) there)) in
            let its : is_for_port p o ≡ true = theirs.owns o (theirs.made o old) in
            and_from (is_live_here o journal) (not (same_object x o)) (was.live p o old)
            (ap not (false_from_ne_true (same_object x o) (λ one.
            true≢false (sym (eq-eqb port p (one_port port p o (ap (is_for_port port) (sym (same_object-true x o one)) ∙ mine) its)) ∙ other))))

    -- an entry that makes nothing
    unmade : born_in note ≡ [] → (o : ObjectId) → is_born o (journal ++ e ∷ []) ≡ true → (p : ℕ) × (list_any (creates o) (by_port p (journal ++ e ∷ [])) ≡ true)
    unmade none o has =
        let by = was.made o (sym (ap (list_any (λ (b : Born). same_object o b.object)) (born_more journal port note ∙ ap (λ (bs : List Born). born journal ++ bs) none ∙ append-nil (born journal))) ∙ has) in
        (by.0, made_on journal e o by.0 by.1)

    made : (n : QueueNote) → note ≡ n → (o : ObjectId) → is_born o (journal ++ e ∷ []) ≡ true → (p : ℕ) × (list_any (creates o) (by_port p (journal ++ e ∷ [])) ≡ true)
    made (q.Deliver slot sub msg) is o has = unmade (ap born_in is) o has
    made (q.Reply slot inbox body) is o has = unmade (ap born_in is) o has
    made (q.Bad slot sub kind sender seq bytes) is o has = unmade (ap born_in is) o has
    made (q.BadReply slot inbox bytes) is o has = unmade (ap born_in is) o has
    made (q.Tick slot timer moment) is o has = unmade (ap born_in is) o has
    made (q.Gone slot x) is o has = unmade (ap born_in is) o has
    made q.Fin is o has = unmade (ap born_in is) o has
    made (q.Create slot x make tag) is o has =
        elim (or_cases (is_born o journal) (same_object o x)
        (sym (ap (list_any (λ (b : Born). same_object o b.object)) (born_more journal port note ∙ ap (λ (n : QueueNote). born journal ++ born_in n) is) ∙ any_more (λ (b : Born). same_object o b.object) (born journal) (record { object = x; make = make })) ∙ has)) [
          | inl old ↦ let by = was.made o old in (by.0, made_on journal e o by.0 by.1)
          | inr new ↦ (
            port,
            ap (list_any (creates o)) (by_this port journal e (eq-eqb port port refl)) ∙ any_end (creates o) (by_port port journal) note
                ∙ or_right (list_any (creates o) (by_port port journal)) (creates o note) (ap (creates o) is ∙ same_object-sym x o ∙ new),
          )
        ]

known_none : IsKnown []
known_none = record { live = λ p o has. absurd (false≢true has); made = λ o has. absurd (false≢true has) }

-- the front of a lawful journal is lawful
lawful_front : (front back : List (ℕ × QueueNote)) → AreLawful (front ++ back) → AreLawful front
lawful_front front [] lawful = subst AreLawful (append-nil front) lawful
lawful_front front (e ∷ back) lawful =
    lawful_before front e (lawful_front (front ++ e ∷ []) back (subst AreLawful (sym (append_assoc front (e ∷ []) back)) lawful))

-- a lawful journal, from its end
known_all : (journal es : List (ℕ × QueueNote)) → AreLawful (journal ++ es) → IsKnown journal → IsKnown (journal ++ es)
known_all journal [] lawful was = subst IsKnown (sym (append-nil journal)) was
known_all journal (e ∷ es) lawful was =
    let whole : AreLawful ((journal ++ e ∷ []) ++ es) = subst AreLawful (sym (append_assoc journal (e ∷ []) es)) lawful in
    subst IsKnown (append_assoc journal (e ∷ []) es) (known_all (journal ++ e ∷ []) es whole (known_next journal e.0 e.1 (lawful_front (journal ++ e ∷ []) es whole) was))

known : (journal : List (ℕ × QueueNote)) → AreLawful journal → IsKnown journal
known journal lawful = known_all [] journal lawful known_none

comes : (journal : List (ℕ × QueueNote)) (port : ℕ) (note : QueueNote) → AreLawful journal → IsKnown journal → fits port (by_port port journal) note ≡ true → may_come journal note ≡ true
comes journal port (q.Create slot o make tag) lawful is fit =
    let so = create_fits port slot o make tag (by_port port journal) fit in
    ap not (false_from_ne_true (is_born o journal) (λ old.
    let by = is.made o old in
    let same : by.0 ≡ port = one_port by.0 port o ((orderly by.0 (by_port by.0 journal) (lawful by.0)).owns o by.1) so.owned in
    true≢false (sym by.1 ∙ ap (λ (p : ℕ). list_any (creates o) (by_port p journal)) same ∙ so.fresh)))
comes journal port (q.Deliver slot sub msg) lawful is fit = is.live port (Sub sub) (in_slot slot (Sub sub) (open_blocks (by_port port journal)) fit)
comes journal port (q.Reply slot inbox body) lawful is fit = is.live port (Inbox inbox) (in_slot slot (Inbox inbox) (open_blocks (by_port port journal)) fit)
comes journal port (q.Bad slot sub kind sender seq bytes) lawful is fit = is.live port (Sub sub) (in_slot slot (Sub sub) (open_blocks (by_port port journal)) fit)
comes journal port (q.BadReply slot inbox bytes) lawful is fit = is.live port (Inbox inbox) (in_slot slot (Inbox inbox) (open_blocks (by_port port journal)) fit)
comes journal port (q.Tick slot timer moment) lawful is fit = is.live port (Timer timer) (in_slot slot (Timer timer) (open_blocks (by_port port journal)) fit)
comes journal port (q.Gone slot object) lawful is fit = is.live port object (in_slot slot object (open_blocks (by_port port journal)) fit)
comes journal port q.Fin lawful is fit = refl

-- LAWS

pub lawful_may_come : LawfulMayCome
lawful_may_come journal e lawful =
    let before : AreLawful journal = lawful_before journal e lawful in
    comes journal e.0 e.1 before (known journal before) (last_fits journal e lawful)

turns_after : (journal es : List (ℕ × QueueNote)) → AreLawful (journal ++ es) → each_fits (λ (b : List (ℕ × QueueNote)) (e : ℕ × QueueNote). may_come b e.1) journal es ≡ true
turns_after journal [] lawful = refl
turns_after journal (e ∷ es) lawful =
    let whole : AreLawful ((journal ++ e ∷ []) ++ es) = subst AreLawful (sym (append_assoc journal (e ∷ []) es)) lawful in
    and_from (may_come journal e.1) (each_fits (λ (b : List (ℕ × QueueNote)) (x : ℕ × QueueNote). may_come b x.1) (journal ++ e ∷ []) es)
    (lawful_may_come journal e (lawful_front (journal ++ e ∷ []) es whole)) (turns_after (journal ++ e ∷ []) es whole)

pub lawful_are_turns : LawfulAreTurns
lawful_are_turns journal lawful = turns_after [] journal lawful

none_by : (p : ℕ) (journal : List (ℕ × QueueNote)) → 1 < p → list_all (λ (e : ℕ × QueueNote). nat_lt e.0 2) journal ≡ true → by_port p journal ≡ []
none_by p [] late all = refl
none_by p (e ∷ es) late all =
    let parts = and_parts (nat_lt e.0 2) (list_all (λ (x : ℕ × QueueNote). nat_lt x.0 2) es) all in
    let early : e.0 < 2 = ltb-true e.0 2 parts.0 in
    ap (λ (t : Bool). if t then e.1 ∷ by_port p es else by_port p es) (ne_eqb e.0 p (λ same. omega (arith, same, early, late))) ∙ none_by p es late parts.1

two_ports : (journal : List (ℕ × QueueNote)) → list_all (λ (e : ℕ × QueueNote). nat_lt e.0 2) journal ≡ true
    → IsLawful is_last (fits 0) (by_port 0 journal) → IsLawful is_last (fits 1) (by_port 1 journal) → (port : ℕ) → IsLawful is_last (fits port) (by_port port journal)
two_ports journal all first second zero = first
two_ports journal all first second (suc zero) = second
two_ports journal all first second (suc (suc p)) = subst (IsLawful is_last (fits (suc (suc p)))) (sym (none_by (suc (suc p)) journal (omega arith) all)) (IsLawful-start is_last (fits (suc (suc p))))

pub two_ports_suffice : TwoPortsSuffice
two_ports_suffice journal all first second = two_ports journal all first second
