-- A slot is of one object at a time.
use Rattle.std.specs.Prelude.{not, filter, if◌then◌else◌, ◌==◌}
use Rattle.std.specs.List.{list_any}
use Rattle.std.proofs.Common.{◌≡◌, ℕ, Bool, true, false, ◌&&◌, ◌||◌, List, [], ◌∷◌, ◌++◌, refl, ap, sym, ◌∙◌, subst, append-nil, append_assoc}
use Rattle.std.proofs.lemmas.Bool.{false≢true, and_parts, or_parts, not-true, eqb-true}
use Rattle.mama_event.specs.Lawful.{each_fits, may_follow}
use Rattle.mama_event.specs.Object.{same_object}
use Rattle.mama_event.specs.ToQueue.{is_last, fits, Block, blocks_after, open_blocks, is_taken, creates, is_for_port, is_made_as}
use Rattle.mama_event.specs.declared.ids.ObjectId.{ObjectId}
use Rattle.mama_event.specs.declared.to_queue.QueueNote.{QueueNote}
use Rattle.mama_event.specs.declared.to_queue.QueueNote.TheVariants as q
use Rattle.mama_dispatch.specs.Streams.{SlotsAreOfOne}
use Rattle.mama_dispatch.proofs.DeedLemmas.{same_object-true, eq_sym}
use Rattle.mama_dispatch.proofs.StreamLemmas.{open_more_blocks}

-- no two blocks have one slot
abbrev AreApart : List Block → Type 0
AreApart [] = Unit {0}
AreApart (b ∷ bs) = (list_any (λ c. c.slot == b.slot) bs ≡ false) × AreApart bs

any_at_end : (p : Block → Bool) (bs : List Block) (b : Block) → list_any p bs ≡ false → p b ≡ false → list_any p (bs ++ b ∷ []) ≡ false
any_at_end p [] b none last = ap (λ (t : Bool). t || false) last
any_at_end p (c ∷ bs) b none last =
    let parts = or_parts (p c) (list_any p bs) none in
    ap (λ (t : Bool). t || list_any p (bs ++ b ∷ [])) parts.0 ∙ any_at_end p bs b parts.1 last

apart_begun : (bs : List Block) (b : Block) → list_any (λ (c : Block). c.slot == b.slot) bs ≡ false → AreApart bs → AreApart (bs ++ b ∷ [])
apart_begun [] b free apart = (refl, tt)
apart_begun (c ∷ bs) b free apart =
    let parts = or_parts (c.slot == b.slot) (list_any (λ (x : Block). x.slot == b.slot) bs) free in
    (any_at_end (λ (x : Block). x.slot == c.slot) bs b apart.0 (eq_sym b.slot c.slot ∙ parts.0), apart_begun bs b parts.1 apart.1)

pub any_filtered : (p q : Block → Bool) (bs : List Block) → list_any p bs ≡ false → list_any p (filter q bs) ≡ false
any_filtered p q [] none = refl
any_filtered p q (b ∷ bs) none =
    let parts = or_parts (p b) (list_any p bs) none in
    elim (q b) as (λ t. list_any p (if t then b ∷ filter q bs else filter q bs) ≡ false) [
      | true ↦ ap (λ (t : Bool). t || list_any p (filter q bs)) parts.0 ∙ any_filtered p q bs parts.1
      | false ↦ any_filtered p q bs parts.1
    ]

apart_filtered : (q : Block → Bool) (bs : List Block) → AreApart bs → AreApart (filter q bs)
apart_filtered q [] apart = tt
apart_filtered q (b ∷ bs) apart = elim (q b) as (λ t. AreApart (if t then b ∷ filter q bs else filter q bs)) [
  | true ↦ (any_filtered (λ (c : Block). c.slot == b.slot) q bs apart.0, apart_filtered q bs apart.1)
  | false ↦ apart_filtered q bs apart.1
]

apart_next : (port : ℕ) (notes : List QueueNote) (note : QueueNote) → may_follow is_last (fits port) notes note ≡ true → AreApart (open_blocks notes) → AreApart (blocks_after (open_blocks notes) note)
apart_next port notes (q.Create slot object make tag) follows apart =
    let fit = (and_parts (not (list_any is_last notes)) (not (is_taken slot notes) && not (list_any (creates object) notes) && is_for_port port object && is_made_as make object) follows).1 in
    let first = (and_parts (not (is_taken slot notes) && not (list_any (creates object) notes) && is_for_port port object) (is_made_as make object) fit).0 in
    let second = (and_parts (not (is_taken slot notes) && not (list_any (creates object) notes)) (is_for_port port object) first).0 in
    let free = (and_parts (not (is_taken slot notes)) (not (list_any (creates object) notes)) second).0 in
    apart_begun (open_blocks notes) (record { slot = slot; object = object }) (not-true (is_taken slot notes) free) apart
apart_next port notes (q.Deliver slot sub msg) follows apart = apart
apart_next port notes (q.Reply slot inbox body) follows apart = apart
apart_next port notes (q.Bad slot sub kind sender seq bytes) follows apart = apart
apart_next port notes (q.BadReply slot inbox bytes) follows apart = apart
apart_next port notes (q.Tick slot timer moment) follows apart = apart
apart_next port notes (q.Gone slot object) follows apart = apart_filtered (λ (b : Block). not (b.slot == slot)) (open_blocks notes) apart
apart_next port notes q.Fin follows apart = apart

apart_all : (port : ℕ) (before notes : List QueueNote) → each_fits (may_follow is_last (fits port)) before notes ≡ true → AreApart (open_blocks before) → AreApart (open_blocks (before ++ notes))
apart_all port before [] all apart = subst (λ (ns : List QueueNote). AreApart (open_blocks ns)) (sym (append-nil before)) apart
apart_all port before (n ∷ notes) all apart =
    let parts = and_parts (may_follow is_last (fits port) before n) (each_fits (may_follow is_last (fits port)) (before ++ n ∷ []) notes) all in
    subst (λ (ns : List QueueNote). AreApart (open_blocks ns)) (append_assoc before (n ∷ []) notes)
    (apart_all port (before ++ n ∷ []) notes parts.1 (subst AreApart (sym (open_more_blocks before n [])) (apart_next port before n parts.0 apart)))

-- where a block of a slot is of an object, and no other block has that slot, each block of the slot is of that object
none_else : (slot : ℕ) (o : ObjectId) (bs : List Block) → list_any (λ (c : Block). c.slot == slot) bs ≡ false → list_any (λ (c : Block). c.slot == slot && same_object c.object o) bs ≡ false
none_else slot o [] none = refl
none_else slot o (b ∷ bs) none =
    let parts = or_parts (b.slot == slot) (list_any (λ (c : Block). c.slot == slot) bs) none in
    ap (λ (t : Bool). (t && same_object b.object o) || list_any (λ (c : Block). c.slot == slot && same_object c.object o) bs) parts.0 ∙ none_else slot o bs parts.1

one_block : (slot : ℕ) (a b : ObjectId) (bs : List Block) → AreApart bs
    → list_any (λ (c : Block). c.slot == slot && same_object c.object a) bs ≡ true → list_any (λ (c : Block). c.slot == slot && same_object c.object b) bs ≡ true → a ≡ b
one_block slot a b [] apart has_a has_b = absurd (false≢true has_a)
one_block slot a b (c ∷ bs) apart has_a has_b =
    elim (c.slot == slot) as
    (λ t. (c.slot == slot) ≡ t → ((t && same_object c.object a) || list_any (λ (x : Block). x.slot == slot && same_object x.object a) bs) ≡ true
    → ((t && same_object c.object b) || list_any (λ (x : Block). x.slot == slot && same_object x.object b) bs) ≡ true → a ≡ b) [
      | true ↦ λ same has_a has_b.
          let free : list_any (λ (x : Block). x.slot == slot) bs ≡ false = subst (λ (n : ℕ). list_any (λ (x : Block). x.slot == n) bs ≡ false) (eqb-true c.slot slot same) apart.0 in
          let is_a : same_object c.object a ≡ true = or_first (same_object c.object a) (list_any (λ (x : Block). x.slot == slot && same_object x.object a) bs) (none_else slot a bs free) has_a in
          let is_b : same_object c.object b ≡ true = or_first (same_object c.object b) (list_any (λ (x : Block). x.slot == slot && same_object x.object b) bs) (none_else slot b bs free) has_b in
          sym (same_object-true c.object a is_a) ∙ same_object-true c.object b is_b
      | false ↦ λ other has_a has_b. one_block slot a b bs apart.1 has_a has_b
    ] refl has_a has_b
  where
    or_first : (x y : Bool) → y ≡ false → (x || y) ≡ true → x ≡ true
    or_first true y none h = refl
    or_first false y none h = absurd (false≢true (sym none ∙ h))

pub slots_are_of_one : SlotsAreOfOne
slots_are_of_one port notes slot a b lawful has_a has_b = one_block slot a b (open_blocks notes) (apart_all port [] notes lawful.each tt) has_a has_b
