-- How a board goes on showing a journal: as it grows, when an image is set, and when one entry more is shown.
use Rattle.std.specs.Prelude.{IfSome, ◌⊎◌}
use Rattle.std.specs.List.{list_any, slice_get}
use Rattle.std.specs.Option.{option_map}
use Rattle.std.proofs.Common.{◌≡◌, ℕ, suc, ◌+◌, ◌<◌, ◌≤◌, Bool, true, false, cond, ◌||◌, List, [], ◌∷◌, ◌++◌, length, take, drop, get_or, Option, None, Some, refl, sym, ◌∙◌, ap, subst, ⊎_elim, append-nil, append_assoc, length-append, arith}
use Rattle.std.proofs.lemmas.Bool.{or_parts}
use Rattle.std.proofs.lemmas.List.{drop-append-le, take-append-le}
use Rattle.std.proofs.lemmas.List.Elements.{All-nil, All-push, All-weaker}
use Rattle.std.proofs.lemmas.List.Folds.{list_any-append}
use Rattle.std.proofs.lemmas.Option.{get_or_from_slice_get, slice_get-get_or, slice_get_within}
use Rattle.std.proofs.Math.Seq.{drop-cons, take-length}
use Rattle.mama_msg.specs.Field.{FieldData}
use Rattle.mama_event.specs.declared.ids.SubId.{SubId}
use Rattle.mama_event.specs.declared.market.ImageHead.{ImageHead}
use Rattle.mama_event.specs.declared.to_queue.QueueNote.{QueueNote}
use Rattle.mama_event.specs.Object.{same_sub}
use Rattle.mama_event.specs.EqualityLaws.{same_sub-Decides}
use Rattle.mama_rules_rounds.specs.Client.{Planned}
use Rattle.mama_plans.specs.Orders.{orders_in}
use Rattle.mama_board.specs.declared.image_set.ImageSet.{ImageSet}
use Rattle.mama_board.specs.declared.row.Row.{Row}
use Rattle.mama_board.specs.Rows.{row, row_in}
use Rattle.mama_board.specs.Values.{BoardValue, after_image, with_waiting, after_sealing}
use Rattle.mama_board.proofs.Rows.{row_more}
use Rattle.mama_shown.specs.Images.{Image, shown_image, own_image, all_sets, named_in, is_sub, names, WasImage, AreShown}
use Rattle.mama_shown.proofs.Contexts.{same_after, none_after}

-- nothing was set, and nothing was taken
pub nothing_shown : (objects : List Planned) → AreShown objects [] 0 []
nothing_shown objects = record { within = omega arith; each = All-nil (WasImage objects []); images = λ sub other. refl; absent = λ sub none. refl }

-- what was an image stays one as the journal grows
was_grown : (objects : List Planned) (journal more : List (ℕ × QueueNote)) (set : ImageSet) → WasImage objects journal set → WasImage objects (journal ++ more) set
was_grown objects journal more set w = record {
  entries = w.entries;
  within = let w_within = w.within in omega (arith, length-append journal more);
  image = ap (λ (es : List (ℕ × QueueNote)). own_image objects es set.sub) (take-append-le w.entries journal more w.within) ∙ w.image;
}

-- the journal grew
pub shown_grown : (objects : List Planned) (journal more : List (ℕ × QueueNote)) (n : ℕ) (sets : List ImageSet) → AreShown objects journal n sets → AreShown objects (journal ++ more) n sets
shown_grown objects journal more n sets h = record {
  within = let h_within = h.within in omega (arith, length-append journal more);
  each = All-weaker (WasImage objects journal) (WasImage objects (journal ++ more)) (was_grown objects journal more) sets h.each;
  images = λ sub other.
      let parts = or_parts (list_any (names sub) (drop n journal)) (list_any (names sub) more)
      (sym (list_any-append (names sub) (drop n journal) more) ∙ sym (ap (list_any (names sub)) (drop-append-le n journal more h.within)) ∙ other) in
      h.images sub parts.0 ∙ sym (same_after (orders_in objects) sub more journal parts.1);
  absent = λ sub none. h.absent sub (none_after (orders_in objects) sub more journal none);
}

-- what is left is the next entry and then the rest
left_is : {A : Type 0} (xs : List A) (n : ℕ) (x : A) → slice_get xs n ≡ Some x → drop n xs ≡ x ∷ drop (n + 1) xs
left_is {A} xs n x at =
    let step : suc n ≡ n + 1 = omega arith in
    drop-cons xs n x (slice_get_within xs n x at) ∙ ap (λ (y : A). y ∷ drop (suc n) xs) (get_or_from_slice_get xs n x x at) ∙ ap (λ (k : ℕ). x ∷ drop k xs) step

-- an entry names the subscription that is named in it
named_is : (sub : SubId) (named : Option SubId) → is_sub sub named ≡ true → named ≡ Some sub
named_is sub None is = absurd (cc is)
named_is sub (Some s) is = ap (λ (x : SubId). Some x) ((same_sub-Decides s sub).0 is)

-- the next entry is shown: the subscription that it names, if it names one, has its image
pub shown_next : (objects : List Planned) (journal : List (ℕ × QueueNote)) (n : ℕ) (e : ℕ × QueueNote) (sets : List ImageSet) → slice_get journal n ≡ Some e → n < length journal
    → IfSome (named_in e.1) (λ (s : SubId). shown_image s sets ≡ own_image objects journal s) → AreShown objects journal n sets → AreShown objects journal (n + 1) sets
shown_next objects journal n e sets at small set h = record {
  within = omega arith;
  each = h.each;
  images = λ sub other. by_name sub other (names sub e) refl;
  absent = h.absent;
}
  where
    by_name : (sub : SubId) → list_any (names sub) (drop (n + 1) journal) ≡ false → (here : Bool) → names sub e ≡ here → shown_image sub sets ≡ own_image objects journal sub
    by_name sub other true is = subst (λ (named : Option SubId). IfSome named (λ (s : SubId). shown_image s sets ≡ own_image objects journal s)) (named_is sub (named_in e.1) is) set
    by_name sub other false is =
        h.images sub (ap (list_any (names sub)) (left_is journal n e at) ∙ ap (λ (b : Bool). b || list_any (names sub) (drop (n + 1) journal)) is ∙ other)

-- ---- one set more

abbrev set_of : SubId → ImageHead → List FieldData → ImageSet
set_of sub head body = record { sub = sub; head = head; body = body }

image_more : (sub s : SubId) (head : ImageHead) (body : List FieldData) (sets : List ImageSet)
    → shown_image sub (sets ++ set_of s head body ∷ []) ≡ option_map (λ (r : Row). (r.head, r.body)) (cond (same_sub sub s) (Some (row_in (set_of s head body))) (row sub sets))
image_more sub s head body sets = ap (option_map (λ (r : Row). (r.head, r.body))) (row_more sub sets (set_of s head body))

pub set_here : (s : SubId) (head : ImageHead) (body : List FieldData) (sets : List ImageSet) → shown_image s (sets ++ set_of s head body ∷ []) ≡ Some (head, body)
set_here s head body sets =
    image_more s s head body sets
    ∙ ap (λ (b : Bool). option_map (λ (r : Row). (r.head, r.body)) (cond b (Some (row_in (set_of s head body))) (row s sets))) ((same_sub-Decides s s).1 refl)

set_other : (sub s : SubId) (head : ImageHead) (body : List FieldData) (sets : List ImageSet) → same_sub sub s ≡ false → shown_image sub (sets ++ set_of s head body ∷ []) ≡ shown_image sub sets
set_other sub s head body sets other =
    image_more sub s head body sets ∙ ap (λ (b : Bool). option_map (λ (r : Row). (r.head, r.body)) (cond b (Some (row_in (set_of s head body))) (row sub sets))) other

-- the image that a subscription has is one that it had
is_image : (objects : List Planned) (journal : List (ℕ × QueueNote)) (s : SubId) (head : ImageHead) (body : List FieldData) → Some (head, body) ≡ own_image objects journal s → WasImage objects journal (set_of s head body)
is_image objects journal s head body own = record {
  entries = length journal;
  within = omega arith;
  image = ap (λ (es : List (ℕ × QueueNote)). own_image objects es s) (take-length journal) ∙ sym own;
}

-- the image of a subscription is set
pub shown_set : (objects : List Planned) (journal : List (ℕ × QueueNote)) (n : ℕ) (s : SubId) (head : ImageHead) (body : List FieldData) (sets : List ImageSet) → Some (head, body) ≡ own_image objects journal s
    → AreShown objects journal n sets → AreShown objects journal n (sets ++ set_of s head body ∷ [])
shown_set objects journal n s head body sets own h = record {
  within = h.within;
  each = All-push (WasImage objects journal) sets (set_of s head body) h.each (is_image objects journal s head body own);
  images = λ sub other. images_by sub other (same_sub sub s) refl;
  absent = λ sub none. absent_by sub none (same_sub sub s) refl;
}
  where
    here : (sub : SubId) → same_sub sub s ≡ true → shown_image sub (sets ++ set_of s head body ∷ []) ≡ own_image objects journal sub
    here sub is =
        let this : sub ≡ s = (same_sub-Decides sub s).0 is in
        subst (λ (x : SubId). shown_image x (sets ++ set_of s head body ∷ []) ≡ own_image objects journal x) (sym this) (set_here s head body sets ∙ own)

    images_by : (sub : SubId) → list_any (names sub) (drop n journal) ≡ false → (same : Bool) → same_sub sub s ≡ same → shown_image sub (sets ++ set_of s head body ∷ []) ≡ own_image objects journal sub
    images_by sub other true is = here sub is
    images_by sub other false is = set_other sub s head body sets is ∙ h.images sub other

    absent_by : (sub : SubId) → own_image objects journal sub ≡ None → (same : Bool) → same_sub sub s ≡ same → shown_image sub (sets ++ set_of s head body ∷ []) ≡ None
    absent_by sub none true is = here sub is ∙ none
    absent_by sub none false is = set_other sub s head body sets is ∙ h.absent sub none

-- ---- boards

-- a set was shown, or waits
pub all_after : (b : BoardValue) (set : ImageSet) → all_sets (after_image b set) ≡ all_sets b ++ set ∷ []
all_after b set = append-nil ((b.sets ++ b.waiting) ++ set ∷ [])

pub all_waiting : (b : BoardValue) (set : ImageSet) → all_sets (with_waiting b set) ≡ all_sets b ++ set ∷ []
all_waiting b set = sym (append_assoc b.sets b.waiting (set ∷ []))

pub all_sealed : (b : BoardValue) → all_sets (after_sealing b) ≡ all_sets b
all_sealed b = append-nil (b.sets ++ b.waiting)

-- a set that was shown, and one that was refused and waits or not
pub shown_ok : (objects : List Planned) (journal : List (ℕ × QueueNote)) (n : ℕ) (s : SubId) (head : ImageHead) (body : List FieldData) (old new : BoardValue) (image : Image) → image ≡ Some (head, body)
    → new ≡ after_image old (set_of s head body) → image ≡ own_image objects journal s → AreShown objects journal n (all_sets old) → AreShown objects journal n (all_sets new)
shown_ok objects journal n s head body old new image there is own h =
    subst (AreShown objects journal n) (sym (ap all_sets is ∙ all_after old (set_of s head body))) (shown_set objects journal n s head body (all_sets old) (sym there ∙ own) h)

pub shown_err : (objects : List Planned) (journal : List (ℕ × QueueNote)) (n : ℕ) (s : SubId) (head : ImageHead) (body : List FieldData) (old new : BoardValue) (image : Image) → image ≡ Some (head, body)
    → (new ≡ old) ⊎ (new ≡ with_waiting old (set_of s head body)) → image ≡ own_image objects journal s → AreShown objects journal n (all_sets old) → AreShown objects journal n (all_sets new)
shown_err objects journal n s head body old new image there is own h =
    ⊎_elim (λ (same : new ≡ old). subst (AreShown objects journal n) (sym (ap all_sets same)) h)
    (λ (waits : new ≡ with_waiting old (set_of s head body)).
    subst (AreShown objects journal n) (sym (ap all_sets waits ∙ all_waiting old (set_of s head body))) (shown_set objects journal n s head body (all_sets old) (sym there ∙ own) h))
    is

-- the image that was set is shown
pub set_ok : (s : SubId) (head : ImageHead) (body : List FieldData) (old new : BoardValue) (image : Image) → image ≡ Some (head, body) → new ≡ after_image old (set_of s head body) → shown_image s (all_sets new) ≡ image
set_ok s head body old new image there is =
    ap (λ (b : BoardValue). shown_image s (all_sets b)) is ∙ ap (shown_image s) (all_after old (set_of s head body)) ∙ set_here s head body (all_sets old) ∙ sym there

-- a board that refused a set is of the same queue, and as open
pub err_queue : (old new : BoardValue) (set : ImageSet) → (new ≡ old) ⊎ (new ≡ with_waiting old set) → new.queue ≡ old.queue
err_queue old new set is = ⊎_elim (λ (same : new ≡ old). ap (λ (b : BoardValue). b.queue) same) (λ (waits : new ≡ with_waiting old set). ap (λ (b : BoardValue). b.queue) waits) is

pub err_open : (old new : BoardValue) (set : ImageSet) → (new ≡ old) ⊎ (new ≡ with_waiting old set) → new.sealed ≡ old.sealed
err_open old new set is = ⊎_elim (λ (same : new ≡ old). ap (λ (b : BoardValue). b.sealed) same) (λ (waits : new ≡ with_waiting old set). ap (λ (b : BoardValue). b.sealed) waits) is

-- the next entry of a list that is the journal is shown by the board that the step left
pub shown_more : (objects : List Planned) (journal es : List (ℕ × QueueNote)) (n m : ℕ) (d e : ℕ × QueueNote) (sets : List ImageSet) (named : Option SubId) → es ≡ journal → n < length es → e ≡ get_or es n d
    → named ≡ named_in e.1 → IfSome named (λ (s : SubId). shown_image s sets ≡ own_image objects journal s) → m ≡ n → AreShown objects journal m sets → AreShown objects journal (n + 1) sets
shown_more objects journal es n m d e sets named same small here name set unmoved h =
    let at : slice_get journal n ≡ Some e = subst (λ (xs : List (ℕ × QueueNote)). slice_get xs n ≡ Some e) same (slice_get-get_or es n d small ∙ ap (λ (x : ℕ × QueueNote). Some x) (sym here)) in
    shown_next objects journal n e sets at (subst (λ (xs : List (ℕ × QueueNote)). n < length xs) same small)
    (subst (λ (o : Option SubId). IfSome o (λ (s : SubId). shown_image s sets ≡ own_image objects journal s)) name set) (subst (λ (k : ℕ). AreShown objects journal k sets) unmoved h)

-- the next entry of a list that is the journal was the last one
pub shown_last : (journal es : List (ℕ × QueueNote)) (n : ℕ) → es ≡ journal → n < length es → length journal ≤ n + 1 → length journal ≡ n + 1
shown_last journal es n same small few =
    let len : length es ≡ length journal = ap length same in
    omega (arith, len, small, few)

-- nothing is left to show past the end of a list that is the journal
pub shown_whole : (objects : List Planned) (journal es : List (ℕ × QueueNote)) (n : ℕ) (sets : List ImageSet) → es ≡ journal → length es ≤ n → AreShown objects journal n sets → length journal ≡ n
shown_whole objects journal es n sets same past h =
    let len : length es ≡ length journal = ap length same in
    let within : n ≤ length journal = h.within in
    omega (arith, len, within, past)
