-- What a look tells a reader.
use Rattle.std.proofs.Common.{◌≡◌, ℕ, ◌≤◌, Bool, true, List, ◌++◌, length, take, drop, option_map, refl, sym, ap, ◌∙◌, subst, length-append, arith}
use Rattle.std.proofs.lemmas.List.{length-take-le, take_all, take-append-le, take-append-drop}
use base.Growing.{prefix_trans}
use mathlib.Core.List.{IsPrefix}
use Rattle.mama_event.specs.declared.ids.SubId.{SubId}
use Rattle.mama_board.specs.declared.image_set.ImageSet.{ImageSet}
use Rattle.mama_board.specs.declared.row.Row.{Row}
use Rattle.mama_board.specs.declared.view.View.{View}
use Rattle.mama_board.specs.Images.{ImagesValue, row_at}
use Rattle.mama_board.specs.Rows.{row}
use Rattle.mama_board.specs.Rule.{IsOnward, IsLook}
use Rattle.mama_board.specs.Values.{ReaderValue, HasLooked}

-- a beginning is no longer than the whole
prefix_length : (seen sets : List ImageSet) → IsPrefix seen sets → length seen ≤ length sets
prefix_length seen sets begins = let long : length (seen ++ begins.0) ≡ length sets = ap length begins.1 in omega (arith, length-append seen begins.0)

-- what was taken of a beginning is taken of the whole
take_prefix : (n : ℕ) (seen sets : List ImageSet) → IsPrefix seen sets → n ≤ length seen → take n sets ≡ take n seen
take_prefix n seen sets begins within = ap (take n) (sym begins.1) ∙ take-append-le n seen begins.0 within

-- the rows that are looked at are those of the sets that are then known
pub rows_seen : {A : Type 0} (f : Row → A) (sub : SubId) (v w : View) (images : ImagesValue) → IsLook v images w → option_map f (row_at sub images.rows) ≡ option_map f (row sub w.seen)
rows_seen f sub v w images look = ap (option_map f) (look.images_of.rows sub)

-- what a reader shows of its place, up to a version
abbrev pub seen_to : ℕ → ℕ → View → Bool → ℕ → ReaderValue
seen_to queue version v sealed least = record { queue = queue; seen = take version v.seen; sealed = sealed; least = least }

-- a reader has seen no more sets than that below which no look answers
pub seen_within : (queue version least : ℕ) (v : View) (sealed : Bool) (old : ReaderValue) → version ≤ length v.seen → version ≤ least → seen_to queue version v sealed least ≡ old
    → length old.seen ≤ old.least
seen_within queue version least v sealed old within enough is =
    subst (λ (r : ReaderValue). length r.seen ≤ r.least) is (let cut : length (take version v.seen) ≡ version = length-take-le version v.seen within in omega arith)

module _ (queue version least : ℕ) (v w : View) (sealed : Bool) (onward : IsOnward v w) (within : version ≤ length v.seen) where
  -- a look that gives nothing leaves the reader as before
  pub same_reader : seen_to queue version w sealed least ≡ seen_to queue version v sealed least
  same_reader = λ i. record { queue = queue; seen = take_prefix version v.seen w.seen onward.seen within i; sealed = sealed; least = least }

  -- and it may go on
  pub within_still : version ≤ length w.seen
  within_still = let longer = prefix_length v.seen w.seen onward.seen in omega arith

  pub whole_still : sealed ≡ v.sealed → (sealed ≡ true → version ≡ length v.seen) → sealed ≡ true → version ≡ length w.seen
  whole_still is whole e = whole e ∙ sym (ap length (onward.whole (sym is ∙ e)))

  pub has_looked : (to : ℕ) → to ≡ length w.seen → sealed ≡ v.sealed → (sealed ≡ true → version ≡ length v.seen) → least ≤ version → HasLooked (seen_to queue version v sealed least) (seen_to queue to w sealed to)
  has_looked to here is whole enough =
      let longer = prefix_length v.seen w.seen onward.seen in
      let all : take to w.seen ≡ w.seen = take_all to w.seen (omega arith) in
      let begins : IsPrefix (take version v.seen) w.seen = prefix_trans (take version v.seen) v.seen w.seen (drop version v.seen, take-append-drop version v.seen) onward.seen in
      record {
        queue = refl;
        sealed = refl;
        onward = subst (IsPrefix (take version v.seen)) (sym all) begins;
        at_seal = λ e. all ∙ (onward.whole (sym is ∙ e) ∙ sym (take_all version v.seen (let h = whole e in omega arith)));
        least = let h : length (take to w.seen) ≡ length w.seen = ap length all in omega arith;
        known = here ∙ sym (ap length all);
      }
