-- New hands, among which the shares in their deques are dealt out.
use Rattle.std.proofs.Common.{◌≡◌, ◌≢◌, ℕ, zero, suc, ◌+◌, ◌<◌, ◌≤◌, List, [], ◌∷◌, ◌++◌, length, map, refl, sym, ap, ◌∙◌, subst, length-append, arith}
use Rattle.std.proofs.lemmas.List.{get_or_append_left, get_or_at, get_or-replicate, get_or-map, length-replicate, length-set, length-map, ext_get_or, map-append}
use Rattle.std.proofs.lemmas.List.Elements.{All-nil, All-push}
use Rattle.std.specs.List.{All}
use mathlib.Core.Logic.{dite}
use native.Mathlib.Decide.{ℕ_discrete}
use Rattle.mama_pool.specs.Values.{Place, HandValue, ShareValue, no_share, share_of, with_share, new_share, new_hand, new_hands, IsNewPool, places_of, first_numbers, IsPool}
use Rattle.mama_pool.specs.Deal.{no_hand, hand_at, place_at, AreNumbered, IsDealt, IsUndealt, IsDealing}
use Rattle.mama_pool.proofs.Deals.{set_here, set_else}

pub dealing_none : (width : ℕ) → IsDealing width []
dealing_none width = record {
  places = [];
  count = refl;
  short = omega arith;
  number = λ i lt. absurd (omega arith);
  pushed = λ i lt. absurd (omega arith);
  width_is = λ i lt. absurd (omega arith);
  before = λ i j lt. absurd (omega arith);
  after = λ i j lt. absurd (omega arith);
}

pub dealing_numbered : (width : ℕ) (hands : List HandValue) → IsDealing width hands → AreNumbered width hands
dealing_numbered width hands D = record { number = D.number; width_is = D.width_is }

pub undealt_number : (number width : ℕ) (h : HandValue) → IsUndealt number width h → h.number ≡ number
undealt_number number width h U = ap (λ (u : HandValue). u.number) U.same

pub undealt_width : (number width : ℕ) (h : HandValue) → IsUndealt number width h → length h.shares ≡ width
undealt_width number width h U = ap (λ (u : HandValue). length u.shares) U.same ∙ length-replicate width (new_share U.place)

undealt_share : (number width : ℕ) (h : HandValue) (U : IsUndealt number width h) (j : ℕ) → j < width → share_of h j ≡ new_share U.place
undealt_share number width h U j lt = ap (λ (u : HandValue). share_of u j) U.same ∙ get_or-replicate width j (new_share U.place) no_share lt

module _ (width : ℕ) (hands hands' : List HandValue) (h h' : HandValue) (D : IsDealing width hands) (U : IsUndealt (length hands) width h) (S : IsDealt (length hands) hands hands' h h') (room : length hands < width) where
  abbrev old_hand : ℕ → HandValue
  old_hand i = with_share (hand_at hands i) (length hands) (share_of h i)

  is_number : h.number ≡ length hands
  is_number = undealt_number (length hands) width h U

  at_old : (i : ℕ) → i < length hands → hand_at (hands' ++ h' ∷ []) i ≡ old_hand i
  at_old i lt = let c = S.count in get_or_append_left hands' (h' ∷ []) no_hand i (omega arith) ∙ (S.gave i lt ∙ ap (λ (k : ℕ). with_share (hand_at hands i) k (share_of h i)) is_number)

  at_new : hand_at (hands' ++ h' ∷ []) (length hands) ≡ h'
  at_new = get_or_at hands' h' [] no_hand (length hands) S.count

  place_old : (i : ℕ) → i < length hands → place_at (D.places ++ U.place ∷ []) i ≡ place_at D.places i
  place_old i lt = let c = D.count in get_or_append_left D.places (U.place ∷ []) no_share.place i (omega arith)

  place_new : place_at (D.places ++ U.place ∷ []) (length hands) ≡ U.place
  place_new = get_or_at D.places U.place [] no_share.place (length hands) D.count

  long : length (hands' ++ h' ∷ []) ≡ length hands + 1
  long = let c = S.count in let a = length-append hands' (h' ∷ []) in omega arith

  -- what holds of each hand, by whether it is the new one
  each : (P : ℕ → HandValue → Type 0) → ((i : ℕ) → i < length hands → P i (old_hand i)) → P (length hands) h' → (i : ℕ) → i < length (hands' ++ h' ∷ []) → P i (hand_at (hands' ++ h' ∷ []) i)
  each P others own i lt = let l = long in dite (ℕ_discrete i (length hands))
      (λ (e : i ≡ length hands). subst (λ (k : ℕ). P k (hand_at (hands' ++ h' ∷ []) k)) (sym e) (subst (P (length hands)) (sym at_new) own))
      (λ (apart : i ≢ length hands). let less : i < length hands = omega arith in subst (P i) (sym (at_old i less)) (others i less))

  old_before : (i j : ℕ) → i < length hands → j < length hands + 1 → share_of (old_hand i) j ≡ new_share (place_at (D.places ++ U.place ∷ []) j)
  old_before i j lt below = let x : HandValue = hand_at hands i in let w = D.width_is i lt in dite (ℕ_discrete j (length hands))
      (λ (e : j ≡ length hands). subst (λ (k : ℕ). share_of (old_hand i) k ≡ new_share (place_at (D.places ++ U.place ∷ []) k)) (sym e)
      (set_here x (length hands) (share_of h i) (omega arith) ∙ (undealt_share (length hands) width h U i (omega arith) ∙ ap new_share (sym place_new))))
      (λ (apart : j ≢ length hands). let less : j < length hands = omega arith in set_else x (length hands) j (share_of h i) apart ∙ (D.before i j lt less ∙ ap new_share (sym (place_old j less))))

  new_before : (j : ℕ) → j < length hands + 1 → share_of h' j ≡ new_share (place_at (D.places ++ U.place ∷ []) j)
  new_before j below = dite (ℕ_discrete j (length hands))
      (λ (e : j ≡ length hands). subst (λ (k : ℕ). share_of h' k ≡ new_share (place_at (D.places ++ U.place ∷ []) k)) (sym e)
      (S.kept (length hands) (omega arith) ∙ (undealt_share (length hands) width h U (length hands) room ∙ ap new_share (sym place_new))))
      (λ (apart : j ≢ length hands). let less : j < length hands = omega arith in
      S.got j less ∙ (ap (share_of (hand_at hands j)) is_number ∙ (D.after j (length hands) less (omega arith) room ∙ ap new_share (sym (place_old j less)))))

  old_after : (i j : ℕ) → i < length hands → length hands + 1 ≤ j → j < width → share_of (old_hand i) j ≡ new_share (place_at (D.places ++ U.place ∷ []) i)
  old_after i j lt above below = set_else (hand_at hands i) (length hands) j (share_of h i) (λ e. omega arith) ∙ (D.after i j lt (omega arith) below ∙ ap new_share (sym (place_old i lt)))

  new_after : (j : ℕ) → length hands + 1 ≤ j → j < width → share_of h' j ≡ new_share (place_at (D.places ++ U.place ∷ []) (length hands))
  new_after j above below = S.kept j (omega arith) ∙ (undealt_share (length hands) width h U j below ∙ ap new_share (sym place_new))

  -- one hand more
  pub dealing_more : IsDealing width (hands' ++ h' ∷ [])
  dealing_more = let l = long in record {
    places = D.places ++ U.place ∷ [];
    count = let c = D.count in let a = length-append D.places (U.place ∷ []) in omega arith;
    short = omega arith;
    number = each (λ i u. u.number ≡ i) (λ i lt. D.number i lt) (S.number ∙ is_number);
    pushed = each (λ i u. u.pushed ≡ []) (λ i lt. D.pushed i lt) (S.pushed ∙ ap (λ (u : HandValue). u.pushed) U.same);
    width_is = each (λ i u. length u.shares ≡ width) (λ i lt. length-set (hand_at hands i).shares (length hands) (share_of h i) ∙ D.width_is i lt) (S.width ∙ undealt_width (length hands) width h U);
    before = λ i j lt below. each (λ k u. share_of u j ≡ new_share (place_at (D.places ++ U.place ∷ []) j)) (λ k less. old_before k j less (omega arith)) (new_before j (omega arith)) i lt;
    after = λ i j lt above below. each (λ k u. share_of u j ≡ new_share (place_at (D.places ++ U.place ∷ []) k)) (λ k less. old_after k j less (omega arith) below) (new_after j (omega arith) below) i lt;
  }

length-new_hands : (places : List Place) (n : ℕ) → length (new_hands places n) ≡ n
length-new_hands places zero = refl
length-new_hands places (suc n) = let h = length-new_hands places n in let a = length-append (new_hands places n) (new_hand places n ∷ []) in omega arith

new_hands_at : (places : List Place) (n i : ℕ) → i < n → hand_at (new_hands places n) i ≡ new_hand places i
new_hands_at places zero i lt = absurd (omega arith)
new_hands_at places (suc n) i lt = let l = length-new_hands places n in dite (ℕ_discrete i n)
    (λ (e : i ≡ n). subst (λ (k : ℕ). hand_at (new_hands places (suc n)) k ≡ new_hand places k) (sym e) (get_or_at (new_hands places n) (new_hand places n) [] no_hand n l))
    (λ (apart : i ≢ n). get_or_append_left (new_hands places n) (new_hand places n ∷ []) no_hand i (omega arith) ∙ new_hands_at places n i (omega arith))

-- a hand is known by its parts
hand_from : (h k : HandValue) → h.number ≡ k.number → h.pushed ≡ k.pushed → h.shares ≡ k.shares → h ≡ k
hand_from h k a b c = λ i. record { number = a i; pushed = b i; shares = c i }

-- all hands are there
pub dealing_all : (width : ℕ) (hands : List HandValue) → IsDealing width hands → length hands ≡ width → IsNewPool width hands
dealing_all width hands D all = let c = D.count in record {
  places = D.places;
  count_is = D.count ∙ all;
  hands_are = let l = length-new_hands D.places width in ext_get_or no_hand hands (new_hands D.places width) (omega arith) (λ i lt.
      let w = D.width_is i lt in let m = length-map D.places new_share in
      hand_from (hand_at hands i) (new_hand D.places i) (D.number i lt) (D.pushed i lt)
      (ext_get_or no_share (hand_at hands i).shares (map new_share D.places) (omega arith) (λ j below. D.before i j lt (omega arith) ∙ sym (get_or-map new_share D.places j no_share.place no_share (omega arith))))
      ∙ sym (new_hands_at D.places width i (omega arith)));
}

-- new hands are all hands of one pool
new_numbers : (places : List Place) (n : ℕ) → map (λ (h : HandValue). h.number) (new_hands places n) ≡ first_numbers n
new_numbers places zero = refl
new_numbers places (suc n) = map-append (λ (h : HandValue). h.number) (new_hands places n) (new_hand places n ∷ []) ∙ ap (λ (l : List ℕ). l ++ n ∷ []) (new_numbers places n)

same_again : (places : List Place) → map (λ (s : ShareValue). s.place) (map new_share places) ≡ places
same_again [] = refl
same_again (p ∷ places) = ap (λ (l : List Place). p ∷ l) (same_again places)

new_places : (places : List Place) (n : ℕ) → All (λ h. places_of h ≡ places) (new_hands places n)
new_places places zero = All-nil (λ (h : HandValue). places_of h ≡ places)
new_places places (suc n) = All-push (λ (h : HandValue). places_of h ≡ places) (new_hands places n) (new_hand places n) (new_places places n) (same_again places)

pub new_is_pool : (n : ℕ) (hands : List HandValue) → IsNewPool n hands → IsPool hands
new_is_pool n hands N = subst IsPool (sym N.hands_are) (record {
  places = N.places;
  count = N.count_is ∙ sym (length-new_hands N.places n);
  numbers = new_numbers N.places n ∙ ap first_numbers (sym (length-new_hands N.places n));
  each = new_places N.places n;
})
