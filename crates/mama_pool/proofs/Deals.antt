-- Hands give each other what each has of the other's deque.
use Rattle.std.proofs.Common.{◌≡◌, ◌≢◌, ℕ, ◌+◌, ◌<◌, List, length, get_or, set, refl, sym, ap, ◌∙◌, subst, arith}
use Rattle.std.proofs.lemmas.List.{get_or-set_same, get_or-set_other, length-set, get_or_default}
use mathlib.Core.Logic.{dite}
use native.Mathlib.Decide.{ℕ_discrete}
use Rattle.mama_pool.specs.Values.{HandValue, ShareValue, no_share, share_of, with_share}
use Rattle.mama_pool.specs.Deal.{no_hand, hand_at, AreNumbered, IsDealt}

-- the share that was set, and the others
pub set_here : (h : HandValue) (k : ℕ) (s : ShareValue) → k < length h.shares → share_of (with_share h k s) k ≡ s
set_here h k s room = get_or-set_same h.shares k s no_share room

pub set_else : (h : HandValue) (k j : ℕ) (s : ShareValue) → j ≢ k → share_of (with_share h k s) j ≡ share_of h j
set_else h k j s apart = get_or-set_other h.shares k j s no_share apart

pub deal_none : (hands : List HandValue) (h : HandValue) → IsDealt 0 hands hands h h
deal_none hands h = record {
  count = refl;
  number = refl;
  pushed = refl;
  width = refl;
  gave = λ i lt. absurd (omega arith);
  rest = λ i le. refl;
  got = λ i lt. absurd (omega arith);
  kept = λ i le. refl;
}

deal_next : (i : ℕ) (hands hands' : List HandValue) (h h' : HandValue) → IsDealt i hands hands' h h' → i < length hands → i < length h.shares
    → IsDealt (i + 1) hands (set hands' i (with_share (hand_at hands i) h.number (share_of h i))) h (with_share h' i (share_of (hand_at hands i) h.number))
deal_next i hands hands' h h' D here room =
    let w : HandValue = with_share (hand_at hands i) h.number (share_of h i) in
    let s : ShareValue = share_of (hand_at hands i) h.number in
    let count = D.count in let width = D.width in record {
      count = length-set hands' i w ∙ D.count;
      number = D.number;
      pushed = D.pushed;
      width = length-set h'.shares i s ∙ D.width;
      gave = λ j lt. dite (ℕ_discrete j i)
          (λ (e : j ≡ i). subst (λ (k : ℕ). hand_at (set hands' i w) k ≡ with_share (hand_at hands k) h.number (share_of h k)) (sym e) (get_or-set_same hands' i w no_hand (omega arith)))
          (λ (apart : j ≢ i). get_or-set_other hands' i j w no_hand apart ∙ D.gave j (omega arith));
      rest = λ j le. get_or-set_other hands' i j w no_hand (λ e. omega arith) ∙ D.rest j (omega arith);
      got = λ j lt. dite (ℕ_discrete j i)
          (λ (e : j ≡ i). subst (λ (k : ℕ). share_of (with_share h' i s) k ≡ share_of (hand_at hands k) h.number) (sym e) (set_here h' i s (omega arith)))
          (λ (apart : j ≢ i). set_else h' i j s apart ∙ D.got j (omega arith));
      kept = λ j le. set_else h' i j s (λ e. omega arith) ∙ D.kept j (omega arith);
    }

-- one more of the hands and the hand exchange
pub deal_more : (i : ℕ) (hands hands' : List HandValue) (h h' x x' h'' : HandValue) → IsDealt i hands hands' h h' → AreNumbered (length h.shares) hands → i < length hands → i < length h.shares → x ≡ get_or hands' i x
    → x' ≡ with_share x h'.number (share_of h' x.number) → h'' ≡ with_share h' x.number (share_of x h'.number) → IsDealt (i + 1) hands (set hands' i x') h h''
deal_more i hands hands' h h' x x' h'' D N here room read gave got =
    let count = D.count in
    let is : x ≡ hand_at hands i = read ∙ (get_or_default hands' i x no_hand (omega arith) ∙ D.rest i (omega arith)) in
    let number : x.number ≡ i = ap (λ (u : HandValue). u.number) is ∙ N.number i here in
    let share : share_of h' x.number ≡ share_of h i = ap (share_of h') number ∙ D.kept i (omega arith) in
    let a : x' ≡ with_share (hand_at hands i) h.number (share_of h i) = gave ∙ (λ k. with_share (is k) (D.number k) (share k)) in
    let b : h'' ≡ with_share h' i (share_of (hand_at hands i) h.number) = got ∙ (λ k. with_share h' (number k) (share_of (is k) (D.number k))) in
    subst (λ (u : HandValue). IsDealt (i + 1) hands (set hands' i u) h h'') (sym a)
    (subst (λ (u : HandValue). IsDealt (i + 1) hands (set hands' i (with_share (hand_at hands i) h.number (share_of h i))) h u) (sym b) (deal_next i hands hands' h h' D here room))

-- a hand that has not exchanged yet
pub deal_read : (i width : ℕ) (hands hands' : List HandValue) (h h' x : HandValue) → IsDealt i hands hands' h h' → AreNumbered width hands → i < length hands → x ≡ get_or hands' i x → (x.number ≡ i) × (length x.shares ≡ width)
deal_read i width hands hands' h h' x D N here read =
    let count = D.count in
    let is : x ≡ hand_at hands i = read ∙ (get_or_default hands' i x no_hand (omega arith) ∙ D.rest i (omega arith)) in
    (ap (λ (u : HandValue). u.number) is ∙ N.number i here, ap (λ (u : HandValue). length u.shares) is ∙ N.width_is i here)
