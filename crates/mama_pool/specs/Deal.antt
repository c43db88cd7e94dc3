-- inner: What hands have while the shares in their deques are dealt out among them, and while they are taken in.
use Rattle.std.specs.Prelude.{◌≡◌, ℕ, ◌<◌, ◌≤◌, List, [], length, slice_index_or}
use lib.ListN.{replicate}
use Rattle.mama_pool.specs.Values.{Place, HandValue, no_share, share_of, with_share, new_share}

-- stands for a hand that there is not
abbrev pub no_hand : HandValue
no_hand = record { number = 0; pushed = []; shares = [] }

abbrev pub hand_at : List HandValue → ℕ → HandValue
hand_at hands i = slice_index_or hands i no_hand

abbrev pub place_at : List Place → ℕ → Place
place_at places i = slice_index_or places i no_share.place

-- the hands stand in the order of their numbers, and each has so many shares
pub record AreNumbered (width : ℕ) (hands : List HandValue) : Type 0 where
  pub number : (i : ℕ) → i < length hands → (hand_at hands i).number ≡ i
  pub width_is : (i : ℕ) → i < length hands → length (hand_at hands i).shares ≡ width

-- the first hands, so many, and the hand h gave each other what each had of the other's deque
pub record IsDealt (done : ℕ) (hands hands' : List HandValue) (h h' : HandValue) : Type 0 where
  pub count : length hands' ≡ length hands
  pub number : h'.number ≡ h.number
  pub pushed : h'.pushed ≡ h.pushed
  pub width : length h'.shares ≡ length h.shares
  pub gave : (i : ℕ) → i < done → hand_at hands' i ≡ with_share (hand_at hands i) h.number (share_of h i)
  pub rest : (i : ℕ) → done ≤ i → hand_at hands' i ≡ hand_at hands i
  pub got : (i : ℕ) → i < done → share_of h' i ≡ share_of (hand_at hands i) h.number
  pub kept : (i : ℕ) → done ≤ i → share_of h' i ≡ share_of h i

-- a new hand that has all shares in its own deque
pub record IsUndealt (number width : ℕ) (h : HandValue) : Type 0 where
  pub place : Place
  pub same : h ≡ record { number = number; pushed = []; shares = replicate width (new_share place) }

-- new hands, among which the shares in their deques are dealt out; each has the other shares in its own deque still
pub record IsDealing (width : ℕ) (hands : List HandValue) : Type 0 where
  pub places : List Place
  pub count : length places ≡ length hands
  pub short : length hands ≤ width
  pub number : (i : ℕ) → i < length hands → (hand_at hands i).number ≡ i
  pub pushed : (i : ℕ) → i < length hands → (hand_at hands i).pushed ≡ []
  pub width_is : (i : ℕ) → i < length hands → length (hand_at hands i).shares ≡ width
  pub before : (i j : ℕ) → i < length hands → j < length hands → share_of (hand_at hands i) j ≡ new_share (place_at places j)
  pub after : (i j : ℕ) → i < length hands → length hands ≤ j → j < width → share_of (hand_at hands i) j ≡ new_share (place_at places i)

-- The first of these hands, while the others are taken in: in place of its shares in their deques each has their shares in its own.
pub record IsPart (hands now : List HandValue) : Type 0 where
  pub short : length now ≤ length hands
  pub number : (i : ℕ) → i < length now → (hand_at now i).number ≡ i
  pub pushed : (i : ℕ) → i < length now → (hand_at now i).pushed ≡ (hand_at hands i).pushed
  pub width_is : (i : ℕ) → i < length now → length (hand_at now i).shares ≡ length hands
  pub before : (i j : ℕ) → i < length now → j < length now → share_of (hand_at now i) j ≡ share_of (hand_at hands i) j
  pub after : (i j : ℕ) → i < length now → length now ≤ j → j < length hands → share_of (hand_at now i) j ≡ share_of (hand_at hands j) i
