-- believed: What clauses see of a hand of a pool and of a note, what each call makes of them, and what the close tells.
use Rattle.std.specs.Prelude.{◌≡◌, ℕ, zero, suc, ◌+◌, ◌≤◌, max, List, [], ◌∷◌, ◌++◌, map, length, slice_set, slice_index_or}
use Rattle.std.specs.List.{All}
use Rattle.std.specs.declared.alloc.Global.{Global}
use Rattle.atomic_blocks.specs.Lent.{RowsId}
use Rattle.atomic_table.specs.Seated.{TableId}

-- f of each, added up
abbrev pub total : {X : Type 0} → (X → ℕ) → List X → ℕ
total f [] = 0
total f (x ∷ xs) = f x + total f xs

-- which deque it is, and which tally beside it
pub record Place : Type 0 where
  pub deque : RowsId × Global
  pub tally : TableId

-- What a hand has of one deque: which deque, the numbers that it took from it, how many of the deque's first pushes it
-- knows to be taken, and how many it learnt of.
pub record ShareValue : Type 0 where
  pub place : Place
  pub took : List ℕ
  pub known : ℕ
  pub learnt : ℕ

-- a hand: its number, the numbers that it pushed to its own deque, and what it has of each deque, in the order of the hands
pub record HandValue : Type 0 where
  pub number : ℕ
  pub pushed : List ℕ
  pub shares : List ShareValue

-- a note: the number of the hand that told it, the tally of that hand's deque, and how many pushes it names
pub record NoteValue : Type 0 where
  pub from : ℕ
  pub tally : TableId
  pub count : ℕ

-- stands for what a hand has of a deque that there is not
abbrev pub no_share : ShareValue
no_share = record { place = record { deque = ((0, 0), record { memory = record { seal = tt } }); tally = record { words = 0; slots = 0; views_name = 0; atom = 0; block = 0; offset = 0; slot_names = [] } }; took = []; known = 0; learnt = 0 }

abbrev pub share_in : List ShareValue → ℕ → ShareValue
share_in shares k = slice_index_or shares k no_share

-- what the hand has of the deque of hand k
abbrev pub share_of : HandValue → ℕ → ShareValue
share_of h k = share_in h.shares k

abbrev pub own_share : HandValue → ShareValue
own_share h = share_of h h.number

abbrev pub with_share : HandValue → ℕ → ShareValue → HandValue
with_share h k share = record h { shares = slice_set h.shares k share }

-- which deques the hand reaches, in the order of the hands
abbrev pub places_of : HandValue → List Place
places_of h = map (λ s. s.place) h.shares

-- the hand stays the same hand of the same pool
abbrev pub SamePlaces : HandValue → HandValue → Type 0
SamePlaces h k = (k.number ≡ h.number) × (places_of k ≡ places_of h)

-- a hand that has pushed and taken nothing
abbrev pub new_share : Place → ShareValue
new_share place = record { place = place; took = []; known = 0; learnt = 0 }

abbrev pub new_hand : List Place → ℕ → HandValue
new_hand places number = record { number = number; pushed = []; shares = map new_share places }

-- the first n hands over these deques
abbrev pub new_hands : List Place → ℕ → List HandValue
new_hands places zero = []
new_hands places (suc n) = new_hands places n ++ new_hand places n ∷ []

-- so many new hands, each with a deque of its own, which reach all deques
pub record IsNewPool (count : ℕ) (hands : List HandValue) : Type 0 where
  pub places : List Place
  pub count_is : length places ≡ count
  pub hands_are : hands ≡ new_hands places count

-- the share learnt of as many pushes, or more
abbrev pub learnt_more : ShareValue → ℕ → ShareValue
learnt_more s n = record s { learnt = max s.learnt n }

-- push: what was pushed grows by the number, and the hand has learnt of it
abbrev pub after_push : HandValue → ℕ → HandValue
after_push h n = record { number = h.number; pushed = h.pushed ++ n ∷ []; shares = slice_set h.shares h.number (learnt_more (own_share h) (length h.pushed + 1)) }

-- take: what the hand took from the deque of hand k grows by the number
abbrev pub taken_more : ShareValue → ℕ → ShareValue
taken_more s n = record s { took = s.took ++ n ∷ [] }

abbrev pub after_take : HandValue → ℕ → ℕ → HandValue
after_take h k n = with_share h k (taken_more (share_of h k) n)

-- Empty look: at a moment of the call so many takes were counted, and no more pushes. So all that the share learnt of was taken,
-- and all that it knew to be taken: it knows that so many of the first pushes were taken.
pub record IsAfterLook (s t : ShareValue) : Type 0 where
  pub taken : ℕ
  pub same : t ≡ record s { known = taken }
  pub learnt : s.learnt ≤ taken
  pub known : s.known ≤ taken

-- the hand looked at the deque of hand k
pub record HasLooked (h : HandValue) (k : ℕ) (new : HandValue) : Type 0 where
  pub share : ShareValue
  pub same : new ≡ with_share h k share
  pub look : IsAfterLook (share_of h k) share

-- the hand looked at its own deque, and knows that all that it pushed was taken
pub record KnowsAll (h new : HandValue) : Type 0 where
  pub look : HasLooked h h.number new
  pub all : length h.pushed ≤ (own_share new).known

-- tell: a note names how many the hand has pushed
abbrev pub note_of : HandValue → NoteValue
note_of h = record { from = h.number; tally = (own_share h).place.tally; count = length h.pushed }

-- learn: the hand has learnt of as many pushes as the note names, or more
abbrev pub after_learn : HandValue → NoteValue → HandValue
after_learn h note = with_share h note.from (learnt_more (share_of h note.from) note.count)

-- the numbers below n, in order
abbrev pub first_numbers : ℕ → List ℕ
first_numbers zero = []
first_numbers (suc n) = first_numbers n ++ n ∷ []

-- these are all hands of one pool, in the order of their numbers: each has its number and reaches the same deques, one a hand
pub record IsPool (hands : List HandValue) : Type 0 where
  pub places : List Place
  pub count : length places ≡ length hands
  pub numbers : map (λ h. h.number) hands ≡ first_numbers (length hands)
  pub each : All (λ h. places_of h ≡ places) hands

-- what all hands have of the deque of hand k
abbrev pub shares_at : ℕ → List HandValue → List ShareValue
shares_at k hands = map (λ h. share_of h k) hands

-- What the close tells of a deque to which these numbers were pushed, and of which all hands have these shares: what was
-- pushed is what is gone and then what was left; of each number as many are gone as hands took (weigh that number 1, and others
-- 0); what a share knows to be taken is gone, and what it learnt of was pushed.
pub record Closed (pushed : List ℕ) (shares : List ShareValue) : Type 0 where
  pub gone : List ℕ
  pub left : List ℕ
  pub flows : pushed ≡ gone ++ left
  pub counts : (weight : ℕ → ℕ) → total weight gone ≡ total (λ s. total weight s.took) shares
  pub known : All (λ s. s.known ≤ length gone) shares
  pub learnt : All (λ s. s.learnt ≤ length pushed) shares

-- what the hand took, of all deques, where each number weighs so much
abbrev pub taken_weight : (ℕ → ℕ) → HandValue → ℕ
taken_weight weight h = total (λ s. total weight s.took) h.shares

-- the hand knows that all that it pushed was taken
abbrev pub KnowsEmpty : HandValue → Type 0
KnowsEmpty h = length h.pushed ≤ (own_share h).known
