-- believed: Whether the entries of several actors can be put into one order.
use Rattle.std.specs.Prelude.{◌≡◌, ℕ, ◌<◌, ◌==◌, List, [], ◌∷◌, ◌++◌, length, slice_get, slice_index_or, Option, None, Some, ⊤}
use Rattle.mama_journal.specs.Journal.{count_of}
use Rattle.mama_check_order.specs.declared.order.Need.{Need}

-- how many entries of an actor have had their turn, where turns names the actor of each turn
abbrev pub turns_of : ℕ → List ℕ → ℕ
turns_of actor turns = count_of (λ a. a == actor) turns

-- an entry that needs nothing may come at once, and another after the entry that it needs
abbrev pub IsMet : List ℕ → Option Need → Type 0
IsMet before None = ⊤
IsMet before (Some need) = need.entry < turns_of need.actor before

-- the next entry of an actor is there, and may come
abbrev pub MayCome : List ℕ → Option (Option Need) → Type 0
MayCome before None = ⊥
MayCome before (Some need) = IsMet before need

abbrev pub MayTakeTurn : List (List (Option Need)) → List ℕ → ℕ → Type 0
MayTakeTurn needs before actor = MayCome before (slice_get (slice_index_or needs actor []) (turns_of actor before))

-- turns that follow others, each of which may be taken: an actor's entries come in their own order, and each after the
-- entry that it needs
abbrev pub MayFollow : List (List (Option Need)) → List ℕ → List ℕ → Type 0
MayFollow needs before [] = ⊤
MayFollow needs before (actor ∷ turns) = MayTakeTurn needs before actor × MayFollow needs (before ++ actor ∷ []) turns

-- One order of all entries: each turn may be taken, and in the end all entries have had theirs.
pub record HasOrder (needs : List (List (Option Need))) : Type 0 where
  pub turns : List ℕ
  pub follow : MayFollow needs [] turns
  pub all : (actor : ℕ) → turns_of actor turns ≡ length (slice_index_or needs actor [])
