-- believed: what clauses see of a board, of what it tells and of a reader, and what each call makes of them.
use Rattle.std.specs.Prelude.{◌≡◌, ℕ, ◌≤◌, Bool, true, false, not, ◌&&◌, ◌||◌, nat_le, max, List, [], ◌∷◌, ◌++◌, length, if◌then◌else◌}
use mathlib.Core.List.{IsPrefix}
use Rattle.mama_board.specs.declared.image_set.ImageSet.{ImageSet}

-- A board: its queue, the sets that readers can see, in order, the sets that were refused and wait to be shown, and
-- whether it is sealed.
pub record BoardValue : Type 0 where
  pub queue : ℕ
  pub sets : List ImageSet
  pub waiting : List ImageSet
  pub sealed : Bool

-- what a board told: its queue, the sets that readers could see then, in order, and whether no set follows
pub record ToldValue : Type 0 where
  pub queue : ℕ
  pub sets : List ImageSet
  pub last : Bool

-- A reader: its queue, the sets that it has seen, in order, whether it learnt of the seal, and the number of sets below
-- which no look answers. That sets of which it was not told are the board's own is kept by the rule of the board (`IsKept`),
-- and nothing here says it.
pub record ReaderValue : Type 0 where
  pub queue : ℕ
  pub seen : List ImageSet
  pub sealed : Bool
  pub least : ℕ

-- a board with no sets
abbrev pub new_board : ℕ → BoardValue
new_board queue = record { queue = queue; sets = []; waiting = []; sealed = false }

-- a reader that has seen no set
abbrev pub new_reader : ℕ → ReaderValue
new_reader queue = record { queue = queue; seen = []; sealed = false; least = 0 }

-- a set was shown, and before it those that waited
abbrev pub after_image : BoardValue → ImageSet → BoardValue
after_image b set = record b { sets = (b.sets ++ b.waiting) ++ set ∷ []; waiting = [] }

-- a set was refused, and waits
abbrev pub with_waiting : BoardValue → ImageSet → BoardValue
with_waiting b set = record b { waiting = b.waiting ++ set ∷ [] }

-- the sets that waited were shown, and no set follows
abbrev pub after_sealing : BoardValue → BoardValue
after_sealing b = record b { sets = b.sets ++ b.waiting; waiting = []; sealed = true }

-- what a board tells
abbrev pub told_by : BoardValue → ToldValue
told_by b = record { queue = b.queue; sets = b.sets; last = b.sealed }

-- a reader goes on from what it is told: these are all sets, or no fewer than it has seen and learnt of
abbrev pub goes_on : ReaderValue → ToldValue → Bool
goes_on r told = told.last || (not r.sealed && nat_le r.least (length told.sets))

-- the reader after it learnt what a board told
abbrev pub after_learn : ReaderValue → ToldValue → ReaderValue
after_learn r told = record {
  queue = r.queue;
  seen = if goes_on r told then told.sets else r.seen;
  sealed = r.sealed || told.last;
  least = max r.least (length told.sets);
}

-- the reader after a look: it has seen what it had seen, and maybe more; all sets where it learnt of the seal; no fewer
-- than it had learnt of; and no later look answers of fewer
pub record HasLooked (old new : ReaderValue) : Type 0 where
  pub queue : new.queue ≡ old.queue
  pub sealed : new.sealed ≡ old.sealed
  pub onward : IsPrefix old.seen new.seen
  pub at_seal : old.sealed ≡ true → new.seen ≡ old.seen
  pub least : old.least ≤ length new.seen
  pub known : new.least ≡ length new.seen
