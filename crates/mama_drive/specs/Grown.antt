-- inner: What was done in a run stays done: the journals grow at their ends.
use Rattle.std.specs.Prelude.{◌≡◌, List, [], ◌∷◌, ◌++◌, map}
use Rattle.mama_rules_rounds.specs.World.{World}
use Rattle.mama_drive.specs.Scene.{Scene, world_in, AreMoments}
use Rattle.mama_drive.specs.Record.{read_in}

-- a list begins with another
abbrev pub Begins : {V : Type 0} → List V → List V → Type 0
Begins {V} front whole = (rest : List V) × (front ++ rest ≡ whole)

-- there are as many lists, and each begins with that in its place
abbrev pub AllBegin : {V : Type 0} → List (List V) → List (List V) → Type 0
AllBegin [] [] = Unit {0}
AllBegin [] (y ∷ ys) = ⊥
AllBegin (x ∷ xs) [] = ⊥
AllBegin (x ∷ xs) (y ∷ ys) = Begins x y × AllBegin xs ys

-- each journal begins with what it was
pub record HaveGrown (old new : World) : Type 0 where
  pub publishers : AllBegin old.publishers new.publishers
  pub bridge : Begins old.bridge new.bridge
  pub timers : Begins old.timers new.timers
  pub queues : AllBegin old.queues new.queues

-- the same of a run; and what each client has read begins with what it had read
pub record HasGrown (old new : Scene) : Type 0 where
  pub moments : AreMoments (map read_in new.clients) old.clients
  pub journals : HaveGrown (world_in old) (world_in new)
