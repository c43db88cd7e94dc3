-- inner: Where a run stands that is under way: what of its rounds was done.
use Rattle.std.specs.Prelude.{◌≡◌, true, ℕ, ◌+◌, ◌<◌, ◌≤◌, List, length, Option}
use Rattle.mama_event.specs.Ports.{clients_of, publishers_of}
use Rattle.mama_rules_rounds.specs.Stage.{client_step, publisher_step}
use Rattle.mama_seats.specs.Moments.{Answered}
use Rattle.mama_drive.specs.declared.turn.Turn.{Turn}
use Rattle.mama_drive.specs.declared.place.Place.{Place}
use Rattle.mama_drive.specs.declared.place.Place.TheVariants as place
use Rattle.mama_drive.specs.declared.recording.Parts.{Parts}
use Rattle.mama_drive.specs.Scene.{Scene, Advances, Stepped, SteppedAll, Plays, IsPlayed, AreMoments, world_in}
use Rattle.mama_drive.specs.Heard.{Hears, StepsRead, HearsRounds, left_behind}
use Rattle.mama_drive.specs.Grown.{HaveGrown}
use Rattle.mama_drive.specs.Turns.{IsDraining}
use Rattle.mama_drive.specs.Parts.{ArePartsOf}

-- Whole rounds were made, and the clock answered what they read: it told this before the first of them, and this is left.
pub record AreMade (first : Scene) (told left : Option (List ℕ)) (s : Scene) : Type 0 where
  pub plays : Plays first s
  pub heard : HearsRounds told left first.clients s.clients

-- Of a round, the clients that are numbered below n made their steps, and everything was drained after each.
pub record ClientsDid (n : ℕ) (told left : Option (List ℕ)) (round s : Scene) : Type 0 where
  pub within : n ≤ clients_of round.shape
  pub steps : Advances (SteppedAll client_step n) round s
  pub heard : Hears (StepsRead n) told left round.clients s.clients

-- Of a round, the clients below the one before n did, and that one made its step; what follows from it is being drained.
pub record ClientDoes (n : ℕ) (t : Turn) (told left : Option (List ℕ)) (round s : Scene) : Type 0 where
  pub number : ℕ
  pub is : n ≡ number + 1
  pub within : number < clients_of round.shape
  pub before : Scene
  pub stepped : Scene
  pub steps : Advances (SteppedAll client_step number) round before
  pub step : Advances (Stepped client_step number) before stepped
  pub drains : IsDraining stepped t s
  pub heard : Hears (StepsRead n) told left round.clients s.clients

-- Of a round, all clients made their steps.
pub record AllClientsDid (told left : Option (List ℕ)) (round s : Scene) : Type 0 where
  pub steps : Advances (SteppedAll client_step (clients_of round.shape)) round s
  pub heard : Hears (StepsRead (length round.clients)) told left round.clients s.clients

-- After the clients of a round, the publishers that are numbered below n made their steps.
pub record PublishersDid (n : ℕ) (mid s : Scene) : Type 0 where
  pub within : n ≤ publishers_of mid.shape
  pub steps : Advances (SteppedAll publisher_step n) mid s
  pub clients : s.clients ≡ mid.clients

-- After the clients, the publishers below the one before n did, and that one made its step.
pub record PublisherDoes (n : ℕ) (t : Turn) (mid s : Scene) : Type 0 where
  pub number : ℕ
  pub is : n ≡ number + 1
  pub within : number < publishers_of mid.shape
  pub before : Scene
  pub stepped : Scene
  pub steps : Advances (SteppedAll publisher_step number) mid before
  pub step : Advances (Stepped publisher_step number) before stepped
  pub drains : IsDraining stepped t s
  pub clients : s.clients ≡ mid.clients

-- A round was begun after whole rounds, and so much of it was done.
pub record IsWithin (D : Option (List ℕ) → Option (List ℕ) → Scene → Scene → Type 0) (first : Scene) (told left : Option (List ℕ)) (s : Scene) : Type 0 where
  pub round : Scene
  pub then_left : Option (List ℕ)
  pub made : AreMade first told then_left round
  pub did : D then_left left round s

-- The same where all clients made their steps.
pub record IsBehind (P : Scene → Scene → Type 0) (told left : Option (List ℕ)) (round s : Scene) : Type 0 where
  pub mid : Scene
  pub clients : AllClientsDid told left round mid
  pub did : P mid s

-- a run stands at this place
abbrev pub StandsAt : Scene → Option (List ℕ) → Option (List ℕ) → Place → Scene → Type 0
StandsAt first told left place.Rounds s = AreMade first told left s
StandsAt first told left (place.Client n) s = IsWithin (ClientsDid n) first told left s
StandsAt first told left (place.AfterClient n t) s = IsWithin (ClientDoes n t) first told left s
StandsAt first told left (place.Publisher n) s = IsWithin (IsBehind (PublishersDid n)) first told left s
StandsAt first told left (place.AfterPublisher n t) s = IsWithin (IsBehind (PublisherDoes n t)) first told left s

-- A run goes on from one place to another: from wherever it came to the one, it came to the other; and what was done
-- stays done.
pub record GoesTo (told left : Option (List ℕ)) (at : Place) (s : Scene) (next : Place) (after : Scene) : Type 0 where
  pub on : (first : Scene) (from : Option (List ℕ)) → StandsAt first from told at s → StandsAt first from left next after
  pub moments : (moments : List (List ℕ)) → AreMoments moments after.clients → AreMoments moments s.clients
  pub grown : HaveGrown (world_in s) (world_in after)

-- The same where the clock answered what was read in between. It goes so for each clock that would have answered that.
pub record GoesHearing (told left : Option (List ℕ)) (at : Place) (s : Scene) (next : Place) (after : Scene) : Type 0 where
  pub heard : List ℕ
  pub answered : Answered told left heard
  pub goes : (o : Option (List ℕ)) → Answered o (left_behind heard o) heard → GoesTo o (left_behind heard o) at s next after

-- a run at its end, with the parts of its record
pub record IsEnd (s : Scene) (at : Place) (parts : Parts) : Type 0 where
  pub rounds : at ≡ place.Rounds
  pub played : IsPlayed s
  pub parts_are : ArePartsOf s parts
  pub ready : s.ready ≡ true
