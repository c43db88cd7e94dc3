-- believed: The passes: which steps a recorded run lets its actors make, and where they stop.
use Rattle.std.specs.Prelude.{◌≡◌, ℕ, zero, suc, nat_lt, List, [], ◌∷◌, ◌++◌, length, map, slice_get, slice_index_or, if◌then◌else◌, Option, None, Some, option_map}
use Rattle.mama_journal.specs.Journal.{numbers_below, first_said}
use Rattle.mama_journal.specs.Lane.{by_port}
use Rattle.mama_event.specs.declared.shape.Shape.{Shape}
use Rattle.mama_event.specs.declared.publisher_entry.PublisherEntry.{PublisherEntry}
use Rattle.mama_event.specs.declared.publisher_entry.PublisherEntry.TheVariants.{Send, Done, Took}
use Rattle.mama_event.specs.declared.to_publisher.PublisherNote.{PublisherNote}
use Rattle.mama_event.specs.Ports.{clients_of, publishers_of, queues_of}
use Rattle.mama_script.specs.Script.{ScriptData}
use Rattle.mama_record.specs.RunData.{RunData}
use Rattle.mama_rules_rounds.specs.Setting.{Setting}
use Rattle.mama_rules_rounds.specs.Stage.{Stage}
use Rattle.mama_rules_rounds.specs.Sections.{setting_of}
use Rattle.mama_check.specs.declared.verdict.Actor.{Actor}
use Rattle.mama_check.specs.declared.verdict.Actor.TheVariants as actor
use Rattle.mama_replay.specs.declared.step.Step.{Step}
use Rattle.mama_replay.specs.Followed.{at_start, after_steps}

-- THE NEXT STEP of an actor, if it can be made: none or one

-- a step without a port, and one with a port
abbrev pub by_itself : Actor → Step
by_itself who = record { actor = who; port = None }

abbrev pub by_port_of : Actor → ℕ → Step
by_port_of who port = record { actor = who; port = Some port }

-- a step is made where something is there for it
abbrev pub where_there : {V : Type 0} → List V → Step → List Step
where_there [] step = []
where_there (v ∷ vs) step = step ∷ []

-- an entry of a publisher's journal: what it sends, and that it is done, always; what it takes, where something waits
abbrev pub publisher_entry : ℕ → List PublisherNote → Option PublisherEntry → List Step
publisher_entry p lane None = []
publisher_entry p lane (Some Send) = by_itself (actor.Publisher p) ∷ []
publisher_entry p lane (Some Done) = by_itself (actor.Publisher p) ∷ []
publisher_entry p lane (Some (Took note)) = where_there lane (by_port_of (actor.Publisher p) 0)

-- an entry that takes by a port, where something waits on that edge
abbrev pub taking_entry : {V : Type 0} → Actor → List (ℕ × V) → Option (ℕ × V) → List Step
taking_entry who lane None = []
taking_entry who lane (Some e) = where_there (by_port e.0 lane) (by_port_of who e.0)

-- the entry of a recorded journal that comes next where some were made
abbrev pub next_of : {E : Type 0} → List E → List E → Option E
next_of recorded made = slice_get recorded (length made)

-- a client makes its next line always
abbrev pub next_step : RunData → Stage → Actor → List Step
next_step run s (actor.Client c) = where_there (slice_index_or s.clients c []) (by_itself (actor.Client c))
next_step run s (actor.Publisher p) =
    publisher_entry p (slice_index_or s.world.to_publishers p []) (next_of (slice_index_or run.publishers p []) (slice_index_or s.world.publishers p []))
next_step run s actor.Bridge = taking_entry actor.Bridge s.world.to_bridge (next_of run.bridge s.world.bridge)
next_step run s actor.Timers = taking_entry actor.Timers s.world.to_timers (next_of run.timers s.world.timers)
next_step run s (actor.Queue q) =
    taking_entry (actor.Queue q) (slice_index_or s.world.to_queues q []) (next_of (slice_index_or run.queues q []) (slice_index_or s.world.queues q []))
next_step run s (actor.Object o) = []
next_step run s (actor.Group g) = []
next_step run s (actor.Watch g) = []

-- PASSES

-- clients, publishers, the bridge, the timer service, queues, each ascending
abbrev pub in_order : Shape → List Actor
in_order shape =
    map (λ c. actor.Client c) (numbers_below (clients_of shape)) ++ map (λ p. actor.Publisher p) (numbers_below (publishers_of shape))
    ++ actor.Bridge ∷ actor.Timers ∷ map (λ q. actor.Queue q) (numbers_below (queues_of shape))

-- the steps that some actors make one after another, each its next one, if it can
abbrev pub steps_by : Setting → RunData → Stage → List Actor → List Step
steps_by setting run s [] = []
steps_by setting run s (who ∷ others) = next_step run s who ++ steps_by setting run (after_steps setting s (next_step run s who)) others

-- the steps of one pass
abbrev pub pass : Setting → RunData → Stage → List Step
pass setting run s = steps_by setting run s (in_order setting.shape)

-- the steps of so many passes
abbrev pub passes : Setting → RunData → ℕ → Stage → List Step
passes setting run zero s = []
passes setting run (suc n) s = pass setting run s ++ passes setting run n (after_steps setting s (pass setting run s))

-- The steps are those of some passes, and a pass after them makes none.
pub record ArePassSteps (script : ScriptData) (run : RunData) (steps : List Step) : Type 0 where
  pub count : ℕ
  pub made : steps ≡ passes (setting_of script) run count (at_start script run.clients)
  pub ended : pass (setting_of script) run (after_steps (setting_of script) (at_start script run.clients) steps) ≡ []

-- WHERE THE PASSES STOP

-- the number from 1 of the first entry of a recorded journal that was not made
abbrev pub first_left : {E : Type 0} → List E → List E → Option ℕ
first_left recorded made = if nat_lt (length made) (length recorded) then Some (suc (length made)) else None

-- who has an entry left, and which; a client never waits, and takes nothing
abbrev pub left_by : RunData → Stage → Actor → Option (Actor × ℕ)
left_by run s (actor.Client c) = None
left_by run s (actor.Publisher p) = option_map (λ n. (actor.Publisher p, n)) (first_left (slice_index_or run.publishers p []) (slice_index_or s.world.publishers p []))
left_by run s actor.Bridge = option_map (λ n. (actor.Bridge, n)) (first_left run.bridge s.world.bridge)
left_by run s actor.Timers = option_map (λ n. (actor.Timers, n)) (first_left run.timers s.world.timers)
left_by run s (actor.Queue q) = option_map (λ n. (actor.Queue q, n)) (first_left (slice_index_or run.queues q []) (slice_index_or s.world.queues q []))
left_by run s (actor.Object o) = None
left_by run s (actor.Group g) = None
left_by run s (actor.Watch g) = None

-- After the steps of the passes, this actor is the first in their order that has an entry left, and this is the entry's number.
pub record IsStuck (script : ScriptData) (run : RunData) (who : Actor) (entry : ℕ) : Type 0 where
  pub steps : List Step
  pub made : ArePassSteps script run steps
  pub first : first_said (left_by run (after_steps (setting_of script) (at_start script run.clients) steps)) (in_order script.shape) ≡ Some (who, entry)
