-- believed: What a client has named so far, and how it does a line.
use Rattle.std.specs.Prelude.{◌≡◌, ℕ, false, List, [], ◌∷◌}
use Rattle.mama_script.specs.declared.client.ClientLine.{ClientLine}
use Rattle.mama_script.specs.declared.client.ClientLine.TheVariants as line
use Rattle.mama_rules_queue.specs.Queue.{QueuePut}
use Rattle.mama_rules_rounds.specs.Client.{Standing, line_steps, after_line, reads_clock}
use Rattle.mama_plans.specs.declared.names.Names.{Names}
use Rattle.mama_plans.specs.declared.names.Doing.{Doing}
use Rattle.mama_plans.specs.declared.names.Doing.TheVariants.{Puts, Pauses, ReadsClock}
use Rattle.mama_plans.specs.Put.{note_of}

abbrev pub standing_of : Names → List ℕ → Standing
standing_of n moments = record { subs = n.subs; timers = n.timers; inboxes = n.inboxes; turns = n.turns; moments = moments }

-- The line reads no clock and takes one step, which puts this event; whatever the clock tells later, the client stands then as its names do.
pub record DoesLine (queues number : ℕ) (old new : Names) (l : ClientLine) (put : QueuePut) : Type 0 where
  pub step : (moments : List ℕ) → line_steps queues number (standing_of old moments) l ≡ (put ∷ []) ∷ []
  pub after : (moments : List ℕ) → after_line (standing_of old moments) l ≡ standing_of new moments
  pub silent : reads_clock l ≡ false

-- This is what the line does.
abbrev pub Does : ℕ → ℕ → Names → ClientLine → Doing → Type 0
Does queues number names l (Puts put after) = DoesLine queues number names after l (note_of put)
Does queues number names l (Pauses steps) = l ≡ line.Pause steps
Does queues number names l ReadsClock = l ≡ line.NowClock
