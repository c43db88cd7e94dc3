-- Induction over the rounds of a run.
use Rattle.std.proofs.Common.{ℕ, zero, suc, ◌<◌, ◌≤◌, sym, subst, arith}
use Rattle.mama_event.specs.Ports.{clients_of, publishers_of, queues_of}
use Rattle.mama_rules_rounds.specs.Setting.{Setting}
use Rattle.mama_rules_rounds.specs.World.{World, bridge_turn, timers_turn, publisher_turn, queue_turn, in_turn, pass, passes, IsDrained}
use Rattle.mama_rules_rounds.specs.Stage.{Stage, client_step, publisher_step, IsStageDrained, AreSteps, IsOneRound, AreRounds}

-- what every turn keeps
pub record IsKept (setting : Setting) (P : World → Type 0) : Type 0 where
  pub bridge : (w : World) → P w → P (bridge_turn setting w)
  pub timers : (w : World) → P w → P (timers_turn setting w)
  pub publisher : (p : ℕ) (w : World) → p < publishers_of setting.shape → P w → P (publisher_turn setting p w)
  pub queue : (q : ℕ) (w : World) → q < queues_of setting.shape → P w → P (queue_turn setting q w)

in_turn_keeps : (P : World → Type 0) (turn : ℕ → World → World) (n m : ℕ) → n ≤ m → ((k : ℕ) (w : World) → k < m → P w → P (turn k w)) → (w : World) → P w → P (in_turn turn n w)
in_turn_keeps P turn zero m small each w h = h
in_turn_keeps P turn (suc n) m small each w h = each n (in_turn turn n w) (omega arith) (in_turn_keeps P turn n m (omega arith) each w h)

pass_keeps : (setting : Setting) (P : World → Type 0) → IsKept setting P → (w : World) → P w → P (pass setting w)
pass_keeps setting P kept w h =
    let after : World = timers_turn setting (bridge_turn setting w) in
    let published : World = in_turn (publisher_turn setting) (publishers_of setting.shape) after in
    in_turn_keeps P (queue_turn setting) (queues_of setting.shape) (queues_of setting.shape) (omega arith) kept.queue published
    (in_turn_keeps P (publisher_turn setting) (publishers_of setting.shape) (publishers_of setting.shape) (omega arith) kept.publisher after
    (kept.timers (bridge_turn setting w) (kept.bridge w h)))

pub passes_keep : (setting : Setting) (P : World → Type 0) → IsKept setting P → (n : ℕ) (w : World) → P w → P (passes setting n w)
passes_keep setting P kept zero w h = h
passes_keep setting P kept (suc n) w h = pass_keeps setting P kept (passes setting n w) (passes_keep setting P kept n w h)

pub drain_keeps : (setting : Setting) (P : World → Type 0) → IsKept setting P → (w drained : World) → IsDrained setting w drained → P w → P drained
drain_keeps setting P kept w drained is h = subst P (sym is.after) (passes_keep setting P kept is.count w h)

-- what every step keeps, if the drain that follows is taken with it
pub record IsKeptByRounds (setting : Setting) (P : Stage → Type 0) : Type 0 where
  pub client : (c : ℕ) (s after : Stage) → c < clients_of setting.shape → P s → IsStageDrained setting (client_step setting c s) after → P after
  pub publisher : (p : ℕ) (s after : Stage) → p < publishers_of setting.shape → P s → IsStageDrained setting (publisher_step setting p s) after → P after

steps_keep : (setting : Setting) (P : Stage → Type 0) (step : ℕ → Stage → Stage) (n m : ℕ) → n ≤ m
    → ((k : ℕ) (s after : Stage) → k < m → P s → IsStageDrained setting (step k s) after → P after) → (s after : Stage) → AreSteps setting step n s after → P s → P after
steps_keep setting P step zero m small each s after is h = subst P (sym is) h
steps_keep setting P step (suc n) m small each s after is h =
    each n is.0 after (omega arith) (steps_keep setting P step n m (omega arith) each s is.0 is.1 h) is.2

round_keeps : (setting : Setting) (P : Stage → Type 0) → IsKeptByRounds setting P → (s after : Stage) → IsOneRound setting s after → P s → P after
round_keeps setting P kept s after is h =
    steps_keep setting P (publisher_step setting) (publishers_of setting.shape) (publishers_of setting.shape) (omega arith) kept.publisher is.mid after is.publishers
    (steps_keep setting P (client_step setting) (clients_of setting.shape) (clients_of setting.shape) (omega arith) kept.client s is.mid is.clients h)

pub rounds_keep : (setting : Setting) (P : Stage → Type 0) → IsKeptByRounds setting P → (n : ℕ) (s after : Stage) → AreRounds setting n s after → P s → P after
rounds_keep setting P kept zero s after is h = subst P (sym is) h
rounds_keep setting P kept (suc n) s after is h = round_keeps setting P kept is.0 after is.2 (rounds_keep setting P kept n s is.0 is.1 h)
