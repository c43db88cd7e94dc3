use Rattle.std.proofs.Common.{◌≡◌, ◌++◌, map, drop}
use Rattle.mama_replay.specs.Needs.{needs_from, step_needs}
use Rattle.mama_replay.proofs.needs.needs_of_steps.Given as goal

-- what is told so far and what is left is all
abbrev pub invariant-loop-actor : goal.invariant-loop-actor
invariant-loop-actor l = map (λ actor. actor.items) l.all.items ++ needs_from l.clients l.actor (drop l.actor (map (λ actor. actor.items) l.needs)) ≡ step_needs l.clients (map (λ actor. actor.items) l.needs)
