use Rattle.std.proofs.Common.{◌≡◌, ◌++◌, take}
use Rattle.mama_plain.specs.Replayed.{steps_text}
use Rattle.mama_plain.proofs.steps.put_steps.Given as goal

abbrev pub invariant-loop-step : goal.invariant-loop-step
invariant-loop-step l = l.out.items ≡ l.fn.out.items ++ steps_text l.shape (take l.step-index l.steps)
