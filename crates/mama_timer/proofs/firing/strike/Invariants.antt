use Rattle.std.proofs.Common.{◌≡◌, ℕ, true}
use Rattle.mama_event.specs.declared.ids.TimerId.{TimerId}
use Rattle.mama_timer.specs.Rows.{row_of, is_listed}
use Rattle.mama_timer.specs.Firing.{is_due_at}
use Rattle.mama_timer.proofs.firing.strike.Given as goal

abbrev pub invariant-loop-key : goal.invariant-loop-key
invariant-loop-key l = (key : ℕ × TimerId) → is_due_at key.0 (row_of l.timers.entries key.1) ≡ true → is_listed l.initial.dues.keys key ≡ true → is_listed l.dues.keys key ≡ true
