use Rattle.std.proofs.Common.{◌≡◌, take}
use Rattle.std.specs.Prelude.{count_by, sum_by}
use Rattle.mama_event.specs.Publisher.{is_send}
use Rattle.mama_soak.proofs.counts.sends.Given as goal

abbrev pub invariant-loop-journal : goal.invariant-loop-journal
invariant-loop-journal l = l.count ≡ sum_by (λ j. count_by is_send j.items) (take l.journal-index l.journals)
