use Rattle.std.proofs.Common.{◌≡◌, take}
use Rattle.std.specs.Prelude.{sum_by}
use Rattle.mama_record.specs.RunView.{calls_in}
use Rattle.mama_soak.specs.Soak.{notices_in}
use Rattle.mama_soak.proofs.counts.notices.Given as goal

abbrev pub invariant-loop-object : goal.invariant-loop-object
invariant-loop-object l = l.count ≡ sum_by (λ c. notices_in (calls_in c)) (take l.object-index l.objects)
