use Rattle.std.proofs.Common.{◌≡◌, map, take}
use Rattle.std.specs.List.{All}
use Rattle.mama_log_read.specs.Section.{HasPlainHead}
use Rattle.mama_log_read.specs.declared.section.Section.TheVariants.{Object}
use Rattle.mama_log_read.proofs.section.objects_in.Given as goal

abbrev pub invariant-loop-planned : goal.invariant-loop-planned
invariant-loop-planned l = record {
  named : l.objects.items ≡ map (λ p. p.object) (take l.planned-index l.planned-items);
  plain : All (λ o. HasPlainHead (Object o)) l.objects.items;
}
