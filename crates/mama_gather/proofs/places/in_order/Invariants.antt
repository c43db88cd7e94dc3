use Rattle.std.proofs.Common.{◌≡◌, List, ◌++◌, map, Some}
use Rattle.mama_event.specs.declared.ids.ObjectId.{ObjectId}
use Rattle.mama_gather.proofs.places.in_order.Given as goal

abbrev pub invariant-loop-value : goal.invariant-loop-value
invariant-loop-value g l = record {
  objects : (rest : List ObjectId) × (map (λ v. v.0) l.values.items ++ rest ≡ map (λ p. p.object) l.objects);
  values : map (λ v. Some v.1) l.values.items ≡ l.yielded;
}
