use Rattle.std.specs.List.{AllByRecursion}
use Rattle.std.proofs.Common.{◌≡◌, None, length}
use Rattle.mama_grouped.proofs.heard.no_listeners.Given as goal

abbrev pub invariant-loop-place : goal.invariant-loop-place
invariant-loop-place g l = record {
  none : AllByRecursion (λ o. o ≡ None) l.listeners.items;
  long : length l.listeners.items ≡ l._place;
}
