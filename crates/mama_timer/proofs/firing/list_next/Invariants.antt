use Rattle.std.proofs.Common.{◌≡◌, ℕ, ◌||◌, true, take}
use Rattle.std.specs.List.{list_any}
use Rattle.std.specs.BTreeMap.{is_at}
use Rattle.mama_event.specs.declared.ids.TimerId.{TimerId}
use Rattle.mama_timer.specs.Order.{due_cmp}
use Rattle.mama_timer.specs.Rows.{is_listed}
use Rattle.mama_timer.specs.Firing.{next_key}
use Rattle.mama_timer.proofs.firing.list_next.Given as goal

abbrev pub invariant-loop-firing : goal.invariant-loop-firing
invariant-loop-firing l = record {
  kept : (key : ℕ × TimerId) → is_listed l.initial.dues.keys key ≡ true → is_listed l.dues.keys key ≡ true;
  listed : (key : ℕ × TimerId) → is_listed l.dues.keys key ≡ (is_listed l.initial.dues.keys key || list_any (λ f. is_at (due_cmp key) (next_key f)) (take l.firing-index l.firings));
}
