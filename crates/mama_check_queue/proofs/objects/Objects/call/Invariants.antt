use Rattle.std.specs.Prelude.{◌≡◌, take}
use Rattle.mama_event.specs.declared.ids.ObjectId.{ObjectId}
use Rattle.mama_check_queue.specs.Seen.{muted_by}
use Rattle.mama_check_queue.specs.Rows.{seen_in}
use Rattle.mama_check_queue.proofs.objects.Objects.call.Given as goal

-- so many orders have muted what they end
abbrev pub invariant-loop-order : goal.invariant-loop-order
invariant-loop-order l = (x : ObjectId) → seen_in l.self x ≡ muted_by x (take l.order-index l.order-items) (seen_in l.initial.self x)
