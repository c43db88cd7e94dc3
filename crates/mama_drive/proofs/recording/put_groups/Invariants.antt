use Rattle.std.proofs.Common.{◌≡◌, map}
use Rattle.mama_plans.specs.Numbered.{numbered, lists_put}
use Rattle.mama_seats.specs.Heard.{heard_in}
use Rattle.mama_drive.proofs.recording.put_groups.Given as goal

-- with the lists that are left put, all are
abbrev pub invariant-loop-number : goal.invariant-loop-number
invariant-loop-number l = lists_put (map heard_in l.number-iterator.rest.items) (numbered l.lists.items) ≡ lists_put (map heard_in l.fn.groups.items) (numbered l.fn.lists.items)
