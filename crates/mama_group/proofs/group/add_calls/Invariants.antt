use Rattle.std.proofs.Common.{◌≡◌, ◌++◌, map, take}
use Rattle.std.specs.Prelude.{fold}
use Rattle.mama_rules_queue.specs.Group.{member_after}
use Rattle.mama_rules_queue.specs.GroupTurns.{calls_heard}
use Rattle.mama_group.specs.Kept.{member_of}
use Rattle.mama_group.proofs.group.add_calls.Given as goal

abbrev pub invariant-loop-note : goal.invariant-loop-note
invariant-loop-note l = record {
  heard : l.heard.items ≡ l.fn.heard.items ++ calls_heard l.fn.sub (map (λ n. n.call) (take l.note-index l.notes));
  member : member_of l.member ≡ fold member_after (member_of l.fn.member) (map (λ n. n.call) (take l.note-index l.notes));
}
