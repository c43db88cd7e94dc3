use Rattle.std.specs.Prelude.{map, drop}
use Rattle.std.proofs.Common.{◌≡◌, ℕ, ◌<◌, length}
use Rattle.mama_rules_rounds.specs.Setting.{Grouped}
use Rattle.mama_rules_rounds.specs.Sections.{setting_of}
use Rattle.mama_check_queue.specs.Served.{group_given}
use Rattle.mama_check.specs.Rules.{KeepsGroup}
use Rattle.mama_check.proofs.ListLemmas.{AreLeft, told_group}
use Rattle.mama_check.proofs.lists.first_of_groups.Given as goal

-- all so far keep the rule, and the lists have what is left
abbrev pub invariant-loop-k : goal.invariant-loop-k
invariant-loop-k l = record {
  kept : (j : ℕ) → j < l.k → KeepsGroup l.script l.run j;
  left : AreLeft group_given (told_group l.script l.run) (λ (g : Grouped). g.queue) (drop l.k (setting_of l.script).groups) (map (λ list. list.now) l.lists.items);
  many : length (map (λ list. list.now) l.lists.items) ≡ length l.run.queues;
}
