use Rattle.std.specs.Prelude.{map, drop}
use Rattle.std.proofs.Common.{◌≡◌, ℕ, ◌<◌, length}
use Rattle.mama_rules_rounds.specs.Setting.{Watched}
use Rattle.mama_rules_rounds.specs.Sections.{setting_of}
use Rattle.mama_check_queue.specs.Served.{watch_given}
use Rattle.mama_check.specs.Rules.{KeepsWatch}
use Rattle.mama_check.proofs.ListLemmas.{AreLeft, told_watch}
use Rattle.mama_check.proofs.lists.first_of_watches.Given as goal

-- all so far keep the rule, and the lists have what is left
abbrev pub invariant-loop-k : goal.invariant-loop-k
invariant-loop-k l = record {
  kept : (j : ℕ) → j < l.k → KeepsWatch l.script l.run j;
  left : AreLeft watch_given (told_watch l.script l.run) (λ (w : Watched). w.queue) (drop l.k (setting_of l.script).watches) (map (λ list. list.now) l.lists.items);
  many : length (map (λ list. list.now) l.lists.items) ≡ length l.run.queues;
}
