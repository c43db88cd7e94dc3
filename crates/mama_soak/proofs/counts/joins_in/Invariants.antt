use Rattle.std.proofs.Common.{◌≡◌, ◌≤◌, take}
use Rattle.std.specs.Prelude.{count_by}
use Rattle.mama_soak.specs.Soak.{is_join}
use Rattle.mama_soak.proofs.counts.joins_in.Given as goal

-- the count so far, which is small
abbrev pub invariant-loop-entry : goal.invariant-loop-entry
invariant-loop-entry l = record {
  count : l.count ≡ count_by is_join (take l.entry-index l.journal);
  small : l.count ≤ l.entry-index;
}
