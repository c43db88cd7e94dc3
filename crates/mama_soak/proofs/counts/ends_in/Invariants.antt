use Rattle.std.proofs.Common.{◌≡◌, ◌≤◌, take}
use Rattle.std.specs.Prelude.{count_by}
use Rattle.mama_soak.specs.Soak.{is_notice}
use Rattle.mama_soak.proofs.counts.ends_in.Given as goal

-- the count so far, which is small
abbrev pub invariant-loop-note : goal.invariant-loop-note
invariant-loop-note l = record {
  count : l.count ≡ count_by is_notice (take l.note-index l.calls);
  small : l.count ≤ l.note-index;
}
