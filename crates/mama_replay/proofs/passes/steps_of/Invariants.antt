use Rattle.std.proofs.Common.{◌≡◌, [], map}
use Rattle.std.specs.Prelude.{slice_index_or}
use Rattle.std.specs.List.{flat_map}
use Rattle.mama_journal.specs.Journal.{numbers_below}
use Rattle.mama_replay.proofs.passes.steps_of.Given as goal

-- the steps of so many passes
abbrev pub invariant-loop-pass : goal.invariant-loop-pass
invariant-loop-pass l = l.steps.items ≡ flat_map (λ m. slice_index_or (map (λ pass. pass.items) l.pass-items) m []) (numbers_below l.pass-index)
