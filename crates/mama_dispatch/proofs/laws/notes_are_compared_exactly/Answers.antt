use Rattle.mama_dispatch.specs.SameNotesLaws.{notes_compare_exactly}
use Rattle.mama_dispatch.proofs.laws.notes_are_compared_exactly.Goals as goal

pub returns : goal.returns
returns c = notes_compare_exactly
