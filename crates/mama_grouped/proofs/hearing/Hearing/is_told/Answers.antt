use Rattle.std.proofs.Common.{List, length, ℕ, ap, sym, ◌∙◌}
use Rattle.std.proofs.lemmas.Bool.Decides.{Decides-eqb}
use Rattle.mama_event.specs.declared.to_queue.QueueNote.{QueueNote}
use Rattle.mama_grouped.proofs.hearing.Hearing.is_told.Goals as goal

pub returns : goal.returns
returns g c =
    let same = ap (λ (es : List (ℕ × QueueNote)). length es) c.journal_of.ensures in
    let decides = Decides-eqb (length c.journal_of.result.now) c.args.self.now.told in (
      λ is. sym same ∙ decides.0 is,
      λ told. decides.1 (same ∙ told),
    )
