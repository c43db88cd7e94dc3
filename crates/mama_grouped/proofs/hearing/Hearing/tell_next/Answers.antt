use Rattle.std.proofs.Common.{◌≡◌, ◌+◌, ◌++◌, ◌∷◌, ℕ, List, [], length, take, refl, sym, ap, subst, ◌∙◌, arith}
use Rattle.std.proofs.lemmas.List.{take_more}
use Rattle.mama_event.specs.declared.to_queue.QueueNote.{QueueNote}
use Rattle.mama_grouped.proofs.Turning.{on_err}
use Rattle.mama_grouped.proofs.hearing.Hearing.tell_next.Goals as goal

pub returns-then-told-journal-clause-all : goal.returns-then-told-journal-clause-all
returns-then-told-journal-clause-all g c = λ is.
    let same = ap (λ (es : List (ℕ × QueueNote)). length es) c.journal_of-journal.ensures in
    (refl, omega (arith, same, c.if-told-journal.true, c.requires.hears.within))

pub tell_entry-requires-clause-there : goal.tell_entry-requires-clause-there
tell_entry-requires-clause-there g c =
    let same = ap (λ (es : List (ℕ × QueueNote)). length es) c.journal_of-journal.ensures in
    omega (arith, same, c.if-told-journal.false)

pub tell_entry-requires-clause-next : goal.tell_entry-requires-clause-next
tell_entry-requires-clause-next g c =
    let journal : List (ℕ × QueueNote) = c.journal_of-journal.result.now in
    let told : ℕ = c.args.self.now.told in
    let within = c.if-told-journal.false in
    subst (λ (es : List (ℕ × QueueNote)). take (told + 1) es ≡ take told es ++ c.index-journal-told.result ∷ []) c.journal_of-journal.ensures
    (take_more journal told c.index-journal-told.result (omega (arith, within))
    ∙ ap (λ (e : ℕ × QueueNote). take told journal ++ e ∷ []) (sym c.index-journal-told.is))

pub returns-in_err-tell_entry-clause-err : goal.returns-in_err-tell_entry-clause-err
returns-in_err-tell_entry-clause-err g c =
    let same = ap (λ (es : List (ℕ × QueueNote)). length es) c.journal_of-journal.ensures in
    on_err c.from_residual.result (ap (λ gs. record { groups = gs; told = c.args.self.now.told }) c.in_err-tell_entry.ensures.err, omega (arith, same, c.if-told-journal.false))
