use Rattle.std.proofs.Common.{◌≡◌, ℕ, ◌+◌, List, [], ◌∷◌, ◌++◌, ap, ◌∙◌, arith}
use Rattle.mama_event.specs.declared.to_queue.QueueNote.{QueueNote}
use Rattle.mama_event.specs.declared.to_queue.QueueNote.TheVariants as note
use Rattle.mama_dispatch.proofs.ServingLemmas.{calls_served, fins_few}
use Rattle.mama_dispatch.proofs.NoteLemmas.{serving_fin}
use Rattle.mama_dispatch.proofs.serving.Serving.finish.Goals as goal

pub invariant_of-self-2 : goal.invariant_of-self-2
invariant_of-self-2 g c =
    let items : List (ℕ × QueueNote) = c.self.inside.journal.items in
    let grown : c.push_reserved.new.self.items ≡ items ++ (c.args.port, note.Fin) ∷ [] =
    c.push_reserved.ensures.items ∙ ap (λ (es : List (ℕ × QueueNote)). es ++ (c.args.port, note.Fin) ∷ []) c.reserve.ensures.items in
    serving_fin items c.push_reserved.new.self.items c.self.inside.fins (c.self.inside.fins + 1) c.args.port c.self.inside.seats c.self.inside.room c.self.inside.images.items grown (omega arith) c.self.invariant

pub returns-clause-calls : goal.returns-clause-calls
returns-clause-calls g c = calls_served c.push_reserved.new.self.items (c.self.inside.fins + 1) c.self.inside.seats (invariant_of-self-2 g c).served

pub overflow_add-self : goal.overflow_add-self
overflow_add-self g c = omega (arith, fins_few c.self.inside.journal.items, c.self.invariant.served.fins, c.self.inside.journal.ok.0, c.self.inside.journal.ok.1, c.self.inside.journal.small)
