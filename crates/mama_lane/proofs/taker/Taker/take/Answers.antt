use Rattle.std.proofs.Common.{rules, ◌∙◌, sym, ap, subst}
use Rattle.std.specs.List.{All}
use mathlib.Core.List.{IsPrefix}
use Rattle.mama_journal.specs.Lane.{by_port}
use Rattle.mama_lane.specs.Values.{TakerValue, after_take}
use Rattle.mama_lane.proofs.Takers.{without_none, gave_value, gave, lawful_front}
use Rattle.mama_lane.proofs.taker.Taker.take.Goals as goal

pub returns-in_err-port-clause-caught_up : goal.returns-in_err-port-clause-caught_up
returns-in_err-port-clause-caught_up g c =
    rw c.from_residual.ensures (subst (λ (t : TakerValue g.row.E-Note.Denot). All (λ note. IsPrefix note.1 (by_port note.0 t.taken)) t.learnt)
    (sym (without_none g.E.Stream.noted c.self.inside.looker c.self.inside.buffer.items c.in_err-port.ensures.none.1) ∙ c.self.view_is) c.in_err-port.ensures.caught_up)

pub invariant_of-self-2 : goal.invariant_of-self-2
invariant_of-self-2 g c = let t = c.self.invariant in
    (rw c.mark_ended.ensures (gave g.E.Stream.noted c.self.inside.looker c.self.inside.buffer.items (c.in_ok-port.port, c.in_ok-port.event) c.next-taken.new.looker c.next-taken.new.buffer.items g.E.Stream.last _ _ t.0 c.in_ok-port.ensures.some c.in_ok-port.ensures.port.0 c.in_ok-port.ensures.port.1 (sym c.is_last.ensures)), search rules)

pub returns-clause-some : goal.returns-clause-some
returns-clause-some g c =
    gave_value g.E.Stream.noted c.self.inside.looker c.self.inside.buffer.items (c.in_ok-port.port, c.in_ok-port.event) c.next-taken.new.looker c.next-taken.new.buffer.items c.self.invariant.0.parts c.in_ok-port.ensures.some
    ∙ ap (λ (t : TakerValue g.row.E-Note.Denot). after_take t c.in_ok-port.port (g.E.Stream.noted c.in_ok-port.event)) c.self.view_is

pub returns-clause-lawful : goal.returns-clause-lawful
returns-clause-lawful g c = λ port.
    lawful_front g.E.Stream.noted (g.E.Stream.lawful c.next-taken.new.looker.bounds port) (g.met.E.Stream.lawful_prefix _ port) port c.next-taken.new.looker.taken _ c.next-taken.new.buffer.items
    (gave g.E.Stream.noted c.self.inside.looker c.self.inside.buffer.items (c.in_ok-port.port, c.in_ok-port.event) c.next-taken.new.looker c.next-taken.new.buffer.items g.E.Stream.last _ _ c.self.invariant.0 c.in_ok-port.ensures.some c.in_ok-port.ensures.port.0 c.in_ok-port.ensures.port.1 (sym c.is_last.ensures)).parts
    (c.is_lawful.ensures port)
