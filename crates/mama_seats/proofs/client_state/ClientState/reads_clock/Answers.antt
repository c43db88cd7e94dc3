use Rattle.std.proofs.Common.{ap, ◌∙◌}
use Rattle.mama_seats.specs.Stand.{stand_of}
use Rattle.mama_seats.proofs.StandLemmas.{reads_over, reads_paused, reads_at_end, reads_at_line}
use Rattle.mama_seats.proofs.client_state.ClientState.reads_clock.Goals as goal

pub returns-then-self : goal.returns-then-self
returns-then-self c = reads_over _ (stand_of c.args.lines.now c.args.self.now) (ap (stand_of c.args.lines.now) c.self.view_is) c.if-self.true

pub returns-then-self-gt0 : goal.returns-then-self-gt0
returns-then-self-gt0 c = reads_paused _ (stand_of c.args.lines.now c.args.self.now) (ap (stand_of c.args.lines.now) c.self.view_is) c.if-self.false c.if-self-gt0.true

pub returns-then-line-lines : goal.returns-then-line-lines
returns-then-line-lines c =
    reads_at_end _ (stand_of c.args.lines.now c.args.self.now) c.args.lines.now c.next_at-line.result (ap (stand_of c.args.lines.now) c.self.view_is) c.if-self.false c.if-self-gt0.false c.next_at-line.ensures c.if-line-lines.true

pub returns : goal.returns
returns c =
    c.is_reading.ensures
    ∙ reads_at_line _ (stand_of c.args.lines.now c.args.self.now) c.args.lines.now c.next_at-line.result c.index-lines-line.result (ap (stand_of c.args.lines.now) c.self.view_is) c.if-self.false c.if-self-gt0.false c.next_at-line.ensures c.if-line-lines.false c.index-lines-line.is
