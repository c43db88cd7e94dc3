use Rattle.std.proofs.Common.{ℕ, List, [], ◌∷◌, ◌++◌, arith, drop, refl, ap, ◌∙◌}
use Rattle.mama_plans.specs.Put.{note_of}
use Rattle.mama_seats.specs.Past.{is_empty_line}
use Rattle.mama_seats.specs.Stand.{Walk, stand_of}
use Rattle.mama_seats.proofs.StandLemmas.{pause_moves, line_moves, clock_moves, words_end}
use Rattle.mama_seats.proofs.ReadingLemmas.{answered_once, pause_reads_at, clock_reads_at, line_reads_at, words_read}
use Rattle.mama_seats.proofs.PastLemmas.{stands_past, step_past, reading_past, test_fails, pause_counts}
use Rattle.mama_seats.proofs.client_state.ClientState.go_on.Goals as goal

pub returns-then-line-lines-clause-step : goal.returns-then-line-lines-clause-step
returns-then-line-lines-clause-step g c =
    step_past (stand_of c.args.lines.now c.args.self.now) _ _ c.requires.going
    (words_end _ _ c.args.lines.now c.next_at-line.result (stands_past c.args.lines.now _ c.args.self.now c.next_at-line.result c.self.view_is c.next_at-line.ensures)
    (ap (λ (w : Walk). w.over) c.self.view_is ∙ c.requires.going) (ap (λ (w : Walk). w.pause) c.self.view_is ∙ c.requires.awake) refl c.if-line-lines.true)

pub returns-then-line-lines-clause-clock : goal.returns-then-line-lines-clause-clock
returns-then-line-lines-clause-clock g c =
    reading_past (stand_of c.args.lines.now c.args.self.now) _
    (words_read _ _ _ c.args.lines.now c.next_at-line.result (stands_past c.args.lines.now _ c.args.self.now c.next_at-line.result c.self.view_is c.next_at-line.ensures)
    (ap (λ (w : Walk). w.over) c.self.view_is ∙ c.requires.going) (ap (λ (w : Walk). w.pause) c.self.view_is ∙ c.requires.awake) refl c.if-line-lines.true)

pub returns-in-Puts-clause-step : goal.returns-in-Puts-clause-step
returns-in-Puts-clause-step g c =
    let does = rw c.in-Puts.is at c.in_ok-put.ensures in
    step_past (stand_of c.args.lines.now c.args.self.now) _ _ c.requires.going
    (line_moves _ _ c.args.lines.now c.next_at-line.result c.index-lines-line.result c.in-Puts.names (note_of c.in-Puts.put)
    (stands_past c.args.lines.now _ c.args.self.now c.next_at-line.result c.self.view_is c.next_at-line.ensures) (ap (λ (w : Walk). w.over) c.self.view_is ∙ c.requires.going) (ap (λ (w : Walk). w.pause) c.self.view_is ∙ c.requires.awake)
    refl c.if-line-lines.false c.index-lines-line.is does)

pub returns-in-Puts-clause-clock : goal.returns-in-Puts-clause-clock
returns-in-Puts-clause-clock g c =
    let does = rw c.in-Puts.is at c.in_ok-put.ensures in
    reading_past (stand_of c.args.lines.now c.args.self.now) _
    (line_reads_at _ _ _ c.args.lines.now c.next_at-line.result c.index-lines-line.result c.in-Puts.names (note_of c.in-Puts.put)
    (stands_past c.args.lines.now _ c.args.self.now c.next_at-line.result c.self.view_is c.next_at-line.ensures) (ap (λ (w : Walk). w.over) c.self.view_is ∙ c.requires.going) (ap (λ (w : Walk). w.pause) c.self.view_is ∙ c.requires.awake)
    refl c.if-line-lines.false c.index-lines-line.is does)

pub returns-in-Pauses-clause-step : goal.returns-in-Pauses-clause-step
returns-in-Pauses-clause-step g c =
    let is = rw c.in-Pauses.is at c.in_ok-put.ensures in
    let some = pause_counts c.index-lines-line.result c.in-Pauses.steps is
    (test_fails is_empty_line c.args.lines.now (drop c.self.inside.line c.args.lines.now) c.next_at-line.result c.index-lines-line.result c.if-line-lines.false c.index-lines-line.is c.next_at-line.ensures) in
    step_past (stand_of c.args.lines.now c.args.self.now) _ _ c.requires.going
    (pause_moves _ _ c.args.lines.now c.next_at-line.result _ c.in-Pauses.steps c.index-lines-line.result
    (stands_past c.args.lines.now _ c.args.self.now c.next_at-line.result c.self.view_is c.next_at-line.ensures) (ap (λ (w : Walk). w.over) c.self.view_is ∙ c.requires.going) (ap (λ (w : Walk). w.pause) c.self.view_is ∙ c.requires.awake)
    refl c.if-line-lines.false c.index-lines-line.is is (omega (arith, some)))

pub returns-in-Pauses-clause-clock : goal.returns-in-Pauses-clause-clock
returns-in-Pauses-clause-clock g c =
    let is = rw c.in-Pauses.is at c.in_ok-put.ensures in
    let some = pause_counts c.index-lines-line.result c.in-Pauses.steps is
    (test_fails is_empty_line c.args.lines.now (drop c.self.inside.line c.args.lines.now) c.next_at-line.result c.index-lines-line.result c.if-line-lines.false c.index-lines-line.is c.next_at-line.ensures) in
    reading_past (stand_of c.args.lines.now c.args.self.now) _
    (pause_reads_at _ _ _ c.args.lines.now c.next_at-line.result _ c.in-Pauses.steps c.index-lines-line.result
    (stands_past c.args.lines.now _ c.args.self.now c.next_at-line.result c.self.view_is c.next_at-line.ensures) (ap (λ (w : Walk). w.over) c.self.view_is ∙ c.requires.going) (ap (λ (w : Walk). w.pause) c.self.view_is ∙ c.requires.awake)
    refl c.if-line-lines.false c.index-lines-line.is is (omega (arith, some)))

pub returns-in_ok-reserve-in-ReadsClock-clause-step : goal.returns-in_ok-reserve-in-ReadsClock-clause-step
returns-in_ok-reserve-in-ReadsClock-clause-step g c =
    let is = rw c.in-ReadsClock.is at c.in_ok-put.ensures in
    step_past (stand_of c.args.lines.now c.args.self.now) _ _ c.requires.going
    (clock_moves _ _ c.args.lines.now c.next_at-line.result c.now-moment.result c.index-lines-line.result _
    (stands_past c.args.lines.now _ c.args.self.now c.next_at-line.result c.self.view_is c.next_at-line.ensures) (ap (λ (w : Walk). w.over) c.self.view_is ∙ c.requires.going) (ap (λ (w : Walk). w.pause) c.self.view_is ∙ c.requires.awake)
    refl c.if-line-lines.false c.index-lines-line.is is
    (c.push_reserved.ensures.items ∙ ap (λ (l : List ℕ). l ++ c.now-moment.result ∷ []) c.reserve.ensures.items))

pub returns-in_ok-reserve-in-ReadsClock-clause-clock : goal.returns-in_ok-reserve-in-ReadsClock-clause-clock
returns-in_ok-reserve-in-ReadsClock-clause-clock g c =
    let is = rw c.in-ReadsClock.is at c.in_ok-put.ensures in
    reading_past (stand_of c.args.lines.now c.args.self.now) _
    (clock_reads_at _ _ _ _ c.args.lines.now c.next_at-line.result c.now-moment.result c.index-lines-line.result _
    (stands_past c.args.lines.now _ c.args.self.now c.next_at-line.result c.self.view_is c.next_at-line.ensures) (ap (λ (w : Walk). w.over) c.self.view_is ∙ c.requires.going) (ap (λ (w : Walk). w.pause) c.self.view_is ∙ c.requires.awake)
    refl c.if-line-lines.false c.index-lines-line.is is
    (c.push_reserved.ensures.items ∙ ap (λ (l : List ℕ). l ++ c.now-moment.result ∷ []) c.reserve.ensures.items)
    (answered_once _ _ _ c.now-moment.ensures.first c.now-moment.ensures.rest))

pub overflow_sub-self : goal.overflow_sub-self
overflow_sub-self g c =
    let is = rw c.in-Pauses.is at c.in_ok-put.ensures in
    pause_counts c.index-lines-line.result c.in-Pauses.steps is
    (test_fails is_empty_line c.args.lines.now (drop c.self.inside.line c.args.lines.now) c.next_at-line.result c.index-lines-line.result c.if-line-lines.false c.index-lines-line.is c.next_at-line.ensures)
