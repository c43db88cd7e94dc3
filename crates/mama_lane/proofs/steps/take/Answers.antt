use Rattle.std.proofs.Common.{arith, ◌≡◌, ℕ, ◌<◌, length, List, sym, ap, subst, ◌∙◌}
use Rattle.std.specs.List.{AllByRecursion}
use Rattle.mama_lane.specs.Rule.{notes_of, IsLawfulTaken}
use Rattle.mama_lane.specs.Steps.{with_taken}
use Rattle.mama_lane.proofs.steps.take.Goals as goal

pub unpack-requires-clause-batch : goal.unpack-requires-clause-batch
unpack-requires-clause-batch g c = let s = c.in-Some.ensures.some in (s.0, s.1, omega (arith, s.3, c.requires.room))

pub returns-clause-view : goal.returns-clause-view
returns-clause-view g c =
    let s = c.in-Some.ensures.some in
    let is : c.unpack.new.buffer.items ≡ s.0 = c.unpack.ensures.events s.0 s.1 in
    c.unpack.ensures.view ∙ (s.4 ∙ ap (λ (l : List (ℕ × g.row.E.Denot)). with_taken c.args.pass.now.me.view.client (notes_of g.E.Stream.noted l)) (sym is))

pub returns-clause-ports : goal.returns-clause-ports
returns-clause-ports g c =
    let s = c.in-Some.ensures.some in
    let is : c.unpack.new.buffer.items ≡ s.0 = c.unpack.ensures.events s.0 s.1 in
    subst (AllByRecursion (λ (x : ℕ × g.row.E.Denot). x.0 < c.args.pass.now.me.view.client.made)) (sym is) s.5.0

pub returns-clause-lawful : goal.returns-clause-lawful
returns-clause-lawful g c = λ _.
    let s = c.in-Some.ensures.some in
    subst (IsLawfulTaken g.E.Stream.lawful) (sym c.unpack.ensures.view) s.5.1

pub returns-clause-caught_up : goal.returns-clause-caught_up
returns-clause-caught_up g c = λ none.
    let s = c.in-Some.ensures.some in
    let is : c.unpack.new.buffer.items ≡ s.0 = c.unpack.ensures.events s.0 s.1 in
    let nothing : length s.0 ≡ 0 = ap length (sym is ∙ none) in
    absurd (omega (arith, s.2))
