use Rattle.std.proofs.Common.{◌≡◌, ℕ, ◌+◌, ◌++◌, length, take, refl, ◌∙◌, length-take-le, length-take, length-append, arith}
use Rattle.mama_edge.proofs.ToldLaws.{gave_more, lost_of_gave}
use Rattle.mama_edge.proofs.reading.read_all.Goals as goal

pub returns-then-count-room-clause-too_long : goal.returns-then-count-room-clause-too_long
returns-then-count-room-clause-too_long g c =
    let bound = c.in-Ok-read.ensures.bound in
    let part = take c.in-Ok-read.count c.read.new.buf in
    let long : length part ≡ c.in-Ok-read.count = length-take-le c.in-Ok-read.count c.read.new.buf bound in
    let all = gave_more _ _ _ c.pieces.bytes.items part (c.pieces.bytes.items ++ part) refl c.pieces.invariant.2 c.in-Ok-read.ensures.given in
    λ _. lost_of_gave _ _ (c.pieces.bytes.items ++ part) (c.args.limit + 1) (length-append c.pieces.bytes.items part ∙ omega (arith, c.pieces.bytes.ok.0, length-take {A = ℕ})) all
