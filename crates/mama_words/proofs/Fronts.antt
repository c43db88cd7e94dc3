-- What stood in a text before more was appended stands there still.
use Rattle.std.proofs.Common.{◌≡◌, ◌≤◌, List, ◌++◌, length, take, Result, Ok, Err, sym, ap, ◌∙◌, arith}
use Rattle.std.specs.Prelude.{OnErr}
use Rattle.std.proofs.Math.Seq.{take-append_seam}
use Rattle.std.proofs.lemmas.List.{take-take, length-append}

-- where a part was appended, and then a part of the rest
pub front_more : {X : Type 0} {old mid : List X} (more new : List X) → mid ≡ old ++ more → take (length mid) new ≡ mid → take (length old) new ≡ old
front_more {X} {old} {mid} more new grown kept =
    let long : length mid ≡ length (old ++ more) = ap length grown in
    let within : length old ≤ length mid = omega (arith, long, length-append old more) in
    sym (take-take (length old) (length mid) new within) ∙ ap (take (length old)) (kept ∙ grown) ∙ take-append_seam old more

-- what holds anyway holds at an error
pub on_err : {T E P : Type 0} (r : Result T E) → P → OnErr r P
on_err (Ok x) p = tt
on_err (Err e) p = p
