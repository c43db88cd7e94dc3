-- The bytes past the copy are still those of the array of zeros.
use Rattle.std.proofs.Common.{◌≡◌, ℕ, ◌-◌, List, ◌++◌, length, drop, replicate, ap, ◌∙◌}
use Rattle.std.proofs.lemmas.List.{drop-replicate}
use Rattle.mama_msg.proofs.name.padded.Goals as goal

pub returns : goal.returns
returns c =
    let n : ℕ = length c.args.bytes.now in
    let front : c.copy_from_slice.new.self ≡ c.args.bytes.now = c.copy_from_slice.ensures.after in
    let rest : drop n (replicate 32 0) ≡ replicate (32 - n) 0 = drop-replicate n 32 0 in
    ap (λ (xs : List ℕ). xs ++ drop n (replicate 32 0)) front ∙ ap (λ (xs : List ℕ). c.args.bytes.now ++ xs) rest
