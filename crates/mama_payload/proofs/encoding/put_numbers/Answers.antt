use Rattle.std.proofs.Common.{◌≡◌, ℕ, ℤ, pos, ◌+◌, List, [], ◌∷◌, ◌++◌, length, take, get_or, sym, ap, ◌∙◌, append_assoc, rules, FitsSigned}
use Rattle.std.specs.Int.{w64}
use Rattle.std.specs.List.{flat_map}
use Rattle.std.proofs.lemmas.List.{take_more}
use Rattle.mama_payload.specs.Spelling.{signed}
use Rattle.mama_payload.proofs.Loops.{flat_map-push, each_push}
use Rattle.mama_payload.proofs.encoding.put_numbers.Goals as goal

pub loop-number-preserved : goal.loop-number-preserved
loop-number-preserved c =
    let zs : List ℤ = c.args.numbers.now in
    let i : ℕ = c.loop-number.number-index in
    let z : ℤ = get_or zs i (pos 0) in
    let fits : FitsSigned w64 z = search rules in
    let next : take (i + 1) zs ≡ take i zs ++ z ∷ [] = take_more zs i (pos 0) c.loop-number-test.true in
    let grown : c.extend_from_slice.new.self.items ≡ c.loop-number.out.items ++ signed w64 z = search rules in
    let text : flat_map (signed w64) (take i zs) ++ signed w64 z ≡ flat_map (signed w64) (take (i + 1) zs) = sym (flat_map-push (signed w64) (take i zs) z) ∙ ap (flat_map (signed w64)) (sym next) in
    record {
      text = grown ∙ ap (λ (t : List ℕ). t ++ signed w64 z) c.loop-number.invariant.text
          ∙ append_assoc c.args.out.now.items (length zs ∷ flat_map (signed w64) (take i zs)) (signed w64 z) ∙ ap (λ (t : List ℕ). c.args.out.now.items ++ length zs ∷ t) text;
      each = rw next (each_push (FitsSigned w64) (take i zs) z c.loop-number.invariant.each fits);
    }
