use Rattle.std.proofs.Common.{◌≡◌, ℕ, true, ◌-◌, List, length, take, drop, sym, ap, ◌∙◌, arith}
use Rattle.std.specs.List.{list_all}
use Rattle.std.proofs.lemmas.List.{length-take, length-drop, take_all}
use Rattle.mama_payload.specs.Reading.{allowed}
use Rattle.mama_payload.proofs.Lettering.{bad_letter, failed, letters_bad, letters_short, letters_fine}
use Rattle.mama_payload.proofs.letters.letters_of.Goals as goal

pub returns-then-not-allows-clause-gives : goal.returns-then-not-allows-clause-gives
returns-then-not-allows-clause-gives c =
    let i : ℕ = c.loop-i.i in
    let bytes : List ℕ = c.args.bytes.now in
    let left : length bytes - i ≡ length (take (length bytes - i) (drop i bytes)) = omega (arith, length-take (length bytes - i) (drop i bytes), length-drop i bytes) in
    rw c.at.ensures (letters_bad (allowed c.args.alphabet) c.args.count i bytes (omega arith) (omega arith) c.loop-i.invariant (sym c.allows.ensures ∙ c.if-not-allows.true)
    ∙ ap (λ (k : ℕ). failed (bad_letter k)) left)

pub returns-then-bytes-count-clause-gives : goal.returns-then-bytes-count-clause-gives
returns-then-bytes-count-clause-gives c =
    let bytes : List ℕ = c.args.bytes.now in
    let all : take c.loop-i.i bytes ≡ bytes = take_all c.loop-i.i bytes (omega arith) in
    rw c.at_end.ensures (letters_short (allowed c.args.alphabet) c.args.count bytes (omega arith) (ap (list_all (allowed c.args.alphabet)) (sym all) ∙ c.loop-i.invariant))

pub returns-clause-gives : goal.returns-clause-gives
returns-clause-gives c =
    let bytes : List ℕ = c.args.bytes.now in
    let count : c.from-count.result ≡ c.args.count = omega arith in
    let all : c.loop-i.i ≡ c.args.count = omega arith in
    let passed : list_all (allowed c.args.alphabet) (take c.args.count bytes) ≡ true = ap (λ (n : ℕ). list_all (allowed c.args.alphabet) (take n bytes)) (sym all) ∙ c.loop-i.invariant in
    rw (c.split_at.ensures.front, c.split_at.ensures.back, count) (letters_fine (allowed c.args.alphabet) c.args.count bytes (omega arith) passed)
