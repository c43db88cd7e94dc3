use Rattle.std.proofs.Common.{◌-◌, ◌+◌, List, ℕ, [], map, take, drop, sym, ◌∙◌, arith}
use Rattle.std.proofs.lemmas.Result.{err_from_is_err_and}
use Rattle.mama_words.specs.Parting.{parted_in}
use Rattle.mama_words.specs.WithWord.{with_word}
use Rattle.mama_words.proofs.OnePass.{parted_on, parted_all, at_space, after_gap, after_byte, at_outside, at_bad_word, at_last_word}
use Rattle.mama_words.proofs.parting.parted_into.Goals as goal

pub loop-i-init : goal.loop-i-init
loop-i-init c = (omega arith, rw c.clear.ensures.items (parted_all c.args.line.now))

pub returns-in_err-push_word : goal.returns-in_err-push_word
returns-in_err-push_word c =
    let at = c.loop-i in
    let line = c.args.line.now in
    let words : List (List ℕ) = map (λ w. w.now) at.found.items in
    let word = take (at.i - at.start) (drop at.start line) in
    let all = at_space at.place words word line at.i (parted_in line) c.loop-i-test.true (sym c.is_plain.ensures ∙ c.if-not-is_plain.false) (sym c.is_gap.ensures ∙ c.if-is_gap.true) at.invariant.1 in
    let e = err_from_is_err_and c.from_residual.result c.from_residual.ensures.1 in
    rw (e.1, e.2) (at_bad_word c.in_err-push_word.field-0.0 (with_word words word) (λ vs. parted_on at.place vs [] (drop (at.i + 1) line)) (parted_in line) all c.in_err-push_word.ensures)

pub loop-i-preserved-then-is_gap : goal.loop-i-preserved-then-is_gap
loop-i-preserved-then-is_gap c =
    let at = c.loop-i in
    let line = c.args.line.now in (
      omega arith,
      after_gap at.place (map (λ w. w.now) at.found.items) (map (λ w. w.now) c.push_word.new.found.items) (take (at.i - at.start) (drop at.start line)) line at.i (parted_in line)
          c.loop-i-test.true (sym c.is_plain.ensures ∙ c.if-not-is_plain.false) (sym c.is_gap.ensures ∙ c.if-is_gap.true) c.in_ok-push_word.ensures at.invariant.1,
    )

pub loop-i-preserved : goal.loop-i-preserved
loop-i-preserved c =
    let at = c.loop-i in
    let line = c.args.line.now in (
      omega (arith, at.invariant.0),
      rw c.next-place.ensures (after_byte at.place (map (λ w. w.now) at.found.items) line at.start at.i (parted_in line) at.invariant.0
          c.loop-i-test.true (sym c.is_plain.ensures ∙ c.if-not-is_plain.false) (sym c.is_gap.ensures ∙ c.if-is_gap.false) at.invariant.1),
    )

pub returns : goal.returns
returns c =
    let at = c.loop-i in
    let line = c.args.line.now in
    at_last_word _ c.push_word-2.result _ (parted_in line) (at_outside at.place (map (λ w. w.now) at.found.items) line at.start at.i (parted_in line) c.loop-i-test.false (sym c.is_outside.ensures ∙ c.if-not-is_outside.false) at.invariant.1) c.push_word-2.ensures
