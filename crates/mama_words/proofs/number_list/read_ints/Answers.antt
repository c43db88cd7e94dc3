use Rattle.std.proofs.Common.{◌++◌, ◌∙◌, ℤ, ◌∷◌, [], ap, Some}
use Rattle.mama_words.proofs.Numbers.{int_in_kept}
use Rattle.mama_words.specs.Parting.{pieces}
use Rattle.mama_words.specs.NumberList.{ints_in}
use Rattle.mama_words.proofs.NumberLists.{ahead, ints_more, ints_fail, ints_last, ints_not, cut_shorter}
use Rattle.mama_words.proofs.number_list.read_ints.Goals as goal

pub returns-in-None : goal.returns-in-None
returns-in-None c = ints_fail c.loop-piece.numbers.items c.loop-piece.rest.now c.in-Some.piece.now c.in-Some.after.now (ints_in (pieces 44 c.args.text.now)) c.in-Some.ensures c.in-None.ensures c.loop-piece.invariant

pub loop-piece-smaller : goal.loop-piece-smaller
loop-piece-smaller c = cut_shorter 44 c.loop-piece.rest.now c.in-Some.piece.now c.in-Some.after.now c.in-Some.ensures

pub loop-piece-preserved : goal.loop-piece-preserved
loop-piece-preserved c =
    ap (λ items. ahead items (ints_in (pieces 44 c.in-Some.after.now))) c.in_ok-push-in-Some-read_int.ensures.items
    ∙ ap (λ (z : ℤ). ahead (c.loop-piece.numbers.items ++ z ∷ []) (ints_in (pieces 44 c.in-Some.after.now))) (int_in_kept c.in-Some.piece.now c.in-Some-read_int.number c.in-Some-read_int.ensures)
    ∙ ints_more c.loop-piece.numbers.items c.loop-piece.rest.now c.in-Some.piece.now c.in-Some.after.now c.in-Some-read_int.number (ints_in (pieces 44 c.args.text.now)) c.in-Some.ensures c.in-Some-read_int.ensures c.loop-piece.invariant

pub returns-in-None-read_int : goal.returns-in-None-read_int
returns-in-None-read_int c = ints_not c.loop-piece.numbers.items c.loop-piece.rest.now (ints_in (pieces 44 c.args.text.now)) c.in_default.ensures c.in-None-read_int.ensures c.loop-piece.invariant

pub returns-in_ok-push-in-Some-read_int-2 : goal.returns-in_ok-push-in-Some-read_int-2
returns-in_ok-push-in-Some-read_int-2 c =
    ap Some c.in_ok-push-in-Some-read_int-2.ensures.items
    ∙ ap (λ (z : ℤ). Some (c.loop-piece.numbers.items ++ z ∷ [])) (int_in_kept c.loop-piece.rest.now c.in-Some-read_int-2.number c.in-Some-read_int-2.ensures)
    ∙ ints_last c.loop-piece.numbers.items c.loop-piece.rest.now c.in-Some-read_int-2.number (ints_in (pieces 44 c.args.text.now)) c.in_default.ensures c.in-Some-read_int-2.ensures c.loop-piece.invariant
