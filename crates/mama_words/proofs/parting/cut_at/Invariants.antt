use Rattle.std.proofs.Common.{◌≡◌, take, drop}
use Rattle.mama_words.specs.Parting.{onto_cut, cut_at}
use Rattle.mama_words.proofs.parting.cut_at.Given as goal

abbrev pub invariant-loop-i : goal.invariant-loop-i
invariant-loop-i l = onto_cut (take l.i l.text) (cut_at l.byte (drop l.i l.text)) ≡ cut_at l.byte l.text
