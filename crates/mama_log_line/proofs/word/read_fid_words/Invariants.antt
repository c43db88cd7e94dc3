use Rattle.std.proofs.Common.{◌≡◌, map, length, take, drop}
use Rattle.mama_words.specs.Value.{onto}
use Rattle.mama_words.specs.Order.{fids_in}
use Rattle.mama_log_line.proofs.word.read_fid_words.Given as goal

abbrev pub invariant-loop-i : goal.invariant-loop-i
invariant-loop-i l = (length l.fids ≡ 8) × (onto (take l.i l.fids) (fids_in (map (λ w. w.now) (drop l.i l.words))) ≡ fids_in (map (λ w. w.now) l.words))
