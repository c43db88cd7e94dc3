use Rattle.std.proofs.Common.{◌≡◌, ◌-◌, length, take, drop, replicate}
use Rattle.mama_event.specs.FidList.{is_ascending_above}
use Rattle.mama_event.proofs.fids.Fids.new.Given as goal

-- the fids so far are kept, and what is left of the list decides
abbrev pub invariant-loop-i : goal.invariant-loop-i
invariant-loop-i l = record {
  size : length l.kept ≡ 8;
  front : take l.i l.kept ≡ take l.i l.fids;
  back : drop l.i l.kept ≡ replicate (8 - l.i) 0;
  rest : is_ascending_above l.before (drop l.i l.fids) ≡ is_ascending_above 0 l.fids;
}
