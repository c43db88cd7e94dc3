use Rattle.std.proofs.Common.{◌≡◌, ◌≤◌, map, take, drop}
use Rattle.mama_dispatch.specs.Making.{MayCall, WereCalled}
use Rattle.mama_dispatch.specs.Turns.{put_note, IsAppended}
use Rattle.mama_dispatch.proofs.seats.Seats.call_all.Given as goal

abbrev pub invariant-loop-i : goal.invariant-loop-i
invariant-loop-i g l = record {
  rest : l.pending ≡ drop l._i l.initial.pending;
  few : l.count ≤ l._i;
  may : MayCall l.object l.pending l.self l.out.spare;
  appended : IsAppended l.initial.out.items l.out.items;
  called : WereCalled l.object (take l._i l.initial.pending) l.initial.self l.self (map (put_note g.M.Tagged.tagged) l.initial.out.items) (map (put_note g.M.Tagged.tagged) l.out.items) l.count;
}
