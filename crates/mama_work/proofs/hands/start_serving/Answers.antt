use Rattle.std.proofs.Common.{◌++◌, length, ap, ◌∙◌, map, arith}
use Rattle.mama_work.specs.Serving.{numbers_of}
use Rattle.mama_work.proofs.AllHands.{none_started, one_started, refused_follows}
use Rattle.mama_work.proofs.hands.start_serving.Goals as goal

pub loop-held-init : goal.loop-held-init
loop-held-init g c =
    let none = c.requires.room.0 in let d = c.from_vec-hands.ensures in record {
      starts = none_started c.args.room.items (λ s. s.promise.start.value) c.from_vec-hands.result.items c.args.hands.items none d.items;
      count = omega (arith, ap length none, c.args.room.ok.0, d.len);
      room = (c.requires.room.1, omega (arith, d.capacity, c.args.hands.ok.1));
    }

pub push_reserved-requires : goal.push_reserved-requires
push_reserved-requires g c = let i = c.loop-held.invariant in omega (arith, i.count, i.room.0, c.in-Some.ensures.cases)

pub push_front_reserved-requires : goal.push_front_reserved-requires
push_front_reserved-requires g c = let i = c.loop-held.invariant in omega (arith, i.count, i.room.1, c.in-Some.ensures.cases, c.in-Some.ensures.capacity)

pub loop-held-preserved : goal.loop-held-preserved
loop-held-preserved g c =
    let i = c.loop-held.invariant in let p = c.in-Some.ensures in record {
      starts = ap (λ xs. map (λ s. s.promise.start.value) xs ++ c.pop_front.new.self.items) c.push_reserved.ensures.items
          ∙ one_started c.loop-held.servers.items c.in-Ok.server (λ s. s.promise.start.value) c.in-Some.hand c.loop-held.hands.items c.pop_front.new.self.items c.args.hands.items p.items c.in-Ok.ensures.started i.starts;
      count = omega (arith, i.count, p.cases, c.push_reserved.ensures.len);
      room = (omega (arith, i.room.0, c.push_reserved.ensures.capacity), omega (arith, i.room.1, p.capacity));
    }

pub returns-in-Err-clause-room : goal.returns-in-Err-clause-room
returns-in-Err-clause-room g c =
    let i = c.loop-held.invariant in let p = c.in-Some.ensures in omega (arith, i.count, i.room.1, p.cases, p.capacity, c.push_front_reserved.ensures.len, c.push_front_reserved.ensures.capacity)

pub returns-in-Err-clause-hands : goal.returns-in-Err-clause-hands
returns-in-Err-clause-hands g c =
    refused_follows _ c.in-Some.hand c.in-Err.field-0.hand c.loop-held.hands.items c.pop_front.new.self.items c.push_front_reserved.new.self.items c.args.hands.items (numbers_of g.S.Seat.acts c.in-Err.field-0.kept.items)
    c.in-Some.ensures.items c.push_front_reserved.ensures.items c.loop-held.invariant.starts c.in-Err.ensures.refused
