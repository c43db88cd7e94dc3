use Rattle.std.proofs.Common.{map, ◌++◌, refl, arith}
use Rattle.mama_work.specs.Serving.{numbers_of}
use Rattle.mama_work.proofs.AllHands.{placed_none, starts_popped, joined_placed, joined_keep}
use Rattle.mama_work.proofs.hands.join_serving.Goals as goal

pub loop-server-init : goal.loop-server-init
loop-server-init g c = record { room = c.requires.room; places = placed_none _; hands = λ holds weight. refl }

pub push_front_reserved-requires : goal.push_front_reserved-requires
push_front_reserved-requires g c = omega (arith, c.loop-server.invariant.room, c.in-Some.ensures.cases)

pub loop-server-preserved : goal.loop-server-preserved
loop-server-preserved g c =
    let i = c.loop-server.invariant in
    let all = map (λ s. s.promise.start.value) c.args.serving.servers.items ++ c.args.serving.hands.items in
    let numbers = numbers_of g.S.Seat.acts in
    let popped = starts_popped c.loop-server.servers.items c.pop.new.self.items c.in-Some.server (λ s. s.promise.start.value) c.in-Some.ensures.items in
    let pushed = c.push_front_reserved.ensures.items in record {
      room = omega (arith, i.room, c.in-Some.ensures.cases, c.push_front_reserved.ensures.len, c.push_front_reserved.ensures.capacity);
      places = joined_placed all _ _ c.in-Some.server.promise.start.value c.join-hand.result.0 c.loop-server.hands.items c.push_front_reserved.new.self.items popped pushed c.join-hand.ensures.place i.places;
      hands = λ holds. let both = c.hold_both-is_whole.ensures holds in
          joined_keep all _ _ c.in-Some.server.promise.start.value c.join-hand.result.0 c.loop-server.hands.items c.push_front_reserved.new.self.items popped pushed
          (numbers c.args.serving.kept.items) (numbers c.loop-server.kept.items) (numbers c.join-hand.new.kept.items) (c.join-hand.ensures.hand both.1).0 (i.hands both.0);
    }

pub loop-server-smaller : goal.loop-server-smaller
loop-server-smaller g c = omega (arith, c.in-Some.ensures.cases)
