use Rattle.std.specs.List.{All}
use Rattle.std.proofs.Common.{◌≡◌, List, [], ◌∷◌, sym, subst, rules, arith}
use Rattle.std.proofs.lemmas.List.{nil_from_length}
use Rattle.std.proofs.lemmas.List.Elements.{All-head, All-tail}
use Rattle.mama_work.specs.Dispatcher.{queue_number}
use Rattle.mama_work.specs.Serving.{AllFollow, numbers_of}
use Rattle.mama_work.proofs.Lists.{whole_more, whole_all}
use Rattle.mama_work.proofs.AllHands.{all_none, one_dealt}
use Rattle.mama_work.proofs.hands.deal_out.Goals as goal

pub loop-seat-init : goal.loop-seat-init
loop-seat-init g c =
    let same : c.into_iter-seat-iterator.result.rest.items ≡ c.args.queues.items = search rules in
    record { whole = same; rest = subst (All g.K.Crew.has) (sym same) c.requires; dealt = all_none c.args.hands.items [] }

pub deal-requires : goal.deal-requires
deal-requires g c =
    let first : c.loop-seat.seat-iterator.rest.items ≡ c.in-Some.seat ∷ c.next.new.self.rest.items = search rules in
    All-head g.K.Crew.has c.in-Some.seat c.next.new.self.rest.items (subst (All g.K.Crew.has) first c.loop-seat.invariant.rest)

pub loop-seat-preserved : goal.loop-seat-preserved
loop-seat-preserved g c =
    let acts = g.S.Seat.acts in
    let first : c.loop-seat.seat-iterator.rest.items ≡ c.in-Some.seat ∷ c.next.new.self.rest.items = search rules in
    record {
      whole = whole_more c.loop-seat.yielded c.in-Some.seat c.loop-seat.seat-iterator.rest.items c.next.new.self.rest.items c.args.queues.items first c.loop-seat.invariant.whole;
      rest = All-tail g.K.Crew.has c.in-Some.seat c.next.new.self.rest.items (subst (All g.K.Crew.has) first c.loop-seat.invariant.rest);
      dealt = one_dealt {S = g.row.S.Denot} c.loop-seat.yielded c.in-Some.seat (λ (s : g.row.S.Denot). queue_number (acts s)) c.args.hands.items c.loop-seat.hands.items c.deal.new.hands.items c.loop-seat.invariant.dealt c.in_ok-deal.ensures;
    }

pub returns : goal.returns
returns g c =
    let none : c.loop-seat.seat-iterator.rest.items ≡ [] = nil_from_length c.loop-seat.seat-iterator.rest.items (omega (arith, c.in-None.ensures.steps.0, c.loop-seat.seat-iterator.rest.ok.0)) in
    let same = whole_all c.loop-seat.yielded c.loop-seat.seat-iterator.rest.items c.args.queues.items none c.loop-seat.invariant.whole in
    subst (λ (xs : List g.row.S.Denot). AllFollow c.args.hands.items c.loop-seat.hands.items (numbers_of g.S.Seat.acts xs) []) same c.loop-seat.invariant.dealt
