use Rattle.std.proofs.Common.{◌≡◌, List, [], ◌∷◌, ◌++◌, ap, ◌∙◌, rules, arith}
use Rattle.std.proofs.lemmas.List.{nil_from_length}
use Rattle.std.proofs.lemmas.List.Elements.{All-nil, All-push, All-same}
use Rattle.mama_work.proofs.Lists.{whole_more, whole_all}
use Rattle.mama_work.proofs.hands.into_seats.Goals as goal

pub loop-dispatcher-init : goal.loop-dispatcher-init
loop-dispatcher-init g c =
    let P = g.S.Seat.sits c.args.shared.now.script.now c.args.shared.now.hall.now in
    let same : c.into_iter-dispatcher-iterator.result.rest.items ≡ c.args.dispatchers.items = search rules in
    record { whole = same; sits = All-same P c.new-seats.result.items [] c.new-seats.ensures.items (All-nil P); all = c.new-seats.ensures.items }

pub loop-dispatcher-preserved : goal.loop-dispatcher-preserved
loop-dispatcher-preserved g c =
    let P = g.S.Seat.sits c.args.shared.now.script.now c.args.shared.now.hall.now in
    let i = c.loop-dispatcher.invariant in let e = c.into_seat.ensures in let s = c.into_seat.result in
    let first : c.loop-dispatcher.dispatcher-iterator.rest.items ≡ c.in-Some.dispatcher ∷ c.next.new.self.rest.items = search rules in
    record {
      whole = whole_more c.loop-dispatcher.yielded c.in-Some.dispatcher c.loop-dispatcher.dispatcher-iterator.rest.items c.next.new.self.rest.items c.args.dispatchers.items first i.whole;
      sits = All-same P c.push.new.self.items _ c.in_ok-push.ensures.items (All-push P c.loop-dispatcher.seats.items s i.sits (c.requires s e.crew));
      all = c.in_ok-push.ensures.items ∙ (ap (λ (xs : List g.row.S.Denot). xs ++ s ∷ []) i.all ∙ ap (λ (x : g.row.S.Denot). c.loop-dispatcher.yielded ++ x ∷ []) e.seat);
    }

pub returns-clause-sits : goal.returns-clause-sits
returns-clause-sits g c = c.loop-dispatcher.invariant.sits

pub returns-clause-all : goal.returns-clause-all
returns-clause-all g c =
    let i = c.loop-dispatcher.invariant in
    let none : c.loop-dispatcher.dispatcher-iterator.rest.items ≡ [] = nil_from_length c.loop-dispatcher.dispatcher-iterator.rest.items (omega (arith, c.in-None.ensures.steps.0, c.loop-dispatcher.dispatcher-iterator.rest.ok.0)) in
    let same = whole_all c.loop-dispatcher.yielded c.loop-dispatcher.dispatcher-iterator.rest.items c.args.dispatchers.items none i.whole in
    i.all ∙ same
