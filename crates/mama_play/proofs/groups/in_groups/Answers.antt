use Rattle.std.specs.List.{All}
use Rattle.std.proofs.Common.{◌≡◌, ◌∷◌, rules, sym, subst}
use Rattle.std.proofs.lemmas.List.Elements.{All-head, All-tail, All-nil, All-same}
use Rattle.mama_shown.specs.Seat.{IsSeatOf}
use Rattle.mama_play.proofs.groups.in_groups.Goals as goal

pub loop-seat-init : goal.loop-seat-init
loop-seat-init g c =
    let P = IsSeatOf c.args.script.now c.args.hall.now in
    let same : c.into_iter-seat-iterator.result.rest.items ≡ c.args.seats.items = search rules in
    record { rest = subst (All P) (sym same) c.requires; groups = c.in_ok-groups.ensures.seats; queues = All-same P c.new-queues.result.items _ c.new-queues.ensures.items (All-nil P) }

pub add-requires : goal.add-requires
add-requires g c =
    let first : c.loop-seat.seat-iterator.rest.items ≡ c.in-Some.seat ∷ c.next.new.self.rest.items = search rules in
    let P = IsSeatOf c.args.script.now c.args.hall.now in
    record { groups = c.loop-seat.invariant.groups; queues = c.loop-seat.invariant.queues; seat = All-head P c.in-Some.seat c.next.new.self.rest.items (subst (All P) first c.loop-seat.invariant.rest) }

pub loop-seat-preserved : goal.loop-seat-preserved
loop-seat-preserved g c =
    let first : c.loop-seat.seat-iterator.rest.items ≡ c.in-Some.seat ∷ c.next.new.self.rest.items = search rules in
    let P = IsSeatOf c.args.script.now c.args.hall.now in
    record { rest = All-tail P c.in-Some.seat c.next.new.self.rest.items (subst (All P) first c.loop-seat.invariant.rest); groups = c.in_ok-add.ensures.groups; queues = c.in_ok-add.ensures.queues }

pub returns-clause-groups : goal.returns-clause-groups
returns-clause-groups g c = c.loop-seat.invariant.groups

pub returns-clause-queues : goal.returns-clause-queues
returns-clause-queues g c = c.loop-seat.invariant.queues
