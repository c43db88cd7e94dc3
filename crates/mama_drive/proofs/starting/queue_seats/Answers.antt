use Rattle.std.specs.Arc.{arc_value}
use Rattle.std.specs.Global.{Vec}
use Rattle.std.specs.List.{AllByRecursion}
use Rattle.std.proofs.Common.{◌≡◌, ℕ, ◌++◌, ◌∷◌, List, length, map, rules, sym, ap, subst, ◌∙◌, arith}
use Rattle.mama_event.specs.declared.group.GroupRow.{GroupRow}
use Rattle.mama_event.specs.declared.watch.WatchRow.{WatchRow}
use Rattle.mama_seats.specs.Server.{Server}
use Rattle.mama_seats.specs.Heard.{IsGroupList}
use Rattle.mama_timeout.specs.Table.{AreApart}
use Rattle.mama_drive.specs.Start.{new_servers}
use Rattle.mama_drive.proofs.StartLemmas.{seat_next}
use Rattle.mama_drive.proofs.starting.queue_seats.Goals as goal

pub new-requires-clause-groups : goal.new-requires-clause-groups
new-requires-clause-groups c =
    let first : c.loop-list.list-iterator.rest.items ≡ c.in-Some.list ∷ c.next.new.self.rest.items = search rules in
    (subst (AllByRecursion (λ (list : Vec (ℕ × GroupRow)). IsGroupList list.items)) first c.loop-list.invariant.groups).0

pub new-requires-clause-watches : goal.new-requires-clause-watches
new-requires-clause-watches c =
    let second : c.loop-list.left.rest.items ≡ c.in-Some-next.rows ∷ c.next-in-loop-list.new.self.rest.items = search rules in
    (subst (AllByRecursion (λ (list : Vec (ℕ × WatchRow)). AreApart list.items)) second c.loop-list.invariant.watches).0

pub loop-list-preserved : goal.loop-list-preserved
loop-list-preserved c =
    let inv = c.loop-list.invariant in
    let groups : List (Vec (ℕ × GroupRow)) → List (List (ℕ × GroupRow)) = map (λ (list : Vec (ℕ × GroupRow)). list.items) in
    let watches : List (Vec (ℕ × WatchRow)) → List (List (ℕ × WatchRow)) = map (λ (list : Vec (ℕ × WatchRow)). list.items) in
    let rest = c.next.new.self.rest.items in
    let left = c.next-in-loop-list.new.self.rest.items in
    let first : c.loop-list.list-iterator.rest.items ≡ c.in-Some.list ∷ rest = search rules in
    let second : c.loop-list.left.rest.items ≡ c.in-Some-next.rows ∷ left = search rules in
    let one = ap length first in
    let two = ap length second in
    let plans = arc_value c.args.plans.now in
    record {
      paired = omega (arith, one, two, inv.paired);
      groups = (subst (AllByRecursion (λ (list : Vec (ℕ × GroupRow)). IsGroupList list.items)) first inv.groups).1;
      watches = (subst (AllByRecursion (λ (list : Vec (ℕ × WatchRow)). AreApart list.items)) second inv.watches).1;
      whole =
          ap (λ (ss : List Server). ss ++ new_servers plans (groups rest) (watches left)) c.in_ok-push.ensures.items
          ∙ seat_next plans (arc_value c.in_ok-shared.shared) c.loop-list.seats.items c.in_ok-seat.seat c.in-Some.list.items c.in-Some-next.rows.items (groups rest) (watches left)
          (new_servers plans (groups c.args.groups.items) (watches c.args.watches.items)) c.in_ok-seat.ensures c.in_ok-shared.ensures
          (ap (λ gs. c.loop-list.seats.items ++ new_servers plans (groups gs) (watches (c.in-Some-next.rows ∷ left))) (sym first)
          ∙ ap (λ ws. c.loop-list.seats.items ++ new_servers plans (groups c.loop-list.list-iterator.rest.items) (watches ws)) (sym second)
          ∙ inv.whole);
    }
