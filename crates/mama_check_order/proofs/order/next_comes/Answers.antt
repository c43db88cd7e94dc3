use Rattle.std.proofs.Common.{◌≡◌, ℕ, ◌+◌, ◌<◌, List, [], length, map, get_or, set, Option, Vec, Global, arith, sym, ap, subst, get_or-set_same, get_or-set_other}
use Rattle.std.proofs.lemmas.List.{length-map}
use Rattle.mama_check_order.specs.Search.{IsReached, NoneIsAsked}
use Rattle.mama_check_order.specs.declared.order.Need.{Need}
use Rattle.mama_check_order.proofs.Orders.{reached_more, goes_more}
use Rattle.mama_check_order.proofs.Searches.{IsSearch, countable, exists, search_asks, search_asker, search_answers, search_ends, asked_apart, most_stuck, left_less, free, free_more}
use Rattle.mama_check_order.proofs.order.next_comes.Goals as goal

abbrev needs_in : List (Vec (Option Need) Global) → List (List (Option Need))
needs_in needs = map (λ actor. actor.items) needs

there : (needs : List (Vec (Option Need) Global)) (a n : ℕ) → n < length (get_or (needs_in needs) a []) → a < length needs
there needs a n h = let inside = exists (needs_in needs) a n h in omega (arith, length-map needs (λ actor. actor.items))

pub overflow_add-made : goal.overflow_add-made
overflow_add-made c =
    let few = countable c.args.needs.now c.loop-made.actor (get_or c.loop-made.made c.loop-made.actor 0) c.loop-made.invariant.next in
    omega arith

pub returns-in-None-take-clause-reached : goal.returns-in-None-take-clause-reached
returns-in-None-take-clause-reached c =
    subst (IsReached (needs_in c.args.needs.now) (set c.loop-made.made c.loop-made.actor (get_or c.loop-made.made c.loop-made.actor 0 + 1))) (sym c.in_ok-push-in-None.ensures.items)
    (reached_more (needs_in c.args.needs.now) c.loop-made.made c.loop-made.turns.items c.loop-made.actor (omega arith) c.loop-made.invariant.reached c.in-None.ensures.none)

pub returns-in-None-take-clause-none : goal.returns-in-None-take-clause-none
returns-in-None-take-clause-none c =
    let ends = search_ends (needs_in c.args.needs.now) c.loop-made.made c.loop-made.askers c.args.wanted c.loop-made.actor c.loop-made.invariant.search (sym c.in-None-take.ensures.value) in
    subst (λ (o : Option ℕ). NoneIsAsked (set c.loop-made.askers c.loop-made.actor o)) (sym c.take.ensures.after) ends.1

pub returns-in-None-take-clause-comes : goal.returns-in-None-take-clause-comes
returns-in-None-take-clause-comes c =
    let made = c.loop-made.made in
    let next = get_or made c.loop-made.actor 0 + 1 in
    let is : c.loop-made.actor ≡ c.args.wanted = (search_ends (needs_in c.args.needs.now) made c.loop-made.askers c.args.wanted c.loop-made.actor c.loop-made.invariant.search (sym c.in-None-take.ensures.value)).0 in
    let inside : c.loop-made.actor < length made = omega arith in
    let before = c.loop-made.invariant.goes_on c.args.wanted in
    let was = ap (λ (x : ℕ). get_or made x 0) is in
    let now = get_or-set_same made c.loop-made.actor next 0 inside in
    let at = ap (λ (x : ℕ). get_or (set made c.loop-made.actor next) x 0) is in
    omega arith

pub loop-made-smaller-in-Some-take : goal.loop-made-smaller-in-Some-take
loop-made-smaller-in-Some-take c =
    let inside : c.loop-made.actor < length c.loop-made.askers = omega arith in
    let less = left_less (needs_in c.args.needs.now) c.loop-made.made c.loop-made.actor (omega arith) c.loop-made.invariant.next in
    let more = free_more c.loop-made.askers c.loop-made.actor inside in
    let same = ap (λ (o : Option ℕ). free (set c.loop-made.askers c.loop-made.actor o)) c.take.ensures.after in
    omega arith

pub loop-made-preserved-in-Some-take : goal.loop-made-preserved-in-Some-take
loop-made-preserved-in-Some-take c =
    let needs = needs_in c.args.needs.now in
    let made = c.loop-made.made in
    let askers = c.loop-made.askers in
    let next = get_or made c.loop-made.actor 0 + 1 in
    let asker = c.in-Some-take.asker in
    let inv = c.loop-made.invariant in
    let is = sym c.in-Some-take.ensures.value in
    let short = search_asker needs made askers c.args.wanted c.loop-made.actor asker next inv.search is in
    record {
      inside = there c.args.needs.now asker (get_or (set made c.loop-made.actor next) asker 0) short;
      next = short;
      search = subst (λ (o : Option ℕ). IsSearch needs (set made c.loop-made.actor next) (set askers c.loop-made.actor o) c.args.wanted asker) (sym c.take.ensures.after)
          (search_answers needs made askers c.args.wanted c.loop-made.actor asker next inv.search is);
      reached = subst (IsReached needs (set made c.loop-made.actor next)) (sym c.in_ok-push-in-None.ensures.items) (reached_more needs made c.loop-made.turns.items c.loop-made.actor (omega arith) inv.reached c.in-None.ensures.none);
      goes_on = goes_more c.args.made.now made c.loop-made.actor (omega arith) inv.goes_on;
      wanted = subst (λ (n : ℕ). n < length (get_or needs c.args.wanted []))
          (sym (get_or-set_other made c.loop-made.actor c.args.wanted next 0 (λ same. asked_apart needs made askers c.args.wanted c.loop-made.actor asker inv.search is (sym same)))) inv.wanted;
    }

pub returns-then-not-may_ask-clause-stuck : goal.returns-then-not-may_ask-clause-stuck
returns-then-not-may_ask-clause-stuck c =
    most_stuck (needs_in c.args.needs.now) c.loop-made.made c.loop-made.askers c.args.wanted c.loop-made.actor c.in-Some.need c.loop-made.invariant.search c.in-Some.ensures.some c.if-not-may_ask.ensures.not

pub loop-made-preserved : goal.loop-made-preserved
loop-made-preserved c =
    let may = c.if-not-may_ask.ensures in
    let need = c.in-Some.need in
    let lacks = c.in-Some.ensures.some in
    let least = lacks.missing in
    record {
      inside = may.actor;
      next = omega (arith, may.entry);
      search = search_asks (needs_in c.args.needs.now) c.loop-made.made c.loop-made.askers c.args.wanted c.loop-made.actor need c.loop-made.invariant.search lacks (omega (arith, may.actor)) may.other may.free;
      reached = c.loop-made.invariant.reached;
      goes_on = c.loop-made.invariant.goes_on;
      wanted = c.loop-made.invariant.wanted;
    }
