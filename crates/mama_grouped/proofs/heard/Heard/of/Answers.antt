use Rattle.std.specs.List.{All, flat_map}
use Rattle.std.proofs.Common.{◌≡◌, ◌++◌, ◌∷◌, List, [], Some, map, rules, refl, sym, ap, ◌∙◌, append-nil, append_assoc, subst, arith}
use Rattle.std.proofs.lemmas.List.{nil_from_length, map-append}
use Rattle.std.proofs.lemmas.List.Concat.{flat_map-append}
use Rattle.std.proofs.lemmas.List.Elements.{All-pop}
use Rattle.mama_journal.specs.Journal.{numbers_below}
use Rattle.mama_plans.specs.Numbered.{lists_put}
use Rattle.mama_plans.proofs.NumberedLemmas.{put_more}
use Rattle.mama_grouped.specs.Closing.{lists_of, lists_in, AreBy}
use Rattle.mama_grouped.proofs.heard.Heard.of.Goals as goal

pub loop-seat-preserved : goal.loop-seat-preserved
loop-seat-preserved g c =
    let inv = c.loop-seat.invariant in
    let before = c.loop-seat.yielded in
    let seat = c.in-Some.seat in
    let rest = c.next.new.self.rest.items in
    let first : c.loop-seat.seat-iterator.rest.items ≡ seat ∷ rest = search rules in
    let start = map (λ n. (n, [])) (numbers_below c.args.count) in
    record {
      whole = append_assoc before (seat ∷ []) rest ∙ ap (λ xs. before ++ xs) (sym first) ∙ inv.whole;
      seats =
          ap (λ v. v.items) c.add.ensures.seats ∙ c.in_ok-push.ensures.items ∙ ap (λ xs. xs ++ seat.seat ∷ []) inv.seats
          ∙ sym (map-append (λ s. s.seat) before (seat ∷ []));
      lists =
          c.add.ensures.lists
          ∙ ap (λ ls. lists_put (lists_of seat.hearing) ls) inv.lists
          ∙ sym (put_more (flat_map lists_in before) (lists_of seat.hearing) start)
          ∙ ap (λ xs. lists_put xs start) (ap (λ xs. flat_map lists_in before ++ xs) (sym (append-nil (lists_of seat.hearing))) ∙ sym (flat_map-append lists_in before (seat ∷ [])));
      listeners = (λ by all.
          let both = All-pop (λ s. AreBy by s.hearing) (before ++ seat ∷ []) before (Some seat) refl all in
          c.add.ensures.listeners by both.1 (inv.listeners by both.0));
      long = c.add.ensures.long ∙ inv.long;
    }

pub loop-seat-init : goal.loop-seat-init
loop-seat-init g c = record {
  whole = search (c.into_iter-seat-iterator, rules);
  seats = c.in_ok-alone.ensures.items;
  lists = c.in_ok-lists.ensures;
  listeners = λ by all. c.in_ok-listeners.ensures.listeners by;
  long = c.in_ok-listeners.ensures.long;
}

pub returns-clause-seats : goal.returns-clause-seats
returns-clause-seats g c =
    let none : c.loop-seat.seat-iterator.rest.items ≡ [] = nil_from_length c.loop-seat.seat-iterator.rest.items (omega (arith, c.in-None.ensures.steps.0, c.loop-seat.seat-iterator.rest.ok.0)) in
    let same : c.args.seats.items ≡ c.loop-seat.yielded = sym (sym (append-nil c.loop-seat.yielded) ∙ ap (λ xs. c.loop-seat.yielded ++ xs) (sym none) ∙ c.loop-seat.invariant.whole) in
    c.loop-seat.invariant.seats ∙ ap (λ seats. map (λ s. s.seat) seats) (sym same)

pub returns-clause-lists : goal.returns-clause-lists
returns-clause-lists g c =
    let none : c.loop-seat.seat-iterator.rest.items ≡ [] = nil_from_length c.loop-seat.seat-iterator.rest.items (omega (arith, c.in-None.ensures.steps.0, c.loop-seat.seat-iterator.rest.ok.0)) in
    let same : c.args.seats.items ≡ c.loop-seat.yielded = sym (sym (append-nil c.loop-seat.yielded) ∙ ap (λ xs. c.loop-seat.yielded ++ xs) (sym none) ∙ c.loop-seat.invariant.whole) in
    c.loop-seat.invariant.lists ∙ ap (λ seats. lists_put (flat_map lists_in seats) (map (λ n. (n, [])) (numbers_below c.args.count))) (sym same)

pub returns-clause-listeners : goal.returns-clause-listeners
returns-clause-listeners g c = λ by all.
    let none : c.loop-seat.seat-iterator.rest.items ≡ [] = nil_from_length c.loop-seat.seat-iterator.rest.items (omega (arith, c.in-None.ensures.steps.0, c.loop-seat.seat-iterator.rest.ok.0)) in
    let same : c.args.seats.items ≡ c.loop-seat.yielded = sym (sym (append-nil c.loop-seat.yielded) ∙ ap (λ xs. c.loop-seat.yielded ++ xs) (sym none) ∙ c.loop-seat.invariant.whole) in
    c.loop-seat.invariant.listeners by (subst (All (λ s. AreBy by s.hearing)) same all)
