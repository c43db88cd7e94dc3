use Rattle.std.specs.Prelude.{slice_get}
use Rattle.std.proofs.Common.{◌≡◌, ℕ, ◌+◌, ◌<◌, List, [], ◌∷◌, ◌++◌, length, map, take, get_or, set, Option, Vec, Global, sym, ◌∙◌, ap, subst, arith}
use Rattle.std.proofs.lemmas.List.{length-map, length-set, map-set, get_or-map}
use Rattle.mama_check_order.specs.Search.{entries_of}
use Rattle.mama_check_order.specs.declared.order.Need.{Need}
use Rattle.mama_check_order.proofs.Searches.{exists}
use Rattle.mama_replay.specs.Ranks.{ranks_at, after_own, after_need, later, IsRanked, AreRanks}
use Rattle.mama_replay.proofs.Ranking.{HasTurn, turn_of_order, within_some, same_some, met_is_ranked, ranks_more, take_next}
use Rattle.mama_replay.proofs.ranks.ranks_of.Goals as goal

abbrev needs_in : List (Vec (Option Need) Global) → List (List (Option Need))
needs_in needs = map (λ actor. actor.items) needs

abbrev ranks_in : List (Vec ℕ Global) → List (List ℕ)
ranks_in ranks = map (λ own. own.items) ranks

-- an actor that has an entry is there
there : (needs : List (Vec (Option Need) Global)) (turns : List ℕ) (a : ℕ) → HasTurn (needs_in needs) turns a → a < length needs
there needs turns a h = let inside = exists (needs_in needs) a _ (within_some (entries_of (needs_in needs) a) _ h.need h.next) in omega (arith, length-map needs (λ actor. actor.items))

pub next_rank-rank-requires-clause-actor : goal.next_rank-rank-requires-clause-actor
next_rank-rank-requires-clause-actor c =
    let i = c.loop-actor.actor-index in
    there c.args.needs.now (take i c.args.turns.now) (get_or c.args.turns.now i 0) (turn_of_order (needs_in c.args.needs.now) c.args.turns.now i c.requires.follow c.loop-actor-test.true)

pub next_rank-rank-requires-clause-next : goal.next_rank-rank-requires-clause-next
next_rank-rank-requires-clause-next c =
    let i = c.loop-actor.actor-index in
    let a = get_or c.args.turns.now i 0 in
    let h = turn_of_order (needs_in c.args.needs.now) c.args.turns.now i c.requires.follow c.loop-actor-test.true in
    let count = c.loop-actor.invariant.ranked.as_many a in
    subst (λ (rs : List (Vec ℕ Global)). length (ranks_at (ranks_in rs) a) < length (entries_of (needs_in c.args.needs.now) a)) (sym c.deref.ensures.value)
    (subst (λ (n : ℕ). n < length (entries_of (needs_in c.args.needs.now) a)) (sym count) (within_some (entries_of (needs_in c.args.needs.now) a) _ h.need h.next))

pub next_rank-rank-requires-clause-needed : goal.next_rank-rank-requires-clause-needed
next_rank-rank-requires-clause-needed c =
    let i = c.loop-actor.actor-index in
    let a = get_or c.args.turns.now i 0 in
    let needs = needs_in c.args.needs.now in
    let h = turn_of_order needs c.args.turns.now i c.requires.follow c.loop-actor-test.true in
    let count = c.loop-actor.invariant.ranked.as_many a in
    λ need at.
    let here = ap (λ (n : ℕ). slice_get (entries_of needs a) n) (sym (ap (λ (rs : List (Vec ℕ Global)). length (ranks_at (ranks_in rs) a)) c.deref.ensures.value ∙ count)) ∙ at in
    let same : h.need ≡ need = same_some h.need need (sym h.next ∙ here) in
    subst (λ (rs : List (Vec ℕ Global)). IsRanked (ranks_in rs) need) (sym c.deref.ensures.value)
    (subst (λ (o : Option Need). IsRanked (ranks_in c.loop-actor.ranks.items) o) same (met_is_ranked needs (take i c.args.turns.now) (ranks_in c.loop-actor.ranks.items) h.need c.loop-actor.invariant.ranked h.met))

pub index_mut-own-requires : goal.index_mut-own-requires
index_mut-own-requires c =
    let i = c.loop-actor.actor-index in
    let inside = there c.args.needs.now (take i c.args.turns.now) (get_or c.args.turns.now i 0) (turn_of_order (needs_in c.args.needs.now) c.args.turns.now i c.requires.follow c.loop-actor-test.true) in
    omega (arith, inside, c.loop-actor.invariant.as_many)

pub loop-actor-preserved : goal.loop-actor-preserved
loop-actor-preserved c =
    let i = c.loop-actor.actor-index in
    let turns = c.args.turns.now in
    let a = get_or turns i 0 in
    let needs = needs_in c.args.needs.now in
    let ranks = c.loop-actor.ranks.items in
    let h = turn_of_order needs turns i c.requires.follow c.loop-actor-test.true in
    let inside : a < length ranks = let low = there c.args.needs.now (take i turns) a h in omega (arith, low, c.loop-actor.invariant.as_many) in
    let within : a < length (ranks_in ranks) = omega (arith, inside, length-map ranks (λ own. own.items)) in
    let count = c.loop-actor.invariant.ranked.as_many a in
    let now : length (ranks_at (ranks_in c.deref.result.now) a) ≡ length (ranks_at (ranks_in ranks) a) = ap (λ (rs : List (Vec ℕ Global)). length (ranks_at (ranks_in rs) a)) c.deref.ensures.value in
    let next = ap (λ (n : ℕ). slice_get (entries_of needs a) n) count ∙ h.next in
    let rank = c.next_rank-rank.ensures h.need (ap (λ (n : ℕ). slice_get (entries_of needs a) n) now ∙ next)
    ∙ ap (λ (rs : List (Vec ℕ Global)). later (after_need (ranks_in rs) a h.need) (after_own (ranks_at (ranks_in rs) a) (length (ranks_at (ranks_in rs) a)))) c.deref.ensures.value in
    let old : c.index_mut-own.result.now.items ≡ get_or (ranks_in ranks) a [] = ap (λ (v : Vec ℕ Global). v.items) c.index_mut-own.ensures.value ∙ sym (get_or-map (λ own. own.items) ranks a c.index_mut-own.result.now [] inside) in
    let grown = c.in_ok-push.ensures.items ∙ ap (λ (xs : List ℕ). xs ++ c.next_rank-rank.result ∷ []) old in
    record {
      as_many = length-set ranks a c.push.new.self ∙ c.loop-actor.invariant.as_many;
      ranked = subst (λ (ts : List ℕ). AreRanks needs ts (ranks_in (set ranks a c.push.new.self))) (sym (take_next turns i c.loop-actor-test.true))
          (subst (AreRanks needs (take i turns ++ a ∷ [])) (sym (map-set (λ own. own.items) ranks a c.push.new.self ∙ ap (set (ranks_in ranks) a) grown))
          (ranks_more needs (take i turns) (ranks_in ranks) a c.next_rank-rank.result h.need c.loop-actor.invariant.ranked within next
          (met_is_ranked needs (take i turns) (ranks_in ranks) h.need c.loop-actor.invariant.ranked h.met) rank));
    }
