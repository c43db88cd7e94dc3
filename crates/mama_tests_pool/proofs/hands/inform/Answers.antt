use Rattle.std.proofs.Common.{◌≡◌, length, get_or, set, sym, ap, ◌∙◌, arith}
use Rattle.std.proofs.lemmas.List.{length-set, get_or-set_other}
use Rattle.mama_pool.specs.Values.{HandValue, places_of}
use Rattle.mama_pool.proofs.Pools.{pool_set, pool_told}
use Rattle.mama_tests_pool.proofs.hands.inform.Goals as goal

pub learn-requires-clause-from : goal.learn-requires-clause-from
learn-requires-clause-from g c =
    let hands = c.args.hands.now.items in let h = c.index_mut.result.now in let x = c.index_mut-2.result.now in
    let l = length-set hands c.args.from c.tell.new.self in
    let read : x ≡ get_or hands c.args.to x = c.index_mut-2.ensures.value ∙ get_or-set_other hands c.args.from c.args.to c.tell.new.self x (λ e. c.requires.apart (sym e)) in
    (pool_told hands c.args.from c.args.to h x c.in_ok-note.note c.requires.pool c.requires.hands.0 c.requires.hands.1 c.requires.apart c.index_mut.ensures.value read c.in_ok-note.ensures.note).0

pub learn-requires-clause-note : goal.learn-requires-clause-note
learn-requires-clause-note g c =
    let hands = c.args.hands.now.items in let h = c.index_mut.result.now in let x = c.index_mut-2.result.now in
    let read : x ≡ get_or hands c.args.to x = c.index_mut-2.ensures.value ∙ get_or-set_other hands c.args.from c.args.to c.tell.new.self x (λ e. c.requires.apart (sym e)) in
    (pool_told hands c.args.from c.args.to h x c.in_ok-note.note c.requires.pool c.requires.hands.0 c.requires.hands.1 c.requires.apart c.index_mut.ensures.value read c.in_ok-note.ensures.note).1

pub returns-clause-pool : goal.returns-clause-pool
returns-clause-pool g c =
    let hands = c.args.hands.now.items in let h = c.index_mut.result.now in let x = c.index_mut-2.result.now in let same = c.tell.ensures.same in
    let l = length-set hands c.args.from c.tell.new.self in let b = c.requires.hands.1 in
    pool_set (set hands c.args.from c.tell.new.self) c.args.to x c.learn.new.self
    (pool_set hands c.args.from h c.tell.new.self c.requires.pool c.requires.hands.0 c.index_mut.ensures.value (ap (λ (u : HandValue). u.number) same, ap places_of same))
    (omega arith) c.index_mut-2.ensures.value c.learn.ensures.places
