use Rattle.std.proofs.Common.{ℕ, ◌+◌, ◌++◌, List, map, take, get_or, sym, subst, ap, take_all}
use Rattle.std.specs.Prelude.{Option, slice_get, option_map}
use Rattle.std.specs.Global.{Vec}
use Rattle.mama_replay.specs.declared.step.Step.{Step}
use Rattle.mama_replay.specs.Dealt.{Dealt, taker_step, taker_dealt}
use Rattle.mama_replay.proofs.Dealing.{dealt_more, dealt_as, taker_more}
use Rattle.mama_replay.proofs.passes.deal_taker.Goals as goal

pub loop-k-preserved : goal.loop-k-preserved
loop-k-preserved g c =
    let items = λ (pass : Vec Step). pass.items in
    let who = c.args.actor in
    let k = c.loop-k.k in
    let ranks = c.args.ranks.now in
    let journal = c.args.journal.now in
    let rank = get_or ranks k 0 in
    let so_far = taker_dealt who (take k ranks) journal in
    let next = taker_step who rank (option_map (λ e. e.0) (slice_get journal k)) in
    let old = map items c.args.passes.now.items in
    let now = map items c.loop-k.passes.items in
    let new = map items c.deal_taken.new.passes.items in
    let dealt = subst (λ (port : Option ℕ). Dealt now new (taker_step who rank port)) c.port_at.ensures c.in_ok-deal_taken.ensures in
    dealt_as old new (so_far ++ next) (taker_dealt who (take (k + 1) ranks) journal) (sym (taker_more who ranks journal k c.loop-k-test.true))
    (dealt_more old now new so_far next c.loop-k.invariant dealt)

pub returns : goal.returns
returns g c =
    let items = λ (pass : Vec Step). pass.items in
    let ranks = c.args.ranks.now in
    dealt_as (map items c.args.passes.now.items) (map items c.loop-k.passes.items) (taker_dealt c.args.actor (take c.loop-k.k ranks) c.args.journal.now) (taker_dealt c.args.actor ranks c.args.journal.now)
    (ap (λ (rs : List ℕ). taker_dealt c.args.actor rs c.args.journal.now) (take_all c.loop-k.k ranks c.loop-k-test.false)) c.loop-k.invariant
