use Rattle.std.proofs.Common.{ℕ, ◌+◌, ◌++◌, [], List, map, get_or, sym, subst}
use Rattle.std.specs.Global.{Vec}
use Rattle.mama_replay.specs.declared.step.Step.{Step}
use Rattle.mama_replay.specs.Dealt.{Dealt, client_dealt, clients_dealt}
use Rattle.mama_replay.proofs.Dealing.{dealt_more, dealt_as, numbers_more}
use Rattle.mama_replay.proofs.passes.deal_clients.Goals as goal

pub loop-c-preserved : goal.loop-c-preserved
loop-c-preserved c =
    let items = λ (pass : Vec Step). pass.items in
    let k = c.loop-c.c in
    let ranks = map (λ (own : Vec ℕ). own.items) c.args.ranks.now in
    let next = client_dealt k (get_or ranks k []) in
    let old = map items c.args.passes.now.items in
    let now = map items c.loop-c.passes.items in
    let new = map items c.deal_client.new.passes.items in
    let dealt = subst (λ (own : List ℕ). Dealt now new (client_dealt k own)) c.ranks_in.ensures c.in_ok-deal_client.ensures in
    dealt_as old new (clients_dealt ranks k ++ next) (clients_dealt ranks (k + 1)) (sym (numbers_more (λ (n : ℕ). client_dealt n (get_or ranks n [])) k))
    (dealt_more old now new (clients_dealt ranks k) next c.loop-c.invariant dealt)
