use Rattle.std.proofs.Common.{ℕ, ◌≡◌, ◌+◌, ◌++◌, [], List, map, get_or, sym, subst, ◌∙◌}
use Rattle.std.specs.Global.{Vec}
use Rattle.mama_event.specs.declared.to_queue.QueueNote.{QueueNote}
use Rattle.mama_check.specs.declared.verdict.Actor.TheVariants as actor
use Rattle.mama_record.specs.RunView.{events_of}
use Rattle.mama_replay.specs.declared.step.Step.{Step}
use Rattle.mama_replay.specs.Dealt.{Dealt, taker_dealt, queues_dealt}
use Rattle.mama_replay.proofs.Dealing.{dealt_more, dealt_as, numbers_more, listed}
use Rattle.mama_replay.proofs.passes.deal_queues.Goals as goal

pub loop-q-preserved : goal.loop-q-preserved
loop-q-preserved c =
    let items = λ (pass : Vec Step). pass.items in
    let k = c.loop-q.q in
    let first = c.args.first in
    let ranks = map (λ (own : Vec ℕ). own.items) c.args.ranks.now in
    let journals = events_of c.args.journals.now in
    let next = taker_dealt (actor.Queue k) (get_or ranks (first + k) []) (get_or journals k []) in
    let old = map items c.args.passes.now.items in
    let now = map items c.loop-q.passes.items in
    let new = map items c.deal_taker.new.passes.items in
    let journal : c.as_slice.result.now ≡ get_or journals k [] = c.as_slice.ensures.value ∙ listed c.args.journals.now k c.index-journals-q.result c.loop-q-test.true c.index-journals-q.is in
    let dealt = subst (λ (own : List ℕ). Dealt now new (taker_dealt (actor.Queue k) own (get_or journals k []))) c.ranks_in-own.ensures
    (subst (λ (es : List (ℕ × QueueNote)). Dealt now new (taker_dealt (actor.Queue k) c.ranks_in-own.result.now es)) journal c.in_ok-deal_taker.ensures) in
    dealt_as old new (queues_dealt ranks first journals k ++ next) (queues_dealt ranks first journals (k + 1))
    (sym (numbers_more (λ (n : ℕ). taker_dealt (actor.Queue n) (get_or ranks (first + n) []) (get_or journals n [])) k))
    (dealt_more old now new (queues_dealt ranks first journals k) next c.loop-q.invariant dealt)
