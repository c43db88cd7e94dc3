use Rattle.std.proofs.Common.{ℕ, ◌≡◌, List, length, map, ap, sym, subst, ◌∙◌}
use Rattle.std.specs.Global.{Vec}
use Rattle.std.proofs.lemmas.List.{length-map}
use Rattle.mama_event.specs.declared.publisher_entry.PublisherEntry.{PublisherEntry}
use Rattle.mama_event.specs.declared.to_queue.QueueNote.{QueueNote}
use Rattle.mama_check.specs.declared.verdict.Actor.TheVariants as actor
use Rattle.mama_record.specs.RunView.{entries_of, events_of}
use Rattle.mama_replay.specs.declared.step.Step.{Step}
use Rattle.mama_replay.specs.Dealt.{Dealt, taker_dealt}
use Rattle.mama_replay.proofs.Dealing.{all_are_dealt}
use Rattle.mama_replay.proofs.passes.all_passes.Goals as goal

pub returns : goal.returns
returns c =
    let items = λ (pass : Vec Step). pass.items in
    let ranks = map (λ (own : Vec ℕ). own.items) c.args.ranks.now in
    let run = c.args.run.now in
    let none = map items c.new-passes.result.items in
    let two = map items c.deal_lines.new.passes.items in
    let three = map items c.deal_taker.new.passes.items in
    let four = map items c.deal_taker-2.new.passes.items in
    let five = map items c.deal_queues.new.passes.items in
    let entries = λ (journals : List (Vec PublisherEntry)). length-map journals (λ (es : Vec PublisherEntry). es.items) in
    let senders : length c.publishers.result.now ≡ length run.publishers = sym (entries c.publishers.result.now) ∙ ap (λ (es : List (List PublisherEntry)). length es) c.publishers.ensures in
    let count : length c.publishers-2.result.now ≡ length run.publishers = sym (entries c.publishers-2.result.now) ∙ ap (λ (es : List (List PublisherEntry)). length es) c.publishers-2.ensures in
    let queues : length c.queues.result.now ≡ length run.queues =
    sym (length-map c.queues.result.now (λ (es : Vec (ℕ × QueueNote)). es.items)) ∙ ap (λ (es : List (List (ℕ × QueueNote))). length es) c.queues.ensures in
    let of_bridge = subst (λ (own : List ℕ). Dealt two three (taker_dealt actor.Bridge own c.bridge.result.now)) c.ranks_in-own.ensures c.in_ok-deal_taker.ensures in
    let of_timers = subst (λ (own : List ℕ). Dealt three four (taker_dealt actor.Timers own c.timers.result.now)) c.ranks_in-own-2.ensures c.in_ok-deal_taker-2.ensures in
    all_are_dealt c.args.clients run ranks none two three four five (entries_of c.publishers-2.result.now) c.bridge.result.now c.timers.result.now (events_of c.queues.result.now)
    (length c.publishers-2.result.now) (length c.publishers.result.now) (length c.queues.result.now)
    (ap (map items) c.new-passes.ensures.items) c.publishers-2.ensures c.bridge.ensures c.timers.ensures c.queues.ensures count senders queues
    c.in_ok-deal_lines.ensures of_bridge of_timers c.in_ok-deal_queues.ensures
