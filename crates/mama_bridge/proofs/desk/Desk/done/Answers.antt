use Rattle.std.proofs.Common.{◌≡◌, ℕ, [], ◌++◌, cond, subst}
use Rattle.mama_event.specs.Ports.{queues_of}
use Rattle.mama_laws_bridge.specs.Table.{begins_settling, begins_ending}
use Rattle.mama_bridge.specs.Done.{said_by}
use Rattle.mama_bridge.specs.Links.{settle_outs}
use Rattle.mama_bridge.specs.Live.{EndsLive}
use Rattle.mama_bridge.proofs.Closing.{flag_stays, done_heard}
use Rattle.mama_bridge.proofs.Spellings.{Arrives}
use Rattle.mama_bridge.proofs.desk.Desk.done.Goals as goal

pub mark-requires : goal.mark-requires
mark-requires g c = flag_stays c.args.who c.args.self.now c.turn.new.self c.in_ok-turn.ensures.rest c.requires.who

pub returns-clause-ok : goal.returns-clause-ok
returns-clause-ok g c table s sound =
    let laws : Arrives = record { whole = c.packed_messages_arrive.ensures.whole; cut = c.packed_messages_arrive.ensures.cut; whole_replies = c.packed_messages_arrive.ensures.whole_replies; cut_replies = c.packed_messages_arrive.ensures.cut_replies } in
    let settles : c.begins-settles.result ≡ begins_settling table (said_by c.args.who) = cc in
    let ends : c.begins-ends.result ≡ begins_ending table (said_by c.args.who) = cc in
    let turned = c.in_ok-turn.ensures in
    let before = c.args.self.now in
    let out = subst (λ (n : ℕ). EndsLive {L = g.row.L.Denot} c.begins-ends.result n (queues_of c.args.shape.now) before.subs before.inboxes.links (c.args.out.now.items ++ cond c.begins-settles.result (settle_outs n) []) c.turn.new.out.items) c.requires.publishers
    (subst (λ (k : ℕ). EndsLive {L = g.row.L.Denot} c.begins-ends.result c.args.publishers k before.subs before.inboxes.links (c.args.out.now.items ++ cond c.begins-settles.result (settle_outs c.args.publishers) []) c.turn.new.out.items) c.queues.ensures turned.out) in
    done_heard g.L.Tagged.tagged laws c.args.shape.now table c.args.who before c.turn.new.self c.mark.new.self c.args.out.now.items c.turn.new.out.items c.begins-settles.result c.begins-ends.result
    s turned.subs turned.inboxes turned.slots out turned.rest c.mark.ensures settles ends
