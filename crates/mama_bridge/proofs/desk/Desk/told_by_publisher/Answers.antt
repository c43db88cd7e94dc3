use Rattle.std.specs.Result.{OnOk}
use Rattle.std.proofs.Common.{sym, subst, []}
use Rattle.std.proofs.lemmas.Result.{on_ok_weaker}
use Rattle.mama_event.specs.ToBridge.{note_of}
use Rattle.mama_event.specs.Wire.{market_of}
use Rattle.mama_event.specs.declared.to_bridge.ToBridge.{ToBridge}
use Rattle.mama_packet.specs.Packet.{message_of}
use Rattle.mama_rules_services.specs.Bridge.{from_publisher}
use Rattle.mama_bridge.specs.Desk.{Hears}
use Rattle.mama_bridge.proofs.desk.Desk.told_by_publisher.Goals as goal

pub returns-in_ok-piece_of-in-Publish-clause-ok : goal.returns-in_ok-piece_of-in-Publish-clause-ok
returns-in_ok-piece_of-in-Publish-clause-ok g c =
    subst (λ (e : ToBridge g.row.L.Denot). OnOk c.publish.result (Hears g.L.Tagged.tagged c.args.shape.now (from_publisher c.args.publisher (note_of g.L.Tagged.tagged e)) c.args.self.now c.publish.new.self c.args.out.now.items c.publish.new.out.items []))
    (sym c.in-Publish.is) (on_ok_weaker c.publish.result (λ h. h (market_of c.in-Publish.msg) c.in_ok-piece_of-in-Publish.ensures) c.publish.ensures.ok)

pub returns-in_ok-piece_of-in-Image-clause-ok : goal.returns-in_ok-piece_of-in-Image-clause-ok
returns-in_ok-piece_of-in-Image-clause-ok g c =
    subst (λ (e : ToBridge g.row.L.Denot). OnOk c.image.result (Hears g.L.Tagged.tagged c.args.shape.now (from_publisher c.args.publisher (note_of g.L.Tagged.tagged e)) c.args.self.now c.image.new.self c.args.out.now.items c.image.new.out.items []))
    (sym c.in-Image.is) (on_ok_weaker c.image.result (λ h. h c.args.shape.now (market_of c.in-Image.msg) c.in_ok-piece_of-in-Image.ensures) c.image.ensures.ok)

pub returns-in_ok-body_of-in-Reply-clause-ok : goal.returns-in_ok-body_of-in-Reply-clause-ok
returns-in_ok-body_of-in-Reply-clause-ok g c =
    subst (λ (e : ToBridge g.row.L.Denot). OnOk c.reply-in-Reply.result (Hears g.L.Tagged.tagged c.args.shape.now (from_publisher c.args.publisher (note_of g.L.Tagged.tagged e)) c.args.self.now c.reply-in-Reply.new.self c.args.out.now.items c.reply-in-Reply.new.out.items []))
    (sym c.in-Reply.is) (on_ok_weaker c.reply-in-Reply.result (λ h. h c.args.shape.now (message_of c.in-Reply.body) c.in_ok-body_of-in-Reply.ensures) c.reply-in-Reply.ensures.ok)
