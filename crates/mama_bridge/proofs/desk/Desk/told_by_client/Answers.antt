use Rattle.std.specs.Result.{OnOk}
use Rattle.std.proofs.Common.{sym, subst, []}
use Rattle.std.proofs.lemmas.Result.{on_ok_weaker}
use Rattle.mama_event.specs.ToBridge.{note_of}
use Rattle.mama_event.specs.declared.to_bridge.ToBridge.{ToBridge}
use Rattle.mama_rules_services.specs.Bridge.{from_client}
use Rattle.mama_bridge.specs.Desk.{Hears}
use Rattle.mama_bridge.proofs.desk.Desk.told_by_client.Goals as goal

pub returns-in-Leave-clause-ok : goal.returns-in-Leave-clause-ok
returns-in-Leave-clause-ok g c =
    subst (λ (e : ToBridge g.row.L.Denot). OnOk c.leave.result (Hears g.L.Tagged.tagged c.args.shape.now (from_client c.args.client (note_of g.L.Tagged.tagged e)) c.args.self.now c.leave.new.self c.args.out.now.items c.leave.new.out.items []))
    (sym c.in-Leave.is) (on_ok_weaker c.leave.result (λ h. h c.args.shape.now) c.leave.ensures.ok)

pub returns-in-CloseInbox-clause-ok : goal.returns-in-CloseInbox-clause-ok
returns-in-CloseInbox-clause-ok g c =
    subst (λ (e : ToBridge g.row.L.Denot). OnOk c.close.result (Hears g.L.Tagged.tagged c.args.shape.now (from_client c.args.client (note_of g.L.Tagged.tagged e)) c.args.self.now c.close.new.self c.args.out.now.items c.close.new.out.items []))
    (sym c.in-CloseInbox.is) (on_ok_weaker c.close.result (λ h. h c.args.shape.now) c.close.ensures.ok)
