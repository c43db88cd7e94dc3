use Rattle.std.proofs.Common.{refl, filter}
use Rattle.std.proofs.lemmas.Result.{on_ok_weaker, on_err_weaker}
use Rattle.mama_laws_bridge.specs.Table.{of_sub, sub_passed}
use Rattle.mama_bridge.specs.Links.{emit_outs}
use Rattle.mama_bridge.proofs.ByTopic.{stays_on, live_does, live_idle, found_on, found_none}
use Rattle.mama_bridge.proofs.live.Live.image.Goals as goal

pub returns-in-Some-clause-ok : goal.returns-in-Some-clause-ok
returns-in-Some-clause-ok g c =
    on_ok_weaker c.image_on.result
    (λ done. λ m same joined rows live alone. live_does (of_sub c.args.sub) (sub_passed m) (emit_outs m) (λ row. refl) c.in-Some.place.topic c.args.self.now _ c.args.out.now.items c.image_on.new.out.items refl (done m same) joined rows (found_on c.find.result c.in-Some.place (filter (of_sub c.args.sub) rows) c.in-Some.is (c.find.ensures joined rows live)) live alone)
    c.image_on.ensures.ok

pub returns-in-Some-clause-same : goal.returns-in-Some-clause-same
returns-in-Some-clause-same g c =
    on_err_weaker c.image_on.result (λ same. λ joined rows live. stays_on c.in-Some.place.topic c.args.self.now _ refl same joined rows live) c.image_on.ensures.seen

pub returns-in-None-clause-ok : goal.returns-in-None-clause-ok
returns-in-None-clause-ok g c m same joined rows live alone =
    live_idle (of_sub c.args.sub) (sub_passed m) (emit_outs m) c.args.self.now c.args.out.now.items joined rows (found_none c.args.sub c.find.result rows c.in-None.is (c.find.ensures joined rows live)) live
