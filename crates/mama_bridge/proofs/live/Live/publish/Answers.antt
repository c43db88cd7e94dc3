use Rattle.std.proofs.Common.{refl}
use Rattle.std.proofs.lemmas.Result.{on_ok_weaker, on_err_weaker}
use Rattle.mama_laws_bridge.specs.Table.{sub_passed}
use Rattle.mama_bridge.specs.Links.{emit_outs, row_is_on}
use Rattle.mama_bridge.proofs.ByTopic.{each_filter, stays_on, live_does}
use Rattle.mama_bridge.proofs.live.Live.publish.Goals as goal

pub returns-clause-ok : goal.returns-clause-ok
returns-clause-ok g c =
    on_ok_weaker c.publish_on.result
    (λ done. λ m same joined rows live alone. live_does (row_is_on c.args.topic) (sub_passed m) (emit_outs m) (λ row. refl) c.args.topic c.args.self.now _ c.args.out.now.items c.publish_on.new.out.items refl (done m same) joined rows (each_filter (row_is_on c.args.topic) rows) live alone)
    c.publish_on.ensures.ok

pub returns-clause-same : goal.returns-clause-same
returns-clause-same g c =
    on_err_weaker c.publish_on.result (λ same. λ joined rows live. stays_on c.args.topic c.args.self.now _ refl same joined rows live) c.publish_on.ensures.seen
