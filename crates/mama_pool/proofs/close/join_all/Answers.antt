use Rattle.std.proofs.Common.{sym, ap, ◌∙◌}
use Rattle.mama_pool.specs.declared.view.View.{View}
use Rattle.mama_pool.specs.declared.view.Count.{Count}
use Rattle.mama_pool.specs.Steps.{joined, added, share_view, share_count}
use Rattle.mama_pool.proofs.Joins.{joined_last, added_last}
use Rattle.mama_pool.proofs.close.join_all.Goals as goal

pub loop-share-preserved : goal.loop-share-preserved
loop-share-preserved g c =
    let i = c.loop-share.invariant in let j = c.join.ensures in record {
      home = (j.home.0 ∙ i.home.0, j.home.1);
      opener = j.opener ∙ i.opener;
      view = j.view ∙ (ap (λ (v : View). joined v (share_view c.in-Some.share)) i.view ∙ sym (joined_last _ c.loop-share.yielded c.in-Some.share));
      count = j.count ∙ (ap (λ (v : Count). added v (share_count c.in-Some.share)) i.count ∙ sym (added_last _ c.loop-share.yielded c.in-Some.share));
    }
