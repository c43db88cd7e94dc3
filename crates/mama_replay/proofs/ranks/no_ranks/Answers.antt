use Rattle.std.proofs.Common.{◌+◌, List, length, ap, ◌∙◌}
use Rattle.std.proofs.lemmas.List.{length_push}
use Rattle.mama_replay.proofs.Ranking.{none_more}
use Rattle.mama_replay.proofs.ranks.no_ranks.Goals as goal

pub loop-preserved : goal.loop-preserved
loop-preserved c = record {
  count = ap (λ (xs : List _). length xs) c.in_ok-push.ensures.items ∙ length_push c.loop.ranks.items c.new.result ∙ ap (λ n. n + 1) c.loop.invariant.count;
  none = none_more (λ own. own.items) c.loop.ranks.items c.push.new.self.items c.new.result c.in_ok-push.ensures.items c.new.ensures.items c.loop.invariant.none;
}
