use Rattle.std.proofs.Common.{drop}
use Rattle.mama_board.proofs.Kept.{publishes}
use Rattle.mama_board.proofs.steps.fn.publish.replace_with.Goals as goal

pub publish_as-requires : goal.publish_as-requires
publish_as-requires g c next is = let w = c.args.writer in publishes _ _ _ (drop w.behind w.log.items) _ _ c.requires next is
