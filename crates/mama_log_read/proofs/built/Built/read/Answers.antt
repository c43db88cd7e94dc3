use Rattle.mama_log_read.proofs.Kept.{title_kept, strategy_kept, end_kept}
use Rattle.mama_log_read.proofs.built.Built.read.Goals as goal

pub returns-in-Title : goal.returns-in-Title
returns-in-Title c = title_kept c.args.names.now c.args.objects.now c.args.section _ c.args.text.now c.args.self.now c.in-Title.is

pub returns-in-Strategy : goal.returns-in-Strategy
returns-in-Strategy c = strategy_kept c.args.names.now c.args.objects.now c.args.section _ c.args.text.now c.args.self.now c.in-Strategy.is

pub returns-in-End : goal.returns-in-End
returns-in-End c = end_kept c.args.names.now c.args.objects.now c.args.section c.args.text.now c.args.self.now c.in-End.is
