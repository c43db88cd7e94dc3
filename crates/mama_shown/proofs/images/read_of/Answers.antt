use Rattle.std.proofs.lemmas.Result.{on_ok_weaker}
use Rattle.mama_shown.proofs.Lasts.{reads_on}
use Rattle.mama_shown.proofs.Imaging.{image_read}
use Rattle.mama_shown.proofs.images.read_of.Goals as goal

pub returns-clause-reader : goal.returns-clause-reader
returns-clause-reader g c = on_ok_weaker c.read.result (λ look journals h. reads_on c.args._plans.now journals c.args.reader.now c.read.new.self look h) c.read.ensures.look

pub returns-clause-image : goal.returns-clause-image
returns-clause-image g c = image_read c.args._plans.now c.args.queue c.args.sub c.args.reader.now c.read.new.self c.read.result (c.is_of.ensures c.if-not-is_of.false) c.read.ensures.ok c.read.ensures.look
