use Rattle.mama_record.specs.RunView.{images_of}
use Rattle.mama_log_read.specs.contracts.built.Built.{the_view}
use Rattle.mama_log_read.proofs.Kept.{images_kept}
use Rattle.mama_log_read.proofs.built.Built.read_images.Goals as goal

pub returns : goal.returns
returns c =
    images_kept c.args.names.now c.args.objects.now c.args.text.now (images_of c.in_ok-images.images.items) c.in_ok-images.rest.now (the_view c.self.inside) c.args.self.now c.self.view_is c.in_ok-images.ensures
