use Rattle.std.proofs.Common.{◌∙◌, ap}
use Rattle.std.proofs.lemmas.List.{map_push}
use Rattle.mama_record.specs.RunView.{image_in, images_of}
use Rattle.mama_log_read.proofs.Taking.{image_more}
use Rattle.mama_log_read.proofs.images.read_images.Goals as goal

pub loop-words-preserved : goal.loop-words-preserved
loop-words-preserved c =
    image_more c.args.names.now c.args.objects.now c.args.text.now (images_of c.loop-words.images.items) (images_of c.push.new.self.items) c.loop-words.left.now c.in-Some.later.now (image_in c.in-Some.image) c.loop-words.rest.now c.in-Some.after.now
    c.loop-words.invariant (rw c.in-Some.is at c.in_ok-image.ensures) (ap images_of c.in_ok-push.ensures.items ∙ map_push image_in c.loop-words.images.items c.in-Some.image)
