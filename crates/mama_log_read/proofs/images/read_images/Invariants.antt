use Rattle.std.proofs.Common.{length}
use Rattle.mama_record.specs.RunView.{images_of}
use Rattle.mama_log_read.proofs.Taking.{ImagesSoFar}
use Rattle.mama_log_read.proofs.images.read_images.Given as goal

abbrev pub invariant-loop-words : goal.invariant-loop-words
invariant-loop-words l = ImagesSoFar l.names l.fn.objects l.fn.text (images_of l.images.items) l.left l.rest

abbrev pub decreases-loop-words : goal.decreases-loop-words
decreases-loop-words l = length l.rest
