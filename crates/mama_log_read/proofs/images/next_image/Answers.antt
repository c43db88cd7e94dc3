use Rattle.mama_record.specs.RunView.{image_in}
use Rattle.mama_log_read.proofs.Taking.{image_next, none_behind_image, none_next_image, uncut_image}
use Rattle.mama_log_read.proofs.images.next_image.Goals as goal

pub returns-in-Some-behind : goal.returns-in-Some-behind
returns-in-Some-behind c =
    image_next c.args.names.now c.args.objects.now c.in-Some-behind.left.now image_in c.args.text.now c.in-Some.line.now c.in-Some.after.now c.in_ok-image-in-Some.field-0 c.in-Some-2.image c.in-Some.ensures c.in-Some-2.is c.in-Some-behind.ensures
    c.in_ok-image-in-Some.ensures.found

pub returns-in-None-behind : goal.returns-in-None-behind
returns-in-None-behind c =
    none_behind_image c.args.names.now c.args.objects.now image_in c.args.text.now c.in-Some.line.now c.in-Some.after.now c.in_ok-image-in-Some.field-0 c.in-Some-2.image c.in-Some.ensures c.in-Some-2.is c.in-None-behind.ensures
    c.in_ok-image-in-Some.ensures.again

pub returns-in-None-2 : goal.returns-in-None-2
returns-in-None-2 c =
    none_next_image c.args.names.now c.args.objects.now image_in c.args.text.now c.in-Some.line.now c.in-Some.after.now c.in_ok-image-in-Some.field-0 c.in-Some.ensures c.in-None-2.is c.in_ok-image-in-Some.ensures.again

pub returns-in-None : goal.returns-in-None
returns-in-None c = uncut_image c.args.names.now c.args.objects.now c.args.text.now c.in-None.ensures
