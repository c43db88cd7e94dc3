use Rattle.std.proofs.Common.{◌∙◌, ap, sym, ◌++◌, ◌∷◌, []}
use Rattle.std.proofs.lemmas.List.{map-append}
use Rattle.mama_record.specs.RunView.{image_in, images_of}
use Rattle.mama_plans.specs.Image.{found_image}
use Rattle.mama_drive.proofs.LaneLemmas.{append_nil}
use Rattle.mama_drive.proofs.RecordingLemmas.{image_here}
use Rattle.mama_drive.proofs.recording.add_image.Goals as goal

pub returns-in_ok-push-in-Some : goal.returns-in_ok-push-in-Some
returns-in_ok-push-in-Some c =
    ap images_of c.in_ok-push-in-Some.ensures.items
    ∙ map-append image_in c.args.found.now.items ((c.args.sub, c.in-Some.head, c.in-Some.body) ∷ [])
    ∙ ap (λ l. images_of c.args.found.now.items ++ l) (sym (ap (found_image c.args.sub) c.in-Some.is) ∙ c.in_ok-head.ensures
    ∙ image_here c.args.plans.now c.args.seats.now c.args.queue c.args.sub c.index-seats-queue.result c.requires c.if-queue-seats.true c.index-seats-queue.is)

pub returns-in-None : goal.returns-in-None
returns-in-None c =
    sym (append_nil (images_of c.args.found.now.items))
    ∙ ap (λ l. images_of c.args.found.now.items ++ l) (sym (ap (found_image c.args.sub) c.in-None.is) ∙ c.in_ok-head.ensures
    ∙ image_here c.args.plans.now c.args.seats.now c.args.queue c.args.sub c.index-seats-queue.result c.requires c.if-queue-seats.true c.index-seats-queue.is)
