use Rattle.std.proofs.Common.{◌≡◌, ℕ, List, get_or}
use Rattle.std.proofs.lemmas.Result.{IfOk-weaker}
use Rattle.mama_event.specs.declared.ids.ObjectId.TheVariants.{Sub}
use Rattle.std.specs.Prelude.{slice_index_or, [], map}
use Rattle.mama_plans.specs.Image.{found_image}
use Rattle.mama_posts_clients.specs.Queue.{QueuePostValue}
use Rattle.mama_gather.specs.Left.{events_by}
use Rattle.mama_gather.specs.Places.{image_by}
use Rattle.mama_gather.proofs.Imaging.{IsImageOf, image_here, image_past}
use Rattle.mama_gather.proofs.images.image_on.Goals as goal

pub returns-then-queue-queues : goal.returns-then-queue-queues
returns-then-queue-queues g c =
    let seats : List (ℕ × QueuePostValue) = c.args.queues.now in
    IfOk-weaker c.image_of.result (IsImageOf (get_or seats c.args.queue c.index-queues-queue.result).1 c.args.sub) (λ found. found_image c.args.sub found ≡ image_by c.args._plans.now (slice_index_or (map events_by seats) c.args.queue []) (Sub c.args.sub))
    (λ found is. image_here c.args._plans.now seats c.args.queue c.args.sub c.index-queues-queue.result found c.requires c.if-queue-queues.true is)
    c.image_of.ensures

pub returns : goal.returns
returns g c = image_past c.args._plans.now c.args.queues.now c.args.queue c.args.sub c.if-queue-queues.false
