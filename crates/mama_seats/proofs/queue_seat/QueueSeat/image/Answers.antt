use Rattle.std.proofs.Common.{◌≡◌, ℕ, List, ap, ◌∙◌}
use Rattle.std.specs.Arc.{arc_value}
use Rattle.std.proofs.lemmas.Result.{IfOk-weaker}
use Rattle.mama_journal.specs.Journal.{first_said}
use Rattle.mama_event.specs.declared.ids.ObjectId.{ObjectId}
use Rattle.mama_event.specs.declared.ids.ObjectId.TheVariants.{Sub}
use Rattle.mama_event.specs.declared.order.Order.{Order}
use Rattle.mama_event.specs.declared.to_queue.QueueNote.{QueueNote}
use Rattle.mama_rules_queue.specs.Queue.{deeds, make_in, messages_of}
use Rattle.mama_dispatch.specs.Journals.{context_after}
use Rattle.mama_plans.specs.Image.{found_image, image_of}
use Rattle.mama_seats.specs.Server.{Server}
use Rattle.mama_plans.specs.Orders.{orders_in}
use Rattle.mama_plans.proofs.ImageLemmas.{context_waits, found_as}
use Rattle.mama_seats.proofs.queue_seat.QueueSeat.image.Goals as goal

pub returns : goal.returns
returns c =
    let orders : ObjectId → ℕ → List Order = orders_in (arc_value c.self.inside.plans) in
    let journal : List (ℕ × QueueNote) = c.self.inside.serving.journal in
    let sub = c.args.sub in
    IfOk-weaker c.image_of.result _ (λ found. found_image sub found ≡ image_of c.args.self.now.objects c.args.self.now.journal sub)
    (λ found is.
    ap (found_image sub) (is orders (c.planned_orders_fit.ensures orders c.self.invariant.0))
    ∙ found_as sub (context_after orders journal sub) (context_waits (first_said (λ (e : ℕ × QueueNote). make_in (Sub sub) e.1) journal) (messages_of sub (deeds orders journal)))
    ∙ ap (λ (s : Server). image_of s.objects s.journal sub) c.self.view_is)
    c.image_of.ensures
