use Rattle.std.proofs.Common.{ℕ, List, ap, ◌∙◌}
use Rattle.mama_journal.specs.Journal.{first_said}
use Rattle.mama_event.specs.declared.ids.ObjectId.{ObjectId}
use Rattle.mama_event.specs.declared.ids.ObjectId.TheVariants.{Sub}
use Rattle.mama_event.specs.declared.order.Order.{Order}
use Rattle.mama_event.specs.declared.to_queue.QueueNote.{QueueNote}
use Rattle.mama_rules_queue.specs.Queue.{deeds, make_in, messages_of}
use Rattle.mama_dispatch.specs.Journals.{image_in, context_after}
use Rattle.mama_plans.specs.Image.{found_image}
use Rattle.mama_plans.specs.Orders.{orders_in}
use Rattle.mama_plans.proofs.ImageLemmas.{context_waits, found_as}
use Rattle.mama_check_queue.specs.Seen.{SeenData}
use Rattle.mama_check_queue.specs.Served.{ServedData, last_image_of}
use Rattle.mama_check_queue.proofs.served.ServedQueue.image.Goals as goal

pub returns : goal.returns
returns c =
    let orders : ObjectId → ℕ → List Order = orders_in c.self.inside.plans.now in
    let journal : List (ℕ × QueueNote) = c.self.inside.journal.now in
    let sub = c.args.sub in
    ap (found_image sub) (c.image.ensures ∙ ap (λ (s : SeenData). image_in s.context) (c.self.invariant.seen.each (Sub sub)))
    ∙ found_as sub (context_after orders journal sub) (context_waits (first_said (λ (e : ℕ × QueueNote). make_in (Sub sub) e.1) journal) (messages_of sub (deeds orders journal)))
    ∙ ap (λ (s : ServedData). last_image_of s sub) c.self.view_is
