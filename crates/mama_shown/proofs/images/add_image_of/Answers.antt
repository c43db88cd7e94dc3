use Rattle.std.specs.List.{All}
use Rattle.std.specs.Prelude.{slice_index_or, OnOk}
use Rattle.std.proofs.Common.{◌≡◌, ℕ, List, [], ◌++◌, append-nil, sym, subst}
use Rattle.mama_event.specs.declared.ids.ObjectId.{ObjectId}
use Rattle.mama_event.specs.declared.to_queue.QueueNote.{QueueNote}
use Rattle.mama_record.specs.RunView.{images_of}
use Rattle.mama_gather.specs.Places.{image_by}
use Rattle.mama_shown.specs.Last.{ReadsLast}
use Rattle.mama_shown.proofs.images.add_image_of.Goals as goal

pub returns-in-Sub-clause-found : goal.returns-in-Sub-clause-found
returns-in-Sub-clause-found g c =
    subst (λ (o : ObjectId). OnOk c.add_image.result ((journals : List (List (ℕ × QueueNote))) → All (ReadsLast c.args.plans.now journals) c.args.readers.now.items
    → images_of c.add_image.new.found.items ≡ images_of c.args.found.now.items ++ image_by c.args.plans.now (slice_index_or journals c.args.planned.now.queue []) o))
    (sym c.in-Sub.is) c.add_image.ensures.found

pub returns-in-Timer-clause-found : goal.returns-in-Timer-clause-found
returns-in-Timer-clause-found g c = λ journals all.
    subst (λ (o : ObjectId). images_of c.args.found.now.items ≡ images_of c.args.found.now.items ++ image_by c.args.plans.now (slice_index_or journals c.args.planned.now.queue []) o) (sym c.in-Timer.is)
    (sym (append-nil (images_of c.args.found.now.items)))

pub returns-in-Inbox-clause-found : goal.returns-in-Inbox-clause-found
returns-in-Inbox-clause-found g c = λ journals all.
    subst (λ (o : ObjectId). images_of c.args.found.now.items ≡ images_of c.args.found.now.items ++ image_by c.args.plans.now (slice_index_or journals c.args.planned.now.queue []) o) (sym c.in-Inbox.is)
    (sym (append-nil (images_of c.args.found.now.items)))

pub returns-in-Sub-clause-readers : goal.returns-in-Sub-clause-readers
returns-in-Sub-clause-readers g c = c.add_image.ensures.readers

pub returns-in-Timer-clause-readers : goal.returns-in-Timer-clause-readers
returns-in-Timer-clause-readers g c = λ journals all. all

pub returns-in-Inbox-clause-readers : goal.returns-in-Inbox-clause-readers
returns-in-Inbox-clause-readers g c = λ journals all. all
