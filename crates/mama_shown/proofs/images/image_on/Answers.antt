use Rattle.std.specs.List.{All}
use Rattle.std.specs.Prelude.{slice_index_or, []}
use Rattle.std.proofs.Common.{◌≡◌, ℕ, ◌<◌, List, length, get_or, rules, arith, sym, subst}
use Rattle.std.proofs.lemmas.Grind.{common_steps}
use Rattle.std.proofs.lemmas.List.Elements.{All-set, All-get_or}
use Rattle.std.proofs.lemmas.Result.{IfOk-weaker, on_ok_weaker}
use Rattle.mama_event.specs.declared.to_queue.QueueNote.{QueueNote}
use Rattle.mama_shown.specs.Images.{Image, own_image}
use Rattle.mama_shown.specs.Last.{ReadsLast}
use Rattle.mama_shown.proofs.images.image_on.Goals as goal

pub returns-in-Some-clause-readers : goal.returns-in-Some-clause-readers
returns-in-Some-clause-readers g c =
    let readers = c.args.readers.now.items in
    let at : c.in-Some.reader.now ≡ get_or readers c.args.queue c.in-Some.reader.now = first_of (search rules, grind (arith, common_steps)) in
    let within : c.args.queue < length readers = first_of (search rules, grind (arith, common_steps)) in
    on_ok_weaker c.read_of.result (λ keeps journals all.
    let P = ReadsLast c.args.plans.now journals in
    All-set P readers c.args.queue c.read_of.new.reader (keeps journals (subst P (sym at) (All-get_or P readers c.args.queue c.in-Some.reader.now within all))) all) c.read_of.ensures.reader

pub returns-in-Some-clause-image : goal.returns-in-Some-clause-image
returns-in-Some-clause-image g c =
    let readers = c.args.readers.now.items in
    let at : c.in-Some.reader.now ≡ get_or readers c.args.queue c.in-Some.reader.now = first_of (search rules, grind (arith, common_steps)) in
    let within : c.args.queue < length readers = first_of (search rules, grind (arith, common_steps)) in
    IfOk-weaker c.read_of.result (λ (image : Image). (journals : List (List (ℕ × QueueNote))) → ReadsLast c.args.plans.now journals c.in-Some.reader.now → image ≡ own_image c.args.plans.now (slice_index_or journals c.args.queue []) c.args.sub)
    (λ (image : Image). (journals : List (List (ℕ × QueueNote))) → All (ReadsLast c.args.plans.now journals) readers → image ≡ own_image c.args.plans.now (slice_index_or journals c.args.queue []) c.args.sub)
    (λ image is journals all.
    let P = ReadsLast c.args.plans.now journals in
    is journals (subst P (sym at) (All-get_or P readers c.args.queue c.in-Some.reader.now within all))) c.read_of.ensures.image
