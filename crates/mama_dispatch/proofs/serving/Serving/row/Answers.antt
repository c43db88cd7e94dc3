use Rattle.std.specs.Prelude.{Option, None, IfSome, if◌then◌else◌}
use Rattle.std.proofs.Common.{List, ap, sym, ◌∙◌, subst}
use Rattle.mama_msg.specs.Field.{FieldData}
use Rattle.mama_event.specs.declared.ids.ObjectId.TheVariants.{Sub}
use Rattle.mama_event.specs.declared.market.ImageHead.{ImageHead}
use Rattle.mama_dispatch.specs.Journals.{is_live_here, context_after, image_in}
use Rattle.mama_dispatch.specs.Seats.{Fits}
use Rattle.mama_dispatch.specs.Served.{Served}
use Rattle.mama_dispatch.specs.Images.{IsRecord}
use Rattle.mama_dispatch.proofs.ServingLemmas.{fits_untold, row_there, row_record}
use Rattle.mama_dispatch.proofs.serving.Serving.row.Goals as goal

pub returns-clause-row : goal.returns-clause-row
returns-clause-row g c = λ orders fits.
    c.row.ensures
    ∙ row_there orders c.self.inside.journal.items c.self.inside.seats c.args.sub
    (c.self.invariant.served.stands orders (fits_untold orders c.self.inside.seats (subst (λ (s : Served). Fits orders s.seats) (sym c.self.view_is) fits)))
    ∙ ap (λ (s : Served). if is_live_here (Sub c.args.sub) s.journal then image_in (context_after orders s.journal c.args.sub) else None) c.self.view_is

pub returns-clause-record : goal.returns-clause-record
returns-clause-record g c = λ orders bases updates fits genuine.
    subst (λ (x : Option (ImageHead × List FieldData)). IfSome x (λ image. IsRecord bases updates image)) (sym (returns-clause-row g c orders fits))
    (row_record orders c.args.self.now.journal c.args.sub bases updates genuine)
