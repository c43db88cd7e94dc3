use Rattle.std.proofs.Common.{◌≡◌, ◌∙◌, ap, sym, subst}
use Rattle.std.proofs.lemmas.Result.{IfOk-weaker}
use Rattle.mama_crew.specs.Seat.{IsSeatOf, journal_in}
use Rattle.mama_crew.specs.declared.seat.Seat.{Seat}
use Rattle.mama_shown.specs.Images.{Image, own_image}
use Rattle.mama_shown.proofs.queries.image_of.Goals as goal

pub returns-in-Queue : goal.returns-in-Queue
returns-in-Queue g c =
    let S = Seat g.row.L.Denot in
    let objects = c.args._hall.now.objects in
    let sits = subst (λ (s : S). IsSeatOf c.args._script.now c.args._hall.now s) c.in-Queue.is c.requires in
    IfOk-weaker c.image_of.result _ (λ (image : Image). image ≡ own_image objects (journal_in c.args.seat.now) c.args.sub)
    (λ image is. is objects sits.keeps.planned ∙ ap (λ (s : S). own_image objects (journal_in s) c.args.sub) (sym c.in-Queue.is)) c.image_of.ensures

pub returns-in-Client : goal.returns-in-Client
returns-in-Client g c = ap (λ (s : Seat g.row.L.Denot). own_image c.args._hall.now.objects (journal_in s) c.args.sub) (sym c.in-Client.is)

pub returns-in-Publisher : goal.returns-in-Publisher
returns-in-Publisher g c = ap (λ (s : Seat g.row.L.Denot). own_image c.args._hall.now.objects (journal_in s) c.args.sub) (sym c.in-Publisher.is)

pub returns-in-Bridge : goal.returns-in-Bridge
returns-in-Bridge g c = ap (λ (s : Seat g.row.L.Denot). own_image c.args._hall.now.objects (journal_in s) c.args.sub) (sym c.in-Bridge.is)

pub returns-in-Timers : goal.returns-in-Timers
returns-in-Timers g c = ap (λ (s : Seat g.row.L.Denot). own_image c.args._hall.now.objects (journal_in s) c.args.sub) (sym c.in-Timers.is)
