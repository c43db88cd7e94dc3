use Rattle.std.specs.Prelude.{IfSome}
use Rattle.std.proofs.Common.{◌≡◌, ℕ, Option, refl, ◌∙◌, sym, subst}
use Rattle.std.proofs.lemmas.Result.{on_ok_weaker, IfOk-from_err}
use Rattle.mama_event.specs.declared.ids.SubId.{SubId}
use Rattle.mama_shown.specs.Images.{shown_image, own_image, all_sets, AreShown}
use Rattle.mama_crew.specs.Seat.{journal_in}
use Rattle.mama_shown.proofs.Onward.{no_more}
use Rattle.mama_shown.proofs.showing.Showing.show_named.Goals as goal

pub returns-in_ok-image-in-Some-clause-shows : goal.returns-in_ok-image-in-Some-clause-shows
returns-in_ok-image-in-Some-clause-shows g c =
    let objects = c.args.hall.now.objects in
    let journal = journal_in c.args.seat.now in
    c.set_image.ensures.shows objects journal c.set_image.new.self.shown c.in_ok-image-in-Some.ensures
    (subst (λ (n : ℕ). AreShown objects journal n (all_sets c.args.self.now.board)) (sym c.set_image.ensures.same.0) c.requires.shows)

pub returns-in_ok-image-in-Some-clause-set : goal.returns-in_ok-image-in-Some-clause-set
returns-in_ok-image-in-Some-clause-set g c =
    let objects = c.args.hall.now.objects in
    let journal = journal_in c.args.seat.now in
    on_ok_weaker c.set_image.result
    (λ h. subst (λ (named : Option SubId). IfSome named (λ (sub : SubId). shown_image sub (all_sets c.set_image.new.self.board) ≡ own_image objects journal sub)) (sym c.in-Some.is)
    (h objects journal c.args.self.now.shown c.in_ok-image-in-Some.ensures c.requires.shows ∙ c.in_ok-image-in-Some.ensures))
    c.set_image.ensures.set

pub image_of-requires : goal.image_of-requires
image_of-requires g c = c.requires.sits

pub set_image-requires : goal.set_image-requires
set_image-requires g c = c.requires.unsealed

pub returns-in_ok-image-in-Some-clause-same : goal.returns-in_ok-image-in-Some-clause-same
returns-in_ok-image-in-Some-clause-same g c = c.set_image.ensures.same

pub returns-in_ok-image-in-Some-clause-board : goal.returns-in_ok-image-in-Some-clause-board
returns-in_ok-image-in-Some-clause-board g c = c.set_image.ensures.board

pub returns-in_err-image-in-Some-clause-shows : goal.returns-in_err-image-in-Some-clause-shows
returns-in_err-image-in-Some-clause-shows g c = c.requires.shows

pub returns-in_err-image-in-Some-clause-set : goal.returns-in_err-image-in-Some-clause-set
returns-in_err-image-in-Some-clause-set g c = IfOk-from_err c.from_residual.result _ c.from_residual.ensures.0

pub returns-in_err-image-in-Some-clause-same : goal.returns-in_err-image-in-Some-clause-same
returns-in_err-image-in-Some-clause-same g c = (refl, refl)

pub returns-in_err-image-in-Some-clause-board : goal.returns-in_err-image-in-Some-clause-board
returns-in_err-image-in-Some-clause-board g c = (refl, c.requires.unsealed, no_more c.args.self.now.board.sets)

pub returns-in-None-clause-shows : goal.returns-in-None-clause-shows
returns-in-None-clause-shows g c = c.requires.shows

pub returns-in-None-clause-set : goal.returns-in-None-clause-set
returns-in-None-clause-set g c =
    let objects = c.args.hall.now.objects in
    let journal = journal_in c.args.seat.now in
    subst (λ (named : Option SubId). IfSome named (λ (sub : SubId). shown_image sub (all_sets c.args.self.now.board) ≡ own_image objects journal sub)) (sym c.in-None.is) tt

pub returns-in-None-clause-same : goal.returns-in-None-clause-same
returns-in-None-clause-same g c = (refl, refl)

pub returns-in-None-clause-board : goal.returns-in-None-clause-board
returns-in-None-clause-board g c = (refl, c.requires.unsealed, no_more c.args.self.now.board.sets)
