use Rattle.std.proofs.Common.{refl, sym, ◌∙◌, ap}
use Rattle.mama_shown.proofs.Shown.{shown_ok, shown_err, set_ok, err_queue, err_open}
use Rattle.mama_shown.proofs.Onward.{no_more, set_onward, refused_onward}
use Rattle.mama_shown.proofs.showing.Showing.set_image.Goals as goal

pub set-requires : goal.set-requires
set-requires g c = c.requires

-- the board refused the set, which waits or not

pub returns-in_default-clause-shows : goal.returns-in_default-clause-shows
returns-in_default-clause-shows g c = λ objects journal shown own h.
    shown_err objects journal shown c.args.sub c.in-Some.head _ c.args.self.now.board c.set.new.self c.args.image c.in-Some.is c.in_default.ensures.err own h

pub returns-in_default-clause-same : goal.returns-in_default-clause-same
returns-in_default-clause-same g c = (refl, refl)

pub returns-in_default-clause-board : goal.returns-in_default-clause-board
returns-in_default-clause-board g c = (err_queue c.args.self.now.board c.set.new.self _ c.in_default.ensures.err, err_open c.args.self.now.board c.set.new.self _ c.in_default.ensures.err ∙ c.requires, refused_onward c.args.self.now.board c.set.new.self _ c.in_default.ensures.err)

-- the image was set

pub returns-in-Ok-clause-shows : goal.returns-in-Ok-clause-shows
returns-in-Ok-clause-shows g c = λ objects journal shown own h.
    shown_ok objects journal shown c.args.sub c.in-Some.head _ c.args.self.now.board c.set.new.self c.args.image c.in-Some.is c.in-Ok.ensures.ok own h

pub returns-in-Ok-clause-set : goal.returns-in-Ok-clause-set
returns-in-Ok-clause-set g c = λ objects journal shown own h.
    set_ok c.args.sub c.in-Some.head _ c.args.self.now.board c.set.new.self c.args.image c.in-Some.is c.in-Ok.ensures.ok

pub returns-in-Ok-clause-same : goal.returns-in-Ok-clause-same
returns-in-Ok-clause-same g c = (refl, refl)

pub returns-in-Ok-clause-board : goal.returns-in-Ok-clause-board
returns-in-Ok-clause-board g c = (ap (λ b. b.queue) c.in-Ok.ensures.ok, ap (λ b. b.sealed) c.in-Ok.ensures.ok ∙ c.requires, set_onward c.args.self.now.board c.set.new.self _ c.in-Ok.ensures.ok)

-- there is none

pub returns-in-None-clause-shows : goal.returns-in-None-clause-shows
returns-in-None-clause-shows g c = λ objects journal shown own h. h

pub returns-in-None-clause-set : goal.returns-in-None-clause-set
returns-in-None-clause-set g c = λ objects journal shown own h. h.absent c.args.sub (sym own ∙ c.in-None.is) ∙ sym c.in-None.is

pub returns-in-None-clause-same : goal.returns-in-None-clause-same
returns-in-None-clause-same g c = (refl, refl)

pub returns-in-None-clause-board : goal.returns-in-None-clause-board
returns-in-None-clause-board g c = (refl, c.requires, no_more c.args.self.now.board.sets)
