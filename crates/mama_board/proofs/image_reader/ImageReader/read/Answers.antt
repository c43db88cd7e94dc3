use Rattle.std.proofs.Common.{rules, ◌≡◌, ℕ, length, subst}
use Rattle.left_right.specs.Sides.{view}
use Rattle.mama_board.specs.declared.view.View.{View}
use Rattle.mama_board.specs.Rule.{IsOnward}
use Rattle.mama_board.specs.Values.{ReaderValue, HasLooked}
use Rattle.mama_board.proofs.Looks.{seen_to, has_looked}
use Rattle.mama_board.proofs.image_reader.ImageReader.read.Goals as goal

pub returns-clause-look : goal.returns-clause-look
returns-clause-look g c =
    let i = c.self.inside in
    let v : View = view i.place.place in
    let w : View = view c.replace_with.new.dest.place in
    let to : ℕ = c.in_ok-version.version in
    let onward : IsOnward v w = search rules in
    let here : to ≡ length w.seen = search rules in
    subst (λ (old : ReaderValue). HasLooked old (seen_to i.queue to w i.sealed to)) c.self.view_is
    (has_looked i.queue i.version i.least v w i.sealed onward c.self.invariant.1 to here c.self.invariant.2 c.self.invariant.3 c.if-self.false)
