use Rattle.std.proofs.Common.{◌≡◌, get_or, ◌∙◌, ap, rules, arith}
use Rattle.std.proofs.Math.Seq.{map-set_same}
use Rattle.std.proofs.lemmas.Grind.{common_steps}
use Rattle.mama_board.specs.Values.{ReaderValue}
use Rattle.mama_watch.proofs.WatchObserver.look.Goals as goal

pub returns-in-Some : goal.returns-in-Some
returns-in-Some g c =
    let at : c.in-Some.reader.now ≡ get_or c.args.readers.now 0 c.in-Some.reader.now = first_of (search rules, grind (arith, common_steps)) in
    map-set_same (λ (r : ReaderValue). r.queue) c.args.readers.now 0 c.print.new.reader c.in-Some.reader.now (c.print.ensures ∙ ap (λ (r : ReaderValue). r.queue) at)
