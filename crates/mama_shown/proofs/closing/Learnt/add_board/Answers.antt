use Rattle.std.proofs.lemmas.List.Elements.{All-push, All-same}
use Rattle.std.proofs.lemmas.Result.{IfOk-from_err}
use Rattle.mama_shown.specs.Last.{ReadsLast}
use Rattle.mama_shown.proofs.closing.Learnt.add_board.Goals as goal

pub returns-in_err-push-clause-readers : goal.returns-in_err-push-clause-readers
returns-in_err-push-clause-readers g c = IfOk-from_err c.from_residual.result _ c.from_residual.ensures.0

pub returns-in_err-reader-clause-readers : goal.returns-in_err-reader-clause-readers
returns-in_err-reader-clause-readers g c = IfOk-from_err c.from_residual-in_err-reader.result _ c.from_residual-in_err-reader.ensures.0

pub returns-in_err-push-2-clause-readers : goal.returns-in_err-push-2-clause-readers
returns-in_err-push-2-clause-readers g c = IfOk-from_err c.from_residual-in_err-push-2.result _ c.from_residual-in_err-push-2.ensures.0

pub returns-clause-readers : goal.returns-clause-readers
returns-clause-readers g c = λ objects journals last before.
    All-same (ReadsLast objects journals) c.push-2.new.self.items _ c.in_ok-push-2.ensures.items
    (All-push (ReadsLast objects journals) c.args.self.now.readers.items c.in_ok-reader.reader before (c.in_ok-reader.ensures objects journals last))
