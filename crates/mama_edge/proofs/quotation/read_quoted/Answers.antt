use Rattle.std.proofs.Common.{◌<◌, length, arith}
use Rattle.std.proofs.lemmas.Bool.Decides.{nat_tests}
use Rattle.std.proofs.lemmas.Result.{IfOk-weaker}
use Rattle.mama_edge.proofs.DecimalLaws.{begins_with}
use Rattle.mama_edge.proofs.QuotedLaws.{answer_found, answer_none}
use Rattle.mama_edge.proofs.quotation.read_quoted.Goals as goal

pub returns-clause-found : goal.returns-clause-found
returns-clause-found c =
    let some : 0 < length c.args.text.now = grind (arith, nat_tests) in
    let same = begins_with 34 c.args.text.now some c.if-text-ne34.false in
    IfOk-weaker c.read_to_quote.result _ _ (λ answer e. answer_found (λ v. v.items) c.args.text.now _ answer same e) c.read_to_quote.ensures

pub returns-clause-none : goal.returns-clause-none
returns-clause-none c =
    let some : 0 < length c.args.text.now = grind (arith, nat_tests) in
    let same = begins_with 34 c.args.text.now some c.if-text-ne34.false in
    IfOk-weaker c.read_to_quote.result _ _ (λ answer e. answer_none (λ v. v.items) c.args.text.now _ answer same e) c.read_to_quote.ensures
