use Rattle.std.proofs.Common.{◌≡◌, ◌+◌, ◌<◌, List, [], ◌∷◌, ◌++◌, length, Some, ap, ◌∙◌, length-append, arith}
use Rattle.mama_words.specs.Parting.{pieces}
use Rattle.mama_script.specs.declared.head.Place.{Place}
use Rattle.mama_script.specs.declared.line.Line.{Line}
use Rattle.mama_script.specs.Seen.{seen}
use Rattle.mama_script.specs.Before.{Before, start, after}
use Rattle.mama_script.specs.Reading.{end_fault, read_from}
use Rattle.mama_script.proofs.Loop.{with_front, read_more, read_unended, fails_err, fails_more, cut_is_shorter}
use Rattle.mama_script.proofs.parsing.read_rest.Goals as goal

pub returns-in-Err-clause-exact : goal.returns-in-Err-clause-exact
returns-in-Err-clause-exact c =
    fails_more c.loop-line.lines.items (seen c.loop-line.context) c.loop-line.number c.loop-line.rest.now c.in-Some.line.now c.in-Some.after.now c.in-Err.fault (read_from (start c.args.version) 2 (pieces 10 c.args.text.now))
    c.in-Some.ensures c.in-Err.ensures.exact c.loop-line.invariant.told

pub loop-line-smaller : goal.loop-line-smaller
loop-line-smaller c = cut_is_shorter c.loop-line.rest.now c.in-Some.line.now c.in-Some.after.now c.in-Some.ensures

pub loop-line-preserved : goal.loop-line-preserved
loop-line-preserved c =
    let more = c.in-Some.after.now in
    let line = c.in-Ok.line in
    let total = read_from (start c.args.version) 2 (pieces 10 c.args.text.now) in
    let front : c.push.new.self.items ≡ c.loop-line.lines.items ++ line ∷ [] = c.in_ok-push-in-Ok.ensures.items in
    let shorter : length more < length c.loop-line.rest.now = cut_is_shorter c.loop-line.rest.now c.in-Some.line.now more c.in-Some.ensures in
    let told : with_front (c.loop-line.lines.items ++ line ∷ []) (read_from (after (seen c.loop-line.context) line) (c.loop-line.number + 1) (pieces 10 more)) ≡ total =
    read_more c.loop-line.lines.items (seen c.loop-line.context) c.loop-line.number c.loop-line.rest.now c.in-Some.line.now more line total c.in-Some.ensures c.in-Ok.ensures.exact c.loop-line.invariant.told in
    record {
      told =
          ap (λ (ls : List Line). with_front ls (read_from (seen c.read_line.new.context) (c.loop-line.number + 1) (pieces 10 more))) front
          ∙ ap (λ (b : Before). with_front (c.loop-line.lines.items ++ line ∷ []) (read_from b (c.loop-line.number + 1) (pieces 10 more))) c.in-Ok.ensures.after ∙ told;
      counted = omega (arith, shorter, c.loop-line.invariant.counted);
      few = omega (arith, shorter, c.loop-line.invariant.few, simp length-append at (ap length front));
    }

pub returns-in-Some-end_fault-clause-exact : goal.returns-in-Some-end_fault-clause-exact
returns-in-Some-end_fault-clause-exact c =
    let total = read_from (start c.args.version) 2 (pieces 10 c.args.text.now) in
    let fault = c.in-Some-end_fault.fault in
    let wrong : Some fault ≡ end_fault c.loop-line.context.place c.loop-line.number c.loop-line.rest.now =
    c.in-Some-end_fault.ensures ∙ ap (λ (p : Place). end_fault p c.loop-line.number c.loop-line.rest.now) c.place.ensures in
    fails_err fault total (read_unended c.loop-line.lines.items (seen c.loop-line.context) c.loop-line.number c.loop-line.rest.now total fault c.in_default.ensures c.loop-line.invariant.told wrong)
