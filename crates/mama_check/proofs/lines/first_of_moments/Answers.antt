use Rattle.std.proofs.Common.{◌≡◌, ◌<◌, ℕ, List, [], length, get_or, ap, sym, subst, ◌∙◌, below_more, true≢false}
use Rattle.std.specs.Prelude.{slice_index_or}
use Rattle.mama_script.specs.declared.client.ClientLine.{ClientLine}
use Rattle.mama_rules_rounds.specs.Client.{clock_lines}
use Rattle.mama_check.proofs.LineLemmas.{any_default, items_at}
use Rattle.mama_check.proofs.lines.first_of_moments.Goals as goal

pub loop-c-preserved : goal.loop-c-preserved
loop-c-preserved c =
    let x = c.index-clients-c.result in
    let v = c.index-moments-c.result in
    let within : c.loop-c.c < length c.args.script.now.clients = subst (λ (ps : List (List ClientLine)). c.loop-c.c < length ps) c.clients-clients.ensures c.loop-c-test.true in
    let has = subst (λ (n : ℕ). c.loop-c.c < n) (sym c.requires) within in
    let lines : x ≡ slice_index_or c.args.script.now.clients c.loop-c.c [] =
    c.index-clients-c.is ∙ ap (λ (ls : List (List ClientLine)). get_or ls c.loop-c.c x) c.clients-clients.ensures ∙ any_default c.args.script.now.clients c.loop-c.c x [] within in
    let moments = c.deref.ensures.value ∙ items_at c.clients-moments.result.now c.args.run.now.clients c.loop-c.c v c.clients-moments.ensures has c.index-moments-c.is in
    below_more _ _ c.loop-c.invariant
    (sym (ap length moments) ∙ c.has_read.ensures.0 c.if-not-has_read.false ∙ ap clock_lines lines)

pub returns-then-not-has_read : goal.returns-then-not-has_read
returns-then-not-has_read c =
    let x = c.index-clients-c.result in
    let v = c.index-moments-c.result in
    let within : c.loop-c.c < length c.args.script.now.clients = subst (λ (ps : List (List ClientLine)). c.loop-c.c < length ps) c.clients-clients.ensures c.loop-c-test.true in
    let has = subst (λ (n : ℕ). c.loop-c.c < n) (sym c.requires) within in
    let lines : x ≡ slice_index_or c.args.script.now.clients c.loop-c.c [] =
    c.index-clients-c.is ∙ ap (λ (ls : List (List ClientLine)). get_or ls c.loop-c.c x) c.clients-clients.ensures ∙ any_default c.args.script.now.clients c.loop-c.c x [] within in
    let moments = c.deref.ensures.value ∙ items_at c.clients-moments.result.now c.args.run.now.clients c.loop-c.c v c.clients-moments.ensures has c.index-moments-c.is in
    (within, (λ keeps. true≢false (sym (c.has_read.ensures.1 (ap length moments ∙ keeps ∙ sym (ap clock_lines lines))) ∙ c.if-not-has_read.true)), c.loop-c.invariant)
