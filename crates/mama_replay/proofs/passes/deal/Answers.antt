use Rattle.std.proofs.Common.{◌≡◌, ◌<◌, ◌++◌, ◌∷◌, [], List, length, map, get_or, arith, ap, sym, ◌∙◌}
use Rattle.std.specs.Prelude.{slice_index_or}
use Rattle.std.specs.Global.{Vec}
use Rattle.std.proofs.lemmas.List.{get_or-map, map-set, length-map}
use Rattle.mama_check_puts.specs.Puts.{one_for}
use Rattle.mama_replay.specs.declared.step.Step.{Step}
use Rattle.mama_replay.proofs.Dealing.{dealt_last}
use Rattle.mama_replay.proofs.passes.deal.Goals as goal

pub returns : goal.returns
returns c =
    let items = λ (pass : Vec Step). pass.items in
    let passes = c.loop-alloc.passes.items in
    let rank = c.args.rank in
    let inside : rank < length passes = omega arith in
    let within : rank < length (map items passes) = omega (arith, length-map passes items) in
    let old : c.index_mut-pass.result.now.items ≡ get_or (map items passes) rank [] = ap items c.index_mut-pass.ensures.value ∙ sym (get_or-map items passes rank c.index_mut-pass.result.now [] inside) in
    let grown = c.in_ok-push-2.ensures.items ∙ ap (λ (steps : List Step). steps ++ c.args.step ∷ []) old in
    λ m. ap (λ (lists : List (List Step)). slice_index_or lists m []) (map-set items passes rank c.push-2.new.self)
    ∙ dealt_last (map items passes) rank c.args.step c.push-2.new.self.items within grown m
    ∙ ap (λ (steps : List Step). steps ++ one_for rank c.args.step m) (c.loop-alloc.invariant m)
