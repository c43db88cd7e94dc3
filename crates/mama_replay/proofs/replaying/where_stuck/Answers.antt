use Rattle.std.proofs.Common.{ℕ, List, arith, sym, subst}
use Rattle.std.specs.Prelude.{Option}
use Rattle.mama_check_order.specs.declared.order.Need.{Need}
use Rattle.mama_check_order.proofs.Searches.{exists}
use Rattle.mama_check.specs.Causal.{all_needs, IsCausal}
use Rattle.mama_replay.specs.Needs.{step_needs}
use Rattle.mama_check_order.specs.Turns.{IsStop}
use Rattle.mama_replay.specs.Passes.{IsStuck}
use Rattle.mama_replay.proofs.Stopping.{few}
use Rattle.mama_replay.proofs.Replays.{not_followed}
use Rattle.mama_replay.proofs.replaying.where_stuck.Goals as goal

pub not_causal-requires-clause-actor : goal.not_causal-requires-clause-actor
not_causal-requires-clause-actor c =
    let script = c.args.script.now in
    let run = c.args.run.now in
    let stuck = c.args.stuck in
    let stop = subst (λ (needs : List (List (Option Need))). IsStop needs stuck.actor stuck.entry) c.requires.needs c.requires.stop in
    let inside = exists (step_needs script.clients (all_needs script run)) stuck.actor stuck.entry stop.inside in
    let all = few script run c.shape-shape.ensures.script.shaped c.requires.legal in
    omega (arith, inside, all)

pub returns : goal.returns
returns c =
    let script = c.args.script.now in
    let run = c.args.run.now in
    let stuck = c.args.stuck in
    let stop = subst (λ (needs : List (List (Option Need))). IsStop needs stuck.actor stuck.entry) c.requires.needs c.requires.stop in
    λ actor entry is.
    let told = c.not_causal.ensures actor entry is in
    subst (λ (n : ℕ). (IsCausal script run → ⊥) × IsStuck script run actor n) (sym told.1)
    (not_followed script run c.shape-shape.ensures.script.shaped c.requires.legal stuck.actor stuck.entry actor stop told.0)
