-- What replay answers, by what its parts answer.
use Rattle.std.proofs.Common.{◌≡◌, ℕ, suc, ◌≤◌, List, [], sym, ◌∙◌, ap}
use Rattle.std.specs.List.{flat_map}
use Rattle.std.specs.Prelude.{Option, Some, slice_get}
use Rattle.mama_journal.specs.Lane.{by_port}
use Rattle.mama_event.specs.Ports.{clients_of}
use Rattle.mama_check_order.specs.declared.order.Need.{Need}
use Rattle.mama_script.specs.Script.{ScriptData}
use Rattle.mama_script.specs.Tree.{IsShaped}
use Rattle.mama_record.specs.RunData.{RunData}
use Rattle.mama_rules_legal.specs.Legal.{IsLegal}
use Rattle.mama_check.specs.Causal.{all_needs, IsCausal}
use Rattle.mama_check.specs.declared.verdict.Actor.{Actor}
use Rattle.mama_check.proofs.WasPutLemmas.{was_put}
use Rattle.mama_replay.specs.declared.step.Step.{Step}
use Rattle.mama_replay.specs.Followed.{followed}
use Rattle.mama_replay.specs.Passes.{in_order, ArePassSteps, IsStuck}
use Rattle.mama_check_order.specs.Turns.{IsWhole, IsStop}
use Rattle.mama_replay.specs.Ranks.{AreRanks}
use Rattle.mama_replay.specs.Dealt.{all_dealt, in_passes}
use Rattle.mama_replay.specs.Needs as steps
use Rattle.mama_replay.proofs.Counts.{IsRanking, ranking}
use Rattle.mama_replay.proofs.Ending.{dealt_by, same_dealt, steps_are, followed_are}
use Rattle.mama_replay.proofs.Reordered.{order_of_entries, no_order_of_entries}
use Rattle.mama_replay.proofs.Stopping.{stuck_is}

-- The steps were dealt to so many passes, and none to a later one.
abbrev pub AreInPasses : ℕ → RunData → List (List ℕ) → List Step → Type 0
AreInPasses clients run ranks made = (count : ℕ) × (made ≡ in_passes count (all_dealt clients run ranks)) × ((m : ℕ) → count ≤ m → by_port m (all_dealt clients run ranks) ≡ [])

module _ (script : ScriptData) (run : RunData) (shaped : IsShaped script) (legal : IsLegal script run) where
  abbrev wants : List (List (Option Need))
  wants = steps.step_needs script.clients (all_needs script run)

  pub followed_all : (turns : List ℕ) (ranks : List (List ℕ)) → IsWhole (steps.step_needs script.clients (all_needs script run)) turns → AreRanks (steps.step_needs script.clients (all_needs script run)) turns ranks
      → (made : List Step) → AreInPasses (clients_of script.shape) run ranks made → ArePassSteps script run made × (followed script run.clients made ≡ run)
  followed_all turns ranks whole are made dealt = (
    steps_are script run shaped legal ranks r dealt.0 past made dealt.1,
    followed_are script run shaped legal ranks r dealt.0 past made dealt.1,
  )
    where
      r : IsRanking (steps.step_needs script.clients (all_needs script run)) ranks
      r = ranking (steps.step_needs script.clients (all_needs script run)) turns ranks whole are

      past : (m : ℕ) → dealt.0 ≤ m → by_port m (flat_map (dealt_by script run shaped legal ranks r) (in_order script.shape)) ≡ []
      past m high = ap (by_port m) (sym (same_dealt script run shaped legal ranks r)) ∙ dealt.2 m high

  pub causal_all : (turns : List ℕ) → IsWhole (steps.step_needs script.clients (all_needs script run)) turns → IsCausal script run
  causal_all turns whole = record {
    put = was_put script run legal.shaped.publishers legal.shaped.queues legal.edges.publishers legal.edges.bridge legal.edges.timers legal.edges.queues;
    order = order_of_entries script run shaped turns whole;
  }

  pub not_followed : (number entry : ℕ) (who : Actor) → IsStop (steps.step_needs script.clients (all_needs script run)) number entry → slice_get (in_order script.shape) number ≡ Some who
      → (IsCausal script run → ⊥) × IsStuck script run who (suc entry)
  not_followed number entry who stop at = (
    λ causal. no_order_of_entries script run shaped number entry stop causal.order,
    stuck_is script run shaped legal number entry who stop at,
  )
