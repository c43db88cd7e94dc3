-- What the calls of a client put is lawful.
use Rattle.std.specs.Prelude.{Option, None, Some}
use Rattle.std.specs.List.{list_any, filter_map, cons_option}
use Rattle.std.proofs.Common.{◌≡◌, Bool, true, false, not, ◌&&◌, ◌||◌, List, [], ◌∷◌, ◌++◌, refl, ◌∙◌, ap, subst}
use Rattle.std.proofs.lemmas.Bool.{and_from, or_from, both_ways, false_from_ne_true}
use Rattle.std.proofs.lemmas.List.Folds.{list_any-append}
use Rattle.mama_event.specs.Lawful.{each_fits, may_follow}
use Rattle.mama_event.specs.declared.shape.Bounds.{Bounds}
use Rattle.mama_event.specs.ToBridge as to_bridge
use Rattle.mama_event.specs.ToTimers as to_timers
use Rattle.mama_client.specs.Standing.{ClientData}
use Rattle.mama_client.specs.Calls.{bounds_of, IfPut, IsCall, Call, AreCalls, bridge_in, timers_in, CallsAreLawful}

-- what a call tells of one lane
record LaneCall {N : Type 0} (is_last is_within : N → Bool) (before after : Bool) (put : Option N) : Type 0 where
  pub free : IfPut put (λ n. before ≡ false)
  pub stays : before ≡ true → after ≡ true
  pub within : IfPut put (λ n. is_within n ≡ true)
  pub last : IfPut put (λ n. is_last n ≡ true → after ≡ true)

open_before : (before after : Bool) → (before ≡ true → after ≡ true) → after ≡ false → before ≡ false
open_before before after stays open_after = false_from_ne_true before (λ done. both_ways after open_after (stays done))

module _ {N : Type 0} (last inside : N → Bool) (b : Bounds) (part : Call → Option N)
    (facts : (c : ClientData) (call : Call) → bounds_of c ≡ b → IsCall c call.after call.bridge call.timers → LaneCall last inside c.done call.after.done (part call)) where
  abbrev Fits : List N → List N → Bool
  Fits before ns = each_fits (may_follow last (λ (xs : List N) (n : N). inside n)) before ns

  each : (c : ClientData) (before : List N) (calls : List Call) → bounds_of c ≡ b → AreCalls c calls → (c.done ≡ false → list_any last before ≡ false)
      → Fits before (filter_map part calls) ≡ true
  each c before [] same all quiet = refl
  each c before (call ∷ calls) same all quiet =
      (elim (part call) as (λ (put : Option N). LaneCall last inside c.done call.after.done put → Fits before (cons_option put (filter_map part calls)) ≡ true) [
        | None ↦ λ f. each call.after before calls (all.0.bounds ∙ same) all.1 (λ free. quiet (open_before c.done call.after.done f.stays free))
        | Some n ↦ λ f.
            and_from (not (list_any last before) && inside n) (Fits (before ++ n ∷ []) (filter_map part calls))
            (and_from (not (list_any last before)) (inside n) (ap not (quiet f.free)) f.within)
            (each call.after (before ++ n ∷ []) calls (all.0.bounds ∙ same) all.1
            (λ free. list_any-append last before (n ∷ [])
            ∙ or_from (list_any last before) (last n || false) (quiet f.free) (or_from (last n) false (false_from_ne_true (last n) (λ is. both_ways call.after.done free (f.last is))) refl)))
      ]) (facts c call same all.0)

bridge_facts : (b : Bounds) (c : ClientData) (call : Call) → bounds_of c ≡ b → IsCall c call.after call.bridge call.timers
    → LaneCall to_bridge.is_last (to_bridge.is_within b) c.done call.after.done call.bridge
bridge_facts b c call same is = record {
  free = is.done_bridge;
  stays = is.stays;
  within = subst (λ (x : Bounds). IfPut call.bridge (λ n. to_bridge.is_within x n ≡ true)) same is.within_bridge;
  last = is.last_bridge;
}

timers_facts : (b : Bounds) (c : ClientData) (call : Call) → bounds_of c ≡ b → IsCall c call.after call.bridge call.timers
    → LaneCall to_timers.is_last (to_timers.is_within b) c.done call.after.done call.timers
timers_facts b c call same is = record {
  free = is.done_timers;
  stays = is.stays;
  within = subst (λ (x : Bounds). IfPut call.timers (λ n. to_timers.is_within x n ≡ true)) same is.within_timers;
  last = is.last_timers;
}

pub calls_are_lawful : CallsAreLawful
calls_are_lawful c calls all = record {
  bridge = record { each = each to_bridge.is_last (to_bridge.is_within (bounds_of c)) (bounds_of c) bridge_in (bridge_facts (bounds_of c)) c [] calls refl all (λ free. refl) };
  timers = record { each = each to_timers.is_last (to_timers.is_within (bounds_of c)) (bounds_of c) timers_in (timers_facts (bounds_of c)) c [] calls refl all (λ free. refl) };
}
