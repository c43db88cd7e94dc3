-- What comes out of a link went into it, whole or cut: so what holds of each message that goes in and outlives a cut holds of what comes out.
use Rattle.std.specs.List.{AllByRecursion, flat_map}
use Rattle.std.proofs.Common.{ℕ, ◌+◌, ◌==◌, List, [], ◌∷◌, ◌++◌, filter, length, Option, None, Some}
use Rattle.mama_link.specs.declared.faults.Fault.{Fault}
use Rattle.mama_link.specs.declared.faults.Fault.TheVariants.{Lose, Dup, Hold, Cut}
use Rattle.mama_link.specs.declared.faults.FaultRow.{FaultRow}
use Rattle.mama_link.specs.Faults.{fault_at}
use Rattle.mama_link.specs.Link.{copies, numbered, messages, own, is_due, is_held, emit, held, rest}
use Rattle.mama_rules_services.specs.Bridge.{passed_on}
use Rattle.mama_laws_genuine.proofs.Elements.{all_append, all_push, all_flat_map, all_map, all_filter, all_numbered}

module _ {T : Type 0} (G : T → Type 0) (cut : ℕ → T → T) (outlives : (keep : ℕ) (m : T) → G m → G (cut keep m)) where
  abbrev Entry : ℕ × T → Type 0
  Entry e = G e.1

  copied : (fault : Option Fault) (m : T) → G m → AllByRecursion G (copies cut fault m)
  copied None m h = (h, tt)
  copied (Some Lose) m h = tt
  copied (Some Dup) m h = (h, (h, tt))
  copied (Some (Hold by)) m h = tt
  copied (Some (Cut keep)) m h = (outlives keep m h, tt)

  pub all_emitted : (rows : List FaultRow) (x : List T) (place : ℕ) → AllByRecursion G x → AllByRecursion G (emit cut rows x place)
  all_emitted rows x place all =
      let entries : AllByRecursion Entry (numbered x) = all_numbered G 1 x all in
      let here : List (ℕ × T) = filter (λ (entry : ℕ × T). entry.0 == place) (numbered x) in
      let due : List (ℕ × T) = filter (is_due rows place) (numbered x) in
      all_append G (flat_map (own cut rows) here) (messages due)
      (all_flat_map Entry G (own cut rows) (λ e h. copied (fault_at rows e.0) e.1 h) here (all_filter Entry (λ (entry : ℕ × T). entry.0 == place) (numbered x) entries))
      (all_map Entry G (λ (entry : ℕ × T). entry.1) (λ e h. h) due (all_filter Entry (is_due rows place) (numbered x) entries))

  pub all_rest : (rows : List FaultRow) (x : List T) → AllByRecursion G x → AllByRecursion G (rest rows x)
  all_rest rows x all =
      all_map Entry G (λ (entry : ℕ × T). entry.1) (λ e h. h) (held rows x) (all_filter Entry (is_held rows (length x)) (numbered x) (all_numbered G 1 x all))

  pub all_passed_on : (rows : List FaultRow) (window sent : List T) → AllByRecursion G window → AllByRecursion G sent → AllByRecursion G (passed_on cut rows window sent)
  all_passed_on rows window [] so new = tt
  all_passed_on rows window (m ∷ ms) so new = all_emitted rows (window ++ m ∷ []) (length window + 1) (all_push G window m so new.0)
