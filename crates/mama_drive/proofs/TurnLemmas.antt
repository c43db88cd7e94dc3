-- Turns of many actors, passes, and when nothing waits.
use Rattle.std.proofs.Common.{◌≡◌, ℕ, zero, suc, ◌+◌, ◌<◌, ◌≤◌, true, List, [], ◌∷◌, map, get_or, refl, ◌∙◌, ap, subst, arith}
use Rattle.std.specs.List.{list_all}
use Rattle.mama_rules_rounds.specs.Setting.{Setting}
use Rattle.mama_rules_rounds.specs.World.{World, is_empty, in_turn, publisher_turn, publisher_took, queue_turn, queue_took, pass, IsQuiet}
use Rattle.mama_drive.specs.Scene.{Scene, Moves, setting_in, world_in, lane_in, waiting_in, Passes}
use Rattle.mama_drive.proofs.SceneLemmas.{moves_then, moves_none}

-- turns of actors for whom nothing waits change nothing
pub publishers_passed : (setting : Setting) (w v : World) (n k : ℕ) → in_turn (publisher_turn setting) n w ≡ v → ((q : ℕ) → n ≤ q → q < k + n → get_or v.to_publishers q [] ≡ [])
    → in_turn (publisher_turn setting) (k + n) w ≡ v
publishers_passed setting w v n zero is none =
    let none_more : 0 + n ≡ n = omega arith in
    ap (λ j. in_turn (publisher_turn setting) j w) none_more ∙ is
publishers_passed setting w v n (suc k) is none =
    let one_more : suc k + n ≡ suc (k + n) = omega arith in
    ap (λ j. in_turn (publisher_turn setting) j w) one_more ∙ ap (publisher_turn setting (k + n)) (publishers_passed setting w v n k is (λ q low high. none q low (omega (arith, high))))
    ∙ ap (publisher_took setting (k + n) v) (none (k + n) (omega arith) (omega arith))

pub queues_passed : (setting : Setting) (w v : World) (n k : ℕ) → in_turn (queue_turn setting) n w ≡ v → ((q : ℕ) → n ≤ q → q < k + n → get_or v.to_queues q [] ≡ [])
    → in_turn (queue_turn setting) (k + n) w ≡ v
queues_passed setting w v n zero is none =
    let none_more : 0 + n ≡ n = omega arith in
    ap (λ j. in_turn (queue_turn setting) j w) none_more ∙ is
queues_passed setting w v n (suc k) is none =
    let one_more : suc k + n ≡ suc (k + n) = omega arith in
    ap (λ j. in_turn (queue_turn setting) j w) one_more ∙ ap (queue_turn setting (k + n)) (queues_passed setting w v n k is (λ q low high. none q low (omega (arith, high))))
    ∙ ap (queue_took setting (k + n) v) (none (k + n) (omega arith) (omega arith))

pub passes_none : (s : Scene) → Passes s s
passes_none s = record { count = 0; moves = moves_none s }

pub passes_more : (a b c : Scene) → Passes a b → Moves b c (pass (setting_in b) (world_in b)) → Passes a c
passes_more a b c before moves = record { count = suc before.count; moves = moves_then pass before.moves moves }

-- nothing waits where the lanes of the bridge and of the timer service are empty, and those of publishers and queues
pub is_quiet_by : (s old : Scene) → s ≡ old → s.to_bridge ≡ [] → s.to_timers ≡ [] → list_all is_empty (map lane_in s.senders) ≡ true → list_all is_empty (map waiting_in s.servers) ≡ true
    → IsQuiet (world_in old)
is_quiet_by s old is bridge timers publishers queues =
    subst (λ (o : Scene). IsQuiet (world_in o)) is (record { bridge = bridge; timers = timers; publishers = publishers; queues = queues })
