-- inner: The first publisher of each topic.
use Rattle.std.specs.Prelude.{◌≡◌, ℕ, ◌==◌, List, position}
use Rattle.std.specs.Ordering.{nat_cmp}
use Rattle.std.specs.BTreeMap.{BTreeMap, get}

-- the map has, for each topic that some publisher sends, the first of those publishers, and no other topic
pub record AreFirsts (topics : List ℕ) (firsts : BTreeMap ℕ ℕ) : Type 0 where
  pub each : (topic : ℕ) → get nat_cmp firsts topic ≡ position (λ t. t == topic) topics
