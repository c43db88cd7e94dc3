use Rattle.std.proofs.Common.{◌≡◌, ℕ, ◌≤◌, List, length, arith}
use Rattle.std.proofs.lemmas.List.Elements.{All-contains}
use Rattle.std.specs.List.{Contains}
use Rattle.mama_pool.specs.Values.{ShareValue, Closed, total}
use Rattle.mama_pool.proofs.Taken.{same_weight}
use Rattle.mama_pool.proofs.law.nothing_is_left.Goals as goal

none_left : (pushed : List ℕ) (shares : List ShareValue) (own : ShareValue) → Closed pushed shares → Contains shares own → length pushed ≤ own.known → (weight : ℕ → ℕ) → total weight pushed ≡ total (λ s. total weight s.took) shares
none_left pushed shares own C there known weight =
    let k : own.known ≤ length C.gone = All-contains (λ (s : ShareValue). s.known ≤ length C.gone) shares own C.known there in
    same_weight pushed shares C (omega arith) weight

pub returns : goal.returns
returns c = none_left
