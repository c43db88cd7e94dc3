-- What the relation of a message tells of its sender and its number.
use Rattle.std.proofs.Common.{◌≡◌, ◌≢◌, ℕ, suc, ◌<◌, Bool, true, false, nat_lt, ◌==◌, if◌then◌else◌, refl, arith, subst}
use Rattle.std.proofs.lemmas.Bool.Decides.{nat_tests}
use Rattle.mama_event.specs.declared.market.MarketMsg.{MarketMsg}
use Rattle.mama_dq.specs.declared.table.Relation.{Relation}
use Rattle.mama_dq.specs.declared.table.Relation.TheVariants.{Next, Same, Old, Ahead, Other}
use Rattle.mama_dq.specs.Table.{relation_of, relation_of_number}
use Rattle.mama_dq.proofs.Comparisons.{eq_true, eq_false, lt_true}

-- what a relation tells of a message's number, when its sender is the same
pub record Numbered (sender seq other last : ℕ) (P : Type 0) : Type 0 where
  pub same : sender ≡ other
  pub number : P

-- what a relation tells of a message
abbrev pub Related : Relation → ℕ → ℕ → MarketMsg → Type 0
Related Next sender last m = Numbered m.sender m.seq sender last (m.seq ≡ suc last)
Related Same sender last m = Numbered m.sender m.seq sender last (m.seq ≡ last)
Related Old sender last m = Numbered m.sender m.seq sender last (m.seq < last)
Related Ahead sender last m = Numbered m.sender m.seq sender last (suc last < m.seq)
Related Other sender last m = m.sender ≢ sender

-- an update far ahead is of the same sender, and its number is so
pub ahead_same : (sender last : ℕ) (m : MarketMsg) (relation : Relation) → Related relation sender last m → relation ≡ Ahead → m.sender ≡ sender
ahead_same sender last m relation told is = let far : Related Ahead sender last m = subst (λ (r : Relation). Related r sender last m) is told in far.same

pub ahead_number : (sender last : ℕ) (m : MarketMsg) (relation : Relation) → Related relation sender last m → relation ≡ Ahead → suc last < m.seq
ahead_number sender last m relation told is = let far : Related Ahead sender last m = subst (λ (r : Relation). Related r sender last m) is told in far.number

ahead : (n last : ℕ) → (n == suc last) ≡ false → (n == last) ≡ false → nat_lt n last ≡ false → suc last < n
ahead n last not_next not_same not_old = grind (arith, nat_tests)

related_number : (sender last : ℕ) (m : MarketMsg) → m.sender ≡ sender → Related (relation_of_number last m.seq) sender last m
related_number sender last m same =
    (elim (m.seq == suc last) as (λ b. (m.seq == suc last) ≡ b → Related (if b then Next else if m.seq == last then Same else if nat_lt m.seq last then Old else Ahead) sender last m) [
      | true ↦ λ next. record { same = same; number = eq_true m.seq (suc last) next }
      | false ↦ λ not_next.
          (elim (m.seq == last) as (λ b. (m.seq == last) ≡ b → Related (if b then Same else if nat_lt m.seq last then Old else Ahead) sender last m) [
            | true ↦ λ here. record { same = same; number = eq_true m.seq last here }
            | false ↦ λ not_here.
                (elim (nat_lt m.seq last) as (λ b. nat_lt m.seq last ≡ b → Related (if b then Old else Ahead) sender last m) [
                  | true ↦ λ old. record { same = same; number = lt_true m.seq last old }
                  | false ↦ λ not_old. record { same = same; number = ahead m.seq last not_next not_here not_old }
                ]) refl
          ]) refl
    ]) refl

-- the relation of a message tells that of it
pub related : (sender last : ℕ) (m : MarketMsg) → Related (relation_of sender last m) sender last m
related sender last m =
    (elim (m.sender == sender) as (λ b. (m.sender == sender) ≡ b → Related (if b then relation_of_number last m.seq else Other) sender last m) [
      | true ↦ λ same. related_number sender last m (eq_true m.sender sender same)
      | false ↦ λ other. eq_false m.sender sender other
    ]) refl
