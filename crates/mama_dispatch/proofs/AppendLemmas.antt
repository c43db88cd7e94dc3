-- What is put at the end in one step after another.
use Rattle.std.proofs.Common.{◌≡◌, List, [], ◌++◌, ap, sym, ◌∙◌, append-nil, append_assoc}
use Rattle.mama_dispatch.specs.Turns.{IsAppended}

pub appended_by : {X : Type 0} (a b more : List X) → b ≡ a ++ more → IsAppended a b
appended_by a b more is = record { more = more; is = is }

pub appended_same : {X : Type 0} (a b : List X) → b ≡ a → IsAppended a b
appended_same a b same = record { more = []; is = same ∙ sym (append-nil a) }

pub appended_then : {X : Type 0} (a b c : List X) → IsAppended a b → IsAppended b c → IsAppended a c
appended_then {X} a b c first next = record {
  more = first.more ++ next.more;
  is = next.is ∙ ap (λ (xs : List X). xs ++ next.more) first.is ∙ append_assoc a first.more next.more;
}

-- room was made first
pub appended_from : {X : Type 0} (a b c : List X) → b ≡ a → IsAppended b c → IsAppended a c
appended_from {X} a b c same next = record { more = next.more; is = next.is ∙ ap (λ (xs : List X). xs ++ next.more) same }
