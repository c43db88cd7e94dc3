-- Words of play are those of no other command.
use Rattle.std.proofs.Common.{◌≡◌, ℕ, true, List, [], ◌∷◌, Some}
use Rattle.mama_plain.specs.Command.{is_serial, is_check, is_rewrite, is_replay}
use Rattle.mama_commands.specs.Words.{workers_in}

-- of serial, of check, of rewrite, and of replay
pub not_serial : {P : Type 0} (words : List (List ℕ)) (workers : ℕ) → Some workers ≡ workers_in words → is_serial words ≡ true → P
not_serial [] workers is holds = absurd (cc is)
not_serial (word ∷ []) workers is holds = absurd (cc is)
not_serial (word ∷ number ∷ []) workers is holds = absurd (cc holds)
not_serial (word ∷ number ∷ next ∷ more) workers is holds = absurd (cc holds)

pub not_check : {P : Type 0} (words : List (List ℕ)) (workers : ℕ) → Some workers ≡ workers_in words → is_check words ≡ true → P
not_check [] workers is holds = absurd (cc is)
not_check (word ∷ []) workers is holds = absurd (cc is)
not_check (word ∷ number ∷ []) workers is holds = absurd (cc holds)
not_check (word ∷ number ∷ next ∷ more) workers is holds = absurd (cc holds)

pub not_rewrite : {P : Type 0} (words : List (List ℕ)) (workers : ℕ) → Some workers ≡ workers_in words → is_rewrite words ≡ true → P
not_rewrite [] workers is holds = absurd (cc is)
not_rewrite (word ∷ []) workers is holds = absurd (cc is)
not_rewrite (word ∷ number ∷ []) workers is holds = absurd (cc holds)
not_rewrite (word ∷ number ∷ next ∷ more) workers is holds = absurd (cc holds)

pub not_replay : {P : Type 0} (words : List (List ℕ)) (workers : ℕ) → Some workers ≡ workers_in words → is_replay words ≡ true → P
not_replay [] workers is holds = absurd (cc is)
not_replay (word ∷ []) workers is holds = absurd (cc is)
not_replay (word ∷ number ∷ []) workers is holds = absurd (cc holds)
not_replay (word ∷ number ∷ next ∷ more) workers is holds = absurd (cc holds)
