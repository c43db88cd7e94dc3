-- believed: Which entries come where each port puts what it may.
use Rattle.std.specs.Prelude.{◌≡◌, ℕ, true, nat_lt, List, [], ◌∷◌, ◌++◌}
use Rattle.std.specs.List.{list_all}
use Rattle.mama_journal.specs.Lane.{by_port}
use Rattle.mama_event.specs.Lawful.{IsLawful}
use Rattle.mama_event.specs.ToQueue.{is_last, fits}
use Rattle.mama_event.specs.declared.to_queue.QueueNote.{QueueNote}
use Rattle.mama_dispatch.specs.Journals.{may_come}
use Rattle.mama_dispatch.specs.Streams.{AreTurns}

-- what came by each port is what that port may put
abbrev pub AreLawful : List (ℕ × QueueNote) → Type 0
AreLawful journal = (port : ℕ) → IsLawful is_last (fits port) (by_port port journal)

-- A law: where what came by each port with an entry is lawful, the entry may come.
abbrev pub LawfulMayCome : Type 0
LawfulMayCome = (journal : List (ℕ × QueueNote)) (e : ℕ × QueueNote) → AreLawful (journal ++ e ∷ []) → may_come journal e.1 ≡ true

-- A law: so it is of each entry of a journal.
abbrev pub LawfulAreTurns : Type 0
LawfulAreTurns = (journal : List (ℕ × QueueNote)) → AreLawful journal → AreTurns journal

-- A law: where all came by port 0 or port 1, it is enough that these two are lawful.
abbrev pub TwoPortsSuffice : Type 0
TwoPortsSuffice = (journal : List (ℕ × QueueNote)) → list_all (λ e. nat_lt e.0 2) journal ≡ true
    → IsLawful is_last (fits 0) (by_port 0 journal) → IsLawful is_last (fits 1) (by_port 1 journal) → AreLawful journal
