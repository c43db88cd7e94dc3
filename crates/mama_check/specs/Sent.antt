-- inner: The two parts of the journal of a publisher that sent all its lines, before its Done and after it.
use Rattle.std.specs.Prelude.{◌≡◌, ℕ, Bool, true, false, List, [], ◌∷◌, ◌++◌}
use Rattle.std.specs.List.{list_any, list_all}
use Rattle.mama_journal.specs.Journal.{count_of}
use Rattle.mama_event.specs.declared.to_publisher.PublisherNote.TheVariants.{Settle, Fin}
use Rattle.mama_event.specs.declared.publisher_entry.PublisherEntry.{PublisherEntry}
use Rattle.mama_event.specs.declared.publisher_entry.PublisherEntry.TheVariants.{Took}
use Rattle.mama_event.specs.Publisher.{is_send}
use Rattle.mama_rules_legal.specs.Lines.{is_take, takes_settle}

abbrev pub takes_fin : PublisherEntry → Bool
takes_fin (Took Fin) = true
takes_fin _ = false

-- only takes, and then a Settle
pub record IsSettled (entries : List PublisherEntry) : Type 0 where
  pub between : List PublisherEntry
  pub whole : entries ≡ between ++ Took Settle ∷ []
  pub takes : list_all is_take between ≡ true

-- only takes and a Settle, and then a Fin
pub record IsEnd (entries : List PublisherEntry) : Type 0 where
  pub rest : List PublisherEntry
  pub whole : entries ≡ rest ++ Took Fin ∷ []
  pub settled : IsSettled rest

-- so many sends, and no Settle
abbrev pub IsSentBefore : ℕ → List PublisherEntry → Type 0
IsSentBefore n before = (count_of is_send before ≡ n) × (list_any takes_settle before ≡ false)
