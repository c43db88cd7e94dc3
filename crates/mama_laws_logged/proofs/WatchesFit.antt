-- The watches of a script fit: a sender is one of its publishers or none, and retries are few.
use Rattle.std.specs.Prelude.{Option, Some, None, if◌then◌else◌}
use Rattle.std.specs.List.{AllByRecursion}
use Rattle.std.proofs.Common.{ℕ, suc, ◌+◌, ◌≤◌, ◌==◌, Bool, true, false, List, [], ◌∷◌, length, filter, ap, arith}
use Rattle.std.proofs.lemmas.List.{length-map}
use Rattle.mama_event.specs.declared.ids.SubId.{SubId}
use Rattle.mama_event.specs.declared.watch.WatchRow.{WatchRow}
use Rattle.mama_script.specs.Script.{ScriptData}
use Rattle.mama_script.specs.Tree.{topic_of_part, first_sender, sender_or_none, sender_of, HasSender, IsScript}
use Rattle.mama_script.specs.Within.{IsWithin}
use Rattle.mama_rules_rounds.specs.Client.{Planned}
use Rattle.mama_rules_rounds.specs.Setting.{Watched, is_on, rows_on}
use Rattle.mama_rules_rounds.specs.Sections.{watches_from, setting_of}
use Rattle.mama_laws_genuine.proofs.Elements.{all_map, all_filter}
use Rattle.mama_laws_logged.proofs.Fits.{IsWatch}
use Rattle.mama_laws_logged.proofs.Accepted.{retries_few}

first_few : (topic n : ℕ) (topics : List ℕ) → first_sender topic n topics ≤ n + length topics
first_few topic n [] = omega arith
first_few topic n (t ∷ ts) = by (t == topic) (first_few topic (suc n) ts)
  where
    by : (b : Bool) → first_sender topic (suc n) ts ≤ suc n + length ts → (if b then n else first_sender topic (suc n) ts) ≤ n + length (t ∷ ts)
    by true later = omega arith
    by false later = omega (arith, later)

named_few : (topics : List ℕ) (o : Option ℕ) → sender_or_none topics o ≤ 1 + length topics
named_few topics None = omega arith
named_few topics (Some topic) = first_few topic 1 topics

module _ (script : ScriptData) (is : IsScript script) (inside : IsWithin script) where
  sender_few : (sub : SubId) → sender_of script sub ≤ 1025
  sender_few sub =
      let few : sender_of script sub ≤ 1 + length script.shape.publisher_topics = named_few script.shape.publisher_topics _ in
      omega (arith, few, ap length is.shaped.publishers, length-map script.publishers topic_of_part, inside.publishers_few)

  rows_fit : (rows : List WatchRow) → AllByRecursion (HasSender script) rows → AllByRecursion (λ (w : WatchRow). w.retries ≤ 1000) rows → AllByRecursion IsWatch rows
  rows_fit [] sent few = tt
  rows_fit (w ∷ rows) sent few = (record { sender = omega (arith, sent.0, sender_few w.sub); retries = omega (arith, few.0) }, rows_fit rows sent.1 few.1)

  watched_fit : (objects : List Planned) (n : ℕ) (rows : List WatchRow) → AllByRecursion IsWatch rows → AllByRecursion (λ (w : Watched). IsWatch w.row) (watches_from objects n rows)
  watched_fit objects n [] all = tt
  watched_fit objects n (row ∷ rows) all = (all.0, watched_fit objects (suc n) rows all.1)

  pub watches_fit : AllByRecursion (λ (w : Watched). IsWatch w.row) (setting_of script).watches
  watches_fit = watched_fit (setting_of script).objects 0 script.watches (rows_fit script.watches is.shaped.senders (retries_few script is))

  -- so do those of a queue
  pub rows_on_fit : (k : ℕ) → AllByRecursion IsWatch (rows_on k (setting_of script).watches)
  rows_on_fit k =
      all_map (λ (w : Watched). IsWatch w.row) IsWatch (λ (w : Watched). w.row) (λ w fits. fits) (filter (is_on k) (setting_of script).watches)
      (all_filter (λ (w : Watched). IsWatch w.row) (is_on k) (setting_of script).watches watches_fit)
