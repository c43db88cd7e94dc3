-- believed: what is promised of watches: a timeout is told only after so many retries, at a tick that found no image, and once.
use Rattle.std.specs.Prelude.{◌≡◌, ◌<◌, ◌≤◌, ℕ, true, List, [], ◌∷◌, ◌++◌, length, nat_eq, slice_index_or}
use Rattle.std.specs.List.{AllByRecursion, AllZip, list_any, flat_map}
use Rattle.mama_event.specs.declared.ids.ObjectId.{ObjectId}
use Rattle.mama_event.specs.declared.order.Order.{Order}
use Rattle.mama_event.specs.declared.to_queue.QueueNote.{QueueNote}
use Rattle.mama_event.specs.declared.watch.WatchRow.{WatchRow}
use Rattle.mama_event.specs.declared.watch.WatchNote.{WatchNote}
use Rattle.mama_event.specs.declared.watch.WatchNote.TheVariants.{Retry, Timeout}
use Rattle.mama_rules_queue.specs.Queue.{deeds, deeds_at}
use Rattle.mama_rules_queue.specs.Watch.{is_missed, ticked, counted}
use Rattle.mama_script.specs.Script.{ScriptData}
use Rattle.mama_record.specs.RunData.{RunData, WatchNotes}
use Rattle.mama_rules_rounds.specs.Setting.{Setting, Watched, orders_by}
use Rattle.mama_rules_rounds.specs.Sections.{setting_of}

-- the moments of the timeouts among some notes, and of the retries
abbrev pub timeouts_in : WatchNote → List ℕ
timeouts_in (Retry count moment) = []
timeouts_in (Timeout moment) = moment ∷ []

abbrev pub retries_in : WatchNote → List ℕ
retries_in (Retry count moment) = moment ∷ []
retries_in (Timeout moment) = []

-- At an entry of the queue's journal a tick of the watch's timer at this moment was called back, behind it the subscription was
-- live, was not muted and had no image, and before it as many such ticks were counted as the watch has retries.
pub record IsTimedOut (orders : ObjectId → ℕ → List Order) (row : WatchRow) (journal : List (ℕ × QueueNote)) (moment : ℕ) : Type 0 where
  pub before : List (ℕ × QueueNote)
  pub entry : ℕ × QueueNote
  pub after : List (ℕ × QueueNote)
  pub whole : journal ≡ before ++ entry ∷ after
  pub ticks : list_any (nat_eq moment) (flat_map (ticked row.timer) (deeds_at orders before entry)) ≡ true
  pub missed : is_missed row.sub (before ++ entry ∷ []) (deeds orders (before ++ entry ∷ [])) ≡ true
  pub retried : counted orders row before ≡ row.retries

-- What a watch noted is such: each of its timeouts is so, there is at most one, there are no more retries than its row has, and as
-- many where there is a timeout.
pub record IsTrueWatch (setting : Setting) (queues : List (List (ℕ × QueueNote))) (w : Watched) (told : WatchNotes) : Type 0 where
  pub number : told.watch ≡ w.number
  pub timeouts : AllByRecursion (IsTimedOut (orders_by setting) w.row (slice_index_or queues w.queue [])) (flat_map timeouts_in told.notes)
  pub once : length (flat_map timeouts_in told.notes) ≤ 1
  pub retries : length (flat_map retries_in told.notes) ≤ w.row.retries
  pub retried : 0 < length (flat_map timeouts_in told.notes) → length (flat_map retries_in told.notes) ≡ w.row.retries

-- so it is with each watch of a script
abbrev pub AreTrueWatches : ScriptData → RunData → Type 0
AreTrueWatches script run = AllZip (IsTrueWatch (setting_of script) run.queues) (setting_of script).watches run.watches
