-- inner: How the lines of groups and of watches are read.
use Rattle.std.specs.Prelude.{ℕ, codes, List, [], ◌∷◌, Result, Ok, Err, if◌then◌else◌}
use Rattle.std.specs.Str.{bytes_eq}
use Rattle.mama_words.specs.Reading.{◌>>=◌, or_fault}
use Rattle.mama_words.specs.Parting.{parted_in}
use Rattle.mama_words.specs.Number.{number_in}
use Rattle.mama_words.specs.Kind.{group_state_in}
use Rattle.mama_event.specs.declared.ids.ObjectId.TheVariants.{Sub}
use Rattle.mama_event.specs.declared.group.GroupNote.{GroupNote}
use Rattle.mama_event.specs.declared.group.GroupNote.TheVariants.{Call, State}
use Rattle.mama_event.specs.declared.watch.WatchNote.{WatchNote}
use Rattle.mama_event.specs.declared.watch.WatchNote.TheVariants.{Retry, Timeout}
use Rattle.mama_log_line.specs.declared.head.Head.{Head}
use Rattle.mama_log_line.specs.declared.head.Head.TheVariants as heads
use Rattle.mama_log_line.specs.Head.{head_in}
use Rattle.mama_log_line.specs.Names.{NamesData}
use Rattle.mama_log_line.specs.Word.{sub_in, small_in}
use Rattle.mama_log_line.specs.Calls.{call_words_in}

unfoldable pub state_in : List (List ℕ) → Result GroupNote ℕ
state_in (word ∷ []) = or_fault 4 (group_state_in word) >>= λ state. Ok (State state)
state_in words = Err 4

-- a callback of a subscription
unfoldable pub member_in : NamesData → List ℕ → List (List ℕ) → Result GroupNote ℕ
member_in names sub words = do
  sub ← sub_in names sub
  call ← call_words_in names.nums (Sub sub) words
  Ok (Call sub call)

unfoldable pub group_words_in : NamesData → List (List ℕ) → Result GroupNote ℕ
group_words_in names (first ∷ words) = if bytes_eq first (codes "state") then state_in words else member_in names first words
group_words_in names [] = Err 4

unfoldable pub group_line_in : NamesData → List ℕ → Result GroupNote ℕ
group_line_in names line = or_fault 2 (parted_in line) >>= group_words_in names

unfoldable pub retry_in : List (List ℕ) → Result WatchNote ℕ
retry_in (count ∷ moment ∷ []) = do
  count ← small_in count
  moment ← or_fault 5 (number_in moment)
  Ok (Retry count moment)
retry_in words = Err 4

unfoldable pub timeout_in : List (List ℕ) → Result WatchNote ℕ
timeout_in (moment ∷ []) = or_fault 5 (number_in moment) >>= λ moment. Ok (Timeout moment)
timeout_in words = Err 4

abbrev pub watch_by : Head → List (List ℕ) → Result WatchNote ℕ
watch_by heads.Retry words = retry_in words
watch_by heads.Timeout words = timeout_in words
watch_by _ words = Err 3

unfoldable pub watch_words_in : List (List ℕ) → Result WatchNote ℕ
watch_words_in (head ∷ words) = or_fault 3 (head_in head) >>= λ head. watch_by head words
watch_words_in [] = Err 4

unfoldable pub watch_line_in : List ℕ → Result WatchNote ℕ
watch_line_in line = or_fault 2 (parted_in line) >>= watch_words_in
