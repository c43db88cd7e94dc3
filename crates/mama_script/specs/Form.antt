-- believed: How a line is read by its own form: the line, or the lowest of its faults from 2 to 8. The faults of one number are
-- looked for in all the words before those of the next.
use Rattle.std.specs.Prelude.{ℕ, codes, ◌==◌, List, [], ◌∷◌, length, Option, Some, None, option_map, option_and_then, Result, Ok, Err, ◌&&◌, if◌then◌else◌}
use Rattle.std.specs.Str.{bytes_eq}
use Rattle.mama_link.specs.declared.faults.Fault.{Fault}
use Rattle.mama_link.specs.declared.faults.Fault.TheVariants.{Lose, Dup, Hold, Cut}
use Rattle.mama_words.specs.Reading.{◌>>=◌, or_fault, both}
use Rattle.mama_words.specs.Parting.{parted_in}
use Rattle.mama_words.specs.Number.{number_in, between_in}
use Rattle.mama_words.specs.Kind.{sub_kind_in, strategy_in}
use Rattle.mama_words.specs.Value.{text_in, nums_of}
use Rattle.mama_words.specs.declared.version.Version.{Version}
use Rattle.mama_words.specs.Field.{message_in}
use Rattle.mama_words.specs.Order.{order_in}
use Rattle.mama_words.specs.Id.{id_in}
use Rattle.mama_words.specs.declared.id.IdWord.{IdWord}
use Rattle.mama_script.specs.declared.head.Head.{Head}
use Rattle.mama_script.specs.declared.head.Head.TheVariants as heads
use Rattle.mama_script.specs.declared.head.Place.{Place}
use Rattle.mama_script.specs.declared.line.QueueName.{QueueName}
use Rattle.mama_script.specs.declared.line.QueueName.TheVariants.{Number, Any}
use Rattle.mama_script.specs.declared.line.Line.{Line}
use Rattle.mama_script.specs.declared.line.Line.TheVariants as lines
use Rattle.mama_script.specs.Head.{head_in, allows, knows}

unfoldable pub queue_in : List ℕ → Option QueueName
queue_in word = if bytes_eq word (codes "any") then Some Any else option_map (λ n. Number n) (number_in word)

-- a number from 1 to 2 ^ 32 - 1
abbrev pub count_in : List ℕ → Option ℕ
count_in word = between_in 1 4294967295 word

unfoldable pub strategy_line_in : List (List ℕ) → Result Line ℕ
strategy_line_in (first ∷ word ∷ []) = or_fault 5 (strategy_in word) >>= λ strategy. Ok (lines.Strategy strategy)
strategy_line_in words = Err 4

unfoldable pub queues_in : List (List ℕ) → Result Line ℕ
queues_in (first ∷ word ∷ []) = or_fault 5 (between_in 1 18446744073709551615 word) >>= λ n. Ok (lines.Queues n)
queues_in words = Err 4

-- a topic has a name
abbrev pub topic_or_fault : List ℕ → Result Line ℕ
topic_or_fault name = if length name == 0 then Err 6 else Ok (lines.Topic name)

unfoldable pub topic_in : List (List ℕ) → Result Line ℕ
topic_in (first ∷ word ∷ []) = or_fault 6 (text_in word) >>= topic_or_fault
topic_in words = Err 4

-- version 2 knows lists of numbers as fields
unfoldable pub publisher_in : Version → List (List ℕ) → Result Line ℕ
publisher_in version (first ∷ topic ∷ fields) = do
  topic ← or_fault 5 (number_in topic)
  base ← message_in (nums_of version) fields
  Ok (lines.Publisher topic base)
publisher_in version words = Err 4

unfoldable pub update_in : Version → List (List ℕ) → Result Line ℕ
update_in version (first ∷ fields) = message_in (nums_of version) fields >>= λ update. Ok (lines.Update update)
update_in version words = Err 4

-- a line of one word
unfoldable pub alone_in : Line → List (List ℕ) → Result Line ℕ
alone_in line (first ∷ []) = Ok line
alone_in line words = Err 4

unfoldable pub pause_in : List (List ℕ) → Result Line ℕ
pause_in (first ∷ rounds ∷ []) = or_fault 5 (between_in 1 1000000 rounds) >>= λ n. Ok (lines.Pause n)
pause_in words = Err 4

unfoldable pub sub_in : List (List ℕ) → Result Line ℕ
sub_in (first ∷ topic ∷ kind ∷ queue ∷ cache ∷ recaps ∷ []) = do
  kind ← or_fault 4 (sub_kind_in kind)
  topic ← or_fault 5 (number_in topic)
  queue ← or_fault 5 (queue_in queue)
  cache ← or_fault 5 (between_in 0 4096 cache)
  recaps ← or_fault 5 (between_in 0 1000000 recaps)
  Ok (lines.Sub topic kind queue cache recaps)
sub_in words = Err 4

-- an interval of 0 has its form
unfoldable pub timer_in : List (List ℕ) → Result Line ℕ
timer_in (first ∷ queue ∷ interval ∷ []) = do
  queue ← or_fault 5 (queue_in queue)
  interval ← or_fault 5 (between_in 0 4294967295 interval)
  Ok (lines.Timer queue interval)
timer_in words = Err 4

unfoldable pub inbox_in : List (List ℕ) → Result Line ℕ
inbox_in (first ∷ queue ∷ []) = or_fault 5 (queue_in queue) >>= λ queue. Ok (lines.Inbox queue)
inbox_in words = Err 4

-- the faults of one number
unfoldable pub short_fault_in : List ℕ → Option Fault
short_fault_in word = if bytes_eq word (codes "lose") then Some Lose else (if bytes_eq word (codes "dup") then Some Dup else None)

unfoldable pub hold_in : List ℕ → List ℕ → Result Line ℕ
hold_in index by = do
  index ← or_fault 5 (count_in index)
  by ← or_fault 5 (count_in by)
  Ok (lines.Fault (record { index = index; fault = Hold by }))

-- a cut may keep nothing
unfoldable pub cut_in : List ℕ → List ℕ → Result Line ℕ
cut_in index keep = do
  index ← or_fault 5 (count_in index)
  keep ← or_fault 5 (between_in 0 65535 keep)
  Ok (lines.Fault (record { index = index; fault = Cut keep }))

-- the faults of two numbers
unfoldable pub long_fault_in : List ℕ → List ℕ → List ℕ → Result Line ℕ
long_fault_in kind index number =
    if bytes_eq kind (codes "hold") then hold_in index number else (if bytes_eq kind (codes "cut") then cut_in index number else Err 4)

unfoldable pub fault_in : List (List ℕ) → Result Line ℕ
fault_in (first ∷ kind ∷ index ∷ []) = do
  fault ← or_fault 4 (short_fault_in kind)
  index ← or_fault 5 (count_in index)
  Ok (lines.Fault (record { index = index; fault = fault }))
fault_in (first ∷ kind ∷ index ∷ number ∷ []) = long_fault_in kind index number
fault_in words = Err 4

-- the number of the call and the order are looked at together
unfoldable pub at_in : List (List ℕ) → Result Line ℕ
at_in (first ∷ call ∷ order) = both (or_fault 5 (count_in call)) (order_in order) >>= λ x. Ok (lines.At x.0 x.1)
at_in words = Err 4

abbrev pub order_line_in : List (List ℕ) → Result Line ℕ
order_line_in words = order_in words >>= λ order. Ok (lines.Order order)

unfoldable pub now_in : List (List ℕ) → Result Line ℕ
now_in (first ∷ word ∷ []) =
    if bytes_eq word (codes "clock") then Ok lines.NowClock
    else (or_fault 5 (between_in 0 9223372036854775807 word) >>= λ moment. Ok (lines.Now moment))
now_in words = Err 4

abbrev pub cons_id : IdWord → Option (List IdWord) → Option (List IdWord)
cons_id id None = None
cons_id id (Some ids) = Some (id ∷ ids)

-- the subscriptions that the words name
abbrev pub subs_in : List (List ℕ) → Option (List IdWord)
subs_in [] = Some []
subs_in (w ∷ ws) = option_and_then (λ id. cons_id id (subs_in ws)) (id_in 115 w)

-- a group has a member
unfoldable pub group_in : List (List ℕ) → Result Line ℕ
group_in (first ∷ member ∷ members) = or_fault 5 (subs_in (member ∷ members)) >>= λ ids. Ok (lines.Group ids)
group_in words = Err 4

unfoldable pub watch_in : List (List ℕ) → Result Line ℕ
watch_in (first ∷ sub ∷ timer ∷ retries ∷ []) = do
  sub ← or_fault 5 (id_in 115 sub)
  timer ← or_fault 5 (id_in 116 timer)
  retries ← or_fault 5 (between_in 0 1000 retries)
  Ok (lines.Watch sub timer retries)
watch_in words = Err 4

-- the line that the words spell, the first of which is its head
abbrev pub body_in : Version → Head → List (List ℕ) → Result Line ℕ
body_in version heads.Strategy words = strategy_line_in words
body_in version heads.Queues words = queues_in words
body_in version heads.Topic words = topic_in words
body_in version heads.Publisher words = publisher_in version words
body_in version heads.Update words = update_in version words
body_in version heads.Recap words = alone_in lines.Recap words
body_in version heads.Pause words = pause_in words
body_in version heads.Client words = alone_in lines.Client words
body_in version heads.Sub words = sub_in words
body_in version heads.Timer words = timer_in words
body_in version heads.Inbox words = inbox_in words
body_in version heads.Fault words = fault_in words
body_in version heads.At words = at_in words
body_in version heads.Stop words = order_line_in words
body_in version heads.Disarm words = order_line_in words
body_in version heads.Close words = order_line_in words
body_in version heads.Ask words = order_line_in words
body_in version heads.Now words = now_in words
body_in version heads.Group words = group_in words
body_in version heads.Watch words = watch_in words

-- the head, if it may stand here and the version knows it
abbrev pub if_allowed : Version → Place → Option Head → Option Head
if_allowed version place None = None
if_allowed version place (Some head) = if allows place head && knows version head then Some head else None

-- what the first of the words begins
abbrev pub head_at : Version → Place → List (List ℕ) → Option Head
head_at version place [] = None
head_at version place (first ∷ words) = if_allowed version place (head_in first)

-- the line that a text spells at this place of a script of this version
unfoldable pub form_in : Version → Place → List ℕ → Result Line ℕ
form_in version place text = do
  words ← or_fault 2 (parted_in text)
  head ← or_fault 3 (head_at version place words)
  body_in version head words
