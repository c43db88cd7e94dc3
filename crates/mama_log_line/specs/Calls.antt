-- inner: How callbacks, orders, moments of a clock and images are read.
use Rattle.std.specs.Prelude.{ℕ, ◌^◌, ◌==◌, Bool, false, List, [], ◌∷◌, Result, Ok, Err}
use Rattle.mama_event.specs.declared.ids.ObjectId.{ObjectId}
use Rattle.mama_event.specs.declared.ids.ObjectId.TheVariants.{Sub, Timer, Inbox}
use Rattle.mama_event.specs.declared.order.Order.{Order}
use Rattle.mama_event.specs.declared.order.Order.TheVariants as orders
use Rattle.mama_event.specs.declared.callback.Callback.{Callback}
use Rattle.mama_event.specs.declared.callback.Callback.TheVariants as on
use Rattle.mama_words.specs.declared.order.OrderWord.{OrderWord}
use Rattle.mama_words.specs.declared.order.OrderWord.TheVariants as words
use Rattle.mama_words.specs.Reading.{◌>>=◌, or_fault}
use Rattle.mama_words.specs.Parting.{parted_in}
use Rattle.mama_words.specs.Number.{number_in, below_in}
use Rattle.mama_words.specs.KindIn.{msg_kind_in, quality_in}
use Rattle.mama_words.specs.declared.nums.Nums.{Nums}
use Rattle.mama_words.specs.Field.{message_in}
use Rattle.mama_words.specs.Order.{order_in}
use Rattle.mama_record.specs.RunData.{LastImage}
use Rattle.mama_log_line.specs.declared.head.Head.{Head}
use Rattle.mama_log_line.specs.declared.head.Head.TheVariants as heads
use Rattle.mama_log_line.specs.Head.{head_in}
use Rattle.mama_log_line.specs.Names.{NamesData}
use Rattle.mama_log_line.specs.Word.{known_sub, known_timer, known_inbox, known_topic, sub_in, small_in, body_in}
use Rattle.mama_log_line.specs.Journal.{alone_in}

-- CALLBACKS

unfoldable pub msg_in : Nums → List (List ℕ) → Result Callback ℕ
msg_in nums (kind ∷ sender ∷ seq ∷ quality ∷ fields) = do
  kind ← or_fault 4 (msg_kind_in kind)
  sender ← small_in sender
  seq ← small_in seq
  quality ← or_fault 4 (quality_in quality)
  body ← body_in nums fields
  Ok (on.Msg (record { kind = kind; sender = sender; seq = seq; body = body }) quality)
msg_in nums words = Err 4

unfoldable pub gap_in : List (List ℕ) → Result Callback ℕ
gap_in (first ∷ to ∷ []) = do
  first ← small_in first
  to ← small_in to
  Ok (on.Gap first to)
gap_in words = Err 4

unfoldable pub quality_call_in : List (List ℕ) → Result Callback ℕ
quality_call_in (quality ∷ number ∷ []) = do
  quality ← or_fault 4 (quality_in quality)
  number ← small_in number
  Ok (on.Quality quality number)
quality_call_in words = Err 4

unfoldable pub request_in : List (List ℕ) → Result Callback ℕ
request_in (sender ∷ []) = small_in sender >>= λ sender. Ok (on.RecapRequest sender)
request_in words = Err 4

unfoldable pub late_in : List (List ℕ) → Result Callback ℕ
late_in (sender ∷ seq ∷ []) = do
  sender ← small_in sender
  seq ← small_in seq
  Ok (on.Late sender seq)
late_in words = Err 4

unfoldable pub error_in : List (List ℕ) → Result Callback ℕ
error_in (code ∷ []) = or_fault 5 (below_in (2 ^ 8) code) >>= λ code. Ok (on.Error code)
error_in words = Err 4

unfoldable pub ticked_in : List (List ℕ) → Result Callback ℕ
ticked_in (moment ∷ []) = or_fault 5 (number_in moment) >>= λ moment. Ok (on.Tick moment)
ticked_in words = Err 4

unfoldable pub replied_in : Nums → List (List ℕ) → Result Callback ℕ
replied_in nums words = body_in nums words >>= λ body. Ok (on.Reply body)

abbrev pub sub_call_in : Nums → Head → List (List ℕ) → Result Callback ℕ
sub_call_in nums heads.Create words = alone_in on.Create words
sub_call_in nums heads.Msg words = msg_in nums words
sub_call_in nums heads.Gap words = gap_in words
sub_call_in nums heads.Quality words = quality_call_in words
sub_call_in nums heads.Request words = request_in words
sub_call_in nums heads.Late words = late_in words
sub_call_in nums heads.Error words = error_in words
sub_call_in nums heads.Destroy words = alone_in on.Destroy words
sub_call_in nums _ words = Err 3

abbrev pub timer_call_in : Head → List (List ℕ) → Result Callback ℕ
timer_call_in heads.Create words = alone_in on.Create words
timer_call_in heads.Tick words = ticked_in words
timer_call_in heads.Destroy words = alone_in on.Destroy words
timer_call_in _ words = Err 3

abbrev pub inbox_call_in : Nums → Head → List (List ℕ) → Result Callback ℕ
inbox_call_in nums heads.Create words = alone_in on.Create words
inbox_call_in nums heads.Reply words = replied_in nums words
inbox_call_in nums heads.Error words = error_in words
inbox_call_in nums heads.Destroy words = alone_in on.Destroy words
inbox_call_in nums _ words = Err 3

abbrev pub call_by : Nums → ObjectId → Head → List (List ℕ) → Result Callback ℕ
call_by nums (Sub id) head words = sub_call_in nums head words
call_by nums (Timer id) head words = timer_call_in head words
call_by nums (Inbox id) head words = inbox_call_in nums head words

unfoldable pub call_words_in : Nums → ObjectId → List (List ℕ) → Result Callback ℕ
call_words_in nums object (head ∷ words) = or_fault 3 (head_in head) >>= λ head. call_by nums object head words
call_words_in nums object [] = Err 4

-- a callback of this object
unfoldable pub call_line_in : Nums → ObjectId → List ℕ → Result Callback ℕ
call_line_in nums object line = or_fault 2 (parted_in line) >>= call_words_in nums object

-- ORDERS

-- the order, if the script declares what it names
unfoldable pub known_order : NamesData → OrderWord → Result Order ℕ
known_order names (words.Stop id) = or_fault 10 (known_sub names id) >>= λ id. Ok (orders.Stop id)
known_order names (words.Disarm id) = or_fault 10 (known_timer names id) >>= λ id. Ok (orders.Disarm id)
known_order names (words.Close id) = or_fault 10 (known_inbox names id) >>= λ id. Ok (orders.Close id)
known_order names (words.Ask id topic fids) = do
  inbox ← or_fault 10 (known_inbox names id)
  topic ← or_fault 9 (known_topic names topic)
  Ok (orders.Ask inbox topic fids)

abbrev pub order_body_in : NamesData → Head → List (List ℕ) → Result Order ℕ
order_body_in names heads.Order words = order_in words >>= known_order names
order_body_in names _ words = Err 3

unfoldable pub order_words_in : NamesData → List (List ℕ) → Result Order ℕ
order_words_in names (head ∷ words) = or_fault 3 (head_in head) >>= λ head. order_body_in names head words
order_words_in names [] = Err 4

-- whether the first byte is that of the word that orders begin with
abbrev pub begins_as_order : List ℕ → Bool
begins_as_order [] = false
begins_as_order (b ∷ bs) = b == 111

unfoldable pub order_line_in : NamesData → List ℕ → Result Order ℕ
order_line_in names line = or_fault 2 (parted_in line) >>= order_words_in names

-- CLOCKS

unfoldable pub clock_moment_in : List (List ℕ) → Result ℕ ℕ
clock_moment_in (word ∷ []) = or_fault 5 (number_in word)
clock_moment_in words = Err 4

abbrev pub clock_body_in : Head → List (List ℕ) → Result ℕ ℕ
clock_body_in heads.Clock words = clock_moment_in words
clock_body_in _ words = Err 3

unfoldable pub clock_words_in : List (List ℕ) → Result ℕ ℕ
clock_words_in (head ∷ words) = or_fault 3 (head_in head) >>= λ head. clock_body_in head words
clock_words_in [] = Err 4

unfoldable pub clock_line_in : List ℕ → Result ℕ ℕ
clock_line_in line = or_fault 2 (parted_in line) >>= clock_words_in

-- IMAGES

unfoldable pub image_words_in : NamesData → List (List ℕ) → Result LastImage ℕ
image_words_in names (sub ∷ quality ∷ sender ∷ last ∷ fields) = do
  sub ← sub_in names sub
  quality ← or_fault 4 (quality_in quality)
  sender ← small_in sender
  last ← small_in last
  body ← message_in names.nums fields
  Ok (record { sub = sub; head = record { sender = sender; last = last; quality = quality }; body = body })
image_words_in names words = Err 4

unfoldable pub image_line_in : NamesData → List ℕ → Result LastImage ℕ
image_line_in names line = or_fault 2 (parted_in line) >>= image_words_in names
