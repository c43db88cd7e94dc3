-- believed: Lines of a script, and how they are spelled.
use Rattle.std.specs.Prelude.{◌≡◌, ℕ, ◌^◌, ◌<◌, ◌≤◌, codes, false, ◌==◌, List, [], ◌∷◌, ◌++◌, length, map}
use Rattle.mama_link.specs.declared.faults.Fault.{Fault}
use Rattle.mama_link.specs.declared.faults.Fault.TheVariants.{Lose, Dup, Hold, Cut}
use Rattle.mama_edge.specs.Decimal.{decimal}
use Rattle.mama_edge.specs.Quoted.{quoted}
use Rattle.mama_msg.specs.Value.{IsText}
use Rattle.mama_words.specs.Kind.{sub_kind_text, strategy_text}
use Rattle.mama_words.specs.declared.version.Version.{Version}
use Rattle.mama_words.specs.declared.version.Version.TheVariants.{Two}
use Rattle.mama_words.specs.Id.{id_text}
use Rattle.std.specs.List.{AllByRecursion}
use Rattle.mama_words.specs.Value.{nums_of}
use Rattle.mama_words.specs.Field.{field_text, IsMessage}
use Rattle.mama_words.specs.Order.{order_words, IsOrder, IsId}
use Rattle.mama_words.specs.declared.order.OrderWord.{OrderWord}
use Rattle.mama_words.specs.declared.order.OrderWord.TheVariants as orders
use Rattle.mama_words.specs.Sentence.{sentence}
use Rattle.mama_script.specs.declared.head.Head.{Head}
use Rattle.mama_script.specs.declared.head.Head.TheVariants as heads
use Rattle.mama_script.specs.declared.line.QueueName.{QueueName}
use Rattle.mama_script.specs.declared.line.QueueName.TheVariants.{Number, Any}
use Rattle.mama_script.specs.declared.line.Line.{Line}
use Rattle.mama_script.specs.declared.line.Line.TheVariants as lines

abbrev pub queue_text : QueueName → List ℕ
queue_text (Number n) = decimal n
queue_text Any = codes "any"

-- the words of a fault behind the first
abbrev pub fault_words : ℕ → Fault → List (List ℕ)
fault_words index Lose = codes "lose" ∷ decimal index ∷ []
fault_words index Dup = codes "dup" ∷ decimal index ∷ []
fault_words index (Hold by) = codes "hold" ∷ decimal index ∷ decimal by ∷ []
fault_words index (Cut keep) = codes "cut" ∷ decimal index ∷ decimal keep ∷ []

-- the words of a line
abbrev pub line_words : Line → List (List ℕ)
line_words (lines.Strategy strategy) = codes "strategy" ∷ strategy_text strategy ∷ []
line_words (lines.Queues n) = codes "queues" ∷ decimal n ∷ []
line_words (lines.Topic name) = codes "topic" ∷ quoted name ∷ []
line_words (lines.Publisher topic base) = codes "publisher" ∷ decimal topic ∷ map field_text base
line_words (lines.Update update) = codes "update" ∷ map field_text update
line_words lines.Recap = codes "recap" ∷ []
line_words (lines.Pause rounds) = codes "pause" ∷ decimal rounds ∷ []
line_words lines.Client = codes "client" ∷ []
line_words (lines.Sub topic kind queue cache recaps) = codes "sub" ∷ decimal topic ∷ sub_kind_text kind ∷ queue_text queue ∷ decimal cache ∷ decimal recaps ∷ []
line_words (lines.Timer queue interval) = codes "timer" ∷ queue_text queue ∷ decimal interval ∷ []
line_words (lines.Inbox queue) = codes "inbox" ∷ queue_text queue ∷ []
line_words (lines.Fault row) = codes "fault" ∷ fault_words row.index row.fault
line_words (lines.At call order) = codes "at" ∷ decimal call ∷ order_words order
line_words (lines.Order order) = order_words order
line_words (lines.Now moment) = codes "now" ∷ decimal moment ∷ []
line_words lines.NowClock = codes "now" ∷ codes "clock" ∷ []
line_words (lines.Group ids) = codes "group" ∷ map (id_text 115) ids
line_words (lines.Watch sub timer retries) = codes "watch" ∷ id_text 115 sub ∷ id_text 116 timer ∷ decimal retries ∷ []

-- the spelling of a line: its words with one space between them
abbrev pub line_text : Line → List ℕ
line_text line = sentence (line_words line)

-- the spelling, with the byte that ends a line
abbrev pub ended : Line → List ℕ
ended line = line_text line ++ 10 ∷ []

abbrev pub head_of_order : OrderWord → Head
head_of_order (orders.Stop id) = heads.Stop
head_of_order (orders.Disarm id) = heads.Disarm
head_of_order (orders.Close id) = heads.Close
head_of_order (orders.Ask id topic fids) = heads.Ask

-- what a line begins with
abbrev pub head_of : Line → Head
head_of (lines.Strategy strategy) = heads.Strategy
head_of (lines.Queues n) = heads.Queues
head_of (lines.Topic name) = heads.Topic
head_of (lines.Publisher topic base) = heads.Publisher
head_of (lines.Update update) = heads.Update
head_of lines.Recap = heads.Recap
head_of (lines.Pause rounds) = heads.Pause
head_of lines.Client = heads.Client
head_of (lines.Sub topic kind queue cache recaps) = heads.Sub
head_of (lines.Timer queue interval) = heads.Timer
head_of (lines.Inbox queue) = heads.Inbox
head_of (lines.Fault row) = heads.Fault
head_of (lines.At call order) = heads.At
head_of (lines.Order order) = head_of_order order
head_of (lines.Now moment) = heads.Now
head_of lines.NowClock = heads.Now
head_of (lines.Group ids) = heads.Group
head_of (lines.Watch sub timer retries) = heads.Watch

-- numbers of topics and queues are any below 2 ^ 64: whether they are declared, the other lines say
abbrev pub IsQueueName : QueueName → Type 0
IsQueueName (Number n) = n < 2 ^ 64
IsQueueName Any = Unit {0}

abbrev pub IsFault : Fault → Type 0
IsFault Lose = Unit {0}
IsFault Dup = Unit {0}
IsFault (Hold by) = (1 ≤ by) × (by ≤ 4294967295)
IsFault (Cut keep) = keep ≤ 65535

-- a line that the version knows, with each number in its range
abbrev pub IsLine : Version → Line → Type 0
IsLine version (lines.Strategy strategy) = Unit {0}
IsLine version (lines.Queues n) = (1 ≤ n) × (n < 2 ^ 64)
IsLine version (lines.Topic name) = IsText name × ((length name == 0) ≡ false)
IsLine version (lines.Publisher topic base) = (topic < 2 ^ 64) × IsMessage (nums_of version) base
IsLine version (lines.Update update) = IsMessage (nums_of version) update
IsLine version lines.Recap = Unit {0}
IsLine version (lines.Pause rounds) = (1 ≤ rounds) × (rounds ≤ 1000000)
IsLine version lines.Client = Unit {0}
IsLine version (lines.Sub topic kind queue cache recaps) = (topic < 2 ^ 64) × IsQueueName queue × (cache ≤ 4096) × (recaps ≤ 1000000)
IsLine version (lines.Timer queue interval) = IsQueueName queue × (interval ≤ 4294967295)
IsLine version (lines.Inbox queue) = IsQueueName queue
IsLine version (lines.Fault row) = (1 ≤ row.index) × (row.index ≤ 4294967295) × IsFault row.fault
IsLine version (lines.At call order) = (1 ≤ call) × (call ≤ 4294967295) × IsOrder order
IsLine version (lines.Order order) = IsOrder order
IsLine version (lines.Now moment) = moment ≤ 9223372036854775807
IsLine version lines.NowClock = Unit {0}
IsLine version (lines.Group ids) = (version ≡ Two) × ((length ids == 0) ≡ false) × AllByRecursion IsId ids
IsLine version (lines.Watch sub timer retries) = (version ≡ Two) × IsId sub × IsId timer × (retries ≤ 1000)
