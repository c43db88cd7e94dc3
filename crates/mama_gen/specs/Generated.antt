-- believed: The script of a seed: sixteen topics with a publisher each, and four clients that join them all over links with faults.
use Rattle.std.specs.Prelude.{ℕ, ◌+◌, ◌/◌, ◌%◌, codes, ◌==◌, List, [], ◌∷◌, ◌++◌, map, if◌then◌else◌}
use Rattle.std.specs.List.{range_with_len}
use Rattle.mama_msg.specs.declared.value.Value.TheVariants as values
use Rattle.mama_msg.specs.Field.{FieldData}
use Rattle.mama_event.specs.declared.market.SubKind.TheVariants.{Market}
use Rattle.mama_event.specs.declared.shape.Strategy.TheVariants as strategy
use Rattle.mama_words.specs.declared.version.Version.TheVariants as version
use Rattle.mama_link.specs.declared.faults.Fault.{Fault}
use Rattle.mama_link.specs.declared.faults.Fault.TheVariants.{Lose, Dup, Hold}
use Rattle.mama_link.specs.declared.faults.FaultRow.{FaultRow}
use Rattle.mama_script.specs.declared.publisher.PublisherLine.{PublisherLine}
use Rattle.mama_script.specs.declared.publisher.PublisherLine.TheVariants.{Update}
use Rattle.mama_script.specs.declared.publisher.PublisherPart.{PublisherPart}
use Rattle.mama_script.specs.declared.client.QueueWord.TheVariants.{Any}
use Rattle.mama_script.specs.declared.client.ClientLine.{ClientLine}
use Rattle.mama_script.specs.declared.client.ClientLine.TheVariants.{Sub}
use Rattle.mama_script.specs.Script.{ScriptData}
use Rattle.mama_script.specs.Tree.{script_text}
use Rattle.mama_gen.specs.Draws.{Drawn, draw, give, ◌>>=◌, each}

-- "SYM." and the two digits of the topic's number
abbrev pub topic_name : ℕ → List ℕ
topic_name topic = codes "SYM." ++ (48 + topic / 10) ∷ (48 + topic % 10) ∷ []

abbrev pub bid : ℕ → FieldData
bid value = record { fid = 1; name = codes "bid"; value = values.U32 value }

abbrev pub ask : ℕ → FieldData
ask value = record { fid = 2; name = codes "ask"; value = values.U32 value }

abbrev pub size : ℕ → FieldData
size value = record { fid = 3; name = codes "size"; value = values.U32 value }

-- the fields that an update may have, by their number from 0
abbrev pub field : ℕ → ℕ → FieldData
field number value = if number == 0 then bid value else (if number == 1 then ask value else size value)

-- a field's value, from 1000 to 1999
abbrev pub value : Drawn ℕ
value = do
  more ← draw 1000
  give (1000 + more)

-- an update of one field
abbrev pub update : Drawn PublisherLine
update = do
  number ← draw 3
  v ← value
  give (Update (field number v ∷ []))

-- a value for each field
abbrev pub base : Drawn (List FieldData)
base = do
  b ← value
  a ← value
  s ← value
  give (bid b ∷ ask a ∷ size s ∷ [])

-- the publisher of a topic: what its record begins with, and then 250 updates
abbrev pub publisher : ℕ → Drawn PublisherPart
publisher topic = do
  fields ← base
  updates ← each 250 (λ n. update)
  give (record { topic = topic; base = fields; lines = updates })

-- a loss, a repetition, or a hold by 1 to 4
abbrev pub fault : ℕ → Drawn Fault
fault number =
    if number == 0 then give Lose
    else (if number == 1 then give Dup
    else (draw 4 >>= λ more. give (Hold (1 + more))))

-- a fault of a message whose index is among so many from the first on
abbrev pub row : ℕ → ℕ → Drawn FaultRow
row first many = do
  number ← draw 3
  more ← draw many
  what ← fault number
  give (record { index = first + more; fault = what })

-- a subscription of a topic, over a link with three faults
abbrev pub subscription : ℕ → Drawn ClientLine
subscription topic = do
  a ← row 2 80
  b ← row 100 80
  c ← row 200 50
  give (Sub topic Market Any 10 1000 (a ∷ b ∷ c ∷ []) [])

abbrev pub client : Drawn (List ClientLine)
client = each 16 subscription

abbrev pub script : Drawn ScriptData
script = do
  publishers ← each 16 publisher
  clients ← each 4 (λ n. client)
  give (record {
    version = version.One;
    shape = record { clients = 4; publisher_topics = range_with_len 0 16; bounds = record { topics = 16; queues = 4 }; strategy = strategy.One };
    topics = map topic_name (range_with_len 0 16);
    publishers = publishers;
    clients = clients;
    groups = [];
    watches = [];
  })

-- the script that the draws from a seed make
unfoldable pub script_of_seed : ℕ → ScriptData
script_of_seed seed = (script seed).0

-- its text
abbrev pub generated : ℕ → List ℕ
generated seed = script_text (script_of_seed seed)
