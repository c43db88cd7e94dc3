-- believed: Ids of objects: a letter for the kind, the client's number, a point, and the number of that kind of object.
use Rattle.std.specs.Prelude.{ℕ, ◌==◌, List, [], ◌∷◌, ◌++◌, Option, None, option_and_then, option_map, if◌then◌else◌}
use Rattle.mama_event.specs.declared.ids.SubId.{SubId}
use Rattle.mama_event.specs.declared.ids.TimerId.{TimerId}
use Rattle.mama_event.specs.declared.ids.InboxId.{InboxId}
use Rattle.mama_event.specs.declared.ids.ObjectId.{ObjectId}
use Rattle.mama_event.specs.declared.ids.ObjectId.TheVariants.{Sub, Timer, Inbox}
use Rattle.mama_words.specs.declared.id.IdWord.{IdWord}
use Rattle.mama_words.specs.Parting.{cut_at}
use Rattle.mama_words.specs.Number.{number_in}
use Rattle.mama_edge.specs.Decimal.{decimal}

-- the spelling of an id behind its letter
abbrev pub numbers_text : IdWord → List ℕ
numbers_text id = decimal id.client ++ 46 ∷ decimal id.number

abbrev pub id_text : ℕ → IdWord → List ℕ
id_text letter id = letter ∷ numbers_text id

-- the two numbers of an id
abbrev pub pair_in : List ℕ × List ℕ → Option IdWord
pair_in cut = option_and_then (λ c. option_map (λ n. record { client = c; number = n }) (number_in cut.1)) (number_in cut.0)

-- the id that a word with this letter spells
abbrev pub id_in : ℕ → List ℕ → Option IdWord
id_in letter [] = None
id_in letter (b ∷ bs) = if b == letter then option_and_then pair_in (cut_at 46 bs) else None

-- an id of each kind, as a text names it
abbrev pub sub_word : SubId → IdWord
sub_word id = record { client = id.client; number = id.number }

abbrev pub timer_word : TimerId → IdWord
timer_word id = record { client = id.client; number = id.number }

abbrev pub inbox_word : InboxId → IdWord
inbox_word id = record { client = id.client; number = id.number }

-- the spelling of each kind of id
abbrev pub sub_text : SubId → List ℕ
sub_text id = id_text 115 (sub_word id)

abbrev pub timer_text : TimerId → List ℕ
timer_text id = id_text 116 (timer_word id)

abbrev pub inbox_text : InboxId → List ℕ
inbox_text id = id_text 105 (inbox_word id)

abbrev pub object_text : ObjectId → List ℕ
object_text (Sub id) = sub_text id
object_text (Timer id) = timer_text id
object_text (Inbox id) = inbox_text id
