-- inner: The sections of a log, by the lines that begin them.
use Rattle.std.specs.Prelude.{◌≡◌, ℕ, zero, suc, ◌==◌, Bool, true, false, codes, List, [], ◌∷◌, ◌++◌, length, map, if◌then◌else◌}
use Rattle.std.specs.List.{list_any}
use Rattle.mama_edge.specs.Decimal.{decimal}
use Rattle.mama_words.specs.Id.{object_text}
use Rattle.mama_event.specs.declared.ids.ObjectId.{ObjectId}
use Rattle.mama_event.specs.Ports.{queues_of}
use Rattle.mama_event.specs.declared.shape.Strategy.{Strategy}
use Rattle.mama_words.specs.Kind.{strategy_text}
use Rattle.mama_words.specs.declared.version.Version.{Version}
use Rattle.mama_words.specs.declared.version.Version.TheVariants as version
use Rattle.mama_record.specs.LogText.{told}
use Rattle.mama_script.specs.Script.{ScriptData}
use Rattle.mama_rules_legal.specs.Form.{objects_of}
use Rattle.mama_log_read.specs.declared.section.Section.{Section}
use Rattle.mama_log_read.specs.declared.section.Section.TheVariants as s

-- the line that begins a section, as version 1 has it
abbrev pub head_of : Section → List ℕ
head_of (s.Title version.One) = codes "mama log 1"
head_of (s.Title version.Two) = codes "mama log 2"
head_of (s.Strategy strategy) = codes "strategy " ++ strategy_text strategy
head_of (s.Client n) = codes "client " ++ decimal n
head_of (s.Publisher n) = codes "publisher " ++ decimal n
head_of s.Bridge = codes "bridge"
head_of s.Timers = codes "timers"
head_of (s.Queue n) = codes "queue " ++ decimal n
head_of (s.Object o) = codes "on " ++ object_text o
head_of (s.Group n) = codes "group " ++ decimal n
head_of (s.Watch n) = codes "watch " ++ decimal n
head_of s.Images = codes "images"
head_of s.End = codes "end"

-- whether the line tells how many lines stand behind it: in version 2, unless there are none in every log
abbrev pub has_count : Version → Section → Bool
has_count version.One section = false
has_count version.Two (s.Title version) = false
has_count version.Two (s.Strategy strategy) = false
has_count version.Two s.End = false
has_count version.Two section = true

-- the line that begins a section of so many lines
abbrev pub first_of : Version → Section → ℕ → List ℕ
first_of v section count = if has_count v section then head_of section ++ told version.Two count else head_of section

-- the sections that tell the version and the strategy
abbrev pub titles : Version → Strategy → List Section
titles version.One strategy = s.Title version.One ∷ []
titles version.Two strategy = s.Title version.Two ∷ s.Strategy strategy ∷ []

-- so many sections with the numbers from n
abbrev pub numbered_from : (ℕ → Section) → ℕ → ℕ → List Section
numbered_from section n zero = []
numbered_from section n (suc count) = section n ∷ numbered_from section (suc n) count

-- the sections of a log with so many clients, publishers and queues, these objects, and so many groups and watches
abbrev pub sections_with : Version → Strategy → ℕ → ℕ → ℕ → List ObjectId → ℕ → ℕ → List Section
sections_with v strategy clients publishers queues objects groups watches =
    titles v strategy ++ (numbered_from s.Client 0 clients ++ (numbered_from s.Publisher 0 publishers ++ (s.Bridge ∷ s.Timers ∷
    (numbered_from s.Queue 0 queues ++ (map s.Object objects ++ (numbered_from s.Group 0 groups ++ (numbered_from s.Watch 0 watches ++ (s.Images ∷ s.End ∷ []))))))))

-- the sections of a log of a script in a version, in order
abbrev pub sections : Version → ScriptData → List Section
sections v script = sections_with v script.shape.strategy (length script.clients) (length script.publishers) (queues_of script.shape) (objects_of script) (length script.groups) (length script.watches)

-- whether a text has a line feed in it
abbrev pub has_feed : List ℕ → Bool
has_feed text = list_any (λ b. b == 10) text

-- a section whose first line is one line
abbrev pub HasPlainHead : Section → Type 0
HasPlainHead section = has_feed (head_of section) ≡ false
