-- inner: Lines that may stand in a row, each at its place, with numbers of 32 bits: those from which sections can be taken.
use Rattle.std.specs.Prelude.{◌≡◌, ◌^◌, ◌<◌, true, List, [], ◌∷◌, ◌++◌, Option, None}
use Rattle.mama_link.specs.declared.faults.FaultRow.{FaultRow}
use Rattle.mama_link.specs.declared.faults.FaultsFault.{FaultsFault}
use Rattle.mama_link.specs.Faults.{fault_of_row}
use Rattle.std.specs.List.{AllByRecursion}
use Rattle.mama_words.specs.declared.id.IdWord.{IdWord}
use Rattle.mama_words.specs.declared.order.OrderWord.{OrderWord}
use Rattle.mama_words.specs.declared.order.OrderWord.TheVariants as orders
use Rattle.mama_script.specs.declared.head.Place.{Place}
use Rattle.mama_script.specs.declared.head.Place.TheVariants as places
use Rattle.mama_script.specs.declared.line.QueueName.{QueueName}
use Rattle.mama_script.specs.declared.line.QueueName.TheVariants.{Number, Any}
use Rattle.mama_script.specs.declared.line.Line.{Line}
use Rattle.mama_script.specs.declared.line.Line.TheVariants as lines
use Rattle.mama_script.specs.declared.tree.Taken.{Taken}
use Rattle.mama_script.specs.declared.tree.Taken.TheVariants.{Step, Other}
use Rattle.mama_script.specs.Head.{allows, may_end}
use Rattle.mama_script.specs.Line.{head_of}
use Rattle.mama_script.specs.Before.{beside}

abbrev pub IsSmallId : IdWord → Type 0
IsSmallId id = (id.client < 2 ^ 32) × (id.number < 2 ^ 32)

abbrev pub IsSmallOrder : OrderWord → Type 0
IsSmallOrder (orders.Stop id) = IsSmallId id
IsSmallOrder (orders.Disarm id) = IsSmallId id
IsSmallOrder (orders.Close id) = IsSmallId id
IsSmallOrder (orders.Ask inbox topic fids) = IsSmallId inbox × (topic < 2 ^ 32)

abbrev pub IsSmallQueue : QueueName → Type 0
IsSmallQueue (Number queue) = queue < 2 ^ 32
IsSmallQueue Any = Unit {0}

abbrev pub IsSmall : Line → Type 0
IsSmall (lines.Queues queues) = queues < 2 ^ 32
IsSmall (lines.Publisher topic base) = topic < 2 ^ 32
IsSmall (lines.Sub topic kind queue cache recaps) = (topic < 2 ^ 32) × IsSmallQueue queue
IsSmall (lines.Timer queue interval) = IsSmallQueue queue
IsSmall (lines.Inbox queue) = IsSmallQueue queue
IsSmall (lines.At call order) = IsSmallOrder order
IsSmall (lines.Order order) = IsSmallOrder order
IsSmall (lines.Group ids) = AllByRecursion IsSmallId ids
IsSmall (lines.Watch sub timer retries) = IsSmallId sub × IsSmallId timer
IsSmall _ = Unit {0}

-- where the next line stands
abbrev pub place_behind : Place → Line → Place
place_behind place (lines.Strategy strategy) = places.Start
place_behind place (lines.Queues queues) = places.Topics
place_behind place (lines.Topic name) = place
place_behind place (lines.Publisher topic base) = places.Publisher
place_behind place (lines.Update update) = place
place_behind place lines.Recap = place
place_behind place lines.Client = places.Client
place_behind place (lines.Sub topic kind queue cache recaps) = places.Linked
place_behind place (lines.Timer queue interval) = places.Planned
place_behind place (lines.Inbox queue) = places.Linked
place_behind place (lines.Fault row) = place
place_behind place (lines.At call order) = places.Planned
place_behind place (lines.Group ids) = places.Groups
place_behind place (lines.Watch sub timer retries) = places.Watches
place_behind place _ = beside place

-- the faults of the object at hand
abbrev pub faults_behind : List FaultRow → Line → List FaultRow
faults_behind rows (lines.Fault row) = rows ++ row ∷ []
faults_behind rows _ = []

-- what is bad about the fault that a line tells, if it tells one
abbrev pub bad_fault : List FaultRow → Line → Option FaultsFault
bad_fault rows (lines.Fault row) = fault_of_row rows row
bad_fault rows _ = None

abbrev pub Stand : Place → List FaultRow → List Line → Type 0
Stand place rows [] = may_end place ≡ true
Stand place rows (l ∷ ls) = (allows place (head_of l) ≡ true) × IsSmall l × (bad_fault rows l ≡ None) × Stand (place_behind place l) (faults_behind rows l) ls

-- watches
abbrev pub AreWatches : List Line → Type 0
AreWatches [] = Unit {0}
AreWatches (lines.Watch sub timer retries ∷ ls) = IsSmallId sub × IsSmallId timer × AreWatches ls
AreWatches _ = ⊥

-- groups, and then watches
abbrev pub AreGroups : List Line → Type 0
AreGroups (lines.Group ids ∷ ls) = AllByRecursion IsSmallId ids × AreGroups ls
AreGroups ls = AreWatches ls

-- sections of clients, and then groups and watches
abbrev pub AreClients : List Line → Type 0
AreClients (lines.Client ∷ ls) = Stand places.Client [] ls
AreClients ls = AreGroups ls

-- sections of publishers, and then of clients
abbrev pub AreSections : List Line → Type 0
AreSections (lines.Publisher topic base ∷ ls) = (topic < 2 ^ 32) × Stand places.Publisher [] ls
AreSections ls = AreClients ls

-- behind a step stands what may stand there, and a line that is no step begins a section
abbrev pub StandBehind : Taken → List Line → Type 0
StandBehind (Step step) ls = Stand places.Client [] ls
StandBehind (Other line) ls = AreClients (line ∷ ls)
