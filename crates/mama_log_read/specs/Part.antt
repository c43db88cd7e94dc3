-- inner: What a section of a log says: its entries, and their lines.
use Rattle.std.specs.Prelude.{◌≡◌, ℕ, List, [], ◌∷◌, ◌++◌, length, map, Option, Some, None, option_and_then, if◌then◌else◌}
use Rattle.std.specs.List.{All, flat_map}
use Rattle.mama_event.specs.Object.{same_object}
use Rattle.mama_event.specs.declared.shape.Shape.{Shape}
use Rattle.mama_event.specs.declared.ids.SubId.{SubId}
use Rattle.mama_event.specs.declared.ids.ObjectId.{ObjectId}
use Rattle.mama_event.specs.declared.ids.ObjectId.TheVariants.{Sub}
use Rattle.mama_event.specs.declared.to_bridge.BridgeNote.{BridgeNote}
use Rattle.mama_event.specs.declared.to_timers.TimersNote.{TimersNote}
use Rattle.mama_event.specs.declared.to_queue.QueueNote.{QueueNote}
use Rattle.mama_event.specs.declared.publisher_entry.PublisherEntry.{PublisherEntry}
use Rattle.mama_record.specs.RunData.{RunData, ObjectCalls, LastImage, GroupNotes, WatchNotes}
use Rattle.mama_record.specs.LogText.{clock_text, publisher_entry_text, bridge_entry_text, timers_entry_text, queue_entry_text, call_texts, image_text, group_note_text, watch_note_text}
use Rattle.mama_words.specs.declared.version.Version.{Version}
use Rattle.mama_log_line.specs.Names.{NamesData}
use Rattle.mama_log_line.specs.Entering.{MayEnterPublisher, MayEnterBridge, MayEnterTimers, MayEnterQueue, MayHearGroup, MayNote, IsLastImage}
use Rattle.mama_log_read.specs.Logged.{IsMoment, MayHearAll}
use Rattle.mama_log_read.specs.Section.{first_of}
use Rattle.mama_log_read.specs.declared.section.Section.{Section}
use Rattle.mama_log_read.specs.declared.section.Section.TheVariants as s

-- the entries of a section, by its kind
pub data Part : Type 0 where
  Bare : Part
  Moments : List ℕ → Part
  Sends : List PublisherEntry → Part
  OnBridge : List (ℕ × BridgeNote) → Part
  OnTimers : List (ℕ × TimersNote) → Part
  OnQueue : List (ℕ × QueueNote) → Part
  Heard : ObjectCalls → Part
  Pictures : List LastImage → Part
  Grouped : GroupNotes → Part
  Watched : WatchNotes → Part

-- the lines of a part's entries
abbrev pub bodies : Shape → Part → List (List ℕ)
bodies shape Bare = []
bodies shape (Moments moments) = map clock_text moments
bodies shape (Sends entries) = map publisher_entry_text entries
bodies shape (OnBridge entries) = map (bridge_entry_text shape) entries
bodies shape (OnTimers entries) = map (timers_entry_text shape) entries
bodies shape (OnQueue entries) = map queue_entry_text entries
bodies shape (Heard heard) = flat_map call_texts heard.calls
bodies shape (Pictures images) = map image_text images
bodies shape (Grouped g) = map group_note_text g.notes
bodies shape (Watched w) = map watch_note_text w.notes

-- WHICH ENTRIES A SECTION MAY HAVE

-- the objects behind this subscription
abbrev pub behind : List ObjectId → SubId → Option (List ObjectId)
behind [] sub = None
behind (o ∷ objects) sub = if same_object o (Sub sub) then Some objects else behind objects sub

-- the objects behind the last of these subscriptions, which stand in the order of the objects
abbrev pub behind_all : List ObjectId → List SubId → Option (List ObjectId)
behind_all objects [] = Some objects
behind_all objects (sub ∷ subs) = option_and_then (λ left. behind_all left subs) (behind objects sub)

-- images of subscriptions in the order of these objects, after which these objects are left
pub record ArePictures (names : NamesData) (objects : List ObjectId) (images : List LastImage) (left : List ObjectId) : Type 0 where
  pub each : All (IsLastImage names) images
  pub ordered : behind_all objects (map (λ i. i.sub) images) ≡ Some left

-- a part that the section may have
abbrev pub Fits : NamesData → List ObjectId → Section → Part → Type 0
Fits names objects (s.Title v) Bare = Unit {0}
Fits names objects (s.Strategy strategy) Bare = Unit {0}
Fits names objects (s.Client n) (Moments moments) = All IsMoment moments
Fits names objects (s.Publisher n) (Sends entries) = All (MayEnterPublisher names) entries
Fits names objects s.Bridge (OnBridge entries) = All (MayEnterBridge names) entries
Fits names objects s.Timers (OnTimers entries) = All (MayEnterTimers names) entries
Fits names objects (s.Queue n) (OnQueue entries) = All (MayEnterQueue names) entries
Fits names objects (s.Object o) (Heard heard) = (heard.object ≡ o) × MayHearAll names heard
Fits names objects (s.Group n) (Grouped g) = (g.group ≡ n) × All (MayHearGroup names) g.notes
Fits names objects (s.Watch n) (Watched w) = (w.watch ≡ n) × All MayNote w.notes
Fits names objects s.Images (Pictures images) = (left : List ObjectId) × ArePictures names objects images left
Fits names objects s.End Bare = Unit {0}
Fits names objects _ _ = ⊥

-- A LOG PART BY PART

-- a section with its entries
abbrev pub Filled : Type 0
Filled = Section × Part

abbrev pub FitsIn : NamesData → List ObjectId → Filled → Type 0
FitsIn names objects f = Fits names objects f.0 f.1

-- the lines of a section
abbrev pub lines_of : Version → Shape → Filled → List (List ℕ)
lines_of v shape f = first_of v f.0 (length (bodies shape f.1)) ∷ bodies shape f.1

abbrev pub all_lines : Version → Shape → List Filled → List (List ℕ)
all_lines v shape fs = flat_map (lines_of v shape) fs

-- the record of nothing
abbrev pub nothing : RunData
nothing = record { clients = []; publishers = []; bridge = []; timers = []; queues = []; calls = []; images = []; groups = []; watches = [] }

-- a record with a part more
abbrev pub put : Part → RunData → RunData
put Bare r = r
put (Moments moments) r = record r { clients = r.clients ++ moments ∷ [] }
put (Sends entries) r = record r { publishers = r.publishers ++ entries ∷ [] }
put (OnBridge entries) r = record r { bridge = entries }
put (OnTimers entries) r = record r { timers = entries }
put (OnQueue entries) r = record r { queues = r.queues ++ entries ∷ [] }
put (Heard heard) r = record r { calls = r.calls ++ heard ∷ [] }
put (Pictures images) r = record r { images = images }
put (Grouped g) r = record r { groups = r.groups ++ g ∷ [] }
put (Watched w) r = record r { watches = r.watches ++ w ∷ [] }

-- a record with these parts more, one after the other
abbrev pub run_after : RunData → List Filled → RunData
run_after r [] = r
run_after r (f ∷ fs) = run_after (put f.1 r) fs
