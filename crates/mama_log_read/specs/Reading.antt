-- inner: How far a text was read.
use Rattle.std.specs.Prelude.{◌≡◌, ◌≢◌, ◌==◌, ◌||◌, not, ℕ, suc, Bool, true, false, Result, Ok, Err, ◌-◌, ◌^◌, ◌<◌, codes, List, [], ◌∷◌, ◌++◌, ◌⊎◌, length, drop, map, Option, Some, None, if◌then◌else◌}
use Rattle.std.specs.List.{All, flat_map}
use Rattle.std.specs.Str.{bytes_eq}
use Rattle.mama_event.specs.declared.ids.ObjectId.{ObjectId}
use Rattle.mama_event.specs.declared.order.Order.{Order}
use Rattle.mama_event.specs.declared.callback.Callback.{Callback}
use Rattle.mama_event.specs.declared.callback.CallNote.{CallNote}
use Rattle.mama_record.specs.RunData.{RunData, LastImage}
use Rattle.mama_record.specs.LogText.{lines_text, told, clock_text, publisher_entry_text, bridge_entry_text, timers_entry_text, queue_entry_text, callback_text, given_text, call_texts, group_note_text, watch_note_text, image_text}
use Rattle.mama_log_line.specs.Names.{NamesData}
use Rattle.mama_log_line.specs.Entering.{MayEnterPublisher, MayEnterBridge, MayEnterTimers, MayEnterQueue, MayHear, MayOrder, MayHearGroup, MayNote, IsLastImage}
use Rattle.mama_log_read.specs.Logged.{IsMoment, MayCall}
use Rattle.mama_log_read.specs.Unfit.{IsTellable, IfBad}
use Rattle.mama_log_read.specs.Section.{head_of, has_count, has_feed, HasPlainHead}
use Rattle.mama_log_read.specs.declared.fault.LogFault.{LogFault}
use Rattle.mama_log_read.specs.Part as part
use Rattle.mama_log_read.specs.Part.{Part, Fits, Filled, FitsIn, all_lines, bodies, behind, behind_all, ArePictures, put, run_after, nothing}
use Rattle.mama_log_read.specs.declared.section.Section.{Section}
use Rattle.mama_log_read.specs.declared.section.Told.{Told}
use Rattle.mama_log_read.specs.declared.section.Told.TheVariants as t
use Rattle.mama_words.specs.declared.version.Version.{Version}
use Rattle.mama_words.specs.declared.version.Version.TheVariants as version
use Rattle.mama_words.specs.Parting.{cut_at}
use Rattle.mama_words.specs.Number.{number_in}
use Rattle.mama_event.specs.declared.shape.Shape.{Shape}
use Rattle.mama_script.specs.Script.{ScriptData}

-- no entry of this kind stands at the head of a text
abbrev pub Stops : {A : Type 0} → (A → Type 0) → (A → List ℕ) → List ℕ → Type 0
Stops {A} May body rest = (x : A) (more : List ℕ) → May x → rest ≡ body x ++ 10 ∷ more → ⊥

-- the entry at the head of a text and what stands behind it, or none where no entry stands there
abbrev pub IsNext : {A : Type 0} → (A → Type 0) → (A → List ℕ) → List ℕ → Option (A × List ℕ) → Type 0
IsNext May body text None = Stops May body text
IsNext May body text (Some next) = May next.0 × (text ≡ body next.0 ++ 10 ∷ next.1)

-- all entries of one kind at the head of a text, and what stands behind them
pub record AreTaken {A : Type 0} (May : A → Type 0) (body : A → List ℕ) (text : List ℕ) (xs : List A) (rest : List ℕ) : Type 0 where
  pub each : All May xs
  pub taken : text ≡ lines_text (map body xs) ++ rest
  pub stops : Stops May body rest

-- the orders at the head of a text: 8, or as many as stand there
pub record AreOrdersTaken (names : NamesData) (text : List ℕ) (orders : List Order) (rest : List ℕ) : Type 0 where
  pub each : All (MayOrder names) orders
  pub taken : text ≡ lines_text (map given_text orders) ++ rest
  pub stops : length orders < 8 → Stops (MayOrder names) given_text rest

-- how many orders more the last of these callbacks may have
abbrev pub room : List CallNote → ℕ
room [] = 0
room (c ∷ []) = 8 - length c.orders
room (c ∷ d ∷ calls) = room (d ∷ calls)

-- a callback that was read with its orders
pub record IsCallTaken (names : NamesData) (object : ObjectId) (text : List ℕ) (call : CallNote) (rest : List ℕ) : Type 0 where
  pub may : MayCall names object call
  pub taken : text ≡ lines_text (call_texts call) ++ rest
  pub stops : length call.orders < 8 → Stops (MayOrder names) given_text rest

abbrev pub IsNextCall : NamesData → ObjectId → List ℕ → Option (CallNote × List ℕ) → Type 0
IsNextCall names object text None = Stops (MayHear names.nums object) callback_text text
IsNextCall names object text (Some next) = IsCallTaken names object text next.0 next.1

-- the callbacks of an object at the head of a text, with their orders
pub record AreCallsTaken (names : NamesData) (object : ObjectId) (text : List ℕ) (calls : List CallNote) (rest : List ℕ) : Type 0 where
  pub each : All (MayCall names object) calls
  pub taken : text ≡ lines_text (flat_map call_texts calls) ++ rest
  pub stops : Stops (MayHear names.nums object) callback_text rest
  pub orders : 0 < room calls → Stops (MayOrder names) given_text rest

-- an image of a subscription among these objects, and the objects behind it
abbrev pub IsPicture : NamesData → List ObjectId → LastImage → Type 0
IsPicture names objects i = IsLastImage names i × ((left : List ObjectId) × (behind objects i.sub ≡ Some left))

abbrev pub IsNextImage : NamesData → List ObjectId → List ℕ → Option (LastImage × List ObjectId × List ℕ) → Type 0
IsNextImage names objects text None = Stops (IsPicture names objects) image_text text
IsNextImage names objects text (Some next) = IsLastImage names next.0 × (behind objects next.0.sub ≡ Some next.1) × (text ≡ image_text next.0 ++ 10 ∷ next.2)

-- the images at the head of a text
pub record AreImagesTaken (names : NamesData) (objects : List ObjectId) (text : List ℕ) (images : List LastImage) (rest : List ℕ) : Type 0 where
  pub left : List ObjectId
  pub pictures : ArePictures names objects images left
  pub taken : text ≡ lines_text (map image_text images) ++ rest
  pub stops : Stops (IsPicture names left) image_text rest

-- a line that the entries of this part may go on with
abbrev pub GoesOn : NamesData → List ObjectId → Part → List ℕ → Type 0
GoesOn names objects part.Bare line = ⊥
GoesOn names objects (part.Moments moments) line = (m : ℕ) × IsMoment m × (line ≡ clock_text m)
GoesOn names objects (part.Sends entries) line = (e : _) × MayEnterPublisher names e × (line ≡ publisher_entry_text e)
GoesOn names objects (part.OnBridge entries) line = (e : _) × MayEnterBridge names e × (line ≡ bridge_entry_text names.shape e)
GoesOn names objects (part.OnTimers entries) line = (e : _) × MayEnterTimers names e × (line ≡ timers_entry_text names.shape e)
GoesOn names objects (part.OnQueue entries) line = (e : _) × MayEnterQueue names e × (line ≡ queue_entry_text e)
GoesOn names objects (part.Heard heard) line = ((c : Callback) × MayHear names.nums heard.object c × (line ≡ callback_text c)) ⊎ ((0 < room heard.calls) × ((o : Order) × MayOrder names o × (line ≡ given_text o)))
GoesOn names objects (part.Grouped g) line = (n : _) × MayHearGroup names n × (line ≡ group_note_text n)
GoesOn names objects (part.Watched w) line = (n : _) × MayNote n × (line ≡ watch_note_text n)
GoesOn names objects (part.Pictures images) line = (left : List ObjectId) × (behind_all objects (map (λ i. i.sub) images) ≡ Some left) × ((i : LastImage) × IsPicture names left i × (line ≡ image_text i))

-- a part was read, and its entries go on no further
pub record IsPartRead (names : NamesData) (objects : List ObjectId) (section : Section) (text : List ℕ) (old new : RunData) (rest : List ℕ) : Type 0 where
  pub part : Part
  pub fits : Fits names objects section part
  pub put : new ≡ put part old
  pub taken : text ≡ lines_text (bodies names.shape part) ++ rest
  pub stops : (line more : List ℕ) → rest ≡ line ++ 10 ∷ more → GoesOn names objects part line → ⊥

-- the last part of these
abbrev pub last_part : List Filled → Part
last_part [] = part.Bare
last_part (f ∷ []) = f.1
last_part (f ∷ g ∷ fs) = last_part (g ∷ fs)

-- what the first line of a section tells
abbrev pub IsTold : Version → Section → Told → List ℕ → Type 0
IsTold v section t.Nothing line = (has_count v section ≡ false) × (line ≡ head_of section)
IsTold v section (t.Lines count) line = (has_count v section ≡ true) × (count < 2 ^ 64) × (line ≡ head_of section ++ told version.Two count)

-- the number that stands behind a space
abbrev pub spaced_in : List ℕ → Option ℕ
spaced_in [] = None
spaced_in (b ∷ bs) = if b == 32 then number_in bs else None

-- a line that begins a section
abbrev pub Begins : Version → Section → List ℕ → Type 0
Begins v section line = (told : Told) × IsTold v section told line

-- as many lines as were told
abbrev pub IsTally : Told → ℕ → Type 0
IsTally t.Nothing count = Unit {0}
IsTally (t.Lines told) count = told ≡ count

-- a section whose lines are as many as a first line may tell
abbrev pub IsFew : Version → Shape → Filled → Type 0
IsFew v shape f = IsTellable v (length (bodies shape f.1))

-- these sections were read from the head of a text, and made this record
pub record AreRead (v : Version) (names : NamesData) (objects : List ObjectId) (sections : List Section) (text : List ℕ) (run : RunData) (rest : List ℕ) : Type 0 where
  pub parts : List Filled
  pub named : map (λ f. f.0) parts ≡ sections
  pub fits : All (FitsIn names objects) parts
  pub few : All (IsFew v names.shape) parts
  pub made : run ≡ run_after nothing parts
  pub taken : text ≡ lines_text (all_lines v names.shape parts) ++ rest
  pub stops : (line more : List ℕ) → rest ≡ line ++ 10 ∷ more → GoesOn names objects (last_part parts) line → ⊥

-- what is left is behind so many lines
abbrev pub IsNumbered : List ℕ → List ℕ → ℕ → Type 0
IsNumbered text rest number = (lines : List (List ℕ)) → All (λ line. has_feed line ≡ false) lines → text ≡ lines_text lines ++ rest → number ≡ suc (length lines)

-- Reading stopped in front of a line: these sections were read, and there is no line that begins the next one, or more is
-- left behind the last one.
pub record IsStuck (v : Version) (names : NamesData) (objects : List ObjectId) (sections : List Section) (text : List ℕ) (number : ℕ) : Type 0 where
  pub done : List Section
  pub left : List Section
  pub run : RunData
  pub rest : List ℕ
  pub read : AreRead v names objects done text run rest
  pub all : done ++ left ≡ sections
  pub no_head : (next : Section) (others : List Section) → left ≡ next ∷ others → HasPlainHead next → (line more : List ℕ) → Begins v next line → rest ≡ line ++ 10 ∷ more → ⊥
  pub no_end : rest ≡ [] → left ≡ [] → ⊥
  pub counted : IsNumbered text rest number

-- These sections were read, and the next one has another number of lines than its first line tells: reading stopped behind the
-- lines that were told, or behind the last that there is.
pub record IsMiscounted (v : Version) (names : NamesData) (objects : List ObjectId) (sections : List Section) (text : List ℕ) (number : ℕ) : Type 0 where
  pub done : List Section
  pub section : Section
  pub left : List Section
  pub run : RunData
  pub here : List ℕ
  pub read : AreRead v names objects done text run here
  pub all : done ++ section ∷ left ≡ sections
  pub first : List ℕ
  pub count : ℕ
  pub tells : IsTold v section (t.Lines count) first
  pub part : Part
  pub fits : Fits names objects section part
  pub after : List ℕ
  pub taken : here ≡ first ++ 10 ∷ (lines_text (bodies names.shape part) ++ after)
  pub stops : (line more : List ℕ) → after ≡ line ++ 10 ∷ more → GoesOn names objects part line → ⊥
  pub differs : count ≢ length (bodies names.shape part)
  pub rest : List ℕ
  pub stopped : rest ≡ lines_text (drop count (bodies names.shape part)) ++ after
  pub counted : IsNumbered text rest number

-- all sections were read to the end of the text, or reading stopped, or no memory was found
abbrev pub IsReadOrStuck : Version → NamesData → List ObjectId → List Section → List ℕ → Result RunData LogFault → Type 0
IsReadOrStuck v names objects sections text (Ok run) = AreRead v names objects sections text run []
IsReadOrStuck v names objects sections text (Err fault) = IfBad fault (λ number. IsStuck v names objects sections text number ⊎ IsMiscounted v names objects sections text number)

-- ---- which version a log has

-- a text begins with this line
abbrev pub begins_with : List ℕ → Option (List ℕ × List ℕ) → Bool
begins_with line None = false
begins_with line (Some cut) = bytes_eq cut.0 line

-- a script has groups or watches
abbrev pub has_lists : ScriptData → Bool
has_lists script = not (length script.groups == 0) || not (length script.watches == 0)

-- the version of a log of a script, by the script's version, by whether it has groups or watches, and by the log's first line
abbrev pub version_by : Version → Bool → List ℕ → Version
version_by version.One lists text = version.One
version_by version.Two lists text = if begins_with (codes "mama log 2") (cut_at 10 text) || lists then version.Two else version.One
