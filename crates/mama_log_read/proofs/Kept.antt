-- A part that was read is kept in the record.
use Rattle.std.proofs.Common.{◌≡◌, ℕ, List, [], ◌∷◌, ◌++◌, refl, sym, ap, subst, ◌∙◌, inl, inr}
use Rattle.mama_event.specs.declared.ids.ObjectId.{ObjectId}
use Rattle.mama_event.specs.declared.shape.Strategy.{Strategy}
use Rattle.mama_words.specs.declared.version.Version.{Version}
use Rattle.mama_event.specs.declared.callback.CallNote.{CallNote}
use Rattle.mama_event.specs.declared.group.GroupNote.{GroupNote}
use Rattle.mama_event.specs.declared.watch.WatchNote.{WatchNote}
use Rattle.mama_event.specs.declared.to_bridge.BridgeNote.{BridgeNote}
use Rattle.mama_event.specs.declared.to_timers.TimersNote.{TimersNote}
use Rattle.mama_event.specs.declared.to_queue.QueueNote.{QueueNote}
use Rattle.mama_event.specs.declared.publisher_entry.PublisherEntry.{PublisherEntry}
use Rattle.mama_record.specs.RunData.{RunData, GroupNotes, WatchNotes, ObjectCalls, LastImage}
use Rattle.mama_record.specs.LogText.{group_note_text, watch_note_text, publisher_entry_text, bridge_entry_text, clock_text, queue_entry_text, timers_entry_text}
use Rattle.mama_words.proofs.Choices.{some_is}
use Rattle.mama_log_line.specs.Names.{NamesData}
use Rattle.mama_log_line.specs.Entering.{MayEnterPublisher, MayEnterBridge, MayEnterTimers, MayEnterQueue, MayHearGroup, MayNote}
use Rattle.mama_log_read.specs.Logged.{IsMoment}
use Rattle.mama_log_read.specs.Part.{Bare, Moments, Sends, OnBridge, OnTimers, OnQueue, Heard, Pictures, Grouped, Watched, Fits, put}
use Rattle.mama_log_read.specs.Reading.{AreTaken, AreCallsTaken, AreImagesTaken, IsPartRead, GoesOn, IsPicture}
use Rattle.mama_log_read.specs.declared.section.Section.{Section}
use Rattle.mama_log_read.specs.declared.section.Section.TheVariants as s

ends : (l m more rest : List ℕ) → rest ≡ l ++ 10 ∷ more → l ≡ m → rest ≡ m ++ 10 ∷ more
ends l m more rest e same = e ∙ ap (λ (x : List ℕ). x ++ 10 ∷ more) same

pub client_read : (names : NamesData) (objects : List ObjectId) (n : ℕ) (text : List ℕ) (xs : List ℕ) (rest : List ℕ) (old new : RunData) → AreTaken IsMoment clock_text text xs rest → new ≡ put (Moments xs) old → IsPartRead names objects (s.Client n) text old new rest
client_read names objects n text xs rest old new t e = record { part = Moments xs; fits = t.each; put = e; taken = t.taken; stops = λ l more at g. t.stops g.0 more g.1 (ends l (clock_text g.0) more rest at g.2) }

pub publisher_read : (names : NamesData) (objects : List ObjectId) (n : ℕ) (text : List ℕ) (xs : List PublisherEntry) (rest : List ℕ) (old new : RunData) → AreTaken (MayEnterPublisher names) publisher_entry_text text xs rest → new ≡ put (Sends xs) old
    → IsPartRead names objects (s.Publisher n) text old new rest
publisher_read names objects n text xs rest old new t e = record { part = Sends xs; fits = t.each; put = e; taken = t.taken; stops = λ l more at g. t.stops g.0 more g.1 (ends l (publisher_entry_text g.0) more rest at g.2) }

pub bridge_read : (names : NamesData) (objects : List ObjectId) (text : List ℕ) (xs : List (ℕ × BridgeNote)) (rest : List ℕ) (old new : RunData) → AreTaken (MayEnterBridge names) (bridge_entry_text names.shape) text xs rest → new ≡ put (OnBridge xs) old
    → IsPartRead names objects s.Bridge text old new rest
bridge_read names objects text xs rest old new t e = record { part = OnBridge xs; fits = t.each; put = e; taken = t.taken; stops = λ l more at g. t.stops g.0 more g.1 (ends l (bridge_entry_text names.shape g.0) more rest at g.2) }

pub timers_read : (names : NamesData) (objects : List ObjectId) (text : List ℕ) (xs : List (ℕ × TimersNote)) (rest : List ℕ) (old new : RunData) → AreTaken (MayEnterTimers names) (timers_entry_text names.shape) text xs rest → new ≡ put (OnTimers xs) old
    → IsPartRead names objects s.Timers text old new rest
timers_read names objects text xs rest old new t e = record { part = OnTimers xs; fits = t.each; put = e; taken = t.taken; stops = λ l more at g. t.stops g.0 more g.1 (ends l (timers_entry_text names.shape g.0) more rest at g.2) }

pub queue_read : (names : NamesData) (objects : List ObjectId) (n : ℕ) (text : List ℕ) (xs : List (ℕ × QueueNote)) (rest : List ℕ) (old new : RunData) → AreTaken (MayEnterQueue names) queue_entry_text text xs rest → new ≡ put (OnQueue xs) old
    → IsPartRead names objects (s.Queue n) text old new rest
queue_read names objects n text xs rest old new t e = record { part = OnQueue xs; fits = t.each; put = e; taken = t.taken; stops = λ l more at g. t.stops g.0 more g.1 (ends l (queue_entry_text g.0) more rest at g.2) }

calls_stop : (names : NamesData) (objects : List ObjectId) (o : ObjectId) (text : List ℕ) (calls : List CallNote) (rest l more : List ℕ) → AreCallsTaken names o text calls rest → rest ≡ l ++ 10 ∷ more → GoesOn names objects (Heard (record { object = o; calls = calls })) l → ⊥
calls_stop names objects o text calls rest l more t at (inl g) = t.stops g.0 more g.1 (ends l _ more rest at g.2)
calls_stop names objects o text calls rest l more t at (inr g) = t.orders g.0 g.1.0 more g.1.1 (ends l _ more rest at g.1.2)

pub object_read : (names : NamesData) (objects : List ObjectId) (o : ObjectId) (text : List ℕ) (calls : List CallNote) (rest : List ℕ) (old new : RunData) → AreCallsTaken names o text calls rest → new ≡ put (Heard (record { object = o; calls = calls })) old
    → IsPartRead names objects (s.Object o) text old new rest
object_read names objects o text calls rest old new t e = record {
  part = Heard (record { object = o; calls = calls });
  fits = (refl, t.each);
  put = e;
  taken = t.taken;
  stops = λ l more at g. calls_stop names objects o text calls rest l more t at g;
}

pub group_read : (names : NamesData) (objects : List ObjectId) (n : ℕ) (text : List ℕ) (xs : List GroupNote) (rest : List ℕ) (old new : RunData) → AreTaken (MayHearGroup names) group_note_text text xs rest → new ≡ put (Grouped (record { group = n; notes = xs })) old
    → IsPartRead names objects (s.Group n) text old new rest
group_read names objects n text xs rest old new t e = record {
  part = Grouped (record { group = n; notes = xs });
  fits = (refl, t.each);
  put = e;
  taken = t.taken;
  stops = λ l more at g. t.stops g.0 more g.1 (ends l (group_note_text g.0) more rest at g.2);
}

pub watch_read : (names : NamesData) (objects : List ObjectId) (n : ℕ) (text : List ℕ) (xs : List WatchNote) (rest : List ℕ) (old new : RunData) → AreTaken MayNote watch_note_text text xs rest → new ≡ put (Watched (record { watch = n; notes = xs })) old
    → IsPartRead names objects (s.Watch n) text old new rest
watch_read names objects n text xs rest old new t e = record {
  part = Watched (record { watch = n; notes = xs });
  fits = (refl, t.each);
  put = e;
  taken = t.taken;
  stops = λ l more at g. t.stops g.0 more g.1 (ends l (watch_note_text g.0) more rest at g.2);
}

images_stop : (names : NamesData) (objects : List ObjectId) (text : List ℕ) (images : List LastImage) (rest l more : List ℕ) → AreImagesTaken names objects text images rest → rest ≡ l ++ 10 ∷ more → GoesOn names objects (Pictures images) l → ⊥
images_stop names objects text images rest l more t at g =
    let P : List ObjectId → Type 0 = λ left. IsPicture names left g.2.0 in
    t.stops g.2.0 more (subst P (some_is g.0 t.left (sym g.1 ∙ t.pictures.ordered)) g.2.1) (ends l _ more rest at g.2.2)

pub images_read : (names : NamesData) (objects : List ObjectId) (text : List ℕ) (images : List LastImage) (rest : List ℕ) (old new : RunData) → AreImagesTaken names objects text images rest → new ≡ put (Pictures images) old → IsPartRead names objects s.Images text old new rest
images_read names objects text images rest old new t e = record {
  part = Pictures images;
  fits = (t.left, t.pictures);
  put = e;
  taken = t.taken;
  stops = λ l more at g. images_stop names objects text images rest l more t at g;
}

bare_read : (names : NamesData) (objects : List ObjectId) (section : Section) (text : List ℕ) (run : RunData) → Fits names objects section Bare → IsPartRead names objects section text run run text
bare_read names objects section text run fits = record { part = Bare; fits = fits; put = refl; taken = refl; stops = λ l more at g. g }

pub title_kept : (names : NamesData) (objects : List ObjectId) (section : Section) (version : Version) (text : List ℕ) (run : RunData) → section ≡ s.Title version → IsPartRead names objects section text run run text
title_kept names objects section version text run e = let P : Section → Type 0 = λ x. IsPartRead names objects x text run run text in subst P (sym e) (bare_read names objects (s.Title version) text run tt)

pub strategy_kept : (names : NamesData) (objects : List ObjectId) (section : Section) (strategy : Strategy) (text : List ℕ) (run : RunData) → section ≡ s.Strategy strategy → IsPartRead names objects section text run run text
strategy_kept names objects section strategy text run e = let P : Section → Type 0 = λ x. IsPartRead names objects x text run run text in subst P (sym e) (bare_read names objects (s.Strategy strategy) text run tt)

pub end_kept : (names : NamesData) (objects : List ObjectId) (section : Section) (text : List ℕ) (run : RunData) → section ≡ s.End → IsPartRead names objects section text run run text
end_kept names objects section text run e = let P : Section → Type 0 = λ x. IsPartRead names objects x text run run text in subst P (sym e) (bare_read names objects s.End text run tt)

-- ---- in a record that is seen through its fields

pub client_kept : (names : NamesData) (objects : List ObjectId) (n : ℕ) (text : List ℕ) (xs : List ℕ) (rest : List ℕ) (r old : RunData) (grown : List (List ℕ)) → r ≡ old → grown ≡ r.clients ++ xs ∷ [] → AreTaken IsMoment clock_text text xs rest → IsPartRead names objects (s.Client n) text old (record r { clients = grown }) rest
client_kept names objects n text xs rest r old grown is e t =
    client_read names objects n text xs rest old (record r { clients = grown }) t (ap (λ (x : List (List ℕ)). let g : RunData = record r { clients = x } in g) e ∙ ap (put (Moments xs)) is)

pub publisher_kept : (names : NamesData) (objects : List ObjectId) (n : ℕ) (text : List ℕ) (xs : List PublisherEntry) (rest : List ℕ) (r old : RunData) (grown : List (List PublisherEntry)) → r ≡ old → grown ≡ r.publishers ++ xs ∷ [] → AreTaken (MayEnterPublisher names) publisher_entry_text text xs rest
    → IsPartRead names objects (s.Publisher n) text old (record r { publishers = grown }) rest
publisher_kept names objects n text xs rest r old grown is e t =
    publisher_read names objects n text xs rest old (record r { publishers = grown }) t (ap (λ (x : List (List PublisherEntry)). let g : RunData = record r { publishers = x } in g) e ∙ ap (put (Sends xs)) is)

pub bridge_kept : (names : NamesData) (objects : List ObjectId) (text : List ℕ) (xs : List (ℕ × BridgeNote)) (rest : List ℕ) (r old : RunData) → r ≡ old → AreTaken (MayEnterBridge names) (bridge_entry_text names.shape) text xs rest → IsPartRead names objects s.Bridge text old (record r { bridge = xs }) rest
bridge_kept names objects text xs rest r old is t = bridge_read names objects text xs rest old (record r { bridge = xs }) t (ap (put (OnBridge xs)) is)

pub timers_kept : (names : NamesData) (objects : List ObjectId) (text : List ℕ) (xs : List (ℕ × TimersNote)) (rest : List ℕ) (r old : RunData) → r ≡ old → AreTaken (MayEnterTimers names) (timers_entry_text names.shape) text xs rest → IsPartRead names objects s.Timers text old (record r { timers = xs }) rest
timers_kept names objects text xs rest r old is t = timers_read names objects text xs rest old (record r { timers = xs }) t (ap (put (OnTimers xs)) is)

pub queue_kept : (names : NamesData) (objects : List ObjectId) (n : ℕ) (text : List ℕ) (xs : List (ℕ × QueueNote)) (rest : List ℕ) (r old : RunData) (grown : List (List (ℕ × QueueNote))) → r ≡ old → grown ≡ r.queues ++ xs ∷ [] → AreTaken (MayEnterQueue names) queue_entry_text text xs rest
    → IsPartRead names objects (s.Queue n) text old (record r { queues = grown }) rest
queue_kept names objects n text xs rest r old grown is e t =
    queue_read names objects n text xs rest old (record r { queues = grown }) t (ap (λ (x : List (List (ℕ × QueueNote))). let g : RunData = record r { queues = x } in g) e ∙ ap (put (OnQueue xs)) is)

pub object_kept : (names : NamesData) (objects : List ObjectId) (o : ObjectId) (text : List ℕ) (calls : List CallNote) (rest : List ℕ) (r old : RunData) (grown : List ObjectCalls) → r ≡ old → grown ≡ r.calls ++ record { object = o; calls = calls } ∷ [] → AreCallsTaken names o text calls rest
    → IsPartRead names objects (s.Object o) text old (record r { calls = grown }) rest
object_kept names objects o text calls rest r old grown is e t =
    object_read names objects o text calls rest old (record r { calls = grown }) t (ap (λ (x : List ObjectCalls). let g : RunData = record r { calls = x } in g) e ∙ ap (put (Heard (record { object = o; calls = calls }))) is)

pub group_kept : (names : NamesData) (objects : List ObjectId) (n : ℕ) (text : List ℕ) (xs : List GroupNote) (rest : List ℕ) (r old : RunData) (grown : List GroupNotes) → r ≡ old → grown ≡ r.groups ++ record { group = n; notes = xs } ∷ [] → AreTaken (MayHearGroup names) group_note_text text xs rest
    → IsPartRead names objects (s.Group n) text old (record r { groups = grown }) rest
group_kept names objects n text xs rest r old grown is e t =
    group_read names objects n text xs rest old (record r { groups = grown }) t (ap (λ (x : List GroupNotes). let g : RunData = record r { groups = x } in g) e ∙ ap (put (Grouped (record { group = n; notes = xs }))) is)

pub watch_kept : (names : NamesData) (objects : List ObjectId) (n : ℕ) (text : List ℕ) (xs : List WatchNote) (rest : List ℕ) (r old : RunData) (grown : List WatchNotes) → r ≡ old → grown ≡ r.watches ++ record { watch = n; notes = xs } ∷ [] → AreTaken MayNote watch_note_text text xs rest
    → IsPartRead names objects (s.Watch n) text old (record r { watches = grown }) rest
watch_kept names objects n text xs rest r old grown is e t =
    watch_read names objects n text xs rest old (record r { watches = grown }) t (ap (λ (x : List WatchNotes). let g : RunData = record r { watches = x } in g) e ∙ ap (put (Watched (record { watch = n; notes = xs }))) is)

pub images_kept : (names : NamesData) (objects : List ObjectId) (text : List ℕ) (images : List LastImage) (rest : List ℕ) (r old : RunData) → r ≡ old → AreImagesTaken names objects text images rest → IsPartRead names objects s.Images text old (record r { images = images }) rest
images_kept names objects text images rest r old is t = images_read names objects text images rest old (record r { images = images }) t (ap (put (Pictures images)) is)
