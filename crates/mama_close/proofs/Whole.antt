-- A closed crew: its record is that of its seats, it is legal, and the listeners of its objects came back.
use Rattle.std.specs.Global.{Vec}
use Rattle.std.specs.List.{flat_map}
use Rattle.std.proofs.Common.{◌≡◌, ℕ, List, map, Option, Some, sym, ◌∙◌, ap, subst}
use Rattle.mama_event.specs.declared.ids.ObjectId.{ObjectId}
use Rattle.mama_event.specs.declared.callback.CallNote.{CallNote}
use Rattle.mama_event.specs.declared.group.GroupNote.{GroupNote}
use Rattle.mama_event.specs.declared.watch.WatchNote.{WatchNote}
use Rattle.mama_event.specs.declared.publisher_entry.PublisherEntry.{PublisherEntry}
use Rattle.mama_event.specs.declared.to_bridge.BridgeNote.{BridgeNote}
use Rattle.mama_event.specs.declared.to_timers.TimersNote.{TimersNote}
use Rattle.mama_event.specs.declared.to_queue.QueueNote.{QueueNote}
use Rattle.mama_event.specs.declared.listener.Listener as listeners
use Rattle.mama_event.specs.declared.stream.Tagged as tags
use Rattle.mama_event.specs.Listener.{ListenerData}
use Rattle.mama_script.specs.Script.{ScriptData}
use Rattle.mama_record.specs.RunData.{RunData, ObjectCalls, LastImage, GroupNotes, WatchNotes}
use Rattle.mama_msg.specs.Field.{FieldData}
use Rattle.mama_event.specs.declared.ids.SubId.{SubId}
use Rattle.mama_event.specs.declared.market.ImageHead.{ImageHead}
use Rattle.mama_record.specs.RunView.{moments_of, entries_of, events_of, calls_of, images_of, groups_of, watches_of}
use Rattle.mama_rules_rounds.specs.Client.{Planned}
use Rattle.mama_rules_rounds.specs.Sections.{setting_of}
use Rattle.mama_close.specs.Back.{AreBack}
use Rattle.mama_gather.specs.Left.{events_by}
use Rattle.mama_close.specs.Kinds.{Kinds, record_of}
use Rattle.mama_gather.specs.Places.{calls_on, images_by, AreCallsFound, AreListenersFound}
use Rattle.mama_close.specs.Apart.{AreParts}
use Rattle.mama_close.specs.Made.{IsMade}
use Rattle.mama_close.specs.declared.apart.Apart.{Apart}
use Rattle.mama_close.specs.declared.apart.Gathered.{Gathered}
use Rattle.mama_close.proofs.Listing.{told_of, calls_listed, listeners_listed}
use Rattle.mama_close.proofs.Record.{record_is}

-- the callbacks of the objects, in their order
pub calls_whole : (calls : ℕ → ObjectId → List CallNote) (objects : List Planned) (values : List (ObjectId × Vec CallNote)) (left found : Vec (Option (Vec CallNote))) → map (λ v. v.0) values ≡ map (λ p. p.object) objects
    → map (λ v. Some v.1) values ≡ left.items → left ≡ found → AreCallsFound calls objects found.items → calls_of values ≡ map (told_of calls) objects
calls_whole calls objects values left found objects_are values_are is were =
    calls_listed calls objects values objects_are
    (subst (AreCallsFound calls objects) (ap (λ (v : Vec (Option (Vec CallNote))). v.items) (sym is) ∙ sym values_are) were)

-- the listeners of the objects, in their order
pub listeners_whole : {L : Type 0} (view : L → ListenerData) (calls : ℕ → ObjectId → List CallNote) (objects : List Planned) (values : List (ObjectId × L)) (left found : Vec (Option L)) → map (λ v. v.0) values ≡ map (λ p. p.object) objects
    → map (λ v. Some v.1) values ≡ left.items → left ≡ found → AreListenersFound view calls objects found.items → AreBack view (map (told_of calls) objects) values
listeners_whole {L} view calls objects values left found objects_are values_are is were =
    listeners_listed view calls objects values objects_are
    (subst (AreListenersFound view calls objects) (ap (λ (v : Vec (Option L)). v.items) (sym is) ∙ sym values_are) were)

-- the record of the seats
pub run_is : {L : Type 0} {listener : listeners.Ghosts L} {tagged : tags.Ghosts L} (script : ScriptData) (objects : List Planned) (kinds : Kinds) (apart : Apart L listener tagged) → AreParts kinds apart → objects ≡ (setting_of script).objects
    → (m : Vec (Vec ℕ)) (e : Vec (Vec PublisherEntry)) (b : Vec (ℕ × BridgeNote)) (t : Vec (ℕ × TimersNote)) (q : Vec (Vec (ℕ × QueueNote))) (c : List ObjectCalls) (i : List LastImage) (g : List GroupNotes) (w : List WatchNotes) (run : RunData)
    → run ≡ record { clients = moments_of m.items; publishers = entries_of e.items; bridge = b.items; timers = t.items; queues = events_of q.items; calls = c; images = i; groups = g; watches = w }
    → m ≡ apart.clients.moments → e ≡ apart.publishers.journals → b ≡ apart.bridge.journal → t ≡ apart.timers.journal → q ≡ apart.queues.journals
    → c ≡ map (told_of (calls_on objects (map events_by kinds.queues))) objects → i ≡ flat_map (images_by objects (map events_by kinds.queues)) objects
    → g ≡ (record_of script kinds).groups → w ≡ (record_of script kinds).watches → run ≡ record_of script kinds
run_is script objects kinds apart parts is m e b t q c i g w run put moments entries bridge timers events calls images groups watches =
    record_is script kinds objects run (moments_of m.items) (entries_of e.items) b.items t.items (events_of q.items) c i g w is put
    (ap (λ (v : Vec (Vec ℕ)). moments_of v.items) moments ∙ parts.moments)
    (ap (λ (v : Vec (Vec PublisherEntry)). entries_of v.items) entries ∙ parts.entries)
    (ap (λ (v : Vec (ℕ × BridgeNote)). v.items) bridge ∙ parts.bridge_journal)
    (ap (λ (v : Vec (ℕ × TimersNote)). v.items) timers ∙ parts.timers_journal)
    (ap (λ (v : Vec (Vec (ℕ × QueueNote))). events_of v.items) events ∙ parts.events)
    calls images groups watches

-- what is made of what the seats leave is their record
pub made_is : {L : Type 0} {listener : listeners.Ghosts L} {tagged : tags.Ghosts L} (script : ScriptData) (objects : List Planned) (kinds : Kinds) (apart : Apart L listener tagged) → AreParts kinds apart → objects ≡ (setting_of script).objects
    → (left : Gathered L) (images : List (SubId × ImageHead × List FieldData))
    → left.moments ≡ apart.clients.moments → left.entries ≡ apart.publishers.journals → left.bridge ≡ apart.bridge.journal → left.timers ≡ apart.timers.journal → left.events ≡ apart.queues.journals
    → left.calls ≡ apart.queues.calls → AreCallsFound (calls_on objects (map events_by kinds.queues)) objects apart.queues.calls.items
    → images_of images ≡ flat_map (images_by objects (map events_by kinds.queues)) objects
    → (groups : List (ℕ × Vec GroupNote)) → groups_of groups ≡ (record_of script kinds).groups → left.noted ≡ apart.queues.noted → watches_of apart.queues.noted.items ≡ (record_of script kinds).watches
    → (run : RunData) (back : List (ObjectId × L)) → IsMade objects left images groups run back → run ≡ record_of script kinds
made_is script objects kinds apart parts is left images moments entries bridge timers events calls found images_are groups groups_are noted noted_are run back made =
    run_is script objects kinds apart parts is left.moments left.entries left.bridge left.timers left.events (calls_of made.calls) (images_of images) (groups_of groups) (watches_of left.noted.items) run made.run_is
    moments entries bridge timers events
    (calls_whole (calls_on objects (map events_by kinds.queues)) objects made.calls left.calls apart.queues.calls made.calls_objects made.calls_left calls found)
    images_are groups_are (ap (λ (v : Vec (ℕ × Vec WatchNote)). watches_of v.items) noted ∙ noted_are)

-- and the listeners are back
pub back_is : {L : Type 0} {listener : listeners.Ghosts L} {tagged : tags.Ghosts L} (view : L → ListenerData) (objects : List Planned) (kinds : Kinds) (apart : Apart L listener tagged)
    → (left : Gathered L) (images : List (SubId × ImageHead × List FieldData)) (groups : List (ℕ × Vec GroupNote)) → left.calls ≡ apart.queues.calls → left.listeners ≡ apart.queues.listeners
    → AreCallsFound (calls_on objects (map events_by kinds.queues)) objects apart.queues.calls.items
    → AreListenersFound view (calls_on objects (map events_by kinds.queues)) objects apart.queues.listeners.items
    → (run : RunData) (back : List (ObjectId × L)) → IsMade objects left images groups run back → AreBack view run.calls back
back_is view objects kinds apart left images groups calls listeners_are found listeners_found run back made =
    let own = calls_on objects (map events_by kinds.queues) in
    subst (λ (cs : List ObjectCalls). AreBack view cs back)
    (sym (ap (λ (r : RunData). r.calls) made.run_is ∙ calls_whole own objects made.calls left.calls apart.queues.calls made.calls_objects made.calls_left calls found))
    (listeners_whole view own objects back left.listeners apart.queues.listeners made.back_objects made.back_left listeners_are listeners_found)
