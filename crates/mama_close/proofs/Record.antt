-- The record of a closed crew is put together of its parts.
use Rattle.std.specs.List.{flat_map}
use Rattle.std.proofs.Common.{◌≡◌, ℕ, List, [], ◌∷◌, ◌++◌, map, refl, ◌∙◌, ap}
use Rattle.mama_event.specs.declared.ids.ObjectId.{ObjectId}
use Rattle.mama_event.specs.declared.ids.ObjectId.TheVariants.{Sub, Timer, Inbox}
use Rattle.mama_event.specs.declared.publisher_entry.PublisherEntry.{PublisherEntry}
use Rattle.mama_event.specs.declared.to_bridge.BridgeNote.{BridgeNote}
use Rattle.mama_event.specs.declared.to_timers.TimersNote.{TimersNote}
use Rattle.mama_event.specs.declared.to_queue.QueueNote.{QueueNote}
use Rattle.mama_script.specs.Script.{ScriptData}
use Rattle.mama_record.specs.RunData.{RunData, ObjectCalls, LastImage, GroupNotes, WatchNotes}
use Rattle.mama_rules_rounds.specs.Client.{Planned}
use Rattle.mama_rules_rounds.specs.Setting.{Setting}
use Rattle.mama_rules_rounds.specs.Sections.{setting_of}
use Rattle.mama_rules_rounds.specs.Told.{object_calls, last_image, group_told, watch_told}
use Rattle.mama_gather.specs.Left.{events_by}
use Rattle.mama_close.specs.Kinds.{Kinds, read_by, entries_by, record_of}
use Rattle.mama_gather.specs.Places.{calls_on, images_by}
use Rattle.mama_close.proofs.Listing.{told_of}

image_same : (setting : Setting) (queues : List (List (ℕ × QueueNote))) (p : Planned) → images_by setting.objects queues p ≡ last_image setting queues p
image_same setting queues p =
    elim p.object as (λ o. images_by setting.objects queues (record p { object = o }) ≡ last_image setting queues (record p { object = o })) [ Sub s ↦ refl | Timer t ↦ refl | Inbox i ↦ refl ]

pub images_same : (setting : Setting) (queues : List (List (ℕ × QueueNote))) (ps : List Planned) → flat_map (images_by setting.objects queues) ps ≡ flat_map (last_image setting queues) ps
images_same setting queues [] = refl
images_same setting queues (p ∷ ps) =
    ap (λ (is : List LastImage). is ++ flat_map (images_by setting.objects queues) ps) (image_same setting queues p) ∙ ap (λ (is : List LastImage). last_image setting queues p ++ is) (images_same setting queues ps)

calls_same : (setting : Setting) (queues : List (List (ℕ × QueueNote))) (ps : List Planned) → map (told_of (calls_on setting.objects queues)) ps ≡ map (object_calls setting queues) ps
calls_same setting queues [] = refl
calls_same setting queues (p ∷ ps) = ap (λ (cs : List ObjectCalls). object_calls setting queues p ∷ cs) (calls_same setting queues ps)

-- the record, where its parts are those of the seats and of the objects of the script
pub record_is : (script : ScriptData) (kinds : Kinds) (objects : List Planned) (run : RunData) (m : List (List ℕ)) (e : List (List PublisherEntry)) (b : List (ℕ × BridgeNote)) (t : List (ℕ × TimersNote)) (q : List (List (ℕ × QueueNote)))
    (c : List ObjectCalls) (i : List LastImage) (g : List GroupNotes) (w : List WatchNotes) → objects ≡ (setting_of script).objects → run ≡ record { clients = m; publishers = e; bridge = b; timers = t; queues = q; calls = c; images = i; groups = g; watches = w }
    → m ≡ map read_by kinds.clients → e ≡ map entries_by kinds.publishers → b ≡ kinds.bridge.service.journal → t ≡ kinds.timers.service.journal → q ≡ map events_by kinds.queues
    → c ≡ map (told_of (calls_on objects (map events_by kinds.queues))) objects → i ≡ flat_map (images_by objects (map events_by kinds.queues)) objects
    → g ≡ map (group_told (setting_of script) (map events_by kinds.queues)) (setting_of script).groups → w ≡ map (watch_told (setting_of script) (map events_by kinds.queues)) (setting_of script).watches → run ≡ record_of script kinds
record_is script kinds objects run m e b t q c i g w is put moments entries bridge timers events calls images groups watches =
    let setting : Setting = setting_of script in
    let queues : List (List (ℕ × QueueNote)) = map events_by kinds.queues in
    let own_calls : c ≡ map (object_calls setting queues) setting.objects = calls ∙ ap (λ (os : List Planned). map (told_of (calls_on os queues)) os) is ∙ calls_same setting queues setting.objects in
    let own_images : i ≡ flat_map (last_image setting queues) setting.objects = images ∙ ap (λ (os : List Planned). flat_map (images_by os queues) os) is ∙ images_same setting queues setting.objects in
    let whole : RunData = record_of script kinds in
    put ∙ ap (λ x. record { clients = x; publishers = e; bridge = b; timers = t; queues = q; calls = c; images = i; groups = g; watches = w }) moments
    ∙ ap (λ x. let v : RunData = record whole { publishers = x; bridge = b; timers = t; queues = q; calls = c; images = i; groups = g; watches = w } in v) entries
    ∙ ap (λ x. let v : RunData = record whole { bridge = x; timers = t; queues = q; calls = c; images = i; groups = g; watches = w } in v) bridge
    ∙ ap (λ x. let v : RunData = record whole { timers = x; queues = q; calls = c; images = i; groups = g; watches = w } in v) timers
    ∙ ap (λ x. let v : RunData = record whole { queues = x; calls = c; images = i; groups = g; watches = w } in v) events
    ∙ ap (λ x. let v : RunData = record whole { calls = x; images = i; groups = g; watches = w } in v) own_calls
    ∙ ap (λ x. let v : RunData = record whole { images = x; groups = g; watches = w } in v) own_images
    ∙ ap (λ x. let v : RunData = record whole { groups = x; watches = w } in v) groups
    ∙ ap (λ x. let v : RunData = record whole { watches = x } in v) watches
