-- From rules that are kept to a legal record, and from one that is broken to none.
use Rattle.std.specs.Prelude.{slice_get, slice_index_or, None, Some, if◌then◌else◌}
use Rattle.std.proofs.Common.{◌≡◌, ℕ, zero, suc, ◌<◌, Bool, false, List, [], ◌∷◌, length, refl, ◌∙◌, ap, arith}
use Rattle.mama_msg.specs.Field.{FieldData}
use Rattle.mama_event.specs.Object.{same_sub, same_object}
use Rattle.mama_event.specs.EqualityLaws.{same_sub-Decides}
use Rattle.mama_event.specs.declared.ids.SubId.{SubId}
use Rattle.mama_event.specs.declared.ids.ObjectId.{ObjectId}
use Rattle.mama_event.specs.declared.ids.ObjectId.TheVariants.{Sub, Timer, Inbox}
use Rattle.mama_event.specs.declared.market.ImageHead.{ImageHead}
use Rattle.mama_event.specs.declared.market.SubKind.{SubKind}
use Rattle.mama_event.specs.declared.market.SubKind.TheVariants.{Market, Snapshot, Basic}
use Rattle.mama_event.specs.declared.to_queue.QueueNote.{QueueNote}
use Rattle.mama_dq.specs.Context.{ContextData}
use Rattle.mama_dq.specs.declared.table.Phase.{Phase}
use Rattle.mama_dq.specs.declared.table.Phase.TheVariants.{Await, LiveOk, LiveStale, LiveKept}
use Rattle.mama_script.specs.Script.{ScriptData}
use Rattle.mama_script.proofs.Keeping.{script_within}
use Rattle.mama_record.specs.RunData.{RunData, LastImage}
use Rattle.mama_rules_rounds.specs.Client.{Planned}
use Rattle.mama_journal.specs.Journal.{first_said}
use Rattle.mama_rules_queue.specs.Queue.{make_in, context_of, messages_of, deeds}
use Rattle.mama_rules_rounds.specs.Setting.{Setting, orders_by}
use Rattle.mama_rules_rounds.specs.Sections.{setting_of}
use Rattle.mama_rules_rounds.specs.Told.{last_image, image_in}
use Rattle.mama_laws_callbacks.specs.Laws.{LegalRecordsTellAll, LegalRecordsTellPlainly, LegalGroupsAreTrue, LegalWatchesAreTrue}
use Rattle.mama_laws_genuine.specs.Laws.{LegalLinksAreCalm, LegalUpdatesAreGiven}
use Rattle.mama_laws_genuine.specs.Sent.{DeliveredMessagesAreSent, GivenMessagesAreSent}
use Rattle.mama_laws_genuine.specs.Records.{OkImagesAreRecords}
use Rattle.mama_laws_genuine.specs.Gaps.{ToldGapsAreTrue}
use Rattle.mama_laws_legal.specs.Laws.{IsOrderly, LegalRecordsHaveStreams}
use Rattle.mama_rules_legal.specs.Legal.{IsLegal}
use Rattle.mama_rules_legal.specs.Form.{IsFormed}
use Rattle.mama_check.specs.Rules.{KeepsImages}
use Rattle.mama_check.specs.Kept.{AreKept, KeptIsLegal}
use Rattle.mama_check.specs.Images.{images_for}
use Rattle.mama_check.specs.declared.verdict.Actor.{Actor}
use Rattle.mama_check.specs.Verdict.{KeepImages, KeepAllLines, KeepEdges, KeepObjects, KeepLists, LegalIsTrue, IsBroken, moments, lines, publishers, bridge, timers, queues, calls, images, groups, watches}
use Rattle.mama_check.proofs.Alone.{objects_alone}
use Rattle.mama_check.proofs.ImageLemmas.{AreOwn, all_own, each_own}

-- ---- images

-- an image is none, or one of its subscription
module _ (P : List LastImage → Type 0) (s : SubId) (c : ContextData) (none : P []) (some : (h : ImageHead) (b : List FieldData) → P (record { sub = s; head = h; body = b } ∷ [])) where
  image_with : (kind : SubKind) (phase : Phase) → P (image_in s (record c { kind = kind; phase = phase }))
  image_with Basic phase = none
  image_with Market Await = none
  image_with Market LiveOk = some _ _
  image_with Market LiveStale = some _ _
  image_with Market LiveKept = some _ _
  image_with Snapshot Await = none
  image_with Snapshot LiveOk = some _ _
  image_with Snapshot LiveStale = some _ _
  image_with Snapshot LiveKept = some _ _

  pub image_cases : P (image_in s c)
  image_cases = image_with c.kind c.phase

own_one : (s : SubId) (h : ImageHead) (b : List FieldData) → images_for (Sub s) (record { sub = s; head = h; body = b } ∷ []) ≡ record { sub = s; head = h; body = b } ∷ []
own_one s h b =
    let one : List LastImage = record { sub = s; head = h; body = b } ∷ [] in
    ap (λ (d : Bool). if d then one else []) ((same_sub-Decides s s).1 refl)

other_one : (s t : SubId) (h : ImageHead) (b : List FieldData) → same_sub s t ≡ false → images_for (Sub t) (record { sub = s; head = h; body = b } ∷ []) ≡ []
other_one s t h b other =
    let one : List LastImage = record { sub = s; head = h; body = b } ∷ [] in
    ap (λ (d : Bool). if d then one else []) other

module _ (setting : Setting) (queues : List (List (ℕ × QueueNote))) where
  abbrev pub context : (p : Planned) (s : SubId) → ContextData
  context p s = context_of (first_said (λ (e : ℕ × QueueNote). make_in (Sub s) e.1) (slice_index_or queues p.queue [])) (messages_of s (deeds (orders_by setting) (slice_index_or queues p.queue [])))

  wanted_own : (p : Planned) (o : ObjectId) → images_for o (last_image setting queues (record p { object = o })) ≡ last_image setting queues (record p { object = o })
  wanted_own p (Sub s) = image_cases (λ (images : List LastImage). images_for (Sub s) images ≡ images) s (context p s) refl (own_one s)
  wanted_own p (Timer t) = refl
  wanted_own p (Inbox t) = refl

  wanted_other : (p : Planned) (t : SubId) (o : ObjectId) → same_object o (Sub t) ≡ false → images_for (Sub t) (last_image setting queues (record p { object = o })) ≡ []
  wanted_other p t (Sub s) other = image_cases (λ (images : List LastImage). images_for (Sub t) images ≡ []) s (context p s) refl (λ h b. other_one s t h b other)
  wanted_other p t (Timer a) other = refl
  wanted_other p t (Inbox a) other = refl

  wanted : AreOwn (last_image setting queues)
  wanted = record { own = λ p. wanted_own p p.object; other = λ p t. wanted_other p t p.object }

pub is_within : {X : Type 0} (xs : List X) (k : ℕ) (x : X) → slice_get xs k ≡ Some x → k < length xs
is_within {X} [] k x there = let no : None ≡ Some x = there in absurd cc
is_within (y ∷ ys) zero x there = omega arith
is_within (y ∷ ys) (suc k) x there = let later : k < length ys = is_within ys k x there in omega (arith, later)

-- all images are as they are to be where each object's is
pub images_kept : (script : ScriptData) (run : RunData) → IsFormed script run → KeepImages script run → KeepsImages script run
images_kept script run formed kept =
    all_own (last_image (setting_of script) run.queues) (setting_of script).objects run.images (objects_alone script) (record { stands = formed.images })
    (λ k p there. kept k (is_within (setting_of script).objects k p there) p there)

pub images_each : (script : ScriptData) (run : RunData) → KeepsImages script run → KeepImages script run
images_each script run whole k low p there =
    ap (λ (images : List LastImage). images_for p.object images) whole
    ∙ each_own (last_image (setting_of script) run.queues) (wanted (setting_of script) run.queues) (setting_of script).objects (objects_alone script) k p there

-- ---- the verdict

pub all_kept : (script : ScriptData) (run : RunData) → IsFormed script run → KeepAllLines script run → KeepEdges script run → KeepObjects script run → KeepLists script run → AreKept script run
all_kept script run formed done whole told lists = record {
  moments = done.moments;
  lines = done.lines;
  publishers = whole.publishers;
  bridge = whole.bridge;
  timers = whole.timers;
  queues = whole.queues;
  calls = told.calls;
  images = images_kept script run formed told.images;
  groups = lists.groups;
  watches = lists.watches;
}

pub is_legal : (script : ScriptData) (run : RunData) → KeptIsLegal → IsOrderly script → IsFormed script run → KeepAllLines script run → KeepEdges script run → KeepObjects script run → KeepLists script run → IsLegal script run
is_legal script run law orderly formed done whole told lists = (law script run orderly formed.counted).0 (all_kept script run formed done whole told lists)

-- the rule that is broken is one that is not kept
not_kept : (script : ScriptData) (run : RunData) (rule : ℕ) (of : Actor) → IsBroken script run rule of → AreKept script run → ⊥
not_kept script run rule of (moments c first) kept = first.1 (kept.moments c first.0)
not_kept script run rule of (lines p read first) kept = first.1 (kept.lines p first.0)
not_kept script run rule of (publishers p read done first) kept = first.1 (kept.publishers p first.0)
not_kept script run rule of (bridge read done took other) kept = other kept.bridge
not_kept script run rule of (timers read done took heard other) kept = other kept.timers
not_kept script run rule of (queues q read done took heard timed first) kept = first.1 (kept.queues q first.0)
not_kept script run rule of (calls k p read done whole first there) kept = first.1 (kept.calls k first.0)
not_kept script run rule of (images k p read done whole told first there) kept = first.1 (images_each script run kept.images k first.0)
not_kept script run rule of (groups k read done whole told first) kept = first.1 (kept.groups k first.0)
not_kept script run rule of (watches k read done whole told heard first) kept = first.1 (kept.watches k first.0)

pub not_legal : (script : ScriptData) (run : RunData) (rule : ℕ) (of : Actor) → KeptIsLegal → IsOrderly script → IsFormed script run → IsBroken script run rule of → IsLegal script run → ⊥
not_legal script run rule of law orderly formed broken legal = not_kept script run rule of broken ((law script run orderly formed.counted).1 legal)

pub legal_is_true : LegalRecordsHaveStreams → LegalRecordsTellAll → DeliveredMessagesAreSent → GivenMessagesAreSent → OkImagesAreRecords → ToldGapsAreTrue
    → LegalRecordsTellPlainly → LegalLinksAreCalm → LegalUpdatesAreGiven → LegalGroupsAreTrue → LegalWatchesAreTrue → LegalIsTrue
legal_is_true streams told sent given records gaps plainly calm updates grouped watched script run is legal = record {
  streams = streams script run orderly legal;
  told = told script run orderly legal;
  sent = sent script run legal.shaped legal.edges;
  given = given script run legal.shaped legal.edges legal.calls;
  images = records script run legal.shaped legal.edges legal.calls;
  gaps = gaps script run legal.calls;
  plainly = plainly script run orderly legal;
  calm = calm script run orderly legal;
  updates = updates script run orderly legal;
  groups = grouped script run is legal;
  watches = watched script run legal;
}
  where
    orderly : IsOrderly script
    orderly = record { shaped = is.shaped; within = script_within script is }
