-- The lines of a part that fits: each is one line and begins no section, and they say what the part is.
use Rattle.std.proofs.Common.{◌≡◌, ℕ, false, List, [], ◌∷◌, ◌++◌, map, Some, sym, ap, subst, ◌∙◌, arith}
use Rattle.std.specs.List.{AllByRecursion}
use Rattle.std.proofs.lemmas.List.{map-append}
use Rattle.std.proofs.lemmas.List.Elements.{recursion_from_All}
use Rattle.mama_event.specs.declared.ids.SubId.{SubId}
use Rattle.mama_event.specs.declared.ids.ObjectId.{ObjectId}
use Rattle.mama_event.specs.declared.callback.CallNote.{CallNote}
use Rattle.mama_words.proofs.Choices.{some_is, and_then_some}
use Rattle.mama_event.specs.declared.group.GroupNote.{GroupNote}
use Rattle.mama_event.specs.declared.group.GroupNote.TheVariants.{Call, State}
use Rattle.mama_event.specs.declared.watch.WatchNote.{WatchNote}
use Rattle.mama_record.specs.RunData.{ObjectCalls, LastImage, GroupNotes, WatchNotes}
use Rattle.mama_record.specs.LogText.{publisher_entry_text, bridge_entry_text, clock_text, group_note_text, watch_note_text, image_text, queue_entry_text, timers_entry_text}
use Rattle.mama_log_line.specs.Names.{NamesData}
use Rattle.mama_log_line.specs.Entering.{MayEnterPublisher, MayEnterBridge, MayEnterTimers, MayEnterQueue, MayHearGroup, MayNote, IsLastImage}
use Rattle.mama_log_read.specs.Logged.{IsMoment, MayCall}
use Rattle.mama_log_read.specs.Part.{Part, Bare, Moments, Sends, OnBridge, OnTimers, OnQueue, Heard, Pictures, Grouped, Watched, Fits, bodies, behind, behind_all}
use Rattle.mama_log_read.specs.Reading.{GoesOn}
use Rattle.mama_log_read.specs.declared.section.Section.{Section}
use Rattle.mama_log_read.specs.declared.section.Section.TheVariants as s
use Rattle.mama_log_read.proofs.Lines.{IsPlain, ArePlain}
use Rattle.mama_log_read.proofs.Spelled as spelled
use Rattle.mama_log_read.proofs.NoHead as heads
use Rattle.mama_log_read.proofs.Alike.{each_map, same_map, beyond_map}
use Rattle.mama_log_read.proofs.Callbacks.{each_call, same_calls, beyond_calls}
use Rattle.mama_log_read.proofs.Whole.{moments_in, sends_in, bridge_in, timers_in, queue_in, heard_in, grouped_in, watched_in, pictures_in, title_in, strategy_in, end_in}

pub part_plain : (names : NamesData) (objects : List ObjectId) (section : Section) (part : Part) → Fits names objects section part → ArePlain (bodies names.shape part)
part_plain names objects (s.Title v) Bare h = tt
part_plain names objects (s.Strategy strategy) Bare h = tt
part_plain names objects (s.Client n) (Moments xs) h = each_map IsMoment IsPlain clock_text spelled.plain_moment xs (recursion_from_All IsMoment xs h)
part_plain names objects (s.Publisher n) (Sends xs) h = each_map (MayEnterPublisher names) IsPlain publisher_entry_text (spelled.plain_publisher names) xs (recursion_from_All (MayEnterPublisher names) xs h)
part_plain names objects s.Bridge (OnBridge xs) h = each_map (MayEnterBridge names) IsPlain (bridge_entry_text names.shape) (spelled.plain_bridge names) xs (recursion_from_All (MayEnterBridge names) xs h)
part_plain names objects s.Timers (OnTimers xs) h = each_map (MayEnterTimers names) IsPlain (timers_entry_text names.shape) (spelled.plain_timers names) xs (recursion_from_All (MayEnterTimers names) xs h)
part_plain names objects (s.Queue n) (OnQueue xs) h = each_map (MayEnterQueue names) IsPlain queue_entry_text (spelled.plain_queue names) xs (recursion_from_All (MayEnterQueue names) xs h)
part_plain names objects (s.Object o) (Heard x) h =
    each_call names x.object IsPlain (spelled.plain_call names.nums x.object) (spelled.plain_order names) x.calls (recursion_from_All (MayCall names x.object) x.calls h.1)
part_plain names objects s.Images (Pictures xs) h = each_map (IsLastImage names) IsPlain image_text (spelled.plain_image names) xs (recursion_from_All (IsLastImage names) xs h.1.each)
part_plain names objects (s.Group n) (Grouped g) h = each_map (MayHearGroup names) IsPlain group_note_text (spelled.plain_group names) g.notes (recursion_from_All (MayHearGroup names) g.notes h.1)
part_plain names objects (s.Watch n) (Watched w) h = each_map MayNote IsPlain watch_note_text spelled.plain_watch w.notes (recursion_from_All MayNote w.notes h.1)
part_plain names objects s.End Bare h = tt
part_plain names objects _ _ h = absurd h

abbrev pub IsNoHead : List ℕ → Type 0
IsNoHead l = heads.is_head l ≡ false

small_note : (names : NamesData) (n : GroupNote) → MayHearGroup names n → heads.IsSmallNote n
small_note names (Call sub call) h = let c = h.0.client in omega (arith, c)
small_note names (State state) h = tt

pub part_no_head : (names : NamesData) (objects : List ObjectId) (section : Section) (part : Part) → Fits names objects section part → AllByRecursion IsNoHead (bodies names.shape part)
part_no_head names objects (s.Title v) Bare h = tt
part_no_head names objects (s.Strategy strategy) Bare h = tt
part_no_head names objects (s.Client n) (Moments xs) h = each_map IsMoment IsNoHead clock_text (λ x m. heads.moment_no_head x) xs (recursion_from_All IsMoment xs h)
part_no_head names objects (s.Publisher n) (Sends xs) h = each_map (MayEnterPublisher names) IsNoHead publisher_entry_text (λ x m. heads.publisher_no_head x) xs (recursion_from_All (MayEnterPublisher names) xs h)
part_no_head names objects s.Bridge (OnBridge xs) h = each_map (MayEnterBridge names) IsNoHead (bridge_entry_text names.shape) (heads.bridge_no_head names) xs (recursion_from_All (MayEnterBridge names) xs h)
part_no_head names objects s.Timers (OnTimers xs) h = each_map (MayEnterTimers names) IsNoHead (timers_entry_text names.shape) (heads.timers_no_head names) xs (recursion_from_All (MayEnterTimers names) xs h)
part_no_head names objects (s.Queue n) (OnQueue xs) h = each_map (MayEnterQueue names) IsNoHead queue_entry_text (heads.queue_no_head names) xs (recursion_from_All (MayEnterQueue names) xs h)
part_no_head names objects (s.Object o) (Heard x) h =
    each_call names x.object IsNoHead (λ c m. heads.call_no_head c) (λ o m. heads.order_no_head o) x.calls (recursion_from_All (MayCall names x.object) x.calls h.1)
part_no_head names objects s.Images (Pictures xs) h = each_map (IsLastImage names) IsNoHead image_text (λ i m. heads.image_no_head i (let h = m.sub.client in omega (arith, h))) xs (recursion_from_All (IsLastImage names) xs h.1.each)
part_no_head names objects (s.Group n) (Grouped g) h = each_map (MayHearGroup names) IsNoHead group_note_text (λ n m. heads.group_no_head n (small_note names n m)) g.notes (recursion_from_All (MayHearGroup names) g.notes h.1)
part_no_head names objects (s.Watch n) (Watched w) h = each_map MayNote IsNoHead watch_note_text (λ n m. heads.watch_no_head n) w.notes (recursion_from_All MayNote w.notes h.1)
part_no_head names objects s.End Bare h = tt
part_no_head names objects _ _ h = absurd h

-- ---- the same lines

heard_is : (x y : ObjectCalls) → x.object ≡ y.object → x.calls ≡ y.calls → x ≡ y
heard_is x y e f =
    ap (λ (o : ObjectId). let r : ObjectCalls = record { object = o; calls = x.calls } in r) e ∙ ap (λ (c : List CallNote). let r : ObjectCalls = record { object = y.object; calls = c } in r) f

notes_are : (x y : GroupNotes) → x.group ≡ y.group → x.notes ≡ y.notes → x ≡ y
notes_are x y e f =
    ap (λ (n : ℕ). let r : GroupNotes = record { group = n; notes = x.notes } in r) e ∙ ap (λ (c : List GroupNote). let r : GroupNotes = record { group = y.group; notes = c } in r) f

noted_are : (x y : WatchNotes) → x.watch ≡ y.watch → x.notes ≡ y.notes → x ≡ y
noted_are x y e f =
    ap (λ (n : ℕ). let r : WatchNotes = record { watch = n; notes = x.notes } in r) e ∙ ap (λ (c : List WatchNote). let r : WatchNotes = record { watch = y.watch; notes = c } in r) f

pub part_same : (names : NamesData) (objects : List ObjectId) (section : Section) (v w : Part) → Fits names objects section v → Fits names objects section w → bodies names.shape v ≡ bodies names.shape w → v ≡ w
part_same names objects (s.Title x) v w h k e = let a = title_in names objects x v h in let b = title_in names objects x w k in a.1 ∙ sym b.1
part_same names objects (s.Strategy x) v w h k e = let a = strategy_in names objects x v h in let b = strategy_in names objects x w k in a.1 ∙ sym b.1
part_same names objects (s.Client n) v w h k e =
    let a = moments_in names objects n v h in
    let b = moments_in names objects n w k in
    let same = sym (ap (bodies names.shape) a.1) ∙ e ∙ ap (bodies names.shape) b.1 in
    a.1 ∙ ap Moments (same_map IsMoment clock_text spelled.same_moment a.0 b.0 (recursion_from_All IsMoment a.0 a.2) (recursion_from_All IsMoment b.0 b.2) same) ∙ sym b.1
part_same names objects (s.Publisher n) v w h k e =
    let May = MayEnterPublisher names in
    let a = sends_in names objects n v h in
    let b = sends_in names objects n w k in
    let same = sym (ap (bodies names.shape) a.1) ∙ e ∙ ap (bodies names.shape) b.1 in
    a.1 ∙ ap Sends (same_map (MayEnterPublisher names) publisher_entry_text (spelled.same_publisher names) a.0 b.0 (recursion_from_All (MayEnterPublisher names) a.0 a.2) (recursion_from_All (MayEnterPublisher names) b.0 b.2) same) ∙ sym b.1
part_same names objects s.Bridge v w h k e =
    let a = bridge_in names objects v h in
    let b = bridge_in names objects w k in
    let same = sym (ap (bodies names.shape) a.1) ∙ e ∙ ap (bodies names.shape) b.1 in
    a.1 ∙ ap OnBridge (same_map (MayEnterBridge names) (bridge_entry_text names.shape) (spelled.same_bridge names) a.0 b.0 (recursion_from_All (MayEnterBridge names) a.0 a.2) (recursion_from_All (MayEnterBridge names) b.0 b.2) same) ∙ sym b.1
part_same names objects s.Timers v w h k e =
    let a = timers_in names objects v h in
    let b = timers_in names objects w k in
    let same = sym (ap (bodies names.shape) a.1) ∙ e ∙ ap (bodies names.shape) b.1 in
    a.1 ∙ ap OnTimers (same_map (MayEnterTimers names) (timers_entry_text names.shape) (spelled.same_timers names) a.0 b.0 (recursion_from_All (MayEnterTimers names) a.0 a.2) (recursion_from_All (MayEnterTimers names) b.0 b.2) same) ∙ sym b.1
part_same names objects (s.Queue n) v w h k e =
    let a = queue_in names objects n v h in
    let b = queue_in names objects n w k in
    let same = sym (ap (bodies names.shape) a.1) ∙ e ∙ ap (bodies names.shape) b.1 in
    a.1 ∙ ap OnQueue (same_map (MayEnterQueue names) queue_entry_text (spelled.same_queue names) a.0 b.0 (recursion_from_All (MayEnterQueue names) a.0 a.2) (recursion_from_All (MayEnterQueue names) b.0 b.2) same) ∙ sym b.1
part_same names objects (s.Object o) v w h k e =
    let a = heard_in names objects o v h in
    let b = heard_in names objects o w k in
    let same = sym (ap (bodies names.shape) a.1) ∙ e ∙ ap (bodies names.shape) b.1 in
    let object : a.0.object ≡ b.0.object = a.2.0 ∙ sym b.2.0 in
    let P : ObjectId → Type 0 = λ x. AllByRecursion (MayCall names x) b.0.calls in
    let may = subst P (sym object) (recursion_from_All (MayCall names b.0.object) b.0.calls b.2.1) in
    a.1 ∙ ap Heard (heard_is a.0 b.0 object (same_calls names a.0.object a.0.calls b.0.calls (recursion_from_All (MayCall names a.0.object) a.0.calls a.2.1) may same)) ∙ sym b.1
part_same names objects s.Images v w h k e =
    let a = pictures_in names objects v h in
    let b = pictures_in names objects w k in
    let same = sym (ap (bodies names.shape) a.1) ∙ e ∙ ap (bodies names.shape) b.1 in
    a.1 ∙ ap Pictures (same_map (IsLastImage names) image_text (spelled.same_image names) a.0 b.0 (recursion_from_All (IsLastImage names) a.0 a.2.1.each) (recursion_from_All (IsLastImage names) b.0 b.2.1.each) same) ∙ sym b.1
part_same names objects (s.Group n) v w h k e =
    let May = MayHearGroup names in
    let a = grouped_in names objects n v h in
    let b = grouped_in names objects n w k in
    let same = sym (ap (bodies names.shape) a.1) ∙ e ∙ ap (bodies names.shape) b.1 in
    a.1 ∙ ap Grouped (notes_are a.0 b.0 (a.2.0 ∙ sym b.2.0) (same_map May group_note_text (spelled.same_group names) a.0.notes b.0.notes (recursion_from_All May a.0.notes a.2.1) (recursion_from_All May b.0.notes b.2.1) same)) ∙ sym b.1
part_same names objects (s.Watch n) v w h k e =
    let a = watched_in names objects n v h in
    let b = watched_in names objects n w k in
    let same = sym (ap (bodies names.shape) a.1) ∙ e ∙ ap (bodies names.shape) b.1 in
    a.1 ∙ ap Watched (noted_are a.0 b.0 (a.2.0 ∙ sym b.2.0) (same_map MayNote watch_note_text spelled.same_watch a.0.notes b.0.notes (recursion_from_All MayNote a.0.notes a.2.1) (recursion_from_All MayNote b.0.notes b.2.1) same)) ∙ sym b.1
part_same names objects s.End v w h k e = let a = end_in names objects v h in let b = end_in names objects w k in a.1 ∙ sym b.1

-- ---- a line more

behind_split : (objects : List ObjectId) (xs ys : List SubId) (y : SubId) (left over : List ObjectId) → behind_all objects (xs ++ y ∷ ys) ≡ Some over → behind_all objects xs ≡ Some left → (later : List ObjectId) × (behind left y ≡ Some later)
behind_split objects [] ys y left over h k =
    let p = and_then_some (λ l. behind_all l ys) (behind objects y) over h in
    let P : List ObjectId → Type 0 = λ l. behind l y ≡ Some p.0 in
    (p.0, subst P (some_is objects left k) p.1)
behind_split objects (x ∷ xs) ys y left over h k =
    let p = and_then_some (λ l. behind_all l (xs ++ y ∷ ys)) (behind objects x) over h in
    let q = and_then_some (λ l. behind_all l xs) (behind objects x) left k in
    let P : List ObjectId → Type 0 = λ l. behind_all l (xs ++ y ∷ ys) ≡ Some over in
    behind_split q.0 xs ys y left over (subst P (some_is p.0 q.0 (sym p.1 ∙ q.1)) p.2) q.2

-- a part without entries has no lines
bare_beyond : (names : NamesData) (v w : Part) (l : List ℕ) (ls : List (List ℕ)) → w ≡ Bare → bodies names.shape w ≡ bodies names.shape v ++ l ∷ ls → ⊥
bare_beyond names v w l ls is e = no_more (bodies names.shape v) (sym (ap (bodies names.shape) is) ∙ e)
  where
    no_more : (xs : List (List ℕ)) → [] ≡ xs ++ l ∷ ls → ⊥
    no_more [] e = cc
    no_more (x ∷ xs) e = cc

-- where the lines of one part go on behind those of another, the next line may go on there
pub part_beyond : (names : NamesData) (objects : List ObjectId) (section : Section) (v w : Part) (l : List ℕ) (ls : List (List ℕ)) → Fits names objects section v → Fits names objects section w → bodies names.shape w ≡ bodies names.shape v ++ l ∷ ls → GoesOn names objects v l
part_beyond names objects (s.Title x) v w l ls h k e = absurd (bare_beyond names v w l ls (title_in names objects x w k).1 e)
part_beyond names objects (s.Strategy x) v w l ls h k e = absurd (bare_beyond names v w l ls (strategy_in names objects x w k).1 e)
part_beyond names objects (s.Client n) v w l ls h k e =
    let a = moments_in names objects n v h in
    let b = moments_in names objects n w k in
    let more : bodies names.shape (Moments b.0) ≡ bodies names.shape (Moments a.0) ++ l ∷ ls = sym (ap (bodies names.shape) b.1) ∙ e ∙ ap (λ (x : Part). bodies names.shape x ++ l ∷ ls) a.1 in
    let r = beyond_map IsMoment clock_text spelled.same_moment a.0 b.0 l ls (recursion_from_All IsMoment a.0 a.2) (recursion_from_All IsMoment b.0 b.2) more in
    let P : Part → Type 0 = λ x. GoesOn names objects x l in
    subst P (sym a.1) (r.entry, r.may, r.spelled)
part_beyond names objects (s.Publisher n) v w l ls h k e =
    let a = sends_in names objects n v h in
    let b = sends_in names objects n w k in
    let more : bodies names.shape (Sends b.0) ≡ bodies names.shape (Sends a.0) ++ l ∷ ls = sym (ap (bodies names.shape) b.1) ∙ e ∙ ap (λ (x : Part). bodies names.shape x ++ l ∷ ls) a.1 in
    let r = beyond_map (MayEnterPublisher names) publisher_entry_text (spelled.same_publisher names) a.0 b.0 l ls (recursion_from_All (MayEnterPublisher names) a.0 a.2) (recursion_from_All (MayEnterPublisher names) b.0 b.2) more in
    let P : Part → Type 0 = λ x. GoesOn names objects x l in
    subst P (sym a.1) (r.entry, r.may, r.spelled)
part_beyond names objects s.Bridge v w l ls h k e =
    let a = bridge_in names objects v h in
    let b = bridge_in names objects w k in
    let more : bodies names.shape (OnBridge b.0) ≡ bodies names.shape (OnBridge a.0) ++ l ∷ ls = sym (ap (bodies names.shape) b.1) ∙ e ∙ ap (λ (x : Part). bodies names.shape x ++ l ∷ ls) a.1 in
    let r = beyond_map (MayEnterBridge names) (bridge_entry_text names.shape) (spelled.same_bridge names) a.0 b.0 l ls (recursion_from_All (MayEnterBridge names) a.0 a.2) (recursion_from_All (MayEnterBridge names) b.0 b.2) more in
    let P : Part → Type 0 = λ x. GoesOn names objects x l in
    subst P (sym a.1) (r.entry, r.may, r.spelled)
part_beyond names objects s.Timers v w l ls h k e =
    let a = timers_in names objects v h in
    let b = timers_in names objects w k in
    let more : bodies names.shape (OnTimers b.0) ≡ bodies names.shape (OnTimers a.0) ++ l ∷ ls = sym (ap (bodies names.shape) b.1) ∙ e ∙ ap (λ (x : Part). bodies names.shape x ++ l ∷ ls) a.1 in
    let r = beyond_map (MayEnterTimers names) (timers_entry_text names.shape) (spelled.same_timers names) a.0 b.0 l ls (recursion_from_All (MayEnterTimers names) a.0 a.2) (recursion_from_All (MayEnterTimers names) b.0 b.2) more in
    let P : Part → Type 0 = λ x. GoesOn names objects x l in
    subst P (sym a.1) (r.entry, r.may, r.spelled)
part_beyond names objects (s.Queue n) v w l ls h k e =
    let a = queue_in names objects n v h in
    let b = queue_in names objects n w k in
    let more : bodies names.shape (OnQueue b.0) ≡ bodies names.shape (OnQueue a.0) ++ l ∷ ls = sym (ap (bodies names.shape) b.1) ∙ e ∙ ap (λ (x : Part). bodies names.shape x ++ l ∷ ls) a.1 in
    let r = beyond_map (MayEnterQueue names) queue_entry_text (spelled.same_queue names) a.0 b.0 l ls (recursion_from_All (MayEnterQueue names) a.0 a.2) (recursion_from_All (MayEnterQueue names) b.0 b.2) more in
    let P : Part → Type 0 = λ x. GoesOn names objects x l in
    subst P (sym a.1) (r.entry, r.may, r.spelled)
part_beyond names objects (s.Object o) v w l ls h k e =
    let a = heard_in names objects o v h in
    let b = heard_in names objects o w k in
    let more : bodies names.shape (Heard b.0) ≡ bodies names.shape (Heard a.0) ++ l ∷ ls = sym (ap (bodies names.shape) b.1) ∙ e ∙ ap (λ (x : Part). bodies names.shape x ++ l ∷ ls) a.1 in
    let Q : ObjectId → Type 0 = λ x. AllByRecursion (MayCall names x) b.0.calls in
    let may = subst Q (b.2.0 ∙ sym a.2.0) (recursion_from_All (MayCall names b.0.object) b.0.calls b.2.1) in
    let P : Part → Type 0 = λ x. GoesOn names objects x l in
    subst P (sym a.1) (beyond_calls names a.0.object a.0.calls b.0.calls l ls may more)
part_beyond names objects s.Images v w l ls h k e =
    let a = pictures_in names objects v h in
    let b = pictures_in names objects w k in
    let more : bodies names.shape (Pictures b.0) ≡ bodies names.shape (Pictures a.0) ++ l ∷ ls = sym (ap (bodies names.shape) b.1) ∙ e ∙ ap (λ (x : Part). bodies names.shape x ++ l ∷ ls) a.1 in
    let r = beyond_map (IsLastImage names) image_text (spelled.same_image names) a.0 b.0 l ls (recursion_from_All (IsLastImage names) a.0 a.2.1.each) (recursion_from_All (IsLastImage names) b.0 b.2.1.each) more in
    let sub : LastImage → SubId = λ i. i.sub in
    let subs : map (λ i. i.sub) b.0 ≡ map (λ i. i.sub) a.0 ++ r.entry.sub ∷ map (λ i. i.sub) r.others = ap (map sub) r.is ∙ map-append sub a.0 (r.entry ∷ r.others) in
    let later = behind_split objects (map (λ i. i.sub) a.0) (map (λ i. i.sub) r.others) r.entry.sub a.2.0 b.2.0 (sym (ap (behind_all objects) subs) ∙ b.2.1.ordered) a.2.1.ordered in
    let P : Part → Type 0 = λ x. GoesOn names objects x l in
    subst P (sym a.1) (a.2.0, a.2.1.ordered, (r.entry, (r.may, later), r.spelled))
part_beyond names objects (s.Group n) v w l ls h k e =
    let May = MayHearGroup names in
    let a = grouped_in names objects n v h in
    let b = grouped_in names objects n w k in
    let more : bodies names.shape (Grouped b.0) ≡ bodies names.shape (Grouped a.0) ++ l ∷ ls = sym (ap (bodies names.shape) b.1) ∙ e ∙ ap (λ (x : Part). bodies names.shape x ++ l ∷ ls) a.1 in
    let r = beyond_map May group_note_text (spelled.same_group names) a.0.notes b.0.notes l ls (recursion_from_All May a.0.notes a.2.1) (recursion_from_All May b.0.notes b.2.1) more in
    let P : Part → Type 0 = λ x. GoesOn names objects x l in
    subst P (sym a.1) (r.entry, r.may, r.spelled)
part_beyond names objects (s.Watch n) v w l ls h k e =
    let a = watched_in names objects n v h in
    let b = watched_in names objects n w k in
    let more : bodies names.shape (Watched b.0) ≡ bodies names.shape (Watched a.0) ++ l ∷ ls = sym (ap (bodies names.shape) b.1) ∙ e ∙ ap (λ (x : Part). bodies names.shape x ++ l ∷ ls) a.1 in
    let r = beyond_map MayNote watch_note_text spelled.same_watch a.0.notes b.0.notes l ls (recursion_from_All MayNote a.0.notes a.2.1) (recursion_from_All MayNote b.0.notes b.2.1) more in
    let P : Part → Type 0 = λ x. GoesOn names objects x l in
    subst P (sym a.1) (r.entry, r.may, r.spelled)
part_beyond names objects s.End v w l ls h k e = absurd (bare_beyond names v w l ls (end_in names objects w k).1 e)
