-- Parts that fit the sections of a script are those of a record that its log can tell.
use Rattle.std.proofs.Common.{◌≡◌, ℕ, suc, Bool, true, false, List, [], ◌∷◌, ◌++◌, length, map, Some, refl, sym, ap, ◌∙◌}
use Rattle.std.specs.List.{All, AllByRecursion}
use Rattle.std.proofs.lemmas.List.Elements.{All-from_recursion, recursion_from_All}
use Rattle.mama_event.specs.declared.ids.SubId.{SubId}
use Rattle.mama_event.specs.declared.ids.ObjectId.{ObjectId}
use Rattle.mama_event.specs.declared.ids.ObjectId.TheVariants.{Sub}
use Rattle.mama_event.specs.Object.{same_object}
use Rattle.mama_event.specs.Ports.{queues_of}
use Rattle.mama_event.specs.declared.shape.Strategy.{Strategy}
use Rattle.mama_words.specs.declared.version.Version.{Version}
use Rattle.mama_words.specs.declared.version.Version.TheVariants as version
use Rattle.mama_script.specs.Script.{ScriptData}
use Rattle.mama_rules_legal.specs.Form.{objects_of, in_order}
use Rattle.mama_journal.specs.Journal.{numbers_below}
use Rattle.mama_record.specs.RunData.{RunData, ObjectCalls, GroupNotes, WatchNotes, LastImage}
use Rattle.mama_log_line.specs.Names.{NamesData, names_of}
use Rattle.mama_log_line.specs.Entering.{MayEnterPublisher, MayEnterBridge, MayEnterTimers, MayEnterQueue}
use Rattle.mama_log_read.specs.Logged.{IsMoment, MayHearAll, MayHearNotes, MayNoteAll, IsLogged}
use Rattle.mama_log_read.specs.Section.{titles, numbered_from, sections}
use Rattle.mama_log_read.specs.Part.{Part, Bare, Moments, Sends, OnBridge, OnTimers, OnQueue, Pictures, Grouped, Watched, Filled, Fits, ArePictures, behind_all}
use Rattle.mama_log_read.specs.declared.section.Section.{Section}
use Rattle.mama_log_read.specs.declared.section.Section.TheVariants as s
use Rattle.mama_log_read.proofs.Whole.{numbered_parts, heard_part, group_part, watch_part, last_parts, title_parts, body_parts, parts_of, AllFit, named, first, split, split_calls, split_listed, numbers_are, split_titles, grouped_in, watched_in, moments_in, sends_in, queue_in, bridge_in, timers_in, pictures_in, end_in}

-- ---- images in order

abbrev LeftBy : List ObjectId → List SubId → Type 0
LeftBy objects subs = (left : List ObjectId) × (behind_all objects subs ≡ Some left)

order_step : (o : ObjectId) (objects : List ObjectId) (sub : SubId) (subs : List SubId) (b : Bool) → same_object o (Sub sub) ≡ b
    → (in_order objects subs ≡ true → LeftBy objects subs) → (in_order objects (sub ∷ subs) ≡ true → LeftBy objects (sub ∷ subs)) → in_order (o ∷ objects) (sub ∷ subs) ≡ true → LeftBy (o ∷ objects) (sub ∷ subs)
order_step o objects sub subs true e here later h = let k = here (rw e at h) in (k.0, rw e k.1)
order_step o objects sub subs false e here later h = let k = later (rw e at h) in (k.0, rw e k.1)

pub order_left : (objects : List ObjectId) (subs : List SubId) → in_order objects subs ≡ true → LeftBy objects subs
order_left objects [] h = (objects, refl)
order_left [] (sub ∷ subs) h = absurd cc
order_left (o ∷ objects) (sub ∷ subs) h = order_step o objects sub subs (same_object o (Sub sub)) refl (order_left objects subs) (order_left objects (sub ∷ subs)) h

left_step : (o : ObjectId) (objects : List ObjectId) (sub : SubId) (subs : List SubId) (left : List ObjectId) (b : Bool) → same_object o (Sub sub) ≡ b
    → (behind_all objects subs ≡ Some left → in_order objects subs ≡ true) → (behind_all objects (sub ∷ subs) ≡ Some left → in_order objects (sub ∷ subs) ≡ true) → behind_all (o ∷ objects) (sub ∷ subs) ≡ Some left → in_order (o ∷ objects) (sub ∷ subs) ≡ true
left_step o objects sub subs left true e here later h = rw e (here (rw e at h))
left_step o objects sub subs left false e here later h = rw e (later (rw e at h))

pub left_order : (objects : List ObjectId) (subs : List SubId) (left : List ObjectId) → behind_all objects subs ≡ Some left → in_order objects subs ≡ true
left_order objects [] left h = refl
left_order [] (sub ∷ subs) left h = absurd cc
left_order (o ∷ objects) (sub ∷ subs) left h = left_step o objects sub subs left (same_object o (Sub sub)) refl (left_order objects subs left) (left_order objects (sub ∷ subs) left) h

-- ---- the record of parts that fit

none_named : (fs : List Filled) → named fs ≡ [] → fs ≡ []
none_named [] e = refl
none_named (f ∷ fs) e = absurd cc

-- the groups, the watches and the images, which stand behind the objects
record SplitLists (names : NamesData) (objects : List ObjectId) (group_count watch_count : ℕ) (fs : List Filled) : Type 0 where
  pub groups : List GroupNotes
  pub watches : List WatchNotes
  pub images : List LastImage
  pub is : fs ≡ map group_part groups ++ (map watch_part watches ++ last_parts images)
  pub group_of : map (λ x. x.group) groups ≡ numbers_below group_count
  pub watch_of : map (λ x. x.watch) watches ≡ numbers_below watch_count
  pub heard : AllByRecursion (MayHearNotes names) groups
  pub noted : AllByRecursion MayNoteAll watches
  pub left : List ObjectId
  pub pictures : ArePictures names objects images left

split_lists : (names : NamesData) (objects : List ObjectId) (group_count watch_count : ℕ) (fs : List Filled)
    → named fs ≡ numbered_from s.Group 0 group_count ++ (numbered_from s.Watch 0 watch_count ++ (s.Images ∷ s.End ∷ [])) → AllFit names objects fs → SplitLists names objects group_count watch_count fs
split_lists names objects group_count watch_count fs e h =
    let at_end : List Section = s.Images ∷ s.End ∷ [] in
    let at_watches : List Section = numbered_from s.Watch 0 watch_count ++ at_end in
    let groups_named : named fs ≡ map s.Group (numbers_below group_count) ++ at_watches = e ∙ ap (λ (t : List Section). t ++ at_watches) (numbers_are s.Group group_count) in
    let g = split_listed names objects s.Group Grouped (λ x. x.group) (MayHearNotes names) (grouped_in names objects) (numbers_below group_count) at_watches fs groups_named h in
    let watches_named : named g.rest ≡ map s.Watch (numbers_below watch_count) ++ at_end = g.name ∙ ap (λ (t : List Section). t ++ at_end) (numbers_are s.Watch watch_count) in
    let w = split_listed names objects s.Watch Watched (λ x. x.watch) MayNoteAll (watched_in names objects) (numbers_below watch_count) at_end g.rest watches_named g.fits in
    let i = first names objects s.Images Pictures (λ x. (left : List ObjectId) × ArePictures names objects x left) (pictures_in names objects) (s.End ∷ []) w.rest w.name w.fits in
    let z = first {A = Unit {0}} names objects s.End (λ x. Bare) (λ x. Unit {0}) (end_in names objects) [] i.rest i.name i.fits in
    let end_is : i.rest ≡ (s.End, Bare) ∷ [] = z.is ∙ ap (λ (x : List Filled). (s.End, Bare) ∷ x) (none_named z.rest z.name) in
    let images_are : w.rest ≡ last_parts i.entries = i.is ∙ ap (λ (x : List Filled). (s.Images, Pictures i.entries) ∷ x) end_is in
    let watches_are : g.rest ≡ map watch_part w.entries ++ last_parts i.entries = w.is ∙ ap (λ (x : List Filled). map watch_part w.entries ++ x) images_are in
    record {
      groups = g.entries;
      watches = w.entries;
      images = i.entries;
      is = g.is ∙ ap (λ (x : List Filled). map group_part g.entries ++ x) watches_are;
      group_of = g.of;
      watch_of = w.of;
      heard = g.may;
      noted = w.may;
      left = i.may.0;
      pictures = i.may.1;
    }

pub record IsRecord (v : Version) (script : ScriptData) (fs : List Filled) : Type 0 where
  pub run : RunData
  pub logged : IsLogged script run
  pub is : fs ≡ parts_of v script.shape.strategy run

pub sections_make_record : (v : Version) (script : ScriptData) (fs : List Filled) → named fs ≡ sections v script → AllFit (names_of script) (objects_of script) fs → IsRecord v script fs
sections_make_record v script fs e h =
    let names = names_of script in
    let objects = objects_of script in
    let at_end : List Section = s.Images ∷ s.End ∷ [] in
    let group_count = length script.groups in
    let watch_count = length script.watches in
    let at_watches : List Section = numbered_from s.Watch 0 watch_count ++ at_end in
    let at_groups : List Section = numbered_from s.Group 0 group_count ++ at_watches in
    let at_objects : List Section = map s.Object objects ++ at_groups in
    let at_queues : List Section = numbered_from s.Queue 0 (queues_of script.shape) ++ at_objects in
    let at_timers : List Section = s.Timers ∷ at_queues in
    let at_bridge : List Section = s.Bridge ∷ at_timers in
    let at_publishers : List Section = numbered_from s.Publisher 0 (length script.publishers) ++ at_bridge in
    let at_clients : List Section = numbered_from s.Client 0 (length script.clients) ++ at_publishers in
    let t = split_titles v script.shape.strategy names objects at_clients fs e h in
    let c = split names objects s.Client Moments (λ x. All IsMoment x) (moments_in names objects) 0 (length script.clients) at_publishers t.rest t.name t.fits in
    let p = split names objects s.Publisher Sends (λ x. All (MayEnterPublisher names) x) (sends_in names objects) 0 (length script.publishers) at_bridge c.rest c.name c.fits in
    let b = first names objects s.Bridge OnBridge (λ x. All (MayEnterBridge names) x) (bridge_in names objects) at_timers p.rest p.name p.fits in
    let m = first names objects s.Timers OnTimers (λ x. All (MayEnterTimers names) x) (timers_in names objects) at_queues b.rest b.name b.fits in
    let q = split names objects s.Queue OnQueue (λ x. All (MayEnterQueue names) x) (queue_in names objects) 0 (queues_of script.shape) at_objects m.rest m.name m.fits in
    let o = split_calls names objects objects at_groups q.rest q.name q.fits in
    let l = split_lists names objects group_count watch_count o.rest o.name o.fits in
    let run : RunData = record { clients = c.entries; publishers = p.entries; bridge = b.entries; timers = m.entries; queues = q.entries; calls = o.calls; images = l.images; groups = l.groups; watches = l.watches } in
    let objects_are = o.is ∙ ap (λ (x : List Filled). map heard_part o.calls ++ x) l.is in
    let queues_are = q.is ∙ ap (λ (x : List Filled). numbered_parts s.Queue OnQueue 0 q.entries ++ x) objects_are in
    let timers_are = m.is ∙ ap (λ (x : List Filled). (s.Timers, OnTimers m.entries) ∷ x) queues_are in
    let bridge_are = b.is ∙ ap (λ (x : List Filled). (s.Bridge, OnBridge b.entries) ∷ x) timers_are in
    let publishers_are = p.is ∙ ap (λ (x : List Filled). numbered_parts s.Publisher Sends 0 p.entries ++ x) bridge_are in
    let clients_are = c.is ∙ ap (λ (x : List Filled). numbered_parts s.Client Moments 0 c.entries ++ x) publishers_are in
    record {
      run = run;
      logged = record {
        formed = record {
          counted = record { clients = c.counted; publishers = p.counted; queues = q.counted; objects = o.of; groups = l.group_of; watches = l.watch_of };
          images = left_order objects (map (λ x. x.sub) l.images) l.left l.pictures.ordered;
        };
        clients = All-from_recursion (λ x. All IsMoment x) c.entries c.may;
        publishers = All-from_recursion (λ x. All (MayEnterPublisher names) x) p.entries p.may;
        bridge = b.may;
        timers = m.may;
        queues = All-from_recursion (λ x. All (MayEnterQueue names) x) q.entries q.may;
        calls = All-from_recursion (MayHearAll names) o.calls o.may;
        images = l.pictures.each;
        groups = All-from_recursion (MayHearNotes names) l.groups l.heard;
        watches = All-from_recursion MayNoteAll l.watches l.noted;
      };
      is = t.is ∙ ap (λ (x : List Filled). title_parts v script.shape.strategy ++ x) clients_are;
    }

-- ---- the parts of a record fit

named_numbered : {A : Type 0} (section : ℕ → Section) (wrap : A → Part) (n : ℕ) (xs : List A) (fs : List Filled) → named (numbered_parts section wrap n xs ++ fs) ≡ numbered_from section n (length xs) ++ named fs
named_numbered section wrap n [] fs = refl
named_numbered section wrap n (x ∷ xs) fs = ap (λ (t : List Section). section n ∷ t) (named_numbered section wrap (suc n) xs fs)

named_heard : (calls : List ObjectCalls) (fs : List Filled) → named (map heard_part calls ++ fs) ≡ map s.Object (map (λ c. c.object) calls) ++ named fs
named_heard [] fs = refl
named_heard (c ∷ calls) fs = ap (λ (t : List Section). s.Object c.object ∷ t) (named_heard calls fs)

named_groups : (groups : List GroupNotes) (fs : List Filled) → named (map group_part groups ++ fs) ≡ map s.Group (map (λ g. g.group) groups) ++ named fs
named_groups [] fs = refl
named_groups (g ∷ groups) fs = ap (λ (t : List Section). s.Group g.group ∷ t) (named_groups groups fs)

named_watches : (watches : List WatchNotes) (fs : List Filled) → named (map watch_part watches ++ fs) ≡ map s.Watch (map (λ w. w.watch) watches) ++ named fs
named_watches [] fs = refl
named_watches (w ∷ watches) fs = ap (λ (t : List Section). s.Watch w.watch ∷ t) (named_watches watches fs)

fit_groups : (names : NamesData) (objects : List ObjectId) (groups : List GroupNotes) (fs : List Filled) → AllByRecursion (MayHearNotes names) groups → AllFit names objects fs → AllFit names objects (map group_part groups ++ fs)
fit_groups names objects [] fs h k = k
fit_groups names objects (g ∷ groups) fs h k = ((refl, h.0), fit_groups names objects groups fs h.1 k)

fit_watches : (names : NamesData) (objects : List ObjectId) (watches : List WatchNotes) (fs : List Filled) → AllByRecursion MayNoteAll watches → AllFit names objects fs → AllFit names objects (map watch_part watches ++ fs)
fit_watches names objects [] fs h k = k
fit_watches names objects (w ∷ watches) fs h k = ((refl, h.0), fit_watches names objects watches fs h.1 k)

fit_numbered : {A : Type 0} (names : NamesData) (objects : List ObjectId) (section : ℕ → Section) (wrap : A → Part) (May : A → Type 0) → ((n : ℕ) (x : A) → May x → Fits names objects (section n) (wrap x))
    → (n : ℕ) (xs : List A) (fs : List Filled) → AllByRecursion May xs → AllFit names objects fs → AllFit names objects (numbered_parts section wrap n xs ++ fs)
fit_numbered names objects section wrap May each n [] fs h k = k
fit_numbered names objects section wrap May each n (x ∷ xs) fs h k = (each n x h.0, fit_numbered names objects section wrap May each (suc n) xs fs h.1 k)

fit_heard : (names : NamesData) (objects : List ObjectId) (calls : List ObjectCalls) (fs : List Filled) → AllByRecursion (MayHearAll names) calls → AllFit names objects fs → AllFit names objects (map heard_part calls ++ fs)
fit_heard names objects [] fs h k = k
fit_heard names objects (c ∷ calls) fs h k = ((refl, h.0), fit_heard names objects calls fs h.1 k)

named_titles : (v : Version) (strategy : Strategy) (fs : List Filled) (left : List Section) → named fs ≡ left → named (title_parts v strategy ++ fs) ≡ titles v strategy ++ left
named_titles version.One strategy fs left e = ap (λ (t : List Section). s.Title version.One ∷ t) e
named_titles version.Two strategy fs left e = ap (λ (t : List Section). s.Title version.Two ∷ s.Strategy strategy ∷ t) e

pub parts_named : (v : Version) (script : ScriptData) (run : RunData) → IsLogged script run → named (parts_of v script.shape.strategy run) ≡ sections v script
parts_named v script run h =
    let counts = h.formed.counted in
    let at_end : List Section = s.Images ∷ s.End ∷ [] in
    let at_watches : List Section = numbered_from s.Watch 0 (length script.watches) ++ at_end in
    let at_groups : List Section = numbered_from s.Group 0 (length script.groups) ++ at_watches in
    let at_objects : List Section = map s.Object (objects_of script) ++ at_groups in
    let at_queues : List Section = numbered_from s.Queue 0 (queues_of script.shape) ++ at_objects in
    let at_bridge : List Section = s.Bridge ∷ s.Timers ∷ at_queues in
    let at_publishers : List Section = numbered_from s.Publisher 0 (length script.publishers) ++ at_bridge in
    let watches_part = map watch_part run.watches ++ last_parts run.images in
    let groups_part = map group_part run.groups ++ watches_part in
    let objects_part = map heard_part run.calls ++ groups_part in
    let queues_part = numbered_parts s.Queue OnQueue 0 run.queues ++ objects_part in
    let bridge_part : List Filled = (s.Bridge, OnBridge run.bridge) ∷ (s.Timers, OnTimers run.timers) ∷ queues_part in
    let publishers_part = numbered_parts s.Publisher Sends 0 run.publishers ++ bridge_part in
    let watches_are : named watches_part ≡ at_watches =
    named_watches run.watches (last_parts run.images) ∙ ap (λ (ns : List ℕ). map s.Watch ns ++ at_end) counts.watches ∙ ap (λ (t : List Section). t ++ at_end) (sym (numbers_are s.Watch (length script.watches))) in
    let groups_are : named groups_part ≡ at_groups =
    named_groups run.groups watches_part ∙ ap (λ (ns : List ℕ). map s.Group ns ++ named watches_part) counts.groups
    ∙ ap (λ (t : List Section). t ++ named watches_part) (sym (numbers_are s.Group (length script.groups))) ∙ ap (λ (t : List Section). numbered_from s.Group 0 (length script.groups) ++ t) watches_are in
    let objects_are : named objects_part ≡ at_objects =
    named_heard run.calls groups_part ∙ ap (λ (os : List ObjectId). map s.Object os ++ named groups_part) counts.objects ∙ ap (λ (t : List Section). map s.Object (objects_of script) ++ t) groups_are in
    let queues_are : named queues_part ≡ at_queues =
    named_numbered s.Queue OnQueue 0 run.queues objects_part ∙ ap (λ (k : ℕ). numbered_from s.Queue 0 k ++ named objects_part) counts.queues ∙ ap (λ (t : List Section). numbered_from s.Queue 0 (queues_of script.shape) ++ t) objects_are in
    let bridge_are : named bridge_part ≡ at_bridge = ap (λ (t : List Section). s.Bridge ∷ s.Timers ∷ t) queues_are in
    let publishers_are : named publishers_part ≡ at_publishers =
    named_numbered s.Publisher Sends 0 run.publishers bridge_part ∙ ap (λ (k : ℕ). numbered_from s.Publisher 0 k ++ named bridge_part) counts.publishers ∙ ap (λ (t : List Section). numbered_from s.Publisher 0 (length script.publishers) ++ t) bridge_are in
    named_titles v script.shape.strategy (body_parts run) (numbered_from s.Client 0 (length script.clients) ++ at_publishers) (
    named_numbered s.Client Moments 0 run.clients publishers_part
    ∙ ap (λ (k : ℕ). numbered_from s.Client 0 k ++ named publishers_part) counts.clients
    ∙ ap (λ (t : List Section). numbered_from s.Client 0 (length script.clients) ++ t) publishers_are)

fit_titles : (v : Version) (strategy : Strategy) (names : NamesData) (objects : List ObjectId) (fs : List Filled) → AllFit names objects fs → AllFit names objects (title_parts v strategy ++ fs)
fit_titles version.One strategy names objects fs h = (tt, h)
fit_titles version.Two strategy names objects fs h = (tt, (tt, h))

pub parts_fit : (v : Version) (script : ScriptData) (run : RunData) → IsLogged script run → AllFit (names_of script) (objects_of script) (parts_of v script.shape.strategy run)
parts_fit v script run h =
    let names = names_of script in
    let objects = objects_of script in
    let ordered = order_left objects (map (λ x. x.sub) run.images) h.formed.images in
    let pictures : ArePictures names objects run.images ordered.0 = record { each = h.images; ordered = ordered.1 } in
    let at_end : AllFit names objects (last_parts run.images) = ((ordered.0, pictures), (tt, tt)) in
    let at_watches = fit_watches names objects run.watches (last_parts run.images) (recursion_from_All MayNoteAll run.watches h.watches) at_end in
    let watches_part = map watch_part run.watches ++ last_parts run.images in
    let at_groups = fit_groups names objects run.groups watches_part (recursion_from_All (MayHearNotes names) run.groups h.groups) at_watches in
    let groups_part = map group_part run.groups ++ watches_part in
    let at_objects = fit_heard names objects run.calls groups_part (recursion_from_All (MayHearAll names) run.calls h.calls) at_groups in
    let objects_part = map heard_part run.calls ++ groups_part in
    let at_queues =
    fit_numbered names objects s.Queue OnQueue (λ x. All (MayEnterQueue names) x) (λ n x m. m) 0 run.queues objects_part (recursion_from_All (λ x. All (MayEnterQueue names) x) run.queues h.queues) at_objects in
    let bridge_part : List Filled = (s.Bridge, OnBridge run.bridge) ∷ (s.Timers, OnTimers run.timers) ∷ (numbered_parts s.Queue OnQueue 0 run.queues ++ objects_part) in
    let at_bridge : AllFit names objects bridge_part = (h.bridge, (h.timers, at_queues)) in
    let at_publishers =
    fit_numbered names objects s.Publisher Sends (λ x. All (MayEnterPublisher names) x) (λ n x m. m) 0 run.publishers bridge_part (recursion_from_All (λ x. All (MayEnterPublisher names) x) run.publishers h.publishers) at_bridge in
    fit_titles v script.shape.strategy names objects (body_parts run)
    (fit_numbered names objects s.Client Moments (λ x. All IsMoment x) (λ n x m. m) 0 run.clients (numbered_parts s.Publisher Sends 0 run.publishers ++ bridge_part) (recursion_from_All (λ x. All IsMoment x) run.clients h.clients) at_publishers)
