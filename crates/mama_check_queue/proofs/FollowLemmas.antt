-- Groups and watches follow the entries that are served, as their rules say.
use Rattle.std.specs.Prelude.{◌==◌, Option, None, Some, not, nat_lt, if◌then◌else◌}
use Rattle.std.specs.List.{AllByRecursion, flat_map}
use Rattle.std.proofs.Common.{◌≡◌, ℕ, ◌+◌, Bool, true, false, ◌&&◌, List, [], ◌∷◌, ◌++◌, length, map, drop, refl, ap, sym, subst, ◌∙◌, arith, append-nil}
use Rattle.std.proofs.Math.Seq.{drop-append_seam}
use Rattle.std.proofs.lemmas.Bool.{lt-ltb, le-ltb}
use Rattle.std.proofs.lemmas.List.{map-append, length-map, length-append}
use Rattle.std.proofs.lemmas.List.Concat.{flat_map-append}
use Rattle.mama_journal.specs.Journal.{first_said}
use Rattle.mama_journal.specs.EntryLaws.{puts-push}
use Rattle.mama_event.specs.declared.ids.SubId.{SubId}
use Rattle.mama_event.specs.declared.ids.TimerId.{TimerId}
use Rattle.mama_event.specs.declared.ids.ObjectId.{ObjectId}
use Rattle.mama_event.specs.declared.ids.ObjectId.TheVariants.{Sub, Timer, Inbox}
use Rattle.mama_event.specs.declared.callback.Callback.{Callback}
use Rattle.mama_event.specs.declared.callback.Callback.TheVariants as on
use Rattle.mama_event.specs.declared.callback.CallNote.{CallNote}
use Rattle.mama_event.specs.declared.order.Order.{Order}
use Rattle.mama_event.specs.declared.group.GroupRow.{GroupRow}
use Rattle.mama_event.specs.declared.group.GroupNote.{GroupNote}
use Rattle.mama_event.specs.declared.group.GroupNote.TheVariants as note
use Rattle.mama_event.specs.declared.group.GroupState.{GroupState}
use Rattle.mama_event.specs.declared.watch.WatchRow.{WatchRow}
use Rattle.mama_event.specs.declared.to_queue.QueueNote.{QueueNote}
use Rattle.mama_event.specs.declared.to_queue.QueueNote.TheVariants as q
use Rattle.mama_event.specs.Arrival.{code_of}
use Rattle.mama_event.specs.Object.{same_sub, same_timer, same_object}
use Rattle.mama_event.specs.EqualityLaws.{same_timer-Decides, same_group_state-Decides}
use Rattle.mama_dq.specs.Strategy.{callbacks_of}
use Rattle.mama_rules_queue.specs.Queue.{Deed, handled, called, QueuePut, calls_in, calls_of, is_destroy, is_muted, made, make_in, context_of, messages_of, served, deeds, deeds_at}
use Rattle.mama_rules_queue.specs.Group.{group_notes, group_notes_at, state_told}
use Rattle.mama_rules_queue.specs.GroupTurns.{state_after, turn_notes}
use Rattle.mama_rules_queue.specs.Watch as rules
use Rattle.mama_rules_queue.specs.Watch.{is_missed, watch_notes_at, wish_in, wishes_at}
use Rattle.mama_rules_rounds.specs.Told.{noted}
use Rattle.mama_dispatch.proofs.DeedLemmas.{same_object-sym, same_object-refl}
use Rattle.mama_dispatch.proofs.JournalLaws.{deeds_more}
use Rattle.mama_group.specs.Table.{GroupData, AllHeard, IsOnly, has_member}
use Rattle.mama_group.proofs.Told.{heard_turn, unheard_turn}
use Rattle.mama_timeout.specs.Table.{WatchData, AreApart, IsTick, IsNoTick, watch_by, next_notes, ticked, tick_wishes, counted_at, count_wishes, first_sub}
use Rattle.mama_timeout.proofs.Noted.{none_step, made_sub, made_inbox, noted_turn, wished_turn, unnoted_turn, unwished_turn}
use Rattle.mama_check_queue.specs.Seen.{SeenData}
use Rattle.mama_check_queue.specs.Rows.{SeenObjects, AreSeen, seen_in}
use Rattle.mama_check_queue.specs.Lists.{about_note, calls_before, is_missed_row, is_missed_in, watches_counted, wishes_counted, Follows, AreGroups}
use Rattle.mama_check_queue.specs.declared.lists.About.{About}
use Rattle.mama_check_queue.specs.declared.lists.About.TheVariants as about

-- ---- what an entry calls back

either_calls : (x : ObjectId) (b : Bool) (xs ys : List Deed) → calls_of x xs ≡ [] → calls_of x ys ≡ [] → calls_of x (if b then xs else ys) ≡ []
either_calls x true xs ys one two = one
either_calls x false xs ys one two = two

-- callbacks of an object are none of another
made_other : (orders : ObjectId → ℕ → List Order) (o x : ObjectId) → same_object o x ≡ false → (sofar : List Deed) (cs : List Callback) → calls_of x (made orders o sofar cs) ≡ []
made_other orders o x other sofar [] = refl
made_other orders o x other sofar (c ∷ cs) =
    let os : List Order = orders o (length (calls_of o sofar) + 1) in
    let later : List Deed = made orders o (sofar ++ called o c os ∷ []) cs in
    either_calls x (is_muted o sofar && not (is_destroy c)) (made orders o sofar cs) (called o c os ∷ later)
    (made_other orders o x other sofar cs)
    (ap (λ (b : Bool). (if b then (c, os) ∷ [] else []) ++ calls_of x later) other ∙ made_other orders o x other (sofar ++ called o c os ∷ []) cs)

sub_apart : (t s u : SubId) → about.Sub t ≡ about.Sub s → same_sub u s ≡ false → same_object (Sub t) (Sub u) ≡ false
sub_apart t s u is other = let same : t ≡ s = cc in same_object-sym (Sub t) (Sub u) ∙ ap (same_sub u) same ∙ other

module _ (orders : ObjectId → ℕ → List Order) (before : List (ℕ × QueueNote)) (ds : List Deed) where
  -- an entry about a subscription calls back no other
  only : (n : QueueNote) (s : SubId) → about_note n ≡ about.Sub s → IsOnly s (served orders before ds n)
  only (q.Create slot (Sub t) make tag) s is u other = made_other orders (Sub t) (Sub u) (sub_apart t s u is other) ds (on.Create ∷ [])
  only (q.Create slot (Timer t) make tag) s is u other = absurd cc
  only (q.Create slot (Inbox i) make tag) s is u other = absurd cc
  only (q.Deliver slot t msg) s is u other =
      let cs : List Callback = callbacks_of (context_of (first_said (λ (e : ℕ × QueueNote). make_in (Sub t) e.1) before) (messages_of t ds)) msg in
      either_calls (Sub u) (is_muted (Sub t) ds) [] (handled t msg ∷ made orders (Sub t) (ds ++ handled t msg ∷ []) cs) refl
      (made_other orders (Sub t) (Sub u) (sub_apart t s u is other) (ds ++ handled t msg ∷ []) cs)
  only (q.Reply slot inbox body) s is u other = absurd cc
  only (q.Bad slot t kind sender seq bytes) s is u other = made_other orders (Sub t) (Sub u) (sub_apart t s u is other) ds (on.Error (code_of bytes) ∷ [])
  only (q.BadReply slot inbox bytes) s is u other = absurd cc
  only (q.Tick slot timer moment) s is u other = absurd cc
  only (q.Gone slot (Sub t)) s is u other = made_other orders (Sub t) (Sub u) (sub_apart t s u is other) ds (on.Destroy ∷ [])
  only (q.Gone slot (Timer t)) s is u other = absurd cc
  only (q.Gone slot (Inbox i)) s is u other = absurd cc
  only q.Fin s is u other = refl

  -- an entry about none calls back none
  silent : (n : QueueNote) → ((s : SubId) → about_note n ≡ about.Sub s → ⊥) → (u : SubId) → calls_of (Sub u) (served orders before ds n) ≡ []
  silent (q.Create slot (Sub t) make tag) never u = absurd (never t refl)
  silent (q.Create slot (Timer t) make tag) never u = made_other orders (Timer t) (Sub u) refl ds (on.Create ∷ [])
  silent (q.Create slot (Inbox i) make tag) never u = made_other orders (Inbox i) (Sub u) refl ds (on.Create ∷ [])
  silent (q.Deliver slot t msg) never u = absurd (never t refl)
  silent (q.Reply slot inbox body) never u = made_other orders (Inbox inbox) (Sub u) refl ds (on.Reply body ∷ [])
  silent (q.Bad slot t kind sender seq bytes) never u = absurd (never t refl)
  silent (q.BadReply slot inbox bytes) never u = made_other orders (Inbox inbox) (Sub u) refl ds (on.Error (code_of bytes) ∷ [])
  silent (q.Tick slot timer moment) never u = made_other orders (Timer timer) (Sub u) refl ds (on.Tick moment ∷ [])
  silent (q.Gone slot (Sub t)) never u = absurd (never t refl)
  silent (q.Gone slot (Timer t)) never u = made_other orders (Timer t) (Sub u) refl ds (on.Destroy ∷ [])
  silent (q.Gone slot (Inbox i)) never u = made_other orders (Inbox i) (Sub u) refl ds (on.Destroy ∷ [])
  silent q.Fin never u = refl

  once_made : (u t : TimerId) (c : Callback) → ((os : List Order) → rules.ticked u (called (Timer t) c os) ≡ []) → flat_map (rules.ticked u) (made orders (Timer t) ds (c ∷ [])) ≡ []
  once_made u t c here =
      let os : List Order = orders (Timer t) (length (calls_of (Timer t) ds) + 1) in
      none_step u (is_muted (Timer t) ds && not (is_destroy c)) [] [] (called (Timer t) c os) (here os) refl refl

  -- an entry that is no tick ticks for nobody
  no_tick : (n : QueueNote) → ((t : TimerId) (moment : ℕ) → about_note n ≡ about.Tick t moment → ⊥) → IsNoTick (served orders before ds n)
  no_tick (q.Create slot (Sub s) make tag) never u = made_sub u orders s ds (on.Create ∷ [])
  no_tick (q.Create slot (Timer t) make tag) never u = once_made u t on.Create (λ os. refl)
  no_tick (q.Create slot (Inbox i) make tag) never u = made_inbox u orders i ds (on.Create ∷ [])
  no_tick (q.Deliver slot t msg) never u =
      let cs : List Callback = callbacks_of (context_of (first_said (λ (e : ℕ × QueueNote). make_in (Sub t) e.1) before) (messages_of t ds)) msg in
      none_step u (is_muted (Sub t) ds) [] (made orders (Sub t) (ds ++ handled t msg ∷ []) cs) (handled t msg) refl refl (made_sub u orders t (ds ++ handled t msg ∷ []) cs)
  no_tick (q.Reply slot inbox body) never u = made_inbox u orders inbox ds (on.Reply body ∷ [])
  no_tick (q.Bad slot t kind sender seq bytes) never u = made_sub u orders t ds (on.Error (code_of bytes) ∷ [])
  no_tick (q.BadReply slot inbox bytes) never u = made_inbox u orders inbox ds (on.Error (code_of bytes) ∷ [])
  no_tick (q.Tick slot timer moment) never u = absurd (never timer moment refl)
  no_tick (q.Gone slot (Sub s)) never u = made_sub u orders s ds (on.Destroy ∷ [])
  no_tick (q.Gone slot (Timer t)) never u = once_made u t on.Destroy (λ os. refl)
  no_tick (q.Gone slot (Inbox i)) never u = made_inbox u orders i ds (on.Destroy ∷ [])
  no_tick q.Fin never u = refl

  -- a tick calls back its timer
  tick_made : (n : QueueNote) (t : TimerId) (moment : ℕ) → about_note n ≡ about.Tick t moment → served orders before ds n ≡ made orders (Timer t) ds (on.Tick moment ∷ [])
  tick_made (q.Create slot (Sub s) make tag) t moment is = absurd cc
  tick_made (q.Create slot (Timer x) make tag) t moment is = absurd cc
  tick_made (q.Create slot (Inbox i) make tag) t moment is = absurd cc
  tick_made (q.Deliver slot s msg) t moment is = absurd cc
  tick_made (q.Reply slot inbox body) t moment is = absurd cc
  tick_made (q.Bad slot s kind sender seq bytes) t moment is = absurd cc
  tick_made (q.BadReply slot inbox bytes) t moment is = absurd cc
  tick_made (q.Tick slot x m) t moment is =
      let timer : x ≡ t = cc in
      let time : m ≡ moment = cc in
      ap (λ (y : TimerId). made orders (Timer y) ds (on.Tick m ∷ [])) timer ∙ ap (λ (k : ℕ). made orders (Timer t) ds (on.Tick k ∷ [])) time
  tick_made (q.Gone slot (Sub s)) t moment is = absurd cc
  tick_made (q.Gone slot (Timer x)) t moment is = absurd cc
  tick_made (q.Gone slot (Inbox i)) t moment is = absurd cc
  tick_made q.Fin t moment is = absurd cc

-- ---- groups

module _ (orders : ObjectId → ℕ → List Order) (before : List (ℕ × QueueNote)) (e : ℕ × QueueNote) where
  abbrev at : List Deed
  at = deeds_at orders before e

  abbrev now : List (ℕ × QueueNote)
  now = before ++ e ∷ []

  -- what a group has heard by a journal
  abbrev heard_by : List (ℕ × QueueNote) → ℕ × GroupRow → List GroupNote
  heard_by journal row = group_notes orders row.1.members journal

  abbrev called_back : SubId → List Callback
  called_back s = map (λ (c : Callback × List Order). c.0) (calls_of (Sub s) at)

  -- what a group hears, where it has these members and heard this
  abbrev hears : SubId → List Callback → List SubId → List GroupNote → List GroupNote
  hears s calls members notes = notes ++ (if has_member s members then turn_notes members notes s calls else [])

  row_heard : (row : ℕ × GroupRow) (s : SubId) → IsOnly s at → heard_by now row ≡ hears s (called_back s) row.1.members (heard_by before row)
  row_heard row s one =
      puts-push (group_notes_at orders row.1.members) before e
      ∙ ap (λ (ns : List GroupNote). heard_by before row ++ ns) (by_case (has_member s row.1.members) refl)
    where
      by_case : (b : Bool) → has_member s row.1.members ≡ b
          → group_notes_at orders row.1.members before e ≡ (if has_member s row.1.members then turn_notes row.1.members (heard_by before row) s (called_back s) else [])
      by_case true is =
          heard_turn orders row.1.members before e s one is
          ∙ sym (ap (λ (b : Bool). if b then turn_notes row.1.members (heard_by before row) s (called_back s) else []) is)
      by_case false is =
          unheard_turn orders row.1.members before e s one is
          ∙ sym (ap (λ (b : Bool). if b then turn_notes row.1.members (heard_by before row) s (called_back s) else []) is)

  groups_heard : (s : SubId) (calls : List Callback) → IsOnly s at → calls ≡ called_back s → (rows : List (ℕ × GroupRow)) (gs hs : List GroupData)
      → AreGroups (heard_by before) rows gs → AllHeard s calls gs hs → AreGroups (heard_by now) rows hs
  groups_heard s calls one is [] [] [] are all = tt
  groups_heard s calls one is [] [] (h ∷ hs) are all = absurd all
  groups_heard s calls one is [] (g ∷ gs) hs are all = absurd are
  groups_heard s calls one is (row ∷ rows) [] hs are all = absurd are
  groups_heard s calls one is (row ∷ rows) (g ∷ gs) [] are all = absurd all
  groups_heard s calls one is (row ∷ rows) (g ∷ gs) (h ∷ hs) are all = (
    record {
      number = all.0.number ∙ are.0.number;
      members = all.0.members ∙ are.0.members;
      notes = all.0.notes
          ∙ ap (λ (ms : List SubId). hears s calls ms g.notes) are.0.members
          ∙ ap (λ (ns : List GroupNote). hears s calls row.1.members ns) are.0.notes
          ∙ ap (λ (cs : List Callback). hears s cs row.1.members (heard_by before row)) is
          ∙ sym (row_heard row s one);
    },
    groups_heard s calls one is rows gs hs are.1 all.1,
  )

  told_same : (x : GroupState) → state_told x x ≡ []
  told_same x = ap (λ (b : Bool). if b then [] else note.State x ∷ []) ((same_group_state-Decides x x).1 refl)

  -- a turn in which nothing was called back is not heard
  hears_none : (s : SubId) (members : List SubId) (notes : List GroupNote) → hears s [] members notes ≡ notes
  hears_none s members notes = by_case (has_member s members)
    where
      by_case : (b : Bool) → notes ++ (if b then turn_notes members notes s [] else []) ≡ notes
      by_case true =
          ap (λ (xs : List GroupNote). notes ++ state_told (state_after members notes) (state_after members xs)) (append-nil notes)
          ∙ ap (λ (xs : List GroupNote). notes ++ xs) (told_same (state_after members notes)) ∙ append-nil notes
      by_case false = append-nil notes

  abbrev first_of_all : SubId
  first_of_all = record { client = 0; number = 0 }

  row_silent : (row : ℕ × GroupRow) → ((u : SubId) → calls_of (Sub u) at ≡ []) → heard_by now row ≡ heard_by before row
  row_silent row none =
      row_heard row first_of_all (λ u other. none u)
      ∙ ap (λ (cs : List (Callback × List Order)). hears first_of_all (map (λ (c : Callback × List Order). c.0) cs) row.1.members (heard_by before row)) (none first_of_all)
      ∙ hears_none first_of_all row.1.members (heard_by before row)

  groups_silent : ((u : SubId) → calls_of (Sub u) at ≡ []) → (rows : List (ℕ × GroupRow)) (gs : List GroupData)
      → AreGroups (heard_by before) rows gs → AreGroups (heard_by now) rows gs
  groups_silent none [] [] are = tt
  groups_silent none [] (g ∷ gs) are = absurd are
  groups_silent none (row ∷ rows) [] are = absurd are
  groups_silent none (row ∷ rows) (g ∷ gs) are = (
    record { number = are.0.number; members = are.0.members; notes = are.0.notes ∙ sym (row_silent row none) },
    groups_silent none rows gs are.1,
  )

  -- ---- watches

  abbrev by : ℕ × WatchRow → WatchData
  by w = watch_by orders before w

  abbrev rows_of : List (ℕ × WatchRow) → List WatchRow
  rows_of ws = map (λ (w : ℕ × WatchRow). w.1) ws

  watches_quiet : IsNoTick at → (ws : List (ℕ × WatchRow)) → map by ws ≡ map (watch_by orders now) ws
  watches_quiet none [] = refl
  watches_quiet none (w ∷ ws) =
      ap (λ (x : WatchData). x ∷ map by ws) (sym (unnoted_turn orders w before e none)) ∙ ap (λ (xs : List WatchData). watch_by orders now w ∷ xs) (watches_quiet none ws)

  wishes_quiet : IsNoTick at → (ws : List (ℕ × WatchRow)) → [] ≡ wishes_at orders (rows_of ws) before e
  wishes_quiet none [] = refl
  wishes_quiet none (w ∷ ws) = wishes_quiet none ws ∙ ap (λ (xs : List QueuePut). xs ++ wishes_at orders (rows_of ws) before e) (sym (unwished_turn orders w before e none))

  module _ (t : TimerId) (moment : ℕ) (tick : IsTick t moment at) where
    abbrev missed : SubId → Bool
    missed s = is_missed s now (deeds orders now)

    watches_ticked : (ws : List (ℕ × WatchRow)) → map (ticked t moment missed) (map by ws) ≡ map (watch_by orders now) ws
    watches_ticked [] = refl
    watches_ticked (w ∷ ws) =
        ap (λ (x : WatchData). x ∷ map (ticked t moment missed) (map by ws)) (sym (noted_turn orders w before e t moment tick))
        ∙ ap (λ (xs : List WatchData). watch_by orders now w ∷ xs) (watches_ticked ws)

    wishes_ticked : (ws : List (ℕ × WatchRow)) → flat_map (tick_wishes t moment missed) (map by ws) ≡ wishes_at orders (rows_of ws) before e
    wishes_ticked [] = refl
    wishes_ticked (w ∷ ws) =
        ap (λ (xs : List QueuePut). xs ++ flat_map (tick_wishes t moment missed) (map by ws)) (sym (wished_turn orders w before e t moment tick))
        ∙ ap (λ (xs : List QueuePut). flat_map (wish_in w.1) (watch_notes_at orders w.1 before e) ++ xs) (wishes_ticked ws)

-- ---- one watch alone has a timer

module _ (found : Option SubId → Bool) where
  counted_step : (c m : Bool) (x w : WatchData) (sub : SubId) (first : Option SubId) (ticks counts same : List WatchData) → found (Some sub) ≡ m
      → (c ≡ true → (ticks ≡ same) × (counts ≡ same)) → (c ≡ false → ticks ≡ (if found first then counts else same))
      → (if c then (if m then x else w) else w) ∷ ticks ≡ (if found (if c then Some sub else first) then (if c then x else w) ∷ counts else w ∷ same)
  counted_step true true x w sub first ticks counts same is alone others =
      ap (λ (ws : List WatchData). x ∷ ws) ((alone refl).0 ∙ sym (alone refl).1) ∙ sym (ap (λ (b : Bool). if b then x ∷ counts else w ∷ same) is)
  counted_step true false x w sub first ticks counts same is alone others =
      ap (λ (ws : List WatchData). w ∷ ws) (alone refl).0 ∙ sym (ap (λ (b : Bool). if b then x ∷ counts else w ∷ same) is)
  counted_step false m x w sub first ticks counts same is alone others =
      ap (λ (ws : List WatchData). w ∷ ws) (others refl) ∙ either (found first)
    where
      either : (b : Bool) → w ∷ (if b then counts else same) ≡ (if b then w ∷ counts else w ∷ same)
      either true = refl
      either false = refl

  wished_step : (c m : Bool) (x : List QueuePut) (sub : SubId) (first : Option SubId) (ticks counts : List QueuePut) → found (Some sub) ≡ m
      → (c ≡ true → (ticks ≡ []) × (counts ≡ [])) → (c ≡ false → ticks ≡ (if found first then counts else []))
      → (if c then (if m then x else []) else []) ++ ticks ≡ (if found (if c then Some sub else first) then (if c then x else []) ++ counts else [])
  wished_step true true x sub first ticks counts is alone others =
      ap (λ (ps : List QueuePut). x ++ ps) ((alone refl).0 ∙ sym (alone refl).1) ∙ sym (ap (λ (b : Bool). if b then x ++ counts else []) is)
  wished_step true false x sub first ticks counts is alone others = (alone refl).0 ∙ sym (ap (λ (b : Bool). if b then x ++ counts else []) is)
  wished_step false m x sub first ticks counts is alone others = others refl

module _ (orders : ObjectId → ℕ → List Order) (before : List (ℕ × QueueNote)) (t : TimerId) (moment : ℕ) where
  abbrev row_by : ℕ × WatchRow → WatchData
  row_by w = watch_by orders before w

  abbrev IsOther : ℕ × WatchRow → ℕ × WatchRow → Type 0
  IsOther w v = ((v.0 == w.0) ≡ false) × (same_sub v.1.sub w.1.sub ≡ false) × (same_timer v.1.timer w.1.timer ≡ false)

  other_timer : (w v : ℕ × WatchRow) → same_timer w.1.timer t ≡ true → IsOther w v → same_timer v.1.timer t ≡ false
  other_timer w v here apart = ap (same_timer v.1.timer) (sym ((same_timer-Decides w.1.timer t).0 here)) ∙ apart.2

  unmoved : (missed : SubId → Bool) (w : ℕ × WatchRow) (ws : List (ℕ × WatchRow)) → same_timer w.1.timer t ≡ true → AllByRecursion (IsOther w) ws → map (ticked t moment missed) (map row_by ws) ≡ map row_by ws
  unmoved missed w [] here apart = refl
  unmoved missed w (v ∷ ws) here apart =
      ap (λ (b : Bool). (if b then (if missed v.1.sub then record (row_by v) { notes = (row_by v).notes ++ next_notes (row_by v) moment } else row_by v) else row_by v) ∷ map (ticked t moment missed) (map row_by ws)) (other_timer w v here apart.0)
      ∙ ap (λ (xs : List WatchData). row_by v ∷ xs) (unmoved missed w ws here apart.1)

  unwished : (missed : SubId → Bool) (w : ℕ × WatchRow) (ws : List (ℕ × WatchRow)) → same_timer w.1.timer t ≡ true → AllByRecursion (IsOther w) ws → flat_map (tick_wishes t moment missed) (map row_by ws) ≡ []
  unwished missed w [] here apart = refl
  unwished missed w (v ∷ ws) here apart =
      ap (λ (b : Bool). (if b then (if missed v.1.sub then flat_map (wish_in v.1) (next_notes (row_by v) moment) else []) else []) ++ flat_map (tick_wishes t moment missed) (map row_by ws)) (other_timer w v here apart.0)
      ∙ unwished missed w ws here apart.1

  module _ (missed : SubId → Bool) (found : Option SubId → Bool) (none : found None ≡ false) (some : (s : SubId) → found (Some s) ≡ missed s) where
    tick_counted : (ws : List (ℕ × WatchRow)) → AreApart ws
        → map (ticked t moment missed) (map row_by ws) ≡ (if found (first_sub t (map row_by ws)) then map (counted_at t moment) (map row_by ws) else map row_by ws)
    tick_counted [] apart = sym (ap (λ (b : Bool). if b then [] else []) none)
    tick_counted (w ∷ ws) apart =
        counted_step found (same_timer w.1.timer t) (missed w.1.sub) (record (row_by w) { notes = (row_by w).notes ++ next_notes (row_by w) moment }) (row_by w) w.1.sub (first_sub t (map row_by ws))
        (map (ticked t moment missed) (map row_by ws)) (map (counted_at t moment) (map row_by ws)) (map row_by ws) (some w.1.sub)
        (λ here. (unmoved missed w ws here apart.0, unmoved (λ s. true) w ws here apart.0)) (λ other. tick_counted ws apart.1)

    tick_wished : (ws : List (ℕ × WatchRow)) → AreApart ws
        → flat_map (tick_wishes t moment missed) (map row_by ws) ≡ (if found (first_sub t (map row_by ws)) then flat_map (count_wishes t moment) (map row_by ws) else [])
    tick_wished [] apart = sym (ap (λ (b : Bool). if b then [] else []) none)
    tick_wished (w ∷ ws) apart =
        wished_step found (same_timer w.1.timer t) (missed w.1.sub) (flat_map (wish_in w.1) (next_notes (row_by w) moment)) w.1.sub (first_sub t (map row_by ws))
        (flat_map (tick_wishes t moment missed) (map row_by ws)) (flat_map (count_wishes t moment) (map row_by ws)) (some w.1.sub)
        (λ here. (unwished missed w ws here apart.0, unwished (λ s. true) w ws here apart.0)) (λ other. tick_wished ws apart.1)

-- ---- callbacks by the objects that were seen

calls_noted : (cs : List (Callback × List Order)) → map (λ (n : CallNote). n.call) (map noted cs) ≡ map (λ (c : Callback × List Order). c.0) cs
calls_noted [] = refl
calls_noted (c ∷ cs) = ap (λ (xs : List Callback). c.0 ∷ xs) (calls_noted cs)

module _ (orders : ObjectId → ℕ → List Order) (before : List (ℕ × QueueNote)) (e : ℕ × QueueNote) (s t : SeenObjects)
    (first : AreSeen before (deeds orders before) s) (last : AreSeen (before ++ e ∷ []) (deeds orders (before ++ e ∷ [])) t) where
  abbrev done : List Deed
  done = deeds_at orders before e

  old_calls : (x : ObjectId) → (seen_in s x).calls ≡ map noted (calls_of x (deeds orders before))
  old_calls x = ap (λ (r : SeenData). r.calls) (first.each x)

  new_calls : (x : ObjectId) → (seen_in t x).calls ≡ map noted (calls_of x (deeds orders before)) ++ map noted (calls_of x done)
  new_calls x =
      ap (λ (r : SeenData). r.calls) (last.each x)
      ∙ ap (λ (ds : List Deed). map noted (calls_of x ds)) (deeds_more orders before e)
      ∙ ap (map noted) (flat_map-append (calls_in x) (deeds orders before) done)
      ∙ map-append noted (calls_of x (deeds orders before)) (calls_of x done)

  -- what was called back since
  since : (x : ObjectId) (count : ℕ) → count ≡ length (seen_in s x).calls
      → map (λ (n : CallNote). n.call) (drop count (seen_in t x).calls) ≡ map (λ (c : Callback × List Order). c.0) (calls_of x done)
  since x count is =
      let old : List CallNote = map noted (calls_of x (deeds orders before)) in
      let new : List CallNote = map noted (calls_of x done) in
      ap (λ (k : ℕ). map (λ (n : CallNote). n.call) (drop k (seen_in t x).calls)) (is ∙ ap length (old_calls x))
      ∙ ap (λ (ns : List CallNote). map (λ (n : CallNote). n.call) (drop (length old) ns)) (new_calls x)
      ∙ ap (map (λ (n : CallNote). n.call)) (drop-append_seam old new)
      ∙ calls_noted (calls_of x done)

  -- how many callbacks there are more
  count_since : (x : ObjectId) → length (seen_in t x).calls ≡ length (seen_in s x).calls + length (calls_of x done)
  count_since x =
      let old : List CallNote = map noted (calls_of x (deeds orders before)) in
      ap length (new_calls x) ∙ length-append old (map noted (calls_of x done))
      ∙ ap (λ (k : ℕ). length old + k) (length-map (calls_of x done) noted)
      ∙ ap (λ (ns : List CallNote). length ns + length (calls_of x done)) (sym (old_calls x))

  missed_same : (u : SubId) → is_missed_row (seen_in t (Sub u)) ≡ is_missed u (before ++ e ∷ []) (deeds orders (before ++ e ∷ []))
  missed_same u = ap is_missed_row (last.each (Sub u))

  -- ---- an entry that was followed

  -- the groups heard, the watches noted and wished as the rules say
  pub record AreFollowed (groups : List (ℕ × GroupRow)) (watches : List (ℕ × WatchRow)) (heard : List GroupData) (noted_so : List WatchData) (wish : List QueuePut) : Type 0 where
    pub heard_all : AreGroups (λ (row : ℕ × GroupRow). group_notes orders row.1.members (before ++ e ∷ [])) groups heard
    pub noted_all : noted_so ≡ map (watch_by orders (before ++ e ∷ [])) watches
    pub wished_all : wish ≡ wishes_at orders (map (λ (w : ℕ × WatchRow). w.1) watches) before e

  module _ (groups : List (ℕ × GroupRow)) (watches : List (ℕ × WatchRow)) (apart : AreApart watches) (old heard : List GroupData) (kept noted_so : List WatchData) (wish : List QueuePut)
      (are : AreGroups (λ (row : ℕ × GroupRow). group_notes orders row.1.members before) groups old) (noted_before : kept ≡ map (watch_by orders before) watches) where
    without_tick : IsNoTick done → noted_so ≡ kept → wish ≡ [] → AreGroups (λ (row : ℕ × GroupRow). group_notes orders row.1.members (before ++ e ∷ [])) groups heard
        → AreFollowed groups watches heard noted_so wish
    without_tick quiet same no_wish told = record {
      heard_all = told;
      noted_all = same ∙ noted_before ∙ watches_quiet orders before e quiet watches;
      wished_all = no_wish ∙ wishes_quiet orders before e quiet watches;
    }

    all_silent : ((u : SubId) → calls_of (Sub u) done ≡ []) → heard ≡ old → AreGroups (λ (row : ℕ × GroupRow). group_notes orders row.1.members (before ++ e ∷ [])) groups heard
    all_silent none same =
        subst (AreGroups (λ (row : ℕ × GroupRow). group_notes orders row.1.members (before ++ e ∷ [])) groups) (sym same) (groups_silent orders before e none groups old are)

    at_tick : (timer : TimerId) (moment : ℕ) (count : ℕ) → about_note e.1 ≡ about.Tick timer moment → count ≡ length (seen_in s (Timer timer)).calls
        → Follows (about.Tick timer moment) count t old heard kept noted_so wish → AreFollowed groups watches heard noted_so wish
    at_tick timer moment count is counted follows = by_case (is_muted (Timer timer) (deeds orders before)) refl
      where
        os : List Order
        os = orders (Timer timer) (length (calls_of (Timer timer) (deeds orders before)) + 1)

        tick_not_sub : (u : SubId) → about_note e.1 ≡ about.Sub u → ⊥
        tick_not_sub u sub = let bad : about.Tick timer moment ≡ about.Sub u = sym is ∙ sub in cc

        told : AreGroups (λ (row : ℕ × GroupRow). group_notes orders row.1.members (before ++ e ∷ [])) groups heard
        told = all_silent (silent orders before (deeds orders before) e.1 (λ u sub. absurd (tick_not_sub u sub))) follows.0

        made_so : (b : Bool) → is_muted (Timer timer) (deeds orders before) ≡ b → done ≡ (if b then [] else called (Timer timer) (on.Tick moment) os ∷ [])
        made_so true muted = tick_made orders before (deeds orders before) e.1 timer moment is ∙ ap (λ (b : Bool). if b && true then [] else called (Timer timer) (on.Tick moment) os ∷ []) muted
        made_so false muted = tick_made orders before (deeds orders before) e.1 timer moment is ∙ ap (λ (b : Bool). if b && true then [] else called (Timer timer) (on.Tick moment) os ∷ []) muted

        more : (k : ℕ) → length (calls_of (Timer timer) done) ≡ k → length (seen_in t (Timer timer)).calls ≡ count + k
        more k one = count_since (Timer timer) ∙ ap (λ (n : ℕ). n + length (calls_of (Timer timer) done)) (sym counted) ∙ ap (λ (n : ℕ). count + n) one

        by_case : (b : Bool) → is_muted (Timer timer) (deeds orders before) ≡ b → AreFollowed groups watches heard noted_so wish
        by_case true muted =
            let nothing : done ≡ [] = made_so true muted in
            let calls : length (seen_in t (Timer timer)).calls ≡ count + 0 = more 0 (ap (λ (ds : List Deed). length (calls_of (Timer timer) ds)) nothing) in
            let off : nat_lt count (length (seen_in t (Timer timer)).calls) ≡ false = le-ltb count (length (seen_in t (Timer timer)).calls) (omega (arith, calls)) in
            without_tick (λ u. ap (flat_map (rules.ticked u)) nothing)
            (follows.1 ∙ ap (λ (b : Bool). if b then watches_counted timer moment t kept else kept) off)
            (follows.2 ∙ ap (λ (b : Bool). if b then wishes_counted timer moment t kept else []) off)
            told
        by_case false unmuted =
            let one : done ≡ called (Timer timer) (on.Tick moment) os ∷ [] = made_so false unmuted in
            let own : length (calls_of (Timer timer) done) ≡ 1 =
            ap (λ (ds : List Deed). length (calls_of (Timer timer) ds)) one
            ∙ ap (λ (b : Bool). length {A = Callback × List Order} ((if b then (on.Tick moment, os) ∷ [] else []) ++ [])) (same_object-refl (Timer timer)) in
            let calls : length (seen_in t (Timer timer)).calls ≡ count + 1 = more 1 own in
            let ahead : nat_lt count (length (seen_in t (Timer timer)).calls) ≡ true = lt-ltb count (length (seen_in t (Timer timer)).calls) (omega (arith, calls)) in
            let tick : IsTick timer moment done = λ u. ap (flat_map (rules.ticked u)) one ∙ append-nil (rules.ticked u (called (Timer timer) (on.Tick moment) os)) in
            let missed : SubId → Bool = λ u. is_missed u (before ++ e ∷ []) (deeds orders (before ++ e ∷ [])) in
            record {
              heard_all = told;
              noted_all = follows.1 ∙ ap (λ (b : Bool). if b then watches_counted timer moment t kept else kept) ahead
                  ∙ ap (watches_counted timer moment t) noted_before
                  ∙ sym (tick_counted orders before timer moment missed (is_missed_in t) refl missed_same watches apart)
                  ∙ watches_ticked orders before e timer moment tick watches;
              wished_all = follows.2 ∙ ap (λ (b : Bool). if b then wishes_counted timer moment t kept else []) ahead
                  ∙ ap (wishes_counted timer moment t) noted_before
                  ∙ sym (tick_wished orders before timer moment missed (is_missed_in t) refl missed_same watches apart)
                  ∙ wishes_ticked orders before e timer moment tick watches;
            }

    by_about : (what : About) (count : ℕ) → about_note e.1 ≡ what → count ≡ calls_before what s → Follows what count t old heard kept noted_so wish → AreFollowed groups watches heard noted_so wish
    by_about (about.Sub sub) count is counted follows =
        without_tick (no_tick orders before (deeds orders before) e.1 (λ timer moment tick. let bad : about.Sub sub ≡ about.Tick timer moment = sym is ∙ tick in absurd cc))
        follows.1 follows.2
        (groups_heard orders before e sub (map (λ (n : CallNote). n.call) (drop count (seen_in t (Sub sub)).calls)) (only orders before (deeds orders before) e.1 sub is) (since (Sub sub) count counted) groups old heard are follows.0)
    by_about (about.Tick timer moment) count is counted follows = at_tick timer moment count is counted follows
    by_about about.Other count is counted follows =
        without_tick (no_tick orders before (deeds orders before) e.1 (λ timer moment tick. let bad : about.Other ≡ about.Tick timer moment = sym is ∙ tick in absurd cc))
        follows.1 follows.2
        (all_silent (silent orders before (deeds orders before) e.1 (λ u sub. let bad : about.Other ≡ about.Sub u = sym is ∙ sub in absurd cc)) follows.0)

    pub followed : (count : ℕ) → count ≡ calls_before (about_note e.1) s → Follows (about_note e.1) count t old heard kept noted_so wish → AreFollowed groups watches heard noted_so wish
    followed count counted follows = by_about (about_note e.1) count refl counted follows
