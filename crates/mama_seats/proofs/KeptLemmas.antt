-- What groups and watches keep, turn by turn.
use Rattle.std.specs.Prelude.{if◌then◌else◌}
use Rattle.std.specs.Global.{Vec}
use Rattle.std.specs.Option.{option_map}
use Rattle.std.proofs.Common.{◌≡◌, ℕ, ◌-◌, Bool, true, false, List, [], ◌∷◌, ◌++◌, length, map, drop, get_or, Option, None, Some, refl, sym, ap, subst, ◌∙◌, arith, append-nil}
use Rattle.std.proofs.lemmas.List.{map-append, length-append, length-map, drop_at}
use Rattle.std.proofs.lemmas.List.Concat.{flat_map-append}
use Rattle.mama_journal.specs.EntryLaws.{puts-push}
use Rattle.mama_event.specs.declared.callback.Callback.{Callback}
use Rattle.mama_event.specs.declared.callback.CallNote.{CallNote}
use Rattle.mama_event.specs.declared.group.GroupNote.{GroupNote}
use Rattle.mama_event.specs.declared.group.GroupRow.{GroupRow}
use Rattle.mama_event.specs.declared.group.GroupState.{GroupState}
use Rattle.mama_event.specs.declared.group.GroupState.TheVariants as state
use Rattle.mama_event.specs.declared.ids.SubId.{SubId}
use Rattle.mama_event.specs.declared.ids.ObjectId.{ObjectId}
use Rattle.mama_event.specs.declared.ids.ObjectId.TheVariants.{Sub}
use Rattle.mama_event.specs.declared.order.Order.{Order}
use Rattle.mama_event.specs.declared.to_queue.QueueNote.{QueueNote}
use Rattle.mama_event.specs.declared.watch.WatchRow.{WatchRow}
use Rattle.mama_event.specs.declared.watch.WatchNote.{WatchNote}
use Rattle.mama_event.specs.Listener.{ListenerData}
use Rattle.mama_rules_queue.specs.Group.{group_notes, group_notes_at, state_told}
use Rattle.mama_rules_queue.specs.GroupTurns.{state_after, turn_notes}
use Rattle.mama_rules_queue.specs.Queue.{Deed, calls_in, calls_of, deeds, deeds_at}
use Rattle.mama_rules_queue.specs.Watch.{watch_notes, wishes_at}
use Rattle.mama_dispatch.specs.Journals.{noted, notes_of}
use Rattle.mama_dispatch.specs.declared.turn.Turn.{Turn}
use Rattle.mama_dispatch.specs.Answering.{AnswersTo}
use Rattle.mama_dispatch.specs.Seats.{SeatData}
use Rattle.mama_dispatch.proofs.JournalLaws.{deeds_more}
use Rattle.mama_group.specs.Listener.{GroupListenerData}
use Rattle.mama_group.specs.declared.silent.SilentGroup.{SilentGroup}
use Rattle.mama_group.specs.Table.{GroupData, GroupPart, AllHeard, IsOnly, has_member, turn_of, new_groups, part_of, part_given}
use Rattle.mama_timeout.specs.Table.{WatchData, new_watch, watch_by}
use Rattle.mama_timeout.specs.Turns.{AreWatched, tick_in, watches_after, wishes_after, missed_by}
use Rattle.mama_seats.specs.Behind.{sub_in, called_in, untold_of}
use Rattle.mama_seats.specs.Heard.{AreKept, IsUntold, group_in, group_lists, heard_in, heard_of, watch_in, watch_lists, without_last}
use Rattle.mama_seats.proofs.UntoldLemmas.{AreCalls, IsOther, calls_counted, calls_elsewhere}

-- THE LAWS OF GROUPS, as they are cited

abbrev pub HearsMember : (ObjectId → ℕ → List Order) → Type 0
HearsMember orders =
    (members : List SubId) (before : List (ℕ × QueueNote)) (e : ℕ × QueueNote) (s : SubId) → IsOnly s (deeds_at orders before e) → has_member s members ≡ true
    → group_notes_at orders members before e ≡ turn_notes members (group_notes orders members before) s (map (λ c. c.0) (calls_of (Sub s) (deeds_at orders before e)))

abbrev pub HearsNoOther : (ObjectId → ℕ → List Order) → Type 0
HearsNoOther orders =
    (members : List SubId) (before : List (ℕ × QueueNote)) (e : ℕ × QueueNote) (s : SubId) → IsOnly s (deeds_at orders before e) → has_member s members ≡ false → group_notes_at orders members before e ≡ []

-- LISTS AND PAIRS

head_is : {A : Type 0} (x y : A) (xs ys : List A) → x ∷ xs ≡ y ∷ ys → x ≡ y
head_is {A} x y xs ys e = ap (λ (l : List A). get_or l 0 x) e

tail_is : {A : Type 0} (x y : A) (xs ys : List A) → x ∷ xs ≡ y ∷ ys → xs ≡ ys
tail_is {A} x y xs ys e = ap (λ (l : List A). drop 1 l) e

cons_is : {A : Type 0} (x y : A) (xs ys : List A) → x ≡ y → xs ≡ ys → x ∷ xs ≡ y ∷ ys
cons_is {A} x y xs ys first rest = ap (λ (z : A). z ∷ xs) first ∙ ap (λ (zs : List A). y ∷ zs) rest

-- all but the last of a journal that ends so
pub without_last_is : {A : Type 0} (xs : List A) (x : A) → without_last (xs ++ x ∷ []) ≡ xs
without_last_is [] x = refl
without_last_is (y ∷ []) x = refl
without_last_is {A} (y ∷ z ∷ xs) x = ap (λ (l : List A). y ∷ l) (without_last_is (z ∷ xs) x)

-- AN ENTRY AS A GROUP HEARS IT

told_same : (a : GroupState) → state_told a a ≡ []
told_same state.Waiting = refl
told_same state.Fresh = refl
told_same state.Stale = refl
told_same state.Ended = refl

notes_push : (orders : ObjectId → ℕ → List Order) (members : List SubId) (before : List (ℕ × QueueNote)) (e : ℕ × QueueNote)
    → group_notes orders members (before ++ e ∷ []) ≡ group_notes orders members before ++ group_notes_at orders members before e
notes_push orders members before e = puts-push (group_notes_at orders members) before e

-- what a group hears of a turn is what its rules say of the entry
turn_heard : (orders : ObjectId → ℕ → List Order) (before : List (ℕ × QueueNote)) (e : ℕ × QueueNote) (s : SubId) (members : List SubId) → HearsMember orders → HearsNoOther orders → IsOnly s (deeds_at orders before e)
    → group_notes_at orders members before e
    ≡ (if has_member s members then turn_notes members (group_notes orders members before) s (map (λ c. c.0) (calls_of (Sub s) (deeds_at orders before e))) else [])
turn_heard orders before e s members hears no_other only =
    let turn : List GroupNote = turn_notes members (group_notes orders members before) s (map (λ c. c.0) (calls_of (Sub s) (deeds_at orders before e))) in
    elim (has_member s members) as (λ b. has_member s members ≡ b → group_notes_at orders members before e ≡ (if b then turn else [])) [
      | true ↦ λ is. hears members before e s only is
      | false ↦ λ out. no_other members before e s only out
    ] refl

either_none : (b : Bool) (notes : List GroupNote) → notes ≡ [] → (if b then notes else []) ≡ []
either_none true notes none = none
either_none false notes none = refl

-- an entry that calls back no subscription tells a group nothing
nothing_heard : (orders : ObjectId → ℕ → List Order) (before : List (ℕ × QueueNote)) (e : ℕ × QueueNote) (members : List SubId) → HearsMember orders → HearsNoOther orders
    → ((t : SubId) → calls_of (Sub t) (deeds_at orders before e) ≡ []) → group_notes_at orders members before e ≡ []
nothing_heard orders before e members hears no_other silent =
    let s : SubId = record { client = 0; number = 0 } in
    let notes : List GroupNote = group_notes orders members before in
    let none : turn_notes members notes s [] ≡ [] =
    ap (λ (l : List GroupNote). state_told (state_after members notes) (state_after members l)) (append-nil notes) ∙ told_same (state_after members notes) in
    turn_heard orders before e s members hears no_other (λ t other. silent t)
    ∙ ap (λ (calls : List (Callback × List Order)). if has_member s members then turn_notes members notes s (map (λ c. c.0) calls) else []) (silent s)
    ∙ either_none (has_member s members) (turn_notes members notes s []) none

lists_silent : (orders : ObjectId → ℕ → List Order) (before : List (ℕ × QueueNote)) (e : ℕ × QueueNote) (rows : List (ℕ × GroupRow)) → HearsMember orders → HearsNoOther orders
    → ((t : SubId) → calls_of (Sub t) (deeds_at orders before e) ≡ []) → group_lists orders before rows ≡ group_lists orders (before ++ e ∷ []) rows
lists_silent orders before e [] hears no_other silent = refl
lists_silent orders before e (g ∷ rows) hears no_other silent =
    let same : group_notes orders g.1.members before ≡ group_notes orders g.1.members (before ++ e ∷ []) =
    sym (notes_push orders g.1.members before e
    ∙ ap (λ (l : List GroupNote). group_notes orders g.1.members before ++ l) (nothing_heard orders before e g.1.members hears no_other silent)
    ∙ append-nil (group_notes orders g.1.members before)) in
    cons_is (g.0, group_notes orders g.1.members before) (g.0, group_notes orders g.1.members (before ++ e ∷ [])) (group_lists orders before rows) (group_lists orders (before ++ e ∷ []) rows)
    (ap (λ (l : List GroupNote). (g.0, l)) same) (lists_silent orders before e rows hears no_other silent)

-- A TURN

untold_by : (orders : ObjectId → ℕ → List Order) (before : List (ℕ × QueueNote)) (e : ℕ × QueueNote) (count : ℕ) (found : Option SubId) → AreCalls count (deeds_at orders before e) found
    → ((t : SubId) → IsOther t found → calls_of (Sub t) (deeds_at orders before e) ≡ []) → IsUntold orders (option_map (λ (s : SubId). (s, count)) found) (before ++ e ∷ [])
untold_by orders before e count None calls silent = tt
untold_by orders before e count (Some s) calls silent = (before, e, refl, calls, silent)

heard_by : (orders : ObjectId → ℕ → List Order) (before : List (ℕ × QueueNote)) (e : ℕ × QueueNote) (count : ℕ) (found : Option SubId) (rows : List (ℕ × GroupRow)) → HearsMember orders → HearsNoOther orders
    → ((t : SubId) → IsOther t found → calls_of (Sub t) (deeds_at orders before e) ≡ [])
    → group_lists orders before rows ≡ group_lists orders (heard_of (option_map (λ (s : SubId). (s, count)) found) (before ++ e ∷ [])) rows
heard_by orders before e count None rows hears no_other silent = lists_silent orders before e rows hears no_other (λ t. silent t tt)
heard_by orders before e count (Some s) rows hears no_other silent = ap (λ (j : List (ℕ × QueueNote)). group_lists orders j rows) (sym (without_last_is before e))

-- WATCHES

abbrev noted_with : WatchData → ℕ × List WatchNote → WatchData
noted_with w p = record { number = w.number; row = w.row; notes = p.1 }

-- watches that noted what a journal says are those of the journal
pub watched_as : (orders : ObjectId → ℕ → List Order) (journal : List (ℕ × QueueNote)) (ws : List WatchData) → map (λ (w : WatchData). (w.number, w.notes)) ws ≡ watch_lists orders journal (map watch_in ws)
    → ws ≡ map (watch_by orders journal) (map watch_in ws)
watched_as orders journal [] noted = refl
watched_as orders journal (w ∷ ws) noted =
    let first = head_is (w.number, w.notes) (w.number, watch_notes orders w.row journal) (map (λ (x : WatchData). (x.number, x.notes)) ws) (watch_lists orders journal (map watch_in ws)) noted in
    let rest = tail_is (w.number, w.notes) (w.number, watch_notes orders w.row journal) (map (λ (x : WatchData). (x.number, x.notes)) ws) (watch_lists orders journal (map watch_in ws)) noted in
    cons_is w (watch_by orders journal (watch_in w)) ws (map (watch_by orders journal) (map watch_in ws))
    (ap (noted_with w) first) (watched_as orders journal ws rest)

pub rows_watched : (orders : ObjectId → ℕ → List Order) (journal : List (ℕ × QueueNote)) (rows : List (ℕ × WatchRow)) → map watch_in (map (watch_by orders journal) rows) ≡ rows
rows_watched orders journal [] = refl
rows_watched orders journal (w ∷ rows) = ap (λ (ws : List (ℕ × WatchRow)). w ∷ ws) (rows_watched orders journal rows)

lists_watched : (orders : ObjectId → ℕ → List Order) (journal : List (ℕ × QueueNote)) (rows : List (ℕ × WatchRow))
    → map (λ (w : WatchData). (w.number, w.notes)) (map (watch_by orders journal) rows) ≡ watch_lists orders journal rows
lists_watched orders journal [] = refl
lists_watched orders journal (w ∷ rows) = ap (λ (ls : List (ℕ × List WatchNote)). (w.0, watch_notes orders w.1 journal) ∷ ls) (lists_watched orders journal rows)

-- the watches behind a turn
pub watches_turned : {L : Type 0} (orders : ObjectId → ℕ → List Order) (before : List (ℕ × QueueNote)) (e : ℕ × QueueNote) (answer : Turn L) (ws vs : List WatchData)
    → map (λ (w : WatchData). (w.number, w.notes)) ws ≡ watch_lists orders before (map watch_in ws) → AreWatched orders (map watch_in ws) before e answer
    → vs ≡ watches_after (tick_in e.1) answer (missed_by orders (before ++ e ∷ [])) ws → vs ≡ map (watch_by orders (before ++ e ∷ [])) (map watch_in ws)
watches_turned orders before e answer ws vs noted watched after =
    after
    ∙ ap (watches_after (tick_in e.1) answer (missed_by orders (before ++ e ∷ []))) (watched_as orders before ws noted)
    ∙ watched.noted

-- and what they wish for
pub wishes_turned : {L : Type 0} (orders : ObjectId → ℕ → List Order) (before : List (ℕ × QueueNote)) (e : ℕ × QueueNote) (answer : Turn L) (ws : List WatchData)
    → map (λ (w : WatchData). (w.number, w.notes)) ws ≡ watch_lists orders before (map watch_in ws) → AreWatched orders (map watch_in ws) before e answer
    → wishes_after (tick_in e.1) answer (missed_by orders (before ++ e ∷ [])) ws ≡ wishes_at orders (map (λ (w : ℕ × WatchRow). w.1) (map watch_in ws)) before e
wishes_turned orders before e answer ws noted watched =
    ap (wishes_after (tick_in e.1) answer (missed_by orders (before ++ e ∷ []))) (watched_as orders before ws noted) ∙ watched.wished

-- WHAT IS KEPT

pub kept_new : (orders : ObjectId → ℕ → List Order) (groups : List (ℕ × GroupRow)) (listeners : List GroupListenerData) (rows : List (ℕ × WatchRow)) → AreKept orders [] None (new_groups groups listeners) (map new_watch rows)
kept_new orders groups listeners rows = record { last = tt; groups_heard = heard groups listeners; watches_noted = noted rows }
  where
    heard : (gs : List (ℕ × GroupRow)) (ls : List GroupListenerData)
        → map (λ (g : GroupData). (g.number, g.notes)) (new_groups gs ls) ≡ group_lists orders [] (map group_in (new_groups gs ls))
    heard [] ls = refl
    heard (g ∷ gs) [] = refl
    heard (g ∷ gs) (l ∷ ls) = ap (λ (ns : List (ℕ × List GroupNote)). (g.0, []) ∷ ns) (heard gs ls)

    noted : (ws : List (ℕ × WatchRow)) → map (λ (w : WatchData). (w.number, w.notes)) (map new_watch ws) ≡ watch_lists orders [] (map watch_in (map new_watch ws))
    noted [] = refl
    noted (w ∷ ws) = ap (λ (ns : List (ℕ × List WatchNote)). (w.0, []) ∷ ns) (noted ws)

pub groups_in_new : (groups : List (ℕ × GroupRow)) (listeners : List GroupListenerData) → length groups ≡ length listeners → map group_in (new_groups groups listeners) ≡ groups
groups_in_new [] listeners same = refl
groups_in_new (g ∷ gs) [] same = absurd (omega (arith, same))
groups_in_new (g ∷ gs) (l ∷ ls) same = ap (λ (rows : List (ℕ × GroupRow)). g ∷ rows) (groups_in_new gs ls (omega (arith, same)))

-- the same of listeners by what their type says of them
pub groups_begun : (rows : List (ℕ × GroupRow)) (view : SilentGroup → GroupListenerData) (listeners : List SilentGroup) (gs : List GroupData) → gs ≡ new_groups rows (map view listeners) → length rows ≡ length listeners
    → map group_in gs ≡ rows
groups_begun rows view listeners gs are same = ap (map group_in) are ∙ groups_in_new rows (map view listeners) (omega (arith, same, length-map listeners view))

pub kept_begun : (orders : ObjectId → ℕ → List Order) (rows : List (ℕ × GroupRow)) (listeners : List GroupListenerData) (watched : List (ℕ × WatchRow)) (gs : List GroupData) (ws : List WatchData) → gs ≡ new_groups rows listeners → ws ≡ map new_watch watched
    → AreKept orders [] None gs ws
kept_begun orders rows listeners watched gs ws groups watches =
    subst (λ (x : List GroupData). AreKept orders [] None x ws) (sym groups)
    (subst (λ (x : List WatchData). AreKept orders [] None (new_groups rows listeners) x) (sym watches) (kept_new orders rows listeners watched))

pub watches_in_new : (rows : List (ℕ × WatchRow)) → map watch_in (map new_watch rows) ≡ rows
watches_in_new [] = refl
watches_in_new (w ∷ rows) = ap (λ (ws : List (ℕ × WatchRow)). w ∷ ws) (watches_in_new rows)

-- a turn, of which the groups are told nothing yet
pub kept_turn : {L : Type 0} (view : L → ListenerData) (orders : ObjectId → ℕ → List Order) (seats : List SeatData) (before : List (ℕ × QueueNote)) (e : ℕ × QueueNote) (answer : Turn L) (untold : Option (SubId × ℕ)) (groups : List GroupData) (ws vs : List WatchData)
    → HearsMember orders → HearsNoOther orders → AnswersTo view orders seats before (deeds orders before) e.1 answer → AreKept orders before untold groups ws → heard_of untold before ≡ before
    → AreWatched orders (map watch_in ws) before e answer → vs ≡ watches_after (tick_in e.1) answer (missed_by orders (before ++ e ∷ [])) ws → AreKept orders (before ++ e ∷ []) (untold_of e.1 answer) groups vs
kept_turn {L} view orders seats before e answer untold groups ws vs hears no_other answers kept told watched after =
    let silent : (t : SubId) → IsOther t (sub_in e.1) → calls_of (Sub t) (deeds_at orders before e) ≡ [] = calls_elsewhere orders before (deeds orders before) e.1 in
    let now : List (ℕ × QueueNote) = before ++ e ∷ [] in
    let are : vs ≡ map (watch_by orders now) (map watch_in ws) = watches_turned orders before e answer ws vs kept.watches_noted watched after in
    record {
      last = untold_by orders before e (called_in answer) (sub_in e.1) (calls_counted view orders seats before (deeds orders before) e.1 answer answers) silent;
      groups_heard = kept.groups_heard ∙ ap (λ (j : List (ℕ × QueueNote)). group_lists orders j (map group_in groups)) told
          ∙ heard_by orders before e (called_in answer) (sub_in e.1) (map group_in groups) hears no_other silent;
      watches_noted = ap (map (λ (w : WatchData). (w.number, w.notes))) are
          ∙ lists_watched orders now (map watch_in ws)
          ∙ ap (watch_lists orders now) (sym (ap (map watch_in) are ∙ rows_watched orders now (map watch_in ws)));
    }

-- TELLING THE GROUPS

-- each group hears what its rules say of the last entry
told_all : (orders : ObjectId → ℕ → List Order) (before : List (ℕ × QueueNote)) (e : ℕ × QueueNote) (s : SubId) (calls : List Callback) (gs hs : List GroupData) → HearsMember orders → HearsNoOther orders → IsOnly s (deeds_at orders before e)
    → calls ≡ map (λ c. c.0) (calls_of (Sub s) (deeds_at orders before e)) → AllHeard s calls gs hs → map (λ (g : GroupData). (g.number, g.notes)) gs ≡ group_lists orders before (map group_in gs)
    → map (λ (g : GroupData). (g.number, g.notes)) hs ≡ group_lists orders (before ++ e ∷ []) (map group_in hs)
told_all orders before e s calls [] [] hears no_other only are all heard = refl
told_all orders before e s calls [] (h ∷ hs) hears no_other only are all heard = absurd all
told_all orders before e s calls (g ∷ gs) [] hears no_other only are all heard = absurd all
told_all orders before e s calls (g ∷ gs) (h ∷ hs) hears no_other only are all heard =
    let old : List GroupNote = group_notes orders g.members before in
    let first : (g.number, g.notes) ≡ (g.number, old) =
    head_is (g.number, g.notes) (g.number, old) (map (λ (x : GroupData). (x.number, x.notes)) gs) (group_lists orders before (map group_in gs)) heard in
    let rest = tail_is (g.number, g.notes) (g.number, old) (map (λ (x : GroupData). (x.number, x.notes)) gs) (group_lists orders before (map group_in gs)) heard in
    let was : g.notes ≡ old = ap (λ (p : ℕ × List GroupNote). p.1) first in
    let here : h.notes ≡ group_notes orders h.members (before ++ e ∷ []) =
    all.0.notes
    ∙ ap (λ (l : List GroupNote). l ++ turn_of s calls g) was
    ∙ ap (λ (l : List GroupNote). old ++ (if has_member s g.members then turn_notes g.members l s calls else [])) was
    ∙ ap (λ (cs : List Callback). old ++ (if has_member s g.members then turn_notes g.members old s cs else [])) are
    ∙ ap (λ (l : List GroupNote). old ++ l) (sym (turn_heard orders before e s g.members hears no_other only))
    ∙ sym (notes_push orders g.members before e)
    ∙ ap (λ (members : List SubId). group_notes orders members (before ++ e ∷ [])) (sym all.0.members) in
    cons_is (h.number, h.notes) (h.number, group_notes orders h.members (before ++ e ∷ [])) (map (λ (x : GroupData). (x.number, x.notes)) hs) (group_lists orders (before ++ e ∷ []) (map group_in hs))
    (ap (λ (l : List GroupNote). (h.number, l)) here) (told_all orders before e s calls gs hs hears no_other only are all.1 rest)

abbrev row_with : ℕ → List SubId → ℕ × GroupRow
row_with n members = (n, record { members = members })

pub groups_in_told : (s : SubId) (calls : List Callback) (gs hs : List GroupData) → AllHeard s calls gs hs → map group_in hs ≡ map group_in gs
groups_in_told s calls [] [] all = refl
groups_in_told s calls [] (h ∷ hs) all = absurd all
groups_in_told s calls (g ∷ gs) [] all = absurd all
groups_in_told s calls (g ∷ gs) (h ∷ hs) all =
    cons_is (group_in h) (group_in g) (map group_in hs) (map group_in gs)
    (ap (λ (n : ℕ). row_with n h.members) all.0.number ∙ ap (row_with g.number) all.0.members)
    (groups_in_told s calls gs hs all.1)

noted_calls : (cs : List (Callback × List Order)) → map (λ (n : CallNote). n.call) (map noted cs) ≡ map (λ c. c.0) cs
noted_calls [] = refl
noted_calls (c ∷ cs) = ap (λ (l : List Callback). c.0 ∷ l) (noted_calls cs)

-- the last notes of a subscription are of the last entry
last_calls : (orders : ObjectId → ℕ → List Order) (before : List (ℕ × QueueNote)) (e : ℕ × QueueNote) (s : SubId) (count : ℕ) → count ≡ length (calls_of (Sub s) (deeds_at orders before e))
    → map (λ (n : CallNote). n.call) (drop (length (notes_of (Sub s) (deeds orders (before ++ e ∷ []))) - count) (notes_of (Sub s) (deeds orders (before ++ e ∷ [])))) ≡ map (λ c. c.0) (calls_of (Sub s) (deeds_at orders before e))
last_calls orders before e s count counted =
    let ds : List Deed = deeds orders before in
    let es : List Deed = deeds_at orders before e in
    let xs : List CallNote = notes_of (Sub s) ds in
    let ys : List CallNote = notes_of (Sub s) es in
    let parts : notes_of (Sub s) (deeds orders (before ++ e ∷ [])) ≡ xs ++ ys =
    ap (notes_of (Sub s)) (deeds_more orders before e)
    ∙ ap (map noted) (flat_map-append (calls_in (Sub s)) ds es)
    ∙ map-append noted (calls_of (Sub s) ds) (calls_of (Sub s) es) in
    let notes_len : length ys ≡ length (calls_of (Sub s) es) = length-map (calls_of (Sub s) es) noted in
    let len : length (xs ++ ys) - count ≡ length xs = omega (arith, length-append xs ys, notes_len, counted) in
    ap (λ (l : List CallNote). map (λ (n : CallNote). n.call) (drop (length l - count) l)) parts
    ∙ ap (λ (k : ℕ). map (λ (n : CallNote). n.call) (drop k (xs ++ ys))) len
    ∙ ap (map (λ (n : CallNote). n.call)) (drop_at xs ys (length xs) refl)
    ∙ noted_calls (calls_of (Sub s) es)

-- what was left of the last turn was told
pub kept_told : (orders : ObjectId → ℕ → List Order) (journal : List (ℕ × QueueNote)) (s : SubId) (count : ℕ) (gs hs : List GroupData) (ws : List WatchData) → HearsMember orders → HearsNoOther orders → AreKept orders journal (Some (s, count)) gs ws
    → AllHeard s (map (λ (n : CallNote). n.call) (drop (length (notes_of (Sub s) (deeds orders journal)) - count) (notes_of (Sub s) (deeds orders journal)))) gs hs → AreKept orders journal None hs ws
kept_told orders journal s count gs hs ws hears no_other kept all =
    let before : List (ℕ × QueueNote) = kept.last.0 in
    let e : ℕ × QueueNote = kept.last.1 in
    let is : journal ≡ before ++ e ∷ [] = kept.last.2 in
    let calls : List (ℕ × QueueNote) → List Callback = λ j. map (λ (n : CallNote). n.call) (drop (length (notes_of (Sub s) (deeds orders j)) - count) (notes_of (Sub s) (deeds orders j))) in
    record {
      last = tt;
      groups_heard = told_all orders before e s (calls journal) gs hs hears no_other kept.last.4 (ap calls is ∙ last_calls orders before e s count kept.last.3) all
          (kept.groups_heard ∙ ap (λ (j : List (ℕ × QueueNote)). group_lists orders (without_last j) (map group_in gs)) is ∙ ap (λ (j : List (ℕ × QueueNote)). group_lists orders j (map group_in gs)) (without_last_is before e))
          ∙ ap (λ (j : List (ℕ × QueueNote)). group_lists orders j (map group_in hs)) (sym is);
      watches_noted = kept.watches_noted;
    }

-- WHAT COMES OUT

abbrev heard_pair : GroupPart → ℕ × List GroupNote
heard_pair p = (p.number, p.notes)

pairs_given : (view : SilentGroup → GroupListenerData) (ps : List (ℕ × Vec GroupNote × SilentGroup)) → map heard_pair (map (part_given view) ps) ≡ map heard_in ps
pairs_given view [] = refl
pairs_given view (p ∷ ps) = ap (λ (l : List (ℕ × List GroupNote)). heard_in p ∷ l) (pairs_given view ps)

pairs_kept : (gs : List GroupData) → map heard_pair (map part_of gs) ≡ map (λ (g : GroupData). (g.number, g.notes)) gs
pairs_kept [] = refl
pairs_kept (g ∷ gs) = ap (λ (l : List (ℕ × List GroupNote)). (g.number, g.notes) ∷ l) (pairs_kept gs)

pub parts_heard : (view : SilentGroup → GroupListenerData) (parts : List (ℕ × Vec GroupNote × SilentGroup)) (gs : List GroupData) → map (part_given view) parts ≡ map part_of gs
    → map heard_in parts ≡ map (λ (g : GroupData). (g.number, g.notes)) gs
parts_heard view parts gs same = sym (pairs_given view parts) ∙ ap (map heard_pair) same ∙ pairs_kept gs
