-- How far a journal was served again.
use Rattle.std.specs.Prelude.{Bool, true, false, slice_index_or, if◌then◌else◌}
use Rattle.std.proofs.Common.{◌≡◌, ℕ, zero, suc, map, ◌+◌, ◌<◌, ◌≤◌, List, [], ◌∷◌, ◌++◌, length, take, get_or, refl, ap, sym, subst, ◌∙◌, arith}
use Rattle.std.specs.Global.{Vec}
use Rattle.std.specs.List.{flat_map}
use Rattle.std.proofs.lemmas.List.{take_more, length-take-le, take_all, map-append}
use Rattle.std.proofs.lemmas.List.Elements.{All-nil, All-push}
use Rattle.mama_journal.specs.Journal.{count_of}
use Rattle.mama_check_order.proofs.Numbered.{parted_push}
use Rattle.mama_check_order.specs.Numbered.{from_entry}
use Rattle.mama_event.specs.declared.ids.ObjectId.{ObjectId}
use Rattle.mama_event.specs.declared.ids.ObjectId.TheVariants.{Sub, Timer, Inbox}
use Rattle.mama_event.specs.declared.order.Order.{Order}
use Rattle.mama_event.specs.declared.to_bridge.BridgeNote.{BridgeNote}
use Rattle.mama_event.specs.declared.to_timers.TimersNote.{TimersNote}
use Rattle.mama_event.specs.declared.to_queue.QueueNote.{QueueNote}
use Rattle.mama_rules_queue.specs.Queue.{Deed, QueuePut, queue_puts_at, deeds, served, puts_of, bye_put, is_fin}
use Rattle.mama_rules_queue.specs.Group.{group_notes}
use Rattle.mama_rules_queue.specs.Watch.{watch_notes, wishes_at, watched_puts_at}
use Rattle.mama_event.specs.declared.group.GroupRow.{GroupRow}
use Rattle.mama_event.specs.declared.group.GroupNote.{GroupNote}
use Rattle.mama_event.specs.declared.watch.WatchRow.{WatchRow}
use Rattle.mama_event.specs.declared.watch.WatchNote.{WatchNote}
use Rattle.mama_record.specs.RunData.{GroupNotes, WatchNotes}
use Rattle.mama_group.specs.declared.silent.SilentGroup.{SilentGroup}
use Rattle.mama_group.specs.Table.{GroupData}
use Rattle.mama_timeout.specs.Table.{WatchData, AreApart, new_watch, watch_by}
use Rattle.mama_rules_rounds.specs.Client.{Planned, bridge_part, timers_part}
use Rattle.mama_dispatch.proofs.JournalLaws.{deeds_more}
use Rattle.mama_plans.specs.Orders.{orders_in}
use Rattle.mama_check_queue.specs.Seen.{seen_of, unseen}
use Rattle.mama_check_queue.specs.Puts.{PutData, put_all}
use Rattle.mama_check_queue.specs.Rows.{SeenObjects, AreSeen}
use Rattle.mama_check_queue.specs.Replay.{Serves}
use Rattle.mama_check_queue.specs.Served.{ServedData, rows_in, bridge_puts, timers_puts, group_given, watch_given}
use Rattle.mama_check_queue.specs.Listed.{AreListed, AreAllListed}
use Rattle.mama_check_queue.specs.Lists.{about_note, calls_before, Follows, AreGroups, group_list, watch_list}
use Rattle.mama_check_queue.specs.Kept.{IsKept}
use Rattle.mama_check_queue.specs.Recorded.{journals_of, AreOf}
use Rattle.mama_check_queue.proofs.PutLemmas.{put_more}
use Rattle.mama_check_queue.proofs.FollowLemmas.{followed}

-- the objects are those that the journal and its deeds tell, and what was put is kept by its way
pub record ArePut (s : ServedData) (rows : SeenObjects) (puts : PutData) : Type 0 where
  pub seen : AreSeen s.journal (deeds (orders_in s.objects) s.journal) rows
  pub bridge : puts.bridge ≡ bridge_puts s
  pub timers : puts.timers ≡ timers_puts s

-- the entries of a queue were served, and its groups and watches followed them
pub record AreServedBy (s : ServedData) (fins : ℕ) (seen : SeenObjects) (puts : PutData) (heard : List GroupData) (noted : List WatchData) : Type 0 where
  pub count : fins ≡ count_of is_fin s.journal
  pub kept : ArePut s seen puts
  pub groups : AreGroups (λ (row : ℕ × GroupRow). group_notes (orders_in s.objects) row.1.members s.journal) s.groups heard
  pub watches : noted ≡ map (watch_by (orders_in s.objects) s.journal) s.watches

abbrev pub queue_of : List Planned → List (ℕ × GroupRow) → List (ℕ × WatchRow) → List (ℕ × QueueNote) → ServedData
queue_of objects groups watches journal = record { objects = objects; groups = groups; watches = watches; journal = journal }

-- so many entries were served
abbrev pub AreServed : ServedData → ℕ → ℕ → SeenObjects → PutData → List GroupData → List WatchData → Type 0
AreServed s count fins seen puts heard noted = AreServedBy (queue_of s.objects s.groups s.watches (take count s.journal)) fins seen puts heard noted

one_more : {X : Type 0} (xs : List X) (i : ℕ) (x : X) → i < length xs → x ≡ get_or xs i x → take (i + 1) xs ≡ take i xs ++ x ∷ []
one_more xs i x within is = take_more xs i x within ∙ ap (λ (y : _). take i xs ++ y ∷ []) (sym is)

take_none : {X : Type 0} (xs : List X) → take 0 xs ≡ []
take_none [] = refl
take_none (x ∷ xs) = refl

nothing_seen : (x : ObjectId) → unseen ≡ seen_of x [] []
nothing_seen (Sub s) = refl
nothing_seen (Timer t) = refl
nothing_seen (Inbox i) = refl

-- nothing was served yet
pub served_none : (s : ServedData) (seen : SeenObjects) (puts : PutData) (heard : List GroupData) (noted : List WatchData) → seen ≡ record { ids = []; rows = [] } → puts ≡ record { bridge = []; timers = [] }
    → AreGroups (λ (row : ℕ × GroupRow). []) s.groups heard → noted ≡ map new_watch s.watches → AreServed s 0 0 seen puts heard noted
served_none s seen puts heard noted no_objects no_puts groups watches =
    subst (λ (js : List (ℕ × QueueNote)). AreServedBy (queue_of s.objects s.groups s.watches js) 0 seen puts heard noted) (sym (take_none s.journal)) (record {
      count = refl;
      kept = record {
        seen = subst (AreSeen [] []) (sym no_objects) (record { each = nothing_seen });
        bridge = ap (λ (p : PutData). p.bridge) no_puts;
        timers = ap (λ (p : PutData). p.timers) no_puts;
      };
      groups = groups;
      watches = watches;
    })

count_more : (es : List (ℕ × QueueNote)) (e : ℕ × QueueNote) → count_of is_fin (es ++ e ∷ []) ≡ (if is_fin e then suc (count_of is_fin es) else count_of is_fin es)
count_more [] e = refl
count_more (f ∷ es) e = ap (λ (n : ℕ). if is_fin f then suc n else n) (count_more es e) ∙ swap (is_fin f) (is_fin e) (count_of is_fin es)
  where
    swap : (a b : Bool) (n : ℕ) → (if a then suc (if b then suc n else n) else (if b then suc n else n)) ≡ (if b then suc (if a then suc n else n) else (if a then suc n else n))
    swap true true n = refl
    swap true false n = refl
    swap false true n = refl
    swap false false n = refl

-- an entry more
pub served_more : (s : ServedData) (apart : AreApart s.watches) (i fins later : ℕ) (e : ℕ × QueueNote) (seen after : SeenObjects) (puts made ended all : PutData)
    (heard told : List GroupData) (noted marked : List WatchData) (calls : ℕ) (wish : List QueuePut)
    → i < length s.journal → e ≡ get_or s.journal i e → AreServed s i fins seen puts heard noted → Serves (orders_in s.objects) e.1 i seen after puts made
    → ((port : ℕ) (before : List (ℕ × QueueNote)) → fins ≡ count_of is_fin before → ended ≡ put_all i (bye_put before (port, e.1)) made)
    → calls ≡ calls_before (about_note e.1) seen → Follows (about_note e.1) calls after heard told noted marked wish → all ≡ put_all i wish ended
    → ((port : ℕ) → later ≡ (if is_fin (port, e.1) then suc fins else fins))
    → AreServed s (i + 1) later after all told marked
served_more s apart i fins later e seen after puts made ended all heard told noted marked calls wish within is so_far serves ends counted follows wished fins_counted =
    let orders : ObjectId → ℕ → List Order = orders_in s.objects in
    let serving : List (ℕ × QueueNote) → ℕ × QueueNote → List QueuePut = queue_puts_at orders in
    let at : List (ℕ × QueueNote) → ℕ × QueueNote → List QueuePut = watched_puts_at orders (rows_in s) in
    let taken : List (ℕ × QueueNote) = take i s.journal in
    let ds : List Deed = deeds orders taken in
    let count : length taken ≡ i = length-take-le i s.journal (omega arith) in
    let goes = serves.goes e.0 taken ds so_far.kept.seen in
    let seen_now : AreSeen (taken ++ e ∷ []) (deeds orders (taken ++ e ∷ [])) after =
    subst (λ (es : List Deed). AreSeen (taken ++ e ∷ []) es after) (sym (deeds_more orders taken e)) goes.told in
    let next = followed orders taken e seen after so_far.kept.seen seen_now s.groups s.watches apart heard told noted marked wish so_far.groups so_far.watches calls counted follows in
    let served_put : ended ≡ put_all i (serving taken e) puts = ends e.0 taken so_far.count ∙ ap (put_all i (bye_put taken e)) goes.puts ∙ sym (put_more i (flat_map puts_of (served orders taken ds e.1)) (bye_put taken e) puts) in
    let put : all ≡ put_all i (at taken e) puts =
    wished ∙ ap (λ (ps : List QueuePut). put_all i ps ended) next.wished_all ∙ ap (put_all i (wishes_at orders (rows_in s) taken e)) served_put
    ∙ sym (put_more i (serving taken e) (wishes_at orders (rows_in s) taken e) puts) in
    subst (λ (js : List (ℕ × QueueNote)). AreServedBy (queue_of s.objects s.groups s.watches js) later after all told marked) (sym (one_more s.journal i e within is)) (record {
      count = fins_counted e.0 ∙ ap (λ (n : ℕ). if is_fin e then suc n else n) so_far.count ∙ sym (count_more taken e);
      kept = record {
        seen = seen_now;
        bridge = ap (λ (p : PutData). p.bridge) put
            ∙ ap (λ (bs : List (ℕ × BridgeNote)). bs ++ from_entry i (flat_map bridge_part (at taken e))) so_far.kept.bridge
            ∙ ap (λ (n : ℕ). bridge_puts (queue_of s.objects s.groups s.watches taken) ++ from_entry n (flat_map bridge_part (at taken e))) (sym count)
            ∙ sym (parted_push bridge_part at taken e);
        timers = ap (λ (p : PutData). p.timers) put
            ∙ ap (λ (ts : List (ℕ × TimersNote)). ts ++ from_entry i (flat_map timers_part (at taken e))) so_far.kept.timers
            ∙ ap (λ (n : ℕ). timers_puts (queue_of s.objects s.groups s.watches taken) ++ from_entry n (flat_map timers_part (at taken e))) (sym count)
            ∙ sym (parted_push timers_part at taken e);
      };
      groups = next.heard_all;
      watches = next.noted_all;
    })

-- all was served
pub served_all : (s : ServedData) (count fins : ℕ) (seen : SeenObjects) (puts : PutData) (heard : List GroupData) (noted : List WatchData) → length s.journal ≤ count
    → AreServed s count fins seen puts heard noted → AreServedBy s fins seen puts heard noted
served_all s count fins seen puts heard noted all so_far =
    subst (λ (js : List (ℕ × QueueNote)). AreServedBy (queue_of s.objects s.groups s.watches js) fins seen puts heard noted) (take_all count s.journal all) so_far

lists_heard : (notes : ℕ × GroupRow → List GroupNote) (rows : List (ℕ × GroupRow)) (gs : List GroupData) → AreGroups notes rows gs
    → map group_list gs ≡ map (λ (row : ℕ × GroupRow). record { group = row.0; notes = notes row }) rows
lists_heard notes [] [] are = refl
lists_heard notes [] (g ∷ gs) are = absurd are
lists_heard notes (row ∷ rows) [] are = absurd are
lists_heard notes (row ∷ rows) (g ∷ gs) are =
    ap (λ (n : ℕ). record { group = n; notes = g.notes } ∷ map group_list gs) are.0.number
    ∙ ap (λ (ns : List GroupNote). record { group = row.0; notes = ns } ∷ map group_list gs) are.0.notes
    ∙ ap (λ (ls : List GroupNotes). record { group = row.0; notes = notes row } ∷ ls) (lists_heard notes rows gs are.1)

lists_noted : (orders : ObjectId → ℕ → List Order) (journal : List (ℕ × QueueNote)) (ws : List (ℕ × WatchRow))
    → map watch_list (map (watch_by orders journal) ws) ≡ map (λ (w : ℕ × WatchRow). record { watch = w.0; notes = watch_notes orders w.1 journal }) ws
lists_noted orders journal [] = refl
lists_noted orders journal (w ∷ ws) = ap (λ (ls : List WatchNotes). record { watch = w.0; notes = watch_notes orders w.1 journal } ∷ ls) (lists_noted orders journal ws)

-- so the queue is kept
pub served_kept : (s : ServedData) (count fins : ℕ) (seen : SeenObjects) (puts : PutData) (heard : List GroupData) (noted : List WatchData)
    (told : List (ℕ × Vec GroupNote × SilentGroup)) (marked : List (ℕ × Vec WatchNote)) → length s.journal ≤ count → AreServed s count fins seen puts heard noted
    → map group_given told ≡ map group_list heard → map watch_given marked ≡ map watch_list noted → IsKept s seen puts told marked
served_kept s count fins seen puts heard noted told marked all so_far groups watches =
    let whole = served_all s count fins seen puts heard noted all so_far in
    record {
      seen = whole.kept.seen;
      bridge = whole.kept.bridge;
      timers = whole.kept.timers;
      heard = groups ∙ lists_heard (λ (row : ℕ × GroupRow). group_notes (orders_in s.objects) row.1.members s.journal) s.groups heard whole.groups;
      noted = watches ∙ ap (map watch_list) whole.watches ∙ lists_noted (orders_in s.objects) s.journal s.watches;
    }

count_within : (es : List (ℕ × QueueNote)) → count_of is_fin es ≤ length es
count_within [] = omega arith
count_within (e ∷ es) = either (is_fin e) (count_within es)
  where
    either : (b : Bool) → count_of is_fin es ≤ length es → (if b then suc (count_of is_fin es) else count_of is_fin es) ≤ suc (length es)
    either true h = omega (arith, h)
    either false h = omega (arith, h)

-- there were no more Fins than entries
pub fins_within : (s : ServedData) (i fins : ℕ) (seen : SeenObjects) (puts : PutData) (heard : List GroupData) (noted : List WatchData) → i < length s.journal → AreServed s i fins seen puts heard noted → fins ≤ i
fins_within s i fins seen puts heard noted within so_far =
    omega (arith, so_far.count, count_within (take i s.journal), length-take-le i s.journal (omega arith))

-- ---- all queues

-- the queues with these journals, groups and watches were served
pub record AreAllServed (objects : List Planned) (journals : List (List (ℕ × QueueNote))) (groups : List (List (ℕ × GroupRow))) (watches : List (List (ℕ × WatchRow))) (served : List ServedData) : Type 0 where
  pub each : journals_of served ≡ journals
  pub own : AreOf objects served
  pub of_groups : map (λ (s : ServedData). s.groups) served ≡ groups
  pub of_watches : map (λ (s : ServedData). s.watches) served ≡ watches

abbrev pub items_of : {X : Type 0} → List (Vec X) → List (List X)
items_of lists = map (λ list. list.items) lists

-- so many of them
abbrev pub AreFirstServed : List Planned → List (Vec (ℕ × QueueNote)) → List (Vec (ℕ × GroupRow)) → List (Vec (ℕ × WatchRow)) → ℕ → List ServedData → Type 0
AreFirstServed objects journals groups watches i served = AreAllServed objects (items_of (take i journals)) (items_of (take i groups)) (items_of (take i watches)) served

pub all_none : (objects : List Planned) (journals : List (Vec (ℕ × QueueNote))) (groups : List (Vec (ℕ × GroupRow))) (watches : List (Vec (ℕ × WatchRow))) (served : List ServedData) → served ≡ []
    → AreFirstServed objects journals groups watches 0 served
all_none objects journals groups watches served none =
    subst (AreAllServed objects (items_of (take 0 journals)) (items_of (take 0 groups)) (items_of (take 0 watches))) (sym none) (record {
      each = sym (ap items_of (take_none journals));
      own = All-nil (λ (s : ServedData). s.objects ≡ objects);
      of_groups = sym (ap items_of (take_none groups));
      of_watches = sym (ap items_of (take_none watches));
    })

more_of : {X : Type 0} (part : ServedData → List X) (lists : List (Vec X)) (i : ℕ) (x : Vec X) (served : List ServedData) (s : ServedData) → i < length lists → x ≡ get_or lists i x
    → map part served ≡ items_of (take i lists) → part s ≡ x.items → map part (served ++ s ∷ []) ≡ items_of (take (i + 1) lists)
more_of {X} part lists i x served s within here so_far is =
    map-append part served (s ∷ [])
    ∙ ap (λ (ls : List (List X)). ls ++ part s ∷ []) so_far
    ∙ ap (λ (l : List X). items_of (take i lists) ++ l ∷ []) is
    ∙ sym (ap items_of (one_more lists i x within here) ∙ map-append (λ (v : Vec X). v.items) (take i lists) (x ∷ []))

-- one queue more
pub all_more : (objects : List Planned) (journals : List (Vec (ℕ × QueueNote))) (groups : List (Vec (ℕ × GroupRow))) (watches : List (Vec (ℕ × WatchRow)))
    (i : ℕ) (x : Vec (ℕ × QueueNote)) (g : Vec (ℕ × GroupRow)) (w : Vec (ℕ × WatchRow)) (served more : List ServedData) (s : ServedData)
    → i < length journals → length groups ≡ length journals → length watches ≡ length journals
    → x ≡ get_or journals i x → g ≡ get_or groups i g → w ≡ get_or watches i w → AreFirstServed objects journals groups watches i served
    → s ≡ queue_of objects g.items w.items x.items → more ≡ served ++ s ∷ [] → AreFirstServed objects journals groups watches (i + 1) more
all_more objects journals groups watches i x g w served more s within as_many_groups as_many_watches here group watch so_far is grown =
    subst (AreAllServed objects (items_of (take (i + 1) journals)) (items_of (take (i + 1) groups)) (items_of (take (i + 1) watches))) (sym grown) (record {
      each = more_of (λ (t : ServedData). t.journal) journals i x served s within here so_far.each (ap (λ (t : ServedData). t.journal) is);
      own = All-push (λ (t : ServedData). t.objects ≡ objects) served s so_far.own (ap (λ (t : ServedData). t.objects) is);
      of_groups = more_of (λ (t : ServedData). t.groups) groups i g served s (omega arith) group so_far.of_groups (ap (λ (t : ServedData). t.groups) is);
      of_watches = more_of (λ (t : ServedData). t.watches) watches i w served s (omega arith) watch so_far.of_watches (ap (λ (t : ServedData). t.watches) is);
    })

-- the lists of the queue at a place
pub listed_at : (groups : List (Vec (ℕ × GroupRow))) (watches : List (Vec (ℕ × WatchRow))) (i : ℕ) (g : Vec (ℕ × GroupRow)) (w : Vec (ℕ × WatchRow)) → i < length groups → i < length watches
    → g ≡ get_or groups i g → w ≡ get_or watches i w → AreAllListed (items_of groups) (items_of watches) → AreListed g.items w.items
listed_at groups watches i g w in_groups in_watches group watch all =
    subst (λ (ws : List (ℕ × WatchRow)). AreListed g.items ws) (items_at watches i w in_watches watch)
    (subst (λ (gs : List (ℕ × GroupRow)). AreListed gs (slice_index_or (items_of watches) i [])) (items_at groups i g in_groups group) (all i))
  where
    items_at : {X : Type 0} (lists : List (Vec X)) (i : ℕ) (x : Vec X) → i < length lists → x ≡ get_or lists i x → slice_index_or (items_of lists) i [] ≡ x.items
    items_at [] i x within here = absurd (omega arith)
    items_at (l ∷ lists) zero x within here = ap (λ (v : Vec _). v.items) (sym here)
    items_at (l ∷ lists) (suc i) x within here = items_at lists i x (omega arith) here
