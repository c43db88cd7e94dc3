-- How a queue's seat keeps what it promises, at an event and when it puts.
use Rattle.std.specs.Prelude.{IfSome, OnOk, OnErr}
use mathlib.Core.List.{IsPrefix}
use Rattle.std.specs.List.{All, AllByRecursion, flat_map, list_any}
use Rattle.std.proofs.Common.{◌≡◌, ◌↔◌, ℕ, zero, suc, ◌+◌, ◌<◌, ◌≤◌, Bool, true, false, not, ◌||◌, ◌==◌, cond, List, [], ◌∷◌, ◌++◌, length, map, Option, None, Some, Result, Ok, Err, refl, sym, ◌∙◌, ap, subst, append-nil, length-append, arith}
use Rattle.std.proofs.lemmas.Bool.{or_parts, both_ways}
use Rattle.std.proofs.lemmas.List.{map-append}
use Rattle.std.proofs.lemmas.List.Concat.{flat_map-append}
use Rattle.std.proofs.lemmas.List.Elements.{All-append, All-weaker, All-nil, All-from_recursion, recursion_from_All}
use Rattle.std.proofs.lemmas.List.Folds.{list_any-append}
use Rattle.mama_journal.specs.Journal.{puts}
use Rattle.mama_journal.specs.EntryLaws.{puts-push}
use Rattle.mama_journal.specs.Lane.{by_port}
use Rattle.mama_event.specs.Lawful.{IsLawful}
use Rattle.mama_event.specs.LawfulLaws.{IsLawful-prefix}
use Rattle.mama_event.specs.ToQueue.{is_last, fits, note_of}
use Rattle.mama_event.specs.Noted.{delivered_note, replied_note}
use Rattle.mama_event.specs.Wire.{arrival_of, reply_of}
use Rattle.mama_event.specs.Arrival.{Arrival, ReplyArrival}
use Rattle.mama_event.specs.declared.ids.SubId.{SubId}
use Rattle.mama_event.specs.declared.ids.InboxId.{InboxId}
use Rattle.mama_event.specs.Listener.{ListenerData}
use Rattle.mama_event.specs.Plan.{planned}
use Rattle.mama_event.specs.Object.{same_object}
use Rattle.mama_event.specs.Ports.{queue_port_of_timers}
use Rattle.mama_event.specs.declared.ids.ObjectId.{ObjectId}
use Rattle.mama_event.specs.declared.order.Order.{Order}
use Rattle.mama_event.specs.declared.order.PlanRow.{PlanRow}
use Rattle.mama_event.specs.declared.shape.Bounds.{Bounds}
use Rattle.mama_event.specs.declared.callback.CallNote.{CallNote}
use Rattle.mama_event.specs.declared.to_bridge.BridgeNote.{BridgeNote}
use Rattle.mama_event.specs.declared.to_timers.TimersNote.{TimersNote}
use Rattle.mama_event.specs.declared.to_queue.QueueNote.{QueueNote}
use Rattle.mama_event.specs.declared.to_queue.ToQueue.{ToQueue}
use Rattle.mama_event.specs.declared.to_queue.ToQueue.TheVariants as event
use Rattle.mama_event.specs.declared.shape.Strategy.TheVariants as strategy
use Rattle.mama_lane.specs.Values.{PortValue, TakerValue}
use Rattle.mama_ends.specs.Inlet.{InletValue, AreLawful}
use Rattle.mama_event.specs.declared.ids.TimerId.{TimerId}
use Rattle.mama_event.specs.declared.watch.WatchRow.{WatchRow}
use Rattle.mama_rules_queue.specs.Queue.{QueuePut}
use Rattle.mama_rules_queue.specs.Watch.{wishes_at, watched_puts_at}
use Rattle.mama_rules_rounds.specs.Setting.{Watched, rows_on}
use Rattle.mama_dispatch.specs.declared.turn.Turn.{Turn}
use Rattle.mama_timeout.specs.Table.{WatchData, watch_by, new_watch}
use Rattle.mama_timeout.specs.Turns.{tick_in, watches_after, wishes_after, missed_by, AreWatched}
use Rattle.mama_rules_rounds.specs.Client.{Planned, bridge_part, timers_part}
use Rattle.mama_laws_allowed.specs.Allowed.{ArePutsLawful, IsTakenLawfully, QueuePutsAreLawful}
use Rattle.mama_plans.specs.Orders.{orders_in}
use Rattle.mama_carry.specs.Brought.{brought_to_queue}
use Rattle.mama_carry.specs.Fresh.{IsFresh}
use Rattle.mama_dispatch.specs.Coming.{LawfulAreTurns}
use Rattle.mama_dispatch.specs.Hearing.{brought, ComesAs, ComesWith, ComesPlanned, HeardAt, PlanGives, PlannedAt, ArePlanned}
use Rattle.mama_dispatch.specs.Journals.{Born, born, born_in, is_born, may_come}
use Rattle.mama_dispatch.specs.Seats.{SeatData}
use Rattle.mama_dispatch.specs.Served.{Served}
use Rattle.mama_dispatch.specs.Streams.{CallbacksAreStreams}
use Rattle.mama_dispatch.proofs.DeedLemmas.{same_object-true}
use Rattle.mama_dispatch.proofs.KeepLemmas.{comes_at}
use Rattle.mama_seats.specs.Waiting.{Queued, waits}
use Rattle.mama_posts_clients.specs.Outlets.{OutletsValue, after_puts, HasPut, MayPut}
use Rattle.mama_posts_clients.specs.Queue.{QueuePostValue, plan_of, rows_of_watches, served_puts, calls_by, gone, gone_in, HasHeardSeat, HasNoListener, HasComeBack, IsQueueOf, HasEnded, HasServedAll, MadeStep, finished, took, holding}
use Rattle.mama_posts_clients.proofs.OutletLemmas.{has_put_still, has_put_with_none, has_put_without, may_put}
use Rattle.mama_posts_clients.proofs.ReturnLemmas.{same_calls}

-- ---- what comes with an event

-- the listener that comes is of the object that a note makes, if it makes one, and that was not here before
pub record IsBrought (journal : List (ℕ × QueueNote)) (note : QueueNote) (b : ObjectId × ListenerData) : Type 0 where
  pub made : Born
  pub is : born_in note ≡ made ∷ []
  pub object : made.object ≡ b.0
  pub first : is_born b.0 journal ≡ false

abbrev pub BringsOr : List (ℕ × QueueNote) → QueueNote → Option (ObjectId × ListenerData) → Type 0
BringsOr journal note None = born_in note ≡ []
BringsOr journal note (Some b) = IsBrought journal note b

not_true : (b : Bool) → not b ≡ true → b ≡ false
not_true true h = cc
not_true false h = refl

-- what arrives makes no object, be it read or bad
delivered_bears : (slot : ℕ) (sub : SubId) (a : Arrival) → born_in (delivered_note slot sub a) ≡ []
delivered_bears slot sub (Ok msg) = refl
delivered_bears slot sub (Err piece) = refl

replied_bears : (slot : ℕ) (inbox : InboxId) (a : ReplyArrival) → born_in (replied_note slot inbox a) ≡ []
replied_bears slot inbox (Ok body) = refl
replied_bears slot inbox (Err bytes) = refl

pub brings : {L : Type 0} (tagged : L → ObjectId) (view : L → ListenerData) (journal : List (ℕ × QueueNote)) (e : ToQueue L) → may_come journal (note_of tagged e) ≡ true
    → BringsOr journal (note_of tagged e) (brought view e)
brings tagged view journal (event.Create slot object make l) may =
    record { made = record { object = object; make = make }; is = refl; object = refl; first = not_true (is_born object journal) may }
brings tagged view journal (event.Deliver slot sub msg) may = delivered_bears slot sub (arrival_of msg)
brings tagged view journal (event.Reply slot inbox body) may = replied_bears slot inbox (reply_of body)
brings tagged view journal (event.Tick slot timer moment) may = refl
brings tagged view journal (event.Gone slot object) may = refl
brings tagged view journal event.Fin may = refl

pub comes_fresh : {L : Type 0} (view : L → ListenerData) (plan : ObjectId → List PlanRow) (e : ToQueue L) → IfSome (brought_to_queue e) (λ (b : ObjectId × L). IsFresh b.0 (plan b.0) (view b.1))
    → IfSome (brought view e) (λ (b : ObjectId × ListenerData). IsFresh b.0 (plan b.0) b.1)
comes_fresh view plan (event.Create slot object make l) h = h
comes_fresh view plan (event.Deliver slot sub msg) h = tt
comes_fresh view plan (event.Reply slot inbox body) h = tt
comes_fresh view plan (event.Tick slot timer moment) h = tt
comes_fresh view plan (event.Gone slot object) h = tt
comes_fresh view plan event.Fin h = tt

-- ---- the listeners after an entry

module _ (objects : List Planned) (journal : List (ℕ × QueueNote)) (port : ℕ) (note : QueueNote) (before after : List SeatData) (comes : Option (ObjectId × ListenerData))
    (brought_is : BringsOr journal note comes) (fresh : IfSome comes (λ (b : ObjectId × ListenerData). IsFresh b.0 (plan_of objects b.0) b.1))
    (heard : (object : ObjectId) (came : ListenerData) → ComesAs object came comes → HeardAt object came before → HeardAt object came after) where
  comes_planned : (c : Option (ObjectId × ListenerData)) → IfSome c (λ (b : ObjectId × ListenerData). IsFresh b.0 (plan_of objects b.0) b.1) → ComesPlanned (orders_in objects) c
  comes_planned None h = tt
  comes_planned (Some b) h = (
    subst (PlanGives (orders_in objects b.0)) (sym h.planned) (λ call. refl),
    h.calls,
  )

  pub planned_next : ((object : ObjectId) (f : ℕ → List Order) (count : ℕ) → ComesWith object f count comes → PlannedAt object f count before → PlannedAt object f count after)
      → ArePlanned (orders_in objects) before → ArePlanned (orders_in objects) after
  planned_next step was = λ o. step o (orders_in objects o) 0 (comes_at (orders_in objects) comes (comes_planned comes fresh) o) (was o)

  -- whoever was not born before was none of the objects that come
  not_before : (o : ObjectId) → is_born o (journal ++ (port, note) ∷ []) ≡ false → (is_born o journal ≡ false) × (list_any (λ (b : Born). same_object o b.object) (born_in note) ≡ false)
  not_before o none =
      let test : Born → Bool = λ b. same_object o b.object in
      or_parts (list_any test (born journal)) (list_any test (born_in note))
      (ap (λ (b : Bool). list_any test (born journal) || b) (ap (list_any test) (sym (append-nil (born_in note))))
      ∙ sym (list_any-append test (born journal) (born_in note ++ [])) ∙ ap (list_any test) (sym (flat_map-append _ journal ((port, note) ∷ []))) ∙ none)

  others : (o : ObjectId) (came : ListenerData) (c : Option (ObjectId × ListenerData)) → BringsOr journal note c → list_any (λ (b : Born). same_object o b.object) (born_in note) ≡ false → ComesAs o came c
  others o came None h none = tt
  others o came (Some b) h none = λ same.
      absurd (both_ways (same_object o b.0)
      ((or_parts (same_object o b.0) false
      (ap (λ (x : ObjectId). same_object o x || false) (sym h.object) ∙ ap (list_any (λ (b : Born). same_object o b.object)) (sym h.is) ∙ none)).0)
      same)

  pub unborn_next : ((o : ObjectId) → is_born o journal ≡ false → HasNoListener o before) → (o : ObjectId) → is_born o (journal ++ (port, note) ∷ []) ≡ false → HasNoListener o after
  unborn_next was o none came =
      let parts = not_before o none in
      heard o came (others o came comes brought_is parts.1) (was o parts.0 came)

  heard_by : (c : Option (ObjectId × ListenerData)) → BringsOr journal note c → IfSome c (λ (b : ObjectId × ListenerData). IsFresh b.0 (plan_of objects b.0) b.1)
      → ((object : ObjectId) (came : ListenerData) → ComesAs object came c → HeardAt object came before → HeardAt object came after)
      → ((o : ObjectId) → is_born o journal ≡ false → HasNoListener o before) → (o : ObjectId) → HasHeardSeat (plan_of objects o) o before → HasHeardSeat (plan_of objects o) o after
  heard_by None brings_it made step none o was = record { came = was.came; fresh = was.fresh; heard = step o was.came tt was.heard }
  heard_by (Some b) brings_it made step none o was = by_name (same_object o b.0) refl
    where
      by_name : (same : Bool) → same_object o b.0 ≡ same → HasHeardSeat (plan_of objects o) o after
      by_name true is =
          let this : o ≡ b.0 = same_object-true o b.0 is in
          subst (λ (x : ObjectId). HasHeardSeat (plan_of objects x) x after) (sym this)
          (record { came = b.1; fresh = made; heard = step b.0 b.1 (λ h. refl) (none b.0 brings_it.first b.1) })
      by_name false is = record { came = was.came; fresh = was.fresh; heard = step o was.came (λ h. absurd (both_ways (same_object o b.0) is h)) was.heard }

  pub heard_next : ((o : ObjectId) → is_born o journal ≡ false → HasNoListener o before) → ((o : ObjectId) → HasHeardSeat (plan_of objects o) o before)
      → (o : ObjectId) → HasHeardSeat (plan_of objects o) o after
  heard_next none was o = heard_by comes brought_is fresh heard none o (was o)

-- ---- what was taken and put

pub by_port-append : (port : ℕ) (xs ys : List (ℕ × QueueNote)) → by_port port (xs ++ ys) ≡ by_port port xs ++ by_port port ys
by_port-append port [] ys = refl
by_port-append port (x ∷ xs) ys = more (x.0 == port) (by_port-append port xs ys)
  where
    more : (b : Bool) → by_port port (xs ++ ys) ≡ by_port port xs ++ by_port port ys
        → cond b (x.1 ∷ by_port port (xs ++ ys)) (by_port port (xs ++ ys)) ≡ cond b (x.1 ∷ by_port port xs) (by_port port xs) ++ by_port port ys
    more true h = ap (λ (ns : List QueueNote). x.1 ∷ ns) h
    more false h = h

front_all : {X : Type 0} (P : X → Type 0) (xs ys : List X) → AllByRecursion P (xs ++ ys) → AllByRecursion P xs
front_all P [] ys h = tt
front_all P (x ∷ xs) ys h = (h.0, front_all P xs ys h.1)

-- what a queue has done is lawful, where what it took is
done_lawfully : (journal kept : List (ℕ × QueueNote)) → IsTakenLawfully (journal ++ kept) → IsTakenLawfully journal
done_lawfully journal kept h =
    let P : ℕ × QueueNote → Type 0 = λ e. e.0 ≤ queue_port_of_timers in
    record {
      ports = All-from_recursion P journal (front_all P journal kept (recursion_from_All P (journal ++ kept) h.ports));
      each = λ port.
          IsLawful-prefix is_last (fits port) (by_port port journal) (by_port port kept)
          (subst (IsLawful is_last (fits port)) (by_port-append port journal kept) (h.each port));
    }

-- watches as those of queue 0
abbrev own_watch : ℕ × WatchRow → Watched
own_watch w = record { number = w.0; queue = 0; row = w.1 }

own_rows : (rows : List (ℕ × WatchRow)) → rows_on 0 (map own_watch rows) ≡ map (λ (w : ℕ × WatchRow). w.1) rows
own_rows [] = refl
own_rows (w ∷ ws) = ap (λ (rs : List WatchRow). w.1 ∷ rs) (own_rows ws)

pub queue_may : (objects : List Planned) (number : ℕ) (post : QueuePostValue) → IsQueueOf objects number post → QueuePutsAreLawful → MayPut post.ports post.left
queue_may objects number post seat law =
    let journal = post.served.journal in
    let lawful = done_lawfully journal post.inlet.kept (subst IsTakenLawfully seat.taken seat.lawful) in
    let rows = rows_of_watches post.watches in
    let whole : List QueuePut = served_puts objects rows journal in
    let puts_lawfully : (bounds : Bounds) → ArePutsLawful bounds whole = λ bounds.
    subst (λ (rs : List WatchRow). ArePutsLawful bounds (puts (watched_puts_at (orders_in objects) rs) journal)) (own_rows rows)
    (law (record {
      shape = record { clients = 0; publisher_topics = []; bounds = bounds; strategy = strategy.One };
      publishers = [];
      objects = objects;
      groups = [];
      watches = map own_watch rows;
    })
    bounds 0 journal lawful) in
    may_put post.ports post.left [] whole (has_put_with_none post.ports post.left whole seat.put)
    (puts_lawfully post.ports.to_bridge.bounds) (puts_lawfully post.ports.to_timers.bounds)

-- what an entry puts
abbrev pub entry_puts : List Planned → List (ℕ × WatchRow) → List (ℕ × QueueNote) → ℕ × QueueNote → List QueuePut
entry_puts objects rows journal e = watched_puts_at (orders_in objects) (map (λ (w : ℕ × WatchRow). w.1) rows) journal e

-- an entry more puts more
put_next : (objects : List Planned) (rows : List (ℕ × WatchRow)) (journal : List (ℕ × QueueNote)) (e : ℕ × QueueNote) (old new : OutletsValue) (was left : List QueuePut) → HasPut old was (served_puts objects rows journal)
    → was ≡ [] → new ≡ old → left ≡ entry_puts objects rows journal e → HasPut new left (served_puts objects rows (journal ++ e ∷ []))
put_next objects rows journal e old new was left has none same lays =
    subst (λ (p : OutletsValue). HasPut p left (served_puts objects rows (journal ++ e ∷ []))) (sym same)
    (record { to_bridge = part bridge_part old.to_bridge.put has.to_bridge; to_timers = part timers_part old.to_timers.put has.to_timers })
  where
    part : {N : Type 0} (piece : QueuePut → List N) (put : List N) → put ++ flat_map piece was ≡ flat_map piece (served_puts objects rows journal)
        → put ++ flat_map piece left ≡ flat_map piece (served_puts objects rows (journal ++ e ∷ []))
    part {N} piece put h =
        ap (λ (ns : List N). ns ++ flat_map piece left) (sym (append-nil put) ∙ ap (λ (ps : List QueuePut). put ++ flat_map piece ps) (sym none) ∙ h)
        ∙ ap (λ (ps : List QueuePut). flat_map piece (served_puts objects rows journal) ++ flat_map piece ps) lays
        ∙ sym (flat_map-append piece (served_puts objects rows journal) (entry_puts objects rows journal e))
        ∙ ap (flat_map piece) (sym (puts-push (entry_puts objects rows) journal e))

-- ---- the seat after an event

-- those that came back before have still heard all
back_still : (objects : List Planned) (journal : List (ℕ × QueueNote)) (e : ℕ × QueueNote) (back : List (ObjectId × ListenerData)) → CallbacksAreStreams → LawfulAreTurns → IsTakenLawfully (journal ++ e ∷ [])
    → All (λ (b : ObjectId × ListenerData). HasComeBack (calls_by objects journal b.0) b) back → All (λ (b : ObjectId × ListenerData). HasComeBack (calls_by objects (journal ++ e ∷ []) b.0) b) back
back_still objects journal e back streams turns lawful was =
    All-weaker (λ (b : ObjectId × ListenerData). HasComeBack (calls_by objects journal b.0) b) (λ (b : ObjectId × ListenerData). HasComeBack (calls_by objects (journal ++ e ∷ []) b.0) b)
    (λ b h. subst (λ (ns : List CallNote). HasComeBack ns b) (same_calls (orders_in objects) journal e b.0 streams (turns (journal ++ e ∷ []) lawful.each) h.ended) h)
    back was

-- watches by any journal have their rows
pub rows_kept : (orders : ObjectId → ℕ → List Order) (journal : List (ℕ × QueueNote)) (rows : List (ℕ × WatchRow)) → rows_of_watches (map (watch_by orders journal) rows) ≡ rows
rows_kept orders journal [] = refl
rows_kept orders journal (w ∷ ws) = ap (λ (rs : List (ℕ × WatchRow)). w ∷ rs) (rows_kept orders journal ws)

-- what the watches noted, and wish for, behind a turn
pub watches_next : {L : Type 0} (orders : ObjectId → ℕ → List Order) (journal now : List (ℕ × QueueNote)) (e : ℕ × QueueNote) (tick : Option (TimerId × ℕ)) (answer : Turn L) (old between new : List WatchData)
    → new ≡ watches_after tick answer (missed_by orders now) between → between ≡ old → tick ≡ tick_in e.1 → now ≡ journal ++ e ∷ [] → old ≡ map (watch_by orders journal) (rows_of_watches old)
    → AreWatched orders (rows_of_watches old) journal e answer → new ≡ map (watch_by orders (journal ++ e ∷ [])) (rows_of_watches old)
watches_next orders journal now e tick answer old between new is same of_it more noted law =
    is ∙ ap (watches_after tick answer (missed_by orders now)) (same ∙ noted)
    ∙ ap (λ (t : Option (TimerId × ℕ)). watches_after t answer (missed_by orders now) (map (watch_by orders journal) (rows_of_watches old))) of_it
    ∙ ap (λ (j : List (ℕ × QueueNote)). watches_after (tick_in e.1) answer (missed_by orders j) (map (watch_by orders journal) (rows_of_watches old))) more
    ∙ law.noted

pub wishes_next : {L : Type 0} (orders : ObjectId → ℕ → List Order) (journal now : List (ℕ × QueueNote)) (e : ℕ × QueueNote) (tick : Option (TimerId × ℕ)) (answer : Turn L) (old between : List WatchData) (wish : List QueuePut)
    → wish ≡ wishes_after tick answer (missed_by orders now) between → between ≡ old → tick ≡ tick_in e.1 → now ≡ journal ++ e ∷ [] → old ≡ map (watch_by orders journal) (rows_of_watches old)
    → AreWatched orders (rows_of_watches old) journal e answer → wish ≡ wishes_at orders (map (λ (w : ℕ × WatchRow). w.1) (rows_of_watches old)) journal e
wishes_next orders journal now e tick answer old between wish is same of_it more noted law =
    is ∙ ap (wishes_after tick answer (missed_by orders now)) (same ∙ noted)
    ∙ ap (λ (t : Option (TimerId × ℕ)). wishes_after t answer (missed_by orders now) (map (watch_by orders journal) (rows_of_watches old))) of_it
    ∙ ap (λ (j : List (ℕ × QueueNote)). wishes_after (tick_in e.1) answer (missed_by orders j) (map (watch_by orders journal) (rows_of_watches old))) more
    ∙ law.wished

pub event_seat : (objects : List Planned) (number : ℕ) (old : QueuePostValue) (port : ℕ) (note : QueueNote) (comes : Option (ObjectId × ListenerData)) (returned : List (ObjectId × ListenerData))
    (served : Served) (watches : List WatchData) (inlet : InletValue QueueNote) (ports : OutletsValue) (left : List QueuePut) (back : List (ObjectId × ListenerData))
    → IsQueueOf objects number (holding old port note) → old.left ≡ [] → old.inlet.kept ≡ []
    → BringsOr old.served.journal note comes → IfSome comes (λ (b : ObjectId × ListenerData). IsFresh b.0 (plan_of objects b.0) b.1)
    → served.queue ≡ old.served.queue → served.journal ≡ old.served.journal ++ (port, note) ∷ []
    → ((object : ObjectId) (came : ListenerData) → ComesAs object came comes → HeardAt object came old.served.seats → HeardAt object came served.seats)
    → ((object : ObjectId) (f : ℕ → List Order) (count : ℕ) → ComesWith object f count comes → PlannedAt object f count old.served.seats → PlannedAt object f count served.seats)
    → inlet ≡ old.inlet → ports ≡ old.ports → left ≡ entry_puts objects (rows_of_watches old.watches) old.served.journal (port, note)
    → watches ≡ map (watch_by (orders_in objects) (old.served.journal ++ (port, note) ∷ [])) (rows_of_watches old.watches) → back ≡ old.back ++ returned
    → map (λ (b : ObjectId × ListenerData). b.0) returned ≡ gone_in note
    → All (λ (b : ObjectId × ListenerData). HasComeBack (calls_by objects (old.served.journal ++ (port, note) ∷ []) b.0) b) returned
    → CallbacksAreStreams → LawfulAreTurns
    → IsQueueOf objects number (record { served = served; watches = watches; inlet = inlet; ports = ports; left = left; back = back })
event_seat objects number old port note comes returned served watches inlet ports left back seat clear none brings_it fresh same_queue more heard plans same_inlet same_ports lays noted more_back gone_are come_back streams turns =
    let journal = old.served.journal in
    let now = journal ++ (port, note) ∷ [] in
    let lawful : IsTakenLawfully now = subst IsTakenLawfully seat.taken seat.lawful in
    let B : ObjectId × ListenerData → Type 0 = λ b. HasComeBack (calls_by objects now b.0) b in
    let rows = rows_of_watches old.watches in
    let same_rows : rows_of_watches watches ≡ rows = ap rows_of_watches noted ∙ rows_kept (orders_in objects) now rows in
    record {
      number_is = same_queue ∙ seat.number_is;
      two_ports = ap (λ (i : InletValue QueueNote). i.taker.ports) same_inlet ∙ seat.two_ports;
      taken = ap (λ (i : InletValue QueueNote). i.taker.taken) same_inlet ∙ seat.taken ∙ sym more ∙ sym (append-nil served.journal)
          ∙ ap (λ (k : List (ℕ × QueueNote)). served.journal ++ k) (sym none) ∙ ap (λ (i : InletValue QueueNote). served.journal ++ i.kept) (sym same_inlet);
      lawful = subst (λ (i : InletValue QueueNote). IsTakenLawfully i.taker.taken) (sym same_inlet) seat.lawful;
      put = subst (λ (rs : List (ℕ × WatchRow)). HasPut ports left (served_puts objects rs served.journal)) (sym same_rows)
          (subst (λ (j : List (ℕ × QueueNote)). HasPut ports left (served_puts objects rows j)) (sym more) (put_next objects rows journal (port, note) old.ports ports old.left left seat.put clear same_ports lays));
      noted = noted ∙ ap (λ (j : List (ℕ × QueueNote)). map (watch_by (orders_in objects) j) rows) (sym more)
          ∙ ap (map (watch_by (orders_in objects) served.journal)) (sym same_rows);
      planned = planned_next objects journal port note old.served.seats served.seats comes brings_it fresh heard plans seat.planned;
      heard = heard_next objects journal port note old.served.seats served.seats comes brings_it fresh heard seat.unborn seat.heard;
      unborn = subst (λ (j : List (ℕ × QueueNote)). (o : ObjectId) → is_born o j ≡ false → HasNoListener o served.seats) (sym more)
          (unborn_next objects journal port note old.served.seats served.seats comes brings_it fresh heard seat.unborn);
      gone_are = ap (map (λ (b : ObjectId × ListenerData). b.0)) more_back ∙ map-append (λ (b : ObjectId × ListenerData). b.0) old.back returned
          ∙ ap (λ (os : List ObjectId). os ++ map (λ (b : ObjectId × ListenerData). b.0) returned) seat.gone_are
          ∙ ap (λ (os : List ObjectId). gone journal ++ os) (gone_are ∙ sym (append-nil (gone_in note)))
          ∙ sym (flat_map-append _ journal ((port, note) ∷ [])) ∙ ap gone (sym more);
      back = subst (λ (j : List (ℕ × QueueNote)). All (λ (b : ObjectId × ListenerData). HasComeBack (calls_by objects j b.0) b) back) (sym more)
          (subst (All B) (sym more_back)
          (All-append B old.back returned (back_still objects journal (port, note) old.back streams turns lawful seat.back) come_back));
    }

-- ---- the seat where an event was fetched, and where something was put

pub held_seat : (objects : List Planned) (number : ℕ) (old : QueuePostValue) (inlet : InletValue QueueNote) (port : ℕ) (note : QueueNote) → IsQueueOf objects number old
    → ((done : List (ℕ × QueueNote)) → old.inlet.taker.taken ≡ done ++ old.inlet.kept → inlet.taker.taken ≡ done ++ (port, note) ∷ [])
    → inlet.taker ≡ record old.inlet.taker { taken = inlet.taker.taken } → AreLawful (λ bounds port. IsLawful is_last (fits port)) inlet.taker
    → IsQueueOf objects number (holding (record old { inlet = inlet }) port note)
held_seat objects number old inlet port note seat next others lawful =
    let two : inlet.taker.ports ≡ 2 = ap (λ (t : TakerValue QueueNote). t.ports) others ∙ seat.two_ports in
    record {
      number_is = seat.number_is;
      two_ports = two;
      taken = next old.served.journal seat.taken;
      lawful = record {
        ports = All-weaker (λ (e : ℕ × QueueNote). e.0 < inlet.taker.ports) (λ (e : ℕ × QueueNote). e.0 ≤ queue_port_of_timers) (λ e h. omega (arith, h, two)) inlet.taker.taken lawful.ports;
        each = lawful.each;
      };
      put = seat.put;
      noted = seat.noted;
      planned = seat.planned;
      heard = seat.heard;
      unborn = seat.unborn;
      gone_are = seat.gone_are;
      back = seat.back;
    }

-- the seat after some of what was left was put
pub put_seat : (objects : List Planned) (number : ℕ) (old new : QueuePostValue) → IsQueueOf objects number old → new.served ≡ old.served → new.watches ≡ old.watches → new.inlet ≡ old.inlet → new.back ≡ old.back
    → after_puts new.ports new.left ≡ after_puts old.ports old.left → IsQueueOf objects number new
put_seat objects number old new seat same_served same_watches same_inlet same_back same =
    let put : QueuePostValue = record old { ports = new.ports; left = new.left } in
    let there : new ≡ put =
    ap (λ (s : Served). let v : QueuePostValue = record new { served = s } in v) same_served
    ∙ ap (λ (w : List WatchData). let v : QueuePostValue = record new { served = old.served; watches = w } in v) same_watches
    ∙ ap (λ (i : InletValue QueueNote). let v : QueuePostValue = record new { served = old.served; watches = old.watches; inlet = i } in v) same_inlet
    ∙ ap (λ (b : List (ObjectId × ListenerData)). let v : QueuePostValue = record new { served = old.served; watches = old.watches; inlet = old.inlet; back = b } in v) same_back in
    let whole = served_puts objects (rows_of_watches old.watches) old.served.journal in
    subst (IsQueueOf objects number) (sym there)
    (record {
      number_is = seat.number_is;
      two_ports = seat.two_ports;
      taken = seat.taken;
      lawful = seat.lawful;
      put = has_put_without new.ports new.left whole (has_put_still old.ports new.ports old.left new.left same [] whole (has_put_with_none old.ports old.left whole seat.put));
      noted = seat.noted;
      planned = seat.planned;
      heard = seat.heard;
      unborn = seat.unborn;
      gone_are = seat.gone_are;
      back = seat.back;
    })

-- ---- the beginning and the end

-- watches that noted nothing yet
pub first_noted : (orders : ObjectId → ℕ → List Order) (rows : List (ℕ × WatchRow)) → map new_watch rows ≡ map (watch_by orders []) (rows_of_watches (map new_watch rows))
first_noted orders [] = refl
first_noted orders (w ∷ ws) = ap (λ (xs : List WatchData). new_watch w ∷ xs) (first_noted orders ws)

pub first_seat : (objects : List Planned) (number : ℕ) (rows : List (ℕ × WatchRow)) (taker : TakerValue QueueNote) (to_bridge : PortValue BridgeNote) (to_timers : PortValue TimersNote) → taker.taken ≡ [] → taker.ports ≡ 2
    → to_bridge.put ≡ [] → to_timers.put ≡ []
    → IsQueueOf objects number (record { served = record { queue = number; journal = []; seats = [] }; watches = map new_watch rows; inlet = record { taker = taker; kept = [] }; ports = record { to_bridge = to_bridge; to_timers = to_timers }; left = []; back = [] })
first_seat objects number rows taker to_bridge to_timers none two none_bridge none_timers = record {
  number_is = refl;
  two_ports = two;
  taken = none;
  lawful = subst IsTakenLawfully (sym none) (record {
    ports = All-nil (λ (e : ℕ × QueueNote). e.0 ≤ queue_port_of_timers);
    each = λ port. record { each = refl };
  });
  put = record {
    to_bridge = append-nil to_bridge.put ∙ none_bridge;
    to_timers = append-nil to_timers.put ∙ none_timers;
  };
  noted = first_noted (orders_in objects) rows;
  planned = λ object. tt;
  heard = λ object. record {
    came = record { tag = object; calls = 0; heard = None; given = None; plan = Some (plan_of objects object) };
    fresh = record { tag = refl; calls = refl; heard = refl; planned = refl };
    heard = tt;
  };
  unborn = λ object none came. tt;
  gone_are = refl;
  back = All-nil (λ (b : ObjectId × ListenerData). HasComeBack (calls_by objects [] b.0) b);
}

pub both_told : (journal : List (ℕ × QueueNote)) → list_any is_last (by_port 0 journal) ≡ true → list_any is_last (by_port 1 journal) ≡ true
    → (port : ℕ) → port ≤ queue_port_of_timers → list_any is_last (by_port port journal) ≡ true
both_told journal bridge timers zero within = bridge
both_told journal bridge timers (suc zero) within = timers
both_told journal bridge timers (suc (suc n)) within = absurd (omega (arith, within))

pub tells_end : (post : QueuePostValue) (bridge timers : Bool) → bridge ≡ list_any is_last (by_port 0 post.inlet.taker.taken) → timers ≡ list_any is_last (by_port 1 post.inlet.taker.taken) → post.inlet.kept ≡ [] → post.left ≡ []
    → bridge ≡ true → (timers ≡ true) ↔ HasEnded post
tells_end post bridge timers says_bridge says_timers kept left ended = (
  (λ h. record { told = both_told post.inlet.taker.taken (sym says_bridge ∙ ended) (sym says_timers ∙ h); kept = kept; left = left }),
  (λ h. says_timers ∙ h.told 1 (omega arith)),
)

pub served_all : (objects : List Planned) (number : ℕ) (post : QueuePostValue) → IsQueueOf objects number post → HasEnded post
    → HasServedAll objects (rows_of_watches post.watches) post.served.journal post.inlet.taker post.ports.to_bridge.put post.ports.to_timers.put
served_all objects number post seat end =
    let whole : post.inlet.taker.taken ≡ post.served.journal =
    seat.taken ∙ ap (λ (k : List (ℕ × QueueNote)). post.served.journal ++ k) end.kept ∙ append-nil post.served.journal in
    let whole_puts = served_puts objects (rows_of_watches post.watches) post.served.journal in
    let has : HasPut post.ports [] whole_puts = subst (λ (ps : List QueuePut). HasPut post.ports ps whole_puts) end.left seat.put in
    record {
      taken = whole;
      told = λ port within. ap (λ (j : List (ℕ × QueueNote)). list_any is_last (by_port port j)) (sym whole) ∙ end.told port within;
      bridge = sym (append-nil post.ports.to_bridge.put) ∙ has.to_bridge;
      timers = sym (append-nil post.ports.to_timers.put) ∙ has.to_timers;
    }

-- ---- a step that was made

pub at_ok : {A E P : Type 0} (result : Result A E) (x : A) → result ≡ Ok x → OnOk result P → P
at_ok (Ok y) x is p = p
at_ok (Err e) x is p = absurd (cc is)

-- what is put afterwards changes nothing of it
pub made_after : (old between new : QueuePostValue) → MadeStep old between → new.served ≡ between.served → new.watches ≡ between.watches → new.inlet ≡ between.inlet → new.back ≡ between.back → MadeStep old new
made_after old between new (finished first rest left served watches inlet back) same_served same_watches same_inlet same_back =
    finished first rest left (same_served ∙ served) (same_watches ∙ watches) (same_inlet ∙ inlet) (same_back ∙ back)
made_after old between new (took e none journal kept) same_served same_watches same_inlet same_back =
    took e none (ap (λ (s : Served). s.journal) same_served ∙ journal) (ap (λ (i : InletValue QueueNote). i.kept) same_inlet ∙ kept)

-- what was left is put
pub made_left : (old new : QueuePostValue) → (old.left ≡ [] → ⊥) → new ≡ old → MadeStep old new
made_left old new some same = by_left old.left refl
  where
    by_left : (left : List QueuePut) → old.left ≡ left → MadeStep old new
    by_left [] none = absurd (some none)
    by_left (first ∷ rest) is =
        finished first rest is (ap (λ (v : QueuePostValue). v.served) same) (ap (λ (v : QueuePostValue). v.watches) same) (ap (λ (v : QueuePostValue). v.inlet) same) (ap (λ (v : QueuePostValue). v.back) same)

-- an event was taken
pub made_taken : (old new : QueuePostValue) (was : List (ℕ × QueueNote)) (e : ℕ × QueueNote) → old.left ≡ [] → was ≡ old.served.journal → new.served.journal ≡ was ++ e ∷ [] → new.inlet.kept ≡ [] → MadeStep old new
made_taken old new was e none same more served = took e none (more ∙ ap (λ (j : List (ℕ × QueueNote)). j ++ e ∷ []) same) served

-- the journal goes on, or is as it was
pub journal_grows : {A E : Type 0} (result : Result A E) (was : List (ℕ × QueueNote)) (new held : QueuePostValue) (e : ℕ × QueueNote) → OnOk result (new.served.journal ≡ was ++ e ∷ [])
    → OnErr result (new ≡ held) → held.served.journal ≡ was → IsPrefix was new.served.journal
journal_grows (Ok x) was new held e ok err same = (e ∷ [], sym ok)
journal_grows (Err x) was new held e ok err same = ([], append-nil was ∙ sym (ap (λ (v : QueuePostValue). v.served.journal) err ∙ same))

-- and so its journal is longer by one at most
pub journal_few : {A E : Type 0} (result : Result A E) (was : List (ℕ × QueueNote)) (new held : QueuePostValue) (e : ℕ × QueueNote) → OnOk result (new.served.journal ≡ was ++ e ∷ [])
    → OnErr result (new ≡ held) → held.served.journal ≡ was → length new.served.journal ≤ length was + 1
journal_few (Ok x) was new held e ok err same =
    let long = ap (λ (es : List (ℕ × QueueNote)). length es) ok ∙ length-append was (e ∷ []) in omega (arith, long)
journal_few (Err x) was new held e ok err same =
    let long = ap (λ (v : QueuePostValue). length v.served.journal) err ∙ ap (λ (es : List (ℕ × QueueNote)). length es) same in omega (arith, long)

-- where no event came all is as it was
pub still : (view old : QueuePostValue) (inlet : InletValue QueueNote) → view ≡ old → inlet ≡ view.inlet → record view { inlet = inlet } ≡ old
still view old inlet is same = ap (λ (i : InletValue QueueNote). record view { inlet = i }) same ∙ is

-- what waits is what is left
pub some_left : (waiting left : List QueuePut) (clear : Bool) → waiting ≡ left → ((clear ≡ true) ↔ (waiting ≡ [])) → clear ≡ false → left ≡ [] → ⊥
some_left waiting left clear is tells some none = both_ways clear some (tells.1 (is ∙ none))

pub none_left : (waiting left : List QueuePut) (clear : Bool) → waiting ≡ left → ((clear ≡ true) ↔ (waiting ≡ [])) → clear ≡ true → left ≡ []
none_left waiting left clear is tells all = sym is ∙ tells.0 all

-- what is left where nothing was, after some puts
pub lays : {A : Type 0} (f : A → QueuePut) (left : Queued A) (items before : List A) (puts : List QueuePut) → left ≡ record { apart = None; rest = items } → map f items ≡ map f before ++ puts → before ≡ []
    → map f (waits left) ≡ puts
lays {A} f left items before puts is laid none = ap (λ (w : Queued A). map f (waits w)) is ∙ laid ∙ ap (λ (xs : List A). map f xs ++ puts) none

pub nothing_laid : {A : Type 0} (f : A → QueuePut) (left : Queued A) (items : List A) → left ≡ record { apart = None; rest = items } → items ≡ [] → map f (waits left) ≡ []
nothing_laid {A} f left items is none = ap (λ (w : Queued A). map f (waits w)) is ∙ ap (map f) none

pub first_as : (objects : List Planned) (number : ℕ) (rows : List (ℕ × WatchRow)) (served : Served) (watches : List WatchData) (inlet : InletValue QueueNote) (ports : OutletsValue) (left : List QueuePut) (back : List (ObjectId × ListenerData))
    (taker : TakerValue QueueNote) (to_bridge : PortValue BridgeNote) (to_timers : PortValue TimersNote) → taker.taken ≡ [] → taker.ports ≡ 2 → to_bridge.put ≡ [] → to_timers.put ≡ []
    → served ≡ record { queue = number; journal = []; seats = [] } → watches ≡ map new_watch rows → inlet ≡ record { taker = taker; kept = [] } → ports ≡ record { to_bridge = to_bridge; to_timers = to_timers } → left ≡ [] → back ≡ []
    → IsQueueOf objects number (record { served = served; watches = watches; inlet = inlet; ports = ports; left = left; back = back })
first_as objects number rows served watches inlet ports left back taker to_bridge to_timers none two none_bridge none_timers is_served is_watches is_inlet is_ports is_left is_back =
    let first : Served = record { queue = number; journal = []; seats = [] } in
    let noted : List WatchData = map new_watch rows in
    let taking : InletValue QueueNote = record { taker = taker; kept = [] } in
    let both : OutletsValue = record { to_bridge = to_bridge; to_timers = to_timers } in
    subst (λ (s : Served). IsQueueOf objects number (record { served = s; watches = watches; inlet = inlet; ports = ports; left = left; back = back })) (sym is_served)
    (subst (λ (w : List WatchData). IsQueueOf objects number (record { served = first; watches = w; inlet = inlet; ports = ports; left = left; back = back })) (sym is_watches)
    (subst (λ (i : InletValue QueueNote). IsQueueOf objects number (record { served = first; watches = noted; inlet = i; ports = ports; left = left; back = back })) (sym is_inlet)
    (subst (λ (p : OutletsValue). IsQueueOf objects number (record { served = first; watches = noted; inlet = taking; ports = p; left = left; back = back })) (sym is_ports)
    (subst (λ (l : List QueuePut). IsQueueOf objects number (record { served = first; watches = noted; inlet = taking; ports = both; left = l; back = back })) (sym is_left)
    (subst (λ (b : List (ObjectId × ListenerData)). IsQueueOf objects number (record { served = first; watches = noted; inlet = taking; ports = both; left = []; back = b })) (sym is_back)
    (first_seat objects number rows taker to_bridge to_timers none two none_bridge none_timers))))))

-- what it gives up is what it took and put
pub served_as : (objects : List Planned) (number : ℕ) (post : QueuePostValue) (journal : List (ℕ × QueueNote)) (taker : TakerValue QueueNote) (on_bridge : List BridgeNote) (on_timers : List TimersNote)
    → IsQueueOf objects number post → HasEnded post → journal ≡ post.served.journal → taker ≡ post.inlet.taker → on_bridge ≡ post.ports.to_bridge.put → on_timers ≡ post.ports.to_timers.put
    → HasServedAll objects (rows_of_watches post.watches) journal taker on_bridge on_timers
served_as objects number post journal taker on_bridge on_timers seat end same_journal same_taker bridge timers =
    subst (λ (j : List (ℕ × QueueNote)). HasServedAll objects (rows_of_watches post.watches) j taker on_bridge on_timers) (sym same_journal)
    (subst (λ (t : TakerValue QueueNote). HasServedAll objects (rows_of_watches post.watches) post.served.journal t on_bridge on_timers) (sym same_taker)
    (subst (λ (ns : List BridgeNote). HasServedAll objects (rows_of_watches post.watches) post.served.journal post.inlet.taker ns on_timers) (sym bridge)
    (subst (λ (ns : List TimersNote). HasServedAll objects (rows_of_watches post.watches) post.served.journal post.inlet.taker post.ports.to_bridge.put ns) (sym timers) (served_all objects number post seat end))))
