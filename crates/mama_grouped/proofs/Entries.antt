-- The groups of a queue hear its journal entry by entry.
use Rattle.std.proofs.Common.{◌≡◌, ℕ, zero, suc, ◌+◌, ◌<◌, ◌≤◌, Bool, true, false, cond, List, [], ◌∷◌, ◌++◌, length, map, take, drop, Option, None, Some, refl, sym, ap, subst, ◌∙◌, append-nil, length-append, arith}
use Rattle.std.specs.Prelude.{IfSome}
use Rattle.std.specs.List.{All, AllByRecursion, flat_map}
use Rattle.std.proofs.lemmas.List.{length-map, take_all}
use Rattle.std.proofs.lemmas.List.Concat.{flat_map-append}
use Rattle.std.proofs.lemmas.List.Elements.{All-from_recursion, recursion_from_All}
use Rattle.mama_event.specs.declared.ids.SubId.{SubId}
use Rattle.mama_event.specs.declared.ids.ObjectId.{ObjectId}
use Rattle.mama_event.specs.declared.ids.ObjectId.TheVariants.{Sub}
use Rattle.mama_event.specs.declared.callback.Callback.{Callback}
use Rattle.mama_event.specs.declared.callback.CallNote.{CallNote}
use Rattle.mama_event.specs.declared.group.GroupNote.{GroupNote}
use Rattle.mama_event.specs.declared.order.Order.{Order}
use Rattle.mama_event.specs.declared.to_queue.QueueNote.{QueueNote}
use Rattle.mama_event.specs.Listener.{reached, risen}
use Rattle.mama_script.specs.Script.{ScriptData}
use Rattle.mama_rules_queue.specs.Queue.{Deed, calls_in, calls_of, deeds, deeds_at}
use Rattle.mama_rules_queue.specs.Group.{group_notes, group_notes_at}
use Rattle.mama_rules_queue.specs.GroupTurns.{turn_notes, told_of}
use Rattle.mama_dispatch.specs.Journals.{noted, notes_of}
use Rattle.mama_plans.specs.Orders.{orders_in}
use Rattle.mama_group.specs.Listener.{HeardOn}
use Rattle.mama_group.specs.Table as table
use Rattle.mama_group.specs.Table.{GroupData, IsOnly, GroupHeard, AllHeard, has_member, turn_of}
use Rattle.mama_group.proofs.Told.{deeds_more, told_of_all, notes_more, heard_turn, unheard_turn, silent_turn}
use Rattle.mama_crew.specs.Hall.{HallValue}
use Rattle.mama_crew.specs.declared.seat.Seat.{Seat}
use Rattle.mama_crew.specs.Seat.{journal_in}
use Rattle.mama_grouped.specs.Seat.{sub_in, HasHeard, IsHearing}
use Rattle.mama_grouped.proofs.Serving.{none_served, only_served}

abbrev first : Callback × List Order → Callback
first c = c.0

-- the callbacks of a subscription
abbrev calls : SubId → List Deed → List Callback
calls s ds = map first (calls_of (Sub s) ds)

abbrev row : GroupData → ℕ × List SubId
row g = (g.number, g.members)

-- ---- an equation of lists, element by element

abbrev NotesBy : (ObjectId → ℕ → List Order) → List (ℕ × QueueNote) → List GroupData → Type 0
NotesBy orders journal gs = AllByRecursion (λ (g : GroupData). g.notes ≡ group_notes orders g.members journal) gs

first_same : {X : Type 0} {x y : X} {xs ys : List X} → x ∷ xs ≡ y ∷ ys → x ≡ y
first_same e = cc

rest_same : {X : Type 0} {x y : X} {xs ys : List X} → x ∷ xs ≡ y ∷ ys → xs ≡ ys
rest_same e = cc

each_note : (orders : ObjectId → ℕ → List Order) (journal : List (ℕ × QueueNote)) (gs : List GroupData)
    → map (λ (g : GroupData). g.notes) gs ≡ map (λ (g : GroupData). group_notes orders g.members journal) gs → NotesBy orders journal gs
each_note orders journal [] same = tt
each_note orders journal (g ∷ gs) same = (first_same same, each_note orders journal gs (rest_same same))

all_notes : (orders : ObjectId → ℕ → List Order) (journal : List (ℕ × QueueNote)) (gs : List GroupData)
    → NotesBy orders journal gs → map (λ (g : GroupData). g.notes) gs ≡ map (λ (g : GroupData). group_notes orders g.members journal) gs
all_notes orders journal [] each = refl
all_notes orders journal (g ∷ gs) each =
    ap (λ (x : List GroupNote). x ∷ map (λ (g : GroupData). g.notes) gs) each.0
    ∙ ap (λ (xs : List (List GroupNote)). group_notes orders g.members journal ∷ xs) (all_notes orders journal gs each.1)

-- ---- what is left of a subscription's notes

call_noted : (cs : List (Callback × List Order)) → map (λ (n : CallNote). n.call) (map noted cs) ≡ map first cs
call_noted [] = refl
call_noted (c ∷ cs) = ap (λ (xs : List Callback). c.0 ∷ xs) (call_noted cs)

left_noted : (old new : List (Callback × List Order)) → map (λ (n : CallNote). n.call) (drop (length old) (map noted (old ++ new))) ≡ map first new
left_noted [] new = call_noted new
left_noted (a ∷ old) new = left_noted old new

-- ---- what listeners have heard

reached_on : (c n m k : ℕ) → k ≡ n + m → reached (reached c n) m ≡ reached c k
reached_on c n zero k e = let same : n ≡ k = omega (arith, e) in ap (reached c) same
reached_on c n (suc m) zero e = absurd (omega (arith, e))
reached_on c n (suc m) (suc k) e = ap risen (reached_on c n m k (omega (arith, e)))

heard_more : (notes more after : List GroupNote) (a b : Option (List GroupNote)) → after ≡ notes ++ more → IfSome a (λ heard. heard ≡ notes) → HeardOn more a b → IfSome b (λ heard. heard ≡ after)
heard_more notes more after a None is own on = tt
heard_more notes more after None (Some now) is own on = absurd on
heard_more notes more after (Some was) (Some now) is own on = on ∙ ap (λ (ns : List GroupNote). ns ++ more) own ∙ sym is

listener_on : (more : List GroupNote) (g h : GroupData) → GroupHeard more g h → HasHeard g.number g.notes g.listener → HasHeard h.number h.notes h.listener
listener_on more g h heard own = record {
  tag = heard.listener.tag ∙ own.tag ∙ sym heard.number;
  calls =
      let long : length h.notes ≡ length g.notes + length more = ap (λ (ns : List GroupNote). length ns) heard.notes ∙ length-append g.notes more in
      heard.listener.calls ∙ ap (λ (n : ℕ). reached n (length more)) own.calls ∙ reached_on 0 (length g.notes) (length more) (length h.notes) long;
  heard = heard_more g.notes more h.notes g.listener.heard h.listener.heard heard.notes own.heard heard.listener.heard;
}

-- ---- a turn

abbrev AreListening : List GroupData → Type 0
AreListening gs = AllByRecursion (λ (g : GroupData). HasHeard g.number g.notes g.listener) gs

listeners_on : (s : SubId) (cs : List Callback) (gs hs : List GroupData) → AllHeard s cs gs hs → AreListening gs → AreListening hs
listeners_on s cs [] [] heard own = tt
listeners_on s cs [] (h ∷ hs) heard own = absurd heard
listeners_on s cs (g ∷ gs) [] heard own = absurd heard
listeners_on s cs (g ∷ gs) (h ∷ hs) heard own = (listener_on (turn_of s cs g) g h heard.0 own.0, listeners_on s cs gs hs heard.1 own.1)

rows_stay : (s : SubId) (cs : List Callback) (gs hs : List GroupData) → AllHeard s cs gs hs → map row hs ≡ map row gs
rows_stay s cs [] [] heard = refl
rows_stay s cs [] (h ∷ hs) heard = absurd heard
rows_stay s cs (g ∷ gs) [] heard = absurd heard
rows_stay s cs (g ∷ gs) (h ∷ hs) heard =
    ap (λ (n : ℕ). (n, h.members) ∷ map row hs) heard.0.number
    ∙ ap (λ (ms : List SubId). (g.number, ms) ∷ map row hs) heard.0.members
    ∙ ap (λ (xs : List (ℕ × List SubId)). row g ∷ xs) (rows_stay s cs gs hs heard.1)

module _ (orders : ObjectId → ℕ → List Order) (before : List (ℕ × QueueNote)) (e : ℕ × QueueNote) where
  abbrev now : List (ℕ × QueueNote)
  now = before ++ e ∷ []

  module _ (s : SubId) (only : IsOnly s (deeds_at orders before e)) (cs : List Callback) where
    group_turn : (g : GroupData) → g.notes ≡ group_notes orders g.members before → (has_member s g.members ≡ true → cs ≡ calls s (deeds_at orders before e))
        → g.notes ++ turn_of s cs g ≡ group_notes orders g.members now
    group_turn g is own = by (has_member s g.members) refl ∙ sym (notes_more orders g.members before e)
      where
        notes : List GroupNote
        notes = group_notes orders g.members before

        by : (b : Bool) → has_member s g.members ≡ b → g.notes ++ cond b (turn_notes g.members g.notes s cs) [] ≡ notes ++ group_notes_at orders g.members before e
        by true here =
            ap (λ (ns : List GroupNote). ns ++ turn_notes g.members ns s cs) is
            ∙ ap (λ (xs : List Callback). notes ++ turn_notes g.members notes s xs) (own here)
            ∙ ap (λ (ns : List GroupNote). notes ++ ns) (sym (heard_turn orders g.members before e s only here))
        by false here = ap (λ (ns : List GroupNote). ns ++ []) is ∙ ap (λ (ns : List GroupNote). notes ++ ns) (sym (unheard_turn orders g.members before e s only here))

    notes_on : (gs hs : List GroupData) → AllHeard s cs gs hs → AllByRecursion (λ (g : GroupData). has_member s g.members ≡ true → cs ≡ calls s (deeds_at orders before e)) gs
        → NotesBy orders before gs → NotesBy orders now hs
    notes_on [] [] heard own each = tt
    notes_on [] (h ∷ hs) heard own each = absurd heard
    notes_on (g ∷ gs) [] heard own each = absurd heard
    notes_on (g ∷ gs) (h ∷ hs) heard own each = (
      heard.0.notes ∙ group_turn g each.0 own.0 ∙ ap (λ (ms : List SubId). group_notes orders ms now) (sym heard.0.members),
      notes_on gs hs heard.1 own.1 each.1,
    )

  -- the callbacks that are left are those of the entry, where so many were heard as there were before it
  module _ (s : SubId) (count cut : ℕ) (notes : List CallNote) (is : notes ≡ notes_of (Sub s) (deeds orders now)) (cuts : count ≤ length notes → cut ≡ count) where
    split_notes : notes ≡ map noted (calls_of (Sub s) (deeds orders before) ++ calls_of (Sub s) (deeds_at orders before e))
    split_notes = is ∙ ap (notes_of (Sub s)) (deeds_more orders before e) ∙ ap (map noted) (flat_map-append (calls_in (Sub s)) (deeds orders before) (deeds_at orders before e))

    own_left : count ≡ length (calls_of (Sub s) (deeds orders before)) → map (λ (n : CallNote). n.call) (drop cut notes) ≡ calls s (deeds_at orders before e)
    own_left counted =
        let old : List (Callback × List Order) = calls_of (Sub s) (deeds orders before) in
        let new : List (Callback × List Order) = calls_of (Sub s) (deeds_at orders before e) in
        let long : length notes ≡ length old + length new = ap (λ (ns : List CallNote). length ns) split_notes ∙ length-map (old ++ new) noted ∙ length-append old new in
        let at : cut ≡ length old = cuts (omega (arith, counted, long)) ∙ counted in
        ap (λ (n : ℕ). map (λ (n : CallNote). n.call) (drop n notes)) at
        ∙ ap (λ (ns : List CallNote). map (λ (n : CallNote). n.call) (drop (length old) ns)) split_notes
        ∙ left_noted old new

    pub all_left : (gs : List GroupData) → AllByRecursion (λ (g : GroupData). has_member s g.members ≡ true → count ≡ length (flat_map (told_of s) g.notes)) gs
        → NotesBy orders before gs → AllByRecursion (λ (g : GroupData). has_member s g.members ≡ true → map (λ (n : CallNote). n.call) (drop cut notes) ≡ calls s (deeds_at orders before e)) gs
    all_left [] counted each = tt
    all_left (g ∷ gs) counted each = (
      λ here. own_left
          (counted.0 here ∙ ap (λ (ns : List GroupNote). length (flat_map (told_of s) ns)) each.0
          ∙ ap (λ (cs : List Callback). length cs) (told_of_all orders g.members s before here) ∙ length-map (calls_of (Sub s) (deeds orders before)) first),
      all_left gs counted.1 each.1,
    )

  silent_on : ((t : SubId) → calls_of (Sub t) (deeds_at orders before e) ≡ []) → (gs : List GroupData) → NotesBy orders before gs → NotesBy orders now gs
  silent_on none [] each = tt
  silent_on none (g ∷ gs) each = (
    each.0 ∙ sym (notes_more orders g.members before e ∙ ap (λ (ns : List GroupNote). group_notes orders g.members before ++ ns) (silent_turn orders g.members before e (record { client = 0; number = 0 }) none) ∙ append-nil (group_notes orders g.members before)),
    silent_on none gs each.1,
  )

-- ---- the groups of a seat

module _ {L : Type 0} (script : ScriptData) (hall : HallValue) (seat : Seat L) (gs : List GroupData) (told : ℕ) (e : ℕ × QueueNote)
    (there : told < length (journal_in seat)) (next : take (told + 1) (journal_in seat) ≡ take told (journal_in seat) ++ e ∷ []) (hears : IsHearing script hall seat gs told) where
  abbrev orders : ObjectId → ℕ → List Order
  orders = orders_in hall.objects

  abbrev before : List (ℕ × QueueNote)
  before = take told (journal_in seat)

  whole : journal_in seat ≡ before ++ e ∷ []
  whole = sym (take_all (told + 1) (journal_in seat) hears.most) ∙ next

  each : NotesBy orders before gs
  each = each_note orders before gs hears.notes

  still_within : (told + 1) ≤ length (journal_in seat)
  still_within = omega (arith, there)

  -- an entry that calls back this subscription
  pub heard_next : (s : SubId) (count cut : ℕ) (notes : List CallNote) (hs : List GroupData) → sub_in e.1 ≡ Some s → notes ≡ notes_of (Sub s) (deeds orders (journal_in seat)) → (count ≤ length notes → cut ≡ count)
      → AllByRecursion (λ (g : GroupData). has_member s g.members ≡ true → count ≡ length (flat_map (told_of s) g.notes)) gs
      → AllHeard s (map (λ (n : CallNote). n.call) (drop cut notes)) gs hs → IsHearing script hall seat hs (told + 1)
  heard_next s count cut notes hs is noted cuts counted heard =
      let cs : List Callback = map (λ (n : CallNote). n.call) (drop cut notes) in
      let only : IsOnly s (deeds_at orders before e) = λ t other. only_served orders before (deeds orders before) t s e.1 is other in
      let own = all_left orders before e s count cut notes (noted ∙ ap (λ (j : List (ℕ × QueueNote)). notes_of (Sub s) (deeds orders j)) whole) cuts gs counted each in
      record {
        within = still_within;
        most = let most = hears.most in omega (arith, most);
        rows = rows_stay s cs gs hs heard ∙ hears.rows;
        notes = subst (λ (j : List (ℕ × QueueNote)). map (λ (g : GroupData). g.notes) hs ≡ map (λ (g : GroupData). group_notes orders g.members j) hs) (sym next)
            (all_notes orders (before ++ e ∷ []) hs (notes_on orders before e s only cs gs hs heard own each));
        listeners = All-from_recursion (λ (g : GroupData). HasHeard g.number g.notes g.listener) hs
            (listeners_on s cs gs hs heard (recursion_from_All (λ (g : GroupData). HasHeard g.number g.notes g.listener) gs hears.listeners));
      }

  -- one that calls back none
  pub silent_next : sub_in e.1 ≡ None → IsHearing script hall seat gs (told + 1)
  silent_next is = record {
    within = still_within;
    most = let most = hears.most in omega (arith, most);
    rows = hears.rows;
    notes = subst (λ (j : List (ℕ × QueueNote)). map (λ (g : GroupData). g.notes) gs ≡ map (λ (g : GroupData). group_notes orders g.members j) gs) (sym next)
        (all_notes orders (before ++ e ∷ []) gs (silent_on orders before e (λ t. none_served orders before (deeds orders before) t e.1 is) gs each));
    listeners = hears.listeners;
  }
