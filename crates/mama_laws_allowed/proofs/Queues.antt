-- What a queue puts: calm events by each entry, and Bye with the second Fin, which is the last entry.
use Rattle.std.specs.Prelude.{not, ◌==◌, nat_lt}
use Rattle.std.specs.List.{AllByRecursion, flat_map, list_any, list_all}
use Rattle.std.proofs.Common.{◌≡◌, ℕ, zero, suc, ◌+◌, ◌≤◌, Bool, true, false, ◌&&◌, ◌||◌, cond, List, [], ◌∷◌, ◌++◌, map, refl, sym, ◌∙◌, ap, subst, arith, append_assoc, append-nil}
use Rattle.std.proofs.lemmas.Bool.{and_parts, and_from, not-true, or_right}
use Rattle.std.proofs.lemmas.List.Concat.{flat_map-append}
use Rattle.std.proofs.lemmas.List.Folds.{list_any-append, list_all-append}
use Rattle.std.proofs.lemmas.List.Elements.{recursion_from_All}
use Rattle.mama_journal.specs.Journal.{puts_after, count_of}
use Rattle.mama_journal.specs.Lane.{by_port}
use Rattle.mama_event.specs.Lawful.{IsLawful}
use Rattle.mama_event.specs.LawfulLaws.{IsLawful-at}
use Rattle.mama_event.specs.Ports.{queue_port_of_timers}
use Rattle.mama_event.specs.ToBridge as bridge
use Rattle.mama_event.specs.ToTimers as timers
use Rattle.mama_event.specs.ToQueue as queue
use Rattle.mama_event.specs.declared.shape.Bounds.{Bounds}
use Rattle.mama_event.specs.declared.ids.ObjectId.{ObjectId}
use Rattle.mama_event.specs.declared.ids.ObjectId.TheVariants.{Sub, Timer, Inbox}
use Rattle.mama_event.specs.declared.callback.Callback.{Callback}
use Rattle.mama_event.specs.declared.callback.Callback.TheVariants as on
use Rattle.mama_event.specs.declared.order.Order.{Order}
use Rattle.mama_event.specs.declared.order.Order.TheVariants as order
use Rattle.mama_event.specs.declared.to_queue.QueueNote.{QueueNote}
use Rattle.mama_event.specs.declared.to_queue.QueueNote.TheVariants as q
use Rattle.mama_event.specs.declared.to_bridge.BridgeNote.TheVariants as b
use Rattle.mama_event.specs.declared.to_timers.TimersNote.TheVariants as t
use Rattle.mama_event.specs.declared.watch.WatchRow.{WatchRow}
use Rattle.mama_event.specs.declared.watch.WatchNote.{WatchNote}
use Rattle.mama_event.specs.declared.watch.WatchNote.TheVariants.{Retry, Timeout}
use Rattle.mama_rules_queue.specs.Queue.{Deed, handled, called, QueuePut, to_bridge, to_timers, order_put, wish_put, puts_of, is_fin, bye_put, deeds, deeds_at}
use Rattle.mama_rules_queue.specs.Watch.{is_missed, counted, watch_note, watch_notes_at, wish_in, wishes_at, watched_puts_at}
use Rattle.mama_rules_rounds.specs.Client.{bridge_part, timers_part}
use Rattle.mama_rules_rounds.specs.Setting.{orders_by, rows_on}
use Rattle.mama_laws_allowed.specs.Allowed.{QueuePutsAreLawful}
use Rattle.mama_laws_allowed.proofs.Following.{ruled, is_calm, comes, calm_first}

-- ---- Fins in a queue's journal

abbrev ones : Bool → ℕ
ones true = 1
ones false = 0

ones_one : (b : Bool) → (ones b == 1) ≡ b
ones_one true = refl
ones_one false = refl

or_false : (b : Bool) → (b || false) ≡ b
or_false true = refl
or_false false = refl

-- the last event of a port was taken
abbrev flag : ℕ → List (ℕ × QueueNote) → Bool
flag port before = list_any queue.is_last (by_port port before)

fin_is_last : (port : ℕ) (n : QueueNote) → is_fin (port, n) ≡ queue.is_last n
fin_is_last port (q.Create slot object make tag) = refl
fin_is_last port (q.Deliver slot sub msg) = refl
fin_is_last port (q.Reply slot inbox body) = refl
fin_is_last port (q.Bad slot sub kind sender seq bytes) = refl
fin_is_last port (q.BadReply slot inbox bytes) = refl
fin_is_last port (q.Tick slot timer moment) = refl
fin_is_last port (q.Gone slot object) = refl
fin_is_last port q.Fin = refl

count_push : (before : List (ℕ × QueueNote)) (e : ℕ × QueueNote) → count_of is_fin (before ++ e ∷ []) ≡ count_of is_fin before + ones (is_fin e)
count_push [] e = one (is_fin e)
  where
    one : (b : Bool) → cond b (suc zero) zero ≡ zero + ones b
    one true = refl
    one false = refl
count_push (x ∷ xs) e = more (is_fin x) (count_push xs e)
  where
    more : (b : Bool) → count_of is_fin (xs ++ e ∷ []) ≡ count_of is_fin xs + ones (is_fin e)
        → cond b (suc (count_of is_fin (xs ++ e ∷ []))) (count_of is_fin (xs ++ e ∷ [])) ≡ cond b (suc (count_of is_fin xs)) (count_of is_fin xs) + ones (is_fin e)
    more true h = omega (arith, h)
    more false h = h

by_port-append : (port : ℕ) (xs ys : List (ℕ × QueueNote)) → by_port port (xs ++ ys) ≡ by_port port xs ++ by_port port ys
by_port-append port [] ys = refl
by_port-append port (x ∷ xs) ys = more (x.0 == port) (by_port-append port xs ys)
  where
    more : (b : Bool) → by_port port (xs ++ ys) ≡ by_port port xs ++ by_port port ys
        → cond b (x.1 ∷ by_port port (xs ++ ys)) (by_port port (xs ++ ys)) ≡ cond b (x.1 ∷ by_port port xs) (by_port port xs) ++ by_port port ys
    more true h = ap (λ (ns : List QueueNote). x.1 ∷ ns) h
    more false h = h

flag_push : (port : ℕ) (before : List (ℕ × QueueNote)) (e : ℕ × QueueNote) → flag port (before ++ e ∷ []) ≡ (flag port before || list_any queue.is_last (by_port port (e ∷ [])))
flag_push port before e = ap (list_any queue.is_last) (by_port-append port before (e ∷ [])) ∙ list_any-append queue.is_last (by_port port before) (by_port port (e ∷ []))

-- where one more comes by a port, its last event has not come
free : (port : ℕ) (before : List (ℕ × QueueNote)) (n : QueueNote) (es : List (ℕ × QueueNote)) → by_port port ((port, n) ∷ es) ≡ n ∷ by_port port es
    → IsLawful queue.is_last (queue.fits port) (by_port port (before ++ (port, n) ∷ es)) → flag port before ≡ false
free port before n es here lawful =
    let whole : by_port port (before ++ (port, n) ∷ es) ≡ by_port port before ++ n ∷ by_port port es =
    by_port-append port before ((port, n) ∷ es) ∙ ap (λ (ns : List QueueNote). by_port port before ++ ns) here in
    not-true (flag port before)
    (and_parts (not (flag port before)) (queue.fits port (by_port port before) n)
    (IsLawful-at queue.is_last (queue.fits port) (by_port port before) n (by_port port es) (subst (IsLawful queue.is_last (queue.fits port)) whole lawful))).0

-- ---- the wishes of watches

-- at a Fin no watch wishes
no_wishes : (orders : ObjectId → ℕ → List Order) (rows : List WatchRow) (before : List (ℕ × QueueNote)) (port : ℕ) → wishes_at orders rows before (port, q.Fin) ≡ []
no_wishes orders [] before port = refl
no_wishes orders (row ∷ rows) before port =
    more row (wishes_at orders rows before (port, q.Fin)) (is_missed row.sub (before ++ (port, q.Fin) ∷ []) (deeds orders (before ++ (port, q.Fin) ∷ [])))
    (watch_note row.retries (suc (counted orders row before))) (no_wishes orders rows before port)
  where
    more : (row : WatchRow) (rest : List QueuePut) (missed : Bool) (notes : ℕ → List WatchNote) → rest ≡ [] → flat_map (wish_in row) (flat_map notes (cond missed [] [])) ++ rest ≡ []
    more row rest true notes h = h
    more row rest false notes h = h

-- so it is the same whether wishes go behind Bye or before it
swapped : (orders : ObjectId → ℕ → List Order) (rows : List WatchRow) (before : List (ℕ × QueueNote)) (e : ℕ × QueueNote)
    → bye_put before e ++ wishes_at orders rows before e ≡ wishes_at orders rows before e ++ bye_put before e
swapped orders rows before (port, q.Fin) =
    let bye : List QueuePut = bye_put before (port, q.Fin) in
    let none : wishes_at orders rows before (port, q.Fin) ≡ [] = no_wishes orders rows before port in
    ap (λ (ws : List QueuePut). bye ++ ws) none ∙ append-nil bye ∙ sym (ap (λ (ws : List QueuePut). ws ++ bye) none)
swapped orders rows before (port, n) = sym (append-nil (wishes_at orders rows before (port, n)))

-- ---- what is put on one of the two lanes

module _ {N : Type 0} (last within : N → Bool) (part : QueuePut → List N)
    (order_calm : (o : Order) → list_all (is_calm last within) (part (order_put o)) ≡ true)
    (wish_calm : (o : ObjectId) (c : Callback) → list_all (is_calm last within) (flat_map part (wish_put o c)) ≡ true)
    (row_calm : (row : WatchRow) (n : WatchNote) → list_all (is_calm last within) (flat_map part (wish_in row n)) ≡ true)
    (bye : N) (bye_last : last bye ≡ true) (bye_within : within bye ≡ true)
    (byes : (test : Bool) → flat_map part (cond test (to_bridge b.Bye ∷ to_timers t.Bye ∷ []) []) ≡ cond test (bye ∷ []) [])
    (orders : ObjectId → ℕ → List Order) (rows : List WatchRow) where
  both_calm : (xs ys : List N) → list_all (is_calm last within) xs ≡ true → list_all (is_calm last within) ys ≡ true → list_all (is_calm last within) (xs ++ ys) ≡ true
  both_calm xs ys hx hy = list_all-append (is_calm last within) xs ys ∙ and_from (list_all (is_calm last within) xs) (list_all (is_calm last within) ys) hx hy

  orders_calm : (os : List Order) → list_all (is_calm last within) (flat_map part (map order_put os)) ≡ true
  orders_calm [] = refl
  orders_calm (o ∷ os) = both_calm (part (order_put o)) (flat_map part (map order_put os)) (order_calm o) (orders_calm os)

  deeds_calm : (ds : List Deed) → list_all (is_calm last within) (flat_map part (flat_map puts_of ds)) ≡ true
  deeds_calm [] = refl
  deeds_calm (handled sub msg ∷ ds) = deeds_calm ds
  deeds_calm (called object call os ∷ ds) =
      ap (list_all (is_calm last within)) (flat_map-append part (wish_put object call ++ map order_put os) (flat_map puts_of ds)
      ∙ ap (λ (ns : List N). ns ++ flat_map part (flat_map puts_of ds)) (flat_map-append part (wish_put object call) (map order_put os)))
      ∙ both_calm (flat_map part (wish_put object call) ++ flat_map part (map order_put os)) (flat_map part (flat_map puts_of ds))
      (both_calm (flat_map part (wish_put object call)) (flat_map part (map order_put os)) (wish_calm object call) (orders_calm os)) (deeds_calm ds)

  each_calm : {X : Type 0} (f : X → List QueuePut) → ((x : X) → list_all (is_calm last within) (flat_map part (f x)) ≡ true) → (xs : List X)
      → list_all (is_calm last within) (flat_map part (flat_map f xs)) ≡ true
  each_calm f calm [] = refl
  each_calm f calm (x ∷ xs) =
      ap (list_all (is_calm last within)) (flat_map-append part (f x) (flat_map f xs)) ∙ both_calm (flat_map part (f x)) (flat_map part (flat_map f xs)) (calm x) (each_calm f calm xs)

  wishes_calm : (before : List (ℕ × QueueNote)) (e : ℕ × QueueNote) → list_all (is_calm last within) (flat_map part (wishes_at orders rows before e)) ≡ true
  wishes_calm before e =
      each_calm (λ (row : WatchRow). flat_map (wish_in row) (watch_notes_at orders row before e))
      (λ row. each_calm (wish_in row) (row_calm row) (watch_notes_at orders row before e)) rows

  abbrev put_after : List (ℕ × QueueNote) → List (ℕ × QueueNote) → List N
  put_after before es = flat_map part (puts_after (watched_puts_at orders rows) before es)

  finish : (test : Bool) (front rest : List N) → list_any last front ≡ false → ((further : List N) → list_any last further ≡ test → ruled last within further rest ≡ true)
      → ruled last within front (cond test (bye ∷ []) [] ++ rest) ≡ true
  finish true front rest none more = comes last within front bye rest none bye_within
      (more (front ++ bye ∷ []) (list_any-append last front (bye ∷ []) ∙ or_right (list_any last front) (last bye || false) (or_false (last bye) ∙ bye_last)))
  finish false front rest none more = more front none

  -- an entry more, where Bye was not said
  enter : (before : List (ℕ × QueueNote)) (e : ℕ × QueueNote) (es : List (ℕ × QueueNote)) (sofar : List N) (test : Bool) → list_any last sofar ≡ false
      → (is_fin e && count_of is_fin before == 1) ≡ test
      → ((front : List N) → list_any last front ≡ test → ruled last within front (put_after (before ++ e ∷ []) es) ≡ true)
      → ruled last within sofar (put_after before (e ∷ es)) ≡ true
  enter before e es sofar test none is more =
      let deeds : List QueuePut = flat_map puts_of (deeds_at orders before e) in
      let wishes : List QueuePut = wishes_at orders rows before e in
      let rest : List N = put_after (before ++ e ∷ []) es in
      let said : flat_map part (bye_put before e) ≡ cond test (bye ∷ []) [] =
      ap (λ (x : Bool). flat_map part (cond x (to_bridge b.Bye ∷ to_timers t.Bye ∷ []) [])) is ∙ byes test in
      let behind : (deeds ++ bye_put before e) ++ wishes ≡ (deeds ++ wishes) ++ bye_put before e =
      append_assoc deeds (bye_put before e) wishes ∙ ap (λ (ps : List QueuePut). deeds ++ ps) (swapped orders rows before e) ∙ sym (append_assoc deeds wishes (bye_put before e)) in
      let calm : List N = flat_map part (deeds ++ wishes) in
      let parts : put_after before (e ∷ es) ≡ calm ++ (cond test (bye ∷ []) [] ++ rest) =
      flat_map-append part ((deeds ++ bye_put before e) ++ wishes) (puts_after (watched_puts_at orders rows) (before ++ e ∷ []) es)
      ∙ ap (λ (ns : List N). ns ++ rest)
      (ap (flat_map part) behind ∙ flat_map-append part (deeds ++ wishes) (bye_put before e) ∙ ap (λ (ns : List N). calm ++ ns) said)
      ∙ append_assoc calm (cond test (bye ∷ []) []) rest in
      ap (ruled last within sofar) parts
      ∙ calm_first last within sofar calm (cond test (bye ∷ []) [] ++ rest) none
      (ap (list_all (is_calm last within)) (flat_map-append part deeds wishes)
      ∙ both_calm (flat_map part deeds) (flat_map part wishes) (deeds_calm (deeds_at orders before e)) (wishes_calm before e))
      (λ front none_yet. finish test front rest none_yet more)

  all_ruled : (before es : List (ℕ × QueueNote)) → AllByRecursion (λ (e : ℕ × QueueNote). e.0 ≤ queue_port_of_timers) es
      → ((port : ℕ) → IsLawful queue.is_last (queue.fits port) (by_port port (before ++ es)))
      → count_of is_fin before ≡ ones (flag 0 before) + ones (flag 1 before)
      → (sofar : List N) → list_any last sofar ≡ (flag 0 before && flag 1 before) → ruled last within sofar (put_after before es) ≡ true
  all_ruled before [] ports each counted sofar said = refl
  all_ruled before ((zero, n) ∷ es) ports each counted sofar said =
      let none : flag 0 before ≡ false = free 0 before n es refl (each 0) in
      let count : count_of is_fin before ≡ ones (flag 1 before) = counted ∙ ap (λ (b : Bool). ones b + ones (flag 1 before)) none ∙ zeroed (ones (flag 1 before)) in
      let own : flag 0 (before ++ (0, n) ∷ []) ≡ queue.is_last n = flag_push 0 before (0, n) ∙ ap (λ (b : Bool). b || (queue.is_last n || false)) none ∙ or_false (queue.is_last n) in
      let other : flag 1 (before ++ (0, n) ∷ []) ≡ flag 1 before = flag_push 1 before (0, n) ∙ or_false (flag 1 before) in
      let test : (is_fin (0, n) && count_of is_fin before == 1) ≡ (queue.is_last n && flag 1 before) =
      ap (λ (k : ℕ). is_fin (0, n) && k == 1) count ∙ ap (λ (b : Bool). is_fin (0, n) && b) (ones_one (flag 1 before)) ∙ ap (λ (b : Bool). b && flag 1 before) (fin_is_last 0 n) in
      enter before (0, n) es sofar (queue.is_last n && flag 1 before) (said ∙ ap (λ (b : Bool). b && flag 1 before) none) test
      (λ front is. all_ruled (before ++ (0, n) ∷ []) es ports.1
      (λ port. subst (λ (j : List (ℕ × QueueNote)). IsLawful queue.is_last (queue.fits port) (by_port port j)) (sym (append_assoc before ((0, n) ∷ []) es)) (each port))
      (count_push before (0, n) ∙ ap (λ (k : ℕ). k + ones (is_fin (0, n))) count ∙ ap (λ (b : Bool). ones (flag 1 before) + ones b) (fin_is_last 0 n)
      ∙ turned (ones (flag 1 before)) (ones (queue.is_last n)) ∙ sym (ap (λ (b : Bool). ones b + ones (flag 1 (before ++ (0, n) ∷ []))) own ∙ ap (λ (b : Bool). ones (queue.is_last n) + ones b) other))
      front (is ∙ sym (ap (λ (b : Bool). b && flag 1 (before ++ (0, n) ∷ [])) own ∙ ap (λ (b : Bool). queue.is_last n && b) other)))
    where
      zeroed : (a : ℕ) → 0 + a ≡ a
      zeroed a = omega arith

      turned : (a b : ℕ) → a + b ≡ b + a
      turned a b = omega arith
  all_ruled before ((suc zero, n) ∷ es) ports each counted sofar said =
      let none : flag 1 before ≡ false = free 1 before n es refl (each 1) in
      let count : count_of is_fin before ≡ ones (flag 0 before) = counted ∙ ap (λ (b : Bool). ones (flag 0 before) + ones b) none ∙ plain (ones (flag 0 before)) in
      let own : flag 1 (before ++ (1, n) ∷ []) ≡ queue.is_last n = flag_push 1 before (1, n) ∙ ap (λ (b : Bool). b || (queue.is_last n || false)) none ∙ or_false (queue.is_last n) in
      let other : flag 0 (before ++ (1, n) ∷ []) ≡ flag 0 before = flag_push 0 before (1, n) ∙ or_false (flag 0 before) in
      let test : (is_fin (1, n) && count_of is_fin before == 1) ≡ (flag 0 before && queue.is_last n) =
      ap (λ (k : ℕ). is_fin (1, n) && k == 1) count ∙ ap (λ (b : Bool). is_fin (1, n) && b) (ones_one (flag 0 before)) ∙ ap (λ (b : Bool). b && flag 0 before) (fin_is_last 1 n) ∙ crossed (queue.is_last n) (flag 0 before) in
      enter before (1, n) es sofar (flag 0 before && queue.is_last n) (said ∙ ap (λ (b : Bool). flag 0 before && b) none ∙ never (flag 0 before)) test
      (λ front is. all_ruled (before ++ (1, n) ∷ []) es ports.1
      (λ port. subst (λ (j : List (ℕ × QueueNote)). IsLawful queue.is_last (queue.fits port) (by_port port j)) (sym (append_assoc before ((1, n) ∷ []) es)) (each port))
      (count_push before (1, n) ∙ ap (λ (k : ℕ). k + ones (is_fin (1, n))) count ∙ ap (λ (b : Bool). ones (flag 0 before) + ones b) (fin_is_last 1 n)
      ∙ sym (ap (λ (b : Bool). ones (flag 0 (before ++ (1, n) ∷ [])) + ones b) own ∙ ap (λ (b : Bool). ones b + ones (queue.is_last n)) other))
      front (is ∙ sym (ap (λ (b : Bool). flag 0 (before ++ (1, n) ∷ []) && b) own ∙ ap (λ (b : Bool). b && queue.is_last n) other)))
    where
      plain : (a : ℕ) → a + 0 ≡ a
      plain a = omega arith

      never : (b : Bool) → (b && false) ≡ false
      never true = refl
      never false = refl

      crossed : (a b : Bool) → (a && b) ≡ (b && a)
      crossed true true = refl
      crossed true false = refl
      crossed false true = refl
      crossed false false = refl
  all_ruled before ((suc (suc k), n) ∷ es) ports each counted sofar said = absurd (past k ports.0)
    where
      past : (k : ℕ) → suc (suc k) ≤ 1 → ⊥
      past k h = omega (arith, h)

-- ---- both lanes

bridge_order : (bounds : Bounds) (o : Order) → list_all (is_calm bridge.is_last (bridge.is_within bounds)) (bridge_part (order_put o)) ≡ true
bridge_order bounds (order.Stop sub) = refl
bridge_order bounds (order.Disarm timer) = refl
bridge_order bounds (order.Close inbox) = refl
bridge_order bounds (order.Ask inbox topic fids) = refl

timers_order : (bounds : Bounds) (o : Order) → list_all (is_calm timers.is_last (timers.is_within bounds)) (timers_part (order_put o)) ≡ true
timers_order bounds (order.Stop sub) = refl
timers_order bounds (order.Disarm timer) = refl
timers_order bounds (order.Close inbox) = refl
timers_order bounds (order.Ask inbox topic fids) = refl

bridge_wish : (bounds : Bounds) (o : ObjectId) (c : Callback) → list_all (is_calm bridge.is_last (bridge.is_within bounds)) (flat_map bridge_part (wish_put o c)) ≡ true
bridge_wish bounds (Sub sub) (on.RecapRequest sender) = refl
bridge_wish bounds (Sub sub) _ = refl
bridge_wish bounds (Timer timer) c = refl
bridge_wish bounds (Inbox inbox) c = refl

timers_wish : (bounds : Bounds) (o : ObjectId) (c : Callback) → list_all (is_calm timers.is_last (timers.is_within bounds)) (flat_map timers_part (wish_put o c)) ≡ true
timers_wish bounds (Sub sub) (on.RecapRequest sender) = refl
timers_wish bounds (Sub sub) _ = refl
timers_wish bounds (Timer timer) c = refl
timers_wish bounds (Inbox inbox) c = refl

bridge_byes : (test : Bool) → flat_map bridge_part (cond test (to_bridge b.Bye ∷ to_timers t.Bye ∷ []) []) ≡ cond test (b.Bye ∷ []) []
bridge_byes true = refl
bridge_byes false = refl

timers_byes : (test : Bool) → flat_map timers_part (cond test (to_bridge b.Bye ∷ to_timers t.Bye ∷ []) []) ≡ cond test (t.Bye ∷ []) []
timers_byes true = refl
timers_byes false = refl

bridge_row : (bounds : Bounds) (row : WatchRow) (n : WatchNote) → list_all (is_calm bridge.is_last (bridge.is_within bounds)) (flat_map bridge_part (wish_in row n)) ≡ true
bridge_row bounds row (Retry count moment) = either (nat_lt 0 row.sender)
  where
    either : (test : Bool) → list_all (is_calm bridge.is_last (bridge.is_within bounds)) (flat_map bridge_part (cond test (to_bridge (b.RecapWish row.sub row.sender) ∷ []) [])) ≡ true
    either true = refl
    either false = refl
bridge_row bounds row (Timeout moment) = refl

timers_row : (bounds : Bounds) (row : WatchRow) (n : WatchNote) → list_all (is_calm timers.is_last (timers.is_within bounds)) (flat_map timers_part (wish_in row n)) ≡ true
timers_row bounds row (Retry count moment) = either (nat_lt 0 row.sender)
  where
    either : (test : Bool) → list_all (is_calm timers.is_last (timers.is_within bounds)) (flat_map timers_part (cond test (to_bridge (b.RecapWish row.sub row.sender) ∷ []) [])) ≡ true
    either true = refl
    either false = refl
timers_row bounds row (Timeout moment) = refl

pub queues_lawful : QueuePutsAreLawful
queues_lawful setting bounds queue_number journal taken =
    let ports = recursion_from_All (λ (e : ℕ × QueueNote). e.0 ≤ queue_port_of_timers) journal taken.ports in
    record {
      to_bridge = record {
        each = all_ruled bridge.is_last (bridge.is_within bounds) bridge_part (bridge_order bounds) (bridge_wish bounds) (bridge_row bounds) b.Bye refl refl bridge_byes (orders_by setting) (rows_on queue_number setting.watches) [] journal ports taken.each refl [] refl;
      };
      to_timers = record {
        each = all_ruled timers.is_last (timers.is_within bounds) timers_part (timers_order bounds) (timers_wish bounds) (timers_row bounds) t.Bye refl refl timers_byes (orders_by setting) (rows_on queue_number setting.watches) [] journal ports taken.each refl [] refl;
      };
    }
