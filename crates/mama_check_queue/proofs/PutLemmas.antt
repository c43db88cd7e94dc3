-- What was put, with some events more.
use Rattle.std.specs.Prelude.{Bool, true, false, ◌&&◌, ◌==◌, map, if◌then◌else◌}
use Rattle.std.specs.List.{flat_map}
use Rattle.std.proofs.Common.{◌≡◌, ℕ, ◌+◌, ◌<◌, ◌≤◌, List, [], ◌∷◌, ◌++◌, length, take, get_or, ap, sym, ◌∙◌, append-nil, append_assoc}
use Rattle.std.proofs.lemmas.List.{map-append, take_more, take_all}
use Rattle.std.proofs.lemmas.List.Concat.{flat_map-append}
use Rattle.mama_check_order.specs.Numbered.{from_entry}
use Rattle.mama_event.specs.declared.to_bridge.BridgeNote.{BridgeNote}
use Rattle.mama_event.specs.declared.to_timers.TimersNote.{TimersNote}
use Rattle.mama_journal.specs.Journal.{count_of}
use Rattle.mama_event.specs.declared.to_bridge.BridgeNote.TheVariants as b
use Rattle.mama_event.specs.declared.to_timers.TimersNote.TheVariants as t
use Rattle.mama_event.specs.declared.to_queue.QueueNote.{QueueNote}
use Rattle.mama_event.specs.declared.order.Order.{Order}
use Rattle.mama_rules_queue.specs.Queue.{QueuePut, to_bridge, to_timers, order_put, bye_put, is_fin}
use Rattle.mama_rules_rounds.specs.Client.{bridge_part, timers_part}
use Rattle.mama_check_queue.specs.Puts.{PutData, put_all}

-- no event more
pub put_none : (n : ℕ) (p : PutData) → put_all n [] p ≡ p
put_none n p =
    ap (λ (bs : List (ℕ × BridgeNote)). record { bridge = bs; timers = p.timers ++ [] }) (append-nil p.bridge)
    ∙ ap (λ (ts : List (ℕ × TimersNote)). record { bridge = p.bridge; timers = ts }) (append-nil p.timers)

part_more : {V : Type 0} (n : ℕ) (part : QueuePut → List V) (have : List (ℕ × V)) (ps qs : List QueuePut)
    → have ++ from_entry n (flat_map part (ps ++ qs)) ≡ (have ++ from_entry n (flat_map part ps)) ++ from_entry n (flat_map part qs)
part_more {V} n part have ps qs =
    ap (λ (vs : List V). have ++ from_entry n vs) (flat_map-append part ps qs)
    ∙ ap (λ (xs : List (ℕ × V)). have ++ xs) (map-append (λ (v : V). (n, v)) (flat_map part ps) (flat_map part qs))
    ∙ sym (append_assoc have (from_entry n (flat_map part ps)) (from_entry n (flat_map part qs)))

-- some events, and then others
pub put_more : (n : ℕ) (ps qs : List QueuePut) (p : PutData) → put_all n (ps ++ qs) p ≡ put_all n qs (put_all n ps p)
put_more n ps qs p =
    ap (λ (bs : List (ℕ × BridgeNote)). record { bridge = bs; timers = p.timers ++ from_entry n (flat_map timers_part (ps ++ qs)) }) (part_more n bridge_part p.bridge ps qs)
    ∙ ap (λ (ts : List (ℕ × TimersNote)). record { bridge = (p.bridge ++ from_entry n (flat_map bridge_part ps)) ++ from_entry n (flat_map bridge_part qs); timers = ts }) (part_more n timers_part p.timers ps qs)

-- one event
pub put_to_bridge : (n : ℕ) (note : BridgeNote) (p : PutData) → record { bridge = p.bridge ++ (n, note) ∷ []; timers = p.timers } ≡ put_all n (to_bridge note ∷ []) p
put_to_bridge n note p = sym (ap (λ (ts : List (ℕ × TimersNote)). record { bridge = p.bridge ++ (n, note) ∷ []; timers = ts }) (append-nil p.timers))

pub put_to_timers : (n : ℕ) (note : TimersNote) (p : PutData) → record { bridge = p.bridge; timers = p.timers ++ (n, note) ∷ [] } ≡ put_all n (to_timers note ∷ []) p
put_to_timers n note p = sym (ap (λ (bs : List (ℕ × BridgeNote)). record { bridge = bs; timers = p.timers ++ (n, note) ∷ [] }) (append-nil p.bridge))

-- the first orders of a callback, and one more
pub orders_none : (n : ℕ) (os : List Order) (p : PutData) → p ≡ put_all n (map order_put (take 0 os)) p
orders_none n [] p = sym (put_none n p)
orders_none n (o ∷ os) p = sym (put_none n p)

pub orders_more : (n : ℕ) (os : List Order) (i : ℕ) (order : Order) (p q r : PutData) → i < length os → order ≡ get_or os i order → q ≡ put_all n (map order_put (take i os)) p
    → r ≡ put_all n (order_put order ∷ []) q → r ≡ put_all n (map order_put (take (i + 1) os)) p
orders_more n os i order p q r within here so_far is =
    is ∙ ap (put_all n (order_put order ∷ [])) so_far ∙ sym (put_more n (map order_put (take i os)) (order_put order ∷ []) p)
    ∙ ap (λ (ps : List QueuePut). put_all n ps p) (sym (map-append order_put (take i os) (order ∷ [])))
    ∙ ap (λ (xs : List Order). put_all n (map order_put xs) p) (ap (λ (x : Order). take i os ++ x ∷ []) here ∙ sym (take_more os i order within))

pub orders_all : (n : ℕ) (os : List Order) (i : ℕ) (p q : PutData) → length os ≤ i → q ≡ put_all n (map order_put (take i os)) p → q ≡ put_all n (map order_put os) p
orders_all n os i p q whole is = is ∙ ap (λ (xs : List Order). put_all n (map order_put xs) p) (take_all i os whole)

-- some events, and then others
pub put_then : (n : ℕ) (ps qs : List QueuePut) (p q r : PutData) → q ≡ put_all n ps p → r ≡ put_all n qs q → r ≡ put_all n (ps ++ qs) p
put_then n ps qs p q r first is = is ∙ ap (put_all n qs) first ∙ sym (put_more n ps qs p)

-- the Byes
pub byes : (n : ℕ) (p q r : PutData) → q ≡ put_all n (to_bridge b.Bye ∷ []) p → r ≡ put_all n (to_timers t.Bye ∷ []) q → r ≡ put_all n (to_bridge b.Bye ∷ to_timers t.Bye ∷ []) p
byes n p q r first second = put_then n (to_bridge b.Bye ∷ []) (to_timers t.Bye ∷ []) p q r first second

abbrev bye_if : Bool → List QueuePut
bye_if second = if second then to_bridge b.Bye ∷ to_timers t.Bye ∷ [] else []

pub bye_said : (n fins : ℕ) (note : QueueNote) (p r : PutData) → ((port : ℕ) → true ≡ (is_fin (port, note) && fins == 1)) → r ≡ put_all n (to_bridge b.Bye ∷ to_timers t.Bye ∷ []) p
    → (port : ℕ) (before : List (ℕ × QueueNote)) → fins ≡ count_of is_fin before → r ≡ put_all n (bye_put before (port, note)) p
bye_said n fins note p r second is port before count =
    is ∙ ap (λ (x : Bool). put_all n (bye_if x) p) (second port ∙ ap (λ (k : ℕ). is_fin (port, note) && k == 1) count)

pub bye_left : (n fins : ℕ) (note : QueueNote) (p : PutData) → ((port : ℕ) → false ≡ (is_fin (port, note) && fins == 1))
    → (port : ℕ) (before : List (ℕ × QueueNote)) → fins ≡ count_of is_fin before → p ≡ put_all n (bye_put before (port, note)) p
bye_left n fins note p second port before count =
    sym (put_none n p) ∙ ap (λ (x : Bool). put_all n (bye_if x) p) (second port ∙ ap (λ (k : ℕ). is_fin (port, note) && k == 1) count)
