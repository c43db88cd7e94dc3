-- A taker's flags say which ports ended, and its buffer has what it took last.
use Rattle.std.proofs.Common.{◌≡◌, ◌≢◌, ℕ, ◌-◌, ◌<◌, Bool, true, false, ◌||◌, List, [], ◌∷◌, ◌++◌, length, get_or, set, take, sym, refl, ap, ◌∙◌, subst, append-nil, append_assoc, arith, if◌then◌else◌}
use Rattle.std.proofs.lemmas.List.{get_or-set_same, get_or-set_other, length-set, length-append, length-map, take_at, take_all}
use Rattle.std.proofs.lemmas.List.Folds.{list_any-append}
use Rattle.std.proofs.lemmas.List.Elements.{All-from_recursion}
use Rattle.std.specs.List.{All, list_any, AllByRecursion}
use mathlib.Core.List.{IsPrefix}
use mathlib.Core.Logic.{dite}
use native.Mathlib.Decide.{ℕ_discrete}
use Rattle.mama_journal.specs.Lane.{by_port}
use Rattle.mama_lane.specs.declared.view.View.{View}
use Rattle.mama_lane.specs.Rule.{notes_of}
use Rattle.mama_lane.specs.Taker.{IsTaker, without, after_takes}
use Rattle.mama_lane.specs.Values.{LaneId, TakerValue, after_take}
use Rattle.mama_lane.proofs.Lists.{by_port-append, by_port_here, by_port_else}

or_true : (a b : Bool) → b ≡ true → (a || b) ≡ true
or_true true b e = refl
or_true false b e = e

or_false : (a b : Bool) → b ≡ false → (a || b) ≡ a
or_false true b e = refl
or_false false b e = e

module _ {N : Type 0} (last : N → Bool) where
  -- whether a port ended, after one more event of some port
  any_here : (xs : List (ℕ × N)) (port : ℕ) (note : N) → list_any last (by_port port (xs ++ (port, note) ∷ [])) ≡ (list_any last (by_port port xs) || (last note || false))
  any_here xs port note = ap (list_any last) (by_port-append port xs ((port, note) ∷ []) ∙ ap (λ (l : List N). by_port port xs ++ l) (by_port_here port note)) ∙ list_any-append last (by_port port xs) (note ∷ [])

  any_else : (xs : List (ℕ × N)) (p port : ℕ) (note : N) → p ≢ port → list_any last (by_port p (xs ++ (port, note) ∷ [])) ≡ list_any last (by_port p xs)
  any_else xs p port note apart = ap (list_any last) (by_port-append p xs ((port, note) ∷ []) ∙ (ap (λ (l : List N). by_port p xs ++ l) (by_port_else p port note (λ e. apart (sym e))) ∙ append-nil (by_port p xs)))

  -- the flags after an event that is the last of its port
  last_flags : (xs : List (ℕ × N)) (port : ℕ) (note : N) (flags : List Bool) → port < length flags → last note ≡ true → ((p : ℕ) → get_or flags p false ≡ list_any last (by_port p xs))
      → (p : ℕ) → get_or (set flags port true) p false ≡ list_any last (by_port p (xs ++ (port, note) ∷ []))
  last_flags xs port note flags room is_last old p = dite (ℕ_discrete p port)
      (λ (e : p ≡ port). subst (λ (q : ℕ). get_or (set flags port true) q false ≡ list_any last (by_port q (xs ++ (port, note) ∷ []))) (sym e)
      (get_or-set_same flags port true false room ∙ sym (any_here xs port note ∙ or_true (list_any last (by_port port xs)) (last note || false) (ap (λ (b : Bool). b || false) is_last))))
      (λ (apart : p ≢ port). get_or-set_other flags port p true false apart ∙ (old p ∙ sym (any_else xs p port note apart)))

  -- the flags after another event
  same_flags : (xs : List (ℕ × N)) (port : ℕ) (note : N) (flags : List Bool) → last note ≡ false → ((p : ℕ) → get_or flags p false ≡ list_any last (by_port p xs))
      → (p : ℕ) → get_or flags p false ≡ list_any last (by_port p (xs ++ (port, note) ∷ []))
  same_flags xs port note flags not_last old p = dite (ℕ_discrete p port)
      (λ (e : p ≡ port). subst (λ (q : ℕ). get_or flags q false ≡ list_any last (by_port q (xs ++ (port, note) ∷ []))) (sym e)
      (old port ∙ sym (any_here xs port note ∙ or_false (list_any last (by_port port xs)) (last note || false) (ap (λ (b : Bool). b || false) not_last))))
      (λ (apart : p ≢ port). old p ∙ sym (any_else xs p port note apart))

  -- the flags after one event more of some port
  flags_after : (xs : List (ℕ × N)) (port : ℕ) (note : N) (flags : List Bool) (is_last : Bool) → port < length flags → last note ≡ is_last → ((p : ℕ) → get_or flags p false ≡ list_any last (by_port p xs))
      → (p : ℕ) → get_or (if is_last then set flags port true else flags) p false ≡ list_any last (by_port p (xs ++ (port, note) ∷ []))
  flags_after xs port note flags true room e old = last_flags xs port note flags room e old
  flags_after xs port note flags false room e old = same_flags xs port note flags e old

same_count : (flags : List Bool) (port : ℕ) (is_last : Bool) → length (if is_last then set flags port true else flags) ≡ length flags
same_count flags port true = length-set flags port true
same_count flags port false = refl

-- what an empty look tells, as clauses see it
pub informed : {N : Type 0} (lane : LaneId) (v : View N) (t : TakerValue N) → record { lane = lane; bounds = v.bounds; ports = v.made; taken = v.taken; learnt = v.learnt } ≡ t
    → AllByRecursion (λ (c : ℕ × List N). IsPrefix c.1 (by_port c.0 v.taken)) v.learnt → All (λ (c : ℕ × List N). IsPrefix c.1 (by_port c.0 t.taken)) t.learnt
informed {N} lane v t is h = subst (λ (u : TakerValue N). All (λ (c : ℕ × List N). IsPrefix c.1 (by_port c.0 u.taken)) u.learnt) is (All-from_recursion _ v.learnt h)

-- what a list begins with, without what lies in the buffer
module _ {E N : Type 0} (noted : E → N) where
  pub front_is : (front : List (ℕ × N)) (buffer : List (ℕ × E)) → take (length (front ++ notes_of noted buffer) - length buffer) (front ++ notes_of noted buffer) ≡ front
  front_is front buffer = let all = length-append front (notes_of noted buffer) in let each : length (notes_of noted buffer) ≡ length buffer = length-map buffer (λ (x : ℕ × E). (x.0, noted x.1)) in
      take_at front (notes_of noted buffer) (length (front ++ notes_of noted buffer) - length buffer) (omega arith)

  pub without_none : (looker : TakerValue N) (buffer : List (ℕ × E)) → buffer ≡ [] → without looker buffer ≡ looker
  without_none looker buffer none = let At : List (ℕ × E) → Type 0 = λ b. without looker b ≡ looker in
      subst At (sym none) (ap (λ (l : List (ℕ × N)). record looker { taken = l }) (take_all (length looker.taken - 0) looker.taken (omega arith)))

  -- the taker knows that all was taken that its notes name
  abbrev pub IsInformed : TakerValue N → Type 0
  IsInformed t = All (λ (c : ℕ × List N). IsPrefix c.1 (by_port c.0 t.taken)) t.learnt

  -- a look that found nothing, where nothing was taken ahead
  pub none_ahead : (old looker : TakerValue N) (buffer : List (ℕ × E)) → looker ≡ after_takes old (notes_of noted buffer) → buffer ≡ [] → IsInformed looker → IsInformed old
  none_ahead old looker buffer is none h =
      let After : List (ℕ × N) → TakerValue N = λ more. after_takes old more in
      subst IsInformed (is ∙ (ap (λ (b : List (ℕ × E)). After (notes_of noted b)) none ∙ ap (λ (l : List (ℕ × N)). record old { taken = l }) (append-nil old.taken))) h

  -- What taking an event out of the buffer gives: the event was the first of it, or of what was taken ahead now.
  abbrev pub Gives : TakerValue N → List (ℕ × E) → ℕ × E → TakerValue N → List (ℕ × E) → Type 0
  Gives l b x m c = (front : List (ℕ × N)) → l.taken ≡ front ++ notes_of noted b → m ≡ record l { taken = front ++ (x.0, noted x.1) ∷ notes_of noted c }

  module _ (l : TakerValue N) (b : List (ℕ × E)) (x : ℕ × E) (m : TakerValue N) (c : List (ℕ × E)) where
    given : l.taken ≡ (without l b).taken ++ notes_of noted b → Gives l b x m c → m.taken ≡ ((without l b).taken ++ (x.0, noted x.1) ∷ []) ++ notes_of noted c
    given parts g = ap (λ (t : TakerValue N). t.taken) (g (without l b).taken parts) ∙ sym (append_assoc (without l b).taken ((x.0, noted x.1) ∷ []) (notes_of noted c))

    given_front : l.taken ≡ (without l b).taken ++ notes_of noted b → Gives l b x m c → (without m c).taken ≡ (without l b).taken ++ (x.0, noted x.1) ∷ []
    given_front parts g = ap (λ (t : List (ℕ × N)). take (length t - length c) t) (given parts g) ∙ front_is ((without l b).taken ++ (x.0, noted x.1) ∷ []) c

    pub gave_value : l.taken ≡ (without l b).taken ++ notes_of noted b → Gives l b x m c → without m c ≡ after_take (without l b) x.0 (noted x.1)
    gave_value parts g = ap (λ (t : TakerValue N). record t { taken = (without m c).taken }) (g (without l b).taken parts) ∙ ap (λ (t : List (ℕ × N)). record l { taken = t }) (given_front parts g)

    pub gave : (last : N → Bool) (flags : List Bool) (is_last : Bool) → IsTaker noted last l flags b → Gives l b x m c → x.0 < l.ports → AllByRecursion (λ (y : ℕ × E). y.0 < l.ports) c → last (noted x.1) ≡ is_last
        → IsTaker noted last m (if is_last then set flags x.0 true else flags) c
    gave last flags is_last t g port ports e =
        let made : m.ports ≡ l.ports = ap (λ (u : TakerValue N). u.ports) (g (without l b).taken t.parts) in
        let front = given_front t.parts g in let count = t.count in
        record {
          parts = given t.parts g ∙ ap (λ (u : List (ℕ × N)). u ++ notes_of noted c) (sym front);
          ports = subst (λ (k : ℕ). AllByRecursion (λ (y : ℕ × E). y.0 < k) c) (sym made) ports;
          count = same_count flags x.0 is_last ∙ (t.count ∙ sym made);
          flags = λ p. flags_after last (without l b).taken x.0 (noted x.1) flags is_last (omega arith) e t.flags p ∙ ap (λ (u : List (ℕ × N)). list_any last (by_port p u)) (sym front);
        }

  -- what was answered is lawful, since it begins what was taken
  pub lawful_front : (lawful : List N → Type 0) → ((front back : List N) → lawful (front ++ back) → lawful front) → (p : ℕ) (taken front : List (ℕ × N)) (buffer : List (ℕ × E)) → taken ≡ front ++ notes_of noted buffer
      → lawful (by_port p taken) → lawful (by_port p front)
  lawful_front lawful prefix p taken front buffer parts may =
      prefix (by_port p front) (by_port p (notes_of noted buffer)) (subst lawful (ap (by_port p) parts ∙ by_port-append p front (notes_of noted buffer)) may)
