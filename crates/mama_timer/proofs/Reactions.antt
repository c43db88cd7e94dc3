-- What the service puts at each kind of event, and that it makes no timer's place but at an arming.
use Rattle.std.specs.Prelude.{Option, None, Some, is_some, if◌then◌else◌}
use Rattle.std.specs.List.{list_any, flat_map}
use Rattle.std.specs.Option.{option_or}
use Rattle.std.proofs.Common.{◌≡◌, ℕ, ◌==◌, Bool, true, false, not, ◌&&◌, ◌||◌, cond, List, [], ◌∷◌, ◌++◌, map, refl, sym, ◌∙◌, ap, subst, arith, inl, inr, ⊎_elim, ◌⊎◌, append-nil}
use Rattle.std.proofs.lemmas.Bool.{and_from, both_ways, or_left, or_cases}
use Rattle.std.proofs.lemmas.Bool.Decides.{nat_tests}
use Rattle.mama_journal.specs.Journal.{all_puts, turns, first_said, numbers_below}
use Rattle.mama_event.specs.Object.{same_timer}
use Rattle.mama_event.specs.Ports.{queues_of}
use Rattle.mama_event.specs.declared.ids.TimerId.{TimerId}
use Rattle.mama_event.specs.declared.ids.ObjectId.{ObjectId}
use Rattle.mama_event.specs.declared.ids.ObjectId.TheVariants.{Timer}
use Rattle.mama_event.specs.declared.shape.Shape.{Shape}
use Rattle.mama_event.specs.declared.to_queue.Make.TheVariants as make
use Rattle.mama_event.specs.declared.to_queue.QueueNote.{QueueNote}
use Rattle.mama_event.specs.declared.to_queue.QueueNote.TheVariants as q
use Rattle.mama_rules_services.specs.Timers.{TimersEvent, arms, disarms, now, client_done, bye, fin, no_event, clock, arms_timer, has_ending, is_armed, is_live, live_timers, firing, created_in, place_of, to_place, free_slot, gone, answer, ending_comes, timers_reaction}
use Rattle.mama_timer.specs.Stands.{stands_at, is_held}
use Rattle.mama_timer.proofs.Lists.{said_still, said_none, none_more, none_of_flat_map, none_of_map, list_any-push}
use Rattle.mama_journal.specs.EntryLaws.{by_entries, all_puts-push, first_said-append}
use Rattle.mama_timer.proofs.Orders.{same_timer-is, same_timer-itself}
use Rattle.mama_timer.proofs.Pushes.{live_before, no_turn, IsNoEnd}
use Rattle.mama_timer.proofs.Sorting.{any_never, any_member}
use Rattle.mama_timer.proofs.Live.{all_armed, has-armed, live_came, arms_timer-arms}
use Rattle.mama_timer.proofs.Holding.{Facts, free_slot-is, free_slot-free}

-- what the entry puts at which the ending comes
abbrev pub ending_puts : Shape → List TimersEvent → List (ℕ × QueueNote) → List (ℕ × QueueNote)
ending_puts shape es sofar = flat_map (gone sofar) (live_timers shape es) ++ map (λ k. (k, q.Fin)) (numbers_below (queues_of shape))

pub no_ending : (shape : Shape) (es : List TimersEvent) (sofar : List (ℕ × QueueNote)) (e : TimersEvent) → turns (has_ending shape) es e ≡ false
    → timers_reaction shape es sofar e ≡ answer shape es sofar e
no_ending shape es sofar e h = ap (λ (b : Bool). answer shape es sofar e ++ cond b (ending_puts shape es sofar) []) h ∙ append-nil (answer shape es sofar e)

pub with_ending : (shape : Shape) (es : List TimersEvent) (sofar : List (ℕ × QueueNote)) (e : TimersEvent) → turns (has_ending shape) es e ≡ true → answer shape es sofar e ≡ []
    → timers_reaction shape es sofar e ≡ ending_puts shape es sofar
with_ending shape es sofar e h none = ap (λ (b : Bool). answer shape es sofar e ++ cond b (ending_puts shape es sofar) []) h ∙ ap (λ (ps : List (ℕ × QueueNote)). ps ++ ending_puts shape es sofar) none

pub arms_no_end : (u : TimerId) (queue interval : ℕ) (tag : ObjectId) → IsNoEnd (arms u queue interval tag)
arms_no_end u queue interval tag = record { client = λ c. refl; fin = refl }

pub disarms_no_end : (u : TimerId) → IsNoEnd (disarms u)
disarms_no_end u = record { client = λ c. refl; fin = refl }

pub now_no_end : (moment : ℕ) → IsNoEnd (now moment)
now_no_end moment = record { client = λ c. refl; fin = refl }

pub bye_no_end : (k : ℕ) → IsNoEnd (bye k)
bye_no_end k = record { client = λ c. refl; fin = refl }

pub nothing_no_end : IsNoEnd no_event
nothing_no_end = record { client = λ c. refl; fin = refl }

-- a timer that was armed is armed again: nothing is put
pub react_known : (shape : Shape) (es : List TimersEvent) (sofar : List (ℕ × QueueNote)) (u : TimerId) (queue interval : ℕ) (tag : ObjectId)
    → list_any (arms_timer u) es ≡ true → timers_reaction shape es sofar (arms u queue interval tag) ≡ []
react_known shape es sofar u queue interval tag came =
    no_ending shape es sofar (arms u queue interval tag) (no_turn shape es (arms u queue interval tag) (arms_no_end u queue interval tag))
    ∙ ap (λ (b : Bool). cond b [] ((queue, q.Create (free_slot shape es sofar queue) (Timer u) make.Timer tag) ∷ [])) came

-- the first arming of a timer
pub react_arm : (shape : Shape) (es : List TimersEvent) (sofar : List (ℕ × QueueNote)) (u : TimerId) (queue interval : ℕ) (tag : ObjectId)
    → list_any (arms_timer u) es ≡ false → timers_reaction shape es sofar (arms u queue interval tag) ≡ (queue, q.Create (free_slot shape es sofar queue) (Timer u) make.Timer tag) ∷ []
react_arm shape es sofar u queue interval tag new =
    no_ending shape es sofar (arms u queue interval tag) (no_turn shape es (arms u queue interval tag) (arms_no_end u queue interval tag))
    ∙ ap (λ (b : Bool). cond b [] ((queue, q.Create (free_slot shape es sofar queue) (Timer u) make.Timer tag) ∷ [])) new

-- a timer that is live is disarmed
pub react_disarm : (shape : Shape) (es : List TimersEvent) (sofar : List (ℕ × QueueNote)) (u : TimerId)
    → is_live shape u es ≡ true → timers_reaction shape es sofar (disarms u) ≡ gone sofar u
react_disarm shape es sofar u live =
    no_ending shape es sofar (disarms u) (no_turn shape es (disarms u) (disarms_no_end u)) ∙ ap (λ (b : Bool). cond b (gone sofar u) []) live

-- and one that is not
pub react_no_disarm : (shape : Shape) (es : List TimersEvent) (sofar : List (ℕ × QueueNote)) (u : TimerId)
    → is_live shape u es ≡ false → timers_reaction shape es sofar (disarms u) ≡ []
react_no_disarm shape es sofar u live =
    no_ending shape es sofar (disarms u) (no_turn shape es (disarms u) (disarms_no_end u)) ∙ ap (λ (b : Bool). cond b (gone sofar u) []) live

-- after the ending, the least free slot is the first
pub late_slot : (shape : Shape) (es : List TimersEvent) (sofar : List (ℕ × QueueNote)) (queue : ℕ) → has_ending shape es ≡ true → free_slot shape es sofar queue ≡ 0
late_slot shape es sofar queue ended = free_slot-is shape es sofar queue 0
    (any_never (λ t. is_live shape t es && stands_at queue 0 (place_of t sofar)) (all_armed es) (λ t member.
    ap (λ (b : Bool). (is_armed t es && not b) && stands_at queue 0 (place_of t sofar)) ended ∙ ap (λ (b : Bool). b && stands_at queue 0 (place_of t sofar)) (never (is_armed t es))))
    (λ k less. absurd (omega (arith, less)))
  where
    never : (b : Bool) → (b && false) ≡ false
    never true = refl
    never false = refl

-- ---- which entries make places

to_place_none : (t : TimerId) (o : Option (ℕ × ℕ)) (f : ℕ → QueueNote) → ((k slot : ℕ) → created_in t (k, f slot) ≡ None) → first_said (created_in t) (to_place o f) ≡ None
to_place_none t None f h = refl
to_place_none t (Some p) f h = ap (λ o. option_or o None) (h p.0 p.1)

gone_none : (t : TimerId) (sofar : List (ℕ × QueueNote)) (u : TimerId) → first_said (created_in t) (gone sofar u) ≡ None
gone_none t sofar u = to_place_none t (place_of u sofar) (λ slot. q.Gone slot (Timer u)) (λ k slot. refl)

cond_none : (t : TimerId) (b : Bool) (ps : List (ℕ × QueueNote)) → first_said (created_in t) ps ≡ None → first_said (created_in t) (cond b ps []) ≡ None
cond_none t true ps h = h
cond_none t false ps h = refl

ending_none : (t : TimerId) (shape : Shape) (es : List TimersEvent) (sofar : List (ℕ × QueueNote)) (e : TimersEvent) → first_said (created_in t) (ending_comes shape es sofar e) ≡ None
ending_none t shape es sofar e = cond_none t (turns (has_ending shape) es e) (ending_puts shape es sofar)
    (none_more (created_in t) (flat_map (gone sofar) (live_timers shape es)) (map (λ k. (k, q.Fin)) (numbers_below (queues_of shape)))
    (none_of_flat_map (created_in t) (gone sofar) (live_timers shape es) (gone_none t sofar))
    (none_of_map (created_in t) (λ (k : ℕ). (k, q.Fin)) (numbers_below (queues_of shape)) (λ k. refl)))

-- an event that arms a timer
abbrev pub is_arming : TimersEvent → Bool
is_arming (arms u queue interval tag) = true
is_arming _ = false

answer_none : (t : TimerId) (shape : Shape) (es : List TimersEvent) (sofar : List (ℕ × QueueNote)) (e : TimersEvent) → is_arming e ≡ false → first_said (created_in t) (answer shape es sofar e) ≡ None
answer_none t shape es sofar (arms u queue interval tag) h = cc
answer_none t shape es sofar (disarms u) h = cond_none t (is_live shape u es) (gone sofar u) (gone_none t sofar u)
answer_none t shape es sofar (now moment) h =
    let at : ℕ = clock (es ++ now moment ∷ []) in
    none_of_flat_map (created_in t) (λ timer. to_place (place_of timer sofar) (λ slot. q.Tick slot timer at)) (firing shape es at)
    (λ u. to_place_none t (place_of u sofar) (λ slot. q.Tick slot u at) (λ k slot. refl))
answer_none t shape es sofar (client_done c) h = refl
answer_none t shape es sofar (bye k) h = refl
answer_none t shape es sofar fin h = refl
answer_none t shape es sofar no_event h = refl

-- an event that arms nothing makes no place
pub made_none : (t : TimerId) (shape : Shape) (es : List TimersEvent) (sofar : List (ℕ × QueueNote)) (e : TimersEvent) → is_arming e ≡ false
    → place_of t (timers_reaction shape es sofar e) ≡ None
made_none t shape es sofar e h = none_more (created_in t) (answer shape es sofar e) (ending_comes shape es sofar e) (answer_none t shape es sofar e h) (ending_none t shape es sofar e)

-- the place that an arming makes
pub made_place : (t u : TimerId) (queue slot : ℕ) (tag : ObjectId) → place_of t ((queue, q.Create slot (Timer u) make.Timer tag) ∷ []) ≡ (if same_timer u t then Some (queue, slot) else None)
made_place t u queue slot tag = by_case (same_timer u t)
  where
    by_case : (b : Bool) → option_or {T = ℕ × ℕ} (cond b (Some (queue, slot)) None) None ≡ cond b (Some (queue, slot)) None
    by_case true = refl
    by_case false = refl

-- ---- where timers stand, after every journal

none_arms : (t : TimerId) (e : TimersEvent) → is_arming e ≡ false → arms_timer t e ≡ false
none_arms t (arms u queue interval tag) h = cc
none_arms t (disarms u) h = refl
none_arms t (now moment) h = refl
none_arms t (client_done c) h = refl
none_arms t (bye k) h = refl
none_arms t fin h = refl
none_arms t no_event h = refl

or_false : (b c : Bool) → c ≡ false → (b || c) ≡ b
or_false true c h = refl
or_false false c h = h

came_before : (t : TimerId) (es : List TimersEvent) (e : TimersEvent) → arms_timer t e ≡ false → list_any (arms_timer t) (es ++ e ∷ []) ≡ list_any (arms_timer t) es
came_before t es e h = list_any-push (arms_timer t) es e ∙ or_false (list_any (arms_timer t) es) (arms_timer t e) h

-- an entry that makes no place, and arms no timer that was not armed
facts_still : (shape : Shape) (es : List TimersEvent) (sofar more : List (ℕ × QueueNote)) (e : TimersEvent)
    → ((t : TimerId) → list_any (arms_timer t) (es ++ e ∷ []) ≡ list_any (arms_timer t) es) → ((t : TimerId) → place_of t more ≡ None)
    → Facts shape es sofar → Facts shape (es ++ e ∷ []) (sofar ++ more)
facts_still shape es sofar more e came made facts = record {
  placed = λ t. ap is_some (said_none (created_in t) sofar more (made t)) ∙ facts.placed t ∙ sym (came t);
  apart = λ t u live_t live_u same. facts.apart t u
      (live_before shape t es e (sym (came t) ∙ live_came shape t (es ++ e ∷ []) live_t) live_t)
      (live_before shape u es e (sym (came u) ∙ live_came shape u (es ++ e ∷ []) live_u) live_u)
      (sym (said_none (created_in t) sofar more (made t)) ∙ same ∙ said_none (created_in u) sofar more (made u));
}

is_some_or : (a b : Option (ℕ × ℕ)) → is_some (option_or a b) ≡ (is_some a || is_some b)
is_some_or None b = refl
is_some_or (Some x) b = refl

is_some_if : (b : Bool) (p : ℕ × ℕ) → is_some (cond b (Some p) None) ≡ b
is_some_if true p = refl
is_some_if false p = refl

some_of : (o : Option (ℕ × ℕ)) → is_some o ≡ true → (p : ℕ × ℕ) × (o ≡ Some p)
some_of None h = cc
some_of (Some p) h = (p, refl)

none_of : (o : Option (ℕ × ℕ)) → is_some o ≡ false → o ≡ None
none_of None h = refl
none_of (Some p) h = cc

pub held_by : (shape : Shape) (es : List TimersEvent) (sofar : List (ℕ × QueueNote)) (t : TimerId) (queue slot : ℕ) → is_live shape t es ≡ true → place_of t sofar ≡ Some (queue, slot) → is_held shape es sofar queue slot ≡ true
held_by shape es sofar t queue slot live place = any_member (λ u. is_live shape u es && stands_at queue slot (place_of u sofar)) t (all_armed es)
    (has-armed t es ∙ live_came shape t es live)
    (and_from (is_live shape t es) (stands_at queue slot (place_of t sofar)) live (ap (stands_at queue slot) place ∙ itself queue slot))
  where
    itself : (a b : ℕ) → (a == a && b == b) ≡ true
    itself a b = grind (arith, nat_tests)

module _ (shape : Shape) (es : List TimersEvent) (sofar : List (ℕ × QueueNote)) (u : TimerId) (queue interval slot : ℕ) (tag : ObjectId)
    (new : list_any (arms_timer u) es ≡ false) (free : is_held shape es sofar queue slot ≡ false) (facts : Facts shape es sofar) where
  abbrev arming : TimersEvent
  arming = arms u queue interval tag

  abbrev created : List (ℕ × QueueNote)
  created = (queue, q.Create slot (Timer u) make.Timer tag) ∷ []

  -- the place of the timer that is armed, and those of the others
  pub place_new : place_of u (sofar ++ created) ≡ Some (queue, slot)
  place_new = said_first ∙ made_place u u queue slot tag ∙ ap (λ (b : Bool). cond b (Some (queue, slot)) None) (same_timer-itself u)
    where
      said_first : place_of u (sofar ++ created) ≡ place_of u created
      said_first = first_said-append (created_in u) sofar created ∙ ap (λ (o : Option (ℕ × ℕ)). option_or o (place_of u created)) (none_of (place_of u sofar) (facts.placed u ∙ new))

  pub place_old : (t : TimerId) → list_any (arms_timer t) es ≡ true → place_of t (sofar ++ created) ≡ place_of t sofar
  place_old t came = let p = some_of (place_of t sofar) (facts.placed t ∙ came) in said_still (created_in t) sofar created p.0 p.1 ∙ sym p.1

  older : (t : TimerId) → is_live shape t (es ++ arming ∷ []) ≡ true → (u ≡ t) ⊎ (list_any (arms_timer t) es ≡ true)
  older t live = ⊎_elim (λ old. inr old) (λ now. inl (same_timer-is u t (sym (arms_timer-arms t u queue interval tag) ∙ now)))
      (or_cases (list_any (arms_timer t) es) (arms_timer t arming) (sym (list_any-push (arms_timer t) es arming) ∙ live_came shape t (es ++ arming ∷ []) live))

  no_old : (t : TimerId) → list_any (arms_timer t) es ≡ true → is_live shape t (es ++ arming ∷ []) ≡ true → place_of t (sofar ++ created) ≡ Some (queue, slot) → ⊥
  no_old t came live place = both_ways (is_held shape es sofar queue slot) free
      (held_by shape es sofar t queue slot (live_before shape t es arming came live) (sym (place_old t came) ∙ place))

  pub facts_armed : Facts shape (es ++ arming ∷ []) (sofar ++ created)
  facts_armed = record {
    placed = λ t. ap is_some (first_said-append (created_in t) sofar created) ∙ is_some_or (place_of t sofar) (place_of t created)
        ∙ ap (λ (b : Bool). b || is_some (place_of t created)) (facts.placed t)
        ∙ ap (λ (b : Bool). list_any (arms_timer t) es || b) (ap is_some (made_place t u queue slot tag) ∙ is_some_if (same_timer u t) (queue, slot) ∙ sym (arms_timer-arms t u queue interval tag))
        ∙ sym (list_any-push (arms_timer t) es arming);
    apart = λ t v live_t live_v same. ⊎_elim
        (λ (is_t : u ≡ t). ⊎_elim
        (λ (is_v : u ≡ v). sym is_t ∙ is_v)
        (λ came_v. absurd (no_old v came_v live_v (sym same ∙ ap (λ (w : TimerId). place_of w (sofar ++ created)) (sym is_t) ∙ place_new)))
        (older v live_v))
        (λ came_t. ⊎_elim
        (λ (is_v : u ≡ v). absurd (no_old t came_t live_t (same ∙ ap (λ (w : TimerId). place_of w (sofar ++ created)) (sym is_v) ∙ place_new)))
        (λ came_v. facts.apart t v (live_before shape t es arming came_t live_t) (live_before shape v es arming came_v live_v) (sym (place_old t came_t) ∙ same ∙ place_old v came_v))
        (older v live_v))
        (older t live_t);
  }

known_again : (u t : TimerId) (es : List TimersEvent) (queue interval : ℕ) (tag : ObjectId) → list_any (arms_timer u) es ≡ true
    → list_any (arms_timer t) (es ++ arms u queue interval tag ∷ []) ≡ list_any (arms_timer t) es
known_again u t es queue interval tag came = list_any-push (arms_timer t) es (arms u queue interval tag) ∙ by_case (same_timer u t) refl
  where
    by_case : (b : Bool) → same_timer u t ≡ b → (list_any (arms_timer t) es || arms_timer t (arms u queue interval tag)) ≡ list_any (arms_timer t) es
    by_case true s = let is = ap (λ (v : TimerId). list_any (arms_timer v) es) (sym (same_timer-is u t s)) ∙ came in or_left (list_any (arms_timer t) es) (arms_timer t (arms u queue interval tag)) is ∙ sym is
    by_case false s = or_false (list_any (arms_timer t) es) (arms_timer t (arms u queue interval tag)) (arms_timer-arms t u queue interval tag ∙ s)

facts_step : (shape : Shape) (es : List TimersEvent) (sofar : List (ℕ × QueueNote)) (e : TimersEvent) → Facts shape es sofar → Facts shape (es ++ e ∷ []) (sofar ++ timers_reaction shape es sofar e)
facts_step shape es sofar (arms u queue interval tag) facts = by_case (list_any (arms_timer u) es) refl
  where
    by_case : (b : Bool) → list_any (arms_timer u) es ≡ b → Facts shape (es ++ arms u queue interval tag ∷ []) (sofar ++ timers_reaction shape es sofar (arms u queue interval tag))
    by_case true came = facts_still shape es sofar (timers_reaction shape es sofar (arms u queue interval tag)) (arms u queue interval tag) (λ t. known_again u t es queue interval tag came)
        (λ t. ap (place_of t) (react_known shape es sofar u queue interval tag came)) facts
    by_case false new = let P : List (ℕ × QueueNote) → Type 0 = λ more. Facts shape (es ++ arms u queue interval tag ∷ []) (sofar ++ more) in
        subst P (sym (react_arm shape es sofar u queue interval tag new))
        (facts_armed shape es sofar u queue interval (free_slot shape es sofar queue) tag new (free_slot-free shape es sofar queue) facts)
facts_step shape es sofar (disarms u) facts = facts_still shape es sofar _ (disarms u) (λ t. came_before t es (disarms u) refl) (λ t. made_none t shape es sofar (disarms u) refl) facts
facts_step shape es sofar (now moment) facts = facts_still shape es sofar _ (now moment) (λ t. came_before t es (now moment) refl) (λ t. made_none t shape es sofar (now moment) refl) facts
facts_step shape es sofar (client_done c) facts = facts_still shape es sofar _ (client_done c) (λ t. came_before t es (client_done c) refl) (λ t. made_none t shape es sofar (client_done c) refl) facts
facts_step shape es sofar (bye k) facts = facts_still shape es sofar _ (bye k) (λ t. came_before t es (bye k) refl) (λ t. made_none t shape es sofar (bye k) refl) facts
facts_step shape es sofar fin facts = facts_still shape es sofar _ fin (λ t. came_before t es fin refl) (λ t. made_none t shape es sofar fin refl) facts
facts_step shape es sofar no_event facts = facts_still shape es sofar _ no_event (λ t. came_before t es no_event refl) (λ t. made_none t shape es sofar no_event refl) facts

pub facts : (shape : Shape) (es : List TimersEvent) → Facts shape es (all_puts (timers_reaction shape) es)
facts shape es = by_entries (λ (xs : List TimersEvent). Facts shape xs (all_puts (timers_reaction shape) xs))
    (record { placed = λ t. refl; apart = λ t u live_t live_u same. absurd (both_ways false refl live_t) })
    (λ xs e ih. subst (λ (ps : List (ℕ × QueueNote)). Facts shape (xs ++ e ∷ []) ps) (sym (all_puts-push (timers_reaction shape) xs e)) (facts_step shape xs (all_puts (timers_reaction shape) xs) e ih)) es
