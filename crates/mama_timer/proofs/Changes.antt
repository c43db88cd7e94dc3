-- What the code keeps stands for the journal after an arming, a disarming and a moment.
use Rattle.std.specs.Prelude.{Option, None, Some, is_some, nat_le, if◌then◌else◌}
use Rattle.std.specs.List.{list_any}
use Rattle.std.specs.Option.{option_map}
use Rattle.std.proofs.Common.{◌≡◌, ℕ, ◌+◌, ◌==◌, Bool, true, false, not, ◌&&◌, ◌||◌, cond, List, [], ◌∷◌, ◌++◌, refl, sym, ◌∙◌, ap, subst, arith, ⊎_elim, append-nil}
use Rattle.std.proofs.lemmas.Bool.{and_parts, and_from, both_ways, or_from, or_parts, not-true, cases_Bool}
use Rattle.mama_event.specs.Object.{same_timer}
use Rattle.mama_event.specs.declared.ids.TimerId.{TimerId}
use Rattle.mama_event.specs.declared.ids.ObjectId.{ObjectId}
use Rattle.mama_event.specs.declared.ids.ObjectId.TheVariants.{Timer}
use Rattle.mama_event.specs.declared.shape.Shape.{Shape}
use Rattle.mama_event.specs.declared.to_queue.Make.TheVariants as make
use Rattle.mama_event.specs.declared.to_queue.QueueNote.{QueueNote}
use Rattle.mama_event.specs.declared.to_queue.QueueNote.TheVariants as q
use Rattle.mama_rules_services.specs.Timers.{TimersEvent, arms, disarms, now, clock, terms_in, arms_timer, disarms_timer, has_ending, is_armed, is_live, due_step, due_along, newly_armed, created_in, place_of}
use Rattle.mama_timer.specs.declared.table.Row.{Row}
use Rattle.mama_timer.specs.Rows.{laid_down}
use Rattle.mama_slots.specs.Slots.{SlotData, in_use}
use Rattle.mama_timer.specs.Stands.{is_held, IsRow, AreListed, Stands}
use Rattle.mama_timer.proofs.Lists.{said_none, list_any-push}
use Rattle.mama_journal.specs.EntryLaws.{by_entries, puts-push}
use Rattle.mama_timer.proofs.Orders.{same_timer-is, same_timer-itself}
use Rattle.mama_timer.proofs.Pushes.{clock-push, is_armed-push, due_along-push, has_ending-still, has_ending-keeps, live_before, armed_came}
use Rattle.mama_timer.proofs.Live.{all_armed, arms_timer-arms}
use Rattle.mama_timer.proofs.Holding.{Facts, held_same, held_armed, held_disarmed}
use Rattle.mama_timer.proofs.Reactions.{arms_no_end, place_new, place_old}
use Rattle.mama_timer.specs.Firing.{ticked, due_then}
use Rattle.mama_timer.proofs.Standing.{not_yet, armed_step, row_step, live_still, due_arms, due_disarms}

due_none_step : (t : TimerId) (e : TimersEvent) (at : ℕ) → arms_timer t e ≡ false → due_step e at (terms_in t e) None ≡ None
due_none_step t e at h = by_case (terms_in t e) h
  where
    by_case : (o : Option (ℕ × ℕ)) → is_some o ≡ false → due_step e at o None ≡ None
    by_case None k = refl
    by_case (Some p) k = cc

-- a timer that was not armed is due at no moment
due_none : (t : TimerId) (es : List TimersEvent) → list_any (arms_timer t) es ≡ false → due_along t [] None es ≡ None
due_none t es = by_entries (λ (xs : List TimersEvent). list_any (arms_timer t) xs ≡ false → due_along t [] None xs ≡ None) (λ h. refl)
    (λ xs e ih h. let parts = or_parts (list_any (arms_timer t) xs) (arms_timer t e) (sym (list_any-push (arms_timer t) xs e) ∙ h) in
    due_along-push t xs e ∙ ap (due_step e (clock (xs ++ e ∷ [])) (terms_in t e)) (ih parts.0) ∙ due_none_step t e (clock (xs ++ e ∷ [])) parts.1) es

no_row : (r : Row) → Some r ≡ None → ⊥
no_row r h = cc

one_row : (r s : Row) → Some r ≡ Some s → r ≡ s
one_row r s h = cc

module _ (shape : Shape) (es : List TimersEvent) (sofar : List (ℕ × QueueNote)) (u : TimerId) (r : Row) (tag : ObjectId)
    (moment : ℕ) (rows rows' : TimerId → Option Row) (listed listed' : ℕ × TimerId → Bool) (slots slots' : SlotData)
    (new : list_any (arms_timer u) es ≡ false) (free : is_held shape es sofar r.queue r.slot ≡ false) (facts : Facts shape es sofar)
    (armed : r.armed ≡ true)
    (due : has_ending shape es ≡ false → r.due ≡ clock es + r.interval)
    (rows_are : (t : TimerId) → rows' t ≡ (if same_timer u t then Some r else rows t))
    (listed_it : has_ending shape es ≡ false → listed' (r.due, u) ≡ true)
    (listed_still : has_ending shape es ≡ false → (key : ℕ × TimerId) → listed key ≡ true → listed' key ≡ true)
    (slots_are : has_ending shape es ≡ false → (of k : ℕ) → in_use slots' of k ≡ (in_use slots of k || (of == r.queue && k == r.slot)))
    (stands : Stands shape es sofar moment rows listed slots) where
  abbrev arming : TimersEvent
  arming = arms u r.queue r.interval tag

  abbrev created : List (ℕ × QueueNote)
  created = (r.queue, q.Create r.slot (Timer u) make.Timer tag) ∷ []

  new_armed : is_armed u (es ++ arming ∷ []) ≡ true
  new_armed = is_armed-push u es arming ∙ ap (λ (b : Bool). cond b (is_armed u es && not (disarms_timer u arming)) (arms_timer u arming)) new ∙ arms_timer-arms u u r.queue r.interval tag ∙ same_timer-itself u

  clock_same : clock (es ++ arming ∷ []) ≡ clock es
  clock_same = clock-push es arming ∙ omega arith

  new_terms : terms_in u arming ≡ Some (r.queue, r.interval)
  new_terms = ap (λ (b : Bool). cond b (Some (r.queue, r.interval)) None) (same_timer-itself u)

  new_row : IsRow shape (es ++ arming ∷ []) (sofar ++ created) u r
  new_row = record {
    came = armed_came u (es ++ arming ∷ []) new_armed;
    armed = armed ∙ sym new_armed;
    place = place_new shape es sofar u r.queue r.interval r.slot tag new free facts;
    terms = λ live.
        let yet : has_ending shape es ≡ false = sym (has_ending-still shape es arming (arms_no_end u r.queue r.interval tag)) ∙ not-true (has_ending shape (es ++ arming ∷ [])) (and_parts (is_armed u (es ++ arming ∷ [])) (not (has_ending shape (es ++ arming ∷ []))) live).1 in
        due_along-push u es arming
        ∙ ap (due_step arming (clock (es ++ arming ∷ [])) (terms_in u arming)) (due_none u es new)
        ∙ ap (λ (o : Option (ℕ × ℕ)). due_step arming (clock (es ++ arming ∷ [])) o None) new_terms
        ∙ ap (λ (n : ℕ). Some (r.interval, n)) (ap (λ (n : ℕ). n + r.interval) clock_same ∙ sym (due yet));
  }

  old_row : (t : TimerId) (s : Row) → rows t ≡ Some s → IsRow shape (es ++ arming ∷ []) (sofar ++ created) t s
  old_row t s is = row_step shape es sofar created arming t s s (stands.rows.known t s is) refl refl (still s.armed) (λ live. due_arms u r.queue r.interval tag (clock (es ++ arming ∷ [])) (terms_in t arming) (s.interval, s.due))
    where
      still : (b : Bool) → b ≡ (b && true)
      still true = refl
      still false = refl

  known_row : (t : TimerId) (s : Row) (b : Bool) → same_timer u t ≡ b → cond b (Some r) (rows t) ≡ Some s → IsRow shape (es ++ arming ∷ []) (sofar ++ created) t s
  known_row t s true e is =
      let P : TimerId → Type 0 = λ v. IsRow shape (es ++ arming ∷ []) (sofar ++ created) v s in
      let Q : Row → Type 0 = λ w. IsRow shape (es ++ arming ∷ []) (sofar ++ created) u w in
      subst P (same_timer-is u t e) (subst Q (one_row r s is) new_row)
  known_row t s false e is = old_row t s is

  unknown_row : (t : TimerId) (b : Bool) → same_timer u t ≡ b → cond b (Some r) (rows t) ≡ None → list_any (arms_timer t) (es ++ arming ∷ []) ≡ false
  unknown_row t true e is = absurd (no_row r is)
  unknown_row t false e is = list_any-push (arms_timer t) es arming ∙ or_from (list_any (arms_timer t) es) (arms_timer t arming) (stands.rows.unknown t is) (arms_timer-arms t u r.queue r.interval tag ∙ e)

  listed_row : has_ending shape es ≡ false → (t : TimerId) (s : Row) (b : Bool) → same_timer u t ≡ b → cond b (Some r) (rows t) ≡ Some s → s.armed ≡ true → listed' (s.due, t) ≡ true
  listed_row yet t s true e is a =
      ap (λ (v : TimerId). listed' (s.due, v)) (sym (same_timer-is u t e)) ∙ ap (λ (w : Row). listed' (w.due, u)) (sym (one_row r s is)) ∙ listed_it yet
  listed_row yet t s false e is a = listed_still yet (s.due, t) ((stands.listed yet).each t s is a)

  pub stands_armed : Stands shape (es ++ arming ∷ []) (sofar ++ created) moment rows' listed' slots'
  stands_armed = record {
    time = stands.time ∙ sym clock_same;
    rows = record {
      unknown = λ t is. unknown_row t (same_timer u t) refl (sym (rows_are t) ∙ is);
      known = λ t s is. known_row t s (same_timer u t) refl (sym (rows_are t) ∙ is);
    };
    listed = λ none. record { each = λ t s is a. listed_row (not_yet shape es arming none) t s (same_timer u t) refl (sym (rows_are t) ∙ is) a };
    slots = λ none of k. let yet = not_yet shape es arming none in
        slots_are yet of k ∙ ap (λ (b : Bool). b || (of == r.queue && k == r.slot)) (stands.slots yet of k)
        ∙ sym (held_armed shape es (es ++ arming ∷ []) sofar (sofar ++ created) u r.queue r.slot
        (puts-push newly_armed es arming ∙ ap (λ (b : Bool). all_armed es ++ cond b [] (u ∷ [])) new)
        (λ t came. live_still shape es arming none t (λ a. refl) came)
        (λ t came. place_old shape es sofar u r.queue r.interval r.slot tag new free facts t came)
        (and_from (is_armed u (es ++ arming ∷ [])) (not (has_ending shape (es ++ arming ∷ []))) new_armed (ap not none))
        (place_new shape es sofar u r.queue r.interval r.slot tag new free facts) of k);
  }

module _ (shape : Shape) (es : List TimersEvent) (sofar more : List (ℕ × QueueNote)) (u : TimerId) (r : Row)
    (moment : ℕ) (rows rows' : TimerId → Option Row) (listed listed' : ℕ × TimerId → Bool) (slots slots' : SlotData)
    (made : (t : TimerId) → place_of t more ≡ None) (facts : Facts shape es sofar)
    (there : rows u ≡ Some r) (armed : r.armed ≡ true)
    (rows_are : (t : TimerId) → rows' t ≡ (if same_timer u t then option_map laid_down (rows t) else rows t))
    (listed_kept : (key : ℕ × TimerId) → same_timer u key.1 ≡ false → listed key ≡ true → listed' key ≡ true)
    (slots_are : has_ending shape es ≡ false → (of k : ℕ) → in_use slots' of k ≡ (in_use slots of k && not (of == r.queue && k == r.slot)))
    (stands : Stands shape es sofar moment rows listed slots) where
  and_true : (b : Bool) → b ≡ (b && true)
  and_true true = refl
  and_true false = refl

  and_false : (b : Bool) → false ≡ (b && false)
  and_false true = refl
  and_false false = refl

  laid_row : (t : TimerId) (o : Option Row) (s : Row) → o ≡ rows t → same_timer u t ≡ true → option_map laid_down o ≡ Some s → IsRow shape (es ++ disarms u ∷ []) (sofar ++ more) t s
  laid_row t None s e same is = cc
  laid_row t (Some w) s e same is =
      let P : Row → Type 0 = λ v. IsRow shape (es ++ disarms u ∷ []) (sofar ++ more) t v in
      subst P (one_row (laid_down w) s is)
      (row_step shape es sofar more (disarms u) t w (laid_down w) (stands.rows.known t w (sym e)) refl refl (and_false w.armed ∙ ap (λ (b : Bool). w.armed && not b) (sym same))
      (λ live. due_disarms u (clock (es ++ disarms u ∷ [])) (terms_in t (disarms u)) (w.interval, w.due)))

  known_laid : (t : TimerId) (s : Row) (b : Bool) → same_timer u t ≡ b → cond b (option_map laid_down (rows t)) (rows t) ≡ Some s → IsRow shape (es ++ disarms u ∷ []) (sofar ++ more) t s
  known_laid t s true e is = laid_row t (rows t) s refl e is
  known_laid t s false e is = row_step shape es sofar more (disarms u) t s s (stands.rows.known t s is) refl refl (and_true s.armed ∙ ap (λ (b : Bool). s.armed && not b) (sym e))
      (λ live. due_disarms u (clock (es ++ disarms u ∷ [])) (terms_in t (disarms u)) (s.interval, s.due))

  none_laid : (o : Option Row) → option_map laid_down o ≡ None → o ≡ None
  none_laid None h = refl
  none_laid (Some w) h = cc

  unknown_laid : (t : TimerId) (b : Bool) → cond b (option_map laid_down (rows t)) (rows t) ≡ None → rows t ≡ None
  unknown_laid t true is = none_laid (rows t) is
  unknown_laid t false is = is

  not_laid : (o : Option Row) (s : Row) → option_map laid_down o ≡ Some s → s.armed ≡ true → ⊥
  not_laid None s is a = cc
  not_laid (Some w) s is a = both_ways s.armed (ap (λ (v : Row). v.armed) (sym (one_row (laid_down w) s is))) a

  listed_laid : has_ending shape es ≡ false → (t : TimerId) (s : Row) (b : Bool) → same_timer u t ≡ b → cond b (option_map laid_down (rows t)) (rows t) ≡ Some s → s.armed ≡ true → listed' (s.due, t) ≡ true
  listed_laid yet t s true e is a = absurd (not_laid (rows t) s is a)
  listed_laid yet t s false e is a = listed_kept (s.due, t) e ((stands.listed yet).each t s is a)

  live_laid : has_ending shape (es ++ disarms u ∷ []) ≡ false → (t : TimerId) → list_any (arms_timer t) es ≡ true → is_live shape t (es ++ disarms u ∷ []) ≡ (is_live shape t es && not (same_timer u t))
  live_laid none t came = rw (armed_step t es (disarms u) came, none, not_yet shape es (disarms u) none) (swap (is_armed t es) (not (same_timer u t)))
    where
      swap : (a b : Bool) → ((a && b) && true) ≡ ((a && true) && b)
      swap true true = refl
      swap true false = refl
      swap false b = refl

  pub stands_disarmed : Stands shape (es ++ disarms u ∷ []) (sofar ++ more) moment rows' listed' slots'
  stands_disarmed = record {
    time = stands.time ∙ sym (clock-push es (disarms u) ∙ omega arith);
    rows = record {
      unknown = λ t is. list_any-push (arms_timer t) es (disarms u) ∙ or_from (list_any (arms_timer t) es) false (stands.rows.unknown t (unknown_laid t (same_timer u t) (sym (rows_are t) ∙ is))) refl;
      known = λ t s is. known_laid t s (same_timer u t) refl (sym (rows_are t) ∙ is);
    };
    listed = λ none. record { each = λ t s is a. listed_laid (not_yet shape es (disarms u) none) t s (same_timer u t) refl (sym (rows_are t) ∙ is) a };
    slots = λ none of k. let yet = not_yet shape es (disarms u) none in
        let row = stands.rows.known u r there in
        slots_are yet of k ∙ ap (λ (b : Bool). b && not (of == r.queue && k == r.slot)) (stands.slots yet of k)
        ∙ sym (held_disarmed shape es (es ++ disarms u ∷ []) sofar (sofar ++ more) u r.queue r.slot
        (puts-push newly_armed es (disarms u) ∙ append-nil (all_armed es))
        (λ t came. live_laid none t came)
        (λ t came. said_none (created_in t) sofar more (made t))
        facts (and_from (is_armed u es) (not (has_ending shape es)) (sym row.armed ∙ armed) (ap not yet)) row.place of k);
  }

module _ (shape : Shape) (es : List TimersEvent) (sofar more : List (ℕ × QueueNote)) (told : ℕ)
    (moment moment' : ℕ) (rows rows' : TimerId → Option Row) (listed listed' : ℕ × TimerId → Bool) (slots : SlotData)
    (made : (t : TimerId) → place_of t more ≡ None)
    (time : moment' ≡ clock (es ++ now told ∷ []))
    (rows_yet : has_ending shape es ≡ false → (t : TimerId) → rows' t ≡ option_map (ticked moment') (rows t))
    (rows_late : has_ending shape es ≡ true → (t : TimerId) → rows' t ≡ rows t)
    (listed_are : has_ending shape es ≡ false → AreListed rows' listed')
    (stands : Stands shape es sofar moment rows listed slots) where
  still_and : (b : Bool) → b ≡ (b && true)
  still_and true = refl
  still_and false = refl

  came_same : (t : TimerId) → list_any (arms_timer t) (es ++ now told ∷ []) ≡ list_any (arms_timer t) es
  came_same t = list_any-push (arms_timer t) es (now told) ∙ plain (list_any (arms_timer t) es)
    where
      plain : (b : Bool) → (b || false) ≡ b
      plain true = refl
      plain false = refl

  ticked_row : (t : TimerId) (w : Row) → rows t ≡ Some w → IsRow shape (es ++ now told ∷ []) (sofar ++ more) t (ticked moment' w)
  ticked_row t w is = row_step shape es sofar more (now told) t w (ticked moment' w) (stands.rows.known t w is)
      (queue_same (w.armed && nat_le w.due moment')) (slot_same (w.armed && nat_le w.due moment')) (armed_same (w.armed && nat_le w.due moment') ∙ still_and w.armed)
      (λ live. ap (λ (n : ℕ). due_step (now told) n None (Some (w.interval, w.due))) (sym time)
      ∙ due_same (w.armed) (nat_le w.due moment') ((stands.rows.known t w is).armed ∙ (and_parts (is_armed t es) (not (has_ending shape es)) (live_before shape t es (now told) (stands.rows.known t w is).came live)).0))
    where
      queue_same : (b : Bool) → (cond b (due_then (moment' + w.interval) w) w).queue ≡ w.queue
      queue_same true = refl
      queue_same false = refl

      slot_same : (b : Bool) → (cond b (due_then (moment' + w.interval) w) w).slot ≡ w.slot
      slot_same true = refl
      slot_same false = refl

      armed_same : (b : Bool) → (cond b (due_then (moment' + w.interval) w) w).armed ≡ w.armed
      armed_same true = refl
      armed_same false = refl

      due_same : (a b : Bool) → a ≡ true → cond {A = Option (ℕ × ℕ)} b (Some (w.interval, moment' + w.interval)) (Some (w.interval, w.due))
          ≡ Some ((cond (a && b) (due_then (moment' + w.interval) w) w).interval, (cond (a && b) (due_then (moment' + w.interval) w) w).due)
      due_same true true h = refl
      due_same true false h = refl
      due_same false b h = cc

  late_row : has_ending shape es ≡ true → (t : TimerId) (w : Row) → rows t ≡ Some w → IsRow shape (es ++ now told ∷ []) (sofar ++ more) t w
  late_row ended t w is = row_step shape es sofar more (now told) t w w (stands.rows.known t w is) refl refl (still_and w.armed)
      (λ live. absurd (both_ways (not (has_ending shape (es ++ now told ∷ []))) (ap not (has_ending-keeps shape es (now told) ended))
      (and_parts (is_armed t (es ++ now told ∷ [])) (not (has_ending shape (es ++ now told ∷ []))) live).1))

  yet_row : (t : TimerId) (o : Option Row) (s : Row) → o ≡ rows t → option_map (ticked moment') o ≡ Some s → IsRow shape (es ++ now told ∷ []) (sofar ++ more) t s
  yet_row t None s e is = cc
  yet_row t (Some w) s e is =
      let P : Row → Type 0 = λ v. IsRow shape (es ++ now told ∷ []) (sofar ++ more) t v in
      subst P (one_row (ticked moment' w) s is) (ticked_row t w (sym e))

  none_ticked : (o : Option Row) → option_map (ticked moment') o ≡ None → o ≡ None
  none_ticked None h = refl
  none_ticked (Some w) h = cc

  pub stands_ticked : Stands shape (es ++ now told ∷ []) (sofar ++ more) moment' rows' listed' slots
  stands_ticked = record {
    time = time;
    rows = record {
      unknown = λ t is. came_same t ∙ stands.rows.unknown t (⊎_elim
          (λ ended. sym (rows_late ended t) ∙ is)
          (λ yet. none_ticked (rows t) (sym (rows_yet yet t) ∙ is))
          (cases_Bool (has_ending shape es)));
      known = λ t s is. ⊎_elim
          (λ ended. late_row ended t s (sym (rows_late ended t) ∙ is))
          (λ yet. yet_row t (rows t) s refl (sym (rows_yet yet t) ∙ is))
          (cases_Bool (has_ending shape es));
    };
    listed = λ none. listed_are (not_yet shape es (now told) none);
    slots = λ none queue slot. stands.slots (not_yet shape es (now told) none) queue slot
        ∙ sym (held_same shape es (es ++ now told ∷ []) sofar (sofar ++ more) (puts-push newly_armed es (now told) ∙ append-nil (all_armed es))
        (λ t came. live_still shape es (now told) none t (λ a. refl) came)
        (λ t came. said_none (created_in t) sofar more (made t)) queue slot);
  }
