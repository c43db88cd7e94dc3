-- What a turn answers tells whether its entry is a tick that was called back; so watches follow turns as their rules say.
use Rattle.std.proofs.Common.{◌≡◌, ℕ, ◌+◌, Bool, true, false, cond, ltb, List, [], ◌∷◌, ◌++◌, length, map, Option, None, Some, refl, sym, ap, ◌∙◌, append-nil}
use Rattle.std.specs.Prelude.{◌&&◌, not}
use Rattle.std.specs.List.{flat_map}
use Rattle.mama_event.specs.declared.ids.TimerId.{TimerId}
use Rattle.mama_event.specs.declared.ids.SubId.{SubId}
use Rattle.mama_event.specs.declared.ids.ObjectId.{ObjectId}
use Rattle.mama_event.specs.declared.ids.ObjectId.TheVariants.{Sub, Timer, Inbox}
use Rattle.mama_event.specs.declared.callback.Callback.{Callback}
use Rattle.mama_event.specs.declared.callback.Callback.TheVariants as on
use Rattle.mama_event.specs.declared.order.Order.{Order}
use Rattle.mama_event.specs.declared.to_queue.QueueNote.{QueueNote}
use Rattle.mama_event.specs.declared.to_queue.QueueNote.TheVariants as q
use Rattle.mama_event.specs.declared.watch.WatchRow.{WatchRow}
use Rattle.mama_event.specs.Listener.{ListenerData}
use Rattle.mama_event.specs.Object.{same_timer}
use Rattle.mama_event.specs.Arrival.{code_of}
use Rattle.mama_event.specs.EqualityLaws.{same_timer-Decides}
use Rattle.mama_dq.specs.Strategy.{callbacks_of}
use Rattle.mama_journal.specs.Journal.{first_said}
use Rattle.mama_dispatch.specs.declared.turn.Turn.{Turn}
use Rattle.mama_dispatch.specs.declared.turn.Turn.TheVariants as turn
use Rattle.mama_dispatch.specs.Seats.{SeatData}
use Rattle.mama_dispatch.specs.Answering.{AnswersTo, told_or_muted}
use Rattle.mama_rules_queue.specs.Queue.{Deed, handled, called, QueuePut, calls_of, is_destroy, is_muted, made, make_in, context_of, messages_of, served, deeds, deeds_at}
use Rattle.mama_rules_queue.specs.Watch as rules
use Rattle.mama_rules_queue.specs.Watch.{wish_in, watch_notes_at, wishes_at}
use Rattle.mama_timeout.specs.Table.{WatchData, watch_by, ticked, tick_wishes, IsTick, IsNoTick}
use Rattle.mama_timeout.specs.Turns.{tick_in, has_called, watches_after, wishes_after, missed_by, AreWatched}
use Rattle.mama_timeout.proofs.Noted.{none_step, made_sub, made_inbox, noted_turn, wished_turn, unnoted_turn, unwished_turn}

-- ---- an entry that is no tick ticks for nobody

none_made : (u : TimerId) (orders : ObjectId → ℕ → List Order) (t : TimerId) (sofar : List Deed) (c : Callback)
    → ((os : List Order) → rules.ticked u (called (Timer t) c os) ≡ []) → flat_map (rules.ticked u) (made orders (Timer t) sofar (c ∷ [])) ≡ []
none_made u orders t sofar c here =
    let os = orders (Timer t) (length (calls_of (Timer t) sofar) + 1) in
    none_step u (is_muted (Timer t) sofar && not (is_destroy c)) [] [] (called (Timer t) c os) (here os) refl refl

no_tick : (u : TimerId) (orders : ObjectId → ℕ → List Order) (before : List (ℕ × QueueNote)) (sofar : List Deed) (n : QueueNote) → tick_in n ≡ None → flat_map (rules.ticked u) (served orders before sofar n) ≡ []
no_tick u orders before sofar (q.Create slot (Sub s) make tag) none = made_sub u orders s sofar (on.Create ∷ [])
no_tick u orders before sofar (q.Create slot (Timer t) make tag) none = none_made u orders t sofar on.Create (λ os. refl)
no_tick u orders before sofar (q.Create slot (Inbox i) make tag) none = made_inbox u orders i sofar (on.Create ∷ [])
no_tick u orders before sofar (q.Deliver slot sub msg) none =
    let next = sofar ++ handled sub msg ∷ [] in
    let cs = callbacks_of (context_of (first_said (λ e. make_in (Sub sub) e.1) before) (messages_of sub sofar)) msg in
    none_step u (is_muted (Sub sub) sofar) [] (made orders (Sub sub) next cs) (handled sub msg) refl refl (made_sub u orders sub next cs)
no_tick u orders before sofar (q.Reply slot inbox body) none = made_inbox u orders inbox sofar (on.Reply body ∷ [])
no_tick u orders before sofar (q.Bad slot sub kind sender seq bytes) none = made_sub u orders sub sofar (on.Error (code_of bytes) ∷ [])
no_tick u orders before sofar (q.BadReply slot inbox bytes) none = made_inbox u orders inbox sofar (on.Error (code_of bytes) ∷ [])
no_tick u orders before sofar (q.Tick slot timer moment) none = absurd cc
no_tick u orders before sofar (q.Gone slot (Sub s)) none = made_sub u orders s sofar (on.Destroy ∷ [])
no_tick u orders before sofar (q.Gone slot (Timer t)) none = none_made u orders t sofar on.Destroy (λ os. refl)
no_tick u orders before sofar (q.Gone slot (Inbox i)) none = made_inbox u orders i sofar (on.Destroy ∷ [])
no_tick u orders before sofar q.Fin none = refl

-- ---- the watches of a queue, one by one

module _ (orders : ObjectId → ℕ → List Order) (before : List (ℕ × QueueNote)) (e : ℕ × QueueNote) where
  abbrev now : List (ℕ × QueueNote)
  now = before ++ e ∷ []

  unnoted : IsNoTick (deeds_at orders before e) → (rows : List (ℕ × WatchRow)) → map (watch_by orders before) rows ≡ map (watch_by orders now) rows
  unnoted none [] = refl
  unnoted none (w ∷ ws) =
      ap (λ (x : WatchData). x ∷ map (watch_by orders before) ws) (sym (unnoted_turn orders w before e none)) ∙ ap (λ (x : List WatchData). watch_by orders now w ∷ x) (unnoted none ws)

  unwished : IsNoTick (deeds_at orders before e) → (rows : List (ℕ × WatchRow)) → [] ≡ wishes_at orders (map (λ (w : ℕ × WatchRow). w.1) rows) before e
  unwished none [] = refl
  unwished none (w ∷ ws) =
      unwished none ws ∙ ap (λ (x : List QueuePut). x ++ wishes_at orders (map (λ (w : ℕ × WatchRow). w.1) ws) before e) (sym (unwished_turn orders w before e none))

  all_noted : (t : TimerId) (moment : ℕ) → IsTick t moment (deeds_at orders before e) → (rows : List (ℕ × WatchRow))
      → map (ticked t moment (missed_by orders now)) (map (watch_by orders before) rows) ≡ map (watch_by orders now) rows
  all_noted t moment tick [] = refl
  all_noted t moment tick (w ∷ ws) =
      ap (λ (x : WatchData). x ∷ map (ticked t moment (missed_by orders now)) (map (watch_by orders before) ws)) (sym (noted_turn orders w before e t moment tick))
      ∙ ap (λ (x : List WatchData). watch_by orders now w ∷ x) (all_noted t moment tick ws)

  all_wished : (t : TimerId) (moment : ℕ) → IsTick t moment (deeds_at orders before e) → (rows : List (ℕ × WatchRow))
      → flat_map (tick_wishes t moment (missed_by orders now)) (map (watch_by orders before) rows) ≡ wishes_at orders (map (λ (w : ℕ × WatchRow). w.1) rows) before e
  all_wished t moment tick [] = refl
  all_wished t moment tick (w ∷ ws) =
      ap (λ (x : List QueuePut). x ++ flat_map (tick_wishes t moment (missed_by orders now)) (map (watch_by orders before) ws)) (sym (wished_turn orders w before e t moment tick))
      ∙ ap (λ (x : List QueuePut). flat_map (wish_in w.1) (watch_notes_at orders w.1 before e) ++ x) (all_wished t moment tick ws)

-- where nothing was ticked
quiet : {L : Type 0} (orders : ObjectId → ℕ → List Order) (rows : List (ℕ × WatchRow)) (before : List (ℕ × QueueNote)) (e : ℕ × QueueNote) (answer : Turn L) → tick_in e.1 ≡ None → AreWatched orders rows before e answer
quiet orders rows before e answer is =
    let none : IsNoTick (deeds_at orders before e) = λ u. no_tick u orders before (deeds orders before) e.1 is in
    let ws : List WatchData = map (watch_by orders before) rows in
    let missed : SubId → Bool = missed_by orders (before ++ e ∷ []) in
    record {
      noted = ap (λ (o : Option (TimerId × ℕ)). watches_after o answer missed ws) is ∙ unnoted orders before e none rows;
      wished = ap (λ (o : Option (TimerId × ℕ)). wishes_after o answer missed ws) is ∙ unwished orders before e none rows;
    }

-- at a tick
module _ {L : Type 0} (orders : ObjectId → ℕ → List Order) (rows : List (ℕ × WatchRow)) (before : List (ℕ × QueueNote)) (port slot : ℕ) (timer : TimerId) (moment : ℕ) (answer : Turn L) where
  abbrev here : ℕ × QueueNote
  here = (port, q.Tick slot timer moment)

  abbrev sofar : List Deed
  sofar = deeds orders before

  abbrev deed : Deed
  deed = called (Timer timer) (on.Tick moment) (orders (Timer timer) (length (calls_of (Timer timer) sofar) + 1))

  abbrev ws : List WatchData
  ws = map (watch_by orders before) rows

  abbrev missed : SubId → Bool
  missed = missed_by orders (before ++ here ∷ [])

  at_tick : (muted : Bool) → is_muted (Timer timer) sofar ≡ muted → answer ≡ told_or_muted (Timer timer) (is_muted (Timer timer) sofar) (length (calls_of (Timer timer) (deeds_at orders before here)))
      → AreWatched orders rows before here answer
  at_tick true is told =
      let nothing : deeds_at orders before here ≡ [] = ap (λ (b : Bool). cond (b && true) [] (deed ∷ [])) is in
      let none : IsNoTick (deeds_at orders before here) = λ u. ap (flat_map (rules.ticked u)) nothing in
      let off : has_called answer ≡ false =
      ap has_called (told ∙ ap (λ (b : Bool). told_or_muted (Timer timer) b (length (calls_of (Timer timer) (deeds_at orders before here)))) is) in
      record {
        noted = ap (λ (b : Bool). cond b (map (ticked timer moment missed) ws) ws) off ∙ unnoted orders before here none rows;
        wished = ap (λ (b : Bool). cond b (flat_map (tick_wishes timer moment missed) ws) []) off ∙ unwished orders before here none rows;
      }
  at_tick false is told =
      let one : deeds_at orders before here ≡ deed ∷ [] = ap (λ (b : Bool). cond (b && true) [] (deed ∷ [])) is in
      let tick : IsTick timer moment (deeds_at orders before here) = λ u. ap (flat_map (rules.ticked u)) one ∙ append-nil (rules.ticked u deed) in
      let same : same_timer timer timer ≡ true = (same_timer-Decides timer timer).1 refl in
      let count : length (calls_of (Timer timer) (deeds_at orders before here)) ≡ 1 =
      ap (λ (ds : List Deed). length (calls_of (Timer timer) ds)) one ∙ counted same in
      let on_it : has_called answer ≡ true =
      ap has_called (told ∙ ap (λ (b : Bool). told_or_muted (Timer timer) b (length (calls_of (Timer timer) (deeds_at orders before here)))) is) ∙ ap (λ (n : ℕ). ltb 0 n) count in
      record {
        noted = ap (λ (b : Bool). cond b (map (ticked timer moment missed) ws) ws) on_it ∙ all_noted orders before here timer moment tick rows;
        wished = ap (λ (b : Bool). cond b (flat_map (tick_wishes timer moment missed) ws) []) on_it ∙ all_wished orders before here timer moment tick rows;
      }
    where
      counted : same_timer timer timer ≡ true → length (calls_of (Timer timer) (deed ∷ [])) ≡ 1
      counted same = rw same refl

pub watched : {L : Type 0} (view : L → ListenerData) (orders : ObjectId → ℕ → List Order) (seats : List SeatData) (rows : List (ℕ × WatchRow)) (before : List (ℕ × QueueNote)) (e : ℕ × QueueNote) (answer : Turn L)
    → AnswersTo view orders seats before (deeds orders before) e.1 answer → AreWatched orders rows before e answer
watched view orders seats rows before (port, q.Tick slot timer moment) answer told = at_tick orders rows before port slot timer moment answer (is_muted (Timer timer) (deeds orders before)) refl told
watched view orders seats rows before (port, q.Create slot object make tag) answer told = quiet orders rows before (port, q.Create slot object make tag) answer refl
watched view orders seats rows before (port, q.Deliver slot sub msg) answer told = quiet orders rows before (port, q.Deliver slot sub msg) answer refl
watched view orders seats rows before (port, q.Reply slot inbox body) answer told = quiet orders rows before (port, q.Reply slot inbox body) answer refl
watched view orders seats rows before (port, q.Bad slot sub kind sender seq bytes) answer told = quiet orders rows before (port, q.Bad slot sub kind sender seq bytes) answer refl
watched view orders seats rows before (port, q.BadReply slot inbox bytes) answer told = quiet orders rows before (port, q.BadReply slot inbox bytes) answer refl
watched view orders seats rows before (port, q.Gone slot object) answer told = quiet orders rows before (port, q.Gone slot object) answer refl
watched view orders seats rows before (port, q.Fin) answer told = quiet orders rows before (port, q.Fin) answer refl

-- ---- a turn that called a tick back

module _ {L : Type 0} (tick : Option (TimerId × ℕ)) (t : TimerId) (moment : ℕ) (answer : Turn L) (missed : SubId → Bool) (ws : List WatchData) (is : tick ≡ Some (t, moment)) (called_back : has_called answer ≡ true) where
  pub watches_behind : map (ticked t moment missed) ws ≡ watches_after tick answer missed ws
  watches_behind =
      sym (ap (λ (o : Option (TimerId × ℕ)). watches_after o answer missed ws) is ∙ ap (λ (b : Bool). cond b (map (ticked t moment missed) ws) ws) called_back)

  pub wishes_behind : flat_map (tick_wishes t moment missed) ws ≡ wishes_after tick answer missed ws
  wishes_behind =
      sym (ap (λ (o : Option (TimerId × ℕ)). wishes_after o answer missed ws) is ∙ ap (λ (b : Bool). cond b (flat_map (tick_wishes t moment missed) ws) []) called_back)
