-- One turn of a pass after another.
use Rattle.std.proofs.Common.{◌≡◌, ℕ, ◌+◌, ◌-◌, ◌^◌, ◌<◌, ◌≤◌, List, [], length, get_or, refl, sym, ◌∙◌, ap, arith, subst, add-one}
use Rattle.std.specs.Prelude.{Option, Some, None, IfSome, Result, IfOk}
use Rattle.std.proofs.lemmas.List.{length-map}
use Rattle.mama_event.specs.declared.shape.Shape.{Shape}
use Rattle.mama_event.specs.Ports.{publishers_of, queues_of}
use Rattle.mama_rules_rounds.specs.Setting.{Setting}
use Rattle.mama_rules_rounds.specs.World.{World, in_turn, bridge_turn, timers_turn, publisher_turn, queue_turn, pass, IsQuiet}
use Rattle.mama_drive.specs.declared.turn.Turn.{Turn}
use Rattle.mama_drive.specs.declared.turn.Turn.TheVariants as turn
use Rattle.mama_drive.specs.Scene.{Scene, Moves, Drains, setting_in, world_in, lane_in, waiting_in}
use Rattle.mama_drive.specs.Marks.{IsNext, IsNextOf}
use Rattle.mama_drive.specs.Grown.{HaveGrown}
use Rattle.mama_drive.specs.Turns.{turned, Counts, IsDraining, GoesOn}
use Rattle.mama_drive.proofs.SceneLemmas.{moves_then, moves_none}
use Rattle.mama_drive.proofs.TurnLemmas.{passes_none, passes_more, publishers_passed, queues_passed}
use Rattle.mama_drive.proofs.GrownLemmas.{grown_same, grown_then, moves_grown, bridge_grown, timers_grown, publisher_grown, queue_grown}

pub draining_none : (s : Scene) → IsDraining s turn.Bridge s
draining_none s = record { mid = s; passes = passes_none s; moves = moves_none s; within = tt }

-- a turn that changes nothing
stays : (t next : Turn) (a b : Scene) → b ≡ a → ((first : Scene) → IsDraining first t a → IsDraining first next a) → GoesOn t a next b
stays t next a b is on = subst (λ (s : Scene). GoesOn t a next s) (sym is) (record { on = on; clients = refl; grown = grown_same (world_in a) })

-- a turn that is made
made : (f : Setting → World → World) (t next : Turn) (a b : Scene) → ((setting : Setting) (w : World) → HaveGrown w (f setting w))
    → ((setting : Setting) (w : World) → f setting (turned setting t w) ≡ turned setting next w) → ((shape : Shape) → shape ≡ a.shape → Counts shape next)
    → Moves a b (f (setting_in a) (world_in a)) → GoesOn t a next b
made f t next a b grows is counts moves = record {
  on = λ first d. record {
    mid = d.mid;
    passes = d.passes;
    moves = subst (λ (w : World). Moves d.mid b w) (is (setting_in d.mid) (world_in d.mid)) (moves_then f d.moves moves);
    within = counts d.mid.shape (sym (ap (λ (s : Setting). s.shape) d.moves.setting));
  };
  clients = moves.clients;
  grown = moves_grown f a b grows moves;
}

pub bridge_on : (a b : Scene) → Moves a b (bridge_turn (setting_in a) (world_in a)) → GoesOn turn.Bridge a turn.Timers b
bridge_on a b moves = made bridge_turn turn.Bridge turn.Timers a b bridge_grown (λ setting w. refl) (λ shape same. tt) moves

pub timers_on : (a b : Scene) → Moves a b (timers_turn (setting_in a) (world_in a)) → GoesOn turn.Timers a (turn.Publisher 0) b
timers_on a b moves = made timers_turn turn.Timers (turn.Publisher 0) a b timers_grown (λ setting w. refl) (λ shape same. let h : 0 ≤ publishers_of shape = omega arith in h) moves

publisher_on : (n : ℕ) (a b : Scene) → n < publishers_of a.shape → Moves a b (publisher_turn (setting_in a) n (world_in a)) → GoesOn (turn.Publisher n) a (turn.Publisher (n + 1)) b
publisher_on n a b within moves =
    made (λ setting w. publisher_turn setting n w) (turn.Publisher n) (turn.Publisher (n + 1)) a b (publisher_grown n)
    (λ setting w. ap (λ k. in_turn (publisher_turn setting) k (timers_turn setting (bridge_turn setting w))) (sym (add-one n)))
    (λ shape same. subst (λ (s : Shape). n + 1 ≤ publishers_of s) (sym same) (let h : n + 1 ≤ publishers_of a.shape = omega (arith, within) in h)) moves

queue_on : (n : ℕ) (a b : Scene) → n < queues_of a.shape → Moves a b (queue_turn (setting_in a) n (world_in a)) → GoesOn (turn.Queue n) a (turn.Queue (n + 1)) b
queue_on n a b within moves =
    made (λ setting w. queue_turn setting n w) (turn.Queue n) (turn.Queue (n + 1)) a b (queue_grown n)
    (λ setting w. ap (λ k. in_turn (queue_turn setting) k (in_turn (publisher_turn setting) (publishers_of setting.shape) (timers_turn setting (bridge_turn setting w)))) (sym (add-one n)))
    (λ shape same. subst (λ (s : Shape). n + 1 ≤ queues_of s) (sym same) (let h : n + 1 ≤ queues_of a.shape = omega (arith, within) in h)) moves

-- a turn after a turn
goes_then : (t u v : Turn) (a b c : Scene) → GoesOn t a u b → GoesOn u b v c → GoesOn t a v c
goes_then t u v a b c h k = record { on = λ first d. k.on first (h.on first d); clients = k.clients ∙ h.clients; grown = grown_then (world_in a) (world_in b) (world_in c) h.grown k.grown }

-- PUBLISHERS AND QUEUES FOR WHICH NOTHING WAITS

publishers_upto : (n m : ℕ) (mid a : Scene) (w : World) → n ≤ m → ((q : ℕ) → n ≤ q → q < m → get_or (world_in a).to_publishers q [] ≡ [])
    → Moves mid a (in_turn (publisher_turn (setting_in mid)) n w) → Moves mid a (in_turn (publisher_turn (setting_in mid)) m w)
publishers_upto n m mid a w above none moves =
    let count : (m - n) + n ≡ m = omega (arith, above) in
    let passed : in_turn (publisher_turn (setting_in mid)) ((m - n) + n) w ≡ world_in a =
    publishers_passed (setting_in mid) w (world_in a) n (m - n) (sym moves.now) (λ q low high. none q low (subst (λ k. q < k) count high)) in
    subst (λ (v : World). Moves mid a v) (sym moves.now ∙ sym (subst (λ k. in_turn (publisher_turn (setting_in mid)) k w ≡ world_in a) count passed)) moves

queues_upto : (n m : ℕ) (mid a : Scene) (w : World) → n ≤ m → ((q : ℕ) → n ≤ q → q < m → get_or (world_in a).to_queues q [] ≡ [])
    → Moves mid a (in_turn (queue_turn (setting_in mid)) n w) → Moves mid a (in_turn (queue_turn (setting_in mid)) m w)
queues_upto n m mid a w above none moves =
    let count : (m - n) + n ≡ m = omega (arith, above) in
    let passed : in_turn (queue_turn (setting_in mid)) ((m - n) + n) w ≡ world_in a =
    queues_passed (setting_in mid) w (world_in a) n (m - n) (sym moves.now) (λ q low high. none q low (subst (λ k. q < k) count high)) in
    subst (λ (v : World). Moves mid a v) (sym moves.now ∙ sym (subst (λ k. in_turn (queue_turn (setting_in mid)) k w ≡ world_in a) count passed)) moves

-- up to the next for which something may wait
publishers_skip : (n m : ℕ) (a : Scene) → IsNext (world_in a).to_publishers n m → m < publishers_of a.shape → GoesOn (turn.Publisher n) a (turn.Publisher m) a
publishers_skip n m a next within = stays (turn.Publisher n) (turn.Publisher m) a a refl
    (λ first d.
    let same : publishers_of a.shape ≡ publishers_of d.mid.shape = ap (λ (s : Setting). publishers_of s.shape) d.moves.setting in
    record {
      mid = d.mid;
      passes = d.passes;
      moves = publishers_upto n m d.mid a (timers_turn (setting_in d.mid) (bridge_turn (setting_in d.mid) (world_in d.mid))) next.above next.passed d.moves;
      within = let h : m ≤ publishers_of d.mid.shape = omega (arith, same, within) in h;
    })

queues_skip : (n m : ℕ) (a : Scene) → IsNext (world_in a).to_queues n m → m < queues_of a.shape → GoesOn (turn.Queue n) a (turn.Queue m) a
queues_skip n m a next within = stays (turn.Queue n) (turn.Queue m) a a refl
    (λ first d.
    let same : queues_of a.shape ≡ queues_of d.mid.shape = ap (λ (s : Setting). queues_of s.shape) d.moves.setting in
    record {
      mid = d.mid;
      passes = d.passes;
      moves = queues_upto n m d.mid a (turned (setting_in d.mid) (turn.Queue 0) (world_in d.mid)) next.above next.passed d.moves;
      within = let h : m ≤ queues_of d.mid.shape = omega (arith, same, within) in h;
    })

-- the one that was found is among them
found_at : (count m : ℕ) (r : Option ℕ) → r ≡ Some m → IfSome r (λ k. (k < count) × (k + 1 < 2 ^ 32)) → (m < count) × (m + 1 < 2 ^ 32)
found_at count m r some within = subst (λ (o : Option ℕ). IfSome o (λ k. (k < count) × (k + 1 < 2 ^ 32))) some within

pub found_few : (count m : ℕ) (r : Option ℕ) → r ≡ Some m → IfSome r (λ k. (k < count) × (k + 1 < 2 ^ 32)) → m + 1 < 2 ^ 32
found_few count m r some within = (found_at count m r some within).1

pub publisher_within : (n m : ℕ) (b : Scene) (r : Option ℕ) → r ≡ Some m → IsNextOf (world_in b).to_publishers n r → m < length b.senders
publisher_within n m b r some next =
    let at : IsNext (world_in b).to_publishers n m = subst (λ (o : Option ℕ). IsNextOf (world_in b).to_publishers n o) some next in
    subst (λ k. m < k) (length-map b.senders lane_in) at.below

pub queue_within : (n m : ℕ) (b : Scene) (r : Option ℕ) → r ≡ Some m → IsNextOf (world_in b).to_queues n r → m < length b.servers
queue_within n m b r some next =
    let at : IsNext (world_in b).to_queues n m = subst (λ (o : Option ℕ). IsNextOf (world_in b).to_queues n o) some next in
    subst (λ k. m < k) (length-map b.servers waiting_in) at.below

pub publisher_next : (n m : ℕ) (a b c : Scene) (r : Option ℕ) → b ≡ a → r ≡ Some m → IsNextOf (world_in b).to_publishers n r → IfSome r (λ k. (k < publishers_of b.shape) × (k + 1 < 2 ^ 32))
    → Moves b c (publisher_turn (setting_in b) m (world_in b)) → GoesOn (turn.Publisher n) a (turn.Publisher (m + 1)) c
publisher_next n m a b c r is some next within moves =
    subst (λ (s : Scene). GoesOn (turn.Publisher n) s (turn.Publisher (m + 1)) c) is
    (goes_then (turn.Publisher n) (turn.Publisher m) (turn.Publisher (m + 1)) b b c
    (publishers_skip n m b (subst (λ (o : Option ℕ). IsNextOf (world_in b).to_publishers n o) some next) (found_at (publishers_of b.shape) m r some within).0) (publisher_on m b c (found_at (publishers_of b.shape) m r some within).0 moves))

pub queue_next : (n m : ℕ) (a b c : Scene) (r : Option ℕ) → b ≡ a → r ≡ Some m → IsNextOf (world_in b).to_queues n r → IfSome r (λ k. (k < queues_of b.shape) × (k + 1 < 2 ^ 32))
    → Moves b c (queue_turn (setting_in b) m (world_in b)) → GoesOn (turn.Queue n) a (turn.Queue (m + 1)) c
queue_next n m a b c r is some next within moves =
    subst (λ (s : Scene). GoesOn (turn.Queue n) s (turn.Queue (m + 1)) c) is
    (goes_then (turn.Queue n) (turn.Queue m) (turn.Queue (m + 1)) b b c
    (queues_skip n m b (subst (λ (o : Option ℕ). IsNextOf (world_in b).to_queues n o) some next) (found_at (queues_of b.shape) m r some within).0) (queue_on m b c (found_at (queues_of b.shape) m r some within).0 moves))

-- nothing waits for any more
pub publishers_end : (n : ℕ) (a b : Scene) (r : Option ℕ) → b ≡ a → r ≡ None → IsNextOf (world_in b).to_publishers n r → GoesOn (turn.Publisher n) a (turn.Queue 0) b
publishers_end n a b r is none next =
    let empty : (q : ℕ) → n ≤ q → get_or (world_in b).to_publishers q [] ≡ [] = subst (λ (o : Option ℕ). IsNextOf (world_in b).to_publishers n o) none next in
    subst (λ (s : Scene). GoesOn (turn.Publisher n) s (turn.Queue 0) b) is
    (stays (turn.Publisher n) (turn.Queue 0) b b refl
    (λ first d. record {
      mid = d.mid;
      passes = d.passes;
      moves = publishers_upto n (publishers_of d.mid.shape) d.mid b (timers_turn (setting_in d.mid) (bridge_turn (setting_in d.mid) (world_in d.mid))) d.within (λ q low high. empty q low) d.moves;
      within = let h : 0 ≤ queues_of d.mid.shape = omega arith in h;
    }))

pub queues_end : (n : ℕ) (a b : Scene) (r : Option ℕ) → b ≡ a → r ≡ None → IsNextOf (world_in b).to_queues n r → GoesOn (turn.Queue n) a turn.Bridge b
queues_end n a b r is none next =
    let empty : (q : ℕ) → n ≤ q → get_or (world_in b).to_queues q [] ≡ [] = subst (λ (o : Option ℕ). IsNextOf (world_in b).to_queues n o) none next in
    subst (λ (s : Scene). GoesOn (turn.Queue n) s turn.Bridge b) is
    (stays (turn.Queue n) turn.Bridge b b refl
    (λ first d.
    let whole : Moves d.mid b (pass (setting_in d.mid) (world_in d.mid)) =
    queues_upto n (queues_of d.mid.shape) d.mid b (turned (setting_in d.mid) (turn.Queue 0) (world_in d.mid)) d.within (λ q low high. empty q low) d.moves in
    record { mid = b; passes = passes_more first d.mid b d.passes whole; moves = moves_none b; within = tt }))

-- what is drained
pub drained : (first a : Scene) → IsDraining first turn.Bridge a → IsQuiet (world_in a) → Drains first a
drained first a d quiet = record {
  passes = record { count = d.passes.count; moves = moves_then (λ setting w. w) d.passes.moves d.moves };
  quiet = quiet;
}

-- the turn that comes next, by the turn that it was
pub on_turn : {E : Type 0} → (t u : Turn) (r : Result Turn E) (a b : Scene) → t ≡ u → IfOk r (λ next. GoesOn u a next b) → IfOk r (λ next. GoesOn t a next b)
on_turn t u r a b is h = subst (λ (k : Turn). IfOk r (λ next. GoesOn k a next b)) (sym is) h
