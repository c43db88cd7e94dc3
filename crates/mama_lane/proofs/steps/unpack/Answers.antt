use Rattle.std.proofs.Common.{arith, ◌≡◌, ◌≤◌, ◌++◌, ℕ, suc, length, List, refl, sym, ap, subst, ◌∙◌, append-nil}
use Rattle.std.specs.VecDeque.{deque_len, deque_capacity}
use Rattle.crossbeam_queue.specs.SegBatches.{Holds}
use Rattle.mama_lane.proofs.Batches.{has_first, none_left, moved_on}
use Rattle.mama_lane.proofs.Kept.{admits}
use Rattle.mama_lane.proofs.steps.unpack.Goals as goal

pub each-init : goal.each-init
each-init g c =
    let r = c.requires.batch in
    let long : length r.0 ≡ c.args.batch.len = r.1.8 in
    let fits : length r.0 ≤ deque_capacity c.args.buffer.now = r.2 in
    let none : deque_len c.args.buffer.now ≡ 0 = c.args.buffer.now.ok.0 ∙ ap length c.requires.empty in
    record {
      pass = c.requires.pass;
      view = refl;
      capacity = refl;
      room = omega arith;
      events = λ xs held. (xs, held, ap (λ (l : List (ℕ × g.row.E.Denot)). l ++ xs) (sym c.requires.empty));
    }

pub next_of-event-requires : goal.next_of-event-requires
next_of-event-requires g c =
    let d = c.each.invariant.events c.requires.batch.0 c.requires.batch.1 in
    let long : length d.0 ≡ c.each.batch.len = d.1.8 in
    let f = has_first d.0 (omega (arith, c.len.ensures, c.each-test.true)) in
    (c.each.invariant.pass.0, admits g.E.Stream.noted g.E.Stream.lawful, (f.0, f.1, subst (Holds c.args.queue.now c.each.pass c.each.batch) f.2 d.1))

pub push_back_reserved-requires : goal.push_back_reserved-requires
push_back_reserved-requires g c = omega (arith, c.each.invariant.room, c.len.ensures, c.each-test.true)

pub each-preserved : goal.each-preserved
each-preserved g c =
    let i = c.each.invariant in
    let n = c.next_of-event.ensures in
    let d = i.events c.requires.batch.0 c.requires.batch.1 in
    let long : length d.0 ≡ c.each.batch.len = d.1.8 in
    let f = has_first d.0 (omega (arith, c.len.ensures, c.each-test.true)) in
    let got = n.item f.0 f.1 (subst (Holds c.args.queue.now c.each.pass c.each.batch) f.2 d.1) in
    let short : length f.1 ≡ c.next_of-event.new.batch.len = got.1.8 in
    let more : length d.0 ≡ suc (length f.1) = ap length f.2 in
    record {
      pass = (n.queue.0, n.queue.1 ∙ i.pass.1);
      view = n.queue.2 ∙ i.view;
      capacity = c.push_back_reserved.ensures.capacity ∙ i.capacity;
      room = omega (arith, i.room, c.push_back_reserved.ensures.len, c.push_back_reserved.ensures.capacity);
      events = λ xs held.
          let d = i.events xs held in
          let long : length d.0 ≡ c.each.batch.len = d.1.8 in
          let f = has_first d.0 (omega (arith, c.len.ensures, c.each-test.true)) in
          let got = n.item f.0 f.1 (subst (Holds c.args.queue.now c.each.pass c.each.batch) f.2 d.1) in
          (f.1, got.1, moved_on xs c.each.buffer.items c.push_back_reserved.new.self.items d.0 f.1 f.0 c.next_of-event.result d.2 f.2 got.0 c.push_back_reserved.ensures.items);
    }

pub each-smaller : goal.each-smaller
each-smaller g c =
    let d = c.each.invariant.events c.requires.batch.0 c.requires.batch.1 in
    let long : length d.0 ≡ c.each.batch.len = d.1.8 in
    let f = has_first d.0 (omega (arith, c.len.ensures, c.each-test.true)) in
    let got = c.next_of-event.ensures.item f.0 f.1 (subst (Holds c.args.queue.now c.each.pass c.each.batch) f.2 d.1) in
    let short : length f.1 ≡ c.next_of-event.new.batch.len = got.1.8 in
    let more : length d.0 ≡ suc (length f.1) = ap length f.2 in
    omega arith

pub finish-requires : goal.finish-requires
finish-requires g c = omega (arith, c.len.ensures, c.each-test.false)

pub returns-clause-events : goal.returns-clause-events
returns-clause-events g c = λ xs held.
    let d = c.each.invariant.events xs held in
    let long : length d.0 ≡ c.each.batch.len = d.1.8 in
    let none = none_left d.0 (omega (arith, c.len.ensures, c.each-test.false)) in
    sym (d.2 ∙ (ap (λ (l : List (ℕ × g.row.E.Denot)). c.each.buffer.items ++ l) none ∙ append-nil c.each.buffer.items))
