use Rattle.std.proofs.Common.{◌≡◌, ℕ, ◌<◌, ◌≤◌, List, [], map, length, get_or, ap, subst, arith}
use Rattle.mama_seats.specs.Sender.{Sender, steps_in}
use Rattle.mama_drive.proofs.RestLemmas.{passed_none, passed_by}
use Rattle.mama_drive.proofs.system.System.next_sender.Goals as goal

pub overflow_cast-result : goal.overflow_cast-result
overflow_cast-result c = omega (arith, c.next_left.ensures.within, ap length c.as_slice.ensures.value, c.self.invariant.ports, c.self.invariant.sender_count)

pub returns-then-not-is_quiet : goal.returns-then-not-is_quiet
returns-then-not-is_quiet c = passed_none c.args.from c.args.self.now

pub returns : goal.returns
returns c = passed_by c.args.from c.next_left.result _ c.args.self.now c.self.view_is c.self.invariant.sender_count (c.is_quiet.ensures c.if-not-is_quiet.false)
    (subst (λ (l : List Sender). c.next_left.result ≤ length l) c.as_slice.ensures.value c.next_left.ensures.within)
    (subst (λ (l : List Sender). c.args.from ≤ length l → c.args.from ≤ c.next_left.result) c.as_slice.ensures.value c.next_left.ensures.above)
    (subst (λ (l : List Sender). (n : ℕ) → n < c.next_left.result → c.args.from ≤ n → get_or (map steps_in l) n [] ≡ []) c.as_slice.ensures.value c.next_left.ensures.over)
