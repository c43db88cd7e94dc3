use Rattle.std.specs.Prelude.{map, length, drop}
use Rattle.std.proofs.Common.{ℕ, ◌+◌, ◌<◌, List, [], ◌∷◌, ◌++◌, take, refl, ap, sym, ◌∙◌, subst, arith}
use Rattle.std.proofs.lemmas.List.{take_all}
use Rattle.mama_event.specs.declared.callback.Callback.{Callback}
use Rattle.mama_rules_queue.specs.Queue.{made}
use Rattle.mama_dispatch.specs.Making.{WereCalled}
use Rattle.mama_dispatch.specs.Turns.{put_note}
use Rattle.mama_dispatch.proofs.CallLemmas.{nothing_made, calls_joined, next_of, drop_drop, calls_same}
use Rattle.mama_dispatch.proofs.KeepLemmas.{kept_same, kept_then}
use Rattle.mama_dispatch.proofs.AppendLemmas.{appended_same, appended_then}
use Rattle.mama_dispatch.proofs.seats.Seats.call_all.Goals as goal

pub loop-i-preserved : goal.loop-i-preserved
loop-i-preserved g c =
    let inv = c.loop-i.invariant in
    let next = c.call_next-count.ensures.called in
    let i : ℕ = c.loop-i._i in
    let all : List Callback = c.args.pending.now in
    let within : i < length all = omega (arith, c.len-i-end.ensures) in
    let head = next_of i all within in
    record {
      rest = c.call_next-count.ensures.rest ∙ ap (drop 1) inv.rest ∙ drop_drop i all;
      few = omega (arith, c.call_next-count.ensures.few, inv.few);
      may = c.call_next-count.ensures.may;
      appended = appended_then _ _ _ inv.appended c.call_next-count.ensures.appended;
      called = record {
        kept = kept_then c.args.self.now c.loop-i.self c.call_next-count.new.self inv.called.kept next.kept;
        fits = λ orders fits. inv.called.fits orders (next.fits orders fits);
        made = λ orders bs ds fits seated.
            let first = inv.called.made orders bs ds (next.fits orders fits) seated in
            let before = ds ++ made orders c.args.object.now ds (take i all) in
            calls_same orders bs ds c.args.object.now (take i all ++ head.0 ∷ []) (take (i + 1) all) c.call_next-count.new.self _ _ (c.loop-i.count + c.call_next-count.result) (sym head.1)
            (calls_joined orders bs ds c.args.object.now (take i all) head.0 c.loop-i.self c.call_next-count.new.self _ _ _ c.loop-i.count c.call_next-count.result first
            (calls_same orders bs before c.args.object.now (take 1 c.loop-i.pending) (head.0 ∷ []) c.call_next-count.new.self _ _ c.call_next-count.result (ap (take 1) (inv.rest ∙ head.2))
            (next.made orders bs before fits first.seated)));
      };
    }

pub returns-clause-called : goal.returns-clause-called
returns-clause-called g c =
    subst (λ (calls : List Callback). WereCalled c.args.object.now calls c.args.self.now c.loop-i.self (map (put_note g.M.Tagged.tagged) c.args.out.now.items) (map (put_note g.M.Tagged.tagged) c.loop-i.out.items) c.loop-i.count)
    (take_all c.loop-i._i c.args.pending.now (omega (arith, c.len-i-end.ensures, c.loop-i-test.false))) c.loop-i.invariant.called

pub loop-i-init : goal.loop-i-init
loop-i-init g c = record {
  rest = refl;
  few = omega arith;
  may = c.requires;
  appended = appended_same _ _ refl;
  called = record {
    kept = kept_same c.args.self.now;
    fits = λ orders fits. fits;
    made = λ orders bs ds fits seated. nothing_made orders bs ds c.args.object.now c.args.self.now _ seated;
  };
}
