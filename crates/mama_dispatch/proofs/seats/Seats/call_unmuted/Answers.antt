use Rattle.std.specs.Prelude.{is_some}
use Rattle.std.proofs.Common.{refl, ap, sym, ◌∙◌}
use Rattle.mama_dispatch.proofs.CallLemmas.{once_fits, once_made, none_made}
use Rattle.mama_dispatch.proofs.KeepLemmas.{kept_same, kept_once}
use Rattle.mama_dispatch.proofs.AppendLemmas.{appended_same}
use Rattle.mama_dispatch.proofs.seats.Seats.call_unmuted.Goals as goal

pub returns-then-is_muted-clause-called : goal.returns-then-is_muted-clause-called
returns-then-is_muted-clause-called g c = record {
  kept = kept_same c.args.self.now;
  fits = λ orders fits. fits;
  made = λ orders bs ds fits seated.
      none_made orders bs ds c.args.object.now c.args.call c.args.self.now _ c.requires.here c.requires.plain (sym c.is_muted.ensures ∙ c.if-is_muted.true) seated;
}

pub returns-clause-called : goal.returns-clause-called
returns-clause-called g c = record {
  kept = kept_once c.args.object.now c.args.call c.args.self.now c.call_put.new.self _ _ c.call_put.ensures.once;
  fits = λ orders fits. once_fits c.args.object.now c.args.call c.args.self.now c.call_put.new.self _ _ c.call_put.ensures.once orders fits;
  made = λ orders bs ds fits seated.
      once_made orders bs ds c.args.object.now c.args.call c.args.self.now c.call_put.new.self _ _ c.call_put.ensures.once c.requires.here c.requires.plain (sym c.is_muted.ensures ∙ c.if-is_muted.false) fits seated;
}

pub returns-clause-here : goal.returns-clause-here
returns-clause-here g c = ap is_some c.call_put.ensures.once.here

pub returns-then-is_muted-clause-appended : goal.returns-then-is_muted-clause-appended
returns-then-is_muted-clause-appended g c = appended_same _ _ refl
