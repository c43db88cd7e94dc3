use Rattle.std.proofs.Common.{refl, sym, ◌∙◌}
use Rattle.mama_dispatch.specs.Making.{WasTold}
use Rattle.mama_dispatch.proofs.PlaceLemmas.{on_ok}
use Rattle.mama_dispatch.proofs.AppendLemmas.{appended_same}
use Rattle.mama_dispatch.proofs.entries.tell_unmuted.Goals as goal

pub returns-then-is_muted-clause-ok : goal.returns-then-is_muted-clause-ok
returns-then-is_muted-clause-ok g c = WasTold.muted (sym c.is_muted.ensures ∙ c.if-is_muted.true) refl refl refl

pub returns-then-is_muted-clause-appended : goal.returns-then-is_muted-clause-appended
returns-then-is_muted-clause-appended g c = appended_same _ _ refl

pub returns-then-is_ok-clause-ok : goal.returns-then-is_ok-clause-ok
returns-then-is_ok-clause-ok g c =
    let went = sym c.is_ok.ensures.value ∙ c.if-is_ok.true in
    WasTold.called (sym c.is_muted.ensures ∙ c.if-is_muted.false) (on_ok c.tell-told.result went c.tell-told.ensures.called) refl
