use Rattle.std.proofs.Common.{true, refl}
use Rattle.std.specs.Prelude.{is_some}
use Rattle.mama_drive.proofs.PlaceLemmas.{gone_on, grown_on, stays_gone, stays_grown}
use Rattle.mama_drive.proofs.serial_run.SerialRun.go.Goals as goal

pub returns-then-is_some-clause-gone_on : goal.returns-then-is_some-clause-gone_on
returns-then-is_some-clause-gone_on g c = stays_gone (g.C.Clock.left c.args.clock.now) c.args.self.now c.args.self.now refl

pub returns-then-is_some-clause-kept : goal.returns-then-is_some-clause-kept
returns-then-is_some-clause-kept g c = stays_grown c.args.self.now c.args.self.now refl

pub returns-in_err-parts-clause-gone_on : goal.returns-in_err-parts-clause-gone_on
returns-in_err-parts-clause-gone_on g c = gone_on _ _ c.self.inside.run c.play.new.run c.self.inside.place c.play.new.place (is_some c.self.inside.parts) (is_some c.self.inside.parts) c.args.self.now c.self.view_is c.play.ensures.on

pub returns-in_err-parts-clause-kept : goal.returns-in_err-parts-clause-kept
returns-in_err-parts-clause-kept g c = grown_on _ _ c.self.inside.run c.play.new.run c.self.inside.place c.play.new.place (is_some c.self.inside.parts) c.args.self.now c.self.view_is c.play.ensures.on

pub returns-clause-gone_on : goal.returns-clause-gone_on
returns-clause-gone_on g c = gone_on _ _ c.self.inside.run c.play.new.run c.self.inside.place c.play.new.place (is_some c.self.inside.parts) true c.args.self.now c.self.view_is c.play.ensures.on

pub returns-clause-kept : goal.returns-clause-kept
returns-clause-kept g c = grown_on _ _ c.self.inside.run c.play.new.run c.self.inside.place c.play.new.place (is_some c.self.inside.parts) c.args.self.now c.self.view_is c.play.ensures.on
