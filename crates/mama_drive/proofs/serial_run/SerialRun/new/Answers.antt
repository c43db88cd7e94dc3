use Rattle.std.proofs.Common.{refl, ap, false}
use Rattle.mama_rules_rounds.specs.Sections.{setting_of}
use Rattle.mama_drive.specs.declared.place.Place.TheVariants as place
use Rattle.mama_drive.specs.Scene.{Scene}
use Rattle.mama_drive.specs.Course.{Course}
use Rattle.mama_drive.proofs.PlaceLemmas.{begins}
use Rattle.mama_drive.proofs.serial_run.SerialRun.new.Goals as goal

pub returns-clause-beginning : goal.returns-clause-beginning
returns-clause-beginning c =
    let at_first : Scene → Course = λ s. record { scene = s; at = place.Rounds; over = false } in
    ap at_first c.in_ok-first.ensures

pub returns-clause-under_way : goal.returns-clause-under_way
returns-clause-under_way c = λ told. begins c.args.script.now (setting_of c.args.script.now).objects c.in_ok-first.first refl c.in_ok-first.ensures told
