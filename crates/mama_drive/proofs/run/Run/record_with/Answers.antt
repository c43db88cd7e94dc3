use Rattle.std.proofs.Common.{◌∙◌, ap, sym}
use Rattle.mama_drive.specs.Record.{recorded}
use Rattle.mama_drive.proofs.PartsLemmas.{parts_unseen}
use Rattle.mama_drive.proofs.RecordLemmas.{recorded_seen}
use Rattle.mama_drive.proofs.RunLemmas.{ready_seen}
use Rattle.mama_drive.proofs.run.Run.record_with.Goals as goal

pub record_with-requires-clause-parts : goal.record_with-requires-clause-parts
record_with-requires-clause-parts c = parts_unseen c.self.inside.held c.self.inside.system c.args.self c.args.parts c.self.view_is c.requires.parts

pub record_with-requires-clause-ready : goal.record_with-requires-clause-ready
record_with-requires-clause-ready c = ready_seen c.self.inside.held c.self.inside.system c.args.self c.self.view_is ∙ c.requires.ready

pub returns : goal.returns
returns c = c.record_with.ensures ∙ sym (recorded_seen c.self.inside.held c.self.inside.system) ∙ ap recorded c.self.view_is
