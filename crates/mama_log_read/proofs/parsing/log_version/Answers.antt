use Rattle.std.proofs.Common.{Bool, sym, ap, subst, ◌∙◌}
use Rattle.mama_words.specs.declared.version.Version.{Version}
use Rattle.mama_log_read.specs.Logged.{HasLog}
use Rattle.mama_log_read.specs.Reading.{version_by, has_lists}
use Rattle.mama_log_read.proofs.Begun.{known_version}
use Rattle.mama_log_read.proofs.parsing.log_version.Goals as goal

pub returns-clause-known : goal.returns-clause-known
returns-clause-known c =
    let script = c.args.script.now in
    let text = c.args.text.now in
    let by_version = ap (λ (v : Version). version_by v c.has_lists.result text) c.version.ensures in
    let by_lists = ap (λ (b : Bool). version_by script.version b text) c.has_lists.ensures in
    subst (HasLog script) (sym (c.version_of.ensures ∙ by_version ∙ by_lists)) (known_version script text c.shape-shape.ensures.within.unlisted)
