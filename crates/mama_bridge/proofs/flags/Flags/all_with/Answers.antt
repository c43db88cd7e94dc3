use Rattle.std.proofs.Common.{◌<◌, length, subst, List, Bool, ◌∙◌, sym, ap, true, set}
use Rattle.mama_laws_bridge.specs.Table.{all_set}
use Rattle.mama_bridge.proofs.FlagLemmas.{one_unset_read}
use Rattle.mama_bridge.proofs.flags.Flags.all_with.Goals as goal

pub returns : goal.returns
returns c =
    let within : c.args.i < length c.self.inside.flags.items = subst (λ (flags : List Bool). c.args.i < length flags) (sym c.self.view_is) c.requires in
    c.none_but.ensures
    ∙ one_unset_read c.self.inside.flags.items c.args.i c.self.inside.left c.index-flag.result.now within c.self.invariant c.index-flag.ensures
    ∙ ap (λ (flags : List Bool). all_set (set flags c.args.i true)) c.self.view_is
