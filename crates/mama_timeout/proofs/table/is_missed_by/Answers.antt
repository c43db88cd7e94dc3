use Rattle.std.specs.Prelude.{◌&&◌, not}
use Rattle.std.proofs.Common.{Bool, sym, ap, ◌∙◌}
use Rattle.mama_event.specs.declared.ids.ObjectId.TheVariants.{Sub}
use Rattle.mama_dispatch.specs.Journals.{is_live_here, context_after}
use Rattle.mama_rules_queue.specs.Queue.{deeds, is_muted}
use Rattle.mama_rules_queue.specs.Watch.{lacks_image}
use Rattle.mama_timeout.proofs.Missed.{none_by, live_missed, absent_missed, muted_missed}
use Rattle.mama_timeout.proofs.table.is_missed_by.Goals as goal

pub returns-in-Live : goal.returns-in-Live
returns-in-Live g c = λ orders fits.
    let journal = c.args.serving.now.journal in
    let context = context_after orders journal c.args.sub in
    let live : Bool = is_live_here (Sub c.args.sub) journal in
    let muted : Bool = is_muted (Sub c.args.sub) (deeds orders journal) in
    none_by c.is_none.result c.row.result c.is_none.ensures
    ∙ live_missed context live muted c.row.result (sym c.in-Live.is ∙ c.state.ensures orders fits) (c.row.ensures.row orders fits)
    ∙ ap (λ (b : Bool). b && not muted && lacks_image context) (sym (c.objects_live_by_callbacks.ensures orders (Sub c.args.sub) fits))

pub returns-in-Absent : goal.returns-in-Absent
returns-in-Absent g c = λ orders fits.
    let journal = c.args.serving.now.journal in
    let context = context_after orders journal c.args.sub in
    let live : Bool = is_live_here (Sub c.args.sub) journal in
    let muted : Bool = is_muted (Sub c.args.sub) (deeds orders journal) in
    absent_missed context live muted (sym c.in-Absent.is ∙ c.state.ensures orders fits)
    ∙ ap (λ (b : Bool). b && not muted && lacks_image context) (sym (c.objects_live_by_callbacks.ensures orders (Sub c.args.sub) fits))

pub returns-in-Muted : goal.returns-in-Muted
returns-in-Muted g c = λ orders fits.
    let journal = c.args.serving.now.journal in
    let context = context_after orders journal c.args.sub in
    let live : Bool = is_live_here (Sub c.args.sub) journal in
    let muted : Bool = is_muted (Sub c.args.sub) (deeds orders journal) in
    muted_missed context live muted (sym c.in-Muted.is ∙ c.state.ensures orders fits)
    ∙ ap (λ (b : Bool). b && not muted && lacks_image context) (sym (c.objects_live_by_callbacks.ensures orders (Sub c.args.sub) fits))
