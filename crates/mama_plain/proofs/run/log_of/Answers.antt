use Rattle.std.proofs.Common.{ℕ, ◌<◌, ◌^◌, List, length, sym, subst, ◌∙◌}
use Rattle.mama_plain.proofs.PlayLemmas.{log_is_of}
use Rattle.mama_plain.proofs.run.log_of.Goals as goal

pub returns-in-Ok-print_log-clause-log : goal.returns-in-Ok-print_log-clause-log
returns-in-Ok-print_log-clause-log g c =
    log_is_of (g.C.Clock.left c.args.clock.now) (g.C.Clock.left c.play.new.clock) c.args.text.items c.in-Ok-print_log.log.items c.in-Ok.script c.in-Ok-play.run' c.version.result c.shape.result.now c.logs_tell_one_record.ensures
    c.shape-shape.ensures.script c.shape-shape.ensures.within (sym c.as_slice.ensures.value ∙ c.in-Ok.ensures.found.1) c.in-Ok-play.ensures.round c.in-Ok-play.ensures.logged c.in-Ok-play.ensures.clock c.version.ensures c.shape.ensures.value c.in-Ok-print_log.ensures
    (subst (λ (log : List ℕ). length log < 2 ^ 64) c.as_slice-in-Ok-print_log.ensures.value c.log_fits.ensures)
