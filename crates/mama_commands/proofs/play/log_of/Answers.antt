use Rattle.std.proofs.Common.{◌≡◌, ℕ, ◌<◌, ◌^◌, List, length, refl, sym, ap, subst, ◌∙◌}
use Rattle.mama_event.specs.declared.shape.Shape.{Shape}
use Rattle.mama_words.specs.declared.version.Version.{Version}
use Rattle.mama_record.specs.LogText.{log_text}
use Rattle.mama_plain.proofs.PlayLemmas.{own_version}
use Rattle.mama_commands.proofs.play.log_of.Goals as goal

pub returns : goal.returns
returns g c =
    let script = c.args.script.now in
    let run = c.in_ok-run.run' in
    let told : c.in_ok-log.log.items ≡ log_text script.version script.shape run =
    c.in_ok-log.ensures ∙ ap (λ (shape : Shape). log_text c.version.result shape run) c.shape-shape.ensures.value ∙ ap (λ (v : Version). log_text v script.shape run) c.version.ensures in
    let short : length (log_text script.version script.shape run) < 2 ^ 64 = subst (λ (log : List ℕ). length log < 2 ^ 64) (c.as_slice.ensures.value ∙ told) c.log_fits.ensures in
    record {
      script = script;
      accepted = c.shape-shape.ensures.script;
      spelled = refl;
      run = run;
      play = c.in_ok-run.ensures;
      told = told;
      only = λ v other known logged is.
          (c.logs_tell_one_record.ensures script script.version v run other c.shape-shape.ensures.script c.shape-shape.ensures.within (own_version script c.shape-shape.ensures.within) known c.in_ok-run.ensures.logged logged short (sym told ∙ is)).1;
    }
