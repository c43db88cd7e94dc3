-- What the laws say of the record of a run in rounds: a log of the script can tell it, and tells no other.
use Rattle.std.specs.Prelude.{◌≤◌, ◌^◌, ◌<◌, length, Option}
use Rattle.std.proofs.Common.{◌≡◌, ℕ, List, refl, sym, ap, subst, ◌∙◌}
use Rattle.mama_event.specs.declared.shape.Shape.{Shape}
use Rattle.mama_words.specs.declared.version.Version.{Version}
use Rattle.mama_words.specs.declared.version.Version.TheVariants.{One, Two}
use Rattle.mama_script.specs.Script.{ScriptData}
use Rattle.mama_script.specs.Tree.{IsScript, script_text}
use Rattle.mama_script.specs.Within.{IsWithin}
use Rattle.mama_record.specs.RunData.{RunData}
use Rattle.mama_record.specs.LogText.{log_text}
use Rattle.mama_seats.specs.Moments.{AreHeard}
use Rattle.mama_rules_rounds.specs.Round.{IsRound}
use Rattle.mama_laws_legal.specs.Laws.{IsOrderly, RoundsAreLegal}
use Rattle.mama_rules_legal.specs.Legal.{IsLegal}
use Rattle.mama_check.specs.Kept.{LegalIsFormed}
use Rattle.mama_log_read.specs.Logged.{HasLog, IsLogged}
use Rattle.mama_laws_logged.specs.Telling.{AreMoments, LegalRecordsAreLogged, LogsTellOneRecord}
use Rattle.mama_plain.specs.Answers.{IsLogOf}

pub round_is_logged : (script : ScriptData) (run : RunData) → IsScript script → IsWithin script → length (script_text script) ≤ 67108864
    → RoundsAreLegal → LegalIsFormed → LegalRecordsAreLogged → AreMoments run.clients → IsRound script run → IsLogged script run
round_is_logged script run accepted within short law formed logged moments round =
    let orderly : IsOrderly script = record { shaped = accepted.shaped; within = within } in
    let legal : IsLegal script run = law script run orderly round in logged script run accepted within short moments (formed script run legal) legal

-- a script has logs of its own version
pub own_version : (script : ScriptData) → IsWithin script → HasLog script script.version
own_version script within = by script.version refl
  where
    by : (v : Version) → script.version ≡ v → HasLog script v
    by One e = within.unlisted e
    by Two e = e

-- the log that was printed of a run, where a memory holds it
pub log_is_of : (before after : Option (List ℕ)) (text log : List ℕ) (script : ScriptData) (run : RunData) (v : Version) (shape : Shape) → LogsTellOneRecord → IsScript script → IsWithin script → text ≡ script_text script → IsRound script run → IsLogged script run
    → AreHeard before after script.clients run.clients → v ≡ script.version → shape ≡ script.shape → log ≡ log_text v shape run → length log < 2 ^ 64 → IsLogOf before after text log
log_is_of before after text log script run v shape law accepted within spelled round logged heard own same printed short =
    let told : log ≡ log_text script.version script.shape run = printed ∙ ap (λ (s : Shape). log_text v s run) same ∙ ap (λ (w : Version). log_text w script.shape run) own in
    let few : length (log_text script.version script.shape run) < 2 ^ 64 = subst (λ (l : List ℕ). length l < 2 ^ 64) told short in
    record {
      script = script;
      accepted = accepted;
      spelled = spelled;
      run = run;
      round = round;
      heard = heard;
      told = told;
      logged = logged;
      only = λ w other known is e. (law script script.version w run other accepted within (own_version script within) known logged is few (sym told ∙ e)).1;
    }
