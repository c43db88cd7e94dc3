-- What holds of every legal record and of every log that serial wrote, and what check says of such a log.
use Rattle.std.specs.Prelude.{◌≡◌, ℕ, Bool, true, List, ◌++◌, codes}
use Rattle.std.proofs.Common.{ap, sym, subst, ◌∙◌}
use Rattle.mama_script.specs.Script.{ScriptData}
use Rattle.mama_script.specs.Tree.{IsScript, script_text}
use Rattle.mama_script.proofs.Keeping.{script_within}
use Rattle.mama_record.specs.RunData.{RunData}
use Rattle.mama_record.specs.LogText.{line, log_text}
use Rattle.mama_rules_legal.specs.Legal.{IsLegal}
use Rattle.mama_laws_legal.specs.Laws.{IsOrderly, RoundsAreLegal}
use Rattle.mama_laws_causal.specs.Causal.{RoundsAreCausal}
use Rattle.mama_check.specs.Causal.{IsCausal}
use Rattle.mama_check.specs.Verdict.{Judges, IsTrue, LegalIsTrue}
use Rattle.mama_check.specs.declared.verdict.Verdict.{Verdict}
use Rattle.mama_check.specs.declared.verdict.Verdict.TheVariants as verdict
use Rattle.mama_plain.specs.LawfulRun.{LegalRecordsKeepPromises}
use Rattle.mama_plain.proofs.PlayLemmas.{own_version}
use Rattle.mama_plain.specs.Own.{with_log, LogsOfSerialAreLawful, LogsOfSerialAreLegal}

orderly : (script : ScriptData) → IsScript script → IsOrderly script
orderly script accepted = record { shaped = accepted.shaped; within = script_within script accepted }

pub legal_keeps : LegalIsTrue → LegalRecordsKeepPromises
legal_keeps law script run accepted legal =
    let is : IsTrue script run = law script run accepted legal in
    record {
      subs = is.streams.subs;
      timers = is.streams.timers;
      inboxes = is.streams.inboxes;
      last = is.streams.last;
      told = is.told;
      gaps = is.gaps;
      calm = is.calm;
      updates = is.updates;
      plainly = is.plainly;
      sent = is.sent;
      given = is.given;
      images = is.images;
      groups = is.groups;
      watches = is.watches;
    }

pub logs_are_lawful : LegalRecordsKeepPromises → RoundsAreLegal → RoundsAreCausal → LogsOfSerialAreLawful
logs_are_lawful keep legal causal before after text log l =
    let is : IsLegal l.script l.run = legal l.script l.run (orderly l.script l.accepted) l.round in
    record { legal = is; causal = causal l.script l.run (orderly l.script l.accepted) l.round; promises = keep l.script l.run l.accepted is }

judged_legal : (script : ScriptData) (run : RunData) (v : Verdict) → IsLegal script run → IsCausal script run → Judges script run v → v ≡ verdict.Legal true
judged_legal script run (verdict.Legal causal) legal is judged = ap (λ (c : Bool). verdict.Legal c) (judged.1.1 is)
judged_legal script run (verdict.NotLegal rule actor) legal is judged = absurd (judged.0 legal)

pub logs_are_legal : LogsOfSerialAreLawful → LogsOfSerialAreLegal
logs_are_legal lawful before after text log l =
    let run = lawful before after text log l in
    let within = script_within l.script l.accepted in
    let whole : with_log text log ≡ script_text l.script ++ (line (codes "log") ++ log_text l.script.version l.script.shape l.run) =
    ap (λ (t : List ℕ). t ++ (line (codes "log") ++ log)) l.spelled ∙ ap (λ (t : List ℕ). script_text l.script ++ (line (codes "log") ++ t)) l.told in
    record {
      checked = record { script = l.script; accepted = l.accepted; run = l.run; logged = l.logged; version = l.script.version; known = own_version l.script within; whole = whole };
      verdict = λ v out is.
          let same = is.only l.script l.script.version l.run l.accepted (own_version l.script within) l.logged whole in
          judged_legal l.script l.run v run.legal run.causal
          (subst (λ (r : RunData). Judges l.script r v) (sym same.1) (subst (λ (s : ScriptData). Judges s is.run v) (sym same.0) is.judged));
    }
