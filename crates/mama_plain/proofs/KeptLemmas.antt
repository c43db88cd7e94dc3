-- What check says of a script and its log, it says of the same in version 2.
use Rattle.std.proofs.Common.{◌≡◌, ℕ, ◌+◌, ◌^◌, ◌<◌, List, ◌++◌, length, refl, sym, ap, subst, ◌∙◌, length-append, arith}
use Rattle.std.specs.Prelude.{◌↔◌, codes}
use Rattle.mama_words.specs.declared.version.Version.{Version}
use Rattle.mama_words.specs.declared.version.Version.TheVariants.{Two}
use Rattle.mama_script.specs.Script.{ScriptData}
use Rattle.mama_script.specs.Tree.{IsScript, script_text, in_two}
use Rattle.mama_script.proofs.Keeping.{script_within}
use Rattle.mama_script.proofs.InTwo.{script_two}
use Rattle.mama_record.specs.RunData.{RunData}
use Rattle.mama_record.specs.LogText.{line, log_text}
use Rattle.mama_rules_legal.specs.Legal.{IsLegal}
use Rattle.mama_log_read.specs.Logged.{HasLog, IsLogged}
use Rattle.mama_laws_logged.specs.Telling.{LogsTellOneRecord}
use Rattle.mama_laws_logged.specs.InTwo.{RecordsStayInTwo}
use Rattle.mama_check.specs.Causal.{IsCausal}
use Rattle.mama_check.specs.Verdict.{KeepEdges, KeepObjects, IsBroken, moments, lines, publishers, bridge, timers, queues, calls, images, groups, watches, Judges}
use Rattle.mama_check.specs.declared.verdict.Actor.{Actor}
use Rattle.mama_check.specs.declared.verdict.Verdict.{Verdict}
use Rattle.mama_check.specs.declared.verdict.Verdict.TheVariants as verdicts
use Rattle.mama_plain.specs.Verdict.{IsChecked, IsVerdictOf, verdict_text}
use Rattle.mama_plain.specs.Rewritten.{IsLogInTwo}
use Rattle.mama_plain.specs.Kept.{RewrittenIsKept}
use Rattle.mama_plain.proofs.VerdictLemmas.{tells_only}

-- ---- no rule looks at the version

-- the script in another version
abbrev versioned : Version → ScriptData → ScriptData
versioned v script = record script { version = v }

module _ (v : Version) (script : ScriptData) (run : RunData) where
  abbrev other : ScriptData
  other = versioned v script

  edges_kept : KeepEdges script run → KeepEdges other run
  edges_kept h = record { publishers = h.publishers; bridge = h.bridge; timers = h.timers; queues = h.queues }

  objects_kept : KeepObjects script run → KeepObjects other run
  objects_kept h = record { calls = h.calls; images = h.images }

  causal_kept : IsCausal script run → IsCausal other run
  causal_kept h = record { put = record { bridge = h.put.bridge; timers = h.put.timers; publishers = h.put.publishers; queues = h.put.queues }; order = h.order }

  broken_kept : (rule : ℕ) (of : Actor) → IsBroken script run rule of → IsBroken other run rule of
  broken_kept rule of (moments c first) = moments c first
  broken_kept rule of (lines p k first) = lines p k first
  broken_kept rule of (publishers p k l first) = publishers p k l first
  broken_kept rule of (bridge k l p other) = bridge k l p other
  broken_kept rule of (timers k l p b other) = timers k l p b other
  broken_kept rule of (queues q k l p b t first) = queues q k l p b t first
  broken_kept rule of (calls n p k l e first at) = calls n p k l (edges_kept e) first at
  broken_kept rule of (images n p k l e c first at) = images n p k l (edges_kept e) c first at
  broken_kept rule of (groups n k l e o first) = groups n k l (edges_kept e) (objects_kept o) first
  broken_kept rule of (watches n k l e o g first) = watches n k l (edges_kept e) (objects_kept o) g first

judges_kept : (v : Version) (script : ScriptData) (run : RunData) → (IsLegal script run ↔ IsLegal (versioned v script) run) → (verdict : Verdict) → Judges script run verdict → Judges (versioned v script) run verdict
judges_kept v script run legal (verdicts.Legal causal) h = (
  legal.0 h.0,
  (λ is. causal_kept v script run (h.1.0 is), λ is. h.1.1 (causal_kept script.version (versioned v script) run is)),
)
judges_kept v script run legal (verdicts.NotLegal rule actor) h = (λ is. h.0 (legal.1 is), broken_kept v script run rule actor h.1)

-- ---- the verdict on what was written

-- the log of a text that a memory can hold
log_within : (front log text : List ℕ) → text ≡ front ++ (line (codes "log") ++ log) → length text < 2 ^ 64 → length log < 2 ^ 64
log_within front log text whole short =
    let all : length text ≡ length front + length (line (codes "log") ++ log) = ap length whole ∙ length-append front (line (codes "log") ++ log) in
    let some = length-append (line (codes "log")) log in
    omega (arith, all, some, short)

-- the verdict on a text that is a script and a log of it
verdict_on : LogsTellOneRecord → (script : ScriptData) (run : RunData) (v : Version) (text : List ℕ) (verdict : Verdict) (said : List ℕ) → IsScript script → IsLogged script run → HasLog script v
    → text ≡ script_text script ++ (line (codes "log") ++ log_text v script.shape run) → length text < 2 ^ 64 → Judges script run verdict → said ≡ verdict_text verdict → IsVerdictOf text verdict said
verdict_on law script run v text verdict said accepted logged known whole short judged told =
    let log = log_text v script.shape run in
    let within = log_within (script_text script) log text whole short in
    record {
      script = script;
      accepted = accepted;
      run = run;
      logged = logged;
      version = v;
      known = known;
      whole = whole;
      only = tells_only script text log run accepted whole (λ w r has is e. (law script v w run r accepted (script_within script accepted) known has logged is within e).1);
      judged = judged;
      told = told;
    }

-- what a verdict on a text says of the record that the text tells
judged_of : (text : List ℕ) (verdict : Verdict) (said : List ℕ) (script : ScriptData) (run : RunData) (v : Version) → IsVerdictOf text verdict said → IsScript script → IsLogged script run → HasLog script v
    → text ≡ script_text script ++ (line (codes "log") ++ log_text v script.shape run) → Judges script run verdict
judged_of text verdict said script run v is accepted logged known whole =
    let same = is.only script v run accepted known logged whole in
    subst (λ (r : RunData). Judges script r verdict) (sym same.1) (subst (λ (s : ScriptData). Judges s is.run verdict) (sym same.0) is.judged)

module _ (law : LogsTellOneRecord) (stay : RecordsStayInTwo) (text out : List ℕ) (w : IsLogInTwo text out) where
  abbrev two : ScriptData
  two = in_two w.script

  same_legal : IsLegal w.script w.run ↔ IsLegal two w.run
  same_legal = (stay w.script w.run).legal

  logged_two : IsLogged two w.run
  logged_two = (stay w.script w.run).logged w.logged

  out_checked : IsChecked out
  out_checked = record { script = two; accepted = script_two w.script w.accepted; run = w.run; logged = logged_two; version = Two; known = refl; whole = w.written }

  verdict_there : length out < 2 ^ 64 → (verdict : Verdict) (told : List ℕ) → IsVerdictOf text verdict told → IsVerdictOf out verdict told
  verdict_there short verdict told is =
      let judged = judged_of text verdict told w.script w.run w.version is w.accepted w.logged w.known w.whole in
      verdict_on law two w.run Two out verdict told (script_two w.script w.accepted) logged_two refl w.written short (judges_kept Two w.script w.run same_legal verdict judged) is.told

  verdict_back : length text < 2 ^ 64 → (verdict : Verdict) (told : List ℕ) → IsVerdictOf out verdict told → IsVerdictOf text verdict told
  verdict_back short verdict told is =
      let judged = judged_of out verdict told two w.run Two is (script_two w.script w.accepted) logged_two refl w.written in
      verdict_on law w.script w.run w.version text verdict told w.accepted w.logged w.known w.whole short (judges_kept w.script.version two w.run (same_legal.1, same_legal.0) verdict judged) is.told

pub rewritten_kept : LogsTellOneRecord → RecordsStayInTwo → RewrittenIsKept
rewritten_kept law stay text out = record {
  accepted = λ w. record { script = in_two w.script; accepted = script_two w.script w.accepted; spelled = w.written };
  checked = λ w. out_checked law stay text out w;
  legal = λ w. same_legal law stay text out w;
  verdict = λ w short_text short_out verdict told. (verdict_there law stay text out w short_out verdict told, verdict_back law stay text out w short_text verdict told);
}
