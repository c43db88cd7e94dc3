-- Two records that a log can tell are one if they have one log: each section of a log begins with a line of its own, and each
-- line has one reading.
use Rattle.std.specs.Prelude.{◌≡◌, ℕ, ◌^◌, ◌<◌, List, [], ◌∷◌, ◌++◌, length}
use Rattle.std.proofs.Common.{sym, subst, ◌∙◌, refl, arith}
use Rattle.std.proofs.lemmas.List.{append-nil}
use Rattle.std.proofs.lemmas.List.Elements.{All-from_recursion}
use Rattle.mama_event.specs.Ports.{queues_of}
use Rattle.mama_event.specs.declared.ids.ObjectId.{ObjectId}
use Rattle.mama_event.specs.declared.ids.ObjectId.TheVariants.{Sub, Timer, Inbox}
use Rattle.mama_words.specs.declared.version.Version.{Version}
use Rattle.mama_script.specs.Script.{ScriptData}
use Rattle.mama_script.specs.Tree.{IsScript}
use Rattle.mama_script.specs.Within.{IsWithin}
use Rattle.mama_rules_legal.specs.Form.{objects_of}
use Rattle.mama_record.specs.RunData.{RunData}
use Rattle.mama_record.specs.LogText.{lines_text, log_text}
use Rattle.mama_rules_rounds.specs.Client.{Planned}
use Rattle.mama_rules_rounds.specs.Sections.{setting_of}
use Rattle.mama_log_line.specs.Names.{NamesData, names_of}
use Rattle.mama_log_read.specs.Logged.{IsLogged}
use Rattle.mama_log_read.specs.Section.{HasPlainHead, sections}
use Rattle.mama_log_read.specs.Part.{FitsIn, all_lines}
use Rattle.mama_log_read.specs.Reading.{IsFew}
use Rattle.mama_log_read.specs.declared.section.Section.TheVariants as s
use Rattle.mama_log_read.proofs.Whole.{parts_of, parts_spell, parts_make}
use Rattle.mama_log_read.proofs.Record.{parts_named, parts_fit}
use Rattle.mama_log_read.proofs.Sections.{plain_sub, plain_timer, plain_inbox, plain_sections}
use Rattle.mama_log_read.proofs.Begun.{ArePlainHeads, IsReadOf, again_whole, whole_few, whole_version}
use Rattle.mama_laws_genuine.proofs.Elements.{all_map}
use Rattle.mama_laws_logged.specs.Telling.{LogsTellOneRecord}
use Rattle.mama_laws_logged.proofs.Fits.{IsObject, IsPlan}
use Rattle.mama_laws_logged.proofs.PlansFit.{objects_fit}

-- ---- the lines that begin sections are lines

wide : (n : ℕ) → n < 2 ^ 32 → n < 2 ^ 64
wide n small = omega (arith, small)

plain_object : (names : NamesData) (o : ObjectId) → IsObject names o → HasPlainHead (s.Object o)
plain_object names (Sub id) known = plain_sub (Sub id) id refl (wide id.client known.client) (wide id.number known.number)
plain_object names (Timer id) known = plain_timer (Timer id) id refl (wide id.client known.client) (wide id.number known.number)
plain_object names (Inbox id) known = plain_inbox (Inbox id) id refl (wide id.client known.client) (wide id.number known.number)

plain_heads : (v : Version) (script : ScriptData) → IsScript script → IsWithin script → ArePlainHeads v script
plain_heads v script is within =
    plain_sections v script.shape.strategy (length script.clients) (length script.publishers) (queues_of script.shape) (objects_of script) (length script.groups) (length script.watches)
    (omega (arith, within.clients_few)) (omega (arith, within.publishers_few)) (omega (arith, within.queues_few))
    (all_map (IsPlan (names_of script)) (λ (o : ObjectId). HasPlainHead (s.Object o)) (λ (p : Planned). p.object)
    (λ p plan. plain_object (names_of script) p.object plan.object) (setting_of script).objects (objects_fit script is within))
    (omega (arith, within.groups_few)) (omega (arith, within.watches_few))

-- ---- a log is read as its record

no_more : (line more : List ℕ) → [] ≡ line ++ 10 ∷ more → ⊥
no_more [] more e = cc
no_more (b ∷ line) more e = cc

read_so : (v : Version) (script : ScriptData) (run : RunData) → IsLogged script run → length (log_text v script.shape run) < 2 ^ 64 → IsReadOf v script (sections v script) (log_text v script.shape run) run []
read_so v script run logged short =
    let parts = parts_of v script.shape.strategy run in
    record {
      parts = parts;
      named = parts_named v script run logged;
      fits = All-from_recursion (FitsIn (names_of script) (objects_of script)) parts (parts_fit v script run logged);
      few = All-from_recursion (IsFew v script.shape) parts (whole_few v script run (log_text v script.shape run) short refl);
      made = sym (parts_make v script.shape.strategy run);
      taken = sym (parts_spell v script.shape run) ∙ sym (append-nil (lines_text (all_lines v script.shape parts)));
      stops = λ line more e goes. no_more line more e;
    }

pub one_record : LogsTellOneRecord
one_record script v w run other is within known also logged told short same =
    let text = log_text v script.shape run in
    let versions : v ≡ w = whole_version script v run text known refl ∙ sym (whole_version script w other text also same) in
    let P : Version → Type 0 = λ x. text ≡ log_text x script.shape other in
    (versions, again_whole v script text run other short (plain_heads v script is within) (read_so v script run logged short) told (subst P (sym versions) same))
