-- What an answer of the parser says.
use Rattle.std.proofs.Common.{◌≡◌, ◌≢◌, ℕ, List, Result, Ok, Err, refl, sym, ap, subst, ◌∙◌}
use Rattle.mama_script.specs.declared.fault.ScriptFault.{ScriptFault}
use Rattle.mama_script.specs.declared.fault.ScriptFault.TheVariants.{Bad, OverLimit, OutOfMemory}
use Rattle.mama_script.specs.declared.line.Line.{Line}
use Rattle.mama_script.specs.Reading.{script_in, AreAccepted}
use Rattle.mama_script.specs.Answer.{Fails}
use Rattle.mama_script.specs.Script.{ScriptData}
use Rattle.mama_script.specs.Tree.{lines_of, script_text, IsShaped, IsScript}
use Rattle.mama_script.proofs.Whole.{done_is, script_found, script_again}
use Rattle.mama_script.proofs.Sections.{same_script}

pub lines_are_script : (text : List ℕ) (ls : List Line) (s : ScriptData) → script_in text ≡ Ok ls → lines_of s ≡ ls → IsShaped s → IsScript s
lines_are_script text ls s read same shaped = record { shaped = shaped; accepted = subst (λ (x : List Line). AreAccepted x) (sym same) (script_found text ls read).0 }

pub spelled_so : (text : List ℕ) (s : ScriptData) → script_in text ≡ Ok (lines_of s) → text ≡ script_text s
spelled_so text s read = (script_found text (lines_of s) read).1

pub read_again : (text : List ℕ) (s : ScriptData) → IsScript s → text ≡ script_text s → script_in text ≡ Ok (lines_of s)
read_again text s is e = ap script_in e ∙ script_again (lines_of s) is.accepted

abbrev pub found_script : ScriptData → Result ScriptData ScriptFault
found_script s = Ok s

pub only_that : (text : List ℕ) (s t : ScriptData) → IsScript t → script_in text ≡ Ok (lines_of t) → IsScript s → text ≡ script_text s → found_script s ≡ Ok t
only_that text s t is read script e =
    let same : lines_of s ≡ lines_of t = done_is (lines_of s) (lines_of t) (sym (read_again text s script e) ∙ read) in
    ap found_script (same_script s t script.shaped is.shaped same)

fails_never : (fault : ScriptFault) (r : Result (List Line) ScriptFault) (ls : List Line) (s : ScriptData) → r ≡ Ok ls → Fails fault r → Fails fault (found_script s)
fails_never OutOfMemory r ls s e f = tt
fails_never (Bad line fault) r ls s e f = absurd cc
fails_never (OverLimit line limit) r ls s e f = absurd cc

pub only_memory : (text : List ℕ) (s : ScriptData) (fault : ScriptFault) → Fails fault (script_in text) → IsScript s → text ≡ script_text s → Fails fault (found_script s)
only_memory text s fault fails script e = fails_never fault (script_in text) (lines_of s) s (read_again text s script e) fails

pub read_unrefused : (text : List ℕ) (s : ScriptData) (fault : ScriptFault) → IsScript s → text ≡ script_text s → script_in text ≢ Err fault
read_unrefused text s fault script e refused = let read : script_in text ≡ Ok (lines_of s) = read_again text s script e in absurd cc

pub one_spelling : (s t : ScriptData) → IsScript s → IsScript t → script_text s ≡ script_text t → s ≡ t
one_spelling s t ss ts e =
    same_script s t ss.shaped ts.shaped (done_is (lines_of s) (lines_of t) (sym (read_again (script_text s) s ss refl) ∙ read_again (script_text s) t ts e))
