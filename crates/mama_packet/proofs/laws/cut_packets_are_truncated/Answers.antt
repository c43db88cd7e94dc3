-- What a cut leaves is the front of a spelling, before the first byte that it takes away.
use Rattle.std.proofs.Common.{◌≡◌, ◌∙◌, ◌<◌, ℕ, suc, List, ◌∷◌, ◌++◌, length, take, drop, get_or, Err, sym, ap, arith}
use Rattle.std.proofs.Math.Seq.{drop-cons}
use Rattle.std.proofs.lemmas.List.{take-append-drop, length-take-le}
use Rattle.mama_payload.specs.declared.fault.DecodeFault.TheVariants.{Truncated}
use Rattle.mama_packet.proofs.laws.cut_packets_are_truncated.Goals as goal

-- bytes are what a cut leaves and then those that it takes away, one at least
parted : (bytes : List ℕ) (keep : ℕ) → keep < length bytes → bytes ≡ take keep bytes ++ get_or bytes keep 0 ∷ drop (suc keep) bytes
parted bytes keep short = sym (take-append-drop keep bytes) ∙ ap (λ (rest : List ℕ). take keep bytes ++ rest) (drop-cons bytes keep 0 short)

pub returns : goal.returns
returns c = λ bytes fields keep spells short.
    let front : length (take keep bytes) ≡ keep = length-take-le keep bytes (omega arith) in
    let cut = c.spellings_are_read.ensures.shorter fields (take keep bytes) (get_or bytes keep 0) (drop (suc keep) bytes) spells.0 (sym spells.1 ∙ parted bytes keep short) in
    cut ∙ ap (λ (place : ℕ). Err (Truncated place)) front
