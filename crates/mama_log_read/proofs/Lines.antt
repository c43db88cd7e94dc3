-- Lines, and the text that they make.
use Rattle.std.proofs.Common.{◌≡◌, ℕ, false, List, [], ◌∷◌, ◌++◌, refl, sym, ap, ◌∙◌, append_assoc}
use Rattle.std.specs.List.{AllByRecursion}
use Rattle.std.proofs.lemmas.List.Concat.{flat_map-append}
use Rattle.mama_words.specs.Parting.{pieces, cut_at}
use Rattle.mama_words.proofs.Choices.{some_is}
use Rattle.mama_words.proofs.Cuts.{pieces_at_some}
use Rattle.mama_words.proofs.Cutting.{cut_at_again}
use Rattle.mama_record.specs.LogText.{line, lines_text}
use Rattle.mama_log_read.specs.Section.{has_feed}

-- a line without a line feed in it
abbrev pub IsPlain : List ℕ → Type 0
IsPlain l = has_feed l ≡ false

abbrev pub ArePlain : List (List ℕ) → Type 0
ArePlain ls = AllByRecursion IsPlain ls

pub same_line : (l m r q : List ℕ) → IsPlain l → IsPlain m → l ++ 10 ∷ r ≡ m ++ 10 ∷ q → (l ≡ m) × (r ≡ q)
same_line l m r q pl pm e =
    let both : (l, r) ≡ (m, q) = some_is (l, r) (m, q) (sym (cut_at_again 10 l r pl) ∙ ap (cut_at 10) e ∙ cut_at_again 10 m q pm) in
    (ap (λ (p : List ℕ × List ℕ). p.0) both, ap (λ (p : List ℕ × List ℕ). p.1) both)

-- the text of a line and those behind it
pub first_line : (l : List ℕ) (ls : List (List ℕ)) (rest : List ℕ) → lines_text (l ∷ ls) ++ rest ≡ l ++ 10 ∷ (lines_text ls ++ rest)
first_line l ls rest = append_assoc (l ++ 10 ∷ []) (lines_text ls) rest ∙ append_assoc l (10 ∷ []) (lines_text ls ++ rest)

pub lines_text-append : (ls ms : List (List ℕ)) → lines_text (ls ++ ms) ≡ lines_text ls ++ lines_text ms
lines_text-append ls ms = flat_map-append line ls ms

pub plain-append : (ls ms : List (List ℕ)) → ArePlain ls → ArePlain ms → ArePlain (ls ++ ms)
plain-append [] ms h k = k
plain-append (l ∷ ls) ms h k = (h.0, plain-append ls ms h.1 k)

no_line : (m q : List ℕ) → [] ≡ m ++ 10 ∷ q → ⊥
no_line [] q e = cc
no_line (b ∷ m) q e = cc

-- lines whose text begins with the text of others begin with these
pub lines_begin : (ls ms : List (List ℕ)) (rest : List ℕ) → ArePlain ls → ArePlain ms → lines_text ls ≡ lines_text ms ++ rest
    → (more : List (List ℕ)) × (ls ≡ ms ++ more) × (lines_text more ≡ rest)
lines_begin ls [] rest pl pm e = (ls, refl, e)
lines_begin [] (m ∷ ms) rest pl pm e = absurd (no_line m (lines_text ms ++ rest) (e ∙ first_line m ms rest))
lines_begin (l ∷ ls) (m ∷ ms) rest pl pm e =
    let s = same_line l m (lines_text ls) (lines_text ms ++ rest) pl.0 pm.0 (sym (append_assoc l (10 ∷ []) (lines_text ls)) ∙ e ∙ first_line m ms rest) in
    let r = lines_begin ls ms rest pl.1 pm.1 s.1 in
    (r.0, ap (λ (x : List ℕ). x ∷ ls) s.0 ∙ ap (λ (xs : List (List ℕ)). m ∷ xs) r.1, r.2)

-- the pieces of a text are its lines and the pieces of what stands behind them
pub pieces_lines : (ls : List (List ℕ)) (rest : List ℕ) → ArePlain ls → pieces 10 (lines_text ls ++ rest) ≡ ls ++ pieces 10 rest
pieces_lines [] rest h = refl
pieces_lines (l ∷ ls) rest h =
    ap (pieces 10) (first_line l ls rest)
    ∙ pieces_at_some 10 (l ++ 10 ∷ (lines_text ls ++ rest)) l (lines_text ls ++ rest) (cut_at_again 10 l (lines_text ls ++ rest) h.0)
    ∙ ap (λ (xs : List (List ℕ)). l ∷ xs) (pieces_lines ls rest h.1)
