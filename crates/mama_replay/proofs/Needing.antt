-- Lemmas on what the steps of the actors need, actor by actor and line by line.
use Rattle.std.specs.Prelude.{if◌then◌else◌}
use Rattle.std.proofs.Common.{◌≡◌, ℕ, suc, ◌+◌, ◌<◌, ◌≤◌, Bool, true, false, cond, refl, List, [], ◌∷◌, ◌++◌, length, map, drop, get_or, Option, None, sym, ◌∙◌, ap, arith, append_assoc}
use Rattle.std.proofs.lemmas.List.{drop_more, map_push}
use Rattle.std.specs.Global.{Vec}
use Rattle.mama_check_order.specs.declared.order.Need.{Need}
use Rattle.mama_script.specs.declared.client.ClientLine.{ClientLine}
use Rattle.mama_replay.specs.Followed.{is_pause}
use Rattle.mama_replay.specs.Needs.{numbers_from, line_needs, client_needs, needs_at, needs_from}

-- the next line of a client, by what is left

line_first : (b : Bool) (rest : List (Option Need)) → cond b [] (None ∷ []) ++ rest ≡ cond b rest (None ∷ rest)
line_first true rest = refl
line_first false rest = refl

pub lines_more : (so_far now : List (Option Need)) (lines : List ClientLine) (k : ℕ) (l : ClientLine) → k < length lines → l ≡ get_or lines k l → now ≡ so_far ++ line_needs l
    → now ++ client_needs (drop (k + 1) lines) ≡ so_far ++ client_needs (drop k lines)
lines_more so_far now lines k l low is grown =
    ap (λ (ns : List (Option Need)). ns ++ client_needs (drop (k + 1) lines)) grown
    ∙ append_assoc so_far (line_needs l) (client_needs (drop (k + 1) lines))
    ∙ ap (λ (ns : List (Option Need)). so_far ++ ns) (line_first (is_pause l) (client_needs (drop (k + 1) lines)))
    ∙ ap (λ (x : ClientLine). so_far ++ client_needs (x ∷ drop (k + 1) lines)) is
    ∙ ap (λ (ls : List ClientLine). so_far ++ client_needs ls) (sym (drop_more lines k l low))

pub numbers_more : (so_far now : List ℕ) (number next : ℕ) (lines : List ClientLine) (k : ℕ) (l : ClientLine) → k < length lines → l ≡ get_or lines k l → now ≡ so_far ++ number ∷ []
    → next ≡ (if is_pause l then number else suc number) → now ++ numbers_from next (drop (k + 1) lines) ≡ so_far ++ numbers_from number (drop k lines)
numbers_more so_far now number next lines k l low is grown after =
    ap (λ (ns : List ℕ). ns ++ numbers_from next (drop (k + 1) lines)) grown
    ∙ append_assoc so_far (number ∷ []) (numbers_from next (drop (k + 1) lines))
    ∙ ap (λ (n : ℕ). so_far ++ (number ∷ numbers_from n (drop (k + 1) lines))) after
    ∙ ap (λ (x : ClientLine). so_far ++ (number ∷ numbers_from (if is_pause x then number else suc number) (drop (k + 1) lines))) is
    ∙ ap (λ (ls : List ClientLine). so_far ++ numbers_from number ls) (sym (drop_more lines k l low))

-- the next actor, by what is left

pub actors_more : (clients : List (List ClientLine)) (so_far now : List (Vec (Option Need))) (lists : List (List (Option Need))) (k : ℕ) (one : Vec (Option Need)) (own : List (Option Need))
    → k < length lists → own ≡ get_or lists k [] → one.items ≡ needs_at clients k own → now ≡ so_far ++ one ∷ []
    → map (λ v. v.items) now ++ needs_from clients (k + 1) (drop (k + 1) lists) ≡ map (λ v. v.items) so_far ++ needs_from clients k (drop k lists)
actors_more clients so_far now lists k one own low is needs grown =
    let items = λ (v : Vec (Option Need)). v.items in
    let rest = λ (n : ℕ). needs_from clients n (drop (k + 1) lists) in
    let place : k + 1 ≡ suc k = omega arith in
    ap (λ (vs : List (Vec (Option Need))). map items vs ++ rest (k + 1)) grown
    ∙ ap (λ (xs : List (List (Option Need))). xs ++ rest (k + 1)) (map_push items so_far one)
    ∙ append_assoc (map items so_far) (one.items ∷ []) (rest (k + 1))
    ∙ ap (λ (n : ℕ). map items so_far ++ (one.items ∷ rest n)) place
    ∙ ap (λ (ns : List (Option Need)). map items so_far ++ (ns ∷ rest (suc k))) (needs ∙ ap (needs_at clients k) is)
    ∙ ap (λ (ls : List (List (Option Need))). map items so_far ++ needs_from clients k ls) (sym (drop_more lists k [] low))

-- no step has a higher number than its line
pub number_low : (b : Bool) (n k next : ℕ) → n ≤ k → next ≡ (if b then n else suc n) → next ≤ k + 1
number_low true n k next low is = omega arith
number_low false n k next low is = omega arith
