-- inner: the name of a field, as it lies in the value.
use Rattle.std.specs.Prelude.{◌≡◌, ℕ, ◌-◌, ◌≤◌, true, List, ◌++◌, length, take, drop, replicate}
use Rattle.std.specs.List.{list_all}
use Rattle.std.proofs.Common.{ap, ◌∙◌, sym, arith}
use Rattle.std.proofs.lemmas.List.{take-append-drop, length-take-le}
use Rattle.mama_msg.specs.declared.name.Name.TheInside.{Inside}
use Rattle.mama_msg.specs.Name.{is_name_byte}

-- the text of a name: as many of its bytes as its length says
abbrev pub text_of : Inside → List ℕ
text_of n = take n.length n.bytes

-- a name's bytes past its length are zero, so that equal texts are equal bytes
pub record IsPadded (n : Inside) : Type 0 where
  pub short : n.length ≤ 32
  pub size : length n.bytes ≡ 32
  pub rest : drop n.length n.bytes ≡ replicate (32 - n.length) 0
  pub letters : list_all is_name_byte (text_of n) ≡ true

-- a text, as a name keeps it
abbrev pub inside_of : List ℕ → Inside
inside_of text = record { length = length text; bytes = text ++ replicate (32 - length text) 0 }

padded_again : (k : ℕ) (bytes : List ℕ) → k ≤ 32 → length bytes ≡ 32 → drop k bytes ≡ replicate (32 - k) 0
    → inside_of (take k bytes) ≡ record { length = k; bytes = bytes }
padded_again k bytes short size rest =
    let within : k ≤ length bytes = omega arith in
    let long : length (take k bytes) ≡ k = length-take-le k bytes within in
    let whole : take k bytes ++ replicate (32 - k) 0 ≡ bytes = ap (λ (xs : List ℕ). take k bytes ++ xs) (sym rest) ∙ take-append-drop k bytes in
    ap (λ (n : ℕ). record { length = n; bytes = take k bytes ++ replicate (32 - n) 0 }) long
    ∙ ap (λ (xs : List ℕ). record { length = k; bytes = xs }) whole

pub inside_of-text_of : (n : Inside) → IsPadded n → inside_of (text_of n) ≡ n
inside_of-text_of n fits = padded_again n.length n.bytes fits.short fits.size fits.rest
