-- inner: What a word names: the first of a list whose text it is.
use Rattle.std.specs.Prelude.{ℕ, List, [], ◌∷◌, Option, Some, None, if◌then◌else◌}
use Rattle.std.specs.Str.{bytes_eq}

abbrev pub named_in : {K : Type 0} → (K → List ℕ) → List ℕ → List K → Option K
named_in text word [] = None
named_in text word (k ∷ ks) = if bytes_eq word (text k) then Some k else named_in text word ks
