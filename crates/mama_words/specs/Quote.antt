-- believed: Texts between quotes.
use Rattle.std.specs.Prelude.{ℕ, Bool, true, false, ◌&&◌, ◌==◌, List, [], ◌∷◌, drop, Option, Some, None, if◌then◌else◌}
use Rattle.std.specs.List.{list_all}
use Rattle.std.specs.Str.{bytes_eq}
use Rattle.mama_edge.specs.Quoted.{quoted, is_printable}

-- the characters up to the quote that ends a text, where a backslash takes the next byte with it
abbrev pub unquoted_from : Bool → List ℕ → List ℕ
unquoted_from escaped [] = []
unquoted_from true (b ∷ bs) = b ∷ unquoted_from false bs
unquoted_from false (b ∷ bs) = if b == 34 then [] else (if b == 92 then unquoted_from true bs else b ∷ unquoted_from false bs)

-- the text that has this quoted spelling
unfoldable pub quoted_in : List ℕ → Option (List ℕ)
quoted_in word = let text = unquoted_from false (drop 1 word) in if list_all is_printable text && bytes_eq word (quoted text) then Some text else None
