-- inner: how the bytes behind the first quote of a quoted text are read, one by one.
use Rattle.std.specs.Prelude.{◌≡◌, ℕ, Bool, true, false, ◌==◌, List, [], ◌∷◌, ◌++◌, Option, Some, None, if◌then◌else◌}
use Rattle.mama_edge.specs.Quoted.{is_printable, is_special}
use Rattle.mama_edge.specs.declared.quotation.Taken.{Taken}
use Rattle.mama_edge.specs.declared.quotation.Taken.TheVariants.{More, Closed, Bad}

-- the text with a character more in front
abbrev pub put_first : ℕ → Option (List ℕ) → Option (List ℕ)
put_first byte None = None
put_first byte (Some text) = Some (byte ∷ text)

-- the text with more text in front
abbrev pub put_front : List ℕ → Option (List ℕ) → Option (List ℕ)
put_front front None = None
put_front front (Some text) = Some (front ++ text)

-- behind the last quote there is nothing
abbrev pub at_end : List ℕ → Option (List ℕ)
at_end [] = Some []
at_end (byte ∷ bytes) = None

-- the text in front of the last quote, read from inside it, behind a backslash or not
abbrev pub unquoted : Bool → List ℕ → Option (List ℕ)
unquoted is_escaped [] = None
unquoted true (byte ∷ bytes) = if is_special byte then put_first byte (unquoted false bytes) else None
unquoted false (byte ∷ bytes) =
    if byte == 34 then at_end bytes
    else (if byte == 92 then unquoted true bytes
    else (if is_printable byte then put_first byte (unquoted false bytes) else None))

-- what is read after a byte was taken, whatever comes behind it
abbrev pub Continues : List ℕ → List ℕ → Bool → ℕ → Taken → Type 0
Continues old new is_escaped byte (More next) =
    (bytes : List ℕ) → put_front old (unquoted is_escaped (byte ∷ bytes)) ≡ put_front new (unquoted next bytes)
Continues old new is_escaped byte Closed =
    (new ≡ old) × ((bytes : List ℕ) → unquoted is_escaped (byte ∷ bytes) ≡ at_end bytes)
Continues old new is_escaped byte Bad = (bytes : List ℕ) → unquoted is_escaped (byte ∷ bytes) ≡ None
