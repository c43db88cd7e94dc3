-- believed: what holds of all spellings and of all bytes.
use Rattle.std.specs.Prelude.{◌≡◌, ◌≢◌, ℕ, ◌^◌, Bool, true, nat_lt, List, ◌∷◌, ◌++◌, length, Ok, Err}
use Rattle.std.specs.List.{list_all, AllByRecursion}
use Rattle.mama_msg.specs.declared.value.Value.{Value}
use Rattle.mama_msg.specs.declared.value.Value.TheVariants as values
use Rattle.mama_msg.specs.Field.{FieldData}
use Rattle.mama_payload.specs.declared.fault.DecodeFault.{DecodeFault}
use Rattle.mama_payload.specs.declared.fault.DecodeFault.TheVariants.{Truncated, Trailing}
use Rattle.mama_payload.specs.Spelling.{spelling}
use Rattle.mama_payload.specs.Spelled.{HasSpelling}
use Rattle.mama_payload.specs.Reading.{decoded}

-- no spelling begins another, whatever follows each
abbrev pub NoSpellingBeginsAnother : Type 0
NoSpellingBeginsAnother = (a b : List FieldData) (x y : List ℕ) → HasSpelling a → HasSpelling b → spelling a ++ x ≡ spelling b ++ y → (a ≡ b) × (x ≡ y)

-- messages with one spelling are equal
abbrev pub OneSpellingIsOneMessage : Type 0
OneSpellingIsOneMessage = (a b : List FieldData) → HasSpelling a → HasSpelling b → spelling a ≡ spelling b → a ≡ b

-- a spelling is read as what it spells
abbrev pub SpellingIsRead : Type 0
SpellingIsRead = (m : List FieldData) → HasSpelling m → decoded (spelling m) ≡ Ok m

-- bytes after a spelling are Trailing at the first of them
abbrev pub LongerIsTrailing : Type 0
LongerIsTrailing = (m : List FieldData) (b : ℕ) (more : List ℕ) → HasSpelling m → decoded (spelling m ++ b ∷ more) ≡ Err (Trailing (length (spelling m)))

-- a front of a spelling, unless it is the whole, is Truncated at its length
abbrev pub ShorterIsTruncated : Type 0
ShorterIsTruncated = (m : List FieldData) (front : List ℕ) (b : ℕ) (more : List ℕ) → HasSpelling m → spelling m ≡ front ++ b ∷ more → decoded front ≡ Err (Truncated (length front))

-- a fault other than Truncated is found at its place whatever bytes follow
abbrev pub FaultStands : Type 0
FaultStands = (bytes more : List ℕ) (fault : DecodeFault) → decoded bytes ≡ Err fault → ((place : ℕ) → fault ≢ Truncated place) → decoded (bytes ++ more) ≡ Err fault

-- Truncated is at the length of the bytes
abbrev pub TruncatedIsAtTheEnd : Type 0
TruncatedIsAtTheEnd = (bytes : List ℕ) (place : ℕ) → decoded bytes ≡ Err (Truncated place) → place ≡ length bytes

-- a number is a byte
abbrev pub is_byte : ℕ → Bool
is_byte b = nat_lt b (2 ^ 8)

-- the numbers that a value has as its bytes are bytes, as they are in each value of the program
abbrev pub HasBytes : Value → Type 0
HasBytes (values.Bytes bytes) = list_all is_byte bytes ≡ true
HasBytes value = Unit {0}

-- the bytes of a spelling are bytes
abbrev pub SpellingsAreBytes : Type 0
SpellingsAreBytes = (m : List FieldData) → HasSpelling m → AllByRecursion (λ f. HasBytes f.value) m → list_all is_byte (spelling m) ≡ true
