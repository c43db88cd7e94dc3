-- believed: What a reader answers: the value, the fault that reading gives, or want of memory.
use Rattle.std.specs.Prelude.{◌≡◌, ℕ, Result, Ok, Err}
use Rattle.mama_words.specs.declared.error.ReadError.{ReadError}
use Rattle.mama_words.specs.declared.error.ReadError.TheVariants as errors

-- an answer that is not Ok is the fault that reading gives, or want of memory, which says nothing
abbrev pub Fails : {A : Type 0} → ReadError → Result A ℕ → Type 0
Fails errors.Memory read = Unit {0}
Fails (errors.Fault n) read = read ≡ Err n

-- an answer, seen by view, is what reading gives, unless it is want of memory
abbrev pub Gives : {X A : Type 0} → (X → A) → Result X ReadError → Result A ℕ → Type 0
Gives view (Ok x) read = read ≡ Ok (view x)
Gives view (Err e) read = Fails e read
