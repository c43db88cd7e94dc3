-- believed: What the parser answers: what reading gives, or want of memory.
use Rattle.std.specs.Prelude.{◌≡◌, Result, Ok, Err}
use Rattle.mama_script.specs.declared.fault.ScriptFault.{ScriptFault}
use Rattle.mama_script.specs.declared.fault.ScriptFault.TheVariants.{Bad, OverLimit, OutOfMemory}

-- an answer that is not Ok is what is wrong with the text, or want of memory, which says nothing
abbrev pub Fails : {A : Type 0} → ScriptFault → Result A ScriptFault → Type 0
Fails OutOfMemory read = Unit {0}
Fails (Bad line fault) read = read ≡ Err (Bad line fault)
Fails (OverLimit line limit) read = read ≡ Err (OverLimit line limit)

-- an answer, seen by view, is what reading gives, unless it is want of memory
abbrev pub Gives : {X A : Type 0} → (X → A) → Result X ScriptFault → Result A ScriptFault → Type 0
Gives view (Ok x) read = read ≡ Ok (view x)
Gives view (Err e) read = Fails e read
