-- inner: which script and hall a thread's promise names, and how many seats threads were given.
use Rattle.std.specs.Prelude.{◌≡◌, ℕ, List, sum_by}
use Rattle.std.specs.declared.thread.PromisedHandle.{PromisedHandle}
use Rattle.mama_work.specs.declared.groups.Kept.{Kept}

-- a thread's promise names this script and this hall
abbrev pub IsOf : {S A B : Type 0} → A → B → Kept S A B → Type 0
IsOf script hall kept = (kept.script.value ≡ script) × (kept.hall.value ≡ hall)

-- how many seats these threads were given
abbrev pub seats_of : {T S A B : Type 0} → List (PromisedHandle T (Kept S A B)) → ℕ
seats_of children = sum_by (λ child. child.promise.number) children
