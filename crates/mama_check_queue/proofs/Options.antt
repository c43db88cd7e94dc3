-- What a clause says of a value that an option is known to have.
use Rattle.std.specs.Prelude.{Option, Some, IfSome}
use Rattle.std.proofs.Common.{◌≡◌, subst}

pub some_is : {X : Type 0} (o : Option X) (x : X) (P : X → Type 0) → o ≡ Some x → IfSome o P → P x
some_is {X} o x P is h = subst (λ (v : Option X). IfSome v P) is h
