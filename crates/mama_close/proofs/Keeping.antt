-- What holds of a value that is kept where what was to be done to it was done.
use Rattle.std.proofs.Common.{◌≡◌, Result, Ok, Err, IsOk, IfOk, OnOk, sym, subst}

pub kept_so : {T E U F : Type 0} (P : T → Type 0) (value : T) (result : Result T E) (done : Result U F) → IfOk result (λ r. r ≡ value) → OnOk result (IsOk done) → OnOk done (P value) → IfOk result P
kept_so P value (Ok r) (Ok u) is ok holds = subst P (sym is) holds
kept_so P value (Ok r) (Err f) is ok holds = absurd (cc ok)
kept_so P value (Err e) done is ok holds = tt
