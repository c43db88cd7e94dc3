-- What holds of an answer, and more that follows from it.
use Rattle.std.proofs.Common.{Result, Ok, Err, IfOk, OnOk, OnErr}

pub on_ok : {A E P Q : Type 0} (result : Result A E) → (P → Q) → OnOk result P → OnOk result Q
on_ok (Ok x) change p = change p
on_ok (Err e) change p = tt

pub on_err : {A E P Q : Type 0} (result : Result A E) → (P → Q) → OnErr result P → OnErr result Q
on_err (Ok x) change p = tt
on_err (Err e) change p = change p

pub at_err : {A E P : Type 0} (result : Result A E) → P → OnErr result P
at_err (Ok x) p = tt
at_err (Err e) p = p

pub if_ok : {A E : Type 0} (P Q : A → Type 0) (result : Result A E) → ((x : A) → P x → Q x) → IfOk result P → IfOk result Q
if_ok P Q (Ok x) change p = change x p
if_ok P Q (Err e) change p = tt
