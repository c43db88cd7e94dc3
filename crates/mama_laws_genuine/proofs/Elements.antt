-- What holds of each element of lists, and of what journals put.
use Rattle.std.specs.Prelude.{if◌then◌else◌}
use Rattle.std.specs.List.{AllByRecursion, flat_map, enumerate_from}
use Rattle.std.proofs.Common.{ℕ, zero, suc, ◌≡◌, ◌+◌, ◌==◌, refl, Bool, true, false, List, [], ◌∷◌, ◌++◌, map, filter, replicate, get_or}
use Rattle.std.proofs.lemmas.Bool.Decides.{Decides-eqb}
use Rattle.mama_journal.specs.Journal.{puts_after, puts_so_far}
use Rattle.mama_journal.specs.Lane.{by_port}

pub all_append : {X : Type 0} (P : X → Type 0) (xs ys : List X) → AllByRecursion P xs → AllByRecursion P ys → AllByRecursion P (xs ++ ys)
all_append P [] ys one two = two
all_append P (x ∷ xs) ys one two = (one.0, all_append P xs ys one.1 two)

pub all_push : {X : Type 0} (P : X → Type 0) (xs : List X) (x : X) → AllByRecursion P xs → P x → AllByRecursion P (xs ++ x ∷ [])
all_push P xs x all here = all_append P xs (x ∷ []) all (here, tt)

pub all_if : {X : Type 0} (P : X → Type 0) (b : Bool) (xs ys : List X) → AllByRecursion P xs → AllByRecursion P ys → AllByRecursion P (if b then xs else ys)
all_if P true xs ys one two = one
all_if P false xs ys one two = two

-- what holds of whatever f makes of each element that has Q
pub all_flat_map : {X Y : Type 0} (Q : X → Type 0) (P : Y → Type 0) (f : X → List Y) → ((x : X) → Q x → AllByRecursion P (f x))
    → (xs : List X) → AllByRecursion Q xs → AllByRecursion P (flat_map f xs)
all_flat_map Q P f each [] all = tt
all_flat_map Q P f each (x ∷ xs) all = all_append P (f x) (flat_map f xs) (each x all.0) (all_flat_map Q P f each xs all.1)

-- and of any element
pub all_flat : {X Y : Type 0} (P : Y → Type 0) (f : X → List Y) → ((x : X) → AllByRecursion P (f x)) → (xs : List X) → AllByRecursion P (flat_map f xs)
all_flat P f each [] = tt
all_flat P f each (x ∷ xs) = all_append P (f x) (flat_map f xs) (each x) (all_flat P f each xs)

pub all_map : {X Y : Type 0} (Q : X → Type 0) (P : Y → Type 0) (f : X → Y) → ((x : X) → Q x → P (f x))
    → (xs : List X) → AllByRecursion Q xs → AllByRecursion P (map f xs)
all_map Q P f each [] all = tt
all_map Q P f each (x ∷ xs) all = (each x all.0, all_map Q P f each xs all.1)

pub all_mapped : {X Y : Type 0} (P : Y → Type 0) (f : X → Y) → ((x : X) → P (f x)) → (xs : List X) → AllByRecursion P (map f xs)
all_mapped P f each [] = tt
all_mapped P f each (x ∷ xs) = (each x, all_mapped P f each xs)

pub all_filter : {X : Type 0} (P : X → Type 0) (test : X → Bool) (xs : List X) → AllByRecursion P xs → AllByRecursion P (filter test xs)
all_filter P test [] all = tt
all_filter P test (x ∷ xs) all = all_if P (test x) (x ∷ filter test xs) (filter test xs) (all.0, all_filter P test xs all.1) (all_filter P test xs all.1)

-- the elements that are numbered
pub all_numbered : {X : Type 0} (P : X → Type 0) (n : ℕ) (xs : List X) → AllByRecursion P xs → AllByRecursion (λ (e : ℕ × X). P e.1) (enumerate_from n xs)
all_numbered P n [] all = tt
all_numbered P n (x ∷ xs) all = (all.0, all_numbered P (n + 1) xs all.1)

-- each list of a list of lists, and the one at a place

pub all_at : {X : Type 0} (P : X → Type 0) (lists : List (List X)) (i : ℕ) → AllByRecursion (AllByRecursion P) lists → AllByRecursion P (get_or lists i [])
all_at P [] i all = tt
all_at P (xs ∷ lists) zero all = all.0
all_at P (xs ∷ lists) (suc i) all = all_at P lists i all.1

-- what came by a port

pub all_by_port : {V : Type 0} (P : V → Type 0) (port : ℕ) (es : List (ℕ × V)) → AllByRecursion (λ (e : ℕ × V). P e.1) es → AllByRecursion P (by_port port es)
all_by_port P port [] all = tt
all_by_port P port (e ∷ es) all =
    all_if P (e.0 == port) (e.1 ∷ by_port port es) (by_port port es) (all.0, all_by_port P port es all.1) (all_by_port P port es all.1)

-- what a journal puts, where each of its entries has Q

pub all_puts_after : {E V : Type 0} (Q : E → Type 0) (P : V → Type 0) (at : List E → E → List V)
    → ((before : List E) (e : E) → Q e → AllByRecursion P (at before e))
    → (before es : List E) → AllByRecursion Q es → AllByRecursion P (puts_after at before es)
all_puts_after Q P at each before [] all = tt
all_puts_after Q P at each before (e ∷ es) all =
    all_append P (at before e) (puts_after at (before ++ e ∷ []) es) (each before e all.0) (all_puts_after Q P at each (before ++ e ∷ []) es all.1)

-- the same where what holds of the entries before is of use
pub all_puts_known : {E V : Type 0} (Q : E → Type 0) (P : V → Type 0) (at : List E → E → List V)
    → ((before : List E) (e : E) → AllByRecursion Q before → Q e → AllByRecursion P (at before e))
    → (before es : List E) → AllByRecursion Q before → AllByRecursion Q es → AllByRecursion P (puts_after at before es)
all_puts_known Q P at each before [] all more = tt
all_puts_known Q P at each before (e ∷ es) all more =
    all_append P (at before e) (puts_after at (before ++ e ∷ []) es) (each before e all more.0)
    (all_puts_known Q P at each (before ++ e ∷ []) es (all_push Q before e all more.0) more.1)

pub all_puts_so_far : {E V : Type 0} (Q : E → Type 0) (P : V → Type 0) (at : List E → List V → E → List V)
    → ((before : List E) (sofar : List V) (e : E) → AllByRecursion Q before → AllByRecursion P sofar → Q e → AllByRecursion P (at before sofar e))
    → (before : List E) (sofar : List V) (es : List E) → AllByRecursion Q before → AllByRecursion P sofar → AllByRecursion Q es
    → AllByRecursion P (puts_so_far at before sofar es)
all_puts_so_far Q P at each before sofar [] all so more = so
all_puts_so_far Q P at each before sofar (e ∷ es) all so more =
    all_puts_so_far Q P at each (before ++ e ∷ []) (sofar ++ at before sofar e) es (all_push Q before e all more.0)
    (all_append P sofar (at before sofar e) so (each before sofar e all so more.0)) more.1

pub all_weaker : {X : Type 0} (P Q : X → Type 0) → ((x : X) → P x → Q x) → (xs : List X) → AllByRecursion P xs → AllByRecursion Q xs
all_weaker P Q each [] all = tt
all_weaker P Q each (x ∷ xs) all = (each x all.0, all_weaker P Q each xs all.1)

pub all_replicated : {X : Type 0} (P : X → Type 0) (n : ℕ) (x : X) → P x → AllByRecursion P (replicate n x)
all_replicated P zero x here = tt
all_replicated P (suc n) x here = (here, all_replicated P n x here)

pub all_both : {X : Type 0} (P Q : X → Type 0) (xs : List X) → AllByRecursion P xs → AllByRecursion Q xs → AllByRecursion (λ x. P x × Q x) xs
all_both P Q [] one two = tt
all_both P Q (x ∷ xs) one two = ((one.0, two.0), all_both P Q xs one.1 two.1)

-- what holds of any element
pub all_any : {X : Type 0} (P : X → Type 0) → ((x : X) → P x) → (xs : List X) → AllByRecursion P xs
all_any P each [] = tt
all_any P each (x ∷ xs) = (each x, all_any P each xs)

pub first_came : {X : Type 0} (P : X → Type 0) (b : Bool) (x : X) (xs rest : List X) → b ≡ true → AllByRecursion P (if b then x ∷ xs else rest) → P x
first_came P true x xs rest same all = all.0
first_came P false x xs rest same all = absurd cc

pub rest_came : {X : Type 0} (P : X → Type 0) (b : Bool) (x : X) (xs : List X) → AllByRecursion P (if b then x ∷ xs else xs) → AllByRecursion P xs
rest_came P true x xs all = all.1
rest_came P false x xs all = all

-- what holds of all that came by each port holds of all that came
pub all_from_ports : {X : Type 0} (P : X → Type 0) (es : List (ℕ × X)) → ((port : ℕ) → AllByRecursion P (by_port port es)) → AllByRecursion (λ (e : ℕ × X). P e.1) es
all_from_ports P [] each = tt
all_from_ports P (e ∷ es) each = (
  first_came P (e.0 == e.0) e.1 (by_port e.0 es) (by_port e.0 es) ((Decides-eqb e.0 e.0).1 refl) (each e.0),
  all_from_ports P es (λ port. rest_came P (e.0 == port) e.1 (by_port port es) (each port)),
)

-- so it is where what holds of it tells its port
pub all_by_ports : {X : Type 0} (P : ℕ → X → Type 0) (es : List (ℕ × X)) → ((port : ℕ) → AllByRecursion (P port) (by_port port es))
    → AllByRecursion (λ (e : ℕ × X). P e.0 e.1) es
all_by_ports P [] each = tt
all_by_ports P (e ∷ es) each = (
  first_came (P e.0) (e.0 == e.0) e.1 (by_port e.0 es) (by_port e.0 es) ((Decides-eqb e.0 e.0).1 refl) (each e.0),
  all_by_ports P es (λ port. rest_came (P port) (e.0 == port) e.1 (by_port port es) (each port)),
)

-- the parts of a list
pub all_left : {X : Type 0} (P : X → Type 0) (xs ys : List X) → AllByRecursion P (xs ++ ys) → AllByRecursion P xs
all_left P [] ys all = tt
all_left P (x ∷ xs) ys all = (all.0, all_left P xs ys all.1)

pub all_right : {X : Type 0} (P : X → Type 0) (xs ys : List X) → AllByRecursion P (xs ++ ys) → AllByRecursion P ys
all_right P [] ys all = all
all_right P (x ∷ xs) ys all = all_right P xs ys all.1

-- what holds of each for every a
pub all_each : {X : Type 0} (A : Type 0) (P : A → X → Type 0) (xs : List X) → ((a : A) → AllByRecursion (P a) xs) → AllByRecursion (λ (x : X). (a : A) → P a x) xs
all_each A P [] all = tt
all_each A P (x ∷ xs) all = (λ a. (all a).0, all_each A P xs (λ a. (all a).1))
