-- Which ids are among those that are kept.
use Rattle.std.specs.List.{list_any}
use Rattle.std.specs.Ordering.{nat_cmp, ordering_then, is_eq}
use Rattle.std.proofs.Common.{◌≡◌, ℕ, Bool, true, false, ◌&&◌, ◌||◌, ◌==◌, List, [], ◌∷◌, ◌++◌, refl, sym, ap, ◌∙◌, arith, Ordering, Less, Equal, Greater}
use Rattle.std.proofs.lemmas.Bool.Decides.{nat_tests}
use Rattle.std.proofs.lemmas.List.Folds.{list_any-append}
use Rattle.mama_event.specs.declared.ids.SubId.{SubId}
use Rattle.mama_event.specs.declared.ids.InboxId.{InboxId}
use Rattle.mama_event.specs.Object.{same_sub, same_inbox}
use Rattle.mama_bridge.specs.Ids.{sub_cmp, inbox_cmp, is_sub_among, is_inbox_among}

is_eq-nat_cmp : (a c : ℕ) → is_eq (nat_cmp a c) ≡ (a == c)
is_eq-nat_cmp a c = grind (arith, nat_tests)

is_eq-then : (o p : Ordering) → is_eq (ordering_then o p) ≡ (is_eq o && is_eq p)
is_eq-then Less p = refl
is_eq-then Equal p = refl
is_eq-then Greater p = refl

pub sub_ties : (a c : SubId) → is_eq (sub_cmp a c) ≡ same_sub a c
sub_ties a c = is_eq-then (nat_cmp a.client c.client) (nat_cmp a.number c.number)
    ∙ ap (λ (b : Bool). b && is_eq (nat_cmp a.number c.number)) (is_eq-nat_cmp a.client c.client)
    ∙ ap (λ (b : Bool). (a.client == c.client) && b) (is_eq-nat_cmp a.number c.number)

pub inbox_ties : (a c : InboxId) → is_eq (inbox_cmp a c) ≡ same_inbox a c
inbox_ties a c = is_eq-then (nat_cmp a.client c.client) (nat_cmp a.number c.number)
    ∙ ap (λ (b : Bool). b && is_eq (nat_cmp a.number c.number)) (is_eq-nat_cmp a.client c.client)
    ∙ ap (λ (b : Bool). (a.client == c.client) && b) (is_eq-nat_cmp a.number c.number)

or_false : (b : Bool) → (b || false) ≡ b
or_false true = refl
or_false false = refl

pub any_more : {X : Type 0} (test : X → Bool) (xs : List X) (x : X) → list_any test (xs ++ x ∷ []) ≡ (list_any test xs || test x)
any_more test xs x = list_any-append test xs (x ∷ []) ∙ ap (λ (b : Bool). list_any test xs || b) (or_false (test x))

-- one id more
pub sub_joined : (sub : SubId) (old mid after : List SubId) (joined : List SubId) → ((one : SubId) → is_sub_among mid one ≡ (is_sub_among old one || same_sub sub one)) → after ≡ mid
    → ((one : SubId) → is_sub_among old one ≡ list_any (λ (r : SubId). same_sub r one) joined) → (one : SubId) → is_sub_among after one ≡ list_any (λ (r : SubId). same_sub r one) (joined ++ sub ∷ [])
sub_joined sub old mid after joined h e k one =
    ap (λ (known : List SubId). is_sub_among known one) e ∙ h one ∙ ap (λ (b : Bool). b || same_sub sub one) (k one) ∙ sym (any_more (λ (r : SubId). same_sub r one) joined sub)

pub inbox_opened : (inbox : InboxId) (old after : List InboxId) (opened : List InboxId) → ((one : InboxId) → is_inbox_among after one ≡ (is_inbox_among old one || same_inbox inbox one))
    → ((one : InboxId) → is_inbox_among old one ≡ list_any (λ (r : InboxId). same_inbox r one) opened) → (one : InboxId) → is_inbox_among after one ≡ list_any (λ (r : InboxId). same_inbox r one) (opened ++ inbox ∷ [])
inbox_opened inbox old after opened h k one =
    h one ∙ ap (λ (b : Bool). b || same_inbox inbox one) (k one) ∙ sym (any_more (λ (r : InboxId). same_inbox r one) opened inbox)
