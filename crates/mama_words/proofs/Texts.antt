-- What the makers of texts and bytes refuse.
use Rattle.std.proofs.Common.{◌≡◌, ℕ, ◌<◌, ◌≤◌, Bool, true, false, cond, leb, List, length, Some, None, refl}
use Rattle.std.specs.Prelude.{◌&&◌}
use Rattle.std.specs.List.{list_all}
use Rattle.std.proofs.lemmas.Bool.{leb-true, le-leb, lt-leb, and_parts}
use Rattle.mama_msg.specs.Value.{IsText, is_printable}
use Rattle.mama_words.specs.Value.{if_text, if_short}

pub if_text_at : (t : List ℕ) → IsText t → if_text (Some t) ≡ Some t
if_text_at t is = rw (le-leb (length t) 255 is.short, is.printable) refl

is_text : (t : List ℕ) → (leb (length t) 255 && list_all is_printable t) ≡ true → IsText t
is_text t e = let p = and_parts (leb (length t) 255) (list_all is_printable t) e in record { short = leb-true (length t) 255 p.0; printable = p.1 }

no_text : (t : List ℕ) (b : Bool) → (leb (length t) 255 && list_all is_printable t) ≡ b → (IsText t → ⊥) → cond b (Some t) None ≡ None
no_text t true e never = absurd (never (is_text t e))
no_text t false e never = refl

pub if_text_not : (t : List ℕ) → (IsText t → ⊥) → if_text (Some t) ≡ None
if_text_not t never = no_text t (leb (length t) 255 && list_all is_printable t) refl never

pub if_short_at : (bs : List ℕ) → length bs ≤ 255 → if_short (Some bs) ≡ Some bs
if_short_at bs le = rw (le-leb (length bs) 255 le) refl

pub if_short_not : (bs : List ℕ) → 255 < length bs → if_short (Some bs) ≡ None
if_short_not bs lt = rw (lt-leb (length bs) 255 lt) refl
