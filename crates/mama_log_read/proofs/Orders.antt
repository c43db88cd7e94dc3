-- The line of an order is told by its first byte.
use Rattle.std.proofs.Common.{◌≡◌, true, false, List, ℕ, ◌∷◌, ◌++◌, refl, sym, ap, ◌∙◌}
use Rattle.mama_event.specs.declared.order.Order.{Order}
use Rattle.mama_record.specs.LogText.{given_text}
use Rattle.mama_log_line.specs.Calls.{begins_as_order}

-- the line of an order begins with its word
order_begins : (o : Order) (more : List ℕ) → begins_as_order (given_text o ++ more) ≡ true
order_begins o more = refl

pub no_order_here : (text : List ℕ) (o : Order) (more : List ℕ) → begins_as_order text ≡ false → text ≡ given_text o ++ 10 ∷ more → ⊥
no_order_here text o more other is = let h : true ≡ false = sym (order_begins o (10 ∷ more)) ∙ sym (ap begins_as_order is) ∙ other in absurd cc
