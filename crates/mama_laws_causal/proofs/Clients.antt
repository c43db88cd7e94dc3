-- Clients take nothing, so all that they do may come first.
use Rattle.std.specs.Prelude.{slice_get, slice_index_or, None, Some}
use Rattle.std.proofs.Common.{◌≡◌, ℕ, zero, suc, ◌<◌, ◌≤◌, Bool, cond, List, [], ◌∷◌, ◌++◌, length, replicate, refl, sym, ◌∙◌, ap, subst, arith, ⊎_elim}
use Rattle.std.proofs.lemmas.Bool.{cases_eq, cases_lt, eq-eqb, ne_eqb}
use Rattle.mama_event.specs.Ports.{clients_of}
use Rattle.mama_check_order.specs.Order.{turns_of, MayFollow}
use Rattle.mama_check_order.proofs.Orders.{turns_push, follow_push}
use Rattle.mama_script.specs.Script.{ScriptData}
use Rattle.mama_record.specs.RunData.{RunData}
use Rattle.mama_check.specs.Causal.{client_needs, all_needs}
use Rattle.mama_check.proofs.Numbers.{are_by_number}
use Rattle.mama_laws_causal.proofs.Needs.{may_take}

-- ---- a turn more

pub turn_own : (a : ℕ) (turns : List ℕ) → turns_of a (turns ++ a ∷ []) ≡ suc (turns_of a turns)
turn_own a turns = turns_push a turns a ∙ ap (λ (b : Bool). cond b (suc (turns_of a turns)) (turns_of a turns)) (eq-eqb a a refl)

pub turn_other : (a x : ℕ) (turns : List ℕ) → (x ≡ a → ⊥) → turns_of a (turns ++ x ∷ []) ≡ turns_of a turns
turn_other a x turns apart = turns_push a turns x ∙ ap (λ (b : Bool). cond b (suc (turns_of a turns)) (turns_of a turns)) (ne_eqb x a apart)

-- ---- client by client

-- how many turns a client has: one for each line, and one more
abbrev pub client_turns : ScriptData → ℕ → ℕ
client_turns script c = suc (length (slice_index_or script.clients c []))

at_each : {X : Type 0} (n k : ℕ) (x : X) → k < n → slice_get (replicate n x) k ≡ Some x
at_each zero k x low = absurd (omega arith)
at_each (suc n) zero x low = refl
at_each (suc n) (suc k) x low = at_each n k x (omega arith)

-- clients numbered below k had all their turns, and client k had m of its own
pub record AreBegun (script : ScriptData) (run : RunData) (k m : ℕ) : Type 0 where
  pub turns : List ℕ
  pub follow : MayFollow (all_needs script run) [] turns
  pub before : (c : ℕ) → c < k → turns_of c turns ≡ client_turns script c
  pub here : turns_of k turns ≡ m
  pub later : (a : ℕ) → k < a → turns_of a turns ≡ 0

module _ (script : ScriptData) (run : RunData) where
  turn_more : (k m : ℕ) → k < clients_of script.shape → m < client_turns script k → AreBegun script run k m → AreBegun script run k (suc m)
  turn_more k m inside low begun = record {
    turns = begun.turns ++ k ∷ [];
    follow = follow_push (all_needs script run) [] begun.turns k begun.follow
        (may_take (all_needs script run) begun.turns k (client_needs script k) m None ((are_by_number script run).clients k inside) begun.here
        (at_each (client_turns script k) m None low) tt);
    before = λ c under. turn_other c k begun.turns (λ same. omega arith) ∙ begun.before c under;
    here = turn_own k begun.turns ∙ ap suc begun.here;
    later = λ a above. turn_other a k begun.turns (λ same. omega arith) ∙ begun.later a above;
  }

  turns_more : (k m : ℕ) → k < clients_of script.shape → m ≤ client_turns script k → AreBegun script run k 0 → AreBegun script run k m
  turns_more k zero inside low begun = begun
  turns_more k (suc m) inside low begun = turn_more k m inside (omega arith) (turns_more k m inside (omega arith) begun)

  next_client : (k : ℕ) → AreBegun script run k (client_turns script k) → AreBegun script run (suc k) 0
  next_client k begun = record {
    turns = begun.turns;
    follow = begun.follow;
    before = λ c under. ⊎_elim
        (λ (same : c ≡ k). subst (λ (n : ℕ). turns_of n begun.turns ≡ client_turns script n) (sym same) begun.here)
        (λ apart. let low : c < k = below c k under apart in begun.before c low)
        (cases_eq c k);
    here = begun.later (suc k) (omega arith);
    later = λ a above. begun.later a (omega arith);
  }
    where
      below : (c k : ℕ) → c < suc k → (c ≡ k → ⊥) → c < k
      below c k under apart = ⊎_elim (λ (low : c < k). low) (λ high. let same : c ≡ k = omega arith in absurd (apart same)) (cases_lt c k)

  pub clients_first : (k : ℕ) → k ≤ clients_of script.shape → AreBegun script run k 0
  clients_first zero within = record {
    turns = [];
    follow = tt;
    before = λ c under. absurd (omega arith);
    here = refl;
    later = λ a above. refl;
  }
  clients_first (suc k) within = next_client k (turns_more k (client_turns script k) (omega arith) (omega arith) (clients_first k (omega arith)))
