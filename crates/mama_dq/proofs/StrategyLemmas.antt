-- How cached updates are handled one after another.
use Rattle.std.proofs.Common.{◌≡◌, ℕ, Bool, true, List, [], ◌∷◌, ◌++◌, refl, ap, ◌∙◌, sym, arith}
use Rattle.std.proofs.lemmas.Bool.Decides.{nat_tests}
use Rattle.mama_msg.specs.Field.{FieldData}
use Rattle.mama_event.specs.declared.shape.Strategy.{Strategy}
use Rattle.mama_event.specs.declared.shape.Strategy.TheVariants.{One, Two}
use Rattle.mama_event.specs.declared.callback.Callback.{Callback}
use Rattle.mama_event.specs.declared.market.MarketMsg.{MarketMsg}
use Rattle.mama_dq.specs.declared.table.Phase.{Phase}
use Rattle.mama_dq.specs.declared.table.Phase.TheVariants.{Await, LiveOk, LiveStale, LiveKept}
use Rattle.mama_dq.specs.declared.table.Relation.{Relation}
use Rattle.mama_dq.specs.declared.table.Relation.TheVariants.{Next, Same, Old, Ahead, Other}
use Rattle.mama_dq.specs.declared.table.Action.{Action}
use Rattle.mama_dq.specs.declared.table.Action.TheVariants.{Keep, KeepOnly, Ignore, Gap, Catch, Late, KeepLate}
use Rattle.std.specs.declared.ops.Bound.{Bound}
use Rattle.mama_dq.specs.Cache.{from_bound}
use Rattle.mama_dq.specs.Table.{either, decided, relation_of, relation_of_number}
use Rattle.mama_dq.specs.Context.{ContextData}
use Rattle.mama_dq.specs.Strategy.{Step, acted, caught, handled, updated, update_acted, after, after_all, callbacks_of, calls_after}

-- a number is never another sender's
pub not_other : (last n : ℕ) → relation_of_number last n ≡ Other → ⊥
not_other last n is = grind (arith, nat_tests)

-- the relation of a message of the same sender is that of its number
pub same_sender : (sender last : ℕ) (m : MarketMsg) → m.sender ≡ sender → relation_of sender last m ≡ relation_of_number last m.seq
same_sender sender last m same = grind (arith, nat_tests)

-- what holds of the actions of both strategies holds of the one that is chosen
pub either_way : (P : Action → Type 0) (strategy : Strategy) (one two : Action) → P one → P two → P (either strategy one two)
either_way P One one two first second = first
either_way P Two one two first second = second

either_to : (P Q : Action → Type 0) (strategy : Strategy) (one two : Action) → (P one → Q one) → (P two → Q two) → P (either strategy one two) → Q (either strategy one two)
either_to P Q One one two first second p = first p
either_to P Q Two one two first second p = second p

-- what an update does: before the first image it is kept, the first gap of strategy two is caught up with, and all else
-- is done by one update alone
pub update_cases : (P : Step → Type 0) (strategy : Strategy) (phase : Phase) (relation : Relation) (c : ContextData) (m : MarketMsg)
    → (phase ≡ Await → P (acted Keep c m)) → (strategy ≡ Two → phase ≡ LiveKept → relation ≡ Ahead → P (caught c m))
    → P (update_acted (decided strategy phase relation true) c m) → P (acted (decided strategy phase relation true) c m)
update_cases P strategy Await relation c m keep catch one = keep refl
update_cases P strategy LiveOk Next c m keep catch one = one
update_cases P strategy LiveOk Same c m keep catch one = either_to (λ a. P (update_acted a c m)) (λ a. P (acted a c m)) strategy Ignore Late (λ x. x) (λ x. x) one
update_cases P strategy LiveOk Old c m keep catch one = either_to (λ a. P (update_acted a c m)) (λ a. P (acted a c m)) strategy Ignore Late (λ x. x) (λ x. x) one
update_cases P strategy LiveOk Ahead c m keep catch one = one
update_cases P strategy LiveOk Other c m keep catch one = one
update_cases P strategy LiveStale Next c m keep catch one = one
update_cases P strategy LiveStale Same c m keep catch one = either_to (λ a. P (update_acted a c m)) (λ a. P (acted a c m)) strategy KeepOnly KeepLate (λ x. x) (λ x. x) one
update_cases P strategy LiveStale Old c m keep catch one = either_to (λ a. P (update_acted a c m)) (λ a. P (acted a c m)) strategy KeepOnly KeepLate (λ x. x) (λ x. x) one
update_cases P strategy LiveStale Ahead c m keep catch one = one
update_cases P strategy LiveStale Other c m keep catch one = one
update_cases P strategy LiveKept Next c m keep catch one = one
update_cases P strategy LiveKept Same c m keep catch one = either_to (λ a. P (update_acted a c m)) (λ a. P (acted a c m)) strategy Ignore Late (λ x. x) (λ x. x) one
update_cases P strategy LiveKept Old c m keep catch one = either_to (λ a. P (update_acted a c m)) (λ a. P (acted a c m)) strategy Ignore Late (λ x. x) (λ x. x) one
update_cases P One LiveKept Ahead c m keep catch one = one
update_cases P Two LiveKept Ahead c m keep catch one = catch refl refl refl
update_cases P strategy LiveKept Other c m keep catch one = one

sender_kept : (strategy : Strategy) (phase : Phase) (relation : Relation) (c : ContextData) (m : MarketMsg)
    → (relation ≡ Other → ⊥) → (update_acted (decided strategy phase relation true) c m).context.sender ≡ c.sender
sender_kept strategy Await relation c m other = refl
sender_kept strategy LiveOk Next c m other = refl
sender_kept strategy LiveOk Same c m other = either_way (λ a. (update_acted a c m).context.sender ≡ c.sender) strategy Ignore Late refl refl
sender_kept strategy LiveOk Old c m other = either_way (λ a. (update_acted a c m).context.sender ≡ c.sender) strategy Ignore Late refl refl
sender_kept strategy LiveOk Ahead c m other = refl
sender_kept strategy LiveOk Other c m other = absurd (other refl)
sender_kept strategy LiveStale Next c m other = refl
sender_kept strategy LiveStale Same c m other = either_way (λ a. (update_acted a c m).context.sender ≡ c.sender) strategy KeepOnly KeepLate refl refl
sender_kept strategy LiveStale Old c m other = either_way (λ a. (update_acted a c m).context.sender ≡ c.sender) strategy KeepOnly KeepLate refl refl
sender_kept strategy LiveStale Ahead c m other = refl
sender_kept strategy LiveStale Other c m other = absurd (other refl)
sender_kept strategy LiveKept Next c m other = refl
sender_kept strategy LiveKept Same c m other = either_way (λ a. (update_acted a c m).context.sender ≡ c.sender) strategy Ignore Late refl refl
sender_kept strategy LiveKept Old c m other = either_way (λ a. (update_acted a c m).context.sender ≡ c.sender) strategy Ignore Late refl refl
sender_kept strategy LiveKept Ahead c m other = either_way (λ a. (update_acted a c m).context.sender ≡ c.sender) strategy Gap Catch refl refl
sender_kept strategy LiveKept Other c m other = absurd (other refl)

-- an update of the context's sender leaves the sender
pub updated_sender : (c : ContextData) (m : MarketMsg) → m.sender ≡ c.sender → (updated c m).context.sender ≡ c.sender
updated_sender c m same =
    sender_kept c.strategy c.phase (relation_of c.sender c.last m) c m (λ other. not_other c.last m.seq (sym (same_sender c.sender c.last m same) ∙ other))

-- In a walk over the updates from a bound on: handling what is left gives what handling all gives, and the context's
-- sender stays.
pub record Handles (rest all : List (ℕ × List FieldData)) (from : Bound ℕ) (sender : ℕ) (c start : ContextData) (calls before : List Callback) : Type 0 where
  pub same_context : (handled c rest).context ≡ (handled start (from_bound from all)).context
  pub same_calls : calls ++ (handled c rest).calls ≡ before ++ (handled start (from_bound from all)).calls
  pub same_sender : c.sender ≡ sender

pub handles_all : (rest all : List (ℕ × List FieldData)) (from : Bound ℕ) (sender : ℕ) (c : ContextData) (calls : List Callback)
    → rest ≡ from_bound from all → c.sender ≡ sender → Handles rest all from sender c c calls calls
handles_all rest all from sender c calls is own = rw is (record { same_context = refl; same_calls = refl; same_sender = own })

-- the context after some messages and then others
pub after_all-append : (c : ContextData) (xs ys : List MarketMsg) → after_all c (xs ++ ys) ≡ after_all (after_all c xs) ys
after_all-append c [] ys = refl
after_all-append c (x ∷ xs) ys = after_all-append (after c x) xs ys

-- the callbacks of some messages and one more
pub calls_after-append : (c : ContextData) (xs ys : List MarketMsg) → calls_after c (xs ++ ys) ≡ calls_after c xs ++ calls_after (after_all c xs) ys
calls_after-append c [] ys = refl
calls_after-append c (x ∷ xs) ys = ap (λ (calls : List (List Callback)). callbacks_of c x ∷ calls) (calls_after-append (after c x) xs ys)
