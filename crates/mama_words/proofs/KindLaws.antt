-- Kinds, qualities, types and orders: the word that is read is the word of what it stands for.
use Rattle.std.proofs.Common.{◌≡◌, ℕ, true, cond, List, [], ◌∷◌, Option, Some, None, refl, ap, subst, ◌∙◌}
use Rattle.mama_event.specs.declared.market.SubKind.{SubKind}
use Rattle.mama_event.specs.declared.market.SubKind.TheVariants.{Market, Snapshot, Basic}
use Rattle.mama_event.specs.declared.market.MsgKind.{MsgKind}
use Rattle.mama_event.specs.declared.market.MsgKind.TheVariants.{Initial, Update, Recap}
use Rattle.mama_event.specs.declared.market.Quality.{Quality}
use Rattle.mama_event.specs.declared.market.Quality.TheVariants.{Ok as Good, Stale}
use Rattle.mama_event.specs.declared.group.GroupState.{GroupState}
use Rattle.mama_event.specs.declared.group.GroupState.TheVariants as state
use Rattle.mama_event.specs.declared.shape.Strategy.{Strategy}
use Rattle.mama_event.specs.declared.shape.Strategy.TheVariants.{One, Two}
use Rattle.mama_words.specs.declared.value_type.ValueType.{ValueType}
use Rattle.mama_words.specs.declared.value_type.ValueType.TheVariants as types
use Rattle.mama_words.specs.declared.order.OrderKind.{OrderKind}
use Rattle.mama_words.specs.declared.order.OrderKind.TheVariants as kinds
use Rattle.mama_words.specs.Kind.{sub_kind_text, sub_kind_in, msg_kind_text, quality_text, strategy_text, strategy_in, group_state_text, group_state_in}
use Rattle.mama_words.specs.KindIn.{msg_kind_in, quality_in}
use Rattle.mama_words.specs.Value.{type_text, any_type_in, is_known, if_known, type_in}
use Rattle.mama_words.specs.Order.{order_kind_in}
use Rattle.mama_words.specs.OrderKindText.{order_kind_text}
use Rattle.mama_words.specs.Named.{named_in}
use Rattle.mama_words.specs.declared.nums.Nums.{Nums}
use Rattle.mama_words.proofs.Choices.{chosen_some}
use Rattle.mama_words.proofs.Named.{named_found}

pub sub_kind_again : (k : SubKind) → sub_kind_in (sub_kind_text k) ≡ Some k
sub_kind_again Market = refl
sub_kind_again Snapshot = refl
sub_kind_again Basic = refl

pub sub_kind_found : (word : List ℕ) (k : SubKind) → sub_kind_in word ≡ Some k → word ≡ sub_kind_text k
sub_kind_found word k = named_found sub_kind_text word (Market ∷ Snapshot ∷ Basic ∷ []) k

pub msg_kind_again : (k : MsgKind) → msg_kind_in (msg_kind_text k) ≡ Some k
msg_kind_again Initial = refl
msg_kind_again Update = refl
msg_kind_again Recap = refl

pub msg_kind_found : (word : List ℕ) (k : MsgKind) → msg_kind_in word ≡ Some k → word ≡ msg_kind_text k
msg_kind_found word k = named_found msg_kind_text word (Initial ∷ Update ∷ Recap ∷ []) k

pub quality_again : (q : Quality) → quality_in (quality_text q) ≡ Some q
quality_again Good = refl
quality_again Stale = refl

pub quality_found : (word : List ℕ) (q : Quality) → quality_in word ≡ Some q → word ≡ quality_text q
quality_found word q = named_found quality_text word (Good ∷ Stale ∷ []) q

pub strategy_again : (s : Strategy) → strategy_in (strategy_text s) ≡ Some s
strategy_again One = refl
strategy_again Two = refl

pub strategy_found : (word : List ℕ) (s : Strategy) → strategy_in word ≡ Some s → word ≡ strategy_text s
strategy_found word s = named_found strategy_text word (One ∷ Two ∷ []) s

pub group_state_again : (s : GroupState) → group_state_in (group_state_text s) ≡ Some s
group_state_again state.Waiting = refl
group_state_again state.Fresh = refl
group_state_again state.Stale = refl
group_state_again state.Ended = refl

pub group_state_found : (word : List ℕ) (s : GroupState) → group_state_in word ≡ Some s → word ≡ group_state_text s
group_state_found word s = named_found group_state_text word (state.Waiting ∷ state.Fresh ∷ state.Stale ∷ state.Ended ∷ []) s

pub order_kind_again : (k : OrderKind) → order_kind_in (order_kind_text k) ≡ Some k
unfolding order_kind_in
order_kind_again kinds.Stop = refl
order_kind_again kinds.Disarm = refl
order_kind_again kinds.Close = refl
order_kind_again kinds.Ask = refl

pub order_kind_found : (word : List ℕ) (k : OrderKind) → order_kind_in word ≡ Some k → word ≡ order_kind_text k
unfolding order_kind_in
order_kind_found word k = named_found order_kind_text word (kinds.Stop ∷ kinds.Disarm ∷ kinds.Close ∷ kinds.Ask ∷ []) k

any_type_again : (t : ValueType) → any_type_in (type_text t) ≡ Some t
unfolding any_type_in
any_type_again types.Bool = refl
any_type_again types.Char = refl
any_type_again types.I8 = refl
any_type_again types.I16 = refl
any_type_again types.I32 = refl
any_type_again types.I64 = refl
any_type_again types.U8 = refl
any_type_again types.U16 = refl
any_type_again types.U32 = refl
any_type_again types.U64 = refl
any_type_again types.Text = refl
any_type_again types.Bytes = refl
any_type_again types.Price = refl
any_type_again types.Moment = refl
any_type_again types.Numbers = refl

abbrev pub all_types : List ValueType
all_types =
    types.Bool ∷ types.Char ∷ types.I8 ∷ types.I16 ∷ types.I32 ∷ types.I64 ∷ types.U8 ∷ types.U16 ∷ types.U32 ∷ types.U64 ∷ types.Text ∷ types.Bytes ∷ types.Price ∷ types.Moment ∷ types.Numbers ∷ []

-- reading is looking for the first type that has the word
pub type_named : (word : List ℕ) → named_in type_text word all_types ≡ any_type_in word
unfolding any_type_in
type_named word = refl

any_type_found : (word : List ℕ) (t : ValueType) → any_type_in word ≡ Some t → word ≡ type_text t
any_type_found word t e = named_found type_text word all_types t (type_named word ∙ e)

pub type_again : (nums : Nums) (t : ValueType) → is_known nums t ≡ true → type_in nums (type_text t) ≡ Some t
type_again nums t known = ap (if_known nums) (any_type_again t) ∙ ap (λ b. cond b (Some t) None) known

if_known_is : (nums : Nums) (o : Option ValueType) (t : ValueType) → if_known nums o ≡ Some t → (is_known nums t ≡ true) × (o ≡ Some t)
if_known_is nums None t e = absurd cc
if_known_is nums (Some k) t e =
    let p = chosen_some (is_known nums k) k t e in
    subst (λ (x : ValueType). (is_known nums x ≡ true) × (Some k ≡ Some x)) p.1 (p.0, refl)

pub type_found : (nums : Nums) (word : List ℕ) (t : ValueType) → type_in nums word ≡ Some t → (is_known nums t ≡ true) × (word ≡ type_text t)
type_found nums word t e =
    let p = if_known_is nums (any_type_in word) t e in
    (p.0, any_type_found word t p.1)
