-- inner: The words that orders begin with.
use Rattle.std.specs.Prelude.{ℕ, codes, List}
use Rattle.mama_words.specs.declared.order.OrderKind.{OrderKind}
use Rattle.mama_words.specs.declared.order.OrderKind.TheVariants as kinds

abbrev pub order_kind_text : OrderKind → List ℕ
order_kind_text kinds.Stop = codes "stop"
order_kind_text kinds.Disarm = codes "disarm"
order_kind_text kinds.Close = codes "close"
order_kind_text kinds.Ask = codes "ask"
