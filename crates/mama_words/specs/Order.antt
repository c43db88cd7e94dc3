-- believed: Orders, and how they are spelled.
use Rattle.std.specs.Prelude.{◌≡◌, ℕ, ◌^◌, ◌<◌, Bool, true, ◌&&◌, nat_lt, codes, List, [], ◌∷◌, ◌++◌, length, map, Option, Some, None, Result, Ok, Err, option_and_then, if◌then◌else◌}
use Rattle.std.specs.List.{flat_map}
use Rattle.std.specs.Str.{bytes_eq}
use Rattle.mama_event.specs.FidList.{is_fid_list}
use Rattle.mama_event.specs.declared.order.Order.{Order}
use Rattle.mama_event.specs.declared.order.Order.TheVariants as orders
use Rattle.mama_words.specs.declared.id.IdWord.{IdWord}
use Rattle.mama_words.specs.declared.order.OrderKind.{OrderKind}
use Rattle.mama_words.specs.declared.order.OrderKind.TheVariants as kinds
use Rattle.mama_words.specs.declared.order.OrderWord.{OrderWord}
use Rattle.mama_words.specs.declared.order.OrderWord.TheVariants.{Stop, Disarm, Close, Ask}
use Rattle.mama_words.specs.Reading.{◌>>=◌, or_fault}
use Rattle.mama_words.specs.Number.{number_in, between_in}
use Rattle.mama_words.specs.Id.{id_text, id_in, sub_word, timer_word, inbox_word}
use Rattle.mama_event.specs.declared.ids.InboxId.{InboxId}
use Rattle.mama_edge.specs.Decimal.{decimal}

-- the words of an order
abbrev pub order_words : OrderWord → List (List ℕ)
order_words (Stop id) = codes "stop" ∷ id_text 115 id ∷ []
order_words (Disarm id) = codes "disarm" ∷ id_text 116 id ∷ []
order_words (Close id) = codes "close" ∷ id_text 105 id ∷ []
order_words (Ask id topic fids) = codes "ask" ∷ id_text 105 id ∷ decimal topic ∷ map decimal fids

-- an id with both numbers below 2 ^ 64
pub record IsId (id : IdWord) : Type 0 where
  pub client : id.client < 2 ^ 64
  pub number : id.number < 2 ^ 64

-- fids below 2 ^ 16
abbrev pub are_small : List ℕ → Bool
are_small [] = true
are_small (f ∷ fs) = nat_lt f (2 ^ 16) && are_small fs

-- an order as its type has it
abbrev pub IsOrder : OrderWord → Type 0
IsOrder (Stop id) = IsId id
IsOrder (Disarm id) = IsId id
IsOrder (Close id) = IsId id
IsOrder (Ask id topic fids) = IsId id × (topic < 2 ^ 64) × (is_fid_list fids ≡ true) × (are_small fids ≡ true)

-- the kind of order that begins with this word
unfoldable pub order_kind_in : List ℕ → Option OrderKind
order_kind_in word =
    if bytes_eq word (codes "stop") then Some kinds.Stop
    else (if bytes_eq word (codes "disarm") then Some kinds.Disarm
    else (if bytes_eq word (codes "close") then Some kinds.Close
    else (if bytes_eq word (codes "ask") then Some kinds.Ask else None)))

abbrev pub cons_fid : ℕ → Option (List ℕ) → Option (List ℕ)
cons_fid f None = None
cons_fid f (Some fs) = Some (f ∷ fs)

-- the fids that the words spell, each from 1
abbrev pub fids_in : List (List ℕ) → Option (List ℕ)
fids_in [] = Some []
fids_in (w ∷ ws) = option_and_then (λ f. cons_fid f (fids_in ws)) (between_in 1 65535 w)

-- fids that can be asked for
abbrev pub asked_or_fault : List ℕ → Result (List ℕ) ℕ
asked_or_fault fids = if is_fid_list fids then Ok fids else Err 8

-- the fids that the words spell, if they can be asked for
unfoldable pub asked_in : List (List ℕ) → Result (List ℕ) ℕ
asked_in words = or_fault 5 (fids_in words) >>= asked_or_fault

unfoldable pub ask_in : List ℕ → List ℕ → List (List ℕ) → Result OrderWord ℕ
ask_in inbox topic words = do
  id ← or_fault 5 (id_in 105 inbox)
  number ← or_fault 5 (number_in topic)
  fids ← asked_in words
  Ok (Ask id number fids)

-- an order has the words of its form: one id, or an inbox, a topic and 1 to 8 fids
unfoldable pub order_of : OrderKind → List (List ℕ) → Result OrderWord ℕ
order_of kinds.Stop (id ∷ []) = or_fault 5 (id_in 115 id) >>= λ id. Ok (Stop id)
order_of kinds.Disarm (id ∷ []) = or_fault 5 (id_in 116 id) >>= λ id. Ok (Disarm id)
order_of kinds.Close (id ∷ []) = or_fault 5 (id_in 105 id) >>= λ id. Ok (Close id)
order_of kinds.Ask (inbox ∷ topic ∷ fid ∷ fids) = if nat_lt (length fids) 8 then ask_in inbox topic (fid ∷ fids) else Err 4
order_of kind words = Err 4

-- the order that the words spell
unfoldable pub order_in : List (List ℕ) → Result OrderWord ℕ
order_in [] = Err 4
order_in (head ∷ words) = or_fault 4 (order_kind_in head) >>= λ kind. order_of kind words

-- an order, as a text names it
abbrev pub ask_word : InboxId → ℕ → List ℕ → OrderWord
ask_word id topic fids = Ask (inbox_word id) topic fids

abbrev pub word_of : Order → OrderWord
word_of (orders.Stop id) = Stop (sub_word id)
word_of (orders.Disarm id) = Disarm (timer_word id)
word_of (orders.Close id) = Close (inbox_word id)
word_of (orders.Ask id topic fids) = ask_word id topic fids

-- a number behind a space
abbrev pub spaced_number : ℕ → List ℕ
spaced_number n = 32 ∷ decimal n

-- the spelling of an order: its words with one space between them
abbrev pub order_text : OrderWord → List ℕ
order_text (Stop id) = codes "stop " ++ id_text 115 id
order_text (Disarm id) = codes "disarm " ++ id_text 116 id
order_text (Close id) = codes "close " ++ id_text 105 id
order_text (Ask id topic fids) = codes "ask " ++ (id_text 105 id ++ (spaced_number topic ++ flat_map spaced_number fids))
