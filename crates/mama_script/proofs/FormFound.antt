-- What is read as a line is so spelled.
use Rattle.std.proofs.Common.{◌≡◌, ℕ, ◌≤◌, true, false, cond, List, [], ◌∷◌, length, map, Option, Some, None, Ok, Err, refl, sym, ap, subst, ◌∙◌, inl, inr, arith}
use Rattle.std.specs.Prelude.{◌==◌, option_map, codes}
use Rattle.std.specs.Str.{bytes_eq}
use Rattle.std.specs.List.{AllByRecursion}
use Rattle.std.proofs.lemmas.Bool.{ne_eqb}
use Rattle.mama_edge.specs.Decimal.{decimal}
use Rattle.mama_link.specs.declared.faults.Fault.{Fault}
use Rattle.mama_link.specs.declared.faults.Fault.TheVariants.{Lose, Dup, Hold, Cut}
use Rattle.mama_words.specs.declared.order.OrderWord.{OrderWord}
use Rattle.mama_words.specs.declared.order.OrderWord.TheVariants as orders
use Rattle.mama_words.specs.Reading.{◌>>=◌, or_fault, both}
use Rattle.mama_words.specs.Parting.{parted_in}
use Rattle.mama_words.specs.Number.{number_in, between_in}
use Rattle.mama_words.specs.Kind.{sub_kind_in, sub_kind_text, strategy_in}
use Rattle.mama_words.specs.declared.version.Version.{Version}
use Rattle.mama_words.specs.declared.version.Version.TheVariants as version
use Rattle.mama_words.specs.declared.id.IdWord.{IdWord}
use Rattle.mama_words.specs.Id.{id_text, id_in}
use Rattle.mama_words.specs.Value.{text_in, nums_of}
use Rattle.mama_words.specs.Field.{message_in}
use Rattle.mama_words.specs.Order.{order_in, order_words, IsId}
use Rattle.mama_words.specs.Sentence.{sentence}
use Rattle.mama_words.proofs.Choices.{some_is, ok_is, chosen, chosen_some, guard_bad, guard_step, bind_ok, or_fault_ok, step_ok, both_ok, map_some, and_then_some, same_text}
use Rattle.mama_words.proofs.Numbers.{number_in_found}
use Rattle.mama_words.proofs.KindLaws.{sub_kind_found, strategy_found}
use Rattle.mama_words.proofs.ValueLaws.{text_found}
use Rattle.mama_words.proofs.FieldLaws.{message_found}
use Rattle.mama_words.proofs.IdLaws.{id_found}
use Rattle.mama_words.proofs.OrderLaws.{order_found}
use Rattle.mama_words.proofs.Sentences.{parted_found}
use Rattle.mama_script.specs.declared.head.Head.{Head}
use Rattle.mama_script.specs.declared.head.Head.TheVariants as heads
use Rattle.mama_script.specs.declared.head.Place.{Place}
use Rattle.mama_script.specs.declared.line.QueueName.{QueueName}
use Rattle.mama_script.specs.declared.line.QueueName.TheVariants.{Number, Any}
use Rattle.mama_script.specs.declared.line.Line.{Line}
use Rattle.mama_script.specs.declared.line.Line.TheVariants as lines
use Rattle.mama_script.specs.Head.{head_in, allows, knows}
use Rattle.mama_script.specs.HeadText.{head_text}
use Rattle.mama_script.specs.Line.{queue_text, line_words, line_text, head_of, head_of_order, IsQueueName, IsLine}
use Rattle.mama_script.specs.Form.{queue_in, count_in, strategy_line_in, queues_in, topic_or_fault, topic_in, publisher_in, update_in, alone_in, pause_in, sub_in, timer_in, inbox_in, short_fault_in, hold_in, cut_in, long_fault_in, fault_in, at_in, order_line_in, now_in, cons_id, subs_in, group_in, watch_in, body_in, head_at, form_in}
use Rattle.mama_script.proofs.Heads.{head_again, head_at_found, between_found}

-- a line with this head, whose other words are these
pub record Spelled (v : Version) (head : Head) (rest : List (List ℕ)) (l : Line) : Type 0 where
  pub fits : IsLine v l
  pub head_is : head_of l ≡ head
  pub words_are : head_text head ∷ rest ≡ line_words l

abbrev option_number : Option ℕ → Option QueueName
option_number o = option_map (λ (n : ℕ). Number n) o

queue_found : (word : List ℕ) (q : QueueName) → queue_in word ≡ Some q → IsQueueName q × (word ≡ queue_text q)
unfolding queue_in
queue_found word q e =
    elim (chosen (bytes_eq word (codes "any")) (Some Any) (option_number (number_in word)) (Some q) e) [
      | inl p ↦ subst (λ (x : QueueName). IsQueueName x × (word ≡ queue_text x)) (some_is Any q p.1) (tt, same_text word (codes "any") p.0)
      | inr p ↦
          let m = map_some (λ (n : ℕ). Number n) (number_in word) q p.1 in
          let n = number_in_found word m.0 m.1 in
          subst (λ (x : QueueName). IsQueueName x × (word ≡ queue_text x)) m.2 (n.0, n.1)
    ]

strategy_line_found : (v : Version) (rest : List (List ℕ)) (l : Line) → strategy_line_in (head_text heads.Strategy ∷ rest) ≡ Ok l → Spelled v heads.Strategy rest l
unfolding strategy_line_in
strategy_line_found v [] l e = absurd cc
strategy_line_found v (w ∷ []) l e =
    let p = step_ok 5 (strategy_in w) _ l e in
    subst (λ (x : Line). Spelled v heads.Strategy (w ∷ []) x) (ok_is (lines.Strategy p.0) l p.2)
    (record { fits = tt; head_is = refl; words_are = ap (λ (x : List ℕ). codes "strategy" ∷ x ∷ []) (strategy_found w p.0 p.1) })
strategy_line_found v (a ∷ b ∷ ws) l e = absurd cc

queues_found : (v : Version) (rest : List (List ℕ)) (l : Line) → queues_in (head_text heads.Queues ∷ rest) ≡ Ok l → Spelled v heads.Queues rest l
unfolding queues_in
queues_found v [] l e = absurd cc
queues_found v (w ∷ []) l e =
    let p = step_ok 5 (between_in 1 18446744073709551615 w) _ l e in
    let f = between_found 1 18446744073709551615 w p.0 p.1 in
    subst (λ (x : Line). Spelled v heads.Queues (w ∷ []) x) (ok_is (lines.Queues p.0) l p.2)
    (record { fits = (f.low, f.small); head_is = refl; words_are = ap (λ (x : List ℕ). codes "queues" ∷ x ∷ []) f.text_is })
queues_found v (a ∷ b ∷ ws) l e = absurd cc

topic_found : (v : Version) (rest : List (List ℕ)) (l : Line) → topic_in (head_text heads.Topic ∷ rest) ≡ Ok l → Spelled v heads.Topic rest l
unfolding topic_in
topic_found v [] l e = absurd cc
topic_found v (w ∷ []) l e =
    let p = step_ok 6 (text_in w) topic_or_fault l e in
    let q = guard_bad (length p.0 == 0) 6 (lines.Topic p.0) l p.2 in
    let f = text_found w p.0 p.1 in
    subst (λ (x : Line). Spelled v heads.Topic (w ∷ []) x) q.1
    (record { fits = (f.0, q.0); head_is = refl; words_are = ap (λ (x : List ℕ). codes "topic" ∷ x ∷ []) f.1 })
topic_found v (a ∷ b ∷ ws) l e = absurd cc

publisher_found : (v : Version) (rest : List (List ℕ)) (l : Line) → publisher_in v (head_text heads.Publisher ∷ rest) ≡ Ok l → Spelled v heads.Publisher rest l
unfolding publisher_in
publisher_found v [] l e = absurd cc
publisher_found v (t ∷ fields) l e =
    let p = step_ok 5 (number_in t) _ l e in
    let q = bind_ok (message_in (nums_of v) fields) _ l p.2 in
    let n = number_in_found t p.0 p.1 in
    let m = message_found (nums_of v) fields q.0 q.1 in
    subst (λ (x : Line). Spelled v heads.Publisher (t ∷ fields) x) (ok_is (lines.Publisher p.0 q.0) l q.2)
    (record { fits = (n.0, m.0); head_is = refl; words_are = ap (λ (x : List ℕ). codes "publisher" ∷ x ∷ fields) n.1 ∙ ap (λ (x : List (List ℕ)). codes "publisher" ∷ decimal p.0 ∷ x) m.1 })

update_found : (v : Version) (rest : List (List ℕ)) (l : Line) → update_in v (head_text heads.Update ∷ rest) ≡ Ok l → Spelled v heads.Update rest l
unfolding update_in
update_found v fields l e =
    let q = bind_ok (message_in (nums_of v) fields) _ l e in
    let m = message_found (nums_of v) fields q.0 q.1 in
    subst (λ (x : Line). Spelled v heads.Update fields x) (ok_is (lines.Update q.0) l q.2)
    (record { fits = m.0; head_is = refl; words_are = ap (λ (x : List (List ℕ)). codes "update" ∷ x) m.1 })

recap_found : (v : Version) (rest : List (List ℕ)) (l : Line) → alone_in lines.Recap (head_text heads.Recap ∷ rest) ≡ Ok l → Spelled v heads.Recap rest l
unfolding alone_in
recap_found v [] l e = subst (λ (x : Line). Spelled v heads.Recap [] x) (ok_is lines.Recap l e) (record { fits = tt; head_is = refl; words_are = refl })
recap_found v (a ∷ ws) l e = absurd cc

client_found : (v : Version) (rest : List (List ℕ)) (l : Line) → alone_in lines.Client (head_text heads.Client ∷ rest) ≡ Ok l → Spelled v heads.Client rest l
unfolding alone_in
client_found v [] l e = subst (λ (x : Line). Spelled v heads.Client [] x) (ok_is lines.Client l e) (record { fits = tt; head_is = refl; words_are = refl })
client_found v (a ∷ ws) l e = absurd cc

pause_found : (v : Version) (rest : List (List ℕ)) (l : Line) → pause_in (head_text heads.Pause ∷ rest) ≡ Ok l → Spelled v heads.Pause rest l
unfolding pause_in
pause_found v [] l e = absurd cc
pause_found v (w ∷ []) l e =
    let p = step_ok 5 (between_in 1 1000000 w) _ l e in
    let f = between_found 1 1000000 w p.0 p.1 in
    subst (λ (x : Line). Spelled v heads.Pause (w ∷ []) x) (ok_is (lines.Pause p.0) l p.2)
    (record { fits = (f.low, f.high); head_is = refl; words_are = ap (λ (x : List ℕ). codes "pause" ∷ x ∷ []) f.text_is })
pause_found v (a ∷ b ∷ ws) l e = absurd cc

same_five : (h a b c d e f g i j k : List ℕ) → a ≡ b → c ≡ d → e ≡ f → g ≡ i → j ≡ k → h ∷ a ∷ c ∷ e ∷ g ∷ j ∷ [] ≡ h ∷ b ∷ d ∷ f ∷ i ∷ k ∷ []
same_five h a b c d e f g i j k p q r s t = cc

sub_found : (v : Version) (rest : List (List ℕ)) (l : Line) → sub_in (head_text heads.Sub ∷ rest) ≡ Ok l → Spelled v heads.Sub rest l
unfolding sub_in
sub_found v [] l e = absurd cc
sub_found v (a ∷ []) l e = absurd cc
sub_found v (a ∷ b ∷ []) l e = absurd cc
sub_found v (a ∷ b ∷ c ∷ []) l e = absurd cc
sub_found v (a ∷ b ∷ c ∷ d ∷ []) l e = absurd cc
sub_found v (topic ∷ kind ∷ queue ∷ cache ∷ recaps ∷ []) l e =
    let k = step_ok 4 (sub_kind_in kind) _ l e in
    let t = step_ok 5 (number_in topic) _ l k.2 in
    let q = step_ok 5 (queue_in queue) _ l t.2 in
    let c = step_ok 5 (between_in 0 4096 cache) _ l q.2 in
    let r = step_ok 5 (between_in 0 1000000 recaps) _ l c.2 in
    let kind_is = sub_kind_found kind k.0 k.1 in
    let topic_is = number_in_found topic t.0 t.1 in
    let queue_is = queue_found queue q.0 q.1 in
    let cache_is = between_found 0 4096 cache c.0 c.1 in
    let recaps_is = between_found 0 1000000 recaps r.0 r.1 in
    let made : Line = lines.Sub t.0 k.0 q.0 c.0 r.0 in
    let same : head_text heads.Sub ∷ topic ∷ kind ∷ queue ∷ cache ∷ recaps ∷ [] ≡ line_words made = same_five (codes "sub") topic (decimal t.0) kind (sub_kind_text k.0) queue (queue_text q.0) cache (decimal c.0) recaps (decimal r.0) topic_is.1 kind_is queue_is.1 cache_is.text_is recaps_is.text_is in
    subst (λ (x : Line). Spelled v heads.Sub (topic ∷ kind ∷ queue ∷ cache ∷ recaps ∷ []) x) (ok_is made l r.2)
    (record { fits = (topic_is.0, queue_is.0, cache_is.high, recaps_is.high); head_is = refl; words_are = same })
sub_found v (a ∷ b ∷ c ∷ d ∷ f ∷ g ∷ ws) l e = absurd cc

same_two : (h a b c d : List ℕ) → a ≡ b → c ≡ d → h ∷ a ∷ c ∷ [] ≡ h ∷ b ∷ d ∷ []
same_two h a b c d p q = cc

timer_found : (v : Version) (rest : List (List ℕ)) (l : Line) → timer_in (head_text heads.Timer ∷ rest) ≡ Ok l → Spelled v heads.Timer rest l
unfolding timer_in
timer_found v [] l e = absurd cc
timer_found v (a ∷ []) l e = absurd cc
timer_found v (queue ∷ interval ∷ []) l e =
    let q = step_ok 5 (queue_in queue) _ l e in
    let i = step_ok 5 (between_in 0 4294967295 interval) _ l q.2 in
    let queue_is = queue_found queue q.0 q.1 in
    let interval_is = between_found 0 4294967295 interval i.0 i.1 in
    subst (λ (x : Line). Spelled v heads.Timer (queue ∷ interval ∷ []) x) (ok_is (lines.Timer q.0 i.0) l i.2)
    (record { fits = (queue_is.0, interval_is.high); head_is = refl; words_are = same_two (codes "timer") queue (queue_text q.0) interval (decimal i.0) queue_is.1 interval_is.text_is })
timer_found v (a ∷ b ∷ c ∷ ws) l e = absurd cc

inbox_found : (v : Version) (rest : List (List ℕ)) (l : Line) → inbox_in (head_text heads.Inbox ∷ rest) ≡ Ok l → Spelled v heads.Inbox rest l
unfolding inbox_in
inbox_found v [] l e = absurd cc
inbox_found v (queue ∷ []) l e =
    let q = step_ok 5 (queue_in queue) _ l e in
    let queue_is = queue_found queue q.0 q.1 in
    subst (λ (x : Line). Spelled v heads.Inbox (queue ∷ []) x) (ok_is (lines.Inbox q.0) l q.2)
    (record { fits = queue_is.0; head_is = refl; words_are = ap (λ (x : List ℕ). codes "inbox" ∷ x ∷ []) queue_is.1 })
inbox_found v (a ∷ b ∷ ws) l e = absurd cc

-- the word of a fault of two words
abbrev short_text : Fault → List ℕ
short_text Lose = codes "lose"
short_text Dup = codes "dup"
short_text (Hold by) = []
short_text (Cut keep) = []

-- such a fault
abbrev IsShort : Fault → Type 0
IsShort Lose = Unit {0}
IsShort Dup = Unit {0}
IsShort (Hold by) = ⊥
IsShort (Cut keep) = ⊥

short_found : (word : List ℕ) (fault : Fault) → short_fault_in word ≡ Some fault → IsShort fault × (word ≡ short_text fault)
unfolding short_fault_in
short_found word fault e =
    elim (chosen (bytes_eq word (codes "lose")) (Some Lose) (cond (bytes_eq word (codes "dup")) (Some Dup) None) (Some fault) e) [
      | inl p ↦ subst (λ (x : Fault). IsShort x × (word ≡ short_text x)) (some_is Lose fault p.1) (tt, same_text word (codes "lose") p.0)
      | inr p ↦
          let q = chosen_some (bytes_eq word (codes "dup")) Dup fault p.1 in
          subst (λ (x : Fault). IsShort x × (word ≡ short_text x)) q.1 (tt, same_text word (codes "dup") q.0)
    ]

short_row : (v : Version) (word index : List ℕ) (fault : Fault) (i : ℕ) → IsShort fault → word ≡ short_text fault → index ≡ decimal i → 1 ≤ i → i ≤ 4294967295 → Spelled v heads.Fault (word ∷ index ∷ []) (lines.Fault (record { index = i; fault = fault }))
short_row v word index Lose i short w n low high = record { fits = (low, high, tt); head_is = refl; words_are = same_two (codes "fault") word (codes "lose") index (decimal i) w n }
short_row v word index Dup i short w n low high = record { fits = (low, high, tt); head_is = refl; words_are = same_two (codes "fault") word (codes "dup") index (decimal i) w n }
short_row v word index (Hold by) i short w n low high = absurd short
short_row v word index (Cut keep) i short w n low high = absurd short

same_three : (h a b c d e f : List ℕ) → a ≡ b → c ≡ d → e ≡ f → h ∷ a ∷ c ∷ e ∷ [] ≡ h ∷ b ∷ d ∷ f ∷ []
same_three h a b c d e f p q r = cc

hold_found : (v : Version) (word index by : List ℕ) (l : Line) → word ≡ codes "hold" → hold_in index by ≡ Ok l → Spelled v heads.Fault (word ∷ index ∷ by ∷ []) l
unfolding hold_in
hold_found v word index by l w e =
    let i = step_ok 5 (count_in index) _ l e in
    let b = step_ok 5 (count_in by) _ l i.2 in
    let index_is = between_found 1 4294967295 index i.0 i.1 in
    let by_is = between_found 1 4294967295 by b.0 b.1 in
    subst (λ (x : Line). Spelled v heads.Fault (word ∷ index ∷ by ∷ []) x) (ok_is (lines.Fault (record { index = i.0; fault = Hold b.0 })) l b.2)
    (record { fits = (index_is.low, index_is.high, (by_is.low, by_is.high)); head_is = refl; words_are = same_three (codes "fault") word (codes "hold") index (decimal i.0) by (decimal b.0) w index_is.text_is by_is.text_is })

cut_found : (v : Version) (word index keep : List ℕ) (l : Line) → word ≡ codes "cut" → cut_in index keep ≡ Ok l → Spelled v heads.Fault (word ∷ index ∷ keep ∷ []) l
unfolding cut_in
cut_found v word index keep l w e =
    let i = step_ok 5 (count_in index) _ l e in
    let b = step_ok 5 (between_in 0 65535 keep) _ l i.2 in
    let index_is = between_found 1 4294967295 index i.0 i.1 in
    let keep_is = between_found 0 65535 keep b.0 b.1 in
    subst (λ (x : Line). Spelled v heads.Fault (word ∷ index ∷ keep ∷ []) x) (ok_is (lines.Fault (record { index = i.0; fault = Cut b.0 })) l b.2)
    (record { fits = (index_is.low, index_is.high, keep_is.high); head_is = refl; words_are = same_three (codes "fault") word (codes "cut") index (decimal i.0) keep (decimal b.0) w index_is.text_is keep_is.text_is })

long_found : (v : Version) (word index number : List ℕ) (l : Line) → long_fault_in word index number ≡ Ok l → Spelled v heads.Fault (word ∷ index ∷ number ∷ []) l
unfolding long_fault_in
long_found v word index number l e =
    elim (chosen (bytes_eq word (codes "hold")) (hold_in index number) (cond (bytes_eq word (codes "cut")) (cut_in index number) (Err 4)) (Ok l) e) [
      | inl p ↦ hold_found v word index number l (same_text word (codes "hold") p.0) p.1
      | inr p ↦
          let q = guard_step (bytes_eq word (codes "cut")) 4 (cut_in index number) l p.1 in
          cut_found v word index number l (same_text word (codes "cut") q.0) q.1
    ]

fault_found : (v : Version) (rest : List (List ℕ)) (l : Line) → fault_in (head_text heads.Fault ∷ rest) ≡ Ok l → Spelled v heads.Fault rest l
unfolding fault_in
fault_found v [] l e = absurd cc
fault_found v (a ∷ []) l e = absurd cc
fault_found v (word ∷ index ∷ []) l e =
    let f = step_ok 4 (short_fault_in word) _ l e in
    let i = step_ok 5 (count_in index) _ l f.2 in
    let fault_is = short_found word f.0 f.1 in
    let index_is = between_found 1 4294967295 index i.0 i.1 in
    subst (λ (x : Line). Spelled v heads.Fault (word ∷ index ∷ []) x) (ok_is (lines.Fault (record { index = i.0; fault = f.0 })) l i.2)
    (short_row v word index f.0 i.0 fault_is.0 fault_is.1 index_is.text_is index_is.low index_is.high)
fault_found v (word ∷ index ∷ by ∷ []) l e =
    long_found v word index by l e
fault_found v (a ∷ b ∷ c ∷ d ∷ ws) l e = absurd cc

at_found : (v : Version) (rest : List (List ℕ)) (l : Line) → at_in (head_text heads.At ∷ rest) ≡ Ok l → Spelled v heads.At rest l
unfolding at_in
at_found v [] l e = absurd cc
at_found v (call ∷ order) l e =
    let p = bind_ok (both (or_fault 5 (count_in call)) (order_in order)) _ l e in
    let q = both_ok (or_fault 5 (count_in call)) (order_in order) p.0 p.1 in
    let call_is = between_found 1 4294967295 call p.0.0 (or_fault_ok 5 (count_in call) p.0.0 q.0) in
    let order_is = order_found order p.0.1 q.1 in
    subst (λ (x : Line). Spelled v heads.At (call ∷ order) x) (ok_is (lines.At p.0.0 p.0.1) l p.2)
    (record { fits = (call_is.low, call_is.high, order_is.0); head_is = refl; words_are = ap (λ (x : List ℕ). codes "at" ∷ x ∷ order) call_is.text_is ∙ ap (λ (x : List (List ℕ)). codes "at" ∷ decimal p.0.0 ∷ x) order_is.1 })

now_found : (v : Version) (rest : List (List ℕ)) (l : Line) → now_in (head_text heads.Now ∷ rest) ≡ Ok l → Spelled v heads.Now rest l
unfolding now_in
now_found v [] l e = absurd cc
now_found v (w ∷ []) l e =
    elim (chosen (bytes_eq w (codes "clock")) (Ok lines.NowClock) (or_fault 5 (between_in 0 9223372036854775807 w) >>= λ moment. Ok (lines.Now moment)) (Ok l) e) [
      | inl p ↦ subst (λ (x : Line). Spelled v heads.Now (w ∷ []) x) (ok_is lines.NowClock l p.1) (record { fits = tt; head_is = refl; words_are = ap (λ (x : List ℕ). codes "now" ∷ x ∷ []) (same_text w (codes "clock") p.0) })
      | inr p ↦
          let q = step_ok 5 (between_in 0 9223372036854775807 w) _ l p.1 in
          let f = between_found 0 9223372036854775807 w q.0 q.1 in
          subst (λ (x : Line). Spelled v heads.Now (w ∷ []) x) (ok_is (lines.Now q.0) l q.2) (record { fits = f.high; head_is = refl; words_are = ap (λ (x : List ℕ). codes "now" ∷ x ∷ []) f.text_is })
    ]
now_found v (a ∷ b ∷ ws) l e = absurd cc

-- an order whose words begin with the word of a head has that head
order_head : (o : OrderWord) (head : Head) (rest : List (List ℕ)) → head_text head ∷ rest ≡ order_words o → head_text head ≡ head_text (head_of_order o)
order_head (orders.Stop id) head rest e = cc
order_head (orders.Disarm id) head rest e = cc
order_head (orders.Close id) head rest e = cc
order_head (orders.Ask id topic fids) head rest e = cc

same_head : (a b : Head) → head_text a ≡ head_text b → a ≡ b
same_head a b e = some_is a b (sym (head_again a) ∙ ap head_in e ∙ head_again b)

order_line_found : (v : Version) (head : Head) (rest : List (List ℕ)) (l : Line) → order_line_in (head_text head ∷ rest) ≡ Ok l → Spelled v head rest l
order_line_found v head rest l e =
    let p = bind_ok (order_in (head_text head ∷ rest)) _ l e in
    let f = order_found (head_text head ∷ rest) p.0 p.1 in
    let same : head_of_order p.0 ≡ head = sym (same_head head (head_of_order p.0) (order_head p.0 head rest f.1)) in
    subst (λ (x : Line). Spelled v head rest x) (ok_is (lines.Order p.0) l p.2) (record { fits = f.0; head_is = same; words_are = f.1 })

-- what only version 2 knows is of version 2
group_is_known : (v : Version) → knows v heads.Group ≡ true → v ≡ version.Two
group_is_known version.One e = absurd cc
group_is_known version.Two e = refl

watch_is_known : (v : Version) → knows v heads.Watch ≡ true → v ≡ version.Two
watch_is_known version.One e = absurd cc
watch_is_known version.Two e = refl

cons_is : (id : IdWord) (o : Option (List IdWord)) (ids : List IdWord) → cons_id id o ≡ Some ids → (rest : List IdWord) × (o ≡ Some rest) × (id ∷ rest ≡ ids)
cons_is id None ids e = absurd cc
cons_is id (Some rest) ids e = (rest, refl, some_is (id ∷ rest) ids e)

subs_found : (ws : List (List ℕ)) (ids : List IdWord) → subs_in ws ≡ Some ids → AllByRecursion IsId ids × (ws ≡ map (id_text 115) ids)
subs_found [] ids e = subst (λ (x : List IdWord). AllByRecursion IsId x × ([] ≡ map (id_text 115) x)) (some_is [] ids e) (tt, refl)
subs_found (w ∷ ws) ids e =
    let p = and_then_some (λ id. cons_id id (subs_in ws)) (id_in 115 w) ids e in
    let q = cons_is p.0 (subs_in ws) ids p.2 in
    let f = id_found 115 w p.0 p.1 in
    let more = subs_found ws q.0 q.1 in
    subst (λ (x : List IdWord). AllByRecursion IsId x × (w ∷ ws ≡ map (id_text 115) x)) q.2
    ((f.0, more.0), ap (λ (x : List ℕ). x ∷ ws) f.1 ∙ ap (λ (x : List (List ℕ)). id_text 115 p.0 ∷ x) more.1)

-- the words of a member and more give an id and more
some_ids : (w : List ℕ) (ws : List (List ℕ)) (ids : List IdWord) → w ∷ ws ≡ map (id_text 115) ids → (length ids == 0) ≡ false
some_ids w ws [] e = absurd cc
some_ids w ws (id ∷ ids) e = ne_eqb (length (id ∷ ids)) 0 (λ z. omega (arith, z))

group_found : (v : Version) → knows v heads.Group ≡ true → (rest : List (List ℕ)) (l : Line) → group_in (head_text heads.Group ∷ rest) ≡ Ok l → Spelled v heads.Group rest l
unfolding group_in
group_found v known [] l e = absurd cc
group_found v known (w ∷ ws) l e =
    let p = step_ok 5 (subs_in (w ∷ ws)) _ l e in
    let f = subs_found (w ∷ ws) p.0 p.1 in
    subst (λ (x : Line). Spelled v heads.Group (w ∷ ws) x) (ok_is (lines.Group p.0) l p.2)
    (record { fits = (group_is_known v known, some_ids w ws p.0 f.1, f.0); head_is = refl; words_are = ap (λ (x : List (List ℕ)). codes "group" ∷ x) f.1 })

watch_found : (v : Version) → knows v heads.Watch ≡ true → (rest : List (List ℕ)) (l : Line) → watch_in (head_text heads.Watch ∷ rest) ≡ Ok l → Spelled v heads.Watch rest l
unfolding watch_in
watch_found v known [] l e = absurd cc
watch_found v known (a ∷ []) l e = absurd cc
watch_found v known (a ∷ b ∷ []) l e = absurd cc
watch_found v known (sub ∷ timer ∷ retries ∷ []) l e =
    let s = step_ok 5 (id_in 115 sub) _ l e in
    let t = step_ok 5 (id_in 116 timer) _ l s.2 in
    let r = step_ok 5 (between_in 0 1000 retries) _ l t.2 in
    let sub_is = id_found 115 sub s.0 s.1 in
    let timer_is = id_found 116 timer t.0 t.1 in
    let retries_is = between_found 0 1000 retries r.0 r.1 in
    subst (λ (x : Line). Spelled v heads.Watch (sub ∷ timer ∷ retries ∷ []) x) (ok_is (lines.Watch s.0 t.0 r.0) l r.2)
    (record {
      fits = (watch_is_known v known, sub_is.0, timer_is.0, retries_is.high);
      head_is = refl;
      words_are = same_three (codes "watch") sub (id_text 115 s.0) timer (id_text 116 t.0) retries (decimal r.0) sub_is.1 timer_is.1 retries_is.text_is;
    })
watch_found v known (a ∷ b ∷ c ∷ d ∷ ws) l e = absurd cc

body_found : (v : Version) (head : Head) → knows v head ≡ true → (rest : List (List ℕ)) (l : Line) → body_in v head (head_text head ∷ rest) ≡ Ok l → Spelled v head rest l
body_found v heads.Strategy known rest l e = strategy_line_found v rest l e
body_found v heads.Queues known rest l e = queues_found v rest l e
body_found v heads.Topic known rest l e = topic_found v rest l e
body_found v heads.Publisher known rest l e = publisher_found v rest l e
body_found v heads.Update known rest l e = update_found v rest l e
body_found v heads.Recap known rest l e = recap_found v rest l e
body_found v heads.Pause known rest l e = pause_found v rest l e
body_found v heads.Client known rest l e = client_found v rest l e
body_found v heads.Sub known rest l e = sub_found v rest l e
body_found v heads.Timer known rest l e = timer_found v rest l e
body_found v heads.Inbox known rest l e = inbox_found v rest l e
body_found v heads.Fault known rest l e = fault_found v rest l e
body_found v heads.At known rest l e = at_found v rest l e
body_found v heads.Stop known rest l e = order_line_found v heads.Stop rest l e
body_found v heads.Disarm known rest l e = order_line_found v heads.Disarm rest l e
body_found v heads.Close known rest l e = order_line_found v heads.Close rest l e
body_found v heads.Ask known rest l e = order_line_found v heads.Ask rest l e
body_found v heads.Now known rest l e = now_found v rest l e
body_found v heads.Group known rest l e = group_found v known rest l e
body_found v heads.Watch known rest l e = watch_found v known rest l e

-- a line that is read at a place
pub record IsRead (v : Version) (place : Place) (text : List ℕ) (l : Line) : Type 0 where
  pub fits : IsLine v l
  pub stands : allows place (head_of l) ≡ true
  pub text_is : text ≡ line_text l

pub form_found : (v : Version) (place : Place) (text : List ℕ) (l : Line) → form_in v place text ≡ Ok l → IsRead v place text l
unfolding form_in
form_found v place text l e =
    let w = step_ok 2 (parted_in text) _ l e in
    let h = step_ok 3 (head_at v place w.0) _ l w.2 in
    let b = head_at_found v place w.0 h.0 h.1 in
    let body : body_in v h.0 (head_text h.0 ∷ b.rest) ≡ Ok l = sym (ap (body_in v h.0) b.words_are) ∙ h.2 in
    let s = body_found v h.0 b.known b.rest l body in
    record {
      fits = s.fits;
      stands = ap (allows place) s.head_is ∙ b.stands;
      text_is = parted_found text w.0 w.1 ∙ ap sentence (b.words_are ∙ s.words_are);
    }
