-- What is spelled as a line is read again.
use Rattle.std.proofs.Common.{◌≡◌, ℕ, ◌<◌, ◌≤◌, ◌^◌, true, false, List, [], ◌∷◌, length, map, Some, Result, Ok, refl, sym, ap, subst, ◌∙◌, arith}
use Rattle.std.specs.Prelude.{◌==◌, codes, not}
use Rattle.std.specs.List.{list_all, AllByRecursion}
use Rattle.mama_edge.specs.Decimal.{decimal}
use Rattle.mama_edge.specs.Quoted.{quoted}
use Rattle.mama_msg.specs.Value.{IsText}
use Rattle.mama_event.specs.declared.shape.Strategy.{Strategy}
use Rattle.mama_words.specs.Kind.{strategy_text}
use Rattle.mama_link.specs.declared.faults.Fault.{Fault}
use Rattle.mama_link.specs.declared.faults.Fault.TheVariants.{Lose, Dup, Hold, Cut}
use Rattle.mama_words.specs.declared.order.OrderWord.{OrderWord}
use Rattle.mama_words.specs.declared.order.OrderWord.TheVariants as orders
use Rattle.mama_words.specs.Reading.{◌>>=◌}
use Rattle.mama_words.specs.Parting.{parted_in, is_empty_word}
use Rattle.mama_words.specs.Order.{order_words, IsOrder, IsId}
use Rattle.mama_words.specs.declared.id.IdWord.{IdWord}
use Rattle.mama_words.specs.Id.{id_text}
use Rattle.mama_words.specs.Sentence.{sentence}
use Rattle.mama_words.specs.WordForm.{IsWord, AreWords}
use Rattle.mama_words.proofs.Numbers.{number_in_again}
use Rattle.mama_words.proofs.Cutting.{decimal_lacks}
use Rattle.mama_words.proofs.KindLaws.{sub_kind_again, strategy_again}
use Rattle.mama_words.proofs.ValueLaws.{text_again}
use Rattle.mama_words.specs.declared.version.Version.{Version}
use Rattle.mama_words.specs.declared.version.Version.TheVariants as version
use Rattle.mama_words.specs.Value.{nums_of}
use Rattle.mama_words.proofs.FieldLaws.{message_again}
use Rattle.mama_words.proofs.IdLaws.{id_again}
use Rattle.mama_words.proofs.OrderLaws.{order_again}
use Rattle.mama_words.proofs.Sentences.{parted_again, is_simple, piece_simple}
use Rattle.mama_words.proofs.Spellings.{decimal_word, sub_kind_word, strategy_word, quoted_word, field_words, order_word, id_word}
use Rattle.mama_script.specs.declared.head.Place.{Place}
use Rattle.mama_script.specs.declared.line.QueueName.{QueueName}
use Rattle.mama_script.specs.declared.line.QueueName.TheVariants.{Number, Any}
use Rattle.mama_script.specs.declared.line.Line.{Line}
use Rattle.mama_script.specs.declared.line.Line.TheVariants as lines
use Rattle.mama_script.specs.declared.head.Head.{Head}
use Rattle.mama_script.specs.declared.head.Head.TheVariants as heads
use Rattle.mama_script.specs.Head.{allows, knows, follows_group}
use Rattle.mama_script.specs.HeadText.{head_text}
use Rattle.mama_script.specs.Line.{queue_text, fault_words, line_words, line_text, head_of, head_of_order, IsQueueName, IsFault, IsLine}
use Rattle.mama_script.specs.Form.{queue_in, strategy_line_in, queues_in, topic_in, publisher_in, update_in, alone_in, pause_in, sub_in, timer_in, inbox_in, short_fault_in, hold_in, cut_in, long_fault_in, fault_in, at_in, order_line_in, now_in, subs_in, group_in, watch_in, body_in, head_at, form_in}
use Rattle.mama_script.proofs.Heads.{head_at_again, between_again, decimal_is_no_word}

queue_again : (q : QueueName) → IsQueueName q → queue_in (queue_text q) ≡ Some q
unfolding queue_in
queue_again (Number n) small = rw (decimal_is_no_word 97 n (codes "any") (decimal_lacks 97 n refl small) refl, number_in_again n small) refl
queue_again Any h = refl

fault_again : (index : ℕ) (fault : Fault) → 1 ≤ index → index ≤ 4294967295 → IsFault fault → fault_in (codes "fault" ∷ fault_words index fault) ≡ Ok (lines.Fault (record { index = index; fault = fault }))
unfolding fault_in short_fault_in long_fault_in hold_in cut_in
fault_again index Lose low high h = rw (between_again 1 4294967295 index low high (omega (arith, high))) refl
fault_again index Dup low high h = rw (between_again 1 4294967295 index low high (omega (arith, high))) refl
fault_again index (Hold by) low high h = rw (between_again 1 4294967295 index low high (omega (arith, high)), between_again 1 4294967295 by h.0 h.1 (omega (arith, h.1))) refl
fault_again index (Cut keep) low high h = rw (between_again 1 4294967295 index low high (omega (arith, high)), between_again 0 65535 keep (omega arith) h (omega (arith, h))) refl

order_line_again : (o : OrderWord) → IsOrder o → order_line_in (order_words o) ≡ Ok (lines.Order o)
order_line_again o h = ap (λ (r : Result OrderWord ℕ). r >>= λ order. Ok (lines.Order order)) (order_again o h)

subs_again : (ids : List IdWord) → AllByRecursion IsId ids → subs_in (map (id_text 115) ids) ≡ Some ids
subs_again [] h = refl
subs_again (id ∷ ids) h = rw (id_again 115 id h.0, subs_again ids h.1) refl

group_again : (ids : List IdWord) → (length ids == 0) ≡ false → AllByRecursion IsId ids → group_in (codes "group" ∷ map (id_text 115) ids) ≡ Ok (lines.Group ids)
unfolding group_in
group_again [] some h = absurd cc
group_again (id ∷ ids) some h = rw (subs_again (id ∷ ids) h) refl

order_body_again : (v : Version) (o : OrderWord) → IsOrder o → body_in v (head_of_order o) (order_words o) ≡ Ok (lines.Order o)
order_body_again v (orders.Stop id) h = order_line_again (orders.Stop id) h
order_body_again v (orders.Disarm id) h = order_line_again (orders.Disarm id) h
order_body_again v (orders.Close id) h = order_line_again (orders.Close id) h
order_body_again v (orders.Ask id topic fids) h = order_line_again (orders.Ask id topic fids) h

strategy_line_again : (s : Strategy) → strategy_line_in (codes "strategy" ∷ strategy_text s ∷ []) ≡ Ok (lines.Strategy s)
unfolding strategy_line_in
strategy_line_again s = rw (strategy_again s) refl

queues_again : (n : ℕ) → 1 ≤ n → n < 2 ^ 64 → queues_in (codes "queues" ∷ decimal n ∷ []) ≡ Ok (lines.Queues n)
unfolding queues_in
queues_again n low high = rw (between_again 1 18446744073709551615 n low (omega (arith, high)) high) refl

topic_again : (name : List ℕ) → IsText name → (length name == 0) ≡ false → topic_in (codes "topic" ∷ quoted name ∷ []) ≡ Ok (lines.Topic name)
unfolding topic_in
topic_again name text some = rw (text_again name text, some) refl

pause_again : (n : ℕ) → 1 ≤ n → n ≤ 1000000 → pause_in (codes "pause" ∷ decimal n ∷ []) ≡ Ok (lines.Pause n)
unfolding pause_in
pause_again n low high = rw (between_again 1 1000000 n low high (omega (arith, high))) refl

now_again : (n : ℕ) → n ≤ 9223372036854775807 → now_in (codes "now" ∷ decimal n ∷ []) ≡ Ok (lines.Now n)
unfolding now_in
now_again n high =
    let small : n < 2 ^ 64 = omega (arith, high) in
    rw (decimal_is_no_word 99 n (codes "clock") (decimal_lacks 99 n refl small) refl, between_again 0 9223372036854775807 n (omega arith) high small) refl

clock_again : now_in (codes "now" ∷ codes "clock" ∷ []) ≡ Ok lines.NowClock
unfolding now_in
clock_again = refl

alone_again : (l : Line) (word : List ℕ) → alone_in l (word ∷ []) ≡ Ok l
unfolding alone_in
alone_again l word = refl

body_again : (v : Version) (l : Line) → IsLine v l → body_in v (head_of l) (line_words l) ≡ Ok l
body_again v (lines.Strategy s) h = strategy_line_again s
body_again v (lines.Queues n) h = queues_again n h.0 h.1
body_again v (lines.Topic name) h = topic_again name h.0 h.1
body_again v (lines.Publisher topic base) h = unfold publisher_in in rw (number_in_again topic h.0, message_again (nums_of v) base h.1) refl
body_again v (lines.Update update) h = unfold update_in in rw (message_again (nums_of v) update h) refl
body_again v lines.Recap h = alone_again lines.Recap (codes "recap")
body_again v (lines.Pause rounds) h = pause_again rounds h.0 h.1
body_again v lines.Client h = alone_again lines.Client (codes "client")
body_again v (lines.Sub topic kind queue cache recaps) h =
    unfold sub_in in rw (sub_kind_again kind, number_in_again topic h.0, queue_again queue h.1, between_again 0 4096 cache (omega arith) h.2 (omega (arith, h.2)), between_again 0 1000000 recaps (omega arith) h.3 (omega (arith, h.3))) refl
body_again v (lines.Timer queue interval) h = unfold timer_in in rw (queue_again queue h.0, between_again 0 4294967295 interval (omega arith) h.1 (omega (arith, h.1))) refl
body_again v (lines.Inbox queue) h = unfold inbox_in in rw (queue_again queue h) refl
body_again v (lines.Fault row) h = fault_again row.index row.fault h.0 h.1 h.2
body_again v (lines.At call order) h = unfold at_in in rw (between_again 1 4294967295 call h.0 h.1 (omega (arith, h.1)), order_again order h.2) refl
body_again v (lines.Order order) h = order_body_again v order h
body_again v (lines.Now moment) h = now_again moment h
body_again v lines.NowClock h = clock_again
body_again v (lines.Group ids) h = group_again ids h.1 h.2
body_again v (lines.Watch sub timer retries) h =
    unfold watch_in in rw (id_again 115 sub h.1, id_again 116 timer h.2, between_again 0 1000 retries (omega arith) h.3 (omega (arith, h.3))) refl

-- a word of small letters
fixed : (w : List ℕ) → list_all is_simple w ≡ true → is_empty_word w ≡ false → IsWord w
fixed w simple some = record { piece = piece_simple w simple; some = some }

queue_word : (q : QueueName) → IsQueueName q → IsWord (queue_text q)
queue_word (Number n) small = decimal_word n small
queue_word Any h = fixed (codes "any") refl refl

fault_are_words : (index : ℕ) (fault : Fault) → index ≤ 4294967295 → IsFault fault → AreWords (fault_words index fault)
fault_are_words index Lose high h = (fixed (codes "lose") refl refl, (decimal_word index (omega (arith, high)), tt))
fault_are_words index Dup high h = (fixed (codes "dup") refl refl, (decimal_word index (omega (arith, high)), tt))
fault_are_words index (Hold by) high h = (fixed (codes "hold") refl refl, (decimal_word index (omega (arith, high)), (decimal_word by (omega (arith, h.1)), tt)))
fault_are_words index (Cut keep) high h = (fixed (codes "cut") refl refl, (decimal_word index (omega (arith, high)), (decimal_word keep (omega (arith, h)), tt)))

sub_words : (ids : List IdWord) → AllByRecursion IsId ids → AreWords (map (id_text 115) ids)
sub_words [] h = tt
sub_words (id ∷ ids) h = (id_word 115 id refl h.0, sub_words ids h.1)

line_are_words : (v : Version) (l : Line) → IsLine v l → AreWords (line_words l)
line_are_words v (lines.Strategy s) h = (fixed (codes "strategy") refl refl, (strategy_word s, tt))
line_are_words v (lines.Queues n) h = (fixed (codes "queues") refl refl, (decimal_word n h.1, tt))
line_are_words v (lines.Topic name) h = (fixed (codes "topic") refl refl, (quoted_word name h.0.printable, tt))
line_are_words v (lines.Publisher topic base) h = (fixed (codes "publisher") refl refl, (decimal_word topic h.0, field_words (nums_of v) base h.1.fields))
line_are_words v (lines.Update update) h = (fixed (codes "update") refl refl, field_words (nums_of v) update h.fields)
line_are_words v lines.Recap h = (fixed (codes "recap") refl refl, tt)
line_are_words v (lines.Pause rounds) h = (fixed (codes "pause") refl refl, (decimal_word rounds (omega (arith, h.1)), tt))
line_are_words v lines.Client h = (fixed (codes "client") refl refl, tt)
line_are_words v (lines.Sub topic kind queue cache recaps) h =
    (fixed (codes "sub") refl refl, (decimal_word topic h.0, (sub_kind_word kind, (queue_word queue h.1, (decimal_word cache (omega (arith, h.2)), (decimal_word recaps (omega (arith, h.3)), tt))))))
line_are_words v (lines.Timer queue interval) h = (fixed (codes "timer") refl refl, (queue_word queue h.0, (decimal_word interval (omega (arith, h.1)), tt)))
line_are_words v (lines.Inbox queue) h = (fixed (codes "inbox") refl refl, (queue_word queue h, tt))
line_are_words v (lines.Fault row) h = (fixed (codes "fault") refl refl, fault_are_words row.index row.fault h.1 h.2)
line_are_words v (lines.At call order) h = (fixed (codes "at") refl refl, (decimal_word call (omega (arith, h.1)), order_word order h.2))
line_are_words v (lines.Order order) h = order_word order h
line_are_words v (lines.Now moment) h = (fixed (codes "now") refl refl, (decimal_word moment (omega (arith, h)), tt))
line_are_words v lines.NowClock h = (fixed (codes "now") refl refl, (fixed (codes "clock") refl refl, tt))
line_are_words v (lines.Group ids) h = (fixed (codes "group") refl refl, sub_words ids h.2)
line_are_words v (lines.Watch sub timer retries) h = (fixed (codes "watch") refl refl, (id_word 115 sub refl h.1, (id_word 116 timer refl h.2, (decimal_word retries (omega (arith, h.3)), tt))))

-- the words of a line behind its head
abbrev tail : List (List ℕ) → List (List ℕ)
tail [] = []
tail (w ∷ ws) = ws

order_begins : (o : OrderWord) → order_words o ≡ head_text (head_of_order o) ∷ tail (order_words o)
order_begins (orders.Stop id) = refl
order_begins (orders.Disarm id) = refl
order_begins (orders.Close id) = refl
order_begins (orders.Ask id topic fids) = refl

line_begins : (l : Line) → line_words l ≡ head_text (head_of l) ∷ tail (line_words l)
line_begins (lines.Strategy s) = refl
line_begins (lines.Queues n) = refl
line_begins (lines.Topic name) = refl
line_begins (lines.Publisher topic base) = refl
line_begins (lines.Update update) = refl
line_begins lines.Recap = refl
line_begins (lines.Pause rounds) = refl
line_begins lines.Client = refl
line_begins (lines.Sub topic kind queue cache recaps) = refl
line_begins (lines.Timer queue interval) = refl
line_begins (lines.Inbox queue) = refl
line_begins (lines.Fault row) = refl
line_begins (lines.At call order) = refl
line_begins (lines.Order order) = order_begins order
line_begins (lines.Now moment) = refl
line_begins lines.NowClock = refl
line_begins (lines.Group ids) = refl
line_begins (lines.Watch sub timer retries) = refl

-- the words of a line's text are the line's
pub line_parted : (v : Version) (l : Line) → IsLine v l → parted_in (line_text l) ≡ Some (line_words l)
line_parted v l h =
    let first = head_text (head_of l) in
    let rest = tail (line_words l) in
    let e = line_begins l in
    let words : AreWords (first ∷ rest) = subst (λ (ws : List (List ℕ)). AreWords ws) e (line_are_words v l h) in
    ap (λ (ws : List (List ℕ)). parted_in (sentence ws)) e ∙ parted_again first rest words ∙ ap (λ (ws : List (List ℕ)). Some ws) (sym e)

two_knows : (h : Head) → knows version.Two h ≡ true
two_knows h = refl

group_known : (v : Version) → v ≡ version.Two → (h : Head) → knows v h ≡ true
group_known v e h = subst (λ (x : Version). knows x h ≡ true) (sym e) (two_knows h)

-- what both versions know
known_by_all : (v : Version) (h : Head) → not (follows_group h) ≡ true → knows v h ≡ true
known_by_all version.One h e = e
known_by_all version.Two h e = refl

order_known : (v : Version) (o : OrderWord) → knows v (head_of_order o) ≡ true
order_known v (orders.Stop id) = known_by_all v heads.Stop refl
order_known v (orders.Disarm id) = known_by_all v heads.Disarm refl
order_known v (orders.Close id) = known_by_all v heads.Close refl
order_known v (orders.Ask id topic fids) = known_by_all v heads.Ask refl

-- the version knows its lines
pub line_known : (v : Version) (l : Line) → IsLine v l → knows v (head_of l) ≡ true
line_known v (lines.Strategy s) h = known_by_all v heads.Strategy refl
line_known v (lines.Queues n) h = known_by_all v heads.Queues refl
line_known v (lines.Topic name) h = known_by_all v heads.Topic refl
line_known v (lines.Publisher topic base) h = known_by_all v heads.Publisher refl
line_known v (lines.Update update) h = known_by_all v heads.Update refl
line_known v lines.Recap h = known_by_all v heads.Recap refl
line_known v (lines.Pause rounds) h = known_by_all v heads.Pause refl
line_known v lines.Client h = known_by_all v heads.Client refl
line_known v (lines.Sub topic kind queue cache recaps) h = known_by_all v heads.Sub refl
line_known v (lines.Timer queue interval) h = known_by_all v heads.Timer refl
line_known v (lines.Inbox queue) h = known_by_all v heads.Inbox refl
line_known v (lines.Fault row) h = known_by_all v heads.Fault refl
line_known v (lines.At call order) h = known_by_all v heads.At refl
line_known v (lines.Order order) h = order_known v order
line_known v (lines.Now moment) h = known_by_all v heads.Now refl
line_known v lines.NowClock h = known_by_all v heads.Now refl
line_known v (lines.Group ids) h = group_known v h.0 heads.Group
line_known v (lines.Watch sub timer retries) h = group_known v h.0 heads.Watch

pub form_again : (v : Version) (place : Place) (l : Line) → IsLine v l → allows place (head_of l) ≡ true → form_in v place (line_text l) ≡ Ok l
unfolding form_in
form_again v place l h stands =
    let begins : head_at v place (line_words l) ≡ Some (head_of l) = ap (head_at v place) (line_begins l) ∙ head_at_again v place (head_of l) (tail (line_words l)) stands (line_known v l h) in
    rw (line_parted v l h) (rw begins (body_again v l h))
