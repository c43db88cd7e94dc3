-- The text of a script is the texts of its parts, one behind the other.
use Rattle.std.proofs.Common.{◌≡◌, ℕ, List, [], ◌∷◌, ◌++◌, map, refl, sym, ap, ◌∙◌, append_assoc, append-nil}
use Rattle.std.specs.List.{flat_map}
use Rattle.std.proofs.lemmas.List.Concat.{flat_map-append}
use Rattle.std.proofs.lemmas.List.Folds.{flat_map-map}
use Rattle.std.specs.Prelude.{codes}
use Rattle.mama_edge.specs.Decimal.{decimal}
use Rattle.mama_event.specs.declared.order.PlanRow.{PlanRow}
use Rattle.mama_event.specs.declared.ids.SubId.{SubId}
use Rattle.mama_event.specs.declared.group.GroupRow.{GroupRow}
use Rattle.mama_event.specs.declared.watch.WatchRow.{WatchRow}
use Rattle.mama_words.specs.Id.{id_text, sub_word, sub_text as sub_id_text, timer_text}
use Rattle.mama_msg.specs.Field.{FieldData}
use Rattle.mama_words.specs.declared.order.OrderWord.{OrderWord}
use Rattle.mama_words.specs.declared.order.OrderWord.TheVariants as orders
use Rattle.mama_event.specs.declared.market.SubKind.{SubKind}
use Rattle.mama_words.specs.Kind.{sub_kind_text, strategy_text}
use Rattle.mama_words.specs.Field.{fields_text}
use Rattle.mama_words.specs.Order.{order_words, order_text}
use Rattle.mama_words.specs.Sentence.{spaced}
use Rattle.mama_words.proofs.Spellings.{order_sentence, fields_row}
use Rattle.mama_link.specs.declared.faults.FaultRow.{FaultRow}
use Rattle.mama_script.specs.declared.line.Line.{Line}
use Rattle.mama_script.specs.declared.line.Line.TheVariants as lines
use Rattle.mama_script.specs.declared.publisher.PublisherPart.{PublisherPart}
use Rattle.mama_script.specs.declared.client.ClientLine.{ClientLine}
use Rattle.mama_script.specs.declared.line.QueueName.{QueueName}
use Rattle.mama_script.specs.Line.{ended, queue_text}
use Rattle.mama_script.specs.Reading.{first_line, version_of}
use Rattle.mama_script.specs.Script.{ScriptData}
use Rattle.mama_script.specs.Tree.{plan_line, fault_line, publisher_line, publisher_lines, step_lines, client_lines, topic_line, strategy_lines, group_line, watch_line, last_lines, body_lines, lines_of, script_text}
use Rattle.mama_words.specs.declared.version.Version.{Version}
use Rattle.mama_words.specs.declared.version.Version.TheVariants as version
use Rattle.mama_event.specs.declared.shape.Strategy.{Strategy}
use Rattle.mama_event.specs.declared.shape.Strategy.TheVariants as strategy
use Rattle.mama_script.specs.Text.{topic_text, send_text, publisher_text, fault_text, plan_text, object_text, step_text, client_text, member_text, group_text, watch_text}

flat_map-flat_map : {X : Type 0} (g : X → List Line) (xs : List X) → flat_map ended (flat_map g xs) ≡ flat_map (λ x. flat_map ended (g x)) xs
flat_map-flat_map g [] = refl
flat_map-flat_map g (x ∷ xs) = flat_map-append ended (g x) (flat_map g xs) ∙ ap (λ (t : List ℕ). flat_map ended (g x) ++ t) (flat_map-flat_map g xs)

pub publisher_text_is : (p : PublisherPart) → publisher_text p ≡ ended (lines.Publisher p.topic p.base) ++ flat_map send_text p.lines
publisher_text_is p = ap (λ (t : List ℕ). ended (lines.Publisher p.topic p.base) ++ t) (flat_map-map ended publisher_line p.lines)

pub client_text_is : (c : List ClientLine) → client_text c ≡ ended lines.Client ++ flat_map step_text c
client_text_is c = ap (λ (t : List ℕ). ended lines.Client ++ t) (flat_map-flat_map step_lines c)

pub object_text_is : (f : List FaultRow) (p : List PlanRow) → object_text f p ≡ flat_map fault_text f ++ flat_map plan_text p
object_text_is f p =
    flat_map-append ended (map fault_line f) (map plan_line p) ∙ ap (λ (t : List ℕ). t ++ flat_map ended (map plan_line p)) (flat_map-map ended fault_line f)
    ∙ ap (λ (t : List ℕ). flat_map fault_text f ++ t) (flat_map-map ended plan_line p)

last_text_is : (groups : List GroupRow) (watches : List WatchRow) → flat_map ended (last_lines groups watches) ≡ flat_map group_text groups ++ flat_map watch_text watches
last_text_is groups watches =
    flat_map-append ended (map group_line groups) (map watch_line watches) ∙ ap (λ (t : List ℕ). t ++ flat_map ended (map watch_line watches)) (flat_map-map ended group_line groups)
    ∙ ap (λ (t : List ℕ). flat_map group_text groups ++ t) (flat_map-map ended watch_line watches)

abbrev joined_text : ℕ → List ℕ → List ℕ → List ℕ → List ℕ → List ℕ
joined_text queues a b c d = ended (lines.Queues queues) ++ (a ++ (b ++ (c ++ d)))

body_text_is : (s : ScriptData)
    → flat_map ended (body_lines s)
    ≡ joined_text s.shape.bounds.queues (flat_map topic_text s.topics) (flat_map publisher_text s.publishers) (flat_map client_text s.clients) (flat_map group_text s.groups ++ flat_map watch_text s.watches)
body_text_is s =
    let q = s.shape.bounds.queues in
    let topics = map topic_line s.topics in
    let publishers = flat_map publisher_lines s.publishers in
    let clients = flat_map client_lines s.clients in
    let last = last_lines s.groups s.watches in
    ap (λ (t : List ℕ). ended (lines.Queues q) ++ t)
    (flat_map-append ended topics (publishers ++ (clients ++ last))
    ∙ ap (λ (t : List ℕ). flat_map ended topics ++ t)
    (flat_map-append ended publishers (clients ++ last) ∙ ap (λ (t : List ℕ). flat_map ended publishers ++ t) (flat_map-append ended clients last)))
    ∙ ap (λ (t : List ℕ). joined_text q t (flat_map ended publishers) (flat_map ended clients) (flat_map ended last)) (flat_map-map ended topic_line s.topics)
    ∙ ap (λ (t : List ℕ). joined_text q (flat_map topic_text s.topics) t (flat_map ended clients) (flat_map ended last)) (flat_map-flat_map publisher_lines s.publishers)
    ∙ ap (λ (t : List ℕ). joined_text q (flat_map topic_text s.topics) (flat_map publisher_text s.publishers) t (flat_map ended last)) (flat_map-flat_map client_lines s.clients)
    ∙ ap (λ (t : List ℕ). joined_text q (flat_map topic_text s.topics) (flat_map publisher_text s.publishers) (flat_map client_text s.clients) t) (last_text_is s.groups s.watches)

pub version_told : (v : Version) (told : Strategy) (queues : ℕ) (ls : List Line) → version_of (strategy_lines v told ++ lines.Queues queues ∷ ls) ≡ v
version_told version.One told queues ls = refl
version_told version.Two told queues ls = refl

pub script_text_is : (s : ScriptData)
    → script_text s
    ≡ (first_line s.version ++ 10 ∷ [])
    ++ (flat_map ended (strategy_lines s.version s.shape.strategy)
    ++ (ended (lines.Queues s.shape.bounds.queues) ++ (flat_map topic_text s.topics ++ (flat_map publisher_text s.publishers ++ (flat_map client_text s.clients ++ (flat_map group_text s.groups ++ flat_map watch_text s.watches))))))
script_text_is s =
    let opened = strategy_lines s.version s.shape.strategy in
    let rest = map topic_line s.topics ++ (flat_map publisher_lines s.publishers ++ (flat_map client_lines s.clients ++ last_lines s.groups s.watches)) in
    ap (λ (v : Version). (first_line v ++ 10 ∷ []) ++ flat_map ended (lines_of s)) (version_told s.version s.shape.strategy s.shape.bounds.queues rest)
    ∙ ap (λ (t : List ℕ). (first_line s.version ++ 10 ∷ []) ++ t) (flat_map-append ended opened (body_lines s) ∙ ap (λ (t : List ℕ). flat_map ended opened ++ t) (body_text_is s))

order_row : (o : OrderWord) → flat_map spaced (order_words o) ≡ 32 ∷ order_text o
order_row (orders.Stop id) = ap (λ (t : List ℕ). 32 ∷ t) (sym (order_sentence (orders.Stop id)))
order_row (orders.Disarm id) = ap (λ (t : List ℕ). 32 ∷ t) (sym (order_sentence (orders.Disarm id)))
order_row (orders.Close id) = ap (λ (t : List ℕ). 32 ∷ t) (sym (order_sentence (orders.Close id)))
order_row (orders.Ask id topic fids) = ap (λ (t : List ℕ). 32 ∷ t) (sym (order_sentence (orders.Ask id topic fids)))

at_shape : (out a b c : List ℕ) → ((((out ++ a) ++ b) ++ 32 ∷ []) ++ c) ++ 10 ∷ [] ≡ out ++ ((a ++ (b ++ (32 ∷ c))) ++ 10 ∷ [])
at_shape out a b c = simp append_assoc

pub at_text : (out : List ℕ) (call : ℕ) (o : OrderWord) → ((((out ++ codes "at") ++ spaced (decimal call)) ++ 32 ∷ []) ++ order_text o) ++ 10 ∷ [] ≡ out ++ ended (lines.At call o)
at_text out call o = at_shape out (codes "at") (spaced (decimal call)) (order_text o) ∙ ap (λ (t : List ℕ). out ++ ((codes "at" ++ (spaced (decimal call) ++ t)) ++ 10 ∷ [])) (sym (order_row o))

pub order_line_text : (out : List ℕ) (o : OrderWord) → (out ++ order_text o) ++ 10 ∷ [] ≡ out ++ ended (lines.Order o)
order_line_text out o = append_assoc out (order_text o) (10 ∷ []) ∙ ap (λ (t : List ℕ). out ++ (t ++ 10 ∷ [])) (order_sentence o)

pub base_text : (out : List ℕ) (topic : ℕ) (fs : List FieldData) → (((out ++ codes "publisher") ++ spaced (decimal topic)) ++ fields_text fs) ++ 10 ∷ [] ≡ out ++ ended (lines.Publisher topic fs)
base_text out topic fs = ap (λ (t : List ℕ). (((out ++ codes "publisher") ++ spaced (decimal topic)) ++ t) ++ 10 ∷ []) (fields_row fs) ∙ simp append_assoc

pub update_text : (out : List ℕ) (fs : List FieldData) → ((out ++ codes "update") ++ fields_text fs) ++ 10 ∷ [] ≡ out ++ ended (lines.Update fs)
update_text out fs = ap (λ (t : List ℕ). ((out ++ codes "update") ++ t) ++ 10 ∷ []) (fields_row fs) ∙ simp append_assoc

pub long_text : (out head index number : List ℕ) → (((out ++ head) ++ index) ++ number) ++ 10 ∷ [] ≡ out ++ (head ++ (index ++ (number ++ 10 ∷ [])))
long_text out head index number = simp append_assoc

sub_parts : (out a b c d e f : List ℕ) → ((((((out ++ a) ++ b) ++ c) ++ d) ++ e) ++ f) ++ 10 ∷ [] ≡ out ++ ((a ++ (b ++ (c ++ (d ++ (e ++ (f ++ [])))))) ++ 10 ∷ [])
sub_parts out a b c d e f = simp (append_assoc, append-nil)

sub_shape : (out a b c d e f : List ℕ) → (((((((out ++ a) ++ b) ++ 32 ∷ []) ++ c) ++ d) ++ e) ++ f) ++ 10 ∷ [] ≡ out ++ ((a ++ (b ++ ((32 ∷ c) ++ (d ++ (e ++ (f ++ [])))))) ++ 10 ∷ [])
sub_shape out a b c d e f = ap (λ (t : List ℕ). (((t ++ d) ++ e) ++ f) ++ 10 ∷ []) (append_assoc ((out ++ a) ++ b) (32 ∷ []) c) ∙ sub_parts out a b (32 ∷ c) d e f

pub sub_text : (out : List ℕ) (topic : ℕ) (kind : SubKind) (queue : QueueName) (cache recaps : ℕ)
    → (((((((out ++ codes "sub") ++ spaced (decimal topic)) ++ 32 ∷ []) ++ sub_kind_text kind) ++ spaced (queue_text queue)) ++ spaced (decimal cache)) ++ spaced (decimal recaps)) ++ 10 ∷ [] ≡ out ++ ended (lines.Sub topic kind queue cache recaps)
sub_text out topic kind queue cache recaps = sub_shape out (codes "sub") (spaced (decimal topic)) (sub_kind_text kind) (spaced (queue_text queue)) (spaced (decimal cache)) (spaced (decimal recaps))

pub print_shape : (f s q t p c g w : List ℕ) → ((((((f ++ s) ++ q) ++ t) ++ p) ++ c) ++ g) ++ w ≡ f ++ (s ++ (q ++ (t ++ (p ++ (c ++ (g ++ w))))))
print_shape f s q t p c g w = simp append_assoc

members_row : (members : List SubId) → flat_map member_text members ≡ flat_map spaced (map (id_text 115) (map sub_word members))
members_row [] = refl
members_row (s ∷ ss) = ap (λ (t : List ℕ). member_text s ++ t) (members_row ss)

group_shape : (out a b : List ℕ) → ((out ++ a) ++ b) ++ 10 ∷ [] ≡ out ++ ((a ++ b) ++ 10 ∷ [])
group_shape out a b = simp append_assoc

pub group_text_is : (out : List ℕ) (row : GroupRow) → ((out ++ codes "group") ++ flat_map member_text row.members) ++ 10 ∷ [] ≡ out ++ group_text row
group_text_is out row = ap (λ (t : List ℕ). ((out ++ codes "group") ++ t) ++ 10 ∷ []) (members_row row.members) ∙ group_shape out (codes "group") (flat_map spaced (map (id_text 115) (map sub_word row.members)))

watch_parts : (out w a b c : List ℕ) → ((((out ++ w) ++ a) ++ b) ++ c) ++ 10 ∷ [] ≡ out ++ ((w ++ (a ++ (b ++ (c ++ [])))) ++ 10 ∷ [])
watch_parts out w a b c = simp (append_assoc, append-nil)

watch_shape : (out w a b c : List ℕ) → (((((out ++ w) ++ a) ++ 32 ∷ []) ++ b) ++ c) ++ 10 ∷ [] ≡ out ++ ((w ++ (a ++ ((32 ∷ b) ++ (c ++ [])))) ++ 10 ∷ [])
watch_shape out w a b c = ap (λ (t : List ℕ). (t ++ c) ++ 10 ∷ []) (append_assoc ((out ++ w) ++ a) (32 ∷ []) b) ∙ watch_parts out w a (32 ∷ b) c

pub watch_text_is : (out : List ℕ) (row : WatchRow) → (((((out ++ codes "watch ") ++ sub_id_text row.sub) ++ 32 ∷ []) ++ timer_text row.timer) ++ spaced (decimal row.retries)) ++ 10 ∷ [] ≡ out ++ watch_text row
watch_text_is out row = watch_shape out (codes "watch ") (sub_id_text row.sub) (timer_text row.timer) (spaced (decimal row.retries))

strategy_shape : (out a b : List ℕ) → ((out ++ a) ++ b) ++ 10 ∷ [] ≡ out ++ ((a ++ b) ++ 10 ∷ [])
strategy_shape out a b = simp append_assoc

strategy_row : (told : Strategy) → flat_map ended (lines.Strategy told ∷ []) ≡ (codes "strategy " ++ strategy_text told) ++ 10 ∷ []
strategy_row strategy.One = refl
strategy_row strategy.Two = refl

pub strategy_line_text : (out : List ℕ) (told : Strategy) → ((out ++ codes "strategy ") ++ strategy_text told) ++ 10 ∷ [] ≡ out ++ flat_map ended (lines.Strategy told ∷ [])
strategy_line_text out told = strategy_shape out (codes "strategy ") (strategy_text told) ∙ ap (λ (t : List ℕ). out ++ t) (sym (strategy_row told))
