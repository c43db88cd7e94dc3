-- A script is told by its lines: the sections are found again from the last line to the first.
use Rattle.std.proofs.Common.{◌≡◌, ℕ, List, [], ◌∷◌, ◌++◌, length, map, refl, sym, ap, ◌∙◌, append-nil, subst}
use Rattle.std.specs.Prelude.{slice_get, option_and_then}
use Rattle.std.specs.List.{flat_map, AllByRecursion}
use Rattle.mama_event.specs.declared.order.Order.{Order}
use Rattle.mama_event.specs.declared.order.Order.TheVariants as orders
use Rattle.mama_event.specs.declared.order.PlanRow.{PlanRow}
use Rattle.mama_event.specs.declared.ids.SubId.{SubId}
use Rattle.mama_event.specs.declared.ids.TimerId.{TimerId}
use Rattle.mama_event.specs.declared.group.GroupRow.{GroupRow}
use Rattle.mama_event.specs.declared.watch.WatchRow.{WatchRow}
use Rattle.mama_event.specs.declared.shape.Shape.{Shape}
use Rattle.mama_event.specs.declared.shape.Strategy.{Strategy}
use Rattle.mama_event.specs.declared.shape.Strategy.TheVariants as strategy
use Rattle.mama_words.specs.declared.version.Version.{Version}
use Rattle.mama_words.specs.declared.version.Version.TheVariants as version
use Rattle.mama_link.specs.declared.faults.FaultRow.{FaultRow}
use Rattle.mama_words.specs.declared.order.OrderWord.{OrderWord}
use Rattle.mama_words.specs.declared.order.OrderWord.TheVariants as order_words
use Rattle.mama_words.specs.declared.id.IdWord.{IdWord}
use Rattle.mama_words.specs.Id.{sub_word}
use Rattle.mama_words.specs.Order.{word_of}
use Rattle.mama_script.specs.declared.line.QueueName.{QueueName}
use Rattle.mama_script.specs.declared.line.QueueName.TheVariants as names
use Rattle.mama_script.specs.declared.line.Line.{Line}
use Rattle.mama_script.specs.declared.line.Line.TheVariants as lines
use Rattle.mama_script.specs.declared.publisher.PublisherLine.{PublisherLine}
use Rattle.mama_script.specs.declared.publisher.PublisherLine.TheVariants as sends
use Rattle.mama_script.specs.declared.publisher.PublisherPart.{PublisherPart}
use Rattle.mama_script.specs.declared.client.QueueWord.{QueueWord}
use Rattle.mama_script.specs.declared.client.QueueWord.TheVariants as words
use Rattle.mama_script.specs.declared.client.ClientLine.{ClientLine}
use Rattle.mama_script.specs.declared.client.ClientLine.TheVariants as steps
use Rattle.mama_script.specs.Script.{ScriptData}
use Rattle.mama_script.specs.Tree.{queue_name, plan_line, fault_line, object_lines, publisher_line, publisher_lines, step_lines, client_lines, topic_line, strategy_lines, group_line, watch_line, last_lines, body_lines, lines_of, topic_of_part, HasStrategy, topics_in, sender_or_none, IsShaped}
use Rattle.mama_script.specs.Reading.{version_of}

-- what the lines from some line on have
record Found : Type 0 where
  faults : List FaultRow
  plan : List PlanRow
  sent : List PublisherLine
  stepped : List ClientLine
  publishers : List PublisherPart
  clients : List (List ClientLine)
  topics : List (List ℕ)
  queues : ℕ
  groups : List GroupRow
  watches : List WatchRow

abbrev found : List FaultRow → List PlanRow → List PublisherLine → List ClientLine → List PublisherPart → List (List ClientLine) → List (List ℕ) → ℕ → List GroupRow → List WatchRow → Found
found f p a b ps cs ts q gs ws = record { faults = f; plan = p; sent = a; stepped = b; publishers = ps; clients = cs; topics = ts; queues = q; groups = gs; watches = ws }

abbrev sub_from : IdWord → SubId
sub_from id = record { client = id.client; number = id.number }

abbrev timer_from : IdWord → TimerId
timer_from id = record { client = id.client; number = id.number }

abbrev order_from : OrderWord → Order
order_from (order_words.Stop id) = orders.Stop (record { client = id.client; number = id.number })
order_from (order_words.Disarm id) = orders.Disarm (record { client = id.client; number = id.number })
order_from (order_words.Close id) = orders.Close (record { client = id.client; number = id.number })
order_from (order_words.Ask id topic fids) = orders.Ask (record { client = id.client; number = id.number }) topic fids

abbrev queue_from : QueueName → QueueWord
queue_from (names.Number n) = words.Number n
queue_from names.Any = words.Any

-- one line more in front
abbrev onto : Line → Found → Found
onto (lines.Strategy strategy) s = s
onto (lines.Queues n) s = record s { queues = n }
onto (lines.Topic name) s = record s { topics = name ∷ s.topics }
onto (lines.Publisher topic base) s = record s { publishers = record { topic = topic; base = base; lines = s.sent } ∷ s.publishers; sent = []; stepped = [] }
onto (lines.Update update) s = record s { sent = sends.Update update ∷ s.sent }
onto lines.Recap s = record s { sent = sends.Recap ∷ s.sent }
onto (lines.Pause rounds) s = record s { sent = sends.Pause rounds ∷ s.sent; stepped = steps.Pause rounds ∷ s.stepped }
onto lines.Client s = record s { clients = s.stepped ∷ s.clients; sent = []; stepped = [] }
onto (lines.Sub topic kind queue cache recaps) s = record s { stepped = steps.Sub topic kind (queue_from queue) cache recaps s.faults s.plan ∷ s.stepped; faults = []; plan = [] }
onto (lines.Timer queue interval) s = record s { stepped = steps.Timer (queue_from queue) interval s.plan ∷ s.stepped; faults = []; plan = [] }
onto (lines.Inbox queue) s = record s { stepped = steps.Inbox (queue_from queue) s.faults s.plan ∷ s.stepped; faults = []; plan = [] }
onto (lines.Fault row) s = record s { faults = row ∷ s.faults }
onto (lines.At call order) s = record s { plan = record { call = call; order = order_from order } ∷ s.plan }
onto (lines.Order order) s = record s { stepped = steps.Order (order_from order) ∷ s.stepped }
onto (lines.Now moment) s = record s { stepped = steps.Now moment ∷ s.stepped }
onto lines.NowClock s = record s { stepped = steps.NowClock ∷ s.stepped }
onto (lines.Group ids) s = record s { groups = record { members = map sub_from ids } ∷ s.groups }
onto (lines.Watch sub timer retries) s = record s { watches = record { sub = sub_from sub; timer = timer_from timer; retries = retries; sender = 0 } ∷ s.watches }

abbrev build : List Line → Found → Found
build [] s = s
build (l ∷ ls) s = onto l (build ls s)

build-append : (xs ys : List Line) (s : Found) → build (xs ++ ys) s ≡ build xs (build ys s)
build-append [] ys s = refl
build-append (x ∷ xs) ys s = ap (onto x) (build-append xs ys s)

order_back : (o : Order) → order_from (word_of o) ≡ o
order_back (orders.Stop id) = refl
order_back (orders.Disarm id) = refl
order_back (orders.Close id) = refl
order_back (orders.Ask id topic fids) = refl

queue_back : (q : QueueWord) → queue_from (queue_name q) ≡ q
queue_back (words.Number n) = refl
queue_back words.Any = refl

build_plan : (rows : List PlanRow) (f : List FaultRow) (p : List PlanRow) (a : List PublisherLine) (b : List ClientLine) (ps : List PublisherPart) (cs : List (List ClientLine)) (ts : List (List ℕ)) (q : ℕ) (gs : List GroupRow) (ws : List WatchRow)
    → build (map plan_line rows) (found f p a b ps cs ts q gs ws) ≡ found f (rows ++ p) a b ps cs ts q gs ws
build_plan [] f p a b ps cs ts q gs ws = refl
build_plan (r ∷ rows) f p a b ps cs ts q gs ws =
    ap (onto (plan_line r)) (build_plan rows f p a b ps cs ts q gs ws) ∙ ap (λ (o : Order). found f (record { call = r.call; order = o } ∷ (rows ++ p)) a b ps cs ts q gs ws) (order_back r.order)

build_faults : (rows : List FaultRow) (f : List FaultRow) (p : List PlanRow) (a : List PublisherLine) (b : List ClientLine) (ps : List PublisherPart) (cs : List (List ClientLine)) (ts : List (List ℕ)) (q : ℕ) (gs : List GroupRow) (ws : List WatchRow)
    → build (map fault_line rows) (found f p a b ps cs ts q gs ws) ≡ found (rows ++ f) p a b ps cs ts q gs ws
build_faults [] f p a b ps cs ts q gs ws = refl
build_faults (r ∷ rows) f p a b ps cs ts q gs ws = ap (onto (fault_line r)) (build_faults rows f p a b ps cs ts q gs ws)

build_object : (f : List FaultRow) (p : List PlanRow) (a : List PublisherLine) (b : List ClientLine) (ps : List PublisherPart) (cs : List (List ClientLine)) (ts : List (List ℕ)) (q : ℕ) (gs : List GroupRow) (ws : List WatchRow)
    → build (object_lines f p) (found [] [] a b ps cs ts q gs ws) ≡ found f p a b ps cs ts q gs ws
build_object f p a b ps cs ts q gs ws =
    build-append (map fault_line f) (map plan_line p) (found [] [] a b ps cs ts q gs ws)
    ∙ ap (build (map fault_line f)) (build_plan p [] [] a b ps cs ts q gs ws)
    ∙ build_faults f [] (p ++ []) a b ps cs ts q gs ws
    ∙ ap (λ (x : List FaultRow). found x (p ++ []) a b ps cs ts q gs ws) (append-nil f)
    ∙ ap (λ (x : List PlanRow). found f x a b ps cs ts q gs ws) (append-nil p)

-- a pause of a client would be one of a publisher too
abbrev as_sent : ClientLine → List PublisherLine
as_sent (steps.Sub topic kind queue cache recaps faults plan) = []
as_sent (steps.Timer queue interval plan) = []
as_sent (steps.Inbox queue faults plan) = []
as_sent (steps.Order order) = []
as_sent (steps.Now moment) = []
as_sent steps.NowClock = []
as_sent (steps.Pause rounds) = sends.Pause rounds ∷ []

abbrev as_stepped : PublisherLine → List ClientLine
as_stepped (sends.Update update) = []
as_stepped sends.Recap = []
as_stepped (sends.Pause rounds) = steps.Pause rounds ∷ []

build_step : (s : ClientLine) (a : List PublisherLine) (b : List ClientLine) (ps : List PublisherPart) (cs : List (List ClientLine)) (ts : List (List ℕ)) (q : ℕ) (gs : List GroupRow) (ws : List WatchRow)
    → build (step_lines s) (found [] [] a b ps cs ts q gs ws) ≡ found [] [] (as_sent s ++ a) (s ∷ b) ps cs ts q gs ws
build_step (steps.Sub topic kind queue cache recaps faults plan) a b ps cs ts q gs ws =
    ap (onto (lines.Sub topic kind (queue_name queue) cache recaps)) (build_object faults plan a b ps cs ts q gs ws)
    ∙ ap (λ (w : QueueWord). found [] [] a (steps.Sub topic kind w cache recaps faults plan ∷ b) ps cs ts q gs ws) (queue_back queue)
build_step (steps.Timer queue interval plan) a b ps cs ts q gs ws =
    ap (onto (lines.Timer (queue_name queue) interval)) (build_object [] plan a b ps cs ts q gs ws)
    ∙ ap (λ (w : QueueWord). found [] [] a (steps.Timer w interval plan ∷ b) ps cs ts q gs ws) (queue_back queue)
build_step (steps.Inbox queue faults plan) a b ps cs ts q gs ws =
    ap (onto (lines.Inbox (queue_name queue))) (build_object faults plan a b ps cs ts q gs ws)
    ∙ ap (λ (w : QueueWord). found [] [] a (steps.Inbox w faults plan ∷ b) ps cs ts q gs ws) (queue_back queue)
build_step (steps.Order order) a b ps cs ts q gs ws = ap (λ (o : Order). found [] [] a (steps.Order o ∷ b) ps cs ts q gs ws) (order_back order)
build_step (steps.Now moment) a b ps cs ts q gs ws = refl
build_step steps.NowClock a b ps cs ts q gs ws = refl
build_step (steps.Pause rounds) a b ps cs ts q gs ws = refl

-- the steps of a client in front of the rest of its lines, of which the publishers' part does not matter
record Stepped (ss b : List ClientLine) (ps : List PublisherPart) (cs : List (List ClientLine)) (ts : List (List ℕ)) (q : ℕ) (gs : List GroupRow) (ws : List WatchRow) (s : Found) : Type 0 where
  sent : List PublisherLine
  is : s ≡ found [] [] sent (ss ++ b) ps cs ts q gs ws

build_steps : (ss : List ClientLine) (a : List PublisherLine) (b : List ClientLine) (ps : List PublisherPart) (cs : List (List ClientLine)) (ts : List (List ℕ)) (q : ℕ) (gs : List GroupRow) (ws : List WatchRow)
    → Stepped ss b ps cs ts q gs ws (build (flat_map step_lines ss) (found [] [] a b ps cs ts q gs ws))
build_steps [] a b ps cs ts q gs ws = record { sent = a; is = refl }
build_steps (s ∷ ss) a b ps cs ts q gs ws =
    let more = build_steps ss a b ps cs ts q gs ws in
    record {
      sent = as_sent s ++ more.sent;
      is = build-append (step_lines s) (flat_map step_lines ss) (found [] [] a b ps cs ts q gs ws) ∙ ap (build (step_lines s)) more.is ∙ build_step s more.sent (ss ++ b) ps cs ts q gs ws;
    }

build_client : (c : List ClientLine) (ps : List PublisherPart) (cs : List (List ClientLine)) (ts : List (List ℕ)) (q : ℕ) (gs : List GroupRow) (ws : List WatchRow)
    → build (client_lines c) (found [] [] [] [] ps cs ts q gs ws) ≡ found [] [] [] [] ps (c ∷ cs) ts q gs ws
build_client c ps cs ts q gs ws =
    let more = build_steps c [] [] ps cs ts q gs ws in
    ap (onto lines.Client) more.is ∙ ap (λ (x : List ClientLine). found [] [] [] [] ps (x ∷ cs) ts q gs ws) (append-nil c)

build_clients : (xs : List (List ClientLine)) (ps : List PublisherPart) (cs : List (List ClientLine)) (ts : List (List ℕ)) (q : ℕ) (gs : List GroupRow) (ws : List WatchRow)
    → build (flat_map client_lines xs) (found [] [] [] [] ps cs ts q gs ws) ≡ found [] [] [] [] ps (xs ++ cs) ts q gs ws
build_clients [] ps cs ts q gs ws = refl
build_clients (x ∷ xs) ps cs ts q gs ws =
    build-append (client_lines x) (flat_map client_lines xs) (found [] [] [] [] ps cs ts q gs ws) ∙ ap (build (client_lines x)) (build_clients xs ps cs ts q gs ws) ∙ build_client x ps (xs ++ cs) ts q gs ws

record Sent (ss a : List PublisherLine) (ps : List PublisherPart) (cs : List (List ClientLine)) (ts : List (List ℕ)) (q : ℕ) (gs : List GroupRow) (ws : List WatchRow) (s : Found) : Type 0 where
  stepped : List ClientLine
  is : s ≡ found [] [] (ss ++ a) stepped ps cs ts q gs ws

build_send : (s : PublisherLine) (a : List PublisherLine) (b : List ClientLine) (ps : List PublisherPart) (cs : List (List ClientLine)) (ts : List (List ℕ)) (q : ℕ) (gs : List GroupRow) (ws : List WatchRow)
    → onto (publisher_line s) (found [] [] a b ps cs ts q gs ws) ≡ found [] [] (s ∷ a) (as_stepped s ++ b) ps cs ts q gs ws
build_send (sends.Update update) a b ps cs ts q gs ws = refl
build_send sends.Recap a b ps cs ts q gs ws = refl
build_send (sends.Pause rounds) a b ps cs ts q gs ws = refl

build_sends : (ss a : List PublisherLine) (b : List ClientLine) (ps : List PublisherPart) (cs : List (List ClientLine)) (ts : List (List ℕ)) (q : ℕ) (gs : List GroupRow) (ws : List WatchRow)
    → Sent ss a ps cs ts q gs ws (build (map publisher_line ss) (found [] [] a b ps cs ts q gs ws))
build_sends [] a b ps cs ts q gs ws = record { stepped = b; is = refl }
build_sends (s ∷ ss) a b ps cs ts q gs ws =
    let more = build_sends ss a b ps cs ts q gs ws in
    record { stepped = as_stepped s ++ more.stepped; is = ap (onto (publisher_line s)) more.is ∙ build_send s (ss ++ a) more.stepped ps cs ts q gs ws }

build_publisher : (p : PublisherPart) (ps : List PublisherPart) (cs : List (List ClientLine)) (ts : List (List ℕ)) (q : ℕ) (gs : List GroupRow) (ws : List WatchRow)
    → build (publisher_lines p) (found [] [] [] [] ps cs ts q gs ws) ≡ found [] [] [] [] (p ∷ ps) cs ts q gs ws
build_publisher p ps cs ts q gs ws =
    let more = build_sends p.lines [] [] ps cs ts q gs ws in
    ap (onto (lines.Publisher p.topic p.base)) more.is ∙ ap (λ (x : List PublisherLine). found [] [] [] [] (record { topic = p.topic; base = p.base; lines = x } ∷ ps) cs ts q gs ws) (append-nil p.lines)

build_publishers : (xs ps : List PublisherPart) (cs : List (List ClientLine)) (ts : List (List ℕ)) (q : ℕ) (gs : List GroupRow) (ws : List WatchRow)
    → build (flat_map publisher_lines xs) (found [] [] [] [] ps cs ts q gs ws) ≡ found [] [] [] [] (xs ++ ps) cs ts q gs ws
build_publishers [] ps cs ts q gs ws = refl
build_publishers (x ∷ xs) ps cs ts q gs ws =
    build-append (publisher_lines x) (flat_map publisher_lines xs) (found [] [] [] [] ps cs ts q gs ws) ∙ ap (build (publisher_lines x)) (build_publishers xs ps cs ts q gs ws) ∙ build_publisher x (xs ++ ps) cs ts q gs ws

build_topics : (xs : List (List ℕ)) (ps : List PublisherPart) (cs : List (List ClientLine)) (ts : List (List ℕ)) (q : ℕ) (gs : List GroupRow) (ws : List WatchRow)
    → build (map topic_line xs) (found [] [] [] [] ps cs ts q gs ws) ≡ found [] [] [] [] ps cs (xs ++ ts) q gs ws
build_topics [] ps cs ts q gs ws = refl
build_topics (x ∷ xs) ps cs ts q gs ws = ap (onto (topic_line x)) (build_topics xs ps cs ts q gs ws)

subs_back : (subs : List SubId) → map sub_from (map sub_word subs) ≡ subs
subs_back [] = refl
subs_back (s ∷ ss) = ap (λ (x : List SubId). s ∷ x) (subs_back ss)

build_groups : (rows : List GroupRow) (ps : List PublisherPart) (cs : List (List ClientLine)) (ts : List (List ℕ)) (q : ℕ) (gs : List GroupRow) (ws : List WatchRow)
    → build (map group_line rows) (found [] [] [] [] ps cs ts q gs ws) ≡ found [] [] [] [] ps cs ts q (rows ++ gs) ws
build_groups [] ps cs ts q gs ws = refl
build_groups (r ∷ rows) ps cs ts q gs ws =
    ap (onto (group_line r)) (build_groups rows ps cs ts q gs ws) ∙ ap (λ (x : List SubId). found [] [] [] [] ps cs ts q (record { members = x } ∷ (rows ++ gs)) ws) (subs_back r.members)

-- a watch as its line tells it, which does not name the sender
abbrev bare : WatchRow → WatchRow
bare row = record { sub = row.sub; timer = row.timer; retries = row.retries; sender = 0 }

build_watches : (rows : List WatchRow) (ps : List PublisherPart) (cs : List (List ClientLine)) (ts : List (List ℕ)) (q : ℕ) (gs : List GroupRow) (ws : List WatchRow)
    → build (map watch_line rows) (found [] [] [] [] ps cs ts q gs ws) ≡ found [] [] [] [] ps cs ts q gs (map bare rows ++ ws)
build_watches [] ps cs ts q gs ws = refl
build_watches (r ∷ rows) ps cs ts q gs ws = ap (onto (watch_line r)) (build_watches rows ps cs ts q gs ws)

abbrev nothing : Found
nothing = found [] [] [] [] [] [] [] 0 [] []

build_last : (groups : List GroupRow) (watches : List WatchRow) → build (last_lines groups watches) nothing ≡ found [] [] [] [] [] [] [] 0 groups (map bare watches)
build_last groups watches =
    build-append (map group_line groups) (map watch_line watches) nothing
    ∙ ap (build (map group_line groups)) (build_watches watches [] [] [] 0 [] [] ∙ ap (λ (x : List WatchRow). found [] [] [] [] [] [] [] 0 [] x) (append-nil (map bare watches)))
    ∙ build_groups groups [] [] [] 0 [] (map bare watches)
    ∙ ap (λ (x : List GroupRow). found [] [] [] [] [] [] [] 0 x (map bare watches)) (append-nil groups)

build_body : (s : ScriptData) → build (body_lines s) nothing ≡ found [] [] [] [] s.publishers s.clients s.topics s.shape.bounds.queues s.groups (map bare s.watches)
build_body s =
    let ps = s.publishers in
    let cs = s.clients in
    let ts = s.topics in
    let gs = s.groups in
    let ws = map bare s.watches in
    let last = last_lines s.groups s.watches in
    ap (onto (lines.Queues s.shape.bounds.queues))
    (build-append (map topic_line ts) (flat_map publisher_lines ps ++ (flat_map client_lines cs ++ last)) nothing
    ∙ ap (build (map topic_line ts))
    (build-append (flat_map publisher_lines ps) (flat_map client_lines cs ++ last) nothing
    ∙ ap (build (flat_map publisher_lines ps))
    (build-append (flat_map client_lines cs) last nothing
    ∙ ap (build (flat_map client_lines cs)) (build_last s.groups s.watches)
    ∙ build_clients cs [] [] [] 0 gs ws ∙ ap (λ (x : List (List ClientLine)). found [] [] [] [] [] x [] 0 gs ws) (append-nil cs))
    ∙ build_publishers ps [] cs [] 0 gs ws ∙ ap (λ (x : List PublisherPart). found [] [] [] [] x cs [] 0 gs ws) (append-nil ps))
    ∙ build_topics ts ps cs [] 0 gs ws ∙ ap (λ (x : List (List ℕ)). found [] [] [] [] ps cs x 0 gs ws) (append-nil ts))

-- the strategy that lines tell
abbrev strategy_told : List Line → Strategy
strategy_told (lines.Strategy s ∷ ls) = s
strategy_told _ = strategy.One

abbrev shape_with : ℕ → List ℕ → ℕ → ℕ → Strategy → Shape
shape_with c ps t q s = record { clients = c; publisher_topics = ps; bounds = record { topics = t; queues = q }; strategy = s }

abbrev script_with : Version → Shape → List (List ℕ) → List PublisherPart → List (List ClientLine) → List GroupRow → List WatchRow → ScriptData
script_with v shape topics publishers clients groups watches = record { version = v; shape = shape; topics = topics; publishers = publishers; clients = clients; groups = groups; watches = watches }

-- the sender of a watch, which its subscription tells
abbrev sender_at : List ℕ → List (List ClientLine) → SubId → ℕ
sender_at ps cs sub = sender_or_none ps (option_and_then (λ (ls : List ClientLine). slice_get (topics_in ls) sub.number) (slice_get cs sub.client))

abbrev told_watch : List ℕ → List (List ClientLine) → WatchRow → WatchRow
told_watch ps cs row = record { sub = row.sub; timer = row.timer; retries = row.retries; sender = sender_at ps cs row.sub }

watches_back : (ps : List ℕ) (cs : List (List ClientLine)) (rows : List WatchRow) → AllByRecursion (λ (row : WatchRow). row.sender ≡ sender_at ps cs row.sub) rows → map (told_watch ps cs) (map bare rows) ≡ rows
watches_back ps cs [] h = refl
watches_back ps cs (r ∷ rows) h =
    ap (λ (n : ℕ). record { sub = r.sub; timer = r.timer; retries = r.retries; sender = n } ∷ map (told_watch ps cs) (map bare rows)) (sym h.0) ∙ ap (λ (x : List WatchRow). r ∷ x) (watches_back ps cs rows h.1)

abbrev script_from : Version → Strategy → Found → ScriptData
script_from v s f =
    script_with v (shape_with (length f.clients) (map topic_of_part f.publishers) (length f.topics) f.queues s) f.topics f.publishers f.clients f.groups (map (told_watch (map topic_of_part f.publishers) f.clients) f.watches)

-- the script that has these lines
abbrev script_of : List Line → ScriptData
script_of ls = script_from (version_of ls) (strategy_told ls) (build ls nothing)

same_shape : (a b : ℕ) (x y : List ℕ) (t u q : ℕ) (s r : Strategy) → a ≡ b → x ≡ y → t ≡ u → s ≡ r → shape_with a x t q s ≡ shape_with b y u q r
same_shape a b x y t u q s r e f g h = cc

body_back : (s : ScriptData) (told : Strategy) → IsShaped s → told ≡ s.shape.strategy → script_from s.version told (build (body_lines s) nothing) ≡ s
body_back s told h same =
    let shape : shape_with (length s.clients) (map topic_of_part s.publishers) (length s.topics) s.shape.bounds.queues told ≡ s.shape =
    same_shape (length s.clients) s.shape.clients (map topic_of_part s.publishers) s.shape.publisher_topics (length s.topics) s.shape.bounds.topics s.shape.bounds.queues told s.shape.strategy (sym h.clients) (sym h.publishers) (sym h.topics) same in
    let senders = subst (λ (ps : List ℕ). AllByRecursion (λ (row : WatchRow). row.sender ≡ sender_at ps s.clients row.sub) s.watches) h.publishers h.senders in
    ap (script_from s.version told) (build_body s) ∙ ap (λ (x : Shape). script_with s.version x s.topics s.publishers s.clients s.groups (map (told_watch (map topic_of_part s.publishers) s.clients) (map bare s.watches))) shape
    ∙ ap (λ (x : List WatchRow). script_with s.version s.shape s.topics s.publishers s.clients s.groups x) (watches_back (map topic_of_part s.publishers) s.clients s.watches senders)

opened_back : (v : Version) (told : Strategy) (s : ScriptData) → HasStrategy v told → s.version ≡ v → s.shape.strategy ≡ told → IsShaped s → script_of (strategy_lines v told ++ body_lines s) ≡ s
opened_back version.One told s has same is h = ap (λ (v : Version). script_from v strategy.One (build (body_lines s) nothing)) (sym same) ∙ body_back s strategy.One h (sym has ∙ sym is)
opened_back version.Two told s has same is h = ap (λ (v : Version). script_from v told (build (body_lines s) nothing)) (sym same) ∙ body_back s told h (sym is)

script_back : (s : ScriptData) → IsShaped s → script_of (lines_of s) ≡ s
script_back s h = opened_back s.version s.shape.strategy s h.strategy refl refl h

-- scripts that have the same lines are one
pub same_script : (s t : ScriptData) → IsShaped s → IsShaped t → lines_of s ≡ lines_of t → s ≡ t
same_script s t h k e = sym (script_back s h) ∙ ap script_of e ∙ script_back t k
