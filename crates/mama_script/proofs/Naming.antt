-- Each order of a script names an object that some client makes.
use Rattle.std.proofs.Common.{◌≡◌, ℕ, suc, Bool, true, false, cond, List, [], ◌∷◌, ◌++◌, map, Option, Some, None, refl, sym, ap, subst, ◌∙◌, append_assoc, append-nil}
use Rattle.std.specs.List.{flat_map, AllByRecursion}
use Rattle.mama_event.specs.declared.order.PlanRow.{PlanRow}
use Rattle.mama_event.specs.declared.group.GroupRow.{GroupRow}
use Rattle.mama_event.specs.declared.watch.WatchRow.{WatchRow}
use Rattle.mama_link.specs.declared.faults.FaultRow.{FaultRow}
use Rattle.mama_script.specs.declared.line.Line.{Line}
use Rattle.mama_script.specs.declared.names.Made.{Made}
use Rattle.mama_script.specs.declared.publisher.PublisherLine.{PublisherLine}
use Rattle.mama_script.specs.declared.publisher.PublisherLine.TheVariants as sends
use Rattle.mama_script.specs.declared.publisher.PublisherPart.{PublisherPart}
use Rattle.mama_script.specs.declared.client.ClientLine.{ClientLine}
use Rattle.mama_script.specs.declared.client.ClientLine.TheVariants as steps
use Rattle.mama_script.specs.Names.{nothing_made, with_sub, with_timer, with_inbox, at_last, made_with, made_after, made_by, is_named, unnamed_from}
use Rattle.mama_script.specs.Script.{ScriptData}
use Rattle.mama_words.specs.declared.version.Version.{Version}
use Rattle.mama_words.specs.declared.version.Version.TheVariants as version
use Rattle.mama_event.specs.declared.shape.Strategy.{Strategy}
use Rattle.mama_script.specs.Tree.{plan_line, fault_line, object_lines, publisher_line, publisher_lines, step_lines, client_lines, topic_line, strategy_lines, group_line, watch_line, last_lines, body_lines, lines_of}
use Rattle.mama_script.specs.Within.{made_with_step, made_with_steps, made_of, ArePlanned, IsStepNamed, AreStepsNamed}
use Rattle.mama_script.proofs.Made.{at_last_push}

-- ---- what the clients make

made_after-append : (made : List Made) (xs ys : List Line) → made_after made (xs ++ ys) ≡ made_after (made_after made xs) ys
made_after-append made [] ys = refl
made_after-append made (x ∷ xs) ys = made_after-append (made_with made x) xs ys

made_faults : (made : List Made) (rows : List FaultRow) → made_after made (map fault_line rows) ≡ made
made_faults made [] = refl
made_faults made (r ∷ rows) = made_faults made rows

made_plan : (made : List Made) (rows : List PlanRow) → made_after made (map plan_line rows) ≡ made
made_plan made [] = refl
made_plan made (r ∷ rows) = made_plan made rows

made_object : (made : List Made) (faults : List FaultRow) (plan : List PlanRow) → made_after made (object_lines faults plan) ≡ made
made_object made faults plan = made_after-append made (map fault_line faults) (map plan_line plan) ∙ ap (λ (m : List Made). made_after m (map plan_line plan)) (made_faults made faults) ∙ made_plan made plan

made_behind : (f : Made → Made) (front : List Made) (m : Made) (faults : List FaultRow) (plan : List PlanRow) → made_after (at_last f (front ++ m ∷ [])) (object_lines faults plan) ≡ front ++ f m ∷ []
made_behind f front m faults plan = ap (λ (x : List Made). made_after x (object_lines faults plan)) (at_last_push f front m) ∙ made_object (front ++ f m ∷ []) faults plan

made_step : (front : List Made) (m : Made) (s : ClientLine) → made_after (front ++ m ∷ []) (step_lines s) ≡ front ++ made_with_step m s ∷ []
made_step front m (steps.Sub topic kind queue cache recaps faults plan) = made_behind with_sub front m faults plan
made_step front m (steps.Timer queue interval plan) = made_behind with_timer front m [] plan
made_step front m (steps.Inbox queue faults plan) = made_behind with_inbox front m faults plan
made_step front m (steps.Order order) = refl
made_step front m (steps.Now moment) = refl
made_step front m steps.NowClock = refl
made_step front m (steps.Pause rounds) = refl

made_steps : (front : List Made) (m : Made) (ss : List ClientLine) → made_after (front ++ m ∷ []) (flat_map step_lines ss) ≡ front ++ made_with_steps m ss ∷ []
made_steps front m [] = refl
made_steps front m (s ∷ ss) =
    made_after-append (front ++ m ∷ []) (step_lines s) (flat_map step_lines ss) ∙ ap (λ (x : List Made). made_after x (flat_map step_lines ss)) (made_step front m s) ∙ made_steps front (made_with_step m s) ss

made_clients : (front : List Made) (cs : List (List ClientLine)) → made_after front (flat_map client_lines cs) ≡ front ++ map made_of cs
made_clients front [] = sym (append-nil front)
made_clients front (c ∷ cs) =
    made_after-append (front ++ nothing_made ∷ []) (flat_map step_lines c) (flat_map client_lines cs)
    ∙ ap (λ (x : List Made). made_after x (flat_map client_lines cs)) (made_steps front nothing_made c)
    ∙ made_clients (front ++ made_of c ∷ []) cs
    ∙ append_assoc front (made_of c ∷ []) (map made_of cs)

made_send : (made : List Made) (l : PublisherLine) → made_with made (publisher_line l) ≡ made
made_send made (sends.Update update) = refl
made_send made sends.Recap = refl
made_send made (sends.Pause rounds) = refl

made_sends : (made : List Made) (ls : List PublisherLine) → made_after made (map publisher_line ls) ≡ made
made_sends made [] = refl
made_sends made (l ∷ ls) = ap (λ (x : List Made). made_after x (map publisher_line ls)) (made_send made l) ∙ made_sends made ls

made_publishers : (made : List Made) (ps : List PublisherPart) → made_after made (flat_map publisher_lines ps) ≡ made
made_publishers made [] = refl
made_publishers made (p ∷ ps) =
    made_after-append made (map publisher_line p.lines) (flat_map publisher_lines ps) ∙ ap (λ (x : List Made). made_after x (flat_map publisher_lines ps)) (made_sends made p.lines) ∙ made_publishers made ps

made_topics : (made : List Made) (names : List (List ℕ)) → made_after made (map topic_line names) ≡ made
made_topics made [] = refl
made_topics made (name ∷ names) = made_topics made names

-- the line that tells the strategy makes nothing
made_opened : (v : Version) (told : Strategy) (ls : List Line) → made_by (strategy_lines v told ++ ls) ≡ made_by ls
made_opened version.One told ls = refl
made_opened version.Two told ls = refl

made_groups : (made : List Made) (rows : List GroupRow) → made_after made (map group_line rows) ≡ made
made_groups made [] = refl
made_groups made (r ∷ rows) = made_groups made rows

made_watches : (made : List Made) (rows : List WatchRow) → made_after made (map watch_line rows) ≡ made
made_watches made [] = refl
made_watches made (r ∷ rows) = made_watches made rows

made_last : (made : List Made) (groups : List GroupRow) (watches : List WatchRow) → made_after made (last_lines groups watches) ≡ made
made_last made groups watches =
    made_after-append made (map group_line groups) (map watch_line watches) ∙ ap (λ (m : List Made). made_after m (map watch_line watches)) (made_groups made groups) ∙ made_watches made watches

pub made_lines : (s : ScriptData) → made_by (lines_of s) ≡ map made_of s.clients
made_lines s =
    let topics = map topic_line s.topics in
    let publishers = flat_map publisher_lines s.publishers in
    let clients = flat_map client_lines s.clients in
    let last = last_lines s.groups s.watches in
    made_opened s.version s.shape.strategy (body_lines s)
    ∙ made_after-append [] topics (publishers ++ (clients ++ last))
    ∙ ap (λ (x : List Made). made_after x (publishers ++ (clients ++ last))) (made_topics [] s.topics)
    ∙ made_after-append [] publishers (clients ++ last)
    ∙ ap (λ (x : List Made). made_after x (clients ++ last)) (made_publishers [] s.publishers)
    ∙ made_after-append [] clients last
    ∙ ap (λ (x : List Made). made_after x last) (made_clients [] s.clients)
    ∙ made_last (map made_of s.clients) s.groups s.watches

-- ---- each line names what is there

abbrev pub AllNamed : List Made → List Line → Type 0
AllNamed made [] = Unit {0}
AllNamed made (l ∷ ls) = (is_named made l ≡ true) × AllNamed made ls

named_test : (b : Bool) (k : ℕ) (rest : Option ℕ) → cond b rest (Some k) ≡ None → (b ≡ true) × (rest ≡ None)
named_test true k rest e = (refl, e)
named_test false k rest e = absurd cc

pub all_named : (made : List Made) (k : ℕ) (ls : List Line) → unnamed_from made k ls ≡ None → AllNamed made ls
all_named made k [] e = tt
all_named made k (l ∷ ls) e = let p = named_test (is_named made l) k (unnamed_from made (suc k) ls) e in (p.0, all_named made (suc k) ls p.1)

named_split : (made : List Made) (xs ys : List Line) → AllNamed made (xs ++ ys) → AllNamed made xs × AllNamed made ys
named_split made [] ys h = (tt, h)
named_split made (x ∷ xs) ys h = let p = named_split made xs ys h.1 in ((h.0, p.0), p.1)

plan_named : (made : List Made) (rows : List PlanRow) → AllNamed made (map plan_line rows) → ArePlanned made rows
plan_named made [] h = tt
plan_named made (r ∷ rows) h = (h.0, plan_named made rows h.1)

object_named : (made : List Made) (faults : List FaultRow) (plan : List PlanRow) → AllNamed made (object_lines faults plan) → ArePlanned made plan
object_named made faults plan h = plan_named made plan (named_split made (map fault_line faults) (map plan_line plan) h).1

step_named : (made : List Made) (s : ClientLine) → AllNamed made (step_lines s) → IsStepNamed made s
step_named made (steps.Sub topic kind queue cache recaps faults plan) h = object_named made faults plan h.1
step_named made (steps.Timer queue interval plan) h = object_named made [] plan h.1
step_named made (steps.Inbox queue faults plan) h = object_named made faults plan h.1
step_named made (steps.Order order) h = h.0
step_named made (steps.Now moment) h = tt
step_named made steps.NowClock h = tt
step_named made (steps.Pause rounds) h = tt

steps_named : (made : List Made) (ss : List ClientLine) → AllNamed made (flat_map step_lines ss) → AreStepsNamed made ss
steps_named made [] h = tt
steps_named made (s ∷ ss) h = let p = named_split made (step_lines s) (flat_map step_lines ss) h in (step_named made s p.0, steps_named made ss p.1)

clients_named : (made : List Made) (cs : List (List ClientLine)) → AllNamed made (flat_map client_lines cs) → AllByRecursion (AreStepsNamed made) cs
clients_named made [] h = tt
clients_named made (c ∷ cs) h = let p = named_split made (flat_map step_lines c) (flat_map client_lines cs) h.1 in (steps_named made c p.0, clients_named made cs p.1)

pub script_named : (s : ScriptData) → unnamed_from (made_by (lines_of s)) 2 (lines_of s) ≡ None → AllByRecursion (AreStepsNamed (map made_of s.clients)) s.clients
script_named s h =
    let made = made_by (lines_of s) in
    let publishers = flat_map publisher_lines s.publishers in
    let clients = flat_map client_lines s.clients in
    let body = named_split made (strategy_lines s.version s.shape.strategy) (body_lines s) (all_named made 2 (lines_of s) h) in
    let last = last_lines s.groups s.watches in
    let t = named_split made (map topic_line s.topics) (publishers ++ (clients ++ last)) body.1.1 in
    let p = named_split made publishers (clients ++ last) t.1 in
    let c = named_split made clients last p.1 in
    subst (λ (m : List Made). AllByRecursion (AreStepsNamed m) s.clients) (made_lines s) (clients_named made s.clients c.0)
