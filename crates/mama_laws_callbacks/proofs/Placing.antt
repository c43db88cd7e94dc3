-- What the lines of an accepted script say of the members of its groups: each is a market subscription on the group's queue, and no
-- at line stops it.
use Rattle.std.specs.Prelude.{◌==◌, not, None, if◌then◌else◌}
use Rattle.std.specs.List.{AllByRecursion, flat_map}
use Rattle.std.proofs.Common.{◌≡◌, ℕ, suc, Bool, true, false, ◌&&◌, ◌||◌, List, [], ◌∷◌, ◌++◌, map, refl, ap, sym, subst, ◌∙◌, append_assoc, append-nil}
use Rattle.std.proofs.lemmas.Bool.{or_parts, and_parts, both_ways, eqb-true}
use Rattle.std.proofs.lemmas.List.Folds.{list_any-append}
use Rattle.mama_event.specs.declared.order.Order.{Order}
use Rattle.mama_event.specs.declared.order.Order.TheVariants as order
use Rattle.mama_event.specs.declared.order.PlanRow.{PlanRow}
use Rattle.mama_event.specs.declared.group.GroupRow.{GroupRow}
use Rattle.mama_event.specs.declared.watch.WatchRow.{WatchRow}
use Rattle.mama_event.specs.declared.shape.Strategy.{Strategy}
use Rattle.mama_link.specs.declared.faults.FaultRow.{FaultRow}
use Rattle.mama_msg.specs.declared.text.TextValue.{TextValue}
use Rattle.mama_words.specs.Id.{sub_word}
use Rattle.mama_words.specs.Order.{word_of}
use Rattle.mama_words.specs.declared.id.IdWord.{IdWord}
use Rattle.mama_words.specs.declared.order.OrderWord.TheVariants as orders
use Rattle.mama_words.specs.declared.version.Version.{Version}
use Rattle.mama_words.specs.declared.version.Version.TheVariants as version
use Rattle.mama_script.specs.declared.line.Line.{Line}
use Rattle.mama_script.specs.declared.line.Line.TheVariants as lines
use Rattle.mama_script.specs.declared.publisher.PublisherLine.{PublisherLine}
use Rattle.mama_script.specs.declared.publisher.PublisherLine.TheVariants as sends
use Rattle.mama_script.specs.declared.publisher.PublisherPart.{PublisherPart}
use Rattle.mama_script.specs.declared.client.ClientLine.{ClientLine}
use Rattle.mama_script.specs.declared.client.ClientLine.TheVariants as steps
use Rattle.mama_script.specs.Script.{ScriptData}
use Rattle.mama_script.specs.Tree.{plan_line, object_lines, step_lines, client_lines, publisher_line, publisher_lines, topic_line, strategy_lines, group_line, watch_line, last_lines, body_lines, lines_of, queue_name}
use Rattle.mama_script.specs.Placing.{Roster, Cast, no_roster, no_cast, with_sub, with_timer, with_inbox, at_last, cast_with, cast_after, cast_of, sub_in, is_market_on, may_join, may_group, group_queue, Placed, misplaced, placed_with, misplaced_from, has_id, same_id, with_id}
use Rattle.mama_script.proofs.Casting.{unless_none, fault_at_none}

-- ---- at lines that stop

same_word : (a b : IdWord) → same_id a b ≡ true → a ≡ b
same_word a b same =
    let parts = and_parts (a.client == b.client) (a.number == b.number) same in
    ap (λ (c : ℕ). record { client = c; number = a.number }) (eqb-true a.client b.client parts.0)
    ∙ ap (λ (n : ℕ). record { client = b.client; number = n }) (eqb-true a.number b.number parts.1)

module _ (id : IdWord) where
  abbrev IsNotStopped : Cast → Type 0
  IsNotStopped c = has_id id c.stops ≡ false

  before_id : (x : IdWord) (ids : List IdWord) → has_id id (with_id x ids) ≡ false → has_id id ids ≡ false
  before_id x ids none = either (has_id x ids) none
    where
      either : (b : Bool) → has_id id (if b then ids else ids ++ x ∷ []) ≡ false → has_id id ids ≡ false
      either true h = h
      either false h = (or_parts (has_id id ids) (same_id id x || false) (sym (list_any-append (same_id id) ids (x ∷ [])) ∙ h)).0

  not_false : (b : Bool) → (b ≡ true → ⊥) → b ≡ false
  not_false true h = absurd (h refl)
  not_false false h = refl

  other_id : (x : IdWord) (ids : List IdWord) → has_id id (with_id x ids) ≡ false → same_id id x ≡ false
  other_id x ids none = either (has_id x ids) refl none
    where
      either : (b : Bool) → has_id x ids ≡ b → has_id id (if b then ids else ids ++ x ∷ []) ≡ false → same_id id x ≡ false
      either true there h = not_false (same_id id x) (λ same. both_ways (has_id id ids) h (ap (λ (y : IdWord). has_id y ids) (same_word id x same) ∙ there))
      either false there h = (or_parts (same_id id x) false (or_parts (has_id id ids) (same_id id x || false) (sym (list_any-append (same_id id) ids (x ∷ [])) ∙ h)).1).0

  before_line : (c : Cast) (l : Line) → IsNotStopped (cast_with c l) → IsNotStopped c
  before_line c (lines.At call (orders.Stop x)) h = before_id x c.stops h
  before_line c (lines.At call (orders.Disarm x)) h = h
  before_line c (lines.At call (orders.Close x)) h = h
  before_line c (lines.At call (orders.Ask x topic fids)) h = h
  before_line c _ h = h

  before_lines : (c : Cast) (ls : List Line) → IsNotStopped (cast_after c ls) → IsNotStopped c
  before_lines c [] h = h
  before_lines c (l ∷ ls) h = before_line c l (before_lines (cast_with c l) ls h)

  -- a line stops another, or none
  abbrev pub StopsNot : Line → Type 0
  StopsNot (lines.At call (orders.Stop x)) = same_id id x ≡ false
  StopsNot _ = Unit {0}

  stops_not : (c : Cast) (l : Line) → IsNotStopped (cast_with c l) → StopsNot l
  stops_not c (lines.At call (orders.Stop x)) h = other_id x c.stops h
  stops_not c (lines.At call (orders.Disarm x)) h = tt
  stops_not c (lines.At call (orders.Close x)) h = tt
  stops_not c (lines.At call (orders.Ask x topic fids)) h = tt
  stops_not c _ h = tt

  pub all_stop_not : (c : Cast) (ls : List Line) → IsNotStopped (cast_after c ls) → AllByRecursion StopsNot ls
  all_stop_not c [] h = tt
  all_stop_not c (l ∷ ls) h = (stops_not c l (before_lines (cast_with c l) ls h), all_stop_not (cast_with c l) ls h)

-- ---- what each group line may name

module _ (c : Cast) where
  abbrev IsMember : ℕ → IdWord → Type 0
  IsMember queue id = (is_market_on queue (sub_in c id) ≡ true) × (has_id id c.stops ≡ false)

  not_true : (b : Bool) → not b ≡ true → b ≡ false
  not_true true h = absurd cc
  not_true false h = refl

  all_members : (queue : ℕ) (grouped ids : List IdWord) → may_group c queue grouped ids ≡ true → AllByRecursion (IsMember queue) ids
  all_members queue grouped [] may = tt
  all_members queue grouped (id ∷ ids) may =
      let p = and_parts (may_join c queue grouped id) (may_group c queue (grouped ++ id ∷ []) ids) may in
      let j = and_parts (is_market_on queue (sub_in c id) && not (has_id id grouped)) (not (has_id id c.stops)) p.0 in
      let m = and_parts (is_market_on queue (sub_in c id)) (not (has_id id grouped)) j.0 in
      ((m.0, not_true (has_id id c.stops) j.1), all_members queue (grouped ++ id ∷ []) ids p.1)

  abbrev pub IsGroup : GroupRow → Type 0
  IsGroup g = AllByRecursion (IsMember (group_queue c (map sub_word g.members))) (map sub_word g.members)

  groups_may : (p : Placed) (k : ℕ) (groups : List GroupRow) (rest : List Line) → misplaced_from c p k (map group_line groups ++ rest) ≡ None → AllByRecursion IsGroup groups
  groups_may p k [] rest none = tt
  groups_may p k (g ∷ groups) rest none =
      let ids : List IdWord = map sub_word g.members in
      let f = fault_at_none k (misplaced c p (lines.Group ids)) (misplaced_from c (placed_with p (lines.Group ids)) (suc k) (map group_line groups ++ rest)) none in
      (all_members (group_queue c ids) p.grouped ids (unless_none (may_group c (group_queue c ids) p.grouped ids) 13 f.0), groups_may (placed_with p (lines.Group ids)) (suc k) groups rest f.1)

  -- what stands behind other lines
  pub groups_behind : (front : List Line) (p : Placed) (k : ℕ) (groups : List GroupRow) (rest : List Line) → misplaced_from c p k (front ++ (map group_line groups ++ rest)) ≡ None → AllByRecursion IsGroup groups
  groups_behind [] p k groups rest none = groups_may p k groups rest none
  groups_behind (l ∷ front) p k groups rest none =
      groups_behind front (placed_with p l) (suc k) groups rest (fault_at_none k (misplaced c p l) (misplaced_from c (placed_with p l) (suc k) (front ++ (map group_line groups ++ rest))) none).1

-- ---- what the lines of clients make

abbrev pub rostered_with : ℕ → Roster → ClientLine → Roster
rostered_with n r (steps.Sub topic kind queue cache recaps faults plan) = with_sub n kind (queue_name queue) r
rostered_with n r (steps.Timer queue interval plan) = with_timer n (queue_name queue) r
rostered_with n r (steps.Inbox queue faults plan) = with_inbox (queue_name queue) r
rostered_with n r (steps.Order o) = r
rostered_with n r (steps.Now m) = r
rostered_with n r steps.NowClock = r
rostered_with n r (steps.Pause rounds) = r

abbrev pub rostered : ℕ → Roster → List ClientLine → Roster
rostered n r [] = r
rostered n r (l ∷ ls) = rostered n (rostered_with n r l) ls

at_last_of : (f : Roster → Roster) (rs : List Roster) (r : Roster) → at_last f (rs ++ r ∷ []) ≡ rs ++ f r ∷ []
at_last_of f [] r = refl
at_last_of f (x ∷ []) r = refl
at_last_of f (x ∷ y ∷ rs) r = ap (λ (xs : List Roster). x ∷ xs) (at_last_of f (y ∷ rs) r)

-- there are so many queues, and these clients
record IsCast (n : ℕ) (rs : List Roster) (c : Cast) : Type 0 where
  queues : c.queues ≡ n
  clients : c.clients ≡ rs

cast_append : (c : Cast) (xs ys : List Line) → cast_after c (xs ++ ys) ≡ cast_after (cast_after c xs) ys
cast_append c [] ys = refl
cast_append c (x ∷ xs) ys = cast_append (cast_with c x) xs ys

module _ (n : ℕ) (rs : List Roster) where
  plan_one : (c : Cast) (call : ℕ) (o : Order) → IsCast n rs c → IsCast n rs (cast_with c (lines.At call (word_of o)))
  plan_one c call (order.Stop x) is = record { queues = is.queues; clients = is.clients }
  plan_one c call (order.Disarm x) is = is
  plan_one c call (order.Close x) is = is
  plan_one c call (order.Ask x topic fids) is = is

  plan_kept : (c : Cast) (plan : List PlanRow) → IsCast n rs c → IsCast n rs (cast_after c (map plan_line plan))
  plan_kept c [] is = is
  plan_kept c (row ∷ plan) is = plan_kept (cast_with c (plan_line row)) plan (plan_one c row.call row.order is)

  object_kept : (c : Cast) (faults : List FaultRow) (plan : List PlanRow) → IsCast n rs c → IsCast n rs (cast_after c (object_lines faults plan))
  object_kept c [] plan is = plan_kept c plan is
  object_kept c (row ∷ faults) plan is = object_kept c faults plan is

  publishers_kept : (c : Cast) (sent : List PublisherLine) → IsCast n rs c → IsCast n rs (cast_after c (map publisher_line sent))
  publishers_kept c [] is = is
  publishers_kept c (sends.Update update ∷ sent) is = publishers_kept c sent is
  publishers_kept c (sends.Recap ∷ sent) is = publishers_kept c sent is
  publishers_kept c (sends.Pause rounds ∷ sent) is = publishers_kept c sent is

  sections_kept : (c : Cast) (parts : List PublisherPart) → IsCast n rs c → IsCast n rs (cast_after c (flat_map publisher_lines parts))
  sections_kept c [] is = is
  sections_kept c (part ∷ parts) is =
      subst (IsCast n rs) (sym (cast_append c (map publisher_line part.lines) (flat_map publisher_lines parts)))
      (sections_kept (cast_after c (map publisher_line part.lines)) parts (publishers_kept c part.lines is))

  topics_kept : (c : Cast) (topics : List TextValue) → IsCast n rs c → IsCast n rs (cast_after c (map topic_line topics))
  topics_kept c [] is = is
  topics_kept c (t ∷ topics) is = topics_kept c topics is

  watches_kept : (c : Cast) (watches : List WatchRow) → IsCast n rs c → IsCast n rs (cast_after c (map watch_line watches))
  watches_kept c [] is = is
  watches_kept c (w ∷ watches) is = watches_kept c watches is

  last_kept : (c : Cast) (groups : List GroupRow) (watches : List WatchRow) → IsCast n rs c → IsCast n rs (cast_after c (last_lines groups watches))
  last_kept c [] watches is = watches_kept c watches is
  last_kept c (g ∷ groups) watches is = last_kept c groups watches is

module _ (n : ℕ) (rs : List Roster) where
  changed : (c : Cast) (f : ℕ → Roster → Roster) (r : Roster) → IsCast n (rs ++ r ∷ []) c → IsCast n (rs ++ f n r ∷ []) (record c { clients = at_last (f c.queues) c.clients })
  changed c f r is = record {
    queues = is.queues;
    clients = ap (λ (q : ℕ). at_last (f q) c.clients) is.queues ∙ ap (at_last (f n)) is.clients ∙ at_last_of (f n) rs r;
  }

  step_made : (c : Cast) (r : Roster) (l : ClientLine) → IsCast n (rs ++ r ∷ []) c → IsCast n (rs ++ rostered_with n r l ∷ []) (cast_after c (step_lines l))
  step_made c r (steps.Sub topic kind queue cache recaps faults plan) is =
      object_kept n (rs ++ with_sub n kind (queue_name queue) r ∷ []) (cast_with c (lines.Sub topic kind (queue_name queue) cache recaps)) faults plan (changed c (λ q. with_sub q kind (queue_name queue)) r is)
  step_made c r (steps.Timer queue interval plan) is =
      object_kept n (rs ++ with_timer n (queue_name queue) r ∷ []) (cast_with c (lines.Timer (queue_name queue) interval)) [] plan (changed c (λ q. with_timer q (queue_name queue)) r is)
  step_made c r (steps.Inbox queue faults plan) is =
      object_kept n (rs ++ with_inbox (queue_name queue) r ∷ []) (cast_with c (lines.Inbox (queue_name queue))) faults plan (changed c (λ q. with_inbox (queue_name queue)) r is)
  step_made c r (steps.Order o) is = is
  step_made c r (steps.Now m) is = is
  step_made c r steps.NowClock is = is
  step_made c r (steps.Pause rounds) is = is

  steps_made : (c : Cast) (r : Roster) (ls : List ClientLine) → IsCast n (rs ++ r ∷ []) c → IsCast n (rs ++ rostered n r ls ∷ []) (cast_after c (flat_map step_lines ls))
  steps_made c r [] is = is
  steps_made c r (l ∷ ls) is =
      subst (IsCast n (rs ++ rostered n (rostered_with n r l) ls ∷ [])) (sym (cast_append c (step_lines l) (flat_map step_lines ls)))
      (steps_made (cast_after c (step_lines l)) (rostered_with n r l) ls (step_made c r l is))

clients_made : (n : ℕ) (rs : List Roster) (c : Cast) (clients : List (List ClientLine)) → IsCast n rs c
    → IsCast n (rs ++ map (rostered n no_roster) clients) (cast_after c (flat_map client_lines clients))
clients_made n rs c [] is = subst (λ (xs : List Roster). IsCast n xs c) (sym (append-nil rs)) is
clients_made n rs c (client ∷ clients) is =
    let opened : Cast = cast_with c lines.Client in
    let made : Cast = cast_after opened (flat_map step_lines client) in
    let r : Roster = rostered n no_roster client in
    let first : IsCast n (rs ++ r ∷ []) made = steps_made n rs opened no_roster client (record { queues = is.queues; clients = ap (λ (xs : List Roster). xs ++ no_roster ∷ []) is.clients }) in
    subst (λ (xs : List Roster). IsCast n xs (cast_after opened (flat_map step_lines client ++ flat_map client_lines clients))) (append_assoc rs (r ∷ []) (map (rostered n no_roster) clients))
    (subst (IsCast n ((rs ++ r ∷ []) ++ map (rostered n no_roster) clients)) (sym (cast_append opened (flat_map step_lines client) (flat_map client_lines clients)))
    (clients_made n (rs ++ r ∷ []) made clients first))

strategy_kept : (v : Version) (s : Strategy) → IsCast 0 [] (cast_after no_cast (strategy_lines v s))
strategy_kept version.One s = record { queues = refl; clients = refl }
strategy_kept version.Two s = record { queues = refl; clients = refl }

module _ (script : ScriptData) where
  abbrev count : ℕ
  count = script.shape.bounds.queues

  abbrev front_lines : List Line
  front_lines = map topic_line script.topics ++ (flat_map publisher_lines script.publishers ++ flat_map client_lines script.clients)

  -- what all its lines make: the clients' objects, line by line
  cast_made : IsCast count (map (rostered count no_roster) script.clients) (cast_of (lines_of script))
  cast_made =
      let start : Cast = cast_after no_cast (strategy_lines script.version script.shape.strategy) in
      let c0 : Cast = cast_with start (lines.Queues count) in
      let c1 : Cast = cast_after c0 (map topic_line script.topics) in
      let c2 : Cast = cast_after c1 (flat_map publisher_lines script.publishers) in
      let c3 : Cast = cast_after c2 (flat_map client_lines script.clients) in
      let made : List Roster = map (rostered count no_roster) script.clients in
      let first : IsCast count [] c0 = record { queues = refl; clients = (strategy_kept script.version script.shape.strategy).clients } in
      let is1 : IsCast count [] c1 = topics_kept count [] c0 script.topics first in
      let is2 : IsCast count [] c2 = sections_kept count [] c1 script.publishers is1 in
      let is3 : IsCast count made c3 = clients_made count [] c2 script.clients is2 in
      subst (IsCast count made)
      (sym (cast_append no_cast (strategy_lines script.version script.shape.strategy) (body_lines script)
      ∙ cast_append c0 (map topic_line script.topics) (flat_map publisher_lines script.publishers ++ (flat_map client_lines script.clients ++ last_lines script.groups script.watches))
      ∙ cast_append c1 (flat_map publisher_lines script.publishers) (flat_map client_lines script.clients ++ last_lines script.groups script.watches)
      ∙ cast_append c2 (flat_map client_lines script.clients) (last_lines script.groups script.watches)))
      (last_kept count made c3 script.groups script.watches is3)

  pub rosters_are : (cast_of (lines_of script)).clients ≡ map (rostered count no_roster) script.clients
  rosters_are = cast_made.clients
