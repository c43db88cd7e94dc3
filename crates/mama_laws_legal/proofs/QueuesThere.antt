-- The queues that the lines of a script name are there.
use Rattle.std.specs.Prelude.{slice_index_or, replicate, Option, None, Some, is_some}
use Rattle.std.specs.List.{AllByRecursion}
use Rattle.std.specs.Option.{option_or}
use Rattle.std.proofs.Common.{◌≡◌, ℕ, zero, suc, ◌<◌, ◌≤◌, Bool, true, false, cond, List, [], ◌∷◌, ◌++◌, length, refl, sym, ◌∙◌, ap, subst, arith}
use Rattle.std.proofs.lemmas.Bool.{both_ways}
use Rattle.std.proofs.lemmas.List.Concat.{flat_map-append}
use Rattle.mama_journal.specs.Journal.{first_said}
use Rattle.mama_event.specs.declared.ids.SubId.{SubId}
use Rattle.mama_event.specs.declared.ids.TimerId.{TimerId}
use Rattle.mama_event.specs.declared.ids.InboxId.{InboxId}
use Rattle.mama_event.specs.declared.order.Order.TheVariants as order
use Rattle.mama_event.specs.declared.to_bridge.SubTerms.{SubTerms}
use Rattle.mama_event.specs.declared.to_bridge.InboxTerms.{InboxTerms}
use Rattle.mama_event.specs.Object.{same_sub, same_timer, same_inbox}
use Rattle.mama_event.specs.Ports.{queues_of}
use Rattle.mama_rules_queue.specs.Queue.{QueuePut}
use Rattle.mama_script.specs.declared.client.ClientLine.{ClientLine}
use Rattle.mama_script.specs.declared.client.ClientLine.TheVariants as line
use Rattle.mama_script.specs.declared.client.QueueWord.{QueueWord}
use Rattle.mama_script.specs.declared.client.QueueWord.TheVariants.{Number, Any}
use Rattle.mama_script.specs.Within.{IsQueueWithin, IsStepWithin, IsClientWithin}
use Rattle.mama_rules_rounds.specs.Client.{Standing, at_first, queue_named, after_line, line_steps, steps_from}
use Rattle.mama_rules_rounds.specs.Sections.{all_client_steps}
use Rattle.mama_rules_legal.specs.Edges.{all_steps, client_puts}
use Rattle.mama_rules_legal.specs.Streams.{terms_put, inbox_terms_put}
use Rattle.mama_rules_legal.specs.Ticks.{arming_put}
use Rattle.mama_laws_legal.specs.Laws.{QueuesAreThere}

-- what each put says has a property
abbrev Each : {A : Type 0} → (QueuePut → Option A) → (A → Type 0) → List QueuePut → Type 0
Each {A} say P puts = AllByRecursion (λ (put : QueuePut). (a : A) → say put ≡ Some a → P a) puts

first : {A : Type 0} (say : QueuePut → Option A) (P : A → Type 0) (puts : List QueuePut) → Each say P puts → (a : A) → first_said say puts ≡ Some a → P a
first say P [] all a h = absurd (both_ways false refl (ap is_some h))
first {A} say P (x ∷ xs) all a h = by_case (say x) refl h (first say P xs all.1 a)
  where
    by_case : (o : Option A) → say x ≡ o → option_or o (first_said say xs) ≡ Some a → (first_said say xs ≡ Some a → P a) → P a
    by_case None is h rest = rest h
    by_case (Some y) is h rest = all.0 a (is ∙ h)

append : {A : Type 0} (say : QueuePut → Option A) (P : A → Type 0) (xs ys : List QueuePut) → Each say P xs → Each say P ys → Each say P (xs ++ ys)
append say P [] ys hx hy = hy
append say P (x ∷ xs) ys hx hy = (hx.0, append say P xs ys hx.1 hy)

joined : {A : Type 0} (say : QueuePut → Option A) (P : A → Type 0) (xs ys : List (List QueuePut)) → Each say P (all_steps xs) → Each say P (all_steps ys) → Each say P (all_steps (xs ++ ys))
joined say P xs ys hx hy = subst (Each say P) (sym (flat_map-append (λ step. step) xs ys)) (append say P (all_steps xs) (all_steps ys) hx hy)

pauses : {A : Type 0} (say : QueuePut → Option A) (P : A → Type 0) (n : ℕ) → Each say P (all_steps (replicate n []))
pauses say P zero = tt
pauses say P (suc n) = pauses say P n

-- what the clients' steps say, where what each line says has the property
clients_say : {A : Type 0} (say : QueuePut → Option A) (P : A → Type 0) (topics queues : ℕ)
    → ((c : ℕ) (s : Standing) (l : ClientLine) → IsStepWithin topics queues l → Each say P (all_steps (line_steps queues c s l)))
    → ((c : ℕ) (s : Standing) → Each say P (all_steps (steps_from queues c s [])))
    → (n : ℕ) (moments : List (List ℕ)) (clients : List (List ClientLine)) → AllByRecursion (IsClientWithin topics queues) clients → (k : ℕ) → Each say P (all_steps (slice_index_or (all_client_steps queues n moments clients) k []))
clients_say say P topics queues each end n moments [] within k = tt
clients_say say P topics queues each end n moments (ls ∷ rest) within zero = lines n (at_first (slice_index_or moments n [])) ls within.0.steps
  where
    lines : (c : ℕ) (s : Standing) (ls : List ClientLine) → AllByRecursion (IsStepWithin topics queues) ls → Each say P (all_steps (steps_from queues c s ls))
    lines c s [] all = end c s
    lines c s (l ∷ ls) all = joined say P (line_steps queues c s l) (steps_from queues c (after_line s l) ls) (each c s l all.0) (lines c (after_line s l) ls all.1)
clients_say say P topics queues each end n moments (ls ∷ rest) within (suc k) = clients_say say P topics queues each end (suc n) moments rest within.1 k

-- a queue that a word names
named : (queues : ℕ) (s : Standing) (word : QueueWord) → 1 ≤ queues → IsQueueWithin queues word → queue_named queues s word < queues
named queues s (Number n) some within = within
named queues s Any some within = omega arith

said_nothing : {A : Type 0} (a : A) → None ≡ Some a → ⊥
said_nothing a h = both_ways false refl (ap is_some h)

said_is : {A : Type 0} (b : Bool) (x a : A) → cond b (Some x) None ≡ Some a → x ≡ a
said_is {A} true x a h = ap or_else h
  where
    or_else : Option A → A
    or_else None = x
    or_else (Some y) = y
said_is false x a h = absurd (both_ways false refl (ap is_some h))

sub_line : (sub : SubId) (topics queues : ℕ) → 1 ≤ queues → (c : ℕ) (s : Standing) (l : ClientLine) → IsStepWithin topics queues l → Each (terms_put sub) (λ (t : SubTerms). t.queue < queues) (all_steps (line_steps queues c s l))
sub_line sub topics queues some c s (line.Sub topic kind queue cache recaps faults plan) within = (
  (λ a h.
      subst (λ (t : SubTerms). t.queue < queues) (said_is (same_sub (record { client = c; number = s.subs }) sub) (record { topic = topic; kind = kind; queue = queue_named queues s queue; cache = cache; recaps = recaps; faults = faults }) a h)
      (named queues s queue some within.1)),
  tt,
)
sub_line sub topics queues some c s (line.Timer queue interval plan) within = ((λ a h. absurd (said_nothing a h)), tt)
sub_line sub topics queues some c s (line.Inbox queue faults plan) within = ((λ a h. absurd (said_nothing a h)), tt)
sub_line sub topics queues some c s (line.Order (order.Stop x)) within = ((λ a h. absurd (said_nothing a h)), tt)
sub_line sub topics queues some c s (line.Order (order.Disarm x)) within = ((λ a h. absurd (said_nothing a h)), tt)
sub_line sub topics queues some c s (line.Order (order.Close x)) within = ((λ a h. absurd (said_nothing a h)), tt)
sub_line sub topics queues some c s (line.Order (order.Ask x topic fids)) within = ((λ a h. absurd (said_nothing a h)), tt)
sub_line sub topics queues some c s (line.Now m) within = ((λ a h. absurd (said_nothing a h)), tt)
sub_line sub topics queues some c s line.NowClock within = ((λ a h. absurd (said_nothing a h)), tt)
sub_line sub topics queues some c s (line.Pause n) within = pauses (terms_put sub) (λ (t : SubTerms). t.queue < queues) n

inbox_line : (inbox : InboxId) (topics queues : ℕ) → 1 ≤ queues → (c : ℕ) (s : Standing) (l : ClientLine) → IsStepWithin topics queues l → Each (inbox_terms_put inbox) (λ (t : InboxTerms). t.queue < queues) (all_steps (line_steps queues c s l))
inbox_line inbox topics queues some c s (line.Sub topic kind queue cache recaps faults plan) within = ((λ a h. absurd (said_nothing a h)), tt)
inbox_line inbox topics queues some c s (line.Timer queue interval plan) within = ((λ a h. absurd (said_nothing a h)), tt)
inbox_line inbox topics queues some c s (line.Inbox queue faults plan) within = (
  (λ a h.
      subst (λ (t : InboxTerms). t.queue < queues) (said_is (same_inbox (record { client = c; number = s.inboxes }) inbox) (record { queue = queue_named queues s queue; faults = faults }) a h)
      (named queues s queue some within.0)),
  tt,
)
inbox_line inbox topics queues some c s (line.Order (order.Stop x)) within = ((λ a h. absurd (said_nothing a h)), tt)
inbox_line inbox topics queues some c s (line.Order (order.Disarm x)) within = ((λ a h. absurd (said_nothing a h)), tt)
inbox_line inbox topics queues some c s (line.Order (order.Close x)) within = ((λ a h. absurd (said_nothing a h)), tt)
inbox_line inbox topics queues some c s (line.Order (order.Ask x topic fids)) within = ((λ a h. absurd (said_nothing a h)), tt)
inbox_line inbox topics queues some c s (line.Now m) within = ((λ a h. absurd (said_nothing a h)), tt)
inbox_line inbox topics queues some c s line.NowClock within = ((λ a h. absurd (said_nothing a h)), tt)
inbox_line inbox topics queues some c s (line.Pause n) within = pauses (inbox_terms_put inbox) (λ (t : InboxTerms). t.queue < queues) n

timer_line : (timer : TimerId) (topics queues : ℕ) → 1 ≤ queues → (c : ℕ) (s : Standing) (l : ClientLine) → IsStepWithin topics queues l → Each (arming_put timer) (λ (t : ℕ × ℕ). t.0 < queues) (all_steps (line_steps queues c s l))
timer_line timer topics queues some c s (line.Sub topic kind queue cache recaps faults plan) within = ((λ a h. absurd (said_nothing a h)), tt)
timer_line timer topics queues some c s (line.Timer queue interval plan) within = (
  (λ a h.
      let terms : ℕ × ℕ = (queue_named queues s queue, interval) in
      subst (λ (t : ℕ × ℕ). t.0 < queues) (said_is (same_timer (record { client = c; number = s.timers }) timer) terms a h) (named queues s queue some within.0)),
  tt,
)
timer_line timer topics queues some c s (line.Inbox queue faults plan) within = ((λ a h. absurd (said_nothing a h)), tt)
timer_line timer topics queues some c s (line.Order (order.Stop x)) within = ((λ a h. absurd (said_nothing a h)), tt)
timer_line timer topics queues some c s (line.Order (order.Disarm x)) within = ((λ a h. absurd (said_nothing a h)), tt)
timer_line timer topics queues some c s (line.Order (order.Close x)) within = ((λ a h. absurd (said_nothing a h)), tt)
timer_line timer topics queues some c s (line.Order (order.Ask x topic fids)) within = ((λ a h. absurd (said_nothing a h)), tt)
timer_line timer topics queues some c s (line.Now m) within = ((λ a h. absurd (said_nothing a h)), tt)
timer_line timer topics queues some c s line.NowClock within = ((λ a h. absurd (said_nothing a h)), tt)
timer_line timer topics queues some c s (line.Pause n) within = pauses (arming_put timer) (λ (t : ℕ × ℕ). t.0 < queues) n

pub queues_there : QueuesAreThere
queues_there script run within = record {
  subs = λ sub terms says. first (terms_put sub) (λ (t : SubTerms). t.queue < queues_of script.shape) (client_puts script run.clients sub.client)
      (clients_say (terms_put sub) (λ (t : SubTerms). t.queue < queues_of script.shape) (length script.topics) (queues_of script.shape) (sub_line sub (length script.topics) (queues_of script.shape) within.queues_some)
      (λ c s. ((λ a h. absurd (said_nothing a h)), ((λ a h. absurd (said_nothing a h)), tt))) 0 run.clients script.clients within.clients sub.client) terms says;
  timers = λ timer terms says. first (arming_put timer) (λ (t : ℕ × ℕ). t.0 < queues_of script.shape) (client_puts script run.clients timer.client)
      (clients_say (arming_put timer) (λ (t : ℕ × ℕ). t.0 < queues_of script.shape) (length script.topics) (queues_of script.shape) (timer_line timer (length script.topics) (queues_of script.shape) within.queues_some)
      (λ c s. ((λ a h. absurd (said_nothing a h)), ((λ a h. absurd (said_nothing a h)), tt))) 0 run.clients script.clients within.clients timer.client) terms says;
  inboxes = λ inbox terms says. first (inbox_terms_put inbox) (λ (t : InboxTerms). t.queue < queues_of script.shape) (client_puts script run.clients inbox.client)
      (clients_say (inbox_terms_put inbox) (λ (t : InboxTerms). t.queue < queues_of script.shape) (length script.topics) (queues_of script.shape) (inbox_line inbox (length script.topics) (queues_of script.shape) within.queues_some)
      (λ c s. ((λ a h. absurd (said_nothing a h)), ((λ a h. absurd (said_nothing a h)), tt))) 0 run.clients script.clients within.clients inbox.client) terms says;
}
