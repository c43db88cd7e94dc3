-- What a script declares has small numbers.
use Rattle.std.specs.Prelude.{is_some, option_and_then, slice_get}
use Rattle.std.specs.List.{AllByRecursion}
use Rattle.std.proofs.Common.{◌≡◌, ℕ, zero, suc, ◌+◌, ◌≤◌, ◌<◌, true, List, [], ◌∷◌, ◌++◌, length, map, ◌∙◌, arith}
use Rattle.std.proofs.lemmas.List.{length-map, length-append}
use Rattle.mama_event.specs.declared.ids.SubId.{SubId}
use Rattle.mama_event.specs.declared.ids.TimerId.{TimerId}
use Rattle.mama_event.specs.declared.ids.InboxId.{InboxId}
use Rattle.mama_script.specs.declared.client.ClientLine.{ClientLine}
use Rattle.mama_script.specs.declared.client.ClientLine.TheVariants as line
use Rattle.mama_script.specs.Script.{ScriptData}
use Rattle.mama_script.specs.Tree.{IsScript}
use Rattle.mama_script.specs.Within.{subs_of, subs_in, objects_of, objects_in, all_subs, IsClientWithin, IsWithin}
use Rattle.mama_log_line.specs.Names.{ClientData, NamesData, turns_after, data_with, data_after, data_of, no_data, names_of, queue_at, IsSub, IsTimer, IsInbox}
use Rattle.mama_laws_genuine.proofs.Elements.{all_map, all_weaker}

-- the clients and the numbers of what is declared are small
pub record IsFew (names : NamesData) : Type 0 where
  pub subs : (s : SubId) → IsSub names s → (s.client < 64) × (s.number < 10000)
  pub timers : (t : TimerId) → IsTimer names t → (t.client < 64) × (t.number < 1024)
  pub inboxes : (i : InboxId) → IsInbox names i → (i.client < 64) × (i.number < 1024)

-- ---- a place in a list of a list's elements

within : {X : Type 0} (xs : List X) (i : ℕ) → is_some (slice_get xs i) ≡ true → i < length xs
within [] i found = absurd cc
within (x ∷ xs) zero found = omega arith
within (x ∷ xs) (suc i) found = omega (arith, within xs i found)

placed : {X Y : Type 0} (f : X → List Y) (most : ℕ) (xs : List X) → AllByRecursion (λ x. length (f x) ≤ most) xs
    → (i j : ℕ) → is_some (option_and_then (λ x. slice_get (f x) j) (slice_get xs i)) ≡ true → (i < length xs) × (j < most)
placed f most [] all i j found = absurd cc
placed f most (x ∷ xs) all zero j found = (omega arith, omega (arith, within (f x) j found, all.0))
placed f most (x ∷ xs) all (suc i) j found =
    let rest = placed f most xs all.1 i j found in
    (omega (arith, rest.0), rest.1)

-- ---- how many objects lines declare

pushed : {X : Type 0} (xs : List X) (x : X) → length (xs ++ x ∷ []) ≡ length xs + 1
pushed xs x = length-append xs (x ∷ [])

joined : (more n one rest : ℕ) → more ≡ n + one → more + rest ≡ n + (one + rest)
joined more n one rest same = omega arith

subs_with : (queues turns : ℕ) (d : ClientData) (l : ClientLine) → length (data_with queues turns d l).subs ≡ length d.subs + subs_of l
subs_with queues turns d (line.Sub topic kind queue cache recaps faults plan) = pushed d.subs _
subs_with queues turns d (line.Timer queue interval plan) = omega arith
subs_with queues turns d (line.Inbox queue faults plan) = omega arith
subs_with queues turns d (line.Order o) = omega arith
subs_with queues turns d (line.Now m) = omega arith
subs_with queues turns d line.NowClock = omega arith
subs_with queues turns d (line.Pause n) = omega arith

subs_after : (queues turns : ℕ) (d : ClientData) (ls : List ClientLine) → length (data_after queues turns d ls).subs ≡ length d.subs + subs_in ls
subs_after queues turns d [] = omega arith
subs_after queues turns d (l ∷ ls) =
    subs_after queues (turns_after turns l) (data_with queues turns d l) ls
    ∙ joined (length (data_with queues turns d l).subs) (length d.subs) (subs_of l) (subs_in ls) (subs_with queues turns d l)

abbrev objects : ClientData → ℕ
objects d = length d.timers + length d.inboxes

objects_with : (queues turns : ℕ) (d : ClientData) (l : ClientLine) → objects (data_with queues turns d l) ≡ objects d + objects_of l
objects_with queues turns d (line.Sub topic kind queue cache recaps faults plan) = omega arith
objects_with queues turns d (line.Timer queue interval plan) =
    let more = pushed d.timers (record { queue = queue_at queues turns queue; interval = interval }) in omega (arith, more)
objects_with queues turns d (line.Inbox queue faults plan) =
    let more = pushed d.inboxes (record { queue = queue_at queues turns queue; faults = faults }) in omega (arith, more)
objects_with queues turns d (line.Order o) = omega arith
objects_with queues turns d (line.Now m) = omega arith
objects_with queues turns d line.NowClock = omega arith
objects_with queues turns d (line.Pause n) = omega arith

objects_after : (queues turns : ℕ) (d : ClientData) (ls : List ClientLine) → objects (data_after queues turns d ls) ≡ objects d + objects_in ls
objects_after queues turns d [] = omega arith
objects_after queues turns d (l ∷ ls) =
    objects_after queues (turns_after turns l) (data_with queues turns d l) ls
    ∙ joined (objects (data_with queues turns d l)) (objects d) (objects_of l) (objects_in ls) (objects_with queues turns d l)

-- ---- so they are few

few_subs : (clients : List (List ClientLine)) → all_subs clients ≤ 10000 → AllByRecursion (λ client. subs_in client ≤ 10000) clients
few_subs [] few = tt
few_subs (client ∷ clients) few = (omega (arith, few), few_subs clients (omega (arith, few)))

module _ (script : ScriptData) (is : IsWithin script) (queues : ℕ) where
  subs_small : AllByRecursion (λ (d : ClientData). length d.subs ≤ 10000) (map (data_of queues) script.clients)
  subs_small =
      all_map (λ (client : List ClientLine). subs_in client ≤ 10000) (λ (d : ClientData). length d.subs ≤ 10000) (data_of queues)
      (λ client small. omega (arith, subs_after queues 0 no_data client, small)) script.clients (few_subs script.clients is.subs_few)

  objects_small : AllByRecursion (λ (d : ClientData). objects d ≤ 1024) (map (data_of queues) script.clients)
  objects_small =
      all_map (IsClientWithin (length script.topics) script.shape.bounds.queues) (λ (d : ClientData). objects d ≤ 1024) (data_of queues)
      (λ client small. omega (arith, objects_after queues 0 no_data client, small.objects)) script.clients is.clients

  timers_small : AllByRecursion (λ (d : ClientData). length d.timers ≤ 1024) (map (data_of queues) script.clients)
  timers_small =
      all_weaker (λ (d : ClientData). objects d ≤ 1024) (λ (d : ClientData). length d.timers ≤ 1024) (λ d small. omega (arith, small)) (map (data_of queues) script.clients) objects_small

  inboxes_small : AllByRecursion (λ (d : ClientData). length d.inboxes ≤ 1024) (map (data_of queues) script.clients)
  inboxes_small =
      all_weaker (λ (d : ClientData). objects d ≤ 1024) (λ (d : ClientData). length d.inboxes ≤ 1024) (λ d small. omega (arith, small)) (map (data_of queues) script.clients) objects_small

  -- a place among what the clients declare
  within_script : (i j most : ℕ) → (i < length (map (data_of queues) script.clients)) × (j < most) → (i < 64) × (j < most)
  within_script i j most place = (omega (arith, length-map script.clients (data_of queues), is.clients_few, place.0), place.1)

pub names_few : (script : ScriptData) → IsScript script → IsWithin script → IsFew (names_of script)
names_few script is small =
    let queues : ℕ = script.shape.bounds.queues in
    let clients : List ClientData = map (data_of queues) script.clients in
    record {
      subs = λ s h. within_script script small queues s.client s.number 10000
          (placed (λ (d : ClientData). d.subs) 10000 clients (subs_small script small queues) s.client s.number h.declared);
      timers = λ t h. within_script script small queues t.client t.number 1024
          (placed (λ (d : ClientData). d.timers) 1024 clients (timers_small script small queues) t.client t.number h.declared);
      inboxes = λ i h. within_script script small queues i.client i.number 1024
          (placed (λ (d : ClientData). d.inboxes) 1024 clients (inboxes_small script small queues) i.client i.number h.declared);
    }
