-- What clients put is what a log may have of it: each object with the terms of the script's line, each order of an object that is made.
use Rattle.std.specs.Prelude.{◌^◌, slice_get, slice_index_or, replicate, Some}
use Rattle.std.specs.List.{AllByRecursion}
use Rattle.std.proofs.Common.{◌≡◌, ℕ, zero, suc, ◌+◌, ◌<◌, ◌≤◌, List, [], ◌∷◌, length, map, refl, sym, subst, arith}
use Rattle.std.proofs.lemmas.List.Concat.{flat_map-append}
use Rattle.mama_event.specs.Ports.{queues_of}
use Rattle.mama_event.specs.declared.order.Order.{Order}
use Rattle.mama_event.specs.declared.order.Order.TheVariants as orders
use Rattle.mama_event.specs.declared.to_bridge.SubTerms.{SubTerms}
use Rattle.mama_event.specs.declared.to_bridge.InboxTerms.{InboxTerms}
use Rattle.mama_rules_queue.specs.Queue.{QueuePut, order_put}
use Rattle.mama_script.specs.declared.client.ClientLine.{ClientLine}
use Rattle.mama_script.specs.declared.client.ClientLine.TheVariants as line
use Rattle.mama_script.specs.declared.client.QueueWord.{QueueWord}
use Rattle.mama_script.specs.declared.client.QueueWord.TheVariants.{Number, Any}
use Rattle.mama_script.specs.Script.{ScriptData}
use Rattle.mama_script.specs.Tree.{IsScript}
use Rattle.mama_script.specs.Within.{IsWithin, IsClientWithin, IsStepWithin, IsStepNamed, AreStepsNamed, made_of}
use Rattle.mama_rules_rounds.specs.Client.{Standing, at_first, first_moment, later_moments, queue_named, after_word, after_line, line_steps, steps_from}
use Rattle.mama_rules_rounds.specs.Sections.{all_client_steps}
use Rattle.mama_rules_legal.specs.Edges.{all_steps, client_puts}
use Rattle.mama_log_line.specs.declared.names.TimerTerms.{TimerTerms}
use Rattle.mama_log_line.specs.Names.{ClientData, NamesData, no_data, turns_after, data_with, data_after, data_of, names_of}
use Rattle.mama_log_line.specs.Entering.{MayOrder}
use Rattle.mama_laws_genuine.proofs.Elements.{all_append, all_at}
use Rattle.mama_laws_logged.proofs.Fits.{ClientPut}
use Rattle.mama_laws_logged.proofs.Accepted.{IsStepSound, clients_sound}
use Rattle.mama_laws_logged.proofs.Declared.{all_get, Grows, grows_not, all_grown, grows_more, IsKnown, sub_terms, timer_terms, inbox_terms, is_sub, is_timer, is_inbox, known, may_order}
use Rattle.mama_laws_logged.proofs.Standing.{IsAt, starts, moved, sub_at, timer_at, inbox_at}

-- moments as their type has them
abbrev AreSmall : List ℕ → Type 0
AreSmall moments = AllByRecursion (λ (m : ℕ). m < 2 ^ 64) moments

first_small : (moments : List ℕ) → AreSmall moments → first_moment moments < 2 ^ 64
first_small [] all = omega arith
first_small (m ∷ ms) all = all.0

later_small : (moments : List ℕ) → AreSmall moments → AreSmall (later_moments moments)
later_small [] all = tt
later_small (m ∷ ms) all = all.1

word_moments : (st : Standing) (word : QueueWord) → AreSmall st.moments → AreSmall (after_word st word).moments
word_moments st (Number q) all = all
word_moments st Any all = all

still_small : (st : Standing) (l : ClientLine) → AreSmall st.moments → AreSmall (after_line st l).moments
still_small st (line.Sub topic kind queue cache recaps faults plan) all = word_moments st queue all
still_small st (line.Timer queue interval plan) all = word_moments st queue all
still_small st (line.Inbox queue faults plan) all = word_moments st queue all
still_small st (line.Order o) all = all
still_small st (line.Now m) all = all
still_small st line.NowClock all = later_small st.moments all
still_small st (line.Pause n) all = all

-- an order that may be given is put as it may be
ordered : (names : NamesData) (o : Order) → MayOrder names o → ClientPut names (order_put o)
ordered names (orders.Stop id) may = may
ordered names (orders.Disarm id) may = may
ordered names (orders.Close id) may = may
ordered names (orders.Ask inbox topic fids) may = may

paused : (names : NamesData) (n : ℕ) → AllByRecursion (ClientPut names) (all_steps (replicate n []))
paused names zero = tt
paused names (suc n) = paused names n

module _ (script : ScriptData) (is : IsScript script) (within : IsWithin script) where
  abbrev names : NamesData
  names = names_of script

  abbrev queues : ℕ
  queues = queues_of script.shape

  abbrev Within : ClientLine → Type 0
  Within l = IsStepWithin (length script.topics) script.shape.bounds.queues l

  abbrev Named : ClientLine → Type 0
  Named l = IsStepNamed (map made_of script.clients) l

  module _ (c : ℕ) (all : ClientData) (of : IsKnown names c all) where
    -- what one line puts
    own : (st : Standing) (turns : ℕ) (d : ClientData) (l : ClientLine) → IsAt st turns d → Grows (data_with queues turns d l) all
        → IsStepSound script.version l → Within l → Named l → AreSmall st.moments → AllByRecursion (ClientPut names) (all_steps (line_steps queues c st l))
    own st turns d (line.Sub topic kind queue cache recaps faults plan) at grows sound inside named small =
        let terms : SubTerms = record { topic = topic; kind = kind; queue = queue_named queues st queue; cache = cache; recaps = recaps; faults = faults } in
        let has : slice_get all.subs st.subs ≡ Some terms = sub_at queues st turns d all at terms queue grows in
        ((is_sub names c all of st.subs terms has, sub_terms names c all of st.subs terms has, refl), tt)
    own st turns d (line.Timer queue interval plan) at grows sound inside named small =
        let terms : TimerTerms = record { queue = queue_named queues st queue; interval = interval } in
        let has : slice_get all.timers st.timers ≡ Some terms = timer_at queues st turns d all at interval queue grows in
        ((is_timer names c all of st.timers terms has, timer_terms names c all of st.timers terms has, refl), tt)
    own st turns d (line.Inbox queue faults plan) at grows sound inside named small =
        let terms : InboxTerms = record { queue = queue_named queues st queue; faults = faults } in
        let has : slice_get all.inboxes st.inboxes ≡ Some terms = inbox_at queues st turns d all at faults queue grows in
        ((is_inbox names c all of st.inboxes terms has, inbox_terms names c all of st.inboxes terms has, refl), tt)
    own st turns d (line.Order o) at grows sound inside named small = (ordered names o (may_order script within is o sound.0 inside named), tt)
    own st turns d (line.Now m) at grows sound inside named small = (within_type m sound.0, tt)
      where
        within_type : (m : ℕ) → m ≤ 9223372036854775807 → m < 2 ^ 64
        within_type m few = omega arith
    own st turns d line.NowClock at grows sound inside named small = (first_small st.moments small, tt)
    own st turns d (line.Pause n) at grows sound inside named small = paused names n

    puts : (st : Standing) (turns : ℕ) (d : ClientData) (ls : List ClientLine) → IsAt st turns d → Grows (data_after queues turns d ls) all
        → AllByRecursion (IsStepSound script.version) ls → AllByRecursion Within ls → AllByRecursion Named ls → AreSmall st.moments
        → AllByRecursion (ClientPut names) (all_steps (steps_from queues c st ls))
    puts st turns d [] at grows sound inside named small = (tt, (tt, tt))
    puts st turns d (l ∷ ls) at grows sound inside named small =
        let e : ClientData = data_with queues turns d l in
        subst (λ (outs : List QueuePut). AllByRecursion (ClientPut names) outs)
        (sym (flat_map-append (λ step. step) (line_steps queues c st l) (steps_from queues c (after_line st l) ls)))
        (all_append (ClientPut names) (all_steps (line_steps queues c st l)) (all_steps (steps_from queues c (after_line st l) ls))
        (own st turns d l at (grows_more e (data_after queues (turns_after turns l) e ls) all (all_grown queues (turns_after turns l) e ls) grows) sound.0 inside.0 named.0 small)
        (puts (after_line st l) (turns_after turns l) e ls (moved queues st turns d l at) grows sound.1 inside.1 named.1 (still_small st l small)))

  of_client : (c : ℕ) (lines : List ClientLine) (moments : List ℕ) → slice_get script.clients c ≡ Some lines → AreSmall moments
      → AllByRecursion (ClientPut names) (all_steps (steps_from queues c (at_first moments) lines))
  of_client c lines moments at small =
      puts c (data_of queues lines) (known script within c lines at) (at_first moments) 0 no_data lines (starts moments) (grows_not (data_of queues lines))
      (all_get (AllByRecursion (IsStepSound script.version)) script.clients c lines (clients_sound script is) at)
      (all_get (IsClientWithin (length script.topics) script.shape.bounds.queues) script.clients c lines within.clients at).steps
      (all_get (AreStepsNamed (map made_of script.clients)) script.clients c lines within.named at)
      small

-- what holds of the steps of each client's lines holds of those of any number, where there are none past the last client
each_client : (P : List QueuePut → Type 0) (queues n : ℕ) (moments : List (List ℕ)) (clients : List (List ClientLine)) (k : ℕ) → P []
    → ((c : ℕ) (lines : List ClientLine) → c ≡ n + k → slice_get clients k ≡ Some lines → P (all_steps (steps_from queues c (at_first (slice_index_or moments c [])) lines)))
    → P (all_steps (slice_index_or (all_client_steps queues n moments clients) k []))
each_client P queues n moments [] k nothing each = nothing
each_client P queues n moments (lines ∷ clients) zero nothing each = each n lines (omega arith) refl
each_client P queues n moments (lines ∷ clients) (suc k) nothing each =
    each_client P queues (suc n) moments clients k nothing (λ c ls number at. each c ls (omega arith) at)

pub clients_fit : (script : ScriptData) → IsScript script → IsWithin script → (moments : List (List ℕ))
    → AllByRecursion (AllByRecursion (λ (m : ℕ). m < 2 ^ 64)) moments → (c : ℕ)
    → AllByRecursion (ClientPut (names_of script)) (client_puts script moments c)
clients_fit script is within moments small c =
    each_client (λ (outs : List QueuePut). AllByRecursion (ClientPut (names_of script)) outs) (queues_of script.shape) 0 moments script.clients c tt
    (λ n lines number at. of_client script is within n lines (slice_index_or moments n [])
    (subst (λ (k : ℕ). slice_get script.clients k ≡ Some lines) (same c n number) at) (all_at (λ (m : ℕ). m < 2 ^ 64) moments n small))
  where
    same : (c n : ℕ) → n ≡ 0 + c → c ≡ n
    same c n number = omega arith
