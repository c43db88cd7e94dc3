-- Where a client stands before a line, beside what its lines declared so far: a line makes the object whose terms its names have.
use Rattle.std.specs.Prelude.{slice_get, Some}
use Rattle.std.proofs.Common.{◌≡◌, ℕ, suc, List, [], ◌∷◌, ◌++◌, length, refl, sym, ◌∙◌, ap, arith}
use Rattle.mama_event.specs.declared.to_bridge.SubTerms.{SubTerms}
use Rattle.mama_event.specs.declared.to_bridge.InboxTerms.{InboxTerms}
use Rattle.mama_link.specs.declared.faults.FaultRow.{FaultRow}
use Rattle.mama_script.specs.declared.client.ClientLine.{ClientLine}
use Rattle.mama_script.specs.declared.client.ClientLine.TheVariants as line
use Rattle.mama_script.specs.declared.client.QueueWord.{QueueWord}
use Rattle.mama_script.specs.declared.client.QueueWord.TheVariants.{Number, Any}
use Rattle.mama_rules_rounds.specs.Client.{Standing, at_first, queue_named, after_word, after_line}
use Rattle.mama_log_line.specs.declared.names.TimerTerms.{TimerTerms}
use Rattle.mama_log_line.specs.Names.{ClientData, no_data, queue_at, turns_with, turns_after, data_with}
use Rattle.mama_laws_logged.proofs.Declared.{place_last, length_push, Grows}

-- as many objects of each kind as are declared, and as many turns
pub record IsAt (st : Standing) (turns : ℕ) (d : ClientData) : Type 0 where
  pub subs : st.subs ≡ length d.subs
  pub timers : st.timers ≡ length d.timers
  pub inboxes : st.inboxes ≡ length d.inboxes
  pub taken : st.turns ≡ turns

pub starts : (moments : List ℕ) → IsAt (at_first moments) 0 no_data
starts moments = record { subs = refl; timers = refl; inboxes = refl; taken = refl }

-- ---- a line moves both

grown_by : {X : Type 0} (n : ℕ) (xs : List X) (x : X) → n ≡ length xs → suc n ≡ length (xs ++ x ∷ [])
grown_by n xs x is = ap suc is ∙ sym (length_push xs x)

turned : (st : Standing) (turns : ℕ) (d : ClientData) (word : QueueWord) → IsAt st turns d → IsAt (after_word st word) (turns_with turns word) d
turned st turns d (Number q) at = at
turned st turns d Any at = record { subs = at.subs; timers = at.timers; inboxes = at.inboxes; taken = omega (arith, at.taken) }

pub moved : (queues : ℕ) (st : Standing) (turns : ℕ) (d : ClientData) (l : ClientLine) → IsAt st turns d
    → IsAt (after_line st l) (turns_after turns l) (data_with queues turns d l)
moved queues st turns d (line.Sub topic kind queue cache recaps faults plan) at =
    let next : IsAt (after_word st queue) (turns_with turns queue) d = turned st turns d queue at in
    let terms : SubTerms = record { topic = topic; kind = kind; queue = queue_at queues turns queue; cache = cache; recaps = recaps; faults = faults } in
    record { subs = grown_by st.subs d.subs terms at.subs; timers = next.timers; inboxes = next.inboxes; taken = next.taken }
moved queues st turns d (line.Timer queue interval plan) at =
    let next : IsAt (after_word st queue) (turns_with turns queue) d = turned st turns d queue at in
    let terms : TimerTerms = record { queue = queue_at queues turns queue; interval = interval } in
    record { subs = next.subs; timers = grown_by st.timers d.timers terms at.timers; inboxes = next.inboxes; taken = next.taken }
moved queues st turns d (line.Inbox queue faults plan) at =
    let next : IsAt (after_word st queue) (turns_with turns queue) d = turned st turns d queue at in
    let terms : InboxTerms = record { queue = queue_at queues turns queue; faults = faults } in
    record { subs = next.subs; timers = next.timers; inboxes = grown_by st.inboxes d.inboxes terms at.inboxes; taken = next.taken }
moved queues st turns d (line.Order o) at = at
moved queues st turns d (line.Now m) at = at
moved queues st turns d line.NowClock at = record { subs = at.subs; timers = at.timers; inboxes = at.inboxes; taken = at.taken }
moved queues st turns d (line.Pause n) at = at

-- ---- the object of a line has its terms among all that is declared

same_queue : (queues : ℕ) (st : Standing) (turns : ℕ) (word : QueueWord) → st.turns ≡ turns → queue_at queues turns word ≡ queue_named queues st word
same_queue queues st turns (Number q) is = refl
same_queue queues st turns Any is = ap (λ (n : ℕ). queue_at queues n Any) (sym is)

at_number : {X : Type 0} (all : List X) (m n : ℕ) (x y : X) → n ≡ m → x ≡ y → slice_get all m ≡ Some x → slice_get all n ≡ Some y
at_number all m n x y number same at = ap (λ k. slice_get all k) number ∙ at ∙ ap (λ z. Some z) same

module _ (queues : ℕ) (st : Standing) (turns : ℕ) (d all : ClientData) (at : IsAt st turns d) where
  pub sub_at : (terms : SubTerms) (queue : QueueWord)
      → Grows (record d { subs = d.subs ++ record terms { queue = queue_at queues turns queue } ∷ [] }) all
      → slice_get all.subs st.subs ≡ Some (record terms { queue = queue_named queues st queue })
  sub_at terms queue grows =
      at_number all.subs (length d.subs) st.subs (record terms { queue = queue_at queues turns queue }) (record terms { queue = queue_named queues st queue })
      at.subs (ap (λ (q : ℕ). record terms { queue = q }) (same_queue queues st turns queue at.taken))
      (grows.subs (length d.subs) (record terms { queue = queue_at queues turns queue }) (place_last d.subs (record terms { queue = queue_at queues turns queue })))

  pub timer_at : (interval : ℕ) (queue : QueueWord)
      → Grows (record d { timers = d.timers ++ record { queue = queue_at queues turns queue; interval = interval } ∷ [] }) all
      → slice_get all.timers st.timers ≡ Some (record { queue = queue_named queues st queue; interval = interval })
  timer_at interval queue grows =
      let said : TimerTerms = record { queue = queue_at queues turns queue; interval = interval } in
      at_number all.timers (length d.timers) st.timers said (record { queue = queue_named queues st queue; interval = interval })
      at.timers (ap (λ (q : ℕ). record said { queue = q }) (same_queue queues st turns queue at.taken))
      (grows.timers (length d.timers) said (place_last d.timers said))

  pub inbox_at : (faults : List FaultRow) (queue : QueueWord)
      → Grows (record d { inboxes = d.inboxes ++ record { queue = queue_at queues turns queue; faults = faults } ∷ [] }) all
      → slice_get all.inboxes st.inboxes ≡ Some (record { queue = queue_named queues st queue; faults = faults })
  inbox_at faults queue grows =
      let said : InboxTerms = record { queue = queue_at queues turns queue; faults = faults } in
      at_number all.inboxes (length d.inboxes) st.inboxes said (record { queue = queue_named queues st queue; faults = faults })
      at.inboxes (ap (λ (q : ℕ). record said { queue = q }) (same_queue queues st turns queue at.taken))
      (grows.inboxes (length d.inboxes) said (place_last d.inboxes said))
