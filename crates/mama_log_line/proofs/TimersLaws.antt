-- The entries of the timer service's journal: what is read is so spelled, and what is so spelled is read.
use Rattle.std.proofs.Common.{◌≡◌, ℕ, ◌+◌, ◌<◌, ◌^◌, true, List, [], ◌∷◌, ◌++◌, Some, Result, Ok, Err, refl, sym, ap, subst, ◌∙◌, inl, inr, arith}
use Rattle.std.specs.Prelude.{◌==◌, codes, cond}
use Rattle.std.proofs.lemmas.Bool.{eqb-true}
use Rattle.mama_edge.specs.Decimal.{decimal}
use Rattle.mama_event.specs.declared.ids.TimerId.{TimerId}
use Rattle.mama_event.specs.declared.ids.ObjectId.{ObjectId}
use Rattle.mama_event.specs.declared.ids.ObjectId.TheVariants.{Timer}
use Rattle.mama_event.specs.declared.to_timers.TimersNote.{TimersNote}
use Rattle.mama_event.specs.declared.to_timers.TimersNote.TheVariants as t
use Rattle.mama_event.specs.Ports.{clients_of, queues_of, timers_port_of_bridge}
use Rattle.mama_words.specs.Number.{number_in}
use Rattle.mama_words.specs.Id.{timer_text}
use Rattle.mama_words.specs.Sentence.{sentence}
use Rattle.mama_words.specs.WordForm.{IsWord, AreWords}
use Rattle.mama_words.proofs.Choices.{ok_is, chosen, bind_ok, step_ok}
use Rattle.mama_words.proofs.Numbers.{number_in_again, number_in_found}
use Rattle.mama_words.proofs.Spellings.{decimal_word}
use Rattle.mama_rules_services.specs.Ports.{Putter, ByClient, ByQueue, ByBridge, timers_putter}
use Rattle.mama_record.specs.LogText.{putter_text, timers_note_text, timers_entry_line}
use Rattle.mama_log_line.specs.declared.head.Head.{Head}
use Rattle.mama_log_line.specs.declared.head.Head.TheVariants as heads
use Rattle.mama_log_line.specs.declared.names.TimerTerms.{TimerTerms}
use Rattle.mama_log_line.specs.Head.{head_text, head_in}
use Rattle.mama_log_line.specs.Names.{NamesData, timer_terms_of, IsTimer}
use Rattle.mama_log_line.specs.Word.{timer_in}
use Rattle.mama_log_line.specs.Entering.{TimersFromClient, TimersFromQueue, TimersFromBridge, TimersFrom, MayEnterTimers}
use Rattle.mama_log_line.specs.Journal.{alone_in, came_by, arm_in, disarm_in, now_in, timers_client_in, timers_queue_in, timers_bridge_in, timers_client_port, timers_queue_port, timers_bridge_port, timers_by, timers_words_in, timers_line_in}
use Rattle.mama_log_line.proofs.Heads.{head_again, head_found}
use Rattle.mama_log_line.proofs.Ports.{by_timers_port, timers_client, timers_queue, timers_bridge, port_of_found, port_of_again, port_found, port_again, client_port_again, numbered_word, came_found, came_again}
use Rattle.mama_log_line.proofs.WordLaws.{timer_again, timer_found}
use Rattle.mama_log_line.proofs.LineLaws.{fixed, head_word, last_word, timer_is_word, alone_found, alone_again, line_found, line_again}

abbrev pub head_of : TimersNote → Head
head_of (t.Arm timer queue interval tag) = heads.Arm
head_of (t.Disarm timer) = heads.Disarm
head_of (t.Now moment) = heads.Now
head_of t.ClientDone = heads.Done
head_of t.Bye = heads.Bye
head_of t.Fin = heads.Fin

-- the words behind the head
abbrev pub rest_of : TimersNote → List (List ℕ)
rest_of (t.Arm timer queue interval tag) = timer_text timer ∷ []
rest_of (t.Disarm timer) = timer_text timer ∷ []
rest_of (t.Now moment) = decimal moment ∷ []
rest_of t.ClientDone = []
rest_of t.Bye = []
rest_of t.Fin = []

abbrev pub words_of : TimersNote → List (List ℕ)
words_of note = head_text (head_of note) ∷ rest_of note

row : (note : TimersNote) → timers_note_text note ≡ sentence (words_of note)
row (t.Arm timer queue interval tag) = ap (λ (x : List ℕ). codes "arm " ++ x) (last_word (timer_text timer))
row (t.Disarm timer) = ap (λ (x : List ℕ). codes "disarm " ++ x) (last_word (timer_text timer))
row (t.Now moment) = ap (λ (x : List ℕ). codes "now " ++ x) (last_word (decimal moment))
row t.ClientDone = refl
row t.Bye = refl
row t.Fin = refl

-- ---- what is spelled is read

client_words : (names : NamesData) (note : TimersNote) → TimersFromClient names note → AreWords (words_of note)
client_words names (t.Arm timer queue interval tag) h = (head_word heads.Arm, (timer_is_word names timer h.0, tt))
client_words names (t.Disarm timer) h = (head_word heads.Disarm, (timer_is_word names timer h, tt))
client_words names (t.Now moment) h = (head_word heads.Now, (decimal_word moment h, tt))
client_words names t.ClientDone h = (head_word heads.Done, tt)
client_words names _ h = absurd h

queue_words : (names : NamesData) (note : TimersNote) → TimersFromQueue names note → AreWords (words_of note)
queue_words names (t.Disarm timer) h = (head_word heads.Disarm, (timer_is_word names timer h, tt))
queue_words names t.Bye h = (head_word heads.Bye, tt)
queue_words names _ h = absurd h

bridge_words : (note : TimersNote) → TimersFromBridge note → AreWords (words_of note)
bridge_words t.Fin h = (head_word heads.Fin, tt)
bridge_words _ h = absurd h

disarm_again : (names : NamesData) (timer : TimerId) → IsTimer names timer → disarm_in names (rest_of (t.Disarm timer)) ≡ Ok (t.Disarm timer)
unfolding disarm_in
disarm_again names timer h = rw (timer_again names timer h) refl

client_again : (names : NamesData) (note : TimersNote) → TimersFromClient names note → timers_client_in names (head_of note) (rest_of note) ≡ Ok note
client_again names (t.Arm timer queue interval tag) h = unfold arm_in in rw (timer_again names timer h.0, h.1) (ap (λ (x : ObjectId). Ok (t.Arm timer queue interval x)) (sym h.2))
client_again names (t.Disarm timer) h = disarm_again names timer h
client_again names (t.Now moment) h = unfold now_in in rw (number_in_again moment h) refl
client_again names t.ClientDone h = alone_again t.ClientDone
client_again names _ h = absurd h

queue_again : (names : NamesData) (note : TimersNote) → TimersFromQueue names note → timers_queue_in names (head_of note) (rest_of note) ≡ Ok note
queue_again names (t.Disarm timer) h = disarm_again names timer h
queue_again names t.Bye h = alone_again t.Bye
queue_again names _ h = absurd h

bridge_again : (note : TimersNote) → TimersFromBridge note → timers_bridge_in (head_of note) (rest_of note) ≡ Ok note
bridge_again t.Fin h = alone_again t.Fin
bridge_again _ h = absurd h

-- a note by a port whose putter is this one, with the port's word
pub record Again (names : NamesData) (port : ℕ) (putter : Putter) (note : TimersNote) : Type 0 where
  pub word : IsWord (putter_text putter)
  pub others : AreWords (words_of note)
  pub read : timers_by names (putter_text putter) (head_of note) (rest_of note) ≡ Ok (port, note)

client_case : (names : NamesData) (note : TimersNote) (c : ℕ) → c < clients_of names.shape → c < 2 ^ 32 → TimersFromClient names note → Again names c (ByClient c) note
unfolding timers_by
client_case names note c lt small may = record {
  word = numbered_word 99 c refl (omega (arith, small));
  others = client_words names note may;
  read = came_again (timers_client_port names (decimal c)) (timers_client_in names (head_of note) (rest_of note)) c note (client_port_again (clients_of names.shape) c lt small) (client_again names note may);
}

queue_case : (names : NamesData) (note : TimersNote) (q : ℕ) → q < queues_of names.shape → clients_of names.shape + q < 2 ^ 32 → TimersFromQueue names note → Again names (clients_of names.shape + q) (ByQueue q) note
unfolding timers_by
queue_case names note q lt small may = record {
  word = numbered_word 113 q refl (omega (arith, small));
  others = queue_words names note may;
  read = came_again (timers_queue_port names (decimal q)) (timers_queue_in names (head_of note) (rest_of note)) (clients_of names.shape + q) note (port_again (clients_of names.shape) (queues_of names.shape) q lt small) (queue_again names note may);
}

bridge_port_again : (names : NamesData) → timers_port_of_bridge names.shape < 2 ^ 32 → timers_bridge_port names [] ≡ Some (timers_port_of_bridge names.shape)
bridge_port_again names small = port_of_again (timers_port_of_bridge names.shape) 0 (omega (arith, small)) ∙ ap (λ (x : ℕ). Some x) (omega arith)

bridge_case : (names : NamesData) (note : TimersNote) → timers_port_of_bridge names.shape < 2 ^ 32 → TimersFromBridge note → Again names (timers_port_of_bridge names.shape) ByBridge note
unfolding timers_by
bridge_case names note small may = record {
  word = fixed (codes "b") refl refl;
  others = bridge_words note may;
  read = came_again (timers_bridge_port names []) (timers_bridge_in (head_of note) (rest_of note)) (timers_port_of_bridge names.shape) note (bridge_port_again names small) (bridge_again note may);
}

by_again : (names : NamesData) (note : TimersNote) (port : ℕ) → port < 2 ^ 32 → TimersFrom names (timers_putter names.shape port) note → Again names port (timers_putter names.shape port) note
by_again names note port =
    by_timers_port names.shape (λ port putter. port < 2 ^ 32 → TimersFrom names putter note → Again names port putter note)
    (λ c lt small may. client_case names note c lt small may) (λ q lt small may. queue_case names note q lt small may) (λ small may. bridge_case names note small may) (λ port past small may. absurd may) port

words_again : (names : NamesData) (word : List ℕ) (head : Head) (rest : List (List ℕ)) (e : ℕ × TimersNote) → timers_by names word head rest ≡ Ok e → timers_words_in names (word ∷ head_text head ∷ rest) ≡ Ok e
unfolding timers_words_in
words_again names word head rest e h = rw (head_again head) h

pub timers_again : (names : NamesData) (line : List ℕ) (e : ℕ × TimersNote) → MayEnterTimers names e → line ++ 10 ∷ [] ≡ timers_entry_line names.shape e → timers_line_in names line ≡ Ok e
unfolding timers_line_in
timers_again names line e may same =
    let by = by_again names e.1 e.0 may.port may.note in
    let putter = timers_putter names.shape e.0 in
    line_again (timers_words_in names) (putter_text putter) (words_of e.1) (putter_text putter ++ 32 ∷ timers_note_text e.1) line e
    (by.word, by.others) (ap (λ (t : List ℕ). putter_text putter ++ 32 ∷ t) (row e.1))
    (words_again names (putter_text putter) (head_of e.1) (rest_of e.1) e by.read) same

-- ---- what is read is so spelled

-- a note that begins with this head, whose other words are these
abbrev Spelled : (TimersNote → Type 0) → Head → List (List ℕ) → TimersNote → Type 0
Spelled May head ws note = May note × (head_text head ∷ ws ≡ words_of note)

alone_is : (May : TimersNote → Type 0) (x note : TimersNote) (ws : List (List ℕ)) → May x → rest_of x ≡ [] → alone_in x ws ≡ Ok note → Spelled May (head_of x) ws note
alone_is May x note ws may none h =
    let a = alone_found x ws note h in
    subst (λ (y : TimersNote). Spelled May (head_of x) ws y) a.0 (may, ap (λ (r : List (List ℕ)). head_text (head_of x) ∷ r) (a.1 ∙ sym none))

-- a note that names one object
one_word : (May : TimersNote → Type 0) (x note : TimersNote) (w v : List ℕ) → May x → rest_of x ≡ v ∷ [] → w ≡ v → x ≡ note → Spelled May (head_of x) (w ∷ []) note
one_word May x note w v may rest same is =
    subst (λ (y : TimersNote). Spelled May (head_of x) (w ∷ []) y) is (may, ap (λ (t : List ℕ). head_text (head_of x) ∷ t ∷ []) same ∙ ap (λ (r : List (List ℕ)). head_text (head_of x) ∷ r) (sym rest))

disarm_found : (names : NamesData) (May : TimersNote → Type 0) → ((timer : TimerId) → IsTimer names timer → May (t.Disarm timer)) → (ws : List (List ℕ)) (note : TimersNote) → disarm_in names ws ≡ Ok note → Spelled May heads.Disarm ws note
unfolding disarm_in
disarm_found names May may [] note h = absurd cc
disarm_found names May may (w ∷ []) note h =
    let s = bind_ok (timer_in names w) _ note h in
    let is = timer_found names w s.0 s.1 in
    one_word May (t.Disarm s.0) note w (timer_text s.0) (may s.0 is.0) refl is.1 (ok_is (t.Disarm s.0) note s.2)
disarm_found names May may (a ∷ c ∷ ws) note h = absurd cc

abbrev armed : TimerId → TimerTerms → TimersNote
armed timer terms = t.Arm timer terms.queue terms.interval (Timer timer)

arm_found : (names : NamesData) (ws : List (List ℕ)) (note : TimersNote) → arm_in names ws ≡ Ok note → Spelled (TimersFromClient names) heads.Arm ws note
unfolding arm_in
arm_found names [] note h = absurd cc
arm_found names (w ∷ []) note h =
    let s = bind_ok (timer_in names w) _ note h in
    let terms = step_ok 10 (timer_terms_of names s.0) _ note s.2 in
    let is = timer_found names w s.0 s.1 in
    one_word (TimersFromClient names) (armed s.0 terms.0) note w (timer_text s.0) (is.0, terms.1, refl) refl is.1 (ok_is (armed s.0 terms.0) note terms.2)
arm_found names (a ∷ c ∷ ws) note h = absurd cc

now_found : (names : NamesData) (ws : List (List ℕ)) (note : TimersNote) → now_in ws ≡ Ok note → Spelled (TimersFromClient names) heads.Now ws note
unfolding now_in
now_found names [] note h = absurd cc
now_found names (w ∷ []) note h =
    let s = step_ok 5 (number_in w) _ note h in
    let is = number_in_found w s.0 s.1 in
    one_word (TimersFromClient names) (t.Now s.0) note w (decimal s.0) is.0 refl is.1 (ok_is (t.Now s.0) note s.2)
now_found names (a ∷ c ∷ ws) note h = absurd cc

client_found : (names : NamesData) (head : Head) (ws : List (List ℕ)) (note : TimersNote) → timers_client_in names head ws ≡ Ok note → Spelled (TimersFromClient names) head ws note
client_found names heads.Arm ws note h = arm_found names ws note h
client_found names heads.Disarm ws note h = disarm_found names (TimersFromClient names) (λ timer is. is) ws note h
client_found names heads.Now ws note h = now_found names ws note h
client_found names heads.Done ws note h = alone_is (TimersFromClient names) t.ClientDone note ws tt refl h
client_found names _ ws note h = absurd cc

queue_found : (names : NamesData) (head : Head) (ws : List (List ℕ)) (note : TimersNote) → timers_queue_in names head ws ≡ Ok note → Spelled (TimersFromQueue names) head ws note
queue_found names heads.Disarm ws note h = disarm_found names (TimersFromQueue names) (λ timer is. is) ws note h
queue_found names heads.Bye ws note h = alone_is (TimersFromQueue names) t.Bye note ws tt refl h
queue_found names _ ws note h = absurd cc

bridge_found : (head : Head) (ws : List (List ℕ)) (note : TimersNote) → timers_bridge_in head ws ≡ Ok note → Spelled TimersFromBridge head ws note
bridge_found heads.Fin ws note h = alone_is TimersFromBridge t.Fin note ws tt refl h
bridge_found _ ws note h = absurd cc

-- an entry that was read from these words
pub record Entered (names : NamesData) (word : List ℕ) (head : Head) (ws : List (List ℕ)) (e : ℕ × TimersNote) : Type 0 where
  pub may : MayEnterTimers names e
  pub word_is : word ≡ putter_text (timers_putter names.shape e.0)
  pub words_are : head_text head ∷ ws ≡ words_of e.1

entered : (names : NamesData) (word : List ℕ) (head : Head) (ws : List (List ℕ)) (e : ℕ × TimersNote) (putter : Putter) → e.0 < 2 ^ 32 → timers_putter names.shape e.0 ≡ putter
    → word ≡ putter_text putter → Spelled (TimersFrom names putter) head ws e.1 → Entered names word head ws e
entered names word head ws e putter small by spelled note = record {
  may = record { port = small; note = subst (λ (p : Putter). TimersFrom names p e.1) (sym by) note.0 };
  word_is = spelled ∙ ap putter_text (sym by);
  words_are = note.1;
}

lettered : (letter : ℕ) (c : ℕ) (digits more : List ℕ) → (letter == c) ≡ true → digits ≡ more → letter ∷ digits ≡ c ∷ more
lettered letter c digits more is same = ap (λ (k : ℕ). k ∷ digits) (eqb-true letter c is) ∙ ap (λ (t : List ℕ). c ∷ t) same

client_entered : (names : NamesData) (letter : ℕ) (digits : List ℕ) (head : Head) (ws : List (List ℕ)) (e : ℕ × TimersNote) → (letter == 99) ≡ true
    → came_by (timers_client_port names digits) (timers_client_in names head ws) ≡ Ok e → Entered names (letter ∷ digits) head ws e
client_entered names letter digits head ws e is h =
    let c = came_found (timers_client_port names digits) (timers_client_in names head ws) e h in
    let p = port_found 0 (clients_of names.shape) digits e.0 c.0 in
    let port_is : p.number ≡ e.0 = let q = p.port_is in omega (arith, q) in
    let by : timers_putter names.shape e.0 ≡ ByClient p.number = ap (timers_putter names.shape) (sym port_is) ∙ timers_client names.shape p.number p.there in
    entered names (letter ∷ digits) head ws e (ByClient p.number) p.small by (lettered letter 99 digits (decimal p.number) is p.digits_are) (client_found names head ws e.1 c.1)

queue_entered : (names : NamesData) (letter : ℕ) (digits : List ℕ) (head : Head) (ws : List (List ℕ)) (e : ℕ × TimersNote) → (letter == 113) ≡ true
    → came_by (timers_queue_port names digits) (timers_queue_in names head ws) ≡ Ok e → Entered names (letter ∷ digits) head ws e
queue_entered names letter digits head ws e is h =
    let c = came_found (timers_queue_port names digits) (timers_queue_in names head ws) e h in
    let p = port_found (clients_of names.shape) (queues_of names.shape) digits e.0 c.0 in
    let by : timers_putter names.shape e.0 ≡ ByQueue p.number = ap (timers_putter names.shape) (sym p.port_is) ∙ timers_queue names.shape p.number p.there in
    entered names (letter ∷ digits) head ws e (ByQueue p.number) p.small by (lettered letter 113 digits (decimal p.number) is p.digits_are) (queue_found names head ws e.1 c.1)

bridge_port_found : (names : NamesData) (digits : List ℕ) (port : ℕ) → timers_bridge_port names digits ≡ Some port → (digits ≡ []) × (timers_port_of_bridge names.shape ≡ port) × (port < 2 ^ 32)
bridge_port_found names [] port e =
    let p = port_of_found (timers_port_of_bridge names.shape) 0 port e in
    let is = p.0 in
    (refl, omega (arith, is), p.1)
bridge_port_found names (d ∷ digits) port e = absurd cc

bridge_entered : (names : NamesData) (letter : ℕ) (digits : List ℕ) (head : Head) (ws : List (List ℕ)) (e : ℕ × TimersNote) → (letter == 98) ≡ true
    → came_by (timers_bridge_port names digits) (timers_bridge_in head ws) ≡ Ok e → Entered names (letter ∷ digits) head ws e
bridge_entered names letter digits head ws e is h =
    let c = came_found (timers_bridge_port names digits) (timers_bridge_in head ws) e h in
    let p = bridge_port_found names digits e.0 c.0 in
    let by : timers_putter names.shape e.0 ≡ ByBridge = ap (timers_putter names.shape) (sym p.1) ∙ timers_bridge names.shape in
    entered names (letter ∷ digits) head ws e ByBridge p.2 by (lettered letter 98 digits [] is p.0) (bridge_found head ws e.1 c.1)

abbrev Read : Type 0
Read = Result (ℕ × TimersNote) ℕ

by_found : (names : NamesData) (word : List ℕ) (head : Head) (ws : List (List ℕ)) (e : ℕ × TimersNote) → timers_by names word head ws ≡ Ok e → Entered names word head ws e
unfolding timers_by
by_found names [] head ws e h = absurd cc
by_found names (letter ∷ digits) head ws e h =
    let client : Read = came_by (timers_client_port names digits) (timers_client_in names head ws) in
    let queue : Read = came_by (timers_queue_port names digits) (timers_queue_in names head ws) in
    let bridge : Read = came_by (timers_bridge_port names digits) (timers_bridge_in head ws) in
    let nobody : Read = Err 5 in
    elim (chosen (letter == 99) client (cond (letter == 113) queue (cond (letter == 98) bridge nobody)) (Ok e) h) [
      | inl p ↦ client_entered names letter digits head ws e p.0 p.1
      | inr p ↦ elim (chosen (letter == 113) queue (cond (letter == 98) bridge nobody) (Ok e) p.1) [
        | inl q ↦ queue_entered names letter digits head ws e q.0 q.1
        | inr q ↦ elim (chosen (letter == 98) bridge nobody (Ok e) q.1) [
          | inl r ↦ bridge_entered names letter digits head ws e r.0 r.1
          | inr r ↦ let bad : nobody ≡ Ok e = r.1 in absurd cc
        ]
      ]
    ]

words_found : (names : NamesData) (ws : List (List ℕ)) (e : ℕ × TimersNote) → timers_words_in names ws ≡ Ok e → MayEnterTimers names e × (ws ≡ putter_text (timers_putter names.shape e.0) ∷ words_of e.1)
unfolding timers_words_in
words_found names [] e h = absurd cc
words_found names (a ∷ []) e h = absurd cc
words_found names (word ∷ head ∷ ws) e h =
    let p = step_ok 3 (head_in head) (λ head. timers_by names word head ws) e h in
    let q = by_found names word p.0 ws e p.2 in (
      q.may,
      ap (λ (w : List ℕ). w ∷ head ∷ ws) q.word_is ∙ ap (λ (w : List ℕ). putter_text (timers_putter names.shape e.0) ∷ w ∷ ws) (head_found head p.0 p.1)
          ∙ ap (λ (r : List (List ℕ)). putter_text (timers_putter names.shape e.0) ∷ r) q.words_are,
    )

pub timers_found : (names : NamesData) (line : List ℕ) (e : ℕ × TimersNote) → timers_line_in names line ≡ Ok e → MayEnterTimers names e × (line ++ 10 ∷ [] ≡ timers_entry_line names.shape e)
unfolding timers_line_in
timers_found names line e h =
    let p = line_found (timers_words_in names) line e h in
    let q = words_found names p.0 e p.2 in
    let putter = putter_text (timers_putter names.shape e.0) in
    (q.0, ap (λ (t : List ℕ). t ++ 10 ∷ []) (p.1 ∙ ap sentence q.1 ∙ ap (λ (t : List ℕ). putter ++ 32 ∷ t) (sym (row e.1))))
