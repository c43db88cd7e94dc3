-- The entries of a queue's journal: what is read is so spelled, and what is so spelled is read.
use Rattle.std.proofs.Common.{◌≡◌, ℕ, ◌<◌, ◌^◌, true, false, List, [], ◌∷◌, ◌++◌, map, Option, Some, Result, Ok, Err, refl, sym, ap, subst, ◌∙◌, inl, inr}
use Rattle.std.specs.Prelude.{◌==◌, codes, cond, IsErr}
use Rattle.std.proofs.lemmas.Bool.{eqb-true}
use Rattle.mama_edge.specs.Decimal.{decimal}
use Rattle.mama_event.specs.declared.ids.ObjectId.{ObjectId}
use Rattle.mama_event.specs.declared.ids.ObjectId.TheVariants.{Sub, Timer, Inbox}
use Rattle.mama_event.specs.declared.to_queue.Make.{Make}
use Rattle.mama_event.specs.declared.to_queue.QueueNote.{QueueNote}
use Rattle.mama_event.specs.declared.to_queue.QueueNote.TheVariants as q
use Rattle.mama_words.specs.Reading.{◌>>=◌, or_fault}
use Rattle.mama_words.specs.Number.{number_in}
use Rattle.mama_words.specs.Kind.{msg_kind_text}
use Rattle.mama_words.specs.KindIn.{msg_kind_in}
use Rattle.mama_words.specs.Order.{spaced_number}
use Rattle.mama_words.specs.Value.{bytes_text, block_in}
use Rattle.mama_words.specs.Id.{sub_text, timer_text, inbox_text, object_text}
use Rattle.mama_words.specs.Field.{field_text, fields_text}
use Rattle.mama_words.specs.Sentence.{sentence}
use Rattle.mama_words.specs.WordForm.{IsWord, AreWords}
use Rattle.mama_words.proofs.Choices.{ok_is, chosen, bind_ok, step_ok}
use Rattle.mama_words.proofs.Numbers.{number_in_again, number_in_found}
use Rattle.mama_words.proofs.KindLaws.{msg_kind_again, msg_kind_found}
use Rattle.mama_words.proofs.ValueLaws.{block_again, block_found}
use Rattle.mama_words.proofs.Spellings.{decimal_word, msg_kind_word, block_word, field_words, fields_row}
use Rattle.mama_msg.specs.Field.{FieldData}
use Rattle.mama_event.specs.declared.wire.PieceMsg.{PieceMsg}
use Rattle.mama_payload.specs.declared.fault.DecodeFault.{DecodeFault}
use Rattle.mama_payload.specs.Reading.{decoded}
use Rattle.mama_rules_services.specs.Ports.{Putter, ByBridge, ByTimers, queue_putter}
use Rattle.mama_record.specs.LogText.{putter_text, msg_text, queue_note_text, queue_entry_line}
use Rattle.mama_log_line.specs.declared.head.Head.{Head}
use Rattle.mama_log_line.specs.declared.head.Head.TheVariants as heads
use Rattle.mama_log_line.specs.Head.{head_text, head_in}
use Rattle.mama_log_line.specs.Names.{NamesData, make_of}
use Rattle.mama_log_line.specs.Word.{sub_in, timer_in, inbox_in, linked_in, small_in, body_in, market_in}
use Rattle.mama_log_line.specs.Entering.{IsLinked, IsBroken, QueueFromBridge, QueueFromTimers, QueueFrom, MayEnterQueue}
use Rattle.mama_log_line.specs.Journal.{alone_in, created_in, create_linked_in, create_timer_in, data_in, reply_in, if_broken, broken_in, piece_in, bad_in, bad_reply_in, tick_in, gone_linked_in, gone_timer_in, queue_bridge_in, queue_timers_in, queue_by, queue_words_in, queue_line_in}
use Rattle.mama_log_line.proofs.Heads.{head_again, head_found}
use Rattle.mama_log_line.proofs.Ports.{by_queue_port}
use Rattle.mama_log_line.proofs.WordLaws.{market_words, sub_again, sub_found, timer_again, timer_found, inbox_again, inbox_found, linked_again, linked_found, small_again, small_found, body_again, body_found, market_again, market_found}
use Rattle.mama_log_line.proofs.LineLaws.{fixed, head_word, three, six, last_word, small_word, market_row, market_are_words, sub_is_word, timer_is_word, inbox_is_word, alone_found, alone_again, line_found, line_again}

abbrev pub head_of : QueueNote → Head
head_of (q.Create slot object make tag) = heads.Create
head_of (q.Deliver slot sub msg) = heads.Data
head_of (q.Reply slot inbox body) = heads.Reply
head_of (q.Bad slot sub kind sender seq bytes) = heads.Bad
head_of (q.BadReply slot inbox bytes) = heads.BadReply
head_of (q.Tick slot timer moment) = heads.Tick
head_of (q.Gone slot object) = heads.Gone
head_of q.Fin = heads.Fin

-- the words behind the head
abbrev pub rest_of : QueueNote → List (List ℕ)
rest_of (q.Create slot object make tag) = decimal slot ∷ object_text object ∷ []
rest_of (q.Deliver slot sub msg) = decimal slot ∷ sub_text sub ∷ market_words msg
rest_of (q.Reply slot inbox body) = decimal slot ∷ inbox_text inbox ∷ map field_text body
rest_of (q.Bad slot sub kind sender seq bytes) = decimal slot ∷ sub_text sub ∷ msg_kind_text kind ∷ decimal sender ∷ decimal seq ∷ bytes_text bytes ∷ []
rest_of (q.BadReply slot inbox bytes) = decimal slot ∷ inbox_text inbox ∷ bytes_text bytes ∷ []
rest_of (q.Tick slot timer moment) = decimal slot ∷ timer_text timer ∷ decimal moment ∷ []
rest_of (q.Gone slot object) = decimal slot ∷ object_text object ∷ []
rest_of q.Fin = []

abbrev pub words_of : QueueNote → List (List ℕ)
words_of note = head_text (head_of note) ∷ rest_of note

row : (note : QueueNote) → queue_note_text note ≡ sentence (words_of note)
row (q.Create slot object make tag) = ap (λ (t : List ℕ). codes "create " ++ (decimal slot ++ 32 ∷ t)) (last_word (object_text object))
row (q.Deliver slot sub msg) =
    ap (λ (t : List ℕ). codes "data " ++ t) (three (decimal slot) (32 ∷ sub_text sub) (32 ∷ msg_text msg))
    ∙ ap (λ (t : List ℕ). codes "data " ++ (decimal slot ++ 32 ∷ (sub_text sub ++ 32 ∷ t))) (market_row msg)
row (q.Reply slot inbox body) =
    ap (λ (t : List ℕ). codes "reply " ++ t) (three (decimal slot) (32 ∷ inbox_text inbox) (fields_text body))
    ∙ ap (λ (t : List ℕ). codes "reply " ++ (decimal slot ++ 32 ∷ (inbox_text inbox ++ t))) (fields_row body)
row (q.Bad slot sub kind sender seq bytes) =
    ap (λ (t : List ℕ). codes "bad " ++ t) (six (decimal slot) (32 ∷ sub_text sub) (32 ∷ msg_kind_text kind) (spaced_number sender) (spaced_number seq) (32 ∷ bytes_text bytes))
    ∙ ap (λ (t : List ℕ). codes "bad " ++ (decimal slot ++ 32 ∷ (sub_text sub ++ 32 ∷ (msg_kind_text kind ++ (spaced_number sender ++ (spaced_number seq ++ 32 ∷ t)))))) (last_word (bytes_text bytes))
row (q.BadReply slot inbox bytes) =
    ap (λ (t : List ℕ). codes "badreply " ++ t) (three (decimal slot) (32 ∷ inbox_text inbox) (32 ∷ bytes_text bytes))
    ∙ ap (λ (t : List ℕ). codes "badreply " ++ (decimal slot ++ 32 ∷ (inbox_text inbox ++ 32 ∷ t))) (last_word (bytes_text bytes))
row (q.Tick slot timer moment) =
    ap (λ (t : List ℕ). codes "tick " ++ t) (three (decimal slot) (32 ∷ timer_text timer) (32 ∷ decimal moment))
    ∙ ap (λ (t : List ℕ). codes "tick " ++ (decimal slot ++ 32 ∷ (timer_text timer ++ 32 ∷ t))) (last_word (decimal moment))
row (q.Gone slot object) = ap (λ (t : List ℕ). codes "gone " ++ (decimal slot ++ 32 ∷ t)) (last_word (object_text object))
row q.Fin = refl

-- ---- what is spelled is read

linked_word : (names : NamesData) (o : ObjectId) → IsLinked names o → IsWord (object_text o)
linked_word names (Sub id) h = sub_is_word names id h
linked_word names (Timer id) h = absurd h
linked_word names (Inbox id) h = inbox_is_word names id h

bridge_words : (names : NamesData) (note : QueueNote) → QueueFromBridge names note → AreWords (words_of note)
bridge_words names (q.Create slot object make tag) h = (head_word heads.Create, (small_word slot h.0, (linked_word names object h.1, tt)))
bridge_words names (q.Deliver slot sub msg) h = (head_word heads.Data, (small_word slot h.0, (sub_is_word names sub h.1, market_are_words names.nums msg h.2)))
bridge_words names (q.Reply slot inbox body) h = (head_word heads.Reply, (small_word slot h.0, (inbox_is_word names inbox h.1, field_words names.nums body h.2.message.fields)))
bridge_words names (q.Bad slot sub kind sender seq bytes) h =
    (head_word heads.Bad, (small_word slot h.0, (sub_is_word names sub h.1, (msg_kind_word kind, (small_word sender h.2, (small_word seq h.3, (block_word bytes h.4.each, tt)))))))
bridge_words names (q.BadReply slot inbox bytes) h = (head_word heads.BadReply, (small_word slot h.0, (inbox_is_word names inbox h.1, (block_word bytes h.2.each, tt))))
bridge_words names (q.Tick slot timer moment) h = absurd h
bridge_words names (q.Gone slot object) h = (head_word heads.Gone, (small_word slot h.0, (linked_word names object h.1, tt)))
bridge_words names q.Fin h = (head_word heads.Fin, tt)

timers_words : (names : NamesData) (note : QueueNote) → QueueFromTimers names note → AreWords (words_of note)
timers_words names (q.Create slot (Sub id) make tag) h = absurd h.1
timers_words names (q.Create slot (Timer id) make tag) h = (head_word heads.Create, (small_word slot h.0, (timer_is_word names id h.1, tt)))
timers_words names (q.Create slot (Inbox id) make tag) h = absurd h.1
timers_words names (q.Deliver slot sub msg) h = absurd h
timers_words names (q.Reply slot inbox body) h = absurd h
timers_words names (q.Bad slot sub kind sender seq bytes) h = absurd h
timers_words names (q.BadReply slot inbox bytes) h = absurd h
timers_words names (q.Tick slot timer moment) h = (head_word heads.Tick, (small_word slot h.0, (timer_is_word names timer h.1, (decimal_word moment h.2, tt))))
timers_words names (q.Gone slot (Sub id)) h = absurd h.1
timers_words names (q.Gone slot (Timer id)) h = (head_word heads.Gone, (small_word slot h.0, (timer_is_word names id h.1, tt)))
timers_words names (q.Gone slot (Inbox id)) h = absurd h.1
timers_words names q.Fin h = (head_word heads.Fin, tt)

created_again : (names : NamesData) (slot : ℕ) (object : ObjectId) (make : Make) (tag : ObjectId) → make_of names object ≡ Some make → tag ≡ object → created_in names slot object ≡ Ok (q.Create slot object make tag)
unfolding created_in
created_again names slot object make tag is same =
    ap (λ (o : Option Make). or_fault 10 o >>= λ m. Ok (q.Create slot object m object)) is ∙ ap (λ (x : ObjectId). Ok (q.Create slot object make x)) (sym same)

if_broken_again : (bytes : List ℕ) (r : Result (List FieldData) DecodeFault) → IsErr r → if_broken bytes r ≡ Ok bytes
if_broken_again bytes (Ok fields) h = let k : false ≡ true = h in absurd cc
if_broken_again bytes (Err fault) h = refl

broken_again : (bytes : List ℕ) → IsBroken bytes → broken_in (bytes_text bytes) ≡ Ok bytes
unfolding broken_in
broken_again bytes h = rw (block_again bytes h.each) (if_broken_again bytes (decoded bytes) h.broken)

piece_again : (p : PieceMsg) → p.sender < 2 ^ 32 → p.seq < 2 ^ 32 → IsBroken p.body → piece_in (msg_kind_text p.kind) (decimal p.sender) (decimal p.seq) (bytes_text p.body) ≡ Ok p
unfolding piece_in
piece_again p sender seq broken = rw (msg_kind_again p.kind, small_again p.sender sender, small_again p.seq seq, broken_again p.body broken) refl

bridge_again : (names : NamesData) (note : QueueNote) → QueueFromBridge names note → queue_bridge_in names (head_of note) (rest_of note) ≡ Ok note
bridge_again names (q.Create slot object make tag) h = unfold create_linked_in in rw (small_again slot h.0, linked_again names object h.1) (created_again names slot object make tag h.2 h.3)
bridge_again names (q.Deliver slot sub msg) h = unfold data_in in rw (small_again slot h.0, sub_again names sub h.1, market_again names.nums msg h.2) refl
bridge_again names (q.Reply slot inbox body) h = unfold reply_in in rw (small_again slot h.0, inbox_again names inbox h.1, body_again names.nums body h.2) refl
bridge_again names (q.Bad slot sub kind sender seq bytes) h =
    unfold bad_in in rw (small_again slot h.0, sub_again names sub h.1, piece_again (record { kind = kind; sender = sender; seq = seq; body = bytes }) h.2 h.3 h.4) refl
bridge_again names (q.BadReply slot inbox bytes) h = unfold bad_reply_in in rw (small_again slot h.0, inbox_again names inbox h.1, broken_again bytes h.2) refl
bridge_again names (q.Tick slot timer moment) h = absurd h
bridge_again names (q.Gone slot object) h = unfold gone_linked_in in rw (small_again slot h.0, linked_again names object h.1) refl
bridge_again names q.Fin h = alone_again q.Fin

timers_again : (names : NamesData) (note : QueueNote) → QueueFromTimers names note → queue_timers_in names (head_of note) (rest_of note) ≡ Ok note
timers_again names (q.Create slot (Sub id) make tag) h = absurd h.1
timers_again names (q.Create slot (Timer id) make tag) h = unfold create_timer_in in rw (small_again slot h.0, timer_again names id h.1) (created_again names slot (Timer id) make tag h.2 h.3)
timers_again names (q.Create slot (Inbox id) make tag) h = absurd h.1
timers_again names (q.Deliver slot sub msg) h = absurd h
timers_again names (q.Reply slot inbox body) h = absurd h
timers_again names (q.Bad slot sub kind sender seq bytes) h = absurd h
timers_again names (q.BadReply slot inbox bytes) h = absurd h
timers_again names (q.Tick slot timer moment) h = unfold tick_in in rw (small_again slot h.0, timer_again names timer h.1, number_in_again moment h.2) refl
timers_again names (q.Gone slot (Sub id)) h = absurd h.1
timers_again names (q.Gone slot (Timer id)) h = unfold gone_timer_in in rw (small_again slot h.0, timer_again names id h.1) refl
timers_again names (q.Gone slot (Inbox id)) h = absurd h.1
timers_again names q.Fin h = alone_again q.Fin

-- a note by a port whose putter is this one, with the port's word
pub record Again (names : NamesData) (port : ℕ) (putter : Putter) (note : QueueNote) : Type 0 where
  pub word : IsWord (putter_text putter)
  pub others : AreWords (words_of note)
  pub read : queue_by names (putter_text putter) (head_of note) (rest_of note) ≡ Ok (port, note)

bridge_case : (names : NamesData) (note : QueueNote) → QueueFromBridge names note → Again names 0 ByBridge note
unfolding queue_by
bridge_case names note may = record { word = fixed (codes "b") refl refl; others = bridge_words names note may; read = rw (bridge_again names note may) refl }

timers_case : (names : NamesData) (note : QueueNote) → QueueFromTimers names note → Again names 1 ByTimers note
unfolding queue_by
timers_case names note may = record { word = fixed (codes "t") refl refl; others = timers_words names note may; read = rw (timers_again names note may) refl }

by_again : (names : NamesData) (note : QueueNote) (port : ℕ) → QueueFrom names (queue_putter port) note → Again names port (queue_putter port) note
by_again names note port =
    by_queue_port (λ port putter. QueueFrom names putter note → Again names port putter note)
    (λ may. bridge_case names note may) (λ may. timers_case names note may) (λ port past may. absurd may) port

words_again : (names : NamesData) (word : List ℕ) (head : Head) (rest : List (List ℕ)) (e : ℕ × QueueNote) → queue_by names word head rest ≡ Ok e → queue_words_in names (word ∷ head_text head ∷ rest) ≡ Ok e
unfolding queue_words_in
words_again names word head rest e h = rw (head_again head) h

pub queue_again : (names : NamesData) (line : List ℕ) (e : ℕ × QueueNote) → MayEnterQueue names e → line ++ 10 ∷ [] ≡ queue_entry_line e → queue_line_in names line ≡ Ok e
unfolding queue_line_in
queue_again names line e may same =
    let by = by_again names e.1 e.0 may in
    let putter = queue_putter e.0 in
    line_again (queue_words_in names) (putter_text putter) (words_of e.1) (putter_text putter ++ 32 ∷ queue_note_text e.1) line e
    (by.word, by.others) (ap (λ (t : List ℕ). putter_text putter ++ 32 ∷ t) (row e.1))
    (words_again names (putter_text putter) (head_of e.1) (rest_of e.1) e by.read) same

-- ---- what is read is so spelled

-- a note that begins with this head, whose other words are these
abbrev Spelled : (QueueNote → Type 0) → Head → List (List ℕ) → QueueNote → Type 0
Spelled May head ws note = May note × (head_text head ∷ ws ≡ words_of note)

alone_is : (May : QueueNote → Type 0) (x note : QueueNote) (ws : List (List ℕ)) → May x → rest_of x ≡ [] → alone_in x ws ≡ Ok note → Spelled May (head_of x) ws note
alone_is May x note ws may none h =
    let a = alone_found x ws note h in
    subst (λ (y : QueueNote). Spelled May (head_of x) ws y) a.0 (may, ap (λ (r : List (List ℕ)). head_text (head_of x) ∷ r) (a.1 ∙ sym none))

same_row : (h a c d e : List ℕ) (x y : List (List ℕ)) → a ≡ c → d ≡ e → x ≡ y → h ∷ a ∷ d ∷ x ≡ h ∷ c ∷ e ∷ y
same_row h a c d e x y p q r = cc

created_found : (names : NamesData) (slot : ℕ) (object : ObjectId) (note : QueueNote) → created_in names slot object ≡ Ok note → (make : Make) × (make_of names object ≡ Some make) × (q.Create slot object make object ≡ note)
unfolding created_in
created_found names slot object note h =
    let m = step_ok 10 (make_of names object) (λ m. Ok (q.Create slot object m object)) note h in
    (m.0, m.1, ok_is (q.Create slot object m.0 object) note m.2)

create_linked_found : (names : NamesData) (ws : List (List ℕ)) (note : QueueNote) → create_linked_in names ws ≡ Ok note → Spelled (QueueFromBridge names) heads.Create ws note
unfolding create_linked_in
create_linked_found names [] note h = absurd cc
create_linked_found names (a ∷ []) note h = absurd cc
create_linked_found names (slot ∷ object ∷ []) note h =
    let s = bind_ok (small_in slot) _ note h in
    let o = bind_ok (linked_in names object) _ note s.2 in
    let slot_is = small_found slot s.0 s.1 in
    let object_is = linked_found names object o.0 o.1 in
    let m = created_found names s.0 o.0 note o.2 in
    subst (λ (y : QueueNote). Spelled (QueueFromBridge names) heads.Create (slot ∷ object ∷ []) y) m.2
    ((slot_is.0, object_is.0, m.1, refl), same_row (codes "create") slot (decimal s.0) object (object_text o.0) [] [] slot_is.1 object_is.1 refl)
create_linked_found names (a ∷ b ∷ c ∷ ws) note h = absurd cc

create_timer_found : (names : NamesData) (ws : List (List ℕ)) (note : QueueNote) → create_timer_in names ws ≡ Ok note → Spelled (QueueFromTimers names) heads.Create ws note
unfolding create_timer_in
create_timer_found names [] note h = absurd cc
create_timer_found names (a ∷ []) note h = absurd cc
create_timer_found names (slot ∷ timer ∷ []) note h =
    let s = bind_ok (small_in slot) _ note h in
    let o = bind_ok (timer_in names timer) _ note s.2 in
    let slot_is = small_found slot s.0 s.1 in
    let timer_is = timer_found names timer o.0 o.1 in
    let m = created_found names s.0 (Timer o.0) note o.2 in
    subst (λ (y : QueueNote). Spelled (QueueFromTimers names) heads.Create (slot ∷ timer ∷ []) y) m.2
    ((slot_is.0, timer_is.0, m.1, refl), same_row (codes "create") slot (decimal s.0) timer (timer_text o.0) [] [] slot_is.1 timer_is.1 refl)
create_timer_found names (a ∷ b ∷ c ∷ ws) note h = absurd cc

data_found : (names : NamesData) (ws : List (List ℕ)) (note : QueueNote) → data_in names ws ≡ Ok note → Spelled (QueueFromBridge names) heads.Data ws note
unfolding data_in
data_found names [] note h = absurd cc
data_found names (a ∷ []) note h = absurd cc
data_found names (slot ∷ sub ∷ ws) note h =
    let s = bind_ok (small_in slot) _ note h in
    let o = bind_ok (sub_in names sub) _ note s.2 in
    let m = bind_ok (market_in names.nums ws) _ note o.2 in
    let slot_is = small_found slot s.0 s.1 in
    let sub_is = sub_found names sub o.0 o.1 in
    let msg_is = market_found names.nums ws m.0 m.1 in
    subst (λ (y : QueueNote). Spelled (QueueFromBridge names) heads.Data (slot ∷ sub ∷ ws) y) (ok_is (q.Deliver s.0 o.0 m.0) note m.2)
    ((slot_is.0, sub_is.0, msg_is.0), same_row (codes "data") slot (decimal s.0) sub (sub_text o.0) ws (market_words m.0) slot_is.1 sub_is.1 msg_is.1)

reply_found : (names : NamesData) (ws : List (List ℕ)) (note : QueueNote) → reply_in names ws ≡ Ok note → Spelled (QueueFromBridge names) heads.Reply ws note
unfolding reply_in
reply_found names [] note h = absurd cc
reply_found names (a ∷ []) note h = absurd cc
reply_found names (slot ∷ inbox ∷ ws) note h =
    let s = bind_ok (small_in slot) _ note h in
    let o = bind_ok (inbox_in names inbox) _ note s.2 in
    let m = bind_ok (body_in names.nums ws) _ note o.2 in
    let slot_is = small_found slot s.0 s.1 in
    let inbox_is = inbox_found names inbox o.0 o.1 in
    let body_is = body_found names.nums ws m.0 m.1 in
    subst (λ (y : QueueNote). Spelled (QueueFromBridge names) heads.Reply (slot ∷ inbox ∷ ws) y) (ok_is (q.Reply s.0 o.0 m.0) note m.2)
    ((slot_is.0, inbox_is.0, body_is.0), same_row (codes "reply") slot (decimal s.0) inbox (inbox_text o.0) ws (map field_text m.0) slot_is.1 inbox_is.1 body_is.1)

if_broken_found : (bytes : List ℕ) (r : Result (List FieldData) DecodeFault) (read : List ℕ) → if_broken bytes r ≡ Ok read → IsErr r × (bytes ≡ read)
if_broken_found bytes (Ok fields) read h = absurd cc
if_broken_found bytes (Err fault) read h = (refl, ok_is bytes read h)

broken_found : (word bytes : List ℕ) → broken_in word ≡ Ok bytes → IsBroken bytes × (word ≡ bytes_text bytes)
unfolding broken_in
broken_found word bytes h =
    let b = step_ok 7 (block_in word) _ bytes h in
    let is = block_found word b.0 b.1 in
    let broken = if_broken_found b.0 (decoded b.0) bytes b.2 in
    subst (λ (x : List ℕ). IsBroken x × (word ≡ bytes_text x)) broken.1 (record { each = is.0; broken = broken.0 }, is.1)

same_bad : (h a b c d e f g i j k l m : List ℕ) → a ≡ b → c ≡ d → e ≡ f → g ≡ i → j ≡ k → l ≡ m → h ∷ a ∷ c ∷ e ∷ g ∷ j ∷ l ∷ [] ≡ h ∷ b ∷ d ∷ f ∷ i ∷ k ∷ m ∷ []
same_bad h a b c d e f g i j k l m p q r s t u = cc

record IsPieceText (p : PieceMsg) (kind sender seq bytes : List ℕ) : Type 0 where
  pub kind_is : kind ≡ msg_kind_text p.kind
  pub sender_is : (p.sender < 2 ^ 32) × (sender ≡ decimal p.sender)
  pub seq_is : (p.seq < 2 ^ 32) × (seq ≡ decimal p.seq)
  pub body_is : IsBroken p.body × (bytes ≡ bytes_text p.body)

piece_found : (kind sender seq bytes : List ℕ) (p : PieceMsg) → piece_in kind sender seq bytes ≡ Ok p → IsPieceText p kind sender seq bytes
unfolding piece_in
piece_found kind sender seq bytes p h =
    let k = step_ok 4 (msg_kind_in kind) _ p h in
    let s = bind_ok (small_in sender) _ p k.2 in
    let n = bind_ok (small_in seq) _ p s.2 in
    let b = bind_ok (broken_in bytes) _ p n.2 in
    let made : PieceMsg = record { kind = k.0; sender = s.0; seq = n.0; body = b.0 } in
    subst (λ (x : PieceMsg). IsPieceText x kind sender seq bytes) (ok_is made p b.2) (record {
      kind_is = msg_kind_found kind k.0 k.1;
      sender_is = small_found sender s.0 s.1;
      seq_is = small_found seq n.0 n.1;
      body_is = broken_found bytes b.0 b.1;
    })

bad_found : (names : NamesData) (ws : List (List ℕ)) (note : QueueNote) → bad_in names ws ≡ Ok note → Spelled (QueueFromBridge names) heads.Bad ws note
unfolding bad_in
bad_found names [] note h = absurd cc
bad_found names (a ∷ []) note h = absurd cc
bad_found names (a ∷ b ∷ []) note h = absurd cc
bad_found names (a ∷ b ∷ c ∷ []) note h = absurd cc
bad_found names (a ∷ b ∷ c ∷ d ∷ []) note h = absurd cc
bad_found names (a ∷ b ∷ c ∷ d ∷ e ∷ []) note h = absurd cc
bad_found names (slot ∷ sub ∷ kind ∷ sender ∷ seq ∷ word ∷ []) note h =
    let s = bind_ok (small_in slot) _ note h in
    let o = bind_ok (sub_in names sub) _ note s.2 in
    let m = bind_ok (piece_in kind sender seq word) _ note o.2 in
    let p : PieceMsg = m.0 in
    let slot_is = small_found slot s.0 s.1 in
    let sub_is = sub_found names sub o.0 o.1 in
    let is = piece_found kind sender seq word p m.1 in
    subst (λ (y : QueueNote). Spelled (QueueFromBridge names) heads.Bad (slot ∷ sub ∷ kind ∷ sender ∷ seq ∷ word ∷ []) y) (ok_is (q.Bad s.0 o.0 p.kind p.sender p.seq p.body) note m.2) (
      (slot_is.0, sub_is.0, is.sender_is.0, is.seq_is.0, is.body_is.0),
      same_bad (codes "bad") slot (decimal s.0) sub (sub_text o.0) kind (msg_kind_text p.kind) sender (decimal p.sender) seq (decimal p.seq) word (bytes_text p.body)
          slot_is.1 sub_is.1 is.kind_is is.sender_is.1 is.seq_is.1 is.body_is.1,
    )
bad_found names (a ∷ b ∷ c ∷ d ∷ e ∷ f ∷ g ∷ ws) note h = absurd cc

bad_reply_found : (names : NamesData) (ws : List (List ℕ)) (note : QueueNote) → bad_reply_in names ws ≡ Ok note → Spelled (QueueFromBridge names) heads.BadReply ws note
unfolding bad_reply_in
bad_reply_found names [] note h = absurd cc
bad_reply_found names (a ∷ []) note h = absurd cc
bad_reply_found names (a ∷ b ∷ []) note h = absurd cc
bad_reply_found names (slot ∷ inbox ∷ word ∷ []) note h =
    let s = bind_ok (small_in slot) _ note h in
    let o = bind_ok (inbox_in names inbox) _ note s.2 in
    let b = bind_ok (broken_in word) _ note o.2 in
    let slot_is = small_found slot s.0 s.1 in
    let inbox_is = inbox_found names inbox o.0 o.1 in
    let bytes_is = broken_found word b.0 b.1 in
    subst (λ (y : QueueNote). Spelled (QueueFromBridge names) heads.BadReply (slot ∷ inbox ∷ word ∷ []) y) (ok_is (q.BadReply s.0 o.0 b.0) note b.2)
    ((slot_is.0, inbox_is.0, bytes_is.0), same_row (codes "badreply") slot (decimal s.0) inbox (inbox_text o.0) (word ∷ []) (bytes_text b.0 ∷ []) slot_is.1 inbox_is.1 (ap (λ (x : List ℕ). x ∷ []) bytes_is.1))
bad_reply_found names (a ∷ b ∷ c ∷ d ∷ ws) note h = absurd cc

tick_found : (names : NamesData) (ws : List (List ℕ)) (note : QueueNote) → tick_in names ws ≡ Ok note → Spelled (QueueFromTimers names) heads.Tick ws note
unfolding tick_in
tick_found names [] note h = absurd cc
tick_found names (a ∷ []) note h = absurd cc
tick_found names (a ∷ b ∷ []) note h = absurd cc
tick_found names (slot ∷ timer ∷ moment ∷ []) note h =
    let s = bind_ok (small_in slot) _ note h in
    let o = bind_ok (timer_in names timer) _ note s.2 in
    let m = step_ok 5 (number_in moment) _ note o.2 in
    let slot_is = small_found slot s.0 s.1 in
    let timer_is = timer_found names timer o.0 o.1 in
    let moment_is = number_in_found moment m.0 m.1 in
    subst (λ (y : QueueNote). Spelled (QueueFromTimers names) heads.Tick (slot ∷ timer ∷ moment ∷ []) y) (ok_is (q.Tick s.0 o.0 m.0) note m.2)
    ((slot_is.0, timer_is.0, moment_is.0), same_row (codes "tick") slot (decimal s.0) timer (timer_text o.0) (moment ∷ []) (decimal m.0 ∷ []) slot_is.1 timer_is.1 (ap (λ (x : List ℕ). x ∷ []) moment_is.1))
tick_found names (a ∷ b ∷ c ∷ d ∷ ws) note h = absurd cc

gone_linked_found : (names : NamesData) (ws : List (List ℕ)) (note : QueueNote) → gone_linked_in names ws ≡ Ok note → Spelled (QueueFromBridge names) heads.Gone ws note
unfolding gone_linked_in
gone_linked_found names [] note h = absurd cc
gone_linked_found names (a ∷ []) note h = absurd cc
gone_linked_found names (slot ∷ object ∷ []) note h =
    let s = bind_ok (small_in slot) _ note h in
    let o = bind_ok (linked_in names object) _ note s.2 in
    let slot_is = small_found slot s.0 s.1 in
    let object_is = linked_found names object o.0 o.1 in
    subst (λ (y : QueueNote). Spelled (QueueFromBridge names) heads.Gone (slot ∷ object ∷ []) y) (ok_is (q.Gone s.0 o.0) note o.2)
    ((slot_is.0, object_is.0), same_row (codes "gone") slot (decimal s.0) object (object_text o.0) [] [] slot_is.1 object_is.1 refl)
gone_linked_found names (a ∷ b ∷ c ∷ ws) note h = absurd cc

gone_timer_found : (names : NamesData) (ws : List (List ℕ)) (note : QueueNote) → gone_timer_in names ws ≡ Ok note → Spelled (QueueFromTimers names) heads.Gone ws note
unfolding gone_timer_in
gone_timer_found names [] note h = absurd cc
gone_timer_found names (a ∷ []) note h = absurd cc
gone_timer_found names (slot ∷ timer ∷ []) note h =
    let s = bind_ok (small_in slot) _ note h in
    let o = bind_ok (timer_in names timer) _ note s.2 in
    let slot_is = small_found slot s.0 s.1 in
    let timer_is = timer_found names timer o.0 o.1 in
    subst (λ (y : QueueNote). Spelled (QueueFromTimers names) heads.Gone (slot ∷ timer ∷ []) y) (ok_is (q.Gone s.0 (Timer o.0)) note o.2)
    ((slot_is.0, timer_is.0), same_row (codes "gone") slot (decimal s.0) timer (timer_text o.0) [] [] slot_is.1 timer_is.1 refl)
gone_timer_found names (a ∷ b ∷ c ∷ ws) note h = absurd cc

bridge_found : (names : NamesData) (head : Head) (ws : List (List ℕ)) (note : QueueNote) → queue_bridge_in names head ws ≡ Ok note → Spelled (QueueFromBridge names) head ws note
bridge_found names heads.Create ws note h = create_linked_found names ws note h
bridge_found names heads.Data ws note h = data_found names ws note h
bridge_found names heads.Reply ws note h = reply_found names ws note h
bridge_found names heads.Bad ws note h = bad_found names ws note h
bridge_found names heads.BadReply ws note h = bad_reply_found names ws note h
bridge_found names heads.Gone ws note h = gone_linked_found names ws note h
bridge_found names heads.Fin ws note h = alone_is (QueueFromBridge names) q.Fin note ws tt refl h
bridge_found names _ ws note h = absurd cc

timers_found : (names : NamesData) (head : Head) (ws : List (List ℕ)) (note : QueueNote) → queue_timers_in names head ws ≡ Ok note → Spelled (QueueFromTimers names) head ws note
timers_found names heads.Create ws note h = create_timer_found names ws note h
timers_found names heads.Tick ws note h = tick_found names ws note h
timers_found names heads.Gone ws note h = gone_timer_found names ws note h
timers_found names heads.Fin ws note h = alone_is (QueueFromTimers names) q.Fin note ws tt refl h
timers_found names _ ws note h = absurd cc

-- an entry that was read from these words
pub record Entered (names : NamesData) (word : List ℕ) (head : Head) (ws : List (List ℕ)) (e : ℕ × QueueNote) : Type 0 where
  pub may : MayEnterQueue names e
  pub word_is : word ≡ putter_text (queue_putter e.0)
  pub words_are : head_text head ∷ ws ≡ words_of e.1

lettered : (letter c : ℕ) → (letter == c) ≡ true → letter ∷ [] ≡ c ∷ []
lettered letter c is = ap (λ (k : ℕ). k ∷ []) (eqb-true letter c is)

abbrev Read : Type 0
Read = Result (ℕ × QueueNote) ℕ

abbrev Entry : Type 0
Entry = ℕ × QueueNote

abbrev came : ℕ → Result QueueNote ℕ → Read
came port r = r >>= λ note. Ok (port, note)

bridge_entered : (names : NamesData) (letter : ℕ) (head : Head) (ws : List (List ℕ)) (e : Entry) → (letter == 98) ≡ true → came 0 (queue_bridge_in names head ws) ≡ Ok e → Entered names (letter ∷ []) head ws e
bridge_entered names letter head ws e is h =
    let n = bind_ok (queue_bridge_in names head ws) (λ note. Ok (0, note)) e h in
    let pair : Entry = (0, n.0) in
    let note = bridge_found names head ws n.0 n.1 in
    subst (λ (x : Entry). Entered names (letter ∷ []) head ws x) (ok_is pair e n.2) (record { may = note.0; word_is = lettered letter 98 is; words_are = note.1 })

timers_entered : (names : NamesData) (letter : ℕ) (head : Head) (ws : List (List ℕ)) (e : Entry) → (letter == 116) ≡ true → came 1 (queue_timers_in names head ws) ≡ Ok e → Entered names (letter ∷ []) head ws e
timers_entered names letter head ws e is h =
    let n = bind_ok (queue_timers_in names head ws) (λ note. Ok (1, note)) e h in
    let pair : Entry = (1, n.0) in
    let note = timers_found names head ws n.0 n.1 in
    subst (λ (x : Entry). Entered names (letter ∷ []) head ws x) (ok_is pair e n.2) (record { may = note.0; word_is = lettered letter 116 is; words_are = note.1 })

by_found : (names : NamesData) (word : List ℕ) (head : Head) (ws : List (List ℕ)) (e : Entry) → queue_by names word head ws ≡ Ok e → Entered names word head ws e
unfolding queue_by
by_found names [] head ws e h = absurd cc
by_found names (letter ∷ []) head ws e h =
    let bridge : Read = came 0 (queue_bridge_in names head ws) in
    let timers : Read = came 1 (queue_timers_in names head ws) in
    let nobody : Read = Err 5 in
    elim (chosen (letter == 98) bridge (cond (letter == 116) timers nobody) (Ok e) h) [
      | inl p ↦ bridge_entered names letter head ws e p.0 p.1
      | inr p ↦ elim (chosen (letter == 116) timers nobody (Ok e) p.1) [
        | inl r ↦ timers_entered names letter head ws e r.0 r.1
        | inr r ↦ let bad : nobody ≡ Ok e = r.1 in absurd cc
      ]
    ]
by_found names (letter ∷ d ∷ digits) head ws e h = absurd cc

words_found : (names : NamesData) (ws : List (List ℕ)) (e : Entry) → queue_words_in names ws ≡ Ok e → MayEnterQueue names e × (ws ≡ putter_text (queue_putter e.0) ∷ words_of e.1)
unfolding queue_words_in
words_found names [] e h = absurd cc
words_found names (a ∷ []) e h = absurd cc
words_found names (word ∷ head ∷ ws) e h =
    let p = step_ok 3 (head_in head) (λ head. queue_by names word head ws) e h in
    let q = by_found names word p.0 ws e p.2 in (
      q.may,
      ap (λ (w : List ℕ). w ∷ head ∷ ws) q.word_is ∙ ap (λ (w : List ℕ). putter_text (queue_putter e.0) ∷ w ∷ ws) (head_found head p.0 p.1)
          ∙ ap (λ (r : List (List ℕ)). putter_text (queue_putter e.0) ∷ r) q.words_are,
    )

pub queue_found : (names : NamesData) (line : List ℕ) (e : Entry) → queue_line_in names line ≡ Ok e → MayEnterQueue names e × (line ++ 10 ∷ [] ≡ queue_entry_line e)
unfolding queue_line_in
queue_found names line e h =
    let p = line_found (queue_words_in names) line e h in
    let q = words_found names p.0 e p.2 in
    let putter = putter_text (queue_putter e.0) in
    (q.0, ap (λ (t : List ℕ). t ++ 10 ∷ []) (p.1 ∙ ap sentence q.1 ∙ ap (λ (t : List ℕ). putter ++ 32 ∷ t) (sym (row e.1))))
