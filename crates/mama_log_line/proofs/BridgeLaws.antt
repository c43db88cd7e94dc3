-- The entries of the bridge's journal: what is read is so spelled, and what is so spelled is read.
use Rattle.std.proofs.Common.{◌≡◌, ℕ, ◌+◌, ◌<◌, ◌^◌, true, List, [], ◌∷◌, ◌++◌, map, Result, Ok, Err, refl, sym, ap, subst, ◌∙◌, inl, inr, arith}
use Rattle.std.specs.Prelude.{◌==◌, codes, cond}
use Rattle.std.specs.List.{flat_map}
use Rattle.std.proofs.lemmas.Bool.{eqb-true}
use Rattle.mama_edge.specs.Decimal.{decimal}
use Rattle.mama_event.specs.declared.ids.SubId.{SubId}
use Rattle.mama_event.specs.declared.ids.InboxId.{InboxId}
use Rattle.mama_event.specs.declared.ids.ObjectId.{ObjectId}
use Rattle.mama_event.specs.declared.ids.ObjectId.TheVariants.{Sub, Inbox}
use Rattle.mama_event.specs.declared.to_bridge.BridgeNote.{BridgeNote}
use Rattle.mama_event.specs.declared.to_bridge.BridgeNote.TheVariants as b
use Rattle.mama_event.specs.Ports.{clients_of, publishers_of, queues_of}
use Rattle.mama_words.specs.Id.{sub_text, inbox_text}
use Rattle.mama_words.specs.Field.{field_text}
use Rattle.mama_words.specs.Order.{spaced_number}
use Rattle.mama_words.specs.Sentence.{sentence}
use Rattle.mama_words.specs.WordForm.{IsWord, AreWords}
use Rattle.mama_words.proofs.Choices.{ok_is, chosen, bind_ok, step_ok}
use Rattle.mama_words.proofs.Spellings.{decimal_word, field_words, fields_row}
use Rattle.mama_rules_services.specs.Ports.{Putter, ByClient, ByPublisher, ByQueue, bridge_putter}
use Rattle.mama_record.specs.LogText.{putter_text, bridge_note_text, bridge_entry_line}
use Rattle.mama_log_line.specs.declared.head.Head.{Head}
use Rattle.mama_log_line.specs.declared.head.Head.TheVariants as heads
use Rattle.mama_log_line.specs.Head.{head_text, head_in}
use Rattle.mama_log_line.specs.Names.{NamesData, terms_of, inbox_terms_of, IsSub, IsInbox, IsTopic}
use Rattle.mama_log_line.specs.Word.{sub_in, inbox_in, topic_in, few_fids_in, small_in, body_in, market_in}
use Rattle.mama_log_line.specs.Entering.{AreFids, BridgeFromClient, BridgeFromPublisher, BridgeFromQueue, BridgeFrom, MayEnterBridge}
use Rattle.mama_log_line.specs.Journal.{alone_in, came_by, join_in, leave_in, open_in, close_in, ask_in, publish_in, image_in, answer_in, wish_in, bridge_client_in, bridge_publisher_in, bridge_queue_in, bridge_client_port, bridge_publisher_port, bridge_queue_port, bridge_by, bridge_words_in, bridge_line_in}
use Rattle.mama_log_line.proofs.Heads.{head_again, head_found}
use Rattle.mama_log_line.proofs.Ports.{by_bridge_port, bridge_client, bridge_publisher, bridge_queue, port_found, port_again, client_port_again, numbered_word, came_found, came_again}
use Rattle.mama_log_line.proofs.WordLaws.{market_words, sub_again, sub_found, inbox_again, inbox_found, small_again, small_found, topic_again, topic_found, few_fids_again, few_fids_found, body_again, body_found, market_again, market_found}
use Rattle.mama_log_line.proofs.LineLaws.{head_word, fid_words, numbers_row, three, last_word, market_row, market_are_words, sub_is_word, inbox_is_word, alone_found, alone_again, line_found, line_again}

abbrev pub head_of : BridgeNote → Head
head_of (b.Join sub terms tag) = heads.Join
head_of (b.Leave sub) = heads.Leave
head_of (b.OpenInbox inbox terms tag) = heads.Open
head_of (b.CloseInbox inbox) = heads.Close
head_of (b.Ask inbox topic fids) = heads.Ask
head_of (b.Publish msg) = heads.Publish
head_of (b.Image sub msg) = heads.Image
head_of (b.Reply inbox body) = heads.Reply
head_of (b.RecapWish sub sender) = heads.Recap
head_of b.ClientDone = heads.Done
head_of b.SendsDone = heads.Done
head_of b.Settled = heads.Settled
head_of b.Bye = heads.Bye

-- the words behind the head
abbrev pub rest_of : BridgeNote → List (List ℕ)
rest_of (b.Join sub terms tag) = sub_text sub ∷ []
rest_of (b.Leave sub) = sub_text sub ∷ []
rest_of (b.OpenInbox inbox terms tag) = inbox_text inbox ∷ []
rest_of (b.CloseInbox inbox) = inbox_text inbox ∷ []
rest_of (b.Ask inbox topic fids) = inbox_text inbox ∷ decimal topic ∷ map decimal fids
rest_of (b.Publish msg) = market_words msg
rest_of (b.Image sub msg) = sub_text sub ∷ market_words msg
rest_of (b.Reply inbox body) = inbox_text inbox ∷ map field_text body
rest_of (b.RecapWish sub sender) = sub_text sub ∷ decimal sender ∷ []
rest_of b.ClientDone = []
rest_of b.SendsDone = []
rest_of b.Settled = []
rest_of b.Bye = []

abbrev pub words_of : BridgeNote → List (List ℕ)
words_of note = head_text (head_of note) ∷ rest_of note

row : (note : BridgeNote) → bridge_note_text note ≡ sentence (words_of note)
row (b.Join sub terms tag) = ap (λ (t : List ℕ). codes "join " ++ t) (last_word (sub_text sub))
row (b.Leave sub) = ap (λ (t : List ℕ). codes "leave " ++ t) (last_word (sub_text sub))
row (b.OpenInbox inbox terms tag) = ap (λ (t : List ℕ). codes "open " ++ t) (last_word (inbox_text inbox))
row (b.CloseInbox inbox) = ap (λ (t : List ℕ). codes "close " ++ t) (last_word (inbox_text inbox))
row (b.Ask inbox topic fids) =
    ap (λ (t : List ℕ). codes "ask " ++ t) (three (inbox_text inbox) (spaced_number topic) (flat_map spaced_number fids))
    ∙ ap (λ (t : List ℕ). codes "ask " ++ (inbox_text inbox ++ 32 ∷ (decimal topic ++ t))) (numbers_row fids)
row (b.Publish msg) = ap (λ (t : List ℕ). codes "publish " ++ t) (market_row msg)
row (b.Image sub msg) = ap (λ (t : List ℕ). codes "image " ++ (sub_text sub ++ 32 ∷ t)) (market_row msg)
row (b.Reply inbox body) = ap (λ (t : List ℕ). codes "reply " ++ (inbox_text inbox ++ t)) (fields_row body)
row (b.RecapWish sub sender) = ap (λ (t : List ℕ). codes "recap " ++ (sub_text sub ++ 32 ∷ t)) (last_word (decimal sender))
row b.ClientDone = refl
row b.SendsDone = refl
row b.Settled = refl
row b.Bye = refl

-- ---- what is spelled is read

ask_words : (names : NamesData) (inbox : InboxId) (topic : ℕ) (fids : List ℕ) → IsInbox names inbox → IsTopic names topic → AreFids fids → AreWords (words_of (b.Ask inbox topic fids))
ask_words names inbox topic fids i t f = (head_word heads.Ask, (inbox_is_word names inbox i, (decimal_word topic t.number, fid_words fids f.small)))

client_words : (names : NamesData) (note : BridgeNote) → BridgeFromClient names note → AreWords (words_of note)
client_words names (b.Join sub terms tag) h = (head_word heads.Join, (sub_is_word names sub h.0, tt))
client_words names (b.Leave sub) h = (head_word heads.Leave, (sub_is_word names sub h, tt))
client_words names (b.OpenInbox inbox terms tag) h = (head_word heads.Open, (inbox_is_word names inbox h.0, tt))
client_words names (b.CloseInbox inbox) h = (head_word heads.Close, (inbox_is_word names inbox h, tt))
client_words names (b.Ask inbox topic fids) h = ask_words names inbox topic fids h.0 h.1 h.2
client_words names b.ClientDone h = (head_word heads.Done, tt)
client_words names _ h = absurd h

publisher_words : (names : NamesData) (note : BridgeNote) → BridgeFromPublisher names note → AreWords (words_of note)
publisher_words names (b.Publish msg) h = (head_word heads.Publish, market_are_words names.nums msg h)
publisher_words names (b.Image sub msg) h = (head_word heads.Image, (sub_is_word names sub h.0, market_are_words names.nums msg h.1))
publisher_words names (b.Reply inbox body) h = (head_word heads.Reply, (inbox_is_word names inbox h.0, field_words names.nums body h.1.message.fields))
publisher_words names b.SendsDone h = (head_word heads.Done, tt)
publisher_words names b.Settled h = (head_word heads.Settled, tt)
publisher_words names _ h = absurd h

queue_words : (names : NamesData) (note : BridgeNote) → BridgeFromQueue names note → AreWords (words_of note)
queue_words names (b.Leave sub) h = (head_word heads.Leave, (sub_is_word names sub h, tt))
queue_words names (b.CloseInbox inbox) h = (head_word heads.Close, (inbox_is_word names inbox h, tt))
queue_words names (b.Ask inbox topic fids) h = ask_words names inbox topic fids h.0 h.1 h.2
queue_words names (b.RecapWish sub sender) h = (head_word heads.Recap, (sub_is_word names sub h.0, (decimal_word sender (let lt = h.1 in omega (arith, lt)), tt)))
queue_words names b.Bye h = (head_word heads.Bye, tt)
queue_words names _ h = absurd h

leave_again : (names : NamesData) (sub : SubId) → IsSub names sub → leave_in names (rest_of (b.Leave sub)) ≡ Ok (b.Leave sub)
unfolding leave_in
leave_again names sub h = rw (sub_again names sub h) refl

close_again : (names : NamesData) (inbox : InboxId) → IsInbox names inbox → close_in names (rest_of (b.CloseInbox inbox)) ≡ Ok (b.CloseInbox inbox)
unfolding close_in
close_again names inbox h = rw (inbox_again names inbox h) refl

ask_again : (names : NamesData) (inbox : InboxId) (topic : ℕ) (fids : List ℕ) → IsInbox names inbox → IsTopic names topic → AreFids fids → ask_in names (rest_of (b.Ask inbox topic fids)) ≡ Ok (b.Ask inbox topic fids)
unfolding ask_in
ask_again names inbox topic fids i t f = rw (inbox_again names inbox i, topic_again names topic t, few_fids_again fids f) refl

client_again : (names : NamesData) (note : BridgeNote) → BridgeFromClient names note → bridge_client_in names (head_of note) (rest_of note) ≡ Ok note
client_again names (b.Join sub terms tag) h = unfold join_in in rw (sub_again names sub h.0, h.1) (ap (λ (t : ObjectId). Ok (b.Join sub terms t)) (sym h.2))
client_again names (b.Leave sub) h = leave_again names sub h
client_again names (b.OpenInbox inbox terms tag) h = unfold open_in in rw (inbox_again names inbox h.0, h.1) (ap (λ (t : ObjectId). Ok (b.OpenInbox inbox terms t)) (sym h.2))
client_again names (b.CloseInbox inbox) h = close_again names inbox h
client_again names (b.Ask inbox topic fids) h = ask_again names inbox topic fids h.0 h.1 h.2
client_again names b.ClientDone h = alone_again b.ClientDone
client_again names _ h = absurd h

publisher_again : (names : NamesData) (note : BridgeNote) → BridgeFromPublisher names note → bridge_publisher_in names (head_of note) (rest_of note) ≡ Ok note
publisher_again names (b.Publish msg) h = unfold publish_in in rw (market_again names.nums msg h) refl
publisher_again names (b.Image sub msg) h = unfold image_in in rw (sub_again names sub h.0, market_again names.nums msg h.1) refl
publisher_again names (b.Reply inbox body) h = unfold answer_in in rw (inbox_again names inbox h.0, body_again names.nums body h.1) refl
publisher_again names b.SendsDone h = alone_again b.SendsDone
publisher_again names b.Settled h = alone_again b.Settled
publisher_again names _ h = absurd h

queue_again : (names : NamesData) (note : BridgeNote) → BridgeFromQueue names note → bridge_queue_in names (head_of note) (rest_of note) ≡ Ok note
queue_again names (b.Leave sub) h = leave_again names sub h
queue_again names (b.CloseInbox inbox) h = close_again names inbox h
queue_again names (b.Ask inbox topic fids) h = ask_again names inbox topic fids h.0 h.1 h.2
queue_again names (b.RecapWish sub sender) h = unfold wish_in in rw (sub_again names sub h.0, small_again sender h.1) refl
queue_again names b.Bye h = alone_again b.Bye
queue_again names _ h = absurd h

-- a note by a port whose putter is this one, with the port's word
pub record Again (names : NamesData) (port : ℕ) (putter : Putter) (note : BridgeNote) : Type 0 where
  pub word : IsWord (putter_text putter)
  pub others : AreWords (words_of note)
  pub read : bridge_by names (putter_text putter) (head_of note) (rest_of note) ≡ Ok (port, note)

client_case : (names : NamesData) (note : BridgeNote) (c : ℕ) → c < clients_of names.shape → c < 2 ^ 32 → BridgeFromClient names note → Again names c (ByClient c) note
unfolding bridge_by
client_case names note c lt small may = record {
  word = numbered_word 99 c refl (omega (arith, small));
  others = client_words names note may;
  read = came_again (bridge_client_port names (decimal c)) (bridge_client_in names (head_of note) (rest_of note)) c note (client_port_again (clients_of names.shape) c lt small) (client_again names note may);
}

publisher_case : (names : NamesData) (note : BridgeNote) (p : ℕ) → p < publishers_of names.shape → clients_of names.shape + p < 2 ^ 32 → BridgeFromPublisher names note → Again names (clients_of names.shape + p) (ByPublisher p) note
unfolding bridge_by
publisher_case names note p lt small may = record {
  word = numbered_word 112 p refl (omega (arith, small));
  others = publisher_words names note may;
  read = came_again (bridge_publisher_port names (decimal p)) (bridge_publisher_in names (head_of note) (rest_of note)) (clients_of names.shape + p) note (port_again (clients_of names.shape) (publishers_of names.shape) p lt small) (publisher_again names note may);
}

queue_case : (names : NamesData) (note : BridgeNote) (q : ℕ) → q < queues_of names.shape → clients_of names.shape + publishers_of names.shape + q < 2 ^ 32 → BridgeFromQueue names note → Again names (clients_of names.shape + publishers_of names.shape + q) (ByQueue q) note
unfolding bridge_by
queue_case names note q lt small may = record {
  word = numbered_word 113 q refl (omega (arith, small));
  others = queue_words names note may;
  read = came_again (bridge_queue_port names (decimal q)) (bridge_queue_in names (head_of note) (rest_of note)) (clients_of names.shape + publishers_of names.shape + q) note (port_again (clients_of names.shape + publishers_of names.shape) (queues_of names.shape) q lt small) (queue_again names note may);
}

by_again : (names : NamesData) (note : BridgeNote) (port : ℕ) → port < 2 ^ 32 → BridgeFrom names (bridge_putter names.shape port) note → Again names port (bridge_putter names.shape port) note
by_again names note port =
    by_bridge_port names.shape (λ port putter. port < 2 ^ 32 → BridgeFrom names putter note → Again names port putter note)
    (λ c lt small may. client_case names note c lt small may) (λ p lt small may. publisher_case names note p lt small may) (λ q lt small may. queue_case names note q lt small may) (λ port past small may. absurd may) port

words_again : (names : NamesData) (word : List ℕ) (head : Head) (rest : List (List ℕ)) (e : ℕ × BridgeNote) → bridge_by names word head rest ≡ Ok e → bridge_words_in names (word ∷ head_text head ∷ rest) ≡ Ok e
unfolding bridge_words_in
words_again names word head rest e h = rw (head_again head) h

pub bridge_again : (names : NamesData) (line : List ℕ) (e : ℕ × BridgeNote) → MayEnterBridge names e → line ++ 10 ∷ [] ≡ bridge_entry_line names.shape e → bridge_line_in names line ≡ Ok e
unfolding bridge_line_in
bridge_again names line e may same =
    let by = by_again names e.1 e.0 may.port may.note in
    let putter = bridge_putter names.shape e.0 in
    line_again (bridge_words_in names) (putter_text putter) (words_of e.1) (putter_text putter ++ 32 ∷ bridge_note_text e.1) line e
    (by.word, by.others) (ap (λ (t : List ℕ). putter_text putter ++ 32 ∷ t) (row e.1))
    (words_again names (putter_text putter) (head_of e.1) (rest_of e.1) e by.read) same

-- ---- what is read is so spelled

-- a note that begins with this head, whose other words are these
abbrev Spelled : (BridgeNote → Type 0) → Head → List (List ℕ) → BridgeNote → Type 0
Spelled May head ws note = May note × (head_text head ∷ ws ≡ words_of note)

alone_is : (May : BridgeNote → Type 0) (x note : BridgeNote) (ws : List (List ℕ)) → May x → rest_of x ≡ [] → alone_in x ws ≡ Ok note → Spelled May (head_of x) ws note
alone_is May x note ws may none h =
    let a = alone_found x ws note h in
    subst (λ (y : BridgeNote). Spelled May (head_of x) ws y) a.0 (may, ap (λ (r : List (List ℕ)). head_text (head_of x) ∷ r) (a.1 ∙ sym none))

-- a note that names one object
one_word : (May : BridgeNote → Type 0) (x note : BridgeNote) (w v : List ℕ) → May x → rest_of x ≡ v ∷ [] → w ≡ v → x ≡ note → Spelled May (head_of x) (w ∷ []) note
one_word May x note w v may rest same is =
    subst (λ (y : BridgeNote). Spelled May (head_of x) (w ∷ []) y) is (may, ap (λ (t : List ℕ). head_text (head_of x) ∷ t ∷ []) same ∙ ap (λ (r : List (List ℕ)). head_text (head_of x) ∷ r) (sym rest))

leave_found : (names : NamesData) (May : BridgeNote → Type 0) → ((sub : SubId) → IsSub names sub → May (b.Leave sub)) → (ws : List (List ℕ)) (note : BridgeNote) → leave_in names ws ≡ Ok note → Spelled May heads.Leave ws note
unfolding leave_in
leave_found names May may [] note h = absurd cc
leave_found names May may (w ∷ []) note h =
    let s = bind_ok (sub_in names w) _ note h in
    let is = sub_found names w s.0 s.1 in
    one_word May (b.Leave s.0) note w (sub_text s.0) (may s.0 is.0) refl is.1 (ok_is (b.Leave s.0) note s.2)
leave_found names May may (a ∷ c ∷ ws) note h = absurd cc

close_found : (names : NamesData) (May : BridgeNote → Type 0) → ((inbox : InboxId) → IsInbox names inbox → May (b.CloseInbox inbox)) → (ws : List (List ℕ)) (note : BridgeNote) → close_in names ws ≡ Ok note → Spelled May heads.Close ws note
unfolding close_in
close_found names May may [] note h = absurd cc
close_found names May may (w ∷ []) note h =
    let s = bind_ok (inbox_in names w) _ note h in
    let is = inbox_found names w s.0 s.1 in
    one_word May (b.CloseInbox s.0) note w (inbox_text s.0) (may s.0 is.0) refl is.1 (ok_is (b.CloseInbox s.0) note s.2)
close_found names May may (a ∷ c ∷ ws) note h = absurd cc

join_found : (names : NamesData) (ws : List (List ℕ)) (note : BridgeNote) → join_in names ws ≡ Ok note → Spelled (BridgeFromClient names) heads.Join ws note
unfolding join_in
join_found names [] note h = absurd cc
join_found names (w ∷ []) note h =
    let s = bind_ok (sub_in names w) _ note h in
    let t = step_ok 10 (terms_of names s.0) _ note s.2 in
    let is = sub_found names w s.0 s.1 in
    one_word (BridgeFromClient names) (b.Join s.0 t.0 (Sub s.0)) note w (sub_text s.0) (is.0, t.1, refl) refl is.1 (ok_is (b.Join s.0 t.0 (Sub s.0)) note t.2)
join_found names (a ∷ c ∷ ws) note h = absurd cc

open_found : (names : NamesData) (ws : List (List ℕ)) (note : BridgeNote) → open_in names ws ≡ Ok note → Spelled (BridgeFromClient names) heads.Open ws note
unfolding open_in
open_found names [] note h = absurd cc
open_found names (w ∷ []) note h =
    let s = bind_ok (inbox_in names w) _ note h in
    let t = step_ok 10 (inbox_terms_of names s.0) _ note s.2 in
    let is = inbox_found names w s.0 s.1 in
    one_word (BridgeFromClient names) (b.OpenInbox s.0 t.0 (Inbox s.0)) note w (inbox_text s.0) (is.0, t.1, refl) refl is.1 (ok_is (b.OpenInbox s.0 t.0 (Inbox s.0)) note t.2)
open_found names (a ∷ c ∷ ws) note h = absurd cc

same_ask : (h a c d e : List ℕ) (x y : List (List ℕ)) → a ≡ c → d ≡ e → x ≡ y → h ∷ a ∷ d ∷ x ≡ h ∷ c ∷ e ∷ y
same_ask h a c d e x y p q r = cc

ask_found : (names : NamesData) (May : BridgeNote → Type 0) → ((inbox : InboxId) (topic : ℕ) (fids : List ℕ) → IsInbox names inbox → IsTopic names topic → AreFids fids → May (b.Ask inbox topic fids))
    → (ws : List (List ℕ)) (note : BridgeNote) → ask_in names ws ≡ Ok note → Spelled May heads.Ask ws note
unfolding ask_in
ask_found names May may [] note h = absurd cc
ask_found names May may (a ∷ []) note h = absurd cc
ask_found names May may (inbox ∷ topic ∷ fids) note h =
    let i = bind_ok (inbox_in names inbox) _ note h in
    let t = bind_ok (topic_in names topic) _ note i.2 in
    let f = bind_ok (few_fids_in fids) _ note t.2 in
    let inbox_is = inbox_found names inbox i.0 i.1 in
    let topic_is = topic_found names topic t.0 t.1 in
    let fids_are = few_fids_found fids f.0 f.1 in
    subst (λ (y : BridgeNote). Spelled May heads.Ask (inbox ∷ topic ∷ fids) y) (ok_is (b.Ask i.0 t.0 f.0) note f.2)
    (may i.0 t.0 f.0 inbox_is.0 topic_is.0 fids_are.0, same_ask (codes "ask") inbox (inbox_text i.0) topic (decimal t.0) fids (map decimal f.0) inbox_is.1 topic_is.1 fids_are.1)

publish_found : (names : NamesData) (ws : List (List ℕ)) (note : BridgeNote) → publish_in names ws ≡ Ok note → Spelled (BridgeFromPublisher names) heads.Publish ws note
unfolding publish_in
publish_found names ws note h =
    let m = bind_ok (market_in names.nums ws) _ note h in
    let is = market_found names.nums ws m.0 m.1 in
    subst (λ (y : BridgeNote). Spelled (BridgeFromPublisher names) heads.Publish ws y) (ok_is (b.Publish m.0) note m.2)
    (is.0, ap (λ (r : List (List ℕ)). codes "publish" ∷ r) is.1)

same_two : (h a c : List ℕ) (x y : List (List ℕ)) → a ≡ c → x ≡ y → h ∷ a ∷ x ≡ h ∷ c ∷ y
same_two h a c x y p q = cc

image_found : (names : NamesData) (ws : List (List ℕ)) (note : BridgeNote) → image_in names ws ≡ Ok note → Spelled (BridgeFromPublisher names) heads.Image ws note
unfolding image_in
image_found names [] note h = absurd cc
image_found names (sub ∷ ws) note h =
    let s = bind_ok (sub_in names sub) _ note h in
    let m = bind_ok (market_in names.nums ws) _ note s.2 in
    let sub_is = sub_found names sub s.0 s.1 in
    let is = market_found names.nums ws m.0 m.1 in
    subst (λ (y : BridgeNote). Spelled (BridgeFromPublisher names) heads.Image (sub ∷ ws) y) (ok_is (b.Image s.0 m.0) note m.2)
    ((sub_is.0, is.0), same_two (codes "image") sub (sub_text s.0) ws (market_words m.0) sub_is.1 is.1)

answer_found : (names : NamesData) (ws : List (List ℕ)) (note : BridgeNote) → answer_in names ws ≡ Ok note → Spelled (BridgeFromPublisher names) heads.Reply ws note
unfolding answer_in
answer_found names [] note h = absurd cc
answer_found names (inbox ∷ ws) note h =
    let i = bind_ok (inbox_in names inbox) _ note h in
    let m = bind_ok (body_in names.nums ws) _ note i.2 in
    let inbox_is = inbox_found names inbox i.0 i.1 in
    let is = body_found names.nums ws m.0 m.1 in
    subst (λ (y : BridgeNote). Spelled (BridgeFromPublisher names) heads.Reply (inbox ∷ ws) y) (ok_is (b.Reply i.0 m.0) note m.2)
    ((inbox_is.0, is.0), same_two (codes "reply") inbox (inbox_text i.0) ws (map field_text m.0) inbox_is.1 is.1)

wish_found : (names : NamesData) (ws : List (List ℕ)) (note : BridgeNote) → wish_in names ws ≡ Ok note → Spelled (BridgeFromQueue names) heads.Recap ws note
unfolding wish_in
wish_found names [] note h = absurd cc
wish_found names (a ∷ []) note h = absurd cc
wish_found names (sub ∷ sender ∷ []) note h =
    let s = bind_ok (sub_in names sub) _ note h in
    let n = bind_ok (small_in sender) _ note s.2 in
    let sub_is = sub_found names sub s.0 s.1 in
    let is = small_found sender n.0 n.1 in
    subst (λ (y : BridgeNote). Spelled (BridgeFromQueue names) heads.Recap (sub ∷ sender ∷ []) y) (ok_is (b.RecapWish s.0 n.0) note n.2)
    ((sub_is.0, is.0), same_ask (codes "recap") sub (sub_text s.0) sender (decimal n.0) [] [] sub_is.1 is.1 refl)
wish_found names (a ∷ c ∷ d ∷ ws) note h = absurd cc

client_found : (names : NamesData) (head : Head) (ws : List (List ℕ)) (note : BridgeNote) → bridge_client_in names head ws ≡ Ok note → Spelled (BridgeFromClient names) head ws note
client_found names heads.Join ws note h = join_found names ws note h
client_found names heads.Leave ws note h = leave_found names (BridgeFromClient names) (λ sub is. is) ws note h
client_found names heads.Open ws note h = open_found names ws note h
client_found names heads.Close ws note h = close_found names (BridgeFromClient names) (λ inbox is. is) ws note h
client_found names heads.Ask ws note h = ask_found names (BridgeFromClient names) (λ inbox topic fids i t f. (i, t, f)) ws note h
client_found names heads.Done ws note h = alone_is (BridgeFromClient names) b.ClientDone note ws tt refl h
client_found names _ ws note h = absurd cc

publisher_found : (names : NamesData) (head : Head) (ws : List (List ℕ)) (note : BridgeNote) → bridge_publisher_in names head ws ≡ Ok note → Spelled (BridgeFromPublisher names) head ws note
publisher_found names heads.Publish ws note h = publish_found names ws note h
publisher_found names heads.Image ws note h = image_found names ws note h
publisher_found names heads.Reply ws note h = answer_found names ws note h
publisher_found names heads.Done ws note h = alone_is (BridgeFromPublisher names) b.SendsDone note ws tt refl h
publisher_found names heads.Settled ws note h = alone_is (BridgeFromPublisher names) b.Settled note ws tt refl h
publisher_found names _ ws note h = absurd cc

queue_found : (names : NamesData) (head : Head) (ws : List (List ℕ)) (note : BridgeNote) → bridge_queue_in names head ws ≡ Ok note → Spelled (BridgeFromQueue names) head ws note
queue_found names heads.Leave ws note h = leave_found names (BridgeFromQueue names) (λ sub is. is) ws note h
queue_found names heads.Close ws note h = close_found names (BridgeFromQueue names) (λ inbox is. is) ws note h
queue_found names heads.Ask ws note h = ask_found names (BridgeFromQueue names) (λ inbox topic fids i t f. (i, t, f)) ws note h
queue_found names heads.Recap ws note h = wish_found names ws note h
queue_found names heads.Bye ws note h = alone_is (BridgeFromQueue names) b.Bye note ws tt refl h
queue_found names _ ws note h = absurd cc

-- an entry that was read from these words
pub record Entered (names : NamesData) (word : List ℕ) (head : Head) (ws : List (List ℕ)) (e : ℕ × BridgeNote) : Type 0 where
  pub may : MayEnterBridge names e
  pub word_is : word ≡ putter_text (bridge_putter names.shape e.0)
  pub words_are : head_text head ∷ ws ≡ words_of e.1

entered : (names : NamesData) (word : List ℕ) (head : Head) (ws : List (List ℕ)) (e : ℕ × BridgeNote) (putter : Putter) → e.0 < 2 ^ 32 → bridge_putter names.shape e.0 ≡ putter
    → word ≡ putter_text putter → Spelled (BridgeFrom names putter) head ws e.1 → Entered names word head ws e
entered names word head ws e putter small by spelled note = record {
  may = record { port = small; note = subst (λ (p : Putter). BridgeFrom names p e.1) (sym by) note.0 };
  word_is = spelled ∙ ap putter_text (sym by);
  words_are = note.1;
}

lettered : (letter : ℕ) (c : ℕ) (digits more : List ℕ) → (letter == c) ≡ true → digits ≡ more → letter ∷ digits ≡ c ∷ more
lettered letter c digits more is same = ap (λ (k : ℕ). k ∷ digits) (eqb-true letter c is) ∙ ap (λ (t : List ℕ). c ∷ t) same

client_entered : (names : NamesData) (letter : ℕ) (digits : List ℕ) (head : Head) (ws : List (List ℕ)) (e : ℕ × BridgeNote) → (letter == 99) ≡ true
    → came_by (bridge_client_port names digits) (bridge_client_in names head ws) ≡ Ok e → Entered names (letter ∷ digits) head ws e
client_entered names letter digits head ws e is h =
    let c = came_found (bridge_client_port names digits) (bridge_client_in names head ws) e h in
    let p = port_found 0 (clients_of names.shape) digits e.0 c.0 in
    let port_is : p.number ≡ e.0 = let q = p.port_is in omega (arith, q) in
    let by : bridge_putter names.shape e.0 ≡ ByClient p.number = ap (bridge_putter names.shape) (sym port_is) ∙ bridge_client names.shape p.number p.there in
    entered names (letter ∷ digits) head ws e (ByClient p.number) p.small by (lettered letter 99 digits (decimal p.number) is p.digits_are) (client_found names head ws e.1 c.1)

publisher_entered : (names : NamesData) (letter : ℕ) (digits : List ℕ) (head : Head) (ws : List (List ℕ)) (e : ℕ × BridgeNote) → (letter == 112) ≡ true
    → came_by (bridge_publisher_port names digits) (bridge_publisher_in names head ws) ≡ Ok e → Entered names (letter ∷ digits) head ws e
publisher_entered names letter digits head ws e is h =
    let c = came_found (bridge_publisher_port names digits) (bridge_publisher_in names head ws) e h in
    let p = port_found (clients_of names.shape) (publishers_of names.shape) digits e.0 c.0 in
    let by : bridge_putter names.shape e.0 ≡ ByPublisher p.number = ap (bridge_putter names.shape) (sym p.port_is) ∙ bridge_publisher names.shape p.number p.there in
    entered names (letter ∷ digits) head ws e (ByPublisher p.number) p.small by (lettered letter 112 digits (decimal p.number) is p.digits_are) (publisher_found names head ws e.1 c.1)

queue_entered : (names : NamesData) (letter : ℕ) (digits : List ℕ) (head : Head) (ws : List (List ℕ)) (e : ℕ × BridgeNote) → (letter == 113) ≡ true
    → came_by (bridge_queue_port names digits) (bridge_queue_in names head ws) ≡ Ok e → Entered names (letter ∷ digits) head ws e
queue_entered names letter digits head ws e is h =
    let c = came_found (bridge_queue_port names digits) (bridge_queue_in names head ws) e h in
    let p = port_found (clients_of names.shape + publishers_of names.shape) (queues_of names.shape) digits e.0 c.0 in
    let by : bridge_putter names.shape e.0 ≡ ByQueue p.number = ap (bridge_putter names.shape) (sym p.port_is) ∙ bridge_queue names.shape p.number p.there in
    entered names (letter ∷ digits) head ws e (ByQueue p.number) p.small by (lettered letter 113 digits (decimal p.number) is p.digits_are) (queue_found names head ws e.1 c.1)

abbrev Read : Type 0
Read = Result (ℕ × BridgeNote) ℕ

by_found : (names : NamesData) (word : List ℕ) (head : Head) (ws : List (List ℕ)) (e : ℕ × BridgeNote) → bridge_by names word head ws ≡ Ok e → Entered names word head ws e
unfolding bridge_by
by_found names [] head ws e h = absurd cc
by_found names (letter ∷ digits) head ws e h =
    let client : Read = came_by (bridge_client_port names digits) (bridge_client_in names head ws) in
    let publisher : Read = came_by (bridge_publisher_port names digits) (bridge_publisher_in names head ws) in
    let queue : Read = came_by (bridge_queue_port names digits) (bridge_queue_in names head ws) in
    let nobody : Read = Err 5 in
    elim (chosen (letter == 99) client (cond (letter == 112) publisher (cond (letter == 113) queue nobody)) (Ok e) h) [
      | inl p ↦ client_entered names letter digits head ws e p.0 p.1
      | inr p ↦ elim (chosen (letter == 112) publisher (cond (letter == 113) queue nobody) (Ok e) p.1) [
        | inl q ↦ publisher_entered names letter digits head ws e q.0 q.1
        | inr q ↦ elim (chosen (letter == 113) queue nobody (Ok e) q.1) [
          | inl r ↦ queue_entered names letter digits head ws e r.0 r.1
          | inr r ↦ let bad : nobody ≡ Ok e = r.1 in absurd cc
        ]
      ]
    ]

words_found : (names : NamesData) (ws : List (List ℕ)) (e : ℕ × BridgeNote) → bridge_words_in names ws ≡ Ok e → MayEnterBridge names e × (ws ≡ putter_text (bridge_putter names.shape e.0) ∷ words_of e.1)
unfolding bridge_words_in
words_found names [] e h = absurd cc
words_found names (a ∷ []) e h = absurd cc
words_found names (word ∷ head ∷ ws) e h =
    let p = step_ok 3 (head_in head) (λ head. bridge_by names word head ws) e h in
    let q = by_found names word p.0 ws e p.2 in (
      q.may,
      ap (λ (w : List ℕ). w ∷ head ∷ ws) q.word_is ∙ ap (λ (w : List ℕ). putter_text (bridge_putter names.shape e.0) ∷ w ∷ ws) (head_found head p.0 p.1)
          ∙ ap (λ (r : List (List ℕ)). putter_text (bridge_putter names.shape e.0) ∷ r) q.words_are,
    )

pub bridge_found : (names : NamesData) (line : List ℕ) (e : ℕ × BridgeNote) → bridge_line_in names line ≡ Ok e → MayEnterBridge names e × (line ++ 10 ∷ [] ≡ bridge_entry_line names.shape e)
unfolding bridge_line_in
bridge_found names line e h =
    let p = line_found (bridge_words_in names) line e h in
    let q = words_found names p.0 e p.2 in
    let putter = putter_text (bridge_putter names.shape e.0) in
    (q.0, ap (λ (t : List ℕ). t ++ 10 ∷ []) (p.1 ∙ ap sentence q.1 ∙ ap (λ (t : List ℕ). putter ++ 32 ∷ t) (sym (row e.1))))
