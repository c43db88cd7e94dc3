-- What is read as a word of a log is so spelled, and what is so spelled is read.
use Rattle.std.proofs.Common.{◌≡◌, ℕ, ◌<◌, ◌≤◌, ◌^◌, Bool, true, cond, ltb, leb, List, [], ◌∷◌, length, map, Option, Some, None, Result, Ok, refl, ap, subst, ◌∙◌, inl, inr, arith}
use Rattle.std.specs.Prelude.{◌&&◌, ◌==◌, is_some}
use Rattle.std.proofs.lemmas.Bool.{ltb-true, lt-ltb, leb-true, le-leb, and_parts, and_from}
use Rattle.std.proofs.lemmas.List.{length-map}
use Rattle.mama_edge.specs.Decimal.{decimal}
use Rattle.mama_msg.specs.Field.{FieldData}
use Rattle.mama_event.specs.FidList.{is_fid_list, is_ascending_above}
use Rattle.mama_event.specs.declared.ids.SubId.{SubId}
use Rattle.mama_event.specs.declared.ids.TimerId.{TimerId}
use Rattle.mama_event.specs.declared.ids.InboxId.{InboxId}
use Rattle.mama_event.specs.declared.ids.ObjectId.{ObjectId}
use Rattle.mama_event.specs.declared.ids.ObjectId.TheVariants.{Sub, Timer, Inbox}
use Rattle.mama_event.specs.declared.market.MarketMsg.{MarketMsg}
use Rattle.mama_event.specs.declared.market.MsgKind.{MsgKind}
use Rattle.mama_event.specs.declared.market.MsgKind.TheVariants.{Initial, Update, Recap}
use Rattle.mama_words.specs.declared.id.IdWord.{IdWord}
use Rattle.mama_words.specs.Reading.{◌>>=◌, or_fault}
use Rattle.mama_words.specs.Number.{number_in, below_in, between_in}
use Rattle.mama_words.specs.Id.{id_text, id_in, sub_word, timer_word, inbox_word, sub_text, timer_text, inbox_text, object_text}
use Rattle.mama_words.specs.Kind.{msg_kind_text}
use Rattle.mama_words.specs.KindIn.{msg_kind_in}
use Rattle.mama_words.specs.declared.nums.Nums.{Nums}
use Rattle.mama_words.specs.Field.{field_text, message_in}
use Rattle.mama_words.specs.Order.{IsId, are_small, cons_fid, fids_in, asked_or_fault, asked_in}
use Rattle.mama_words.proofs.Choices.{some_is, ok_is, chosen, chosen_some, guard_ok, guard_step, bind_ok, or_fault_ok, step_ok, and_then_some}
use Rattle.mama_words.proofs.Numbers.{number_in_again, number_in_found, below_in_again, below_in_found}
use Rattle.mama_words.proofs.IdLaws.{id_again, id_found}
use Rattle.mama_words.proofs.KindLaws.{msg_kind_again, msg_kind_found}
use Rattle.mama_words.proofs.FieldLaws.{message_again, message_found}
use Rattle.mama_script.proofs.Heads.{between_again, between_found}
use Rattle.mama_log_line.specs.Names.{NamesData, terms_of, timer_terms_of, inbox_terms_of, IsSub, IsTimer, IsInbox, IsTopic}
use Rattle.mama_log_line.specs.Word.{is_small, sub_of, timer_of, inbox_of, known_sub, known_timer, known_inbox, sub_in, timer_in, inbox_in, linked_in, small_in, known_topic, topic_in, few_fids_in, body_in, market_in, wanted, wanted_in}
use Rattle.mama_log_line.specs.Entering.{AreFids, IsBody, IsMarketMsg, IsWanted, IsLinked}

abbrev pub market_words : MarketMsg → List (List ℕ)
market_words m = msg_kind_text m.kind ∷ decimal m.sender ∷ decimal m.seq ∷ map field_text m.body

-- ---- objects: one whose id has small numbers, and which the script declares, is known by its word

abbrev known : {I : Type 0} → (IdWord → I) → (I → Bool) → IdWord → Option I
known make declared word = cond (is_small word && declared (make word)) (Some (make word)) None

abbrev object_in : {I : Type 0} → ℕ → (IdWord → Option I) → List ℕ → Result I ℕ
object_in letter find word = or_fault 5 (id_in letter word) >>= λ id. or_fault 10 (find id)

known_again : {I : Type 0} (make : IdWord → I) (declared : I → Bool) (word : IdWord) → word.client < 2 ^ 32 → word.number < 2 ^ 32 → declared (make word) ≡ true → known make declared word ≡ Some (make word)
known_again make declared word client number d = rw (lt-ltb word.client (2 ^ 32) client, lt-ltb word.number (2 ^ 32) number, d) refl

small_fits : (word : IdWord) → word.client < 2 ^ 32 → word.number < 2 ^ 32 → IsId word
small_fits word client number = record { client = omega (arith, client); number = omega (arith, number) }

object_again : {I : Type 0} (letter : ℕ) (find : IdWord → Option I) (word : IdWord) (id : I) → IsId word → find word ≡ Some id → object_in letter find (id_text letter word) ≡ Ok id
object_again letter find word id fits found = rw (id_again letter word fits, found) refl

record IsKnown {I : Type 0} (make : IdWord → I) (declared : I → Bool) (word : IdWord) (id : I) : Type 0 where
  client : word.client < 2 ^ 32
  number : word.number < 2 ^ 32
  told : declared (make word) ≡ true
  made : make word ≡ id

known_found : {I : Type 0} (make : IdWord → I) (declared : I → Bool) (word : IdWord) (id : I) → known make declared word ≡ Some id → IsKnown make declared word id
known_found make declared word id e =
    let q = chosen_some (is_small word && declared (make word)) (make word) id e in
    let r = and_parts (is_small word) (declared (make word)) q.0 in
    let s = and_parts (ltb word.client (2 ^ 32)) (ltb word.number (2 ^ 32)) r.0 in
    record { client = ltb-true word.client (2 ^ 32) s.0; number = ltb-true word.number (2 ^ 32) s.1; told = r.1; made = q.1 }

object_found : {I : Type 0} (letter : ℕ) (find : IdWord → Option I) (Is : I → Type 0) (word_of : I → IdWord) → ((w : IdWord) (id : I) → find w ≡ Some id → Is id × (w ≡ word_of id))
    → (word : List ℕ) (id : I) → object_in letter find word ≡ Ok id → Is id × (word ≡ id_text letter (word_of id))
object_found letter find Is word_of found word id e =
    let p = step_ok 5 (id_in letter word) (λ w. or_fault 10 (find w)) id e in
    let i = id_found letter word p.0 p.1 in
    let k = found p.0 id (or_fault_ok 10 (find p.0) id p.2) in
    (k.0, i.1 ∙ ap (id_text letter) k.1)

pub known_sub_again : (names : NamesData) (id : SubId) → IsSub names id → known_sub names (sub_word id) ≡ Some id
unfolding known_sub
known_sub_again names id h = known_again sub_of (λ (x : SubId). is_some (terms_of names x)) (sub_word id) h.client h.number h.declared

pub sub_fits : (names : NamesData) (id : SubId) → IsSub names id → IsId (sub_word id)
sub_fits names id h = small_fits (sub_word id) h.client h.number

pub sub_again : (names : NamesData) (id : SubId) → IsSub names id → sub_in names (sub_text id) ≡ Ok id
unfolding sub_in
sub_again names id h = object_again 115 (known_sub names) (sub_word id) id (sub_fits names id h) (known_sub_again names id h)

pub known_sub_found : (names : NamesData) (word : IdWord) (id : SubId) → known_sub names word ≡ Some id → IsSub names id × (word ≡ sub_word id)
unfolding known_sub
known_sub_found names word id e =
    let k = known_found sub_of (λ (x : SubId). is_some (terms_of names x)) word id e in
    subst (λ (x : SubId). IsSub names x × (word ≡ sub_word x)) k.made (record { client = k.client; number = k.number; declared = k.told }, refl)

pub sub_found : (names : NamesData) (word : List ℕ) (id : SubId) → sub_in names word ≡ Ok id → IsSub names id × (word ≡ sub_text id)
unfolding sub_in
sub_found names word id e = object_found 115 (known_sub names) (IsSub names) sub_word (known_sub_found names) word id e

pub known_timer_again : (names : NamesData) (id : TimerId) → IsTimer names id → known_timer names (timer_word id) ≡ Some id
unfolding known_timer
known_timer_again names id h = known_again timer_of (λ (x : TimerId). is_some (timer_terms_of names x)) (timer_word id) h.client h.number h.declared

pub timer_fits : (names : NamesData) (id : TimerId) → IsTimer names id → IsId (timer_word id)
timer_fits names id h = small_fits (timer_word id) h.client h.number

pub timer_again : (names : NamesData) (id : TimerId) → IsTimer names id → timer_in names (timer_text id) ≡ Ok id
unfolding timer_in
timer_again names id h = object_again 116 (known_timer names) (timer_word id) id (timer_fits names id h) (known_timer_again names id h)

pub known_timer_found : (names : NamesData) (word : IdWord) (id : TimerId) → known_timer names word ≡ Some id → IsTimer names id × (word ≡ timer_word id)
unfolding known_timer
known_timer_found names word id e =
    let k = known_found timer_of (λ (x : TimerId). is_some (timer_terms_of names x)) word id e in
    subst (λ (x : TimerId). IsTimer names x × (word ≡ timer_word x)) k.made (record { client = k.client; number = k.number; declared = k.told }, refl)

pub timer_found : (names : NamesData) (word : List ℕ) (id : TimerId) → timer_in names word ≡ Ok id → IsTimer names id × (word ≡ timer_text id)
unfolding timer_in
timer_found names word id e = object_found 116 (known_timer names) (IsTimer names) timer_word (known_timer_found names) word id e

pub known_inbox_again : (names : NamesData) (id : InboxId) → IsInbox names id → known_inbox names (inbox_word id) ≡ Some id
unfolding known_inbox
known_inbox_again names id h = known_again inbox_of (λ (x : InboxId). is_some (inbox_terms_of names x)) (inbox_word id) h.client h.number h.declared

pub inbox_fits : (names : NamesData) (id : InboxId) → IsInbox names id → IsId (inbox_word id)
inbox_fits names id h = small_fits (inbox_word id) h.client h.number

pub inbox_again : (names : NamesData) (id : InboxId) → IsInbox names id → inbox_in names (inbox_text id) ≡ Ok id
unfolding inbox_in
inbox_again names id h = object_again 105 (known_inbox names) (inbox_word id) id (inbox_fits names id h) (known_inbox_again names id h)

pub known_inbox_found : (names : NamesData) (word : IdWord) (id : InboxId) → known_inbox names word ≡ Some id → IsInbox names id × (word ≡ inbox_word id)
unfolding known_inbox
known_inbox_found names word id e =
    let k = known_found inbox_of (λ (x : InboxId). is_some (inbox_terms_of names x)) word id e in
    subst (λ (x : InboxId). IsInbox names x × (word ≡ inbox_word x)) k.made (record { client = k.client; number = k.number; declared = k.told }, refl)

pub inbox_found : (names : NamesData) (word : List ℕ) (id : InboxId) → inbox_in names word ≡ Ok id → IsInbox names id × (word ≡ inbox_text id)
unfolding inbox_in
inbox_found names word id e = object_found 105 (known_inbox names) (IsInbox names) inbox_word (known_inbox_found names) word id e

pub linked_again : (names : NamesData) (o : ObjectId) → IsLinked names o → linked_in names (object_text o) ≡ Ok o
unfolding linked_in
linked_again names (Sub id) h = rw (sub_again names id h) refl
linked_again names (Timer id) h = absurd h
linked_again names (Inbox id) h = rw (inbox_again names id h) refl

abbrev sub_object : Result SubId ℕ → Result ObjectId ℕ
sub_object r = r >>= λ id. Ok (Sub id)

abbrev inbox_object : Result InboxId ℕ → Result ObjectId ℕ
inbox_object r = r >>= λ id. Ok (Inbox id)

pub linked_found : (names : NamesData) (word : List ℕ) (o : ObjectId) → linked_in names word ≡ Ok o → IsLinked names o × (word ≡ object_text o)
unfolding linked_in
linked_found names [] o e = absurd cc
linked_found names (b ∷ bs) o e =
    elim (chosen (b == 115) (sub_object (sub_in names (b ∷ bs))) (inbox_object (inbox_in names (b ∷ bs))) (Ok o) e) [
      | inl p ↦
          let q = bind_ok (sub_in names (b ∷ bs)) (λ id. Ok (Sub id)) o p.1 in
          subst (λ (x : ObjectId). IsLinked names x × (b ∷ bs ≡ object_text x)) (ok_is (Sub q.0) o q.2) (sub_found names (b ∷ bs) q.0 q.1)
      | inr p ↦
          let q = bind_ok (inbox_in names (b ∷ bs)) (λ id. Ok (Inbox id)) o p.1 in
          subst (λ (x : ObjectId). IsLinked names x × (b ∷ bs ≡ object_text x)) (ok_is (Inbox q.0) o q.2) (inbox_found names (b ∷ bs) q.0 q.1)
    ]

pub small_again : (n : ℕ) → n < 2 ^ 32 → small_in (decimal n) ≡ Ok n
small_again n h = ap (or_fault 5) (below_in_again (2 ^ 32) n h (omega (arith, h)))

pub small_found : (word : List ℕ) (n : ℕ) → small_in word ≡ Ok n → (n < 2 ^ 32) × (word ≡ decimal n)
small_found word n e = below_in_found (2 ^ 32) word n (or_fault_ok 5 (below_in (2 ^ 32) word) n e)

pub known_topic_found : (names : NamesData) (n topic : ℕ) → known_topic names n ≡ Some topic → (n < names.shape.bounds.topics) × (n ≡ topic)
known_topic_found names n topic e =
    let q = chosen_some (ltb n names.shape.bounds.topics) n topic e in
    (ltb-true n names.shape.bounds.topics q.0, q.1)

pub topic_again : (names : NamesData) (topic : ℕ) → IsTopic names topic → topic_in names (decimal topic) ≡ Ok topic
unfolding topic_in
topic_again names topic h = rw (number_in_again topic h.number, lt-ltb topic names.shape.bounds.topics h.declared) refl

pub topic_found : (names : NamesData) (word : List ℕ) (topic : ℕ) → topic_in names word ≡ Ok topic → IsTopic names topic × (word ≡ decimal topic)
unfolding topic_in
topic_found names word topic e =
    let p = step_ok 5 (number_in word) (λ n. or_fault 9 (known_topic names n)) topic e in
    let n = number_in_found word p.0 p.1 in
    let k = known_topic_found names p.0 topic (or_fault_ok 9 (known_topic names p.0) topic p.2) in
    subst (λ (x : ℕ). IsTopic names x × (word ≡ decimal x)) k.1 (record { number = n.0; declared = k.0 }, n.1)

-- ---- fids

above_zero : (bound : ℕ) (fids : List ℕ) → is_ascending_above bound fids ≡ true → is_ascending_above 0 fids ≡ true
above_zero bound [] h = refl
above_zero bound (f ∷ fs) h =
    let p = and_parts (ltb bound f) (is_ascending_above f fs) h in
    let lt = ltb-true bound f p.0 in
    and_from (ltb 0 f) (is_ascending_above f fs) (lt-ltb 0 f (omega (arith, lt))) p.1

fids_again : (fids : List ℕ) → is_ascending_above 0 fids ≡ true → are_small fids ≡ true → fids_in (map decimal fids) ≡ Some fids
fids_again [] up small = refl
fids_again (f ∷ fs) up small =
    let p = and_parts (ltb 0 f) (is_ascending_above f fs) up in
    let q = and_parts (ltb f (2 ^ 16)) (are_small fs) small in
    let low = ltb-true 0 f p.0 in
    let high = ltb-true f (2 ^ 16) q.0 in
    rw (between_again 1 65535 f (omega (arith, low)) (omega (arith, high)) (omega (arith, high)), fids_again fs (above_zero f fs p.1) q.1) refl

cons_is : (f : ℕ) (o : Option (List ℕ)) (fs : List ℕ) → cons_fid f o ≡ Some fs → (rest : List ℕ) × (o ≡ Some rest) × (f ∷ rest ≡ fs)
cons_is f None fs e = absurd cc
cons_is f (Some rest) fs e = (rest, refl, some_is (f ∷ rest) fs e)

fids_found : (ws : List (List ℕ)) (fids : List ℕ) → fids_in ws ≡ Some fids → (are_small fids ≡ true) × (ws ≡ map decimal fids)
fids_found [] fids e = subst (λ (x : List ℕ). (are_small x ≡ true) × ([] ≡ map decimal x)) (some_is [] fids e) (refl, refl)
fids_found (w ∷ ws) fids e =
    let p = and_then_some (λ f. cons_fid f (fids_in ws)) (between_in 1 65535 w) fids e in
    let q = cons_is p.0 (fids_in ws) fids p.2 in
    let f = between_found 1 65535 w p.0 p.1 in
    let top = f.high in
    let more = fids_found ws q.0 q.1 in
    subst (λ (x : List ℕ). (are_small x ≡ true) × (w ∷ ws ≡ map decimal x)) q.2
    (and_from (ltb p.0 (2 ^ 16)) (are_small q.0) (lt-ltb p.0 (2 ^ 16) (omega (arith, top))) more.0, ap (λ (x : List ℕ). x ∷ ws) f.text_is ∙ ap (λ (x : List (List ℕ)). decimal p.0 ∷ x) more.1)

fid_list_parts : (fids : List ℕ) → is_fid_list fids ≡ true → (length fids ≤ 8) × (is_ascending_above 0 fids ≡ true)
fid_list_parts fids h =
    let p = and_parts (leb 1 (length fids) && leb (length fids) 8) (is_ascending_above 0 fids) h in
    let q = and_parts (leb 1 (length fids)) (leb (length fids) 8) p.0 in
    (leb-true (length fids) 8 q.1, p.1)

asked_again : (fids : List ℕ) → AreFids fids → asked_in (map decimal fids) ≡ Ok fids
unfolding asked_in
asked_again fids h = let p = fid_list_parts fids h.list in rw (fids_again fids p.1 h.small, h.list) refl

asked_found : (ws : List (List ℕ)) (fids : List ℕ) → asked_in ws ≡ Ok fids → AreFids fids × (ws ≡ map decimal fids)
unfolding asked_in
asked_found ws fids e =
    let p = step_ok 5 (fids_in ws) asked_or_fault fids e in
    let q = guard_ok (is_fid_list p.0) 8 p.0 fids p.2 in
    let r = fids_found ws p.0 p.1 in
    subst (λ (x : List ℕ). AreFids x × (ws ≡ map decimal x)) q.1 (record { list = q.0; small = r.0 }, r.1)

pub few_fids_again : (fids : List ℕ) → AreFids fids → few_fids_in (map decimal fids) ≡ Ok fids
unfolding few_fids_in
few_fids_again fids h =
    let short = (fid_list_parts fids h.list).0 in
    let few : length (map decimal fids) ≤ 8 = rw length-map short in
    rw (le-leb (length (map decimal fids)) 8 few) (asked_again fids h)

pub few_fids_found : (ws : List (List ℕ)) (fids : List ℕ) → few_fids_in ws ≡ Ok fids → AreFids fids × (ws ≡ map decimal fids)
unfolding few_fids_in
few_fids_found ws fids e = asked_found ws fids (guard_step (leb (length ws) 8) 4 (asked_in ws) fids e).1

-- ---- messages

pub body_again : (nums : Nums) (body : List FieldData) → IsBody nums body → body_in nums (map field_text body) ≡ Ok body
unfolding body_in
body_again nums body h =
    let few : length (map field_text body) ≤ 64 = rw length-map h.few in
    rw (le-leb (length (map field_text body)) 64 few) (message_again nums body h.message)

pub body_found : (nums : Nums) (ws : List (List ℕ)) (body : List FieldData) → body_in nums ws ≡ Ok body → IsBody nums body × (ws ≡ map field_text body)
unfolding body_in
body_found nums ws body e =
    let p = guard_step (leb (length ws) 64) 4 (message_in nums ws) body e in
    let m = message_found nums ws body p.1 in
    let few = leb-true (length ws) 64 p.0 in
    let long : length ws ≡ length body = ap (λ (x : List (List ℕ)). length x) m.1 ∙ length-map body field_text in
    (record { message = m.0; few = omega (arith, few, long) }, m.1)

pub market_again : (nums : Nums) (m : MarketMsg) → IsMarketMsg nums m → market_in nums (market_words m) ≡ Ok m
unfolding market_in
market_again nums m h = rw (msg_kind_again m.kind, small_again m.sender h.sender, small_again m.seq h.seq, body_again nums m.body h.body) refl

same_market : (a b c d e f : List ℕ) (x y : List (List ℕ)) → a ≡ b → c ≡ d → e ≡ f → x ≡ y → a ∷ c ∷ e ∷ x ≡ b ∷ d ∷ f ∷ y
same_market a b c d e f x y p q r s = cc

pub market_found : (nums : Nums) (ws : List (List ℕ)) (m : MarketMsg) → market_in nums ws ≡ Ok m → IsMarketMsg nums m × (ws ≡ market_words m)
unfolding market_in
market_found nums [] m e = absurd cc
market_found nums (a ∷ []) m e = absurd cc
market_found nums (a ∷ b ∷ []) m e = absurd cc
market_found nums (kind ∷ sender ∷ seq ∷ fields) m e =
    let k = step_ok 4 (msg_kind_in kind) _ m e in
    let s = bind_ok (small_in sender) _ m k.2 in
    let n = bind_ok (small_in seq) _ m s.2 in
    let b = bind_ok (body_in nums fields) _ m n.2 in
    let sender_is = small_found sender s.0 s.1 in
    let seq_is = small_found seq n.0 n.1 in
    let body_is = body_found nums fields b.0 b.1 in
    let made : MarketMsg = record { kind = k.0; sender = s.0; seq = n.0; body = b.0 } in
    subst (λ (x : MarketMsg). IsMarketMsg nums x × (kind ∷ sender ∷ seq ∷ fields ≡ market_words x)) (ok_is made m b.2) (
      record { sender = sender_is.0; seq = seq_is.0; body = body_is.0 },
      same_market kind (msg_kind_text k.0) sender (decimal s.0) seq (decimal n.0) fields (map field_text b.0) (msg_kind_found kind k.0 k.1) sender_is.1 seq_is.1 body_is.1,
    )

pub wanted_again : (kind : MsgKind) → IsWanted kind → wanted_in (msg_kind_text kind) ≡ Some kind
wanted_again Initial h = refl
wanted_again Update h = absurd h
wanted_again Recap h = refl

wanted_is : (k kind : MsgKind) → wanted k ≡ Some kind → IsWanted k × (k ≡ kind)
wanted_is Initial kind e = (tt, some_is Initial kind e)
wanted_is Update kind e = absurd cc
wanted_is Recap kind e = (tt, some_is Recap kind e)

pub wanted_found : (word : List ℕ) (kind : MsgKind) → wanted_in word ≡ Some kind → IsWanted kind × (word ≡ msg_kind_text kind)
wanted_found word kind e =
    let p = and_then_some wanted (msg_kind_in word) kind e in
    let w = wanted_is p.0 kind p.2 in
    subst (λ (x : MsgKind). IsWanted x × (word ≡ msg_kind_text x)) w.1 (w.0, msg_kind_found word p.0 p.1)
