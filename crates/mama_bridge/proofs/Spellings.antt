-- What rows were sent has spellings: so pieces of it pass a link as the messages themselves do, cut or not.
use Rattle.std.specs.List.{AllByRecursion}
use Rattle.std.proofs.Common.{◌≡◌, ◌∙◌, ℕ, ◌+◌, Bool, true, false, not, ◌&&◌, List, [], ◌∷◌, ◌++◌, length, map, filter, Ok, refl, sym, ap, if◌then◌else◌}
use Rattle.std.proofs.lemmas.List.{map-append, length-map}
use Rattle.mama_link.specs.declared.faults.FaultRow.{FaultRow}
use Rattle.mama_link.specs.Link.{emit, rest}
use Rattle.mama_link.proofs.MapLemmas.{GoesWithCuts, emit-map, rest-map}
use Rattle.mama_msg.specs.Field.{FieldData}
use Rattle.mama_payload.specs.Spelling.{spelling}
use Rattle.mama_payload.specs.Spelled.{HasSpelling}
use Rattle.mama_event.specs.declared.market.MarketMsg.{MarketMsg}
use Rattle.mama_event.specs.declared.shape.Shape.{Shape}
use Rattle.mama_event.specs.Wire.{arrival_of, reply_of}
use Rattle.mama_event.specs.Arrival.{piece_of, cut_body, cut_arrival, cut_reply, arriving, answering}
use Rattle.mama_event.specs.WireLaws.{WholeMessagesArrive, WholeRepliesArrive, CutMessagesArrive, CutRepliesArrive}
use Rattle.mama_rules_services.specs.Bridge.{BridgeEvent, joins, leaves, opens, closes, asks, publishes, images, replies, wishes, client_done, sends_done, settled, bye, no_event, passed_on}
use Rattle.mama_laws_bridge.specs.Table.{SubRow, InboxRow, Table, kept, changed, sub_passed, inbox_passed, sub_wished, new_sub, new_inbox, of_sub, of_inbox, has_joined, has_opened, ended_now, settling_now, begins_ending, is_on_topic_of, may_ask, subs_next, inboxes_next}
use Rattle.mama_bridge.specs.Links.{AreSpelled, AreRepliesSpelled, cut_bytes}

-- ---- lists

pub all_push : {X : Type 0} (P : X → Type 0) (xs : List X) (y : X) → AllByRecursion P xs → P y → AllByRecursion P (xs ++ y ∷ [])
all_push P [] y h p = (p, tt)
all_push P (x ∷ xs) y h p = (h.0, all_push P xs y h.1 p)

pub all_filter : {X : Type 0} (P : X → Type 0) (test : X → Bool) (xs : List X) → AllByRecursion P xs → AllByRecursion P (filter test xs)
all_filter P test [] h = tt
all_filter {X} P test (x ∷ xs) h = at (test x) (all_filter P test xs h.1)
  where
    at : (b : Bool) → AllByRecursion P (filter test xs) → AllByRecursion P (if b then x ∷ filter test xs else filter test xs)
    at true more = (h.0, more)
    at false more = more

all_kept : {X : Type 0} (P : X → Type 0) (b : Bool) (xs : List X) → AllByRecursion P xs → AllByRecursion P (kept b xs)
all_kept P true xs h = tt
all_kept P false xs h = h

all_changed : {X : Type 0} (P : X → Type 0) (test : X → Bool) (change : X → X) → ((x : X) → P x → P (change x)) → (xs : List X) → AllByRecursion P xs → AllByRecursion P (changed test change xs)
all_changed P test change stays [] h = tt
all_changed {X} P test change stays (x ∷ xs) h = (at (test x), all_changed P test change stays xs h.1)
  where
    at : (b : Bool) → P (if b then change x else x)
    at true = stays x h.0
    at false = h.0

-- one row more, unless it was there or comes too late
all_more : {X : Type 0} (P : X → Type 0) (had ended : Bool) (xs : List X) (x : X) → AllByRecursion P xs → P x → AllByRecursion P (if had then xs else xs ++ kept ended (x ∷ []))
all_more P true ended xs x h p = h
all_more {X} P false true xs x h p = none xs h
  where
    none : (ys : List X) → AllByRecursion P ys → AllByRecursion P (ys ++ [])
    none [] k = tt
    none (y ∷ ys) k = (k.0, none ys k.1)
all_more P false false xs x h p = all_push P xs x h p

-- ---- rows after one event more

-- a message that an event brings has a spelling
abbrev pub BringsSpelled : BridgeEvent → Type 0
BringsSpelled (publishes r m) = HasSpelling m.body
BringsSpelled (images s m) = HasSpelling m.body
BringsSpelled (replies i body) = HasSpelling body
BringsSpelled _ = Unit {0}

abbrev pub IsSpelled : SubRow → Type 0
IsSpelled row = AllByRecursion (λ (m : MarketMsg). HasSpelling m.body) row.sent

abbrev pub IsReplySpelled : InboxRow → Type 0
IsReplySpelled row = AllByRecursion (λ (body : List FieldData). HasSpelling body) row.sent

sent_more : (m : MarketMsg) → HasSpelling m.body → (row : SubRow) → IsSpelled row → IsSpelled (sub_passed m row)
sent_more m p row h = all_push (λ (m : MarketMsg). HasSpelling m.body) row.sent m h p

reply_more : (body : List FieldData) → HasSpelling body → (row : InboxRow) → IsReplySpelled row → IsReplySpelled (inbox_passed body row)
reply_more body p row h = all_push (λ (body : List FieldData). HasSpelling body) row.sent body h p

pub spelled_next : (shape : Shape) (table : Table) (e : BridgeEvent) → BringsSpelled e → AreSpelled table.subs → AreSpelled (subs_next shape table e)
spelled_next shape table (joins s terms tag) p h = all_more IsSpelled (has_joined s table) (ended_now table) table.subs (new_sub table s terms) h tt
spelled_next shape table (leaves s) p h = all_filter IsSpelled (λ row. not (of_sub s row)) table.subs h
spelled_next shape table (opens i terms tag) p h = h
spelled_next shape table (closes i) p h = h
spelled_next shape table (asks i topic fids) p h = h
spelled_next shape table (publishes r m) p h = all_changed IsSpelled (is_on_topic_of shape r) (sub_passed m) (sent_more m p) table.subs h
spelled_next shape table (images s m) p h = all_changed IsSpelled (of_sub s) (sub_passed m) (sent_more m p) table.subs h
spelled_next shape table (replies i body) p h = h
spelled_next shape table (wishes s sender) p h = all_changed IsSpelled (λ row. of_sub s row && may_ask shape (settling_now table) sender row) sub_wished (λ row k. k) table.subs h
spelled_next shape table (client_done c) p h = all_kept IsSpelled (begins_ending table (client_done c)) table.subs h
spelled_next shape table (sends_done r) p h = all_kept IsSpelled (begins_ending table (sends_done r)) table.subs h
spelled_next shape table (settled r) p h = all_kept IsSpelled (begins_ending table (settled r)) table.subs h
spelled_next shape table (bye k) p h = h
spelled_next shape table no_event p h = h

pub replies_next : (table : Table) (e : BridgeEvent) → BringsSpelled e → AreRepliesSpelled table.inboxes → AreRepliesSpelled (inboxes_next table e)
replies_next table (joins s terms tag) p h = h
replies_next table (leaves s) p h = h
replies_next table (opens i terms tag) p h = all_more IsReplySpelled (has_opened i table) (ended_now table) table.inboxes (new_inbox table i terms) h tt
replies_next table (closes i) p h = all_filter IsReplySpelled (λ row. not (of_inbox i row)) table.inboxes h
replies_next table (asks i topic fids) p h = h
replies_next table (publishes r m) p h = h
replies_next table (images s m) p h = h
replies_next table (replies i body) p h = all_changed IsReplySpelled (of_inbox i) (inbox_passed body) (reply_more body p) table.inboxes h
replies_next table (wishes s sender) p h = h
replies_next table (client_done c) p h = all_kept IsReplySpelled (begins_ending table (client_done c)) table.inboxes h
replies_next table (sends_done r) p h = all_kept IsReplySpelled (begins_ending table (sends_done r)) table.inboxes h
replies_next table (settled r) p h = all_kept IsReplySpelled (begins_ending table (settled r)) table.inboxes h
replies_next table (bye k) p h = h
replies_next table no_event p h = h

-- ---- pieces through a link

-- what arrives of packed messages
pub record Arrives : Type 0 where
  pub whole : WholeMessagesArrive
  pub cut : CutMessagesArrive
  pub whole_replies : WholeRepliesArrive
  pub cut_replies : CutRepliesArrive

module _ {M T U : Type 0} (piece : M → T) (arrive : T → U) (ok : M → U) (cut : ℕ → T → T) (cut' : ℕ → U → U) (P : M → Type 0)
    (whole : (m : M) → P m → arrive (piece m) ≡ ok m) (cuts : (m : M) (keep : ℕ) → P m → arrive (cut keep (piece m)) ≡ cut' keep (ok m)) where
  both : {v w : U} {vs ws : List U} → v ≡ w → vs ≡ ws → v ∷ vs ≡ w ∷ ws
  both p q = cc

  all_arrive : (ms : List M) → AllByRecursion P ms → map ok ms ≡ map arrive (map piece ms)
  all_arrive [] h = refl
  all_arrive (m ∷ ms) h = both (sym (whole m h.0)) (all_arrive ms h.1)

  all_go : (ms : List M) → AllByRecursion P ms → AllByRecursion (GoesWithCuts arrive cut cut') (map piece ms)
  all_go [] h = tt
  all_go (m ∷ ms) h = (λ keep. cuts m keep h.0 ∙ ap (cut' keep) (sym (whole m h.0)), all_go ms h.1)

  pub passed_as : (rows : List FaultRow) (sent : List M) (m : M) → AllByRecursion P sent → P m
      → passed_on cut' rows (map ok sent) (ok m ∷ []) ≡ map arrive (passed_on cut rows (map piece sent) (piece m ∷ []))
  passed_as rows sent m h p =
      let all : List M = sent ++ m ∷ [] in
      let spelled : AllByRecursion P all = all_push P sent m h p in
      let arrivals : map ok sent ++ ok m ∷ [] ≡ map arrive (map piece all) = sym (map-append ok sent (m ∷ [])) ∙ all_arrive all spelled in
      let pieces : map piece all ≡ map piece sent ++ piece m ∷ [] = map-append piece sent (m ∷ []) in
      let count : length (map ok sent) ≡ length (map piece sent) = length-map sent ok ∙ sym (length-map sent piece) in
      ap (λ (x : List U). emit cut' rows x (length (map ok sent) + 1)) arrivals
      ∙ ap (λ (n : ℕ). emit cut' rows (map arrive (map piece all)) (n + 1)) count
      ∙ emit-map arrive cut cut' rows (map piece all) (length (map piece sent) + 1) (all_go all spelled)
      ∙ ap (λ (x : List T). map arrive (emit cut rows x (length (map piece sent) + 1))) pieces

  pub rest_as : (rows : List FaultRow) (sent : List M) → AllByRecursion P sent → rest rows (map ok sent) ≡ map arrive (rest rows (map piece sent))
  rest_as rows sent h = ap (rest rows) (all_arrive sent h) ∙ rest-map arrive cut cut' rows (map piece sent)

pub subs_passed : Arrives → (rows : List FaultRow) (sent : List MarketMsg) (m : MarketMsg) → AllByRecursion (λ (m : MarketMsg). HasSpelling m.body) sent → HasSpelling m.body
    → passed_on cut_arrival rows (arriving sent) (arriving (m ∷ [])) ≡ map arrival_of (passed_on cut_body rows (map piece_of sent) (piece_of m ∷ []))
subs_passed laws rows sent m h p = passed_as piece_of arrival_of (λ (msg : MarketMsg). Ok msg) cut_body cut_arrival (λ (m : MarketMsg). HasSpelling m.body) laws.whole laws.cut rows sent m h p

pub subs_rest : Arrives → (rows : List FaultRow) (sent : List MarketMsg) → AllByRecursion (λ (m : MarketMsg). HasSpelling m.body) sent
    → rest rows (arriving sent) ≡ map arrival_of (rest rows (map piece_of sent))
subs_rest laws rows sent h = rest_as piece_of arrival_of (λ (msg : MarketMsg). Ok msg) cut_body cut_arrival (λ (m : MarketMsg). HasSpelling m.body) laws.whole laws.cut rows sent h

pub replies_passed : Arrives → (rows : List FaultRow) (sent : List (List FieldData)) (body : List FieldData) → AllByRecursion (λ (body : List FieldData). HasSpelling body) sent → HasSpelling body
    → passed_on cut_reply rows (answering sent) (answering (body ∷ [])) ≡ map reply_of (passed_on cut_bytes rows (map spelling sent) (spelling body ∷ []))
replies_passed laws rows sent body h p = passed_as spelling reply_of (λ (body : List FieldData). Ok body) cut_bytes cut_reply (λ (body : List FieldData). HasSpelling body) laws.whole_replies laws.cut_replies rows sent body h p

pub replies_rest : Arrives → (rows : List FaultRow) (sent : List (List FieldData)) → AllByRecursion (λ (body : List FieldData). HasSpelling body) sent
    → rest rows (answering sent) ≡ map reply_of (rest rows (map spelling sent))
replies_rest laws rows sent h = rest_as spelling reply_of (λ (body : List FieldData). Ok body) cut_bytes cut_reply (λ (body : List FieldData). HasSpelling body) laws.whole_replies laws.cut_replies rows sent h
