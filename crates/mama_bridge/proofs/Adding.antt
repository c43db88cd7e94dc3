-- What is put out, as plain data and as listeners, for rows.
use Rattle.std.specs.List.{flat_map, AllByRecursion}
use Rattle.std.proofs.Common.{◌≡◌, ℕ, List, [], ◌∷◌, ◌++◌, map, refl, sym, ◌∙◌, ap, subst, append-nil}
use Rattle.std.proofs.lemmas.List.{map-append}
use Rattle.std.proofs.lemmas.List.Concat.{flat_map-append}
use Rattle.mama_link.specs.Link.{rest}
use Rattle.mama_msg.specs.Field.{FieldData}
use Rattle.mama_payload.specs.Spelling.{spelling}
use Rattle.mama_payload.specs.Spelled.{HasSpelling}
use Rattle.mama_event.specs.declared.ids.ObjectId.{ObjectId}
use Rattle.mama_event.specs.declared.ids.ObjectId.TheVariants.{Sub, Inbox}
use Rattle.mama_event.specs.declared.market.MarketMsg.{MarketMsg}
use Rattle.mama_event.specs.declared.wire.PieceMsg.{PieceMsg}
use Rattle.mama_event.specs.Wire.{arrival_of, reply_of}
use Rattle.mama_event.specs.Arrival.{Arrival, ReplyArrival, piece_of, cut_body, cut_arrival, cut_reply, arriving, answering}
use Rattle.mama_event.specs.Noted.{delivered_note, replied_note}
use Rattle.mama_event.specs.declared.to_queue.QueueNote.TheVariants as q
use Rattle.mama_event.specs.declared.to_queue.ToQueue.TheVariants as queued
use Rattle.mama_rules_services.specs.Bridge.{BridgePut, to_queue, passed_on}
use Rattle.mama_laws_bridge.specs.Table.{SubRow, InboxRow, sub_delivered, inbox_replied, sub_emits, inbox_emits, sub_ends, inbox_ends}
use Rattle.mama_bridge.specs.declared.out.BridgeOut.{BridgeOut}
use Rattle.mama_bridge.specs.declared.out.BridgeOut.TheVariants as out
use Rattle.mama_bridge.specs.Outs.{put_note, listeners, listener_in}
use Rattle.mama_bridge.specs.Desk.{Adds}
use Rattle.mama_bridge.specs.Links.{AreSpelled, AreRepliesSpelled, cut_bytes, sub_outs, emit_outs, end_outs, inbox_outs, inbox_emit_outs, inbox_end_outs}
use Rattle.mama_bridge.proofs.Spellings.{IsSpelled, IsReplySpelled, Arrives, subs_passed, subs_rest, replies_passed, replies_rest}

module _ {L : Type 0} (tagged : L → ObjectId) where
  -- outs as puts without listeners
  pub record Says (outs : List (BridgeOut L)) (more : List BridgePut) : Type 0 where
    pub puts : map (put_note tagged) outs ≡ more
    pub quiet : listeners outs ≡ []

  pub says_none : Says [] []
  says_none = record { puts = refl; quiet = refl }

  pub says_append : (xs ys : List (BridgeOut L)) (p q : List BridgePut) → Says xs p → Says ys q → Says (xs ++ ys) (p ++ q)
  says_append xs ys p q h k = record {
    puts = map-append (put_note tagged) xs ys ∙ ap (λ zs. zs ++ map (put_note tagged) ys) h.puts ∙ ap (λ zs. p ++ zs) k.puts;
    quiet = flat_map-append listener_in xs ys ∙ ap (λ zs. zs ++ listeners ys) h.quiet ∙ k.quiet;
  }

  pub says_rows : {R : Type 0} (f : R → List (BridgeOut L)) (g : R → List BridgePut) → ((row : R) → Says (f row) (g row)) → (rows : List R) → Says (flat_map f rows) (flat_map g rows)
  says_rows f g h [] = says_none
  says_rows f g h (row ∷ rows) = says_append (f row) (flat_map f rows) (g row) (flat_map g rows) (h row) (says_rows f g h rows)

  -- the same of rows of which something holds
  says_those : {R : Type 0} (P : R → Type 0) (f : R → List (BridgeOut L)) (g : R → List BridgePut) → ((row : R) → P row → Says (f row) (g row)) → (rows : List R) → AllByRecursion P rows → Says (flat_map f rows) (flat_map g rows)
  says_those P f g h [] all = says_none
  says_those P f g h (row ∷ rows) all = says_append (f row) (flat_map f rows) (g row) (flat_map g rows) (h row all.0) (says_those P f g h rows all.1)

  pub says_map : {X : Type 0} (f : X → BridgeOut L) (g : X → BridgePut) → ((x : X) → put_note tagged (f x) ≡ g x) → ((x : X) → listener_in (f x) ≡ []) → (xs : List X) → Says (map f xs) (map g xs)
  says_map f g h k [] = says_none
  says_map {X} f g h k (x ∷ xs) =
      let more = says_map f g h k xs in
      record { puts = ap (λ v. v ∷ map (put_note tagged) (map f xs)) (h x) ∙ ap (λ vs. g x ∷ vs) more.puts; quiet = ap (λ vs. vs ++ listeners (map f xs)) (k x) ∙ more.quiet }

  -- outs of which each says what its piece is read as
  says_read : {X Y : Type 0} (f : X → BridgeOut L) (read : X → Y) (g : Y → BridgePut) → ((x : X) → put_note tagged (f x) ≡ g (read x)) → ((x : X) → listener_in (f x) ≡ []) → (xs : List X) → Says (map f xs) (map g (map read xs))
  says_read f read g h k [] = says_none
  says_read {X} {Y} f read g h k (x ∷ xs) =
      let more = says_read f read g h k xs in
      record { puts = ap (λ v. v ∷ map (put_note tagged) (map f xs)) (h x) ∙ ap (λ vs. g (read x) ∷ vs) more.puts; quiet = ap (λ vs. vs ++ listeners (map f xs)) (k x) ∙ more.quiet }

  says_subs : (row : SubRow) (pieces : List PieceMsg) (arrivals : List Arrival) → arrivals ≡ map arrival_of pieces → Says (sub_outs row pieces) (sub_delivered row arrivals)
  says_subs row pieces arrivals same =
      let says : Says (sub_outs row pieces) (sub_delivered row (map arrival_of pieces)) =
      says_read (λ (p : PieceMsg). out.Queue row.terms.queue (queued.Deliver row.slot row.sub p)) arrival_of (λ (a : Arrival). to_queue row.terms.queue (delivered_note row.slot row.sub a)) (λ p. refl) (λ p. refl) pieces in
      subst (λ (read : List Arrival). Says (sub_outs row pieces) (sub_delivered row read)) (sym same) says

  says_inboxes : (row : InboxRow) (pieces : List (List ℕ)) (arrivals : List ReplyArrival) → arrivals ≡ map reply_of pieces → Says (inbox_outs row pieces) (inbox_replied row arrivals)
  says_inboxes row pieces arrivals same =
      let says : Says (inbox_outs row pieces) (inbox_replied row (map reply_of pieces)) =
      says_read (λ (body : List ℕ). out.Queue row.terms.queue (queued.Reply row.slot row.inbox body)) reply_of (λ (a : ReplyArrival). to_queue row.terms.queue (replied_note row.slot row.inbox a)) (λ p. refl) (λ p. refl) pieces in
      subst (λ (read : List ReplyArrival). Says (inbox_outs row pieces) (inbox_replied row read)) (sym same) says

  pub says_emits : Arrives → (m : MarketMsg) → HasSpelling m.body → (rows : List SubRow) → AreSpelled rows → Says (flat_map (emit_outs m) rows) (flat_map (sub_emits m) rows)
  says_emits laws m spelled rows all = says_those IsSpelled (emit_outs m) (sub_emits m)
      (λ row sent. says_subs row (passed_on cut_body row.terms.faults (map piece_of row.sent) (piece_of m ∷ [])) (passed_on cut_arrival row.terms.faults (arriving row.sent) (arriving (m ∷ []))) (subs_passed laws row.terms.faults row.sent m sent spelled)) rows all

  pub says_ends : Arrives → (rows : List SubRow) → AreSpelled rows → Says (flat_map end_outs rows) (flat_map sub_ends rows)
  says_ends laws rows all = says_those IsSpelled end_outs sub_ends
      (λ row sent. says_append (sub_outs row (rest row.terms.faults (map piece_of row.sent))) (out.Queue row.terms.queue (queued.Gone row.slot (Sub row.sub)) ∷ []) (sub_delivered row (rest row.terms.faults (arriving row.sent))) (to_queue row.terms.queue (q.Gone row.slot (Sub row.sub)) ∷ [])
      (says_subs row (rest row.terms.faults (map piece_of row.sent)) (rest row.terms.faults (arriving row.sent)) (subs_rest laws row.terms.faults row.sent sent)) (record { puts = refl; quiet = refl })) rows all

  pub says_inbox_emits : Arrives → (body : List FieldData) → HasSpelling body → (rows : List InboxRow) → AreRepliesSpelled rows → Says (flat_map (inbox_emit_outs body) rows) (flat_map (inbox_emits body) rows)
  says_inbox_emits laws body spelled rows all = says_those IsReplySpelled (inbox_emit_outs body) (inbox_emits body)
      (λ row sent. says_inboxes row (passed_on cut_bytes row.terms.faults (map spelling row.sent) (spelling body ∷ [])) (passed_on cut_reply row.terms.faults (answering row.sent) (answering (body ∷ []))) (replies_passed laws row.terms.faults row.sent body sent spelled)) rows all

  pub says_inbox_ends : Arrives → (rows : List InboxRow) → AreRepliesSpelled rows → Says (flat_map inbox_end_outs rows) (flat_map inbox_ends rows)
  says_inbox_ends laws rows all = says_those IsReplySpelled inbox_end_outs inbox_ends
      (λ row sent. says_append (inbox_outs row (rest row.terms.faults (map spelling row.sent))) (out.Queue row.terms.queue (queued.Gone row.slot (Inbox row.inbox)) ∷ []) (inbox_replied row (rest row.terms.faults (answering row.sent))) (to_queue row.terms.queue (q.Gone row.slot (Inbox row.inbox)) ∷ [])
      (says_inboxes row (rest row.terms.faults (map spelling row.sent)) (rest row.terms.faults (answering row.sent)) (replies_rest laws row.terms.faults row.sent sent)) (record { puts = refl; quiet = refl })) rows all

  pub adds_said : (o0 o1 outs : List (BridgeOut L)) (more : List BridgePut) → o1 ≡ o0 ++ outs → Says outs more → Adds tagged o0 o1 more []
  adds_said o0 o1 outs more h s = record {
    puts = ap (map (put_note tagged)) h ∙ map-append (put_note tagged) o0 outs ∙ ap (λ zs. map (put_note tagged) o0 ++ zs) s.puts;
    listeners = ap listeners h ∙ flat_map-append listener_in o0 outs ∙ ap (λ (zs : List L). listeners o0 ++ zs) s.quiet;
  }

  pub adds_none : (o : List (BridgeOut L)) → Adds tagged o o [] []
  adds_none o = record { puts = sym (append-nil (map (put_note tagged) o)); listeners = sym (append-nil (listeners o)) }
