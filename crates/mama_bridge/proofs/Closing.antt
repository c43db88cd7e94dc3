-- What follows where someone is done: settling, the ending, or neither.
use Rattle.std.proofs.Common.{◌≡◌, ◌<◌, Bool, cond, List, [], ◌++◌, length, map, refl, sym, ◌∙◌, ap, subst, append_assoc}
use Rattle.std.specs.List.{list_any, flat_map}
use Rattle.mama_event.specs.declared.ids.ObjectId.{ObjectId}
use Rattle.mama_event.specs.declared.shape.Shape.{Shape}
use Rattle.mama_event.specs.Ports.{publishers_of, queues_of}
use Rattle.mama_event.specs.Object.{same_inbox}
use Rattle.mama_event.specs.declared.ids.SubId.{SubId}
use Rattle.mama_event.specs.declared.ids.InboxId.{InboxId}
use Rattle.mama_rules_services.specs.Bridge.{BridgeEvent, BridgePut}
use Rattle.mama_laws_bridge.specs.Table.{SubRow, InboxRow, Table, kept, settles_all, ends_all, closing, begins_settling, begins_ending, marked, client_in, sender_in, settler_in, leaver_in, table_puts, joined_next, opened_next, subs_next, inboxes_next}
use Rattle.mama_bridge.specs.declared.out.BridgeOut.{BridgeOut}
use Rattle.mama_bridge.specs.declared.live.Live.{Live}
use Rattle.mama_bridge.specs.declared.done.Done.{Done}
use Rattle.mama_bridge.specs.declared.done.Done.TheVariants as done
use Rattle.mama_bridge.specs.declared.desk.Desk.{Desk}
use Rattle.mama_bridge.specs.declared.inboxes.InboxLink.{InboxLink}
use Rattle.mama_bridge.specs.Desk.{Adds, Stands, Heard, AllButLinks}
use Rattle.mama_bridge.specs.Done.{said_by, HasFlag, Marks}
use Rattle.mama_bridge.specs.Held.{AreHeld, KeepsHeld}
use Rattle.mama_bridge.specs.Ids.{is_inbox_among}
use Rattle.mama_bridge.specs.Links.{AreSpelled, AreRepliesSpelled, inbox_seen, inbox_view, end_outs, inbox_end_outs, settle_outs, fin_outs}
use Rattle.mama_bridge.specs.Live.{IsLive, KeepsLive, EndsLive}
use Rattle.mama_bridge.proofs.HeldLemmas.{held_kept}
use Rattle.mama_bridge.proofs.Adding.{says_append, adds_said}
use Rattle.mama_bridge.proofs.Spellings.{Arrives, BringsSpelled, spelled_next, replies_next}
use Rattle.mama_bridge.proofs.Wishing.{says_if}
use Rattle.mama_bridge.proofs.Joining.{map_kept, says_settles, says_ending}

-- the links that are kept stand for the rows that are kept
pub seen_kept : {A R V : Type 0} (seen : A → V) (view : R → V) (links old : List A) (rows : List R) (ends ends' : Bool)
    → links ≡ kept ends old → map seen old ≡ map view rows → ends ≡ ends' → map seen links ≡ map view (kept ends' rows)
seen_kept {A} {R} {V} seen view links old rows ends ends' h same e =
    ap (map seen) h ∙ map_kept seen ends old ∙ ap (λ (vs : List V). kept ends vs) same ∙ sym (map_kept view ends rows) ∙ ap (λ b. map view (kept b rows)) e

-- what the table does where someone is done
record Closes (shape : Shape) (table : Table) (e : BridgeEvent) : Type 0 where
  joined : joined_next table e ≡ table.joined
  opened : opened_next table e ≡ table.opened
  subs : subs_next shape table e ≡ kept (begins_ending table e) table.subs
  inboxes : inboxes_next table e ≡ kept (begins_ending table e) table.inboxes
  byes : marked table.byes (leaver_in e) ≡ table.byes
  puts : table_puts shape table e ≡ closing shape table e

does_close : (shape : Shape) (table : Table) (who : Done) → Closes shape table (said_by who)
does_close shape table (done.Client client) = record { joined = refl; opened = refl; subs = refl; inboxes = refl; byes = refl; puts = refl }
does_close shape table (done.Sends publisher) = record { joined = refl; opened = refl; subs = refl; inboxes = refl; byes = refl; puts = refl }
does_close shape table (done.Settled publisher) = record { joined = refl; opened = refl; subs = refl; inboxes = refl; byes = refl; puts = refl }

brings_spelled : (who : Done) → BringsSpelled (said_by who)
brings_spelled (done.Client client) = tt
brings_spelled (done.Sends publisher) = tt
brings_spelled (done.Settled publisher) = tt

-- the flag stays there
pub flag_stays : (who : Done) (before after : Desk) → AllButLinks before after → HasFlag before who → HasFlag after who
flag_stays (done.Client client) before after rest h = subst (λ (flags : List Bool). client < length flags) (sym rest.clients) h
flag_stays (done.Sends publisher) before after rest h = subst (λ (flags : List Bool). publisher < length flags) (sym rest.sends) h
flag_stays (done.Settled publisher) before after rest h = subst (λ (flags : List Bool). publisher < length flags) (sym rest.settled) h

module _ {L : Type 0} (tagged : L → ObjectId) where
  pub adds_closing : Arrives → (shape : Shape) (table : Table) (e : BridgeEvent) (subs : Live) (inboxes : List InboxLink) (o0 o1 : List (BridgeOut L)) (settles ends : Bool)
      → AreSpelled table.subs → AreRepliesSpelled table.inboxes → IsLive table.joined table.subs subs → map inbox_seen inboxes ≡ map inbox_view table.inboxes
      → EndsLive ends (publishers_of shape) (queues_of shape) subs inboxes (o0 ++ cond settles (settle_outs (publishers_of shape)) []) o1
      → settles ≡ begins_settling table e → ends ≡ begins_ending table e
      → Adds tagged o0 o1 (closing shape table e) []
  adds_closing laws shape table e subs inboxes o0 o1 settles ends spelled replies h k put s t =
      let ending : List (BridgeOut L) = flat_map end_outs table.subs ++ flat_map inbox_end_outs table.inboxes ++ fin_outs (publishers_of shape) (queues_of shape) in
      let outs : List (BridgeOut L) = cond settles (settle_outs (publishers_of shape)) [] ++ cond ends ending [] in
      let says = says_append tagged (cond settles (settle_outs (publishers_of shape)) []) (cond ends ending []) (cond settles (settles_all shape) []) (cond ends (ends_all shape table) [])
      (says_if tagged settles (settle_outs (publishers_of shape)) (settles_all shape) (says_settles tagged shape))
      (says_if tagged ends ending (ends_all shape table) (says_ending tagged laws shape table spelled replies)) in
      let adds = adds_said tagged o0 o1 outs (cond settles (settles_all shape) [] ++ cond ends (ends_all shape table) [])
      (put table.joined table.subs table.inboxes h k ∙ append_assoc o0 (cond settles (settle_outs (publishers_of shape)) []) (cond ends ending [])) says in
      rw (← s, ← t) adds

  -- someone is done: the flag is set, and what settling and the ending bring is put
  pub done_heard : Arrives → (shape : Shape) (table : Table) (who : Done) (d0 d1 d2 : Desk) (o0 o1 : List (BridgeOut L)) (settles ends : Bool)
      → Stands table d0 → KeepsLive ends d0.subs d1.subs → d1.inboxes.links ≡ kept ends d0.inboxes.links → KeepsHeld ends d0.slots d1.slots
      → EndsLive ends (publishers_of shape) (queues_of shape) d0.subs d0.inboxes.links (o0 ++ cond settles (settle_outs (publishers_of shape)) []) o1
      → AllButLinks d0 d1 → Marks who d1 d2 → settles ≡ begins_settling table (said_by who) → ends ≡ begins_ending table (said_by who)
      → Heard tagged shape table (said_by who) d2 o0 o1 []
  done_heard laws shape table who d0 d1 d2 o0 o1 settles ends s subs inboxes slots put rest marks settles_is ends_is =
      let e : BridgeEvent = said_by who in
      let does = does_close shape table who in
      let live : IsLive table.joined (kept (begins_ending table e) table.subs) d2.subs = subst (λ live. IsLive table.joined (kept (begins_ending table e) table.subs) live) (sym marks.subs)
      (subst (λ (b : Bool). IsLive table.joined (kept b table.subs) d1.subs) ends_is (subs table.joined table.subs s.subs)) in
      let seen : map inbox_seen d2.inboxes.links ≡ map inbox_view (kept (begins_ending table e) table.inboxes) =
      ap (λ (links : List InboxLink). map inbox_seen links) marks.inboxes ∙ seen_kept inbox_seen inbox_view d1.inboxes.links d0.inboxes.links table.inboxes ends (begins_ending table e) inboxes s.inboxes ends_is in
      let held : AreHeld d2.slots (kept (begins_ending table e) table.subs) (kept (begins_ending table e) table.inboxes) = subst (λ held. AreHeld held (kept (begins_ending table e) table.subs) (kept (begins_ending table e) table.inboxes)) (sym marks.slots)
      (held_kept (begins_ending table e) table.subs table.inboxes d0.slots d1.slots s.slots (subst (λ (b : Bool). KeepsHeld b d0.slots d1.slots) ends_is slots)) in
      record {
        stands = record {
          opened = λ one. ap (λ (known : List InboxId). is_inbox_among known one) (marks.opened ∙ rest.opened) ∙ s.opened one ∙ ap (λ (known : List InboxId). list_any (λ (r : InboxId). same_inbox r one) known) (sym does.opened);
          subs = subst (λ (joined : List SubId). IsLive joined (subs_next shape table e) d2.subs) (sym does.joined) (subst (λ (rows : List SubRow). IsLive table.joined rows d2.subs) (sym does.subs) live);
          inboxes = seen ∙ ap (λ (rows : List InboxRow). map inbox_view rows) (sym does.inboxes);
          slots = subst (λ (rows : List SubRow). AreHeld d2.slots rows (inboxes_next table e)) (sym does.subs) (subst (λ (rows : List InboxRow). AreHeld d2.slots (kept (begins_ending table e) table.subs) rows) (sym does.inboxes) held);
          clients = marks.clients ∙ ap (λ (flags : List Bool). marked flags (client_in e)) (rest.clients ∙ s.clients);
          sends = marks.sends ∙ ap (λ (flags : List Bool). marked flags (sender_in e)) (rest.sends ∙ s.sends);
          settled = marks.settled ∙ ap (λ (flags : List Bool). marked flags (settler_in e)) (rest.settled ∙ s.settled);
          byes = marks.byes ∙ rest.byes ∙ s.byes ∙ sym does.byes;
          spelled = spelled_next shape table e (brings_spelled who) s.spelled;
          replies_spelled = replies_next table e (brings_spelled who) s.replies_spelled;
        };
        adds = subst (λ (puts : List BridgePut). Adds tagged o0 o1 puts []) (sym does.puts)
            (adds_closing laws shape table e d0.subs d0.inboxes.links o0 o1 settles ends s.spelled s.replies_spelled s.subs s.inboxes put settles_is ends_is);
      }
