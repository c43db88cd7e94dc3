-- What is heard of an event, with the listener that it brought.
use Rattle.std.specs.List.{list_any}
use Rattle.std.proofs.Common.{◌≡◌, ℕ, Bool, true, false, cond, ◌==◌, eq-eqb, List, [], ◌∷◌, refl, sym, ◌∙◌, ap, subst}
use Rattle.mama_event.specs.ToBridge.{note_of}
use Rattle.mama_event.specs.declared.ids.ObjectId.{ObjectId}
use Rattle.mama_event.specs.declared.ids.SubId.{SubId}
use Rattle.mama_event.specs.declared.ids.InboxId.{InboxId}
use Rattle.mama_event.specs.declared.ids.ObjectId.TheVariants.{Sub, Inbox}
use Rattle.mama_event.specs.declared.shape.Shape.{Shape}
use Rattle.mama_event.specs.declared.to_bridge.SubTerms.{SubTerms}
use Rattle.mama_event.specs.declared.to_bridge.InboxTerms.{InboxTerms}
use Rattle.mama_event.specs.declared.to_bridge.ToBridge.{ToBridge}
use Rattle.mama_event.specs.declared.to_bridge.ToBridge.TheVariants as event
use Rattle.mama_event.specs.declared.to_queue.Make.TheVariants as make
use Rattle.mama_event.specs.declared.to_queue.QueueNote.TheVariants as q
use Rattle.mama_rules_services.specs.Bridge.{BridgeEvent, no_event, joins, opens, from_publisher, from_queue, BridgePut, to_queue, wants_image}
use Rattle.mama_laws_bridge.specs.Table.{Table, table_puts, has_joined, has_opened, slot_for}
use Rattle.mama_bridge.specs.Ids.{is_sub_among, is_inbox_among}
use Rattle.mama_bridge.specs.declared.out.BridgeOut.{BridgeOut}
use Rattle.mama_bridge.specs.declared.desk.Desk.{Desk}
use Rattle.mama_bridge.specs.Outs.{brought, is_create}
use Rattle.mama_bridge.specs.Desk.{Heard, Hears, HearsOf}
use Rattle.mama_bridge.proofs.Adding.{adds_none}

same_both : {A : Type 0} (b : Bool) (x : A) → cond b x x ≡ x
same_both true x = refl
same_both false x = refl

-- the listener goes with the Create
carried : {L : Type 0} (b : Bool) (create : BridgePut) (more : List BridgePut) (listener : L) → is_create create ≡ true
    → cond b [] (listener ∷ []) ≡ cond (list_any is_create (cond b [] (create ∷ more))) (listener ∷ []) []
carried true create more listener h = refl
carried false create more listener h = rw h refl

module _ {L : Type 0} (tagged : L → ObjectId) where
  -- nothing is heard
  pub hears_nothing : (shape : Shape) (desk : Desk) (outs : List (BridgeOut L)) → Hears tagged shape no_event desk desk outs outs []
  hears_nothing shape desk outs table s sound = record {
    stands = record { opened = s.opened; subs = s.subs; inboxes = s.inboxes; slots = s.slots; clients = s.clients; sends = s.sends; settled = s.settled; byes = s.byes; spelled = s.spelled; replies_spelled = s.replies_spelled };
    adds = adds_none tagged outs;
  }

  hears_of : (shape : Shape) (e : BridgeEvent) (given : ToBridge L) (before after : Desk) (o0 o1 : List (BridgeOut L))
      → ((table : Table) → cond (list_any is_create (table_puts shape table e)) (brought given) [] ≡ [])
      → Hears tagged shape e before after o0 o1 [] → HearsOf tagged shape e given before after o0 o1
  hears_of shape e given before after o0 o1 none h table s sound = subst (λ (ls : List L). Heard tagged shape table e after o0 o1 ls) (sym (none table)) (h table s sound)

  -- no listener was brought
  pub hears_plain : (shape : Shape) (e : BridgeEvent) (given : ToBridge L) (before after : Desk) (o0 o1 : List (BridgeOut L)) → brought given ≡ []
      → Hears tagged shape e before after o0 o1 [] → HearsOf tagged shape e given before after o0 o1
  hears_plain shape e given before after o0 o1 none = hears_of shape e given before after o0 o1
      (λ table. ap (λ (ls : List L). cond (list_any is_create (table_puts shape table e)) ls []) none ∙ same_both (list_any is_create (table_puts shape table e)) [])

  -- nothing was heard of an event
  pub hears_none : (shape : Shape) (e : BridgeEvent) (given : ToBridge L) (desk : Desk) (outs : List (BridgeOut L)) → e ≡ no_event → HearsOf tagged shape e given desk desk outs outs
  hears_none shape e given desk outs h = subst (λ (f : BridgeEvent). HearsOf tagged shape f given desk desk outs outs) (sym h)
      (hears_of shape no_event given desk desk outs outs (λ table. refl) (hears_nothing shape desk outs))

  pub hears_publisher : (shape : Shape) (n : ℕ) (given : ToBridge L) (before after : Desk) (o0 o1 : List (BridgeOut L))
      → Hears tagged shape (from_publisher n (note_of tagged given)) before after o0 o1 [] → HearsOf tagged shape (from_publisher n (note_of tagged given)) given before after o0 o1
  hears_publisher shape n (event.Join sub terms listener) before after o0 o1 = hears_of shape no_event (event.Join sub terms listener) before after o0 o1 (λ table. refl)
  hears_publisher shape n (event.OpenInbox inbox terms listener) before after o0 o1 = hears_of shape no_event (event.OpenInbox inbox terms listener) before after o0 o1 (λ table. refl)
  hears_publisher shape n given before after o0 o1 = hears_plain shape (from_publisher n (note_of tagged given)) given before after o0 o1 refl

  pub hears_queue : (shape : Shape) (n : ℕ) (given : ToBridge L) (before after : Desk) (o0 o1 : List (BridgeOut L))
      → Hears tagged shape (from_queue n (note_of tagged given)) before after o0 o1 [] → HearsOf tagged shape (from_queue n (note_of tagged given)) given before after o0 o1
  hears_queue shape n (event.Join sub terms listener) before after o0 o1 = hears_of shape no_event (event.Join sub terms listener) before after o0 o1 (λ table. refl)
  hears_queue shape n (event.OpenInbox inbox terms listener) before after o0 o1 = hears_of shape no_event (event.OpenInbox inbox terms listener) before after o0 o1 (λ table. refl)
  hears_queue shape n given before after o0 o1 = hears_plain shape (from_queue n (note_of tagged given)) given before after o0 o1 refl

  pub hears_join : (shape : Shape) (s : SubId) (terms : SubTerms) (listener : L) (before after : Desk) (o0 o1 : List (BridgeOut L))
      → Hears tagged shape (joins s terms (tagged listener)) before after o0 o1 (cond (is_sub_among before.subs.places.joined s) [] (listener ∷ []))
      → HearsOf tagged shape (joins s terms (tagged listener)) (event.Join s terms listener) before after o0 o1
  hears_join shape s terms listener before after o0 o1 h table stands sound =
      subst (λ (ls : List L). Heard tagged shape table (joins s terms (tagged listener)) after o0 o1 ls)
      (ap (λ (b : Bool). cond b [] (listener ∷ [])) (stands.subs.known s)
      ∙ carried (has_joined s table) (to_queue terms.queue (q.Create (slot_for terms.queue table) (Sub s) (make.Sub terms.kind terms.cache shape.strategy) (tagged listener))) (wants_image shape s terms.kind terms.topic) listener refl)
      (h table stands sound)

  pub hears_opening : (shape : Shape) (i : InboxId) (terms : InboxTerms) (listener : L) (before after : Desk) (o0 o1 : List (BridgeOut L))
      → Hears tagged shape (opens i terms (tagged listener)) before after o0 o1 (cond (is_inbox_among before.inboxes.opened i) [] (listener ∷ []))
      → HearsOf tagged shape (opens i terms (tagged listener)) (event.OpenInbox i terms listener) before after o0 o1
  hears_opening shape i terms listener before after o0 o1 h table stands sound =
      subst (λ (ls : List L). Heard tagged shape table (opens i terms (tagged listener)) after o0 o1 ls)
      (ap (λ (b : Bool). cond b [] (listener ∷ [])) (stands.opened i)
      ∙ carried (has_opened i table) (to_queue terms.queue (q.Create (slot_for terms.queue table) (Inbox i) make.Inbox (tagged listener))) [] listener refl)
      (h table stands sound)

  pub hears_join_of : (shape : Shape) (client : ℕ) (s : SubId) (terms : SubTerms) (listener : L) (before after : Desk) (o0 o1 : List (BridgeOut L)) → s.client ≡ client
      → Hears tagged shape (joins s terms (tagged listener)) before after o0 o1 (cond (is_sub_among before.subs.places.joined s) [] (listener ∷ []))
      → HearsOf tagged shape (cond (s.client == client) (joins s terms (tagged listener)) no_event) (event.Join s terms listener) before after o0 o1
  hears_join_of shape client s terms listener before after o0 o1 own h =
      subst (λ (b : Bool). HearsOf tagged shape (cond b (joins s terms (tagged listener)) no_event) (event.Join s terms listener) before after o0 o1)
      (sym (eq-eqb s.client client own)) (hears_join shape s terms listener before after o0 o1 h)

  pub hears_opening_of : (shape : Shape) (client : ℕ) (i : InboxId) (terms : InboxTerms) (listener : L) (before after : Desk) (o0 o1 : List (BridgeOut L)) → i.client ≡ client
      → Hears tagged shape (opens i terms (tagged listener)) before after o0 o1 (cond (is_inbox_among before.inboxes.opened i) [] (listener ∷ []))
      → HearsOf tagged shape (cond (i.client == client) (opens i terms (tagged listener)) no_event) (event.OpenInbox i terms listener) before after o0 o1
  hears_opening_of shape client i terms listener before after o0 o1 own h =
      subst (λ (b : Bool). HearsOf tagged shape (cond b (opens i terms (tagged listener)) no_event) (event.OpenInbox i terms listener) before after o0 o1)
      (sym (eq-eqb i.client client own)) (hears_opening shape i terms listener before after o0 o1 h)
