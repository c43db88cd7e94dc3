-- The laws of tables, from what ties them.
use Rattle.std.specs.List.{list_any}
use Rattle.std.proofs.Common.{◌≡◌, ℕ, Bool, ◌||◌, List, [], ◌∷◌, map, refl, sym, ◌∙◌, ap}
use Rattle.std.proofs.lemmas.List.{map-append}
use Rattle.mama_event.specs.declared.ids.SubId.{SubId}
use Rattle.mama_event.specs.declared.ids.InboxId.{InboxId}
use Rattle.mama_event.specs.declared.shape.Shape.{Shape}
use Rattle.mama_event.specs.declared.to_bridge.BridgeNote.{BridgeNote}
use Rattle.mama_event.specs.Object.{same_sub, same_inbox}
use Rattle.mama_journal.specs.Journal.{all_puts}
use Rattle.mama_rules_services.specs.Ports.{bridge_putter}
use Rattle.mama_rules_services.specs.Bridge.{BridgeEvent, put_by, heard, newly_joined, newly_opened, joins_sub, opens_inbox, leaves_sub, closes_inbox, bridge_reaction}
use Rattle.mama_laws_bridge.specs.Table.{SubRow, InboxRow, table_of}
use Rattle.mama_laws_bridge.specs.Laws.{Alone, RowsAreLive, FlagsTell, TableTells, TableGrows}
use Rattle.mama_laws_bridge.proofs.Live.{settling_is, ended_is, byes_is}
use Rattle.mama_laws_bridge.proofs.OneKind.{Apart}
use Rattle.mama_laws_bridge.proofs.Ties.{sub_made, inbox_made, subs_kind, inboxes_kind}
use Rattle.mama_laws_bridge.proofs.Reaction.{reaction, subs_apart, inboxes_apart}
use Rattle.mama_laws_bridge.proofs.Next.{tied, table_of-push}

any_key : {R I : Type 0} (p : I → Bool) (key : R → I) (rows : List R) → list_any p (map key rows) ≡ list_any (λ row. p (key row)) rows
any_key p key [] = refl
any_key p key (row ∷ rows) = ap (λ b. p (key row) || b) (any_key p key rows)

subs_alone : (rows : List SubRow) → Apart same_sub newly_joined joins_sub leaves_sub sub_made subs_kind (map (λ (row : SubRow). row.sub) rows) → Alone same_sub (λ (row : SubRow). row.sub) rows
subs_alone [] h = tt
subs_alone (row ∷ rows) h = (sym (any_key (λ (r : SubId). same_sub r row.sub) (λ (x : SubRow). x.sub) rows) ∙ h.0, subs_alone rows h.1)

inboxes_alone : (rows : List InboxRow) → Apart same_inbox newly_opened opens_inbox closes_inbox inbox_made inboxes_kind (map (λ (row : InboxRow). row.inbox) rows) → Alone same_inbox (λ (row : InboxRow). row.inbox) rows
inboxes_alone [] h = tt
inboxes_alone (row ∷ rows) h = (sym (any_key (λ (r : InboxId). same_inbox r row.inbox) (λ (x : InboxRow). x.inbox) rows) ∙ h.0, inboxes_alone rows h.1)

pub rows_are_live : (shape : Shape) (es : List BridgeEvent) → RowsAreLive shape es
rows_are_live shape es =
    let ties = tied shape es in
    let sofar = all_puts (bridge_reaction shape) es in
    record {
      subs = ties.subs;
      inboxes = ties.inboxes;
      subs_once = subs_alone (table_of shape es).subs (subs_apart shape es sofar (table_of shape es) ties);
      inboxes_once = inboxes_alone (table_of shape es).inboxes (inboxes_apart shape es sofar (table_of shape es) ties);
    }

pub flags_tell : (shape : Shape) (es : List BridgeEvent) → FlagsTell shape es
flags_tell shape es =
    let counted = (tied shape es).counted in
    record {
      settling = settling_is shape es (table_of shape es) counted;
      ended = ended_is shape es (table_of shape es) counted;
      left = byes_is shape es (table_of shape es) counted;
    }

pub table_tells : TableTells
table_tells shape before e = reaction shape (heard shape before) (all_puts (bridge_reaction shape) (heard shape before)) (table_of shape (heard shape before)) (tied shape (heard shape before)) (put_by (bridge_putter shape e.0) e.1)

pub table_grows : TableGrows
table_grows shape before e =
    ap (table_of shape) (map-append (λ (f : ℕ × BridgeNote). put_by (bridge_putter shape f.0) f.1) before (e ∷ []))
    ∙ table_of-push shape (heard shape before) (put_by (bridge_putter shape e.0) e.1)
