-- What ties a table to the events that a bridge heard and to what was put so far.
use Rattle.std.specs.Prelude.{is_some}
use Rattle.std.specs.List.{list_any}
use Rattle.std.proofs.Common.{◌≡◌, Bool, true, false, ◌||◌, cond, List, [], ◌∷◌, map, Option, None, Some, refl, sym, ◌∙◌, ap}
use Rattle.mama_journal.specs.Journal.{puts, count_of, first_said}
use Rattle.mama_event.specs.declared.ids.SubId.{SubId}
use Rattle.mama_event.specs.declared.ids.InboxId.{InboxId}
use Rattle.mama_event.specs.declared.ids.ObjectId.TheVariants.{Sub, Inbox}
use Rattle.mama_event.specs.declared.shape.Shape.{Shape}
use Rattle.mama_event.specs.Object.{same_sub, same_inbox}
use Rattle.mama_event.specs.EqualityLaws.{same_sub-Decides, same_inbox-Decides}
use Rattle.mama_rules_services.specs.Bridge.{BridgeEvent, joins, opens, terms_in, inbox_terms_in, joins_sub, opens_inbox, leaves_sub, closes_inbox, has_ending, is_live, is_open, newly_joined, newly_opened, live_subs, open_inboxes, window, reply_window, BridgePut, place_of, is_recap_want}
use Rattle.mama_laws_bridge.specs.Table.{SubRow, InboxRow, Table, of_sub, of_inbox, has_joined, has_opened}
use Rattle.mama_laws_bridge.proofs.Lists.{Each}
use Rattle.mama_laws_bridge.proofs.Live.{Counted}
use Rattle.mama_laws_bridge.proofs.OneKind.{Kind, newly_by, same_as, made_began, found_living}

-- ---- the two kinds of objects

abbrev pub sub_made : BridgeEvent → Option SubId
sub_made (joins s terms tag) = Some s
sub_made _ = None

abbrev pub inbox_made : BridgeEvent → Option InboxId
inbox_made (opens i terms tag) = Some i
inbox_made _ = None

is_some_if : {A : Type 0} (b : Bool) (x : A) → is_some (cond b (Some x) None) ≡ b
is_some_if true x = refl
is_some_if false x = refl

sub_news : (before : List BridgeEvent) (e : BridgeEvent) → newly_joined before e ≡ newly_by joins_sub before (sub_made e)
sub_news before (joins s terms tag) = refl
sub_news before _ = refl

sub_begun : (s : SubId) (e : BridgeEvent) → joins_sub s e ≡ same_as same_sub s (sub_made e)
sub_begun s (joins r terms tag) = is_some_if (same_sub r s) terms
sub_begun s _ = refl

inbox_news : (before : List BridgeEvent) (e : BridgeEvent) → newly_opened before e ≡ newly_by opens_inbox before (inbox_made e)
inbox_news before (opens i terms tag) = refl
inbox_news before _ = refl

inbox_begun : (i : InboxId) (e : BridgeEvent) → opens_inbox i e ≡ same_as same_inbox i (inbox_made e)
inbox_begun i (opens j terms tag) = is_some_if (same_inbox j i) terms
inbox_begun i _ = refl

pub subs_kind : Kind same_sub newly_joined joins_sub sub_made
subs_kind = record {
  decides = λ a b h. (same_sub-Decides a b).0 h;
  itself = λ a. (same_sub-Decides a a).1 refl;
  news = sub_news;
  begun = sub_begun;
}

pub inboxes_kind : Kind same_inbox newly_opened opens_inbox inbox_made
inboxes_kind = record {
  decides = λ a b h. (same_inbox-Decides a b).0 h;
  itself = λ a. (same_inbox-Decides a a).1 refl;
  news = inbox_news;
  begun = inbox_begun;
}

-- ---- the ties

-- a row tells its subscription's terms, its place, what went into its link, and how many of its wishes were forwarded
pub record SubTells (shape : Shape) (es : List BridgeEvent) (sofar : List BridgePut) (row : SubRow) : Type 0 where
  pub terms : first_said (terms_in row.sub) es ≡ Some row.terms
  pub place : place_of (Sub row.sub) sofar ≡ Some (row.terms.queue, row.slot)
  pub sent : window shape row.sub es ≡ row.sent
  pub wished : count_of (is_recap_want row.sub) sofar ≡ row.wished

pub record InboxTells (shape : Shape) (es : List BridgeEvent) (sofar : List BridgePut) (row : InboxRow) : Type 0 where
  pub terms : first_said (inbox_terms_in row.inbox) es ≡ Some row.terms
  pub place : place_of (Inbox row.inbox) sofar ≡ Some (row.terms.queue, row.slot)
  pub sent : reply_window shape row.inbox es ≡ row.sent

-- nothing was put or sent for a subscription that did not join
pub record SubFresh (shape : Shape) (es : List BridgeEvent) (sofar : List BridgePut) (s : SubId) : Type 0 where
  pub place : place_of (Sub s) sofar ≡ None
  pub sent : window shape s es ≡ []
  pub wished : count_of (is_recap_want s) sofar ≡ 0

pub record InboxFresh (shape : Shape) (es : List BridgeEvent) (sofar : List BridgePut) (i : InboxId) : Type 0 where
  pub place : place_of (Inbox i) sofar ≡ None
  pub sent : reply_window shape i es ≡ []

pub record Ties (shape : Shape) (es : List BridgeEvent) (sofar : List BridgePut) (table : Table) : Type 0 where
  pub counted : Counted shape es table
  pub joined : table.joined ≡ puts newly_joined es
  pub opened : table.opened ≡ puts newly_opened es
  pub subs : map (λ (row : SubRow). row.sub) table.subs ≡ live_subs shape es
  pub inboxes : map (λ (row : InboxRow). row.inbox) table.inboxes ≡ open_inboxes shape es
  pub sub_rows : Each (SubTells shape es sofar) table.subs
  pub inbox_rows : Each (InboxTells shape es sofar) table.inboxes
  pub fresh_subs : (s : SubId) → list_any (joins_sub s) es ≡ false → SubFresh shape es sofar s
  pub fresh_inboxes : (i : InboxId) → list_any (opens_inbox i) es ≡ false → InboxFresh shape es sofar i

-- ---- searches by id

pub joined_is : (shape : Shape) (es : List BridgeEvent) (sofar : List BridgePut) (table : Table) → Ties shape es sofar table → (s : SubId) → list_any (joins_sub s) es ≡ has_joined s table
joined_is shape es sofar table h s = sym (ap (λ (xs : List SubId). list_any (λ (r : SubId). same_sub r s) xs) h.joined ∙ made_began same_sub newly_joined joins_sub leaves_sub sub_made subs_kind s es)

pub opened_is : (shape : Shape) (es : List BridgeEvent) (sofar : List BridgePut) (table : Table) → Ties shape es sofar table → (i : InboxId) → list_any (opens_inbox i) es ≡ has_opened i table
opened_is shape es sofar table h i = sym (ap (λ (xs : List InboxId). list_any (λ (r : InboxId). same_inbox r i) xs) h.opened ∙ made_began same_inbox newly_opened opens_inbox closes_inbox inbox_made inboxes_kind i es)

any_key : {R I : Type 0} (p : I → Bool) (key : R → I) (rows : List R) → list_any p (map key rows) ≡ list_any (λ row. p (key row)) rows
any_key p key [] = refl
any_key p key (row ∷ rows) = ap (λ b. p (key row) || b) (any_key p key rows)

pub live_is : (shape : Shape) (es : List BridgeEvent) (sofar : List BridgePut) (table : Table) → Ties shape es sofar table → (s : SubId) → is_live shape s es ≡ list_any (of_sub s) table.subs
live_is shape es sofar table h s =
    sym (found_living same_sub newly_joined joins_sub leaves_sub sub_made subs_kind es (has_ending shape es) s)
    ∙ sym (ap (λ (xs : List SubId). list_any (λ (r : SubId). same_sub r s) xs) h.subs)
    ∙ any_key (λ (r : SubId). same_sub r s) (λ (row : SubRow). row.sub) table.subs

pub open_is : (shape : Shape) (es : List BridgeEvent) (sofar : List BridgePut) (table : Table) → Ties shape es sofar table → (i : InboxId) → is_open shape i es ≡ list_any (of_inbox i) table.inboxes
open_is shape es sofar table h i =
    sym (found_living same_inbox newly_opened opens_inbox closes_inbox inbox_made inboxes_kind es (has_ending shape es) i)
    ∙ sym (ap (λ (xs : List InboxId). list_any (λ (r : InboxId). same_inbox r i) xs) h.inboxes)
    ∙ any_key (λ (r : InboxId). same_inbox r i) (λ (row : InboxRow). row.inbox) table.inboxes
