-- believed: What a table tells: which rows there are, what each row says, and that by the rows a bridge puts what its rules say.
use Rattle.std.specs.Prelude.{◌≡◌, ℕ, Bool, false, List, [], ◌∷◌, ◌++◌, map}
use Rattle.std.specs.List.{list_any}
use Rattle.mama_event.specs.declared.shape.Shape.{Shape}
use Rattle.mama_event.specs.declared.to_bridge.BridgeNote.{BridgeNote}
use Rattle.mama_event.specs.Object.{same_sub, same_inbox}
use Rattle.mama_rules_services.specs.Ports.{bridge_putter}
use Rattle.mama_rules_services.specs.Bridge.{BridgeEvent, put_by, heard, live_subs, open_inboxes, is_settling, has_ending, bridge_puts_at}
use Rattle.mama_laws_bridge.specs.Byes.{all_left}
use Rattle.mama_laws_bridge.specs.Table.{SubRow, InboxRow, table_of, table_puts, table_next, settling_now, ended_now, all_set}

-- no two rows have one id
abbrev pub Alone : {R I : Type 0} → (I → I → Bool) → (R → I) → List R → Type 0
Alone same key [] = Unit {0}
Alone same key (row ∷ rows) = (list_any (λ other. same (key other) (key row)) rows ≡ false) × Alone same key rows

-- the rows are the live subscriptions and the open inboxes, in order of joining and of opening, each once
pub record RowsAreLive (shape : Shape) (es : List BridgeEvent) : Type 0 where
  pub subs : map (λ (row : SubRow). row.sub) (table_of shape es).subs ≡ live_subs shape es
  pub inboxes : map (λ (row : InboxRow). row.inbox) (table_of shape es).inboxes ≡ open_inboxes shape es
  pub subs_once : Alone same_sub (λ (row : SubRow). row.sub) (table_of shape es).subs
  pub inboxes_once : Alone same_inbox (λ (row : InboxRow). row.inbox) (table_of shape es).inboxes

-- the flags tell whether settling has begun, whether the ending has come, and whether every queue said its last
pub record FlagsTell (shape : Shape) (es : List BridgeEvent) : Type 0 where
  pub settling : is_settling shape es ≡ settling_now (table_of shape es)
  pub ended : has_ending shape es ≡ ended_now (table_of shape es)
  pub left : all_left shape es ≡ all_set (table_of shape es).byes

-- by its table a bridge puts what its rules say
abbrev pub TableTells : Type 0
TableTells = (shape : Shape) (before : List (ℕ × BridgeNote)) (e : ℕ × BridgeNote)
    → bridge_puts_at shape before e ≡ table_puts shape (table_of shape (heard shape before)) (put_by (bridge_putter shape e.0) e.1)

-- the table of a journal with one entry more
abbrev pub TableGrows : Type 0
TableGrows = (shape : Shape) (before : List (ℕ × BridgeNote)) (e : ℕ × BridgeNote)
    → table_of shape (heard shape (before ++ e ∷ [])) ≡ table_next shape (table_of shape (heard shape before)) (put_by (bridge_putter shape e.0) e.1)
