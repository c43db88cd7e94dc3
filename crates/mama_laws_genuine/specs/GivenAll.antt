-- believed: which messages a market subscription is given over a link without faults, where its topic has one publisher.
use Rattle.std.specs.Prelude.{◌≡◌, ℕ, Bool, false, List, [], ◌∷◌, ◌++◌, filter, slice_index_or}
use Rattle.std.specs.List.{AllZip, flat_map}
use Rattle.mama_event.specs.declared.ids.ObjectId.{ObjectId}
use Rattle.mama_event.specs.declared.ids.ObjectId.TheVariants.{Sub, Timer, Inbox}
use Rattle.mama_event.specs.declared.market.MarketMsg.{MarketMsg}
use Rattle.mama_event.specs.declared.market.SubKind.TheVariants.{Market}
use Rattle.mama_event.specs.declared.callback.Callback.{Callback}
use Rattle.mama_event.specs.declared.callback.Callback.TheVariants as on
use Rattle.mama_event.specs.declared.callback.CallNote.{CallNote}
use Rattle.mama_event.specs.declared.to_queue.QueueNote.{QueueNote}
use Rattle.mama_dq.specs.Table.{is_update}
use Rattle.mama_dq.specs.Orderly.{from_first_image, is_update_above}
use Rattle.mama_rules_services.specs.Bridge.{heard, window}
use Rattle.mama_rules_queue.specs.Queue.{deeds, is_muted}
use Rattle.mama_record.specs.RunData.{RunData, ObjectCalls}
use Rattle.mama_script.specs.Script.{ScriptData}
use Rattle.mama_rules_rounds.specs.Client.{Planned}
use Rattle.mama_rules_rounds.specs.Setting.{Setting, orders_by}
use Rattle.mama_rules_rounds.specs.Sections.{setting_of}
use Rattle.mama_laws_genuine.specs.CalmLinks.{HasPlainLink}

-- the message that a callback gives
abbrev pub given_in : Callback → List MarketMsg
given_in (on.Msg m q) = m ∷ []
given_in on.Create = []
given_in (on.Gap first to) = []
given_in (on.Quality q n) = []
given_in (on.RecapRequest s) = []
given_in (on.Late s n) = []
given_in (on.Error e) = []
given_in on.Destroy = []
given_in (on.Tick t) = []
given_in (on.Reply b) = []

-- the messages that some callbacks give, in order
abbrev pub given : List CallNote → List MarketMsg
given calls = flat_map (λ (n : CallNote). given_in n.call) calls

abbrev pub updates_among : List MarketMsg → List MarketMsg
updates_among messages = filter (λ m. is_update m.kind) messages

-- Of the messages that were sent into its link while it was live, a subscription is given each once, in order, from the
-- first image on; and so each update that is numbered above that image. If it was muted, the last of them are left.
pub record IsGivenAll (window : List MarketMsg) (muted : Bool) (calls : List CallNote) : Type 0 where
  pub left : List MarketMsg
  pub messages : from_first_image window ≡ given calls ++ left
  pub updates : (first : MarketMsg) (rest : List MarketMsg) → from_first_image window ≡ first ∷ rest
      → filter (is_update_above first.seq) window ≡ updates_among (given calls) ++ updates_among left
  pub all : muted ≡ false → left ≡ []

-- an order in a callback on its queue has ended the object, so that it is muted
abbrev pub was_muted : Setting → List (List (ℕ × QueueNote)) → ObjectId → ℕ → Bool
was_muted setting queues o queue = is_muted o (deeds (orders_by setting) (slice_index_or queues queue []))

-- so it is with an object that is a market subscription with a plain link
abbrev pub AreGivenFor : ScriptData → RunData → ObjectId → ℕ → List CallNote → Type 0
AreGivenFor script run (Sub s) queue calls = (link : HasPlainLink script s) → link.terms.kind ≡ Market
    → IsGivenAll (window script.shape s (heard script.shape run.bridge)) (was_muted (setting_of script) run.queues (Sub s) queue) calls
AreGivenFor script run (Timer t) queue calls = Unit {0}
AreGivenFor script run (Inbox i) queue calls = Unit {0}

-- the callbacks that a record has of an object of the script
pub record HasAllGiven (script : ScriptData) (run : RunData) (p : Planned) (c : ObjectCalls) : Type 0 where
  pub object : c.object ≡ p.object
  pub given : AreGivenFor script run p.object p.queue c.calls

-- In a run a market subscription without fault rows, on a topic that exactly one publisher has, is given each update that
-- was sent to it while it was live, and is numbered above its first image, once; unless it was muted.
abbrev pub AreAllGiven : ScriptData → RunData → Type 0
AreAllGiven script run = AllZip (HasAllGiven script run) (setting_of script).objects run.calls
