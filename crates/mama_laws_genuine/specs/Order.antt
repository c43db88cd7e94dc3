-- believed: what goes into the link of a subscription that one publisher feeds.
use Rattle.std.specs.Prelude.{◌≡◌, ◌⊎◌, ℕ, ◌+◌, ◌<◌, List, [], length, Some, slice_index}
use Rattle.std.specs.List.{AllByRecursion}
use Rattle.mama_journal.specs.Journal.{first_said}
use Rattle.mama_event.specs.Ports.{publishers_of, bridge_port_of_publisher}
use Rattle.mama_event.specs.declared.ids.SubId.{SubId}
use Rattle.mama_event.specs.declared.shape.Shape.{Shape}
use Rattle.mama_event.specs.declared.to_bridge.SubTerms.{SubTerms}
use Rattle.mama_event.specs.declared.to_bridge.BridgeNote.{BridgeNote}
use Rattle.mama_dq.specs.Orderly.{AreInOrder}
use Rattle.mama_rules_services.specs.Ports.{bridge_putter}
use Rattle.mama_rules_services.specs.Bridge.{put_by, heard, terms_in, sent_to, window}
use Rattle.mama_record.specs.RunData.{RunData}
use Rattle.mama_script.specs.Script.{ScriptData}
use Rattle.mama_rules_legal.specs.Calls.{IsShapedFor}
use Rattle.mama_rules_legal.specs.Edges.{AreEdges}

-- A publisher alone feeds a subscription: it is one of the topic, and whatever is sent to the subscription came by its
-- port.
pub record IsFedBy (shape : Shape) (s : SubId) (wanted p : ℕ) (journal : List (ℕ × BridgeNote)) : Type 0 where
  pub known : p < publishers_of shape
  pub topic : slice_index shape.publisher_topics p ≡ wanted
  pub alone : AllByRecursion (λ (e : ℕ × BridgeNote). (sent_to shape s wanted (put_by (bridge_putter shape e.0) e.1) ≡ []) ⊎ (e.0 ≡ bridge_port_of_publisher shape p)) journal

-- Where every edge of a record is whole, and one publisher alone feeds a subscription, what goes into its link is in
-- the publisher's order, without a hole: each update is numbered one above the last, and each image carries the number
-- of the last update before it.
abbrev pub WindowsAreInOrder : Type 0
WindowsAreInOrder = (script : ScriptData) (run : RunData) → IsShapedFor script run → AreEdges script run
    → (s : SubId) (terms : SubTerms) (p : ℕ) → first_said (terms_in s) (heard script.shape run.bridge) ≡ Some terms → p < length script.publishers
    → IsFedBy script.shape s terms.topic p run.bridge
    → (n : ℕ) × AreInOrder (p + 1) n (window script.shape s (heard script.shape run.bridge))
