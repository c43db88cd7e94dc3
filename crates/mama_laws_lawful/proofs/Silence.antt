-- What of the bridge's puts goes to no queue, and what ends no stream.
use Rattle.std.specs.Prelude.{position}
use Rattle.std.specs.List.{flat_map}
use Rattle.std.proofs.Common.{◌≡◌, ℕ, ◌==◌, ◌-◌, Bool, true, false, cond, List, [], ◌∷◌, ◌++◌, Option, None, Some, refl, ◌∙◌, ap}
use Rattle.mama_journal.specs.Journal.{numbers_below}
use Rattle.mama_event.specs.declared.ids.SubId.{SubId}
use Rattle.mama_event.specs.declared.market.MsgKind.TheVariants.{Initial, Recap}
use Rattle.mama_event.specs.declared.market.SubKind.{SubKind}
use Rattle.mama_event.specs.declared.market.SubKind.TheVariants.{Market, Snapshot, Basic}
use Rattle.mama_event.specs.declared.shape.Shape.{Shape}
use Rattle.mama_event.specs.declared.to_publisher.PublisherNote.{PublisherNote}
use Rattle.mama_event.specs.declared.to_publisher.PublisherNote.TheVariants as p
use Rattle.mama_event.specs.declared.to_queue.QueueNote.{QueueNote}
use Rattle.mama_event.specs.Ports.{publishers_of}
use Rattle.mama_rules_services.specs.Bridge.{BridgePut, to_publisher, to_queue, to_timers, to_found, to_first, wants_image}
use Rattle.mama_laws_bridge.specs.Table.{SubRow, may_ask, sub_wishes, settles_all}
use Rattle.mama_laws_bridge.proofs.Lists.{Each, each_all, each_map, each_flat_map}
use Rattle.mama_laws_lawful.specs.Streams.{queue_part}

-- no put is to a queue, nor the last of a stream
abbrev pub is_silent : BridgePut → Bool
is_silent (to_publisher r (p.Want sub kind)) = true
is_silent (to_publisher r (p.Ask inbox fids)) = true
is_silent (to_publisher r p.Settle) = true
is_silent (to_publisher r p.Fin) = false
is_silent (to_queue k note) = false
is_silent (to_timers note) = false

abbrev pub Silent : List BridgePut → Type 0
Silent puts = Each (λ (x : BridgePut). is_silent x ≡ true) puts

silent_one : (queue : ℕ) (x : BridgePut) → is_silent x ≡ true → queue_part queue x ≡ []
silent_one queue (to_publisher r note) h = refl
silent_one queue (to_queue k note) h = cc
silent_one queue (to_timers note) h = refl

pub silent_part : (queue : ℕ) (puts : List BridgePut) → Silent puts → flat_map (queue_part queue) puts ≡ []
silent_part queue [] h = refl
silent_part queue (x ∷ puts) h = ap (λ (ns : List QueueNote). ns ++ flat_map (queue_part queue) puts) (silent_one queue x h.0) ∙ silent_part queue puts h.1

silent_found : (found : Option ℕ) (note : PublisherNote) → ((r : ℕ) → is_silent (to_publisher r note) ≡ true) → Silent (to_found found note)
silent_found None note h = tt
silent_found (Some r) note h = (h r, tt)

pub silent_first : (shape : Shape) (topic : ℕ) (note : PublisherNote) → ((r : ℕ) → is_silent (to_publisher r note) ≡ true) → Silent (to_first shape topic note)
silent_first shape topic note h = silent_found (position (λ t. t == topic) shape.publisher_topics) note h

pub silent_image : (shape : Shape) (s : SubId) (kind : SubKind) (topic : ℕ) → Silent (wants_image shape s kind topic)
silent_image shape s Basic topic = tt
silent_image shape s Market topic = silent_first shape topic (p.Want s Initial) (λ r. refl)
silent_image shape s Snapshot topic = silent_first shape topic (p.Want s Initial) (λ r. refl)

pub silent_if : (b : Bool) (puts : List BridgePut) → Silent puts → Silent (cond b puts [])
silent_if true puts h = h
silent_if false puts h = tt

pub silent_wishes : (shape : Shape) (settling : Bool) (sender : ℕ) (rows : List SubRow) → Silent (flat_map (sub_wishes shape settling sender) rows)
silent_wishes shape settling sender rows =
    each_flat_map (λ (x : BridgePut). is_silent x ≡ true) (sub_wishes shape settling sender) rows
    (λ row. silent_if (may_ask shape settling sender row) (to_publisher (sender - 1) (p.Want row.sub Recap) ∷ []) (refl, tt))

pub silent_settles : (shape : Shape) → Silent (settles_all shape)
silent_settles shape =
    each_map (λ (x : BridgePut). is_silent x ≡ true) (λ (r : ℕ). to_publisher r p.Settle) (numbers_below (publishers_of shape))
    (each_all (λ (r : ℕ). is_silent (to_publisher r p.Settle) ≡ true) (numbers_below (publishers_of shape)) (λ r. refl))
