-- Streams of small journals, computed by the definitions: that they are lawful, and why the premise is there.
use Rattle.std.proofs.Common.{◌≡◌, ℕ, Bool, true, false, List, [], ◌∷◌, refl}
use Rattle.mama_journal.specs.Journal.{count_of}
use Rattle.mama_event.specs.Lawful.{each_fits, may_follow}
use Rattle.mama_event.specs.ToQueue.{is_last, fits, creates}
use Rattle.mama_event.specs.ToPublisher as publisher
use Rattle.mama_event.specs.declared.ids.SubId.{SubId}
use Rattle.mama_event.specs.declared.ids.InboxId.{InboxId}
use Rattle.mama_event.specs.declared.ids.ObjectId.TheVariants.{Sub, Inbox}
use Rattle.mama_event.specs.declared.market.MarketMsg.{MarketMsg}
use Rattle.mama_event.specs.declared.market.MsgKind.TheVariants.{Update}
use Rattle.mama_event.specs.declared.market.SubKind.TheVariants.{Market}
use Rattle.mama_event.specs.declared.to_bridge.SubTerms.{SubTerms}
use Rattle.mama_event.specs.declared.to_bridge.InboxTerms.{InboxTerms}
use Rattle.mama_event.specs.declared.to_bridge.BridgeNote.{BridgeNote}
use Rattle.mama_event.specs.declared.to_bridge.BridgeNote.TheVariants as b
use Rattle.mama_event.specs.declared.to_queue.Make.TheVariants as make
use Rattle.mama_event.specs.declared.to_queue.QueueNote.{QueueNote}
use Rattle.mama_event.specs.declared.to_queue.QueueNote.TheVariants as q
use Rattle.mama_event.specs.declared.to_timers.TimersNote.TheVariants as t
use Rattle.mama_event.specs.declared.shape.Shape.{Shape}
use Rattle.mama_event.specs.declared.shape.Strategy.TheVariants as strategy
use Rattle.mama_rules_services.specs.Bridge.{has_ending}
use Rattle.mama_laws_lawful.specs.Streams.{queue_stream, publisher_stream, timers_stream, is_gone}

-- a lawful list of a queue, as a test
abbrev is_lawful : List QueueNote → Bool
is_lawful notes = each_fits (may_follow is_last (fits 0)) [] notes

abbrev sub : ℕ → SubId
sub n = record { client = 0; number = n }

abbrev inbox : ℕ → InboxId
inbox n = record { client = 0; number = n }

abbrev terms : SubTerms
terms = record { topic = 0; kind = Market; queue = 0; cache = 10; recaps = 1; faults = [] }

abbrev inbox_terms : InboxTerms
inbox_terms = record { queue = 0; faults = [] }

abbrev update : ℕ → MarketMsg
update n = record { kind = Update; sender = 1; seq = n; body = [] }

-- one client, one publisher and one queue
abbrev small : Shape
small = record { clients = 1; publisher_topics = 0 ∷ []; bounds = record { topics = 1; queues = 1 }; strategy = strategy.One }

-- A subscription is left before it joins, joined twice and left twice, and its slot is given on; an inbox is open at the
-- ending, and the ending comes before the last Leave.
abbrev disorder : List (ℕ × BridgeNote)
disorder =
    (0, b.Leave (sub 0))
    ∷ (0, b.Join (sub 0) terms (Sub (sub 0)))
    ∷ (0, b.OpenInbox (inbox 0) inbox_terms (Inbox (inbox 0)))
    ∷ (0, b.Join (sub 0) terms (Sub (sub 0)))
    ∷ (1, b.Publish (update 1))
    ∷ (0, b.Leave (sub 0))
    ∷ (2, b.Leave (sub 0))
    ∷ (0, b.Join (sub 1) terms (Sub (sub 1)))
    ∷ (1, b.SendsDone)
    ∷ (0, b.ClientDone)
    ∷ (1, b.Settled)
    ∷ (2, b.Leave (sub 1))
    ∷ (2, b.CloseInbox (inbox 0))
    ∷ []

stream_of_disorder : queue_stream small disorder 0 ≡
    q.Create 0 (Sub (sub 0)) (make.Sub Market 10 strategy.One) (Sub (sub 0))
    ∷ q.Create 1 (Inbox (inbox 0)) make.Inbox (Inbox (inbox 0))
    ∷ q.Deliver 0 (sub 0) (update 1)
    ∷ q.Gone 0 (Sub (sub 0))
    ∷ q.Create 0 (Sub (sub 1)) (make.Sub Market 10 strategy.One) (Sub (sub 1))
    ∷ q.Gone 0 (Sub (sub 1))
    ∷ q.Gone 1 (Inbox (inbox 0))
    ∷ q.Fin
    ∷ []
stream_of_disorder = refl

disorder_is_lawful : is_lawful (queue_stream small disorder 0) ≡ true
disorder_is_lawful = refl

created_once : count_of (creates (Sub (sub 0))) (queue_stream small disorder 0) ≡ 1
created_once = refl

gone_once : count_of (is_gone (Sub (sub 0))) (queue_stream small disorder 0) ≡ 1
gone_once = refl

-- a client that joins after its last word, and with it after the ending
abbrev alone : Shape
alone = record { clients = 1; publisher_topics = []; bounds = record { topics = 1; queues = 1 }; strategy = strategy.One }

abbrev late : List (ℕ × BridgeNote)
late = (0, b.ClientDone) ∷ (0, b.Join (sub 0) terms (Sub (sub 0))) ∷ []

stream_of_late : queue_stream alone late 0 ≡ q.Fin ∷ q.Create 0 (Sub (sub 0)) (make.Sub Market 10 strategy.One) (Sub (sub 0)) ∷ []
stream_of_late = refl

late_is_not_lawful : is_lawful (queue_stream alone late 0) ≡ false
late_is_not_lawful = refl

-- the timers are told Fin once all the same
timers_of_late : timers_stream alone late ≡ t.Fin ∷ []
timers_of_late = refl

-- a publisher too is told of it after its Fin
abbrev late_with_publisher : List (ℕ × BridgeNote)
late_with_publisher = (1, b.SendsDone) ∷ (0, b.ClientDone) ∷ (1, b.Settled) ∷ (0, b.Join (sub 0) terms (Sub (sub 0))) ∷ []

publisher_of_late : each_fits (may_follow publisher.is_last publisher.fits) [] (publisher_stream small late_with_publisher 0) ≡ false
publisher_of_late = refl

-- where nobody has a last word to say the ending stands from the start, and is told to nobody
abbrev nobody : Shape
nobody = record { clients = 0; publisher_topics = []; bounds = record { topics = 1; queues = 1 }; strategy = strategy.One }

nobody_ends : has_ending nobody [] ≡ true
nobody_ends = refl

nobody_is_told : queue_stream nobody ((0, b.Bye) ∷ []) 0 ≡ []
nobody_is_told = refl
