-- believed: The rules of a legal record, one by one, each for one actor by its number. Where all actors keep them, the record is
-- legal; nothing else is asked of the streams of subscriptions and of last events, which follow from whole edges.
use Rattle.std.specs.Prelude.{◌≡◌, ℕ, [], length, map, slice_get, slice_index_or}
use Rattle.std.specs.List.{flat_map}
use Rattle.mama_journal.specs.Lane.{by_port}
use Rattle.mama_rules_services.specs.Ports.{bridge_putter, timers_putter, queue_putter}
use Rattle.mama_script.specs.Script.{ScriptData}
use Rattle.mama_record.specs.RunData.{RunData}
use Rattle.mama_rules_rounds.specs.Client.{clock_lines}
use Rattle.mama_rules_rounds.specs.Setting.{no_section}
use Rattle.mama_rules_rounds.specs.Sections.{setting_of}
use Rattle.mama_rules_rounds.specs.Told.{object_calls, last_image, group_told, watch_told}
use Rattle.mama_rules_legal.specs.Lines.{IsSentOut}
use Rattle.mama_rules_legal.specs.Edges.{client_puts, taken_by, put_on_bridge, put_on_timers, put_to_publisher, put_on_queue}

-- a client read as many moments as it has lines that read the clock
abbrev pub KeepsMoments : ScriptData → RunData → ℕ → Type 0
KeepsMoments script run c = length (slice_index_or run.clients c []) ≡ clock_lines (slice_index_or script.clients c [])

-- a publisher sent all its lines, one entry each, then told that it had, and took all to the end
abbrev pub KeepsLines : ScriptData → RunData → ℕ → Type 0
KeepsLines script run p = IsSentOut (length (slice_index_or (setting_of script).publishers p no_section).lines) (slice_index_or run.publishers p [])

-- WHOLE EDGES: what was taken is all that was put, in order. An edge counts under the actor that took.

-- what a publisher took is all that the bridge put to it
abbrev pub KeepsPublisherEdge : ScriptData → RunData → ℕ → Type 0
KeepsPublisherEdge script run p = taken_by (slice_index_or run.publishers p []) ≡ put_to_publisher script.shape run.bridge p

-- what the bridge took by each port is all that was put there; by a port that is no actor's it took nothing
abbrev pub KeepsBridgeEdges : ScriptData → RunData → Type 0
KeepsBridgeEdges script run = (port : ℕ) → by_port port run.bridge
    ≡ put_on_bridge (setting_of script) (client_puts script run.clients) run.publishers run.queues (bridge_putter script.shape port)

-- the same of the timer service
abbrev pub KeepsTimersEdges : ScriptData → RunData → Type 0
KeepsTimersEdges script run = (port : ℕ) → by_port port run.timers
    ≡ put_on_timers (setting_of script) (client_puts script run.clients) run.queues run.bridge (timers_putter script.shape port)

-- the same of a queue
abbrev pub KeepsQueueEdges : ScriptData → RunData → ℕ → Type 0
KeepsQueueEdges script run q = (port : ℕ) → by_port port (slice_index_or run.queues q [])
    ≡ put_on_queue script.shape run.bridge run.timers q (queue_putter port)

-- CALLBACKS AND IMAGES, by what the queues' journals say

-- the callbacks of the object of this number, with their orders, are those that its queue makes by its journal and the
-- plan; objects are numbered as the record has them: subscriptions, timers and then inboxes
abbrev pub KeepsCalls : ScriptData → RunData → ℕ → Type 0
KeepsCalls script run k = slice_get run.calls k ≡ slice_get (map (object_calls (setting_of script) run.queues) (setting_of script).objects) k

-- the images are those that the strategy leaves
abbrev pub KeepsImages : ScriptData → RunData → Type 0
KeepsImages script run = run.images ≡ flat_map (last_image (setting_of script) run.queues) (setting_of script).objects

-- GROUPS AND WATCHES, by what the queues' journals say

-- what the group of this number heard is what it hears by its queue's journal
abbrev pub KeepsGroup : ScriptData → RunData → ℕ → Type 0
KeepsGroup script run k = slice_get run.groups k ≡ slice_get (map (group_told (setting_of script) run.queues) (setting_of script).groups) k

-- what the watch of this number noted is what it notes by its queue's journal
abbrev pub KeepsWatch : ScriptData → RunData → ℕ → Type 0
KeepsWatch script run k = slice_get run.watches k ≡ slice_get (map (watch_told (setting_of script) run.queues) (setting_of script).watches) k
