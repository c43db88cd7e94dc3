-- believed: a run in one thread: the journals of all actors, and what was put on each lane and not taken.
use Rattle.std.specs.Prelude.{◌≡◌, ℕ, zero, suc, ◌+◌, Bool, true, false, List, [], ◌∷◌, ◌++◌, slice_index_or, slice_set}
use Rattle.std.specs.List.{flat_map, list_all}
use Rattle.mama_journal.specs.Lane.{by_port, from_port}
use Rattle.mama_event.specs.declared.to_bridge.BridgeNote.{BridgeNote}
use Rattle.mama_event.specs.declared.to_publisher.PublisherNote.{PublisherNote}
use Rattle.mama_event.specs.declared.to_timers.TimersNote.{TimersNote}
use Rattle.mama_event.specs.declared.to_queue.QueueNote.{QueueNote}
use Rattle.mama_event.specs.Ports.{publishers_of, queues_of, bridge_port_of_publisher, bridge_port_of_queue, timers_port_of_queue, timers_port_of_bridge, queue_port_of_bridge, queue_port_of_timers}
use Rattle.mama_rules_services.specs.Bridge.{bridge_puts_at}
use Rattle.mama_rules_services.specs.Timers.{timers_puts_at}
use Rattle.mama_rules_queue.specs.Queue.{QueuePut}
use Rattle.mama_event.specs.declared.publisher_entry.PublisherEntry.{PublisherEntry}
use Rattle.mama_event.specs.declared.publisher_entry.PublisherEntry.TheVariants.{Took}
use Rattle.mama_event.specs.Publisher.{publisher_puts_at}
use Rattle.mama_rules_rounds.specs.Client.{bridge_part, timers_part}
use Rattle.mama_rules_rounds.specs.Setting.{Setting, no_section, puts_on, publisher_part, queue_part, timer_part}

-- the journals, and what was put on each lane and not taken
pub record World : Type 0 where
  pub publishers : List (List PublisherEntry)
  pub bridge : List (ℕ × BridgeNote)
  pub timers : List (ℕ × TimersNote)
  pub queues : List (List (ℕ × QueueNote))
  pub to_bridge : List (ℕ × BridgeNote)
  pub to_timers : List (ℕ × TimersNote)
  pub to_publishers : List (List PublisherNote)
  pub to_queues : List (List (ℕ × QueueNote))

-- each lane of a list with what its number says put at its end
abbrev pub extended : {V : Type 0} → (ℕ → List V) → ℕ → List (List V) → List (List V)
extended more n [] = []
extended more n (lane ∷ lanes) = (lane ++ more n) ∷ extended more (suc n) lanes

-- what a client or a queue puts goes on the bridge's and the timers' lanes, by its port of each
abbrev pub with_puts : ℕ → ℕ → List QueuePut → World → World
with_puts bridge_port timers_port outs w = record w {
  to_bridge = w.to_bridge ++ from_port bridge_port (flat_map bridge_part outs);
  to_timers = w.to_timers ++ from_port timers_port (flat_map timers_part outs);
}

-- THE ACTORS' DEEDS: the journal grows by an entry, and what it puts goes on the lanes

abbrev pub bridge_did : Setting → World → ℕ × BridgeNote → World
bridge_did setting w e =
    let outs = bridge_puts_at setting.shape w.bridge e in
    record w {
      bridge = w.bridge ++ e ∷ [];
      to_timers = w.to_timers ++ from_port (timers_port_of_bridge setting.shape) (flat_map timer_part outs);
      to_publishers = extended (λ p. flat_map (publisher_part p) outs) 0 w.to_publishers;
      to_queues = extended (λ q. from_port queue_port_of_bridge (flat_map (queue_part q) outs)) 0 w.to_queues;
    }

abbrev pub timers_did : Setting → World → ℕ × TimersNote → World
timers_did setting w e =
    let outs = timers_puts_at setting.shape w.timers e in
    record w {
      timers = w.timers ++ e ∷ [];
      to_queues = extended (λ q. from_port queue_port_of_timers (by_port q outs)) 0 w.to_queues;
    }

abbrev pub publisher_did : Setting → ℕ → World → PublisherEntry → World
publisher_did setting p w e =
    let journal = slice_index_or w.publishers p [] in
    record w {
      publishers = slice_set w.publishers p (journal ++ e ∷ []);
      to_bridge = w.to_bridge ++ from_port (bridge_port_of_publisher setting.shape p)
          (publisher_puts_at (slice_index_or setting.publishers p no_section) journal e);
    }

abbrev pub queue_did : Setting → ℕ → World → ℕ × QueueNote → World
queue_did setting q w e =
    let journal = slice_index_or w.queues q [] in
    with_puts (bridge_port_of_queue setting.shape q) (timers_port_of_queue setting.shape q)
    (puts_on setting q journal e)
    (record w { queues = slice_set w.queues q (journal ++ e ∷ []) })

-- TURNS: an actor takes the first event of its lane, if there is one

abbrev pub bridge_took : Setting → World → List (ℕ × BridgeNote) → World
bridge_took setting w [] = w
bridge_took setting w (e ∷ rest) = bridge_did setting (record w { to_bridge = rest }) e

abbrev pub bridge_turn : Setting → World → World
bridge_turn setting w = bridge_took setting w w.to_bridge

abbrev pub timers_took : Setting → World → List (ℕ × TimersNote) → World
timers_took setting w [] = w
timers_took setting w (e ∷ rest) = timers_did setting (record w { to_timers = rest }) e

abbrev pub timers_turn : Setting → World → World
timers_turn setting w = timers_took setting w w.to_timers

abbrev pub publisher_took : Setting → ℕ → World → List PublisherNote → World
publisher_took setting p w [] = w
publisher_took setting p w (note ∷ rest) =
    publisher_did setting p (record w { to_publishers = slice_set w.to_publishers p rest }) (Took note)

abbrev pub publisher_turn : Setting → ℕ → World → World
publisher_turn setting p w = publisher_took setting p w (slice_index_or w.to_publishers p [])

abbrev pub queue_took : Setting → ℕ → World → List (ℕ × QueueNote) → World
queue_took setting q w [] = w
queue_took setting q w (e ∷ rest) = queue_did setting q (record w { to_queues = slice_set w.to_queues q rest }) e

abbrev pub queue_turn : Setting → ℕ → World → World
queue_turn setting q w = queue_took setting q w (slice_index_or w.to_queues q [])

-- the turns of the actors numbered below n, ascending
abbrev pub in_turn : (ℕ → World → World) → ℕ → World → World
in_turn turn zero w = w
in_turn turn (suc n) w = turn n (in_turn turn n w)

-- one pass: the bridge, the timers, the publishers and the queues each take one event, if there is one
abbrev pub pass : Setting → World → World
pass setting w =
    in_turn (queue_turn setting) (queues_of setting.shape)
    (in_turn (publisher_turn setting) (publishers_of setting.shape)
    (timers_turn setting (bridge_turn setting w)))

abbrev pub passes : Setting → ℕ → World → World
passes setting zero w = w
passes setting (suc n) w = pass setting (passes setting n w)

abbrev pub is_empty : {V : Type 0} → List V → Bool
is_empty [] = true
is_empty (v ∷ vs) = false

-- nothing waits on any lane
pub record IsQuiet (w : World) : Type 0 where
  pub bridge : w.to_bridge ≡ []
  pub timers : w.to_timers ≡ []
  pub publishers : list_all is_empty w.to_publishers ≡ true
  pub queues : list_all is_empty w.to_queues ≡ true

-- after some number of passes nothing waits
pub record IsDrained (setting : Setting) (w drained : World) : Type 0 where
  pub count : ℕ
  pub after : drained ≡ passes setting count w
  pub quiet : IsQuiet drained
