-- What the bridge's seat keeps as it takes and puts.
use Rattle.std.specs.List.{flat_map}
use Rattle.std.proofs.Common.{◌≡◌, ◌↔◌, ℕ, Bool, true, false, List, [], ◌∷◌, ◌++◌, Result, Ok, refl, sym, ◌∙◌, ap, subst}
use Rattle.std.proofs.lemmas.List.{map-append}
use Rattle.std.proofs.lemmas.List.Concat.{flat_map-append}
use Rattle.mama_journal.specs.Journal.{all_puts}
use Rattle.mama_journal.specs.EntryLaws.{all_puts-push}
use Rattle.mama_event.specs.declared.shape.Shape.{Shape}
use Rattle.mama_event.specs.declared.to_bridge.BridgeNote.{BridgeNote}
use Rattle.mama_event.specs.declared.to_timers.TimersNote.{TimersNote}
use Rattle.mama_event.specs.Lawful.{IsLawful}
use Rattle.mama_event.specs.LawfulLaws.{IsLawful-start, IsLawful-prefix}
use Rattle.mama_event.specs.ToBridge.{is_last, fits}
use Rattle.mama_event.specs.ToPublisher as publisher
use Rattle.mama_event.specs.ToQueue as queue
use Rattle.mama_event.specs.ToTimers as timers
use Rattle.mama_event.specs.Ports.{publishers_of, queues_of, bridge_ports, timers_port_of_bridge, queue_port_of_bridge}
use Rattle.mama_rules_services.specs.Bridge.{BridgePut, to_publisher, to_queue, to_timers, put_by, heard, bridge_reaction, bridge_puts, bridge_puts_at}
use Rattle.mama_rules_services.specs.Ports.{bridge_putter}
use Rattle.mama_laws_bridge.specs.Byes.{all_left}
use Rattle.mama_laws_lawful.specs.Streams as streams
use Rattle.mama_laws_lawful.specs.Laws.{StreamsAreLawful, LawfulClientsGetLawfulStreams}
use Rattle.mama_rules_rounds.specs.Setting.{publisher_part, queue_part, timer_part}
use Rattle.mama_rules_legal.specs.Edges.{put_to_publisher}
use Rattle.mama_bridge.specs.Routing.{Routing, routed, is_last_bye}
use Rattle.mama_ends.specs.Inlet.{InletValue, AreLawful}
use Rattle.mama_event.specs.declared.shape.Took.{Took}
use Rattle.mama_event.specs.declared.shape.Took.TheVariants.{Ended}
use Rattle.mama_lane.specs.Values.{PortValue, NoteValue, after_learn}
use Rattle.mama_posts_services.specs.Service.{ServiceValue, IsNewTaker, holding}
use Rattle.mama_posts_services.specs.Bridge.{BridgePortsValue, BridgePostValue, IsBridgeOf, ArePortsOf, StayPlaced, MayCome, is_over}
use Rattle.mama_posts_services.specs.Laying.{laid, MayLay}
use Rattle.mama_posts_services.proofs.PortsLemmas.{put_places, one_put, all_put, one_left, all_left_more, one_may, all_may}
use Rattle.mama_posts_services.proofs.ServiceLemmas.{starts, new_lawful, journal_lawful, fetched, taken_more, stays, learnt, turns_over, ends_says}

heard_more : (shape : Shape) (journal : List (ℕ × BridgeNote)) (port : ℕ) (note : BridgeNote) → heard shape (journal ++ (port, note) ∷ []) ≡ heard shape journal ++ put_by (bridge_putter shape port) note ∷ []
heard_more shape journal port note = map-append (λ (e : ℕ × BridgeNote). put_by (bridge_putter shape e.0) e.1) journal ((port, note) ∷ [])

puts_more : (shape : Shape) (journal : List (ℕ × BridgeNote)) (port : ℕ) (note : BridgeNote) → bridge_puts shape (journal ++ (port, note) ∷ []) ≡ bridge_puts shape journal ++ bridge_puts_at shape journal (port, note)
puts_more shape journal port note =
    ap (all_puts (bridge_reaction shape)) (heard_more shape journal port note) ∙ all_puts-push (bridge_reaction shape) (heard shape journal) (put_by (bridge_putter shape port) note)

part_more : {A : Type 0} (part : BridgePut → List A) (shape : Shape) (journal : List (ℕ × BridgeNote)) (port : ℕ) (note : BridgeNote)
    → flat_map part (bridge_puts shape (journal ++ (port, note) ∷ [])) ≡ flat_map part (bridge_puts shape journal) ++ flat_map part (bridge_puts_at shape journal (port, note))
part_more part shape journal port note = ap (flat_map part) (puts_more shape journal port note) ∙ flat_map-append part (bridge_puts shape journal) (bridge_puts_at shape journal (port, note))

-- whether all is over after one entry more
pub over_after : (shape : Shape) (journal : List (ℕ × BridgeNote)) (port : ℕ) (note : BridgeNote) (ends : Bool) → is_over shape journal ≡ false
    → ((ends ≡ true) ↔ (is_last_bye (record { shape = shape; journal = journal }) port note ≡ true)) → ends ≡ is_over shape (journal ++ (port, note) ∷ [])
over_after shape journal port note ends going says =
    turns_over (all_left shape) (heard shape journal) (put_by (bridge_putter shape port) note) ends going says ∙ ap (all_left shape) (sym (heard_more shape journal port note))

-- ---- what may be put

same_parts : {A : Type 0} (f g : BridgePut → List A) → ((p : BridgePut) → f p ≡ g p) → (ps : List BridgePut) → flat_map f ps ≡ flat_map g ps
same_parts f g same [] = refl
same_parts f g same (p ∷ ps) = cc (same p, same_parts f g same ps)

same_publisher : (k : ℕ) (p : BridgePut) → streams.publisher_part k p ≡ publisher_part k p
same_publisher k (to_publisher r note) = refl
same_publisher k (to_queue q note) = refl
same_publisher k (to_timers note) = refl

same_queue : (k : ℕ) (p : BridgePut) → streams.queue_part k p ≡ queue_part k p
same_queue k (to_publisher r note) = refl
same_queue k (to_queue q note) = refl
same_queue k (to_timers note) = refl

same_timers : (p : BridgePut) → streams.timers_part p ≡ timer_part p
same_timers (to_publisher r note) = refl
same_timers (to_queue q note) = refl
same_timers (to_timers note) = refl

module _ (shape : Shape) (journal : List (ℕ × BridgeNote)) (may : StreamsAreLawful shape journal) where
  may_publisher : (k : ℕ) → IsLawful publisher.is_last publisher.fits (put_to_publisher shape journal k)
  may_publisher k = subst (IsLawful publisher.is_last publisher.fits) (same_parts (streams.publisher_part k) (publisher_part k) (same_publisher k) (bridge_puts shape journal)) (may.to_publishers k)

  may_queue : (k : ℕ) → IsLawful queue.is_last (queue.fits queue_port_of_bridge) (flat_map (queue_part k) (bridge_puts shape journal))
  may_queue k = subst (IsLawful queue.is_last (queue.fits queue_port_of_bridge)) (same_parts (streams.queue_part k) (queue_part k) (same_queue k) (bridge_puts shape journal)) (may.to_queues k)

  may_timers : IsLawful timers.is_last (timers.fits shape.bounds) (flat_map timer_part (bridge_puts shape journal))
  may_timers = subst (IsLawful timers.is_last (timers.fits shape.bounds)) (same_parts streams.timers_part timer_part same_timers (bridge_puts shape journal)) may.to_timers

  -- the first of what is left may be put
  pub may_lay : (first : BridgePut) (rest : List BridgePut) (ports : BridgePortsValue) → ArePortsOf shape journal (first ∷ rest) ports → MayLay first ports
  may_lay (to_publisher p note) rest ports are =
      all_may shape.bounds 0 (λ bounds port. IsLawful publisher.is_last publisher.fits) (λ bounds port. IsLawful-prefix publisher.is_last publisher.fits) (publishers_of shape)
      (λ k. flat_map (publisher_part k) (to_publisher p note ∷ rest)) (λ k. flat_map (publisher_part k) rest) (put_to_publisher shape journal) p note ports.publishers (λ k. refl) are.publishers may_publisher
  may_lay (to_queue q note) rest ports are =
      all_may shape.bounds queue_port_of_bridge (λ bounds port. IsLawful queue.is_last (queue.fits port)) (λ bounds port. IsLawful-prefix queue.is_last (queue.fits port)) (queues_of shape)
      (λ k. flat_map (queue_part k) (to_queue q note ∷ rest)) (λ k. flat_map (queue_part k) rest) (λ k. flat_map (queue_part k) (bridge_puts shape journal)) q note ports.queues (λ k. refl) are.queues may_queue
  may_lay (to_timers note) rest ports are =
      one_may shape.bounds (timers_port_of_bridge shape) (λ bounds port. IsLawful timers.is_last (timers.fits bounds)) (λ bounds port. IsLawful-prefix timers.is_last (timers.fits bounds))
      (flat_map timer_part (to_timers note ∷ rest)) (flat_map timer_part rest) (flat_map timer_part (bridge_puts shape journal)) note ports.timers refl are.timers may_timers

-- what the bridge of a seat puts may be put
pub seat_may : LawfulClientsGetLawfulStreams → (shape : Shape) (post : BridgePostValue) → IsBridgeOf shape post → StreamsAreLawful shape post.service.journal
seat_may law shape post seat = law shape post.service.journal (record {
  each = λ client within. journal_lawful shape (bridge_ports shape) MayCome (is_over shape) (λ bounds port. IsLawful-prefix is_last (fits bounds)) post.service seat.takes client;
})

-- ---- one put more

pub laid_ports : (shape : Shape) (journal : List (ℕ × BridgeNote)) (first : BridgePut) (rest : List BridgePut) (ports : BridgePortsValue)
    → ArePortsOf shape journal (first ∷ rest) ports → ArePortsOf shape journal rest (laid first ports)
laid_ports shape journal (to_publisher p note) rest ports are = record {
  publishers = all_put shape.bounds 0 (publishers_of shape) (λ k. flat_map (publisher_part k) (to_publisher p note ∷ rest)) (λ k. flat_map (publisher_part k) rest) (put_to_publisher shape journal) p note ports.publishers
      (λ k. refl) are.publishers;
  queues = are.queues;
  timers = are.timers;
}
laid_ports shape journal (to_queue q note) rest ports are = record {
  publishers = are.publishers;
  queues = all_put shape.bounds queue_port_of_bridge (queues_of shape) (λ k. flat_map (queue_part k) (to_queue q note ∷ rest)) (λ k. flat_map (queue_part k) rest) (λ k. flat_map (queue_part k) (bridge_puts shape journal)) q note ports.queues
      (λ k. refl) are.queues;
  timers = are.timers;
}
laid_ports shape journal (to_timers note) rest ports are = record {
  publishers = are.publishers;
  queues = are.queues;
  timers = one_put shape.bounds (timers_port_of_bridge shape) (flat_map timer_part (to_timers note ∷ rest)) (flat_map timer_part rest) (note ∷ []) (flat_map timer_part (bridge_puts shape journal)) ports.timers (laid (to_timers note) ports).timers
      refl are.timers refl;
}

pub stay_placed : (first : BridgePut) (ports : BridgePortsValue) → StayPlaced ports (laid first ports)
stay_placed (to_publisher p note) ports = record { publishers = put_places p note ports.publishers; queues = refl; timers = refl }
stay_placed (to_queue q note) ports = record { publishers = refl; queues = put_places q note ports.queues; timers = refl }
stay_placed (to_timers note) ports = record { publishers = refl; queues = refl; timers = refl }

pub placed_after : (a b c : BridgePortsValue) → StayPlaced a b → StayPlaced b c → StayPlaced a c
placed_after a b c first second = record {
  publishers = second.publishers ∙ first.publishers;
  queues = second.queues ∙ first.queues;
  timers = second.timers ∙ ap (λ (p : PortValue TimersNote). record p { put = c.timers.put }) first.timers;
}

-- ---- the seat

module _ (shape : Shape) where
  -- the first of what was left was put
  pub laid_seat : (post new : BridgePostValue) (first : BridgePut) → IsBridgeOf shape post → post.service.left ≡ first ∷ new.service.left → new.service ≡ record post.service { left = new.service.left } → new.ports ≡ laid first post.ports
      → IsBridgeOf shape new
  laid_seat post new first seat begins same ports = record {
    takes = stays shape (bridge_ports shape) MayCome (is_over shape) post.service new.service same seat.takes;
    puts = subst (λ (v : BridgePortsValue). ArePortsOf shape new.service.journal new.service.left v) (sym ports)
        (subst (λ (j : List (ℕ × BridgeNote)). ArePortsOf shape j new.service.left (laid first post.ports)) (sym (ap (λ (s : ServiceValue BridgeNote BridgePut). s.journal) same))
        (laid_ports shape post.service.journal first new.service.left post.ports (subst (λ (ps : List BridgePut). ArePortsOf shape post.service.journal ps post.ports) begins seat.puts)));
  }

  -- an event was taken
  pub taken_seat : (post new : BridgePostValue) (port : ℕ) (note : BridgeNote) → IsBridgeOf shape (record post { service = holding post.service port note }) → post.service.inlet.kept ≡ [] → post.service.left ≡ []
      → new.service.shape ≡ post.service.shape → new.service.journal ≡ post.service.journal ++ (port, note) ∷ [] → new.service.inlet ≡ post.service.inlet → new.service.left ≡ bridge_puts_at shape post.service.journal (port, note) → new.ports ≡ post.ports
      → IsBridgeOf shape new
  taken_seat post new port note seat kept clear same more inlet lays ports =
      let journal = post.service.journal in
      record {
        takes = taken_more shape (bridge_ports shape) MayCome (is_over shape) post.service new.service port note seat.takes same more inlet kept;
        puts = subst (λ (v : BridgePortsValue). ArePortsOf shape new.service.journal new.service.left v) (sym ports)
            (subst (λ (ps : List BridgePut). ArePortsOf shape new.service.journal ps post.ports) (sym lays)
            (subst (λ (j : List (ℕ × BridgeNote)). ArePortsOf shape j (bridge_puts_at shape journal (port, note)) post.ports) (sym more)
            (more_left (subst (λ (ps : List BridgePut). ArePortsOf shape journal ps post.ports) clear seat.puts))));
      }
    where
      more_left : ArePortsOf shape post.service.journal [] post.ports → ArePortsOf shape (post.service.journal ++ (port, note) ∷ []) (bridge_puts_at shape post.service.journal (port, note)) post.ports
      more_left are =
          let journal = post.service.journal in
          let puts = bridge_puts_at shape post.service.journal (port, note) in
          record {
            publishers = all_left_more shape.bounds 0 (publishers_of shape) (λ k. []) (λ k. flat_map (publisher_part k) puts) (put_to_publisher shape journal) (put_to_publisher shape (journal ++ (port, note) ∷ [])) post.ports.publishers
                (λ k. refl) (λ k. part_more (publisher_part k) shape journal port note) are.publishers;
            queues = all_left_more shape.bounds queue_port_of_bridge (queues_of shape) (λ k. []) (λ k. flat_map (queue_part k) puts) (λ k. flat_map (queue_part k) (bridge_puts shape journal))
                (λ k. flat_map (queue_part k) (bridge_puts shape (journal ++ (port, note) ∷ []))) post.ports.queues (λ k. refl) (λ k. part_more (queue_part k) shape journal port note) are.queues;
            timers = one_left shape.bounds (timers_port_of_bridge shape) [] (flat_map timer_part puts) (flat_map timer_part (bridge_puts shape journal)) (flat_map timer_part (bridge_puts shape (journal ++ (port, note) ∷ []))) post.ports.timers
                refl (part_more timer_part shape journal port note) are.timers;
          }

  -- a note was learnt
  pub learnt_seat : (post new : BridgePostValue) (note : NoteValue BridgeNote) → IsBridgeOf shape post
      → new ≡ record post { service = record post.service { inlet = record post.service.inlet { taker = after_learn post.service.inlet.taker note } } } → IsBridgeOf shape new
  learnt_seat post new note seat same = subst (IsBridgeOf shape) (sym same) (record {
    takes = learnt shape (bridge_ports shape) MayCome (is_over shape) post.service (record post.service { inlet = record post.service.inlet { taker = after_learn post.service.inlet.taker note } }) note refl seat.takes;
    puts = seat.puts;
  })

-- the seat of a shape is that of its own
pub own_seat : (shape : Shape) (post : BridgePostValue) → IsBridgeOf shape post → IsBridgeOf post.service.shape post
own_seat shape post seat = subst (λ (s : Shape). IsBridgeOf s post) (sym seat.takes.shape_is) seat

pub seat_after : (shape : Shape) (between new : BridgePostValue) → IsBridgeOf shape between → IsBridgeOf between.service.shape new → IsBridgeOf shape new
seat_after shape between new before seat = subst (λ (s : Shape). IsBridgeOf s new) before.takes.shape_is seat

-- ---- the seat as it is seen, and its value

-- the first of what is left may be put
pub first_may : LawfulClientsGetLawfulStreams → (shape : Shape) (view old : BridgePostValue) (first : BridgePut) (rest : List BridgePut) → view ≡ old → IsBridgeOf shape old → view.service.left ≡ first ∷ rest → MayLay first view.ports
first_may law shape view old first rest same seat begins =
    let here : IsBridgeOf shape view = subst (IsBridgeOf shape) (sym same) seat in
    may_lay shape view.service.journal (seat_may law shape view here) first rest view.ports (subst (λ (ps : List BridgePut). ArePortsOf shape view.service.journal ps view.ports) begins here.puts)

-- the first of what is left was put
pub first_laid : (shape : Shape) (view old : BridgePostValue) (first : BridgePut) (rest : List BridgePut) (ports : BridgePortsValue) → view ≡ old → IsBridgeOf shape old → view.service.left ≡ first ∷ rest → ports ≡ laid first view.ports
    → IsBridgeOf shape (record { service = record view.service { left = rest }; ports = ports })
first_laid shape view old first rest ports same seat begins lays =
    laid_seat shape view (record { service = record view.service { left = rest }; ports = ports }) first (subst (IsBridgeOf shape) (sym same) seat) begins refl lays

pub first_placed : (view old : BridgePostValue) (first : BridgePut) (ports : BridgePortsValue) → view ≡ old → ports ≡ laid first view.ports → StayPlaced old.ports ports
first_placed view old first ports same lays =
    subst (λ (v : BridgePostValue). StayPlaced v.ports ports) same (subst (StayPlaced view.ports) (sym lays) (stay_placed first view.ports))

-- an event was taken
pub event_taken : (shape : Shape) (view old new : BridgePostValue) (port : ℕ) (note : BridgeNote) → view ≡ old → IsBridgeOf shape (record old { service = holding old.service port note }) → old.service.inlet.kept ≡ [] → old.service.left ≡ []
    → new.service.shape ≡ view.service.shape → new.service.journal ≡ view.service.journal ++ (port, note) ∷ [] → new.service.inlet ≡ view.service.inlet → new.service.left ≡ bridge_puts_at view.service.shape view.service.journal (port, note) → new.ports ≡ view.ports
    → IsBridgeOf shape new
event_taken shape view old new port note same seat kept clear shapes more inlet lays ports =
    let here : IsBridgeOf shape (record view { service = holding view.service port note }) = subst (λ (v : BridgePostValue). IsBridgeOf shape (record v { service = holding v.service port note })) (sym same) seat in
    taken_seat shape view new port note here (ap (λ (v : BridgePostValue). v.service.inlet.kept) same ∙ kept) (ap (λ (v : BridgePostValue). v.service.left) same ∙ clear) shapes more inlet
    (lays ∙ ap (λ (s : Shape). bridge_puts_at s view.service.journal (port, note)) here.takes.shape_is) ports

-- whether all is over after an event was taken
pub over_now : {E : Type 0} (r new : Routing) (port : ℕ) (note : BridgeNote) (answer : Result Took E) (t : Took) (ends : Bool) → is_over r.shape r.journal ≡ false → new ≡ routed r port note → answer ≡ Ok t
    → ((ends ≡ true) ↔ (t ≡ Ended)) → ((answer ≡ Ok Ended) ↔ (is_last_bye r port note ≡ true)) → ends ≡ is_over new.shape new.journal
over_now r new port note answer t ends going more is says tells =
    over_after r.shape r.journal port note ends going (ends_says answer t ends (is_last_bye r port note) is says tells) ∙ sym (ap (λ (s : Routing). is_over s.shape s.journal) more)

-- a seat that is to begin
pub new_seat : (shape : Shape) (r : Routing) (inlet : InletValue BridgeNote) (left : List BridgePut) (ports : BridgePortsValue) → r ≡ record { shape = shape; journal = [] } → inlet.kept ≡ [] → left ≡ []
    → IsNewTaker shape.bounds (bridge_ports shape) inlet.taker → ArePortsOf shape [] [] ports → IsBridgeOf shape (record { service = record { shape = r.shape; journal = r.journal; inlet = inlet; left = left }; ports = ports })
new_seat shape r inlet left ports is clear none new are = record {
  takes = starts shape (bridge_ports shape) MayCome (is_over shape) (record { shape = r.shape; journal = r.journal; inlet = inlet; left = left }) (ap (λ (s : Routing). s.shape) is) (ap (λ (s : Routing). s.journal) is) clear new
      (new_lawful MayCome (λ bounds port. IsLawful-start is_last (fits bounds)) inlet.taker new.taken);
  puts = subst (λ (ps : List BridgePut). ArePortsOf shape r.journal ps ports) (sym none) (subst (λ (j : List (ℕ × BridgeNote)). ArePortsOf shape j [] ports) (sym (ap (λ (s : Routing). s.journal) is)) are);
}

-- an event was fetched
pub event_fetched : (view old : BridgePostValue) (inlet : InletValue BridgeNote) (port : ℕ) (note : BridgeNote) → view ≡ old → IsBridgeOf old.service.shape old → is_over view.service.shape view.service.journal ≡ false
    → ((done : List (ℕ × BridgeNote)) → view.service.inlet.taker.taken ≡ done ++ view.service.inlet.kept → inlet.taker.taken ≡ done ++ (port, note) ∷ []) → inlet.taker ≡ record view.service.inlet.taker { taken = inlet.taker.taken }
    → AreLawful MayCome inlet.taker → IsBridgeOf view.service.shape (record view { service = holding (record view.service { inlet = inlet }) port note })
event_fetched view old inlet port note same seat going next others may =
    let shape = view.service.shape in
    let here : IsBridgeOf view.service.shape view = subst (λ (v : BridgePostValue). IsBridgeOf v.service.shape v) (sym same) seat in
    record {
      takes = fetched shape (bridge_ports shape) MayCome (is_over shape) view.service inlet port note here.takes going (next view.service.journal here.takes.taken) others may;
      puts = here.puts;
    }

-- where no event came all is as it was
pub still : (view old : BridgePostValue) (inlet : InletValue BridgeNote) → view ≡ old → inlet ≡ view.service.inlet → record view { service = record view.service { inlet = inlet } } ≡ old
still view old inlet same is = ap (λ (i : InletValue BridgeNote). record view { service = record view.service { inlet = i } }) is ∙ same

-- a note was learnt
pub note_learnt : (shape : Shape) (view old : BridgePostValue) (inlet : InletValue BridgeNote) (note : NoteValue BridgeNote) → view ≡ old → inlet ≡ record view.service.inlet { taker = after_learn view.service.inlet.taker note }
    → IsBridgeOf shape old → IsBridgeOf shape (record view { service = record view.service { inlet = inlet } })
note_learnt shape view old inlet note same is seat =
    learnt_seat shape view (record view { service = record view.service { inlet = inlet } }) note (subst (IsBridgeOf shape) (sym same) seat)
    (ap (λ (i : InletValue BridgeNote). record view { service = record view.service { inlet = i } }) is)
