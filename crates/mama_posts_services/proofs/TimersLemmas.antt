-- What the timer service's seat keeps as it takes and puts.
use Rattle.std.proofs.Common.{◌≡◌, ◌↔◌, ℕ, ◌==◌, Bool, true, false, cond, List, [], ◌∷◌, ◌++◌, map, refl, sym, ◌∙◌, ap, subst}
use Rattle.std.proofs.lemmas.List.{map-append}
use Rattle.mama_journal.specs.Journal.{all_puts}
use Rattle.mama_journal.specs.EntryLaws.{all_puts-push}
use Rattle.mama_journal.specs.Lane.{by_port}
use Rattle.mama_event.specs.declared.shape.Shape.{Shape}
use Rattle.mama_event.specs.declared.to_queue.QueueNote.{QueueNote}
use Rattle.mama_event.specs.declared.to_timers.TimersNote.{TimersNote}
use Rattle.mama_event.specs.Lawful.{IsLawful}
use Rattle.mama_event.specs.LawfulLaws.{IsLawful-prefix}
use Rattle.mama_event.specs.ToTimers.{is_last, fits}
use Rattle.mama_event.specs.ToQueue as queue
use Rattle.mama_event.specs.Ports.{queues_of, queue_port_of_timers}
use Rattle.mama_rules_services.specs.Timers.{put_by, heard, timers_reaction, timers_puts, timers_puts_at}
use Rattle.mama_rules_services.specs.Ports.{timers_putter}
use Rattle.mama_laws_timers.specs.Streams.{ClientsAreLawful}
use Rattle.mama_laws_timers.specs.Laws.{LawfulClientsGetLawfulStreams}
use Rattle.mama_timer.specs.Service.{Service, taken, every_bye, is_last_bye}
use Rattle.mama_ends.specs.Inlet.{InletValue, AreLawful}
use Rattle.mama_event.specs.LawfulLaws.{IsLawful-start}
use Rattle.mama_lane.specs.Values.{PortValue, NoteValue, after_learn}
use Rattle.mama_lane.proofs.Lists.{by_port-append}
use Rattle.mama_posts_services.specs.Ports.{place_of, ArePutting}
use Rattle.mama_posts_services.specs.Service.{ServiceValue, IsNewTaker, holding}
use Rattle.mama_posts_services.specs.Timers.{TimersPostValue, IsTimersOf, MayCome, timers_ports, is_over}
use Rattle.mama_posts_services.specs.Laying.{with_put, MayPut}
use Rattle.mama_posts_services.proofs.PortsLemmas.{put_places, all_put, all_left_more, all_may}
use Rattle.mama_posts_services.proofs.ServiceLemmas.{starts, new_lawful, journal_lawful, fetched, taken_more, stays, learnt, turns_over}

heard_more : (shape : Shape) (journal : List (ℕ × TimersNote)) (port : ℕ) (note : TimersNote) → heard shape (journal ++ (port, note) ∷ []) ≡ heard shape journal ++ put_by (timers_putter shape port) note ∷ []
heard_more shape journal port note = map-append (λ (e : ℕ × TimersNote). put_by (timers_putter shape e.0) e.1) journal ((port, note) ∷ [])

puts_more : (shape : Shape) (journal : List (ℕ × TimersNote)) (port : ℕ) (note : TimersNote) → timers_puts shape (journal ++ (port, note) ∷ []) ≡ timers_puts shape journal ++ timers_puts_at shape journal (port, note)
puts_more shape journal port note =
    ap (all_puts (timers_reaction shape)) (heard_more shape journal port note) ∙ all_puts-push (timers_reaction shape) (heard shape journal) (put_by (timers_putter shape port) note)

part_more : (shape : Shape) (journal : List (ℕ × TimersNote)) (port : ℕ) (note : TimersNote) (q : ℕ)
    → by_port q (timers_puts shape (journal ++ (port, note) ∷ [])) ≡ by_port q (timers_puts shape journal) ++ by_port q (timers_puts_at shape journal (port, note))
part_more shape journal port note q = ap (by_port q) (puts_more shape journal port note) ∙ by_port-append q (timers_puts shape journal) (timers_puts_at shape journal (port, note))

-- whether all is over after one entry more
pub over_after : (shape : Shape) (journal : List (ℕ × TimersNote)) (port : ℕ) (note : TimersNote) (ends : Bool) → is_over shape journal ≡ false
    → ((ends ≡ true) ↔ (is_last_bye (record { shape = shape; journal = journal }) (port, note) ≡ true)) → ends ≡ is_over shape (journal ++ (port, note) ∷ [])
over_after shape journal port note ends going says =
    turns_over (every_bye shape) (heard shape journal) (put_by (timers_putter shape port) note) ends going says ∙ ap (every_bye shape) (sym (heard_more shape journal port note))

-- what is left for a queue begins with the first put, if that is for it
first_part : (q : ℕ) (note : QueueNote) (rest : List (ℕ × QueueNote)) (k : ℕ) → by_port k ((q, note) ∷ rest) ≡ cond (q == k) (note ∷ []) [] ++ by_port k rest
first_part q note rest k = by_case (q == k)
  where
    by_case : (b : Bool) → cond b (note ∷ by_port k rest) (by_port k rest) ≡ cond b (note ∷ []) [] ++ by_port k rest
    by_case true = refl
    by_case false = refl

module _ (shape : Shape) where
  -- the first of what is left may be put
  pub seat_may : LawfulClientsGetLawfulStreams → (post : TimersPostValue) (q : ℕ) (note : QueueNote) (rest : List (ℕ × QueueNote)) → IsTimersOf shape post → post.service.left ≡ (q, note) ∷ rest
      → MayPut (λ bounds port. IsLawful queue.is_last (queue.fits port)) q note post.queues
  seat_may law post q note rest seat begins =
      let clients : ClientsAreLawful shape post.service.journal = record {
        each = λ client within. journal_lawful shape (timers_ports shape) MayCome (is_over shape) (λ bounds port. IsLawful-prefix is_last (fits bounds)) post.service seat.takes client;
      } in
      all_may shape.bounds queue_port_of_timers (λ bounds port. IsLawful queue.is_last (queue.fits port)) (λ bounds port. IsLawful-prefix queue.is_last (queue.fits port)) (queues_of shape)
      (λ k. by_port k post.service.left) (λ k. by_port k rest) (λ k. by_port k (timers_puts shape post.service.journal)) q note post.queues (λ k. ap (by_port k) begins ∙ first_part q note rest k) seat.puts
      (λ k. law shape post.service.journal k clients)

  -- the first of what was left was put
  pub laid_seat : (post new : TimersPostValue) (q : ℕ) (note : QueueNote) → IsTimersOf shape post → post.service.left ≡ (q, note) ∷ new.service.left → new.service ≡ record post.service { left = new.service.left }
      → new.queues ≡ with_put q note post.queues → IsTimersOf shape new
  laid_seat post new q note seat begins same queues = record {
    takes = stays shape (timers_ports shape) MayCome (is_over shape) post.service new.service same seat.takes;
    puts = subst (ArePutting shape.bounds queue_port_of_timers (queues_of shape) (λ k. by_port k new.service.left) (λ k. by_port k (timers_puts shape new.service.journal))) (sym queues)
        (subst (λ (j : List (ℕ × TimersNote)). ArePutting shape.bounds queue_port_of_timers (queues_of shape) (λ k. by_port k new.service.left) (λ k. by_port k (timers_puts shape j)) (with_put q note post.queues))
        (sym (ap (λ (s : ServiceValue TimersNote (ℕ × QueueNote)). s.journal) same))
        (all_put shape.bounds queue_port_of_timers (queues_of shape) (λ k. by_port k post.service.left) (λ k. by_port k new.service.left) (λ k. by_port k (timers_puts shape post.service.journal)) q note post.queues
        (λ k. ap (by_port k) begins ∙ first_part q note new.service.left k) seat.puts));
  }

  -- an event was taken
  pub taken_seat : (post new : TimersPostValue) (port : ℕ) (note : TimersNote) → IsTimersOf shape (record post { service = holding post.service port note }) → post.service.inlet.kept ≡ [] → post.service.left ≡ []
      → new.service.shape ≡ post.service.shape → new.service.journal ≡ post.service.journal ++ (port, note) ∷ [] → new.service.inlet ≡ post.service.inlet → new.service.left ≡ timers_puts_at shape post.service.journal (port, note)
      → new.queues ≡ post.queues → IsTimersOf shape new
  taken_seat post new port note seat kept clear same more inlet lays queues =
      let journal = post.service.journal in
      let puts = timers_puts_at shape post.service.journal (port, note) in
      record {
        takes = taken_more shape (timers_ports shape) MayCome (is_over shape) post.service new.service port note seat.takes same more inlet kept;
        puts = subst (ArePutting shape.bounds queue_port_of_timers (queues_of shape) (λ k. by_port k new.service.left) (λ k. by_port k (timers_puts shape new.service.journal))) (sym queues)
            (subst (λ (ps : List (ℕ × QueueNote)). ArePutting shape.bounds queue_port_of_timers (queues_of shape) (λ k. by_port k ps) (λ k. by_port k (timers_puts shape new.service.journal)) post.queues) (sym lays)
            (subst (λ (j : List (ℕ × TimersNote)). ArePutting shape.bounds queue_port_of_timers (queues_of shape) (λ k. by_port k puts) (λ k. by_port k (timers_puts shape j)) post.queues) (sym more)
            (all_left_more shape.bounds queue_port_of_timers (queues_of shape) (λ k. by_port k post.service.left) (λ k. by_port k puts) (λ k. by_port k (timers_puts shape journal))
            (λ k. by_port k (timers_puts shape (journal ++ (port, note) ∷ []))) post.queues (λ k. ap (by_port k) clear) (λ k. part_more shape journal port note k) seat.puts)));
      }

  -- a note was learnt
  pub learnt_seat : (post new : TimersPostValue) (note : NoteValue TimersNote) → IsTimersOf shape post
      → new ≡ record post { service = record post.service { inlet = record post.service.inlet { taker = after_learn post.service.inlet.taker note } } } → IsTimersOf shape new
  learnt_seat post new note seat same = subst (IsTimersOf shape) (sym same) (record {
    takes = learnt shape (timers_ports shape) MayCome (is_over shape) post.service (record post.service { inlet = record post.service.inlet { taker = after_learn post.service.inlet.taker note } }) note refl seat.takes;
    puts = seat.puts;
  })

-- the seat of a shape is that of its own
pub own_seat : (shape : Shape) (post : TimersPostValue) → IsTimersOf shape post → IsTimersOf post.service.shape post
own_seat shape post seat = subst (λ (s : Shape). IsTimersOf s post) (sym seat.takes.shape_is) seat

pub seat_after : (shape : Shape) (between new : TimersPostValue) → IsTimersOf shape between → IsTimersOf between.service.shape new → IsTimersOf shape new
seat_after shape between new before seat = subst (λ (s : Shape). IsTimersOf s new) before.takes.shape_is seat

-- ---- the seat as it is seen, and its value

-- the first of what is left may be put
pub first_may : LawfulClientsGetLawfulStreams → (shape : Shape) (view old : TimersPostValue) (q : ℕ) (note : QueueNote) (rest : List (ℕ × QueueNote)) → view ≡ old → IsTimersOf shape old → view.service.left ≡ (q, note) ∷ rest
    → MayPut (λ bounds port. IsLawful queue.is_last (queue.fits port)) q note view.queues
first_may law shape view old q note rest same seat begins = seat_may shape law view q note rest (subst (IsTimersOf shape) (sym same) seat) begins

-- the first of what is left was put
pub first_laid : (shape : Shape) (view old : TimersPostValue) (q : ℕ) (note : QueueNote) (rest : List (ℕ × QueueNote)) (queues : List (PortValue QueueNote)) → view ≡ old → IsTimersOf shape old → view.service.left ≡ (q, note) ∷ rest
    → queues ≡ with_put q note view.queues → IsTimersOf shape (record { service = record view.service { left = rest }; queues = queues })
first_laid shape view old q note rest queues same seat begins lays =
    laid_seat shape view (record { service = record view.service { left = rest }; queues = queues }) q note (subst (IsTimersOf shape) (sym same) seat) begins refl lays

pub first_placed : (view old : TimersPostValue) (q : ℕ) (note : QueueNote) (queues : List (PortValue QueueNote)) → view ≡ old → queues ≡ with_put q note view.queues → map place_of queues ≡ map place_of old.queues
first_placed view old q note queues same lays = ap (map place_of) lays ∙ put_places q note view.queues ∙ ap (λ (v : TimersPostValue). map place_of v.queues) same

-- an event was taken
pub event_taken : (shape : Shape) (view old new : TimersPostValue) (port : ℕ) (note : TimersNote) → view ≡ old → IsTimersOf shape (record old { service = holding old.service port note }) → old.service.inlet.kept ≡ [] → old.service.left ≡ []
    → new.service.shape ≡ view.service.shape → new.service.journal ≡ view.service.journal ++ (port, note) ∷ [] → new.service.inlet ≡ view.service.inlet → new.service.left ≡ timers_puts_at view.service.shape view.service.journal (port, note)
    → new.queues ≡ view.queues → IsTimersOf shape new
event_taken shape view old new port note same seat kept clear shapes more inlet lays queues =
    let here : IsTimersOf shape (record view { service = holding view.service port note }) = subst (λ (v : TimersPostValue). IsTimersOf shape (record v { service = holding v.service port note })) (sym same) seat in
    taken_seat shape view new port note here (ap (λ (v : TimersPostValue). v.service.inlet.kept) same ∙ kept) (ap (λ (v : TimersPostValue). v.service.left) same ∙ clear) shapes more inlet
    (lays ∙ ap (λ (s : Shape). timers_puts_at s view.service.journal (port, note)) here.takes.shape_is) queues

-- a seat that is to begin
pub new_seat : (shape : Shape) (r : Service) (inlet : InletValue TimersNote) (left : List (ℕ × QueueNote)) (queues : List (PortValue QueueNote)) → r ≡ record { shape = shape; journal = [] } → inlet.kept ≡ [] → left ≡ []
    → IsNewTaker shape.bounds (timers_ports shape) inlet.taker → ArePutting shape.bounds queue_port_of_timers (queues_of shape) (λ q. []) (λ q. []) queues
    → IsTimersOf shape (record { service = record { shape = r.shape; journal = r.journal; inlet = inlet; left = left }; queues = queues })
new_seat shape r inlet left queues is clear none new are = record {
  takes = starts shape (timers_ports shape) MayCome (is_over shape) (record { shape = r.shape; journal = r.journal; inlet = inlet; left = left }) (ap (λ (s : Service). s.shape) is) (ap (λ (s : Service). s.journal) is) clear new
      (new_lawful MayCome (λ bounds port. IsLawful-start is_last (fits bounds)) inlet.taker new.taken);
  puts = subst (λ (ps : List (ℕ × QueueNote)). ArePutting shape.bounds queue_port_of_timers (queues_of shape) (λ q. by_port q ps) (λ q. by_port q (timers_puts shape r.journal)) queues) (sym none)
      (subst (λ (j : List (ℕ × TimersNote)). ArePutting shape.bounds queue_port_of_timers (queues_of shape) (λ q. []) (λ q. by_port q (timers_puts shape j)) queues) (sym (ap (λ (s : Service). s.journal) is)) are);
}

-- an event was fetched
pub event_fetched : (view old : TimersPostValue) (inlet : InletValue TimersNote) (port : ℕ) (note : TimersNote) → view ≡ old → IsTimersOf old.service.shape old → is_over view.service.shape view.service.journal ≡ false
    → ((done : List (ℕ × TimersNote)) → view.service.inlet.taker.taken ≡ done ++ view.service.inlet.kept → inlet.taker.taken ≡ done ++ (port, note) ∷ []) → inlet.taker ≡ record view.service.inlet.taker { taken = inlet.taker.taken }
    → AreLawful MayCome inlet.taker → IsTimersOf view.service.shape (record view { service = holding (record view.service { inlet = inlet }) port note })
event_fetched view old inlet port note same seat going next others may =
    let shape = view.service.shape in
    let here : IsTimersOf view.service.shape view = subst (λ (v : TimersPostValue). IsTimersOf v.service.shape v) (sym same) seat in
    record {
      takes = fetched shape (timers_ports shape) MayCome (is_over shape) view.service inlet port note here.takes going (next view.service.journal here.takes.taken) others may;
      puts = here.puts;
    }

-- where no event came all is as it was
pub still : (view old : TimersPostValue) (inlet : InletValue TimersNote) → view ≡ old → inlet ≡ view.service.inlet → record view { service = record view.service { inlet = inlet } } ≡ old
still view old inlet same is = ap (λ (i : InletValue TimersNote). record view { service = record view.service { inlet = i } }) is ∙ same

-- a note was learnt
pub note_learnt : (shape : Shape) (view old : TimersPostValue) (inlet : InletValue TimersNote) (note : NoteValue TimersNote) → view ≡ old → inlet ≡ record view.service.inlet { taker = after_learn view.service.inlet.taker note }
    → IsTimersOf shape old → IsTimersOf shape (record view { service = record view.service { inlet = inlet } })
note_learnt shape view old inlet note same is seat =
    learnt_seat shape view (record view { service = record view.service { inlet = inlet } }) note (subst (IsTimersOf shape) (sym same) seat)
    (ap (λ (i : InletValue TimersNote). record view { service = record view.service { inlet = i } }) is)
