-- What the watches of all queues noted, each list in the place of its number, is what they note by the journals.
use Rattle.std.specs.Prelude.{slice_index_or}
use Rattle.std.specs.Global.{Vec}
use Rattle.std.specs.List.{All, flat_map}
use Rattle.std.proofs.Common.{◌≡◌, ℕ, zero, suc, ◌≤◌, ◌==◌, Bool, true, false, cond, List, [], ◌∷◌, ◌++◌, length, map, filter, refl, sym, ◌∙◌, ap, subst, append_assoc, arith}
use Rattle.std.proofs.lemmas.Bool.{eqb-true}
use Rattle.std.proofs.lemmas.List.{length-map}
use Rattle.std.proofs.lemmas.List.Elements.{All-head}
use Rattle.mama_journal.specs.Journal.{numbers_below}
use Rattle.mama_event.specs.declared.ids.ObjectId.{ObjectId}
use Rattle.mama_event.specs.declared.order.Order.{Order}
use Rattle.mama_event.specs.declared.to_queue.QueueNote.{QueueNote}
use Rattle.mama_event.specs.declared.watch.WatchNote.{WatchNote}
use Rattle.mama_event.specs.declared.watch.WatchRow.{WatchRow}
use Rattle.mama_event.specs.Ports.{queues_of}
use Rattle.mama_script.specs.Script.{ScriptData}
use Rattle.mama_record.specs.RunData.{WatchNotes}
use Rattle.mama_record.specs.RunView.{watches_of}
use Rattle.mama_rules_queue.specs.Watch.{watch_notes}
use Rattle.mama_rules_rounds.specs.Client.{Planned}
use Rattle.mama_rules_rounds.specs.Setting.{Watched, is_on, orders_by}
use Rattle.mama_rules_rounds.specs.Sections.{setting_of}
use Rattle.mama_rules_rounds.specs.Told.{watch_told}
use Rattle.mama_plans.specs.Orders.{orders_in}
use Rattle.mama_plans.specs.Lists.{watch_row, watches_on}
use Rattle.mama_plans.specs.Numbered.{numbered, lists_put}
use Rattle.mama_plans.proofs.NumberedLemmas.{put_by_number, no_watch, watches_numbered, watches_count}
use Rattle.mama_timeout.specs.Table.{watch_by, part_of}
use Rattle.mama_posts_clients.specs.Queue.{QueuePostValue}
use Rattle.mama_crew.specs.Hall.{HallValue}
use Rattle.mama_crew.specs.Seat.{IsQueueIn}
use Rattle.mama_gather.specs.Left.{events_by, noted_by, none_noted}
use Rattle.mama_close.specs.Kinds.{Kinds, AreKindsOf, record_of}
use Rattle.mama_gather.proofs.Lists.{all_back, numbered_len, numbered_here}

-- what a watch notes by the journal of its queue
abbrev told_by : (ObjectId → ℕ → List Order) → List (List (ℕ × QueueNote)) → Watched → List WatchNote
told_by orders journals w = watch_notes orders w.row (slice_index_or journals w.queue [])

abbrev with_number : (ObjectId → ℕ → List Order) → List (List (ℕ × QueueNote)) → Watched → ℕ × List WatchNote
with_number orders journals w = (w.number, told_by orders journals w)

abbrev as_notes : ℕ × List WatchNote → WatchNotes
as_notes n = record { watch = n.0; notes = n.1 }

abbrev noted_there : (ObjectId → ℕ → List Order) → List (ℕ × QueueNote) → List Watched → List (ℕ × List WatchNote)
noted_there orders journal ws = map part_of (map (watch_by orders journal) (map watch_row ws))

one_more : (orders : ObjectId → ℕ → List Order) (journals : List (List (ℕ × QueueNote))) (q : ℕ) (journal : List (ℕ × QueueNote)) (w : Watched) (rest : List Watched) (b : Bool) → (w.queue == q) ≡ b
    → slice_index_or journals q [] ≡ journal → noted_there orders journal rest ≡ map (with_number orders journals) rest
    → noted_there orders journal (cond b (w ∷ rest) rest) ≡ map (with_number orders journals) (cond b (w ∷ rest) rest)
one_more orders journals q journal w rest true same here later =
    ap (λ (ns : List WatchNote). let e : ℕ × List WatchNote = (w.number, ns) in e ∷ noted_there orders journal rest)
    (ap (watch_notes orders w.row) (sym here ∙ ap (λ (k : ℕ). slice_index_or journals k []) (sym (eqb-true w.queue q same))))
    ∙ ap (λ (es : List (ℕ × List WatchNote)). with_number orders journals w ∷ es) later
one_more orders journals q journal w rest false same here later = later

-- the watches of a queue note by its journal
told_here : (orders : ObjectId → ℕ → List Order) (journals : List (List (ℕ × QueueNote))) (q : ℕ) (journal : List (ℕ × QueueNote)) → slice_index_or journals q [] ≡ journal → (ws : List Watched)
    → noted_there orders journal (filter (is_on q) ws) ≡ map (with_number orders journals) (filter (is_on q) ws)
told_here orders journals q journal here [] = refl
told_here orders journals q journal here (w ∷ ws) = one_more orders journals q journal w (filter (is_on q) ws) (w.queue == q) refl here (told_here orders journals q journal here ws)

past_all : (journals : List (List (ℕ × QueueNote))) (q : ℕ) → length journals ≤ q → slice_index_or journals q [] ≡ []
past_all [] zero past = refl
past_all [] (suc q) past = refl
past_all (j ∷ js) zero past = absurd (omega arith)
past_all (j ∷ js) (suc q) past = past_all js q (omega arith)

seen : (noted : List (ℕ × Vec WatchNote)) → watches_of noted ≡ map as_notes (numbered noted)
seen [] = refl
seen (n ∷ noted) = ap (λ (ns : List WatchNotes). as_notes (n.0, n.1.items) ∷ ns) (seen noted)

-- ---- what they noted

module _ (script : ScriptData) (hall : HallValue) (kinds : Kinds) (crew : AreKindsOf script hall kinds) where
  abbrev journals : List (List (ℕ × QueueNote))
  journals = map events_by kinds.queues

  abbrev orders : ObjectId → ℕ → List Order
  orders = orders_by (setting_of script)

  abbrev all : List Watched
  all = (setting_of script).watches

  abbrev told_on : ℕ → List (ℕ × List WatchNote)
  told_on q = map (with_number orders journals) (filter (is_on q) all)

  told_one : (s : ℕ × QueuePostValue) → IsQueueIn script hall s.0 s.1 → slice_index_or journals s.0 [] ≡ events_by s → noted_by s ≡ told_on s.0
  told_one s seat here =
      ap (map part_of) seat.keeps.noted
      ∙ ap (λ (rows : List (ℕ × WatchRow)). map part_of (map (watch_by (orders_in hall.objects) s.1.served.journal) rows)) seat.watches
      ∙ ap (λ (objects : List Planned). map part_of (map (watch_by (orders_in objects) s.1.served.journal) (watches_on all s.0))) crew.hall_is.objects
      ∙ told_here orders journals s.0 s.1.served.journal here all

  told_each : (before rest : List (ℕ × QueuePostValue)) → kinds.queues ≡ before ++ rest → flat_map noted_by rest ≡ flat_map told_on (map (λ s. s.0) rest)
  told_each before [] is = refl
  told_each before (s ∷ rest) is =
      let P : ℕ × QueuePostValue → Type 0 = λ t. IsQueueIn script hall t.0 t.1 in
      let seat : P s = All-head P s rest (all_back P before (s ∷ rest) (subst (All P) is crew.queues)) in
      ap (λ (es : List (ℕ × List WatchNote)). es ++ flat_map noted_by rest)
      (told_one s seat (numbered_here (λ (t : ℕ × QueuePostValue). t.0) events_by kinds.queues before s rest (queues_of script.shape) [] is crew.queue_numbers))
      ∙ ap (λ (es : List (ℕ × List WatchNote)). told_on s.0 ++ es) (told_each (before ++ s ∷ []) rest (is ∙ sym (append_assoc before (s ∷ []) rest)))

  told_all : (ws : List Watched) → map as_notes (map (with_number orders journals) ws) ≡ map (watch_told (setting_of script) journals) ws
  told_all [] = refl
  told_all (w ∷ ws) = ap (λ (ns : List WatchNotes). watch_told (setting_of script) journals w ∷ ns) (told_all ws)

  pub noted_whole : (noted : List (ℕ × Vec WatchNote))
      → numbered noted ≡ lists_put (flat_map noted_by kinds.queues) (map none_noted (numbers_below (length script.watches)))
      → watches_of noted ≡ (record_of script kinds).watches
  noted_whole noted is =
      let objects : List Planned = (setting_of script).objects in
      let count : length journals ≡ queues_of script.shape = length-map kinds.queues events_by ∙ numbered_len (λ (s : ℕ × QueuePostValue). s.0) kinds.queues (queues_of script.shape) crew.queue_numbers in
      seen noted
      ∙ ap (map as_notes)
      (is
      ∙ ap (λ (es : List (ℕ × List WatchNote)). lists_put es (map none_noted (numbers_below (length script.watches))))
      (told_each [] kinds.queues refl ∙ ap (flat_map told_on) crew.queue_numbers)
      ∙ ap (λ (n : ℕ). lists_put (flat_map told_on (numbers_below (queues_of script.shape))) (map none_noted (numbers_below n))) (sym (watches_count objects 0 script.watches))
      ∙ put_by_number (λ (w : Watched). w.number) (λ (w : Watched). w.queue) (told_by orders journals) no_watch (queues_of script.shape) all (watches_numbered objects script.watches)
      (λ w past. ap (watch_notes orders w.row) (past_all journals w.queue (omega (arith, past, count)))))
      ∙ told_all all
