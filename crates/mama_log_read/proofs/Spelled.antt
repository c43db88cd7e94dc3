-- The lines of entries: each is one line, and spells one entry.
use Rattle.std.proofs.Common.{◌≡◌, ℕ, List, [], ◌∷◌, ◌++◌, Result, Ok, refl, sym, ap, ◌∙◌}
use Rattle.std.specs.Prelude.{◌&&◌, not}
use Rattle.std.specs.List.{list_all, list_any}
use Rattle.std.proofs.lemmas.Bool.{and_parts}
use Rattle.mama_event.specs.declared.ids.ObjectId.{ObjectId}
use Rattle.mama_event.specs.declared.order.Order.{Order}
use Rattle.mama_event.specs.declared.callback.Callback.{Callback}
use Rattle.mama_event.specs.declared.group.GroupNote.{GroupNote}
use Rattle.mama_event.specs.declared.watch.WatchNote.{WatchNote}
use Rattle.mama_event.specs.declared.to_bridge.BridgeNote.{BridgeNote}
use Rattle.mama_event.specs.declared.to_timers.TimersNote.{TimersNote}
use Rattle.mama_event.specs.declared.to_queue.QueueNote.{QueueNote}
use Rattle.mama_event.specs.declared.publisher_entry.PublisherEntry.{PublisherEntry}
use Rattle.mama_words.specs.Reading.{◌>>=◌, or_fault}
use Rattle.mama_words.specs.Parting.{parted_in, is_plain, is_parted, is_outside, place_after, is_empty_word, words}
use Rattle.mama_words.specs.declared.parting.Place.TheVariants.{Outside}
use Rattle.mama_words.proofs.Choices.{ok_is, step_ok, chosen_some}
use Rattle.mama_words.proofs.Cutting.{all_lack}
use Rattle.mama_record.specs.RunData.{LastImage}
use Rattle.mama_record.specs.LogText.{publisher_entry_text, callback_text, bridge_entry_text, clock_text, given_text, group_note_text, watch_note_text, image_text, queue_entry_text, timers_entry_text}
use Rattle.mama_words.specs.declared.nums.Nums.{Nums}
use Rattle.mama_log_line.specs.Names.{NamesData}
use Rattle.mama_log_line.specs.Entering.{MayEnterPublisher, MayEnterBridge, MayEnterTimers, MayEnterQueue, MayHear, MayOrder, MayHearGroup, MayNote, IsLastImage}
use Rattle.mama_log_line.specs.Journal.{publisher_line_in, publisher_words_in, bridge_line_in, bridge_words_in, timers_line_in, timers_words_in, queue_line_in, queue_words_in}
use Rattle.mama_log_line.specs.Calls.{call_line_in, call_words_in, order_line_in, order_words_in, clock_line_in, clock_words_in, image_line_in, image_words_in}
use Rattle.mama_log_line.proofs.PublisherLaws.{publisher_again}
use Rattle.mama_log_line.proofs.BridgeLaws.{bridge_again}
use Rattle.mama_log_line.proofs.TimersLaws.{timers_again}
use Rattle.mama_log_line.proofs.QueueLaws.{queue_again}
use Rattle.mama_log_line.proofs.CallLaws.{call_again}
use Rattle.mama_log_line.specs.Lists.{group_line_in, group_words_in, watch_line_in, watch_words_in}
use Rattle.mama_log_line.proofs.ListLaws.{group_again, watch_again}
use Rattle.mama_log_line.proofs.OtherLaws.{order_line_again, clock_again, image_again}
use Rattle.mama_log_read.specs.Logged.{IsMoment}
use Rattle.mama_log_read.proofs.Lines.{IsPlain}

-- a line that was read has no line feed in it
plain_read : {E : Type 0} (read : List (List ℕ) → Result E ℕ) (line : List ℕ) (e : E) → (or_fault 2 (parted_in line) >>= read) ≡ Ok e → IsPlain line
plain_read read line e h =
    let p = step_ok 2 (parted_in line) read e h in
    let parted = chosen_some (is_parted line) (words line) p.0 p.1 in
    let q = and_parts (list_all is_plain line && is_outside (place_after Outside line)) (not (list_any is_empty_word (words line))) parted.0 in
    let r = and_parts (list_all is_plain line) (is_outside (place_after Outside line)) q.0 in
    all_lack is_plain 10 line refl r.0

-- two values that one line is read as
one_read : {E : Type 0} (r : Result E ℕ) (x y : E) → r ≡ Ok x → r ≡ Ok y → x ≡ y
one_read r x y h k = ok_is x y (sym h ∙ k)

ended : (l m : List ℕ) → l ≡ m → l ++ 10 ∷ [] ≡ m ++ 10 ∷ []
ended l m e = ap (λ (t : List ℕ). t ++ 10 ∷ []) e

pub plain_moment : (m : ℕ) → IsMoment m → IsPlain (clock_text m)
unfolding clock_line_in
plain_moment m h = plain_read clock_words_in (clock_text m) m (clock_again (clock_text m) m h refl)

pub same_moment : (m n : ℕ) → IsMoment m → IsMoment n → clock_text m ≡ clock_text n → m ≡ n
same_moment m n h k e = one_read (clock_line_in (clock_text m)) m n (clock_again (clock_text m) m h refl) (clock_again (clock_text m) n k (ended (clock_text m) (clock_text n) e))

pub plain_publisher : (names : NamesData) (e : PublisherEntry) → MayEnterPublisher names e → IsPlain (publisher_entry_text e)
unfolding publisher_line_in
plain_publisher names e h = plain_read (publisher_words_in names) (publisher_entry_text e) e (publisher_again names (publisher_entry_text e) e h refl)

pub same_publisher : (names : NamesData) (d e : PublisherEntry) → MayEnterPublisher names d → MayEnterPublisher names e → publisher_entry_text d ≡ publisher_entry_text e → d ≡ e
same_publisher names d e h k same =
    one_read (publisher_line_in names (publisher_entry_text d)) d e (publisher_again names (publisher_entry_text d) d h refl) (publisher_again names (publisher_entry_text d) e k (ended (publisher_entry_text d) (publisher_entry_text e) same))

pub plain_bridge : (names : NamesData) (e : ℕ × BridgeNote) → MayEnterBridge names e → IsPlain (bridge_entry_text names.shape e)
unfolding bridge_line_in
plain_bridge names e h = plain_read (bridge_words_in names) (bridge_entry_text names.shape e) e (bridge_again names (bridge_entry_text names.shape e) e h refl)

pub same_bridge : (names : NamesData) (d e : ℕ × BridgeNote) → MayEnterBridge names d → MayEnterBridge names e → bridge_entry_text names.shape d ≡ bridge_entry_text names.shape e → d ≡ e
same_bridge names d e h k same =
    let text = bridge_entry_text names.shape d in
    one_read (bridge_line_in names text) d e (bridge_again names text d h refl) (bridge_again names text e k (ended text (bridge_entry_text names.shape e) same))

pub plain_timers : (names : NamesData) (e : ℕ × TimersNote) → MayEnterTimers names e → IsPlain (timers_entry_text names.shape e)
unfolding timers_line_in
plain_timers names e h = plain_read (timers_words_in names) (timers_entry_text names.shape e) e (timers_again names (timers_entry_text names.shape e) e h refl)

pub same_timers : (names : NamesData) (d e : ℕ × TimersNote) → MayEnterTimers names d → MayEnterTimers names e → timers_entry_text names.shape d ≡ timers_entry_text names.shape e → d ≡ e
same_timers names d e h k same =
    let text = timers_entry_text names.shape d in
    one_read (timers_line_in names text) d e (timers_again names text d h refl) (timers_again names text e k (ended text (timers_entry_text names.shape e) same))

pub plain_queue : (names : NamesData) (e : ℕ × QueueNote) → MayEnterQueue names e → IsPlain (queue_entry_text e)
unfolding queue_line_in
plain_queue names e h = plain_read (queue_words_in names) (queue_entry_text e) e (queue_again names (queue_entry_text e) e h refl)

pub same_queue : (names : NamesData) (d e : ℕ × QueueNote) → MayEnterQueue names d → MayEnterQueue names e → queue_entry_text d ≡ queue_entry_text e → d ≡ e
same_queue names d e h k same =
    let text = queue_entry_text d in
    one_read (queue_line_in names text) d e (queue_again names text d h refl) (queue_again names text e k (ended text (queue_entry_text e) same))

pub plain_call : (nums : Nums) (object : ObjectId) (c : Callback) → MayHear nums object c → IsPlain (callback_text c)
unfolding call_line_in
plain_call nums object c h = plain_read (call_words_in nums object) (callback_text c) c (call_again nums object (callback_text c) c h refl)

pub same_call : (nums : Nums) (object : ObjectId) (c d : Callback) → MayHear nums object c → MayHear nums object d → callback_text c ≡ callback_text d → c ≡ d
same_call nums object c d h k same =
    let text = callback_text c in
    one_read (call_line_in nums object text) c d (call_again nums object text c h refl) (call_again nums object text d k (ended text (callback_text d) same))

pub plain_order : (names : NamesData) (o : Order) → MayOrder names o → IsPlain (given_text o)
unfolding order_line_in
plain_order names o h = plain_read (order_words_in names) (given_text o) o (order_line_again names (given_text o) o h refl)

pub same_order : (names : NamesData) (o p : Order) → MayOrder names o → MayOrder names p → given_text o ≡ given_text p → o ≡ p
same_order names o p h k same =
    let text = given_text o in
    one_read (order_line_in names text) o p (order_line_again names text o h refl) (order_line_again names text p k (ended text (given_text p) same))

pub plain_image : (names : NamesData) (i : LastImage) → IsLastImage names i → IsPlain (image_text i)
unfolding image_line_in
plain_image names i h = plain_read (image_words_in names) (image_text i) i (image_again names (image_text i) i h refl)

pub same_image : (names : NamesData) (i j : LastImage) → IsLastImage names i → IsLastImage names j → image_text i ≡ image_text j → i ≡ j
same_image names i j h k same =
    let text = image_text i in
    one_read (image_line_in names text) i j (image_again names text i h refl) (image_again names text j k (ended text (image_text j) same))

pub plain_group : (names : NamesData) (n : GroupNote) → MayHearGroup names n → IsPlain (group_note_text n)
unfolding group_line_in
plain_group names n h = plain_read (group_words_in names) (group_note_text n) n (group_again names (group_note_text n) n h refl)

pub same_group : (names : NamesData) (m n : GroupNote) → MayHearGroup names m → MayHearGroup names n → group_note_text m ≡ group_note_text n → m ≡ n
same_group names m n h k same =
    let text = group_note_text m in
    one_read (group_line_in names text) m n (group_again names text m h refl) (group_again names text n k (ended text (group_note_text n) same))

pub plain_watch : (n : WatchNote) → MayNote n → IsPlain (watch_note_text n)
unfolding watch_line_in
plain_watch n h = plain_read watch_words_in (watch_note_text n) n (watch_again (watch_note_text n) n h refl)

pub same_watch : (m n : WatchNote) → MayNote m → MayNote n → watch_note_text m ≡ watch_note_text n → m ≡ n
same_watch m n h k same =
    let text = watch_note_text m in
    one_read (watch_line_in text) m n (watch_again text m h refl) (watch_again text n k (ended text (watch_note_text n) same))
