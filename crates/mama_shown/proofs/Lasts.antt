-- What the seals of a crew's boards tell of the last images, and what readers that learnt it read.
use Rattle.std.specs.Prelude.{IfSome, slice_index_or, not, ◌&&◌, nat_le, if◌then◌else◌}
use Rattle.std.specs.List.{All, flat_map, list_any}
use Rattle.std.proofs.Common.{◌≡◌, ℕ, Bool, true, false, ◌||◌, List, [], ◌∷◌, ◌++◌, length, map, drop, Option, None, Some, refl, sym, ◌∙◌, ap, subst, append-nil, append_assoc}
use Rattle.std.proofs.Math.Seq.{drop-append_seam}
use Rattle.std.proofs.lemmas.List.Elements.{All-nil, All-cons, All-head, All-tail}
use Rattle.mama_journal.specs.Journal.{numbers_below}
use Rattle.mama_event.specs.declared.ids.SubId.{SubId}
use Rattle.mama_event.specs.declared.to_queue.QueueNote.{QueueNote}
use Rattle.mama_rules_rounds.specs.Client.{Planned}
use Rattle.mama_board.specs.declared.image_set.ImageSet.{ImageSet}
use Rattle.mama_board.specs.Values.{ToldValue, ReaderValue, HasLooked, after_learn}
use Rattle.mama_crew.specs.Seat.{journal_in}
use Rattle.mama_gather.proofs.Lists.{numbered_here}
use Rattle.mama_grouped.specs.declared.seat.GroupedSeat.{GroupedSeat}
use Rattle.mama_shown.specs.declared.showing.Showing.{Showing}
use Rattle.mama_shown.specs.declared.seat.ShownSeat.{ShownSeat}
use Rattle.mama_shown.specs.Images.{shown_image, own_image, names}
use Rattle.mama_shown.specs.Seat.{HasTold, IsShowing, Shows}
use Rattle.mama_shown.specs.Last.{TellsLast, ShowsLast, HasLast, ReadsLast}
use Rattle.mama_shown.proofs.Queues.{Pair, pairs, pairs_at}

-- ---- readers

or_true : (a b : Bool) → b ≡ true → (a || b) ≡ true
or_true true b at = refl
or_true false b at = at

true_or : (a b : Bool) → a ≡ true → (a || b) ≡ true
true_or true b at = refl
true_or false b at = absurd (cc at)

-- a reader that learns the seal of its queue
pub learns_last : (objects : List Planned) (journals : List (List (ℕ × QueueNote))) (old new : ReaderValue) (told : ToldValue) → told.queue ≡ old.queue → new ≡ after_learn old told
    → TellsLast objects journals told → ReadsLast objects journals new
learns_last objects journals old new told same is h =
    let seen : (after_learn old told).seen ≡ told.sets = ap (λ (b : Bool). if b then told.sets else old.seen) (true_or told.last (not old.sealed && nat_le old.least (length told.sets)) h.last) in
    subst (ReadsLast objects journals) (sym is)
    (record {
      sealed = or_true old.sealed told.last h.last;
      images = λ sub. ap (shown_image sub) seen ∙ h.images sub ∙ ap (λ (q : ℕ). own_image objects (slice_index_or journals q []) sub) same;
    })

-- and it goes on reading that
pub reads_on : (objects : List Planned) (journals : List (List (ℕ × QueueNote))) (old new : ReaderValue) → HasLooked old new → ReadsLast objects journals old → ReadsLast objects journals new
reads_on objects journals old new look h = record {
  sealed = look.sealed ∙ h.sealed;
  images = λ sub. ap (shown_image sub) (look.at_seal h.sealed) ∙ h.images sub ∙ ap (λ (q : ℕ). own_image objects (slice_index_or journals q []) sub) (sym look.queue);
}

-- ---- seats

drop_whole : {A : Type 0} (xs : List A) (n : ℕ) → n ≡ length xs → drop n xs ≡ []
drop_whole xs n is = ap (λ (k : ℕ). drop k xs) is ∙ sym (ap (drop (length xs)) (append-nil xs)) ∙ drop-append_seam xs []

module _ {L H R : Type 0} where
  -- all entries are shown: so each subscription has its image
  all_shown : (objects : List Planned) (seat : GroupedSeat L H) (s : Showing R) (told : ToldValue) → IsShowing objects seat s → HasTold seat s told → (sub : SubId)
      → shown_image sub told.sets ≡ own_image objects (journal_in seat.seat) sub
  all_shown objects seat s told h t sub =
      ap (λ (v : ToldValue). shown_image sub v.sets) t.told_is
      ∙ ap (shown_image sub) (sym (append-nil s.board.sets) ∙ ap (λ (w : List ImageSet). s.board.sets ++ w) (sym t.none_waits))
      ∙ h.shows.images sub (ap (list_any (names sub)) (drop_whole (journal_in seat.seat) s.shown t.all_shown))

  -- what the seal of a seat among these told
  last_here : (objects : List Planned) (n : ℕ) (front : List (ShownSeat L H R)) (s : ShownSeat L H R) (rest whole : List (ShownSeat L H R)) → front ++ s ∷ rest ≡ whole
      → map (λ (p : Pair). p.0) (pairs whole) ≡ numbers_below n → Shows objects s.seat s.showing → HasLast objects (map (λ (p : Pair). p.1) (pairs whole)) s
  last_here objects n front s rest whole is numbered shows = by_showing s.showing shows
    where
      told_last : (w : Showing R) → IsShowing objects s.seat w → (told : ToldValue) → HasTold s.seat w told → TellsLast objects (map (λ (p : Pair). p.1) (pairs whole)) told
      told_last w h told t =
          let q : ℕ = w.board.queue in
          let at : slice_index_or (map (λ (p : Pair). p.1) (pairs whole)) q [] ≡ journal_in s.seat.seat =
          numbered_here (λ (p : Pair). p.0) (λ (p : Pair). p.1) (pairs whole) (pairs front) (q, journal_in s.seat.seat) (pairs rest) n [] (pairs_at front s rest whole q is h.queue_is) numbered in
          record {
            last = ap (λ (v : ToldValue). v.last) t.told_is;
            images = λ sub.
                all_shown objects s.seat w told h t sub
                ∙ sym (ap (λ (es : List (ℕ × QueueNote)). own_image objects es sub)
                (ap (λ (v : ToldValue). slice_index_or (map (λ (p : Pair). p.1) (pairs whole)) v.queue []) t.told_is ∙ at));
          }

      by_told : (w : Showing R) → IsShowing objects s.seat w → (told : Option ToldValue) → IfSome told (λ (t : ToldValue). HasTold s.seat w t)
          → IfSome told (λ (t : ToldValue). TellsLast objects (map (λ (p : Pair). p.1) (pairs whole)) t)
      by_told w h None t = tt
      by_told w h (Some told) t = told_last w h told t

      by_showing : (showing : Option (Showing R)) → Shows objects s.seat showing → ShowsLast objects (map (λ (p : Pair). p.1) (pairs whole)) showing
      by_showing None h = tt
      by_showing (Some w) h = by_told w h w.told h.told

  -- so it is of all seats
  pub lasts : (objects : List Planned) (n : ℕ) (front back whole : List (ShownSeat L H R)) → front ++ back ≡ whole → map (λ (p : Pair). p.0) (pairs whole) ≡ numbers_below n
      → All (λ (s : ShownSeat L H R). Shows objects s.seat s.showing) back → All (HasLast objects (map (λ (p : Pair). p.1) (pairs whole))) back
  lasts objects n front [] whole is numbered shows = All-nil (HasLast objects (map (λ (p : Pair). p.1) (pairs whole)))
  lasts objects n front (s ∷ rest) whole is numbered shows =
      let Own : ShownSeat L H R → Type 0 = λ t. Shows objects t.seat t.showing in
      All-cons (HasLast objects (map (λ (p : Pair). p.1) (pairs whole))) s rest (last_here objects n front s rest whole is numbered (All-head Own s rest shows))
      (lasts objects n (front ++ s ∷ []) rest whole (append_assoc front (s ∷ []) rest ∙ is) numbered (All-tail Own s rest shows))
