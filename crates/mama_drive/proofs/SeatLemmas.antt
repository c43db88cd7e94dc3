-- A seat in its place with an event more on its lane, or as it was.
use Rattle.std.proofs.Common.{◌≡◌, ℕ, ◌<◌, ◌≤◌, List, [], ◌∷◌, ◌++◌, length, get_or, refl, sym, ◌∙◌, ap}
use Rattle.std.specs.Prelude.{Result, Ok, Err, IfOk, OnOk, OnErr}
use Rattle.std.proofs.Math.ListN.{set}
use Rattle.std.proofs.lemmas.List.{set-get_or}
use Rattle.mama_event.specs.declared.to_bridge.BridgeNote.{BridgeNote}
use Rattle.mama_event.specs.declared.to_timers.TimersNote.{TimersNote}
use Rattle.mama_event.specs.declared.to_publisher.PublisherNote.{PublisherNote}
use Rattle.mama_event.specs.declared.to_queue.QueueNote.{QueueNote}
use Rattle.mama_seats.specs.Sender.{Sender, taken}
use Rattle.mama_seats.specs.Server.{Server, served, all_told}
use Rattle.mama_drive.specs.Seat.{ServiceSeat}
use Rattle.mama_drive.specs.Scene.{Scene}
use Rattle.mama_drive.specs.Held.{changed_at, with_note, with_event, lay_told}
use Rattle.mama_drive.proofs.HeldLemmas.{set_changed, past_changed}
use Rattle.mama_drive.proofs.SystemLemmas.{IsSeatOf}

pub sender_laid : (s old : Scene) (p : ℕ) (x y : Sender) (note : PublisherNote) → s ≡ old → p < length s.senders → x ≡ get_or s.senders p x → y ≡ with_note note x
    → record s { senders = set s.senders p y } ≡ record old { senders = changed_at (with_note note) p old.senders }
sender_laid s old p x y note is within at changed =
    ap (λ z. record s { senders = set s.senders p z }) changed
    ∙ ap (λ l. record s { senders = l }) (set_changed (with_note note) p s.senders x within at)
    ∙ ap (λ (o : Scene). record o { senders = changed_at (with_note note) p o.senders }) is

pub sender_past : (s old : Scene) (p : ℕ) (note : PublisherNote) → s ≡ old → length s.senders ≤ p → old ≡ record old { senders = changed_at (with_note note) p old.senders }
sender_past s old p note is past =
    sym is ∙ ap (λ l. record s { senders = l }) (past_changed (with_note note) p s.senders past) ∙ ap (λ (o : Scene). record o { senders = changed_at (with_note note) p o.senders }) is

pub server_laid : (s old : Scene) (q : ℕ) (x y : Server) (e : ℕ × QueueNote) → s ≡ old → q < length s.servers → x ≡ get_or s.servers q x → y ≡ with_event e x
    → record s { servers = set s.servers q y } ≡ record old { servers = changed_at (with_event e) q old.servers }
server_laid s old q x y e is within at changed =
    ap (λ z. record s { servers = set s.servers q z }) changed
    ∙ ap (λ l. record s { servers = l }) (set_changed (with_event e) q s.servers x within at)
    ∙ ap (λ (o : Scene). record o { servers = changed_at (with_event e) q o.servers }) is

pub server_past : (s old : Scene) (q : ℕ) (e : ℕ × QueueNote) → s ≡ old → length s.servers ≤ q → old ≡ record old { servers = changed_at (with_event e) q old.servers }
server_past s old q e is past =
    sym is ∙ ap (λ l. record s { servers = l }) (past_changed (with_event e) q s.servers past) ∙ ap (λ (o : Scene). record o { servers = changed_at (with_event e) q o.servers }) is

-- what does not change in a seat of a queue, where a call either changes it so or leaves it
pub seat_kept : {T E B : Type 0} → (f : Server → B) (r : Result T E) (x y : Server) (P : Type 0) → (P → f y ≡ f x) → OnOk r P → OnErr r (y ≡ x) → f y ≡ f x
seat_kept f (Ok v) x y P keeps ok err = keeps ok
seat_kept f (Err e) x y P keeps ok err = ap f err

-- its objects, groups and watches among that
pub seat_of_same : {T E : Type 0} → (r : Result T E) (x y : Server) (P : Type 0) → (P → IsSeatOf x y) → OnOk r P → OnErr r (y ≡ x) → IsSeatOf x y
seat_of_same r x y P keeps ok err = record {
  objects = seat_kept (λ (s : Server). s.objects) r x y P (λ p. (keeps p).objects) ok err;
  groups = seat_kept (λ (s : Server). s.groups) r x y P (λ p. (keeps p).groups) ok err;
  watches = seat_kept (λ (s : Server). s.watches) r x y P (λ p. (keeps p).watches) ok err;
}

-- an event more on its lane
pub with_event_kept : (x y : Server) (e : ℕ × QueueNote) → y ≡ with_event e x → IsSeatOf x y
with_event_kept x y e is = record { objects = ap (λ (s : Server). s.objects) is; groups = ap (λ (s : Server). s.groups) is; watches = ap (λ (s : Server). s.watches) is }

-- a turn, and what its groups are told
served_kept : (x : Server) (lane : List (ℕ × QueueNote)) → IsSeatOf x (all_told (served x lane))
served_kept x [] = record { objects = refl; groups = refl; watches = refl }
served_kept x (e ∷ rest) = record { objects = refl; groups = refl; watches = refl }

pub turn_kept : (x y : Server) → all_told y ≡ all_told (served x x.lane) → IsSeatOf x y
turn_kept x y is =
    let kept = served_kept x x.lane in
    record {
      objects = ap (λ (s : Server). s.objects) is ∙ kept.objects;
      groups = ap (λ (s : Server). s.groups) is ∙ kept.groups;
      watches = ap (λ (s : Server). s.watches) is ∙ kept.watches;
    }

pub told_kept : (x y : Server) → y ≡ all_told x → IsSeatOf x y
told_kept x y is = record { objects = ap (λ (s : Server). s.objects) is; groups = ap (λ (s : Server). s.groups) is; watches = ap (λ (s : Server). s.watches) is }

-- groups that were told all still were
pub told_still : {T E : Type 0} → (r : Result T E) (x y : Server) → OnOk r (y ≡ all_told x) → OnErr r (y ≡ x) → x.heard ≡ x.journal → y.heard ≡ y.journal
told_still (Ok v) x y ok err here = ap (λ (s : Server). s.heard) ok ∙ sym (ap (λ (s : Server). s.journal) ok)
told_still (Err e) x y ok err here = ap (λ (s : Server). s.heard) err ∙ here ∙ sym (ap (λ (s : Server). s.journal) err)

-- the groups of a queue were told
pub server_told : (s old : Scene) (q : ℕ) (x y : Server) → s ≡ old → q < length s.servers → x ≡ get_or s.servers q x → y ≡ all_told x
    → record s { servers = set s.servers q y } ≡ lay_told q old
server_told s old q x y is within at changed =
    ap (λ z. record s { servers = set s.servers q z }) changed
    ∙ ap (λ l. record s { servers = l }) (set_changed all_told q s.servers x within at)
    ∙ ap (λ (o : Scene). lay_told q o) is

pub untold_past : (s old : Scene) (q : ℕ) → s ≡ old → length s.servers ≤ q → old ≡ lay_told q old
untold_past s old q is past =
    sym is ∙ ap (λ l. record s { servers = l }) (past_changed all_told q s.servers past) ∙ ap (λ (o : Scene). lay_told q o) is

-- a seat of a queue that is as it was
pub same_server : (s old : Scene) (q : ℕ) (x y : Server) → s ≡ old → x ≡ get_or s.servers q x → y ≡ x → record s { servers = set s.servers q y } ≡ old
same_server s old q x y is at same =
    ap (λ (z : Server). record s { servers = set s.servers q z }) (same ∙ at) ∙ ap (λ (l : List Server). record s { servers = l }) (set-get_or s.servers q x) ∙ is

-- a publisher's step leaves its lane as it is, made or not
pub lane_same : {T E B : Type 0} → (r : Result T E) (x y : Sender) (puts : T → B) (P : B → Type 0) → ((b : B) → P b → y.lane ≡ x.lane)
    → IfOk r (λ v. P (puts v)) → OnErr r (y ≡ x) → y.lane ≡ x.lane
lane_same (Ok v) x y puts P f step same = f (puts v) step
lane_same (Err e) x y puts P f step same = ap (λ (z : Sender). z.lane) same

-- the bridge and the timer service, whose lanes have an event more
pub bridge_laid : (s old : Scene) (x y : ServiceSeat BridgeNote) (e : ℕ × BridgeNote) → s ≡ old → x.journal ≡ s.bridge → x.lane ≡ s.to_bridge → y ≡ record x { lane = x.lane ++ e ∷ [] }
    → record s { bridge = y.journal; to_bridge = y.lane } ≡ record old { to_bridge = old.to_bridge ++ e ∷ [] }
bridge_laid s old x y e is journal here changed =
    ap (λ (z : ServiceSeat BridgeNote). record s { bridge = z.journal; to_bridge = z.lane }) changed
    ∙ ap (λ j. record s { bridge = j; to_bridge = x.lane ++ e ∷ [] }) journal
    ∙ ap (λ l. record s { to_bridge = l ++ e ∷ [] }) here
    ∙ ap (λ (o : Scene). record o { to_bridge = o.to_bridge ++ e ∷ [] }) is

pub timers_laid : (s old : Scene) (x y : ServiceSeat TimersNote) (e : ℕ × TimersNote) → s ≡ old → x.journal ≡ s.timers → x.lane ≡ s.to_timers → y ≡ record x { lane = x.lane ++ e ∷ [] }
    → record s { timers = y.journal; to_timers = y.lane } ≡ record old { to_timers = old.to_timers ++ e ∷ [] }
timers_laid s old x y e is journal here changed =
    ap (λ (z : ServiceSeat TimersNote). record s { timers = z.journal; to_timers = z.lane }) changed
    ∙ ap (λ j. record s { timers = j; to_timers = x.lane ++ e ∷ [] }) journal
    ∙ ap (λ l. record s { to_timers = l ++ e ∷ [] }) here
    ∙ ap (λ (o : Scene). record o { to_timers = o.to_timers ++ e ∷ [] }) is

-- where nothing waits, nothing waits after a turn
pub taken_stays : (x y : Sender) → y ≡ taken x x.lane → x.lane ≡ [] → y.lane ≡ []
taken_stays x y is none = ap (λ (s : Sender). s.lane) is ∙ ap (λ (l : List PublisherNote). (taken x l).lane) none ∙ none

pub served_stays : (x y : Server) → all_told y ≡ all_told (served x x.lane) → x.lane ≡ [] → y.lane ≡ []
served_stays x y is none = ap (λ (s : Server). s.lane) is ∙ ap (λ (l : List (ℕ × QueueNote)). (served x l).lane) none ∙ none
