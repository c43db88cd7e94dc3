-- A client of an accepted script has numbers left for its objects.
use Rattle.std.specs.List.{AllByRecursion}
use Rattle.std.proofs.Common.{◌≡◌, ℕ, zero, suc, ◌+◌, ◌<◌, ◌≤◌, List, [], ◌∷◌, length, get_or, refl, ap, sym, subst, arith}
use Rattle.mama_script.specs.declared.client.ClientLine.{ClientLine}
use Rattle.mama_script.specs.declared.client.ClientLine.TheVariants as line
use Rattle.mama_script.specs.declared.client.QueueWord.{QueueWord}
use Rattle.mama_script.specs.declared.client.QueueWord.TheVariants.{Number, Any}
use Rattle.mama_script.specs.Script.{ScriptData}
use Rattle.mama_script.specs.Within.{subs_in, objects_in, all_subs, IsClientWithin, IsWithin}
use Rattle.mama_rules_rounds.specs.Client.{Standing, after_word, after_line}
use Rattle.mama_plans.specs.declared.names.Names.{Names}
use Rattle.mama_plans.specs.Names.{standing_of}
use Rattle.mama_plans.specs.Room.{HasRoom, HasRoomFor, MakesFew}

clients_make_few : (topics queues : ℕ) (cs : List (List ClientLine)) → all_subs cs ≤ 10000 → AllByRecursion (IsClientWithin topics queues) cs → AllByRecursion MakesFew cs
clients_make_few topics queues [] subs within = tt
clients_make_few topics queues (c ∷ cs) subs within =
    let all : subs_in c + all_subs cs ≤ 10000 = subs in
    (record { subs = omega (arith, all); objects = within.0.objects }, clients_make_few topics queues cs (omega (arith, all)) within.1)

pub script_makes_few : (s : ScriptData) → IsWithin s → AllByRecursion MakesFew s.clients
script_makes_few s h = clients_make_few (length s.topics) s.shape.bounds.queues s.clients h.subs_few h.clients

pub client_makes_few : (cs : List (List ClientLine)) (i : ℕ) (c : List ClientLine) → i < length cs → c ≡ get_or cs i c → AllByRecursion MakesFew cs → MakesFew c
client_makes_few [] i c within is few = absurd (omega (arith, within))
client_makes_few (x ∷ xs) zero c within is few = subst MakesFew (sym is) few.0
client_makes_few (x ∷ xs) (suc i) c within is few = client_makes_few xs i c (omega (arith, within)) is few.1

pub room_at_first : (lines : List ClientLine) (n : Names) → n ≡ record { subs = 0; timers = 0; inboxes = 0; turns = 0 } → MakesFew lines → HasRoomFor lines n
room_at_first lines n first few = subst (HasRoomFor lines) (sym first) (record { subs = omega (arith, few.subs); objects = omega (arith, few.objects); turns = omega arith })

pub room_left : (lines : List ClientLine) (n : Names) → HasRoomFor lines n → HasRoom n
room_left lines n room = record {
  subs = omega (arith, room.subs);
  timers = omega (arith, room.objects);
  inboxes = omega (arith, room.objects);
  turns = omega (arith, room.turns, room.subs, room.objects);
}

-- a word takes one turn at most
word_turns : (s : Standing) (word : QueueWord) → (after_word s word).turns ≤ s.turns + 1
word_turns s (Number q) = omega arith
word_turns s Any = omega arith

pub word_subs : (s : Standing) (word : QueueWord) → (after_word s word).subs ≡ s.subs
word_subs s (Number q) = refl
word_subs s Any = refl

pub word_timers : (s : Standing) (word : QueueWord) → (after_word s word).timers ≡ s.timers
word_timers s (Number q) = refl
word_timers s Any = refl

pub word_inboxes : (s : Standing) (word : QueueWord) → (after_word s word).inboxes ≡ s.inboxes
word_inboxes s (Number q) = refl
word_inboxes s Any = refl

-- where the names are these, the rest of the lines has room
room_so : (s : Standing) (ls : List ClientLine) (new : Names) → s ≡ standing_of new [] → s.subs + subs_in ls ≤ 10000 → s.timers + s.inboxes + objects_in ls ≤ 1024 → s.turns ≤ s.subs + s.timers + s.inboxes → HasRoomFor ls new
room_so s ls new is subs objects turns =
    let subs_are : s.subs ≡ new.subs = ap (λ (x : Standing). x.subs) is in
    let timers_are : s.timers ≡ new.timers = ap (λ (x : Standing). x.timers) is in
    let inboxes_are : s.inboxes ≡ new.inboxes = ap (λ (x : Standing). x.inboxes) is in
    let turns_are : s.turns ≡ new.turns = ap (λ (x : Standing). x.turns) is in
    record {
      subs = omega (arith, subs_are, subs);
      objects = omega (arith, timers_are, inboxes_are, objects);
      turns = omega (arith, subs_are, timers_are, inboxes_are, turns_are, turns);
    }

-- a line that names no object
room_same : (old new : Names) (ls : List ClientLine) → standing_of old [] ≡ standing_of new [] → old.subs + (0 + subs_in ls) ≤ 10000 → old.timers + old.inboxes + (0 + objects_in ls) ≤ 1024
    → old.turns ≤ old.subs + old.timers + old.inboxes → HasRoomFor ls new
room_same old new ls is subs objects turns =
    room_so (standing_of old []) ls new is (let e : old.subs + subs_in ls ≤ 10000 = omega (arith, subs) in e) (let e : old.timers + old.inboxes + objects_in ls ≤ 1024 = omega (arith, objects) in e) turns

pub room_after : (old new : Names) (l : ClientLine) (ls : List ClientLine) → after_line (standing_of old []) l ≡ standing_of new [] → HasRoomFor (l ∷ ls) old → HasRoomFor ls new
room_after old new (line.Sub topic kind word cache recaps faults plan) ls is room =
    let s : Standing = standing_of old [] in
    let subs : old.subs + (1 + subs_in ls) ≤ 10000 = room.subs in
    let objects : old.timers + old.inboxes + (0 + objects_in ls) ≤ 1024 = room.objects in
    room_so (record (after_word s word) { subs = suc s.subs }) ls new is (omega (arith, subs)) (omega (arith, objects, word_timers s word, word_inboxes s word))
    (omega (arith, room.turns, word_turns s word, word_timers s word, word_inboxes s word))
room_after old new (line.Timer word interval plan) ls is room =
    let s : Standing = standing_of old [] in
    let subs : old.subs + (0 + subs_in ls) ≤ 10000 = room.subs in
    let objects : old.timers + old.inboxes + (1 + objects_in ls) ≤ 1024 = room.objects in
    room_so (record (after_word s word) { timers = suc s.timers }) ls new is (omega (arith, subs, word_subs s word)) (omega (arith, objects, word_inboxes s word))
    (omega (arith, room.turns, word_turns s word, word_subs s word, word_inboxes s word))
room_after old new (line.Inbox word faults plan) ls is room =
    let s : Standing = standing_of old [] in
    let subs : old.subs + (0 + subs_in ls) ≤ 10000 = room.subs in
    let objects : old.timers + old.inboxes + (1 + objects_in ls) ≤ 1024 = room.objects in
    room_so (record (after_word s word) { inboxes = suc s.inboxes }) ls new is (omega (arith, subs, word_subs s word)) (omega (arith, objects, word_timers s word))
    (omega (arith, room.turns, word_turns s word, word_subs s word, word_timers s word))
room_after old new (line.Order o) ls is room = room_same old new ls is room.subs room.objects room.turns
room_after old new (line.Now m) ls is room = room_same old new ls is room.subs room.objects room.turns
room_after old new line.NowClock ls is room = room_same old new ls is room.subs room.objects room.turns
room_after old new (line.Pause n) ls is room = room_same old new ls is room.subs room.objects room.turns
