-- inner: What the groups and the watches of a queue keep, as far as its journal was served, and what an entry makes of them.
use Rattle.std.specs.Prelude.{◌≡◌, ℕ, nat_lt, Bool, false, not, ◌&&◌, List, [], ◌∷◌, length, map, drop, Option, Some, None, if◌then◌else◌}
use Rattle.std.specs.List.{flat_map}
use Rattle.mama_event.specs.declared.ids.SubId.{SubId}
use Rattle.mama_event.specs.declared.ids.TimerId.{TimerId}
use Rattle.mama_event.specs.declared.ids.ObjectId.{ObjectId}
use Rattle.mama_event.specs.declared.ids.ObjectId.TheVariants.{Sub, Timer, Inbox}
use Rattle.mama_event.specs.declared.group.GroupRow.{GroupRow}
use Rattle.mama_event.specs.declared.group.GroupNote.{GroupNote}
use Rattle.mama_event.specs.declared.to_queue.QueueNote.{QueueNote}
use Rattle.mama_event.specs.declared.to_queue.QueueNote.TheVariants as q
use Rattle.mama_record.specs.RunData.{GroupNotes, WatchNotes}
use Rattle.mama_rules_queue.specs.Queue.{QueuePut}
use Rattle.mama_rules_queue.specs.Watch.{lacks_image}
use Rattle.mama_group.specs.Table.{GroupData, AllHeard}
use Rattle.mama_timeout.specs.Table.{WatchData, counted_at, count_wishes, first_sub}
use Rattle.mama_check_queue.specs.Seen.{SeenData}
use Rattle.mama_check_queue.specs.Rows.{SeenObjects, seen_in}
use Rattle.mama_check_queue.specs.declared.lists.About.{About}
use Rattle.mama_check_queue.specs.declared.lists.About.TheVariants as about

-- what an entry is about, as far as groups and watches look at it
abbrev pub about_object : ObjectId → About
about_object (Sub sub) = about.Sub sub
about_object (Timer timer) = about.Other
about_object (Inbox inbox) = about.Other

abbrev pub about_note : QueueNote → About
about_note (q.Create slot object make tag) = about_object object
about_note (q.Deliver slot sub msg) = about.Sub sub
about_note (q.Reply slot inbox body) = about.Other
about_note (q.Bad slot sub kind sender seq bytes) = about.Sub sub
about_note (q.BadReply slot inbox bytes) = about.Other
about_note (q.Tick slot timer moment) = about.Tick timer moment
about_note (q.Gone slot object) = about_object object
about_note q.Fin = about.Other

-- how many callbacks there were of what an entry is about
abbrev pub calls_before : About → SeenObjects → ℕ
calls_before (about.Sub sub) s = length (seen_in s (Sub sub)).calls
calls_before (about.Tick timer moment) s = length (seen_in s (Timer timer)).calls
calls_before about.Other s = 0

-- a subscription is live, is not muted, and has no image
abbrev pub is_missed_row : SeenData → Bool
is_missed_row s = s.live && not s.muted && lacks_image s.context

abbrev pub is_missed_in : SeenObjects → Option SubId → Bool
is_missed_in s None = false
is_missed_in s (Some sub) = is_missed_row (seen_in s (Sub sub))

-- the watches behind a tick of a timer that was called back, and what they wish for: the timer's counts where its subscription is missed
abbrev pub watches_counted : TimerId → ℕ → SeenObjects → List WatchData → List WatchData
watches_counted timer moment s watches = if is_missed_in s (first_sub timer watches) then map (counted_at timer moment) watches else watches

abbrev pub wishes_counted : TimerId → ℕ → SeenObjects → List WatchData → List QueuePut
wishes_counted timer moment s watches = if is_missed_in s (first_sub timer watches) then flat_map (count_wishes timer moment) watches else []

-- The groups and the watches followed an entry that was served: so many callbacks there were before it, and these objects are
-- there behind it. A tick was called back where there is a callback more.
abbrev pub Follows : About → ℕ → SeenObjects → List GroupData → List GroupData → List WatchData → List WatchData → List QueuePut → Type 0
Follows (about.Sub sub) before s groups heard watches noted wish =
    AllHeard sub (map (λ n. n.call) (drop before (seen_in s (Sub sub)).calls)) groups heard × (noted ≡ watches) × (wish ≡ [])
Follows (about.Tick timer moment) before s groups heard watches noted wish =
    (heard ≡ groups)
    × (noted ≡ (if nat_lt before (length (seen_in s (Timer timer)).calls) then watches_counted timer moment s watches else watches))
    × (wish ≡ (if nat_lt before (length (seen_in s (Timer timer)).calls) then wishes_counted timer moment s watches else []))
Follows about.Other before s groups heard watches noted wish = (heard ≡ groups) × (noted ≡ watches) × (wish ≡ [])

-- a group of a table is that of a row, and has heard these notes
pub record IsGroup (row : ℕ × GroupRow) (heard : List GroupNote) (g : GroupData) : Type 0 where
  pub number : g.number ≡ row.0
  pub members : g.members ≡ row.1.members
  pub notes : g.notes ≡ heard

-- each group of a table is that of its row, and has heard these notes
abbrev pub AreGroups : (ℕ × GroupRow → List GroupNote) → List (ℕ × GroupRow) → List GroupData → Type 0
AreGroups notes [] [] = Unit {0}
AreGroups notes [] (g ∷ gs) = ⊥
AreGroups notes (row ∷ rows) [] = ⊥
AreGroups notes (row ∷ rows) (g ∷ gs) = IsGroup row (notes row) g × AreGroups notes rows gs

-- what the groups and the watches of tables have heard and noted, with their numbers
abbrev pub group_list : GroupData → GroupNotes
group_list g = record { group = g.number; notes = g.notes }

abbrev pub watch_list : WatchData → WatchNotes
watch_list w = record { watch = w.number; notes = w.notes }
