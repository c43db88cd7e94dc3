-- believed: the form of a recorded run, for a script.
use Rattle.std.specs.Prelude.{◌≡◌, Bool, true, false, List, [], ◌∷◌, length, map, if◌then◌else◌}
use Rattle.mama_event.specs.declared.ids.ObjectId.{ObjectId}
use Rattle.mama_event.specs.declared.ids.ObjectId.TheVariants.{Sub}
use Rattle.mama_event.specs.declared.ids.SubId.{SubId}
use Rattle.mama_journal.specs.Journal.{numbers_below}
use Rattle.mama_event.specs.Object.{same_object}
use Rattle.mama_event.specs.Ports.{queues_of}
use Rattle.mama_script.specs.Script.{ScriptData}
use Rattle.mama_record.specs.RunData.{RunData}
use Rattle.mama_rules_rounds.specs.Sections.{setting_of}

-- the objects of a script in the order of its record: subscriptions, timers, inboxes, each kind by client and number
abbrev pub objects_of : ScriptData → List ObjectId
objects_of script = map (λ p. p.object) (setting_of script).objects

-- some subscriptions stand in the order of these objects, each at most as often as there
abbrev pub in_order : List ObjectId → List SubId → Bool
in_order objects [] = true
in_order [] (s ∷ subs) = false
in_order (o ∷ objects) (s ∷ subs) = if same_object o (Sub s) then in_order objects subs else in_order objects (s ∷ subs)

-- A record has a list of moments for each client, a journal for each publisher and queue, callbacks for just the objects of the
-- script, in order, and a list for just each group and each watch, in order.
pub record IsCounted (script : ScriptData) (run : RunData) : Type 0 where
  pub clients : length run.clients ≡ length script.clients
  pub publishers : length run.publishers ≡ length script.publishers
  pub queues : length run.queues ≡ queues_of script.shape
  pub objects : map (λ c. c.object) run.calls ≡ objects_of script
  pub groups : map (λ g. g.group) run.groups ≡ numbers_below (length script.groups)
  pub watches : map (λ w. w.watch) run.watches ≡ numbers_below (length script.watches)

-- It has the form of a record of this script: it is counted so, and at most one image stands for each subscription of the
-- script, in order.
pub record IsFormed (script : ScriptData) (run : RunData) : Type 0 where
  pub counted : IsCounted script run
  pub images : in_order (objects_of script) (map (λ i. i.sub) run.images) ≡ true
