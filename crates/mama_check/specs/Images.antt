-- believed: The last images that a record has, object by object.
use Rattle.std.specs.Prelude.{◌≡◌, ℕ, List, [], ◌∷◌, filter, Some, slice_get, if◌then◌else◌}
use Rattle.mama_event.specs.declared.ids.SubId.{SubId}
use Rattle.mama_event.specs.declared.ids.ObjectId.{ObjectId}
use Rattle.mama_event.specs.declared.ids.ObjectId.TheVariants.{Sub, Timer, Inbox}
use Rattle.mama_event.specs.Object.{same_sub}
use Rattle.mama_script.specs.Script.{ScriptData}
use Rattle.mama_record.specs.RunData.{RunData, LastImage}
use Rattle.mama_rules_rounds.specs.Client.{Planned}
use Rattle.mama_rules_rounds.specs.Sections.{setting_of}
use Rattle.mama_rules_rounds.specs.Told.{last_image}

-- the images that stand for an object; only a subscription has one
abbrev pub images_for : ObjectId → List LastImage → List LastImage
images_for (Sub s) images = filter (λ i. same_sub i.sub s) images
images_for (Timer t) images = []
images_for (Inbox i) images = []

-- the images at the head of some that stand for a subscription, at most one, and what is left behind them
abbrev pub own_first : SubId → List LastImage → List LastImage
own_first s [] = []
own_first s (i ∷ images) = if same_sub i.sub s then i ∷ [] else []

abbrev pub own_rest : SubId → List LastImage → List LastImage
own_rest s [] = []
own_rest s (i ∷ images) = if same_sub i.sub s then images else i ∷ images

-- the same of an object; only a subscription has an image
abbrev pub first_for : ObjectId → List LastImage → List LastImage
first_for (Sub s) images = own_first s images
first_for (Timer t) images = []
first_for (Inbox i) images = []

abbrev pub rest_for : ObjectId → List LastImage → List LastImage
rest_for (Sub s) images = own_rest s images
rest_for (Timer t) images = images
rest_for (Inbox i) images = images

-- What stands for the object of this number is what the strategy leaves when its Gone is taken: an image, or none. Objects
-- are numbered as the record has them: subscriptions, timers and then inboxes.
abbrev pub KeepsImage : ScriptData → RunData → ℕ → Type 0
KeepsImage script run k = (p : Planned) → slice_get (setting_of script).objects k ≡ Some p
    → images_for p.object run.images ≡ last_image (setting_of script) run.queues p
