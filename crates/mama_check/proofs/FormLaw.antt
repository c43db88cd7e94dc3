-- A legal record has the form of the script's records: its images stand in the order of the objects.
use Rattle.std.specs.Prelude.{if◌then◌else◌}
use Rattle.std.specs.List.{flat_map}
use Rattle.std.proofs.Common.{◌≡◌, ℕ, Bool, true, false, List, [], ◌∷◌, ◌++◌, map, length, refl, sym, ◌∙◌, ap, subst}
use Rattle.std.proofs.lemmas.List.{length-map}
use Rattle.mama_event.specs.Object.{same_object}
use Rattle.mama_event.specs.declared.ids.ObjectId.{ObjectId}
use Rattle.mama_event.specs.declared.ids.ObjectId.TheVariants.{Sub, Timer, Inbox}
use Rattle.mama_event.specs.declared.market.ImageHead.{ImageHead}
use Rattle.mama_event.specs.declared.to_queue.QueueNote.{QueueNote}
use Rattle.mama_msg.specs.Field.{FieldData}
use Rattle.mama_record.specs.RunData.{LastImage, ObjectCalls, GroupNotes, WatchNotes}
use Rattle.mama_rules_rounds.specs.Client.{Planned, clock_lines}
use Rattle.mama_rules_rounds.specs.Setting.{Setting}
use Rattle.mama_rules_rounds.specs.Sections.{setting_of, planned_in}
use Rattle.mama_rules_rounds.specs.Told.{object_calls, last_image, group_told, watch_told}
use Rattle.mama_rules_legal.specs.Form.{objects_of, in_order}
use Rattle.mama_check.specs.Images.{images_for}
use Rattle.mama_check.specs.Kept.{LegalIsFormed}
use Rattle.mama_check.proofs.Alone.{AreAlone, alone_rest, alone_here, objects_alone}
use Rattle.mama_check.proofs.ImageLemmas.{object_of, sub_of, Stand, is_same, absent}
use Rattle.mama_check.proofs.ListLemmas.{groups_numbered, watches_numbered}
use Rattle.mama_check.proofs.VerdictLemmas.{image_cases, context}

-- ---- images

-- images of later objects stand so behind one that has none
behind : (p : Planned) (ps : List Planned) (images : List LastImage) → AreAlone (p ∷ ps) → Stand ps images → Stand (p ∷ ps) images
behind p ps [] alone order = record { stands = refl }
behind p ps (i ∷ images) alone order = at (same_object p.object (Sub i.sub)) refl
  where
    no_list : (one : LastImage) (more : List LastImage) → one ∷ more ≡ [] → ⊥
    no_list one more none = cc

    at : (b : Bool) → same_object p.object (Sub i.sub) ≡ b → Stand (p ∷ ps) (i ∷ images)
    at true own = absurd (no_list i (images_for (Sub i.sub) images)
        (sym (ap (λ (b : Bool). if b then i ∷ images_for (Sub i.sub) images else images_for (Sub i.sub) images) (is_same i.sub i.sub refl))
        ∙ absent i.sub ps (i ∷ images) (alone_here i.sub p ps alone own) order))
    at false other = record {
      stands = ap (λ (b : Bool). if b then in_order (map object_of ps) (map sub_of images) else in_order (map object_of ps) (map sub_of (i ∷ images))) other ∙ order.stands;
    }

-- and behind its own image
with_own : (p : Planned) (ps : List Planned) (i : LastImage) (images : List LastImage) → same_object p.object (Sub i.sub) ≡ true → Stand ps images → Stand (p ∷ ps) (i ∷ images)
with_own p ps i images own order = record {
  stands = ap (λ (b : Bool). if b then in_order (map object_of ps) (map sub_of images) else in_order (map object_of ps) (map sub_of (i ∷ images))) own ∙ order.stands;
}

module _ (setting : Setting) (queues : List (List (ℕ × QueueNote))) where
  one_more : (p : Planned) (ps : List Planned) (images : List LastImage) → AreAlone (p ∷ ps) → Stand ps images → (o : ObjectId) → p.object ≡ o
      → Stand (p ∷ ps) (last_image setting queues (record p { object = o }) ++ images)
  one_more p ps images alone order (Sub s) is =
      image_cases (λ (own : List LastImage). Stand (p ∷ ps) (own ++ images)) s (context setting queues p s) (behind p ps images alone order)
      (λ (h : ImageHead) (b : List FieldData). with_own p ps (record { sub = s; head = h; body = b }) images (ap (λ (o : ObjectId). same_object o (Sub s)) is ∙ is_same s s refl) order)
  one_more p ps images alone order (Timer t) is = behind p ps images alone order
  one_more p ps images alone order (Inbox t) is = behind p ps images alone order

  all_stand : (ps : List Planned) → AreAlone ps → Stand ps (flat_map (last_image setting queues) ps)
  all_stand [] alone = record { stands = refl }
  all_stand (p ∷ ps) alone =
      one_more p ps (flat_map (last_image setting queues) ps) alone (all_stand ps (alone_rest p ps alone)) p.object refl

  -- ---- callbacks

  calls_of_each : (ps : List Planned) → map (λ (c : ObjectCalls). c.object) (map (object_calls setting queues) ps) ≡ map object_of ps
  calls_of_each [] = refl
  calls_of_each (p ∷ ps) = ap (λ (os : List ObjectId). p.object ∷ os) (calls_of_each ps)

pub legal_is_formed : LegalIsFormed
legal_is_formed script run legal =
    let setting : Setting = setting_of script in
    record {
      counted = record {
        clients = sym (length-map run.clients length) ∙ ap length legal.shaped.moments ∙ length-map script.clients clock_lines;
        publishers = legal.shaped.publishers;
        queues = legal.shaped.queues;
        objects = ap (map (λ (c : ObjectCalls). c.object)) legal.calls.calls ∙ calls_of_each setting run.queues setting.objects;
        groups = ap (map (λ (g : GroupNotes). g.group)) legal.lists.groups ∙ groups_numbered (planned_in script) script.groups (group_told setting run.queues) (λ g. refl);
        watches = ap (map (λ (w : WatchNotes). w.watch)) legal.lists.watches ∙ watches_numbered (planned_in script) script.watches (watch_told setting run.queues) (λ w. refl);
      };
      images = subst (λ (images : List LastImage). in_order (objects_of script) (map sub_of images) ≡ true) (sym legal.calls.images)
          (all_stand setting run.queues setting.objects (objects_alone script)).stands;
    }
