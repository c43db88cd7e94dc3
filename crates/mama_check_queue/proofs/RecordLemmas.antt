-- What the queue of an object says of it, where its journal and the plans are those of all queues.
use Rattle.std.specs.Prelude.{slice_index_or}
use Rattle.std.proofs.Common.{◌≡◌, ℕ, ◌<◌, ◌≤◌, List, [], length, map, get_or, ap, sym, ◌∙◌}
use Rattle.std.proofs.lemmas.List.{get_or-map, get_or_past, length-map}
use Rattle.mama_event.specs.declared.ids.ObjectId.{ObjectId}
use Rattle.mama_event.specs.declared.ids.SubId.{SubId}
use Rattle.mama_event.specs.declared.ids.ObjectId.TheVariants.{Sub}
use Rattle.mama_rules_queue.specs.Queue.{deeds, calls_of}
use Rattle.mama_rules_rounds.specs.Client.{Planned}
use Rattle.mama_rules_rounds.specs.Told.{noted}
use Rattle.mama_plans.specs.Orders.{orders_in}
use Rattle.mama_check_queue.specs.Served.{ServedData, last_image_of}
use Rattle.mama_check_queue.specs.Recorded.{journals_of, AreOf, image_by}

module _ (objects : List Planned) (served : List ServedData) (q : ℕ) where
  own_objects : (x : ServedData) → AreOf objects served → q < length served → x ≡ get_or served q x → x.objects ≡ objects
  own_objects x shared within is = ap (λ (s : ServedData). s.objects) is ∙ shared q x within

  journal_here : (x : ServedData) → q < length served → x ≡ get_or served q x → x.journal ≡ slice_index_or (journals_of served) q []
  journal_here x within is = ap (λ (s : ServedData). s.journal) is ∙ sym (get_or-map (λ (s : ServedData). s.journal) served q x [] within)

  journal_past : length served ≤ q → [] ≡ slice_index_or (journals_of served) q []
  journal_past past = let beyond : length (journals_of served) ≤ q = simp length-map past in sym (get_or_past (journals_of served) q [] beyond)

  pub calls_here : (o : ObjectId) (x : ServedData) → AreOf objects served → q < length served → x ≡ get_or served q x
      → map noted (calls_of o (deeds (orders_in x.objects) x.journal)) ≡ map noted (calls_of o (deeds (orders_in objects) (slice_index_or (journals_of served) q [])))
  calls_here o x shared within is =
      ap (λ k. map noted (calls_of o (deeds (orders_in k) x.journal))) (own_objects x shared within is)
      ∙ ap (λ j. map noted (calls_of o (deeds (orders_in objects) j))) (journal_here x within is)

  -- past the last queue there are none
  pub calls_past : (o : ObjectId) → length served ≤ q → [] ≡ map noted (calls_of o (deeds (orders_in objects) (slice_index_or (journals_of served) q [])))
  calls_past o past = ap (λ j. map noted (calls_of o (deeds (orders_in objects) j))) (journal_past past)

  pub image_here : (s : SubId) (x : ServedData) → AreOf objects served → q < length served → x ≡ get_or served q x
      → last_image_of x s ≡ image_by objects (slice_index_or (journals_of served) q []) (Sub s)
  image_here s x shared within is =
      ap (λ k. last_image_of (record { objects = k; groups = []; watches = []; journal = x.journal }) s) (own_objects x shared within is)
      ∙ ap (λ j. last_image_of (record { objects = objects; groups = []; watches = []; journal = j }) s) (journal_here x within is)

  pub image_past : (s : SubId) → length served ≤ q → [] ≡ image_by objects (slice_index_or (journals_of served) q []) (Sub s)
  image_past s past = ap (λ j. last_image_of (record { objects = objects; groups = []; watches = []; journal = j }) s) (journal_past past)
