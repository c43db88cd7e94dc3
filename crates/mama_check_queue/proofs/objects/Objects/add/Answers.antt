use Rattle.std.specs.Prelude.{map, position}
use Rattle.std.specs.List.{list_any}
use Rattle.std.proofs.Common.{◌≡◌, List, [], ◌∷◌, ◌++◌, length, ap, ◌∙◌, arith}
use Rattle.mama_event.specs.declared.ids.ObjectId.{ObjectId}
use Rattle.mama_event.specs.Object.{same_object}
use Rattle.mama_check_queue.specs.declared.seen.Seen.{Seen}
use Rattle.mama_check_queue.specs.Rows.{SeenObjects, seen_data, row_of}
use Rattle.mama_check_queue.proofs.RowLemmas.{new_place, opened}
use Rattle.mama_check_queue.proofs.objects.Objects.add.Goals as goal

pub add_place-requires : goal.add_place-requires
add_place-requires c = ap (λ (s : SeenObjects). list_any (same_object c.args.object.now) s.ids) c.self.view_is ∙ c.requires

pub returns-clause-some : goal.returns-clause-some
returns-clause-some c =
    let o = c.args.object.now in
    ap (position (same_object o)) c.in_ok-add_place.ensures.ok
    ∙ new_place o c.self.inside.places.keys c.len-place.result (ap (λ (s : SeenObjects). list_any (same_object o) s.ids) c.self.view_is ∙ c.requires) (let count : length c.self.inside.places.keys ≡ c.len-place.result = omega (arith, c.self.invariant, c.len-place.ensures) in count)

pub returns-clause-same : goal.returns-clause-same
returns-clause-same c = λ x.
    let o = c.args.object.now in
    let keys : List ObjectId = c.self.inside.places.keys in
    let row = c.new_seen.result in
    ap (λ (ids : List ObjectId). row_of x ids (map seen_data c.push_reserved.new.self.items)) c.in_ok-add_place.ensures.ok
    ∙ ap (λ (rs : List Seen). row_of x (keys ++ o ∷ []) (map seen_data rs)) (c.push_reserved.ensures.items ∙ ap (λ (rs : List Seen). rs ++ row ∷ []) c.in_ok-reserve.ensures.items)
    ∙ opened keys c.self.inside.rows.items o row c.args.self.now c.self.invariant c.self.view_is c.new_seen.ensures x
