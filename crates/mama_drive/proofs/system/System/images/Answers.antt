use Rattle.std.specs.Arc.{arc_value}
use Rattle.std.proofs.Common.{◌≡◌, ◌∙◌, sym, subst, ap, map, List}
use Rattle.std.specs.List.{flat_map}
use Rattle.mama_record.specs.RunView.{images_of}
use Rattle.mama_rules_rounds.specs.Client.{Planned}
use Rattle.mama_seats.specs.Server.{Server}
use Rattle.mama_drive.specs.Scene.{Scene, journal_in, objects_in}
use Rattle.mama_drive.specs.Record.{images_by}
use Rattle.mama_drive.proofs.StageLemmas.{if_ok}
use Rattle.mama_drive.proofs.system.System.images.Goals as goal

pub all_images-requires : goal.all_images-requires
all_images-requires c =
    subst (λ (o : List Planned). map objects_in c.as_slice.result.now ≡ map (λ (s : Server). o) c.as_slice.result.now) (sym c.deref.ensures)
    (subst (λ (l : List Server). map objects_in l ≡ map (λ (s : Server). arc_value c.self.inside.plans) l) (sym c.as_slice.ensures.value) c.self.invariant.shared)

pub returns : goal.returns
returns c =
    if_ok {Q = λ found. images_of found.items ≡ flat_map (images_by c.args.self.now.objects (map journal_in c.args.self.now.servers)) c.args.self.now.objects} c.all_images.result
    (λ found is. is ∙ ap (λ (o : List Planned). flat_map (images_by o (map journal_in c.as_slice.result.now)) o) c.deref.ensures
    ∙ ap (λ (l : List Server). flat_map (images_by (arc_value c.self.inside.plans) (map journal_in l)) (arc_value c.self.inside.plans)) c.as_slice.ensures.value
    ∙ ap (λ (s : Scene). flat_map (images_by s.objects (map journal_in s.servers)) s.objects) c.self.view_is)
    c.all_images.ensures
