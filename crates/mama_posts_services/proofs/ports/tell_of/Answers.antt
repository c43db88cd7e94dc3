use Rattle.std.specs.Prelude.{Some}
use Rattle.std.specs.List.{slice_get}
use Rattle.std.proofs.Common.{◌≡◌, length, map, refl, sym, ap, ◌∙◌}
use Rattle.std.specs.Option.{option_map}
use Rattle.std.proofs.lemmas.Option.{slice_get_read, slice_get-map}
use Rattle.mama_lane.specs.Values.{NoteValue, note_of_port}
use Rattle.mama_ends.proofs.Answered.{if_ok}
use Rattle.mama_posts_services.proofs.PortsLemmas.{lane_at}
use Rattle.mama_posts_services.proofs.ports.tell_of.Goals as goal

pub tell-requires : goal.tell-requires
tell-requires g c =
    lane_at c.args.number c.args.ports.now.items c.args.lanes.now c.index_mut-port.result.now c.index-lanes-number.result c.requires.lanes c.requires.there c.index_mut-port.ensures.value c.index-lanes-number.is

pub returns-clause-note : goal.returns-clause-note
returns-clause-note g c =
    let ports = c.args.ports.now.items in
    let port = c.index_mut-port.result.now in
    let at : slice_get ports c.args.number ≡ Some port = slice_get_read ports (length ports) c.args.number port refl c.requires.there c.index_mut-port.ensures.value in
    if_ok (λ (note : NoteValue g.row.E-Note.Denot). note ≡ note_of_port port) (λ (note : NoteValue g.row.E-Note.Denot). slice_get (map (note_of_port {N = g.row.E-Note.Denot}) ports) c.args.number ≡ Some note) c.tell.result
    (λ note is. slice_get-map (note_of_port {N = g.row.E-Note.Denot}) ports c.args.number ∙ ap (option_map (note_of_port {N = g.row.E-Note.Denot})) at ∙ ap Some (sym is))
    c.tell.ensures.note
