use Rattle.std.specs.Prelude.{map, is_some}
use Rattle.std.proofs.Common.{[], ◌∷◌, refl, ap, sym, ◌∙◌, subst}
use Rattle.mama_event.specs.declared.ids.ObjectId.{ObjectId}
use Rattle.mama_dispatch.specs.Seats.{listener_in, is_muted_in, with_room, Fits}
use Rattle.mama_rules_queue.specs.Queue.{is_live}
use Rattle.mama_dispatch.specs.Seating.{Seated}
use Rattle.mama_dispatch.proofs.CallLemmas.{once_fits, once_made, calls_after}
use Rattle.mama_dispatch.specs.Turns.{put_note}
use Rattle.mama_dispatch.proofs.ServeLemmas.{fits_change, seated_room, listener_room, muted_room, same_room}
use Rattle.mama_dispatch.proofs.KeepLemmas.{kept_then, kept_to, kept_room, kept_once}
use Rattle.mama_dispatch.proofs.AppendLemmas.{appended_from}
use Rattle.mama_dispatch.proofs.seats.Seats.tell.Goals as goal

pub call_put-requires-clause-here : goal.call_put-requires-clause-here
call_put-requires-clause-here g c =
    ap is_some (ap (listener_in c.args.object.now) c.reserve-2.ensures.seats ∙ listener_room c.args.object.now _ c.args.self.now) ∙ c.requires.here

pub returns-then-is_err-2-clause-err : goal.returns-then-is_err-2-clause-err
returns-then-is_err-2-clause-err g c = ap (map (with_room 0)) c.reserve-2.ensures.seats ∙ same_room c.args.object.now _ c.args.self.now

pub returns-clause-called : goal.returns-clause-called
returns-clause-called g c =
    let o : ObjectId = c.args.object.now in
    record {
      kept =
          kept_then c.args.self.now c.reserve-2.new.self c.call_put.new.self (kept_to c.args.self.now _ c.reserve-2.new.self c.reserve-2.ensures.seats (kept_room o _ c.args.self.now))
          (kept_once o c.args.call c.reserve-2.new.self c.call_put.new.self _ _ c.call_put.ensures.once);
      fits = λ orders fits.
          fits_change orders o (with_room _) c.args.self.now (λ s. refl) (λ s. refl) (subst (Fits orders) c.reserve-2.ensures.seats
          (once_fits o c.args.call c.reserve-2.new.self c.call_put.new.self _ _ c.call_put.ensures.once orders fits));
      made = λ orders bs ds fits seated.
          calls_after orders bs ds o (c.args.call ∷ []) c.call_put.new.self _ _ _ 1 (ap (map (put_note g.M.Tagged.tagged)) c.reserve.ensures.items)
          (once_made orders bs ds o c.args.call c.reserve-2.new.self c.call_put.new.self _ _ c.call_put.ensures.once
          (ap is_some (ap (listener_in o) c.reserve-2.ensures.seats ∙ listener_room o _ c.args.self.now) ∙ c.requires.here)
          c.requires.plain
          (ap (is_muted_in o) c.reserve-2.ensures.seats ∙ muted_room o _ c.args.self.now ∙ c.requires.unmuted)
          fits (subst (Seated (is_live ds) ds bs) (sym c.reserve-2.ensures.seats) (seated_room (is_live ds) ds o _ bs c.args.self.now seated)));
    }

pub returns-clause-appended : goal.returns-clause-appended
returns-clause-appended g c = appended_from _ _ _ c.reserve.ensures.items c.call_put.ensures.appended
