use Rattle.std.specs.Prelude.{map, length, is_some}
use Rattle.std.specs.List.{list_all}
use Rattle.std.proofs.Common.{List, [], ◌∷◌, ◌++◌, refl, ap, sym, ◌∙◌, subst, arith}
use Rattle.mama_event.specs.declared.ids.ObjectId.{ObjectId}
use Rattle.mama_event.specs.declared.ids.ObjectId.TheVariants.{Sub}
use Rattle.mama_event.specs.declared.callback.Callback.{Callback}
use Rattle.mama_dq.specs.Context.{ContextData}
use Rattle.mama_dq.specs.Strategy.{callbacks_of}
use Rattle.mama_rules_queue.specs.Queue.{handled, is_live}
use Rattle.mama_dispatch.specs.Seats.{listener_in, room_in, context_in, stepped, with_room, Fits}
use Rattle.mama_dispatch.specs.Seating.{is_plain, Seated}
use Rattle.mama_dispatch.proofs.CallBound.{calls_plain}
use Rattle.mama_dispatch.proofs.CallLemmas.{calls_same, calls_after}
use Rattle.mama_dispatch.specs.Turns.{put_note}
use Rattle.mama_dispatch.proofs.ServeLemmas.{fits_change, seated_room, seated_stepped, listener_room, context_room, listener_stepped, room_stepped, same_room, on_err}
use Rattle.mama_dispatch.proofs.KeepLemmas.{kept_then, kept_to, kept_room, kept_stepped}
use Rattle.mama_dispatch.proofs.AppendLemmas.{appended_from}
use Rattle.mama_dispatch.proofs.seats.Seats.deliver.Goals as goal

pub returns-in_err-reserve-2-clause-err : goal.returns-in_err-reserve-2-clause-err
returns-in_err-reserve-2-clause-err g c =
    on_err c.from_residual-in_err-reserve-2.result (ap (map (with_room 0)) c.reserve-2.ensures.seats ∙ same_room (Sub c.args.sub) _ c.args.self.now)

pub returns-in_err-step-clause-err : goal.returns-in_err-step-clause-err
returns-in_err-step-clause-err g c =
    on_err c.from_residual-in_err-step.result (ap (map (with_room 0)) (c.in_err-step.ensures.err ∙ c.reserve-2.ensures.seats) ∙ same_room (Sub c.args.sub) _ c.args.self.now)

pub step-requires : goal.step-requires
step-requires g c =
    let o : ObjectId = Sub c.args.sub in
    ap is_some (ap (listener_in o) c.reserve-2.ensures.seats ∙ listener_room o _ c.args.self.now) ∙ c.requires

pub call_all-requires : goal.call_all-requires
call_all-requires g c =
    let o : ObjectId = Sub c.args.sub in
    let m = c.args.msg.now in
    let room = ap (room_in o) c.in_ok-step.ensures.ok ∙ room_stepped o m c.reserve-2.new.self in
    let context = ap (context_in o) c.reserve-2.ensures.seats ∙ context_room o _ c.args.self.now in
    let pending = c.in_ok-step.ensures.pending ∙ ap (λ (cs : List Callback). cs ++ callbacks_of (context_in o c.reserve-2.new.self) m) c.new-pending.ensures ∙ ap (λ (x : ContextData). callbacks_of x m) context in
    record {
      here =
          ap is_some (ap (listener_in o) c.in_ok-step.ensures.ok ∙ listener_stepped o m c.reserve-2.new.self ∙ ap (listener_in o) c.reserve-2.ensures.seats ∙ listener_room o _ c.args.self.now) ∙ c.requires;
      room = omega (arith, room, ap length pending, c.most_calls-most.ensures.calls m, c.in_ok-reserve-2.ensures.ok);
      spare = omega (arith, ap length pending, c.most_calls-most.ensures.calls m, c.in_ok-reserve.ensures.ok);
      plain = ap (list_all is_plain) pending ∙ calls_plain (context_in o c.args.self.now) m;
    }

pub returns-clause-ok : goal.returns-clause-ok
returns-clause-ok g c =
    let o : ObjectId = Sub c.args.sub in
    let m = c.args.msg.now in
    let context = ap (context_in o) c.reserve-2.ensures.seats ∙ context_room o _ c.args.self.now in
    let pending = c.in_ok-step.ensures.pending ∙ ap (λ (cs : List Callback). cs ++ callbacks_of (context_in o c.reserve-2.new.self) m) c.new-pending.ensures ∙ ap (λ (x : ContextData). callbacks_of x m) context in
    record {
      kept =
          kept_then c.args.self.now c.reserve-2.new.self c.call_all.new.self (kept_to c.args.self.now _ c.reserve-2.new.self c.reserve-2.ensures.seats (kept_room o _ c.args.self.now))
          (kept_then c.reserve-2.new.self c.step.new.self c.call_all.new.self (kept_to c.reserve-2.new.self _ c.step.new.self c.in_ok-step.ensures.ok (kept_stepped o m c.reserve-2.new.self)) c.call_all.ensures.called.kept);
      fits = λ orders fits.
          fits_change orders o (with_room _) c.args.self.now (λ s. refl) (λ s. refl) (subst (Fits orders) c.reserve-2.ensures.seats
          (fits_change orders o (stepped m) c.reserve-2.new.self (λ s. refl) (λ s. refl) (subst (Fits orders) c.in_ok-step.ensures.ok (c.call_all.ensures.called.fits orders fits))));
      made = λ orders bs ds fits seated.
          calls_after orders bs (ds ++ handled c.args.sub m ∷ []) o (callbacks_of (context_in o c.args.self.now) m) c.call_all.new.self _ _ _ c.call_all.result (ap (map (put_note g.M.Tagged.tagged)) c.reserve.ensures.items)
          (calls_same orders bs (ds ++ handled c.args.sub m ∷ []) o c.step.new.pending (callbacks_of (context_in o c.args.self.now) m) c.call_all.new.self _ _ c.call_all.result pending
          (c.call_all.ensures.called.made orders bs (ds ++ handled c.args.sub m ∷ []) fits
          (subst (Seated (is_live (ds ++ handled c.args.sub m ∷ [])) (ds ++ handled c.args.sub m ∷ []) bs) (sym c.in_ok-step.ensures.ok)
          (seated_stepped ds c.args.sub m bs c.reserve-2.new.self (subst (Seated (is_live ds) ds bs) (sym c.reserve-2.ensures.seats) (seated_room (is_live ds) ds o _ bs c.args.self.now seated))))));
    }

pub returns-clause-appended : goal.returns-clause-appended
returns-clause-appended g c = appended_from _ _ _ c.reserve.ensures.items c.call_all.ensures.appended
