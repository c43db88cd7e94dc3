use Rattle.std.proofs.Common.{◌≡◌, List, arith, drop, refl, sym, subst, ◌∙◌, ap, ◌++◌, ◌∷◌, []}
use Rattle.mama_msg.specs.Field.{FieldData}
use Rattle.mama_event.specs.Wire.{market_of}
use Rattle.mama_event.specs.declared.market.MarketMsg.{MarketMsg}
use Rattle.mama_event.specs.declared.publisher_entry.PublisherEntry.TheVariants as entry
use Rattle.mama_seats.specs.Past.{is_empty_send}
use Rattle.mama_seats.specs.Sender.{Progress, sender_in, IsSeatedIn}
use Rattle.mama_seats.proofs.SenderLemmas.{seated_still, sender_ends_at, update_seats, update_steps, recap_seats, recap_steps, sender_pause_moves, pause_seats}
use Rattle.mama_seats.proofs.PastLemmas.{senders_past, sender_step_past, seated_past_all, test_fails, send_pause_counts}
use Rattle.mama_seats.proofs.publisher_state.PublisherState.go_on.Goals as goal

pub returns-then-line-lines-clause-step : goal.returns-then-line-lines-clause-step
returns-then-line-lines-clause-step c =
    sender_step_past (sender_in c.args.base.now c.args.lines.now c.args.self.now) _ _
    (sender_ends_at _ _ c.args.lines.now c.next_at-line.result _ (senders_past c.args.base.now c.args.lines.now _ c.args.self.now c.next_at-line.result c.self.view_is c.next_at-line.ensures)
    (ap (λ (w : Progress). w.over) c.self.view_is ∙ c.requires.going) (ap (λ (w : Progress). w.pause) c.self.view_is ∙ c.requires.awake) refl c.if-line-lines.true
    (c.note_done.ensures ∙ ap (λ j. j ++ entry.Done ∷ []) c.reserve.ensures.items))

pub returns-then-line-lines-clause-seated : goal.returns-then-line-lines-clause-seated
returns-then-line-lines-clause-seated c =
    let before = subst (IsSeatedIn c.args.base.now c.args.lines.now) (sym c.self.view_is) c.requires.seated in
    let seated = seated_past_all _ c.self.inside.journal.items c.self.inside.publisher _ (drop c.next_at-line.result c.args.lines.now) before c.next_at-line.ensures in
    rw (c.note_done.ensures, c.reserve.ensures.items)
    (seated_still _ c.self.inside.journal.items c.self.inside.publisher _ entry.Done seated refl
    (c.telling_the_end_of_sends.ensures _ c.self.inside.journal.items c.self.inside.publisher seated.stands).stands)

pub returns-in-Ok-clause-step : goal.returns-in-Ok-clause-step
returns-in-Ok-clause-step c =
    let before = subst (IsSeatedIn c.args.base.now c.args.lines.now) (sym c.self.view_is) c.requires.seated in
    let seated = seated_past_all _ c.self.inside.journal.items c.self.inside.publisher _ (drop c.next_at-line.result c.args.lines.now) before c.next_at-line.ensures in
    let awake : c.self.inside.pause ≡ 0 = ap (λ (w : Progress). w.pause) c.self.view_is ∙ c.requires.awake in
    sender_step_past (sender_in c.args.base.now c.args.lines.now c.args.self.now) _ _
    (update_steps c.sending_an_update.ensures _ _ c.args.base.now c.args.lines.now c.self.inside.publisher _ c.next_at-line.result c.index-lines-line.result c.in-Update.body (market_of c.with_body-msg.result) _ _
    (senders_past c.args.base.now c.args.lines.now _ c.args.self.now c.next_at-line.result c.self.view_is c.next_at-line.ensures) refl (ap (λ (w : Progress). w.over) c.self.view_is ∙ c.requires.going) (omega (arith, awake)) refl c.if-line-lines.false c.index-lines-line.is c.in-Update.is
    seated c.in-Ok.ensures.ok (c.with_body-msg.ensures ∙ ap (λ (b : List FieldData). record c.in-Ok.msg { body = b }) (c.in_ok-packet-in-Update.ensures ∙ sym (ap (λ (m : MarketMsg). m.body) c.in-Ok.ensures.sent)) ∙ c.in-Ok.ensures.sent)
    (c.note_send.ensures ∙ ap (λ j. j ++ entry.Send ∷ []) c.reserve.ensures.items) refl)

pub returns-in-Ok-clause-seated : goal.returns-in-Ok-clause-seated
returns-in-Ok-clause-seated c =
    let before = subst (IsSeatedIn c.args.base.now c.args.lines.now) (sym c.self.view_is) c.requires.seated in
    let seated = seated_past_all _ c.self.inside.journal.items c.self.inside.publisher _ (drop c.next_at-line.result c.args.lines.now) before c.next_at-line.ensures in
    update_seats c.sending_an_update.ensures c.args.base.now c.args.lines.now c.self.inside.journal.items _ c.self.inside.publisher _ c.next_at-line.result c.index-lines-line.result c.in-Update.body
    seated c.if-line-lines.false c.index-lines-line.is c.in-Update.is c.in-Ok.ensures.ok (c.note_send.ensures ∙ ap (λ j. j ++ entry.Send ∷ []) c.reserve.ensures.items)

pub returns-in_ok-msg-in-Recap-clause-step : goal.returns-in_ok-msg-in-Recap-clause-step
returns-in_ok-msg-in-Recap-clause-step c =
    let before = subst (IsSeatedIn c.args.base.now c.args.lines.now) (sym c.self.view_is) c.requires.seated in
    let seated = seated_past_all _ c.self.inside.journal.items c.self.inside.publisher _ (drop c.next_at-line.result c.args.lines.now) before c.next_at-line.ensures in
    let awake : c.self.inside.pause ≡ 0 = ap (λ (w : Progress). w.pause) c.self.view_is ∙ c.requires.awake in
    sender_step_past (sender_in c.args.base.now c.args.lines.now c.args.self.now) _ _
    (recap_steps c.sending_a_recap.ensures _ _ c.self.inside.publisher c.args.lines.now c.next_at-line.result c.index-lines-line.result (market_of c.in_ok-msg-in-Recap.msg) _ _
    (senders_past c.args.base.now c.args.lines.now _ c.args.self.now c.next_at-line.result c.self.view_is c.next_at-line.ensures) (ap (λ (w : Progress). w.over) c.self.view_is ∙ c.requires.going) (omega (arith, awake)) refl c.if-line-lines.false c.index-lines-line.is c.in-Recap.is
    seated (c.in_ok-msg-in-Recap.ensures ∙ c.in_ok-image-in-Recap.ensures)
    (c.note_send-in-Recap.ensures ∙ ap (λ j. j ++ entry.Send ∷ []) c.reserve.ensures.items) refl)

pub returns-in_ok-msg-in-Recap-clause-seated : goal.returns-in_ok-msg-in-Recap-clause-seated
returns-in_ok-msg-in-Recap-clause-seated c =
    let before = subst (IsSeatedIn c.args.base.now c.args.lines.now) (sym c.self.view_is) c.requires.seated in
    let seated = seated_past_all _ c.self.inside.journal.items c.self.inside.publisher _ (drop c.next_at-line.result c.args.lines.now) before c.next_at-line.ensures in
    recap_seats c.sending_a_recap.ensures _ c.self.inside.journal.items _ c.self.inside.publisher c.args.lines.now c.next_at-line.result c.index-lines-line.result
    seated c.if-line-lines.false c.index-lines-line.is c.in-Recap.is (c.note_send-in-Recap.ensures ∙ ap (λ j. j ++ entry.Send ∷ []) c.reserve.ensures.items)

pub returns-in-Pause-clause-step : goal.returns-in-Pause-clause-step
returns-in-Pause-clause-step c =
    let awake : c.self.inside.pause ≡ 0 = ap (λ (w : Progress). w.pause) c.self.view_is ∙ c.requires.awake in
    let some = send_pause_counts c.index-lines-line.result c.in-Pause.steps c.in-Pause.is
    (test_fails is_empty_send c.args.lines.now (drop c.self.inside.line c.args.lines.now) c.next_at-line.result c.index-lines-line.result c.if-line-lines.false c.index-lines-line.is c.next_at-line.ensures) in
    sender_step_past (sender_in c.args.base.now c.args.lines.now c.args.self.now) _ _
    (sender_pause_moves _ _ c.args.lines.now c.next_at-line.result _ c.in-Pause.steps c.index-lines-line.result _ _
    (senders_past c.args.base.now c.args.lines.now _ c.args.self.now c.next_at-line.result c.self.view_is c.next_at-line.ensures) (ap (λ (w : Progress). w.over) c.self.view_is ∙ c.requires.going) (omega (arith, awake)) refl c.if-line-lines.false c.index-lines-line.is c.in-Pause.is
    (omega (arith, some)) c.reserve.ensures.items refl)

pub returns-in-Pause-clause-seated : goal.returns-in-Pause-clause-seated
returns-in-Pause-clause-seated c =
    let before = subst (IsSeatedIn c.args.base.now c.args.lines.now) (sym c.self.view_is) c.requires.seated in
    let seated = seated_past_all _ c.self.inside.journal.items c.self.inside.publisher _ (drop c.next_at-line.result c.args.lines.now) before c.next_at-line.ensures in
    pause_seats _ c.self.inside.journal.items _ c.self.inside.publisher c.args.lines.now c.next_at-line.result c.in-Pause.steps c.index-lines-line.result
    seated c.if-line-lines.false c.index-lines-line.is c.in-Pause.is c.reserve.ensures.items

pub overflow_sub-self : goal.overflow_sub-self
overflow_sub-self c =
    send_pause_counts c.index-lines-line.result c.in-Pause.steps c.in-Pause.is
    (test_fails is_empty_send c.args.lines.now (drop c.self.inside.line c.args.lines.now) c.next_at-line.result c.index-lines-line.result c.if-line-lines.false c.index-lines-line.is c.next_at-line.ensures)
