use Rattle.std.specs.Prelude.{map, IfOk, OnOk}
use Rattle.std.proofs.Common.{ap, sym, ◌∙◌, subst}
use Rattle.std.proofs.lemmas.Result.{IfOk-weaker}
use Rattle.mama_event.specs.ToQueue.{note_code}
use Rattle.mama_event.specs.Listener.{told}
use Rattle.mama_event.specs.declared.ids.ObjectId.TheVariants.{Sub, Inbox}
use Rattle.mama_event.specs.declared.callback.Callback.TheVariants as on
use Rattle.mama_event.specs.declared.to_queue.QueueNote.{QueueNote}
use Rattle.mama_event.specs.declared.to_queue.QueueNote.TheVariants as q
use Rattle.mama_dispatch.specs.Turns.{put_note}
use Rattle.mama_dispatch.specs.Standing.{Serves, MayServe}
use Rattle.mama_dispatch.specs.Answering.{Answers}
use Rattle.mama_dispatch.proofs.ServeLemmas.{telling_bad, telling_bad_reply, serves_each_told, serves_fin}
use Rattle.mama_dispatch.proofs.AnswerLemmas.{answers_what_was_told}
use Rattle.mama_dispatch.proofs.KeepLemmas.{kept_with, kept_same, kept_each_told}
use Rattle.mama_dispatch.proofs.entries.serve_noted.Goals as goal

pub serve_deliver-requires : goal.serve_deliver-requires
serve_deliver-requires g c = subst (λ (n : QueueNote). MayServe n c.args.seats.now) c.in-Deliver.is c.requires.may

pub returns-in-Deliver-clause-ok : goal.returns-in-Deliver-clause-ok
returns-in-Deliver-clause-ok g c =
    subst (λ (n : QueueNote). OnOk c.serve_deliver.result (Serves n c.args.seats.now c.serve_deliver.new.seats (map (put_note g.M.Tagged.tagged) c.args.out.now.items) (map (put_note g.M.Tagged.tagged) c.serve_deliver.new.out.items))) (sym c.in-Deliver.is)
    (IfOk-weaker c.serve_deliver.result _ _ (λ answer all. all c.in-Deliver.slot) c.serve_deliver.ensures.ok)

pub returns-in-Deliver-clause-answer : goal.returns-in-Deliver-clause-answer
returns-in-Deliver-clause-answer g c =
    subst (λ (n : QueueNote). IfOk c.serve_deliver.result (λ answer. Answers (told g.L.Tagged.tagged g.L.Listener.calls g.L.Listener.heard g.L.Listener.given g.L.Listener.plan) n c.args.seats.now c.serve_deliver.new.seats answer)) (sym c.in-Deliver.is)
    (IfOk-weaker c.serve_deliver.result _ _ (λ answer all. all c.in-Deliver.slot) c.serve_deliver.ensures.answer)

pub serve_reply-requires : goal.serve_reply-requires
serve_reply-requires g c = subst (λ (n : QueueNote). MayServe n c.args.seats.now) c.in-Reply.is c.requires.may

pub returns-in-Reply-clause-ok : goal.returns-in-Reply-clause-ok
returns-in-Reply-clause-ok g c =
    subst (λ (n : QueueNote). OnOk c.serve_reply.result (Serves n c.args.seats.now c.serve_reply.new.seats (map (put_note g.M.Tagged.tagged) c.args.out.now.items) (map (put_note g.M.Tagged.tagged) c.serve_reply.new.out.items))) (sym c.in-Reply.is)
    (IfOk-weaker c.serve_reply.result _ _ (λ answer all. all c.in-Reply.slot) c.serve_reply.ensures.ok)

pub returns-in-Reply-clause-answer : goal.returns-in-Reply-clause-answer
returns-in-Reply-clause-answer g c =
    subst (λ (n : QueueNote). IfOk c.serve_reply.result (λ answer. Answers (told g.L.Tagged.tagged g.L.Listener.calls g.L.Listener.heard g.L.Listener.given g.L.Listener.plan) n c.args.seats.now c.serve_reply.new.seats answer)) (sym c.in-Reply.is)
    (IfOk-weaker c.serve_reply.result _ _ (λ answer all. all c.in-Reply.slot) c.serve_reply.ensures.answer)

pub serve_tick-requires : goal.serve_tick-requires
serve_tick-requires g c = subst (λ (n : QueueNote). MayServe n c.args.seats.now) c.in-Tick.is c.requires.may

pub returns-in-Tick-clause-ok : goal.returns-in-Tick-clause-ok
returns-in-Tick-clause-ok g c =
    subst (λ (n : QueueNote). OnOk c.serve_tick.result (Serves n c.args.seats.now c.serve_tick.new.seats (map (put_note g.M.Tagged.tagged) c.args.out.now.items) (map (put_note g.M.Tagged.tagged) c.serve_tick.new.out.items))) (sym c.in-Tick.is)
    (IfOk-weaker c.serve_tick.result _ _ (λ answer all. all c.in-Tick.slot) c.serve_tick.ensures.ok)

pub returns-in-Tick-clause-answer : goal.returns-in-Tick-clause-answer
returns-in-Tick-clause-answer g c =
    subst (λ (n : QueueNote). IfOk c.serve_tick.result (λ answer. Answers (told g.L.Tagged.tagged g.L.Listener.calls g.L.Listener.heard g.L.Listener.given g.L.Listener.plan) n c.args.seats.now c.serve_tick.new.seats answer)) (sym c.in-Tick.is)
    (IfOk-weaker c.serve_tick.result _ _ (λ answer all. all c.in-Tick.slot) c.serve_tick.ensures.answer)

pub serve_gone-requires : goal.serve_gone-requires
serve_gone-requires g c = subst (λ (n : QueueNote). MayServe n c.args.seats.now) c.in-Gone.is c.requires.may

pub returns-in-Gone-clause-ok : goal.returns-in-Gone-clause-ok
returns-in-Gone-clause-ok g c =
    subst (λ (n : QueueNote). OnOk c.serve_gone.result (Serves n c.args.seats.now c.serve_gone.new.seats (map (put_note g.M.Tagged.tagged) c.args.out.now.items) (map (put_note g.M.Tagged.tagged) c.serve_gone.new.out.items))) (sym c.in-Gone.is)
    (IfOk-weaker c.serve_gone.result _ _ (λ answer all. all c.in-Gone.slot) c.serve_gone.ensures.ok)

pub returns-in-Gone-clause-answer : goal.returns-in-Gone-clause-answer
returns-in-Gone-clause-answer g c =
    subst (λ (n : QueueNote). IfOk c.serve_gone.result (λ answer. Answers (told g.L.Tagged.tagged g.L.Listener.calls g.L.Listener.heard g.L.Listener.given g.L.Listener.plan) n c.args.seats.now c.serve_gone.new.seats answer)) (sym c.in-Gone.is)
    (IfOk-weaker c.serve_gone.result _ _ (λ answer all. all c.in-Gone.slot) c.serve_gone.ensures.answer)

pub serve_bad-requires : goal.serve_bad-requires
serve_bad-requires g c = subst (λ (n : QueueNote). MayServe n c.args.seats.now) c.in-Bad.is c.requires.may

pub returns-in-Bad-clause-ok : goal.returns-in-Bad-clause-ok
returns-in-Bad-clause-ok g c =
    subst (λ (n : QueueNote). OnOk c.serve_bad.result (Serves n c.args.seats.now c.serve_bad.new.seats (map (put_note g.M.Tagged.tagged) c.args.out.now.items) (map (put_note g.M.Tagged.tagged) c.serve_bad.new.out.items))) (sym c.in-Bad.is)
    (serves_each_told c.serve_bad.result (q.Bad c.in-Bad.slot c.in-Bad.sub c.in-Bad.kind c.in-Bad.sender c.in-Bad.seq c.in-Bad.bytes) (Sub c.in-Bad.sub) (on.Error c.args.code) c.args.seats.now c.serve_bad.new.seats _ _ (telling_bad c.in-Bad.slot c.in-Bad.sub c.in-Bad.kind c.in-Bad.sender c.in-Bad.seq c.in-Bad.bytes c.args.code (c.requires.code ∙ ap note_code c.in-Bad.is)) (subst (λ (n : QueueNote). MayServe n c.args.seats.now) c.in-Bad.is c.requires.may) c.serve_bad.ensures.ok)

pub returns-in-Bad-clause-kept : goal.returns-in-Bad-clause-kept
returns-in-Bad-clause-kept g c = kept_each_told c.serve_bad.result (Sub c.in-Bad.sub) (on.Error c.args.code) c.args.seats.now c.serve_bad.new.seats _ _ c.serve_bad.ensures.ok

pub returns-in-Bad-clause-answer : goal.returns-in-Bad-clause-answer
returns-in-Bad-clause-answer g c =
    subst (λ (n : QueueNote). IfOk c.serve_bad.result (λ answer. Answers (told g.L.Tagged.tagged g.L.Listener.calls g.L.Listener.heard g.L.Listener.given g.L.Listener.plan) n c.args.seats.now c.serve_bad.new.seats answer)) (sym c.in-Bad.is)
    (IfOk-weaker c.serve_bad.result _ _
    (λ answer was orders journal ds middle apart fits stands.
    answers_what_was_told (q.Bad c.in-Bad.slot c.in-Bad.sub c.in-Bad.kind c.in-Bad.sender c.in-Bad.seq c.in-Bad.bytes) (Sub c.in-Bad.sub) (on.Error c.args.code) c.args.seats.now c.serve_bad.new.seats _ _ answer (telling_bad c.in-Bad.slot c.in-Bad.sub c.in-Bad.kind c.in-Bad.sender c.in-Bad.seq c.in-Bad.bytes c.args.code (c.requires.code ∙ ap note_code c.in-Bad.is)) (subst (λ (n : QueueNote). MayServe n c.args.seats.now) c.in-Bad.is c.requires.may) was orders journal ds stands)
    c.serve_bad.ensures.ok)

pub returns-in-BadReply-clause-ok : goal.returns-in-BadReply-clause-ok
returns-in-BadReply-clause-ok g c =
    subst (λ (n : QueueNote). OnOk c.serve_bad-in-BadReply.result (Serves n c.args.seats.now c.serve_bad-in-BadReply.new.seats (map (put_note g.M.Tagged.tagged) c.args.out.now.items) (map (put_note g.M.Tagged.tagged) c.serve_bad-in-BadReply.new.out.items))) (sym c.in-BadReply.is)
    (serves_each_told c.serve_bad-in-BadReply.result (q.BadReply c.in-BadReply.slot c.in-BadReply.inbox c.in-BadReply.bytes) (Inbox c.in-BadReply.inbox) (on.Error c.args.code) c.args.seats.now c.serve_bad-in-BadReply.new.seats _ _ (telling_bad_reply c.in-BadReply.slot c.in-BadReply.inbox c.in-BadReply.bytes c.args.code (c.requires.code ∙ ap note_code c.in-BadReply.is)) (subst (λ (n : QueueNote). MayServe n c.args.seats.now) c.in-BadReply.is c.requires.may) c.serve_bad-in-BadReply.ensures.ok)

pub returns-in-BadReply-clause-kept : goal.returns-in-BadReply-clause-kept
returns-in-BadReply-clause-kept g c = kept_each_told c.serve_bad-in-BadReply.result (Inbox c.in-BadReply.inbox) (on.Error c.args.code) c.args.seats.now c.serve_bad-in-BadReply.new.seats _ _ c.serve_bad-in-BadReply.ensures.ok

pub returns-in-BadReply-clause-answer : goal.returns-in-BadReply-clause-answer
returns-in-BadReply-clause-answer g c =
    subst (λ (n : QueueNote). IfOk c.serve_bad-in-BadReply.result (λ answer. Answers (told g.L.Tagged.tagged g.L.Listener.calls g.L.Listener.heard g.L.Listener.given g.L.Listener.plan) n c.args.seats.now c.serve_bad-in-BadReply.new.seats answer)) (sym c.in-BadReply.is)
    (IfOk-weaker c.serve_bad-in-BadReply.result _ _
    (λ answer was orders journal ds middle apart fits stands.
    answers_what_was_told (q.BadReply c.in-BadReply.slot c.in-BadReply.inbox c.in-BadReply.bytes) (Inbox c.in-BadReply.inbox) (on.Error c.args.code) c.args.seats.now c.serve_bad-in-BadReply.new.seats _ _ answer (telling_bad_reply c.in-BadReply.slot c.in-BadReply.inbox c.in-BadReply.bytes c.args.code (c.requires.code ∙ ap note_code c.in-BadReply.is)) (subst (λ (n : QueueNote). MayServe n c.args.seats.now) c.in-BadReply.is c.requires.may) was orders journal ds stands)
    c.serve_bad-in-BadReply.ensures.ok)

pub returns-in-Fin-clause-ok : goal.returns-in-Fin-clause-ok
returns-in-Fin-clause-ok g c =
    subst (λ (n : QueueNote). Serves n c.args.seats.now c.args.seats.now (map (put_note g.M.Tagged.tagged) c.args.out.now.items) (map (put_note g.M.Tagged.tagged) c.args.out.now.items)) (sym c.in-Fin.is)
    (serves_fin c.args.seats.now (map (put_note g.M.Tagged.tagged) c.args.out.now.items))

pub returns-in-Fin-clause-kept : goal.returns-in-Fin-clause-kept
returns-in-Fin-clause-kept g c = kept_with c.args.seats.now c.args.seats.now (kept_same c.args.seats.now)
