use Rattle.std.specs.Result.{OnOk}
use Rattle.std.proofs.Common.{List, [], ◌∷◌, sym, refl, subst}
use Rattle.std.proofs.lemmas.Result.{on_ok_weaker}
use Rattle.mama_msg.specs.Field.{FieldData}
use Rattle.mama_event.specs.Arrival.{code_of}
use Rattle.mama_event.specs.declared.ids.ObjectId.TheVariants.{Sub, Timer, Inbox}
use Rattle.mama_event.specs.declared.callback.Callback.TheVariants as on
use Rattle.mama_event.specs.declared.to_queue.QueueNote.{QueueNote}
use Rattle.mama_event.specs.declared.to_queue.QueueNote.TheVariants as q
use Rattle.mama_plans.specs.Orders.{orders_in}
use Rattle.mama_check_queue.specs.Replay.{Makes, Serves}
use Rattle.mama_check_queue.proofs.MadeLemmas.{serves_call, serves_fin}
use Rattle.mama_check_queue.proofs.replay.Replay.serve.Goals as goal

pub returns-in_ok-body-in-Reply : goal.returns-in_ok-body-in-Reply
returns-in_ok-body-in-Reply c =
    let orders = orders_in c.args.book.now in
    let s = c.args.self.now.objects in
    let t = c.call.new.self.objects in
    let p = c.args.self.now.puts in
    let r = c.call.new.self.puts in
    let inbox = c.in-Reply.inbox in
    subst (λ (n : QueueNote). OnOk c.call.result (Serves orders n c.args.entry s t p r)) (sym c.in-Reply.is)
    (on_ok_weaker c.call.result (λ makes.
    serves_call orders c.args.entry (q.Reply c.in-Reply.slot inbox c.in-Reply.body) (Inbox inbox) (on.Reply c.in-Reply.body) s t p r (λ x. refl) (λ journal ds. refl)
    (subst (λ (body : List FieldData). Makes orders (Inbox inbox) (on.Reply body ∷ []) c.args.entry s t p r) c.in_ok-body-in-Reply.ensures.equal makes))
    c.call.ensures)

pub returns-in-Bad : goal.returns-in-Bad
returns-in-Bad c =
    let orders = orders_in c.args.book.now in
    let s = c.args.self.now.objects in
    let t = c.fail.new.self.objects in
    let p = c.args.self.now.puts in
    let r = c.fail.new.self.puts in
    subst (λ (n : QueueNote). OnOk c.fail.result (Serves orders n c.args.entry s t p r)) (sym c.in-Bad.is)
    (on_ok_weaker c.fail.result (λ makes.
    serves_call orders c.args.entry (q.Bad c.in-Bad.slot c.in-Bad.sub c.in-Bad.kind c.in-Bad.sender c.in-Bad.seq c.in-Bad.bytes) (Sub c.in-Bad.sub) (on.Error (code_of c.in-Bad.bytes)) s t p r (λ x. refl) (λ journal ds. refl) makes)
    c.fail.ensures)

pub returns-in-BadReply : goal.returns-in-BadReply
returns-in-BadReply c =
    let orders = orders_in c.args.book.now in
    let s = c.args.self.now.objects in
    let t = c.fail-in-BadReply.new.self.objects in
    let p = c.args.self.now.puts in
    let r = c.fail-in-BadReply.new.self.puts in
    subst (λ (n : QueueNote). OnOk c.fail-in-BadReply.result (Serves orders n c.args.entry s t p r)) (sym c.in-BadReply.is)
    (on_ok_weaker c.fail-in-BadReply.result (λ makes.
    serves_call orders c.args.entry (q.BadReply c.in-BadReply.slot c.in-BadReply.inbox c.in-BadReply.bytes) (Inbox c.in-BadReply.inbox) (on.Error (code_of c.in-BadReply.bytes)) s t p r (λ x. refl) (λ journal ds. refl) makes)
    c.fail-in-BadReply.ensures)

pub returns-in-Tick : goal.returns-in-Tick
returns-in-Tick c =
    let orders = orders_in c.args.book.now in
    let s = c.args.self.now.objects in
    let t = c.call-in-Tick.new.self.objects in
    let p = c.args.self.now.puts in
    let r = c.call-in-Tick.new.self.puts in
    let timer = c.in-Tick.timer in
    subst (λ (n : QueueNote). OnOk c.call-in-Tick.result (Serves orders n c.args.entry s t p r)) (sym c.in-Tick.is)
    (on_ok_weaker c.call-in-Tick.result (λ makes.
    serves_call orders c.args.entry (q.Tick c.in-Tick.slot timer c.in-Tick.moment) (Timer timer) (on.Tick c.in-Tick.moment) s t p r (λ x. refl) (λ journal ds. refl) makes)
    c.call-in-Tick.ensures)

pub returns-in-Gone : goal.returns-in-Gone
returns-in-Gone c =
    let orders = orders_in c.args.book.now in
    let s = c.args.self.now.objects in
    let t = c.call-in-Gone.new.self.objects in
    let p = c.args.self.now.puts in
    let r = c.call-in-Gone.new.self.puts in
    subst (λ (n : QueueNote). OnOk c.call-in-Gone.result (Serves orders n c.args.entry s t p r)) (sym c.in-Gone.is)
    (on_ok_weaker c.call-in-Gone.result (λ makes.
    serves_call orders c.args.entry (q.Gone c.in-Gone.slot c.in-Gone.object) c.in-Gone.object on.Destroy s t p r (λ x. refl) (λ journal ds. refl) makes)
    c.call-in-Gone.ensures)

pub returns-in-Fin : goal.returns-in-Fin
returns-in-Fin c =
    subst (λ (n : QueueNote). Serves (orders_in c.args.book.now) n c.args.entry c.args.self.now.objects c.args.self.now.objects c.args.self.now.puts c.args.self.now.puts) (sym c.in-Fin.is)
    (serves_fin (orders_in c.args.book.now) c.args.entry c.args.self.now.objects c.args.self.now.puts)
