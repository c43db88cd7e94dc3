use Rattle.std.proofs.Common.{◌≡◌, [], List, None, map, ap, sym, ◌∙◌}
use Rattle.mama_carry.specs.declared.carried.Carried.{Carried}
use Rattle.mama_dispatch.specs.Turns.{put_note}
use Rattle.mama_seats.specs.Waiting.{waits}
use Rattle.mama_timeout.specs.Table.{event_puts}
use Rattle.mama_posts_clients.proofs.OutletLemmas.{same_bridge_lane, same_timers_lane, may_front, later_may, all_put, after_both, rest_left, none_of, front_stuck}
use Rattle.mama_ends.proofs.Answered.{on_ok, on_err, at_err}
use Rattle.mama_posts_clients.proofs.outlets.put_all.Goals as goal

pub flush_out-requires-clause-lawful : goal.flush_out-requires-clause-lawful
flush_out-requires-clause-lawful g c =
    let tagged = λ (e : Carried g.row.L.Denot g.L.Listener g.L.Tagged). g.L.Tagged.tagged e.listener in
    may_front c.args.ports.now (map (put_note tagged) (waits c.args.left.now)) (event_puts tagged c.args.wish.now) c.requires.lawful

pub put_wish-requires-clause-bridge : goal.put_wish-requires-clause-bridge
put_wish-requires-clause-bridge g c =
    let tagged = λ (e : Carried g.row.L.Denot g.L.Listener g.L.Tagged). g.L.Tagged.tagged e.listener in
    same_bridge_lane c.args.ports.now c.flush_out.new.ports (map (put_note tagged) (waits c.args.left.now)) (map (put_note tagged) (waits c.flush_out.new.left)) c.flush_out.ensures.puts ∙ c.requires.bridge

pub put_wish-requires-clause-timers : goal.put_wish-requires-clause-timers
put_wish-requires-clause-timers g c =
    let tagged = λ (e : Carried g.row.L.Denot g.L.Listener g.L.Tagged). g.L.Tagged.tagged e.listener in
    same_timers_lane c.args.ports.now c.flush_out.new.ports (map (put_note tagged) (waits c.args.left.now)) (map (put_note tagged) (waits c.flush_out.new.left)) c.flush_out.ensures.puts ∙ c.requires.timers

pub put_wish-requires-clause-lawful : goal.put_wish-requires-clause-lawful
put_wish-requires-clause-lawful g c =
    let tagged = λ (e : Carried g.row.L.Denot g.L.Listener g.L.Tagged). g.L.Tagged.tagged e.listener in
    later_may c.args.ports.now c.flush_out.new.ports (map (put_note tagged) (waits c.args.left.now)) (map (put_note tagged) (waits c.flush_out.new.left)) (event_puts tagged c.args.wish.now) c.flush_out.ensures.puts
    (ap (map (put_note tagged)) c.in_ok-flush_out.ensures.clear) c.requires.lawful

pub returns-clause-puts : goal.returns-clause-puts
returns-clause-puts g c =
    let tagged = λ (e : Carried g.row.L.Denot g.L.Listener g.L.Tagged). g.L.Tagged.tagged e.listener in
    all_put c.args.ports.now c.flush_out.new.ports c.put_wish.new.ports (map (put_note tagged) (waits c.args.left.now)) (map (put_note tagged) (waits c.flush_out.new.left)) (event_puts tagged c.args.wish.now)
    (event_puts tagged c.put_wish.new.wish) c.flush_out.ensures.puts (ap (map (put_note tagged)) c.in_ok-flush_out.ensures.clear) c.put_wish.ensures.puts

pub returns-clause-clear : goal.returns-clause-clear
returns-clause-clear g c =
    let tagged = λ (e : Carried g.row.L.Denot g.L.Listener g.L.Tagged). g.L.Tagged.tagged e.listener in
    on_ok c.put_wish.result
    (λ (is : c.put_wish.new.wish ≡ None).
    rest_left (map (put_note tagged) (waits c.flush_out.new.left)) (event_puts tagged c.put_wish.new.wish) (ap (map (put_note tagged)) c.in_ok-flush_out.ensures.clear) ∙ ap (event_puts tagged) is)
    c.put_wish.ensures.clear

pub returns-clause-stuck : goal.returns-clause-stuck
returns-clause-stuck g c =
    let tagged = λ (e : Carried g.row.L.Denot g.L.Listener g.L.Tagged). g.L.Tagged.tagged e.listener in
    on_err c.put_wish.result
    (λ (some : event_puts tagged c.put_wish.new.wish ≡ [] → ⊥) e.
    some (sym (rest_left (map (put_note tagged) (waits c.flush_out.new.left)) (event_puts tagged c.put_wish.new.wish) (ap (map (put_note tagged)) c.in_ok-flush_out.ensures.clear)) ∙ e))
    c.put_wish.ensures.stuck

pub returns-in_err-flush_out-clause-puts : goal.returns-in_err-flush_out-clause-puts
returns-in_err-flush_out-clause-puts g c =
    let tagged = λ (e : Carried g.row.L.Denot g.L.Listener g.L.Tagged). g.L.Tagged.tagged e.listener in
    after_both c.args.ports.now c.flush_out.new.ports (map (put_note tagged) (waits c.args.left.now)) (map (put_note tagged) (waits c.flush_out.new.left)) (event_puts tagged c.args.wish.now) c.flush_out.ensures.puts

pub returns-in_err-flush_out-clause-stuck : goal.returns-in_err-flush_out-clause-stuck
returns-in_err-flush_out-clause-stuck g c =
    let tagged = λ (e : Carried g.row.L.Denot g.L.Listener g.L.Tagged). g.L.Tagged.tagged e.listener in
    at_err c.from_residual.result
    (front_stuck (map (put_note tagged) (waits c.flush_out.new.left)) (event_puts tagged c.args.wish.now)
    (λ e. c.in_err-flush_out.ensures.stuck (none_of (put_note tagged) (waits c.flush_out.new.left) e)))
