use Rattle.std.proofs.Common.{sym, subst}
use Rattle.mama_check_puts.specs.Client.{Tells}
use Rattle.mama_check_puts.proofs.client.Teller.tell.Goals as goal

pub returns-in_ok-say-in-Puts : goal.returns-in_ok-say-in-Puts
returns-in_ok-say-in-Puts c = let does = rw c.in-Puts.is at c.in_ok-put.ensures in c.in_ok-say-in-Puts.ensures c.args.line.now does

pub returns-in-Pauses : goal.returns-in-Pauses
returns-in-Pauses c = let is = rw c.in-Pauses.is at c.in_ok-put.ensures in subst (Tells c.args.self.now _) (sym is) c.pause.ensures

pub returns-in_ok-read-in-ReadsClock : goal.returns-in_ok-read-in-ReadsClock
returns-in_ok-read-in-ReadsClock c = let is = rw c.in-ReadsClock.is at c.in_ok-put.ensures in subst (Tells c.args.self.now _) (sym is) c.in_ok-read-in-ReadsClock.ensures
