use Rattle.std.specs.List.{list_any}
use Rattle.std.proofs.Common.{◌≡◌, ◌∙◌, ap, map, List, [], ◌++◌, cond}
use Rattle.mama_event.specs.ToBridge.{note_of}
use Rattle.mama_event.specs.declared.to_bridge.BridgeNote.{BridgeNote}
use Rattle.mama_rules_services.specs.Bridge.{BridgePut, put_by, heard, bridge_puts_at}
use Rattle.mama_laws_bridge.specs.Table.{table_of, table_puts}
use Rattle.mama_bridge.specs.Outs.{put_note, listeners, brought, is_create}
use Rattle.mama_bridge.specs.Putters.{actor_of}
use Rattle.mama_bridge.specs.Routing.{Routing}
use Rattle.mama_bridge.proofs.Keeping.{has_flags, sound_of, puts_are, no_last}
use Rattle.mama_bridge.proofs.memory.MemoryBridge.take_other.Goals as goal

pub hear-requires-clause-flags : goal.hear-requires-clause-flags
hear-requires-clause-flags g c =
    let i = c.self.inside in
    has_flags i.shape (heard i.shape i.journal.items) i.desk c.putter_of-putter.result c.self.invariant.stands c.putter_of-putter.ensures.there

pub returns-in-Err-clause-not_last : goal.returns-in-Err-clause-not_last
returns-in-Err-clause-not_last g c =
    no_last c.table_grows.ensures c.flags_tell.ensures c.args.self.now.shape c.args.self.now.journal c.args.port (note_of g.L.Tagged.tagged c.args.event) c.requires

pub returns-then-is_err-clause-not_last : goal.returns-then-is_err-clause-not_last
returns-then-is_err-clause-not_last g c =
    no_last c.table_grows.ensures c.flags_tell.ensures c.args.self.now.shape c.args.self.now.journal c.args.port (note_of g.L.Tagged.tagged c.args.event) c.requires

pub returns-in_err-hear-clause-not_last : goal.returns-in_err-hear-clause-not_last
returns-in_err-hear-clause-not_last g c =
    no_last c.table_grows.ensures c.flags_tell.ensures c.args.self.now.shape c.args.self.now.journal c.args.port (note_of g.L.Tagged.tagged c.args.event) c.requires

pub returns-clause-not_last : goal.returns-clause-not_last
returns-clause-not_last g c =
    no_last c.table_grows.ensures c.flags_tell.ensures c.args.self.now.shape c.args.self.now.journal c.args.port (note_of g.L.Tagged.tagged c.args.event) c.requires

pub returns-clause-puts : goal.returns-clause-puts
returns-clause-puts g c =
    let i = c.self.inside in
    let es = heard i.shape i.journal.items in
    let note : BridgeNote = note_of g.L.Tagged.tagged c.args.event in
    let h = c.in_ok-hear.ensures.ok (table_of i.shape es) c.self.invariant.stands (sound_of i.shape es (c.rows_are_live.ensures i.shape es)) in
    let puts : table_puts i.shape (table_of i.shape es) (put_by (actor_of c.putter_of-putter.result) note) ≡ bridge_puts_at c.args.self.now.shape c.args.self.now.journal (c.args.port, note) =
    puts_are c.table_tells.ensures i.shape i.journal.items c.args.port c.putter_of-putter.result note c.putter_of-putter.ensures.actor
    ∙ ap (λ (s : Routing). bridge_puts_at s.shape s.journal (c.args.port, note)) c.self.view_is in
    h.adds.puts ∙ ap (λ (ps : List BridgePut). map (put_note g.L.Tagged.tagged) c.args.out.now.items ++ ps) puts

pub returns-clause-listener : goal.returns-clause-listener
returns-clause-listener g c =
    let i = c.self.inside in
    let es = heard i.shape i.journal.items in
    let note : BridgeNote = note_of g.L.Tagged.tagged c.args.event in
    let h = c.in_ok-hear.ensures.ok (table_of i.shape es) c.self.invariant.stands (sound_of i.shape es (c.rows_are_live.ensures i.shape es)) in
    let puts : table_puts i.shape (table_of i.shape es) (put_by (actor_of c.putter_of-putter.result) note) ≡ bridge_puts_at c.args.self.now.shape c.args.self.now.journal (c.args.port, note) =
    puts_are c.table_tells.ensures i.shape i.journal.items c.args.port c.putter_of-putter.result note c.putter_of-putter.ensures.actor
    ∙ ap (λ (s : Routing). bridge_puts_at s.shape s.journal (c.args.port, note)) c.self.view_is in
    h.adds.listeners ∙ ap (λ (ps : List BridgePut). listeners c.args.out.now.items ++ cond (list_any is_create ps) (brought c.args.event) []) puts
