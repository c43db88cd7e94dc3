-- What the callbacks in a script's record tell.
use Rattle.std.specs.Prelude.{slice_index_or}
use Rattle.std.specs.List.{AllZip}
use Rattle.std.proofs.Common.{ℕ, List, [], ◌∷◌, map, refl, sym, subst}
use Rattle.mama_journal.specs.Journal.{first_said}
use Rattle.mama_event.specs.declared.ids.ObjectId.{ObjectId}
use Rattle.mama_event.specs.declared.ids.ObjectId.TheVariants.{Sub, Timer, Inbox}
use Rattle.mama_event.specs.declared.callback.Callback.{Callback}
use Rattle.mama_event.specs.declared.callback.CallNote.{CallNote}
use Rattle.mama_event.specs.declared.order.Order.{Order}
use Rattle.mama_event.specs.declared.to_queue.QueueNote.{QueueNote}
use Rattle.mama_rules_queue.specs.Queue.{calls_of, deeds, messages_of, make_in}
use Rattle.mama_rules_rounds.specs.Client.{Planned}
use Rattle.mama_rules_rounds.specs.Setting.{Setting, orders_by}
use Rattle.mama_rules_rounds.specs.Sections.{setting_of}
use Rattle.mama_rules_rounds.specs.Told.{object_calls, noted}
use Rattle.mama_laws_genuine.specs.Told.{TellsOf, strategy_of, kind_of, size_of}
use Rattle.mama_laws_genuine.specs.Gaps.{TellTrueGaps, HasTrueGaps, ToldGapsAreTrue}
use Rattle.mama_laws_genuine.proofs.Elements.{all_map}
use Rattle.mama_laws_genuine.proofs.Telling.{calls_tell}

-- what holds of each element and of what f makes of it
pub all_zipped : {X Y : Type 0} (R : X → Y → Type 0) (f : X → Y) → ((x : X) → R x (f x)) → (xs : List X) → AllZip R xs (map f xs)
all_zipped R f each [] = tt
all_zipped R f each (x ∷ xs) = (each x, all_zipped R f each xs)

calls_true : (setting : Setting) (journal : List (ℕ × QueueNote)) (o : ObjectId)
    → TellTrueGaps setting journal o (map noted (calls_of o (deeds (orders_by setting) journal)))
calls_true setting journal (Sub s) =
    let how = first_said (λ (e : ℕ × QueueNote). make_in (Sub s) e.1) journal in
    let messages = messages_of s (deeds (orders_by setting) journal) in
    all_map (λ (c : Callback × List Order). TellsOf (strategy_of how) (kind_of how) (size_of how) messages c.0) (λ (n : CallNote). TellsOf (strategy_of how) (kind_of how) (size_of how) messages n.call) noted
    (λ c told. told) (calls_of (Sub s) (deeds (orders_by setting) journal)) (calls_tell (orders_by setting) s journal)
calls_true setting journal (Timer t) = tt
calls_true setting journal (Inbox i) = tt

has_true : (setting : Setting) (queues : List (List (ℕ × QueueNote))) (p : Planned) → HasTrueGaps setting queues p (object_calls setting queues p)
has_true setting queues p = record { object = refl; gaps = calls_true setting (slice_index_or queues p.queue []) p.object }

pub told_gaps_are_true : ToldGapsAreTrue
told_gaps_are_true script run calls =
    subst (λ told. AllZip (HasTrueGaps (setting_of script) run.queues) (setting_of script).objects told) (sym calls.calls)
    (all_zipped (HasTrueGaps (setting_of script) run.queues) (object_calls (setting_of script) run.queues) (has_true (setting_of script) run.queues) (setting_of script).objects)
