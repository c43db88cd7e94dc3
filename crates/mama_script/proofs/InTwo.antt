-- A script is a script in version 2 too.
use Rattle.std.proofs.Common.{◌≡◌, ℕ, suc, Bool, true, false, cond, List, [], ◌∷◌, ◌++◌, map, Option, Some, None, refl, sym, subst, ◌∙◌}
use Rattle.std.specs.List.{flat_map}
use Rattle.mama_event.specs.declared.shape.Strategy.{Strategy}
use Rattle.mama_words.specs.declared.version.Version.{Version}
use Rattle.mama_words.specs.declared.version.Version.TheVariants.{One, Two}
use Rattle.mama_words.specs.declared.order.OrderWord.TheVariants as orders
use Rattle.mama_words.specs.Value.{nums_of}
use Rattle.mama_words.proofs.FieldLaws.{message_known}
use Rattle.mama_script.specs.declared.line.Line.{Line}
use Rattle.mama_script.specs.declared.line.Line.TheVariants as lines
use Rattle.mama_script.specs.declared.line.QueueName.TheVariants.{Number, Any}
use Rattle.mama_script.specs.declared.names.Made.{Made}
use Rattle.mama_script.specs.Line.{IsLine}
use Rattle.mama_script.specs.Before.{Before, start, after, flaw}
use Rattle.mama_script.specs.Names.{is_named, made_by, unnamed_from}
use Rattle.mama_script.specs.Placing.{Cast, Placed, cast_of, none_placed, misplaced, placed_with, fault_at, misplaced_from}
use Rattle.mama_script.specs.Reading.{FitFrom, AreAccepted}
use Rattle.mama_script.specs.Script.{ScriptData}
use Rattle.mama_script.specs.Tree.{strategy_lines, topic_line, publisher_lines, client_lines, last_lines, in_two, IsScript}

abbrev two : Before → Before
two b = record b { version = Two }

line_two : (v : Version) (l : Line) → IsLine v l → IsLine Two l
line_two v (lines.Strategy s) h = h
line_two v (lines.Queues n) h = h
line_two v (lines.Topic name) h = h
line_two v (lines.Publisher topic base) h = (h.0, message_known (nums_of v) base h.1)
line_two v (lines.Update update) h = message_known (nums_of v) update h
line_two v lines.Recap h = h
line_two v (lines.Pause rounds) h = h
line_two v lines.Client h = h
line_two v (lines.Sub topic kind queue cache recaps) h = h
line_two v (lines.Timer queue interval) h = h
line_two v (lines.Inbox queue) h = h
line_two v (lines.Fault row) h = h
line_two v (lines.At call order) h = h
line_two v (lines.Order order) h = h
line_two v (lines.Now moment) h = h
line_two v lines.NowClock h = h
line_two v (lines.Group ids) h = (refl, h.1, h.2)
line_two v (lines.Watch sub timer retries) h = (refl, h.1, h.2, h.3)

-- no other rule looks at the version
flaw_two : (b : Before) (l : Line) → flaw (two b) l ≡ flaw b l
flaw_two b (lines.Strategy s) = refl
flaw_two b (lines.Queues n) = refl
flaw_two b (lines.Topic name) = refl
flaw_two b (lines.Publisher topic base) = refl
flaw_two b (lines.Update update) = refl
flaw_two b lines.Recap = refl
flaw_two b (lines.Pause rounds) = refl
flaw_two b lines.Client = refl
flaw_two b (lines.Sub topic kind (Number queue) cache recaps) = refl
flaw_two b (lines.Sub topic kind Any cache recaps) = refl
flaw_two b (lines.Timer (Number queue) interval) = refl
flaw_two b (lines.Timer Any interval) = refl
flaw_two b (lines.Inbox (Number queue)) = refl
flaw_two b (lines.Inbox Any) = refl
flaw_two b (lines.Fault row) = refl
flaw_two b (lines.At call (orders.Stop id)) = refl
flaw_two b (lines.At call (orders.Disarm id)) = refl
flaw_two b (lines.At call (orders.Close id)) = refl
flaw_two b (lines.At call (orders.Ask id topic fids)) = refl
flaw_two b (lines.Order (orders.Stop id)) = refl
flaw_two b (lines.Order (orders.Disarm id)) = refl
flaw_two b (lines.Order (orders.Close id)) = refl
flaw_two b (lines.Order (orders.Ask id topic fids)) = refl
flaw_two b (lines.Now moment) = refl
flaw_two b lines.NowClock = refl
flaw_two b (lines.Group ids) = refl
flaw_two b (lines.Watch sub timer retries) = refl

after_two : (b : Before) (l : Line) → after (two b) l ≡ two (after b l)
after_two b (lines.Strategy s) = refl
after_two b (lines.Queues n) = refl
after_two b (lines.Topic name) = refl
after_two b (lines.Publisher topic base) = refl
after_two b (lines.Update update) = refl
after_two b lines.Recap = refl
after_two b (lines.Pause rounds) = refl
after_two b lines.Client = refl
after_two b (lines.Sub topic kind queue cache recaps) = refl
after_two b (lines.Timer queue interval) = refl
after_two b (lines.Inbox queue) = refl
after_two b (lines.Fault row) = refl
after_two b (lines.At call order) = refl
after_two b (lines.Order order) = refl
after_two b (lines.Now moment) = refl
after_two b lines.NowClock = refl
after_two b (lines.Group ids) = refl
after_two b (lines.Watch sub timer retries) = refl

fit_two : (b : Before) (ls : List Line) → FitFrom b ls → FitFrom (two b) ls
fit_two b [] h = h
fit_two b (l ∷ ls) h = (
  record { form = line_two b.version l h.0.form; place = h.0.place; sound = flaw_two b l ∙ h.0.sound },
  subst (λ (c : Before). FitFrom c ls) (sym (after_two b l)) (fit_two (after b l) ls h.1),
)

named_further : (made : List Made) (l : Line) (rest later : Option ℕ) (k : ℕ) (named : Bool) → is_named made l ≡ named → cond named rest (Some k) ≡ None → (rest ≡ None → later ≡ None) → cond named later (Some (suc k)) ≡ None
named_further made l rest later k true is h more = more h
named_further made l rest later k false is h more = absurd cc

unnamed_further : (made : List Made) (k : ℕ) (ls : List Line) → unnamed_from made k ls ≡ None → unnamed_from made (suc k) ls ≡ None
unnamed_further made k [] h = refl
unnamed_further made k (l ∷ ls) h = named_further made l (unnamed_from made (suc k) ls) (unnamed_from made (suc (suc k)) ls) k (is_named made l) refl h (unnamed_further made (suc k) ls)

placed_further : (k : ℕ) (o : Option ℕ) (rest later : Option (ℕ × ℕ)) → fault_at k o rest ≡ None → (rest ≡ None → later ≡ None) → fault_at (suc k) o later ≡ None
placed_further k None rest later h more = more h
placed_further k (Some fault) rest later h more = absurd cc

misplaced_further : (c : Cast) (p : Placed) (k : ℕ) (ls : List Line) → misplaced_from c p k ls ≡ None → misplaced_from c p (suc k) ls ≡ None
misplaced_further c p k [] h = refl
misplaced_further c p k (l ∷ ls) h =
    placed_further k (misplaced c p l) (misplaced_from c (placed_with p l) (suc k) ls) (misplaced_from c (placed_with p l) (suc (suc k)) ls) h (misplaced_further c (placed_with p l) (suc k) ls)

accepted_two : (v : Version) (told : Strategy) (queues : ℕ) (ls : List Line) → AreAccepted (strategy_lines v told ++ lines.Queues queues ∷ ls) → AreAccepted (strategy_lines Two told ++ lines.Queues queues ∷ ls)
accepted_two Two told queues ls h = h
accepted_two One told queues ls h = record {
  fit = (record { form = tt; place = refl; sound = refl }, fit_two (start One) (lines.Queues queues ∷ ls) h.fit);
  named = unnamed_further (made_by (lines.Queues queues ∷ ls)) 2 (lines.Queues queues ∷ ls) h.named;
  placed = misplaced_further (cast_of (lines.Queues queues ∷ ls)) none_placed 2 (lines.Queues queues ∷ ls) h.placed;
}

pub script_two : (s : ScriptData) → IsScript s → IsScript (in_two s)
script_two s is = record {
  shaped = record { clients = is.shaped.clients; topics = is.shaped.topics; publishers = is.shaped.publishers; strategy = tt; senders = is.shaped.senders };
  accepted = accepted_two s.version s.shape.strategy s.shape.bounds.queues (map topic_line s.topics ++ (flat_map publisher_lines s.publishers ++ (flat_map client_lines s.clients ++ last_lines s.groups s.watches))) is.accepted;
}
