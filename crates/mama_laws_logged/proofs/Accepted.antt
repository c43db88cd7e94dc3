-- The lines of an accepted script have their forms.
use Rattle.std.specs.List.{AllByRecursion, flat_map}
use Rattle.std.proofs.Common.{◌≡◌, ◌≤◌, subst, ◌∙◌, List, [], ◌∷◌, ◌++◌, map}
use Rattle.mama_event.specs.declared.watch.WatchRow.{WatchRow}
use Rattle.mama_words.specs.declared.version.Version.{Version}
use Rattle.mama_script.specs.declared.line.Line.{Line}
use Rattle.mama_script.specs.declared.publisher.PublisherPart.{PublisherPart}
use Rattle.mama_script.specs.declared.client.ClientLine.{ClientLine}
use Rattle.mama_script.specs.Before.{Before, start, after}
use Rattle.mama_script.specs.Line.{IsLine}
use Rattle.mama_script.specs.Reading.{version_of, FitFrom}
use Rattle.mama_script.specs.Script.{ScriptData}
use Rattle.mama_script.specs.Tree.{topic_line, publisher_lines, step_lines, client_lines, strategy_lines, group_line, watch_line, last_lines, body_lines, lines_of, IsScript}
use Rattle.mama_script.proofs.Texts.{version_told}
use Rattle.mama_script.proofs.Whole.{version_kept}
use Rattle.mama_laws_genuine.proofs.Elements.{all_left, all_right}

-- what holds of all parts holds of each
pub all_parts : {X Y : Type 0} (P : Y → Type 0) (f : X → List Y) (xs : List X) → AllByRecursion P (flat_map f xs) → AllByRecursion (λ (x : X). AllByRecursion P (f x)) xs
all_parts P f [] all = tt
all_parts P f (x ∷ xs) all = (all_left P (f x) (flat_map f xs) all, all_parts P f xs (all_right P (f x) (flat_map f xs) all))

fit_lines : (v : Version) (b : Before) (ls : List Line) → b.version ≡ v → FitFrom b ls → AllByRecursion (IsLine v) ls
fit_lines v b [] e fit = tt
fit_lines v b (l ∷ ls) e fit = let P : Version → Type 0 = λ x. IsLine x l in (subst P e fit.0.form, fit_lines v (after b l) ls (version_kept b l ∙ e) fit.1)

-- the lines of a publisher, and the lines of a step of a client
abbrev pub IsPublisherSound : Version → PublisherPart → Type 0
IsPublisherSound v part = AllByRecursion (IsLine v) (publisher_lines part)

abbrev pub IsStepSound : Version → ClientLine → Type 0
IsStepSound v l = AllByRecursion (IsLine v) (step_lines l)

module _ (script : ScriptData) (is : IsScript script) where
  version_is : version_of (lines_of script) ≡ script.version
  version_is =
      version_told script.version script.shape.strategy script.shape.bounds.queues
      (map topic_line script.topics ++ (flat_map publisher_lines script.publishers ++ (flat_map client_lines script.clients ++ last_lines script.groups script.watches)))

  -- the lines behind those of the topics
  sections : AllByRecursion (IsLine script.version) (flat_map publisher_lines script.publishers ++ (flat_map client_lines script.clients ++ last_lines script.groups script.watches))
  sections =
      all_right (IsLine script.version) (map topic_line script.topics) (flat_map publisher_lines script.publishers ++ (flat_map client_lines script.clients ++ last_lines script.groups script.watches))
      (all_right (IsLine script.version) (strategy_lines script.version script.shape.strategy) (body_lines script) (fit_lines script.version (start (version_of (lines_of script))) (lines_of script) version_is is.accepted.fit)).1

  pub publishers_sound : AllByRecursion (IsPublisherSound script.version) script.publishers
  publishers_sound =
      all_parts (IsLine script.version) publisher_lines script.publishers
      (all_left (IsLine script.version) (flat_map publisher_lines script.publishers) (flat_map client_lines script.clients ++ last_lines script.groups script.watches) sections)

  -- the lines behind those of the publishers
  others : AllByRecursion (IsLine script.version) (flat_map client_lines script.clients ++ last_lines script.groups script.watches)
  others = all_right (IsLine script.version) (flat_map publisher_lines script.publishers) (flat_map client_lines script.clients ++ last_lines script.groups script.watches) sections

  clients_lines : AllByRecursion (λ (client : List ClientLine). AllByRecursion (IsLine script.version) (client_lines client)) script.clients
  clients_lines =
      all_parts (IsLine script.version) client_lines script.clients
      (all_left (IsLine script.version) (flat_map client_lines script.clients) (last_lines script.groups script.watches) others)

  pub clients_sound : AllByRecursion (AllByRecursion (IsStepSound script.version)) script.clients
  clients_sound = steps script.clients clients_lines
    where
      steps : (clients : List (List ClientLine)) → AllByRecursion (λ (client : List ClientLine). AllByRecursion (IsLine script.version) (client_lines client)) clients
          → AllByRecursion (AllByRecursion (IsStepSound script.version)) clients
      steps [] all = tt
      steps (client ∷ clients) all = (all_parts (IsLine script.version) step_lines client all.0.1, steps clients all.1)

  -- a watch retries at most 1,000 times
  pub retries_few : AllByRecursion (λ (w : WatchRow). w.retries ≤ 1000) script.watches
  retries_few =
      few script.watches
      (all_right (IsLine script.version) (map group_line script.groups) (map watch_line script.watches)
      (all_right (IsLine script.version) (flat_map client_lines script.clients) (last_lines script.groups script.watches) others))
    where
      few : (watches : List WatchRow) → AllByRecursion (IsLine script.version) (map watch_line watches) → AllByRecursion (λ (w : WatchRow). w.retries ≤ 1000) watches
      few [] all = tt
      few (w ∷ watches) all = (all.0.3, few watches all.1)
