-- inner: What the record of a scene is put together of.
use Rattle.std.specs.Prelude.{◌≡◌, ◌≤◌, [], map, length, vec_capacity}
use Rattle.std.specs.List.{flat_map}
use Rattle.mama_record.specs.RunView.{images_of}
use Rattle.mama_drive.specs.Scene.{Scene, journal_in}
use Rattle.mama_drive.specs.Record.{images_by}
use Rattle.mama_plans.specs.Numbered.{numbered}
use Rattle.mama_journal.specs.Journal.{numbers_below}
use Rattle.mama_drive.specs.declared.recording.Parts.{Parts}

-- These are its images, an empty list for each group and each watch, and the other lists are empty and have room for its callbacks, moments and journals.
pub record ArePartsOf (s : Scene) (parts : Parts) : Type 0 where
  pub images : images_of parts.images.items ≡ flat_map (images_by s.objects (map journal_in s.servers)) s.objects
  pub groups : numbered parts.groups.items ≡ map (λ n. (n, [])) (numbers_below (length s.groups))
  pub watches : numbered parts.watches.items ≡ map (λ n. (n, [])) (numbers_below (length s.watches))
  pub no_calls : parts.calls.items ≡ []
  pub no_given : parts.given.items ≡ []
  pub no_moments : parts.moments.items ≡ []
  pub no_entries : parts.entries.items ≡ []
  pub no_events : parts.events.items ≡ []
  pub calls_fit : length s.objects ≤ vec_capacity parts.calls
  pub given_fit : length s.servers ≤ vec_capacity parts.given
  pub moments_fit : length s.clients ≤ vec_capacity parts.moments
  pub entries_fit : length s.senders ≤ vec_capacity parts.entries
  pub events_fit : length s.servers ≤ vec_capacity parts.events
