-- Worked rows of plain links, and of what is given, computed by their definitions.
use Rattle.std.specs.Prelude.{Some}
use Rattle.std.specs.List.{filter}
use Rattle.std.proofs.Common.{◌≡◌, ℕ, false, List, [], ◌∷◌, ◌++◌, refl, ◌∙◌, ap, subst}
use Rattle.mama_link.specs.declared.faults.FaultRow.{FaultRow}
use Rattle.mama_link.specs.declared.faults.Fault.TheVariants.{Lose}
use Rattle.mama_words.specs.declared.version.Version.TheVariants as version
use Rattle.mama_event.specs.declared.ids.SubId.{SubId}
use Rattle.mama_event.specs.declared.market.MarketMsg.{MarketMsg}
use Rattle.mama_event.specs.declared.market.MsgKind.{MsgKind}
use Rattle.mama_event.specs.declared.market.MsgKind.TheVariants.{Initial, Update}
use Rattle.mama_event.specs.declared.market.SubKind.TheVariants.{Market}
use Rattle.mama_event.specs.declared.market.Quality.TheVariants as quality
use Rattle.mama_event.specs.declared.callback.Callback.{Callback}
use Rattle.mama_event.specs.declared.callback.Callback.TheVariants as on
use Rattle.mama_event.specs.declared.callback.CallNote.{CallNote}
use Rattle.mama_event.specs.declared.to_bridge.SubTerms.{SubTerms}
use Rattle.mama_event.specs.declared.shape.Strategy.TheVariants as strategy
use Rattle.mama_script.specs.declared.client.ClientLine.{ClientLine}
use Rattle.mama_script.specs.declared.client.ClientLine.TheVariants as line
use Rattle.mama_script.specs.declared.client.QueueWord.TheVariants.{Number}
use Rattle.mama_script.specs.declared.publisher.PublisherPart.{PublisherPart}
use Rattle.mama_script.specs.Script.{ScriptData}
use Rattle.mama_dq.specs.Orderly.{is_update_above}
use Rattle.mama_laws_genuine.specs.CalmLinks.{HasPlainLink, joined_terms, publishers_on}
use Rattle.mama_laws_genuine.specs.GivenAll.{given, updates_among, IsGivenAll}

-- ---- plain links

abbrev sub_line : ℕ → List FaultRow → ClientLine
sub_line topic faults = line.Sub topic Market (Number 0) 10 1000 faults []

abbrev part : ℕ → PublisherPart
part topic = record { topic = topic; base = []; lines = [] }

-- publishers 0 and 2 have topic 0, publisher 1 has topic 1; three subscriptions of one client, behind a line that reads the clock
abbrev script : ScriptData
script = record {
  version = version.One;
  shape = record { clients = 1; publisher_topics = 0 ∷ 1 ∷ 0 ∷ []; bounds = record { topics = 2; queues = 1 }; strategy = strategy.One };
  topics = [];
  publishers = part 0 ∷ part 1 ∷ part 0 ∷ [];
  clients = (line.NowClock ∷ sub_line 1 [] ∷ sub_line 1 (record { index = 1; fault = Lose } ∷ []) ∷ sub_line 0 [] ∷ []) ∷ [];
  groups = [];
  watches = [];
}

abbrev sub : ℕ → SubId
sub n = record { client = 0; number = n }

abbrev terms : ℕ → List FaultRow → SubTerms
terms topic faults = record { topic = topic; kind = Market; queue = 0; cache = 10; recaps = 1000; faults = faults }

pub first_is_plain : HasPlainLink script (sub 0)
first_is_plain = record { terms = terms 1 []; joined = refl; faultless = refl; alone = refl }

pub second_has_a_fault : joined_terms script (sub 1) ≡ Some (terms 1 (record { index = 1; fault = Lose } ∷ []))
second_has_a_fault = refl

pub third_has_two_publishers : publishers_on script.shape 0 ≡ 2
third_has_two_publishers = refl

-- ---- what is given

abbrev msg : MsgKind → ℕ → MarketMsg
msg kind n = record { kind = kind; sender = 2; seq = n; body = [] }

abbrev note : Callback → CallNote
note call = record { call = call; orders = [] }

-- an update before the first image is not told again
abbrev window : List MarketMsg
window = msg Update 1 ∷ msg Initial 1 ∷ msg Update 2 ∷ []

abbrev calls : List CallNote
calls = note on.Create ∷ note (on.Msg (msg Initial 1) quality.Ok) ∷ note (on.Msg (msg Update 2) quality.Ok) ∷ note on.Destroy ∷ []

abbrev first_of : List MarketMsg → MarketMsg
first_of [] = msg Update 0
first_of (m ∷ ms) = m

pub all_is_given : IsGivenAll window false calls
all_is_given = record {
  left = [];
  messages = refl;
  updates = λ first rest begins. subst (λ (m : MarketMsg). filter (is_update_above m.seq) window ≡ updates_among (given calls) ++ updates_among []) (ap first_of begins) refl;
  all = λ live. refl;
}

-- an update that is left out is missed, where nothing was muted
pub nothing_is_left_out : IsGivenAll window false (note on.Create ∷ note (on.Msg (msg Initial 1) quality.Ok) ∷ note on.Destroy ∷ []) → ⊥
nothing_is_left_out is = longer (is.messages ∙ ap (λ (ms : List MarketMsg). msg Initial 1 ∷ ms) (is.all refl))
  where
    longer : msg Initial 1 ∷ msg Update 2 ∷ [] ≡ msg Initial 1 ∷ [] → ⊥
    longer same = cc
