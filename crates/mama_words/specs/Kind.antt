-- believed: Kinds, qualities, strategies and states of groups, and the words for them.
use Rattle.std.specs.Prelude.{ℕ, codes, List, Option, Some, None, if◌then◌else◌}
use Rattle.std.specs.Str.{bytes_eq}
use Rattle.mama_event.specs.declared.market.SubKind.{SubKind}
use Rattle.mama_event.specs.declared.market.SubKind.TheVariants.{Market, Snapshot, Basic}
use Rattle.mama_event.specs.declared.market.MsgKind.{MsgKind}
use Rattle.mama_event.specs.declared.market.MsgKind.TheVariants.{Initial, Update, Recap}
use Rattle.mama_event.specs.declared.market.Quality.{Quality}
use Rattle.mama_event.specs.declared.market.Quality.TheVariants.{Ok as Good, Stale}
use Rattle.mama_event.specs.declared.group.GroupState.{GroupState}
use Rattle.mama_event.specs.declared.group.GroupState.TheVariants as state
use Rattle.mama_event.specs.declared.shape.Strategy.{Strategy}
use Rattle.mama_event.specs.declared.shape.Strategy.TheVariants.{One, Two}

abbrev pub sub_kind_text : SubKind → List ℕ
sub_kind_text Market = codes "market"
sub_kind_text Snapshot = codes "snapshot"
sub_kind_text Basic = codes "basic"

abbrev pub sub_kind_in : List ℕ → Option SubKind
sub_kind_in word =
    if bytes_eq word (codes "market") then Some Market
    else (if bytes_eq word (codes "snapshot") then Some Snapshot
    else (if bytes_eq word (codes "basic") then Some Basic else None))

abbrev pub msg_kind_text : MsgKind → List ℕ
msg_kind_text Initial = codes "initial"
msg_kind_text Update = codes "update"
msg_kind_text Recap = codes "recap"

abbrev pub quality_text : Quality → List ℕ
quality_text Good = codes "ok"
quality_text Stale = codes "stale"

abbrev pub strategy_text : Strategy → List ℕ
strategy_text One = codes "1"
strategy_text Two = codes "2"

abbrev pub strategy_in : List ℕ → Option Strategy
strategy_in word =
    if bytes_eq word (codes "1") then Some One
    else (if bytes_eq word (codes "2") then Some Two else None)

abbrev pub group_state_text : GroupState → List ℕ
group_state_text state.Waiting = codes "waiting"
group_state_text state.Fresh = codes "fresh"
group_state_text state.Stale = codes "stale"
group_state_text state.Ended = codes "ended"

abbrev pub group_state_in : List ℕ → Option GroupState
group_state_in word =
    if bytes_eq word (codes "waiting") then Some state.Waiting
    else (if bytes_eq word (codes "fresh") then Some state.Fresh
    else (if bytes_eq word (codes "stale") then Some state.Stale
    else (if bytes_eq word (codes "ended") then Some state.Ended else None)))
