-- believed: How the words for kinds of messages and for qualities are read.
use Rattle.std.specs.Prelude.{ℕ, codes, List, Option, Some, None, if◌then◌else◌}
use Rattle.std.specs.Str.{bytes_eq}
use Rattle.mama_event.specs.declared.market.MsgKind.{MsgKind}
use Rattle.mama_event.specs.declared.market.MsgKind.TheVariants.{Initial, Update, Recap}
use Rattle.mama_event.specs.declared.market.Quality.{Quality}
use Rattle.mama_event.specs.declared.market.Quality.TheVariants.{Ok as Good, Stale}

abbrev pub msg_kind_in : List ℕ → Option MsgKind
msg_kind_in word =
    if bytes_eq word (codes "initial") then Some Initial
    else (if bytes_eq word (codes "update") then Some Update
    else (if bytes_eq word (codes "recap") then Some Recap else None))

abbrev pub quality_in : List ℕ → Option Quality
quality_in word =
    if bytes_eq word (codes "ok") then Some Good
    else (if bytes_eq word (codes "stale") then Some Stale else None)
