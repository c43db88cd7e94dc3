-- believed: what a client refuses, in the order of the tests. The listener goes back.
use Rattle.std.specs.Prelude.{ℕ, not, nat_lt, ◌==◌, Option, None, Some, if◌then◌else◌}
use Rattle.mama_event.specs.declared.to_bridge.SubTerms.{SubTerms}
use Rattle.mama_event.specs.declared.to_bridge.InboxTerms.{InboxTerms}
use Rattle.mama_client.specs.declared.fault.ClientFault.{ClientFault}
use Rattle.mama_client.specs.declared.fault.ClientFault.TheVariants as no
use Rattle.mama_client.specs.declared.fault.AskFault.{AskFault}
use Rattle.mama_client.specs.declared.fault.AskFault.TheVariants as not_asked
use Rattle.mama_client.specs.Standing.{ClientData}

-- how many numbers of each kind a client can give
abbrev pub most_numbers : ℕ
most_numbers = 4294967295

-- a subscription is refused where the client is done, and then for its topic, its queue and its number
abbrev pub sub_refusal : {L : Type 0} → ClientData → SubTerms → L → Option (ClientFault L)
sub_refusal c terms l =
    if c.done then Some (no.Closed l)
    else if not (nat_lt terms.topic c.topics) then Some (no.BadTopic l)
    else if not (nat_lt terms.queue c.queues) then Some (no.BadQueue l)
    else if c.subs == most_numbers then Some (no.NumbersSpent l)
    else None

-- a timer, and then for its queue, its interval and its number
abbrev pub timer_refusal : {L : Type 0} → ClientData → ℕ → ℕ → L → Option (ClientFault L)
timer_refusal c queue interval l =
    if c.done then Some (no.Closed l)
    else if not (nat_lt queue c.queues) then Some (no.BadQueue l)
    else if interval == 0 then Some (no.ZeroInterval l)
    else if c.timers == most_numbers then Some (no.NumbersSpent l)
    else None

-- an inbox, and then for its queue and its number
abbrev pub inbox_refusal : {L : Type 0} → ClientData → InboxTerms → L → Option (ClientFault L)
inbox_refusal c terms l =
    if c.done then Some (no.Closed l)
    else if not (nat_lt terms.queue c.queues) then Some (no.BadQueue l)
    else if c.inboxes == most_numbers then Some (no.NumbersSpent l)
    else None

-- a question, and then for its topic
abbrev pub ask_refusal : ClientData → ℕ → Option AskFault
ask_refusal c topic =
    if c.done then Some not_asked.Closed
    else if not (nat_lt topic c.topics) then Some not_asked.BadTopic
    else None
