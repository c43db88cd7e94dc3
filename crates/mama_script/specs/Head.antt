-- believed: First words of lines, and where each may stand.
use Rattle.std.specs.Prelude.{ℕ, codes, Bool, true, false, not, List, Option, Some, None, if◌then◌else◌}
use Rattle.std.specs.Str.{bytes_eq}
use Rattle.mama_script.specs.declared.head.Head.{Head}
use Rattle.mama_script.specs.declared.head.Head.TheVariants.{Strategy, Queues, Topic, Publisher, Update, Recap, Pause, Client, Sub, Timer, Inbox, Fault, At, Stop, Disarm, Close, Ask, Now, Group, Watch}
use Rattle.mama_words.specs.declared.version.Version.{Version}
use Rattle.mama_words.specs.declared.version.Version.TheVariants.{One, Two}
use Rattle.mama_script.specs.declared.head.Place.{Place}
use Rattle.mama_script.specs.declared.head.Place.TheVariants as places

-- what a word begins
unfoldable pub head_in : List ℕ → Option Head
head_in word =
    if bytes_eq word (codes "strategy") then Some Strategy
    else (if bytes_eq word (codes "queues") then Some Queues
    else (if bytes_eq word (codes "topic") then Some Topic
    else (if bytes_eq word (codes "publisher") then Some Publisher
    else (if bytes_eq word (codes "update") then Some Update
    else (if bytes_eq word (codes "recap") then Some Recap
    else (if bytes_eq word (codes "pause") then Some Pause
    else (if bytes_eq word (codes "client") then Some Client
    else (if bytes_eq word (codes "sub") then Some Sub
    else (if bytes_eq word (codes "timer") then Some Timer
    else (if bytes_eq word (codes "inbox") then Some Inbox
    else (if bytes_eq word (codes "fault") then Some Fault
    else (if bytes_eq word (codes "at") then Some At
    else (if bytes_eq word (codes "stop") then Some Stop
    else (if bytes_eq word (codes "disarm") then Some Disarm
    else (if bytes_eq word (codes "close") then Some Close
    else (if bytes_eq word (codes "ask") then Some Ask
    else (if bytes_eq word (codes "now") then Some Now
    else (if bytes_eq word (codes "group") then Some Group
    else (if bytes_eq word (codes "watch") then Some Watch else None)))))))))))))))))))

-- the line of the strategy, behind the first line of version 2
abbrev pub is_strategy : Head → Bool
is_strategy Strategy = true
is_strategy head = false

-- the line of the queues
abbrev pub is_opening : Head → Bool
is_opening Queues = true
is_opening head = false

-- behind the queues come topics, and then the first section
abbrev pub follows_topic : Head → Bool
follows_topic Topic = true
follows_topic Publisher = true
follows_topic Client = true
follows_topic head = false

-- the lines of a publisher, and the beginnings of the next section
abbrev pub follows_publisher : Head → Bool
follows_publisher Update = true
follows_publisher Recap = true
follows_publisher Pause = true
follows_publisher Publisher = true
follows_publisher Client = true
follows_publisher head = false

-- behind the last client come groups, and then watches
abbrev pub follows_group : Head → Bool
follows_group Group = true
follows_group Watch = true
follows_group head = false

abbrev pub follows_watch : Head → Bool
follows_watch Watch = true
follows_watch head = false

-- only version 2 knows groups and watches
abbrev pub knows : Version → Head → Bool
knows One head = not (follows_group head)
knows Two head = true

-- the steps of a client, and what may stand behind its section
abbrev pub follows_client : Head → Bool
follows_client Sub = true
follows_client Timer = true
follows_client Inbox = true
follows_client Stop = true
follows_client Disarm = true
follows_client Close = true
follows_client Ask = true
follows_client Now = true
follows_client Pause = true
follows_client Client = true
follows_client Group = true
follows_client Watch = true
follows_client head = false

-- behind an order of an object's plan there may be one more
abbrev pub follows_plan : Head → Bool
follows_plan At = true
follows_plan head = follows_client head

-- behind a subscription or an inbox there may be its faults and its plan
abbrev pub follows_link : Head → Bool
follows_link Fault = true
follows_link head = follows_plan head

-- what a line at this place may begin with
abbrev pub allows : Place → Head → Bool
allows places.Strategy head = is_strategy head
allows places.Start head = is_opening head
allows places.Topics head = follows_topic head
allows places.Publisher head = follows_publisher head
allows places.Client head = follows_client head
allows places.Linked head = follows_link head
allows places.Planned head = follows_plan head
allows places.Groups head = follows_group head
allows places.Watches head = follows_watch head

-- a script may end in a client's section, and behind groups and watches
abbrev pub may_end : Place → Bool
may_end places.Client = true
may_end places.Linked = true
may_end places.Planned = true
may_end places.Groups = true
may_end places.Watches = true
may_end _ = false
