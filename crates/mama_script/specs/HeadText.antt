-- inner: The words that lines begin with.
use Rattle.std.specs.Prelude.{ℕ, codes, List}
use Rattle.mama_script.specs.declared.head.Head.{Head}
use Rattle.mama_script.specs.declared.head.Head.TheVariants.{Strategy, Queues, Topic, Publisher, Update, Recap, Pause, Client, Sub, Timer, Inbox, Fault, At, Stop, Disarm, Close, Ask, Now, Group, Watch}

-- the word
abbrev pub head_text : Head → List ℕ
head_text Strategy = codes "strategy"
head_text Queues = codes "queues"
head_text Topic = codes "topic"
head_text Publisher = codes "publisher"
head_text Update = codes "update"
head_text Recap = codes "recap"
head_text Pause = codes "pause"
head_text Client = codes "client"
head_text Sub = codes "sub"
head_text Timer = codes "timer"
head_text Inbox = codes "inbox"
head_text Fault = codes "fault"
head_text At = codes "at"
head_text Stop = codes "stop"
head_text Disarm = codes "disarm"
head_text Close = codes "close"
head_text Ask = codes "ask"
head_text Now = codes "now"
head_text Group = codes "group"
head_text Watch = codes "watch"
