-- inner: The words that lines of a log begin with, or entries behind their ports.
use Rattle.std.specs.Prelude.{ℕ, codes, List, [], ◌∷◌, Option}
use Rattle.mama_words.specs.Named.{named_in}
use Rattle.mama_log_line.specs.declared.head.Head.{Head}
use Rattle.mama_log_line.specs.declared.head.Head.TheVariants as heads

abbrev pub head_text : Head → List ℕ
head_text heads.Send = codes "send"
head_text heads.Done = codes "done"
head_text heads.Want = codes "want"
head_text heads.Ask = codes "ask"
head_text heads.Settle = codes "settle"
head_text heads.Fin = codes "fin"
head_text heads.Join = codes "join"
head_text heads.Leave = codes "leave"
head_text heads.Open = codes "open"
head_text heads.Close = codes "close"
head_text heads.Publish = codes "publish"
head_text heads.Image = codes "image"
head_text heads.Reply = codes "reply"
head_text heads.Recap = codes "recap"
head_text heads.Settled = codes "settled"
head_text heads.Bye = codes "bye"
head_text heads.Arm = codes "arm"
head_text heads.Disarm = codes "disarm"
head_text heads.Now = codes "now"
head_text heads.Create = codes "create"
head_text heads.Data = codes "data"
head_text heads.Bad = codes "bad"
head_text heads.BadReply = codes "badreply"
head_text heads.Tick = codes "tick"
head_text heads.Gone = codes "gone"
head_text heads.Msg = codes "msg"
head_text heads.Gap = codes "gap"
head_text heads.Quality = codes "quality"
head_text heads.Request = codes "request"
head_text heads.Late = codes "late"
head_text heads.Error = codes "error"
head_text heads.Destroy = codes "destroy"
head_text heads.Order = codes "order"
head_text heads.Clock = codes "clock"
head_text heads.State = codes "state"
head_text heads.Retry = codes "retry"
head_text heads.Timeout = codes "timeout"

-- all of them, and first those that most lines of a log begin with
abbrev pub all_heads : List Head
all_heads =
    heads.Data ∷ heads.Msg ∷ heads.Publish ∷ heads.Send ∷ heads.Tick ∷ heads.Order ∷ heads.Done ∷ heads.Want ∷
    heads.Ask ∷ heads.Settle ∷ heads.Fin ∷ heads.Join ∷ heads.Leave ∷ heads.Open ∷ heads.Close ∷ heads.Image ∷
    heads.Reply ∷ heads.Recap ∷ heads.Settled ∷ heads.Bye ∷ heads.Arm ∷ heads.Disarm ∷ heads.Now ∷ heads.Create ∷
    heads.Bad ∷ heads.BadReply ∷ heads.Gone ∷ heads.Gap ∷ heads.Quality ∷ heads.Request ∷ heads.Late ∷ heads.Error ∷
    heads.Destroy ∷ heads.Clock ∷ heads.State ∷ heads.Retry ∷ heads.Timeout ∷ []

-- what a word begins: the first head that has the word
unfoldable pub head_in : List ℕ → Option Head
head_in word = named_in head_text word all_heads
