-- First words: what is read is so spelled, and what is so spelled is read.
use Rattle.std.proofs.Common.{◌≡◌, ℕ, List, Some, refl}
use Rattle.mama_words.proofs.Named.{named_found}
use Rattle.mama_log_line.specs.declared.head.Head.{Head}
use Rattle.mama_log_line.specs.declared.head.Head.TheVariants as heads
use Rattle.mama_log_line.specs.Head.{head_text, all_heads, head_in}

pub head_again : (h : Head) → head_in (head_text h) ≡ Some h
unfolding head_in
head_again heads.Send = refl
head_again heads.Done = refl
head_again heads.Want = refl
head_again heads.Ask = refl
head_again heads.Settle = refl
head_again heads.Fin = refl
head_again heads.Join = refl
head_again heads.Leave = refl
head_again heads.Open = refl
head_again heads.Close = refl
head_again heads.Publish = refl
head_again heads.Image = refl
head_again heads.Reply = refl
head_again heads.Recap = refl
head_again heads.Settled = refl
head_again heads.Bye = refl
head_again heads.Arm = refl
head_again heads.Disarm = refl
head_again heads.Now = refl
head_again heads.Create = refl
head_again heads.Data = refl
head_again heads.Bad = refl
head_again heads.BadReply = refl
head_again heads.Tick = refl
head_again heads.Gone = refl
head_again heads.Msg = refl
head_again heads.Gap = refl
head_again heads.Quality = refl
head_again heads.Request = refl
head_again heads.Late = refl
head_again heads.Error = refl
head_again heads.Destroy = refl
head_again heads.Order = refl
head_again heads.Clock = refl
head_again heads.State = refl
head_again heads.Retry = refl
head_again heads.Timeout = refl

pub head_found : (word : List ℕ) (h : Head) → head_in word ≡ Some h → word ≡ head_text h
unfolding head_in
head_found word h = named_found head_text word all_heads h
