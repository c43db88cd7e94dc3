-- What a line says, by its words.
use Rattle.std.proofs.Common.{◌≡◌, ℕ, ◌<◌, ◌^◌, Bool, true, false, ltb, List, [], ◌∷◌, ◌++◌, map, Option, Some, None, Result, Ok, Err, refl, sym, ap, subst, ◌∙◌, arith, append_assoc}
use Rattle.std.specs.Prelude.{codes, option_map, IfSome, IfOk}
use Rattle.std.specs.List.{list_all, flat_map}
use Rattle.std.proofs.lemmas.Bool.{ltb-true, and_parts}
use Rattle.std.proofs.lemmas.List.{append_cancel_right, append-nil}
use Rattle.mama_edge.specs.Decimal.{decimal}
use Rattle.mama_words.specs.Reading.{◌>>=◌, or_fault}
use Rattle.mama_words.specs.Parting.{parted_in, is_empty_word}
use Rattle.mama_words.specs.Order.{are_small, spaced_number}
use Rattle.mama_words.specs.Sentence.{spaced, sentence}
use Rattle.mama_words.specs.WordForm.{IsWord, AreWords}
use Rattle.mama_words.proofs.Choices.{some_is, ok_is, step_ok}
use Rattle.mama_words.proofs.Sentences.{parted_found, parted_again, is_simple, piece_simple}
use Rattle.mama_words.specs.declared.nums.Nums.{Nums}
use Rattle.mama_words.proofs.Spellings.{decimal_word, id_word, msg_kind_word, field_words, fields_row}
use Rattle.mama_event.specs.declared.ids.SubId.{SubId}
use Rattle.mama_event.specs.declared.ids.TimerId.{TimerId}
use Rattle.mama_event.specs.declared.ids.InboxId.{InboxId}
use Rattle.mama_event.specs.declared.market.MarketMsg.{MarketMsg}
use Rattle.mama_words.specs.Id.{sub_word, timer_word, inbox_word, sub_text, timer_text, inbox_text}
use Rattle.mama_words.specs.Kind.{msg_kind_text}
use Rattle.mama_words.specs.Field.{fields_text}
use Rattle.mama_record.specs.LogText.{msg_text}
use Rattle.mama_log_line.specs.Names.{NamesData, IsSub, IsTimer, IsInbox}
use Rattle.mama_log_line.specs.Entering.{IsMarketMsg}
use Rattle.mama_log_line.proofs.WordLaws.{market_words, sub_fits, timer_fits, inbox_fits}
use Rattle.mama_log_line.specs.declared.head.Head.{Head}
use Rattle.mama_log_line.specs.declared.head.Head.TheVariants as heads
use Rattle.mama_log_line.specs.Head.{head_text}
use Rattle.mama_log_line.specs.Journal.{told, alone_in}

-- a word of small letters
pub fixed : (w : List ℕ) → list_all is_simple w ≡ true → is_empty_word w ≡ false → IsWord w
fixed w simple some = record { piece = piece_simple w simple; some = some }

pub head_word : (h : Head) → IsWord (head_text h)
head_word heads.Send = fixed (codes "send") refl refl
head_word heads.Done = fixed (codes "done") refl refl
head_word heads.Want = fixed (codes "want") refl refl
head_word heads.Ask = fixed (codes "ask") refl refl
head_word heads.Settle = fixed (codes "settle") refl refl
head_word heads.Fin = fixed (codes "fin") refl refl
head_word heads.Join = fixed (codes "join") refl refl
head_word heads.Leave = fixed (codes "leave") refl refl
head_word heads.Open = fixed (codes "open") refl refl
head_word heads.Close = fixed (codes "close") refl refl
head_word heads.Publish = fixed (codes "publish") refl refl
head_word heads.Image = fixed (codes "image") refl refl
head_word heads.Reply = fixed (codes "reply") refl refl
head_word heads.Recap = fixed (codes "recap") refl refl
head_word heads.Settled = fixed (codes "settled") refl refl
head_word heads.Bye = fixed (codes "bye") refl refl
head_word heads.Arm = fixed (codes "arm") refl refl
head_word heads.Disarm = fixed (codes "disarm") refl refl
head_word heads.Now = fixed (codes "now") refl refl
head_word heads.Create = fixed (codes "create") refl refl
head_word heads.Data = fixed (codes "data") refl refl
head_word heads.Bad = fixed (codes "bad") refl refl
head_word heads.BadReply = fixed (codes "badreply") refl refl
head_word heads.Tick = fixed (codes "tick") refl refl
head_word heads.Gone = fixed (codes "gone") refl refl
head_word heads.Msg = fixed (codes "msg") refl refl
head_word heads.Gap = fixed (codes "gap") refl refl
head_word heads.Quality = fixed (codes "quality") refl refl
head_word heads.Request = fixed (codes "request") refl refl
head_word heads.Late = fixed (codes "late") refl refl
head_word heads.Error = fixed (codes "error") refl refl
head_word heads.Destroy = fixed (codes "destroy") refl refl
head_word heads.Order = fixed (codes "order") refl refl
head_word heads.Clock = fixed (codes "clock") refl refl
head_word heads.State = fixed (codes "state") refl refl
head_word heads.Retry = fixed (codes "retry") refl refl
head_word heads.Timeout = fixed (codes "timeout") refl refl

pub fid_words : (fids : List ℕ) → are_small fids ≡ true → AreWords (map decimal fids)
fid_words [] h = tt
fid_words (f ∷ fs) h =
    let p = and_parts (ltb f (2 ^ 16)) (are_small fs) h in
    let lt = ltb-true f (2 ^ 16) p.0 in
    (decimal_word f (omega (arith, lt)), fid_words fs p.1)

pub numbers_row : (ns : List ℕ) → flat_map spaced_number ns ≡ flat_map spaced (map decimal ns)
numbers_row [] = refl
numbers_row (n ∷ ns) = ap (λ (t : List ℕ). spaced_number n ++ t) (numbers_row ns)

pub sub_is_word : (names : NamesData) (id : SubId) → IsSub names id → IsWord (sub_text id)
sub_is_word names id h = id_word 115 (sub_word id) refl (sub_fits names id h)

pub timer_is_word : (names : NamesData) (id : TimerId) → IsTimer names id → IsWord (timer_text id)
timer_is_word names id h = id_word 116 (timer_word id) refl (timer_fits names id h)

pub inbox_is_word : (names : NamesData) (id : InboxId) → IsInbox names id → IsWord (inbox_text id)
inbox_is_word names id h = id_word 105 (inbox_word id) refl (inbox_fits names id h)

pub small_word : (n : ℕ) → n < 2 ^ 32 → IsWord (decimal n)
small_word n h = decimal_word n (omega (arith, h))

pub market_are_words : (nums : Nums) (m : MarketMsg) → IsMarketMsg nums m → AreWords (market_words m)
market_are_words nums m h = (msg_kind_word m.kind, (small_word m.sender h.sender, (small_word m.seq h.seq, field_words nums m.body h.body.message.fields)))

-- texts in a row
pub three : (a b c : List ℕ) → a ++ b ++ c ≡ a ++ (b ++ c)
three a b c = append_assoc a b c

pub four : (a b c d : List ℕ) → a ++ b ++ c ++ d ≡ a ++ (b ++ (c ++ d))
four a b c d = append_assoc (a ++ b) c d ∙ append_assoc a b (c ++ d)

pub five : (a b c d e : List ℕ) → a ++ b ++ c ++ d ++ e ≡ a ++ (b ++ (c ++ (d ++ e)))
five a b c d e = append_assoc (a ++ b ++ c) d e ∙ four a b c (d ++ e)

pub six : (a b c d e f : List ℕ) → a ++ b ++ c ++ d ++ e ++ f ≡ a ++ (b ++ (c ++ (d ++ (e ++ f))))
six a b c d e f = append_assoc (a ++ b ++ c ++ d) e f ∙ five a b c d (e ++ f)

pub market_row : (m : MarketMsg) → msg_text m ≡ sentence (market_words m)
market_row m =
    four (msg_kind_text m.kind) (spaced_number m.sender) (spaced_number m.seq) (fields_text m.body)
    ∙ ap (λ (t : List ℕ). msg_kind_text m.kind ++ (spaced_number m.sender ++ (spaced_number m.seq ++ t))) (fields_row m.body)

-- a word behind others is the last
pub last_word : (w : List ℕ) → w ≡ w ++ []
last_word w = sym (append-nil w)

pub alone_found : {A : Type 0} (x : A) (ws : List (List ℕ)) (y : A) → alone_in x ws ≡ Ok y → (x ≡ y) × (ws ≡ [])
unfolding alone_in
alone_found x [] y e = (ok_is x y e, refl)
alone_found x (w ∷ ws) y e = absurd cc

pub alone_again : {A : Type 0} (x : A) → alone_in x [] ≡ Ok x
unfolding alone_in
alone_again x = refl

-- a line that was read has words, which say what it says
pub line_found : {E : Type 0} (read : List (List ℕ) → Result E ℕ) (line : List ℕ) (e : E) → (or_fault 2 (parted_in line) >>= read) ≡ Ok e
    → (ws : List (List ℕ)) × (line ≡ sentence ws) × (read ws ≡ Ok e)
line_found read line e h =
    let p = step_ok 2 (parted_in line) read e h in
    (p.0, parted_found line p.0 p.1, p.2)

-- a line that is spelled by such words is read so
pub line_again : {E : Type 0} (read : List (List ℕ) → Result E ℕ) (w : List ℕ) (ws : List (List ℕ)) (text line : List ℕ) (e : E)
    → AreWords (w ∷ ws) → text ≡ sentence (w ∷ ws) → read (w ∷ ws) ≡ Ok e → line ++ 10 ∷ [] ≡ text ++ 10 ∷ [] → (or_fault 2 (parted_in line) >>= read) ≡ Ok e
line_again {E} read w ws text line e words row says same =
    let spelled : line ≡ sentence (w ∷ ws) = append_cancel_right line text (10 ∷ []) same ∙ row in
    ap (λ (l : List ℕ). or_fault 2 (parted_in l) >>= read) spelled ∙ ap (λ (o : Option (List (List ℕ))). or_fault 2 o >>= read) (parted_again w ws words) ∙ says

-- what is told was read
pub told_found : {E : Type 0} (P : E → Type 0) (r : Result E ℕ) (o : Option E) → o ≡ told r → ((e : E) → r ≡ Ok e → P e) → IfSome o P
told_found P (Ok x) o h f = subst (λ o. IfSome o P) (sym h) (f x refl)
told_found P (Err n) o h f = subst (λ o. IfSome o P) (sym h) tt

-- what was read is told
pub told_again : {E : Type 0} (r : Result E ℕ) (o : Option E) (e : E) → o ≡ told r → r ≡ Ok e → o ≡ Some e
told_again r o e h is = h ∙ ap told is

pub if_found : {E X : Type 0} (P : E → Type 0) (read : Result E ℕ) (r : Result (Option E) X) → IfOk r (λ o. o ≡ told read) → ((e : E) → read ≡ Ok e → P e) → IfOk r (λ o. IfSome o P)
if_found P read (Ok o) h f = told_found P read o h f
if_found P read (Err x) h f = tt

pub if_again : {E X : Type 0} (May Same : E → Type 0) (read : Result E ℕ) (r : Result (Option E) X) → IfOk r (λ o. o ≡ told read) → ((e : E) → May e → Same e → read ≡ Ok e)
    → IfOk r (λ o. (e : E) → May e → Same e → o ≡ Some e)
if_again May Same read (Ok o) h f = λ e may same. told_again read o e h (f e may same)
if_again May Same read (Err x) h f = tt

-- the same, where what is told is seen through a function
told_found_seen : {Y E : Type 0} (view : Y → E) (P : E → Type 0) (r : Result E ℕ) (o : Option Y) → option_map view o ≡ told r → ((e : E) → r ≡ Ok e → P e) → IfSome o (λ y. P (view y))
told_found_seen view P (Ok x) (Some y) h f = subst P (sym (some_is (view y) x h)) (f x refl)
told_found_seen view P (Ok x) None h f = tt
told_found_seen view P (Err n) (Some y) h f = absurd cc
told_found_seen view P (Err n) None h f = tt

pub if_found_seen : {Y E X : Type 0} (view : Y → E) (P : E → Type 0) (read : Result E ℕ) (r : Result (Option Y) X) → IfOk r (λ o. option_map view o ≡ told read) → ((e : E) → read ≡ Ok e → P e)
    → IfOk r (λ o. IfSome o (λ y. P (view y)))
if_found_seen view P read (Ok o) h f = told_found_seen view P read o h f
if_found_seen view P read (Err x) h f = tt

pub if_again_seen : {Y E X : Type 0} (view : Y → E) (May Same : E → Type 0) (read : Result E ℕ) (r : Result (Option Y) X) → IfOk r (λ o. option_map view o ≡ told read)
    → ((e : E) → May e → Same e → read ≡ Ok e) → IfOk r (λ o. (e : E) → May e → Same e → option_map view o ≡ Some e)
if_again_seen view May Same read (Ok o) h f = λ e may same. h ∙ ap told (f e may same)
if_again_seen view May Same read (Err x) h f = tt
