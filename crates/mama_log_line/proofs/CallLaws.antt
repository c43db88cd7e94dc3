-- Callbacks: what is read is so spelled, and what is so spelled is read.
use Rattle.std.proofs.Common.{◌≡◌, ℕ, ◌<◌, ◌^◌, List, [], ◌∷◌, ◌++◌, map, Ok, refl, sym, ap, subst, ◌∙◌, arith}
use Rattle.std.specs.Prelude.{codes}
use Rattle.mama_edge.specs.Decimal.{decimal}
use Rattle.mama_event.specs.declared.ids.ObjectId.{ObjectId}
use Rattle.mama_event.specs.declared.ids.ObjectId.TheVariants.{Sub, Timer, Inbox}
use Rattle.mama_event.specs.declared.market.MarketMsg.{MarketMsg}
use Rattle.mama_event.specs.declared.market.Quality.{Quality}
use Rattle.mama_event.specs.declared.callback.Callback.{Callback}
use Rattle.mama_event.specs.declared.callback.Callback.TheVariants as on
use Rattle.mama_words.specs.Reading.{or_fault}
use Rattle.mama_words.specs.Number.{number_in, below_in}
use Rattle.mama_words.specs.Kind.{msg_kind_text, quality_text}
use Rattle.mama_words.specs.KindIn.{msg_kind_in, quality_in}
use Rattle.mama_words.specs.Field.{field_text, fields_text}
use Rattle.mama_words.specs.Order.{spaced_number}
use Rattle.mama_words.specs.Sentence.{sentence}
use Rattle.mama_words.specs.WordForm.{AreWords}
use Rattle.mama_words.proofs.Choices.{ok_is, bind_ok, step_ok}
use Rattle.mama_words.proofs.Numbers.{number_in_again, number_in_found, below_in_again, below_in_found}
use Rattle.mama_words.proofs.KindLaws.{msg_kind_again, msg_kind_found, quality_again, quality_found}
use Rattle.mama_words.specs.declared.nums.Nums.{Nums}
use Rattle.mama_words.proofs.Spellings.{decimal_word, msg_kind_word, quality_word, field_words, fields_row}
use Rattle.mama_record.specs.LogText.{line, callback_text}
use Rattle.mama_log_line.specs.declared.head.Head.{Head}
use Rattle.mama_log_line.specs.declared.head.Head.TheVariants as heads
use Rattle.mama_log_line.specs.Head.{head_text, head_in}
use Rattle.mama_log_line.specs.Word.{small_in, body_in}
use Rattle.mama_log_line.specs.Entering.{SubHears, TimerHears, InboxHears, MayHear}
use Rattle.mama_log_line.specs.Journal.{alone_in}
use Rattle.mama_log_line.specs.Calls.{msg_in, gap_in, quality_call_in, request_in, late_in, error_in, ticked_in, replied_in, sub_call_in, timer_call_in, inbox_call_in, call_by, call_words_in, call_line_in}
use Rattle.mama_log_line.proofs.Heads.{head_again, head_found}
use Rattle.mama_log_line.proofs.WordLaws.{small_again, small_found, body_again, body_found}
use Rattle.mama_log_line.proofs.LineLaws.{head_word, five, last_word, small_word, alone_found, alone_again, line_found, line_again}

abbrev pub head_of : Callback → Head
head_of on.Create = heads.Create
head_of (on.Msg msg quality) = heads.Msg
head_of (on.Gap first to) = heads.Gap
head_of (on.Quality quality number) = heads.Quality
head_of (on.RecapRequest sender) = heads.Request
head_of (on.Late sender seq) = heads.Late
head_of (on.Error code) = heads.Error
head_of on.Destroy = heads.Destroy
head_of (on.Tick moment) = heads.Tick
head_of (on.Reply body) = heads.Reply

-- the words behind the head
abbrev pub rest_of : Callback → List (List ℕ)
rest_of on.Create = []
rest_of (on.Msg m quality) = msg_kind_text m.kind ∷ decimal m.sender ∷ decimal m.seq ∷ quality_text quality ∷ map field_text m.body
rest_of (on.Gap first to) = decimal first ∷ decimal to ∷ []
rest_of (on.Quality quality number) = quality_text quality ∷ decimal number ∷ []
rest_of (on.RecapRequest sender) = decimal sender ∷ []
rest_of (on.Late sender seq) = decimal sender ∷ decimal seq ∷ []
rest_of (on.Error code) = decimal code ∷ []
rest_of on.Destroy = []
rest_of (on.Tick moment) = decimal moment ∷ []
rest_of (on.Reply body) = map field_text body

abbrev pub words_of : Callback → List (List ℕ)
words_of call = head_text (head_of call) ∷ rest_of call

pub row : (call : Callback) → callback_text call ≡ sentence (words_of call)
row on.Create = refl
row (on.Msg m quality) =
    ap (λ (t : List ℕ). codes "msg " ++ t) (five (msg_kind_text m.kind) (spaced_number m.sender) (spaced_number m.seq) (32 ∷ quality_text quality) (fields_text m.body))
    ∙ ap (λ (t : List ℕ). codes "msg " ++ (msg_kind_text m.kind ++ (spaced_number m.sender ++ (spaced_number m.seq ++ 32 ∷ (quality_text quality ++ t))))) (fields_row m.body)
row (on.Gap first to) = ap (λ (t : List ℕ). codes "gap " ++ (decimal first ++ 32 ∷ t)) (last_word (decimal to))
row (on.Quality quality number) = ap (λ (t : List ℕ). codes "quality " ++ (quality_text quality ++ 32 ∷ t)) (last_word (decimal number))
row (on.RecapRequest sender) = ap (λ (t : List ℕ). codes "request " ++ t) (last_word (decimal sender))
row (on.Late sender seq) = ap (λ (t : List ℕ). codes "late " ++ (decimal sender ++ 32 ∷ t)) (last_word (decimal seq))
row (on.Error code) = ap (λ (t : List ℕ). codes "error " ++ t) (last_word (decimal code))
row on.Destroy = refl
row (on.Tick moment) = ap (λ (t : List ℕ). codes "tick " ++ t) (last_word (decimal moment))
row (on.Reply body) = ap (λ (t : List ℕ). codes "reply" ++ t) (fields_row body)

-- ---- what is spelled is read

sub_words : (nums : Nums) (call : Callback) → SubHears nums call → AreWords (words_of call)
sub_words nums on.Create h = (head_word heads.Create, tt)
sub_words nums (on.Msg m quality) h = (head_word heads.Msg, (msg_kind_word m.kind, (small_word m.sender h.sender, (small_word m.seq h.seq, (quality_word quality, field_words nums m.body h.body.message.fields)))))
sub_words nums (on.Gap first to) h = (head_word heads.Gap, (small_word first h.0, (small_word to h.1, tt)))
sub_words nums (on.Quality quality number) h = (head_word heads.Quality, (quality_word quality, (small_word number h, tt)))
sub_words nums (on.RecapRequest sender) h = (head_word heads.Request, (small_word sender h, tt))
sub_words nums (on.Late sender seq) h = (head_word heads.Late, (small_word sender h.0, (small_word seq h.1, tt)))
sub_words nums (on.Error code) h = (head_word heads.Error, (decimal_word code (omega (arith, h)), tt))
sub_words nums on.Destroy h = (head_word heads.Destroy, tt)
sub_words nums _ h = absurd h

timer_words : (call : Callback) → TimerHears call → AreWords (words_of call)
timer_words on.Create h = (head_word heads.Create, tt)
timer_words (on.Tick moment) h = (head_word heads.Tick, (decimal_word moment h, tt))
timer_words on.Destroy h = (head_word heads.Destroy, tt)
timer_words _ h = absurd h

inbox_words : (nums : Nums) (call : Callback) → InboxHears nums call → AreWords (words_of call)
inbox_words nums on.Create h = (head_word heads.Create, tt)
inbox_words nums (on.Reply body) h = (head_word heads.Reply, field_words nums body h.message.fields)
inbox_words nums (on.Error code) h = (head_word heads.Error, (decimal_word code (omega (arith, h)), tt))
inbox_words nums on.Destroy h = (head_word heads.Destroy, tt)
inbox_words nums _ h = absurd h

pub are_words : (nums : Nums) (object : ObjectId) (call : Callback) → MayHear nums object call → AreWords (words_of call)
are_words nums (Sub id) call h = sub_words nums call h
are_words nums (Timer id) call h = timer_words call h
are_words nums (Inbox id) call h = inbox_words nums call h

code_again : (code : ℕ) → code < 2 ^ 8 → or_fault 5 (below_in (2 ^ 8) (decimal code)) ≡ Ok code
code_again code h = ap (or_fault 5) (below_in_again (2 ^ 8) code h (omega (arith, h)))

sub_again : (nums : Nums) (call : Callback) → SubHears nums call → sub_call_in nums (head_of call) (rest_of call) ≡ Ok call
sub_again nums on.Create h = alone_again on.Create
sub_again nums (on.Msg m quality) h = unfold msg_in in rw (msg_kind_again m.kind, small_again m.sender h.sender, small_again m.seq h.seq, quality_again quality, body_again nums m.body h.body) refl
sub_again nums (on.Gap first to) h = unfold gap_in in rw (small_again first h.0, small_again to h.1) refl
sub_again nums (on.Quality quality number) h = unfold quality_call_in in rw (quality_again quality, small_again number h) refl
sub_again nums (on.RecapRequest sender) h = unfold request_in in rw (small_again sender h) refl
sub_again nums (on.Late sender seq) h = unfold late_in in rw (small_again sender h.0, small_again seq h.1) refl
sub_again nums (on.Error code) h = unfold error_in in rw (code_again code h) refl
sub_again nums on.Destroy h = alone_again on.Destroy
sub_again nums _ h = absurd h

timer_again : (call : Callback) → TimerHears call → timer_call_in (head_of call) (rest_of call) ≡ Ok call
timer_again on.Create h = alone_again on.Create
timer_again (on.Tick moment) h = unfold ticked_in in rw (number_in_again moment h) refl
timer_again on.Destroy h = alone_again on.Destroy
timer_again _ h = absurd h

inbox_again : (nums : Nums) (call : Callback) → InboxHears nums call → inbox_call_in nums (head_of call) (rest_of call) ≡ Ok call
inbox_again nums on.Create h = alone_again on.Create
inbox_again nums (on.Reply body) h = unfold replied_in in rw (body_again nums body h) refl
inbox_again nums (on.Error code) h = unfold error_in in rw (code_again code h) refl
inbox_again nums on.Destroy h = alone_again on.Destroy
inbox_again nums _ h = absurd h

by_again : (nums : Nums) (object : ObjectId) (call : Callback) → MayHear nums object call → call_by nums object (head_of call) (rest_of call) ≡ Ok call
by_again nums (Sub id) call h = sub_again nums call h
by_again nums (Timer id) call h = timer_again call h
by_again nums (Inbox id) call h = inbox_again nums call h

pub words_again : (nums : Nums) (object : ObjectId) (call : Callback) → MayHear nums object call → call_words_in nums object (words_of call) ≡ Ok call
unfolding call_words_in
words_again nums object call h = rw (head_again (head_of call)) (by_again nums object call h)

pub call_again : (nums : Nums) (object : ObjectId) (text : List ℕ) (call : Callback) → MayHear nums object call → text ++ 10 ∷ [] ≡ line (callback_text call) → call_line_in nums object text ≡ Ok call
unfolding call_line_in
call_again nums object text call may same =
    line_again (call_words_in nums object) (head_text (head_of call)) (rest_of call) (callback_text call) text call (are_words nums object call may) (row call) (words_again nums object call may) same

-- ---- what is read is so spelled

-- a callback that begins with this head, whose other words are these
abbrev Spelled : (Callback → Type 0) → Head → List (List ℕ) → Callback → Type 0
Spelled May head ws call = May call × (head_text head ∷ ws ≡ words_of call)

alone_is : (May : Callback → Type 0) (x call : Callback) (ws : List (List ℕ)) → May x → rest_of x ≡ [] → alone_in x ws ≡ Ok call → Spelled May (head_of x) ws call
alone_is May x call ws may none h =
    let a = alone_found x ws call h in
    subst (λ (y : Callback). Spelled May (head_of x) ws y) a.0 (may, ap (λ (r : List (List ℕ)). head_text (head_of x) ∷ r) (a.1 ∙ sym none))

same_msg : (h a b c d e f g k : List ℕ) (x y : List (List ℕ)) → a ≡ b → c ≡ d → e ≡ f → g ≡ k → x ≡ y → h ∷ a ∷ c ∷ e ∷ g ∷ x ≡ h ∷ b ∷ d ∷ f ∷ k ∷ y
same_msg h a b c d e f g k x y p q r s t = cc

msg_found : (nums : Nums) (ws : List (List ℕ)) (call : Callback) → msg_in nums ws ≡ Ok call → Spelled (SubHears nums) heads.Msg ws call
unfolding msg_in
msg_found nums [] call h = absurd cc
msg_found nums (a ∷ []) call h = absurd cc
msg_found nums (a ∷ b ∷ []) call h = absurd cc
msg_found nums (a ∷ b ∷ c ∷ []) call h = absurd cc
msg_found nums (kind ∷ sender ∷ seq ∷ quality ∷ fields) call h =
    let k = step_ok 4 (msg_kind_in kind) _ call h in
    let s = bind_ok (small_in sender) _ call k.2 in
    let n = bind_ok (small_in seq) _ call s.2 in
    let q = step_ok 4 (quality_in quality) _ call n.2 in
    let b = bind_ok (body_in nums fields) _ call q.2 in
    let sender_is = small_found sender s.0 s.1 in
    let seq_is = small_found seq n.0 n.1 in
    let body_is = body_found nums fields b.0 b.1 in
    let msg : MarketMsg = record { kind = k.0; sender = s.0; seq = n.0; body = b.0 } in
    subst (λ (y : Callback). Spelled (SubHears nums) heads.Msg (kind ∷ sender ∷ seq ∷ quality ∷ fields) y) (ok_is (on.Msg msg q.0) call b.2) (
      record { sender = sender_is.0; seq = seq_is.0; body = body_is.0 },
      same_msg (codes "msg") kind (msg_kind_text k.0) sender (decimal s.0) seq (decimal n.0) quality (quality_text q.0) fields (map field_text b.0)
          (msg_kind_found kind k.0 k.1) sender_is.1 seq_is.1 (quality_found quality q.0 q.1) body_is.1,
    )

same_pair : (h a c d e : List ℕ) → a ≡ c → d ≡ e → h ∷ a ∷ d ∷ [] ≡ h ∷ c ∷ e ∷ []
same_pair h a c d e p q = cc

gap_found : (nums : Nums) (ws : List (List ℕ)) (call : Callback) → gap_in ws ≡ Ok call → Spelled (SubHears nums) heads.Gap ws call
unfolding gap_in
gap_found nums [] call h = absurd cc
gap_found nums (a ∷ []) call h = absurd cc
gap_found nums (first ∷ to ∷ []) call h =
    let a = bind_ok (small_in first) _ call h in
    let b = bind_ok (small_in to) _ call a.2 in
    let first_is = small_found first a.0 a.1 in
    let to_is = small_found to b.0 b.1 in
    subst (λ (y : Callback). Spelled (SubHears nums) heads.Gap (first ∷ to ∷ []) y) (ok_is (on.Gap a.0 b.0) call b.2)
    ((first_is.0, to_is.0), same_pair (codes "gap") first (decimal a.0) to (decimal b.0) first_is.1 to_is.1)
gap_found nums (a ∷ b ∷ c ∷ ws) call h = absurd cc

quality_call_found : (nums : Nums) (ws : List (List ℕ)) (call : Callback) → quality_call_in ws ≡ Ok call → Spelled (SubHears nums) heads.Quality ws call
unfolding quality_call_in
quality_call_found nums [] call h = absurd cc
quality_call_found nums (a ∷ []) call h = absurd cc
quality_call_found nums (quality ∷ number ∷ []) call h =
    let a = step_ok 4 (quality_in quality) _ call h in
    let b = bind_ok (small_in number) _ call a.2 in
    let number_is = small_found number b.0 b.1 in
    subst (λ (y : Callback). Spelled (SubHears nums) heads.Quality (quality ∷ number ∷ []) y) (ok_is (on.Quality a.0 b.0) call b.2)
    (number_is.0, same_pair (codes "quality") quality (quality_text a.0) number (decimal b.0) (quality_found quality a.0 a.1) number_is.1)
quality_call_found nums (a ∷ b ∷ c ∷ ws) call h = absurd cc

-- a callback that tells one number
one_word : (May : Callback → Type 0) (x call : Callback) (w : List ℕ) (n : ℕ) → May x → rest_of x ≡ decimal n ∷ [] → w ≡ decimal n → x ≡ call → Spelled May (head_of x) (w ∷ []) call
one_word May x call w n may rest same is =
    subst (λ (y : Callback). Spelled May (head_of x) (w ∷ []) y) is (may, ap (λ (t : List ℕ). head_text (head_of x) ∷ t ∷ []) same ∙ ap (λ (r : List (List ℕ)). head_text (head_of x) ∷ r) (sym rest))

request_found : (nums : Nums) (ws : List (List ℕ)) (call : Callback) → request_in ws ≡ Ok call → Spelled (SubHears nums) heads.Request ws call
unfolding request_in
request_found nums [] call h = absurd cc
request_found nums (w ∷ []) call h =
    let a = bind_ok (small_in w) _ call h in
    let is = small_found w a.0 a.1 in
    one_word (SubHears nums) (on.RecapRequest a.0) call w a.0 is.0 refl is.1 (ok_is (on.RecapRequest a.0) call a.2)
request_found nums (a ∷ b ∷ ws) call h = absurd cc

late_found : (nums : Nums) (ws : List (List ℕ)) (call : Callback) → late_in ws ≡ Ok call → Spelled (SubHears nums) heads.Late ws call
unfolding late_in
late_found nums [] call h = absurd cc
late_found nums (a ∷ []) call h = absurd cc
late_found nums (sender ∷ seq ∷ []) call h =
    let a = bind_ok (small_in sender) _ call h in
    let b = bind_ok (small_in seq) _ call a.2 in
    let sender_is = small_found sender a.0 a.1 in
    let seq_is = small_found seq b.0 b.1 in
    subst (λ (y : Callback). Spelled (SubHears nums) heads.Late (sender ∷ seq ∷ []) y) (ok_is (on.Late a.0 b.0) call b.2)
    ((sender_is.0, seq_is.0), same_pair (codes "late") sender (decimal a.0) seq (decimal b.0) sender_is.1 seq_is.1)
late_found nums (a ∷ b ∷ c ∷ ws) call h = absurd cc

error_found : (May : Callback → Type 0) → ((code : ℕ) → code < 2 ^ 8 → May (on.Error code)) → (ws : List (List ℕ)) (call : Callback) → error_in ws ≡ Ok call → Spelled May heads.Error ws call
unfolding error_in
error_found May may [] call h = absurd cc
error_found May may (w ∷ []) call h =
    let a = step_ok 5 (below_in (2 ^ 8) w) _ call h in
    let is = below_in_found (2 ^ 8) w a.0 a.1 in
    one_word May (on.Error a.0) call w a.0 (may a.0 is.0) refl is.1 (ok_is (on.Error a.0) call a.2)
error_found May may (a ∷ b ∷ ws) call h = absurd cc

tick_found : (ws : List (List ℕ)) (call : Callback) → ticked_in ws ≡ Ok call → Spelled TimerHears heads.Tick ws call
unfolding ticked_in
tick_found [] call h = absurd cc
tick_found (w ∷ []) call h =
    let a = step_ok 5 (number_in w) _ call h in
    let is = number_in_found w a.0 a.1 in
    one_word TimerHears (on.Tick a.0) call w a.0 is.0 refl is.1 (ok_is (on.Tick a.0) call a.2)
tick_found (a ∷ b ∷ ws) call h = absurd cc

reply_found : (nums : Nums) (ws : List (List ℕ)) (call : Callback) → replied_in nums ws ≡ Ok call → Spelled (InboxHears nums) heads.Reply ws call
unfolding replied_in
reply_found nums ws call h =
    let a = bind_ok (body_in nums ws) _ call h in
    let is = body_found nums ws a.0 a.1 in
    subst (λ (y : Callback). Spelled (InboxHears nums) heads.Reply ws y) (ok_is (on.Reply a.0) call a.2) (is.0, ap (λ (r : List (List ℕ)). codes "reply" ∷ r) is.1)

sub_found : (nums : Nums) (head : Head) (ws : List (List ℕ)) (call : Callback) → sub_call_in nums head ws ≡ Ok call → Spelled (SubHears nums) head ws call
sub_found nums heads.Create ws call h = alone_is (SubHears nums) on.Create call ws tt refl h
sub_found nums heads.Msg ws call h = msg_found nums ws call h
sub_found nums heads.Gap ws call h = gap_found nums ws call h
sub_found nums heads.Quality ws call h = quality_call_found nums ws call h
sub_found nums heads.Request ws call h = request_found nums ws call h
sub_found nums heads.Late ws call h = late_found nums ws call h
sub_found nums heads.Error ws call h = error_found (SubHears nums) (λ code small. small) ws call h
sub_found nums heads.Destroy ws call h = alone_is (SubHears nums) on.Destroy call ws tt refl h
sub_found nums _ ws call h = absurd cc

timer_found : (head : Head) (ws : List (List ℕ)) (call : Callback) → timer_call_in head ws ≡ Ok call → Spelled TimerHears head ws call
timer_found heads.Create ws call h = alone_is TimerHears on.Create call ws tt refl h
timer_found heads.Tick ws call h = tick_found ws call h
timer_found heads.Destroy ws call h = alone_is TimerHears on.Destroy call ws tt refl h
timer_found _ ws call h = absurd cc

inbox_found : (nums : Nums) (head : Head) (ws : List (List ℕ)) (call : Callback) → inbox_call_in nums head ws ≡ Ok call → Spelled (InboxHears nums) head ws call
inbox_found nums heads.Create ws call h = alone_is (InboxHears nums) on.Create call ws tt refl h
inbox_found nums heads.Reply ws call h = reply_found nums ws call h
inbox_found nums heads.Error ws call h = error_found (InboxHears nums) (λ code small. small) ws call h
inbox_found nums heads.Destroy ws call h = alone_is (InboxHears nums) on.Destroy call ws tt refl h
inbox_found nums _ ws call h = absurd cc

by_found : (nums : Nums) (object : ObjectId) (head : Head) (ws : List (List ℕ)) (call : Callback) → call_by nums object head ws ≡ Ok call → Spelled (MayHear nums object) head ws call
by_found nums (Sub id) head ws call h = sub_found nums head ws call h
by_found nums (Timer id) head ws call h = timer_found head ws call h
by_found nums (Inbox id) head ws call h = inbox_found nums head ws call h

pub words_found : (nums : Nums) (object : ObjectId) (ws : List (List ℕ)) (call : Callback) → call_words_in nums object ws ≡ Ok call → MayHear nums object call × (ws ≡ words_of call)
unfolding call_words_in
words_found nums object [] call h = absurd cc
words_found nums object (head ∷ ws) call h =
    let p = step_ok 3 (head_in head) (λ head. call_by nums object head ws) call h in
    let q = by_found nums object p.0 ws call p.2 in
    (q.0, ap (λ (w : List ℕ). w ∷ ws) (head_found head p.0 p.1) ∙ q.1)

pub call_found : (nums : Nums) (object : ObjectId) (text : List ℕ) (call : Callback) → call_line_in nums object text ≡ Ok call → MayHear nums object call × (text ++ 10 ∷ [] ≡ line (callback_text call))
unfolding call_line_in
call_found nums object text call h =
    let p = line_found (call_words_in nums object) text call h in
    let q = words_found nums object p.0 call p.2 in
    (q.0, ap line (p.1 ∙ ap sentence q.1 ∙ sym (row call)))
