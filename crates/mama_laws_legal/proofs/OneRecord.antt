-- The rounds of a script give one record.
use Rattle.std.proofs.Common.{◌≡◌, ℕ, zero, suc, ◌+◌, ◌-◌, ◌≤◌, List, refl, sym, ◌∙◌, ap, subst, arith, ⊎_elim}
use Rattle.std.proofs.lemmas.Bool.{cases_lt}
use Rattle.mama_event.specs.Ports.{clients_of, publishers_of, queues_of}
use Rattle.mama_rules_rounds.specs.Setting.{Setting}
use Rattle.mama_rules_rounds.specs.World.{World, bridge_took, bridge_turn, timers_took, timers_turn, publisher_took, publisher_turn, queue_took, queue_turn, in_turn, pass, passes, IsQuiet, IsDrained}
use Rattle.mama_rules_rounds.specs.Stage.{Stage, client_stepped, client_step, publisher_stepped, publisher_step, IsStageDrained, AreSteps, IsOneRound, AreRounds, IsOver}
use Rattle.mama_rules_rounds.specs.Sections.{setting_of}
use Rattle.mama_rules_rounds.specs.Round.{start, record_of}
use Rattle.mama_laws_legal.specs.Laws.{RoundsGiveOneRecord}
use Rattle.mama_laws_legal.proofs.Lists.{all_empty}
use Rattle.mama_laws_legal.proofs.Whole.{at_rest}

-- ---- a quiet world stays as it is

still_in_turn : (turn : ℕ → World → World) (w : World) → ((k : ℕ) → turn k w ≡ w) → (n : ℕ) → in_turn turn n w ≡ w
still_in_turn turn w still zero = refl
still_in_turn turn w still (suc n) = ap (turn n) (still_in_turn turn w still n) ∙ still n

still_pass : (setting : Setting) (w : World) → IsQuiet w → pass setting w ≡ w
still_pass setting w quiet =
    let bridge : bridge_turn setting w ≡ w = ap (bridge_took setting w) quiet.bridge in
    let timers : timers_turn setting w ≡ w = ap (timers_took setting w) quiet.timers in
    let publishers : (n : ℕ) → in_turn (publisher_turn setting) n w ≡ w = still_in_turn (publisher_turn setting) w (λ p. ap (publisher_took setting p w) (all_empty w.to_publishers p quiet.publishers)) in
    let queues : (n : ℕ) → in_turn (queue_turn setting) n w ≡ w = still_in_turn (queue_turn setting) w (λ q. ap (queue_took setting q w) (all_empty w.to_queues q quiet.queues)) in
    ap (λ (v : World). in_turn (queue_turn setting) (queues_of setting.shape) (in_turn (publisher_turn setting) (publishers_of setting.shape) (timers_turn setting v))) bridge
    ∙ ap (λ (v : World). in_turn (queue_turn setting) (queues_of setting.shape) (in_turn (publisher_turn setting) (publishers_of setting.shape) v)) timers
    ∙ ap (λ (v : World). in_turn (queue_turn setting) (queues_of setting.shape) v) (publishers (publishers_of setting.shape))
    ∙ queues (queues_of setting.shape)

-- some passes, and then some more
still_passes : (setting : Setting) (w : World) (n k : ℕ) → IsQuiet (passes setting n w) → passes setting (k + n) w ≡ passes setting n w
still_passes setting w n zero quiet = let same : zero + n ≡ n = omega arith in ap (λ (m : ℕ). passes setting m w) same
still_passes setting w n (suc k) quiet =
    let same : suc k + n ≡ suc (k + n) = omega arith in
    ap (λ (m : ℕ). passes setting m w) same ∙ ap (pass setting) (still_passes setting w n k quiet) ∙ still_pass setting (passes setting n w) quiet

one_drain : (setting : Setting) (w a b : World) → IsDrained setting w a → IsDrained setting w b → a ≡ b
one_drain setting w a b da db = ⊎_elim
    (λ less. later da db (omega arith))
    (λ more. sym (later db da more))
    (cases_lt da.count db.count)
  where
    later : {x y : World} (dx : IsDrained setting w x) (dy : IsDrained setting w y) → dx.count ≤ dy.count → x ≡ y
    later dx dy small =
        let same : (dy.count - dx.count) + dx.count ≡ dy.count = omega arith in
        dx.after ∙ sym (still_passes setting w dx.count (dy.count - dx.count) (subst IsQuiet dx.after dx.quiet)) ∙ ap (λ (m : ℕ). passes setting m w) same ∙ sym dy.after

-- ---- stages

one_stage : (a b : Stage) → a.clients ≡ b.clients → a.publishers ≡ b.publishers → a.world ≡ b.world → a ≡ b
one_stage a b clients publishers world = λ i. record { clients = clients i; publishers = publishers i; world = world i }

one_stage_drain : (setting : Setting) (s a b : Stage) → IsStageDrained setting s a → IsStageDrained setting s b → a ≡ b
one_stage_drain setting s a b da db =
    one_stage a b (da.clients ∙ sym db.clients) (da.publishers ∙ sym db.publishers) (one_drain setting s.world a.world b.world da.world db.world)

one_step_list : (setting : Setting) (step : ℕ → Stage → Stage) (n : ℕ) (s a b : Stage) → AreSteps setting step n s a → AreSteps setting step n s b → a ≡ b
one_step_list setting step zero s a b ia ib = ia ∙ sym ib
one_step_list setting step (suc n) s a b ia ib =
    let same : ia.0 ≡ ib.0 = one_step_list setting step n s ia.0 ib.0 ia.1 ib.1 in
    one_stage_drain setting (step n ib.0) a b (subst (λ (m : Stage). IsStageDrained setting (step n m) a) same ia.2) ib.2

one_round : (setting : Setting) (s a b : Stage) → IsOneRound setting s a → IsOneRound setting s b → a ≡ b
one_round setting s a b ia ib =
    let same : ia.mid ≡ ib.mid = one_step_list setting (client_step setting) (clients_of setting.shape) s ia.mid ib.mid ia.clients ib.clients in
    one_step_list setting (publisher_step setting) (publishers_of setting.shape) ib.mid a b
    (subst (λ (m : Stage). AreSteps setting (publisher_step setting) (publishers_of setting.shape) m a) same ia.publishers) ib.publishers

one_rounds : (setting : Setting) (n : ℕ) (s a b : Stage) → AreRounds setting n s a → AreRounds setting n s b → a ≡ b
one_rounds setting zero s a b ia ib = ia ∙ sym ib
one_rounds setting (suc n) s a b ia ib =
    let same : ia.0 ≡ ib.0 = one_rounds setting n s ia.0 ib.0 ia.1 ib.1 in
    one_round setting ib.0 a b (subst (λ (m : Stage). IsOneRound setting m a) same ia.2) ib.2

-- ---- when all steps are made, a round leaves all as it is

-- over, and quiet
record Done (s : Stage) : Type 0 where
  over : IsOver s
  quiet : IsQuiet s.world

still_drain : (setting : Setting) (s after : Stage) → IsQuiet s.world → IsStageDrained setting s after → after ≡ s
still_drain setting s after quiet is =
    one_stage after s is.clients is.publishers (one_drain setting s.world after.world s.world is.world (record { count = 0; after = refl; quiet = quiet }))

still_steps : (setting : Setting) (step : ℕ → Stage → Stage) (n : ℕ) (s after : Stage) → IsQuiet s.world → ((k : ℕ) → step k s ≡ s) → AreSteps setting step n s after → after ≡ s
still_steps setting step zero s after quiet still is = is
still_steps setting step (suc n) s after quiet still is =
    let same : is.0 ≡ s = still_steps setting step n s is.0 quiet still is.1 in
    let here : step n is.0 ≡ s = ap (step n) same ∙ still n in
    still_drain setting s after quiet (subst (λ (m : Stage). IsStageDrained setting m after) here is.2)

still_round : (setting : Setting) (s after : Stage) → Done s → IsOneRound setting s after → after ≡ s
still_round setting s after done is =
    let same : is.mid ≡ s = still_steps setting (client_step setting) (clients_of setting.shape) s is.mid done.quiet
    (λ c. ap (client_stepped setting c s) (all_empty s.clients c done.over.clients)) is.clients in
    still_steps setting (publisher_step setting) (publishers_of setting.shape) s after done.quiet
    (λ p. ap (publisher_stepped setting p s) (all_empty s.publishers p done.over.publishers))
    (subst (λ (m : Stage). AreSteps setting (publisher_step setting) (publishers_of setting.shape) m after) same is.publishers)

-- n rounds that end over, and then k more
still_rounds : (setting : Setting) (n k : ℕ) (s a b : Stage) → Done a → AreRounds setting n s a → AreRounds setting (k + n) s b → b ≡ a
still_rounds setting n zero s a b done ia ib =
    let same : zero + n ≡ n = omega arith in
    one_rounds setting n s b a (subst (λ (m : ℕ). AreRounds setting m s b) same ib) ia
still_rounds setting n (suc k) s a b done ia ib =
    let same : suc k + n ≡ suc (k + n) = omega arith in
    let is : AreRounds setting (suc (k + n)) s b = subst (λ (m : ℕ). AreRounds setting m s b) same ib in
    let before : is.0 ≡ a = still_rounds setting n k s a is.0 done ia is.1 in
    still_round setting a b done (subst (λ (m : Stage). IsOneRound setting m b) before is.2)

same_last : (setting : Setting) (n m : ℕ) (s a b : Stage) → Done a → Done b → AreRounds setting n s a → AreRounds setting m s b → a ≡ b
same_last setting n m s a b da db ia ib = ⊎_elim
    (λ less. let same : (m - n) + n ≡ m = omega arith in sym (still_rounds setting n (m - n) s a b da ia (subst (λ (k : ℕ). AreRounds setting k s b) (sym same) ib)))
    (λ more. let same : (n - m) + m ≡ n = omega arith in still_rounds setting m (n - m) s b a db ib (subst (λ (k : ℕ). AreRounds setting k s a) (sym same) ia))
    (cases_lt n m)

pub one_record_given : RoundsGiveOneRecord
one_record_given script run other is too same =
    let setting : Setting = setting_of script in
    let there : AreRounds setting too.count (start script run.clients) too.last = subst (λ (moments : List (List ℕ)). AreRounds setting too.count (start script moments) too.last) (sym same) too.rounds in
    let last : is.last ≡ too.last = same_last setting is.count too.count (start script run.clients) is.last too.last
    (record { over = is.over; quiet = (at_rest script run is).quiet }) (record { over = too.over; quiet = (at_rest script other too).quiet }) is.rounds there in
    is.told ∙ ap (λ (s : Stage). record_of setting run.clients s.world) last ∙ ap (λ (moments : List (List ℕ)). record_of setting moments too.last.world) same ∙ sym too.told
