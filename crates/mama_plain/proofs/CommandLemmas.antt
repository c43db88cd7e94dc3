-- Which command the words are.
use Rattle.std.proofs.Common.{◌≡◌, ℕ, Bool, true, false, cond, List, [], ◌∷◌, Option, Some, None, refl, sym, ap, ◌∙◌}
use Rattle.std.specs.Prelude.{◌||◌, codes}
use Rattle.std.specs.Str.{bytes_eq}
use Rattle.std.proofs.lemmas.Slice.Eq.{bytes_eq-Decides}
use Rattle.mama_plain.specs.declared.command.Command.{Command}
use Rattle.mama_plain.specs.declared.command.Command.TheVariants.{Serial, Check, Rewrite, Replay, Gen}
use Rattle.mama_plain.specs.Command.{is_serial, is_check, is_rewrite, is_replay, is_command, is_there, seed_in}
use Rattle.mama_plain.specs.Chosen.{command_in, gen_of}

abbrev pub some_command : Command → Option Command
some_command c = Some c

abbrev pub no_command : Option Command
no_command = None

abbrev pub some_seed : ℕ → Option ℕ
some_seed n = Some n

-- ---- what the choice tells of the words

serial_chosen : (a b r p : Bool) (s : Option ℕ) → some_command Serial ≡ cond a (Some Serial) (cond b (Some Check) (cond r (Some Rewrite) (cond p (Some Replay) (gen_of s)))) → a ≡ true
serial_chosen true b r p s e = refl
serial_chosen false true r p s e = absurd cc
serial_chosen false false true p s e = absurd cc
serial_chosen false false false true s e = absurd cc
serial_chosen false false false false None e = absurd cc
serial_chosen false false false false (Some n) e = absurd cc

serial_is : (words : List (List ℕ)) → some_command Serial ≡ command_in words → is_serial words ≡ true
serial_is words e = serial_chosen (is_serial words) (is_check words) (is_rewrite words) (is_replay words) (seed_in words) e

check_chosen : (a b r p : Bool) (s : Option ℕ) → some_command Check ≡ cond a (Some Serial) (cond b (Some Check) (cond r (Some Rewrite) (cond p (Some Replay) (gen_of s)))) → b ≡ true
check_chosen true b r p s e = absurd cc
check_chosen false true r p s e = refl
check_chosen false false true p s e = absurd cc
check_chosen false false false true s e = absurd cc
check_chosen false false false false None e = absurd cc
check_chosen false false false false (Some n) e = absurd cc

check_is : (words : List (List ℕ)) → some_command Check ≡ command_in words → is_check words ≡ true
check_is words e = check_chosen (is_serial words) (is_check words) (is_rewrite words) (is_replay words) (seed_in words) e

rewrite_chosen : (a b r p : Bool) (s : Option ℕ) → some_command Rewrite ≡ cond a (Some Serial) (cond b (Some Check) (cond r (Some Rewrite) (cond p (Some Replay) (gen_of s)))) → r ≡ true
rewrite_chosen true b r p s e = absurd cc
rewrite_chosen false true r p s e = absurd cc
rewrite_chosen false false true p s e = refl
rewrite_chosen false false false true s e = absurd cc
rewrite_chosen false false false false None e = absurd cc
rewrite_chosen false false false false (Some n) e = absurd cc

rewrite_is : (words : List (List ℕ)) → some_command Rewrite ≡ command_in words → is_rewrite words ≡ true
rewrite_is words e = rewrite_chosen (is_serial words) (is_check words) (is_rewrite words) (is_replay words) (seed_in words) e

replay_chosen : (a b r p : Bool) (s : Option ℕ) → some_command Replay ≡ cond a (Some Serial) (cond b (Some Check) (cond r (Some Rewrite) (cond p (Some Replay) (gen_of s)))) → p ≡ true
replay_chosen true b r p s e = absurd cc
replay_chosen false true r p s e = absurd cc
replay_chosen false false true p s e = absurd cc
replay_chosen false false false true s e = refl
replay_chosen false false false false None e = absurd cc
replay_chosen false false false false (Some n) e = absurd cc

replay_is : (words : List (List ℕ)) → some_command Replay ≡ command_in words → is_replay words ≡ true
replay_is words e = replay_chosen (is_serial words) (is_check words) (is_rewrite words) (is_replay words) (seed_in words) e

seed_is : (m n : ℕ) → some_command (Gen m) ≡ some_command (Gen n) → some_seed n ≡ some_seed m
seed_is m n e = cc

gen_chosen : (a b r p : Bool) (s : Option ℕ) (m : ℕ) → some_command (Gen m) ≡ cond a (Some Serial) (cond b (Some Check) (cond r (Some Rewrite) (cond p (Some Replay) (gen_of s)))) → s ≡ some_seed m
gen_chosen true b r p s m e = absurd cc
gen_chosen false true r p s m e = absurd cc
gen_chosen false false true p s m e = absurd cc
gen_chosen false false false true s m e = absurd cc
gen_chosen false false false false None m e = absurd cc
gen_chosen false false false false (Some n) m e = seed_is m n e

pub gen_is : (words : List (List ℕ)) (m : ℕ) → some_command (Gen m) ≡ command_in words → seed_in words ≡ some_seed m
gen_is words m e = gen_chosen (is_serial words) (is_check words) (is_rewrite words) (is_replay words) (seed_in words) m e

-- the same, where the choice is this command

pub serial_at : (words : List (List ℕ)) (choice : Command) → choice ≡ Serial → some_command choice ≡ command_in words → is_serial words ≡ true
serial_at words choice is e = serial_is words (ap (λ (command : Command). some_command command) (sym is) ∙ e)

pub check_at : (words : List (List ℕ)) (choice : Command) → choice ≡ Check → some_command choice ≡ command_in words → is_check words ≡ true
check_at words choice is e = check_is words (ap (λ (command : Command). some_command command) (sym is) ∙ e)

pub rewrite_at : (words : List (List ℕ)) (choice : Command) → choice ≡ Rewrite → some_command choice ≡ command_in words → is_rewrite words ≡ true
rewrite_at words choice is e = rewrite_is words (ap (λ (command : Command). some_command command) (sym is) ∙ e)

pub replay_at : (words : List (List ℕ)) (choice : Command) → choice ≡ Replay → some_command choice ≡ command_in words → is_replay words ≡ true
replay_at words choice is e = replay_is words (ap (λ (command : Command). some_command command) (sym is) ∙ e)

pub gen_at : (words : List (List ℕ)) (choice : Command) (m : ℕ) → choice ≡ Gen m → some_command choice ≡ command_in words → seed_in words ≡ some_seed m
gen_at words choice m is e = gen_is words m (ap (λ (command : Command). some_command command) (sym is) ∙ e)

none_chosen : (a b r p : Bool) (s : Option ℕ) → no_command ≡ cond a (Some Serial) (cond b (Some Check) (cond r (Some Rewrite) (cond p (Some Replay) (gen_of s)))) → (a || (b || (r || (p || is_there s)))) ≡ false
none_chosen true b r p s e = absurd cc
none_chosen false true r p s e = absurd cc
none_chosen false false true p s e = absurd cc
none_chosen false false false true s e = absurd cc
none_chosen false false false false None e = refl
none_chosen false false false false (Some n) e = absurd cc

some_chosen : (a b r p : Bool) (s : Option ℕ) (c : Command) → some_command c ≡ cond a (Some Serial) (cond b (Some Check) (cond r (Some Rewrite) (cond p (Some Replay) (gen_of s)))) → (a || (b || (r || (p || is_there s)))) ≡ true
some_chosen true b r p s c e = refl
some_chosen false true r p s c e = refl
some_chosen false false true p s c e = refl
some_chosen false false false true s c e = refl
some_chosen false false false false None c e = absurd cc
some_chosen false false false false (Some n) c e = refl

pub none_is : (words : List (List ℕ)) → no_command ≡ command_in words → is_command words ≡ false
none_is words e = none_chosen (is_serial words) (is_check words) (is_rewrite words) (is_replay words) (seed_in words) e

pub some_is : (words : List (List ℕ)) (c : Command) → some_command c ≡ command_in words → is_command words ≡ true
some_is words c e = some_chosen (is_serial words) (is_check words) (is_rewrite words) (is_replay words) (seed_in words) c e

none_seed_chosen : (a b r p : Bool) (s : Option ℕ) (n : ℕ) → no_command ≡ cond a (Some Serial) (cond b (Some Check) (cond r (Some Rewrite) (cond p (Some Replay) (gen_of s)))) → s ≡ some_seed n → ⊥
none_seed_chosen true b r p s n e is = absurd cc
none_seed_chosen false true r p s n e is = absurd cc
none_seed_chosen false false true p s n e is = absurd cc
none_seed_chosen false false false true s n e is = absurd cc
none_seed_chosen false false false false None n e is = absurd cc
none_seed_chosen false false false false (Some m) n e is = absurd cc

pub none_no_seed : (words : List (List ℕ)) (n : ℕ) → no_command ≡ command_in words → seed_in words ≡ some_seed n → ⊥
none_no_seed words n e is = none_seed_chosen (is_serial words) (is_check words) (is_rewrite words) (is_replay words) (seed_in words) n e is

-- ---- no words are two commands

one_word : (word one other : List ℕ) → bytes_eq word one ≡ true → bytes_eq word other ≡ true → bytes_eq one other ≡ true
one_word word one other is also = ap (λ (w : List ℕ). bytes_eq w other) (sym ((bytes_eq-Decides word one).0 is)) ∙ also

serial_or_check : (word : List ℕ) → bytes_eq word (codes "serial") ≡ true → bytes_eq word (codes "check") ≡ true → ⊥
serial_or_check word one other = let both : bytes_eq (codes "serial") (codes "check") ≡ true = one_word word (codes "serial") (codes "check") one other in cc

serial_or_rewrite : (word : List ℕ) → bytes_eq word (codes "serial") ≡ true → bytes_eq word (codes "rewrite") ≡ true → ⊥
serial_or_rewrite word one other = let both : bytes_eq (codes "serial") (codes "rewrite") ≡ true = one_word word (codes "serial") (codes "rewrite") one other in cc

check_or_rewrite : (word : List ℕ) → bytes_eq word (codes "check") ≡ true → bytes_eq word (codes "rewrite") ≡ true → ⊥
check_or_rewrite word one other = let both : bytes_eq (codes "check") (codes "rewrite") ≡ true = one_word word (codes "check") (codes "rewrite") one other in cc

pub serial_no_check : (words : List (List ℕ)) → is_serial words ≡ true → is_check words ≡ true → ⊥
serial_no_check [] one other = absurd cc
serial_no_check (word ∷ []) one other = serial_or_check word one other
serial_no_check (word ∷ next ∷ more) one other = absurd cc

pub serial_no_rewrite : (words : List (List ℕ)) → is_serial words ≡ true → is_rewrite words ≡ true → ⊥
serial_no_rewrite [] one other = absurd cc
serial_no_rewrite (word ∷ []) one other = serial_or_rewrite word one other
serial_no_rewrite (word ∷ next ∷ more) one other = absurd cc

pub check_no_rewrite : (words : List (List ℕ)) → is_check words ≡ true → is_rewrite words ≡ true → ⊥
check_no_rewrite [] one other = absurd cc
check_no_rewrite (word ∷ []) one other = check_or_rewrite word one other
check_no_rewrite (word ∷ next ∷ more) one other = absurd cc

serial_or_replay : (word : List ℕ) → bytes_eq word (codes "serial") ≡ true → bytes_eq word (codes "replay") ≡ true → ⊥
serial_or_replay word one other = let both : bytes_eq (codes "serial") (codes "replay") ≡ true = one_word word (codes "serial") (codes "replay") one other in cc

pub serial_no_replay : (words : List (List ℕ)) → is_serial words ≡ true → is_replay words ≡ true → ⊥
serial_no_replay [] one other = absurd cc
serial_no_replay (word ∷ []) one other = serial_or_replay word one other
serial_no_replay (word ∷ next ∷ more) one other = absurd cc

check_or_replay : (word : List ℕ) → bytes_eq word (codes "check") ≡ true → bytes_eq word (codes "replay") ≡ true → ⊥
check_or_replay word one other = let both : bytes_eq (codes "check") (codes "replay") ≡ true = one_word word (codes "check") (codes "replay") one other in cc

pub check_no_replay : (words : List (List ℕ)) → is_check words ≡ true → is_replay words ≡ true → ⊥
check_no_replay [] one other = absurd cc
check_no_replay (word ∷ []) one other = check_or_replay word one other
check_no_replay (word ∷ next ∷ more) one other = absurd cc

rewrite_or_replay : (word : List ℕ) → bytes_eq word (codes "rewrite") ≡ true → bytes_eq word (codes "replay") ≡ true → ⊥
rewrite_or_replay word one other = let both : bytes_eq (codes "rewrite") (codes "replay") ≡ true = one_word word (codes "rewrite") (codes "replay") one other in cc

pub rewrite_no_replay : (words : List (List ℕ)) → is_rewrite words ≡ true → is_replay words ≡ true → ⊥
rewrite_no_replay [] one other = absurd cc
rewrite_no_replay (word ∷ []) one other = rewrite_or_replay word one other
rewrite_no_replay (word ∷ next ∷ more) one other = absurd cc

pub serial_no_seed : (words : List (List ℕ)) (n : ℕ) → is_serial words ≡ true → seed_in words ≡ some_seed n → ⊥
serial_no_seed [] n one seed = absurd cc
serial_no_seed (word ∷ []) n one seed = absurd cc
serial_no_seed (word ∷ next ∷ more) n one seed = absurd cc

pub check_no_seed : (words : List (List ℕ)) (n : ℕ) → is_check words ≡ true → seed_in words ≡ some_seed n → ⊥
check_no_seed [] n one seed = absurd cc
check_no_seed (word ∷ []) n one seed = absurd cc
check_no_seed (word ∷ next ∷ more) n one seed = absurd cc

pub rewrite_no_seed : (words : List (List ℕ)) (n : ℕ) → is_rewrite words ≡ true → seed_in words ≡ some_seed n → ⊥
rewrite_no_seed [] n one seed = absurd cc
rewrite_no_seed (word ∷ []) n one seed = absurd cc
rewrite_no_seed (word ∷ next ∷ more) n one seed = absurd cc

pub replay_no_seed : (words : List (List ℕ)) (n : ℕ) → is_replay words ≡ true → seed_in words ≡ some_seed n → ⊥
replay_no_seed [] n one seed = absurd cc
replay_no_seed (word ∷ []) n one seed = absurd cc
replay_no_seed (word ∷ next ∷ more) n one seed = absurd cc

-- the two numbers are one where both are the seed
pub one_seed : (words : List (List ℕ)) (m n : ℕ) → seed_in words ≡ some_seed m → seed_in words ≡ some_seed n → m ≡ n
one_seed words m n a b = let e : some_seed m ≡ some_seed n = sym a ∙ b in cc
