use Rattle.std.proofs.Common.{◌≡◌, ℕ, length, rules, refl, inl, inr, sym, ap, ◌∙◌, arith}
use Rattle.mama_crew.specs.Seat as crew
use Rattle.mama_crew.specs.Seat.{journal_in}
use Rattle.mama_grouped.proofs.Turning.{grows_not, hears_turned, all_told, none_left, no_answer}
use Rattle.mama_grouped.proofs.seat.turn_queue.Goals as goal

-- what was to be told could not be told

pub returns-in_err-told-clause-ended : goal.returns-in_err-told-clause-ended
returns-in_err-told-clause-ended g c = (
  λ is. absurd (no_answer _ _ c.from_residual.ensures.0 is),
  λ end. absurd (omega (arith, c.in_err-told.ensures.err.1, end.1)),
)

pub returns-in_err-told-clause-grows : goal.returns-in_err-told-clause-grows
returns-in_err-told-clause-grows g c = grows_not c.args.seat.now

-- it was told

pub returns-then-told-clause-ended : goal.returns-then-told-clause-ended
returns-then-told-clause-ended g c = (
  λ is. absurd cc,
  λ end.
      let more = c.tell_next.ensures.next (search rules) in
      absurd (omega (arith, more, c.tell_next.ensures.hears.within, end.1)),
)

pub returns-then-told-clause-grows : goal.returns-then-told-clause-grows
returns-then-told-clause-grows g c = grows_not c.args.seat.now

pub returns-then-told-clause-moved : goal.returns-then-told-clause-moved
returns-then-told-clause-moved g c = λ is. inl (refl, c.tell_next.ensures.next (search rules))

-- all was told: what the turn takes is still to be told

pub returns-in_err-pace-clause-hears : goal.returns-in_err-pace-clause-hears
returns-in_err-pace-clause-hears g c =
    let all = c.tell_next.ensures.all (search rules) in
    hears_turned c.args.script.now c.args.hall.now c.args.seat.now c.turn.new.self c.tell_next.new.self.groups c.tell_next.new.self.told c.turn.ensures.actor c.turn.ensures.grows c.turn.ensures.few
    (all.1 ∙ sym (ap (λ h. h.told) all.0)) c.tell_next.ensures.hears

pub returns-in_err-pace-clause-ended : goal.returns-in_err-pace-clause-ended
returns-in_err-pace-clause-ended g c = (
  λ is. absurd (no_answer _ _ c.from_residual-in_err-pace.ensures.0 is),
  λ end. let over = c.turn.ensures.ended.1 end.0 in absurd (no_answer c.turn.result _ (search rules) over),
)

pub tell_next-requires-2-clause-hears : goal.tell_next-requires-2-clause-hears
tell_next-requires-2-clause-hears g c =
    let all = c.tell_next.ensures.all (search rules) in
    hears_turned c.args.script.now c.args.hall.now c.args.seat.now c.turn.new.self c.tell_next.new.self.groups c.tell_next.new.self.told c.turn.ensures.actor c.turn.ensures.grows c.turn.ensures.few
    (all.1 ∙ sym (ap (λ h. h.told) all.0)) c.tell_next.ensures.hears

pub returns-in_err-tell_next-clause-ended : goal.returns-in_err-tell_next-clause-ended
returns-in_err-tell_next-clause-ended g c = (
  λ is. absurd (no_answer _ _ c.from_residual-in_err-tell_next.ensures.0 is),
  λ end.
      let all = c.tell_next.ensures.all (search rules) in
      let same = c.turn.ensures.over (c.turn.ensures.ended.1 end.0) in
      let long = ap (λ s. length (journal_in s)) same in
      let told = ap (λ h. h.told) all.0 in
      absurd (omega (arith, c.in_err-tell_next.ensures.err.1, long, told, end.1)),
)

-- the turn found nothing to do, so there is nothing to tell

pub returns-clause-waiting : goal.returns-clause-waiting
returns-clause-waiting g c = λ is.
    let all = c.tell_next.ensures.all (search rules) in
    let idle = c.turn.ensures.waiting (search rules) in
    let long : length (journal_in c.turn.new.self) ≡ c.tell_next.new.self.told = ap (λ s. length (journal_in s)) idle.0 ∙ all.1 ∙ sym (ap (λ h. h.told) all.0) in
    let still = all_told c.tell_next-2.result c.in_ok-tell_next.field-0 c.tell_next.new.self c.tell_next-2.new.self c.tell_next.new.self.told c.tell_next-2.new.self.told (length (journal_in c.turn.new.self)) (search rules)
    c.tell_next-2.ensures.next c.tell_next-2.ensures.all c.tell_next-2.ensures.hears.within long in
    (idle.0, still ∙ all.0, idle.1, all.1)

pub returns-clause-ended : goal.returns-clause-ended
returns-clause-ended g c = (
  λ is. (c.turn.ensures.ended.0 (search rules), (c.tell_next.ensures.all (search rules)).1),
  λ end. let over = c.turn.ensures.ended.1 end.0 in search rules,
)

pub returns-clause-over : goal.returns-clause-over
returns-clause-over g c = λ is.
    let all = c.tell_next.ensures.all (search rules) in
    let same = c.turn.ensures.over (search rules) in
    let long : length (journal_in c.turn.new.self) ≡ c.tell_next.new.self.told = ap (λ s. length (journal_in s)) same ∙ all.1 ∙ sym (ap (λ h. h.told) all.0) in
    let still = all_told c.tell_next-2.result c.in_ok-tell_next.field-0 c.tell_next.new.self c.tell_next-2.new.self c.tell_next.new.self.told c.tell_next-2.new.self.told (length (journal_in c.turn.new.self)) (search rules)
    c.tell_next-2.ensures.next c.tell_next-2.ensures.all c.tell_next-2.ensures.hears.within long in
    (same, still ∙ all.0)

pub returns-clause-moved : goal.returns-clause-moved
returns-clause-moved g c = λ is.
    let all = c.tell_next.ensures.all (search rules) in
    let at : length (journal_in c.args.seat.now) ≡ c.tell_next.new.self.told = all.1 ∙ sym (ap (λ h. h.told) all.0) in
    inr (
      c.turn.ensures.moved (search rules),
      none_left c.tell_next-2.result c.in_ok-tell_next.field-0 c.tell_next.new.self c.tell_next-2.new.self (length (journal_in c.args.seat.now)) (length (journal_in c.turn.new.self)) (search rules) c.tell_next-2.ensures.next c.tell_next-2.ensures.all
          c.tell_next-2.ensures.hears.within c.turn.ensures.few at,
    )

-- what stands in each case

pub tell_next-requires-clause-sits : goal.tell_next-requires-clause-sits
tell_next-requires-clause-sits g c = c.requires.sits

pub tell_next-requires-clause-hears : goal.tell_next-requires-clause-hears
tell_next-requires-clause-hears g c = c.requires.hears

pub turn-requires : goal.turn-requires
turn-requires g c = c.requires.sits

pub tell_next-requires-2-clause-sits : goal.tell_next-requires-2-clause-sits
tell_next-requires-2-clause-sits g c = c.turn.ensures.seat

pub returns-in_err-told-clause-sits : goal.returns-in_err-told-clause-sits
returns-in_err-told-clause-sits g c = c.requires.sits

pub returns-in_err-told-clause-hears : goal.returns-in_err-told-clause-hears
returns-in_err-told-clause-hears g c = c.tell_next.ensures.hears

pub returns-in_err-told-clause-actor : goal.returns-in_err-told-clause-actor
returns-in_err-told-clause-actor g c = refl

pub returns-in_err-told-clause-waiting : goal.returns-in_err-told-clause-waiting
returns-in_err-told-clause-waiting g c = λ is. absurd (no_answer _ _ c.from_residual.ensures.0 is)

pub returns-in_err-told-clause-over : goal.returns-in_err-told-clause-over
returns-in_err-told-clause-over g c = λ is. absurd (no_answer _ _ c.from_residual.ensures.0 is)

pub returns-in_err-told-clause-moved : goal.returns-in_err-told-clause-moved
returns-in_err-told-clause-moved g c = λ is. absurd (no_answer _ _ c.from_residual.ensures.0 is)

pub returns-then-told-clause-sits : goal.returns-then-told-clause-sits
returns-then-told-clause-sits g c = c.requires.sits

pub returns-then-told-clause-hears : goal.returns-then-told-clause-hears
returns-then-told-clause-hears g c = c.tell_next.ensures.hears

pub returns-then-told-clause-actor : goal.returns-then-told-clause-actor
returns-then-told-clause-actor g c = refl

pub returns-then-told-clause-waiting : goal.returns-then-told-clause-waiting
returns-then-told-clause-waiting g c = λ is. absurd cc

pub returns-then-told-clause-over : goal.returns-then-told-clause-over
returns-then-told-clause-over g c = λ is. absurd cc

pub returns-in_err-pace-clause-sits : goal.returns-in_err-pace-clause-sits
returns-in_err-pace-clause-sits g c = c.turn.ensures.seat

pub returns-in_err-pace-clause-actor : goal.returns-in_err-pace-clause-actor
returns-in_err-pace-clause-actor g c = c.turn.ensures.actor

pub returns-in_err-pace-clause-grows : goal.returns-in_err-pace-clause-grows
returns-in_err-pace-clause-grows g c = c.turn.ensures.grows

pub returns-in_err-pace-clause-waiting : goal.returns-in_err-pace-clause-waiting
returns-in_err-pace-clause-waiting g c = λ is. absurd (no_answer _ _ c.from_residual-in_err-pace.ensures.0 is)

pub returns-in_err-pace-clause-over : goal.returns-in_err-pace-clause-over
returns-in_err-pace-clause-over g c = λ is. absurd (no_answer _ _ c.from_residual-in_err-pace.ensures.0 is)

pub returns-in_err-pace-clause-moved : goal.returns-in_err-pace-clause-moved
returns-in_err-pace-clause-moved g c = λ is. absurd (no_answer _ _ c.from_residual-in_err-pace.ensures.0 is)

pub returns-in_err-tell_next-clause-sits : goal.returns-in_err-tell_next-clause-sits
returns-in_err-tell_next-clause-sits g c = c.turn.ensures.seat

pub returns-in_err-tell_next-clause-hears : goal.returns-in_err-tell_next-clause-hears
returns-in_err-tell_next-clause-hears g c = c.tell_next-2.ensures.hears

pub returns-in_err-tell_next-clause-actor : goal.returns-in_err-tell_next-clause-actor
returns-in_err-tell_next-clause-actor g c = c.turn.ensures.actor

pub returns-in_err-tell_next-clause-grows : goal.returns-in_err-tell_next-clause-grows
returns-in_err-tell_next-clause-grows g c = c.turn.ensures.grows

pub returns-in_err-tell_next-clause-waiting : goal.returns-in_err-tell_next-clause-waiting
returns-in_err-tell_next-clause-waiting g c = λ is. absurd (no_answer _ _ c.from_residual-in_err-tell_next.ensures.0 is)

pub returns-in_err-tell_next-clause-over : goal.returns-in_err-tell_next-clause-over
returns-in_err-tell_next-clause-over g c = λ is. absurd (no_answer _ _ c.from_residual-in_err-tell_next.ensures.0 is)

pub returns-in_err-tell_next-clause-moved : goal.returns-in_err-tell_next-clause-moved
returns-in_err-tell_next-clause-moved g c = λ is. absurd (no_answer _ _ c.from_residual-in_err-tell_next.ensures.0 is)

pub returns-clause-sits : goal.returns-clause-sits
returns-clause-sits g c = c.turn.ensures.seat

pub returns-clause-hears : goal.returns-clause-hears
returns-clause-hears g c = c.tell_next-2.ensures.hears

pub returns-clause-actor : goal.returns-clause-actor
returns-clause-actor g c = c.turn.ensures.actor

pub returns-clause-grows : goal.returns-clause-grows
returns-clause-grows g c = c.turn.ensures.grows

pub returns-in_err-told-clause-few : goal.returns-in_err-told-clause-few
returns-in_err-told-clause-few g c = omega arith

pub returns-then-told-clause-few : goal.returns-then-told-clause-few
returns-then-told-clause-few g c = omega arith

pub returns-in_err-pace-clause-few : goal.returns-in_err-pace-clause-few
returns-in_err-pace-clause-few g c = c.turn.ensures.few

pub returns-in_err-tell_next-clause-few : goal.returns-in_err-tell_next-clause-few
returns-in_err-tell_next-clause-few g c = c.turn.ensures.few

pub returns-clause-few : goal.returns-clause-few
returns-clause-few g c = c.turn.ensures.few
