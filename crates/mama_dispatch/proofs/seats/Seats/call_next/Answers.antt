use Rattle.std.specs.Prelude.{map, length, take}
use Rattle.std.specs.List.{list_all}
use Rattle.std.proofs.Common.{◌≡◌, List, [], refl, ap, sym, ◌∙◌, subst, arith}
use Rattle.std.proofs.lemmas.Bool.{and_parts}
use Rattle.mama_event.specs.declared.callback.Callback.{Callback}
use Rattle.mama_dispatch.specs.Seating.{is_plain}
use Rattle.mama_dispatch.specs.Making.{WereCalled}
use Rattle.mama_dispatch.specs.Turns.{put_note}
use Rattle.mama_dispatch.proofs.CallLemmas.{nothing_made}
use Rattle.mama_dispatch.proofs.KeepLemmas.{kept_same}
use Rattle.mama_dispatch.proofs.AppendLemmas.{appended_same}
use Rattle.mama_dispatch.proofs.seats.Seats.call_next.Goals as goal

pub call_unmuted-requires-clause-room : goal.call_unmuted-requires-clause-room
call_unmuted-requires-clause-room g c = omega (arith, ap length c.in-Some.ensures.taken, c.requires.room)

pub call_unmuted-requires-clause-spare : goal.call_unmuted-requires-clause-spare
call_unmuted-requires-clause-spare g c = omega (arith, ap length c.in-Some.ensures.taken, c.requires.spare)

pub call_unmuted-requires-clause-plain : goal.call_unmuted-requires-clause-plain
call_unmuted-requires-clause-plain g c = (and_parts (is_plain c.in-Some.call) (list_all is_plain c.take_first.new.self) (sym (ap (list_all is_plain) c.in-Some.ensures.taken) ∙ c.requires.plain)).0

pub returns-in-Some-clause-called : goal.returns-in-Some-clause-called
returns-in-Some-clause-called g c =
    subst (λ (calls : List Callback). WereCalled c.args.object.now calls c.args.self.now c.call_unmuted.new.self (map (put_note g.M.Tagged.tagged) c.args.out.now.items) (map (put_note g.M.Tagged.tagged) c.call_unmuted.new.out.items) c.call_unmuted.result)
    (sym (ap (take 1) c.in-Some.ensures.taken)) c.call_unmuted.ensures.called

pub returns-in-Some-clause-may : goal.returns-in-Some-clause-may
returns-in-Some-clause-may g c = record {
  here = c.call_unmuted.ensures.here;
  room = omega (arith, ap length c.in-Some.ensures.taken, c.requires.room, c.call_unmuted.ensures.room);
  spare = omega (arith, ap length c.in-Some.ensures.taken, c.requires.spare, c.call_unmuted.ensures.spare);
  plain = (and_parts (is_plain c.in-Some.call) (list_all is_plain c.take_first.new.self) (sym (ap (list_all is_plain) c.in-Some.ensures.taken) ∙ c.requires.plain)).1;
}

pub returns-in-None-clause-called : goal.returns-in-None-clause-called
returns-in-None-clause-called g c =
    subst (λ (calls : List Callback). WereCalled c.args.object.now calls c.args.self.now c.args.self.now (map (put_note g.M.Tagged.tagged) c.args.out.now.items) (map (put_note g.M.Tagged.tagged) c.args.out.now.items) 0)
    (sym (ap (take 1) c.in-None.ensures.taken)) (record {
      kept = kept_same c.args.self.now;
      fits = λ orders fits. fits;
      made = λ orders bs ds fits seated. nothing_made orders bs ds c.args.object.now c.args.self.now _ seated;
    })

pub returns-in-None-clause-may : goal.returns-in-None-clause-may
returns-in-None-clause-may g c =
    let none : c.take_first.new.self ≡ [] = c.in-None.ensures.none refl in
    record {
      here = c.requires.here;
      room = omega (arith, ap length none);
      spare = omega (arith, ap length none);
      plain = ap (list_all is_plain) none;
    }

pub returns-in-None-clause-appended : goal.returns-in-None-clause-appended
returns-in-None-clause-appended g c = appended_same _ _ refl
