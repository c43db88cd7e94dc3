use Rattle.std.proofs.Common.{◌<◌, length, arith, ap, sym, ◌∙◌}
use Rattle.mama_dispatch.specs.Callbacks.{calls_to, without}
use Rattle.mama_dispatch.specs.Notes.{lists_of}
use Rattle.mama_dispatch.proofs.CallbackLemmas.{place_within, found_place, not_found, taken, no_list, none_emptied}
use Rattle.mama_dispatch.proofs.callbacks.Callbacks.take.Goals as goal

pub index_mut-requires : goal.index_mut-requires
index_mut-requires c =
    let within : c.in-Some.place < length c.self.inside.lists.items = place_within c.self.inside.places.keys c.self.inside.lists.items c.args.object.now c.in-Some.place c.self.invariant
    (found_place c.args.object.now c.self.inside.places.keys c.get_index_of.result c.in-Some.place c.get_index_of.ensures.index c.in-Some.is) in
    omega (arith, within, c.self.inside.lists.ok.0)

pub invariant_of-self : goal.invariant_of-self
invariant_of-self c = (taken c.self.inside.lists.items c.self.inside.places.keys c.in-Some.place c.index_mut.result.now c.take_list.new.list c.args.object.now c.args.self.now c.self.view_is c.self.invariant
    (found_place c.args.object.now c.self.inside.places.keys c.get_index_of.result c.in-Some.place c.get_index_of.ensures.index c.in-Some.is) c.index_mut.ensures.value c.take_list.ensures.object c.take_list.ensures.none).kept

pub returns-in-Some-clause-calls : goal.returns-in-Some-clause-calls
returns-in-Some-clause-calls c = c.take_list.ensures.calls ∙ (taken c.self.inside.lists.items c.self.inside.places.keys c.in-Some.place c.index_mut.result.now c.take_list.new.list c.args.object.now c.args.self.now c.self.view_is c.self.invariant
    (found_place c.args.object.now c.self.inside.places.keys c.get_index_of.result c.in-Some.place c.get_index_of.ensures.index c.in-Some.is) c.index_mut.ensures.value c.take_list.ensures.object c.take_list.ensures.none).calls

pub returns-in-Some-clause-rest : goal.returns-in-Some-clause-rest
returns-in-Some-clause-rest c = (taken c.self.inside.lists.items c.self.inside.places.keys c.in-Some.place c.index_mut.result.now c.take_list.new.list c.args.object.now c.args.self.now c.self.view_is c.self.invariant
    (found_place c.args.object.now c.self.inside.places.keys c.get_index_of.result c.in-Some.place c.get_index_of.ensures.index c.in-Some.is) c.index_mut.ensures.value c.take_list.ensures.object c.take_list.ensures.none).rest

pub returns-in-None-clause-calls : goal.returns-in-None-clause-calls
returns-in-None-clause-calls c =
    c.new.ensures.items ∙ no_list c.args.object.now (lists_of c.self.inside.lists.items) (not_found c.args.object.now c.self.inside.places.keys (lists_of c.self.inside.lists.items) c.get_index_of.result c.self.invariant c.get_index_of.ensures.found c.in-None.is)
    ∙ ap (calls_to c.args.object.now) c.self.view_is

pub returns-in-None-clause-rest : goal.returns-in-None-clause-rest
returns-in-None-clause-rest c =
    sym c.self.view_is ∙ none_emptied c.args.object.now (lists_of c.self.inside.lists.items) (not_found c.args.object.now c.self.inside.places.keys (lists_of c.self.inside.lists.items) c.get_index_of.result c.self.invariant c.get_index_of.ensures.found c.in-None.is) ∙ ap (without c.args.object.now) c.self.view_is
