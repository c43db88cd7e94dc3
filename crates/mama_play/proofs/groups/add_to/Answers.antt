use Rattle.std.proofs.Common.{refl, rules, arith}
use Rattle.std.proofs.lemmas.Grind.{common_steps}
use Rattle.mama_play.proofs.groups.add_to.Goals as goal

pub returns : goal.returns
returns g c = record {
  within = first_of (search rules, grind (arith, common_steps));
  before = c.in-Some.list.now;
  there = c.in-Some.ensures.value;
  list = c.push.new.self;
  grown = c.in_ok-push-in-Some.ensures.items;
  after = refl;
}
