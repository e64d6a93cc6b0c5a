use Rattle.std.proofs.Common.{refl, sym}
use Rattle.sat_checker.specs.inner.LinkView.{head_at}
use Rattle.sat_checker.proofs.lemmas.pairs.Changing.{linked_front, front_present}
use Rattle.sat_checker.proofs.store.links.link_before.Goals as goal

pub returns-clause-linked : goal.returns-clause-linked
returns-clause-linked c = linked_front c.args.heads.now c.args.links.now c.args.shift c.args.hash c.args.place c.top-top.result c.requires.linked c.requires.inside c.top-top.ensures.within (sym c.top-top.ensures.is)

pub returns-clause-set : goal.returns-clause-set
returns-clause-set c = record {
  next = head_at c.args.heads.now c.top-top.result;
  present = front_present c.args.heads.now c.args.links.now c.args.shift c.args.hash c.args.place c.top-top.result c.requires.linked c.requires.inside c.top-top.ensures.within (sym c.top-top.ensures.is);
  is = refl;
}
