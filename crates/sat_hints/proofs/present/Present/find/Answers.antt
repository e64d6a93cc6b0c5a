use Rattle.sat_hints.proofs.lemmas.Listed.{found_at, gone_at, none_at}
use Rattle.sat_hints.proofs.present.Present.find.Goals as goal

pub returns-then-index : goal.returns-then-index
returns-then-index c = gone_at c.args.self.now c.requires c.args.id c.deref.result.now c.deref.ensures.value c.in-Ok.place c.index.result.now c.in-Ok.ensures.position c.index.ensures c.if-index.true

pub returns : goal.returns
returns c = found_at c.args.self.now c.requires c.args.id c.deref.result.now c.deref.ensures.value c.in-Ok.place c.index.result.now c.in-Ok.ensures.position c.index.ensures c.if-index.false

pub returns-in_default : goal.returns-in_default
returns-in_default c = none_at c.args.self.now c.requires c.args.id c.deref.result.now c.deref.ensures.value c.in_default.field-0 c.in_default.ensures.position
