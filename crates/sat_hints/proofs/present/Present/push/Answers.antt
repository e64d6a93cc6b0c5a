use Rattle.sat_hints.proofs.lemmas.Listed.{adds}
use Rattle.sat_hints.proofs.present.Present.push.Goals as goal

pub returns : goal.returns
returns c = adds c.args.self.now _ c.args.id c.args.clause.now c.requires.store c.requires.above c.requires.increasing c.in_ok-push.ensures.items c.in_ok-push-2.ensures.items c.in_ok-push-3.ensures.ok
