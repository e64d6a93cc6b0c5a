use Rattle.sat_checker.proofs.lemmas.store.Entries.{each_increasing}
use Rattle.sat_checker.proofs.store.slots.Slots.len.Goals as goal

pub returns-clause-increasing : goal.returns-clause-increasing
returns-clause-increasing c = each_increasing c.self.inside.buffer.items c.self.inside.entries.items c.args.self.now c.self.view_is c.self.invariant
