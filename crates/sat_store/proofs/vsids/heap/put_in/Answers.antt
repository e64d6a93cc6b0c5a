use Rattle.std.proofs.Common.{◌∙◌}
use Rattle.sat_store.proofs.lemmas.heap.QueueLemmas.{given_flags}
use Rattle.sat_store.proofs.vsids.heap.put_in.Goals as goal

pub returns-clause-flags : goal.returns-clause-flags
returns-clause-flags c = c.sift_up.ensures.same.flags ∙ given_flags c.args.heap.now.items c.args.positions.now.items c.exchange.new.positions.items c.args.available c.args.at c.requires.heap.placed c.requires.following c.requires.at c.exchange.ensures.places
