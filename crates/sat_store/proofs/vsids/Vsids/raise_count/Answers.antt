use Rattle.sat_store.proofs.vsids.Vsids.raise_count.Goals as goal

pub invariant_of-self-2 : goal.invariant_of-self-2
invariant_of-self-2 c =
    (c.add_variables.ensures.heap c.self.inside.available (rw (c.in_ok-reserve.ensures.items, c.in_ok-reserve-2.ensures.items) c.self.invariant.0), c.self.invariant.1, c.self.invariant.2, c.self.invariant.3, c.self.invariant.4)
