use Rattle.sat_base.proofs.device.input.Input.fields.Goals as goal

pub returns-else-has_lists-clause-reads : goal.returns-else-has_lists-clause-reads
returns-else-has_lists-clause-reads g c = c.plain_fields.ensures.reads _ _ _
