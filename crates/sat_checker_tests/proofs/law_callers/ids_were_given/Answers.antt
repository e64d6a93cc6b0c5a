use Rattle.sat_checker_tests.proofs.law_callers.ids_were_given.Goals as goal

pub returns : goal.returns
returns c = λ steps ok. (c.stored_is_tidy.ensures.tidy steps ok).ids.given
