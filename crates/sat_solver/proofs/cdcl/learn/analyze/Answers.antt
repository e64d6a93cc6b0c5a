use Rattle.std.proofs.Common.{length, ap}
use Rattle.sat_solver.specs.declared.context.Search.{Search}
use Rattle.sat_solver.proofs.lemmas.clause.GlueLemmas.{levels_flagged}
use Rattle.sat_solver.proofs.lemmas.clause.InvolvedLemmas.{are_involved}
use Rattle.sat_solver.proofs.cdcl.learn.analyze.Goals as goal

pub assess_learned_clause-header-requires-clause-levels : goal.assess_learned_clause-header-requires-clause-levels
assess_learned_clause-header-requires-clause-levels c =
    rw c.clause.ensures
    (levels_flagged c.args.search.now.parts c.args.conflict.now c.learn_from_conflict.new.analysis c.in_ok-level.level (length c.args.search.now.flags.flags.items) c.requires.refuted c.in_ok-level.ensures.learns c.requires.free.flags_size)

pub returns-clause-seen : goal.returns-clause-seen
returns-clause-seen c = rw (ap (λ (s : Search). s.analysis) c.in_ok-prepare_learned.ensures.same) c.in_ok-level.ensures.resolution.within

pub returns-clause-antecedents : goal.returns-clause-antecedents
returns-clause-antecedents c =
    let same = c.in_ok-prepare_learned.ensures.same in
    rw (ap (λ (s : Search). s.analysis) same, ap (λ (s : Search). s.flags) same, c.assess_learned_clause-header.ensures.clear)
    (are_involved c.args.search.now.parts c.args.conflict.now c.learn_from_conflict.new.analysis c.in_ok-level.level c.args.search.now.flags.flags.items c.requires.refuted c.in_ok-level.ensures.learns c.in_ok-level.ensures.resolution c.in_ok-level.ensures.live
    c.requires.free.flags_size c.requires.free.flags_clear)
