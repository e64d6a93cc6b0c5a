use Rattle.std.proofs.Common.{◌∙◌}
use Rattle.sat_parts.proofs.lemmas.clause.GlueLemmas.{same_flags}
use Rattle.sat_parts.proofs.glue.compute_clause_glue_below.Goals as goal

pub returns-clause-clear : goal.returns-clause-clear
returns-clause-clear c =
    same_flags c.args.flags.now.flags.items c.clear_clause_levels.new.flags.flags.items (c.clear_clause_levels.ensures.size ∙ c.mark_clause_levels-glue.ensures.size) c.requires.clear c.clear_clause_levels.ensures.clear
