use Rattle.std.proofs.Common.{ℕ, ◌/◌, ap}
use Rattle.sat_store.specs.declared.clause.tier.Tier.TheVariants as tiers
use Rattle.sat_solver.proofs.lemmas.solver.ProgressLemmas.{parts_hold, tier_count}
use Rattle.sat_solver.proofs.solver.Engine.progress.Goals as goal

pub returns-clause-clauses : goal.returns-clause-clauses
returns-clause-clauses g c = λ on.
    let p = c.args.self.now.context.search.parts in
    let holds = parts_hold c.args.self.now on in
    record {
      binary = ap (λ (n : ℕ). n / 2) c.implications.ensures;
      irred = tier_count p holds tiers.Irred c.count_by_tier.result c.count_by_tier.ensures;
      core = tier_count p holds tiers.Core c.count_by_tier-2.result c.count_by_tier-2.ensures;
      mid = tier_count p holds tiers.Mid c.count_by_tier-3.result c.count_by_tier-3.ensures;
      local = tier_count p holds tiers.Local c.count_by_tier-4.result c.count_by_tier-4.ensures;
    }
