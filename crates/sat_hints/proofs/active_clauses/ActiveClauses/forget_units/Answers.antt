use Rattle.std.proofs.Common.{ℕ, refl}
use Rattle.std.proofs.lemmas.Result.{on_ok_weaker}
use Rattle.sat_base.proofs.lemmas.values.TableLemmas.{value_set}
use Rattle.sat_hints.proofs.lemmas.Standing.{forgets}
use Rattle.sat_hints.proofs.active_clauses.ActiveClauses.forget_units.Goals as goal

pub returns : goal.returns
returns c = on_ok_weaker c.set.result (λ made.
    forgets c.args.self.now _ c.args.var c.args.bound c.requires.active c.requires.above c.requires.unit_bounds refl c.in_ok-begin.ensures.counting c.in_ok-begin.ensures.counted
    (value_set (λ (n : ℕ). n) c.args.self.now.unit_bounds c.set.new.self 0 0 c.args.bound c.index.result c.args.var refl c.index.ensures.value made)) c.set.ensures.ok
