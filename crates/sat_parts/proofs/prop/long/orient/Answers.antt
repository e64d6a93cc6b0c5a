use Rattle.std.proofs.lemmas.Grind.{common_steps}
use Rattle.std.proofs.Common.{◌≡◌, ◌+◌, ◌-◌, ◌⊎◌, arith}
use Rattle.sat_parts.specs.clause.Stored.{lit_of}
use Rattle.sat_parts.proofs.lemmas.clause.OrderLemmas.{shuffles_refl, shuffles_oriented}
use Rattle.sat_parts.proofs.prop.long.orient.Goals as goal

pub returns-then-not-is_either-clause-shuffles : goal.returns-then-not-is_either-clause-shuffles
returns-then-not-is_either-clause-shuffles c = shuffles_refl c.args.clauses.now c.args.cref c.requires.clause

pub returns-clause-shuffles : goal.returns-clause-shuffles
returns-clause-shuffles c =
    let a = c.args.clauses.now in
    let o = c.args.cref in
    let one : (lit_of c.args.clauses.now c.args.cref 0 ≡ c.args.lit) ⊎ (lit_of c.args.clauses.now c.args.cref 1 ≡ c.args.lit) = grind (arith, common_steps) in
    let is : c.from_code-other.result ≡ lit_of c.args.clauses.now c.args.cref 0 + lit_of c.args.clauses.now c.args.cref 1 - c.args.lit = grind (arith, common_steps) in
    shuffles_oriented a c.set_lit.new.self c.set_lit-2.new.self o c.args.lit c.from_code-other.result c.requires.long one is
    c.set_lit.ensures.header c.set_lit.ensures.lits c.set_lit.ensures.others
    c.set_lit-2.ensures.header c.set_lit-2.ensures.lits c.set_lit-2.ensures.others
