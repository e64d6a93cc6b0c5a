use Rattle.std.proofs.Common.{◌≡◌, ◌∙◌, ap, sym, subst}
use Rattle.sat_parts.specs.parts.Assumed.{HaveVariablesIn}
use Rattle.sat_solver.specs.declared.context.Search.{Search}
use Rattle.sat_solver.specs.assumptions.Setting.{ReplacesAssumed}
use Rattle.sat_solver.proofs.lemmas.load.BottomLemmas.{assumed}
use Rattle.sat_solver.proofs.assumptions.set_assumptions.Goals as goal

pub returns : goal.returns
returns c =
    let o : Search = c.args.search.now in
    let items = rw c.clear.ensures.items at c.in_ok-extend_from_slice.ensures.items in
    let e : c.begin.new.self.lits.items ≡ c.args.lits.now = ap (λ v. v.items) c.begin.ensures.lits ∙ items in
    subst (λ ls. ReplacesAssumed ls o (record o { assumptions = c.begin.new.self })) e
    (assumed o c.begin.new.self c.requires.bottom (subst (λ ls. HaveVariablesIn ls o.parts) (sym e) c.requires.there) c.begin.ensures.placed)
