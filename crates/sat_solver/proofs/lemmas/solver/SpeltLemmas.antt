-- Assumptions over names, and the proof literals that stand for them.
use Rattle.std.proofs.Common.{ℕ, zero, suc, ◌<◌, ◌≡◌, ◌∙◌, refl, List, [], ◌∷◌, length, map, get_or, sym, ap, arith}
use Rattle.sat_base.specs.values.Literals.{variable, is_positive, mk_lit}
use Rattle.sat_solver.specs.session.LiveClauses.{with_var}
use Rattle.sat_solver.specs.load.Literals.{IsImage, AreImages, AreGlobalImages, global_with_index}
use Rattle.sat_solver.specs.variables.Naming.{KeepsNames}
use Rattle.sat_solver.specs.variables.Variables.{VariablesInvariant}
use Rattle.sat_solver.specs.declared.variables.Variables.{Variables}
use Rattle.sat_solver.specs.declared.load.literals.MappedLits.{MappedLits}
use Rattle.sat_solver.proofs.lemmas.fits.CodeLemmas.{coded_by}
use Rattle.sat_parts.proofs.lemmas.parts.ValueLemmas.{coded_variable}
use Rattle.sat_solver.proofs.lemmas.solver.ShownLemmas.{coded_sign}

length_mapped : (f : ℕ → ℕ) (ls : List ℕ) → length (map f ls) ≡ length ls
length_mapped f [] = omega arith
length_mapped f (l ∷ ls) = let e = length_mapped f ls in omega arith

mapped_at : (f : ℕ → ℕ) (ls : List ℕ) (k : ℕ) → k < length ls → get_or (map f ls) k 0 ≡ f (get_or ls k 0)
mapped_at f [] k lt = absurd (omega arith)
mapped_at f (l ∷ ls) zero lt = refl
mapped_at f (l ∷ ls) (suc k) lt = mapped_at f ls k (omega arith)

-- the proof literals that were written stand for the assumptions
pub global_images_of : (n : Variables) (user : List ℕ) (t : MappedLits) → VariablesInvariant n → AreImages n user t.order.items → t.globals.items ≡ map (with_var (global_with_index n)) t.order.items → AreGlobalImages n user t.globals.items
global_images_of n user t tidy images e = record {
  count = ap (λ ls. length ls) e ∙ length_mapped (with_var (global_with_index n)) t.order.items ∙ images.count;
  each = λ k lt.
      let x : IsImage n (get_or user k 0) (get_or t.order.items k 0) = images.each k lt in
      let at : global_with_index n (variable (get_or t.order.items k 0)) ≡ x.variable_is = ap (λ l. global_with_index n (variable l)) x.is ∙ ap (global_with_index n) (coded_variable x.index_is (is_positive (get_or user k 0)))
      ∙ tidy.globals x.index_is x.variable_is (tidy.solvers.back x.variable_is x.index_is x.indexed) in
      let sign : is_positive (get_or t.order.items k 0) ≡ is_positive (get_or user k 0) = ap is_positive x.is ∙ coded_sign x.index_is (is_positive (get_or user k 0)) in (
        x.variable_is,
        x.named,
        ap (λ ls. get_or ls k 0) e ∙ mapped_at (with_var (global_with_index n)) t.order.items k (let c = images.count in omega arith)
            ∙ sym (coded_by (global_with_index n) (get_or t.order.items k 0)) ∙ ap (λ v. mk_lit v (is_positive (get_or t.order.items k 0))) at ∙ ap (mk_lit x.variable_is) sign,
      );
}

-- they still do if names keep their variables
pub global_images_kept : (old new : Variables) (user codes : List ℕ) → KeepsNames old new → AreGlobalImages old user codes → AreGlobalImages new user codes
global_images_kept old new user codes keeps g = record {
  count = g.count;
  each = λ k lt. let x = g.each k lt in (x.0, keeps (variable (get_or user k 0)) x.0 x.1, x.2);
}
