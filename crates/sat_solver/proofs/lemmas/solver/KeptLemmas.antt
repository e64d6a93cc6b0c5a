-- Assumptions over names keep their literals in search and proof.
use Rattle.std.proofs.Common.{ℕ, ◌<◌, ◌≡◌, ◌∙◌, true, List, map, length, get_or, sym, ap, subst, arith}
use Rattle.sat_base.specs.values.Literals.{variable, is_positive}
use Rattle.sat_base.specs.steps.Steps.{Step}
use Rattle.sat_checker.specs.LiteralSets.{mentions}
use Rattle.sat_store.specs.variables.Maps.{target}
use Rattle.sat_solver.specs.session.Session.{Session}
use Rattle.sat_solver.specs.session.LiveClauses.{with_var}
use Rattle.sat_solver.specs.cdcl.Joint.{global_in}
use Rattle.sat_solver.specs.declared.context.Search.{Search}
use Rattle.sat_solver.specs.variables.Shared.{SharesIndices}
use Rattle.sat_solver.specs.load.Literals.{IsImage, AreImages, AreGlobalImages}
use Rattle.sat_solver.specs.variables.Calls.{NamesInvariant}
use Rattle.sat_solver.specs.declared.variables.Variables.{Variables}
use Rattle.sat_solver.specs.unit_simplify.FreedIndices.{KeepsAsked}
use Rattle.sat_parts.proofs.lemmas.parts.ValueLemmas.{coded_variable}
use Rattle.sat_solver.proofs.lemmas.unit_simplify.FreedLemmas.{assumed_mention, contains_at}

pub images_kept : (n m : Variables) (steps : List Step) (c : Search) (s t : Session) → NamesInvariant n steps → SharesIndices n c → (user order : List ℕ) → s.assumed ≡ map (with_var (global_in c)) order → AreImages n user order → KeepsAsked n m s t → AreImages m user order
images_kept n m steps c s t valid shares user order asked images kept = record {
  count = images.count;
  each = λ k lt. (let i = images.each k lt in record {
    variable_is = i.variable_is;
    index_is = i.index_is;
    named = ap (λ x. target x.fwd (variable (get_or user k 0))) kept.users ∙ i.named;
    indexed = kept.indices i.variable_is i.index_is (among k lt i) i.indexed;
    is = i.is;
  });
}
  where
    among : (k : ℕ) (lt : k < length user) (i : IsImage n (get_or user k 0) (get_or order k 0)) → mentions s.assumed i.variable_is ≡ true
    among k lt i =
        let less : k < length order = (let e = images.count in omega arith) in
        let index : variable (get_or order k 0) ≡ i.index_is = ap variable i.is ∙ coded_variable i.index_is (is_positive (get_or user k 0)) in
        let var : global_in c (variable (get_or order k 0)) ≡ i.variable_is = ap (global_in c) index ∙ shares.same i.index_is i.variable_is (valid.tidy.solvers.back i.variable_is i.index_is i.indexed) in
        subst (λ ls. mentions ls i.variable_is ≡ true) (sym asked) (subst (λ v. mentions (map (with_var (global_in c)) order) v ≡ true) var (assumed_mention (global_in c) order (variable (get_or order k 0)) (contains_at order k less)))

-- their literals in the proof
pub globals_kept : (n m : Variables) (user codes : List ℕ) → AreGlobalImages n user codes → m.global_from_user ≡ n.global_from_user → AreGlobalImages m user codes
globals_kept n m user codes h users = record { count = h.count; each = λ k lt. (let y = h.each k lt in (y.0, ap (λ x. target x.fwd (variable (get_or user k 0))) users ∙ y.1, y.2)) }
