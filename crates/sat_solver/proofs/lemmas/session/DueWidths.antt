-- The ordered steps are the same at all widths.
use Rattle.std.proofs.Common.{ℕ, ◌≡◌, List, [], ◌∷◌, map, refl, ap}
use Rattle.sat_base.specs.steps.Steps.{Step, UserVarName, AddClause, Model, Assumptions, FailedAssumptions, End}
use Rattle.sat_checker.specs.matching.Checking.{is_ordered}
use Rattle.sat_solver.specs.proof.Widths.{narrowed, IsNarrowedTo, none_yet, width_changes, one_more}
use Rattle.sat_solver.specs.session.OrderedSteps.{prepend_if, ordered_of, without_hashes, WidthsKeepOrder}

-- one more step on top of the earlier ones
one_kept : (w : ℕ) (step : Step) (xs ys : List Step) → map without_hashes xs ≡ map without_hashes ys
    → map without_hashes (prepend_if (is_ordered (narrowed w step)) (narrowed w step) xs) ≡ map without_hashes (prepend_if (is_ordered step) step ys)
one_kept w (UserVarName v name) xs ys e = ap (λ z. UserVarName v name ∷ z) e
one_kept w (AddClause clause) xs ys e = ap (λ z. AddClause clause ∷ z) e
one_kept w (Model ls) xs ys e = ap (λ z. Model ls ∷ z) e
one_kept w (Assumptions ls) xs ys e = ap (λ z. Assumptions ls ∷ z) e
one_kept w (FailedAssumptions core hashes) xs ys e = ap (λ z. FailedAssumptions core [] ∷ z) e
one_kept w End xs ys e = ap (λ z. End ∷ z) e
one_kept w step xs ys e = e

order_kept : {wide text : List Step} {width : ℕ} → IsNarrowedTo wide text width → map without_hashes (ordered_of text) ≡ map without_hashes (ordered_of wide)
order_kept none_yet = refl
order_kept (width_changes bits i) = order_kept i
order_kept (one_more {wide = wide} {written = text} {width = width} step k i) = one_kept width step (ordered_of text) (ordered_of wide) (order_kept i)

-- whatever widths are chosen, the ordered steps are the same
pub widths_keep_order : WidthsKeepOrder
widths_keep_order wide text width i = order_kept i
