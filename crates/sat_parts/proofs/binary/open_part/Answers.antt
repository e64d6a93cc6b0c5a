use Rattle.std.proofs.lemmas.Grind.{common_steps}
use Rattle.std.proofs.Common.{ℕ, ◌≡◌, ◌+◌, ◌-◌, ◌<◌, Bool, List, length, get_or, set, drop, sym, ap, subst, ◌∙◌, arith}
use Rattle.std.proofs.lemmas.List.{get_or-drop, length-drop, drop-set-add, take-set-le}
use Rattle.std.proofs.lemmas.List.Filters.{FiltersInPlace, FiltersInPlace-more_set, FiltersInPlace-more_no}
use Rattle.sat_base.specs.values.Literals.{variable}
use Rattle.sat_parts.specs.prop.Values.{is_unassigned_var}
use Rattle.sat_parts.proofs.lemmas.prop.PlaceLemmas.{rest_by}
use Rattle.sat_parts.proofs.binary.open_part.Goals as goal
use Rattle.sat_parts.proofs.binary.open_part.Goals.{then-is_unset, else-is_unset}

pub loop-at-preserved : goal.loop-at-preserved
loop-at-preserved c =
    let p : ℕ → Bool = λ x. is_unassigned_var c.args.assignment.now.current (variable x) in
    let start : ℕ = c.args.place.start in
    let old : List ℕ = c.args.lits.now.items in
    let cur : List ℕ = c.loop-at.lits.items in
    let x : ℕ = c.index-lit.result.now in
    let h = c.loop-at.invariant.kept in
    let read : c.index-lit.result.now ≡ get_or (drop c.args.place.start c.loop-at.lits.items) c.loop-at.at c.index-lit.result.now = c.index-lit.ensures ∙ sym (get_or-drop start cur c.loop-at.at x) in
    let m : length (drop c.args.place.start c.args.lits.now.items) ≡ length c.args.lits.now.items - c.args.place.start = length-drop start old in
    let lt : c.loop-at.at < length (drop c.args.place.start c.loop-at.lits.items) = omega (arith, m, h.long, c.requires, c.loop-at-test.true) in
    let value : is_unassigned_var c.args.assignment.now.current (variable c.index-lit.result.now) ≡ c.is_unset-in-loop-at.result =
    sym (c.is_unset-in-loop-at.ensures ∙ ap (λ v. is_unassigned_var c.args.assignment.now.current v) c.index.ensures.value) in
    elim c.if-is_unset.branch [
      | then-is_unset w ↦
          let k : FiltersInPlace p (drop c.args.place.start c.args.lits.now.items) (set (drop c.args.place.start c.loop-at.lits.items) c.loop-at.left c.index-lit.result.now) (c.loop-at.left + 1) (c.loop-at.at + 1) =
          FiltersInPlace-more_set h lt (value ∙ w.if-is_unset.true) read in
          record {
            kept = rw (w.lits-is, w.left-is)
                (subst (λ (ys : List ℕ). FiltersInPlace p (drop c.args.place.start c.args.lits.now.items) ys (c.loop-at.left + 1) (c.loop-at.at + 1)) (sym (drop-set-add start cur c.loop-at.left x)) k);
            front = rw w.lits-is (take-set-le start cur (start + c.loop-at.left) x (omega arith) ∙ c.loop-at.invariant.front);
          }
      | else-is_unset w ↦
          record {
            kept = rw (w.lits-is, w.left-is) (FiltersInPlace-more_no h lt (value ∙ w.if-is_unset.false) read);
            front = rw w.lits-is c.loop-at.invariant.front;
          }
    ]

pub returns-clause-rest : goal.returns-clause-rest
returns-clause-rest c = grind (arith, common_steps, rest_by)
