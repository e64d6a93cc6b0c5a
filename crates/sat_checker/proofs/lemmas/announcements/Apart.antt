-- No variable has two units, even after some units of a step were added.
use Rattle.std.proofs.Common.{ℕ, ◌/◌, ◌≡◌, Bool, true, false, cond, eqb, List, [], ◌∷◌, ◌++◌, map, refl, sym, arith}
use Rattle.std.proofs.lemmas.Bool.{or_from, or_parts, eqb-false, ne_eqb}
use Rattle.sat_base.specs.values.Literals.{variable, negated}
use Rattle.sat_checker.specs.LiteralSets.{is_among, mentions}
use Rattle.sat_checker.specs.Stored.{StoredUnit, Stored, is_unit, unit_literals}
use Rattle.sat_checker.specs.Storing.{with_unit, with_contradiction, with_new_unit, with_units}
use Rattle.sat_checker.specs.Accepts.{VariablesDistinct}

abbrev literals_in : List StoredUnit → List ℕ
literals_in = map (λ u. u.literal)

-- if neither a literal nor its negation is in the list, its variable is not mentioned
not_mentioned : (ls : List ℕ) (l : ℕ) → is_among ls l ≡ false → is_among ls (negated l) ≡ false → mentions ls (variable l) ≡ false
not_mentioned [] l n m = refl
not_mentioned (x ∷ xs) l n m =
    let a = or_parts (eqb x l) (is_among xs l) n in
    let b = or_parts (eqb x (negated l)) (is_among xs (negated l)) m in
    or_from (eqb (variable x) (variable l)) (mentions xs (variable l)) (ne_eqb (x / 2) (l / 2) (λ e. differ e (eqb-false x l a.0) (eqb-false x (negated l) b.0))) (not_mentioned xs l a.1 b.1)
  where
    differ : x / 2 ≡ l / 2 → (x ≡ l → ⊥) → (x ≡ negated l → ⊥) → ⊥
    differ e f g = omega arith

mentioned_none : (us : List StoredUnit) (u : StoredUnit) (v : ℕ) → mentions (literals_in us) v ≡ false → eqb (variable u.literal) v ≡ false → mentions (literals_in (us ++ u ∷ [])) v ≡ false
mentioned_none [] u v n e = or_from (eqb (variable u.literal) v) false e refl
mentioned_none (w ∷ ws) u v n e = let p = or_parts (eqb (variable w.literal) v) (mentions (literals_in ws) v) n in or_from (eqb (variable w.literal) v) (mentions (literals_in (ws ++ u ∷ [])) v) p.0 (mentioned_none ws u v p.1 e)

apart_push : (us : List StoredUnit) (u : StoredUnit) → VariablesDistinct (literals_in us) → mentions (literals_in us) (variable u.literal) ≡ false → VariablesDistinct (literals_in (us ++ u ∷ []))
apart_push [] u p n = (refl, tt)
apart_push (w ∷ ws) u p n =
    let x = or_parts (eqb (variable w.literal) (variable u.literal)) (mentions (literals_in ws) (variable u.literal)) n in
    (mentioned_none ws u (variable w.literal) p.0 (ne_eqb (variable u.literal) (variable w.literal) (λ e. eqb-false (variable w.literal) (variable u.literal) x.0 (sym e))), apart_push ws u p.1 x.1)

apart_unit : (l : ℕ) (f : Stored) → VariablesDistinct (unit_literals f) → VariablesDistinct (unit_literals (with_unit l f))
apart_unit l f p = go (is_unit f l) refl (is_unit f (negated l)) refl
  where
    go : (b : Bool) → is_unit f l ≡ b → (d : Bool) → is_unit f (negated l) ≡ d → VariablesDistinct (unit_literals (cond b f (cond d (with_contradiction l f) (with_new_unit l f))))
    go true n d m = p
    go false n true m = p
    go false n false m = apart_push f.units (record { id = f.next_id; literal = l }) p (not_mentioned (unit_literals f) l n m)

pub apart_units : (ls : List ℕ) (f : Stored) → VariablesDistinct (unit_literals f) → VariablesDistinct (unit_literals (with_units ls f))
apart_units [] f p = p
apart_units (l ∷ ls) f p = apart_units ls (with_unit l f) (apart_unit l f p)
