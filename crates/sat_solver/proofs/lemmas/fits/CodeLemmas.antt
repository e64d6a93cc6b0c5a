-- Loops over literals.
use Rattle.std.proofs.Common.{ℕ, suc, ◌+◌, ◌-◌, ◌*◌, ◌/◌, ◌%◌, ◌^◌, ◌<◌, ◌≡◌, false, List, [], ◌∷◌, ◌++◌, map, drop, drop-cons, length, get_or, sym, ◌∙◌, ap, arith, append_assoc, cond, eqb, inl, inr}
use Rattle.std.proofs.lemmas.Bool.{cases_eq}
use Rattle.sat_base.specs.values.Literals.{variable, is_positive, mk_lit}
use Rattle.sat_base.specs.values.Hashes.{hash_of}
use Rattle.sat_parts.specs.prop.Graphs.{has_no_clause}
use Rattle.sat_parts.specs.prop.State.{PropagationState, node}
use Rattle.sat_solver.specs.session.LiveClauses.{with_var}
use Rattle.sat_solver.specs.session.TrailEntries.{reason_clause}
use Rattle.sat_solver.specs.session.TrailUnits.{written_units}

-- one more item of a list is mapped
pub map_next : (f : ℕ → ℕ) (i : ℕ) (items xs : List ℕ) → i < length xs → (items ++ f (get_or xs i 0) ∷ []) ++ map f (drop (i + 1) xs) ≡ items ++ map f (drop i xs)
map_next f i items xs n =
    let e : i + 1 ≡ suc i = omega arith in
    rw (e, drop-cons xs i 0 n) (append_assoc items (f (get_or xs i 0) ∷ []) (map f (drop (suc i) xs)))

-- the literal of this proof variable with the same sign
pub coded_by : (global : ℕ → ℕ) (l : ℕ) → mk_lit (global (variable l)) (is_positive l) ≡ with_var global l
coded_by global l = elim (cases_eq (l % 2) 0) [
  | inl e ↦ ap (λ b. 2 * global (variable l) + cond b 0 1) (ap (λ r. eqb r 0) e) ∙ ap (λ r. 2 * global (variable l) + r) (sym e)
  | inr n ↦ (let e : l % 2 ≡ 1 = omega arith in ap (λ b. 2 * global (variable l) + cond b 0 1) (ap (λ r. eqb r 0) e) ∙ ap (λ r. 2 * global (variable l) + r) (sym e))
]

pub units_push : (words : List ℕ) (st : PropagationState) (global : ℕ → ℕ) (i hash : ℕ) (items : List (ℕ × ℕ)) (lits : List ℕ) → i < length lits → has_no_clause (node st (get_or lits i 0)).reason ≡ false →
    hash ≡ hash_of (reason_clause words (get_or lits i 0) (node st (get_or lits i 0)).reason) →
    (items ++ (with_var global (get_or lits i 0), hash) ∷ []) ++ written_units words st 64 global (drop (i + 1) lits) ≡ items ++ written_units words st 64 global (drop i lits)
units_push words st global i hash items lits n u h =
    let e : i + 1 ≡ suc i = omega arith in
    let one : hash ≡ hash_of (reason_clause words (get_or lits i 0) (node st (get_or lits i 0)).reason) / 2 ^ (64 - 64) = h ∙ whole_hash (hash_of (reason_clause words (get_or lits i 0) (node st (get_or lits i 0)).reason)) in
    append_assoc items ((with_var global (get_or lits i 0), hash) ∷ []) (written_units words st 64 global (drop (i + 1) lits))
    ∙ ap (λ us. items ++ us) (rw (e, drop-cons lits i 0 n)
    (ap (λ x. (with_var global (get_or lits i 0), x) ∷ written_units words st 64 global (drop (suc i) lits)) one
    ∙ sym (ap (λ b. cond b (written_units words st 64 global (drop (suc i) lits)) ((with_var global (get_or lits i 0), hash_of (reason_clause words (get_or lits i 0) (node st (get_or lits i 0)).reason) / 2 ^ (64 - 64)) ∷ written_units words st 64 global (drop (suc i) lits))) u)))
  where
    whole_hash : (x : ℕ) → x ≡ x / 2 ^ (64 - 64)
    whole_hash x = omega arith
