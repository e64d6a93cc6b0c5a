-- A pending unit conflict does not affect which steps are accepted.
use Rattle.std.proofs.Common.{ℕ, ◌+◌, ◌≡◌, Bool, true, false, cond, eqb, List, [], ◌∷◌, ◌++◌, map, filter, ◌↔◌, Option, None, Some, refl, sym, ◌∙◌, ap, subst}
use Rattle.sat_base.specs.values.Literals.{negated}
use Rattle.sat_base.specs.steps.Steps.{Simplified, Step, SolverVarName, UserVarName, DeleteVar, UnitClauses, DeleteClause, ChangeHashBits, Model, Assumptions, End}
use Rattle.sat_checker.specs.LiteralSets.{is_among}
use Rattle.sat_checker.specs.Propagation.{PassesCheck}
use Rattle.sat_checker.specs.Stored.{StoredUnit, Stored, LastIrredundant, NoneYet, is_unit, unit_literals, long_clauses, clause_hash_by}
use Rattle.sat_checker.specs.Storing.{with_contradiction, with_new_unit, with_unit, settled_by, last_literals}
use Rattle.sat_checker.specs.Accepts.{PassesByHashes, UnitsPassInTurn, IsStrictSubset, Accepts}
use Rattle.sat_checker.specs.Invariants.{PendingConflictIsIgnored}

-- both states agree on everything that the check of a clause uses
record Alike (f g : Stored) : Type 0 where
  clauses : long_clauses g ≡ long_clauses f
  units : unit_literals g ≡ unit_literals f
  names : g.solver_names ≡ f.solver_names
  width : g.width ≡ f.width

literals_pushed : (us : List StoredUnit) (u : StoredUnit) → map (λ w. w.literal) (us ++ u ∷ []) ≡ map (λ w. w.literal) us ++ u.literal ∷ []
literals_pushed [] u = refl
literals_pushed (w ∷ ws) u = ap (λ ls. w.literal ∷ ls) (literals_pushed ws u)

alike_unit : (f g : Stored) (l : ℕ) → Alike f g → Alike (with_unit l f) (with_unit l g)
alike_unit f g l a = go (is_unit f l) (is_unit g l) (ap (λ us. is_among us l) a.units) (is_unit f (negated l)) (is_unit g (negated l)) (ap (λ us. is_among us (negated l)) a.units)
  where
    pushed : unit_literals (with_new_unit l g) ≡ unit_literals (with_new_unit l f)
    pushed = literals_pushed g.units (record { id = g.next_id; literal = l }) ∙ ap (λ us. us ++ l ∷ []) a.units ∙ sym (literals_pushed f.units (record { id = f.next_id; literal = l }))

    go : (b c : Bool) → c ≡ b → (d e : Bool) → e ≡ d → Alike (cond b f (cond d (with_contradiction l f) (with_new_unit l f))) (cond c g (cond e (with_contradiction l g) (with_new_unit l g)))
    go true true x d e y = record { clauses = a.clauses; units = a.units; names = a.names; width = a.width }
    go true false x d e y = absurd cc
    go false true x d e y = absurd cc
    go false false x true true y = record { clauses = a.clauses; units = a.units; names = a.names; width = a.width }
    go false false x true false y = absurd cc
    go false false x false true y = absurd cc
    go false false x false false y = record { clauses = a.clauses; units = pushed; names = a.names; width = a.width }

abbrev PassesUnder : (ℕ → Option ℕ) → ℕ → List (List ℕ) → List ℕ → List ℕ → List ℕ → Type 0
PassesUnder names width clauses units clause hashes = PassesCheck units clause (map (λ h. filter (λ c. eqb (clause_hash_by names width c) h) clauses) hashes)

pass_alike : (f g : Stored) (clause hashes : List ℕ) → Alike f g → PassesByHashes f clause hashes → PassesByHashes g clause hashes
pass_alike f g clause hashes a p =
    subst (λ x. PassesUnder x g.width (long_clauses g) (unit_literals g) clause hashes) (sym a.names)
    (subst (λ x. PassesUnder f.solver_names x (long_clauses g) (unit_literals g) clause hashes) (sym a.width)
    (subst (λ x. PassesUnder f.solver_names f.width x (unit_literals g) clause hashes) (sym a.clauses)
    (subst (λ x. PassesUnder f.solver_names f.width (long_clauses f) x clause hashes) (sym a.units) p)))

turns_alike : (us : List (ℕ × ℕ)) (f g : Stored) → Alike f g → UnitsPassInTurn f us → UnitsPassInTurn g us
turns_alike [] f g a p = tt
turns_alike (u ∷ us) f g a p = (pass_alike f g (u.0 ∷ []) (u.1 ∷ []) a p.0, turns_alike us (with_unit u.0 f) (with_unit u.0 g) (alike_unit f g u.0 a) p.1)

last_alike : (last : LastIrredundant) (f : Stored) (conflict : Option (ℕ × ℕ)) (next : ℕ) → last_literals last (record f { conflict = conflict; next_id = next }) ≡ last_literals last f
last_alike NoneYet f c n = refl
last_alike e f c n = refl

-- acceptance depends neither on the pending conflict nor on the next id
other : (f : Stored) (c d : Option (ℕ × ℕ)) (n m : ℕ) (step : Step) → Accepts (record f { conflict = c; next_id = n }) step → Accepts (record f { conflict = d; next_id = m }) step
other f c d n m (SolverVarName v name) a = tt
other f c d n m (UserVarName v (Some name)) a = record { free = a.free; nameless = a.nameless; not_hidden = a.not_hidden }
other f c d n m (DeleteVar v) a = record { known = a.known; nameless = a.nameless; unused = a.unused; not_assumed = a.not_assumed }
other f c d n m (UnitClauses us) a = turns_alike us (record f { conflict = c; next_id = n }) (record f { conflict = d; next_id = m }) (record { clauses = refl; units = refl; names = refl; width = refl }) a
other f c d n m (DeleteClause clause Simplified) a = (a.0, subst (λ o. IsStrictSubset o clause) (last_alike f.last f c n ∙ sym (last_alike f.last f d m)) a.1)
other f c d n m (ChangeHashBits bits) a = tt
other f c d n m (Model ls) a = record { consistent = a.consistent; apart = a.apart; units = a.units; clauses = a.clauses }
other f c d n m (Assumptions ls) a = tt
other f c d n m End a = tt
other f c d n m step a = a

pub pending_changes_nothing : PendingConflictIsIgnored
pending_changes_nothing f step = go f.conflict refl
  where
    go : (o : Option (ℕ × ℕ)) → f.conflict ≡ o → Accepts f step ↔ Accepts (settled_by o f) step
    go None e = ((λ a. a), (λ a. a))
    go (Some units) e = ((λ a. other f f.conflict None f.next_id (f.next_id + 1) step a), (λ a. other f None f.conflict (f.next_id + 1) f.next_id step a))
