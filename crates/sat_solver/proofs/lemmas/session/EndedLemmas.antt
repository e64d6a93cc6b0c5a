-- Steps stay allowed without the ends of proofs: the session then remembers the clause derived last for longer.
use Rattle.std.proofs.Common.{ℕ, ◌≡◌, Option, None, Some, List, [], ◌∷◌, map, refl, sym, ap, subst}
use Rattle.sat_base.specs.values.Literals.{negated}
use Rattle.sat_base.specs.steps.Steps.{Simplified, Step, SolverVarName, UserVarName, DeleteVar, AtClause, UnitClauses, DeleteClause, ChangeHashBits, Model, Assumptions, FailedAssumptions, End}
use Rattle.sat_checker.specs.Contents.{state_after}
use Rattle.sat_solver.specs.session.Session.{Session, proof_state, session_with, with_unit_added, last_after, after, session_after, AreLiveByHash, CanDerive, CanWriteCore, by_signs, by_derivation, by_unit, by_clauses, CanWriteUnits, IsAllowedStep, AreAllowedSteps}
use Rattle.sat_solver.specs.proof.Checked.{unended}

-- the session with another clause derived last
abbrev at : Option (List ℕ) → Session → Session
at last s = record s { last = last }

-- hashes still name the same clauses
named_at : (o : Option (List ℕ)) (s : Session) (named : List (List ℕ)) (hashes : List ℕ) → AreLiveByHash s named hashes → AreLiveByHash (at o s) named hashes
named_at o s [] [] h = tt
named_at o s [] (k ∷ ks) h = absurd h
named_at o s (c ∷ cs) [] h = absurd h
named_at o s (c ∷ cs) (k ∷ ks) h = (record { once = h.0.once; counted = h.0.counted }, h.1, named_at o s cs ks h.2)

derive_at : (o : Option (List ℕ)) (s : Session) (clause hashes : List ℕ) → CanDerive s clause hashes → CanDerive (at o s) clause hashes
derive_at o s clause hashes (by_unit t) = by_unit t
derive_at o s clause hashes (by_clauses named n lead) = by_clauses named (named_at o s named hashes n) lead

fail_at : (o : Option (List ℕ)) (s : Session) (core hashes : List ℕ) → CanWriteCore s core hashes → CanWriteCore (at o s) core hashes
fail_at o s core hashes (by_signs t) = by_signs t
fail_at o s core hashes (by_derivation d) = by_derivation (derive_at o s (map negated core) hashes d)

-- units may still be derived
prove_at : (o : Option (List ℕ)) (us : List (ℕ × ℕ)) (s : Session) → CanWriteUnits s us → CanWriteUnits (at o s) us
prove_at o [] s h = tt
prove_at o (u ∷ us) s h = (derive_at o s (u.0 ∷ []) (u.1 ∷ []) h.0, prove_at o us (with_unit_added u.0 s) h.1)

-- the second has the clause of the first, if that one has a clause
abbrev Longer : Option (List ℕ) → Option (List ℕ) → Type 0
Longer a b = (part : List ℕ) → a ≡ Some part → b ≡ Some part

none_some : (part : List ℕ) → None ≡ Some part → ⊥
none_some part e = cc

longer_none : (o : Option (List ℕ)) → Longer None o
longer_none o part e = absurd (none_some part e)

longer_after : (step : Step) (a b : Option (List ℕ)) → Longer a b → Longer (last_after step a) (last_after step b)
longer_after (ChangeHashBits bits) a b h = h
longer_after step a b h = λ part e. e

-- an allowed step is still allowed if the session remembers the clause derived last
may_longer : (o : Option (List ℕ)) (step : Step) (s : Session) → Longer s.last o → IsAllowedStep s step → IsAllowedStep (at o s) step
may_longer o (SolverVarName v name) s l m = tt
may_longer o (UserVarName v (Some name)) s l m = record { free = m.free; nameless = m.nameless; not_hidden = m.not_hidden }
may_longer o (DeleteVar v) s l m = record { known = m.known; nameless = m.nameless; hidden = m.hidden; unused = m.unused; not_assumed = m.not_assumed }
may_longer o (AtClause r clause hashes) s l m = derive_at o s clause hashes m
may_longer o (UnitClauses us) s l m = prove_at o us s m
may_longer o (DeleteClause clause Simplified) s l m = (m.0, record { part = m.1.part; last = l m.1.part m.1.last; within = m.1.within; strict = m.1.strict })
may_longer o (ChangeHashBits bits) s l m = tt
may_longer o (Model ls) s l m = record { consistent = m.consistent; apart = m.apart; units = m.units; clauses = m.clauses }
may_longer o (Assumptions ls) s l m = tt
may_longer o (FailedAssumptions core hashes) s l m = (m.0, fail_at o s core hashes m.1)
may_longer o End s l m = tt
may_longer o step s l m = m

-- the session without ends is the same, but may remember the clause derived last for longer
record Alike (s t : Session) : Type 0 where
  same : t ≡ at t.last s
  longer : Longer s.last t.last

alike_after : (step : Step) (s t : Session) → Alike s t → Alike (after step s) (after step t)
alike_after step s t h = record {
  same = ap (λ (x : Session). session_with (last_after step t.last) (state_after step (proof_state x))) h.same;
  longer = longer_after step s.last t.last h.longer;
}

alike_ended : (s t : Session) → Alike s t → Alike (after End s) t
alike_ended s t h = record { same = h.same; longer = longer_none t.last }

alike_next : (step : Step) (steps : List Step) → Alike (session_after steps) (session_after (unended steps)) → Alike (session_after (step ∷ steps)) (session_after (unended (step ∷ steps)))
alike_next End steps h = alike_ended _ _ h
alike_next step steps h = alike_after step _ _ h

alike : (steps : List Step) → Alike (session_after steps) (session_after (unended steps))
alike [] = record { same = refl; longer = λ part e. e }
alike (step ∷ steps) = alike_next step steps (alike steps)

may_alike : (step : Step) (s t : Session) → Alike s t → IsAllowedStep s step → IsAllowedStep t step
may_alike step s t h m = subst (λ x. IsAllowedStep x step) (sym h.same) (may_longer t.last step s h.longer m)

may_next : (step : Step) (steps : List Step) → AreAllowedSteps (unended steps) → IsAllowedStep (session_after steps) step → AreAllowedSteps (unended (step ∷ steps))
may_next End steps h m = h
may_next step steps h m = (h, may_alike step _ _ (alike steps) m)

-- allowed steps are still allowed without the ends of proofs
pub unended_may : (steps : List Step) → AreAllowedSteps steps → AreAllowedSteps (unended steps)
unended_may [] h = tt
unended_may (step ∷ steps) h = may_next step steps (unended_may steps h.0) h.1
