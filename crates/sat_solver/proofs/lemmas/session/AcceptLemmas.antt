-- A checker accepts what a session may write if the session is a view of its stored clauses.
use Rattle.std.proofs.Common.{ℕ, ◌+◌, ◌<◌, ◌≡◌, Bool, true, false, ◌||◌, eqb, List, [], ◌∷◌, map, refl, sym, ◌∙◌, ap, subst, arith, ◌⊎◌, inl, inr, Option, None, Some, eq-zero-or-pos, is_some}
use Rattle.std.proofs.lemmas.Bool.{or_left, or_right, eq-eqb}
use Rattle.std.specs.List.{AllByRecursion, list_any}
use Rattle.sat_base.specs.values.Literals.{negated}
use Rattle.sat_base.specs.steps.Steps.{Simplified, Step, SolverVarName, UserVarName, DeleteVar, AtClause, UnitClauses, DeleteClause, ChangeHashBits, Model, Assumptions, FailedAssumptions, End}
use Rattle.sat_checker.specs.LiteralSets.{is_among, mentions, canonical}
use Rattle.sat_checker.specs.Propagation.{tautology, unit_true}
use Rattle.sat_checker.specs.Stored.{StoredClause, Stored, unit_literals}
use Rattle.sat_checker.specs.Storing.{clause_with, with_unit, last_literals}
use Rattle.sat_checker.specs.Accepts.{PassesByHashes, UnitsPassInTurn, IsStrictSubset, Accepts}
use Rattle.sat_checker.specs.Contents.{count_in}
use Rattle.sat_checker.specs.Invariants.{HaveCounts}
use Rattle.sat_checker.specs.ConflictPropagation as stored
use Rattle.sat_checker.proofs.lemmas.contents.Counts.{found}
use Rattle.sat_checker.proofs.lemmas.invariants.Counted.{TidyClauses}
use Rattle.sat_checker.proofs.lemmas.leading.Named.{leading_passes}
use Rattle.sat_solver.specs.session.Session.{AreLiveByHash, CanDerive, CanWriteCore, by_signs, by_derivation, by_unit, by_clauses, CanWriteUnits, CanDeleteVar, CanWriteModel, CanDeleteSimplified, IsAllowedStep}
use Rattle.sat_solver.proofs.lemmas.session.Views.{view, view_unit}
use Rattle.sat_solver.proofs.lemmas.session.LastLemmas.{LastIs}

-- WHAT MAY BE WRITTEN IS ACCEPTED

-- a clause with a positive count is stored
counted_some : (o : Option StoredClause) → 0 < count_in false o + count_in true o → is_some o ≡ true
counted_some None n = absurd (omega arith)
counted_some (Some c) n = refl

module _ (f : Stored) (last : Option (List ℕ)) where
  -- live clauses that hashes name are stored
  are_named : (named : List (List ℕ)) (hashes : List ℕ) → AreLiveByHash (view last f) named hashes → stored.AreStoredByHash f named hashes
  are_named [] [] h = tt
  are_named [] (k ∷ ks) h = absurd h
  are_named (c ∷ cs) [] h = absurd h
  are_named (c ∷ cs) (k ∷ ks) h = (record { once = h.0.once; stored = counted_some (clause_with (canonical c) f.clauses) h.0.counted; hash = h.1 }, are_named cs ks h.2)

  -- a clause that may be derived passes the check
  pub passes : (clause hashes : List ℕ) → CanDerive (view last f) clause hashes → PassesByHashes f clause hashes
  passes clause hashes (by_unit t) = unit_true t
  passes clause hashes (by_clauses named n lead) = leading_passes f clause hashes named (are_named named hashes n) lead

  -- the negation of a core that may be written passes the check
  pub core_passes : (core hashes : List ℕ) → CanWriteCore (view last f) core hashes → PassesByHashes f (map negated core) hashes
  core_passes core hashes (by_signs t) = tautology t
  core_passes core hashes (by_derivation d) = passes (map negated core) hashes d

-- units that may be written pass the checks in turn
pub pass_in_turn : (us : List (ℕ × ℕ)) (last : Option (List ℕ)) (f : Stored) → CanWriteUnits (view last f) us → UnitsPassInTurn f us
pass_in_turn [] last f h = tt
pass_in_turn (u ∷ us) last f h = (passes f last (u.0 ∷ []) (u.1 ∷ []) h.0, pass_in_turn us last (with_unit u.0 f) (subst (λ s. CanWriteUnits s us) (sym (view_unit last u.0 f)) h.1))

-- every stored clause counts in the session
module _ (f : Stored) (last : Option (List ℕ)) where
  -- the session has the count of a stored clause
  is_counted : (r : Bool) (c : StoredClause) → clause_with c.literals f.clauses ≡ Some c → 0 < count_in r (Some c) → 0 < (view last f).live r c.literals
  is_counted r c e n = subst (λ o. 0 < count_in r o) (sym e) n

  -- a variable that may be deleted is in no stored clause
  unused_by : (v : ℕ) → CanDeleteVar (view last f) v → (cs : List StoredClause) → AllByRecursion (λ c. clause_with c.literals f.clauses ≡ Some c) cs → HaveCounts cs → list_any (λ c. mentions c.literals v) cs ≡ false
  unused_by v m [] e n = refl
  unused_by v m (c ∷ cs) e n =
      let here : mentions c.literals v ≡ false = elim (eq-zero-or-pos c.irredundant) [
        | inl z ↦ m.unused true c.literals (is_counted true c e.0 (let k : c.irredundant ≡ 0 = z in let j : 0 < c.irredundant + c.redundant = n.0 in omega arith))
        | inr p ↦ m.unused false c.literals (is_counted false c e.0 p)
      ] in
      ap (λ b. b || list_any (λ c. mentions c.literals v) cs) here ∙ unused_by v m cs e.1 n.1

  -- a model that may be written satisfies every irredundant stored clause
  modelled : (ls : List ℕ) → CanWriteModel (view last f) ls → (cs : List StoredClause) → AllByRecursion (λ c. clause_with c.literals f.clauses ≡ Some c) cs → AllByRecursion (λ c. (c.irredundant ≡ 0) ⊎ (list_any (is_among ls) c.literals ≡ true)) cs
  modelled ls m [] e = tt
  modelled ls m (c ∷ cs) e = (elim (eq-zero-or-pos c.irredundant) [ inl z ↦ inl z | inr p ↦ inr (m.clauses c.literals (is_counted false c e.0 p)) ], modelled ls m cs e.1)

-- a property of all members holds for the whole list
pub each_member : (P : ℕ → Type 0) (us : List ℕ) → ((l : ℕ) → is_among us l ≡ true → P l) → AllByRecursion P us
each_member P [] h = tt
each_member P (u ∷ us) h = (h u (or_left (eqb u u) (is_among us u) (eq-eqb u u refl)), each_member P us (λ l k. h l (or_right (eqb u l) (is_among us l) k)))

-- the clause that was derived last is a strict subset of one that it may replace
strict_by : (last : Option (List ℕ)) (f : Stored) (clause : List ℕ) → LastIs last f → CanDeleteSimplified (view last f) clause → IsStrictSubset (last_literals f.last f) clause
strict_by last f clause h m = subst (λ o. IsStrictSubset o clause) (sym (h m.part m.last)) (m.within, m.strict)

-- the checker accepts a step that its view may write
pub accepts_view : (step : Step) (last : Option (List ℕ)) (f : Stored) → TidyClauses f.clauses → LastIs last f → IsAllowedStep (view last f) step → Accepts f step
accepts_view (SolverVarName v name) last f t l m = tt
accepts_view (UserVarName v (Some name)) last f t l m = record { free = m.free; nameless = m.nameless; not_hidden = m.not_hidden }
accepts_view (DeleteVar v) last f t l m = record { known = m.known; nameless = m.nameless; unused = unused_by f last v m f.clauses (found f.clauses t.once) t.counted; not_assumed = m.not_assumed }
accepts_view (AtClause r clause hashes) last f t l m = passes f last clause hashes m
accepts_view (UnitClauses us) last f t l m = pass_in_turn us last f m
accepts_view (DeleteClause clause Simplified) last f t l m = (m.0, strict_by last f clause l m.1)
accepts_view (ChangeHashBits bits) last f t l m = tt
accepts_view (Model ls) last f t l m = record { consistent = m.consistent; apart = m.apart; units = each_member (λ u. is_among ls (negated u) ≡ false) (unit_literals f) m.units; clauses = modelled f last ls m f.clauses (found f.clauses t.once) }
accepts_view (Assumptions ls) last f t l m = tt
accepts_view (FailedAssumptions core hashes) last f t l m = (m.0, core_passes f last core hashes m.1)
accepts_view End last f t l m = tt
accepts_view step last f t l m = m
