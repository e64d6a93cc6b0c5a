-- A binary clause is learned.
use Rattle.std.proofs.Common.{ℕ, ◌<◌, ◌≡◌, ◌≢◌, Bool, true, false, ◌||◌, eqb, List, [], ◌∷◌, ◌++◌, map, length, refl, sym, ◌∙◌, ap, subst, arith, inl, inr, append_assoc}
use Rattle.std.proofs.lemmas.Bool.{or_from, ne_eqb, cases_order}
use Rattle.sat_base.specs.values.Literals.{negated}
use Rattle.sat_base.specs.steps.Steps.{AtClause}
use Rattle.sat_checker.specs.LiteralSets.{is_tautology, canonical}
use Rattle.sat_checker.specs.SortedSets.{NoRepeats}
use Rattle.sat_checker.proofs.lemmas.sets.Canonical.{canonical_among, canonical_increasing, same_increasing}
use Rattle.sat_parts.specs.prop.Binaries.{Binaries, with_binary}
use Rattle.sat_solver.specs.session.Session.{Session, after}
use Rattle.sat_solver.specs.session.LiveClauses.{LiveClause, with_var, AreMapped, AreLiveClausesOf}
use Rattle.sat_solver.proofs.lemmas.session.Mapped.{once_mapped}
use Rattle.sat_solver.proofs.lemmas.session.StepsOfClauses.{derived_comes_as}
use Rattle.sat_solver.specs.session.SolverClauses.{pair, binaries, InsertsClause}
use Rattle.sat_solver.proofs.lemmas.trail.ClauseLemmas.{binary_comes, binary_comes_turned}

two_apart : (a b : ℕ) → a ≢ b → NoRepeats (a ∷ b ∷ [])
two_apart a b n = (or_from (eqb b a) false (ne_eqb b a (λ e. n (sym e))) refl, (refl, tt))

or_turn : (x y : Bool) → x || (y || false) ≡ y || (x || false)
or_turn true true = refl
or_turn true false = refl
or_turn false true = refl
or_turn false false = refl

turned_set : (x y : ℕ) → canonical (x ∷ y ∷ []) ≡ canonical (y ∷ x ∷ [])
turned_set x y = same_increasing (canonical (x ∷ y ∷ [])) (canonical (y ∷ x ∷ [])) (canonical_increasing (x ∷ y ∷ [])) (canonical_increasing (y ∷ x ∷ []))
    (λ l. canonical_among (x ∷ y ∷ []) l ∙ or_turn (eqb x l) (eqb y l) ∙ sym (canonical_among (y ∷ x ∷ []) l))

module _ (s : Session) (global : ℕ → ℕ) (a b : ℕ) (hashes : List ℕ) (rest : List LiveClause) (apart : a ≢ b) (named : AreMapped global s.solver_names (a ∷ b ∷ [])) where
  -- the clause was inserted at some position
  put_in : (old new : List LiveClause) (c : LiveClause) → c.redundant ≡ false → AreMapped global s.solver_names c.literals → NoRepeats c.literals → canonical (map (with_var global) (a ∷ b ∷ [])) ≡ canonical (map (with_var global) c.literals)
      → is_tautology (map (with_var global) (a ∷ b ∷ [])) ≡ false → InsertsClause old new c → AreLiveClausesOf s global (old ++ rest) → AreLiveClausesOf (after (AtClause c.redundant (map (with_var global) (a ∷ b ∷ [])) hashes) s) global (new ++ rest)
  put_in old new c r m n e t i h =
      let from : AreLiveClausesOf s global (i.before ++ (i.following ++ rest)) = subst (AreLiveClausesOf s global) (ap (λ cs. cs ++ rest) i.was ∙ append_assoc i.before i.following rest) h in
      let d : List ℕ = map (with_var global) (a ∷ b ∷ []) in
      subst (AreLiveClausesOf (after (AtClause c.redundant d hashes) s) global) (sym (ap (λ cs. cs ++ rest) i.is ∙ append_assoc i.before (c ∷ i.following) rest))
      (derived_comes_as s global i.before (i.following ++ rest) c d hashes from m n (once_mapped global s.solver_names (a ∷ b ∷ []) named (two_apart a b apart)) (omega arith) t e)

  pub learned : (x : Binaries) → negated a < length x.implied → negated b < length x.implied → is_tautology (map (with_var global) (a ∷ b ∷ [])) ≡ false → AreLiveClausesOf s global (binaries x.implied ++ rest)
      → AreLiveClausesOf (after (AtClause false (map (with_var global) (a ∷ b ∷ [])) hashes) s) global (binaries (with_binary a b x).implied ++ rest)
  learned x p q t h = elim (cases_order a b) [
    | inl e ↦ absurd (apart e)
    | inr o ↦ elim o [
      | inl l ↦ put_in (binaries x.implied) (binaries (with_binary a b x).implied) (pair a b) refl named (two_apart a b apart) refl t (binary_comes x a b p q l) h
      | inr l ↦ put_in (binaries x.implied) (binaries (with_binary a b x).implied) (pair b a) refl (named.1.0, (named.0, tt)) (two_apart b a (λ e. apart (sym e))) (turned_set (with_var global a) (with_var global b)) t (binary_comes_turned x a b p q l) h
    ]
  ]
