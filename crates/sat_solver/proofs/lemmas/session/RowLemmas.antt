-- Worked examples of what a session may write.
use Rattle.std.proofs.Common.{ℕ, ◌+◌, ◌<◌, ◌≡◌, ◌≢◌, Bool, true, false, ◌||◌, cond, eqb, List, [], ◌∷◌, refl, sym, subst, arith, inl, inr, None, Some}
use Rattle.std.proofs.lemmas.Bool.{or_cases, both_ways, true≢false, eqb-true}
use Rattle.sat_base.specs.values.Literals.{negated}
use Rattle.sat_base.specs.steps.Steps.{SolverVarName, UserVarName, DeleteVar, AddClause, AtClause, UnitClauses, ChangeHashBits, Assumptions}
use Rattle.sat_checker.specs.Stored.{Variable, Sample, Hide, initial_variable}
use Rattle.sat_checker.specs.LiteralSets.{is_among, mentions, canonical}
use Rattle.sat_checker.specs.SortedSets.{NoRepeats}
use Rattle.sat_solver.specs.session.Session.{Session, IsLive, AreAllowedSteps, session_after, by_clauses}
use Rattle.sat_solver.specs.session.SessionRows.{four_clauses, CollidingIsAllowed, HiddenIsAllowed}

-- the mode Sample isn't Hide
not_hidden : Sample ≢ Hide
not_hidden e = cc

-- None isn't Some
no_name : (n : ℕ) → None ≡ Some n → ⊥
no_name n e = cc

-- equal options have equal values
some_same : (m n : ℕ) → Some m ≡ Some n → m ≡ n
some_same m n e = cc

-- equal numbers are not less than each other
apart : (m n : ℕ) → m ≡ n → m < n → ⊥
apart m n e l = omega arith

-- different names aren't equal
other_name : (m n : ℕ) → m < n → Some m ≡ Some n → ⊥
other_name m n l e = apart m n (some_same m n e) l

-- the name of the second variable is free
free : (w : ℕ) → ((session_after (SolverVarName 0 (Some 0) ∷ UserVarName 0 (Some 0) ∷ [])).variables w).name ≢ Some 1
free w = go (eqb 0 w) (eqb w 0)
  where
    named : Variable
    named = record { known = true; mode = Sample; name = Some 0 }

    go : (a b : Bool) → (cond (a || false) (record (cond b named initial_variable) { known = true }) (cond b named initial_variable)).name ≢ Some 1
    go true true e = other_name 0 1 (omega arith) e
    go true false e = no_name 1 e
    go false true e = other_name 0 1 (omega arith) e
    go false false e = no_name 1 e

-- the names and the four clauses may be written
four_may : AreAllowedSteps four_clauses
four_may = ((
  (
    (
      (
        ((((tt, record { free = λ w e. no_name 0 e; nameless = refl; not_hidden = not_hidden }), tt), record { free = free; nameless = refl; not_hidden = not_hidden }), tt),
        inr (refl, (refl, tt)),
      ),
      inr (refl, (refl, tt)),
    ),
    inr (refl, (refl, tt)),
  ),
  inr (refl, (refl, tt)),
)
    )

-- a clause that is live once
once : (s : Session) (c : List ℕ) → NoRepeats c → s.live false (canonical c) + s.live true (canonical c) ≡ 1 → IsLive s c
once s c n e = record { once = n; counted = omega (arith, e) }

-- Hashes may also name other clauses: at width 8 the first and the last clause have the same hash, and so have the
-- other two.
pub colliding_may : CollidingIsAllowed
colliding_may =
    let learned : Session = session_after (ChangeHashBits 8 ∷ Assumptions [] ∷ four_clauses) in
    let proved : Session = session_after (AtClause false (0 ∷ []) (0x44 ∷ 0xe6 ∷ []) ∷ ChangeHashBits 8 ∷ Assumptions [] ∷ four_clauses) in
    let ended : Session = session_after (UnitClauses ((2, 0xe6) ∷ []) ∷ AtClause false (0 ∷ []) (0x44 ∷ 0xe6 ∷ []) ∷ ChangeHashBits 8 ∷ Assumptions [] ∷ four_clauses) in (
      (
        (
          (
            (
              ((four_may, tt), tt),
              by_clauses ((0 ∷ 2 ∷ []) ∷ (0 ∷ 3 ∷ []) ∷ [])
                  (once learned (0 ∷ 2 ∷ []) (refl, (refl, tt)) refl, refl, (once learned (0 ∷ 3 ∷ []) (refl, (refl, tt)) refl, refl, tt))
                  (2, (inr refl, (inl refl, tt)), refl, (refl, (refl, tt))),
            ),
            (by_clauses ((1 ∷ 2 ∷ []) ∷ []) (once proved (1 ∷ 2 ∷ []) (refl, (refl, tt)) refl, refl, tt) (refl, (refl, tt)), tt),
          ),
          by_clauses ((1 ∷ 3 ∷ []) ∷ []) (once ended (1 ∷ 3 ∷ []) (refl, (refl, tt)) refl, refl, tt) (refl, (refl, tt)),
        ),
        tt,
      ),
      tt,
    )

-- HIDDEN AND DELETED

-- no clause is live
nothing_lives : (v : ℕ) (set : List ℕ) → 0 < 0 → mentions set v ≡ false
nothing_lives v set n = absurd (apart 0 0 refl n)

-- the hidden name is free again
no_zero : (w : ℕ) → ((session_after (UserVarName 0 None ∷ AddClause (0 ∷ []) ∷ SolverVarName 0 (Some 0) ∷ UserVarName 0 (Some 0) ∷ [])).variables w).name ≢ Some 0
no_zero w = go (eqb w 0) (eqb 0 w) refl refl
  where
    named : Variable
    named = record { known = true; mode = Sample; name = Some 0 }

    gone : Variable
    gone = record { known = true; mode = Hide; name = None }

    go : (b a : Bool) → eqb w 0 ≡ b → eqb 0 w ≡ a → (cond b gone (cond (a || false) (record (cond (a || false) (record (cond b named initial_variable) { known = true }) (cond b named initial_variable)) { known = true }) (cond (a || false) (record (cond b named initial_variable) { known = true }) (cond b named initial_variable)))).name ≢ Some 0
    go true a x y e = no_name 0 e
    go false true x y e = no_name 0 e
    go false false x y e = no_name 0 e

-- 2 is the only literal whose negation is the unit
two_or_not : (l : ℕ) → is_among (3 ∷ []) (negated l) ≡ true → l ≡ 2
two_or_not l h = elim (or_cases (eqb 3 (negated l)) false h) [ inl e ↦ let k : 3 ≡ negated l = eqb-true 3 (negated l) e in omega arith | inr f ↦ absurd (true≢false (sym f)) ]

model_units : (l : ℕ) → (session_after (SolverVarName 1 None ∷ DeleteVar 0 ∷ SolverVarName 0 None ∷ Assumptions [] ∷ AddClause (3 ∷ []) ∷ SolverVarName 1 (Some 1) ∷ UserVarName 1 (Some 0) ∷ UserVarName 0 None ∷ AddClause (0 ∷ []) ∷ SolverVarName 0 (Some 0) ∷ UserVarName 0 (Some 0) ∷ [])).units l ≡ true → is_among (3 ∷ []) (negated l) ≡ false
model_units l u = go (is_among (3 ∷ []) (negated l)) refl
  where
    units : ℕ → Bool
    units = (session_after (SolverVarName 1 None ∷ DeleteVar 0 ∷ SolverVarName 0 None ∷ Assumptions [] ∷ AddClause (3 ∷ []) ∷ SolverVarName 1 (Some 1) ∷ UserVarName 1 (Some 0) ∷ UserVarName 0 None ∷ AddClause (0 ∷ []) ∷ SolverVarName 0 (Some 0) ∷ UserVarName 0 (Some 0) ∷ [])).units

    not_two : units 2 ≡ false
    not_two = refl

    go : (b : Bool) → is_among (3 ∷ []) (negated l) ≡ b → b ≡ false
    go true e = let k : l ≡ 2 = two_or_not l e in absurd (both_ways (units 2) not_two (subst (λ x. units x ≡ true) k u))
    go false e = refl

-- the example of the hidden variable may be written
pub hidden_may : HiddenIsAllowed
hidden_may = ((
  (
    (
      (
        (
          (
            (
              (
                (
                  (
                    ((((tt, record { free = λ w e. no_name 0 e; nameless = refl; not_hidden = not_hidden }), tt), inr (refl, tt)), λ e. no_name 0 (sym e)),
                    record { free = no_zero; nameless = refl; not_hidden = not_hidden },
                  ),
                  tt,
                ),
                inr (refl, tt),
              ),
              tt,
            ),
            tt,
          ),
          record { known = refl; nameless = refl; hidden = refl; unused = λ r set n. nothing_lives 0 set n; not_assumed = refl },
        ),
        tt,
      ),
      record { consistent = refl; apart = (refl, tt); units = model_units; clauses = λ set n. absurd (apart 0 0 refl n) },
    ),
    tt,
  ),
  tt,
)
    )
