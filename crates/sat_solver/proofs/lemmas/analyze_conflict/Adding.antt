-- Adding literals changes neither the used literals, the antecedents nor the core.
use Rattle.std.proofs.Common.{ℕ, ◌≡◌, Bool, true, false, cond, eqb, ltb, List, [], ◌∷◌, ◌++◌, ◌+◌, ◌-◌, ◌^◌, min, get_or, set, refl, ap, ◌∙◌}
use Rattle.sat_base.specs.values.Literals.{variable}
use Rattle.sat_parts.specs.declared.prop.graph.ImplNode.{ImplNode}
use Rattle.sat_parts.specs.prop.Graphs.{node_of}
use Rattle.sat_solver.specs.analyze_conflict.AddedState.{added_state}
use Rattle.sat_solver.specs.analyze_conflict.AnalysisState.{AnalysisState, analysis_state, with_seen_literal, with_seen_literals}

-- the state with only its added literals
abbrev only_added : AnalysisState → AnalysisState
only_added w = added_state w.clause w.seen w.flags w.pending

-- the two states agree in all but their added literals
record Same (w w' : AnalysisState) : Type 0 where
  used : w'.used ≡ w.used
  antecedents : w'.antecedents ≡ w.antecedents
  core : w'.core ≡ w.core

by_cases : (c d e : Bool) (w a b : AnalysisState) →
    cond c (only_added w) (cond d (only_added w) (cond e (only_added a) (only_added b))) ≡ only_added (cond c w (cond d w (cond e a b)))
by_cases true d e w a b = refl
by_cases false true e w a b = refl
by_cases false false true w a b = refl
by_cases false false false w a b = refl

same_by_cases : (c d e : Bool) (w a b : AnalysisState) → Same w a → Same w b → Same w (cond c w (cond d w (cond e a b)))
same_by_cases true d e w a b p q = record { used = refl; antecedents = refl; core = refl }
same_by_cases false true e w a b p q = record { used = refl; antecedents = refl; core = refl }
same_by_cases false false true w a b p q = p
same_by_cases false false false w a b p q = q

abbrev lower : ℕ → AnalysisState → AnalysisState
lower r w = record w { flags = set w.flags (variable r) true; seen = w.seen ++ variable r ∷ []; clause = w.clause ++ r ∷ [] }

abbrev higher : ℕ → AnalysisState → AnalysisState
higher r w = record w { flags = set w.flags (variable r) true; seen = w.seen ++ variable r ∷ []; pending = min (w.pending + 1) (2 ^ 64 - 1) }

one_added : (nodes : List ImplNode) (top r : ℕ) (w : AnalysisState) → with_seen_literal nodes top r (only_added w) ≡ only_added (with_seen_literal nodes top r w)
one_added nodes top r w =
    by_cases (eqb (node_of nodes (variable r)).level 0) (get_or w.flags (variable r) false) (ltb (node_of nodes (variable r)).level top) w (lower r w) (higher r w)

one_same : (nodes : List ImplNode) (top r : ℕ) (w : AnalysisState) → Same w (with_seen_literal nodes top r w)
one_same nodes top r w =
    same_by_cases (eqb (node_of nodes (variable r)).level 0) (get_or w.flags (variable r) false) (ltb (node_of nodes (variable r)).level top) w (lower r w) (higher r w)
    (record { used = refl; antecedents = refl; core = refl }) (record { used = refl; antecedents = refl; core = refl })

all_added : (nodes : List ImplNode) (top : ℕ) (rs : List ℕ) (w : AnalysisState) → with_seen_literals nodes top rs (only_added w) ≡ only_added (with_seen_literals nodes top rs w)
all_added nodes top [] w = refl
all_added nodes top (r ∷ rs) w =
    ap (λ (v : AnalysisState). with_seen_literals nodes top rs v) (one_added nodes top r w) ∙ all_added nodes top rs (with_seen_literal nodes top r w)

all_same : (nodes : List ImplNode) (top : ℕ) (rs : List ℕ) (w : AnalysisState) → Same w (with_seen_literals nodes top rs w)
all_same nodes top [] w = record { used = refl; antecedents = refl; core = refl }
all_same nodes top (r ∷ rs) w =
    let x : Same w (with_seen_literal nodes top r w) = one_same nodes top r w in
    let y : Same (with_seen_literal nodes top r w) (with_seen_literals nodes top rs (with_seen_literal nodes top r w)) = all_same nodes top rs (with_seen_literal nodes top r w) in
    record { used = y.used ∙ x.used; antecedents = y.antecedents ∙ x.antecedents; core = y.core ∙ x.core }

-- the state with these fields
from_fields : (clause seen : List ℕ) (flags : List Bool) (pending : ℕ) (w w' : AnalysisState) → added_state clause seen flags pending ≡ only_added w' → Same w w' →
    analysis_state clause w.used seen w.antecedents w.core flags pending ≡ w'
from_fields clause seen flags pending w w' e s =
    let a : clause ≡ w'.clause = ap (λ (x : AnalysisState). x.clause) e in
    let b : seen ≡ w'.seen = ap (λ (x : AnalysisState). x.seen) e in
    let c : flags ≡ w'.flags = ap (λ (x : AnalysisState). x.flags) e in
    let d : pending ≡ w'.pending = ap (λ (x : AnalysisState). x.pending) e in
    let all : analysis_state clause w.used seen w.antecedents w.core flags pending ≡ analysis_state w'.clause w'.used w'.seen w'.antecedents w'.core w'.flags w'.pending = cc (a, b, c, d, s.used, s.antecedents, s.core) in
    all

-- a state whose added literals are those after these literals were added is the state after that
pub added_whole : (nodes : List ImplNode) (top : ℕ) (rs clause seen : List ℕ) (flags : List Bool) (pending : ℕ) (w : AnalysisState) →
    added_state clause seen flags pending ≡ with_seen_literals nodes top rs (added_state w.clause w.seen w.flags w.pending) →
    analysis_state clause w.used seen w.antecedents w.core flags pending ≡ with_seen_literals nodes top rs w
added_whole nodes top rs clause seen flags pending w e = from_fields clause seen flags pending w (with_seen_literals nodes top rs w) (e ∙ all_added nodes top rs w) (all_same nodes top rs w)
