-- Long clauses get new headers, or move in the buffer.
use Rattle.std.proofs.Common.{ℕ, suc, ◌<◌, ◌≡◌, Bool, List, [], ◌∷◌, ◌++◌, length, get_or, refl, sym, ◌∙◌, ap, subst, arith}
use Rattle.sat_store.specs.clause.Buffer.{lits_at}
use Rattle.sat_store.specs.clause.Header.{Header, is_learned}
use Rattle.sat_parts.specs.clause.Collected.{CopiesClauses}
use Rattle.sat_parts.specs.prop.State.{PropagationState}
use Rattle.sat_solver.specs.session.Session.{Session}
use Rattle.sat_solver.specs.session.LiveClauses.{AreLiveClausesOf}
use Rattle.sat_solver.specs.session.SolverClauses.{binaries, longs}
use Rattle.sat_solver.specs.session.Matching.{is_redundant, SessionMatches}

-- the match depends only on the list of long clauses
pub fits_longs : (words words' live live' : List ℕ) (implied : List (List ℕ)) (st : PropagationState) (s : Session) (global : ℕ → ℕ) → longs (is_redundant words') words' live' ≡ longs (is_redundant words) words live → SessionMatches words live implied st s global →
    SessionMatches words' live' implied st s global
fits_longs words words' live live' implied st s global e h = record {
  clauses = subst (λ ds. AreLiveClausesOf s global (binaries implied ++ ds)) (sym e) h.clauses;
  paired = h.paired;
  known = h.known;
  sound = h.sound;
  consistent = h.consistent;
  width = h.width;
}

-- copied clauses form the same list
longs_by : (r r' : ℕ → Bool) (words words' os ps : List ℕ) → length ps ≡ length os → ((k : ℕ) → k < length os → (r' (get_or ps k 0) ≡ r (get_or os k 0)) × (lits_at words' (get_or ps k 0) ≡ lits_at words (get_or os k 0))) →
    longs r' words' ps ≡ longs r words os
longs_by r r' words words' [] [] n h = refl
longs_by r r' words words' [] (p ∷ ps) n h = absurd (omega arith)
longs_by r r' words words' (o ∷ os) [] n h = absurd (omega arith)
longs_by r r' words words' (o ∷ os) (p ∷ ps) n h =
    let x = h 0 (omega arith) in
    ap (λ q. (record { redundant = q; literals = lits_at words' p }) ∷ longs r' words' ps) x.0
    ∙ ap (λ ls. (record { redundant = r o; literals = ls }) ∷ longs r' words' ps) x.1
    ∙ ap (λ ds. (record { redundant = r o; literals = lits_at words o }) ∷ ds) (longs_by r r' words words' os ps (omega arith) (λ k lt. h (suc k) (omega arith)))

pub longs_copied : (words live words' refs' : List ℕ) → CopiesClauses words live words' refs' → longs (is_redundant words') words' refs' ≡ longs (is_redundant words) words live
longs_copied words live words' refs' c =
    longs_by (is_redundant words) (is_redundant words') words words' live refs' c.size (λ k lt. (ap (λ (h : Header). is_learned h.tier) (c.headers k lt), c.lits k lt))
