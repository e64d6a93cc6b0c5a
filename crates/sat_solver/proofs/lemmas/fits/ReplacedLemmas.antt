-- Long clauses are strengthened, to long or binary ones.
use Rattle.std.proofs.Common.{ℕ, ◌<◌, ◌≤◌, ◌≡◌, ◌≢◌, Bool, true, false, List, [], ◌∷◌, ◌++◌, map, take, length, get_or, refl, sym, ◌∙◌, ap, subst, arith, ◌⊎◌, inl, inr}
use Rattle.std.proofs.lemmas.Bool.{cases_lt, false_from_ne_true}
use Rattle.std.proofs.lemmas.List.{get_or-take, length-take-le}
use Rattle.std.specs.List.{Contains}
use Rattle.sat_base.specs.values.Literals.{negated}
use Rattle.sat_base.specs.values.Hashes.{hash_of}
use Rattle.sat_base.specs.steps.Steps.{Step, AtClause, DeleteClause, Redundant, Simplified}
use Rattle.sat_store.specs.clause.Buffer.{lits_at}
use Rattle.sat_store.specs.clause.Header.{Header, is_learned}
use Rattle.sat_checker.specs.LiteralSets.{is_among}
use Rattle.sat_parts.specs.clause.Db.{Db, DbMatchesBuffer, live_refs, ShortensClause}
use Rattle.sat_parts.specs.clause.Orders.{AreDistinct, IsReordering}
use Rattle.sat_parts.specs.clause.Stored.{AreLongClauses, lit_of, size_of}
use Rattle.sat_parts.specs.prop.State.{PropagationState, StateIsConsistent}
use Rattle.sat_parts.proofs.lemmas.prop.BuildLemmas.{live_in}
use Rattle.sat_solver.specs.session.Session.{Session, after, IsAllowedStep}
use Rattle.sat_solver.specs.session.LiveClauses.{LiveClause, with_var}
use Rattle.sat_solver.specs.session.SolverClauses.{binaries, longs, solver_clauses, InsertsClause}
use Rattle.sat_solver.proofs.lemmas.trail.InsertedLemmas.{Splits, splits, longs_both, replaces}
use Rattle.sat_parts.specs.parts.Frame.{IsUnitLit}
use Rattle.sat_solver.specs.session.Matching.{is_redundant, SessionMatches}
use Rattle.sat_solver.specs.session.Listed.{MatchesClauseList, HasNoTautology}
use Rattle.sat_solver.proofs.lemmas.fits.UsableLemmas.{among_place}
use Rattle.sat_solver.proofs.lemmas.fits.FitLemmas.{among_at, longs_same}
use Rattle.sat_solver.proofs.lemmas.fits.ListedLemmas.{MayCome, listed, fits_listed, listed_derived, listed_redundant, listed_simplified}
use Rattle.sat_solver.proofs.lemmas.fits.ChangedLemmas.{live_distinct}
use Rattle.sat_solver.proofs.lemmas.fits.PartLemmas.{come_shorter, derive_shorter, replace_shorter}

-- two steps that may be written one after the other, after which everything matches
pub record Both (words live : List ℕ) (implied : List (List ℕ)) (st : PropagationState) (s : Session) (global : ℕ → ℕ) (first second : Step) : Type 0 where
  pub derive : IsAllowedStep s first
  pub delete : IsAllowedStep (after first s) second
  pub fits : SessionMatches words live implied st (after second (after first s)) global

-- the list of clauses while one is strengthened: first d is added, then c is deleted
record Shortened (old mid new : List LiveClause) (c d : LiveClause) : Type 0 where
  comes : InsertsClause old mid d
  goes : InsertsClause new mid c

shortened_there : (words words' : List ℕ) (db : Db) (implied : List (List ℕ)) (o len : ℕ) → DbMatchesBuffer words db → Contains (live_refs words db.refs) o → ShortensClause words db words' o len →
    (mid : List LiveClause) × Shortened (solver_clauses (is_redundant words) words (live_refs words db.refs) implied) mid (solver_clauses (is_redundant words') words' (live_refs words' db.refs) implied)
    (record { redundant = is_redundant words o; literals = lits_at words o }) (record { redundant = is_redundant words o; literals = take len (lits_at words o) })
shortened_there words words' db implied o len held there short =
    let live : List ℕ = live_refs words db.refs in
    let r : ℕ → Bool = is_redundant words in
    let r' : ℕ → Bool = is_redundant words' in
    let c : LiveClause = record { redundant = is_redundant words o; literals = lits_at words o } in
    let d : LiveClause = record { redundant = is_redundant words o; literals = take len (lits_at words o) } in
    let x : Splits (live_refs words db.refs) o = splits live o (live_distinct words db held) there in
    let kept : (p : ℕ) → Contains live p × (p ≢ o) → (is_redundant words' p ≡ is_redundant words p) × (lits_at words' p ≡ lits_at words p) = λ p k.
    let y = short.others p (live_in words db.refs p k.0) k.1 in (ap (λ (h : Header). is_learned h.tier) y.header, y.lits) in
    let front : longs (is_redundant words') words' x.front ≡ longs (is_redundant words) words x.front = longs_same r r' words words' x.front (λ p k. kept p (x.in_front p k)) in
    let back : longs (is_redundant words') words' x.back ≡ longs (is_redundant words) words x.back = longs_same r r' words words' x.back (λ p k. kept p (x.in_back p k)) in
    let its : LiveClause = record { redundant = is_redundant words' o; literals = lits_at words' o } in
    let now : its ≡ d = ap (λ b. record { redundant = b; literals = lits_at words' o }) (ap (λ (h : Header). is_learned h.tier) short.header_there) ∙ ap (λ ms. record { redundant = is_redundant words o; literals = ms }) short.lits_there in
    let was : longs (is_redundant words) words (live_refs words db.refs) ≡ longs (is_redundant words) words x.front ++ c ∷ longs (is_redundant words) words x.back = ap (longs r words) x.was ∙ longs_both r words x.front (o ∷ x.back) in
    let is : longs (is_redundant words') words' (live_refs words' db.refs) ≡ longs (is_redundant words) words x.front ++ d ∷ longs (is_redundant words) words x.back =
    ap (longs r' words') (short.live ∙ x.was) ∙ longs_both r' words' x.front (o ∷ x.back) ∙ ap (λ ds. ds ++ its ∷ longs r' words' x.back) front
    ∙ ap (λ e. longs r words x.front ++ e ∷ longs r' words' x.back) now ∙ ap (λ ds. longs r words x.front ++ d ∷ ds) back in
    let both = replaces (binaries implied) (longs r words x.front) (longs r words x.back) c d in
    let mid : List LiveClause = binaries implied ++ (longs r words x.front ++ d ∷ c ∷ longs r words x.back) in (
      mid,
      record {
        comes = subst (λ ds. InsertsClause (binaries implied ++ ds) mid d) (sym was) both.0;
        goes = subst (λ ds. InsertsClause (binaries implied ++ ds) mid c) (sym is) both.1;
      },
    )

-- LONG TO LONG

module _ (words words' : List ℕ) (db : Db) (implied : List (List ℕ)) (st : PropagationState) (s : Session) (global : ℕ → ℕ) (agrees : StateIsConsistent st) (fits : SessionMatches words (live_refs words db.refs) implied st s global) (held : DbMatchesBuffer words db) (clauses : AreLongClauses words (live_refs words db.refs) (length st.values)) (plain : HasNoTautology s) (o len : ℕ) (there : Contains (live_refs words db.refs) o) (short : ShortensClause words db words' o len) (long : 3 ≤ len) (fewer : len < size_of words o) (false_by : (k : ℕ) → len ≤ k → k < size_of words o → IsUnitLit st (negated (lit_of words o k))) (ls part : List ℕ) (order : IsReordering ls (lits_at words o)) (part_order : IsReordering part (take len (lits_at words o))) (hs : List ℕ) (hash_order : IsReordering hs (lits_at words o)) (hash_distinct : AreDistinct hs) (hash : ℕ) (its : hash ≡ hash_of hs) where
  abbrev live : List ℕ
  live = live_refs words db.refs

  abbrev live' : List ℕ
  live' = live_refs words' db.refs

  abbrev c : List ℕ
  c = lits_at words o

  abbrev d : List ℕ
  d = take len (lits_at words o)

  size : length d ≡ len
  size = length-take-le len c (omega arith)

  at_front : (k : ℕ) → k < len → get_or d k 0 ≡ get_or c k 0
  at_front k lt = get_or-take len c k 0 lt

  differ : AreDistinct d
  differ j k a b e = clauses.distinct o there j k (omega (arith, size)) (omega (arith, size)) (sym (at_front j (omega (arith, size))) ∙ e ∙ at_front k (omega (arith, size)))

  within : (l : ℕ) → is_among d l ≡ true → is_among c l ≡ true
  within l t =
      let p = among_place d l t in
      subst (λ z. is_among c z ≡ true) (sym (at_front p.0 (omega (arith, p.1.0, size))) ∙ p.1.1) (among_at c p.0 (omega (arith, p.1.0, size)))

  each : (k : ℕ) → k < length c → (is_among d (get_or c k 0) ≡ true) ⊎ IsUnitLit st (negated (get_or c k 0))
  each k lt = elim (cases_lt k len) [
    | inl less ↦ inl (subst (λ z. is_among d z ≡ true) (at_front k less) (among_at d k (omega (arith, size))))
    | inr ge ↦ inr (false_by k ge lt)
  ]

  missing : is_among d (get_or c len 0) ≡ false
  missing = false_from_ne_true (is_among d (get_or c len 0)) (λ t.
      let p = among_place d (get_or c len 0) t in
      let e : p.0 ≡ len = clauses.distinct o there p.0 len (omega (arith, p.1.0, size)) fewer (sym (at_front p.0 (omega (arith, p.1.0, size))) ∙ p.1.1) in
      omega (arith, p.1.0, size))

  come : MayCome s.solver_names global part d
  come = come_shorter words live implied st s global agrees fits clauses plain o there part d part_order differ (omega (arith, size)) within

  derive : (flag : Bool) → IsAllowedStep s (AtClause flag (map (with_var global) part) (hash ∷ []))
  derive flag = derive_shorter words live implied st s global agrees fits clauses plain o there part d part_order differ (omega (arith, size)) within hs hash hash_order hash_distinct its each

  abbrev step : Bool → Step
  step flag = AtClause flag (map (with_var global) part) (hash ∷ [])

  -- the derived clause is redundant if and only if the old one is
  middle : (flag : Bool) → is_redundant words o ≡ flag → (mid : List LiveClause) × (MatchesClauseList mid st (after (step flag) s) global × InsertsClause (solver_clauses (is_redundant words') words' live' implied) mid (record { redundant = flag; literals = c }))
  middle flag side =
      let x = shortened_there words words' db implied o len held there short in
      let old : List LiveClause = solver_clauses (is_redundant words) words live implied in (
        x.0,
        (
          listed_derived s global part d come st old x.0 flag (subst (λ b. InsertsClause old x.0 (record { redundant = b; literals = d })) side x.1.comes) (listed words live implied st s global fits) (hash ∷ []),
          subst (λ b. InsertsClause (solver_clauses (is_redundant words') words' live' implied) x.0 (record { redundant = b; literals = c })) side x.1.goes,
        ),
      )

  pub fits_shortened : is_redundant words o ≡ false → Both words' live' implied st s global (step false) (DeleteClause (map (with_var global) ls) Simplified)
  fits_shortened side =
      let m = middle false side in
      let t : Session = after (step false) s in
      let x = listed_simplified t global st m.0 (solver_clauses (is_redundant words') words' live' implied) false ls c order m.1.1 m.1.0 refl
      (replace_shorter words live implied st s global agrees fits clauses plain o there part d part_order differ (omega (arith, size)) within ls (get_or c len 0) (hash ∷ []) order (among_at c len fewer) missing) in
      record { derive = derive false; delete = x.0; fits = fits_listed words' live' implied st (after (DeleteClause (map (with_var global) ls) Simplified) t) global x.1 fits.paired }

  pub fits_shortened_redundant : is_redundant words o ≡ true → Both words' live' implied st s global (step true) (DeleteClause (map (with_var global) ls) Redundant)
  fits_shortened_redundant side =
      let m = middle true side in
      let t : Session = after (step true) s in
      let x = listed_redundant t global st m.0 (solver_clauses (is_redundant words') words' live' implied) true ls c order m.1.1 m.1.0 refl in
      record { derive = derive true; delete = x.0; fits = fits_listed words' live' implied st (after (DeleteClause (map (with_var global) ls) Redundant) t) global x.1 fits.paired }
