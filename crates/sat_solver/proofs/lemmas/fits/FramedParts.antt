-- Parts and session still match after changes, as the rest of the solver sees them.
use Rattle.std.proofs.Common.{ℕ, ◌*◌, ◌<◌, ◌≤◌, ◌≡◌, true, false, List, [], ◌∷◌, ◌++◌, map, take, length, get_or, refl, sym, ◌∙◌, ap, subst, arith, Some, None}
use Rattle.std.specs.List.{Contains}
use Rattle.sat_base.specs.values.Literals.{negated}
use Rattle.sat_base.specs.values.Hashes.{hash_of}
use Rattle.sat_base.specs.steps.Steps.{Step, SolverVarName, AtClause, DeleteClause, Redundant, Simplified, Satisfied}
use Rattle.sat_store.specs.clause.Buffer.{lits_at}
use Rattle.sat_checker.specs.LiteralSets.{is_among}
use Rattle.sat_parts.specs.clause.Db.{Db, live_refs, DeletesClause}
use Rattle.sat_parts.specs.clause.Orders.{AreDistinct, IsReordering}
use Rattle.sat_parts.specs.clause.Stored.{lit_of, size_of}
use Rattle.sat_parts.specs.prop.Binaries.{Binaries, with_binary}
use Rattle.sat_parts.specs.prop.Values.{IsTrueLit}
use Rattle.sat_parts.specs.prop.State.{level, current_level, StateIsConsistent}
use Rattle.sat_parts.proofs.lemmas.clause.OrderLemmas.{shuffled_eq}
use Rattle.sat_parts.proofs.lemmas.prop.StateLemmas.{level_low}
use Rattle.sat_solver.specs.session.Session.{Session, after, IsAllowedStep}
use Rattle.sat_solver.specs.session.LiveClauses.{LiveClause, with_var, AreLiveClausesOf}
use Rattle.sat_solver.specs.session.SolverClauses.{longs, solver_clauses}
use Rattle.sat_parts.specs.declared.parts.SearchState.{SearchState}
use Rattle.sat_parts.specs.parts.Round.{IsInNoClause}
use Rattle.sat_parts.specs.parts.Whole.{state, SearchStateInvariant}
use Rattle.sat_parts.specs.parts.Frame.{AddsNoUnit, SameState, ChangesHeaders, DeletesLongClause, ShortensLongClause, MovesLongClauses, RemovesBinaries, AddsVars, FreesVar, AddsOriginalClause, stores_binary, stores_long, IsUnitLit}
use Rattle.sat_solver.specs.session.Matching.{ArePaired, is_redundant, SessionMatchesParts}
use Rattle.sat_solver.specs.session.Listed.{MatchesDuringRemoval, HasNoTautology}
use Rattle.sat_solver.proofs.lemmas.fits.FitLemmas.{longs_same, fits_carried, two_of}
use Rattle.sat_solver.proofs.lemmas.fits.MovedLemmas.{fits_longs, longs_copied}
use Rattle.sat_solver.proofs.lemmas.fits.NamedLemmas.{LosesName, listed_unnamed, unused_in}
use Rattle.sat_solver.proofs.lemmas.fits.GrownLemmas.{binaries_grown, paired_grown}
use Rattle.sat_solver.proofs.lemmas.fits.PairLemmas.{AreTwo, fits_paired, fits_paired_redundant}
use Rattle.sat_solver.proofs.lemmas.fits.ReplacedLemmas.{fits_shortened, fits_shortened_redundant}
use Rattle.sat_solver.proofs.lemmas.fits.AddedLemmas.{true_unit}
use Rattle.sat_solver.proofs.lemmas.fits.DeletedLemmas.{fits_deleted_redundant, fits_deleted_satisfied}
use Rattle.sat_solver.proofs.lemmas.fits.RemovedParts.{parts_removal_ends}
use Rattle.sat_solver.proofs.lemmas.fits.ListedLemmas.{listed, fits_listed}

abbrev clauses_of : SearchState → List LiveClause
clauses_of p = solver_clauses (is_redundant p.clauses) p.clauses (live_refs p.clauses p.db.refs) p.binary.implied

-- two steps that may be written one after the other, after which parts and session match
pub record BothParts (p p' : SearchState) (s : Session) (global : ℕ → ℕ) (first second : Step) : Type 0 where
  pub derive : IsAllowedStep s first
  pub delete : IsAllowedStep (after first s) second
  pub fits : SessionMatchesParts p' (after second (after first s)) global

-- at level 0 every true literal is a unit
pub bottom_unit : (p : SearchState) (l : ℕ) → SearchStateInvariant p → p.trail.starts ≡ [] → IsTrueLit p.assignment.current l → IsUnitLit (state p) l
bottom_unit p l holds bottom t =
    let agrees : StateIsConsistent (state p) = holds.below.propagation.agrees in
    let none : length p.trail.starts ≡ 0 = ap (λ (xs : List ℕ). length xs) bottom in
    true_unit (state p) l agrees holds.units t (let z : level (state p) l ≤ current_level (state p) = level_low (state p) l agrees t in omega arith)

pub same_state : (p p' : SearchState) → SameState p p' → state p' ≡ state p
same_state p p' x = rw (x.0, x.1, x.2) refl

module _ (p p' : SearchState) (s : Session) (global : ℕ → ℕ) (fits : SessionMatchesParts p s global) where
  abbrev live : List ℕ
  live = live_refs p.clauses p.db.refs

  abbrev live' : List ℕ
  live' = live_refs p'.clauses p'.db.refs

  -- headers changed, but not which clauses are redundant
  pub fits_headed : ChangesHeaders p p' → SessionMatchesParts p' s global
  fits_headed h =
      rw (same_state p p' h.same.0, h.same.1)
      (fits_longs p.clauses p'.clauses live live' p.binary.implied (state p) s global
      (ap (longs (is_redundant p'.clauses) p'.clauses) h.live ∙ longs_same (is_redundant p.clauses) (is_redundant p'.clauses) p.clauses p'.clauses live (λ o c. (h.sides o c, h.lits o c))) fits)

  -- long clauses moved in the buffer
  pub fits_copied : MovesLongClauses p p' → SessionMatchesParts p' s global
  fits_copied h =
      rw h.binary
      (fits_carried p'.clauses live' p.binary.implied (state p) (state p') s global h.carries
      (fits_longs p.clauses p'.clauses live live' p.binary.implied (state p) s global (longs_copied p.clauses live p'.clauses live' h.copies) fits))

  module _ (holds : SearchStateInvariant p) (o : ℕ) (there : Contains live o) (ls : List ℕ) (order : IsReordering ls (lits_at p.clauses o)) where
    -- a long clause is deleted
    pub fits_dropped_redundant : DeletesLongClause p p' o → is_redundant p.clauses o ≡ true →
        IsAllowedStep s (DeleteClause (map (with_var global) ls) Redundant) × SessionMatchesParts p' (after (DeleteClause (map (with_var global) ls) Redundant) s) global
    fits_dropped_redundant d side = rw (same_state p p' d.same.0, d.same.1) (fits_deleted_redundant p.clauses p'.clauses p.db p'.db p.binary.implied (state p) s global fits holds.below.db_matches o there d.deletes ls order side)

    pub fits_dropped_satisfied : DeletesLongClause p p' o → is_redundant p.clauses o ≡ false → (l : ℕ) → is_among ls l ≡ true → IsUnitLit (state p) l →
        IsAllowedStep s (DeleteClause (map (with_var global) ls) Satisfied) × SessionMatchesParts p' (after (DeleteClause (map (with_var global) ls) Satisfied) s) global
    fits_dropped_satisfied d side l t unit = rw (same_state p p' d.same.0, d.same.1) (fits_deleted_satisfied p.clauses p'.clauses p.db p'.db p.binary.implied (state p) s global fits holds.below.db_matches o there d.deletes ls order side l t unit)

    -- a part of the clause replaces it; the hash is that of its literals in the order `hs`
    module _ (plain : HasNoTautology s) (part hs : List ℕ) (hash : ℕ) (hash_order : IsReordering hs (lits_at p.clauses o)) (hash_distinct : AreDistinct hs) (its : hash ≡ hash_of hs) where
      module _ (len : ℕ) (short : ShortensLongClause p p' o len) (long : 3 ≤ len) (fewer : len < size_of p.clauses o) (false_by : (k : ℕ) → len ≤ k → k < size_of p.clauses o → IsUnitLit (state p) (negated (lit_of p.clauses o k))) (part_order : IsReordering part (take len (lits_at p.clauses o))) where
        pub fits_short : is_redundant p.clauses o ≡ false → BothParts p p' s global (AtClause false (map (with_var global) part) (hash ∷ [])) (DeleteClause (map (with_var global) ls) Simplified)
        fits_short side =
            let x = fits_shortened p.clauses p'.clauses p.db p.binary.implied (state p) s global holds.below.propagation.agrees fits holds.below.db_matches holds.below.propagation.clauses plain o len there short.shortens long fewer false_by ls part order part_order hs hash_order hash_distinct hash its side in
            record { derive = x.derive; delete = x.delete; fits = rw (same_state p p' short.same.0, short.same.1, short.db) x.fits }

        pub fits_short_redundant : is_redundant p.clauses o ≡ true → BothParts p p' s global (AtClause true (map (with_var global) part) (hash ∷ [])) (DeleteClause (map (with_var global) ls) Redundant)
        fits_short_redundant side =
            let x = fits_shortened_redundant p.clauses p'.clauses p.db p.binary.implied (state p) s global holds.below.propagation.agrees fits holds.below.db_matches holds.below.propagation.clauses plain o len there short.shortens long fewer false_by ls part order part_order hs hash_order hash_distinct hash its side in
            record { derive = x.derive; delete = x.delete; fits = rw (same_state p p' short.same.0, short.same.1, short.db) x.fits }

      -- the part has two literals: it is stored, then the clause is deleted
      module _ (pm : SearchState) (two : length part ≡ 2) (stores : AddsOriginalClause p pm part) (drops : DeletesLongClause pm p' o) (are : AreTwo (state p) (lits_at p.clauses o) (get_or part 0 0) (get_or part 1 0)) where
        abbrev a : ℕ
        a = get_or part 0 0

        abbrev b : ℕ
        b = get_or part 1 0

        part_order : IsReordering part (a ∷ b ∷ [])
        part_order = shuffled_eq part (a ∷ b ∷ []) (sym (two_of part two))

        record Between : Type 0 where
          gone : DeletesClause p.clauses p.db p'.clauses p'.db o
          pairs : p'.binary ≡ with_binary a b p.binary
          carries : AddsNoUnit (state p) (state p')

        between : AddsOriginalClause p pm part → Between
        between (stores_long three q adds pairs carries) = absurd (omega arith)
        between (stores_binary e words list pairs carries) = record {
          gone = subst (λ (ws : List ℕ). DeletesClause ws p.db p'.clauses p'.db o) words (subst (λ (d : Db). DeletesClause pm.clauses d p'.clauses p'.db o) list drops.deletes);
          pairs = drops.same.1 ∙ pairs;
          carries = rw (same_state pm p' drops.same.0) carries;
        }

        pub fits_pair : is_redundant p.clauses o ≡ false → BothParts p p' s global (AtClause false (map (with_var global) part) (hash ∷ [])) (DeleteClause (map (with_var global) ls) Simplified)
        fits_pair side =
            let m : Between = between stores in
            let x = fits_paired p.clauses p'.clauses p.db p'.db p.binary (state p) s global holds.below.propagation.agrees fits holds.below.db_matches holds.below.propagation.clauses plain o there m.gone holds.below.propagation.ranges.room a b are ls part order part_order hs hash_order hash_distinct hash its side in
            let t : Session = after (DeleteClause (map (with_var global) ls) Simplified) (after (AtClause false (map (with_var global) part) (hash ∷ [])) s) in
            record { derive = x.derive; delete = x.delete; fits = rw m.pairs (fits_carried p'.clauses live' (with_binary a b p.binary).implied (state p) (state p') t global m.carries x.fits) }

        pub fits_pair_redundant : is_redundant p.clauses o ≡ true → BothParts p p' s global (AtClause false (map (with_var global) part) (hash ∷ [])) (DeleteClause (map (with_var global) ls) Redundant)
        fits_pair_redundant side =
            let m : Between = between stores in
            let x = fits_paired_redundant p.clauses p'.clauses p.db p'.db p.binary (state p) s global holds.below.propagation.agrees fits holds.below.db_matches holds.below.propagation.clauses plain o there m.gone holds.below.propagation.ranges.room a b are ls part order part_order hs hash_order hash_distinct hash its side in
            let t : Session = after (DeleteClause (map (with_var global) ls) Redundant) (after (AtClause false (map (with_var global) part) (hash ∷ [])) s) in
            record { derive = x.derive; delete = x.delete; fits = rw m.pairs (fits_carried p'.clauses live' (with_binary a b p.binary).implied (state p) (state p') t global m.carries x.fits) }

-- binary clauses were removed, after their steps
pub fits_removed : (p p' : SearchState) (s : Session) (global : ℕ → ℕ) → SearchStateInvariant p → ArePaired p.binary.implied → p.trail.starts ≡ [] → p.trail.lits ≡ [] → MatchesDuringRemoval p s global (length p.binary.implied) 0 → RemovesBinaries p p' → SessionMatchesParts p' s global
fits_removed p p' s global holds paired bottom empty h r = parts_removal_ends p global holds paired bottom empty p' s h r.removes r.clauses r.db (same_state p p' r.state)

-- variables were added
pub fits_grown : (p p' : SearchState) (count : ℕ) (s : Session) (global : ℕ → ℕ) → SearchStateInvariant p → length p.assignment.current ≤ count → AddsVars p p' count → SessionMatchesParts p s global → SessionMatchesParts p' s global
fits_grown p p' count s global holds more g h =
    let room : length p.binary.implied ≡ 2 * length p.assignment.current = holds.below.propagation.ranges.room in
    let fewer : length p.binary.implied ≤ 2 * count = omega arith in
    record {
      clauses = rw (g.clauses, g.db, g.binary) (subst (λ cs. AreLiveClausesOf s global (cs ++ longs (is_redundant p.clauses) p.clauses (live_refs p.clauses p.db.refs))) (sym (binaries_grown (2 * count) p.binary fewer)) h.clauses);
      paired = subst (λ (x : Binaries). ArePaired x.implied) (sym g.binary) (paired_grown (2 * count) p.binary fewer h.paired);
      known = λ l u. h.known l (g.units l u);
      sound = λ l n u.
          let x = h.sound l n u in
          let k = (g.keeps 0).low l x.0 (omega (arith, x.1)) in
          (k.0, k.1 ∙ x.1);
      consistent = h.consistent;
      width = h.width;
    }

-- a variable in no clause loses its solver name and its value
pub fits_freed : (p p' : SearchState) (s : Session) (global : ℕ → ℕ) (w x : ℕ) → SessionMatchesParts p s global → FreesVar p p' x → IsInNoClause p.clauses (live_refs p.clauses p.db.refs) p.binary.implied x → s.solver_names w ≡ Some x → global x ≡ w →
    SessionMatchesParts p' (after (SolverVarName w None) s) global
fits_freed p p' s global w x fits f unused its there =
    let live : List ℕ = live_refs p.clauses p.db.refs in
    let t : Session = after (SolverVarName w None) s in
    let loses : LosesName (state p) (state p') s global w x = record { its = its; there = there; units = λ l u. (f.units l u).0; kept = f.bottom } in
    rw (f.clauses.0, f.clauses.1, f.clauses.2)
    (fits_listed p.clauses live p.binary.implied (state p') t global
    (listed_unnamed (clauses_of p) (state p) (state p') s global w x (listed p.clauses live p.binary.implied (state p) s global fits) loses (unused_in (is_redundant p.clauses) p.clauses live p.binary.implied x unused))
    fits.paired)
