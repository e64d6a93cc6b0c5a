-- A long clause is replaced by its open literals.
use Rattle.std.proofs.Common.{ℕ, zero, suc, ◌≡◌, ◌≢◌, ◌<◌, ◌≤◌, ◌∙◌, ◌&&◌, inl, inr, ltb, Bool, true, false, Some, List, [], ◌∷◌, map, take, length, get_or, refl, sym, ap, subst, arith}
use Rattle.std.proofs.lemmas.Bool.{cases_lt, lt-ltb}
use Rattle.std.proofs.lemmas.List.{get_or-take, length-take-le}
use Rattle.std.specs.List.{Contains}
use Rattle.sat_base.specs.values.Literals.{variable, negated}
use Rattle.sat_base.specs.values.Hashes.{hash_of}
use Rattle.sat_base.specs.steps.Steps.{Step, Simplified}
use Rattle.sat_store.specs.clause.Buffer.{lits_at}
use Rattle.sat_parts.specs.clause.Db.{live_refs}
use Rattle.sat_parts.specs.clause.Orders.{AreDistinct, IsReordering}
use Rattle.sat_parts.specs.clause.Stored.{lit_of, size_of}
use Rattle.sat_parts.specs.prop.Values.{IsFalseLit}
use Rattle.sat_parts.proofs.lemmas.clause.OrderLemmas.{shuffled_refl}
use Rattle.sat_parts.proofs.lemmas.prop.StateLemmas.{true_from_false}
use Rattle.sat_solver.specs.session.Session.{Session, session_after}
use Rattle.sat_solver.specs.session.LiveClauses.{with_var}
use Rattle.sat_solver.proofs.lemmas.session.StepsOfClauses.{length_mapped}
use Rattle.sat_parts.specs.declared.parts.SearchState.{SearchState}
use Rattle.sat_parts.specs.parts.Frame.{DeletesLongClause, ShortensLongClause, AddsOriginalClause, IsUnitLit}
use Rattle.sat_parts.specs.parts.Whole.{state}
use Rattle.sat_solver.specs.session.Matching.{is_redundant, SessionMatchesParts}
use Rattle.sat_solver.proofs.lemmas.fits.FitLemmas.{among_at, mapped_at}
use Rattle.sat_solver.proofs.lemmas.fits.UsableLemmas.{long_named}
use Rattle.sat_solver.specs.cdcl.StepEffects.{HaveIndices}
use Rattle.sat_solver.proofs.lemmas.cdcl.NamedLemmas.{mapped_named}
use Rattle.sat_solver.proofs.lemmas.fits.FramedParts.{BothParts, bottom_unit, same_state, fits_short, fits_short_redundant, fits_pair, fits_pair_redundant}
use Rattle.sat_solver.proofs.lemmas.fits.PairLemmas.{AreTwo}
use Rattle.sat_solver.proofs.lemmas.fits.PlainLemmas.{sessions_are_plain}
use Rattle.sat_solver.proofs.lemmas.fits.StepLemmas.{fits_propagated}
use Rattle.sat_parts.proofs.lemmas.parts.FrameLemmas.{carries_refl}
use Rattle.sat_solver.specs.declared.context.Search.{Search}
use Rattle.sat_solver.specs.cdcl.Joint.{global_in, SearchInvariant}
use Rattle.sat_solver.specs.unit_simplify.StrengtheningSteps.{deleted_step, derived_step}
use Rattle.sat_solver.specs.unit_simplify.Strengthening.{MovesOpenLitsFirst, StrengthensTo, puts_long, puts_pair}
use Rattle.sat_solver.specs.unit_simplify.EmptyTrail.{HasEmptyTrail}
use Rattle.sat_solver.specs.unit_simplify.ClauseStatus.{HasFalse}
use Rattle.sat_solver.proofs.lemmas.unit_simplify.GatherLemmas.{moved_there, moved_size, open_not_false}

pub take_two : (ls : List ℕ) → 2 ≤ length ls → take 2 ls ≡ get_or ls 0 0 ∷ get_or ls 1 0 ∷ []
take_two [] le = absurd (omega arith)
take_two (a ∷ []) le = absurd (omega arith)
take_two (a ∷ b ∷ ls) le = refl

-- the flag of the derived clause
flag_long : (b : Bool) (n : ℕ) → 2 < n → (b && ltb 2 n) ≡ b
flag_long true n lt = lt-ltb 2 n lt
flag_long false n lt = refl

-- a clause with a false literal becomes shorter
pub fewer_open : (c p : SearchState) (o len : ℕ) → Contains (live_refs c.clauses c.db.refs) o → MovesOpenLitsFirst c p o len (size_of c.clauses o) → HasFalse c o → len < size_of c.clauses o
fewer_open c p o len there g has =
    let j = (g.moved.kept.lits o there).forth has.0 has.1.0 in
    elim (cases_lt j.0 len) [
      | inl lt ↦ absurd (open_not_false c.assignment.current (lit_of p.clauses o j.0) (g.front j.0 lt) (subst (λ l. IsFalseLit c.assignment.current l) (sym j.1.1) has.1.1))
      | inr ge ↦ omega (arith, j.1.0)
    ]

-- ONE CLAUSE

module _ (steps : List Step) (c : Search) (p : SearchState) (o len : ℕ) (h : SearchInvariant (session_after steps) c) (flat : HasEmptyTrail c.parts) (there : Contains (live_refs c.parts.clauses c.parts.db.refs) o) (g : MovesOpenLitsFirst c.parts p o len (size_of c.parts.clauses o)) (some : 2 ≤ len) (within : len ≤ size_of c.parts.clauses o) (fewer : len < size_of c.parts.clauses o) where
  abbrev s : Session
  s = session_after steps

  abbrev old : List ℕ
  old = lits_at c.parts.clauses o

  abbrev new : List ℕ
  new = lits_at p.clauses o

  abbrev part : List ℕ
  part = take len new

  size : length new ≡ length old
  size = moved_size c.parts p o g.moved there

  there_p : Contains (live_refs p.clauses p.db.refs) o
  there_p = moved_there c.parts p o g.moved there

  order : IsReordering old new
  order = g.moved.kept.lits o there

  distinct : AreDistinct old
  distinct = h.valid.holds.below.propagation.clauses.distinct o there

  fits_p : SessionMatchesParts p s (global_in c)
  fits_p = fits_propagated c.parts p s (global_in c) g.moved (rw (same_state c.parts p g.same.0) (carries_refl (state c.parts))) g.holds.below.propagation.clauses h.valid.fits

  bottom_p : p.trail.starts ≡ []
  bottom_p = ap (λ t. t.starts) g.same.0.2 ∙ flat.bottom

  false_by : (k : ℕ) → len ≤ k → k < length new → IsUnitLit (state p) (negated (lit_of p.clauses o k))
  false_by k le lt =
      bottom_unit p (negated (lit_of p.clauses o k)) g.holds bottom_p
      (true_from_false p.assignment.current (lit_of p.clauses o k) (rw g.same.0.0 (g.cut k le (omega (arith, size)))))

  part_size : length part ≡ len
  part_size = length-take-le len new (omega (arith, size))

  mapped_size : length (map (with_var (global_in c)) part) ≡ len
  mapped_size = length_mapped (with_var (global_in c)) part ∙ part_size

  abbrev mold : List ℕ
  mold = map (with_var (global_in c)) old

  abbrev mpart : List ℕ
  mpart = map (with_var (global_in c)) part

  abbrev hash : ℕ
  hash = hash_of old

  abbrev Cut : SearchState → Bool → Type 0
  Cut q b = BothParts p q s (global_in c) (derived_step b mpart (hash ∷ [])) (deleted_step b Simplified mold)

  -- three or more literals are left
  module _ (q : SearchState) (long : 3 ≤ len) (short : ShortensLongClause p q o len) where
    cut_long : (b : Bool) → is_redundant p.clauses o ≡ b → Cut q b
    cut_long false side =
        fits_short p q s (global_in c) fits_p g.holds o there_p old order (sessions_are_plain steps) part old hash order distinct refl len short long (omega (arith, size)) false_by (shuffled_refl part) side
    cut_long true side =
        rw (flag_long true (length (map (with_var (global_in c)) part)) (omega (arith, mapped_size)))
        (fits_short_redundant p q s (global_in c) fits_p g.holds o there_p old order (sessions_are_plain steps) part old hash order distinct refl len short long (omega (arith, size)) false_by (shuffled_refl part) side)

  -- two literals are left
  module _ (q mid : SearchState) (two : len ≡ 2) (stores : AddsOriginalClause p mid (lit_of p.clauses o 0 ∷ lit_of p.clauses o 1 ∷ [])) (drops : DeletesLongClause mid q o) where
    abbrev a : ℕ
    a = lit_of p.clauses o 0

    abbrev b2 : ℕ
    b2 = lit_of p.clauses o 1

    is_two : part ≡ a ∷ b2 ∷ []
    is_two = ap (λ n. take n new) two ∙ take_two new (omega (arith, size))

    are : AreTwo (state p) new a b2
    are = record {
      first = among_at new 0 (omega (arith, size));
      second = among_at new 1 (omega (arith, size));
      apart = λ e. (let z : 0 ≡ 1 = order.apart distinct 0 1 (omega (arith, size)) (omega (arith, size)) e in omega arith);
      others = λ k lt n m. false_by k (far k n m) lt;
    }
      where
        far : (k : ℕ) → (get_or new k 0 ≢ a) → (get_or new k 0 ≢ b2) → len ≤ k
        far zero n m = absurd (n refl)
        far (suc zero) n m = absurd (m refl)
        far (suc (suc k)) n m = omega arith

    cut_pair : (b : Bool) → is_redundant p.clauses o ≡ b → Cut q b
    cut_pair false side =
        subst (λ (ls : List ℕ). BothParts p q s (global_in c) (derived_step false (map (with_var (global_in c)) ls) (hash ∷ [])) (deleted_step false Simplified mold)) (sym is_two)
        (fits_pair p q s (global_in c) fits_p g.holds o there_p old order (sessions_are_plain steps) (a ∷ b2 ∷ []) old hash order distinct refl mid refl stores drops are side)
    cut_pair true side =
        subst (λ (ls : List ℕ). BothParts p q s (global_in c) (derived_step true (map (with_var (global_in c)) ls) (hash ∷ [])) (deleted_step true Simplified mold)) (sym is_two)
        (fits_pair_redundant p q s (global_in c) fits_p g.holds o there_p old order (sessions_are_plain steps) (a ∷ b2 ∷ []) old hash order distinct refl mid refl stores drops are side)

  -- the steps may be written, and then parts and session match
  pub cut_goes : (q : SearchState) → StrengthensTo p q o len → (b : Bool) → is_redundant p.clauses o ≡ b → Cut q b
  cut_goes q (puts_long long short) b side = cut_long q long short b side
  cut_goes q (puts_pair two mid stores drops) b side = cut_pair q mid two stores drops b side

  -- the derived clause has solver names
  pub part_named : HaveIndices (session_after steps).solver_names mpart
  part_named =
      mapped_named (session_after steps).solver_names (global_in c) part (λ k lt.
      let at : get_or part k 0 ≡ get_or new k 0 = get_or-take len new k 0 (omega (arith, part_size)) in
      subst (λ l. s.solver_names (global_in c (variable l)) ≡ Some (variable l)) (sym at)
      (mapped_at (global_in c) s.solver_names new k (long_named p.clauses (live_refs p.clauses p.db.refs) p.binary.implied s (global_in c) fits_p.clauses fits_p.paired o there_p) (omega (arith, part_size, size))))
