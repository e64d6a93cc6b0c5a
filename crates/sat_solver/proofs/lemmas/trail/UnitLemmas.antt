-- The units of a trail at level 0 may be written in trail order.
use Rattle.std.proofs.Common.{ℕ, ◌+◌, ◌-◌, ◌/◌, ◌%◌, ◌^◌, ◌<◌, ◌≡◌, Bool, true, false, ◌||◌, cond, eqb, Option, Some, List, [], ◌∷◌, map, length, drop, slice_index_or, refl, sym, ◌∙◌, ap, subst, arith, ◌⊎◌, inl, inr, eq-zero-or-pos}
use Rattle.std.proofs.lemmas.Bool.{or_cases, or_left, or_right, eqb-true, eq-eqb, true≢false, cases_lt, false_from_ne_true}
use Rattle.std.specs.List.{AllByRecursion, Contains}
use Rattle.sat_base.specs.values.Literals.{negated, variable, is_positive}
use Rattle.sat_base.specs.values.Hashes.{hash_of}
use Rattle.sat_store.specs.clause.Buffer.{lits_at}
use Rattle.sat_parts.specs.declared.prop.graph.Reason.{Reason}
use Rattle.sat_parts.specs.declared.prop.graph.Reason.TheVariants.{Unit as NoCause, Binary, Long}
use Rattle.sat_parts.specs.clause.Stored.{lit_of, size_of}
use Rattle.sat_parts.specs.prop.Graphs.{has_no_clause}
use Rattle.sat_parts.specs.prop.Values.{value_of, IsTrueLit}
use Rattle.sat_parts.specs.prop.State.{PropagationState, node, lit_at, IsOnTrailBefore, StateIsConsistent}
use Rattle.sat_parts.specs.prop.Reasons.{IsFalseBefore, ReasonImplies, ReasonsAreUnit}
use Rattle.sat_solver.specs.session.Session.{Session, with_unit_added, CanWriteUnits}
use Rattle.sat_solver.proofs.lemmas.session.Changes.{session_if}
use Rattle.sat_solver.specs.session.LiveClauses.{with_var}
use Rattle.sat_solver.proofs.lemmas.session.Deriving.{proves}
use Rattle.sat_solver.proofs.lemmas.session.Mapped.{negated_mapped, apart}
use Rattle.sat_solver.specs.session.TrailEntries.{reason_clause}
use Rattle.sat_solver.specs.session.TrailUnits.{written_units, IsUsable, HasOwnIndex, TrailMatches, TrailUnitsAreAllowed}
use Rattle.sat_solver.proofs.lemmas.trail.TrailLemmas.{Parts, drop_parts, from_index}

-- ONE MORE UNIT

module _ (s : Session) (l : ℕ) where
  pub fact_keeps : (m : ℕ) → s.units m ≡ true → (with_unit_added l s).units m ≡ true
  fact_keeps m h = go (s.units l) (s.units (negated l))
    where
      go : (b d : Bool) → (session_if b s (session_if d (record s { unsat = true }) (record s { units = λ m. eqb l m || s.units m }))).units m ≡ true
      go true d = h
      go false true = h
      go false false = or_right (eqb l m) (s.units m) h

  pub fact_gives : s.units (negated l) ≡ false → (with_unit_added l s).units l ≡ true
  fact_gives n = go (s.units l) refl (s.units (negated l)) n
    where
      go : (b : Bool) → s.units l ≡ b → (d : Bool) → d ≡ false → (session_if b s (session_if d (record s { unsat = true }) (record s { units = λ m. eqb l m || s.units m }))).units l ≡ true
      go true u d e = u
      go false u true e = absurd (true≢false e)
      go false u false e = or_left (eqb l l) (s.units l) (eq-eqb l l refl)

  pub fact_only : (m : ℕ) → (with_unit_added l s).units m ≡ true → (l ≡ m) ⊎ (s.units m ≡ true)
  fact_only m h = go (s.units l) (s.units (negated l)) h
    where
      go : (b d : Bool) → (session_if b s (session_if d (record s { unsat = true }) (record s { units = λ m. eqb l m || s.units m }))).units m ≡ true → (l ≡ m) ⊎ (s.units m ≡ true)
      go true d k = inr k
      go false true k = inr k
      go false false k = elim (or_cases (eqb l m) (s.units m) k) [ inl e ↦ inl (eqb-true l m e) | inr u ↦ inr u ]

  pub fact_names : (v : ℕ) → (with_unit_added l s).solver_names v ≡ s.solver_names v
  fact_names v = go (s.units l) (s.units (negated l))
    where
      go : (b d : Bool) → (session_if b s (session_if d (record s { unsat = true }) (record s { units = λ m. eqb l m || s.units m }))).solver_names v ≡ s.solver_names v
      go true d = refl
      go false true = refl
      go false false = refl

  pub fact_width : (with_unit_added l s).width ≡ s.width
  fact_width = go (s.units l) (s.units (negated l))
    where
      go : (b d : Bool) → (session_if b s (session_if d (record s { unsat = true }) (record s { units = λ m. eqb l m || s.units m }))).width ≡ s.width
      go true d = refl
      go false true = refl
      go false false = refl

  pub fact_usable : (global : ℕ → ℕ) (c : List ℕ) → IsUsable s global c → IsUsable (with_unit_added l s) global c
  fact_usable global c h = go (s.units l) (s.units (negated l))
    where
      go : (b d : Bool) → IsUsable (session_if b s (session_if d (record s { unsat = true }) (record s { units = λ m. eqb l m || s.units m }))) global c
      go true d = h
      go false true = record { live = record { once = h.live.once; counted = h.live.counted }; hash = h.hash }
      go false false = record { live = record { once = h.live.once; counted = h.live.counted }; hash = h.hash }

-- no literal is both true and false
not_both : (values : List (Option Bool)) (l : ℕ) → IsTrueLit values l → IsTrueLit values (negated l) → ⊥
not_both values l a b =
    let half : variable (negated l) ≡ variable l = omega arith in
    let same : Some (is_positive l) ≡ Some (is_positive (negated l)) = sym a ∙ sym (ap (value_of values) half) ∙ b in
    elim (eq-zero-or-pos (l % 2)) [
      | inl e ↦ let n : negated l % 2 ≡ 1 = omega arith in differ (is_positive l) (is_positive (negated l)) (ap (λ x. eqb x 0) e) (ap (λ x. eqb x 0) n) same
      | inr p ↦ let o : l % 2 ≡ 1 = omega arith in let n : negated l % 2 ≡ 0 = omega arith in differ (is_positive (negated l)) (is_positive l) (ap (λ x. eqb x 0) n) (ap (λ x. eqb x 0) o) (sym same)
    ]
  where
    differ : (x y : Bool) → x ≡ true → y ≡ false → Some x ≡ Some y → ⊥
    differ x y p q e = let k : x ≡ y = cc in true≢false (sym p ∙ k ∙ q)

module _ (words live : List ℕ) (implied : List (List ℕ)) (st : PropagationState) (global : ℕ → ℕ) (filled : (o : ℕ) → Contains live o → 0 < size_of words o) (agrees : StateIsConsistent st) (turns : ReasonsAreUnit words live implied st 0) where
  -- the literals before position i are units of the session
  record Now (s : Session) (i : ℕ) : Type 0 where
    fits : TrailMatches words st s global
    passed : (m : ℕ) → IsOnTrailBefore st i m → s.units (with_var global m) ≡ true

  unit_false : (s : Session) (i m : ℕ) → Now s i → IsFalseBefore st i m → s.units (negated (with_var global m)) ≡ true
  unit_false s i m n f = subst (λ x. s.units x ≡ true) (negated_mapped global m) (elim f [ inl b ↦ n.passed (negated m) b | inr r ↦ n.fits.removed (negated m) r ])

  mapped_all : (s : Session) (l : ℕ) (c : List ℕ) → AllByRecursion (λ m. (m ≡ l) ⊎ (s.units (negated (with_var global m)) ≡ true)) c → AllByRecursion (λ m. (m ≡ with_var global l) ⊎ (s.units (negated m) ≡ true)) (map (with_var global) c)
  mapped_all s l [] h = tt
  mapped_all s l (m ∷ ms) h = (elim h.0 [ inl e ↦ inl (ap (with_var global) e) | inr k ↦ inr k ], mapped_all s l ms h.1)

  others : (s : Session) (i l : ℕ) (r : Reason) → lit_at st i ≡ l → Now s i → has_no_clause r ≡ false → ReasonImplies words live implied st i r → AllByRecursion (λ m. (m ≡ l) ⊎ (s.units (negated (with_var global m)) ≡ true)) (reason_clause words l r)
  others s i l NoCause e n u h = tt
  others s i l (Binary ls) e n u h = (inl refl, (inr (unit_false s i (slice_index_or ls 0 0) n h.1), tt))
  others s i l (Long o) e n u h = from_index (λ m. (m ≡ l) ⊎ (s.units (negated (with_var global m)) ≡ true)) (lits_at words o) (λ k j. elim (eq-zero-or-pos k) [
    | inl z ↦ inl (ap (λ x. slice_index_or (lits_at words o) x 0) z ∙ h.1 ∙ e)
    | inr q ↦ inr (unit_false s i (lit_of words o k) n (h.2 k q j))
  ])

  later : (s : Session) (i l : ℕ) → lit_at st i ≡ l → Now s i → s.units (with_var global l) ≡ true → Now s (i + 1)
  later s i l e n u = record {
    fits = n.fits;
    passed = λ m b. elim (cases_lt b.place i) [
      | inl j ↦ n.passed m (record { place = b.place; before = j; within = b.within; there = b.there })
      | inr j ↦ let k : b.place < i + 1 = b.before in let at : b.place ≡ i = omega arith in subst (λ x. s.units (with_var global x) ≡ true) (sym e ∙ ap (lit_at st) (sym at) ∙ b.there) u
    ];
  }

  -- the negation of the next unit is no unit
  open_by : (s : Session) (i : ℕ) → i < length st.trail.lits → Now s i → s.units (negated (with_var global (lit_at st i))) ≡ false
  open_by s i j n =
      let l : ℕ = lit_at st i in
      let half : variable (negated l) ≡ variable l = omega arith in
      false_from_ne_true (s.units (negated (with_var global l))) (λ u.
      not_both st.values l (agrees.holds i j) (n.fits.sound (negated l) (ap (λ v. s.solver_names (global v)) half ∙ n.fits.named i j ∙ ap (λ v. Some v) (sym half)) (subst (λ x. s.units x ≡ true) (sym (negated_mapped global l)) u)))

  with_it : (s : Session) (i : ℕ) → i < length st.trail.lits → Now s i → Now (with_unit_added (with_var global (lit_at st i)) s) (i + 1)
  with_it s i j n =
      let l : ℕ = lit_at st i in
      let w : ℕ = with_var global l in
      let t : Session = with_unit_added w s in
      later t i l refl
      (record {
        fits = record {
          named = λ k q. fact_names s w (global (variable (lit_at st k))) ∙ n.fits.named k q;
          usable = λ k q u. fact_usable s w global (reason_clause words (lit_at st k) (node st (lit_at st k)).reason) (n.fits.usable k q u);
          given = λ k q u. fact_keeps s w (with_var global (lit_at st k)) (n.fits.given k q u);
          removed = λ m r. fact_keeps s w (with_var global m) (n.fits.removed m r);
          sound = λ m q u.
              let named : HasOwnIndex s global m = sym (fact_names s w (global (variable m))) ∙ q in
              elim (fact_only s w (with_var global m) u) [
                | inl e ↦ subst (λ x. IsTrueLit st.values x) (apart global s.solver_names l m (n.fits.named i j) named e) (agrees.holds i j)
                | inr k ↦ n.fits.sound m named k
              ];
        };
        passed = λ m b. fact_keeps s w (with_var global m) (n.passed m b);
      })
      (fact_gives s w (open_by s i j n))

  may_from : (ls : List ℕ) (i : ℕ) (s : Session) → drop i st.trail.lits ≡ ls → Now s i → CanWriteUnits s (written_units words st s.width global ls)
  may_from [] i s e n = tt
  may_from (l ∷ ls) i s e n = go (may_from ls (i + 1)) (has_no_clause (node st l).reason) refl
    where
      parts : Parts st.trail.lits i l ls
      parts = drop_parts st.trail.lits i l ls e

      go : ((s : Session) → drop (i + 1) st.trail.lits ≡ ls → Now s (i + 1) → CanWriteUnits s (written_units words st s.width global ls)) → (b : Bool) → has_no_clause (node st l).reason ≡ b
          → CanWriteUnits s (cond b (written_units words st s.width global ls) ((with_var global l, hash_of (reason_clause words l (node st l).reason) / 2 ^ (64 - s.width)) ∷ written_units words st s.width global ls))
      go ih true u = ih s parts.rest (later s i l parts.there n (subst (λ x. s.units (with_var global x) ≡ true) parts.there (n.fits.given i parts.inside (subst (λ x. has_no_clause (node st x).reason ≡ true) (sym parts.there) u))))
      go ih false u =
          let usable : IsUsable s global (reason_clause words l (node st l).reason) = subst (λ x. IsUsable s global (reason_clause words x (node st x).reason)) parts.there (n.fits.usable i parts.inside (subst (λ x. has_no_clause (node st x).reason ≡ false) (sym parts.there) u)) in
          let implies : ReasonImplies words live implied st i (node st l).reason = subst (λ x. ReasonImplies words live implied st i (node st x).reason) parts.there (turns i (omega arith) parts.inside) in
          let next : Now (with_unit_added (with_var global l) s) (i + 1) = subst (λ x. Now (with_unit_added (with_var global x) s) (i + 1)) parts.there (with_it s i parts.inside n) in (
            proves s (with_var global l) (hash_of (reason_clause words l (node st l).reason) / 2 ^ (64 - s.width)) (map (with_var global) (reason_clause words l (node st l).reason)) usable.live usable.hash
                (mapped_all s l (reason_clause words l (node st l).reason) (others s i l (node st l).reason parts.there n u implies)),
            subst (λ k. CanWriteUnits (with_unit_added (with_var global l) s) (written_units words st k global ls)) (fact_width s (with_var global l)) (ih (with_unit_added (with_var global l) s) parts.rest next),
          )

pub trail_units_may : TrailUnitsAreAllowed
trail_units_may words live implied st s global filled agrees turns fits =
    may_from words live implied st global filled agrees turns st.trail.lits 0 s refl (record { fits = fits; passed = λ m b. let n : b.place < 0 = b.before in absurd (omega arith) })
