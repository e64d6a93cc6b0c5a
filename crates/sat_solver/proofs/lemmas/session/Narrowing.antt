-- A solver may ignore widths: what it may write with complete hashes may be written with their top bits, at any width.
use Rattle.std.proofs.Common.{ℕ, ◌-◌, ◌/◌, ◌^◌, ◌≡◌, List, [], ◌∷◌, map, refl, sym, ◌∙◌, ap, subst, arith, Option, Some}
use Rattle.sat_base.specs.values.Literals.{negated}
use Rattle.sat_base.specs.values.Hashes.{hash_of}
use Rattle.sat_base.specs.steps.Steps.{Simplified, Step, SolverVarName, UserVarName, DeleteVar, AtClause, UnitClauses, DeleteClause, ChangeHashBits, Model, Assumptions, FailedAssumptions, End}
use Rattle.sat_checker.specs.Stored.{solver_literal}
use Rattle.sat_solver.specs.session.Session.{Session, proof_state, session_with, with_unit_added, last_after, after, session_after, AreLiveByHash, CanDerive, CanWriteCore, by_signs, by_derivation, by_unit, by_clauses, CanWriteUnits, IsAllowedStep, AreAllowedSteps}
use Rattle.sat_solver.specs.proof.Widths.{kept_bits, narrowed, KeepsWidth, IsNarrowedTo, none_yet, width_changes, one_more, IsAllowedAtWidth, WidthsAreFree}
use Rattle.sat_solver.proofs.lemmas.session.WidthLemmas.{after_wide, fact_wide, fact_width, step_width}

-- the session at another width
abbrev pub at : ℕ → Session → Session
at width s = record s { width = width }

-- at 64 bits a hash is complete
whole : (n : ℕ) → n / 2 ^ (64 - 64) ≡ n
whole n = omega arith

-- the same clauses are named by truncated hashes at another width
named_at : (w : ℕ) (s : Session) → s.width ≡ 64 → (named : List (List ℕ)) (hashes : List ℕ) → AreLiveByHash s named hashes → AreLiveByHash (at w s) named (map (kept_bits w) hashes)
named_at w s e [] [] h = tt
named_at w s e [] (k ∷ ks) h = absurd h
named_at w s e (c ∷ cs) [] h = absurd h
named_at w s e (c ∷ cs) (k ∷ ks) h = (
  record { once = h.0.once; counted = h.0.counted },
  ap (kept_bits w) (h.1 ∙ ap (λ n. hash_of (map (solver_literal s.solver_names) c) / 2 ^ (64 - n)) e ∙ whole (hash_of (map (solver_literal s.solver_names) c))),
  named_at w s e cs ks h.2,
)

-- a derivation is still one at another width
pub derive_at : (w : ℕ) (s : Session) → s.width ≡ 64 → (clause hashes : List ℕ) → CanDerive s clause hashes → CanDerive (at w s) clause (map (kept_bits w) hashes)
derive_at w s e clause hashes (by_unit t) = by_unit t
derive_at w s e clause hashes (by_clauses named n lead) = by_clauses named (named_at w s e named hashes n) lead

-- so is the derivation of a core
fail_at : (w : ℕ) (s : Session) → s.width ≡ 64 → (core hashes : List ℕ) → CanWriteCore s core hashes → CanWriteCore (at w s) core (map (kept_bits w) hashes)
fail_at w s e core hashes (by_signs t) = by_signs t
fail_at w s e core hashes (by_derivation d) = by_derivation (derive_at w s e (map negated core) hashes d)

-- units that may be written may be written at another width
pub prove_at : (w : ℕ) (us : List (ℕ × ℕ)) (s : Session) → s.width ≡ 64 → CanWriteUnits s us → CanWriteUnits (at w s) (map (λ u. (u.0, kept_bits w u.1)) us)
prove_at w [] s e h = tt
prove_at w (u ∷ us) s e h = (
  derive_at w s e (u.0 ∷ []) (u.1 ∷ []) h.0,
  subst (λ x. CanWriteUnits x (map (λ v. (v.0, kept_bits w v.1)) us)) (sym (ap (session_with s.last) (fact_wide u.0 w (proof_state s)))) (prove_at w us (with_unit_added u.0 s) (fact_width u.0 (proof_state s) ∙ e) h.1),
)

-- the clause derived last does not depend on hashes
last_at : (w : ℕ) (step : Step) (last : Option (List ℕ)) → last_after (narrowed w step) last ≡ last_after step last
last_at w (SolverVarName v name) last = refl
last_at w step last = refl

-- the effect of a step at another width
pub after_at : (w : ℕ) (step : Step) (s : Session) → KeepsWidth step → after (narrowed w step) (at w s) ≡ at w (after step s)
after_at w step s k = λ i. session_with (last_at w step s.last i) (after_wide w step w (proof_state s) k i)

-- an allowed step is allowed at another width, with truncated hashes
pub may_at : (w : ℕ) (step : Step) (s : Session) → s.width ≡ 64 → IsAllowedStep s step → IsAllowedStep (at w s) (narrowed w step)
may_at w (SolverVarName v name) s e m = tt
may_at w (UserVarName v (Some name)) s e m = record { free = m.free; nameless = m.nameless; not_hidden = m.not_hidden }
may_at w (DeleteVar v) s e m = record { known = m.known; nameless = m.nameless; hidden = m.hidden; unused = m.unused; not_assumed = m.not_assumed }
may_at w (AtClause r clause hashes) s e m = derive_at w s e clause hashes m
may_at w (UnitClauses us) s e m = prove_at w us s e m
may_at w (DeleteClause clause Simplified) s e m = (m.0, record { part = m.1.part; last = m.1.last; within = m.1.within; strict = m.1.strict })
may_at w (ChangeHashBits bits) s e m = tt
may_at w (Model ls) s e m = record { consistent = m.consistent; apart = m.apart; units = m.units; clauses = m.clauses }
may_at w (Assumptions ls) s e m = tt
may_at w (FailedAssumptions core hashes) s e m = (m.0, fail_at w s e core hashes m.1)
may_at w End s e m = tt
may_at w step s e m = m

-- what is written for allowed steps is allowed, and the steps themselves have width 64
written_may : {wide written : List Step} {width : ℕ} → IsNarrowedTo wide written width → AreAllowedSteps wide → IsAllowedAtWidth wide written width × (session_after wide).width ≡ 64
written_may none_yet h = (record { may = tt; session = refl }, refl)
written_may (width_changes {wide = wide} {written = written} {width = width} bits w) h =
    let ih = written_may w h in
    (record { may = (ih.0.may, tt); session = ap {A = Session} (λ s. record s { width = bits }) ih.0.session }, ih.1)
written_may (one_more {wide = wide} {written = written} {width = width} step k w) h =
    let ih = written_may w h.0 in
    let s : Session = session_after wide in (
      record {
        may = (ih.0.may, subst (λ x. IsAllowedStep x (narrowed width step)) (sym ih.0.session) (may_at width step s ih.1 h.1));
        session = ap (after (narrowed width step)) ih.0.session ∙ after_at width step s k;
      },
      step_width step (proof_state s) k ∙ ih.1,
    )

-- at any chosen widths, what is written for allowed steps is allowed
pub widths_are_free : WidthsAreFree
widths_are_free wide written width w h = (written_may w h).0
