-- Traces that follow each other, and the trace of an ask that is closed.
use Rattle.std.proofs.Common.{ℕ, ◌≡◌, Bool, Option, List, [], ◌∷◌, ◌++◌, refl, sym, subst}
use Rattle.sat_base.specs.steps.Steps.{Step, Assumptions}
use Rattle.sat_checker.specs.matching.Checking.{CheckerRules, variable_named}
use Rattle.sat_checker.specs.matching.Expected.{Outcome, Expected, Opens, Closes, IsSameLiteralSet, FitsExpected, opens, closes}
use Rattle.sat_checker.specs.matching.Traces.{HasTrace, no_step, silent, visible}

none_spelt : (names : ℕ → Option ℕ) (codes : List ℕ) → IsSameLiteralSet names [] codes → codes ≡ []
none_spelt names [] h = refl
none_spelt names (c ∷ cs) h = absurd (h.1.0.2)

closing_fits : (knows : ℕ → Bool) (earlier : List Step) (e : Expected) (o : Outcome) (step : Step) → FitsExpected knows earlier e step → e ≡ Opens [] o → FitsExpected knows earlier Closes step
closing_fits knows earlier (Opens ls p) o step (opens {c = c} h) e =
    let m : ls ≡ [] = cc in
    subst (λ ks. FitsExpected knows earlier Closes (Assumptions ks)) (sym (none_spelt (variable_named earlier) c (subst (λ ks. IsSameLiteralSet (variable_named earlier) ks c) m h))) closes
closing_fits knows earlier e o step f d = absurd (cc)

module _ {k : CheckerRules} where
  pub traces_both : {s t u : List Step} {es fs : List Expected} → HasTrace k s t es → HasTrace k t u fs → HasTrace k s u (es ++ fs)
  traces_both no_step q = q
  traces_both (silent e p) q = silent e (traces_both p q)
  traces_both (visible f p) q = visible f (traces_both p q)

  apart_as : (es fs : List Expected) {s t : List Step} {gs : List Expected} → HasTrace k s t gs → gs ≡ es ++ fs → (m : List Step) × HasTrace k s m es × HasTrace k m t fs
  apart_as [] fs {s = s} {t = t} p e = (s, no_step, subst (HasTrace k s t) e p)
  apart_as (x ∷ es) fs no_step e = absurd (cc)
  apart_as (x ∷ es) fs (silent q p) e = let r = apart_as (x ∷ es) fs p e in (r.0, silent q r.1, r.2)
  apart_as (x ∷ es) fs (visible {s = s} {step = step} {e = y} {es = ys} f p) e =
      let hd : y ≡ x = cc in
      let tl : ys ≡ es ++ fs = cc in
      let r = apart_as es fs p tl in
      (r.0, visible (subst (λ z. FitsExpected (k.knows s) s z step) hd f) r.1, r.2)

  -- a trace of two expected parts can be split between them
  pub trace_apart : (es fs : List Expected) {s t : List Step} → HasTrace k s t (es ++ fs) → (m : List Step) × HasTrace k s m es × HasTrace k m t fs
  trace_apart es fs p = apart_as es fs p refl

  closed_as : {s t : List Step} {es : List Expected} (o : Outcome) → HasTrace k s t es → es ≡ Opens [] o ∷ [] → HasTrace k s t (Closes ∷ [])
  closed_as o no_step e = absurd (cc)
  closed_as o (silent q p) e = silent q (closed_as o p e)
  closed_as o (visible {s = s} {t = t} {step = step} {e = x} {es = xs} f p) e =
      let hd : x ≡ Opens [] o = cc in
      let tl : xs ≡ [] = cc in
      visible (closing_fits (k.knows s) s x o step f hd) (subst (HasTrace k (step ∷ s) t) tl p)

  -- an ask without assumptions also closes the ask before it
  pub closed_by_none : {s t : List Step} (o : Outcome) → HasTrace k s t (Opens [] o ∷ []) → HasTrace k s t (Closes ∷ [])
  closed_by_none o p = closed_as o p refl
