-- Names in the script state, and identities of live variables.
use Rattle.std.proofs.Common.{ℕ, ◌+◌, ◌<◌, ◌≡◌, Bool, true, false, cond, eqb, ltb, [], ◌∷◌, Option, Some, None, is_some, refl, sym, ◌∙◌, subst, arith}
use Rattle.std.proofs.lemmas.Bool.{eqb-true, eqb-false, eq-eqb, ne_eqb, ltb-true, ltb-false}
use Rattle.std.specs.List.{AllByRecursion}
use Rattle.sat_checker.specs.matching.Bridge.{LiveVariables}
use Rattle.sat_solver.specs.variables.Live.{given}

-- equality tests are symmetric
pub eqb_turned : (a b : ℕ) → eqb a b ≡ eqb b a
eqb_turned a b = go (eqb b a) refl
  where
    go : (x : Bool) → eqb b a ≡ x → eqb a b ≡ eqb b a
    go true e = eq-eqb a b (sym (eqb-true b a e)) ∙ sym e
    go false e = ne_eqb a b (λ x. eqb-false b a e (sym x)) ∙ sym e

pub same_below : (w n m : ℕ) → (w < n → w < m) → (w < m → w < n) → ltb w n ≡ ltb w m
same_below w n m f g = go (ltb w n) refl (ltb w m) refl
  where
    go : (b : Bool) → ltb w n ≡ b → (d : Bool) → ltb w m ≡ d → ltb w n ≡ ltb w m
    go true e true x = e ∙ sym x
    go false e false x = e ∙ sym x
    go true e false x = let lt = f (ltb-true w n e) in let le = ltb-false w m x in absurd (omega arith)
    go false e true x = let lt = g (ltb-true w m x) in let le = ltb-false w n e in absurd (omega arith)

none_not_some : {i : ℕ} → (let o : Option ℕ = None in o) ≡ Some i → ⊥
none_not_some e = cc

-- a variable without identity differs from all live ones
pub apart_from : (live : LiveVariables) (v : ℕ) → is_some (given live v) ≡ false → AllByRecursion (λ q. q.0 ≡ v → ⊥) live
apart_from [] v e = tt
apart_from (p ∷ ps) v e = go (eqb p.0 v) refl e (λ f. apart_from ps v f)
  where
    go : (b : Bool) → eqb p.0 v ≡ b → is_some (cond b (Some p.1) (given ps v)) ≡ false → (is_some (given ps v) ≡ false → AllByRecursion (λ q. q.0 ≡ v → ⊥) ps) → AllByRecursion (λ q. q.0 ≡ v → ⊥) (p ∷ ps)
    go true x f ih = absurd (cc)
    go false x f ih = (eqb-false p.0 v x, ih f)

-- a property of all identities holds for this one
pub given_has : (P : ℕ → Type 0) (live : LiveVariables) (v i : ℕ) → AllByRecursion (λ p. P p.1) live → given live v ≡ Some i → P i
given_has P [] v i h e = absurd (none_not_some e)
given_has P (p ∷ ps) v i h e = go (eqb p.0 v) e (λ x. given_has P ps v i h.1 x)
  where
    go : (b : Bool) → cond b (Some p.1) (given ps v) ≡ Some i → (given ps v ≡ Some i → P i) → P i
    go true x ih = let y : p.1 ≡ i = cc in subst P y h.0
    go false x ih = ih x

pub next_same : (a b : ℕ) → eqb (a + 1) (b + 1) ≡ eqb b a
next_same a b = go (eqb b a) refl
  where
    go : (x : Bool) → eqb b a ≡ x → eqb (a + 1) (b + 1) ≡ eqb b a
    go true e = let y = eqb-true b a e in eq-eqb (a + 1) (b + 1) (omega arith) ∙ sym e
    go false e = ne_eqb (a + 1) (b + 1) (λ x. eqb-false b a e (omega arith)) ∙ sym e
