-- What units announce that are checked and stored one by one.
use Rattle.std.proofs.Common.{ℕ, zero, suc, ◌+◌, ◌*◌, ◌<◌, ◌≤◌, ◌≡◌, Bool, true, false, cond, List, [], ◌∷◌, ◌++◌, length, drop, get_or, refl, sym, ◌∙◌, ap, arith, append_assoc, Result, Ok, Err, IfOk, IsTrue}
use Rattle.std.proofs.lemmas.List.{drop_more}
use Rattle.sat_base.specs.values.Literals.{negated}
use Rattle.sat_checker.specs.Stored.{Stored, is_unit}
use Rattle.sat_checker.specs.Storing.{clause_with, with_unit, with_contradiction, with_new_unit}
use Rattle.sat_checker.specs.announcements.Announcements.{announced_derived, announced_derived_units}
use Rattle.sat_checker.specs.inner.FormulaView.{RepresentsFormula}
use Rattle.sat_checker.specs.listeners.AnnouncingView.{HasNoStoredUnitClause}
use Rattle.sat_checker.specs.listeners.NotedView.{AppendsAnnouncements}
use Rattle.sat_checker.specs.declared.formula.Formula.{Formula}
use Rattle.sat_checker.specs.declared.announce.notes.Notes.{Notes}
use Rattle.sat_checker.proofs.lemmas.store.Buckets.{looks_more, looks_rest, looks_within}
use Rattle.sat_checker.proofs.lemmas.listeners.Noting.{none_following}

-- The announcements noted so far, followed by those of the remaining units, are those of all units.
pub record Noted (F : Formula) (f : Stored) (all left : List (ℕ × ℕ)) (before notes : Notes) : Type 0 where
  pub now : Stored
  pub kept : RepresentsFormula F now
  pub long : HasNoStoredUnitClause now
  pub listening : notes.listening ≡ before.listening
  pub reported : IsTrue before.listening → notes.news ++ announced_derived_units left now ≡ before.news ++ announced_derived_units all f

clauses_stay : (l : ℕ) (f : Stored) → (with_unit l f).clauses ≡ f.clauses
clauses_stay l f = go (is_unit f l) (is_unit f (negated l))
  where
    go : (b d : Bool) → (cond b f (cond d (with_contradiction l f) (with_new_unit l f))).clauses ≡ f.clauses
    go true d = refl
    go false true = refl
    go false false = refl

-- the announcements of the next unit are noted
pub noted_more : (F : Formula) (f : Stored) (all : List (ℕ × ℕ)) (i : ℕ) (u : ℕ × ℕ) (inside : i < length all) (is : u ≡ get_or all i u) (before notes : Notes) (noted : Noted F f all (drop i all) before notes) (G : Formula) (more : Notes) → more.listening ≡ notes.listening
    → AppendsAnnouncements notes (announced_derived false (u.0 ∷ []) (u.1 ∷ []) noted.now) more → RepresentsFormula G (with_unit u.0 noted.now) → Noted G f all (drop (i + 1) all) before more
noted_more F f all i u inside is before notes noted G more h e k = record {
  now = with_unit u.0 noted.now;
  kept = k;
  long = λ l. ap (clause_with (l ∷ [])) (clauses_stay u.0 noted.now) ∙ noted.long l;
  listening = h ∙ noted.listening;
  reported = λ t.
      ap (λ x. x ++ announced_derived_units (drop (i + 1) all) (with_unit u.0 noted.now)) (e (noted.listening ∙ t))
      ∙ append_assoc notes.news (announced_derived false (u.0 ∷ []) (u.1 ∷ []) noted.now) (announced_derived_units (drop (i + 1) all) (with_unit u.0 noted.now))
      ∙ ap (λ us. notes.news ++ announced_derived_units us noted.now) (sym (drop_more all i u inside ∙ ap (λ x. x ∷ drop (i + 1) all) (sym is)))
      ∙ noted.reported t;
}

-- no unit remains
pub noted_all : (F : Formula) (f : Stored) (all : List (ℕ × ℕ)) (i : ℕ) (before notes : Notes) → length all ≤ i → Noted F f all (drop i all) before notes → AppendsAnnouncements before (announced_derived_units all f) notes
noted_all F f all i before notes l noted = λ t. sym (none_following notes.news) ∙ ap (λ us. notes.news ++ announced_derived_units us noted.now) (sym (past all i l)) ∙ noted.reported t
  where
    past : (xs : List (ℕ × ℕ)) (i : ℕ) → length xs ≤ i → drop i xs ≡ []
    past [] zero l = refl
    past [] (suc i) l = refl
    past (x ∷ xs) zero l = absurd (omega arith)
    past (x ∷ xs) (suc i) l = past xs i (omega arith)

-- if the result is a rejection, every claim about acceptance holds
pub none_noted : {E : Type 0} (r : Result Bool E) (P : Type 0) → IfOk r (λ passes. passes ≡ false) → IfOk r (λ passes. passes ≡ true → P)
none_noted (Ok true) P h = absurd (let e : true ≡ false = h in cc)
none_noted (Ok false) P h = λ e. absurd (let d : false ≡ true = e in cc)
none_noted (Err e) P h = tt

-- the looks of the units so far, and of one more
pub twice_then : (old looks new i n m : ℕ) → m ≡ n → looks ≤ old + i * (2 * n) → new ≤ looks + 2 * m → new ≤ old + (i + 1) * (2 * n)
twice_then old looks new i n m e h k = looks_more old looks new i (2 * n) (2 * m) h k (omega (arith, e))

pub twice_end : (old looks new : ℕ) (all : List (ℕ × ℕ)) (i : ℕ) → i < length all → (n m : ℕ) → m ≡ n → looks ≤ old + i * (2 * n) → new ≤ looks + 2 * m → new ≤ old + length all * (2 * n)
twice_end old looks new all i l n m e h k = looks_within old new (i + 1) (length all) (2 * n) (twice_then old looks new i n m e h k) (omega arith)

-- the looks of the first units and one more, two passes each, and of the rest, one pass each
pub twice_rest : (old looks then new i k all n m : ℕ) → m ≡ n → k + (i + 1) ≡ all → looks ≤ old + i * (2 * n) → then ≤ looks + 2 * m → new ≤ then + k * m → new ≤ old + all * (2 * n)
twice_rest old looks then new i k all n m e f g h l =
    let d : k * m ≤ k * (2 * m) = grind arith in
    looks_rest old looks then new i k all (2 * n) (2 * m) (ap (λ x. 2 * x) e) f g h (omega arith)
