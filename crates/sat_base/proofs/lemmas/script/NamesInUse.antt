-- Names that are introduced are in use, and so are those of correct models and cores.
use Rattle.std.proofs.Common.{ℕ, zero, suc, ◌+◌, ◌-◌, ◌≤◌, ◌<◌, ◌≡◌, ◌∙◌, Bool, true, false, cond, eqb, ltb, Option, Some, None, is_some, unwrap_or, List, [], ◌∷◌, map, refl, sym, ap, subst, arith}
use Rattle.std.proofs.lemmas.Bool.{eqb-false, eq-eqb, ltb-false}
use Rattle.std.specs.List.{AllByRecursion}
use Rattle.sat_base.specs.values.Literals.{mk_lit}
use Rattle.sat_base.specs.script.Script.{Literal, Among, names_of}
use Rattle.sat_base.specs.script.ScriptState.{ScriptState, identity_of, identity_lit, with_name, with_names, names_from, new_names, introduce, introduce_all, IsRightModel}
use Rattle.sat_base.specs.script.ScriptStateLaws.{AreInUse, NamesAreInUse}
use Rattle.sat_base.proofs.lemmas.script.LiteralValues.{all_at, all_from, among_mapped, placed_found}
use Rattle.sat_base.proofs.lemmas.script.NamesListed.{listed_name}

abbrev InUse : ScriptState → ℕ → Type 0
InUse j name = (i : ℕ) × (identity_of j name ≡ Some i)

found : (name m : ℕ) (j : ScriptState) (b : Bool) → eqb name m ≡ b → identity_of (with_name name j) m ≡ cond b (Some j.identity_count) (identity_of j m)
found name m j b e = placed_found (record { name = name; identity = j.identity_count }) j.in_use m ∙ ap (λ x. cond x (Some j.identity_count) (identity_of j m)) e

named : (name : ℕ) (j : ScriptState) → InUse (with_name name j) name
named name j = (j.identity_count, found name name j true (eq-eqb name name refl))

-- a name in use stays in use
still_named : (name m : ℕ) (j : ScriptState) → InUse j m → InUse (with_name name j) m
still_named name m j h = go (eqb name m) refl
  where
    go : (b : Bool) → eqb name m ≡ b → InUse (with_name name j) m
    go true e = (j.identity_count, found name m j true e)
    go false e = (h.0, found name m j false e ∙ h.1)

all_still_named : (names : List ℕ) (m : ℕ) (j : ScriptState) → InUse j m → InUse (with_names names j) m
all_still_named [] m j h = h
all_still_named (n ∷ ns) m j h = all_still_named ns m (with_name n j) (still_named n m j h)

all_still_in_use : (names : List ℕ) (m : ℕ) (j : ScriptState) → InUse j m → InUse (introduce_all names j) m
all_still_in_use [] m j h = h
all_still_in_use (n ∷ ns) m j h = all_still_in_use ns m (introduce n j) (all_still_named (new_names n j) m j h)

from_named : (count name m : ℕ) (j : ScriptState) → name ≤ m → m < name + count → InUse (with_names (names_from count name) j) m
from_named zero name m j low high = absurd (omega arith)
from_named (suc count) name m j low high = go (eqb name m) refl (λ l h. from_named count (name + 1) m (with_name name j) l h)
  where
    go : (b : Bool) → eqb name m ≡ b → (name + 1 ≤ m → m < name + 1 + count → InUse (with_names (names_from count (name + 1)) (with_name name j)) m) → InUse (with_names (names_from count (name + 1)) (with_name name j)) m
    go true e later = all_still_named (names_from count (name + 1)) m (with_name name j) (j.identity_count, found name m j true e)
    go false e later = let ne = eqb-false name m e in later (omega arith) (omega arith)

brought : (name : ℕ) (j : ScriptState) → InUse (introduce name j) name
brought name j = go (ltb name j.first_unused) refl (identity_of j name) refl
  where
    go : (b : Bool) → ltb name j.first_unused ≡ b → (o : Option ℕ) → identity_of j name ≡ o → InUse (with_names (cond b (cond (is_some o) [] (name ∷ [])) (names_from (name + 1 - j.first_unused) j.first_unused)) j) name
    go true x (Some i) e = (i, e)
    go true x None e = named name j
    go false x o e = let past = ltb-false name j.first_unused x in from_named (name + 1 - j.first_unused) j.first_unused name j (omega arith) (omega arith)

all_brought : (j : ScriptState) (names : List ℕ) → AreInUse (introduce_all names j) names
all_brought j [] = tt
all_brought j (n ∷ ns) = (all_still_in_use ns n (introduce n j) (brought n j), all_brought (introduce n j) ns)

model_in_use : (j : ScriptState) (ask line : List Literal) → IsRightModel j ask line → AreInUse j (names_of line)
model_in_use j ask line m = all_from (InUse j) (names_of line) (λ n a. listed_name j.in_use n (subst (Among n) m.names a))

among_in_use : (j : ScriptState) (ask core : List Literal) → AreInUse j (names_of ask) → AllByRecursion (λ l. Among l ask) core → AreInUse j (names_of core)
among_in_use j ask [] used h = tt
among_in_use j ask (l ∷ ls) used h = (all_at (InUse j) l.name (names_of ask) used (among_mapped (λ k. k.name) l ask h.0), among_in_use j ask ls used h.1)

other_same : (j : ScriptState) (ls : List Literal) (other : ℕ) → AreInUse j (names_of ls) → map (identity_lit j) ls ≡ map (λ l. mk_lit (unwrap_or (identity_of j l.name) other) l.positive) ls
other_same j [] other used = refl
other_same j (l ∷ ls) other used =
    let at : (d : ℕ) → unwrap_or (identity_of j l.name) d ≡ used.0.0 = λ d. ap (λ o. unwrap_or o d) used.0.1 in
    ap (λ i. mk_lit i l.positive ∷ map (identity_lit j) ls) (at 0 ∙ sym (at other)) ∙ ap (λ ks. mk_lit (unwrap_or (identity_of j l.name) other) l.positive ∷ ks) (other_same j ls other used.1)

pub are_in_use : NamesAreInUse
are_in_use = record {
  introduced = all_brought;
  model = model_in_use;
  core = λ j ask core used c. among_in_use j ask core used c.among;
  zero_never_counts = other_same;
}
