-- Laws about the definitions only.
use Rattle.std.proofs.Common.{ℕ, List, ◌≡◌, true, false, not, map, ◌∙◌, ap, ◌⊎◌, inl, inr, unwrap_or}
use Rattle.std.proofs.lemmas.Bool.{cases_Bool}
use Rattle.std.specs.List.{AllByRecursion}
use Rattle.sat_base.specs.values.Literals.{mk_lit}
use Rattle.sat_base.specs.values.Clauses.{Valuation, literal_true, clause_true}
use Rattle.sat_base.specs.script.Script.{Literal, Among}
use Rattle.sat_base.specs.script.ScriptState.{ScriptState, identity_of, identity_lit, introduce_all}
use Rattle.certify.specs.laws.Laws.{NoModelAndCore, ClausesAreSets, TautologyChangesNothing, AskDependsOnNames}
use Rattle.sat_base.proofs.lemmas.script.LiteralValues.{literal_coded, among_true, among_mapped, some_mapped, all_at, all_map, true_mapped, mapped_true}

pub model_excludes_core : NoModelAndCore
model_excludes_core j ask line core m c = c.none m.valuation
    (true_mapped m.valuation (identity_lit j) core (all_map (λ l. Among l ask) (λ l. literal_true m.valuation (identity_lit j l) ≡ true) core
    (λ l x. all_at (λ l. literal_true m.valuation (identity_lit j l) ≡ true) l ask (mapped_true m.valuation (identity_lit j) ask m.asked) x) c.among))
    m.clauses

-- if a clause holds, so does a clause that contains all its literals
held_in : (j : ScriptState) (ls ks : List Literal) (a : Valuation) → AllByRecursion (λ l. Among l ks) ls → clause_true a (map (identity_lit j) ls) ≡ true → clause_true a (map (identity_lit j) ks) ≡ true
held_in j ls ks a h t =
    let s = some_mapped a (identity_lit j) ls t in
    among_true a (identity_lit j s.0) (map (identity_lit j) ks) (among_mapped (identity_lit j) s.0 ks (all_at (λ l. Among l ks) s.0 ls h s.1)) s.2

pub repeated : ClausesAreSets
repeated j ls ks a to back = ((λ h. (held_in j ls ks a to h.0, h.1)), (λ h. (held_in j ks ls a back h.0, h.1)))

pub ask_names : AskDependsOnNames
ask_names j ls ks e = ap (λ (names : List ℕ). introduce_all names j) e

either_sign : (a : Valuation) (v : ℕ) → (literal_true a (mk_lit v true) ≡ true) ⊎ (literal_true a (mk_lit v false) ≡ true)
either_sign a v = elim (cases_Bool (a v)) [ inl t ↦ inl (literal_coded a v true ∙ t) | inr f ↦ inr (literal_coded a v false ∙ ap not f) ]

pub tautology : TautologyChangesNothing
tautology j name ls a p n = (
  (λ h. h.1),
  (λ h. (
    elim (either_sign a (unwrap_or (identity_of j name) 0)) [
      | inl t ↦ among_true a (identity_lit j (record { name = name; positive = true })) (map (identity_lit j) ls) (among_mapped (identity_lit j) (record { name = name; positive = true }) ls p) t
      | inr t ↦ among_true a (identity_lit j (record { name = name; positive = false })) (map (identity_lit j) ls) (among_mapped (identity_lit j) (record { name = name; positive = false }) ls n) t
    ],
    h,
  )),
)
