-- Calls give indices of the search to variables.
use Rattle.std.proofs.Common.{ℕ, ◌≡◌, ◌≢◌, ◌⊎◌, not, ◌&&◌, Bool, true, false, cond, eqb, List, [], ◌∷◌, ◌++◌, length, Option, Some, None, is_some, Result, Ok, Err, OnOk, refl, sym, ◌∙◌, ap, subst, arith, inl, inr}
use Rattle.std.proofs.lemmas.Bool.{eqb-true, eq-eqb, ne_eqb, true≢false}
use Rattle.std.specs.List.{AllByRecursion}
use Rattle.sat_base.specs.values.Literals.{mk_lit}
use Rattle.sat_base.specs.values.Clauses.{Valuation, flipped}
use Rattle.sat_base.specs.steps.Steps.{Step, DeleteVar}
use Rattle.sat_checker.specs.Fold.{Holds}
use Rattle.sat_checker.specs.LiteralSets.{mentions}
use Rattle.sat_store.specs.variables.Maps.{AreInverse, target}
use Rattle.sat_solver.specs.session.Session.{Session, session_after}
use Rattle.sat_solver.specs.variables.Variables.{global_at, user_of, solver_of, is_unit_value}
use Rattle.sat_solver.specs.variables.Naming.{StoresIndex, KeepsOthers, VariablesAreKeptOrNew}
use Rattle.sat_solver.specs.variables.Search.{KeepsSearch, KeepsUnits, KeepsWhatSearchSees, AgreesWithAdmitted, KeepsSearchUpToUnits, ForgetsUnits, IsGiven, IndicesDistinct, HasGiven, GivesIndices}
use Rattle.sat_solver.specs.declared.variables.solver_vars.Given.{Given}
use Rattle.sat_solver.specs.declared.variables.Variables.{Variables}
use Rattle.sat_solver.proofs.lemmas.variables.Extending.{fresh_only}
use Rattle.sat_base.proofs.lemmas.script.LiteralValues.{all_map, coded_half}

none_some : {x : ℕ} {o : Option ℕ} → o ≡ None → o ≡ Some x → ⊥
none_some e f = cc

none_where : (o : Option ℕ) → ((x : ℕ) → o ≡ Some x → ⊥) → o ≡ None
none_where None f = refl
none_where (Some x) f = absurd (f x refl)

pub keeps_same : (s : Session) → KeepsSearch s s
keeps_same s = record { live = refl; units = refl; unsat = refl; width = refl; assumed = refl }

pub keeps_both : (a b c : Session) → KeepsSearch a b → KeepsSearch b c → KeepsSearch a c
keeps_both a b c x y = record { live = y.live ∙ x.live; units = y.units ∙ x.units; unsat = y.unsat ∙ x.unsat; width = y.width ∙ x.width; assumed = y.assumed ∙ x.assumed }

pub unseen_same : (n : Variables) (steps : List Step) → KeepsWhatSearchSees n n steps steps
unseen_same n steps = record { solvers = refl; globals = refl; search = keeps_same (session_after steps); leaves = λ a h. h }

pub unseen_both : (a b c : Variables) (from mids to : List Step) → KeepsWhatSearchSees a b from mids → KeepsWhatSearchSees b c mids to → KeepsWhatSearchSees a c from to
unseen_both a b c from mids to x y = record { solvers = y.solvers ∙ x.solvers; globals = y.globals ∙ x.globals; search = keeps_both (session_after from) (session_after mids) (session_after to) x.search y.search; leaves = λ a h. x.leaves a (y.leaves a h) }

pub gives_none : (n : Variables) (s : Session) → GivesIndices n n s []
gives_none n s = record { stays = λ v x e. e; each = tt; apart = tt; others = λ v x e. inl e; used = omega arith }

-- a call that changes no index
pub gives_unseen : (a b c : Variables) (s : Session) (gs : List Given) → GivesIndices a b s gs → c.solver_from_global ≡ b.solver_from_global → GivesIndices a c s gs
gives_unseen a b c s gs g e = record {
  stays = λ v x f. ap (λ m. target m.fwd v) e ∙ g.stays v x f;
  each = all_map (IsGiven a b s) (IsGiven a c s) gs (λ h i. record { variable = i.variable; without = i.without; free = i.free; taken = ap (λ m. target m.bwd h.solver) e ∙ i.taken; unit = i.unit }) g.each;
  apart = g.apart;
  others = λ v x f. g.others v x (sym (ap (λ m. target m.fwd v) e) ∙ f);
  used = let n = ap (λ m. length m.bwd) e in let u = g.used in omega arith;
}

all_both : (P : Given → Type 0) (xs ys : List Given) → AllByRecursion P xs → AllByRecursion P ys → AllByRecursion P (xs ++ ys)
all_both P [] ys h k = k
all_both P (x ∷ xs) ys h k = (h.0, all_both P xs ys h.1 k)

has_left : (xs ys : List Given) (x : ℕ) → HasGiven xs x → HasGiven (xs ++ ys) x
has_left [] ys x h = absurd h
has_left (g ∷ gs) ys x (inl e) = inl e
has_left (g ∷ gs) ys x (inr h) = inr (has_left gs ys x h)

has_right : (xs ys : List Given) (x : ℕ) → HasGiven ys x → HasGiven (xs ++ ys) x
has_right [] ys x h = h
has_right (g ∷ gs) ys x h = inr (has_right gs ys x h)

pub gives_both : (a b c : Variables) (s t : Session) (xs ys : List Given) → AreInverse a.solver_from_global → AreInverse b.solver_from_global → AreInverse c.solver_from_global → t.units ≡ s.units → GivesIndices a b s xs → GivesIndices b c t ys → GivesIndices a c s (xs ++ ys)
gives_both a b c s t xs ys ia ib ic units one two = record {
  stays = λ v x e. two.stays v x (one.stays v x e);
  each = all_both (IsGiven a c s) xs ys
      (all_map (IsGiven a b s) (IsGiven a c s) xs (λ g i. record { variable = i.variable; without = i.without; free = i.free; taken = ic.back i.variable g.solver (two.stays i.variable g.solver (ib.forth i.variable g.solver i.taken)); unit = i.unit }) one.each)
      (all_map (IsGiven b c t) (IsGiven a c s) ys (λ g i. record { variable = i.variable; without = earlier i.variable i.without; free = free g.solver i.free; taken = i.taken; unit = λ d. sym (ap (λ u. u (mk_lit i.variable d)) units) ∙ i.unit d }) two.each);
  apart = apart xs one.each one.apart;
  others = λ v x e. elim (two.others v x e) [
    | inl f ↦ elim (one.others v x f) [ inl k ↦ inl k | inr h ↦ inr (has_left xs ys x h) ]
    | inr h ↦ inr (has_right xs ys x h)
  ];
  used = let u = one.used in let w = two.used in omega arith;
}
  where
    earlier : (v : ℕ) → solver_of b v ≡ None → solver_of a v ≡ None
    earlier v e = none_where (solver_of a v) (λ x f. none_some e (one.stays v x f))

    free : (x : ℕ) → global_at b x ≡ None → global_at a x ≡ None
    free x e = none_where (global_at a x) (λ v f. none_some e (ib.back v x (one.stays v x (ia.forth v x f))))

    apart : (gs : List Given) → AllByRecursion (IsGiven a b s) gs → IndicesDistinct gs → IndicesDistinct (gs ++ ys)
    apart [] i h = two.apart
    apart (g ∷ gs) i h = (all_both (λ k. k.solver ≢ g.solver) gs ys h.0 (all_map (IsGiven b c t) (λ k. k.solver ≢ g.solver) ys (λ k j same. none_some j.free (ap (global_at b) same ∙ i.0.taken)) two.each), apart gs i.1 h.1)

-- one index is given
pub gives_one : (old new : Variables) (s : Session) (v : ℕ) (g : Given) → solver_of old v ≡ None → global_at old g.solver ≡ None → StoresIndex old new v g.solver true → ((b : Bool) → s.units (mk_lit v b) ≡ is_unit_value g.unit b) → GivesIndices old new s (g ∷ [])
gives_one old new s v g without free put unit = record {
  stays = stays;
  each = (record { variable = v; without = without; free = free; taken = put.globals g.solver ∙ ap (λ b. cond b (Some v) (global_at old g.solver)) (eq-eqb g.solver g.solver refl); unit = unit }, tt);
  apart = (tt, tt);
  others = others;
  used = let u = put.used in omega arith;
}
  where
    stays : (w y : ℕ) → solver_of old w ≡ Some y → solver_of new w ≡ Some y
    stays w y e = go (eqb w v) refl (put.solvers w)
      where
        go : (b : Bool) → eqb w v ≡ b → solver_of new w ≡ cond b (Some g.solver) (solver_of old w) → solver_of new w ≡ Some y
        go true t f = absurd (none_some (ap (solver_of old) (eqb-true w v t) ∙ without) e)
        go false t f = f ∙ e

    others : (w y : ℕ) → solver_of new w ≡ Some y → (solver_of old w ≡ Some y) ⊎ HasGiven (g ∷ []) y
    others w y e = go (eqb w v) (put.solvers w)
      where
        go : (b : Bool) → solver_of new w ≡ cond b (Some g.solver) (solver_of old w) → (solver_of old w ≡ Some y) ⊎ HasGiven (g ∷ []) y
        go true f = inr (inl (one (sym f ∙ e)))
          where
            one : {p q : ℕ} → Some p ≡ Some q → p ≡ q
            one h = cc
        go false f = inl (sym f ∙ e)

pub ok_unseen : {A E : Type 0} (r : Result A E) (a b c : Variables) (from mids to : List Step) → KeepsWhatSearchSees a b from mids → OnOk r (KeepsWhatSearchSees b c mids to) → OnOk r (KeepsWhatSearchSees a c from to)
ok_unseen (Ok x) a b c from mids to one two = unseen_both a b c from mids to one two
ok_unseen (Err x) a b c from mids to one two = tt

pub alike_unseen : (a b : Variables) (from to : List Step) → KeepsWhatSearchSees a b from to → KeepsSearchUpToUnits a b from to
alike_unseen a b from to u = record { solvers = u.solvers; globals = u.globals; live = u.search.live; units = λ v x d e. ap (λ f. f (mk_lit v d)) u.search.units; unsat = u.search.unsat; width = u.search.width; assumed = u.search.assumed; leaves = λ a h. (a, u.leaves a h, λ v t. refl) }

pub alike_both : (a b c : Variables) (from mids to : List Step) → KeepsSearchUpToUnits a b from mids → KeepsSearchUpToUnits b c mids to → KeepsSearchUpToUnits a c from to
alike_both a b c from mids to x y = record {
  solvers = y.solvers ∙ x.solvers;
  globals = y.globals ∙ x.globals;
  live = y.live ∙ x.live;
  units = λ v z d e. y.units v z d (ap (λ m. target m.fwd v) x.solvers ∙ e) ∙ x.units v z d e;
  unsat = y.unsat ∙ x.unsat;
  width = y.width ∙ x.width;
  assumed = y.assumed ∙ x.assumed;
  leaves = λ w h.
      let m = y.leaves w h in
      let l = x.leaves m.0 m.1 in
      (l.0, l.1, λ v t. l.2 v t ∙ m.2 v (ap (λ ls. mentions ls v) x.assumed ∙ t));
}

-- a variable that wasn't assumed was deleted, which the search does not see
pub alike_forgets : (a b : Variables) (from to : List Step) (v : ℕ) → b.solver_from_global ≡ a.solver_from_global → b.globals ≡ a.globals → solver_of a v ≡ None → to ≡ DeleteVar v ∷ from → mentions (session_after from).assumed v ≡ false →
    ForgetsUnits (session_after from) (session_after to) v → KeepsSearchUpToUnits a b from to
alike_forgets a b from to v solvers globals none step unmarked f = record {
  solvers = solvers;
  globals = globals;
  live = f.live;
  units = λ w x d e. f.units (mk_lit w d) ∙ ap (λ k. (session_after from).units (mk_lit w d) && not (eqb k v)) (coded_half w d) ∙ ap (λ t. (session_after from).units (mk_lit w d) && not t) (ne_eqb w v (λ q. none_some (ap (solver_of a) q ∙ none) e)) ∙ and_true ((session_after from).units (mk_lit w d));
  unsat = f.unsat;
  width = f.width;
  assumed = f.assumed;
  leaves = λ w h. left w (subst (λ ss. Holds ss w) step h);
}
  where
    left : (w : Valuation) → Holds from w ⊎ Holds from (flipped v w) → AgreesWithAdmitted from (session_after from).assumed w
    left w (inl h) = (w, h, λ u t. refl)
    left w (inr h) = (flipped v w, h, λ u t. ap (λ q. cond q (not (w u)) (w u)) (ne_eqb u v (λ e. true≢false (sym t ∙ ap (mentions (session_after from).assumed) e ∙ unmarked))))

    and_true : (b : Bool) → (b && true) ≡ b
    and_true true = refl
    and_true false = refl

pub ok_alike : {A E : Type 0} (r : Result A E) (a b c : Variables) (from mids to : List Step) → KeepsSearchUpToUnits a b from mids → OnOk r (KeepsSearchUpToUnits b c mids to) → OnOk r (KeepsSearchUpToUnits a c from to)
ok_alike (Ok x) a b c from mids to one two = alike_both a b c from mids to one two
ok_alike (Err x) a b c from mids to one two = tt

-- a call that changes no unit, followed by one that preserves the units of names
pub ok_units : {A E : Type 0} (r : Result A E) (c : Variables) (from mids to : List Step) → KeepsSearch (session_after from) (session_after mids) → OnOk r (KeepsUnits c mids to) → OnOk r (KeepsUnits c from to)
ok_units (Ok x) c from mids to one two = λ u v b e. two u v b e ∙ ap (λ f. f (mk_lit v b)) one.units
ok_units (Err x) c from mids to one two = tt

-- only the units of a variable without a name are forgotten
pub units_forgotten : (a b : Variables) (from to : List Step) (v : ℕ) → AreInverse a.global_from_user → user_of a v ≡ None → b.global_from_user ≡ a.global_from_user → ForgetsUnits (session_after from) (session_after to) v → KeepsUnits b from to
units_forgotten a b from to v inverse none users f u w d e =
    let named : user_of a w ≡ Some u = inverse.back u w (sym (ap (λ m. target m.fwd u) users) ∙ e) in
    f.units (mk_lit w d) ∙ ap (λ k. (session_after from).units (mk_lit w d) && not (eqb k v)) (coded_half w d) ∙ ap (λ t. (session_after from).units (mk_lit w d) && not t) (ne_eqb w v (λ q. none_some (ap (user_of a) q ∙ none) named)) ∙ and_true ((session_after from).units (mk_lit w d))
  where
    and_true : (t : Bool) → (t && true) ≡ t
    and_true true = refl
    and_true false = refl

-- a call that introduces names, followed by one that changes none
pub ok_fresh : {A E : Type 0} (r : Result A E) (a b c : Variables) → VariablesAreKeptOrNew a b → OnOk r (c.global_from_user ≡ b.global_from_user) → OnOk r (VariablesAreKeptOrNew a c)
ok_fresh (Ok x) a b c fresh e = fresh_only a b c fresh (λ u v f. sym (ap (λ m. target m.fwd u) e) ∙ f)
ok_fresh (Err x) a b c fresh e = tt

-- the same for names that keep their variables
pub ok_others : {A E : Type 0} (r : Result A E) (a b c : Variables) (user : ℕ) → KeepsOthers a b user → OnOk r (c.global_from_user ≡ b.global_from_user) → OnOk r (KeepsOthers a c user)
ok_others (Ok x) a b c user keeps e = λ u v n named. ap (λ m. target m.fwd u) e ∙ keeps u v n named
ok_others (Err x) a b c user keeps e = tt

pub none_test : (o : Option ℕ) (b : Bool) → b ≡ is_some o → b ≡ false → o ≡ None
none_test None b e f = refl
none_test (Some x) b e f = absurd (true≢false (sym e ∙ f))

pub some_test : (o : Option ℕ) (b : Bool) → b ≡ is_some o → b ≡ true → o ≢ None
some_test None b e f = absurd (true≢false (sym f ∙ e))
some_test (Some x) b e f = λ g. cc
