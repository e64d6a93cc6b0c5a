-- What stays the same while names are introduced.
use Rattle.std.proofs.Common.{ℕ, ◌≡◌, ◌≢◌, Bool, true, false, cond, eqb, Option, Some, None, get_or, refl, sym, ◌∙◌, ap}
use Rattle.std.proofs.lemmas.Bool.{eqb-true, eq-eqb, ne_eqb, true≢false}
use Rattle.sat_store.specs.declared.data.SamplingMode.TheVariants as kept
use Rattle.sat_store.specs.variables.VarData.{user_variable, unused_variable}
use Rattle.sat_store.specs.variables.Maps.{target}
use Rattle.sat_solver.specs.variables.Variables.{data_at, global_of, VariablesInvariant}
use Rattle.sat_solver.specs.variables.Naming.{IsVariableForName, StoresName, ExtendsNames, VariablesAreKeptOrNew}
use Rattle.sat_solver.specs.declared.variables.Variables.{Variables}

none_some : {x : ℕ} {o : Option ℕ} → o ≡ None → o ≡ Some x → ⊥
none_some e f = cc

some_same : {x y : ℕ} {o : Option ℕ} → o ≡ Some x → o ≡ Some y → x ≡ y
some_same e f = cc

pub extends_same : (n : Variables) → ExtendsNames n n
extends_same n = record { stays = λ u v e. (e, refl); came = λ u v e f. absurd (none_some e f); fresh = λ u v e f. absurd (none_some e f); lives = λ v d. d }

pub extends_both : (a b c : Variables) → ExtendsNames a b → ExtendsNames b c → ExtendsNames a c
extends_both a b c one two = record {
  stays = λ u v e. let x = one.stays u v e in let y = two.stays u v x.0 in (y.0, y.1 ∙ x.1);
  came = λ u v e f. go u v e f (global_of b u) refl;
  fresh = λ u v e f. new u v e f (global_of b u) refl;
  lives = λ v d. two.lives v (one.lives v d);
}
  where
    was : (v : ℕ) (d : Bool) → (data_at a v).deleted ≡ d → (data_at b v).deleted ≡ true → d ≡ true
    was v true x gone = refl
    was v false x gone = absurd (true≢false (sym gone ∙ one.lives v x))

    new : (u v : ℕ) → global_of a u ≡ None → global_of c u ≡ Some v → (o : Option ℕ) → global_of b u ≡ o → (data_at a v).deleted ≡ true
    new u v e f None x = was v (data_at a v).deleted refl (two.fresh u v x f)
    new u v e f (Some w) x = (let same : w ≡ v = some_same (two.stays u w x).0 f in ap (λ k. (data_at a k).deleted) (sym same) ∙ one.fresh u w e x)

    go : (u v : ℕ) → global_of a u ≡ None → global_of c u ≡ Some v → (o : Option ℕ) → global_of b u ≡ o → (data_at c v).sampling_mode ≡ kept.Sample
    go u v e f None x = two.came u v x f
    go u v e f (Some w) x =
        let y = two.stays u w x in
        let same : w ≡ v = some_same y.0 f in
        ap (λ k. (data_at c k).sampling_mode) (sym same) ∙ y.1 ∙ one.came u w e x

-- maps of names and data are unchanged
pub extends_kept : (old new : Variables) → new.global_from_user ≡ old.global_from_user → new.var_data ≡ old.var_data → ExtendsNames old new
extends_kept old new users items = record {
  stays = λ u v e. (ap (λ m. target m.fwd u) users ∙ e, ap (λ d. (get_or d.items v unused_variable).sampling_mode) items);
  came = λ u v e f. absurd (none_some e (sym (ap (λ m. target m.fwd u) users) ∙ f));
  fresh = λ u v e f. absurd (none_some e (sym (ap (λ m. target m.fwd u) users) ∙ f));
  lives = λ v d. ap (λ x. (get_or x.items v unused_variable).deleted) items ∙ d;
}

-- names in use keep their variables, and new names get unused ones
pub are_fresh : (old new : Variables) → ExtendsNames old new → VariablesAreKeptOrNew old new
are_fresh old new x = record { same = λ u v w e f. some_same f (x.stays u v e).0; fresh = x.fresh }

-- the same if a later call only removes names
pub fresh_only : (old mid new : Variables) → VariablesAreKeptOrNew old mid → ((u v : ℕ) → global_of new u ≡ Some v → global_of mid u ≡ Some v) → VariablesAreKeptOrNew old new
fresh_only old mid new x only = record { same = λ u v w e f. x.same u v w e (only u w f); fresh = λ u v e f. x.fresh u v e (only u v f) }

pub extends_named : (old new : Variables) (user v : ℕ) → VariablesInvariant old → IsVariableForName old user v → global_of old user ≡ None → StoresName old new user v → ExtendsNames old new
extends_named old new user v tidy room free put = record { stays = stays; came = came; fresh = fresh; lives = lives }
  where
    fresh : (u w : ℕ) → global_of old u ≡ None → global_of new u ≡ Some w → (data_at old w).deleted ≡ true
    fresh u w e f = go (eqb u user) (put.users.fwd u)
      where
        go : (b : Bool) → global_of new u ≡ cond b (Some v) (global_of old u) → (data_at old w).deleted ≡ true
        go true x = (let same : w ≡ v = some_same f x in ap (λ k. (data_at old k).deleted) same ∙ room.unused)
        go false x = absurd (none_some e (sym x ∙ f))

    lives : (w : ℕ) → (data_at old w).deleted ≡ false → (data_at new w).deleted ≡ false
    lives w d = go (eqb w v) (put.kept w)
      where
        go : (b : Bool) → data_at new w ≡ cond b user_variable (data_at old w) → (data_at new w).deleted ≡ false
        go true x = ap (λ k. k.deleted) x
        go false x = ap (λ k. k.deleted) x ∙ d

    stays : (u w : ℕ) → global_of old u ≡ Some w → (global_of new u ≡ Some w) × ((data_at new w).sampling_mode ≡ (data_at old w).sampling_mode)
    stays u w e = (named (eqb u user) refl (put.users.fwd u), ap (λ d. d.sampling_mode) (put.kept w ∙ ap (λ b. cond b user_variable (data_at old w)) (ne_eqb w v differ)))
      where
        differ : w ≢ v
        differ q = true≢false (sym room.unused ∙ ap (λ k. (data_at old k).deleted) (sym q) ∙ tidy.named w u (tidy.users.back u w e))

        named : (b : Bool) → eqb u user ≡ b → global_of new u ≡ cond b (Some v) (global_of old u) → global_of new u ≡ Some w
        named true t x = absurd (none_some (ap (global_of old) (eqb-true u user t) ∙ free) e)
        named false t x = x ∙ e

    came : (u w : ℕ) → global_of old u ≡ None → global_of new u ≡ Some w → (data_at new w).sampling_mode ≡ kept.Sample
    came u w e f = go (eqb u user) (put.users.fwd u)
      where
        go : (b : Bool) → global_of new u ≡ cond b (Some v) (global_of old u) → (data_at new w).sampling_mode ≡ kept.Sample
        go true x =
            let same : w ≡ v = some_same f x in
            ap (λ d. d.sampling_mode) (put.kept w ∙ ap (λ b. cond b user_variable (data_at old w)) (eq-eqb w v same))
        go false x = absurd (none_some e (sym x ∙ f))
