-- Values of tables under a function; a place with a value other than the default has room.
use Rattle.std.proofs.Common.{ℕ, ◌≡◌, ◌≢◌, ◌∙◌, Bool, true, false, cond, eqb, Option, Some, None, ltb, refl, ap, subst, inl, inr}
use Rattle.std.specs.Option.{IsSome}
use Rattle.std.specs.Ordering.{nat_cmp}
use Rattle.std.specs.BTreeMap.{get}
use Rattle.std.specs.Prelude.{slice_index_or}
use Rattle.std.proofs.lemmas.Bool.{ltb-true}
use Rattle.sat_base.specs.declared.table.Table.{Table}
use Rattle.sat_base.specs.values.Tables.{near_count, value_or, value_at, HasPlaceFor}

pub has_room : {T : Type 0} (missing : T) (t : Table T) (v : ℕ) → value_at missing t v ≢ missing → HasPlaceFor t v
has_room {T} missing t v h = near (ltb v (near_count t)) refl h
  where
    there : (o : Option T) → value_or o missing ≢ missing → IsSome o
    there (Some x) h = refl
    there None h = absurd (h refl)

    near : (b : Bool) → ltb v (near_count t) ≡ b → cond b (slice_index_or t.near.items v missing) (value_or (get nat_cmp t.far v) missing) ≢ missing → HasPlaceFor t v
    near true e h = inl (ltb-true v (near_count t) e)
    near false e h = inr (there (get nat_cmp t.far v) h)

-- a value that is read, with equal arguments
pub value_read : {T X : Type 0} (f : T → X) (t : Table T) (m n r : T) (p q : ℕ) → r ≡ value_at m t p → m ≡ n → p ≡ q → f r ≡ f (value_at n t q)
value_read f t m n r p q e d h = ap f e ∙ ap (λ k. f (value_at k t p)) d ∙ ap (λ v. f (value_at n t v)) h

-- a value that is set, with equal arguments
pub value_set : {T X : Type 0} (f : T → X) (old new : Table T) (m n x : T) (p q : ℕ) → m ≡ n → p ≡ q → ((v : ℕ) → value_at m new v ≡ cond (eqb v p) x (value_at m old v))
    → (v : ℕ) → f (value_at n new v) ≡ cond (eqb v q) (f x) (f (value_at n old v))
value_set f old new m n x p q d h e v =
    ap f (subst (λ k. value_at n new v ≡ cond (eqb v k) x (value_at n old v)) h (subst (λ k. value_at k new v ≡ cond (eqb v p) x (value_at k old v)) d (e v))) ∙ go (eqb v q)
  where
    go : (b : Bool) → f (cond b x (value_at n old v)) ≡ cond b (f x) (f (value_at n old v))
    go true = refl
    go false = refl
