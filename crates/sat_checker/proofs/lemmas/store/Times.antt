-- How often a literal occurs in the rest of a list, and its count in a table.
use Rattle.std.proofs.Common.{ℕ, ◌+◌, ◌-◌, ◌<◌, ◌≤◌, ◌^◌, ◌≡◌, Bool, true, false, cond, eqb, List, length, drop, get_or, refl, sym, subst, ◌∙◌, ap, arith}
use Rattle.std.proofs.lemmas.Bool.{eq-eqb, eqb-true, eqb-false}
use Rattle.std.proofs.lemmas.List.{drop_more, get_or_default}
use Rattle.sat_base.specs.declared.table.Table.{Table}
use Rattle.sat_base.specs.values.Tables.{value_at, HasPlaceFor}
use Rattle.sat_base.proofs.lemmas.values.TableLemmas.{has_room}
use Rattle.sat_checker.proofs.lemmas.store.Places.{eqb_comm}
use Rattle.sat_checker.specs.inner.OccurrenceView.{times_in}

-- the next literal occurs in the rest
pub still_left : (ls : List ℕ) (i x : ℕ) → i < length ls → x ≡ get_or ls i x → 1 ≤ times_in x (drop i ls)
still_left ls i x k e =
    let here : times_in x (drop i ls) ≡ cond (eqb (get_or ls i x) x) 1 0 + times_in x (drop (i + 1) ls) = ap (times_in x) (drop_more ls i x k) in
    let one : ℕ = 1 in
    let is : cond (eqb (get_or ls i x) x) 1 0 ≡ one = ap (λ b. cond b 1 0) (eq-eqb _ _ (sym e)) in
    omega (arith, here, is)

-- the rest is the next literal and those after it
pub next_times : (ls : List ℕ) (i x : ℕ) → i < length ls → x ≡ get_or ls i x → (k : ℕ) → times_in k (drop i ls) ≡ cond (eqb k x) 1 0 + times_in k (drop (i + 1) ls)
next_times ls i x h e k =
    ap (times_in k) (drop_more ls i x h) ∙ ap (λ y. cond (eqb y k) 1 0 + times_in k (drop (i + 1) ls)) (sym e) ∙ ap (λ b. cond b 1 0 + times_in k (drop (i + 1) ls)) (eqb_comm x k)

-- a literal with a count above 0 has a place in the table
pub some_room : (t : Table ℕ) (x : ℕ) → 0 < value_at 0 t x → HasPlaceFor t x
some_room t x h = has_room 0 t x (λ e. omega (arith, h, e))

-- after a count is increased or decreased by 1
module _ (t new : Table ℕ) (p x c : ℕ) (is : p ≡ x) (read : c ≡ value_at 0 t x) where
  pub one_more : ((v : ℕ) → value_at 0 new v ≡ cond (eqb v p) (c + 1) (value_at 0 t v)) → (v : ℕ) → value_at 0 new v ≡ cond (eqb v x) 1 0 + value_at 0 t v
  one_more set v = subst (λ q. value_at 0 new v ≡ cond (eqb v q) (c + 1) (value_at 0 t v)) is (set v) ∙ go (eqb v x) refl
    where
      go : (b : Bool) → eqb v x ≡ b → cond b (c + 1) (value_at 0 t v) ≡ cond b 1 0 + value_at 0 t v
      go true e = let here = ap (value_at 0 t) (eqb-true v x e) in omega (arith, here, read)
      go false e = omega arith

  pub one_less : 0 < value_at 0 t x → ((v : ℕ) → value_at 0 new v ≡ cond (eqb v p) (c - 1) (value_at 0 t v)) → (v : ℕ) → cond (eqb v x) 1 0 + value_at 0 new v ≡ value_at 0 t v
  one_less some set v = go (eqb v x) refl (subst (λ q. value_at 0 new v ≡ cond (eqb v q) (c - 1) (value_at 0 t v)) is (set v))
    where
      go : (b : Bool) → eqb v x ≡ b → value_at 0 new v ≡ cond b (c - 1) (value_at 0 t v) → cond b 1 0 + value_at 0 new v ≡ value_at 0 t v
      go true e n = let here = ap (value_at 0 t) (eqb-true v x e) in omega (arith, here, read, n, some)
      go false e n = omega (arith, n)

-- all literals up to the next one have a place in the table
pub room_next : (old new : Table ℕ) (ls : List ℕ) (i x : ℕ) → i < length ls → x ≡ get_or ls i x → ((j d : ℕ) → j < i → HasPlaceFor old (get_or ls j d)) → ((k : ℕ) → HasPlaceFor old k → HasPlaceFor new k) → HasPlaceFor new x
    → (j d : ℕ) → j < i + 1 → HasPlaceFor new (get_or ls j d)
room_next old new ls i x inside is before others room j d h = go (eqb j i) refl
  where
    go : (b : Bool) → eqb j i ≡ b → HasPlaceFor new (get_or ls j d)
    go true e = subst (λ k. HasPlaceFor new (get_or ls k d)) (sym (eqb-true j i e)) (subst (HasPlaceFor new) (is ∙ get_or_default ls i x d inside) room)
    go false e = let other = eqb-false j i e in others (get_or ls j d) (before j d (omega (arith, h, other)))

pub fits_more : (r now left old all : ℕ) → r ≡ now → 1 ≤ left → now + left ≡ old + all → old + all < 2 ^ 64 → r + 1 < 2 ^ 64
fits_more r now left old all e l h f = omega (arith, e, l, h, f)

pub still_counted : (now all old left : ℕ) → now + all ≡ old + left → all ≤ old → 1 ≤ left → 1 ≤ now
still_counted now all old left e l h = omega (arith, e, l, h)
