-- What the code stores about variables.
use Rattle.std.proofs.Common.{ℕ, zero, suc, arith, take, ◌+◌, ◌<◌, ◌≡◌, Bool, true, false, not, ◌||◌, cond, eqb, List, [], ◌∷◌, length, drop, get_or, map, Option, Some, None, is_some, refl, sym, ◌∙◌, ap, subst, ◌⊎◌, inl, inr}
use Rattle.std.proofs.lemmas.Bool.{true≢false, eqb-true, eqb-false}
use Rattle.std.proofs.lemmas.List.{drop_more}
use Rattle.std.specs.Bool.{MatchBool}
use Rattle.std.specs.List.{AllByRecursion}
use Rattle.sat_base.specs.values.Literals.{variable}
use Rattle.sat_checker.specs.LiteralSets.{is_among}
use Rattle.sat_checker.specs.Stored.{Stored, Variable, Hide}
use Rattle.sat_checker.specs.Accepts.{CanGetName}
use Rattle.sat_checker.specs.inner.VariablesView.{known_if, mode_in, variable_of_data, variable_at, holder_at, StoresVariables, HasDataRoom, HaveDataRoom}
use Rattle.sat_checker.specs.declared.variables.Variables.{Variables}
use Rattle.sat_checker.specs.declared.variables.VarData.{VarData}

eqb_comm : (x y : ℕ) → eqb x y ≡ eqb y x
eqb_comm x y = go (eqb x y) refl (eqb y x) refl
  where
    go : (b : Bool) → eqb x y ≡ b → (d : Bool) → eqb y x ≡ d → b ≡ d
    go true e true f = refl
    go false e false f = refl
    go true e false f = absurd (eqb-false y x f (sym (eqb-true x y e)))
    go false e true f = absurd (eqb-false x y e (sym (eqb-true y x f)))

twice : (b d : Bool) (x : Variable) → known_if d (known_if b x) ≡ known_if (b || d) x
twice true true x = refl
twice true false x = refl
twice false d x = refl

-- the variable of the next literal becomes known
pub known_next : (ls : List ℕ) (i v w d : ℕ) (x y : Variable) → i < length ls → w ≡ variable (get_or ls i d) → y ≡ known_if (eqb v w) x → known_if (is_among (map variable (drop i ls)) v) x ≡ known_if (is_among (map variable (drop (i + 1) ls)) v) y
known_next ls i v w d x y l e k =
    ap (λ ms. known_if (is_among (map variable ms) v) x) (drop_more ls i d l)
    ∙ ap (λ n. known_if (eqb n v || is_among (map variable (drop (i + 1) ls)) v) x) (sym e)
    ∙ ap (λ b. known_if (b || is_among (map variable (drop (i + 1) ls)) v) x) (eqb_comm w v)
    ∙ sym (twice (eqb v w) (is_among (map variable (drop (i + 1) ls)) v) x) ∙ ap (known_if (is_among (map variable (drop (i + 1) ls)) v)) (sym k)

-- when a variable may get a name: no variable has the name, and the variable has none and is not hidden
module _ (vs : Variables) (f : Stored) (k : StoresVariables vs f.variables) (v name : ℕ) where
  pub refused_taken : (o : Option ℕ) → o ≡ holder_at vs name → is_some o ≡ true → CanGetName f v name → ⊥
  refused_taken None e s h = true≢false (sym s)
  refused_taken (Some w) e s h = h.free w ((k.holders name w).0 (sym e))

  pub refused_named : (d : VarData) → variable_of_data d ≡ variable_at vs v → is_some d.name ≡ true → CanGetName f v name → ⊥
  refused_named d e s h = named d.name refl s
    where
      none : d.name ≡ None
      none = ap (λ (x : Variable). x.name) (e ∙ k.each v) ∙ h.nameless

      named : (o : Option ℕ) → d.name ≡ o → is_some o ≡ true → ⊥
      named None q s = true≢false (sym s)
      named (Some n) q s = let z : None ≡ Some n = sym none ∙ q in absurd (cc)

  pub refused_hidden : (d : VarData) → variable_of_data d ≡ variable_at vs v → mode_in d.mode ≡ Hide → CanGetName f v name → ⊥
  refused_hidden d e s h = h.not_hidden (ap (λ (x : Variable). x.mode) (sym (k.each v) ∙ sym e) ∙ s)

  pub may_get : (o : Option ℕ) (d : VarData) → o ≡ holder_at vs name → is_some o ≡ false → variable_of_data d ≡ variable_at vs v → is_some d.name ≡ false → (mode_in d.mode ≡ Hide → ⊥) → CanGetName f v name
  may_get o d e s q n m = record {
    free = λ w t. taken o e s w ((k.holders name w).1 t);
    nameless = sym (ap (λ (x : Variable). x.name) (k.each v)) ∙ sym (ap (λ (x : Variable). x.name) q) ∙ unnamed d.name n;
    not_hidden = λ t. m (ap (λ (x : Variable). x.mode) (q ∙ k.each v) ∙ t);
  }
    where
      taken : (o : Option ℕ) → o ≡ holder_at vs name → is_some o ≡ false → (w : ℕ) → holder_at vs name ≡ Some w → ⊥
      taken None e s w t = let z : None ≡ Some w = e ∙ t in absurd (cc)
      taken (Some x) e s w t = true≢false s

      unnamed : (o : Option ℕ) → is_some o ≡ false → o ≡ None
      unnamed None s = refl
      unnamed (Some x) s = absurd (true≢false s)

-- a variable gets a name
pub named_kept : (vs two : Variables) (g : ℕ → Variable) (v name : ℕ) (x : Variable) → StoresVariables vs g → x.name ≡ Some name → (g v).name ≡ None → ((w : ℕ) → (g w).name ≡ Some name → ⊥)
    → ((w : ℕ) → variable_at two w ≡ cond (eqb w v) x (variable_at vs w)) → ((n : ℕ) → holder_at two n ≡ cond (eqb n name) (Some v) (holder_at vs n))
    → StoresVariables two (λ w. cond (eqb w v) x (g w))
named_kept vs two g v name x k xn gn free e h = record {
  each = λ w. e w ∙ ap (λ y. cond (eqb w v) x y) (k.each w);
  holders = λ n w. (by_two n w (eqb n name) refl (eqb w v) refl, back n w (eqb n name) refl (eqb w v) refl);
}
  where
    some_same : (a b : ℕ) → Some a ≡ Some b → a ≡ b
    some_same a b q = cc

    by_two : (n w : ℕ) (b : Bool) → eqb n name ≡ b → (d : Bool) → eqb w v ≡ d → holder_at two n ≡ Some w → (cond d x (g w)).name ≡ Some n
    by_two n w true a true c t = xn ∙ ap Some (sym (eqb-true n name a))
    by_two n w true a false c t =
        let q : Some v ≡ Some w = sym (ap (λ b. cond b (Some v) (holder_at vs n)) a) ∙ sym (h n) ∙ t in
        absurd (eqb-false w v c (sym (some_same v w q)))
    by_two n w false a true c t =
        let q : holder_at vs n ≡ Some w = sym (ap (λ b. cond b (Some v) (holder_at vs n)) a) ∙ sym (h n) ∙ t in
        let z : (g w).name ≡ Some n = (k.holders n w).0 q in
        let y : None ≡ Some n = sym (ap (λ m. (g m).name) (eqb-true w v c) ∙ gn) ∙ z in absurd (cc)
    by_two n w false a false c t = (k.holders n w).0 (sym (ap (λ b. cond b (Some v) (holder_at vs n)) a) ∙ sym (h n) ∙ t)

    back : (n w : ℕ) (b : Bool) → eqb n name ≡ b → (d : Bool) → eqb w v ≡ d → (cond d x (g w)).name ≡ Some n → holder_at two n ≡ Some w
    back n w true a true c t = h n ∙ ap (λ b. cond b (Some v) (holder_at vs n)) a ∙ ap Some (sym (eqb-true w v c))
    back n w true a false c t = absurd (free w (t ∙ ap Some (eqb-true n name a)))
    back n w false a true c t = absurd (eqb-false n name a (sym (some_same name n (sym xn ∙ t))))
    back n w false a false c t = h n ∙ ap (λ b. cond b (Some v) (holder_at vs n)) a ∙ (k.holders n w).1 t

pub match_true : (b : Bool) (P Q : Type 0) → MatchBool b P Q → b ≡ true → P
match_true true P Q m e = m
match_true false P Q m e = absurd (true≢false (sym e))

pub match_false : (b : Bool) (P Q : Type 0) → MatchBool b P Q → b ≡ false → Q
match_false true P Q m e = absurd (true≢false e)
match_false false P Q m e = m

-- a variable loses its name
pub unnamed_kept : (vs two : Variables) (g : ℕ → Variable) (v name : ℕ) (x : Variable) → StoresVariables vs g → x.name ≡ None → (g v).name ≡ Some name
    → ((w : ℕ) → variable_at two w ≡ cond (eqb w v) x (variable_at vs w)) → ((n : ℕ) → holder_at two n ≡ cond (eqb n name) None (holder_at vs n))
    → StoresVariables two (λ w. cond (eqb w v) x (g w))
unnamed_kept vs two g v name x k xn gn e h = record {
  each = λ w. e w ∙ ap (λ y. cond (eqb w v) x y) (k.each w);
  holders = λ n w. (by_two n w (eqb n name) refl (eqb w v) refl, back n w (eqb n name) refl (eqb w v) refl);
}
  where
    some_same : (a b : ℕ) → Some a ≡ Some b → a ≡ b
    some_same a b q = cc

    none_some : (a : ℕ) → None ≡ Some a → ⊥
    none_some a q = cc

    by_two : (n w : ℕ) (b : Bool) → eqb n name ≡ b → (d : Bool) → eqb w v ≡ d → holder_at two n ≡ Some w → (cond d x (g w)).name ≡ Some n
    by_two n w true a d c t = absurd (none_some w (sym (ap (λ b. cond b None (holder_at vs n)) a) ∙ sym (h n) ∙ t))
    by_two n w false a true c t =
        let q : holder_at vs n ≡ Some w = sym (ap (λ b. cond b None (holder_at vs n)) a) ∙ sym (h n) ∙ t in
        let z : (g w).name ≡ Some n = (k.holders n w).0 q in
        absurd (eqb-false n name a (some_same n name (sym z ∙ ap (λ m. (g m).name) (eqb-true w v c) ∙ gn)))
    by_two n w false a false c t = (k.holders n w).0 (sym (ap (λ b. cond b None (holder_at vs n)) a) ∙ sym (h n) ∙ t)

    back : (n w : ℕ) (b : Bool) → eqb n name ≡ b → (d : Bool) → eqb w v ≡ d → (cond d x (g w)).name ≡ Some n → holder_at two n ≡ Some w
    back n w b a true c t = absurd (none_some n (sym xn ∙ t))
    back n w true a false c t =
        let one_way : holder_at vs name ≡ Some w = (k.holders name w).1 (t ∙ ap Some (eqb-true n name a)) in
        let other_way : holder_at vs name ≡ Some v = (k.holders name v).1 gn in
        absurd (eqb-false w v c (some_same w v (sym one_way ∙ other_way)))
    back n w false a false c t = h n ∙ ap (λ b. cond b None (holder_at vs n)) a ∙ (k.holders n w).1 t

-- other data of a variable is set, and its name stays the same
pub set_kept : (vs one : Variables) (g : ℕ → Variable) (v : ℕ) (x : Variable) → StoresVariables vs g → x.name ≡ (g v).name
    → ((w : ℕ) → variable_at one w ≡ cond (eqb w v) x (variable_at vs w)) → ((n : ℕ) → holder_at one n ≡ holder_at vs n) → StoresVariables one (λ w. cond (eqb w v) x (g w))
set_kept vs one g v x k xn e h = record {
  each = λ w. e w ∙ ap (λ y. cond (eqb w v) x y) (k.each w);
  holders = λ n w. ((λ t. sym (name_same w (eqb w v) refl) ∙ (k.holders n w).0 (sym (h n) ∙ t)), (λ t. h n ∙ (k.holders n w).1 (name_same w (eqb w v) refl ∙ t)));
}
  where
    name_same : (w : ℕ) (b : Bool) → eqb w v ≡ b → (g w).name ≡ (cond b x (g w)).name
    name_same w true q = ap (λ m. (g m).name) (eqb-true w v q) ∙ sym xn
    name_same w false q = refl

pub all_drop : (P : ℕ → Type 0) (ls : List ℕ) (i d : ℕ) → i < length ls → AllByRecursion P (drop i ls) → P (get_or ls i d) × AllByRecursion P (drop (i + 1) ls)
all_drop P ls i d l h = subst (AllByRecursion P) (drop_more ls i d l) h

pub drop_all : (P : ℕ → Type 0) (ls : List ℕ) (i d : ℕ) → i < length ls → P (get_or ls i d) → AllByRecursion P (drop (i + 1) ls) → AllByRecursion P (drop i ls)
drop_all P ls i d l p h = subst (AllByRecursion P) (sym (drop_more ls i d l)) (p, h)

pub was_true : (b : Bool) → not b ≡ false → b ≡ true
was_true true e = refl
was_true false e = absurd (true≢false e)

pub some_none : (n : ℕ) → Some n ≡ None → ⊥
some_none n e = cc

pub ruleset sampling = (all_drop, drop_all)

known_name : (b : Bool) (x : Variable) → (known_if b x).name ≡ x.name
known_name true x = refl
known_name false x = refl

-- some variables become known
pub learnt : (old new : Variables) (g : ℕ → Variable) (test : ℕ → Bool) → StoresVariables old g → ((v : ℕ) → variable_at new v ≡ known_if (test v) (variable_at old v)) → ((name : ℕ) → holder_at new name ≡ holder_at old name)
    → StoresVariables new (λ v. known_if (test v) (g v))
learnt old new g test k e h = record {
  each = λ v. e v ∙ ap (known_if (test v)) (k.each v);
  holders = λ name v. ((λ t. known_name (test v) (g v) ∙ (k.holders name v).0 (sym (h name) ∙ t)), (λ t. h name ∙ (k.holders name v).1 (sym (known_name (test v) (g v)) ∙ t)));
}

pub only_one : (v w : ℕ) → eqb w v ≡ is_among (v ∷ []) w
only_one v w = eqb_comm w v ∙ go (eqb v w)
  where
    go : (b : Bool) → b ≡ (b || false)
    go true = refl
    go false = refl

pub kept_same : (vs : Variables) (g h : ℕ → Variable) → ((v : ℕ) → g v ≡ h v) → StoresVariables vs g → StoresVariables vs h
kept_same vs g h e k = record { each = λ v. k.each v ∙ e v; holders = λ name v. ((λ t. ap (λ x. x.name) (sym (e v)) ∙ (k.holders name v).0 t), (λ t. (k.holders name v).1 (ap (λ x. x.name) (e v) ∙ t))) }

eqb_itself : (n : ℕ) → eqb n n ≡ true
eqb_itself n = go (eqb n n) refl
  where
    go : (b : Bool) → eqb n n ≡ b → b ≡ true
    go true e = refl
    go false e = absurd (eqb-false n n e refl)

-- the variables of the items before an index, and the next one
pub among_next : {A : Type 0} (f : A → ℕ) (xs : List A) (i v w : ℕ) (d : A) → i < length xs → w ≡ f (get_or xs i d) → is_among (map f (take (i + 1) xs)) v ≡ true → (is_among (map f (take i xs)) v ≡ true) ⊎ (v ≡ w)
among_next {A} f xs i v w d l e h = let m : i + 1 ≡ suc i = omega arith in go xs i l e (subst (λ k. is_among (map f (take k xs)) v ≡ true) m h)
  where
    first : (n : ℕ) (b c : Bool) → eqb n v ≡ b → (b || false) ≡ true → v ≡ n
    first n true c q h = sym (eqb-true n v q)
    first n false c q h = absurd (true≢false (sym h))

    later : (n : ℕ) (ms ns : List ℕ) (b : Bool) → eqb n v ≡ b → (b || is_among ms v) ≡ true → (is_among ms v ≡ true → (is_among ns v ≡ true) ⊎ (v ≡ w)) → ((eqb n v || is_among ns v) ≡ true) ⊎ (v ≡ w)
    later n ms ns true q h k = inl (ap (λ z. z || is_among ns v) q)
    later n ms ns false q h k = elim (k h) [ inl a ↦ inl (ap (λ z. z || is_among ns v) q ∙ a) | inr a ↦ inr a ]

    go : (ys : List A) (j : ℕ) → j < length ys → w ≡ f (get_or ys j d) → is_among (map f (take (suc j) ys)) v ≡ true → (is_among (map f (take j ys)) v ≡ true) ⊎ (v ≡ w)
    go [] j k q h = absurd (omega arith)
    go (y ∷ ys) zero k q h = inr (first (f y) (eqb (f y) v) true refl h ∙ sym q)
    go (y ∷ ys) (suc j) k q h = later (f y) (map f (take (suc j) ys)) (map f (take j ys)) (eqb (f y) v) refl h (λ a. go ys j (omega arith) q a)

-- an item's variable is among the variables of all items
pub among_item : {A : Type 0} (f : A → ℕ) (xs : List A) (i w : ℕ) (d : A) → i < length xs → w ≡ f (get_or xs i d) → is_among (map f xs) w ≡ true
among_item {A} f [] i w d l e = absurd (omega arith)
among_item {A} f (x ∷ xs) zero w d l e = ap (λ z. eqb (f x) z || is_among (map f xs) w) e ∙ ap (λ b. b || is_among (map f xs) w) (eqb_itself (f x))
among_item {A} f (x ∷ xs) (suc i) w d l e = or_true (eqb (f x) w) (among_item f xs i w d (omega arith) e)
  where
    or_true : (b : Bool) → is_among (map f xs) w ≡ true → (b || is_among (map f xs) w) ≡ true
    or_true true h = refl
    or_true false h = h

-- a variable that is known stays the same
pub known_already : (vs : Variables) (w v : ℕ) → (variable_at vs w).known ≡ true → variable_at vs v ≡ known_if (eqb v w) (variable_at vs v)
known_already vs w v k = go (eqb v w) refl
  where
    same : (x : Variable) → x.known ≡ true → x ≡ record x { known = true }
    same x h = ap (λ b. record x { known = b }) h

    go : (b : Bool) → eqb v w ≡ b → variable_at vs v ≡ known_if b (variable_at vs v)
    go true e = same (variable_at vs v) (ap (λ n. (variable_at vs n).known) (eqb-true v w e) ∙ k)
    go false e = refl

-- the variables of literals and of units
unit_variables : (us : List (ℕ × ℕ)) → map variable (map (λ u. u.0) us) ≡ map (λ u. variable u.0) us
unit_variables [] = refl
unit_variables (u ∷ us) = ap (λ ws. variable u.0 ∷ ws) (unit_variables us)

-- there is room for the literals before the next index
pub lits_roomy : (old new : Variables) (ls : List ℕ) (i w d : ℕ) → i < length ls → w ≡ variable (get_or ls i d) → HaveDataRoom old (map variable (take i ls)) → ((v : ℕ) → HasDataRoom old v → HasDataRoom new v) → HasDataRoom new w
    → HaveDataRoom new (map variable (take (i + 1) ls))
lits_roomy old new ls i w d l e k others h v a = elim (among_next variable ls i v w d l e a) [ inl b ↦ others v (k v b) | inr b ↦ subst (HasDataRoom new) (sym b) h ]

-- there is room for the units before the next index
pub units_roomy : (old new : Variables) (us : List (ℕ × ℕ)) (i w : ℕ) (u : ℕ × ℕ) → i < length us → u ≡ get_or us i u → w ≡ variable u.0 → HaveDataRoom old (map variable (map (λ u. u.0) (take i us))) → ((v : ℕ) → HasDataRoom old v → HasDataRoom new v) → HasDataRoom new w
    → HaveDataRoom new (map variable (map (λ u. u.0) (take (i + 1) us)))
units_roomy old new us i w u l is e k others h v a =
    elim (among_next (λ t. variable t.0) us i v w u l (e ∙ ap (λ t. variable t.0) is) (ap (λ ws. is_among ws v) (sym (unit_variables (take (i + 1) us))) ∙ a)) [
      | inl b ↦ others v (k v (ap (λ ws. is_among ws v) (unit_variables (take i us)) ∙ b))
      | inr b ↦ subst (HasDataRoom new) (sym b) h
    ]

-- there is room for the next literal
pub lit_roomy : (vs : Variables) (ls : List ℕ) (i w d : ℕ) → i < length ls → w ≡ variable (get_or ls i d) → HaveDataRoom vs (map variable ls) → HasDataRoom vs w
lit_roomy vs ls i w d l e k = k w (among_item variable ls i w d l e)

-- there is room for the next unit
pub unit_roomy : (vs : Variables) (us : List (ℕ × ℕ)) (i w : ℕ) (u : ℕ × ℕ) → i < length us → u ≡ get_or us i u → w ≡ variable u.0 → HaveDataRoom vs (map variable (map (λ u. u.0) us)) → HasDataRoom vs w
unit_roomy vs us i w u l is e k = k w (ap (λ ws. is_among ws w) (unit_variables us) ∙ among_item (λ t. variable t.0) us i w u l (e ∙ ap (λ t. variable t.0) is))

-- the variable of the next unit becomes known
pub unit_next : (us : List (ℕ × ℕ)) (i v w : ℕ) (u : ℕ × ℕ) (x y : Variable) → i < length us → u ≡ get_or us i u → w ≡ variable u.0 → y ≡ known_if (eqb v w) x
    → known_if (is_among (map variable (map (λ u. u.0) (drop i us))) v) x ≡ known_if (is_among (map variable (map (λ u. u.0) (drop (i + 1) us))) v) y
unit_next us i v w u x y l is e k =
    ap (λ ms. known_if (is_among (map variable (map (λ u. u.0) ms)) v) x) (drop_more us i u l)
    ∙ ap (λ n. known_if (eqb n v || is_among (map variable (map (λ u. u.0) (drop (i + 1) us))) v) x) (sym (e ∙ ap (λ t. variable t.0) is))
    ∙ ap (λ b. known_if (b || is_among (map variable (map (λ u. u.0) (drop (i + 1) us))) v) x) (eqb_comm w v)
    ∙ sym (twice (eqb v w) (is_among (map variable (map (λ u. u.0) (drop (i + 1) us))) v) x) ∙ ap (known_if (is_among (map variable (map (λ u. u.0) (drop (i + 1) us))) v)) (sym k)

pub ruleset ensuring = (known_next, known_already, lits_roomy, lit_roomy)

pub ruleset ensuring_units = (unit_next, units_roomy, unit_roomy)
