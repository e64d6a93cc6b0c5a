-- How the list of clauses changes when a binary clause is added, and where reasons are in it.
use Rattle.std.proofs.Common.{ℕ, zero, suc, ◌+◌, ◌<◌, ◌≡◌, Bool, true, false, cond, ltb, List, [], ◌∷◌, ◌++◌, length, slice_index_or, slice_set, refl, sym, ◌∙◌, ap, subst, arith, ◌⊎◌, inl, inr, append_assoc, length-set}
use Rattle.std.proofs.lemmas.Bool.{lt-ltb, le-ltb}
use Rattle.std.specs.List.{Contains}
use Rattle.sat_base.specs.values.Literals.{negated}
use Rattle.sat_store.specs.clause.Buffer.{lits_at}
use Rattle.sat_parts.specs.prop.Binaries.{Binaries, implied_by, with_implied, with_binary}
use Rattle.sat_solver.specs.session.LiveClauses.{LiveClause, IsIn}
use Rattle.sat_solver.specs.session.SolverClauses.{pair, binaries_of, binaries_from, binaries, longs, InsertsClause}

-- a higher literal is appended to the list of one literal
push_lower : (a m : ℕ) (ms : List ℕ) → ltb a m ≡ true → binaries_of a (ms ++ m ∷ []) ≡ binaries_of a ms ++ pair a m ∷ []
push_lower a m [] e = ap (λ b. cond b (pair a m ∷ []) []) e
push_lower a m (k ∷ ks) e = go (ltb a k) (push_lower a m ks e)
  where
    go : (b : Bool) → binaries_of a (ks ++ m ∷ []) ≡ binaries_of a ks ++ pair a m ∷ [] → cond b (pair a k ∷ binaries_of a (ks ++ m ∷ [])) (binaries_of a (ks ++ m ∷ [])) ≡ cond b (pair a k ∷ binaries_of a ks) (binaries_of a ks) ++ pair a m ∷ []
    go true ih = ap (λ cs. pair a k ∷ cs) ih
    go false ih = ih

push_higher : (a m : ℕ) (ms : List ℕ) → ltb a m ≡ false → binaries_of a (ms ++ m ∷ []) ≡ binaries_of a ms
push_higher a m [] e = ap (λ b. cond b (pair a m ∷ []) []) e
push_higher a m (k ∷ ks) e = go (ltb a k) (push_higher a m ks e)
  where
    go : (b : Bool) → binaries_of a (ks ++ m ∷ []) ≡ binaries_of a ks → cond b (pair a k ∷ binaries_of a (ks ++ m ∷ [])) (binaries_of a (ks ++ m ∷ [])) ≡ cond b (pair a k ∷ binaries_of a ks) (binaries_of a ks)
    go true ih = ap (λ cs. pair a k ∷ cs) ih
    go false ih = ih

-- a higher literal is appended to one of the lists
inserted_from : (implied : List (List ℕ)) (l i m : ℕ) → i < length implied → ltb (negated (l + i)) m ≡ true → InsertsClause (binaries_from l implied) (binaries_from l (slice_set implied i (slice_index_or implied i [] ++ m ∷ []))) (pair (negated (l + i)) m)
inserted_from [] l i m n e = absurd (omega arith)
inserted_from (ms ∷ rest) l zero m n e =
    let z : l + zero ≡ l = omega arith in
    subst (λ k. InsertsClause (binaries_from l (ms ∷ rest)) (binaries_from l ((ms ++ m ∷ []) ∷ rest)) (pair (negated k) m)) (sym z)
    (record {
      before = binaries_of (negated l) ms;
      following = binaries_from (l + 1) rest;
      was = refl;
      is = ap (λ cs. cs ++ binaries_from (l + 1) rest) (push_lower (negated l) m ms (subst (λ k. ltb (negated k) m ≡ true) z e)) ∙ append_assoc (binaries_of (negated l) ms) (pair (negated l) m ∷ []) (binaries_from (l + 1) rest);
    })
inserted_from (ms ∷ rest) l (suc i) m n e =
    let z : l + 1 + i ≡ l + suc i = omega arith in
    let ih : InsertsClause (binaries_from (l + 1) rest) (binaries_from (l + 1) (slice_set rest i (slice_index_or rest i [] ++ m ∷ []))) (pair (negated (l + 1 + i)) m) = inserted_from rest (l + 1) i m (omega arith) (subst (λ k. ltb (negated k) m ≡ true) (sym z) e) in
    record {
      before = binaries_of (negated l) ms ++ ih.before;
      following = ih.following;
      was = ap (λ cs. binaries_of (negated l) ms ++ cs) ih.was ∙ sym (append_assoc (binaries_of (negated l) ms) ih.before ih.following);
      is = ap (λ cs. binaries_of (negated l) ms ++ cs) ih.is ∙ sym (append_assoc (binaries_of (negated l) ms) ih.before (pair (negated (l + 1 + i)) m ∷ ih.following)) ∙ ap (λ k. (binaries_of (negated l) ms ++ ih.before) ++ pair (negated k) m ∷ ih.following) z;
    }

same_from : (implied : List (List ℕ)) (l i m : ℕ) → i < length implied → ltb (negated (l + i)) m ≡ false → binaries_from l (slice_set implied i (slice_index_or implied i [] ++ m ∷ [])) ≡ binaries_from l implied
same_from [] l i m n e = absurd (omega arith)
same_from (ms ∷ rest) l zero m n e = let z : l + zero ≡ l = omega arith in ap (λ cs. cs ++ binaries_from (l + 1) rest) (push_higher (negated l) m ms (subst (λ k. ltb (negated k) m ≡ false) z e))
same_from (ms ∷ rest) l (suc i) m n e = let z : l + 1 + i ≡ l + suc i = omega arith in ap (λ cs. binaries_of (negated l) ms ++ cs) (same_from rest (l + 1) i m (omega arith) (subst (λ k. ltb (negated k) m ≡ false) (sym z) e))

-- if the implied literal is the higher one, the binary clause is inserted
implied_lower : (implied : List (List ℕ)) (a m : ℕ) → negated a < length implied → a < m → InsertsClause (binaries implied) (binaries (with_implied (negated a) m implied)) (pair a m)
implied_lower implied a m n o =
    let z : negated (0 + negated a) ≡ a = omega arith in
    subst (λ k. InsertsClause (binaries implied) (binaries (with_implied (negated a) m implied)) (pair k m)) z (inserted_from implied 0 (negated a) m n (ap (λ k. ltb k m) z ∙ lt-ltb a m o))

implied_higher : (implied : List (List ℕ)) (a m : ℕ) → negated a < length implied → m < a → binaries (with_implied (negated a) m implied) ≡ binaries implied
implied_higher implied a m n o = let z : negated (0 + negated a) ≡ a = omega arith in same_from implied 0 (negated a) m n (ap (λ k. ltb k m) z ∙ le-ltb a m (omega arith))

-- A binary clause, the lower literal first, is inserted.
pub binary_comes : (x : Binaries) (a b : ℕ) → negated a < length x.implied → negated b < length x.implied → a < b → InsertsClause (binaries x.implied) (binaries (with_binary a b x).implied) (pair a b)
binary_comes x a b n m o =
    let first = implied_lower x.implied a b n o in
    let more : List (List ℕ) = with_implied (negated a) b x.implied in
    let room : negated b < length more = subst (λ k. negated b < k) (sym (length-set x.implied (negated a) (implied_by x.implied (negated a) ++ b ∷ []))) m in
    record { before = first.before; following = first.following; was = first.was; is = implied_higher more b a room o ∙ first.is }

pub binary_comes_turned : (x : Binaries) (a b : ℕ) → negated a < length x.implied → negated b < length x.implied → b < a → InsertsClause (binaries x.implied) (binaries (with_binary a b x).implied) (pair b a)
binary_comes_turned x a b n m o =
    let more : List (List ℕ) = with_implied (negated a) b x.implied in
    let room : negated b < length more = subst (λ k. negated b < k) (sym (length-set x.implied (negated a) (implied_by x.implied (negated a) ++ b ∷ []))) m in
    let same : binaries more ≡ binaries x.implied = implied_higher x.implied a b n o in
    let second = implied_lower more b a room o in
    record { before = second.before; following = second.following; was = sym same ∙ second.was; is = second.is }

-- a live long clause is in the list
pub long_there : (redundant : ℕ → Bool) (words live : List ℕ) (o : ℕ) → Contains live o → IsIn (record { redundant = redundant o; literals = lits_at words o }) (longs redundant words live)
long_there redundant words [] o h = let n : h.0 < 0 = h.1 in absurd (omega arith)
long_there redundant words (p ∷ ps) o h = go (long_there redundant words ps o) h.0 h.1 h.2
  where
    long : ℕ → LiveClause
    long x = record { redundant = redundant x; literals = lits_at words x }

    go : (Contains ps o → IsIn (long o) (longs redundant words ps)) → (k : ℕ) → k < length (p ∷ ps) → slice_index_or (p ∷ ps) k o ≡ o → (long o ≡ long p) ⊎ IsIn (long o) (longs redundant words ps)
    go ih zero n e = inl (ap long (sym e))
    go ih (suc k) n e = inr (ih (k, omega arith, e))

pub in_after : (c : LiveClause) (xs ys : List LiveClause) → IsIn c ys → IsIn c (xs ++ ys)
in_after c [] ys h = h
in_after c (x ∷ xs) ys h = inr (in_after c xs ys h)

pub in_front : (c : LiveClause) (xs ys : List LiveClause) → IsIn c xs → IsIn c (xs ++ ys)
in_front c [] ys h = absurd h
in_front c (x ∷ xs) ys h = elim h [ inl e ↦ inl e | inr k ↦ inr (in_front c xs ys k) ]

pair_of : (a m : ℕ) (ms : List ℕ) (k : ℕ) → k < length ms → slice_index_or ms k 0 ≡ m → a < m → IsIn (pair a m) (binaries_of a ms)
pair_of a m [] k n e o = absurd (omega arith)
pair_of a m (x ∷ xs) zero n e o = subst (λ b. IsIn (pair a m) (cond b (pair a x ∷ binaries_of a xs) (binaries_of a xs))) (sym (ap (ltb a) e ∙ lt-ltb a m o)) (inl (ap (pair a) (sym e)))
pair_of a m (x ∷ xs) (suc k) n e o = go (ltb a x) (pair_of a m xs k (omega arith) e o)
  where
    go : (b : Bool) → IsIn (pair a m) (binaries_of a xs) → IsIn (pair a m) (cond b (pair a x ∷ binaries_of a xs) (binaries_of a xs))
    go true ih = inr ih
    go false ih = ih

pair_from : (implied : List (List ℕ)) (l i k m : ℕ) → i < length implied → k < length (slice_index_or implied i []) → slice_index_or (slice_index_or implied i []) k 0 ≡ m → negated (l + i) < m → IsIn (pair (negated (l + i)) m) (binaries_from l implied)
pair_from [] l i k m n j e o = absurd (omega arith)
pair_from (ms ∷ rest) l zero k m n j e o =
    let z : l + zero ≡ l = omega arith in
    in_front (pair (negated (l + zero)) m) (binaries_of (negated l) ms) (binaries_from (l + 1) rest) (subst (λ x. IsIn (pair (negated x) m) (binaries_of (negated l) ms)) (sym z) (pair_of (negated l) m ms k j e (subst (λ x. negated x < m) z o)))
pair_from (ms ∷ rest) l (suc i) k m n j e o =
    let z : l + 1 + i ≡ l + suc i = omega arith in
    in_after (pair (negated (l + suc i)) m) (binaries_of (negated l) ms) (binaries_from (l + 1) rest)
    (subst (λ x. IsIn (pair (negated x) m) (binaries_from (l + 1) rest)) z (pair_from rest (l + 1) i k m (omega arith) j e (subst (λ x. negated x < m) (sym z) o)))

-- A binary clause is found where its higher literal is the implied one. Otherwise the paired list has the clause.
pub binary_there : (implied : List (List ℕ)) (a m k : ℕ) → negated a < length implied → k < length (implied_by implied (negated a)) → slice_index_or (implied_by implied (negated a)) k 0 ≡ m → a < m → IsIn (pair a m) (binaries implied)
binary_there implied a m k n j e o = let z : negated (0 + negated a) ≡ a = omega arith in subst (λ x. IsIn (pair x m) (binaries implied)) z (pair_from implied 0 (negated a) k m n j e (subst (λ x. x < m) (sym z) o))
