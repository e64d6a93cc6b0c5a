-- Following a list of literals in two parts.
use Rattle.std.proofs.Common.{ℕ, ◌+◌, ◌-◌, ◌<◌, ◌≤◌, ◌≡◌, ◌∙◌, Bool, true, false, cond, drop, List, [], ◌∷◌, ◌++◌, length, get_or, refl, sym, ap, arith}
use Rattle.std.proofs.lemmas.Bool.{true≢false}
use Rattle.std.proofs.lemmas.List.{length-append, get_or_append_left, get_or-append_right, drop_more, drop_all}
use Rattle.std.specs.Int.Bits.{bit_xor, xor_assoc, xor_zero_l}
use Rattle.sat_base.specs.values.Hashes.{hash_of, literal_hash}
use Rattle.sat_base.specs.values.Literals.{variable}
use Rattle.sat_parts.specs.clause.Glue.{LitsHaveNodes}
use Rattle.sat_parts.specs.declared.prop.graph.ImplNode.{ImplNode}
use Rattle.sat_solver.specs.analyze_conflict.AnalysisState.{AnalysisState, with_seen_literals, with_seen_literal}
use Rattle.sat_solver.specs.analyze_conflict.Minimization.{MarkingResult, marked_reasons, is_settled, can_be_implied, with_mark}

pub nodes_first : (nodes : List ImplNode) (xs ys : List ℕ) → LitsHaveNodes nodes (xs ++ ys) → LitsHaveNodes nodes xs
nodes_first nodes xs ys h k lt =
    let same : variable (get_or (xs ++ ys) k 0) ≡ variable (get_or xs k 0) = ap (λ l. variable l) (get_or_append_left xs ys 0 k lt) in
    let b = h k (omega (arith, length-append xs ys)) in
    omega (arith, same, b)

pub nodes_second : (nodes : List ImplNode) (xs ys : List ℕ) → LitsHaveNodes nodes (xs ++ ys) → LitsHaveNodes nodes ys
nodes_second nodes xs ys h k lt =
    let at : length xs + k - length xs ≡ k = omega arith in
    let same : variable (get_or (xs ++ ys) (length xs + k) 0) ≡ variable (get_or ys k 0) = ap (λ l. variable l) (get_or-append_right xs ys (length xs) (length xs + k) 0 refl (omega arith) ∙ ap (λ i. get_or ys i 0) at) in
    let b = h (length xs + k) (omega (arith, length-append xs ys)) in
    omega (arith, same, b)

pub with_both : (nodes : List ImplNode) (top : ℕ) (xs ys : List ℕ) (w : AnalysisState) → with_seen_literals nodes top (xs ++ ys) w ≡ with_seen_literals nodes top ys (with_seen_literals nodes top xs w)
with_both nodes top [] ys w = refl
with_both nodes top (x ∷ xs) ys w = with_both nodes top xs ys (with_seen_literal nodes top x w)

pub hash_both : (xs ys : List ℕ) → hash_of (xs ++ ys) ≡ bit_xor (hash_of xs) (hash_of ys)
hash_both [] ys = sym (xor_zero_l (hash_of ys))
hash_both (x ∷ xs) ys = ap (bit_xor (literal_hash x)) (hash_both xs ys) ∙ sym (xor_assoc (literal_hash x) (hash_of xs) (hash_of ys))

abbrev done : AnalysisState → Bool → MarkingResult
done w b = record { work = w; whole = b }

-- if the first literal may follow, the rest is followed after it
follows_one : (nodes : List ImplNode) (filter r : ℕ) (rs : List ℕ) (w v : AnalysisState) → marked_reasons nodes filter (r ∷ []) w ≡ done v true → marked_reasons nodes filter (r ∷ rs) w ≡ marked_reasons nodes filter rs v
follows_one nodes filter r rs w v e = go (is_settled nodes r w) (can_be_implied nodes filter r) e
  where
    go : (settled can : Bool) → ◌≡◌ {A = MarkingResult} (cond settled (done w true) (cond can (done (with_mark r w) true) (done w false))) (done v true) →
        ◌≡◌ {A = MarkingResult} (cond settled (marked_reasons nodes filter rs w) (cond can (marked_reasons nodes filter rs (with_mark r w)) (done w false))) (marked_reasons nodes filter rs v)
    go true can e = ap (λ (f : MarkingResult). marked_reasons nodes filter rs f.work) e
    go false true e = ap (λ (f : MarkingResult). marked_reasons nodes filter rs f.work) e
    go false false e = absurd (true≢false (sym (ap (λ (f : MarkingResult). f.whole) e)))

-- if the first literal may not follow, following stops there
follows_none : (nodes : List ImplNode) (filter r : ℕ) (rs : List ℕ) (w v : AnalysisState) → marked_reasons nodes filter (r ∷ []) w ≡ done v false → marked_reasons nodes filter (r ∷ rs) w ≡ done v false
follows_none nodes filter r rs w v e = go (is_settled nodes r w) (can_be_implied nodes filter r) e
  where
    go : (settled can : Bool) → ◌≡◌ {A = MarkingResult} (cond settled (done w true) (cond can (done (with_mark r w) true) (done w false))) (done v false) →
        ◌≡◌ {A = MarkingResult} (cond settled (marked_reasons nodes filter rs w) (cond can (marked_reasons nodes filter rs (with_mark r w)) (done w false))) (done v false)
    go true can e = absurd (true≢false (ap (λ (f : MarkingResult). f.whole) e))
    go false true e = absurd (true≢false (ap (λ (f : MarkingResult). f.whole) e))
    go false false e = e

-- the first part is followed, then the second
followed_both : (nodes : List ImplNode) (filter : ℕ) (xs ys : List ℕ) (w v : AnalysisState) → marked_reasons nodes filter xs w ≡ done v true → marked_reasons nodes filter (xs ++ ys) w ≡ marked_reasons nodes filter ys v
followed_both nodes filter [] ys w v e = ap (λ (f : MarkingResult). marked_reasons nodes filter ys f.work) e
followed_both nodes filter (x ∷ xs) ys w v e = go (is_settled nodes x w) (can_be_implied nodes filter x) (λ u. followed_both nodes filter xs ys u v) e
  where
    go : (settled can : Bool) → ((u : AnalysisState) → marked_reasons nodes filter xs u ≡ done v true → marked_reasons nodes filter (xs ++ ys) u ≡ marked_reasons nodes filter ys v) →
        ◌≡◌ {A = MarkingResult} (cond settled (marked_reasons nodes filter xs w) (cond can (marked_reasons nodes filter xs (with_mark x w)) (done w false))) (done v true) →
        ◌≡◌ {A = MarkingResult} (cond settled (marked_reasons nodes filter (xs ++ ys) w) (cond can (marked_reasons nodes filter (xs ++ ys) (with_mark x w)) (done w false))) (marked_reasons nodes filter ys v)
    go true can ih e = ih w e
    go false true ih e = ih (with_mark x w) e
    go false false ih e = absurd (true≢false (sym (ap (λ (f : MarkingResult). f.whole) e)))

followed_first : (nodes : List ImplNode) (filter : ℕ) (xs ys : List ℕ) (w v : AnalysisState) → marked_reasons nodes filter xs w ≡ done v false → marked_reasons nodes filter (xs ++ ys) w ≡ done v false
followed_first nodes filter [] ys w v e = absurd (true≢false (ap (λ (f : MarkingResult). f.whole) e))
followed_first nodes filter (x ∷ xs) ys w v e = go (is_settled nodes x w) (can_be_implied nodes filter x) (λ u. followed_first nodes filter xs ys u v) e
  where
    go : (settled can : Bool) → ((u : AnalysisState) → marked_reasons nodes filter xs u ≡ done v false → marked_reasons nodes filter (xs ++ ys) u ≡ done v false) →
        ◌≡◌ {A = MarkingResult} (cond settled (marked_reasons nodes filter xs w) (cond can (marked_reasons nodes filter xs (with_mark x w)) (done w false))) (done v false) →
        ◌≡◌ {A = MarkingResult} (cond settled (marked_reasons nodes filter (xs ++ ys) w) (cond can (marked_reasons nodes filter (xs ++ ys) (with_mark x w)) (done w false))) (done v false)
    go true can ih e = ih w e
    go false true ih e = ih (with_mark x w) e
    go false false ih e = e

module _ (nodes : List ImplNode) (filter : ℕ) (own long ls : List ℕ) (w v : AnalysisState) (b : Bool) (both : own ++ long ≡ ls) (first : marked_reasons nodes filter own w ≡ done v b) where
  pub followed_stops : b ≡ false → marked_reasons nodes filter ls w ≡ done v false
  followed_stops e = ap (λ (xs : List ℕ). marked_reasons nodes filter xs w) (sym both) ∙ followed_first nodes filter own long w v (first ∙ ap (done v) e)

  pub followed_goes : b ≡ true → marked_reasons nodes filter ls w ≡ marked_reasons nodes filter long v
  followed_goes e = ap (λ (xs : List ℕ). marked_reasons nodes filter xs w) (sym both) ∙ followed_both nodes filter own long w v (first ∙ ap (done v) e)

module _ (nodes : List ImplNode) (filter : ℕ) (ls : List ℕ) (at : ℕ) (w v : AnalysisState) where
  here : at < length ls → marked_reasons nodes filter (drop at ls) w ≡ marked_reasons nodes filter (get_or ls at 0 ∷ drop (at + 1) ls) w
  here lt = ap (λ (xs : List ℕ). marked_reasons nodes filter xs w) (drop_more ls at 0 lt)

  module _ (l : ℕ) (b : Bool) (lt : at < length ls) (is : l ≡ get_or ls at 0) (one : marked_reasons nodes filter (l ∷ []) w ≡ done v b) where
    -- a step of the loop: the literal at this position may follow
    pub follows_next : b ≡ true → marked_reasons nodes filter (drop (at + 1) ls) v ≡ marked_reasons nodes filter (drop at ls) w
    follows_next e = sym (here lt ∙ ap (λ r. marked_reasons nodes filter (r ∷ drop (at + 1) ls) w) (sym is) ∙ follows_one nodes filter l (drop (at + 1) ls) w v (one ∙ ap (done v) e))

    -- the literal at this position may not follow
    pub follows_end : b ≡ false → marked_reasons nodes filter (drop at ls) w ≡ done v false
    follows_end e = here lt ∙ ap (λ r. marked_reasons nodes filter (r ∷ drop (at + 1) ls) w) (sym is) ∙ follows_none nodes filter l (drop (at + 1) ls) w v (one ∙ ap (done v) e)

-- no literal is left
pub follows_all : (nodes : List ImplNode) (filter : ℕ) (ls : List ℕ) (at : ℕ) (w : AnalysisState) → length ls ≤ at → marked_reasons nodes filter (drop at ls) w ≡ done w true
follows_all nodes filter ls at w le = ap (λ (xs : List ℕ). marked_reasons nodes filter xs w) (drop_all at ls le)
