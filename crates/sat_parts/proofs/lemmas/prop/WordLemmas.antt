-- The word of a trail, and what preserves `LevelsBeginWithDecisions`.
use Rattle.std.proofs.Common.{ℕ, ◌≡◌, ◌≢◌, ◌+◌, ◌<◌, ◌≤◌, inl, inr, List, [], ◌∷◌, ◌++◌, suc, zero, length, get_or, take, drop, ◌-◌, length-drop, refl, sym, ap, ◌∙◌, subst, arith, Bool, true, false, ◌||◌, ◌==◌, cond, append_assoc}
use Rattle.std.specs.Prelude.{replicate}
use Rattle.std.proofs.lemmas.Bool.{cases_eq, cases_lt, ne_eqb, eq-eqb}
use Rattle.std.proofs.lemmas.List.{length_push, get_or_append_left, get_or_push, get_or-take, get_or-drop, length-take-le, take-append-drop}
use Rattle.sat_base.specs.values.Literals.{variable}
use Rattle.sat_parts.specs.declared.prop.graph.ImplNode.{ImplNode}
use Rattle.sat_parts.specs.declared.prop.graph.Reason.{Reason}
use Rattle.sat_parts.specs.declared.prop.graph.Reason.TheVariants.{Unit as NoCause}
use Rattle.sat_parts.specs.prop.Graphs.{has_no_clause}
use Rattle.sat_parts.specs.prop.Values.{Values, IsUnassignedLit}
use Rattle.sat_parts.specs.prop.Trails.{TrailState, with_lit, with_level, without_levels_above}
use Rattle.sat_parts.specs.prop.Undone.{with_levels_undone}
use Rattle.sat_parts.specs.prop.State.{PropagationState, node, lit_at, StateIsConsistent, enqueued}
use Rattle.sat_parts.specs.prop.Reasons.{PropagationEffect}
use Rattle.sat_parts.specs.prop.Ready.{state_of}
use Rattle.sat_parts.specs.prop.TrailWord.{Letter, D, P, begins_level, trail_letter, letters, trail_word, IsLowerWord, BeginsNoLevel, LevelsBeginWithDecisions, decided_on, LevelsArePreserved, TrailWordsIncrease}
use Rattle.sat_parts.proofs.lemmas.prop.StateLemmas.{lit_front, lit_last, node_kept, node_new}

levels_none : (s : PropagationState) → s.trail.starts ≡ [] → LevelsBeginWithDecisions s
levels_none s e =
    let n : length s.trail.starts ≡ 0 = ap (λ (xs : List ℕ). length xs) e in
    record {
      strict = λ j k a b. absurd (omega arith);
      begun = λ k b. absurd (omega arith);
      decided = λ k b. absurd (omega arith);
      caused = λ i k b c d f. absurd (omega arith);
    }

-- a literal that was on the trail keeps its reason when another becomes true
reason_kept : (s : PropagationState) (l i : ℕ) (r : Reason) → StateIsConsistent s → IsUnassignedLit s.values l → i < length s.trail.lits →
    (node (enqueued l r s) (lit_at (enqueued l r s) i)).reason ≡ (node s (lit_at s i)).reason
reason_kept s l i r h n lt =
    ap (λ m. (node (enqueued l r s) m).reason) (lit_front s l r i lt) ∙ ap (λ (x : ImplNode). x.reason) (node_kept s l (lit_at s i) r n (h.holds i lt))

reason_new : (s : PropagationState) (l : ℕ) (r : Reason) → StateIsConsistent s → variable l < length s.values → (node (enqueued l r s) (lit_at (enqueued l r s) (length s.trail.lits))).reason ≡ r
reason_new s l r h below =
    ap (λ m. (node (enqueued l r s) m).reason) (lit_last s l r) ∙ ap (λ (x : ImplNode). x.reason) (node_new s l r (omega (arith, h.nodes)))

levels_caused : (s : PropagationState) (l : ℕ) (r : Reason) → StateIsConsistent s → IsUnassignedLit s.values l → variable l < length s.values → has_no_clause r ≡ false → LevelsBeginWithDecisions s → LevelsBeginWithDecisions (enqueued l r s)
levels_caused s l r h n below clause x =
    let size : length (s.trail.lits ++ l ∷ []) ≡ length s.trail.lits + 1 = length_push s.trail.lits l in
    record {
      strict = x.strict;
      begun = λ k b. omega (arith, x.begun k b);
      decided = λ k b. ap (λ (z : Reason). has_no_clause z) (reason_kept s l (get_or s.trail.starts k 0) r h n (x.begun k b)) ∙ x.decided k b;
      caused = λ i k b c d e. elim (cases_eq i (length s.trail.lits)) [
        | inl q ↦ ap (λ j. has_no_clause (node (enqueued l r s) (lit_at (enqueued l r s) j)).reason) q ∙ ap (λ (z : Reason). has_no_clause z) (reason_new s l r h below) ∙ clause
        | inr m ↦ (let lt : i < length s.trail.lits = omega arith in
            ap (λ (z : Reason). has_no_clause z) (reason_kept s l i r h n lt) ∙ x.caused i k b c lt e)
      ];
    }

levels_decided : (s : PropagationState) (l : ℕ) → StateIsConsistent s → IsUnassignedLit s.values l → variable l < length s.values → LevelsBeginWithDecisions s → LevelsBeginWithDecisions (decided_on l s)
levels_decided s l h n below x =
    let u : PropagationState = record s { trail = with_level s.trail } in
    let v : PropagationState = decided_on l s in
    let size : length (s.trail.lits ++ l ∷ []) ≡ length s.trail.lits + 1 = length_push s.trail.lits l in
    let more : length (s.trail.starts ++ length s.trail.lits ∷ []) ≡ length s.trail.starts + 1 = length_push s.trail.starts (length s.trail.lits) in
    let old : (k : ℕ) → k < length s.trail.starts → get_or (s.trail.starts ++ length s.trail.lits ∷ []) k 0 ≡ get_or s.trail.starts k 0 = λ k b.
    get_or_append_left s.trail.starts (length s.trail.lits ∷ []) 0 k b in
    let new : get_or (s.trail.starts ++ length s.trail.lits ∷ []) (length s.trail.starts) 0 ≡ length s.trail.lits = get_or_push s.trail.starts (length s.trail.lits) 0 (length s.trail.starts) refl in
    let front : (i : ℕ) → i < length s.trail.lits → (node v (lit_at v i)).reason ≡ (node s (lit_at s i)).reason = λ i b.
    ap (λ m. (node v m).reason) (lit_front u l NoCause i b) ∙ ap (λ (z : ImplNode). z.reason) (node_kept u l (lit_at s i) NoCause n (h.holds i b)) in
    let last : (node v (lit_at v (length s.trail.lits))).reason ≡ NoCause =
    ap (λ m. (node v m).reason) (lit_last u l NoCause) ∙ ap (λ (z : ImplNode). z.reason) (node_new u l NoCause (omega (arith, h.nodes))) in
    record {
      strict = λ j k a b. elim (cases_eq k (length s.trail.starts)) [
        | inl q ↦
            let e : get_or (s.trail.starts ++ length s.trail.lits ∷ []) k 0 ≡ length s.trail.lits = ap (λ z. get_or (s.trail.starts ++ length s.trail.lits ∷ []) z 0) q ∙ new in
            omega (arith, old j (omega arith), x.begun j (omega arith))
        | inr m ↦ omega (arith, old j (omega arith), old k (omega arith), x.strict j k a (omega arith))
      ];
      begun = λ k b. elim (cases_eq k (length s.trail.starts)) [
        | inl q ↦ (let e : get_or (s.trail.starts ++ length s.trail.lits ∷ []) k 0 ≡ length s.trail.lits = ap (λ z. get_or (s.trail.starts ++ length s.trail.lits ∷ []) z 0) q ∙ new in omega arith)
        | inr m ↦ omega (arith, old k (omega arith), x.begun k (omega arith))
      ];
      decided = λ k b. elim (cases_eq k (length s.trail.starts)) [
        | inl q ↦ ap (λ z. has_no_clause (node v (lit_at v z)).reason) (ap (λ z. get_or (s.trail.starts ++ length s.trail.lits ∷ []) z 0) q ∙ new) ∙ ap (λ (z : Reason). has_no_clause z) last
        | inr m ↦
            let lt : k < length s.trail.starts = omega arith in
            ap (λ z. has_no_clause (node v (lit_at v z)).reason) (old k lt) ∙ ap (λ (z : Reason). has_no_clause z) (front (get_or s.trail.starts k 0) (x.begun k lt)) ∙ x.decided k lt
      ];
      caused = λ i k b c d e.
          let apart : i ≢ length s.trail.lits = λ q. e (length s.trail.starts) (omega arith) (new ∙ sym q) in
          let lt : i < length s.trail.lits = omega arith in
          elim (cases_eq k (length s.trail.starts)) [
            | inl q ↦ absurd (let f : get_or (s.trail.starts ++ length s.trail.lits ∷ []) k 0 ≡ length s.trail.lits = ap (λ z. get_or (s.trail.starts ++ length s.trail.lits ∷ []) z 0) q ∙ new in omega arith)
            | inr m ↦
                let known : k < length s.trail.starts = omega arith in
                let begun : get_or s.trail.starts k 0 ≤ i = omega (arith, old k known) in
                ap (λ (z : Reason). has_no_clause z) (front i lt) ∙ x.caused i k known begun lt (λ j y f. e j (omega arith) (old j y ∙ f))
          ];
    }

levels_moved : (words live words' : List ℕ) (implied : List (List ℕ)) (s s' : PropagationState) → StateIsConsistent s → PropagationEffect live implied words s words' s' → LevelsBeginWithDecisions s → LevelsBeginWithDecisions s'
levels_moved words live words' implied s s' h m x =
    let front : (i : ℕ) → i < length s.trail.lits → (node s' (lit_at s' i)).reason ≡ (node s (lit_at s i)).reason = λ i b.
    ap (λ l. (node s' l).reason) (m.grows.front i b) ∙ ap (λ (z : ImplNode). z.reason) (m.grows.nodes (lit_at s i) (h.holds i b)) in
    let longer : length s.trail.lits ≤ length s'.trail.lits = m.grows.longer in
    let begun : (k : ℕ) → k < length s.trail.starts → get_or s.trail.starts k 0 < length s'.trail.lits = λ k b. omega (arith, x.begun k b) in
    let decided : (k : ℕ) → k < length s.trail.starts → has_no_clause (node s' (lit_at s' (get_or s.trail.starts k 0))).reason ≡ true = λ k b.
    ap (λ (z : Reason). has_no_clause z) (front (get_or s.trail.starts k 0) (x.begun k b)) ∙ x.decided k b in
    let caused : (i k : ℕ) → k < length s.trail.starts → get_or s.trail.starts k 0 ≤ i → i < length s'.trail.lits → BeginsNoLevel s.trail.starts i → has_no_clause (node s' (lit_at s' i)).reason ≡ false =
    λ i k b c d e. elim (cases_lt i (length s.trail.lits)) [
      | inl lt ↦ ap (λ (z : Reason). has_no_clause z) (front i lt) ∙ x.caused i k b c lt e
      | inr le ↦ (m.caused i le d).1
    ] in
    let Whole : List ℕ → Type 0 = λ starts.
    ((j k : ℕ) → j < k → k < length starts → get_or starts j 0 < get_or starts k 0)
    × ((k : ℕ) → k < length starts → get_or starts k 0 < length s'.trail.lits)
    × ((k : ℕ) → k < length starts → has_no_clause (node s' (lit_at s' (get_or starts k 0))).reason ≡ true)
    × ((i k : ℕ) → k < length starts → get_or starts k 0 ≤ i → i < length s'.trail.lits → BeginsNoLevel starts i → has_no_clause (node s' (lit_at s' i)).reason ≡ false) in
    let whole : Whole s'.trail.starts = subst Whole (sym m.grows.starts) (x.strict, begun, decided, caused) in
    record { strict = whole.0; begun = whole.1; decided = whole.2; caused = whole.3 }

levels_undone : (a : Values) (nodes : List ImplNode) (t : TrailState) (level : ℕ) → StateIsConsistent (state_of a nodes t) → level < length t.starts → LevelsBeginWithDecisions (state_of a nodes t) →
    LevelsBeginWithDecisions (state_of (with_levels_undone level t a) nodes (without_levels_above level t))
levels_undone a nodes t level h lt x =
    let cut : ℕ = get_or t.starts level 0 in
    let within : get_or t.starts level 0 < length t.lits = x.begun level lt in
    let size : length (take (get_or t.starts level 0) t.lits) ≡ get_or t.starts level 0 = length-take-le (get_or t.starts level 0) t.lits (omega arith) in
    let fewer : length (take level t.starts) ≡ level = length-take-le level t.starts (omega arith) in
    let old : (k : ℕ) → k < level → get_or (take level t.starts) k 0 ≡ get_or t.starts k 0 = λ k b. get_or-take level t.starts k 0 b in
    let at : (i : ℕ) → i < get_or t.starts level 0 → get_or (take (get_or t.starts level 0) t.lits) i 0 ≡ get_or t.lits i 0 = λ i b. get_or-take (get_or t.starts level 0) t.lits i 0 b in
    let s : PropagationState = state_of a nodes t in
    record {
      strict = λ j k b c. omega (arith, old j (omega arith), old k (omega arith), x.strict j k b (omega arith));
      begun = λ k b. omega (arith, old k (omega arith), x.strict k level (omega arith) lt);
      decided = λ k b.
          let c : k < level = omega arith in
          ap (λ z. has_no_clause (node s (get_or (take (get_or t.starts level 0) t.lits) z 0)).reason) (old k c)
          ∙ ap (λ z. has_no_clause (node s z).reason) (at (get_or t.starts k 0) (x.strict k level c lt)) ∙ x.decided k (omega arith);
      caused = λ i k b c d e.
          let f : i < get_or t.starts level 0 = omega arith in
          let g : k < level = omega arith in
          ap (λ z. has_no_clause (node s z).reason) (at i f)
          ∙ x.caused i k (omega arith) (omega (arith, old k g)) (omega arith) (λ j y q. elim (cases_lt j level) [
            | inl z ↦ e j (omega arith) (old j z ∙ q)
            | inr le ↦ elim (cases_eq j level) [
              | inl w ↦ (let v : get_or t.starts j 0 ≡ get_or t.starts level 0 = ap (λ z. get_or t.starts z 0) w in omega arith)
              | inr ne ↦ omega (arith, x.strict level j (omega arith) y)
            ]
          ]);
    }

pub levels_stay : LevelsArePreserved
levels_stay = record { none = levels_none; decides = levels_decided; caused = levels_caused; moves = levels_moved; undone = levels_undone }

or_false : (a b : Bool) → a ≡ false → b ≡ false → (a || b) ≡ false
or_false true b e f = e
or_false false b e f = f

or_true : (a : Bool) → (a || true) ≡ true
or_true true = refl
or_true false = refl

or_none : (a : Bool) → (a || false) ≡ a
or_none true = refl
or_none false = refl

or_assoc : (a b c : Bool) → ((a || b) || c) ≡ (a || (b || c))
or_assoc true b c = refl
or_assoc false b c = refl

begins_none : (starts : List ℕ) (i : ℕ) → BeginsNoLevel starts i → begins_level starts i ≡ false
begins_none [] i h = refl
begins_none (k ∷ ks) i h = or_false (k == i) (begins_level ks i) (ne_eqb k i (h 0 (omega arith))) (begins_none ks i (λ j b e. h (suc j) (omega arith) e))

begins_append : (xs ys : List ℕ) (i : ℕ) → begins_level (xs ++ ys) i ≡ (begins_level xs i || begins_level ys i)
begins_append [] ys i = refl
begins_append (x ∷ xs) ys i = ap (λ b. (x == i) || b) (begins_append xs ys i) ∙ sym (or_assoc (x == i) (begins_level xs i) (begins_level ys i))

begins_there : (xs : List ℕ) (k : ℕ) → k < length xs → begins_level xs (get_or xs k 0) ≡ true
begins_there [] k b = absurd (omega arith)
begins_there (x ∷ xs) zero b = ap (λ c. c || begins_level xs x) (eq-eqb x x refl)
begins_there (x ∷ xs) (suc k) b = ap (λ c. (x == get_or xs k 0) || c) (begins_there xs k (omega arith)) ∙ or_true (x == get_or xs k 0)

-- letters depend only on which levels begin at their positions
letters_same : (xs ys lits : List ℕ) (at : ℕ) → ((i : ℕ) → at ≤ i → i < at + length lits → begins_level xs i ≡ begins_level ys i) → letters xs lits at ≡ letters ys lits at
letters_same xs ys [] at h = refl
letters_same xs ys (l ∷ ls) at h =
    ap (λ (b : Bool). cond b D P ∷ letters xs ls (at + 1)) (h at (omega arith) (omega arith))
    ∙ ap (λ (w : List Letter). trail_letter ys at ∷ w) (letters_same xs ys ls (at + 1) (λ i b c. h i (omega arith) (omega arith)))

letters_append : (starts xs ys : List ℕ) (at : ℕ) → letters starts (xs ++ ys) at ≡ letters starts xs at ++ letters starts ys (at + length xs)
letters_append starts [] ys at = ap (λ n. letters starts ys n) (omega arith)
letters_append starts (x ∷ xs) ys at =
    ap (λ (w : List Letter). trail_letter starts at ∷ w) (letters_append starts xs ys (at + 1) ∙ ap (λ n. letters starts xs (at + 1) ++ letters starts ys n) (omega arith))

word_caused : (s : PropagationState) (l : ℕ) → LevelsBeginWithDecisions s → trail_word (with_lit l s.trail) ≡ trail_word s.trail ++ P ∷ []
word_caused s l x =
    let t : TrailState = s.trail in
    let none : begins_level s.trail.starts (0 + length s.trail.lits) ≡ false = begins_none s.trail.starts (0 + length s.trail.lits) (λ k b e. omega (arith, x.begun k b)) in
    let last : letters s.trail.starts (l ∷ []) (0 + length s.trail.lits) ≡ P ∷ [] = ap (λ (b : Bool). cond b D P ∷ []) none in
    ap (λ (w : List Letter). replicate t.cleared P ++ w) (letters_append t.starts t.lits (l ∷ []) 0 ∙ ap (λ (w : List Letter). letters t.starts t.lits 0 ++ w) last)
    ∙ sym (append_assoc (replicate t.cleared P) (letters t.starts t.lits 0) (P ∷ []))

word_decided : (s : PropagationState) (l : ℕ) → LevelsBeginWithDecisions s → trail_word (with_lit l (with_level s.trail)) ≡ trail_word s.trail ++ D ∷ []
word_decided s l x =
    let t : TrailState = s.trail in
    let n : ℕ = length s.trail.lits in
    let more : List ℕ = s.trail.starts ++ length s.trail.lits ∷ [] in
    let there : begins_level (s.trail.starts ++ length s.trail.lits ∷ []) (0 + length s.trail.lits) ≡ true =
    begins_append s.trail.starts (length s.trail.lits ∷ []) (0 + length s.trail.lits)
    ∙ ap (λ b. begins_level s.trail.starts (0 + length s.trail.lits) || (b || false)) (eq-eqb (length s.trail.lits) (0 + length s.trail.lits) (omega arith))
    ∙ or_true (begins_level s.trail.starts (0 + length s.trail.lits)) in
    let last : letters more (l ∷ []) (0 + length s.trail.lits) ≡ D ∷ [] = ap (λ (b : Bool). cond b D P ∷ []) there in
    let front : letters more t.lits 0 ≡ letters t.starts t.lits 0 = letters_same more t.starts t.lits 0 (λ i a b.
    begins_append t.starts (n ∷ []) i
    ∙ ap (λ c. begins_level t.starts i || (c || false)) (ne_eqb n i (λ e. omega arith)) ∙ or_none (begins_level t.starts i)) in
    ap (λ (w : List Letter). replicate t.cleared P ++ w) (letters_append more t.lits (l ∷ []) 0 ∙ ap (λ (w : List Letter). letters more t.lits 0 ++ w) last ∙ ap (λ (w : List Letter). w ++ D ∷ []) front)
    ∙ sym (append_assoc (replicate t.cleared P) (letters t.starts t.lits 0) (D ∷ []))

below_there : (pre u v : List Letter) → IsLowerWord (pre ++ D ∷ u) (pre ++ P ∷ v)
below_there [] u v = tt
below_there (D ∷ w) u v = below_there w u v
below_there (P ∷ w) u v = below_there w u v

-- the items from an index on
from_place : (xs : List ℕ) (k : ℕ) → k < length xs → drop k xs ≡ get_or xs k 0 ∷ drop (suc k) xs
from_place [] k b = absurd (omega arith)
from_place (x ∷ xs) zero b = refl
from_place (x ∷ xs) (suc k) b = from_place xs k (omega arith)

word_rises : (s : PropagationState) (l level : ℕ) → LevelsBeginWithDecisions s → level < length s.trail.starts → IsLowerWord (trail_word s.trail) (trail_word (with_lit l (without_levels_above level s.trail)))
word_rises s l level x lt =
    let t : TrailState = s.trail in
    let cut : ℕ = get_or s.trail.starts level 0 in
    let few : List ℕ = take level s.trail.starts in
    let front : List ℕ = take (get_or s.trail.starts level 0) s.trail.lits in
    let within : get_or s.trail.starts level 0 < length s.trail.lits = x.begun level lt in
    let size : length (take (get_or s.trail.starts level 0) s.trail.lits) ≡ get_or s.trail.starts level 0 = length-take-le (get_or s.trail.starts level 0) s.trail.lits (omega arith) in
    let fewer : length (take level s.trail.starts) ≡ level = length-take-le level s.trail.starts (omega arith) in
    let late : (k : ℕ) → level ≤ k → k < length s.trail.starts → get_or s.trail.starts level 0 ≤ get_or s.trail.starts k 0 = λ k a b. elim (cases_eq level k) [
      | inl e ↦ (let f : get_or s.trail.starts level 0 ≡ get_or s.trail.starts k 0 = ap (λ z. get_or s.trail.starts z 0) e in omega arith)
      | inr n ↦ omega (arith, x.strict level k (omega arith) b)
    ] in
    let same : (i : ℕ) → i < get_or s.trail.starts level 0 → begins_level s.trail.starts i ≡ begins_level (take level s.trail.starts) i = λ i b.
    ap (λ (xs : List ℕ). begins_level xs i) (sym (take-append-drop level s.trail.starts)) ∙ begins_append (take level s.trail.starts) (drop level s.trail.starts) i
    ∙ ap (λ c. begins_level (take level s.trail.starts) i || c) (begins_none (drop level s.trail.starts) i (λ k y e.
    let n : length (drop level s.trail.starts) ≡ length s.trail.starts - level = length-drop level s.trail.starts in
    omega (arith, late (level + k) (omega arith) (omega arith), get_or-drop level s.trail.starts k 0)))
    ∙ or_none (begins_level (take level s.trail.starts) i) in
    let none : begins_level (take level s.trail.starts) (0 + length front) ≡ false = begins_none (take level s.trail.starts) (0 + length front) (λ k b e.
    omega (arith, x.strict k level (omega arith) lt, get_or-take level s.trail.starts k 0 (omega arith))) in
    let there : begins_level s.trail.starts (0 + length front) ≡ true = ap (λ i. begins_level s.trail.starts i) (omega arith) ∙ begins_there s.trail.starts level lt in
    let old : letters t.starts t.lits 0 ≡ letters few front 0 ++ D ∷ letters t.starts (drop (suc cut) t.lits) (0 + length front + 1) =
    ap (λ (xs : List ℕ). letters t.starts xs 0) (sym (take-append-drop cut t.lits)) ∙ letters_append t.starts front (drop cut t.lits) 0
    ∙ ap (λ (xs : List ℕ). letters t.starts front 0 ++ letters t.starts xs (0 + length front)) (from_place t.lits cut within)
    ∙ ap (λ (b : Bool). letters t.starts front 0 ++ cond b D P ∷ letters t.starts (drop (suc cut) t.lits) (0 + length front + 1)) there
    ∙ ap (λ (w : List Letter). w ++ D ∷ letters t.starts (drop (suc cut) t.lits) (0 + length front + 1)) (letters_same t.starts few front 0 (λ i a b. same i (omega arith))) in
    let new : letters few (front ++ l ∷ []) 0 ≡ letters few front 0 ++ P ∷ [] =
    letters_append few front (l ∷ []) 0 ∙ ap (λ (b : Bool). letters few front 0 ++ cond b D P ∷ []) none in
    let pre : List Letter = replicate t.cleared P ++ letters few front 0 in
    let whole : trail_word t ≡ pre ++ D ∷ letters t.starts (drop (suc cut) t.lits) (0 + length front + 1) =
    ap (λ (w : List Letter). replicate t.cleared P ++ w) old
    ∙ sym (append_assoc (replicate t.cleared P) (letters few front 0) (D ∷ letters t.starts (drop (suc cut) t.lits) (0 + length front + 1))) in
    let whole' : trail_word (with_lit l (without_levels_above level t)) ≡ pre ++ P ∷ [] =
    ap (λ (w : List Letter). replicate t.cleared P ++ w) new ∙ sym (append_assoc (replicate t.cleared P) (letters few front 0) (P ∷ [])) in
    subst (λ (w : List Letter). IsLowerWord w (trail_word (with_lit l (without_levels_above level t)))) (sym whole)
    (subst (λ (w : List Letter). IsLowerWord (pre ++ D ∷ letters t.starts (drop (suc cut) t.lits) (0 + length front + 1)) w) (sym whole')
    (below_there pre (letters t.starts (drop (suc cut) t.lits) (0 + length front + 1)) []))

pub words_rise : TrailWordsIncrease
words_rise = record { decided = word_decided; caused = word_caused; rises = word_rises }
