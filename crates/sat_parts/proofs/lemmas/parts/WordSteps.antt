-- Words of trails since an ask began, as the search proceeds.
use Rattle.std.proofs.Common.{ℕ, ◌≡◌, ◌≢◌, ◌+◌, ◌-◌, ◌<◌, ◌≤◌, ◌⊎◌, inl, inr, List, [], ◌∷◌, ◌++◌, map, suc, zero, length, get_or, take, drop, refl, sym, ap, ◌∙◌, subst, arith, append_assoc, true, false, Some, None, Result, Ok, Err, ◌/◌, eqb, set, get_or-set_other, get_or-set_same, length-set}
use Rattle.std.specs.Prelude.{replicate, OnOk, OnErr}
use Rattle.sat_parts.specs.declared.prop.graph.Conflict.{Conflict}
use Rattle.sat_store.specs.declared.clause.alloc.StoreError.{StoreError}
use Rattle.sat_parts.specs.prop.Propagation.{PropagationResult}
use Rattle.sat_parts.specs.clause.Collected.{CollectsGarbage, CollectsNothing}
use Rattle.sat_parts.proofs.lemmas.parts.MoveLemmas.{sound_propagated}
use Rattle.std.specs.List.{Contains}
use Rattle.std.proofs.lemmas.Bool.{cases_eq, cases_lt, ne_eqb, eqb-true, true≢false}
use Rattle.std.proofs.lemmas.List.{length-take-le, take-append-drop, length-append, length-map, get_or-map, get_or_append_left, get_or-append_right, get_or-drop, length-drop}
use Rattle.std.proofs.lemmas.Map.Keys.{IsDistinct-from_apart}
use Rattle.std.proofs.lemmas.Map.Steps.{length-le_from_distinct_below}
use Rattle.std.proofs.lemmas.Map.Views.{Contains-from_any}
use Rattle.sat_base.specs.values.Literals.{variable, is_positive}
use Rattle.sat_store.specs.heap.Vsids.{Queue, is_available, with_available}
use Rattle.sat_parts.specs.declared.prop.graph.ImplNode.{ImplNode}
use Rattle.sat_parts.specs.declared.prop.graph.Reason.{Reason}
use Rattle.sat_parts.specs.declared.prop.graph.Reason.TheVariants.{Unit as NoCause, Binary, Long}
use Rattle.sat_parts.specs.clause.Db.{Db, live_refs}
use Rattle.sat_parts.specs.clause.Orders.{AreDistinct, SameUpToOrder}
use Rattle.sat_parts.specs.clause.Stored.{size_of}
use Rattle.sat_parts.specs.prop.Binaries.{Binaries}
use Rattle.sat_parts.specs.prop.WatchLists.{WatchState}
use Rattle.sat_parts.specs.prop.Values.{Values, value_of, with_value, IsTrueLit, IsUnassignedLit}
use Rattle.sat_parts.specs.prop.Graphs.{has_no_clause}
use Rattle.sat_parts.specs.prop.Trails.{TrailState, with_lit, with_level, with_cleared, without_levels_above}
use Rattle.sat_parts.specs.prop.State.{PropagationState, lit_at, TrailGrows, StateIsConsistent, enqueued}
use Rattle.sat_parts.specs.prop.Reasons.{ReasonImplies, PropagationEffect}
use Rattle.sat_parts.specs.prop.Ready.{state_of}
use Rattle.sat_parts.specs.prop.Undone.{with_levels_undone, lits_above_level, with_all_available}
use Rattle.sat_parts.specs.prop.Backtracked.{BacktrackEffect}
use Rattle.sat_parts.specs.prop.TrailWord.{Letter, D, P, trail_letter, letters, IsLowerWord, LevelsBeginWithDecisions, decided_on}
use Rattle.sat_parts.proofs.lemmas.prop.WordLemmas.{words_rise}
use Rattle.sat_parts.proofs.lemmas.prop.StateLemmas.{removed_forth, true_kept, node_kept}
use Rattle.sat_parts.proofs.lemmas.prop.RoomLemmas.{places_apart, below_from_value}
use Rattle.sat_parts.proofs.lemmas.prop.BacktrackLemmas.{keeps_low, undone_length}
use Rattle.sat_parts.proofs.lemmas.prop.BuildLemmas.{live_in}
use Rattle.sat_parts.specs.declared.parts.SearchState.{SearchState}
use Rattle.sat_parts.specs.parts.Whole.{state}
use Rattle.sat_parts.specs.parts.Round.{IsInNoClause, PartsInvariantBelow}
use Rattle.sat_parts.specs.parts.Units.{with_removed_units}
use Rattle.sat_parts.specs.parts.Words.{IsPrefixWord, trail_letters, IsIdle, IsRemovedOrIdle, KeepsRemovedAndIdle, IsWordSinceAsk, WordExtends, WordIncreases, IsTrailWordSinceAsk, KeepsRemovedAndIdleForAll, TrailWordExtends, TrailWordIncreases, TrailWordExtendsFor, TrailWordIncreasesFor}
use Rattle.sat_parts.proofs.lemmas.parts.ValueLemmas.{open_or_true, not_true}
use Rattle.sat_parts.proofs.lemmas.parts.ClearLemmas.{all_removed, apart_removed}

append_none : (u : List Letter) → u ++ [] ≡ u
append_none [] = refl
append_none (x ∷ u) = ap (λ (v : List Letter). x ∷ v) (append_none u)

pub begins_refl : (u : List Letter) → IsPrefixWord u u
begins_refl u = ([], sym (append_none u))

pub begins_trans : (u v w : List Letter) → IsPrefixWord u v → IsPrefixWord v w → IsPrefixWord u w
begins_trans u v w x y = (x.0 ++ y.0, y.1 ∙ ap (λ (z : List Letter). z ++ y.0) x.1 ∙ append_assoc u x.0 y.0)

-- a prefix of a lower word is lower
pub below_front : (u w z : List Letter) → IsLowerWord (u ++ w) z → IsLowerWord u z
below_front [] [] [] h = h
below_front [] [] (y ∷ z) h = tt
below_front [] (x ∷ w) [] h = absurd h
below_front [] (x ∷ w) (y ∷ z) h = tt
below_front (x ∷ u) w [] h = h
below_front (D ∷ u) w (D ∷ z) h = below_front u w z h
below_front (D ∷ u) w (P ∷ z) h = tt
below_front (P ∷ u) w (D ∷ z) h = h
below_front (P ∷ u) w (P ∷ z) h = below_front u w z h

-- prepending the same letters to both words
below_after : (k : ℕ) (u v : List Letter) → IsLowerWord u v → IsLowerWord (replicate k P ++ u) (replicate k P ++ v)
below_after zero u v h = h
below_after (suc k) u v h = below_after k u v h

begins_after : (k : ℕ) (u v : List Letter) → IsPrefixWord u v → IsPrefixWord (replicate k P ++ u) (replicate k P ++ v)
begins_after k u v x = (x.0, ap (λ (z : List Letter). replicate k P ++ z) x.1 ∙ sym (append_assoc (replicate k P) u x.0))

-- letters depend only on positions
letters_length : (starts xs ys : List ℕ) (at : ℕ) → length xs ≡ length ys → letters starts xs at ≡ letters starts ys at
letters_length starts [] [] at e = refl
letters_length starts [] (y ∷ ys) at e = absurd (omega arith)
letters_length starts (x ∷ xs) [] at e = absurd (omega arith)
letters_length starts (x ∷ xs) (y ∷ ys) at e = ap (λ (w : List Letter). trail_letter starts at ∷ w) (letters_length starts xs ys (at + 1) (omega arith))

letters_append : (starts xs ys : List ℕ) (at : ℕ) → letters starts (xs ++ ys) at ≡ letters starts xs at ++ letters starts ys (at + length xs)
letters_append starts [] ys at = ap (λ n. letters starts ys n) (omega arith)
letters_append starts (x ∷ xs) ys at =
    ap (λ (w : List Letter). trail_letter starts at ∷ w) (letters_append starts xs ys (at + 1) ∙ ap (λ n. letters starts xs (at + 1) ++ letters starts ys n) (omega arith))

letters_count : (starts xs : List ℕ) (at : ℕ) → length (letters starts xs at) ≡ length xs
letters_count starts [] at = refl
letters_count starts (x ∷ xs) at = ap (λ n. suc n) (letters_count starts xs (at + 1))

-- appending literals extends the word
pub standing_grown : (s s' : PropagationState) → TrailGrows s s' → IsPrefixWord (trail_letters s.trail) (trail_letters s'.trail)
standing_grown s s' g =
    let n : ℕ = length s.trail.lits in
    let starts : List ℕ = s.trail.starts in
    let size : length (take (length s.trail.lits) s'.trail.lits) ≡ length s.trail.lits = length-take-le (length s.trail.lits) s'.trail.lits g.longer in
    let rest : List Letter = letters starts (drop n s'.trail.lits) (0 + length (take n s'.trail.lits)) in (
      rest,
      ap (λ (xs : List ℕ). letters xs s'.trail.lits 0) g.starts ∙ ap (λ (xs : List ℕ). letters s.trail.starts xs 0) (sym (take-append-drop n s'.trail.lits))
          ∙ letters_append starts (take n s'.trail.lits) (drop n s'.trail.lits) 0 ∙ ap (λ (w : List Letter). w ++ rest) (letters_length starts (take n s'.trail.lits) s.trail.lits 0 size),
    )

-- the state with no literal counted as cleared, whose word has only the letters of its trail
abbrev from_now : PropagationState → PropagationState
from_now s = record s { trail = record s.trail { cleared = 0 } }

levelled_now : (s : PropagationState) → LevelsBeginWithDecisions s → LevelsBeginWithDecisions (from_now s)
levelled_now s x = record { strict = x.strict; begun = x.begun; decided = x.decided; caused = x.caused }

-- a decision appends a letter to those of the trail
pub standing_decided : (s : PropagationState) (l : ℕ) → LevelsBeginWithDecisions s → IsPrefixWord (trail_letters s.trail) (trail_letters (with_lit l (with_level s.trail)))
standing_decided s l x = (D ∷ [], words_rise.decided (from_now s) l (levelled_now s x))

-- undoing levels and appending a literal raises the letters of the trail
pub standing_learned : (s : PropagationState) (l v : ℕ) → LevelsBeginWithDecisions s → v < length s.trail.starts → IsLowerWord (trail_letters s.trail) (trail_letters (with_lit l (without_levels_above v s.trail)))
standing_learned s l v x lt = words_rise.rises (from_now s) l v (levelled_now s x) lt

-- no literal on the trail has a variable that is gone
gone_off : (am : List ℕ) → (s : PropagationState) (q : Queue) (v i : ℕ) → StateIsConsistent s → IsRemovedOrIdle am s q v → i < length s.trail.lits → variable (lit_at s i) ≢ v
gone_off am s q v i h x b e = elim x.1 [
  | inl r ↦ apart_removed s r.0 i h r.1.1 b (e ∙ sym r.1.0)
  | inr n ↦ not_true s.values v (lit_at s i) n.0 e (h.holds i b)
]

-- the variables on the trail, and those that are gone
abbrev taken : PropagationState → List ℕ → List ℕ
taken s gone = map (λ l. variable l) s.trail.lits ++ gone

taken_length : (s : PropagationState) (gone : List ℕ) → length (taken s gone) ≡ length s.trail.lits + length gone
taken_length s gone = length-append (map (λ l. variable l) s.trail.lits) gone ∙ ap (λ n. n + length gone) (length-map s.trail.lits (λ l. variable l))

taken_front : (s : PropagationState) (gone : List ℕ) (i d : ℕ) → i < length s.trail.lits → get_or (taken s gone) i d ≡ variable (lit_at s i)
taken_front s gone i d b =
    get_or_append_left (map (λ l. variable l) s.trail.lits) gone d i (omega (arith, length-map s.trail.lits (λ l. variable l)))
    ∙ get_or-map (λ l. variable l) s.trail.lits i 0 d b

taken_back : (s : PropagationState) (gone : List ℕ) (i d : ℕ) → length s.trail.lits ≤ i → get_or (taken s gone) i d ≡ get_or gone (i - length s.trail.lits) d
taken_back s gone i d b =
    get_or-append_right (map (λ l. variable l) s.trail.lits) gone (length s.trail.lits) i d (length-map s.trail.lits (λ l. variable l)) b

pub default_free : (xs : List ℕ) (i d e : ℕ) → i < length xs → get_or xs i d ≡ get_or xs i e
default_free [] i d e b = absurd (omega arith)
default_free (x ∷ xs) zero d e b = refl
default_free (x ∷ xs) (suc i) d e b = default_free xs i d e (omega arith)

-- all of them are different
taken_distinct : (am : List ℕ) → (s : PropagationState) (q : Queue) (gone : List ℕ) → StateIsConsistent s → AreDistinct gone → ((k : ℕ) → k < length gone → IsRemovedOrIdle am s q (get_or gone k 0)) → AreDistinct (taken s gone)
taken_distinct am s q gone h distinct each i j p r e =
    let n : length (taken s gone) ≡ length s.trail.lits + length gone = taken_length s gone in
    elim (cases_lt i (length s.trail.lits)) [
      | inl a ↦ elim (cases_lt j (length s.trail.lits)) [
        | inl b ↦ places_apart s i j h a b (sym (taken_front s gone i 0 a) ∙ e ∙ taken_front s gone j 0 b)
        | inr b ↦ absurd (gone_off am s q (get_or gone (j - length s.trail.lits) 0) i h (each (j - length s.trail.lits) (omega arith)) a (sym (taken_front s gone i 0 a) ∙ e ∙ taken_back s gone j 0 b))
      ]
      | inr a ↦ elim (cases_lt j (length s.trail.lits)) [
        | inl b ↦ absurd (gone_off am s q (get_or gone (i - length s.trail.lits) 0) j h (each (i - length s.trail.lits) (omega arith)) b (sym (taken_front s gone j 0 b) ∙ sym e ∙ taken_back s gone i 0 a))
        | inr b ↦
            let same : i - length s.trail.lits ≡ j - length s.trail.lits = distinct (i - length s.trail.lits) (j - length s.trail.lits) (omega arith) (omega arith) (sym (taken_back s gone i 0 a) ∙ e ∙ taken_back s gone j 0 b) in
            omega arith
      ]
    ]

taken_there : (am : List ℕ) → (s : PropagationState) (q : Queue) (gone : List ℕ) (i : ℕ) → StateIsConsistent s → ((k : ℕ) → k < length gone → IsRemovedOrIdle am s q (get_or gone k 0)) → i < length (taken s gone) → get_or (taken s gone) i 0 < length s.values
taken_there am s q gone i h each b =
    let n : length (taken s gone) ≡ length s.trail.lits + length gone = taken_length s gone in
    elim (cases_lt i (length s.trail.lits)) [
      | inl a ↦ subst (λ (z : ℕ). z < length s.values) (sym (taken_front s gone i 0 a)) (below_from_value s.values (variable (lit_at s i)) (is_positive (lit_at s i)) (h.holds i a))
      | inr a ↦ subst (λ (z : ℕ). z < length s.values) (sym (taken_back s gone i 0 a)) (each (i - length s.trail.lits) (omega arith)).0
    ]

-- a bound is at least the number of different numbers below it
pub fits_below : (xs : List ℕ) (n : ℕ) → AreDistinct xs → ((i : ℕ) → i < length xs → get_or xs i 0 < n) → length xs ≤ n
fits_below xs n distinct below =
    length-le_from_distinct_below xs n
    (IsDistinct-from_apart eqb xs (λ i j d lt b. ne_eqb (get_or xs i d) (get_or xs j d) (λ e.
    let same : i ≡ j = distinct i j (omega arith) b (default_free xs i 0 d (omega arith) ∙ e ∙ default_free xs j d 0 b) in
    omega arith)))
    (λ q any.
    let c : Contains xs q = Contains-from_any {eq = eqb} (λ x y e. eqb-true x y e) q xs any in
    subst (λ (z : ℕ). z < n) (default_free xs c.0 0 q c.1 ∙ c.2) (below c.0 c.1))

-- a word has at most one letter for every variable
pub word_fits : (am : List ℕ) → (s : PropagationState) (q : Queue) (w : List Letter) → StateIsConsistent s → IsWordSinceAsk am s q w → length w ≤ length s.values
word_fits am s q w h x =
    let n : length (taken s x.gone) ≡ length s.trail.lits + length x.gone = taken_length s x.gone in
    let all : length (taken s x.gone) ≤ length s.values = fits_below (taken s x.gone) (length s.values) (taken_distinct am s q x.gone h x.distinct x.each) (λ i b. taken_there am s q x.gone i h x.each b) in
    omega (arith, ap (λ (v : List Letter). length v) x.is, length-append (replicate (length x.gone) P) (trail_letters s.trail), count_of (length x.gone), letters_count s.trail.starts s.trail.lits 0)
  where
    count_of : (k : ℕ) → length (replicate k P) ≡ k
    count_of zero = refl
    count_of (suc k) = ap (λ n. suc n) (count_of k)

-- variables that are gone stay so when a literal becomes true whose variable may be picked or is assumed
module _ (am : List ℕ) (s : PropagationState) (q : Queue) (l : ℕ) (r : Reason) (unset : IsUnassignedLit s.values l) (picks : (is_available q (variable l) ≡ true) ⊎ Contains am (variable l)) where
  idle_enqueued : (v : ℕ) → IsIdle am s q v → IsIdle am (enqueued l r s) q v
  idle_enqueued v y =
      let other : v ≢ variable l = λ e. elim picks [
        | inl p ↦ true≢false (sym (ap (λ u. is_available q u) e ∙ p) ∙ y.1)
        | inr c ↦ y.2 (subst (λ u. Contains am u) (sym e) c)
      ] in
      (get_or-set_other s.values (variable l) v (Some (is_positive l)) None other ∙ y.0, y.1, y.2)

  pub gone_enqueued : KeepsRemovedAndIdle am s q (enqueued l r s) q
  gone_enqueued = record {
    size = length-set s.values (variable l) (Some (is_positive l));
    gone = λ v x. (
      omega (arith, x.0, length-set s.values (variable l) (Some (is_positive l))),
      elim x.1 [
        | inl y ↦ inl (
          y.0,
          (
            y.1.0,
            record {
              holds = true_kept s l y.0 r unset y.1.1.holds;
              depth = ap (λ (z : ImplNode). z.depth) (node_kept s l y.0 r unset y.1.1.holds) ∙ y.1.1.depth;
              bottom = ap (λ (z : ImplNode). z.level) (node_kept s l y.0 r unset y.1.1.holds) ∙ y.1.1.bottom;
            },
          ),
        )
        | inr y ↦ inr (idle_enqueued v y)
      ],
    );
    idle = idle_enqueued;
  }

-- gone and idle variables stay so after a decision
pub gone_decided : (am : List ℕ) → (s : PropagationState) (q q' : Queue) (l : ℕ) → IsUnassignedLit s.values l → (is_available q (variable l) ≡ true) ⊎ Contains am (variable l) → ((u : ℕ) → is_available q u ≡ false → is_available q' u ≡ false) → KeepsRemovedAndIdle am s q (decided_on l s) q'
gone_decided am s q q' l unset picks less =
    let f : KeepsRemovedAndIdle am (record s { trail = with_level s.trail }) q (decided_on l s) q = gone_enqueued am (record s { trail = with_level s.trail }) q l NoCause unset picks in
    record {
      size = f.size;
      gone = λ v x.
          let y : IsRemovedOrIdle am (decided_on l s) q v = f.gone v (
            x.0,
            elim x.1 [
              | inl z ↦ inl (z.0, (z.1.0, record { holds = z.1.1.holds; depth = z.1.1.depth; bottom = z.1.1.bottom }))
              | inr z ↦ inr z
            ],
          ) in
          (y.0, elim y.1 [ inl z ↦ inl z | inr z ↦ inr (z.0, less v z.1, z.2) ]);
      idle = λ v x. (let z : IsIdle am (decided_on l s) q v = f.idle v x in (z.0, less v z.1, z.2));
    }

-- a clause does not make a variable true that is in no clause
implied_used : (words live : List ℕ) (implied : List (List ℕ)) (s : PropagationState) (i : ℕ) (r : Reason) → has_no_clause r ≡ false → ((o : ℕ) → Contains live o → 3 ≤ size_of words o) → ReasonImplies words live implied s i r →
    IsInNoClause words live implied (variable (lit_at s i)) → ⊥
implied_used words live implied s i NoCause clause sizes h u = true≢false clause
implied_used words live implied s i (Binary ls) clause sizes h u = (u.binary _ h.0.0 h.0.1).1 (ap (λ l. variable l) (default_free _ h.0.0 0 _ h.0.1 ∙ h.0.2))
implied_used words live implied s i (Long o) clause sizes h u = u.long o 0 h.0 (omega (arith, sizes o h.0)) (ap (λ l. variable l) h.1)

unused_moved : (words words' refs : List ℕ) (implied : List (List ℕ)) (v : ℕ) → SameUpToOrder words words' refs → live_refs words' refs ≡ live_refs words refs →
    IsInNoClause words (live_refs words refs) implied v → IsInNoClause words' (live_refs words' refs) implied v
unused_moved words words' refs implied v kept e u = record {
  long = λ o k c lt same.
      let d : Contains (live_refs words refs) o = subst (λ (xs : List ℕ). Contains xs o) e c in
      let x = kept.lits o (live_in words refs o d) in
      let j = x.back k (omega (arith, x.size)) in
      u.long o j.0 d j.1.0 (ap (λ l. variable l) j.1.1 ∙ same);
  binary = u.binary;
}

-- variables that are gone stay so in propagation
pub gone_moved : (am : List ℕ) → (words words' : List ℕ) (db : Db) (w w' : WatchState) (b : Binaries) (a a' : Values) (g g' : List ImplNode) (t t' : TrailState) (q : Queue) (top top' : ℕ) →
    PartsInvariantBelow words db w b a g t q top → PartsInvariantBelow words' db w' b a' g' t' q top' → PropagationEffect (live_refs words db.refs) b.implied words (state_of a g t) words' (state_of a' g' t') →
    live_refs words' db.refs ≡ live_refs words db.refs → KeepsRemovedAndIdle am (state_of a g t) q (state_of a' g' t') q
gone_moved am words words' db w w' b a a' g g' t t' q top top' h h' m e = record {
  size = m.grows.size;
  gone = λ v x. (
    omega (arith, x.0, m.grows.size),
    elim x.1 [
      | inl y ↦ inl (y.0, (y.1.0, removed_forth s s' y.0 m.grows y.1.1))
      | inr y ↦ inr (idle v y)
    ],
  );
  idle = idle;
}
  where
    s : PropagationState
    s = state_of a g t

    s' : PropagationState
    s' = state_of a' g' t'

    found : (v : ℕ) → v < length a.current → value_of a.current v ≡ None → is_available q v ≡ false → (l : ℕ) → variable l ≡ v → IsTrueLit a'.current l → ⊥
    found v there none shut l at holds = elim (h'.propagation.agrees.known l holds) [
      | inl y ↦ elim (cases_lt y.place (length t.lits)) [
        | inl lt ↦ not_true a.current v (lit_at (state_of a g t) y.place) none (ap (λ z. variable z) (sym (m.grows.front y.place lt) ∙ y.there) ∙ at) (h.propagation.agrees.holds y.place lt)
        | inr ge ↦ elim (h.ready v there none) [
          | inl p ↦ true≢false (sym p ∙ shut)
          | inr u ↦
              let place : variable (lit_at (state_of a' g' t') y.place) ≡ v = ap (λ z. variable z) y.there ∙ at in
              implied_used words' (live_refs words' db.refs) b.implied (state_of a' g' t') y.place _ (m.caused y.place ge y.within).1 h'.propagation.clauses.long (h'.reasons y.place (omega arith) y.within)
              (subst (λ z. IsInNoClause words' (live_refs words' db.refs) b.implied z) (sym place)
              (unused_moved words words' db.refs b.implied v (m.reorders.all db.refs (λ o c. live_in words db.refs o c) h.propagation.holds_clauses) e u))
        ]
      ]
      | inr r ↦ not_true a.current v l none at (m.grows.removed l r).holds
    ]

    idle : (v : ℕ) → IsIdle am (state_of a g t) q v → IsIdle am (state_of a' g' t') q v
    idle v y = (
      elim (open_or_true a'.current v) [
        | inl none ↦ none
        | inr z ↦
            let there : variable z.0 < length a'.current = below_from_value a'.current (variable z.0) (is_positive z.0) z.1.1 in
            absurd (found v (subst (λ n. v < n) m.grows.size (subst (λ u. u < length a'.current) z.1.0 there)) y.0 y.1 z.0 z.1.0 z.1.1)
      ],
      y.1,
      y.2,
    )

available_other : (ls : List ℕ) (q : Queue) (v : ℕ) → ((k : ℕ) → k < length ls → variable (get_or ls k 0) ≢ v) → is_available (with_all_available ls q) v ≡ is_available q v
available_other [] q v h = refl
available_other (l ∷ ls) q v h =
    available_other ls (with_available (variable l) true q) v (λ k b. h (suc k) (omega arith)) ∙ get_or-set_other q.available (variable l) v true false (λ e. h 0 (omega arith) (sym e))

-- gone and idle variables stay so when levels are undone
pub gone_undone : (am : List ℕ) → (top : ℕ) (a : Values) (g : List ImplNode) (t : TrailState) (q : Queue) → StateIsConsistent (state_of a g t) → top < length t.starts →
    KeepsRemovedAndIdle am (state_of a g t) q (state_of (with_levels_undone top t a) g (without_levels_above top t)) (with_all_available (lits_above_level top t) q)
gone_undone am top a g t q h lt = record {
  size = undone_length (lits_above_level top t) a;
  gone = λ v x. (
    omega (arith, x.0, undone_length (lits_above_level top t) a),
    elim x.1 [
      | inl y ↦ inl (y.0, (y.1.0, k.removed_kept y.0 y.1.1))
      | inr y ↦ inr (idle v y)
    ],
  );
  idle = idle;
}
  where
    k : BacktrackEffect top (state_of a g t) (state_of (with_levels_undone top t a) g (without_levels_above top t))
    k = keeps_low top a g t h lt

    idle : (v : ℕ) → IsIdle am (state_of a g t) q v → IsIdle am (state_of (with_levels_undone top t a) g (without_levels_above top t)) (with_all_available (lits_above_level top t) q) v
    idle v y = (
      elim (open_or_true (with_levels_undone top t a).current v) [
        | inl none ↦ none
        | inr z ↦ absurd (not_true a.current v z.0 y.0 z.1.0 (k.true_kept z.0 z.1.1))
      ],
      available_other (lits_above_level top t) q v (λ i b e.
          let at : get_or (drop (get_or t.starts top 0) t.lits) i 0 ≡ get_or t.lits (get_or t.starts top 0 + i) 0 = get_or-drop (get_or t.starts top 0) t.lits i 0 in
          let size : length (drop (get_or t.starts top 0) t.lits) ≡ length t.lits - get_or t.starts top 0 = length-drop (get_or t.starts top 0) t.lits in
          not_true a.current v (get_or t.lits (get_or t.starts top 0 + i) 0) y.0 (ap (λ l. variable l) (sym at) ∙ e) (h.holds (get_or t.starts top 0 + i) (omega arith)))
          ∙ y.1,
      y.2,
    )

-- gone and idle variables stay so when units are taken off the trail
gone_cleared : (am : List ℕ) → (a : Values) (g : List ImplNode) (t : TrailState) (q : Queue) → StateIsConsistent (state_of a g t) → KeepsRemovedAndIdle am (state_of a g t) q (state_of a (with_removed_units t.lits g) (with_cleared t)) q
gone_cleared am a g t q h = record {
  size = refl;
  gone = λ v x. (
    x.0,
    elim x.1 [
      | inl y ↦ inl (y.0, (y.1.0, all_removed a g t y.0 h y.1.1.holds))
      | inr y ↦ inr y
    ],
  );
  idle = λ v y. y;
}

-- words extend if the letters of the trail do
pub word_goes : (am : List ℕ) → (s : PropagationState) (q : Queue) (s' : PropagationState) (q' : Queue) → KeepsRemovedAndIdle am s q s' q' → IsPrefixWord (trail_letters s.trail) (trail_letters s'.trail) → WordExtends am s q s' q'
word_goes am s q s' q' stay more = (
  stay,
  λ w x. (
    replicate (length x.gone) P ++ trail_letters s'.trail,
    (
      record { gone = x.gone; distinct = x.distinct; each = λ k b. stay.gone (get_or x.gone k 0) (x.each k b); is = refl },
      subst (λ (u : List Letter). IsPrefixWord u (replicate (length x.gone) P ++ trail_letters s'.trail)) (sym x.is) (begins_after (length x.gone) (trail_letters s.trail) (trail_letters s'.trail) more),
    ),
  ),
)

-- words rise if the letters of the trail do
pub word_rises : (am : List ℕ) → (s : PropagationState) (q : Queue) (s' : PropagationState) (q' : Queue) → KeepsRemovedAndIdle am s q s' q' → IsLowerWord (trail_letters s.trail) (trail_letters s'.trail) → WordIncreases am s q s' q'
word_rises am s q s' q' stay more = (
  stay,
  λ w x. (
    replicate (length x.gone) P ++ trail_letters s'.trail,
    (
      record { gone = x.gone; distinct = x.distinct; each = λ k b. stay.gone (get_or x.gone k 0) (x.each k b); is = refl },
      subst (λ (u : List Letter). IsLowerWord u (replicate (length x.gone) P ++ trail_letters s'.trail)) (sym x.is) (below_after (length x.gone) (trail_letters s.trail) (trail_letters s'.trail) more),
    ),
  ),
)

all_pushed : (lits : List ℕ) (at : ℕ) → letters [] lits at ≡ replicate (length lits) P
all_pushed [] at = refl
all_pushed (l ∷ ls) at = ap (λ (w : List Letter). P ∷ w) (all_pushed ls (at + 1))

replicate_sum : (m n : ℕ) → replicate (m + n) P ≡ replicate m P ++ replicate n P
replicate_sum zero n = ap (λ k. replicate k P) (omega arith)
replicate_sum (suc m) n = ap (λ k. replicate k P) (let e : suc m + n ≡ suc (m + n) = omega arith in e) ∙ ap (λ (w : List Letter). P ∷ w) (replicate_sum m n)

-- taking units off the trail keeps the word
pub word_cleared : (am : List ℕ) → (a : Values) (g : List ImplNode) (t : TrailState) (q : Queue) → StateIsConsistent (state_of a g t) → t.starts ≡ [] →
    WordExtends am (state_of a g t) q (state_of a (with_removed_units t.lits g) (with_cleared t)) q
word_cleared am a g t q h e = (
  gone_cleared am a g t q h,
  λ w x.
      let s : PropagationState = state_of a g t in
      let s' : PropagationState = state_of a (with_removed_units t.lits g) (with_cleared t) in
      let n : length (taken (state_of a g t) x.gone) ≡ length t.lits + length x.gone = taken_length (state_of a g t) x.gone in (
        w,
        (
          record {
            gone = taken s x.gone;
            distinct = taken_distinct am s q x.gone h x.distinct x.each;
            each = λ k b. elim (cases_lt k (length t.lits)) [
              | inl lt ↦ subst (λ z. IsRemovedOrIdle am (state_of a (with_removed_units t.lits g) (with_cleared t)) q z) (sym (taken_front (state_of a g t) x.gone k 0 lt)) (
                below_from_value a.current (variable (get_or t.lits k 0)) (is_positive (get_or t.lits k 0)) (h.holds k lt),
                inl (get_or t.lits k 0, (refl, all_removed a g t (get_or t.lits k 0) h (h.holds k lt))),
              )
              | inr ge ↦ subst (λ z. IsRemovedOrIdle am (state_of a (with_removed_units t.lits g) (with_cleared t)) q z) (sym (taken_back (state_of a g t) x.gone k 0 ge))
                  ((gone_cleared am a g t q h).gone (get_or x.gone (k - length t.lits) 0) (x.each (k - length t.lits) (omega arith)))
            ];
            is = x.is ∙ ap (λ (xs : List ℕ). replicate (length x.gone) P ++ letters xs t.lits 0) e ∙ ap (λ (u : List Letter). replicate (length x.gone) P ++ u) (all_pushed t.lits 0)
                ∙ sym (replicate_sum (length x.gone) (length t.lits)) ∙ ap (λ k. replicate k P) (let d : length x.gone + length t.lits ≡ length (taken (state_of a g t) x.gone) = omega arith in d)
                ∙ sym (append_none (replicate (length (taken (state_of a g t) x.gone)) P));
          },
          begins_refl w,
        ),
      ),
)

-- when an ask begins, the word is that of the trail
pub word_begins : (am : List ℕ) (p : SearchState) → IsTrailWordSinceAsk am p (trail_letters p.trail)
word_begins am p = record { gone = []; distinct = λ i j a b e. absurd (omega arith); each = λ k b. absurd (omega arith); is = refl }

pub goes_refl : (am : List ℕ) → (s : PropagationState) (q : Queue) → KeepsRemovedAndIdle am s q s q
goes_refl am s q = record { size = refl; gone = λ v x. x; idle = λ v x. x }

pub goes_trans : (am : List ℕ) → (s : PropagationState) (q : Queue) (s' : PropagationState) (q' : Queue) (s'' : PropagationState) (q'' : Queue) → KeepsRemovedAndIdle am s q s' q' → KeepsRemovedAndIdle am s' q' s'' q'' → KeepsRemovedAndIdle am s q s'' q''
goes_trans am s q s' q' s'' q'' x y = record { size = y.size ∙ x.size; gone = λ v z. y.gone v (x.gone v z); idle = λ v z. y.idle v (x.idle v z) }

pub extends_refl : (p : SearchState) → TrailWordExtends p p
extends_refl p am = (goes_refl am (state p) p.vsids, λ w x. (w, (x, begins_refl w)))

pub extends_after : (am : List ℕ) (p q r : SearchState) → TrailWordExtendsFor am p q → TrailWordExtendsFor am q r → TrailWordExtendsFor am p r
extends_after am p q r x y = (
  goes_trans am (state p) p.vsids (state q) q.vsids (state r) r.vsids x.0 y.0,
  λ w h.
      let a = x.1 w h in
      let b = y.1 a.0 a.1.0 in
      (b.0, (b.1.0, begins_trans w a.0 b.0 a.1.1 b.1.1)),
)

pub extends_trans : (p q r : SearchState) → TrailWordExtends p q → TrailWordExtends q r → TrailWordExtends p r
extends_trans p q r x y am = extends_after am p q r (x am) (y am)

-- a word that is extended and then rises has risen
pub rises_after : (am : List ℕ) (p q r : SearchState) → TrailWordExtendsFor am p q → TrailWordIncreasesFor am q r → TrailWordIncreasesFor am p r
rises_after am p q r x y = (
  goes_trans am (state p) p.vsids (state q) q.vsids (state r) r.vsids x.0 y.0,
  λ w h.
      let a = x.1 w h in
      let b = y.1 a.0 a.1.0 in
      (b.0, (b.1.0, below_front w a.1.1.0 b.0 (subst (λ (u : List Letter). IsLowerWord u b.0) a.1.1.1 b.1.1))),
)

-- fewer variables may be picked
pub extends_fewer : (am : List ℕ) → (s : PropagationState) (q q' : Queue) → ((u : ℕ) → is_available q u ≡ false → is_available q' u ≡ false) → WordExtends am s q s q'
extends_fewer am s q q' less =
    word_goes am s q s q' (record {
      size = refl;
      gone = λ v x. (x.0, elim x.1 [ inl y ↦ inl y | inr y ↦ inr (y.0, less v y.1, y.2) ]);
      idle = λ v y. (y.0, less v y.1, y.2);
    }) (begins_refl (trail_letters s.trail))

pub extends_decided : (am : List ℕ) → (s : PropagationState) (q q' : Queue) (l : ℕ) → IsUnassignedLit s.values l → (is_available q (variable l) ≡ true) ⊎ Contains am (variable l) → ((u : ℕ) → is_available q u ≡ false → is_available q' u ≡ false) → LevelsBeginWithDecisions s → WordExtends am s q (decided_on l s) q'
extends_decided am s q q' l unset picks less levels = word_goes am s q (decided_on l s) q' (gone_decided am s q q' l unset picks less) (standing_decided s l levels)

pub extends_propagated : (am : List ℕ) → (words words' : List ℕ) (db : Db) (w w' : WatchState) (b : Binaries) (a a' : Values) (g g' : List ImplNode) (t t' : TrailState) (q : Queue) (r : Result (Unit {0}) Conflict) →
    PartsInvariantBelow words db w b a g t q (length t.starts + 1) → PropagationResult db.refs b.implied words (state_of a g t) words' (state_of a' g' t') w' r →
    WordExtends am (state_of a g t) q (state_of a' g' t') q
extends_propagated am words words' db w w' b a a' g g' t t' q (Ok x) h given =
    let h' : PartsInvariantBelow words' db w' b a' g' t' q (length t'.starts + 1) = sound_propagated words words' db w w' b a a' g g' t t' q (Ok x) h given in
    word_goes am (state_of a g t) q (state_of a' g' t') q (gone_moved am words words' db w w' b a a' g g' t t' q (length t.starts + 1) (length t'.starts + 1) h h' given.moves given.live)
    (standing_grown (state_of a g t) (state_of a' g' t') given.moves.grows)
extends_propagated am words words' db w w' b a a' g g' t t' q (Err x) h given =
    let h' = sound_propagated words words' db w w' b a a' g g' t t' q (Err x) h given in
    word_goes am (state_of a g t) q (state_of a' g' t') q (gone_moved am words words' db w w' b a a' g g' t t' q (length t.starts + 1) (length t'.starts) h h'.0 given.moves given.live)
    (standing_grown (state_of a g t) (state_of a' g' t') given.moves.grows)

-- a garbage collection keeps the word
pub extends_collect : (am : List ℕ) → (words words' : List ℕ) (db db' : Db) (w w' : WatchState) (a : Values) (g g' : List ImplNode) (t : TrailState) (q : Queue) (r : Result (Unit {0}) StoreError) →
    (length words / 2 < db.garbage → OnOk r (CollectsGarbage words db g t.lits words' db' g')) → (db.garbage ≤ length words / 2 → CollectsNothing words db g w words' db' g' w') → OnErr r (CollectsNothing words db g w words' db' g' w') →
    WordExtends am (state_of a g t) q (state_of a g' t) q
extends_collect am words words' db db' w w' a g g' t q (Ok x) due not_due same = elim (cases_lt (length words / 2) db.garbage) [
  | inl lt ↦
      let c : CollectsGarbage words db g t.lits words' db' g' = due lt in
      word_goes am (state_of a g t) q (state_of a g' t) q (record {
        size = refl;
        gone = λ v z. (
          z.0,
          elim z.1 [
            | inl y ↦ inl (y.0, (y.1.0, record { holds = y.1.1.holds; depth = c.depths (variable y.0) ∙ y.1.1.depth; bottom = c.levels (variable y.0) ∙ y.1.1.bottom }))
            | inr y ↦ inr y
          ],
        );
        idle = λ v y. y;
      }) (begins_refl (trail_letters t))
  | inr le ↦ (let y = not_due le in rw y.2 (extends_fewer am (state_of a g t) q q (λ u e. e)))
]
extends_collect am words words' db db' w w' a g g' t q (Err x) due not_due same = rw same.2 (extends_fewer am (state_of a g t) q q (λ u e. e))

-- undoing levels and enqueueing a literal raises the word
pub rises_learned : (am : List ℕ) → (s : PropagationState) (q : Queue) (s' : PropagationState) (q' : Queue) (l top : ℕ) → KeepsRemovedAndIdle am s q s' q' → LevelsBeginWithDecisions s → top < length s.trail.starts → s'.trail ≡ with_lit l (without_levels_above top s.trail) → WordIncreases am s q s' q'
rises_learned am s q s' q' l top stay levels lt e =
    word_rises am s q s' q' stay (subst (λ (t : TrailState). IsLowerWord (trail_letters s.trail) (trail_letters t)) (sym e) (standing_learned s l top levels lt))

-- undoing levels, and later enqueueing the learned literal, raises the word
pub rises_taken : (p u n : SearchState) (l top : ℕ) → KeepsRemovedAndIdleForAll p u → KeepsRemovedAndIdleForAll u n → u.trail ≡ without_levels_above top p.trail → n.trail ≡ with_lit l u.trail → LevelsBeginWithDecisions (state p) → top < length p.trail.starts → TrailWordIncreases p n
rises_taken p u n l top undone stay cut last levelled lt am =
    rises_learned am (state p) p.vsids (state n) n.vsids l top (goes_trans am (state p) p.vsids (state u) u.vsids (state n) n.vsids (undone am) (stay am)) levelled lt
    (last ∙ ap (λ (t : TrailState). with_lit l t) cut)

-- a variable that is not assumed is freed
pub gone_freed : (am : List ℕ) (a : Values) (g : List ImplNode) (t : TrailState) (q : Queue) (u : ℕ) → u < length q.available → length q.available ≡ length a.current → (Contains am u → ⊥) →
    KeepsRemovedAndIdle am (state_of a g t) q (state_of (with_value u None a) g t) (with_available u false q)
gone_freed am a g t q u there same free = record {
  size = length-set a.current u None;
  gone = λ v x. (
    omega (arith, x.0, length-set a.current u None),
    elim (cases_eq v u) [
      | inl e ↦ inr (its v e)
      | inr n ↦ elim x.1 [
        | inl y ↦ inl (
          y.0,
          (
            y.1.0,
            record {
              holds = get_or-set_other a.current u (variable y.0) None None (λ e. n (sym y.1.0 ∙ e)) ∙ y.1.1.holds;
              depth = y.1.1.depth;
              bottom = y.1.1.bottom;
            },
          ),
        )
        | inr y ↦ inr (others v n y)
      ]
    ],
  );
  idle = λ v y. elim (cases_eq v u) [ inl e ↦ its v e | inr n ↦ others v n y ];
}
  where
    its : (v : ℕ) → v ≡ u → IsIdle am (state_of (with_value u None a) g t) (with_available u false q) v
    its v e = (
      ap (λ z. value_of (set a.current u None) z) e ∙ get_or-set_same a.current u None None (omega arith),
      ap (λ z. is_available (with_available u false q) z) e ∙ get_or-set_same q.available u false false there,
      λ c. free (subst (λ z. Contains am z) e c),
    )

    others : (v : ℕ) → v ≢ u → IsIdle am (state_of a g t) q v → IsIdle am (state_of (with_value u None a) g t) (with_available u false q) v
    others v n y = (get_or-set_other a.current u v None None n ∙ y.0, get_or-set_other q.available u v false false n ∙ y.1, y.2)

pub propagated_extends : (words words' : List ℕ) (db : Db) (w w' : WatchState) (b : Binaries) (a a' : Values) (g g' : List ImplNode) (t t' : TrailState) (q : Queue) (r : Result (Unit {0}) Conflict) →
    PartsInvariantBelow words db w b a g t q (length t.starts + 1) → PropagationResult db.refs b.implied words (state_of a g t) words' (state_of a' g' t') w' r →
    (am : List ℕ) → WordExtends am (state_of a g t) q (state_of a' g' t') q
propagated_extends words words' db w w' b a a' g g' t t' q r h given am = extends_propagated am words words' db w w' b a a' g g' t t' q r h given
