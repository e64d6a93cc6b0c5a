-- Watch lists that are built clause by clause.
use Rattle.std.proofs.Common.{ℕ, ◌≡◌, ◌+◌, ◌*◌, ◌<◌, ◌≤◌, inl, inr, List, [], ◌∷◌, ◌++◌, suc, length, get_or, take, drop, refl, sym, ap, ◌∙◌, subst, arith, length-set, Bool, true, false, not, cond}
use Rattle.std.proofs.lemmas.Bool.{cond-true, cond-false}
use Rattle.std.proofs.lemmas.List.{take-append-drop, append-nil, take_all}
use Rattle.std.proofs.lemmas.List.Elements.{filter_more, filter-append, All-filter, All-contains_itself, All-contains, Contains-append_left, Contains-push, Contains-push_cases}
use Rattle.std.specs.List.{Contains}
use Rattle.sat_base.specs.values.Literals.{negated}
use Rattle.sat_store.specs.clause.Buffer.{header_at}
use Rattle.sat_store.specs.clause.Header.{Header}
use Rattle.sat_parts.specs.declared.prop.watch.Watch.{Watch}
use Rattle.sat_parts.specs.clause.Db.{is_live, live_refs}
use Rattle.sat_parts.specs.clause.Stored.{AreLongClauses, lit_of, size_of}
use Rattle.sat_parts.specs.prop.WatchLists.{WatchState, watch_on, watches_of, lists_with_watch, with_watch, with_clause_watches}
use Rattle.sat_parts.specs.prop.Ready.{IsSoundWatch, HasWatch, AreWatched}
use Rattle.sat_parts.specs.prop.Building.{FirstClausesAreWatched}
use Rattle.sat_parts.proofs.lemmas.prop.WalkLemmas.{more_watch, new_watch, good_lists, at_two}

-- a live clause is in the list
pub live_in : (words refs : List ℕ) (o : ℕ) → Contains (live_refs words refs) o → Contains refs o
live_in words refs o h = All-contains (Contains refs) (live_refs words refs) o (All-filter (is_live words) (Contains refs) refs (All-contains_itself refs)) h

-- a live clause among the first k is a live clause
pub live_front : (words refs : List ℕ) (k o : ℕ) → Contains (live_refs words (take k refs)) o → Contains (live_refs words refs) o
live_front words refs k o h =
    let e : live_refs words (take k refs) ++ live_refs words (drop k refs) ≡ live_refs words refs =
    sym (filter-append (is_live words) (take k refs) (drop k refs)) ∙ ap (λ (xs : List ℕ). live_refs words xs) (take-append-drop k refs) in
    subst (λ (xs : List ℕ). Contains xs o) e (Contains-append_left (live_refs words (take k refs)) (live_refs words (drop k refs)) o h)

pub live_next : (words refs : List ℕ) (k : ℕ) → k < length refs → is_live words (get_or refs k 0) ≡ true → live_refs words (take (k + 1) refs) ≡ live_refs words (take k refs) ++ get_or refs k 0 ∷ []
live_next words refs k lt e =
    filter_more (is_live words) refs k 0 lt ∙ ap (λ (xs : List ℕ). live_refs words (take k refs) ++ xs) (cond-true (is_live words (get_or refs k 0)) (get_or refs k 0 ∷ []) [] e)

pub live_skip : (words refs : List ℕ) (k : ℕ) → k < length refs → is_live words (get_or refs k 0) ≡ false → live_refs words (take (k + 1) refs) ≡ live_refs words (take k refs)
live_skip words refs k lt e =
    filter_more (is_live words) refs k 0 lt
    ∙ ap (λ (xs : List ℕ). live_refs words (take k refs) ++ xs) (cond-false (is_live words (get_or refs k 0)) (get_or refs k 0 ∷ []) [] e)
    ∙ append-nil (live_refs words (take k refs))

-- the live clause at an index of the list
pub live_at : (words refs : List ℕ) (k : ℕ) → k < length refs → is_live words (get_or refs k 0) ≡ true → Contains (live_refs words refs) (get_or refs k 0)
live_at words refs k lt e =
    live_front words refs (k + 1) (get_or refs k 0)
    (subst (λ (xs : List ℕ). Contains xs (get_or refs k 0)) (sym (live_next words refs k lt e)) (Contains-push (live_refs words (take k refs)) (get_or refs k 0)))

-- a deleted clause is skipped
pub built_skip : (words refs : List ℕ) (lists : List (List Watch)) (count k : ℕ) → FirstClausesAreWatched words refs lists count k → k < length refs →
    is_live words (get_or refs k 0) ≡ false → FirstClausesAreWatched words refs lists count (k + 1)
built_skip words refs lists count k h lt e = record {
  room = h.room;
  good = h.good;
  both = λ o i x hi. h.both o i (subst (λ (xs : List ℕ). Contains xs o) (live_skip words refs k lt e) x) hi;
}

-- a live clause gets its two watches
pub built_more : (words refs : List ℕ) (lists : List (List Watch)) (count k : ℕ) → AreLongClauses words (live_refs words refs) count → FirstClausesAreWatched words refs lists count k → k < length refs →
    is_live words (get_or refs k 0) ≡ true →
    FirstClausesAreWatched words refs
    (lists_with_watch (negated (lit_of words (get_or refs k 0) 1)) (watch_on (get_or refs k 0) (lit_of words (get_or refs k 0) 0))
    (lists_with_watch (negated (lit_of words (get_or refs k 0) 0)) (watch_on (get_or refs k 0) (lit_of words (get_or refs k 0) 1)) lists))
    count (k + 1)
built_more words refs lists count k c h lt e =
    let o : ℕ = get_or refs k 0 in
    let a : ℕ = lit_of words (get_or refs k 0) 0 in
    let b : ℕ = lit_of words (get_or refs k 0) 1 in
    let ho : Contains (live_refs words refs) (get_or refs k 0) = live_at words refs k lt e in
    let long : 3 ≤ size_of words (get_or refs k 0) = c.long (get_or refs k 0) ho in
    let small_a : lit_of words (get_or refs k 0) 0 < 2 * count = c.below (get_or refs k 0) 0 ho (omega arith) in
    let small_b : lit_of words (get_or refs k 0) 1 < 2 * count = c.below (get_or refs k 0) 1 ho (omega arith) in
    let room : length lists ≡ 2 * count = h.room in
    let x : Watch = watch_on (get_or refs k 0) (lit_of words (get_or refs k 0) 1) in
    let y : Watch = watch_on (get_or refs k 0) (lit_of words (get_or refs k 0) 0) in
    let one : List (List Watch) = lists_with_watch (negated a) x lists in
    let two : List (List Watch) = lists_with_watch (negated b) y one in
    let one_length : length one ≡ length lists = length-set lists (negated a) (watches_of lists (negated a) ++ x ∷ []) in
    let two_length : length two ≡ length one = length-set one (negated b) (watches_of one (negated b) ++ y ∷ []) in
    let in_one : negated (lit_of words (get_or refs k 0) 0) < length lists = omega arith in
    let in_two : negated (lit_of words (get_or refs k 0) 1) < length one = omega arith in
    let good_x : IsSoundWatch words (live_refs words refs) x = (ho, (1, (omega arith, refl))) in
    let good_y : IsSoundWatch words (live_refs words refs) y = (ho, (0, (omega arith, refl))) in
    let W : ℕ → ℕ → Type 0 = λ p i. HasWatch (watches_of two (negated (lit_of words p i))) p in
    record {
      room = two_length ∙ one_length ∙ h.room;
      good = good_lists words (live_refs words refs) one (negated b) y in_two good_y (good_lists words (live_refs words refs) lists (negated a) x in_one good_x h.good);
      both = λ p i z hi. elim (Contains-push_cases (live_refs words (take k refs)) (get_or refs k 0) p (subst (λ (xs : List ℕ). Contains xs p) (live_next words refs k lt e) z)) [
        | inl old ↦ more_watch one (negated b) (negated (lit_of words p i)) p y in_two
            (more_watch lists (negated a) (negated (lit_of words p i)) p x in_one (h.both p i old hi))
        | inr new ↦ subst (λ (q : ℕ). W q i) new
            (at_two (λ j. W (get_or refs k 0) j)
            (more_watch one (negated b) (negated a) (get_or refs k 0) y in_two (new_watch lists (negated a) x in_one))
            (new_watch one (negated b) y in_two) i hi)
      ];
    }

pub built_all : (words refs : List ℕ) (lists : List (List Watch)) (count k : ℕ) → FirstClausesAreWatched words refs lists count k → k ≡ length refs → AreWatched words (live_refs words refs) lists count
built_all words refs lists count k h e = record {
  room = h.room;
  good = h.good;
  both = λ o i x hi. h.both o i (subst (λ (xs : List ℕ). Contains (live_refs words xs) o) (sym (take_all k refs (omega arith))) x) hi;
}

-- if the headers in the list are unchanged, the same clauses are live
pub live_same : (old new refs : List ℕ) → ((o : ℕ) → Contains refs o → header_at new o ≡ header_at old o) → live_refs new refs ≡ live_refs old refs
live_same old new [] h = refl
live_same old new (r ∷ rs) h =
    let e : is_live new r ≡ is_live old r = ap (λ (x : Header). not x.deleted) (h r (0, omega arith, refl)) in
    let t : live_refs new rs ≡ live_refs old rs = live_same old new rs (λ o x. h o (suc x.0, omega (arith, x.1), x.2)) in
    ap (λ (b : Bool). cond b (r ∷ live_refs new rs) (live_refs new rs)) e ∙ ap (λ (xs : List ℕ). cond (is_live old r) (r ∷ xs) xs) t

-- one more live clause is watched, in the variables of the code
pub built_by : (words refs : List ℕ) (w w' : WatchState) (count k o a b : ℕ) → AreLongClauses words (live_refs words refs) count → FirstClausesAreWatched words refs w.lists count k → k < length refs →
    o ≡ get_or refs k 0 → is_live words o ≡ true → a ≡ lit_of words o 0 → b ≡ lit_of words o 1 → w.enabled ≡ true → w' ≡ with_clause_watches o a b w →
    FirstClausesAreWatched words refs w'.lists count (k + 1) × (w'.enabled ≡ true)
built_by words refs w w' count k o a b c h lt o_is live a_is b_is on e =
    let r : ℕ = get_or refs k 0 in
    let o' : o ≡ get_or refs k 0 = o_is in
    let a' : a ≡ lit_of words (get_or refs k 0) 0 = a_is ∙ ap (λ z. lit_of words z 0) o_is in
    let b' : b ≡ lit_of words (get_or refs k 0) 1 = b_is ∙ ap (λ z. lit_of words z 1) o_is in
    let f : w' ≡ with_clause_watches (get_or refs k 0) (lit_of words (get_or refs k 0) 0) (lit_of words (get_or refs k 0) 1) w =
    e ∙ ap (λ z. with_clause_watches z a b w) o' ∙ ap (λ z. with_clause_watches (get_or refs k 0) z b w) a' ∙ ap (λ z. with_clause_watches (get_or refs k 0) (lit_of words (get_or refs k 0) 0) z w) b' in
    let g : w' ≡ with_watch (negated (lit_of words (get_or refs k 0) 1)) (watch_on (get_or refs k 0) (lit_of words (get_or refs k 0) 0))
    (with_watch (negated (lit_of words (get_or refs k 0) 0)) (watch_on (get_or refs k 0) (lit_of words (get_or refs k 0) 1)) w) =
    f ∙ cond-true w.enabled _ w on in (
      subst (λ (x : WatchState). FirstClausesAreWatched words refs x.lists count (k + 1)) (sym g) (built_more words refs w.lists count k c h lt (subst (λ z. is_live words z ≡ true) o_is live)),
      ap (λ (x : WatchState). x.enabled) g ∙ on,
    )

-- the live clause at an index, in the variables of the code
pub live_place : (words refs : List ℕ) (k o : ℕ) → k < length refs → o ≡ get_or refs k 0 → is_live words o ≡ true → Contains (live_refs words refs) o
live_place words refs k o lt o_is live = subst (λ z. Contains (live_refs words refs) z) (sym o_is) (live_at words refs k lt (subst (λ z. is_live words z ≡ true) o_is live))
