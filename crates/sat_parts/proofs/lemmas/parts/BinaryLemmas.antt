-- Adding a binary clause.
use Rattle.std.proofs.Common.{ℕ, ◌≡◌, ◌≢◌, ◌+◌, ◌*◌, ◌<◌, ◌≤◌, ◌⊎◌, inl, inr, List, [], ◌∷◌, ◌++◌, length, get_or, length-set, get_or-set_same, get_or-set_other, refl, sym, ap, ◌∙◌, subst, arith, Some, None}
use Rattle.std.proofs.lemmas.Bool.{cases_eq, cases_lt}
use Rattle.std.proofs.lemmas.List.{get_or_append_left, get_or_push, length_push}
use Rattle.std.proofs.lemmas.List.Elements.{Contains-append_left, Contains-push}
use Rattle.std.specs.List.{Contains}
use Rattle.sat_base.specs.values.Literals.{variable, is_positive, negated}
use Rattle.sat_store.specs.heap.Vsids.{Queue}
use Rattle.sat_parts.specs.declared.prop.graph.ImplNode.{ImplNode}
use Rattle.sat_parts.specs.declared.prop.graph.Reason.{Reason}
use Rattle.sat_parts.specs.declared.prop.graph.Reason.TheVariants.{Binary, Long}
use Rattle.sat_parts.specs.clause.Db.{Db, live_refs}
use Rattle.sat_parts.specs.prop.Binaries.{Binaries, implied_by, with_implied, with_binary}
use Rattle.sat_parts.specs.prop.Values.{Values, value_of, with_true_lit, IsTrueLit, IsFalseLit}
use Rattle.sat_parts.specs.prop.Trails.{TrailState, with_lit}
use Rattle.sat_parts.specs.prop.Graphs.{with_node, enqueued_node}
use Rattle.sat_parts.specs.prop.WatchLists.{WatchState}
use Rattle.sat_parts.specs.prop.State.{PropagationState, level, current_level, lit_at, HasLeftQueue, StateIsConsistent, TrailGrows, enqueued}
use Rattle.sat_parts.specs.prop.Reasons.{ReasonImplies, ReasonsAreUnit}
use Rattle.sat_parts.specs.prop.Ready.{state_of}
use Rattle.sat_parts.specs.prop.Propagation.{PropagationInvariant, EnqueuePrecondition, IsBinaryReason}
use Rattle.sat_parts.proofs.lemmas.prop.StateLemmas.{grows_enqueued, lit_last, negated_variable}
use Rattle.sat_parts.proofs.lemmas.prop.ReasonLemmas.{false_before_forth}
use Rattle.sat_parts.proofs.lemmas.prop.RoomLemmas.{room_for}
use Rattle.sat_parts.proofs.lemmas.prop.StepLemmas.{asks_enqueued}
use Rattle.sat_parts.proofs.lemmas.prop.WordLemmas.{levels_stay}
use Rattle.sat_parts.specs.parts.Round.{IsInNoClause, PartsInvariantBelow, RoundInvariant}
use Rattle.sat_parts.specs.parts.Learned.{IsUnitAfterBacktracking}
use Rattle.sat_parts.proofs.lemmas.parts.ValueLemmas.{not_false}
use Rattle.sat_parts.proofs.lemmas.parts.TurnLemmas.{turns_by, turns_enqueued, units_enqueued}
use Rattle.sat_parts.proofs.lemmas.parts.DecideLemmas.{still_open}
use Rattle.sat_parts.proofs.lemmas.parts.LearnLemmas.{false_at_end, level_same, open_not_left, pending_below}

pushed_all : (ys : List ℕ) (m : ℕ) (Q : ℕ → Type 0) → ((j : ℕ) → j < length ys → Q (get_or ys j 0)) → Q m → (k : ℕ) → k < length (ys ++ m ∷ []) → Q (get_or (ys ++ m ∷ []) k 0)
pushed_all ys m Q old new k lt =
    let n : length (ys ++ m ∷ []) ≡ length ys + 1 = length_push ys m in
    elim (cases_lt k (length ys)) [
      | inl h ↦ subst Q (sym (get_or_append_left ys (m ∷ []) 0 k h)) (old k h)
      | inr h ↦ subst Q (sym (get_or_push ys m 0 k (omega arith))) new
    ]

-- a property of all implications, after one more was added
implied_all : (x : List (List ℕ)) (p m : ℕ) (Q : ℕ → ℕ → Type 0) → p < length x → ((l k : ℕ) → k < length (implied_by x l) → Q l (get_or (implied_by x l) k 0)) → Q p m →
    (l k : ℕ) → k < length (implied_by (with_implied p m x) l) → Q l (get_or (implied_by (with_implied p m x) l) k 0)
implied_all x p m Q within old new l k lt = elim (cases_eq l p) [
  | inr other ↦
      let e : implied_by (with_implied p m x) l ≡ implied_by x l = get_or-set_other x p l (implied_by x p ++ m ∷ []) [] other in
      subst (λ (ys : List ℕ). k < length ys → Q l (get_or ys k 0)) (sym e) (λ h. old l k h) lt
  | inl same ↦
      let e : implied_by (with_implied p m x) l ≡ implied_by x p ++ m ∷ [] =
      ap (λ y. implied_by (with_implied p m x) y) same ∙ get_or-set_same x p (implied_by x p ++ m ∷ []) [] within in
      subst (λ (ys : List ℕ). k < length ys → Q l (get_or ys k 0)) (sym e)
      (λ h. pushed_all (implied_by x p) m (Q l) (λ j b. subst (λ z. Q z (get_or (implied_by x p) j 0)) (sym same) (old p j b)) (subst (λ z. Q z m) (sym same) new) k h) lt
]

pub implied_kept : (x : List (List ℕ)) (p m l n : ℕ) → p < length x → Contains (implied_by x l) n → Contains (implied_by (with_implied p m x) l) n
implied_kept x p m l n within c = elim (cases_eq l p) [
  | inr other ↦ subst (λ (ys : List ℕ). Contains ys n) (sym (get_or-set_other x p l (implied_by x p ++ m ∷ []) [] other)) c
  | inl same ↦
      let e : implied_by (with_implied p m x) l ≡ implied_by x p ++ m ∷ [] =
      ap (λ y. implied_by (with_implied p m x) y) same ∙ get_or-set_same x p (implied_by x p ++ m ∷ []) [] within in
      subst (λ (ys : List ℕ). Contains ys n) (sym e) (Contains-append_left (implied_by x p) (m ∷ []) n (subst (λ z. Contains (implied_by x z) n) same c))
]

pub implied_new : (x : List (List ℕ)) (p m : ℕ) → p < length x → Contains (implied_by (with_implied p m x) p) m
implied_new x p m within =
    subst (λ (ys : List ℕ). Contains ys m) (sym (get_or-set_same x p (implied_by x p ++ m ∷ []) [] within)) (Contains-push (implied_by x p) m)

-- what holds of all implications holds after the two implications of a new clause were added, if it holds of these
pub binary_all : (x : Binaries) (a b : ℕ) (Q : ℕ → ℕ → Type 0) → negated a < length x.implied → negated b < length x.implied →
    ((l k : ℕ) → k < length (implied_by x.implied l) → Q l (get_or (implied_by x.implied l) k 0)) → Q (negated a) b → Q (negated b) a →
    (l k : ℕ) → k < length (implied_by (with_binary a b x).implied l) → Q l (get_or (implied_by (with_binary a b x).implied l) k 0)
binary_all x a b Q first second old one two =
    let n : length (with_implied (negated a) b x.implied) ≡ length x.implied = length-set x.implied (negated a) (implied_by x.implied (negated a) ++ b ∷ []) in
    implied_all (with_implied (negated a) b x.implied) (negated b) a Q (omega arith) (implied_all x.implied (negated a) b Q first old one) two

pub binary_kept : (x : Binaries) (a b l n : ℕ) → negated a < length x.implied → negated b < length x.implied → Contains (implied_by x.implied l) n → Contains (implied_by (with_binary a b x).implied l) n
binary_kept x a b l n first second c =
    let m : length (with_implied (negated a) b x.implied) ≡ length x.implied = length-set x.implied (negated a) (implied_by x.implied (negated a) ++ b ∷ []) in
    implied_kept (with_implied (negated a) b x.implied) (negated b) a l n (omega arith) (implied_kept x.implied (negated a) b l n first c)

pub binary_new : (x : Binaries) (a b : ℕ) → negated a < length x.implied → negated b < length x.implied → Contains (implied_by (with_binary a b x).implied (negated b)) a
binary_new x a b first second =
    let m : length (with_implied (negated a) b x.implied) ≡ length x.implied = length-set x.implied (negated a) (implied_by x.implied (negated a) ++ b ∷ []) in
    implied_new (with_implied (negated a) b x.implied) (negated b) a (omega arith)

binary_length : (x : Binaries) (a b : ℕ) → length (with_binary a b x).implied ≡ length x.implied
binary_length x a b =
    let one : List (List ℕ) = with_implied (negated a) b x.implied in
    length-set one (negated b) (implied_by one (negated b) ++ a ∷ []) ∙ length-set x.implied (negated a) (implied_by x.implied (negated a) ++ b ∷ [])

-- a binary clause was added, which may be the reason of the next literal
pub asks_binary_added : (words refs : List ℕ) (w : WatchState) (x : Binaries) (s : PropagationState) (top lit a b : ℕ) (r : Reason) → PropagationInvariant words refs w x.implied s top → a < 2 * length s.values → b < 2 * length s.values →
    (HasLeftQueue s (negated a) → level s (negated a) < top → (IsTrueLit s.values b × (level s b ≤ level s (negated a))) ⊎ (IsBinaryReason r lit (negated a) b × (current_level s ≤ level s (negated a)))) →
    (HasLeftQueue s (negated b) → level s (negated b) < top → (IsTrueLit s.values a × (level s a ≤ level s (negated b))) ⊎ (IsBinaryReason r lit (negated b) a × (current_level s ≤ level s (negated b)))) →
    EnqueuePrecondition lit r words refs w (with_binary a b x).implied s top
asks_binary_added words refs w x s top lit a b r h small_a small_b one two =
    let first : negated a < length x.implied = omega (arith, h.ranges.room) in
    let second : negated b < length x.implied = omega (arith, h.ranges.room) in
    record {
      holds_clauses = h.holds_clauses;
      clauses = h.clauses;
      room = h.room;
      watches = h.watches;
      agrees = h.agrees;
      queue = h.queue;
      firsts = h.firsts;
      settled = λ o i c hi left d. inl (h.settled o i c hi left d);
      ranges = record {
        room = binary_length x a b ∙ h.ranges.room;
        below = binary_all x a b (λ l m. m < 2 * length s.values) first second h.ranges.below small_b small_a;
      };
      binary = λ l k left d lt.
          binary_all x a b
          (λ l m. HasLeftQueue s l → level s l < top → (IsTrueLit s.values m × (level s m ≤ level s l)) ⊎ (IsBinaryReason r lit l m × (current_level s ≤ level s l)))
          first second (λ l k b f d. inl (h.binary l k f d b)) one two l k lt left d;
    }

pub turns_binary : (words live : List ℕ) (x : Binaries) (s : PropagationState) (a b : ℕ) → negated a < length x.implied → negated b < length x.implied →
    ReasonsAreUnit words live x.implied s 0 → ReasonsAreUnit words live (with_binary a b x).implied s 0
turns_binary words live x s a b first second h =
    turns_by words words live live x.implied (with_binary a b x).implied s (λ i o lt e c. (c, refl)) (λ i ls lt e c. binary_kept x a b (negated (get_or ls 0 0)) (lit_at s i) first second c) h

pub unused_binary : (words live : List ℕ) (x : Binaries) (a b v : ℕ) → negated a < length x.implied → negated b < length x.implied → variable a ≢ v → variable b ≢ v →
    IsInNoClause words live x.implied v → IsInNoClause words live (with_binary a b x).implied v
unused_binary words live x a b v first second not_a not_b u = record {
  long = u.long;
  binary = binary_all x a b (λ l m. (variable l ≢ v) × (variable m ≢ v)) first second u.binary
      ((λ e. not_a (sym (negated_variable a) ∙ e)), not_b) ((λ e. not_b (sym (negated_variable b) ∙ e)), not_a);
}

no_binary : (ls : List ℕ) (o : ℕ) → Binary ls ≡ Long o → ⊥
no_binary ls o e = cc

-- a learned binary clause
pub sound_binary : (words : List ℕ) (db : Db) (w : WatchState) (x : Binaries) (a : Values) (g : List ImplNode) (t : TrailState) (q : Queue) (ls : List ℕ) →
    RoundInvariant words db w x a g t q → IsUnitAfterBacktracking (state_of a g t) q ls → length ls ≡ 2 →
    RoundInvariant words db w (with_binary (get_or ls 0 0) (get_or ls 1 0) x) (with_true_lit (get_or ls 0 0) a)
    (with_node (variable (get_or ls 0 0)) (enqueued_node t (Binary (get_or ls 1 0 ∷ []))) g) (with_lit (get_or ls 0 0) t) q
sound_binary words db w x a g t q ls h p two =
    let c : ℕ = get_or ls 0 0 in
    let d : ℕ = get_or ls 1 0 in
    let r : Reason = Binary (get_or ls 1 0 ∷ []) in
    let s : PropagationState = state_of a g t in
    let y : PartsInvariantBelow words db w x a g t q (length t.starts + 1) = h.below in
    let agrees : StateIsConsistent (state_of a g t) = y.propagation.agrees in
    let small_c : get_or ls 0 0 < 2 * length a.current = pending_below s q ls p 0 (omega arith) in
    let small_d : get_or ls 1 0 < 2 * length a.current = pending_below s q ls p 1 (omega arith) in
    let first : negated (get_or ls 0 0) < length x.implied = omega (arith, y.propagation.ranges.room) in
    let second : negated (get_or ls 1 0) < length x.implied = omega (arith, y.propagation.ranges.room) in
    let false_d : IsFalseLit a.current (get_or ls 1 0) = p.rest 1 (omega arith) (omega arith) in
    let new : PropagationState = enqueued (get_or ls 0 0) r s in
    let grown : TrailGrows s new = grows_enqueued s (get_or ls 0 0) r agrees p.open_first p.there (room_for s (get_or ls 0 0) r agrees p.open_first p.there) in
    let cause : ReasonImplies words (live_refs words db.refs) (with_binary (get_or ls 0 0) (get_or ls 1 0) x).implied (enqueued (get_or ls 0 0) (Binary (get_or ls 1 0 ∷ [])) (state_of a g t)) (length t.lits) (Binary (get_or ls 1 0 ∷ [])) = (
      subst (λ m. Contains (implied_by (with_binary c d x).implied (negated d)) m) (sym (lit_last s (get_or ls 0 0) r)) (binary_new x (get_or ls 0 0) (get_or ls 1 0) first second),
      false_before_forth s new (length t.lits) (get_or ls 1 0) grown (false_at_end s (get_or ls 1 0) agrees false_d),
    ) in
    record {
      below = record {
        db_matches = y.db_matches;
        propagation = asks_enqueued words db.refs w (with_binary c d x).implied s (length t.starts + 1) (get_or ls 0 0) r p.open_first p.there (λ o e. absurd (no_binary (get_or ls 1 0 ∷ []) o e))
            (asks_binary_added words db.refs w x s (length t.starts + 1) (get_or ls 0 0) (get_or ls 0 0) (get_or ls 1 0) r y.propagation small_c small_d
            (λ left due. absurd (open_not_left s (get_or ls 0 0) agrees p.open_first left))
            (λ left due. inr ((refl, refl), omega (arith, p.second (omega arith), level_same s (get_or ls 1 0)))));
        reasons = turns_enqueued words (live_refs words db.refs) (with_binary c d x).implied s (get_or ls 0 0) r agrees p.open_first p.there cause
            (turns_binary words (live_refs words db.refs) x s (get_or ls 0 0) (get_or ls 1 0) first second y.reasons);
        levelled = levels_stay.caused s (get_or ls 0 0) r agrees p.open_first p.there refl y.levelled;
        queue = y.queue ∙ sym (length-set a.current (variable c) (Some (is_positive c)));
        ready = λ u lt none.
            let z : (u ≢ variable (get_or ls 0 0)) × (value_of a.current u ≡ None) = still_open a.current (get_or ls 0 0) u (is_positive c) p.there none in
            elim (y.ready u (omega (arith, length-set a.current (variable c) (Some (is_positive c)))) z.1) [
              | inl e ↦ inl e
              | inr v ↦ inr (unused_binary words (live_refs words db.refs) x (get_or ls 0 0) (get_or ls 1 0) u first second (λ e. z.0 (sym e)) (λ e. not_false a.current u (get_or ls 1 0) z.1 e false_d) v)
            ];
      };
      units = units_enqueued s (get_or ls 0 0) r agrees p.open_first p.there (λ e. absurd (omega (arith, p.above (omega arith)))) h.units;
      base = record { above = h.base.above; bottom = h.base.bottom };
    }
