-- A decision preserves the invariant between rounds.
use Rattle.std.proofs.Common.{ℕ, ◌≡◌, ◌≢◌, ◌+◌, ◌^◌, ◌<◌, ◌≤◌, inl, inr, suc, zero, ◌-◌, List, [], ◌∷◌, ◌++◌, length, get_or, set, length-set, get_or-set_same, get_or-set_other, refl, sym, ap, ◌∙◌, arith, Bool, Option, Some, None}
use Rattle.std.proofs.lemmas.Bool.{cases_eq}
use Rattle.std.proofs.lemmas.List.{length_push, get_or_push, get_or_append_left}
use Rattle.sat_base.specs.values.Literals.{variable, is_positive}
use Rattle.sat_store.specs.heap.Vsids.{Queue}
use Rattle.sat_parts.specs.declared.prop.graph.ImplNode.{ImplNode}
use Rattle.sat_parts.specs.declared.prop.graph.Reason.TheVariants.{Unit as NoCause, Long}
use Rattle.sat_parts.specs.clause.Db.{Db, live_refs}
use Rattle.sat_parts.specs.prop.Binaries.{Binaries}
use Rattle.sat_parts.specs.prop.Values.{Values, value_of, with_true_lit, IsUnassignedLit}
use Rattle.sat_parts.specs.prop.Trails.{TrailState, with_lit, with_level}
use Rattle.sat_parts.specs.prop.Graphs.{with_node, enqueued_node}
use Rattle.sat_parts.specs.prop.WatchLists.{WatchState}
use Rattle.sat_parts.specs.prop.State.{PropagationState, StateIsConsistent}
use Rattle.sat_parts.specs.prop.Ready.{state_of}
use Rattle.sat_parts.specs.prop.Propagation.{PropagationPrecondition}
use Rattle.sat_parts.specs.prop.TrailWord.{LevelsBeginWithDecisions}
use Rattle.sat_parts.proofs.lemmas.prop.RoomLemmas.{room_for}
use Rattle.sat_parts.proofs.lemmas.prop.StepLemmas.{raised, agrees_raised, asks_raised, asks_for_reason, asks_enqueued}
use Rattle.sat_parts.proofs.lemmas.prop.WordLemmas.{levels_stay}
use Rattle.sat_parts.proofs.lemmas.parts.ValueLemmas.{some_none}
use Rattle.sat_parts.specs.parts.Round.{UnassignedArePickable, LevelZeroInvariant, KeepsPickable, PartsInvariantBelow, RoundInvariant}
use Rattle.sat_parts.proofs.lemmas.parts.TurnLemmas.{turns_enqueued, turns_raised, units_enqueued}

pub still_open : (values : List (Option Bool)) (l u : ℕ) (b : Bool) → variable l < length values → value_of (set values (variable l) (Some b)) u ≡ None → (u ≢ variable l) × (value_of values u ≡ None)
still_open values l u b below none = elim (cases_eq u (variable l)) [
  | inl e ↦ absurd (some_none (ap (λ x. value_of (set values (variable l) (Some b)) x) e ∙ get_or-set_same values (variable l) (Some b) None below) none)
  | inr n ↦ (n, sym (get_or-set_other values (variable l) u (Some b) None n) ∙ none)
]

pub ready_enqueued : (words live : List ℕ) (implied : List (List ℕ)) (values : List (Option Bool)) (q q' : Queue) (l : ℕ) → variable l < length values → KeepsPickable values q q' (variable l) →
    UnassignedArePickable words live implied values q → UnassignedArePickable words live implied (set values (variable l) (Some (is_positive l))) q'
ready_enqueued words live implied values q q' l below keeps h u b none =
    let x : (u ≢ variable l) × (value_of values u ≡ None) = still_open values l u (is_positive l) below none in
    elim (h u (omega (arith, length-set values (variable l) (Some (is_positive l)))) x.1) [ inl p ↦ inl (keeps u x.0 x.1 p) | inr y ↦ inr y ]

pub no_long : (o : ℕ) → NoCause ≡ Long o → ⊥
no_long o e = cc

-- level k + 1 begins at position k or later
ladder : (s : PropagationState) → LevelsBeginWithDecisions s → (k : ℕ) → k < length s.trail.starts → k ≤ get_or s.trail.starts k 0
ladder s x zero b = omega arith
ladder s x (suc k) b = omega (arith, ladder s x k (omega arith), x.strict k (suc k) (omega arith) b)

-- while a variable is unassigned, there are few enough levels for one more
pub few_levels : (s : PropagationState) (l : ℕ) → StateIsConsistent s → LevelsBeginWithDecisions s → IsUnassignedLit s.values l → variable l < length s.values → length s.trail.starts + 1 < 2 ^ 32
few_levels s l h x n below =
    let reach : (k : ℕ) → k < length s.trail.starts → k ≤ get_or s.trail.starts k 0 = ladder s x in
    let room : length s.trail.lits < s.trail.room = room_for s l NoCause h n below in
    elim (cases_eq (length s.trail.starts) 0) [
      | inl e ↦ omega arith
      | inr d ↦
          let last : ℕ = length s.trail.starts - 1 in
          omega (arith, reach (length s.trail.starts - 1) (omega arith), x.begun (length s.trail.starts - 1) (omega arith), h.trail.small)
    ]

based_raised : (t : TrailState) (l : ℕ) → LevelZeroInvariant t → t.head ≡ length t.lits → LevelZeroInvariant (with_lit l (with_level t))
based_raised t l h done =
    let more : length (t.starts ++ length t.lits ∷ []) ≡ length t.starts + 1 = length_push t.starts (length t.lits) in
    record {
      above = λ some. elim (cases_eq (length t.starts) 0) [
        | inl e ↦
            let at : get_or (t.starts ++ length t.lits ∷ []) 0 0 ≡ length t.lits = get_or_push t.starts (length t.lits) 0 0 e in
            omega (arith, h.bottom e)
        | inr n ↦ get_or_append_left t.starts (length t.lits ∷ []) 0 0 (omega arith) ∙ h.above (omega arith)
      ];
      bottom = λ e. absurd (omega arith);
    }

-- an unassigned literal is decided
pub sound_decided : (words : List ℕ) (db : Db) (w : WatchState) (b : Binaries) (a : Values) (g : List ImplNode) (t : TrailState) (q q' : Queue) (l : ℕ) →
    RoundInvariant words db w b a g t q → t.head ≡ length t.lits → IsUnassignedLit a.current l → variable l < length a.current → KeepsPickable a.current q q' (variable l) → length q'.available ≡ length q.available →
    RoundInvariant words db w b (with_true_lit l a) (with_node (variable l) (enqueued_node (with_level t) NoCause) g) (with_lit l (with_level t)) q'
sound_decided words db w b a g t q q' l h done n below keeps size =
    let s : PropagationState = state_of a g t in
    let x : PartsInvariantBelow words db w b a g t q (length t.starts + 1) = h.below in
    let few : length t.starts + 1 < 2 ^ 32 = few_levels s l x.propagation.agrees x.levelled n below in
    let r : PropagationState = raised (state_of a g t) in
    let up : PropagationPrecondition words db.refs w b.implied (raised (state_of a g t)) = asks_raised words db.refs w b.implied s few done x.propagation in
    let agrees : StateIsConsistent (raised (state_of a g t)) = agrees_raised s x.propagation.agrees few in
    let more : length (t.starts ++ length t.lits ∷ []) ≡ length t.starts + 1 = length_push t.starts (length t.lits) in
    record {
      below = record {
        db_matches = x.db_matches;
        propagation = asks_enqueued words db.refs w b.implied r (length (with_level t).starts + 1) l NoCause n below (λ o e. absurd (no_long o e)) (asks_for_reason words db.refs w b.implied r (length (with_level t).starts + 1) l NoCause up);
        reasons = turns_enqueued words (live_refs words db.refs) b.implied r l NoCause agrees n below tt (turns_raised words (live_refs words db.refs) b.implied s x.reasons);
        levelled = levels_stay.decides s l x.propagation.agrees n below x.levelled;
        queue = size ∙ x.queue ∙ sym (length-set a.current (variable l) (Some (is_positive l)));
        ready = ready_enqueued words (live_refs words db.refs) b.implied a.current q q' l below keeps x.ready;
      };
      units = units_enqueued r l NoCause agrees n below (λ e. refl) (λ i p e. h.units i p e);
      base = based_raised t l h.base done;
    }
