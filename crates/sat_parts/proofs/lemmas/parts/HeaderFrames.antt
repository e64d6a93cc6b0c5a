-- What calls that change only long clauses leave unchanged.
use Rattle.std.proofs.Common.{ℕ, ◌≡◌, ◌==◌, ◌^◌, ◌/◌, ◌<◌, ◌≤◌, ◌&&◌, inl, inr, Bool, true, false, not, List, length, refl, sym, ap, ◌∙◌, subst, Result, Ok, Err, if◌then◌else◌}
use Rattle.std.specs.Prelude.{OnOk, OnErr}
use Rattle.std.proofs.lemmas.Bool.{cases_lt, cases_eq, true≢false}
use Rattle.std.specs.List.{Contains}
use Rattle.sat_base.specs.values.Literals.{variable}
use Rattle.sat_store.specs.clause.Buffer.{header_at, lits_at}
use Rattle.sat_store.specs.clause.Header.{Header, is_learned, tier_index}
use Rattle.sat_store.specs.declared.clause.tier.Tier.{Tier}
use Rattle.sat_store.specs.declared.clause.tier.Tier.TheVariants.{Irred, Local}
use Rattle.sat_store.specs.declared.clause.alloc.StoreError.{StoreError}
use Rattle.sat_parts.specs.declared.prop.graph.ImplNode.{ImplNode}
use Rattle.sat_parts.specs.declared.prop.graph.Reason.{Reason}
use Rattle.sat_parts.specs.declared.prop.graph.Reason.TheVariants.{Unit as NoCause, Binary, Long}
use Rattle.sat_parts.specs.clause.Activity.{PutsHeaders, ActivityScale, StaysBelowRescaleLimit, ReachesRescaleLimit, BumpsWithoutRescale, BumpsAndRescales, DecaysAndRescales, decayed_bump, bumped_activity, rescaled_header, bumped_rescaled_header, with_activity}
use Rattle.sat_parts.specs.clause.Collected.{CopiesClauses, CollectsGarbage, ReasonNamesCopy, CollectsNothing}
use Rattle.sat_parts.specs.clause.Db.{Db, live_refs, PutsHeader}
use Rattle.sat_parts.specs.clause.Orders.{PermutesClause, PermutesClauses, SameUpToOrder}
use Rattle.sat_parts.specs.clause.Reduced.{reduced_header}
use Rattle.sat_parts.specs.prop.Graphs.{has_no_clause}
use Rattle.sat_parts.specs.prop.Values.{Values}
use Rattle.sat_parts.specs.prop.Trails.{TrailState}
use Rattle.sat_parts.specs.prop.WatchLists.{WatchState}
use Rattle.sat_parts.specs.prop.State.{PropagationState, node, lit_at}
use Rattle.sat_parts.specs.prop.Ready.{state_of}
use Rattle.sat_parts.proofs.lemmas.clause.OrderLemmas.{reorders_one}
use Rattle.sat_parts.proofs.lemmas.prop.BuildLemmas.{live_in}
use Rattle.sat_parts.proofs.lemmas.prop.BuildLemmas.{live_same}
use Rattle.sat_parts.specs.declared.parts.SearchState.{SearchState}
use Rattle.sat_parts.specs.parts.Whole.{state, SearchStateInvariant}
use Rattle.sat_parts.specs.parts.Frame.{AddsNoUnit, KeepsLevelsTo, SameExceptLongClauses, ReordersLits, ChangesHeaders, MovesLongClauses}

-- `SidesStay words words' refs` holds if literals are unchanged, and no clause became or ceased to be a learned one.
pub record SidesStay (words words' refs : List ℕ) : Type 0 where
  pub lits : (o : ℕ) → Contains refs o → lits_at words' o ≡ lits_at words o
  pub sides : (o : ℕ) → Contains refs o → is_learned (header_at words' o).tier ≡ is_learned (header_at words o).tier

pub sides_one : (words words' refs : List ℕ) (o : ℕ) (header : Header) → PutsHeader words words' refs o header → is_learned header.tier ≡ is_learned (header_at words o).tier → SidesStay words words' refs
sides_one words words' refs o header x side = record {
  lits = λ p c. elim (cases_eq p o) [
    | inl e ↦ ap (λ z. lits_at words' z) e ∙ x.lits_there ∙ ap (λ z. lits_at words z) (sym e)
    | inr n ↦ (x.others p c n).lits
  ];
  sides = λ p c. elim (cases_eq p o) [
    | inl e ↦ ap (λ z. is_learned (header_at words' z).tier) e ∙ ap (λ (h : Header). is_learned h.tier) x.header_there ∙ side ∙ ap (λ z. is_learned (header_at words z).tier) (sym e)
    | inr n ↦ ap (λ (h : Header). is_learned h.tier) (x.others p c n).header
  ];
}

pub sides_all : (words words' refs : List ℕ) (f : ℕ → Header) → PutsHeaders words words' refs f → ((o : ℕ) → Contains refs o → is_learned (f o).tier ≡ is_learned (header_at words o).tier) → SidesStay words words' refs
sides_all words words' refs f x side = record { lits = x.lits; sides = λ o c. ap (λ (h : Header). is_learned h.tier) (x.headers o c) ∙ side o c }

pub sides_refl : (words refs : List ℕ) → SidesStay words words refs
sides_refl words refs = record { lits = λ o c. refl; sides = λ o c. refl }

-- a reduction moves only learned clauses
learned_middle : (t : Tier) → (tier_index t == 2) ≡ true → is_learned t ≡ true
learned_middle Irred e = absurd (true≢false (sym e))
learned_middle x e = refl

reduced_by : (h : Header) (due active : Bool) → (due ≡ true → is_learned h.tier ≡ true) → is_learned (if due then (if active then record h { active = false } else record h { tier = Local }) else h).tier ≡ is_learned h.tier
reduced_by h false active l = refl
reduced_by h true true l = refl
reduced_by h true false l = sym (l refl)

second_true : (a b : Bool) → (a && b) ≡ true → b ≡ true
second_true true b e = e
second_true false b e = absurd (true≢false (sym e))

pub reduced_side : (h : Header) → is_learned (reduced_header h).tier ≡ is_learned h.tier
reduced_side h = reduced_by h (not h.deleted && (tier_index h.tier == 2)) h.active (λ e. learned_middle h.tier (second_true (not h.deleted) (tier_index h.tier == 2) e))

pub sides_bumped : (words words' refs : List ℕ) (o : ℕ) (c c' : ActivityScale) → (StaysBelowRescaleLimit words o c → BumpsWithoutRescale words words' refs o c c') → (ReachesRescaleLimit words o c → BumpsAndRescales words words' refs o c c') → SidesStay words words' refs
sides_bumped words words' refs o c c' one all = elim (cases_lt (bumped_activity words o c.bump) (2 ^ 30)) [
  | inl lt ↦ sides_one words words' refs o (with_activity (header_at words o) (bumped_activity words o c.bump)) (one lt).1 refl
  | inr le ↦ sides_all words words' refs (bumped_rescaled_header words o c.bump) (all le).1 (λ p k. refl)
]

pub sides_decayed : (words words' refs : List ℕ) (c c' : ActivityScale) → (decayed_bump c < 2 ^ 30 → words' ≡ words) → (2 ^ 30 ≤ decayed_bump c → DecaysAndRescales words words' refs c c') → SidesStay words words' refs
sides_decayed words words' refs c c' later all = elim (cases_lt (decayed_bump c) (2 ^ 30)) [
  | inl lt ↦ subst (λ (ws : List ℕ). SidesStay words ws refs) (sym (later lt)) (sides_refl words refs)
  | inr le ↦ sides_all words words' refs (rescaled_header words) (all le).1 (λ p k. refl)
]

-- a call that changes only headers, and keeps clauses live and learned or not, satisfies `ChangesHeaders`
pub headed_by : (p p' : SearchState) → live_refs p'.clauses p'.db.refs ≡ live_refs p.clauses p.db.refs → SidesStay p.clauses p'.clauses p.db.refs → SameExceptLongClauses p p' → ChangesHeaders p p'
headed_by p p' live x same = record {
  live = live;
  lits = λ o c. x.lits o (live_in p.clauses p.db.refs o c);
  sides = λ o c. x.sides o (live_in p.clauses p.db.refs o c);
  same = same;
}

-- GARBAGE COLLECTION

unit_followed : (live refs' : List ℕ) (r r' : Reason) → ReasonNamesCopy live refs' r r' → has_no_clause r' ≡ has_no_clause r
unit_followed live refs' NoCause r' f = ap (λ (z : Reason). has_no_clause z) f
unit_followed live refs' (Binary ls) r' f = ap (λ (z : Reason). has_no_clause z) f
unit_followed live refs' (Long o) r' f = ap (λ (z : Reason). has_no_clause z) f.1.2

copies_refl : (words live : List ℕ) → CopiesClauses words live words live
copies_refl words live = record { size = refl; headers = λ k b. refl; lits = λ k b. refl }

carries_collected : (words : List ℕ) (db : Db) (a : Values) (g g' : List ImplNode) (t : TrailState) (words' : List ℕ) (db' : Db) → CollectsGarbage words db g t.lits words' db' g' → AddsNoUnit (state_of a g t) (state_of a g' t)
carries_collected words db a g g' t words' db' x = record {
  size = refl;
  units = λ l u. elim u [
    | inl r ↦ inl (record { holds = r.holds; depth = sym (x.depths (variable l)) ∙ r.depth; bottom = sym (x.levels (variable l)) ∙ r.bottom })
    | inr b ↦
        let s : PropagationState = state_of a g t in
        let s' : PropagationState = state_of a g' t in
        let same : has_no_clause (node s' l).reason ≡ has_no_clause (node s l).reason = subst (λ m. has_no_clause (node s' m).reason ≡ has_no_clause (node s m).reason) b.there
        (unit_followed (live_refs words db.refs) db'.refs (node s (lit_at s b.place)).reason (node s' (lit_at s b.place)).reason (x.reasons b.place b.within)) in
        inr (record { place = b.place; within = b.within; there = b.there; bottom = sym (x.levels (variable l)) ∙ b.bottom; none = sym same ∙ b.none })
  ];
  bottom = λ l h z. (h, x.levels (variable l) ∙ z);
}

keeps_collected : (top : ℕ) (words : List ℕ) (db : Db) (a : Values) (g g' : List ImplNode) (t : TrailState) (words' : List ℕ) (db' : Db) → CollectsGarbage words db g t.lits words' db' g' → KeepsLevelsTo top (state_of a g t) (state_of a g' t)
keeps_collected top words db a g g' t words' db' x = record { low = λ l h b. (h, x.levels (variable l)); begun = λ j b lt. (lt, refl) }

carries_stayed : (s : PropagationState) → AddsNoUnit s s
carries_stayed s = record { size = refl; units = λ l u. u; bottom = λ l h z. (h, z) }

keeps_stayed : (top : ℕ) (s : PropagationState) → KeepsLevelsTo top s s
keeps_stayed top s = record { low = λ l h b. (h, refl); begun = λ j b lt. (lt, refl) }

-- a garbage collection that succeeds
copied_due : (p : SearchState) (words' : List ℕ) (db' : Db) (w' : WatchState) (g' : List ImplNode) → CollectsGarbage p.clauses p.db p.graph p.trail.lits words' db' g' → MovesLongClauses p (record p { clauses = words'; db = db'; watchlists = w'; graph = g' })
copied_due p words' db' w' g' x = record {
  copies = subst (λ (xs : List ℕ). CopiesClauses p.clauses (live_refs p.clauses p.db.refs) words' xs) (sym x.live) x.copies;
  binary = refl;
  values = refl;
  trail = refl;
  queue = refl;
  carries = carries_collected p.clauses p.db p.assignment p.graph g' p.trail words' db' x;
  keeps = λ top. keeps_collected top p.clauses p.db p.assignment p.graph g' p.trail words' db' x;
}

-- a garbage collection that is not due, or fails
copied_none : (p : SearchState) (words' : List ℕ) (db' : Db) (w' : WatchState) (g' : List ImplNode) → CollectsNothing p.clauses p.db p.graph p.watchlists words' db' g' w' → MovesLongClauses p (record p { clauses = words'; db = db'; watchlists = w'; graph = g' })
copied_none p words' db' w' g' x = rw (x.0, x.1, x.2) record {
  copies = copies_refl p.clauses (live_refs p.clauses p.db.refs);
  binary = refl;
  values = refl;
  trail = refl;
  queue = refl;
  carries = carries_stayed (state p);
  keeps = λ top. keeps_stayed top (state p);
}

pub copied_collect : (p : SearchState) (words' : List ℕ) (db' : Db) (w' : WatchState) (g' : List ImplNode) (r : Result (Unit {0}) StoreError) →
    (length p.clauses / 2 < p.db.garbage → OnOk r (CollectsGarbage p.clauses p.db p.graph p.trail.lits words' db' g')) →
    (p.db.garbage ≤ length p.clauses / 2 → CollectsNothing p.clauses p.db p.graph p.watchlists words' db' g' w') → OnErr r (CollectsNothing p.clauses p.db p.graph p.watchlists words' db' g' w') →
    MovesLongClauses p (record p { clauses = words'; db = db'; watchlists = w'; graph = g' })
copied_collect p words' db' w' g' (Ok x) due not_due same = elim (cases_lt (length p.clauses / 2) p.db.garbage) [
  | inl lt ↦ copied_due p words' db' w' g' (due lt)
  | inr le ↦ copied_none p words' db' w' g' (not_due le)
]
copied_collect p words' db' w' g' (Err e) due not_due same = copied_none p words' db' w' g' same

-- ORDER OF LITERALS

pub moved_shuffled : (p : SearchState) (words' : List ℕ) (o : ℕ) → SearchStateInvariant p → Contains (live_refs p.clauses p.db.refs) o → PermutesClause p.clauses words' o → ReordersLits p (record p { clauses = words' })
moved_shuffled p words' o h c x =
    let r : PermutesClauses p.clauses words' (live_refs p.clauses p.db.refs) = reorders_one p.clauses words' (live_refs p.clauses p.db.refs) o c x in
    let k : SameUpToOrder p.clauses words' p.db.refs = r.all p.db.refs (λ q d. live_in p.clauses p.db.refs q d) h.below.propagation.holds_clauses in
    record { live = live_same p.clauses words' p.db.refs k.headers; kept = r.all (live_refs p.clauses p.db.refs) (λ q d. d) h.below.propagation.clauses.holds_clauses; binary = refl }
