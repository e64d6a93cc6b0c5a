-- Freeing the unmarked variables gives the same result in any order.
use Rattle.std.proofs.Common.{ℕ, zero, suc, ◌+◌, ◌≡◌, ◌<◌, ◌≤◌, ◌∙◌, inl, inr, Bool, true, false, cond, Some, None, List, length, get_or, set, refl, sym, ap, subst, arith, get_or-set_same, get_or-set_other}
use Rattle.std.proofs.lemmas.Bool.{cases_eq, true≢false}
use Rattle.std.proofs.lemmas.List.{length-set, set_comm}
use Rattle.sat_base.specs.values.Literals.{var_limit}
use Rattle.sat_base.specs.steps.Steps.{Step}
use Rattle.sat_store.specs.heap.Vsids.{Queue, with_available}
use Rattle.sat_parts.specs.declared.parts.SearchState.{SearchState}
use Rattle.sat_parts.specs.prop.Ready.{state_of}
use Rattle.sat_parts.specs.prop.Values.{Values, value_of, with_value}
use Rattle.sat_parts.specs.parts.Whole.{InNoClause}
use Rattle.sat_parts.specs.parts.Words.{trail_letters}
use Rattle.sat_parts.proofs.lemmas.parts.LoadFrames.{freed_frame}
use Rattle.sat_parts.proofs.lemmas.parts.LoadLemmas.{sound_freed}
use Rattle.sat_parts.proofs.lemmas.parts.WordSteps.{gone_freed, word_goes, begins_refl}
use Rattle.sat_solver.specs.declared.context.Search.{Search}
use Rattle.sat_solver.specs.declared.variables.Variables.{Variables}
use Rattle.sat_solver.specs.unit_simplify.FreedIndices.{CanFreeIndices, FreesIndex, FreesSome}
use Rattle.sat_solver.specs.unit_simplify.FreedVars.{without_var, freed_below, freed_search, MarksAtMost}
use Rattle.sat_solver.specs.variables.Naming.{StoresUnit}
use Rattle.sat_solver.specs.variables.Variables.{global_at, data_at}
use Rattle.sat_solver.proofs.lemmas.unit_simplify.FreedLemmas.{frees_none, frees_one}

freed_zero : (used : List Bool) (p : SearchState) → freed_below used 0 p ≡ p
unfolding freed_below
freed_zero used p = refl

freed_suc : (used : List Bool) (k : ℕ) (p : SearchState) → freed_below used (suc k) p ≡ cond (get_or used k false) (freed_below used k p) (without_var k (freed_below used k p))
unfolding freed_below
freed_suc used k p = refl

pub none_freed : (used : List Bool) (c : Search) → freed_search used 0 c ≡ c
none_freed used c = ap (λ p. record c { parts = p }) (freed_zero used c.parts)

one_more : (k : ℕ) → k + 1 ≡ suc k
one_more k = omega arith

freed_marked : (used : List Bool) (k : ℕ) (p : SearchState) → get_or used k false ≡ true → freed_below used (k + 1) p ≡ freed_below used k p
freed_marked used k p e = ap (λ n. freed_below used n p) (one_more k) ∙ freed_suc used k p ∙ ap (λ b. cond b (freed_below used k p) (without_var k (freed_below used k p))) e

freed_here : (used : List Bool) (k : ℕ) (p : SearchState) → get_or used k false ≡ false → freed_below used (k + 1) p ≡ without_var k (freed_below used k p)
freed_here used k p e = ap (λ n. freed_below used n p) (one_more k) ∙ freed_suc used k p ∙ ap (λ b. cond b (freed_below used k p) (without_var k (freed_below used k p))) e

-- marks at or after position `at` don't matter
freed_same : (used other : List Bool) (at : ℕ) (p : SearchState) → ((v : ℕ) → v < at → get_or other v false ≡ get_or used v false) → freed_below other at p ≡ freed_below used at p
freed_same used other zero p h = freed_zero other p ∙ sym (freed_zero used p)
freed_same used other (suc k) p h =
    let rest : freed_below other k p ≡ freed_below used k p = freed_same used other k p (λ v lt. h v (omega arith)) in
    freed_suc other k p ∙ ap (λ q. cond (get_or other k false) q (without_var k q)) rest ∙ ap (λ b. cond b (freed_below used k p) (without_var k (freed_below used k p))) (h k (omega arith)) ∙ sym (freed_suc used k p)

-- what freeing variables leaves unchanged
record KeepsRest (p q : SearchState) (at : ℕ) : Type 0 where
  pub words : q.clauses ≡ p.clauses
  pub db : q.db ≡ p.db
  pub binary : q.binary ≡ p.binary
  pub size : length q.assignment.current ≡ length p.assignment.current
  pub values : (v : ℕ) → at ≤ v → value_of q.assignment.current v ≡ value_of p.assignment.current v

keeps_rest : (used : List Bool) (at : ℕ) (p : SearchState) → KeepsRest p (freed_below used at p) at
keeps_rest used zero p = subst (λ q. KeepsRest p q 0) (sym (freed_zero used p)) (record { words = refl; db = refl; binary = refl; size = refl; values = λ v le. refl })
keeps_rest used (suc k) p =
    let h : KeepsRest p (freed_below used k p) k = keeps_rest used k p in
    subst (λ q. KeepsRest p q (suc k)) (sym (freed_suc used k p)) (go (get_or used k false) h)
  where
    go : (b : Bool) → KeepsRest p (freed_below used k p) k → KeepsRest p (cond b (freed_below used k p) (without_var k (freed_below used k p))) (suc k)
    go true h = record { words = h.words; db = h.db; binary = h.binary; size = h.size; values = λ v le. h.values v (omega arith) }
    go false h = record {
      words = h.words;
      db = h.db;
      binary = h.binary;
      size = length-set (freed_below used k p).assignment.current k None ∙ h.size;
      values = λ v le. get_or-set_other (freed_below used k p).assignment.current k v None None (omega arith) ∙ h.values v (omega arith);
    }

-- THE ORDER DOES NOT MATTER

without_comm : (x y : ℕ) (p : SearchState) → without_var x (without_var y p) ≡ without_var y (without_var x p)
without_comm x y p = elim (cases_eq y x) [
  | inl e ↦ subst (λ z. without_var x (without_var z p) ≡ without_var z (without_var x p)) (sym e) refl
  | inr n ↦
      ap (λ xs. record p { assignment = record p.assignment { current = xs }; vsids = record p.vsids { available = set (set p.vsids.available y false) x false } }) (set_comm p.assignment.current y x None None n)
      ∙ ap (λ xs. record p { assignment = record p.assignment { current = set (set p.assignment.current x None) y None }; vsids = record p.vsids { available = xs } }) (set_comm p.vsids.available y x false false n)
]

freed_commutes : (used : List Bool) (k x : ℕ) (p : SearchState) → freed_below used k (without_var x p) ≡ without_var x (freed_below used k p)
freed_commutes used zero x p = freed_zero used (without_var x p) ∙ ap (without_var x) (sym (freed_zero used p))
freed_commutes used (suc k) x p =
    freed_suc used k (without_var x p) ∙ ap (λ q. cond (get_or used k false) q (without_var k q)) (freed_commutes used k x p) ∙ go (get_or used k false) ∙ ap (without_var x) (sym (freed_suc used k p))
  where
    go : (b : Bool) → cond b (without_var x (freed_below used k p)) (without_var k (without_var x (freed_below used k p))) ≡ without_var x (cond b (freed_below used k p) (without_var k (freed_below used k p)))
    go true = refl
    go false = without_comm k x (freed_below used k p)

-- the last variable may be freed first
pub freed_first : (used : List Bool) (k : ℕ) (p : SearchState) → get_or used k false ≡ false → freed_below used k (without_var k p) ≡ freed_below used (k + 1) p
freed_first used k p e = freed_commutes used k k p ∙ sym (freed_here used k p e)

pub freed_skipped : (used : List Bool) (k : ℕ) (p : SearchState) → get_or used k false ≡ true → freed_below used k p ≡ freed_below used (k + 1) p
freed_skipped used k p e = sym (freed_marked used k p e)

pub freed_all : (used : List Bool) (k : ℕ) (p q : SearchState) → k ≡ 0 → freed_below used k q ≡ freed_below used (length used) p → q ≡ freed_below used (length used) p
freed_all used k p q e h = sym (freed_zero used q) ∙ ap (λ n. freed_below used n q) (sym e) ∙ h

-- a variable is freed in two writes
pub same_without : (p : SearchState) (a : Values) (q : Queue) (v k : ℕ) → v ≡ k → a ≡ with_value v None p.assignment → q ≡ with_available v false p.vsids → record p { assignment = a; vsids = q } ≡ without_var k p
same_without p a q v k e x y =
    ap (λ (b : Values). record p { assignment = b; vsids = q }) x ∙ ap (λ (r : Queue). record p { assignment = with_value v None p.assignment; vsids = r }) y ∙ ap (λ w. without_var w p) e

-- ONE INDEX

module _ (used : List Bool) (c : Search) (x : ℕ) where
  abbrev at_x : Search
  at_x = freed_search used x c

  pub same_value : value_of at_x.parts.assignment.current x ≡ value_of c.parts.assignment.current x
  same_value = (keeps_rest used x c.parts).values x (omega arith)

  pub same_unused : InNoClause c.parts x → InNoClause at_x.parts x
  same_unused h = let k = keeps_rest used x c.parts in rw (k.words, k.db, k.binary) h

  pub same_there : x < length c.parts.assignment.current → x < length at_x.parts.assignment.current
  same_there lt = omega (arith, (keeps_rest used x c.parts).size)

  -- the index stays
  pub frees_marked : (n : Variables) (steps : List Step) (marks : List Bool) → CanFreeIndices n steps at_x → x < length used → marks ≡ set used x true → FreesSome n n steps steps at_x (freed_search marks (x + 1) c)
  frees_marked n steps marks may lt e =
      let set_here : get_or marks x false ≡ true = ap (λ (bs : List Bool). get_or bs x false) e ∙ get_or-set_same used x true false lt in
      let same : freed_below marks (x + 1) c.parts ≡ freed_below used x c.parts =
      freed_marked marks x c.parts set_here ∙ freed_same used marks x c.parts (λ v less. ap (λ (bs : List Bool). get_or bs v false) e ∙ get_or-set_other used x v true false (omega arith)) in
      subst (λ p. FreesSome n n steps steps at_x (record c { parts = p })) (sym same) (frees_none n steps at_x may)

  module _ (n : Variables) (steps : List Step) (may : CanFreeIndices n steps at_x) (v : ℕ) (there : global_at n x ≡ Some v) (n1 : Variables) (put : StoresUnit n n1 v (value_of at_x.parts.assignment.current x)) (unused : InNoClause at_x.parts x) where
    -- the index is released
    pub frees_here : (new : Variables) (to : List Step) → FreesIndex n1 new steps to v → (data_at n v).assumed ≡ false → get_or used x false ≡ false → x < length at_x.parts.assignment.current → FreesSome n new steps to at_x (freed_search used (x + 1) c)
    frees_here new to gone free unmarked room =
        let p : SearchState = at_x.parts in
        let queue : x < length p.vsids.available = omega (arith, room, may.search.valid.holds.below.queue) in
        subst (λ q. FreesSome n new steps to at_x (record c { parts = q })) (sym (freed_here used x c.parts unmarked))
        (frees_one n steps at_x may x v there n1 put unused new to (without_var x p) gone free (freed_frame p x may.flat.empty room)
        (sound_freed p.clauses p.db p.watchlists p.binary p.assignment p.graph p.trail p.vsids x may.search.valid.holds may.flat.bottom may.flat.empty room unused)
        (get_or-set_same p.assignment.current x None None room) room
        (λ am other. word_goes am (state_of p.assignment p.graph p.trail) p.vsids (state_of (with_value x None p.assignment) p.graph p.trail) (with_available x false p.vsids)
        (gone_freed am p.assignment p.graph p.trail p.vsids x queue may.search.valid.holds.below.queue other) (begins_refl (trail_letters p.trail))))

-- one mark is set
pub marks_one : (used marks : List Bool) (x : ℕ) → marks ≡ set used x true → x < length used → MarksAtMost x used marks
marks_one used marks x e lt = record {
  size = ap (λ (bs : List Bool). length bs) e ∙ length-set used x true;
  others = λ v n. ap (λ (bs : List Bool). get_or bs v false) e ∙ get_or-set_other used x v true false n;
  more = λ v f. elim (cases_eq v x) [
    | inl q ↦ absurd (true≢false (sym (ap (λ (bs : List Bool). get_or bs v false) e ∙ ap (λ z. get_or (set used x true) z false) q ∙ get_or-set_same used x true false lt) ∙ f))
    | inr n ↦ sym (ap (λ (bs : List Bool). get_or bs v false) e ∙ get_or-set_other used x v true false n) ∙ f
  ];
}

pub marks_none : (used : List Bool) (x : ℕ) → MarksAtMost x used used
marks_none used x = record { size = refl; others = λ v n. refl; more = λ v f. f }

-- a marked index is skipped
pub frees_skipped : (a b : Variables) (from to : List Step) (c0 c : Search) (used : List Bool) (k : ℕ) → get_or used k false ≡ true → FreesSome a b from to c0 (freed_search used k c) → FreesSome a b from to c0 (freed_search used (k + 1) c)
frees_skipped a b from to c0 c used k e h = subst (λ p. FreesSome a b from to c0 (record c { parts = p })) (freed_skipped used k c.parts e) h

-- all unmarked indices were freed
pub frees_all : (a b : Variables) (from to : List Step) (c : Search) (used : List Bool) (k : ℕ) (p : SearchState) → k ≡ length used → p ≡ freed_below used (length used) c.parts → FreesSome a b from to c (freed_search used k c) → FreesSome a b from to c (record c { parts = p })
frees_all a b from to c used k p e q h = subst (λ z. FreesSome a b from to c (record c { parts = z })) (ap (λ n. freed_below used n c.parts) e ∙ sym q) h

-- the number of indices is within the limit of variables
pub marks_fit : (n : Variables) (steps : List Step) (c : Search) → CanFreeIndices n steps c → length c.parts.assignment.current ≤ var_limit
marks_fit n steps c may = omega (arith, may.shares.size, may.shares.few, may.valid.tidy.indices, may.valid.tidy.within)
