-- The effect of calls at level 0 on units and clauses.
use Rattle.std.proofs.Common.{ℕ, ◌≡◌, ◌≢◌, ◌+◌, ◌<◌, ◌⊎◌, inl, inr, false, None, List, [], ◌∷◌, ◌++◌, length, get_or, get_or-set_same, get_or-set_other, refl, sym, ap, ◌∙◌, subst, arith}
use Rattle.std.proofs.lemmas.Bool.{cases_lt, cases_eq}
use Rattle.std.proofs.lemmas.List.{length_push}
use Rattle.sat_base.specs.values.Literals.{variable}
use Rattle.sat_parts.specs.declared.prop.graph.ImplNode.{ImplNode}
use Rattle.sat_parts.specs.declared.prop.graph.Reason.TheVariants.{Unit as NoCause}
use Rattle.sat_store.specs.clause.Header.{no_header}
use Rattle.sat_store.specs.heap.Vsids.{with_available}
use Rattle.sat_parts.specs.clause.Db.{Db, AddsLongClause}
use Rattle.sat_parts.specs.prop.Binaries.{Binaries, with_binary}
use Rattle.sat_parts.specs.prop.Graphs.{has_no_clause, enqueued_node, node_of, new_node}
use Rattle.sat_parts.specs.prop.Values.{IsTrueLit, value_of, with_value}
use Rattle.sat_parts.specs.prop.State.{PropagationState, node, level, lit_at, IsRemovedUnit, StateIsConsistent, enqueued}
use Rattle.sat_parts.proofs.lemmas.prop.StateLemmas.{lit_front, lit_last}
use Rattle.sat_parts.specs.declared.parts.SearchState.{SearchState}
use Rattle.sat_parts.specs.declared.parts.load.Loaded.{Loaded}
use Rattle.sat_parts.specs.declared.parts.load.Loaded.TheVariants.{Stored, Unit as One, Satisfied, Falsified}
use Rattle.sat_parts.specs.parts.Whole.{state}
use Rattle.sat_parts.specs.parts.Frame.{AddsNoUnit, SameClauses, SameState, GainsUnit, FreesVar, AddsOriginalClause, stores_binary, stores_long, IsUnitLit}
use Rattle.sat_parts.specs.parts.Loading.{LoadEffect}
use Rattle.sat_parts.proofs.lemmas.parts.FrameLemmas.{carries_trans, carries_refl}
use Rattle.sat_parts.proofs.lemmas.parts.ValueLemmas.{some_none}
use Rattle.sat_parts.proofs.lemmas.parts.ClearLemmas.{dropped, again_true, again_back, again_level, again_size}

pub gains_after : (l : ℕ) (a b c : PropagationState) → AddsNoUnit a b → GainsUnit l b c → GainsUnit l a c
gains_after l a b c x y = record {
  size = y.size ∙ x.size;
  units = λ m u. elim (y.units m u) [ inl v ↦ inl (x.units m v) | inr e ↦ inr e ];
  bottom = λ m t z. (let k = x.bottom m t z in y.bottom m k.0 k.1);
  holds = y.holds;
}

-- a unit is put back
pub carries_again : (s : PropagationState) (l : ℕ) → StateIsConsistent s → IsRemovedUnit s l → length s.trail.starts ≡ 0 → AddsNoUnit s (enqueued l NoCause (dropped l s))
carries_again s l a gone bottom =
    let s' : PropagationState = enqueued l NoCause (dropped l s) in
    let size : length (s.trail.lits ++ l ∷ []) ≡ length s.trail.lits + 1 = length_push s.trail.lits l in
    let other : (m : ℕ) → variable m ≢ variable l → node s' m ≡ node s m = λ m n. get_or-set_other s.nodes (variable l) (variable m) (enqueued_node s.trail NoCause) new_node n in
    record {
      size = again_size s l;
      units = λ m u. elim u [
        | inl r ↦ elim (again_back s l m gone r.holds) [
          | inl e ↦ inl (subst (λ z. IsRemovedUnit s z) (sym e) gone)
          | inr z ↦ inl (record { holds = z.1; depth = sym (ap (λ (k : ImplNode). k.depth) (other m z.0)) ∙ r.depth; bottom = sym (ap (λ (k : ImplNode). k.level) (other m z.0)) ∙ r.bottom })
        ]
        | inr b ↦ elim (cases_lt b.place (length s.trail.lits)) [
          | inl lt ↦
              let there : lit_at s b.place ≡ m = sym (lit_front (dropped l s) l NoCause b.place lt) ∙ b.there in
              let holds : IsTrueLit s.values m = subst (λ z. IsTrueLit s.values z) there (a.holds b.place lt) in
              elim (cases_eq (variable m) (variable l)) [
                | inl e ↦ inl (record {
                  holds = holds;
                  depth = ap (λ v. (node_of s.nodes v).depth) e ∙ gone.depth;
                  bottom = ap (λ v. (node_of s.nodes v).level) e ∙ gone.bottom;
                })
                | inr n ↦ inr (record {
                  place = b.place;
                  within = lt;
                  there = there;
                  bottom = sym (ap (λ (k : ImplNode). k.level) (other m n)) ∙ b.bottom;
                  none = sym (ap (λ (k : ImplNode). has_no_clause k.reason) (other m n)) ∙ b.none;
                })
              ]
          | inr ge ↦
              let last : b.place ≡ length s.trail.lits = omega (arith, b.within) in
              inl (subst (λ z. IsRemovedUnit s z) (sym (sym b.there ∙ ap (λ k. lit_at s' k) last ∙ lit_last (dropped l s) l NoCause)) gone)
        ]
      ];
      bottom = λ m t z. (again_true s l m a gone t, again_level s l m a gone bottom ∙ z);
    }

-- values, reasons and trail are unchanged
pub carries_same : (p p' : SearchState) → SameState p p' → AddsNoUnit (state p) (state p')
carries_same p p' e = rw (e.0, e.1, e.2) (carries_refl (state p))

-- a clause is stored after a call that changed no clauses and added no unit
pub stores_after : (p m p' : SearchState) (ls : List ℕ) → SameClauses p m → AddsNoUnit (state p) (state m) → AddsOriginalClause m p' ls → AddsOriginalClause p p' ls
stores_after p m p' ls same carries (stores_binary size words db binary more) =
    stores_binary size (words ∙ same.0) (db ∙ same.1) (subst (λ (x : Binaries). p'.binary ≡ with_binary (get_or ls 0 0) (get_or ls 1 0) x) same.2 binary) (carries_trans (state p) (state m) (state p') carries more)
stores_after p m p' ls same carries (stores_long size o added binary more) =
    stores_long size o (subst (λ (db : Db). AddsLongClause p.clauses db p'.clauses p'.db o no_header ls) same.1 (subst (λ (ws : List ℕ). AddsLongClause ws m.db p'.clauses p'.db o no_header ls) same.0 added)) (binary ∙ same.2)
    (carries_trans (state p) (state m) (state p') carries more)

same_trans : (p m p' : SearchState) → SameClauses p m → SameClauses m p' → SameClauses p p'
same_trans p m p' a b = (b.0 ∙ a.0, b.1 ∙ a.1, b.2 ∙ a.2)

-- a clause is loaded after units were put back
pub says_after : (r : Loaded) (p m p' : SearchState) (ls : List ℕ) → SameClauses p m → AddsNoUnit (state p) (state m) → ((v : ℕ) → value_of m.assignment.current v ≡ value_of p.assignment.current v) → LoadEffect r m p' ls → LoadEffect r p p' ls
says_after Stored p m p' ls same carries values x = stores_after p m p' ls same carries x
says_after One p m p' ls same carries values x =
    (x.0, sym (values (variable (get_or ls 0 0))) ∙ x.1, same_trans p m p' same x.2, gains_after (get_or ls 0 0) (state p) (state m) (state p') carries x.3)
says_after Satisfied p m p' ls same carries values x =
    (same_trans p m p' same x.0, carries_trans (state p) (state m) (state p') carries x.1, (x.2.0, (x.2.1.0, sym (values (variable (get_or ls x.2.0 0))) ∙ x.2.1.1)))
says_after Falsified p m p' ls same carries values x =
    (x.0, λ k b. sym (values (variable (get_or ls k 0))) ∙ x.1 k b, same_trans p m p' same x.2, carries_trans (state p) (state m) (state p') carries x.3)

-- loading a clause keeps the number of variables
stored_size : (p p' : SearchState) (ls : List ℕ) → AddsOriginalClause p p' ls → length p'.assignment.current ≡ length p.assignment.current
stored_size p p' ls (stores_binary two a b c carries) = carries.size
stored_size p p' ls (stores_long three o adds b carries) = carries.size

-- loading a clause keeps the number of variables
pub says_size : (r : Loaded) (p p' : SearchState) (ls : List ℕ) → LoadEffect r p p' ls → length p'.assignment.current ≡ length p.assignment.current
says_size Stored p p' ls says = stored_size p p' ls says
says_size One p p' ls says = says.3.size
says_size Satisfied p p' ls says = says.1.size
says_size Falsified p p' ls says = says.3.size

-- loading a clause adds no unit, except possibly its first literal
stored_units : (p p' : SearchState) (ls : List ℕ) → AddsOriginalClause p p' ls → (l : ℕ) → IsUnitLit (state p') l → IsUnitLit (state p) l
stored_units p p' ls (stores_binary two a b c carries) l u = carries.units l u
stored_units p p' ls (stores_long three o adds b carries) l u = carries.units l u

-- loading a clause makes at most its first literal a new unit
pub says_units : (r : Loaded) (p p' : SearchState) (ls : List ℕ) → LoadEffect r p p' ls → (l : ℕ) → IsUnitLit (state p') l → IsUnitLit (state p) l ⊎ ((0 < length ls) × (l ≡ get_or ls 0 0))
says_units Stored p p' ls says l u = inl (stored_units p p' ls says l u)
says_units One p p' ls says l u = elim (says.3.units l u) [ inl o ↦ inl o | inr e ↦ inr (omega (arith, says.0), e) ]
says_units Satisfied p p' ls says l u = inl (says.1.units l u)
says_units Falsified p p' ls says l u = inl (says.3.units l u)

-- the literals of level 0 stay
stored_bottom : (p p' : SearchState) (ls : List ℕ) → AddsOriginalClause p p' ls → (l : ℕ) → IsTrueLit p.assignment.current l → level (state p) l ≡ 0 → IsTrueLit p'.assignment.current l × (level (state p') l ≡ 0)
stored_bottom p p' ls (stores_binary two a b c carries) l t z = carries.bottom l t z
stored_bottom p p' ls (stores_long three o adds b carries) l t z = carries.bottom l t z

-- literals of level 0 stay true at level 0 when a clause is loaded
pub says_bottom : (r : Loaded) (p p' : SearchState) (ls : List ℕ) → LoadEffect r p p' ls → (l : ℕ) → IsTrueLit p.assignment.current l → level (state p) l ≡ 0 → IsTrueLit p'.assignment.current l × (level (state p') l ≡ 0)
says_bottom Stored p p' ls says l t z = stored_bottom p p' ls says l t z
says_bottom One p p' ls says l t z = says.3.bottom l t z
says_bottom Satisfied p p' ls says l t z = says.1.bottom l t z
says_bottom Falsified p p' ls says l t z = says.3.bottom l t z

-- a variable in no clause is freed
pub freed_frame : (p : SearchState) (v : ℕ) → p.trail.lits ≡ [] → v < length p.assignment.current → FreesVar p (record p { assignment = with_value v None p.assignment; vsids = with_available v false p.vsids }) v
freed_frame p v empty below =
    let none : length p.trail.lits ≡ 0 = ap (λ (xs : List ℕ). length xs) empty in
    record {
      clauses = (refl, refl, refl);
      values = refl;
      graph = refl;
      trail = refl;
      queue = refl;
      units = λ l u. elim u [
        | inl r ↦ elim (cases_eq (variable l) v) [
          | inl e ↦ absurd (some_none r.holds (ap (λ k. value_of (with_value v None p.assignment).current k) e ∙ get_or-set_same p.assignment.current v None None below))
          | inr n ↦ (inl (record { holds = sym (get_or-set_other p.assignment.current v (variable l) None None n) ∙ r.holds; depth = r.depth; bottom = r.bottom }), n)
        ]
        | inr b ↦ (let lt : b.place < length p.trail.lits = b.within in absurd (omega arith))
      ];
      bottom = λ l n t z. (get_or-set_other p.assignment.current v (variable l) None None n ∙ t, z);
    }
