-- One long clause was visited, and the others are unchanged.
use Rattle.std.proofs.Common.{ℕ, ◌≡◌, ◌≢◌, ◌<◌, ◌≤◌, ◌∙◌, List, [], ◌∷◌, take, length, get_or, refl, sym, ap, subst, arith}
use Rattle.std.proofs.lemmas.List.{get_or-take, length-take-le}
use Rattle.std.specs.List.{Contains}
use Rattle.sat_store.specs.clause.Buffer.{lits_at}
use Rattle.sat_parts.specs.clause.Db.{Db, live_refs}
use Rattle.sat_parts.specs.clause.Orders.{IsReordering}
use Rattle.sat_parts.specs.clause.Stored.{lit_of, size_of}
use Rattle.sat_parts.specs.prop.Values.{Values, IsUnassignedLit}
use Rattle.sat_parts.proofs.lemmas.clause.ListLemmas.{in_without}
use Rattle.sat_parts.proofs.lemmas.prop.BuildLemmas.{live_in}
use Rattle.sat_solver.specs.session.Session.{Session}
use Rattle.sat_parts.specs.declared.parts.SearchState.{SearchState}
use Rattle.sat_parts.specs.parts.Frame.{ReordersLits, DeletesLongClause, ShortensLongClause, AddsOriginalClause, stores_binary, stores_long}
use Rattle.sat_solver.specs.declared.context.Search.{Search}
use Rattle.sat_solver.specs.cdcl.Joint.{SearchInvariant}
use Rattle.sat_solver.specs.unit_simplify.Strengthening.{MovesOpenLitsFirst, StrengthensTo, puts_long, puts_pair, StrengtheningEffect}
use Rattle.sat_solver.specs.unit_simplify.EmptyTrail.{IsStrengthened, StrengthensClause}
use Rattle.sat_solver.specs.unit_simplify.ClauseStatus.{HasNoAssignedLit}
use Rattle.sat_solver.proofs.lemmas.unit_simplify.GatherLemmas.{moved_size}
use Rattle.sat_solver.proofs.lemmas.unit_simplify.StrengthenSearchLemmas.{strengthened_refl}

-- every other live clause was live before, and is open if it was
abbrev OthersStay : SearchState → SearchState → ℕ → Type 0
OthersStay p q o = (x : ℕ) → x ≢ o → Contains (live_refs q.clauses q.db.refs) x → Contains (live_refs p.clauses p.db.refs) x × (HasNoAssignedLit p x → HasNoAssignedLit q x)

open_kept : (p q : SearchState) (x : ℕ) → lits_at q.clauses x ≡ lits_at p.clauses x → q.assignment ≡ p.assignment → HasNoAssignedLit p x → HasNoAssignedLit q x
open_kept p q x lits values h k lt =
    subst (λ (v : Values). IsUnassignedLit v.current (lit_of q.clauses x k)) (sym values)
    (subst (λ (ls : List ℕ). IsUnassignedLit p.assignment.current (get_or ls k 0)) (sym lits) (h k (subst (λ (ls : List ℕ). k < length ls) lits lt)))

open_moved : (p q : SearchState) (x : ℕ) → IsReordering (lits_at p.clauses x) (lits_at q.clauses x) → q.assignment ≡ p.assignment → HasNoAssignedLit p x → HasNoAssignedLit q x
open_moved p q x order values h k lt =
    let j = order.back k (omega (arith, order.size)) in
    subst (λ (v : Values). IsUnassignedLit v.current (lit_of q.clauses x k)) (sym values)
    (subst (λ l. IsUnassignedLit p.assignment.current l) j.1.1 (h j.0 j.1.0))

others_trans : (p q r : SearchState) (o : ℕ) → OthersStay p q o → OthersStay q r o → OthersStay p r o
others_trans p q r o f g x n c = (let b = g x n c in let a = f x n b.0 in (a.0, λ h. b.1 (a.1 h)))

others_dropped : (p q : SearchState) (o : ℕ) → DeletesLongClause p q o → OthersStay p q o
others_dropped p q o d x n c =
    let y = in_without o x (live_refs p.clauses p.db.refs) (subst (λ (xs : List ℕ). Contains xs x) d.deletes.live c) in
    (y.0, open_kept p q x (d.deletes.put.others x (live_in p.clauses p.db.refs x y.0) n).lits d.same.0.0)

gone_dropped : (p q : SearchState) (o : ℕ) → DeletesLongClause p q o → Contains (live_refs q.clauses q.db.refs) o → HasNoAssignedLit q o
gone_dropped p q o d c = absurd ((in_without o o (live_refs p.clauses p.db.refs) (subst (λ (xs : List ℕ). Contains xs o) d.deletes.live c)).1 refl)

others_short : (p q : SearchState) (o len : ℕ) → ShortensLongClause p q o len → OthersStay p q o
others_short p q o len s x n c =
    let y : Contains (live_refs p.clauses p.db.refs) x = subst (λ (xs : List ℕ). Contains xs x) s.shortens.live (subst (λ (d : Db). Contains (live_refs q.clauses d.refs) x) s.db c) in
    (y, open_kept p q x (s.shortens.others x (live_in p.clauses p.db.refs x y) n).lits s.same.0.0)

others_moved : (p q : SearchState) (o : ℕ) → ReordersLits p q → q.assignment ≡ p.assignment → OthersStay p q o
others_moved p q o m values x n c =
    let y : Contains (live_refs p.clauses p.db.refs) x = subst (λ (xs : List ℕ). Contains xs x) m.live c in
    (y, open_moved p q x (m.kept.lits x y) values)

-- storing a binary clause leaves the long clauses unchanged
pub stores_two : (p q : SearchState) (ls : List ℕ) → length ls ≡ 2 → AddsOriginalClause p q ls → (q.clauses ≡ p.clauses) × (q.db ≡ p.db)
stores_two p q ls two (stores_binary e words list pairs carries) = (words, list)
stores_two p q ls two (stores_long three o adds pairs carries) = absurd (omega arith)

others_stored : (p q : SearchState) (o : ℕ) (ls : List ℕ) → length ls ≡ 2 → AddsOriginalClause p q ls → q.assignment ≡ p.assignment → OthersStay p q o
others_stored p q o ls two s values x n c =
    let same = stores_two p q ls two s in
    (subst (λ (d : Db). Contains (live_refs p.clauses d.refs) x) same.1 (subst (λ (ws : List ℕ). Contains (live_refs ws q.db.refs) x) same.0 c), open_kept p q x (ap (λ ws. lits_at ws x) same.0) values)

-- a clause without assigned variables is unchanged
pub strengthens_none : (s : Session) (c : Search) (o : ℕ) → SearchInvariant s c → HasNoAssignedLit c.parts o → StrengthensClause s c c o
strengthens_none s c o h is_open = record { strengthened = strengthened_refl s c h; left = λ k. is_open; others = λ p n k. (k, λ x. x) }

-- the clause was deleted
pub strengthens_dropped : (t : Session) (c d : Search) (o : ℕ) → IsStrengthened t c d → DeletesLongClause c.parts d.parts o → StrengthensClause t c d o
strengthens_dropped t c d o l dropped = record { strengthened = l; left = gone_dropped c.parts d.parts o dropped; others = others_dropped c.parts d.parts o dropped }

-- the clause lost its false literals
module _ (t : Session) (c d : Search) (p : SearchState) (o len : ℕ) (l : IsStrengthened t c d) (there : Contains (live_refs c.parts.clauses c.parts.db.refs) o) (within : len ≤ size_of c.parts.clauses o) (g : MovesOpenLitsFirst c.parts p o len (size_of c.parts.clauses o)) (r : StrengtheningEffect p d.parts o len) where
  short_open : ShortensLongClause p d.parts o len → HasNoAssignedLit d.parts o
  short_open s k lt =
      let size : size_of p.clauses o ≡ size_of c.parts.clauses o = moved_size c.parts p o g.moved there in
      let taken : length (take len (lits_at p.clauses o)) ≡ len = length-take-le len (lits_at p.clauses o) (omega (arith, size)) in
      let less : k < len = (let z : k < length (take len (lits_at p.clauses o)) = subst (λ (ls : List ℕ). k < length ls) s.shortens.lits_there lt in omega arith) in
      subst (λ (v : Values). IsUnassignedLit v.current (lit_of d.parts.clauses o k)) (sym (r.state.0 ∙ g.same.0.0))
      (subst (λ m. IsUnassignedLit c.parts.assignment.current m) (sym (ap (λ (ls : List ℕ). get_or ls k 0) s.shortens.lits_there ∙ get_or-take len (lits_at p.clauses o) k 0 less)) (g.front k less))

  left_open : StrengthensTo p d.parts o len → Contains (live_refs d.parts.clauses d.parts.db.refs) o → HasNoAssignedLit d.parts o
  left_open (puts_long long s) k = short_open s
  left_open (puts_pair two mid stores drops) k = gone_dropped mid d.parts o drops k

  others_put : StrengthensTo p d.parts o len → OthersStay p d.parts o
  others_put (puts_long long s) = others_short p d.parts o len s
  others_put (puts_pair two mid stores drops) =
      others_trans p mid d.parts o (others_stored p mid o (lit_of p.clauses o 0 ∷ lit_of p.clauses o 1 ∷ []) refl stores (sym drops.same.0.0 ∙ r.state.0)) (others_dropped mid d.parts o drops)

  pub strengthens_cut : StrengthensClause t c d o
  strengthens_cut = record {
    strengthened = l;
    left = left_open r.puts;
    others = others_trans c.parts p d.parts o (others_moved c.parts p o g.moved g.same.0.0) (others_put r.puts);
  }
