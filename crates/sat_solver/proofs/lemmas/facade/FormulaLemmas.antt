-- Clauses are added one after another, or read from a text in chunks.
use Rattle.std.proofs.Common.{ℕ, ◌+◌, ◌≤◌, ◌≡◌, ◌⊎◌, ◌∙◌, Bool, true, false, Result, Ok, Err, List, [], ◌∷◌, ◌++◌, append_assoc, length, refl, sym, ap, subst, inl, inr}
use Rattle.std.proofs.lemmas.Bool.{true≢false}
use Rattle.std.proofs.lemmas.List.{append-nil}
use Rattle.anyhow.specs.declared.error.Error.{Error}
use Rattle.sat_base.specs.device.Device.{Reader, GaveEnough, GavePrefix, ReadFails}
use Rattle.sat_base.specs.dimacs.Dimacs.{dimacs, up_to_last_blank}
use Rattle.sat_base.specs.dimacs.Parsing.{Progress, with_fed, clauses_read, with_all_taken, FeedsPiece, FinishEffect, HasNoFaultSoFar, TextHasNoFault}
use Rattle.sat_base.specs.declared.dimacs.error.DimacsError.{DimacsError}
use Rattle.sat_base.specs.declared.dimacs.error.DimacsError.TheVariants as texts
use Rattle.sat_base.proofs.lemmas.device.Given.{enough_front}
use Rattle.sat_base.proofs.lemmas.dimacs.Parsed.{HasAccepted as HasFed}
use Rattle.sat_base.proofs.lemmas.dimacs.ReadToEnd.{ReadToEnd}
use Rattle.sat_checker.specs.DimacsView.{AreClausesRead, ReadingFailsAfter}
use Rattle.sat_checker.specs.ProofView.{NoReadFailed}
use Rattle.sat_checker.proofs.lemmas.checker.Texts.{fed_more, open_read, read_by_piece, fails_by_piece, fails_by_end}
use Rattle.sat_solver.proofs.lemmas.solver.StoppingLemmas.{read_at_end, clean_at_end}
use Rattle.sat_checker.specs.announcements.Announcements.{Notice}
use Rattle.sat_solver.specs.declared.error.SolverError.{SolverError}
use Rattle.sat_solver.specs.declared.error.SolverError.TheVariants as errors
use Rattle.sat_solver.specs.solver.Formulas.{text_fault}
use Rattle.sat_solver.specs.facade.View.{SolverView}
use Rattle.sat_solver.specs.facade.Calls.{Refuses}
use Rattle.sat_solver.specs.facade.Extending.{CallsAddClause}
use Rattle.sat_solver.specs.facade.Formulas.{AddsAll, StopsAtClause, AddsFormula, TextFails, ClauseFails, AddsText, AddsFormulaRead}

-- Reading more of a text does not change the clauses that were taken before.

taken_by_piece : (answer : Result Unit DimacsError) (text piece : List ℕ) (p q : Progress) → HasFed text p → FeedsPiece answer piece p q → q.taken ≡ p.taken
taken_by_piece (Ok x) text piece p q is f = ap (λ (z : Progress). z.taken) f.1
taken_by_piece (Err (texts.Malformed line)) text piece p q is f = ap (λ (z : Progress). z.taken) f.3.progress
taken_by_piece (Err (texts.Limit line)) text piece p q is f = ap (λ (z : Progress). z.taken) f.3.progress
taken_by_piece (Err texts.OutOfMemory) text piece p q is f = ap (λ (z : Progress). z.taken) f.1.progress
taken_by_piece (Err texts.Read) text piece p q is f = absurd f
taken_by_piece (Err texts.HasFailed) text piece p q is f = ap (λ (z : Progress). z.taken) f.1

taken_by_end : (answer : Result Unit DimacsError) (p q : Progress) → FinishEffect answer p q → q.taken ≡ p.taken
taken_by_end (Err texts.Read) p q f = absurd f
taken_by_end e p q f = ap (λ (z : Progress). z.taken) f.1

split_one : (clauses before rest more : List (List ℕ)) (c : List ℕ) → clauses ≡ before ++ rest → rest ≡ c ∷ more → clauses ≡ (before ++ c ∷ []) ++ more
split_one clauses before rest more c e f = e ∙ ap (λ (z : List (List ℕ)). before ++ z) f ∙ sym (append_assoc before (c ∷ []) more)

fault_apart : (d : DimacsError) → text_fault d ≡ errors.HasFailed → d ≡ texts.HasFailed
fault_apart texts.HasFailed e = refl
fault_apart x e = cc

module _ {L : Type 0} (takes : L → Notice → Result Unit Error → L → Type 0) where
  -- CLAUSES

  pub adds_joined : (a b d : SolverView L) (cs ds : List (List ℕ)) → AddsAll takes a cs b → AddsAll takes b ds d → AddsAll takes a (cs ++ ds) d
  adds_joined a b d [] ds p q = subst (λ z. AddsAll takes z ds d) p q
  adds_joined a b d (c ∷ cs) ds p q = (p.0, p.1, adds_joined p.0 b d cs ds p.2 q)

  pub adds_going : (a b : SolverView L) (cs : List (List ℕ)) → a.failed ≡ false → AddsAll takes a cs b → b.failed ≡ false
  adds_going a b [] going p = ap (λ (z : SolverView L). z.failed) p ∙ going
  adds_going a b (c ∷ cs) going p = adds_going p.0 b cs p.1.adds.did.failed p.2

  -- the clauses before `rest` were added
  pub record AddedSo (old now : SolverView L) (clauses rest : List (List ℕ)) : Type 0 where
    pub before : List (List ℕ)
    pub split : clauses ≡ before ++ rest
    pub added : AddsAll takes old before now

  pub so_none : (old : SolverView L) (clauses rest : List (List ℕ)) → clauses ≡ rest → AddedSo old old clauses rest
  so_none old clauses rest e = record { before = []; split = e; added = refl }

  pub so_one : (old now new : SolverView L) (clauses rest more : List (List ℕ)) (c : List ℕ) → rest ≡ c ∷ more → AddedSo old now clauses rest → CallsAddClause takes (Ok tt) now new c → AddedSo old new clauses more
  so_one old now new clauses rest more c e so added = record {
    before = so.before ++ c ∷ [];
    split = split_one clauses so.before rest more c so.split e;
    added = adds_joined old now new so.before (c ∷ []) so.added (new, added, refl);
  }

  pub so_all : (old now : SolverView L) (clauses rest : List (List ℕ)) → old.failed ≡ false → rest ≡ [] → AddedSo old now clauses rest → AddsFormula takes (Ok tt) old now clauses
  so_all old now clauses rest going e so = (going, subst (λ cs. AddsAll takes old cs now) (sym (so.split ∙ ap (λ (z : List (List ℕ)). so.before ++ z) e ∙ append-nil so.before)) so.added)

  stops_at : (e : SolverError) (old now new : SolverView L) (clauses rest more : List (List ℕ)) (c : List ℕ) → old.failed ≡ false → rest ≡ c ∷ more → AddedSo old now clauses rest → CallsAddClause takes (Err e) now new c → StopsAtClause takes e old new clauses
  stops_at e old now new clauses rest more c going at so stops =
      record { going = going; before = so.before; clause = c; left = more; split = so.split ∙ ap (λ (z : List (List ℕ)). so.before ++ z) at; mid = now; added = so.added; stops = stops }

  -- a clause is never refused because of an earlier failure
  clause_apart : (e : SolverError) (old new : SolverView L) (clauses : List (List ℕ)) → StopsAtClause takes e old new clauses → e ≡ errors.HasFailed → ⊥
  clause_apart e old new clauses s is =
      let r : Refuses s.mid new (s.mid.failed ≡ true) = (subst (λ (z : SolverError). CallsAddClause takes (Err z) s.mid new s.clause) is s.stops).adds in
      true≢false (sym r.cause ∙ adds_going old s.mid s.before s.going s.added)

  formula_by : (e : SolverError) (old new : SolverView L) (clauses : List (List ℕ)) → (e ≡ errors.HasFailed → ⊥) → StopsAtClause takes e old new clauses → AddsFormula takes (Err e) old new clauses
  formula_by errors.HasFailed old new clauses n s = absurd (n refl)
  formula_by e old new clauses n s = s

  pub so_stops : (e : SolverError) (old now new : SolverView L) (clauses rest more : List (List ℕ)) (c : List ℕ) → old.failed ≡ false → rest ≡ c ∷ more → AddedSo old now clauses rest → CallsAddClause takes (Err e) now new c → AddsFormula takes (Err e) old new clauses
  so_stops e old now new clauses rest more c going at so stops =
      let s = stops_at e old now new clauses rest more c going at so stops in
      formula_by e old new clauses (clause_apart e old new clauses s) s

  -- the converse, for a solver that has not failed
  pub stops_of : (e : SolverError) (old new : SolverView L) (clauses : List (List ℕ)) → old.failed ≡ false → AddsFormula takes (Err e) old new clauses → StopsAtClause takes e old new clauses
  stops_of errors.HasFailed old new clauses going s = absurd (true≢false (sym s.cause ∙ going))
  stops_of e old new clauses going s = s

  -- TEXTS

  text_by : (e : SolverError) (old new : SolverView L) (from to : Reader) → (e ≡ errors.HasFailed → ⊥) → TextFails takes e old new from to ⊎ ClauseFails takes e old new from to → AddsText takes (Err e) old new from to
  text_by errors.HasFailed old new from to n s = absurd (n refl)
  text_by e old new from to n s = s

  module _ (old cur : SolverView L) (going : old.failed ≡ false) (q : Progress) (first : AddsAll takes old q.taken cur) where
    -- the clauses that were read before are added, then these
    first_then : (new : SolverView L) (clauses : List (List ℕ)) → clauses_read q ≡ q.taken ++ clauses → AddsAll takes cur clauses new → AddsAll takes old (clauses_read q) new
    first_then new clauses split added = subst (λ cs. AddsAll takes old cs new) (sym split) (adds_joined old cur new q.taken clauses first added)

    stops_then : (e : SolverError) (new : SolverView L) (clauses : List (List ℕ)) → clauses_read q ≡ q.taken ++ clauses → StopsAtClause takes e cur new clauses → StopsAtClause takes e old new (clauses_read q)
    stops_then e new clauses split s = record {
      going = going;
      before = q.taken ++ s.before;
      clause = s.clause;
      left = s.left;
      split = split ∙ ap (λ (z : List (List ℕ)). q.taken ++ z) s.split ∙ sym (append_assoc q.taken s.before (s.clause ∷ s.left));
      mid = s.mid;
      added = adds_joined old cur s.mid q.taken s.before first s.added;
      stops = s.stops;
    }

    answers_text : (e : SolverError) (answer : Result Unit DimacsError) (new : SolverView L) (from to : Reader) → NoReadFailed from to → ((d : DimacsError) → answer ≡ Err d → ReadingFailsAfter d from to (clauses_read q)) → (answer ≡ Err texts.HasFailed → ⊥) →
        GaveEnough from to (λ text. AreClausesRead text (clauses_read q)) → AddsFormulaRead takes (Err e) answer q cur new → AddsText takes (Err e) old new from to
    answers_text e answer new from to quiet fails apart read a = elim a.2 [
      | inl r ↦ text_by e old new from to (λ is. apart (r.answered ∙ ap (λ (d : DimacsError). Err d) (fault_apart r.fault (sym r.is ∙ is))))
          (inl (record { going = going; fault = r.fault; is = r.is; clauses = clauses_read q; fails = fails r.fault r.answered; mid = r.mid; added = first_then r.mid a.0 a.1 r.added; new_is = r.new_is }))
      | inr s ↦ text_by e old new from to (clause_apart e cur new a.0 s) (inr (record { quiet = quiet; clauses = clauses_read q; read = read; stops = stops_then e new a.0 a.1 s }))
    ]

  -- a chunk was read without a fault, and its clauses were added
  pub piece_added : (old cur new : SolverView L) (text piece : List ℕ) (p q r : Progress) (answer : Result Unit DimacsError) → HasFed text p → FeedsPiece answer piece p q → r ≡ with_all_taken q → AddsFormulaRead takes (Ok tt) answer q cur new → AddsAll takes old p.taken cur
      → HasFed (text ++ piece) r × (r.taken ≡ (dimacs (up_to_last_blank (text ++ piece))).clauses) × AddsAll takes old r.taken new
  piece_added old cur new text piece p q r answer is f t a added =
      let fed : q ≡ with_fed piece p = (subst (λ (z : Result Unit DimacsError). FeedsPiece z piece p q) a.2.0 f).1 in
      let first : AddsAll takes old q.taken cur = subst (λ cs. AddsAll takes old cs cur) (sym (ap (λ (z : Progress). z.taken) fed)) added in (
        fed_more text piece p q r is fed t,
        ap (λ (z : Progress). z.taken) t ∙ open_read text piece p q is fed,
        subst (λ cs. AddsAll takes old cs new) (sym (ap (λ (z : Progress). z.taken) t)) (subst (λ cs. AddsAll takes old cs new) (sym a.1) (adds_joined old cur new q.taken a.0 first a.2.1)),
      )

  -- reading stops in a chunk
  pub piece_answers : (e : SolverError) (answer : Result Unit DimacsError) (old cur new : SolverView L) (from to : Reader) (text piece : List ℕ) (p q : Progress) → old.failed ≡ false → HasFed text p → FeedsPiece answer piece p q → NoReadFailed from to
      → GavePrefix from to (text ++ piece) → to.ended ≡ false → to.calls ≤ from.calls + length (text ++ piece) + 1 → AddsAll takes old p.taken cur → AddsFormulaRead takes (Err e) answer q cur new → AddsText takes (Err e) old new from to
  piece_answers e answer old cur new from to text piece p q going is f n g o few added a =
      answers_text old cur going q (subst (λ cs. AddsAll takes old cs cur) (sym (taken_by_piece answer text piece p q is f)) added) e answer new from to n
      (λ d s. fails_by_piece d from to text piece p q is (subst (λ (z : Result Unit DimacsError). FeedsPiece z piece p q) s f) n g o few)
      (λ s. true≢false (sym (subst (λ (z : Result Unit DimacsError). FeedsPiece z piece p q) s f).0 ∙ ap (λ (z : Progress). z.stopped) is))
      (enough_front from to _ (text ++ piece) g o few (λ rest. read_by_piece answer text piece p q is f rest))
      a

  -- the text has ended
  pub end_answers : (result : Result Unit SolverError) (answer : Result Unit DimacsError) (old cur new : SolverView L) (from to : Reader) (text : List ℕ) (p q : Progress) → old.failed ≡ false → HasFed text p → FinishEffect answer p q → NoReadFailed from to
      → ReadToEnd from to text text → AddsAll takes old p.taken cur → AddsFormulaRead takes result answer q cur new → AddsText takes result old new from to
  end_answers (Ok x) answer old cur new from to text p q going is f n g added a =
      let first : AddsAll takes old q.taken cur = subst (λ cs. AddsAll takes old cs cur) (sym (taken_by_end answer p q f)) added in
      record {
        going = going;
        quiet = n;
        clauses = clauses_read q;
        read = clean_at_end from to text p q is (subst (λ (z : Result Unit DimacsError). FinishEffect z p q) a.2.0 f) g;
        added = subst (λ cs. AddsAll takes old cs new) (sym a.1) (adds_joined old cur new q.taken a.0 first a.2.1);
      }
  end_answers (Err e) answer old cur new from to text p q going is f n g added a =
      answers_text old cur going q (subst (λ cs. AddsAll takes old cs cur) (sym (taken_by_end answer p q f)) added) e answer new from to n
      (λ d s. fails_by_end d from to text p q is (subst (λ (z : Result Unit DimacsError). FinishEffect z p q) s f) n g)
      (λ s. true≢false (sym (subst (λ (z : Result Unit DimacsError). FinishEffect z p q) s f).0 ∙ ap (λ (z : Progress). z.stopped) is))
      (read_at_end answer from to text p q is f g)
      a

  -- a read failed
  pub read_answers : (old cur : SolverView L) (from to : Reader) (text : List ℕ) (p : Progress) → old.failed ≡ false → HasFed text p → ReadFails from to → GavePrefix from to text → HasNoFaultSoFar p → p.taken ≡ (dimacs (up_to_last_blank text)).clauses → AddsAll takes old p.taken cur →
      AddsText takes (Err errors.Read) old cur from to
  read_answers old cur from to text p going is r g s t added = inl (record {
    going = going;
    fault = texts.Read;
    is = refl;
    clauses = p.taken;
    fails = (r, text, g, subst TextHasNoFault (ap (λ (z : Progress). z.fed) is) s, t);
    mid = cur;
    added = added;
    new_is = same cur (adds_going old cur p.taken going added);
  })
    where
      same : (c : SolverView L) → c.failed ≡ false → c ≡ record c { failed = false }
      same c e = subst (λ (b : Bool). c ≡ record c { failed = b }) e refl
