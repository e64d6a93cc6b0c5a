-- Adding the clauses of a text, chunk by chunk.
use Rattle.std.proofs.Common.{ℕ, zero, suc, None, ◌+◌, ◌<◌, ◌≤◌, ◌≡◌, true, false, List, [], ◌∷◌, ◌++◌, append_assoc, length, Result, Ok, Err, OnOk, inl, inr, refl, sym, ap, subst, ◌∙◌, arith}
use Rattle.std.proofs.lemmas.Bool.{true≢false}
use Rattle.std.proofs.lemmas.List.{append-nil, map-append}
use Rattle.sat_base.specs.device.Device.{Reader, GaveEnough, GavePrefix, ReadFails}
use Rattle.sat_base.specs.text.Text.{scan, tokens_of, lines, HasEnded}
use Rattle.sat_base.specs.dimacs.Dimacs.{Dimacs, Ending, Clean, Malformed, Limit, clauses_of, dimacs, dimacs_of, up_to_last_blank, IsDimacs}
use Rattle.sat_base.specs.dimacs.Parsing.{Progress, no_progress, with_fed, stopped_by_memory, stopped_at_end, clauses_read, with_all_taken, EndsAtFault, RunsOutWithinPiece, FeedsPiece, FinishEffect, HasNoFaultSoFar, TextHasNoFault, ReportsEnded}
use Rattle.sat_base.specs.declared.dimacs.error.DimacsError.{DimacsError}
use Rattle.sat_base.specs.declared.dimacs.error.DimacsError.TheVariants as texts
use Rattle.sat_base.proofs.lemmas.device.Given.{enough_all, enough_front}
use Rattle.sat_base.proofs.lemmas.dimacs.Parsed.{HasAccepted as HasFed, stops_on, ends_by}
use Rattle.sat_base.proofs.lemmas.dimacs.ReadToEnd.{ReadToEnd, none_has_ended}
use Rattle.sat_base.specs.steps.Steps.{Step, AddClause}
use Rattle.sat_checker.specs.Accepts.{Accepts, stored_after, ready_after}
use Rattle.sat_checker.specs.CheckerView.{CheckerView, checker_has_failed, looks_of, HasAccepted, FailsBeforeStep, ListenerFailsAtStep, RunsOutOfMemoryAt}
use Rattle.sat_checker.specs.announcements.Announcements.{Notice}
use Rattle.sat_checker.specs.ProofView.{steps_after, most_looks_after, NoReadFailed, HasAcceptedUnfailed}
use Rattle.sat_checker.specs.ClausesView.{additions, AddsFirstClauses, steps_after_additions, AddClausesResultAfter}
use Rattle.sat_checker.specs.DimacsView.{AreClausesOfPrefix, AreClausesRead, ReadingFailsAfter, FailsOnlyIfOutOfMemory, AddDimacsResultAfter, AddDimacsResult}
use Rattle.sat_checker.specs.inner.DimacsPieces.{is_out_of_memory, with_failed_flag, AddsReadClauses}
use Rattle.sat_checker.specs.Counters.{ExhaustsCounters}
use Rattle.sat_checker.specs.declared.processing.ProcessingError.{ProcessingError}
use Rattle.sat_checker.specs.declared.processing.ProcessingError.TheVariants as faults
use Rattle.sat_checker.specs.declared.error.CheckerError.{CheckerError}
use Rattle.sat_checker.specs.declared.error.CheckerError.TheVariants as errors
use Rattle.sat_checker.specs.declared.error.CheckerDimacsError.{CheckerDimacsError}
use Rattle.sat_checker.specs.declared.error.CheckerDimacsError.TheVariants as refused
use Rattle.sat_checker.proofs.lemmas.checker.Proofs.{looks_more, failed_now}

-- CLAUSES ADDED AFTER OTHER CLAUSES

taken_joined : (xs ys earlier : List Step) → steps_after (xs ++ ys) earlier ≡ steps_after ys (steps_after xs earlier)
taken_joined [] ys earlier = refl
taken_joined (x ∷ xs) ys earlier = taken_joined xs ys (x ∷ earlier)

looks_joined : (xs ys earlier : List Step) → most_looks_after (xs ++ ys) earlier ≡ most_looks_after xs earlier + most_looks_after ys (steps_after xs earlier)
looks_joined [] ys earlier = none (most_looks_after ys earlier)
  where
    none : (n : ℕ) → n ≡ 0 + n
    none n = omega arith
looks_joined (x ∷ xs) ys earlier = apart _ _ _ _ (looks_joined xs ys (x ∷ earlier))
  where
    apart : (a b c d : ℕ) → b ≡ c + d → a + b ≡ (a + c) + d
    apart a b c d e = omega arith

after_joined : (cs ds : List (List ℕ)) (earlier : List Step) → steps_after_additions (cs ++ ds) earlier ≡ steps_after_additions ds (steps_after_additions cs earlier)
after_joined cs ds earlier = ap (λ (z : List Step). steps_after z earlier) (map-append AddClause cs ds) ∙ taken_joined (additions cs) (additions ds) earlier

cost_joined : (cs ds : List (List ℕ)) (earlier : List Step) → most_looks_after (additions (cs ++ ds)) earlier ≡ most_looks_after (additions cs) earlier + most_looks_after (additions ds) (steps_after_additions cs earlier)
cost_joined cs ds earlier = ap (λ (z : List Step). most_looks_after z earlier) (map-append AddClause cs ds) ∙ looks_joined (additions cs) (additions ds) earlier

none_more : (n : ℕ) → n ≤ n + 0
none_more n = omega arith

-- THE PARSER AFTER A CHUNK

pub no_clauses : (dimacs []).clauses ≡ []
unfolding dimacs scan tokens_of lines clauses_of
no_clauses = refl

pub fed_more : (text piece : List ℕ) (p q r : Progress) → HasFed text p → q ≡ with_fed piece p → r ≡ with_all_taken q → HasFed (text ++ piece) r
fed_more text piece p q r is f t =
    let e : r ≡ record q { taken = r.taken } = t ∙ ap (λ (z : List (List ℕ)). record q { taken = z }) (sym (ap (λ (z : Progress). z.taken) t)) in
    e ∙ ap (λ (z : Progress). record z { taken = r.taken }) f ∙ ap (λ (z : Progress). record (with_fed piece z) { taken = r.taken }) is

pub fed_of : (text : List ℕ) (p : Progress) → HasFed text p → p.fed ≡ text
fed_of text p is = ap (λ (z : Progress). z.fed) is

-- the text of a parser that continues has not ended
pub goes_fed : (text : List ℕ) (p : Progress) → HasFed text p → ReportsEnded false p → HasEnded text → ⊥
goes_fed text p is (inl stopped) h = true≢false (sym stopped ∙ ap (λ (z : Progress). z.stopped) is)
goes_fed text p is (inr going) h = going (subst HasEnded (sym (fed_of text p is)) h)

-- a text that has ended was read
pub read_before : (text : List ℕ) (p : Progress) (n : ℕ) (T : Type 0) → HasFed text p → (n ≡ 0 → text ≡ []) → (0 < n → T) → HasEnded p.fed → T
read_before text p zero T is none then h = absurd (none_has_ended (subst HasEnded (fed_of text p is ∙ none refl) h))
read_before text p (suc n) T is none then h = then (omega arith)

-- the clauses read so far, and all clauses once the text has ended
pub open_read : (text piece : List ℕ) (p q : Progress) → HasFed text p → q ≡ with_fed piece p → clauses_read q ≡ (dimacs (up_to_last_blank (text ++ piece))).clauses
open_read text piece p q is f = ap clauses_read (f ∙ ap (with_fed piece) is)

over_read : (text : List ℕ) (p q : Progress) → HasFed text p → q ≡ stopped_at_end p → clauses_read q ≡ (dimacs text).clauses
over_read text p q is f = ap clauses_read (f ∙ ap stopped_at_end is)

has_ending : (d : Dimacs) (clauses : List (List ℕ)) (ending : Ending) → clauses ≡ d.clauses → d.ending ≡ ending → d ≡ record { clauses = clauses; ending = ending }
has_ending d clauses ending c e = subst (λ (z : Ending). d ≡ record { clauses = clauses; ending = z }) e (subst (λ (z : List (List ℕ)). d ≡ record { clauses = z; ending = d.ending }) (sym c) refl)

-- if a chunk ends at a fault, the clauses read are those of the text, whatever follows
fault_says : (ending : Ending) (text piece : List ℕ) (p q : Progress) → HasFed text p → EndsAtFault ending piece p q → (rest : List ℕ) → IsDimacs ((text ++ piece) ++ rest) (clauses_read q) ending
fault_says ending text piece p q is f rest =
    let fed : q.fed ≡ text ++ f.front = ap (λ (z : Progress). z.fed) f.progress ∙ ap (λ (z : List ℕ). z ++ f.front) (fed_of text p is) in
    let all : (text ++ piece) ++ rest ≡ q.fed ++ (f.following ++ rest) =
    ap (λ (z : List ℕ). (text ++ z) ++ rest) f.whole ∙ ap (λ (z : List ℕ). z ++ rest) (sym (append_assoc text f.front f.following)) ∙ append_assoc (text ++ f.front) f.following rest
    ∙ ap (λ (z : List ℕ). z ++ (f.following ++ rest)) (sym fed) in
    ap dimacs all ∙ f.ends (f.following ++ rest)

-- if memory ran out, the clauses read are those of a prefix of the text
short_says : (text piece : List ℕ) (p q : Progress) → HasFed text p → RunsOutWithinPiece piece p q → (rest : List ℕ) → AreClausesOfPrefix ((text ++ piece) ++ rest) (clauses_read q)
short_says text piece p q is f rest = (
  text ++ f.front,
  (f.byte ∷ f.following) ++ rest,
  ap (λ (z : List ℕ). (text ++ z) ++ rest) f.whole ∙ ap (λ (z : List ℕ). z ++ rest) (sym (append_assoc text f.front (f.byte ∷ f.following))) ∙ append_assoc (text ++ f.front) (f.byte ∷ f.following) rest,
  ap clauses_read (f.progress ∙ ap (λ (z : Progress). stopped_by_memory (with_fed f.front z)) is),
)

stopped_not : (T : Type 0) (text : List ℕ) (p : Progress) → HasFed text p → p.stopped ≡ true → T
stopped_not T text p is s = absurd (true≢false (sym s ∙ ap (λ (z : Progress). z.stopped) is))

pub read_by_piece : (answer : Result Unit DimacsError) (text piece : List ℕ) (p q : Progress) → HasFed text p → FeedsPiece answer piece p q → (rest : List ℕ) → AreClausesRead ((text ++ piece) ++ rest) (clauses_read q)
read_by_piece (Ok x) text piece p q is f rest = inl (text ++ piece, rest, refl, open_read text piece p q is f.1)
read_by_piece (Err (texts.Malformed line)) text piece p q is f rest = inr (sym (ap (λ (z : Dimacs). z.clauses) (fault_says (Malformed f.1) text piece p q is f.3 rest)))
read_by_piece (Err (texts.Limit line)) text piece p q is f rest = inr (sym (ap (λ (z : Dimacs). z.clauses) (fault_says (Limit f.1) text piece p q is f.3 rest)))
read_by_piece (Err texts.OutOfMemory) text piece p q is f rest = inl (short_says text piece p q is f.1 rest)
read_by_piece (Err texts.Read) text piece p q is f rest = absurd f
read_by_piece (Err texts.HasFailed) text piece p q is f rest = stopped_not _ text p is f.0

pub read_by_end : (answer : Result Unit DimacsError) (text : List ℕ) (p q : Progress) → HasFed text p → FinishEffect answer p q → AreClausesRead text (clauses_read q)
read_by_end (Err texts.OutOfMemory) text p q is f = inl (text, [], sym (append-nil text), ap clauses_read (f.1 ∙ ap stopped_by_memory is))
read_by_end (Err texts.Read) text p q is f = absurd f
read_by_end (Err texts.HasFailed) text p q is f = stopped_not _ text p is f.0
read_by_end e text p q is f = inr (over_read text p q is f.1)

pub clean_by_end : (text : List ℕ) (p q : Progress) → HasFed text p → FinishEffect (Ok tt) p q → IsDimacs text (clauses_read q) Clean
clean_by_end text p q is f = has_ending (dimacs text) (clauses_read q) Clean (over_read text p q is f.1) (ap (λ (z : List ℕ). (dimacs z).ending) (sym (fed_of text p is)) ∙ f.2)

-- what an error of the parser says about the text
pub fails_by_piece : (e : DimacsError) (from to : Reader) (text piece : List ℕ) (p q : Progress) → HasFed text p → FeedsPiece (Err e) piece p q → NoReadFailed from to → GavePrefix from to (text ++ piece) → to.ended ≡ false
    → to.calls ≤ from.calls + length (text ++ piece) + 1 → ReadingFailsAfter e from to (clauses_read q)
fails_by_piece (texts.Malformed line) from to text piece p q is f n g o few = (n, enough_front from to _ (text ++ piece) g o few (λ rest. (f.1, f.2, fault_says (Malformed f.1) text piece p q is f.3 rest)))
fails_by_piece (texts.Limit line) from to text piece p q is f n g o few = (n, enough_front from to _ (text ++ piece) g o few (λ rest. (f.1, f.2, fault_says (Limit f.1) text piece p q is f.3 rest)))
fails_by_piece texts.OutOfMemory from to text piece p q is f n g o few =
    (n, enough_front from to _ (text ++ piece) g o few (λ rest. (stops_on texts.OutOfMemory text piece p q (fed_of text p is) (ap (λ (z : Progress). z.stopped) is) f rest, short_says text piece p q is f.1 rest)))
fails_by_piece texts.Read from to text piece p q is f n g o few = absurd f
fails_by_piece texts.HasFailed from to text piece p q is f n g o few = stopped_not _ text p is f.0

-- a text that a line has ended means the same, whatever follows
same_on : (text rest : List ℕ) → HasEnded text → dimacs (text ++ rest) ≡ dimacs text
unfolding dimacs
same_on text rest h = ap (dimacs_of None) (h rest)

pub is_on : (text rest : List ℕ) (clauses : List (List ℕ)) (ending : Ending) → IsDimacs text clauses ending → HasEnded text → IsDimacs (text ++ rest) clauses ending
is_on text rest clauses ending is h = same_on text rest h ∙ is

pub read_on : (text rest : List ℕ) (clauses : List (List ℕ)) → AreClausesRead text clauses → HasEnded text → AreClausesRead (text ++ rest) clauses
read_on text rest clauses (inl p) h = inl (p.0, p.1 ++ rest, ap (λ (z : List ℕ). z ++ rest) p.2 ∙ append_assoc p.0 p.1 rest, p.3)
read_on text rest clauses (inr e) h = inr (e ∙ sym (ap (λ (d : Dimacs). d.clauses) (same_on text rest h)))

-- what holds of a text that was read to its end, and if a line has ended it, whatever follows, holds of what was given
pub enough_end : (from to : Reader) (P : List ℕ → Type 0) (text : List ℕ) → ReadToEnd from to text text → P text → ((rest : List ℕ) → HasEnded text → P (text ++ rest)) → GaveEnough from to P
enough_end from to P text (inl all) p on = enough_all from to P text all p
enough_end from to P text (inr s) p on = enough_front from to P text s.front s.going s.few (λ rest. on rest s.ended)

pub fails_by_end : (e : DimacsError) (from to : Reader) (text : List ℕ) (p q : Progress) → HasFed text p → FinishEffect (Err e) p q → NoReadFailed from to → ReadToEnd from to text text → ReadingFailsAfter e from to (clauses_read q)
fails_by_end (texts.Malformed line) from to text p q is f n g =
    let ends = has_ending (dimacs text) (clauses_read q) (Malformed f.2) (over_read text p q is f.1) (ap (λ (z : List ℕ). (dimacs z).ending) (sym (fed_of text p is)) ∙ f.4) in
    (n, enough_end from to _ text g (f.2, f.3, ends) (λ rest h. (f.2, f.3, is_on text rest (clauses_read q) (Malformed f.2) ends h)))
fails_by_end (texts.Limit line) from to text p q is f n g =
    let ends = has_ending (dimacs text) (clauses_read q) (Limit f.2) (over_read text p q is f.1) (ap (λ (z : List ℕ). (dimacs z).ending) (sym (fed_of text p is)) ∙ f.4) in
    (n, enough_end from to _ text g (f.2, f.3, ends) (λ rest h. (f.2, f.3, is_on text rest (clauses_read q) (Limit f.2) ends h)))
fails_by_end texts.OutOfMemory from to text p q is f n g =
    (n, enough_end from to _ text g (ends_by texts.OutOfMemory text p q is f, (text, [], sym (append-nil text), ap clauses_read (f.1 ∙ ap stopped_by_memory is))) (λ rest h. absurd (f.2.goes_on (subst HasEnded (sym (fed_of text p is)) h))))
fails_by_end texts.Read from to text p q is f n g = absurd f
fails_by_end texts.HasFailed from to text p q is f n g = stopped_not _ text p is f.0

-- CLAUSES ADDED EARLIER

taken_by_piece : (answer : Result Unit DimacsError) (text piece : List ℕ) (p q : Progress) → HasFed text p → FeedsPiece answer piece p q → q.taken ≡ p.taken
taken_by_piece (Ok x) text piece p q is f = ap (λ (z : Progress). z.taken) f.1
taken_by_piece (Err (texts.Malformed line)) text piece p q is f = ap (λ (z : Progress). z.taken) f.3.progress
taken_by_piece (Err (texts.Limit line)) text piece p q is f = ap (λ (z : Progress). z.taken) f.3.progress
taken_by_piece (Err texts.OutOfMemory) text piece p q is f = ap (λ (z : Progress). z.taken) f.1.progress
taken_by_piece (Err texts.Read) text piece p q is f = absurd f
taken_by_piece (Err texts.HasFailed) text piece p q is f = ap (λ (z : Progress). z.taken) f.1

taken_by_end : (answer : Result Unit DimacsError) (p q : Progress) → FinishEffect answer p q → q.taken ≡ p.taken
taken_by_end (Err texts.Read) p q f = absurd f
taken_by_end e p q f = ap (λ (z : Progress). z.taken) f.1

pub sound_after : (answer : Result Unit DimacsError) (q r : Progress) → answer ≡ Ok tt → OnOk answer (HasNoFaultSoFar q) → r ≡ with_all_taken q → HasNoFaultSoFar r
sound_after answer q r e s t = subst HasNoFaultSoFar (sym t) (subst (λ (z : Result Unit DimacsError). OnOk z (HasNoFaultSoFar q)) e s)

module _ {L : Type 0} (Receives : L → Notice → Result Unit ProcessingError → L → Type 0) (before : List Notice) (begun : L) where
  adds_joined : (a b d : CheckerView L) (cs ds added tried : List (List ℕ)) (earlier : List Step) → AddsFirstClauses a b cs cs [] earlier → AddsFirstClauses b d ds added tried (steps_after_additions cs earlier) → AddsFirstClauses a d (cs ++ ds) (cs ++ added) tried earlier
  adds_joined a b d cs ds added tried earlier p q = record {
    well = p.well;
    left = q.left;
    split = ap (λ (z : List (List ℕ)). cs ++ z) q.split ∙ sym (append_assoc cs (added ++ tried) q.left) ∙ ap (λ (z : List (List ℕ)). z ++ q.left) (sym (append_assoc cs added tried));
    looks = looks_more (looks_of a) (looks_of b) (looks_of d) _ _ _ (subst (λ (z : List (List ℕ)). looks_of b ≤ looks_of a + most_looks_after (additions z) earlier) (append-nil cs) p.looks) q.looks
        (ap (λ (z : List (List ℕ)). most_looks_after (additions z) earlier) (append_assoc cs added tried) ∙ cost_joined cs (added ++ tried) earlier);
  }

  joined : (r : Result Unit CheckerError) (a b d : CheckerView L) (cs ds : List (List ℕ)) (earlier : List Step) → AddClausesResultAfter Receives before begun (Ok tt) a b cs earlier → AddClausesResultAfter Receives before begun r b d ds (steps_after_additions cs earlier) → AddClausesResultAfter Receives before begun r a d (cs ++ ds) earlier
  joined (Ok x) a b d cs ds earlier p q = (adds_joined a b d cs ds ds [] earlier p.0 q.0, subst (HasAcceptedUnfailed Receives before begun d) (sym (after_joined cs ds earlier)) q.1)
  joined (Err errors.CheckFailed) a b d cs ds earlier p q = (
    cs ++ q.0,
    q.1,
    adds_joined a b d cs ds q.0 (q.1 ∷ []) earlier p.0 q.2,
    subst (λ (z : List Step). Accepts (ready_after z) (AddClause q.1) → ⊥) (sym (after_joined cs q.0 earlier)) q.3,
    subst (HasAcceptedUnfailed Receives before begun d) (sym (after_joined cs q.0 earlier)) q.4,
  )
  joined (Err errors.CounterEnd) a b d cs ds earlier p q = (
    cs ++ q.0,
    q.1,
    adds_joined a b d cs ds q.0 (q.1 ∷ []) earlier p.0 q.2,
    subst (λ (z : List Step). ExhaustsCounters (AddClause q.1) (stored_after z)) (sym (after_joined cs q.0 earlier)) q.3,
    subst (FailsBeforeStep Receives before begun d) (sym (after_joined cs q.0 earlier)) q.4,
  )
  joined (Err errors.OutOfMemory) a b d cs ds earlier p q = (
    cs ++ q.0,
    q.1,
    adds_joined a b d cs ds q.0 (q.1 ∷ []) earlier p.0 q.2,
    subst (RunsOutOfMemoryAt Receives before begun d (AddClause q.1)) (sym (after_joined cs q.0 earlier)) q.3,
  )
  joined (Err (errors.ProofProcessorError cause)) a b d cs ds earlier p q = (
    cs ++ q.0,
    q.1,
    adds_joined a b d cs ds q.0 (q.1 ∷ []) earlier p.0 q.2,
    subst (λ (z : List Step). ListenerFailsAtStep Receives before begun (faults.ProofProcessorError cause) d (AddClause q.1) z) (sym (after_joined cs q.0 earlier)) q.3,
  )
  joined (Err errors.HasFailed) a b d cs ds earlier p q = absurd (true≢false (sym q.0 ∙ p.1.1))
  joined (Err e) a b d cs ds earlier p q = absurd q

  pub none_added : (c : CheckerView L) (earlier : List Step) → checker_has_failed c ≡ false → HasAccepted Receives before begun c earlier → AddClausesResultAfter Receives before begun (Ok tt) c c [] earlier
  none_added c earlier h s = (record { well = h; left = []; split = refl; looks = none_more (looks_of c) }, (s, h))

  unflagged : (mid : CheckerView L) (steps : List Step) → HasAcceptedUnfailed Receives before begun mid steps → HasAcceptedUnfailed Receives before begun (with_failed_flag false mid) steps
  unflagged mid steps g = (record { kernel = record { accepted = g.0.kernel.accepted; records = g.0.kernel.records; variables = g.0.kernel.variables; kept = λ h. g.0.kernel.kept g.1 }; heard = λ h. g.0.heard g.1 }, refl)

  set_failed : (e : DimacsError) (mid : CheckerView L) (steps : List Step) → HasAcceptedUnfailed Receives before begun mid steps → FailsOnlyIfOutOfMemory Receives before begun e (with_failed_flag (is_out_of_memory e) mid) steps
  set_failed texts.OutOfMemory mid steps g = failed_now Receives before begun mid steps g.1 g.0
  set_failed e mid steps g = unflagged mid steps g

  -- the clauses read earlier were added, and these are added next
  module _ (old cur new : CheckerView L) (q : Progress) (earlier : List Step) (clauses : List (List ℕ)) (first : AddClausesResultAfter Receives before begun (Ok tt) old cur q.taken earlier) (split : clauses_read q ≡ q.taken ++ clauses) where
    pub after_first : (r : Result Unit CheckerError) (last : CheckerView L) → ((steps : List Step) → HasAccepted Receives before begun cur steps → AddClausesResultAfter Receives before begun r cur last clauses steps) → AddClausesResultAfter Receives before begun r old last (clauses_read q) earlier
    after_first r last a = subst (λ (z : List (List ℕ)). AddClausesResultAfter Receives before begun r old last z earlier) (sym split) (joined r old cur last q.taken clauses earlier first (a (steps_after_additions q.taken earlier) first.1.0))

  pub answers_dimacs : (result : Result Unit CheckerDimacsError) (answer : Result Unit DimacsError) (old cur new : CheckerView L) (from to : Reader) (q : Progress) (earlier : List Step) → NoReadFailed from to
      → AddClausesResultAfter Receives before begun (Ok tt) old cur q.taken earlier → (result ≡ Ok tt → answer ≡ Ok tt → GaveEnough from to (λ text. IsDimacs text (clauses_read q) Clean))
      → ((e : DimacsError) → answer ≡ Err e → ReadingFailsAfter e from to (clauses_read q)) → GaveEnough from to (λ text. AreClausesRead text (clauses_read q)) → AddsReadClauses Receives result answer q cur new → AddDimacsResultAfter Receives before begun result old new from to earlier
  answers_dimacs (Ok x) answer old cur new from to q earlier n first clean fails read a = (n, clauses_read q, clean refl a.2.0, after_first old cur new q earlier a.0 first a.1 (Ok tt) new (a.2.1 before begun))
  answers_dimacs (Err (refused.Dimacs e)) answer old cur new from to q earlier n first clean fails read a =
      let mid : CheckerView L = a.2.1 in
      let all = after_first old cur new q earlier a.0 first a.1 (Ok tt) mid (a.2.2 before begun) in (
        clauses_read q,
        fails e a.2.0,
        subst (λ (z : CheckerView L). AddsFirstClauses old z (clauses_read q) (clauses_read q) [] earlier) (sym a.2.3) (record { well = all.0.well; left = all.0.left; split = all.0.split; looks = all.0.looks }),
        subst (λ (z : CheckerView L). FailsOnlyIfOutOfMemory Receives before begun e z (steps_after_additions (clauses_read q) earlier)) (sym a.2.3) (set_failed e mid (steps_after_additions (clauses_read q) earlier) all.1),
      )
  answers_dimacs (Err (refused.Checker errors.HasFailed)) answer old cur new from to q earlier n first clean fails read a = absurd (true≢false (sym (a.2 before begun (steps_after_additions q.taken earlier) first.1.0).0 ∙ first.1.1))
  answers_dimacs (Err (refused.Checker errors.CheckFailed)) answer old cur new from to q earlier n first clean fails read a = (n, clauses_read q, read, after_first old cur new q earlier a.0 first a.1 (Err errors.CheckFailed) new (a.2 before begun))
  answers_dimacs (Err (refused.Checker errors.CounterEnd)) answer old cur new from to q earlier n first clean fails read a = (n, clauses_read q, read, after_first old cur new q earlier a.0 first a.1 (Err errors.CounterEnd) new (a.2 before begun))
  answers_dimacs (Err (refused.Checker errors.OutOfMemory)) answer old cur new from to q earlier n first clean fails read a = (n, clauses_read q, read, after_first old cur new q earlier a.0 first a.1 (Err errors.OutOfMemory) new (a.2 before begun))
  answers_dimacs (Err (refused.Checker (errors.ProofProcessorError cause))) answer old cur new from to q earlier n first clean fails read a = (n, clauses_read q, read, after_first old cur new q earlier a.0 first a.1 (Err (errors.ProofProcessorError cause)) new (a.2 before begun))
  answers_dimacs (Err x) answer old cur new from to q earlier n first clean fails read a = absurd (a.2 before begun (steps_after_additions q.taken earlier) first.1.0)

module _ {L : Type 0} (Receives : L → Notice → Result Unit ProcessingError → L → Type 0) where
  -- the clauses of the earlier chunks were added
  abbrev pub AddedBefore : CheckerView L → CheckerView L → Progress → Type 0
  AddedBefore old cur p = (before : List Notice) (begun : L) (earlier : List Step) → HasAccepted Receives before begun old earlier → AddClausesResultAfter Receives before begun (Ok tt) old cur p.taken earlier

  pub start : (c : CheckerView L) (p : Progress) → checker_has_failed c ≡ false → p ≡ no_progress → AddedBefore c c p
  start c p h is = λ before begun earlier valid. subst (λ (z : List (List ℕ)). AddClausesResultAfter Receives before begun (Ok tt) c c z earlier) (sym (ap (λ (z : Progress). z.taken) is)) (none_added Receives before begun c earlier h valid)

  first_of : (old cur : CheckerView L) (p q : Progress) → AddedBefore old cur p → q.taken ≡ p.taken → (before : List Notice) (begun : L) (earlier : List Step) → HasAccepted Receives before begun old earlier → AddClausesResultAfter Receives before begun (Ok tt) old cur q.taken earlier
  first_of old cur p q added e before begun earlier valid = subst (λ (z : List (List ℕ)). AddClausesResultAfter Receives before begun (Ok tt) old cur z earlier) (sym e) (added before begun earlier valid)

  -- a chunk without a fault
  pub piece_added : (old cur new : CheckerView L) (text piece : List ℕ) (p q r : Progress) (answer : Result Unit DimacsError) → HasFed text p → FeedsPiece answer piece p q → r ≡ with_all_taken q → AddsReadClauses Receives (Ok tt) answer q cur new → AddedBefore old cur p
      → HasFed (text ++ piece) r × (r.taken ≡ (dimacs (up_to_last_blank (text ++ piece))).clauses) × AddedBefore old new r
  piece_added old cur new text piece p q r answer is f t a added =
      let fed : q ≡ with_fed piece p = (subst (λ (z : Result Unit DimacsError). FeedsPiece z piece p q) a.2.0 f).1 in (
        fed_more text piece p q r is fed t,
        ap (λ (z : Progress). z.taken) t ∙ open_read text piece p q is fed,
        λ before begun earlier valid. subst (λ (z : List (List ℕ)). AddClausesResultAfter Receives before begun (Ok tt) old new z earlier) (sym (ap (λ (z : Progress). z.taken) t))
            (after_first Receives before begun old cur new q earlier a.0 (first_of old cur p q added (ap (λ (z : Progress). z.taken) fed) before begun earlier valid) a.1 (Ok tt) new (a.2.1 before begun)),
      )

  -- the result if reading stops in a chunk
  pub piece_answers : (e : CheckerDimacsError) (answer : Result Unit DimacsError) (old cur new : CheckerView L) (from to : Reader) (text piece : List ℕ) (p q : Progress) → HasFed text p → FeedsPiece answer piece p q → NoReadFailed from to
      → GavePrefix from to (text ++ piece) → to.ended ≡ false → to.calls ≤ from.calls + length (text ++ piece) + 1 → AddedBefore old cur p → AddsReadClauses Receives (Err e) answer q cur new → AddDimacsResult Receives (Err e) old new from to
  piece_answers e answer old cur new from to text piece p q is f n g o few added a = λ before begun earlier valid. answers_dimacs Receives before begun (Err e) answer old cur new from to q earlier n (first_of old cur p q added (taken_by_piece answer text piece p q is f) before begun earlier valid)
      (λ no. let k : ◌≡◌ {A = Result Unit CheckerDimacsError} (Err e) (Ok tt) = no in absurd cc)
      (λ d s. fails_by_piece d from to text piece p q is (subst (λ (z : Result Unit DimacsError). FeedsPiece z piece p q) s f) n g o few)
      (enough_front from to _ (text ++ piece) g o few (λ rest. read_by_piece answer text piece p q is f rest))
      a

  -- the result at the end of the text
  pub end_answers : (result : Result Unit CheckerDimacsError) (answer : Result Unit DimacsError) (old cur new : CheckerView L) (from to : Reader) (text : List ℕ) (p q : Progress) → HasFed text p → FinishEffect answer p q → NoReadFailed from to
      → ReadToEnd from to text text → AddedBefore old cur p → AddsReadClauses Receives result answer q cur new → AddDimacsResult Receives result old new from to
  end_answers result answer old cur new from to text p q is f n g added a = λ before begun earlier valid. answers_dimacs Receives before begun result answer old cur new from to q earlier n (first_of old cur p q added (taken_by_end answer p q f) before begun earlier valid)
      (λ ok s. let ends = clean_by_end text p q is (subst (λ (z : Result Unit DimacsError). FinishEffect z p q) s f) in enough_end from to _ text g ends (λ rest h. is_on text rest (clauses_read q) Clean ends h))
      (λ d s. fails_by_end d from to text p q is (subst (λ (z : Result Unit DimacsError). FinishEffect z p q) s f) n g)
      (enough_end from to _ text g (read_by_end answer text p q is f) (λ rest h. read_on text rest (clauses_read q) (read_by_end answer text p q is f) h))
      a

  -- the result if a read failed
  pub read_answers : (old cur : CheckerView L) (from to : Reader) (text : List ℕ) (p : Progress) → HasFed text p → ReadFails from to → GavePrefix from to text → HasNoFaultSoFar p → p.taken ≡ (dimacs (up_to_last_blank text)).clauses → AddedBefore old cur p
      → AddDimacsResult Receives (Err (refused.Dimacs texts.Read)) old cur from to
  read_answers old cur from to text p is r g s t added = λ before begun earlier valid. let all = added before begun earlier valid in (p.taken, (r, text, g, subst TextHasNoFault (fed_of text p is) s, t), all.0, all.1)
