-- A formula's text that was read to its end, or up to a line that ends it.
use Rattle.std.proofs.Common.{refl, take, length-append, ◌≡◌, ◌⊎◌, ℕ, ◌+◌, ◌<◌, ◌≤◌, List, [], ◌∷◌, ◌++◌, Bool, true, false, None, Result, Ok, Err, sym, ap, subst, inl, inr, ◌∙◌, append_assoc, length, arith}
use Rattle.std.proofs.lemmas.List.{length-take-le}
use Rattle.std.proofs.lemmas.Bool.Decides.{nat_tests}
use Rattle.std.specs.Prelude.{nat_lt}
use Rattle.std.specs.Io.KnownBytes.{IsAtEnd}
use Rattle.std.specs.List.{FoldsTo, concat}
use Rattle.sat_base.specs.declared.dimacs.error.DimacsError.{DimacsError}
use Rattle.sat_base.specs.declared.dimacs.error.DimacsError.TheVariants as errors
use Rattle.sat_base.specs.device.Device.{Reader, ReadsOnce, GavePrefix, GaveAll, GaveEnough, max_reads, max_read_size}
use Rattle.sat_base.specs.text.Text.{HasEnded, scan, header_of_tokens, Scan}
use Rattle.sat_base.specs.values.Formulas.{Formula}
use Rattle.sat_base.specs.dimacs.Dimacs.{Dimacs, dimacs, dimacs_of}
use Rattle.sat_base.specs.dimacs.Parsing.{FinishEffect, Parses, TextHasNoFault, GaveTextWithoutFault, FormulaIsDetermined, RefusesPiece, Progress, ClosureCalls, FeedsAndCallsClosure, no_progress, with_fed, EndsInLastPiece, LastReadGaveBytes, ReportsEnded}
use Rattle.sat_base.specs.dimacs.Faults.{ReadsOnceUnlessEnded}
use Rattle.sat_base.proofs.lemmas.text.TextRuns.{standing, stands_first, open_looks}
use Rattle.sat_base.proofs.lemmas.device.Given.{end_after, enough_all, enough_front, not_ended, still_open}
use Rattle.sat_base.proofs.lemmas.dimacs.Parsed.{front_alone, whole_at_end, short_on}
use Rattle.sat_base.specs.declared.text.Place.TheVariants as at

-- `StopsEarly a c gave text` holds if reading stopped early, because a line has ended the text.
pub record StopsEarly (a c : Reader) (gave text : List ℕ) : Type 0 where
  pub front : GavePrefix a c gave
  pub going : c.ended ≡ false
  pub few : c.calls ≤ a.calls + length gave + 1
  pub ended : HasEnded text

abbrev pub ReadToEnd : Reader → Reader → List ℕ → List ℕ → Type 0
ReadToEnd a c gave text = GaveAll a c gave ⊎ StopsEarly a c gave text

-- THE NEXT READ
pub some_read : {E : Type 0} (n : ℕ) (room text : List ℕ) (b c : Reader) → 0 < n → ReadsOnceUnlessEnded {E = E} (Ok n) room text b c → ReadsOnce {E = E} (Ok n) room b c
some_read n room text b c h (inl r) = r
some_read n room text b c h (inr s) = absurd (let z = s.0 in omega arith)

pub next_kept : {E : Type 0} (n : ℕ) (room text : List ℕ) (b c : Reader) → ReadsOnceUnlessEnded {E = E} (Ok n) room text b c → c.failures ≡ b.failures
next_kept n room text b c (inl r) = r.failures.0
next_kept n room text b c (inr s) = ap (λ (r : Reader). r.failures) s.1

next_calls : {E : Type 0} (n : ℕ) (room text : List ℕ) (b c : Reader) → ReadsOnceUnlessEnded {E = E} (Ok n) room text b c → (b.calls ≤ c.calls) × (c.calls ≤ b.calls + 1)
next_calls n room text b c (inl r) = let e = r.calls in (omega arith, omega arith)
next_calls n room text b c (inr s) = let e : c.calls ≡ b.calls = ap (λ (r : Reader). r.calls) s.1 in (omega arith, omega arith)

pub next_within : {E : Type 0} (n : ℕ) (room text : List ℕ) (a b c : Reader) (k : ℕ) → ReadsOnceUnlessEnded {E = E} (Ok n) room text b c → b.calls ≡ a.calls + k → k < max_reads → c.calls ≤ a.calls + max_reads
next_within n room text a b c k r e h = let s = next_calls n room text b c r in omega arith

pub next_least : {E : Type 0} (n : ℕ) (room text : List ℕ) (a b c : Reader) (k m : ℕ) → ReadsOnceUnlessEnded {E = E} (Ok n) room text b c → b.calls ≡ a.calls + k → m ≡ k → a.calls + m ≤ c.calls
next_least n room text a b c k m r e h = let s = next_calls n room text b c r in omega arith

pub next_most : {E : Type 0} (n : ℕ) (room text : List ℕ) (a b c : Reader) (k m : ℕ) → ReadsOnceUnlessEnded {E = E} (Ok n) room text b c → b.calls ≡ a.calls + k → m ≡ k → c.calls ≤ a.calls + m + 1
next_most n room text a b c k m r e h = let s = next_calls n room text b c r in omega arith

-- THE LAST READ
pub last_gave : {E : Type 0} (n : ℕ) (room text : List ℕ) (a b c : Reader) → 0 < n → ReadsOnceUnlessEnded {E = E} (Ok n) room text b c → LastReadGaveBytes a c
last_gave n room text a b c h r called = let once = some_read n room text b c h r in (once.failures.1, not_ended b c n room once h)

-- where the end was found, by a read or without one, no read was made after a text that had ended
pub last_at_end : {E : Type 0} (n : ℕ) (room fed text : List ℕ) (a b c : Reader) → ReadsOnceUnlessEnded {E = E} (Ok n) room fed b c → (b.calls < c.calls → HasEnded text → ⊥) → LastReadGaveBytes a b → HasEnded text → LastReadGaveBytes a c
last_at_end n room fed text a b c (inl r) going last ended = absurd (let e = r.calls in going (omega arith) ended)
last_at_end n room fed text a b c (inr s) going last ended = subst (LastReadGaveBytes a) (sym s.1) last

-- THE END
pub read_to_end : {E : Type 0} (a b c : Reader) (gave text : List ℕ) (n k : ℕ) (room : List ℕ) → GavePrefix a b gave → ReadsOnceUnlessEnded {E = E} (Ok n) room text b c → n ≡ 0 → 0 < length room → b.calls ≡ a.calls + k → k ≤ length gave
    → (HasEnded text → b.ended ≡ false) → ReadToEnd a c gave text
read_to_end a b c gave text n k room g (inl r) z some calls few going = inl (end_after a b c gave n k room g r z some calls few)
read_to_end a b c gave text n k room g (inr s) z some calls few going =
    let e : c.calls ≡ b.calls = ap (λ (r : Reader). r.calls) s.1 in
    inr (record {
      front = subst (λ (r : Reader). GavePrefix a r gave) (sym s.1) g;
      going = ap (λ (r : Reader). r.ended) s.1 ∙ going s.2;
      few = omega arith;
      ended = s.2;
    })

-- the empty text has not ended
pub none_has_ended : HasEnded [] → ⊥
none_has_ended h = open_looks (standing (at.Fresh true) 0) (λ e. absurd cc) scan stands_first h

pub read_front : (a c : Reader) (gave text : List ℕ) → ReadToEnd a c gave text → GavePrefix a c gave
read_front a c gave text (inl all) = record { gave = all.gave; known_bytes = all.known_bytes; loans = all.loans }
read_front a c gave text (inr s) = s.front

pub read_pieces : (a c : Reader) (pieces : List (List ℕ)) (text : List ℕ) → ReadToEnd a c (concat pieces) text → GavePrefix a c (concat pieces ++ [])
read_pieces a c pieces text r = front_alone a c pieces (read_front a c (concat pieces) text r)

pub read_over : (a c : Reader) (gave text : List ℕ) → ReadToEnd a c gave text → c.ended ≡ true → IsAtEnd c.to_come
read_over a c gave text (inl all) e = all.over
read_over a c gave text (inr s) e = still_open c (IsAtEnd c.to_come) s.going e

same_dimacs : (text rest : List ℕ) → HasEnded text → dimacs (text ++ rest) ≡ dimacs text
unfolding dimacs
same_dimacs text rest h = ap (dimacs_of None) (h rest)

pub read_whole : (a c : Reader) (gave text : List ℕ) → ReadToEnd a c gave text → FormulaIsDetermined a c text
read_whole a c gave text (inl all) = whole_at_end a c text all.called all.ends
read_whole a c gave text (inr s) = λ rest f. (same_dimacs text rest s.ended, ap (λ (k : Scan). header_of_tokens k.tokens) (s.ended rest))

parses_on : (r : Result Formula DimacsError) (text rest : List ℕ) → HasEnded text → Parses r text → Parses r (text ++ rest)
parses_on (Ok f) text rest h p = (same_dimacs text rest h ∙ p.0, p.1)
parses_on (Err (errors.Malformed line)) text rest h p = (p.0, p.1, ap (λ (d : Dimacs). d.ending) (same_dimacs text rest h) ∙ p.2)
parses_on (Err (errors.Limit line)) text rest h p = (p.0, p.1, ap (λ (d : Dimacs). d.ending) (same_dimacs text rest h) ∙ p.2)
parses_on (Err errors.Read) text rest h p = tt
parses_on (Err errors.OutOfMemory) text rest h (inl s) = inl (s.0, s.1, s.2 ++ rest, ap (λ (z : List ℕ). z ++ rest) s.3 ∙ append_assoc s.0 (s.1 ∷ s.2) rest, s.4)
parses_on (Err errors.OutOfMemory) text rest h (inr w) = absurd (w.goes_on h)
parses_on (Err errors.HasFailed) text rest h p = p

pub enough_read : (r : Result Formula DimacsError) (a c : Reader) (text : List ℕ) → ReadToEnd a c text text → Parses r text → GaveEnough a c (Parses r)
enough_read r a c text (inl all) p = enough_all a c (Parses r) text all p
enough_read r a c text (inr s) p = enough_front a c (Parses r) text s.front s.going s.few (λ rest. parses_on r text rest s.ended p)

-- if a text read in pieces has ended, at least one piece was accepted
pub parts_going : {F E : Type 0} (calls : ClosureCalls F E) (f h : F) (p : Progress) (pieces : List (List ℕ)) (k : ℕ) (T : Type 0) → FoldsTo (FeedsAndCallsClosure calls) (f, no_progress) pieces (h, p) → length pieces ≡ k → (0 < k → T) → HasEnded p.fed → T
parts_going {F} calls f h p [] k T folds e then ended = absurd (none_has_ended (subst HasEnded (sym (ap (λ (z : F × Progress). z.1.fed) folds)) ended))
parts_going calls f h p (x ∷ xs) k T folds e then ended = then (omega arith)

-- A PIECE THAT IS REFUSED
pub refused_on : (e : DimacsError) (fed piece : List ℕ) (p : Progress) → p.fed ≡ fed → p.stopped ≡ false → RefusesPiece e piece p → (rest : List ℕ) → Parses (Err e) ((fed ++ piece) ++ rest)
refused_on (errors.Malformed line) fed piece p e o f rest = (f.0, f.1, ap (λ (z : List ℕ). (dimacs ((z ++ piece) ++ rest)).ending) (sym e) ∙ f.2 rest)
refused_on (errors.Limit line) fed piece p e o f rest = (f.0, f.1, ap (λ (z : List ℕ). (dimacs ((z ++ piece) ++ rest)).ending) (sym e) ∙ f.2 rest)
refused_on errors.OutOfMemory fed piece p e o f rest = inl (short_on fed piece p f.0.0 e f.0.1 rest)
refused_on errors.HasFailed fed piece p e o f rest = absurd (let g : ◌≡◌ {A = Bool} true false = sym f ∙ o in cc)
refused_on errors.Read fed piece p e o f rest = absurd f

-- TEXTS WITHOUT A FAULT
pub sound_end : {T : Type 0} (r : Result T DimacsError) (e : DimacsError) (a c : Reader) (text : List ℕ) (p q : Progress) → r ≡ Err e → p.fed ≡ text → FinishEffect (Err e) p q → GavePrefix a c text → TextHasNoFault text → r ≡ Err errors.OutOfMemory → GaveTextWithoutFault a c
sound_end {T} r errors.OutOfMemory a c text p q k e f g s h = (text, g, s, λ called ends. ap (λ (z : List ℕ). (dimacs z).ending) (sym e) ∙ f.2.clean)
sound_end {T} r e a c text p q k i f g s h = absurd (let z : ◌≡◌ {A = Result T DimacsError} (Err e) (Err errors.OutOfMemory) = sym k ∙ h in cc)

pub sound_piece : {T : Type 0} (r : Result T DimacsError) (e : DimacsError) (a c : Reader) (fed piece : List ℕ) (p : Progress) → r ≡ Err e → p.fed ≡ fed → RefusesPiece e piece p → GavePrefix a c (fed ++ piece) → c.ended ≡ false → r ≡ Err errors.OutOfMemory → GaveTextWithoutFault a c
sound_piece {T} r errors.OutOfMemory a c fed piece p k e f g o h = (fed ++ piece, g, subst (λ (z : List ℕ). TextHasNoFault (z ++ piece)) e f.1, λ called ends. still_open c _ o ends)
sound_piece {T} r e a c fed piece p k i f g o h = absurd (let z : ◌≡◌ {A = Result T DimacsError} (Err e) (Err errors.OutOfMemory) = sym k ∙ h in cc)

-- NO PIECE IS READ AFTER THE END
ended_longer : (front more : List ℕ) → HasEnded front → HasEnded (front ++ more)
ended_longer front more h rest = ap scan (append_assoc front more rest) ∙ h (more ++ rest) ∙ sym (h more)

prefix_of : (front rest text piece : List ℕ) → text ++ piece ≡ front ++ rest → length front ≤ length text → (mid : List ℕ) × (text ≡ front ++ mid)
prefix_of [] rest text piece e h = (text, refl)
prefix_of (x ∷ xs) rest [] piece e h = absurd (omega arith)
prefix_of (x ∷ xs) rest (y ∷ ys) piece e h =
    let t : ys ++ piece ≡ xs ++ rest = cc in
    let same : y ≡ x = cc in
    let m = prefix_of xs rest ys piece t (omega arith) in
    (m.0, grow x y ys (xs ++ m.0) same m.1)
  where
    grow : (a b : ℕ) (us vs : List ℕ) → b ≡ a → us ≡ vs → b ∷ us ≡ a ∷ vs
    grow a b us vs f g = cc

pub stops_none : EndsInLastPiece []
stops_none front rest e h = let l = ap length e ∙ length-append front rest in omega arith

pub stops_after : (text piece : List ℕ) → (HasEnded text → ⊥) → length piece ≤ max_read_size → EndsInLastPiece (text ++ piece)
stops_after text piece going h front rest e ended = go (nat_lt (length rest) max_read_size) refl
  where
    go : (b : Bool) → nat_lt (length rest) max_read_size ≡ b → length rest < max_read_size
    go true t = grind (arith, nat_tests)
    go false t =
        let far : max_read_size ≤ length rest = grind (arith, nat_tests) in
        let l : length (text ++ piece) ≡ length (front ++ rest) = ap length e in
        let a = length-append text piece in
        let b = length-append front rest in
        let m = prefix_of front rest text piece e (omega arith) in
        absurd (going (subst HasEnded (sym m.1) (ended_longer front m.0 ended)))

-- a piece is at most as long as the buffer
pub short_piece : (n : ℕ) (buf : List ℕ) → n ≤ length buf → length buf ≡ max_read_size → length (take n buf) ≤ max_read_size
short_piece n buf h e = let l = length-take-le n buf h in omega arith

-- the text of a parser that continues has not ended
pub going_on : (p : Progress) (text : List ℕ) → p ≡ with_fed text no_progress → ReportsEnded false p → HasEnded text → ⊥
going_on p text e (inl stopped) h = absurd (let g : ◌≡◌ {A = Bool} true false = sym stopped ∙ ap (λ (k : Progress). k.stopped) e in cc)
going_on p text e (inr going) h = going (subst HasEnded (sym (ap (λ (k : Progress). k.fed) e)) h)
