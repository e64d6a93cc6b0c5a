-- The result of parsing a text in parts, with a call of a closure after every part.
use Rattle.std.proofs.Common.{◌≡◌, ℕ, List, [], ◌++◌, false, Result, Ok, Err, inl, inr, refl, ap, subst, length, ◌+◌, ◌<◌, ◌≤◌}
use Rattle.std.specs.Result.{IfOk, IfErr, OnOk}
use Rattle.sat_base.specs.declared.dimacs.error.DimacsError.{DimacsError}
use Rattle.sat_base.specs.declared.dimacs.error.DimacsError.TheVariants as errors
use Rattle.sat_base.specs.declared.dimacs.error.IncrementalError.{IncrementalError}
use Rattle.sat_base.specs.declared.dimacs.error.IncrementalError.TheVariants as parts
use Rattle.sat_base.specs.device.Device.{Reader, GavePrefix}
use Rattle.sat_base.specs.dimacs.Parsing.{ClosureCalls, FeedsPiece, FinishEffect, HasNoFaultSoFar, FormulaIsDetermined, LastClosureCall, Parses, ParsesInParts, Progress, CallsClosure}
use Rattle.sat_base.specs.dimacs.ParserPlaces.{with_parser}
use Rattle.sat_base.proofs.lemmas.device.Given.{enough_front}
use Rattle.sat_base.proofs.lemmas.dimacs.Parsed.{HasAccepted, ends_by, stops_on, parts_clean, no_read, no_read_called, no_read_ended, no_read_fed}
use Rattle.sat_base.proofs.lemmas.dimacs.ReadToEnd.{ReadToEnd, enough_read, read_front, read_whole}

-- the closure's error, or else the parser's result
abbrev pub refusal_or : {E : Type 0} → Result (Unit {0}) E → Result (Unit {0}) DimacsError → Result (Unit {0}) (IncrementalError E)
refusal_or (Err e) answer = Err (parts.Caller e)
refusal_or (Ok u) (Err e) = Err (parts.Dimacs e)
refusal_or (Ok u) (Ok v) = Ok v

pub refusal_is : {E : Type 0} (seen : Result (Unit {0}) E) (answer : Result (Unit {0}) DimacsError) (r : Result (Unit {0}) (IncrementalError E))
    → IfErr seen (λ e. r ≡ Err (parts.Caller e)) → OnOk seen (IfErr answer (λ e. r ≡ Err (parts.Dimacs e))) → OnOk seen (IfOk answer (λ u. r ≡ Ok u)) → r ≡ refusal_or seen answer
refusal_is (Err e) answer r h k l = h
refusal_is (Ok u) (Err e) r h k l = k
refusal_is (Ok u) (Ok v) r h k l = l

-- AT THE END

pub last_at_end : {F E : Type 0} (calls : ClosureCalls F E) (seen : Result (Unit {0}) E) (answer : Result (Unit {0}) DimacsError) (r : Result (Unit {0}) (IncrementalError E)) (reader : Reader × Reader) (f h : F) (p q s : Progress)
    → r ≡ refusal_or seen answer → FormulaIsDetermined reader.0 reader.1 p.fed → FinishEffect answer p q → CallsClosure calls (f, q) seen (h, s) → LastClosureCall calls [] reader (with_parser s r) (f, p)
last_at_end calls (Err e) answer r reader f h p q s is whole ends seen = rw is (answer, q, (h, s), inr (refl, whole, ends), seen)
last_at_end calls (Ok u) (Err e) r reader f h p q s is whole ends seen = rw is (inr (q, (h, s), inr (refl, whole, ends), seen))
last_at_end calls (Ok u) (Ok v) r reader f h p q s is whole ends seen = rw is (refl, whole, q, h, ends, seen)

pub parsed_at_end : {E : Type 0} (seen : Result (Unit {0}) E) (answer : Result (Unit {0}) DimacsError) (r : Result (Unit {0}) (IncrementalError E)) (a c : Reader) (fed : List ℕ) (p q s : Progress)
    → r ≡ refusal_or seen answer → ReadToEnd a c fed p.fed → HasAccepted fed p → s ≡ record q { taken = s.taken } → FinishEffect answer p q → ParsesInParts a c (with_parser s r)
parsed_at_end (Err e) answer r a c fed p q s is all valid kept ends = rw is tt
parsed_at_end (Ok u) (Err e) r a c fed p q s is all valid kept ends =
    rw is (enough_read (Err e) a c fed (subst (ReadToEnd a c fed) (ap (λ (z : Progress). z.fed) valid) all) (ends_by e fed p q valid ends))
parsed_at_end (Ok u) (Ok v) r a c fed p q s is all valid kept ends =
    let whole = subst (ReadToEnd a c fed) (ap (λ (z : Progress). z.fed) valid) all in
    rw is (fed, read_front a c fed fed whole, parts_clean fed p q s valid kept (ends.1, ends.2), read_whole a c fed fed whole)

pub no_read_at_end : {E X : Type 0} (seen : Result (Unit {0}) E) (answer : Result (Unit {0}) DimacsError) (r : Result (Unit {0}) (IncrementalError E)) (p q s : Progress)
    → r ≡ refusal_or seen answer → FinishEffect answer p q → with_parser s r ≡ Err (parts.Dimacs errors.Read) → X
no_read_at_end (Err e) answer r p q s is ends h = no_read_called (with_parser s r) e (ap (with_parser s) is) h
no_read_at_end (Ok u) (Err e) r p q s is ends h = no_read_ended (with_parser s r) e p q ends (ap (with_parser s) is) h
no_read_at_end (Ok u) (Ok v) r p q s is ends h = no_read (with_parser s r) s (ap (with_parser s) is) h

-- AT A PIECE

pub last_at_piece : {F E : Type 0} (calls : ClosureCalls F E) (seen : Result (Unit {0}) E) (answer : Result (Unit {0}) DimacsError) (r : Result (Unit {0}) (IncrementalError E)) (e : IncrementalError E) (reader : Reader × Reader)
    (piece : List ℕ) (f h : F) (p q s : Progress)
    → r ≡ refusal_or seen answer → r ≡ Err e → 0 < length piece → FeedsPiece answer piece p q → CallsClosure calls (f, q) seen (h, s) → LastClosureCall calls piece reader (with_parser s r) (f, p)
last_at_piece calls (Err d) answer r e reader piece f h p q s is err some feeds seen = rw is (answer, q, (h, s), inl (some, feeds), seen)
last_at_piece calls (Ok u) (Err d) r e reader piece f h p q s is err some feeds seen = rw is (inr (q, (h, s), inl (some, feeds), seen))
last_at_piece calls (Ok u) (Ok v) r e reader piece f h p q s is err some feeds seen = absurd cc

pub parsed_at_piece : {E : Type 0} (seen : Result (Unit {0}) E) (answer : Result (Unit {0}) DimacsError) (r : Result (Unit {0}) (IncrementalError E)) (e : IncrementalError E) (a c : Reader) (fed piece : List ℕ) (p q s : Progress)
    → r ≡ refusal_or seen answer → r ≡ Err e → GavePrefix a c (fed ++ piece) → c.ended ≡ false → c.calls ≤ a.calls + length (fed ++ piece) + 1 → HasAccepted fed p → FeedsPiece answer piece p q
    → ParsesInParts a c (with_parser s r)
parsed_at_piece (Err d) answer r e a c fed piece p q s is err front going few valid feeds = rw is tt
parsed_at_piece (Ok u) (Err d) r e a c fed piece p q s is err front going few valid feeds =
    rw is (enough_front a c (Parses (Err d)) (fed ++ piece) front going few (λ rest. stops_on d fed piece p q (ap (λ (z : Progress). z.fed) valid) (ap (λ (z : Progress). z.stopped) valid) feeds rest))
parsed_at_piece (Ok u) (Ok v) r e a c fed piece p q s is err front going few valid feeds = absurd cc

pub no_read_at_piece : {E X : Type 0} (seen : Result (Unit {0}) E) (answer : Result (Unit {0}) DimacsError) (r : Result (Unit {0}) (IncrementalError E)) (piece : List ℕ) (p q s : Progress)
    → r ≡ refusal_or seen answer → FeedsPiece answer piece p q → with_parser s r ≡ Err (parts.Dimacs errors.Read) → X
no_read_at_piece (Err e) answer r piece p q s is feeds h = no_read_called (with_parser s r) e (ap (with_parser s) is) h
no_read_at_piece (Ok u) (Err e) r piece p q s is feeds h = no_read_fed (with_parser s r) e piece p q feeds (ap (with_parser s) is) h
no_read_at_piece (Ok u) (Ok v) r piece p q s is feeds h = no_read (with_parser s r) s (ap (with_parser s) is) h

-- if parsing continues, the piece was accepted and the closure returned `Ok`
pub seen_piece : {F E : Type 0} (calls : ClosureCalls F E) (seen : Result (Unit {0}) E) (answer : Result (Unit {0}) DimacsError) (r : Result (Unit {0}) (IncrementalError E)) (x : Unit {0}) (piece : List ℕ) (f h : F) (p q s : Progress)
    → r ≡ refusal_or seen answer → r ≡ Ok x → FeedsPiece answer piece p q → OnOk answer (HasNoFaultSoFar q) → CallsClosure calls (f, q) seen (h, s) → FeedsPiece (Ok tt) piece p q × HasNoFaultSoFar q × CallsClosure calls (f, q) (Ok tt) (h, s)
seen_piece calls (Err d) answer r x piece f h p q s is ok feeds sound seen = absurd cc
seen_piece calls (Ok u) (Err d) r x piece f h p q s is ok feeds sound seen = absurd cc
seen_piece calls (Ok u) (Ok v) r x piece f h p q s is ok feeds sound seen = (feeds, sound, seen)
