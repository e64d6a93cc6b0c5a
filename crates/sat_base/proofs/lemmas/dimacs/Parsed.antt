-- The result of parsing what a reader gave.
use Rattle.std.proofs.Common.{◌≡◌, ℕ, List, [], ◌∷◌, ◌++◌, Bool, true, false, Result, Err, refl, sym, ap, subst, inl, inr, ◌∙◌, append_assoc, take, length, length-append, ◌+◌, ◌<◌, ◌≤◌, arith, Ok}
use Rattle.std.specs.List.{FoldsTo, concat}
use Rattle.std.proofs.lemmas.List.{append-nil, length-take-le}
use Rattle.std.proofs.lemmas.List.Folds.{concat-append}
use Rattle.std.specs.Borrow.{MutBor}
use Rattle.sat_base.specs.declared.dimacs.error.DimacsError.{DimacsError}
use Rattle.sat_base.specs.declared.dimacs.error.DimacsError.TheVariants as errors
use Rattle.sat_base.specs.declared.dimacs.error.IncrementalError.{IncrementalError}
use Rattle.sat_base.specs.declared.dimacs.error.IncrementalError.TheVariants as parts
use Rattle.sat_base.specs.dimacs.Dimacs.{Clean, Dimacs, Ending, Limit, Malformed, dimacs}
use Rattle.sat_base.specs.dimacs.Parsing.{ClosureCalls, NeedsMemoryAtEnd, RunsOutWithinPiece, EndsAtFault, FeedsPiece, FinishEffect, NeedsMemoryAt, HasReadCleanly, TextHasNoFault, FormulaIsDetermined, OnlyTakesClauses, Parses, Progress, stopped_at_end, no_progress, with_fed}
use Rattle.sat_base.specs.device.Device.{Reader, GavePrefix}
use Rattle.sat_base.specs.text.Text.{dimacs_header, scan, tokens_of, lines}

-- a text with a fault ends with this fault, however it continues
pub fault_ends : (ending : Ending) (fed piece : List ℕ) (p q : Progress) → p.fed ≡ fed → EndsAtFault ending piece p q → (rest : List ℕ) → (dimacs ((fed ++ piece) ++ rest)).ending ≡ ending
fault_ends ending fed piece p q e f rest =
    let is : q.fed ≡ fed ++ f.front = ap (λ (k : Progress). k.fed) f.progress ∙ ap (λ (k : List ℕ). k ++ f.front) e in
    let text : (fed ++ piece) ++ rest ≡ q.fed ++ (f.following ++ rest) =
    ap (λ (xs : List ℕ). (fed ++ xs) ++ rest) f.whole ∙ ap (λ (xs : List ℕ). xs ++ rest) (sym (append_assoc fed f.front f.following)) ∙ append_assoc (fed ++ f.front) f.following rest
    ∙ ap (λ (xs : List ℕ). xs ++ (f.following ++ rest)) (sym is) in
    ap (λ (k : List ℕ). (dimacs k).ending) text ∙ ap (λ (d : Dimacs). d.ending) (f.ends (f.following ++ rest))

-- if memory ran out within a piece, it ran out within the text
pub short_on : (fed piece : List ℕ) (p q : Progress) → p.fed ≡ fed → RunsOutWithinPiece piece p q → (rest : List ℕ)
    → (front : List ℕ) × (byte : ℕ) × (following : List ℕ) × ((fed ++ piece) ++ rest ≡ front ++ byte ∷ following) × NeedsMemoryAt front byte
short_on fed piece p q e f rest = (
  fed ++ f.front,
  f.byte,
  f.following ++ rest,
  append_assoc fed piece rest ∙ ap (λ (xs : List ℕ). fed ++ (xs ++ rest)) f.whole ∙ ap (λ (xs : List ℕ). fed ++ xs) (append_assoc f.front (f.byte ∷ f.following) rest)
      ∙ sym (append_assoc fed f.front (f.byte ∷ (f.following ++ rest))),
  subst (λ (xs : List ℕ). NeedsMemoryAt (xs ++ f.front) f.byte) e f.well,
)

-- the error of a piece is the result of parsing any text that begins with the bytes accepted and this piece
pub stops_on : (e : DimacsError) (fed piece : List ℕ) (p q : Progress) → p.fed ≡ fed → p.stopped ≡ false → FeedsPiece (Err e) piece p q → (rest : List ℕ) → Parses (Err e) ((fed ++ piece) ++ rest)
stops_on (errors.Malformed line) fed piece p q e s f rest = (f.1, f.2, fault_ends (Malformed f.1) fed piece p q e f.3 rest)
stops_on (errors.Limit line) fed piece p q e s f rest = (f.1, f.2, fault_ends (Limit f.1) fed piece p q e f.3 rest)
stops_on errors.Read fed piece p q e s f rest = tt
stops_on errors.OutOfMemory fed piece p q e s f rest = inl (short_on fed piece p q e f.1 rest)
stops_on errors.HasFailed fed piece p q e s f rest = absurd (let g : ◌≡◌ {A = Bool} true false = sym f.0 ∙ s in cc)

-- `HasAccepted fed p` holds if the parser accepted the bytes `fed`, and clauses may have been taken from it.
abbrev pub HasAccepted : List ℕ → Progress → Type 0
HasAccepted fed p = p ≡ record (with_fed fed no_progress) { taken = p.taken }

-- a parser that accepted bytes, and from which nothing was taken
pub stands_of : (fed : List ℕ) (p : Progress) → p ≡ with_fed fed no_progress → HasAccepted fed p
stands_of fed p e = e ∙ ap (λ (t : List (List ℕ)). record (with_fed fed no_progress) { taken = t }) (sym (ap (λ (k : Progress). k.taken) e))

pub ends_by : (e : DimacsError) (fed : List ℕ) (p q : Progress) → HasAccepted fed p → FinishEffect (Err e) p q → Parses (Err e) fed
ends_by (errors.Malformed line) fed p q is f = (f.2, f.3, ap (λ (k : Progress). (dimacs k.fed).ending) (sym is) ∙ f.4)
ends_by (errors.Limit line) fed p q is f = (f.2, f.3, ap (λ (k : Progress). (dimacs k.fed).ending) (sym is) ∙ f.4)
ends_by errors.Read fed p q is f = tt
ends_by errors.OutOfMemory fed p q is f = inr (subst NeedsMemoryAtEnd (ap (λ (k : Progress). k.fed) is) f.2)
ends_by errors.HasFailed fed p q is f = absurd (let g : ◌≡◌ {A = Bool} true false = sym f.0 ∙ ap (λ (k : Progress). k.stopped) is in cc)

pub parts_clean : (fed : List ℕ) (p q r : Progress) → HasAccepted fed p → r ≡ record q { taken = r.taken } → (q ≡ stopped_at_end p) × ((dimacs p.fed).ending ≡ Clean) → HasReadCleanly r fed
parts_clean fed p q r is kept f =
    let e : r ≡ record (stopped_at_end p) { taken = r.taken } = kept ∙ ap (λ (z : Progress). record z { taken = r.taken }) f.0 in
    let fed_is : p.fed ≡ fed = ap (λ (z : Progress). z.fed) is in
    (ap (λ (z : Progress). z.fed) e ∙ fed_is, ap (λ (z : Progress). z.stopped) e, ap (λ (z : Progress). z.ended) e, ap (λ (z : List ℕ). (dimacs z).ending) (sym fed_is) ∙ f.1)

-- a closure keeps the text if every call changes only which clauses were taken
pub keeps_always : {F E : Type 0} (calls : ClosureCalls F E) → ((f g : F) (p q : MutBor Progress) (answer : Result (Unit {0}) E) → calls f p answer q g → q.now ≡ record p.now { taken = q.now.taken }) → (f : F) → OnlyTakesClauses calls f
keeps_always calls k f [] = tt
keeps_always calls k f (p ∷ ps) = λ answer q g h. (k f g p q answer h, keeps_always calls k g ps)

-- after a call, a closure that keeps the text still does, and the parser has the same text
pub keeps_next : {F E : Type 0} (calls : ClosureCalls F E) (f g : F) (p q : MutBor Progress) (answer : Result (Unit {0}) E) → OnlyTakesClauses calls f → calls f p answer q g → OnlyTakesClauses calls g × (q.now ≡ record p.now { taken = q.now.taken })
keeps_next calls f g p q answer k h = ((λ ps. (k (p ∷ ps) answer q g h).1), (k (p ∷ []) answer q g h).0)

joined_more : (pieces : List (List ℕ)) (piece : List ℕ) → concat pieces ++ piece ≡ concat (pieces ++ (piece ∷ []))
joined_more pieces piece = ap (λ (z : List ℕ). concat pieces ++ z) (sym (append-nil piece)) ∙ sym (concat-append pieces (piece ∷ []))

-- a piece is accepted, and then a call keeps the text
pub fed_and_kept : (pieces : List (List ℕ)) (piece : List ℕ) (p q r : Progress) → HasAccepted (concat pieces) p → q ≡ with_fed piece p → r ≡ record q { taken = r.taken } → HasAccepted (concat (pieces ++ (piece ∷ []))) r
fed_and_kept pieces piece p q r is f kept =
    kept ∙ ap (λ (z : Progress). record z { taken = r.taken }) f ∙ ap (λ (z : Progress). record (with_fed piece z) { taken = r.taken }) is
    ∙ ap (λ (z : List ℕ). record (with_fed z no_progress) { taken = r.taken }) (joined_more pieces piece)

-- the pieces that were given, and one more
pub front_joined : (old new : Reader) (pieces : List (List ℕ)) (piece : List ℕ) → GavePrefix old new (concat pieces ++ piece) → GavePrefix old new (concat (pieces ++ (piece ∷ [])))
front_joined old new pieces piece f = subst (GavePrefix old new) (joined_more pieces piece) f

-- the pieces that were given, and no more
pub front_alone : (old new : Reader) (pieces : List (List ℕ)) → GavePrefix old new (concat pieces) → GavePrefix old new (concat pieces ++ [])
front_alone old new pieces f = subst (GavePrefix old new) (sym (append-nil (concat pieces))) f

-- a text is complete if its reader is at its end
pub whole_at_end : (a c : Reader) (text : List ℕ) → a.calls < c.calls → c.ended ≡ true → FormulaIsDetermined a c text
whole_at_end a c text called e rest f =
    let k : text ++ rest ≡ text = ap (λ (z : List ℕ). text ++ z) (f called e) ∙ append-nil text in
    (ap dimacs k, ap dimacs_header k)

pub piece_given : (n : ℕ) (buf : List ℕ) → n ≤ length buf → 0 < n → 0 < length (take n buf)
piece_given n buf h k = let e = length-take-le n buf h in omega arith

-- the empty text has no fault
pub sound_none : TextHasNoFault []
unfolding scan tokens_of lines
sound_none = record { lines = tt; words = ([], tt) }

-- a nonempty piece adds at least one byte
pub piece_more : (pieces : List (List ℕ)) (piece : List ℕ) (n : ℕ) → n ≤ length (concat pieces) → 0 < length piece → n + 1 ≤ length (concat (pieces ++ (piece ∷ [])))
piece_more pieces piece n h k = let e = ap length (sym (joined_more pieces piece)) ∙ length-append (concat pieces) piece in omega arith

-- a fold with one more item
pub folds_more : {P A : Type 0} (R : P → A → P → Type 0) (p q r : P) (xs : List A) (x : A) → FoldsTo R p xs q → R q x r → FoldsTo R p (xs ++ (x ∷ [])) r
folds_more R p q r [] x h k = (r, subst (λ z. R z x r) (sym h) k, refl)
folds_more R p q r (y ∷ ys) x h k = (h.0, h.1, folds_more R h.0 q r ys x h.2 k)

-- RESULTS OTHER THAN A FAILED READ

pub no_read : {T E X : Type 0} (r : Result T (IncrementalError E)) (x : T) → r ≡ Ok x → r ≡ Err (parts.Dimacs errors.Read) → X
no_read r x k h = absurd cc

pub no_read_called : {T E X : Type 0} (r : Result T (IncrementalError E)) (e : E) → r ≡ Err (parts.Caller e) → r ≡ Err (parts.Dimacs errors.Read) → X
no_read_called r e k h = absurd cc

pub no_read_ended : {T E X : Type 0} (r : Result T (IncrementalError E)) (e : DimacsError) (p q : Progress) → FinishEffect (Err e) p q → r ≡ Err (parts.Dimacs e) → r ≡ Err (parts.Dimacs errors.Read) → X
no_read_ended r e p q f k h = absurd (let i : e ≡ errors.Read = cc in subst (λ (z : DimacsError). FinishEffect (Err z) p q) i f)

pub no_read_fed : {T E X : Type 0} (r : Result T (IncrementalError E)) (e : DimacsError) (piece : List ℕ) (p q : Progress) → FeedsPiece (Err e) piece p q → r ≡ Err (parts.Dimacs e) → r ≡ Err (parts.Dimacs errors.Read) → X
no_read_fed r e piece p q f k h = absurd (let i : e ≡ errors.Read = cc in subst (λ (z : DimacsError). FeedsPiece (Err z) piece p q) i f)
