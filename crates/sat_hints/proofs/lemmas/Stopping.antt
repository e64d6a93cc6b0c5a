-- How far a text was checked when memory ran out.
use Rattle.std.proofs.Common.{ℕ, ◌+◌, ◌<◌, ◌≤◌, ◌≡◌, ◌⊎◌, inl, inr, Option, None, Some, Result, Ok, Err, OnErr, List, [], ◌∷◌, ◌++◌, length, length-append, refl, sym, ◌∙◌, ap, subst, arith, append_assoc, append-nil}
use Rattle.sat_hints.specs.Lines.{Line, Input, Derived, Removed, Core, Fresh, LinesAreWithinLimits, text_of, line_text}
use Rattle.sat_hints.specs.Hints.{IsHintDerivation}
use Rattle.sat_hints.specs.Faults.{StopsWithinLine, StopsAtLine}
use Rattle.sat_hints.specs.inner.Prefixes.{ReachesPlace}
use Rattle.sat_hints.specs.inner.LineReading.{BeginsWithHintLine}
use Rattle.sat_hints.specs.inner.LineRoom.{HasListRoom, KeepsListRoom}
use Rattle.sat_hints.specs.inner.LineChecking.{HasAcceptedLines, FollowsAccepted}
use Rattle.sat_hints.specs.declared.reading.Lists.{Lists}
use Rattle.sat_hints.specs.inner.Holding.{IsWholeLine, AcceptsLineBytes, HasReadText, ReadsFurther, CanRunOutOfMemory, CanRunOutOfMemoryAtEnd}
use Rattle.sat_hints.specs.declared.prefixes.Place.{Place}
use Rattle.sat_hints.specs.declared.prefixes.Place.TheVariants.{Letter}
use Rattle.sat_hints.specs.declared.checking.Checking.{Checking}
use Rattle.sat_hints.specs.declared.line_checking.LineChecker.{LineChecker}
use Rattle.sat_hints.proofs.lemmas.Reaching.{reaches_on, completes}
use Rattle.sat_hints.proofs.lemmas.Holding.{whole_with}
use Rattle.sat_hints.proofs.lemmas.InPlace.{spells_whole}

-- ROOM
pub room_kept : (a b : Lists) (m n : ℕ) → n ≤ m → HasListRoom a m → KeepsListRoom a b → HasListRoom b n
room_kept a b m n h r k = record { literals = let e = k.literals in let l = r.literals in omega arith; ids = let e = k.ids in let l = r.ids in omega arith }

-- WITHIN A LINE
stops_within : (lines : List Line) (bytes : List ℕ) (place : Place) → LinesAreWithinLimits lines → IsHintDerivation lines → ReachesPlace Letter bytes (Some place) → StopsWithinLine (text_of lines ++ bytes)
stops_within lines bytes place are d h =
    let r = h tt in
    let c = completes place r.0 in
    let s = r.1 (c.0 ∷ c.1) c.2 in
    record { earlier = lines; bytes = bytes; whole = refl; are = are; derivation = d; front = (s.0, c.0, c.1, s.1) }

pub read_stops : (c : Checking) (text : List ℕ) → HasReadText c text → StopsWithinLine text
read_stops c text r = subst StopsWithinLine (sym r.whole) (stops_within r.lines c.held.items c.place r.are r.derivation r.reaches)

-- more bytes with which a line can continue
pub held_stops : (old : Checking) (bytes : List ℕ) (place : Place) → ReachesPlace old.place bytes (Some place) → CanRunOutOfMemory old bytes
held_stops old bytes place h text r =
    let e = ap (λ x. x ++ bytes) r.whole ∙ append_assoc (text_of r.lines) old.held.items bytes in
    inl (subst StopsWithinLine (sym e) (stops_within r.lines (old.held.items ++ bytes) place r.are r.derivation (reaches_on Letter old.place (Some place) old.held.items bytes r.reaches h)))

-- AT A LINE
line_some : (line : Line) → 0 < length (line_text line)
line_some (Input id ls) = omega arith
line_some (Derived id ls ids) = omega arith
line_some (Removed id) = omega arith
line_some (Core ls ids) = omega arith
line_some (Fresh v) = omega arith

-- further bytes were read ahead
stops_then : (m n : ℕ) (xs ys : List ℕ) → m + length ys ≤ n → StopsAtLine m xs → StopsAtLine n (xs ++ ys)
stops_then m n xs ys h s = record {
  earlier = s.earlier;
  line = s.line;
  rest = s.rest ++ ys;
  whole = ap (λ x. x ++ ys) s.whole ∙ append_assoc (text_of s.earlier) (line_text s.line ++ s.rest) ys ∙ ap (λ x. text_of s.earlier ++ x) (append_assoc (line_text s.line) s.rest ys);
  are = s.are;
  derivation = s.derivation;
  few = let k = s.few in let l = length-append s.rest ys in omega arith;
}

pub stops_below : (m n : ℕ) (text : List ℕ) → m ≤ n → StopsAtLine m text → StopsAtLine n text
stops_below m n text h s = record { earlier = s.earlier; line = s.line; rest = s.rest; whole = s.whole; are = s.are; derivation = s.derivation; few = let k = s.few in omega arith }

-- a line that was held up to its last bytes
pub line_stops : (old : Checking) (bytes all : List ℕ) → IsWholeLine bytes → all ≡ old.held.items ++ bytes → (IsWholeLine all → (lines : List Line) → HasAcceptedLines old.checker lines → AcceptsLineBytes lines all) → CanRunOutOfMemoryAtEnd old bytes
line_stops old bytes all w a h text r =
    let k = h (subst IsWholeLine (sym a) (whole_with old.held.items bytes r.inside w)) r.lines r.taken in
    record {
      earlier = r.lines;
      line = k.0;
      rest = [];
      whole = ap (λ x. x ++ bytes) r.whole ∙ append_assoc (text_of r.lines) old.held.items bytes ∙ ap (λ x. text_of r.lines ++ x) (sym a ∙ k.1.1 ∙ sym (append-nil (line_text k.0)));
      are = (k.1.0, r.are);
      derivation = (r.derivation, k.2);
      few = omega arith;
    }

-- if memory runs out for a line that may follow, the bytes are such a line
pub judged_whole : {T E : Type 0} (r : Result T E) (checker : LineChecker) (bytes rest : List ℕ) (line : Line) → BeginsWithHintLine bytes line rest → OnErr r (FollowsAccepted checker line)
    → OnErr r (IsWholeLine bytes → (lines : List Line) → HasAcceptedLines checker lines → AcceptsLineBytes lines bytes)
judged_whole (Ok x) checker bytes rest line read may = tt
judged_whole (Err e) checker bytes rest line read may = λ w lines taken. (line, spells_whole bytes rest line w read, may lines taken)

-- a line that was read in place
pub place_stops : (b : Checking) (bytes rest : List ℕ) (line : Line) → b.held.items ≡ [] → BeginsWithHintLine bytes line rest → FollowsAccepted b.checker line → CanRunOutOfMemory b bytes
place_stops b bytes rest line empty read may text r = inr (record {
  earlier = r.lines;
  line = line;
  rest = rest;
  whole = ap (λ x. x ++ bytes) (r.whole ∙ ap (λ x. text_of r.lines ++ x) empty ∙ append-nil (text_of r.lines)) ∙ ap (λ x. text_of r.lines ++ x) read.1;
  are = (read.0, r.are);
  derivation = (r.derivation, may r.lines r.taken);
  few = let k = ap length read.1 in let l = length-append (line_text line) rest in let s = line_some line in omega arith;
})

-- BYTES BEFORE OR AFTER
pub end_stops : (old : Checking) (all line rest : List ℕ) → all ≡ line ++ rest → 0 < length line → CanRunOutOfMemoryAtEnd old line → CanRunOutOfMemory old all
end_stops old all line rest e some h text r =
    let k = ap length e in
    let l = length-append line rest in
    inr (subst (StopsAtLine (length all)) (append_assoc text line rest ∙ ap (λ x. text ++ x) (sym e)) (stops_then 1 (length all) (text ++ line) rest (omega arith) (h text r)))

pub stops_later : (a b : Checking) (all xs ys : List ℕ) → all ≡ xs ++ ys → ReadsFurther None a xs b → CanRunOutOfMemory b ys → CanRunOutOfMemory a all
stops_later a b all xs ys e h k text r = go (k (text ++ xs) (h text r))
  where
    same : (text ++ xs) ++ ys ≡ text ++ all
    same = append_assoc text xs ys ∙ ap (λ x. text ++ x) (sym e)

    longer : length ys ≤ length all
    longer = let k = ap length e in let l = length-append xs ys in omega arith

    go : StopsWithinLine ((text ++ xs) ++ ys) ⊎ StopsAtLine (length ys) ((text ++ xs) ++ ys) → StopsWithinLine (text ++ all) ⊎ StopsAtLine (length all) (text ++ all)
    go (inl s) = inl (subst StopsWithinLine same s)
    go (inr s) = inr (subst (StopsAtLine (length all)) same (stops_below (length ys) (length all) ((text ++ xs) ++ ys) longer s))

pub stops_later_if : {T E : Type 0} (r : Result T E) (a b : Checking) (all xs ys : List ℕ) → all ≡ xs ++ ys → ReadsFurther None a xs b → OnErr r (CanRunOutOfMemory b ys) → OnErr r (CanRunOutOfMemory a all)
stops_later_if (Ok x) a b all xs ys e h k = tt
stops_later_if (Err x) a b all xs ys e h k = stops_later a b all xs ys e h k
