-- What a reader gave through one that keeps it.
use Rattle.std.proofs.Common.{ℕ, ◌≡◌, ◌+◌, ◌-◌, ◌≤◌, ◌<◌, Bool, true, false, List, [], ◌∷◌, ◌++◌, length, length-append, length-drop, drop, take, Result, Ok, Err, IfOk, append_assoc, refl, sym, ap, subst, ◌∙◌, arith}
use Rattle.std.specs.Prelude.{OnOk, if◌then◌else◌, nat_lt}
use Rattle.std.proofs.lemmas.List.{append-nil, drop_all}
use Rattle.sat_base.specs.device.Device.{Reader, CouldStillGive, FewReads, GavePrefix, GaveEnough, lent_reader}
use Rattle.certify.specs.script.Decided.{MakesNoReadOnceDecided}
use Rattle.certify.specs.program.Copies.{GaveKept, IsCopy, given_before, kept_reader}
use Rattle.certify.specs.program.Failures.{ReadsStopAtFailure}

-- nothing kept
pub copy_none : (given : List ℕ) → IsCopy given []
copy_none given = drop_all (length given - 0) given (omega arith)

-- the bytes after a prefix
behind : (xs ys : List ℕ) → drop (length xs) (xs ++ ys) ≡ ys
behind [] ys = refl
behind (x ∷ xs) ys = behind xs ys

module _ (a b : Reader) (kept : List ℕ) where
  -- all that a reader gave was kept
  kept_text : (text : List ℕ) → IsCopy b.given kept → GavePrefix (kept_reader a [] 0) (kept_reader b kept 0) text → text ≡ kept
  kept_text text c g =
      let n : given_before b.given kept ≡ length a.given = let e : given_before b.given kept ≡ given_before a.given [] = cc (g.loans) in omega (arith, e) in
      sym (behind a.given text) ∙ ap (λ (z : List ℕ). drop (length a.given) z) (sym g.gave) ∙ ap (λ (k : ℕ). drop k b.given) (sym n) ∙ c

  -- what a reader gave through one that keeps it
  pub gave_kept : (P : List ℕ → Type 0) → IsCopy b.given kept → b.failures ≡ a.failures → GaveEnough (kept_reader a [] 0) (kept_reader b kept 0) P
      → GaveKept a b kept P
  gave_kept P c f g =
      let few : FewReads a b = omega (arith, g.few) in
      let loans : b.loans ≡ a.loans = cc (g.front.loans) in
      record {
        gave = record {
          text = g.text;
          front = record { gave = g.front.gave; known_bytes = g.front.known_bytes; loans = loans };
          over = λ called ends. g.over (omega arith) ends;
          few = few;
          holds = λ rest h. g.holds rest (λ called ends. h (omega arith) ends);
        };
        copy = subst P (append-nil g.text ∙ kept_text g.text c g.front) (g.holds [] (λ called ends. refl));
        read = f;
      }

-- what a reader gave to a run, if memory for the copy has not run out
pub run_keeps : (a b : Reader) (kept : List ℕ) (n m : ℕ) (early late : Bool) (k : List ℕ) (P : List ℕ → Type 0)
    → IsCopy b.given kept → k ≡ [] → early ≡ false → late ≡ false → (early ≡ false → n ≡ 0) → (late ≡ false → m ≡ 0)
    → GaveEnough (kept_reader a k n) (kept_reader b kept m) P → (kept_reader b kept m).failures ≡ (kept_reader a k n).failures
    → GaveKept a b kept P
run_keeps a b kept n m early late k P c none e l en ln g f =
    let old : kept_reader a k n ≡ kept_reader a [] 0 = rw (none, en e) refl in
    let new : kept_reader b kept m ≡ kept_reader b kept 0 = rw (ln l) refl in
    let fs : b.failures ≡ a.failures = omega (arith, f, en e, ln l) in
    gave_kept a b kept P c fs
    (subst (λ (z : Reader). GaveEnough z (kept_reader b kept 0) P) old (subst (λ (z : Reader). GaveEnough (kept_reader a k n) z P) new g))

-- the failed reads of a reader, seen through one that keeps what it gives
pub keeps_to_failure : (a b : Reader) (k kept : List ℕ) (n m : ℕ) → n ≡ 0 → ReadsStopAtFailure (kept_reader a k n, kept_reader b kept m) → ReadsStopAtFailure (a, b)
keeps_to_failure a b k kept n m none h = record {
  failures = omega (arith, none, h.failures);
  last = λ one.
      let no : m ≡ 0 = omega (arith, none, one, h.failures) in
      let failed : (if nat_lt 0 m then true else b.failed) ≡ true = h.last (omega (arith, none, no, one)) in
      rw no at failed;
  reads = omega (arith, none, h.reads);
}

-- a reader is lent as it was before, if it is seen so through one that keeps what it gives
keeps_loans : (a b : Reader) (k kept : List ℕ) (n m : ℕ) → (kept_reader b kept m).loans ≡ (kept_reader a k n).loans → b.loans ≡ a.loans
keeps_loans a b k kept n m h = let e : ◌≡◌ {A = List ℕ} (given_before b.given kept ∷ b.loans) (given_before a.given k ∷ a.loans) = h in cc

-- a reader was read no further than it was through one that keeps what it gives
pub keeps_stop : (a b : Reader) (k kept : List ℕ) (n m : ℕ) → n ≡ 0 → MakesNoReadOnceDecided (kept_reader a k n) (kept_reader b kept m) → MakesNoReadOnceDecided a b
keeps_stop a b k kept n m none h =
    (h.0, record { gave = h.1.gave; known_bytes = h.1.known_bytes; loans = keeps_loans a b k kept n m h.1.loans }, h.2, λ ended called. last (nat_lt 0 m) b.failed b.ended (h.3 ended (omega arith)))
  where
    last : (refused failed ended : Bool) → ((if refused then true else failed) ≡ false) × ((if refused then false else ended) ≡ false) → (failed ≡ false) × (ended ≡ false)
    last false failed ended p = p
    last true failed ended p = absurd (let t : ◌≡◌ {A = Bool} true false = p.0 in cc)

-- a reader that was lent was returned through the same loan
pub same_loan : (a b : Reader) (given back : ℕ) → (lent_reader back b).loans ≡ (lent_reader given a).loans → given ≡ back
same_loan a b given back e = let h : ◌≡◌ {A = List ℕ} (back ∷ b.loans) (given ∷ a.loans) = e in cc

-- how far a reader that was lent was read
pub stop_unlent : (a b : Reader) (given back : ℕ) → MakesNoReadOnceDecided (lent_reader given a) (lent_reader back b) → MakesNoReadOnceDecided a b
stop_unlent a b given back h =
    (h.0, record { gave = h.1.gave; known_bytes = h.1.known_bytes; loans = let k : ◌≡◌ {A = List ℕ} (back ∷ b.loans) (given ∷ a.loans) = h.1.loans in cc }, h.2, h.3)

-- what a reader that was lent gave
pub enough_unlent : (a b : Reader) (given back : ℕ) (P : List ℕ → Type 0) → GaveEnough (lent_reader given a) (lent_reader back b) P → GaveEnough a b P
enough_unlent a b given back P g = record {
  text = g.text;
  front = record { gave = g.front.gave; known_bytes = g.front.known_bytes; loans = let h : ◌≡◌ {A = List ℕ} (b.loans) (a.loans) = (let k : ◌≡◌ {A = List ℕ} (back ∷ b.loans) (given ∷ a.loans) = g.front.loans in cc) in h };
  over = g.over;
  few = g.few;
  holds = g.holds;
}
