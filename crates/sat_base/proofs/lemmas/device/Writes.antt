-- What a writer accepts, piece by piece.
use Rattle.std.proofs.Common.{◌≡◌, ℕ, ◌+◌, ◌-◌, ◌<◌, ◌≤◌, Bool, true, false, List, [], ◌∷◌, ◌++◌, length, length-append, length-drop, take, drop, if◌then◌else◌, Option, Some, None, Result, Ok, Err, append_assoc, refl, sym, ap, subst, ◌∙◌, arith}
use Rattle.std.proofs.lemmas.List.{append-nil, take-append-drop, length-take-le}
use Rattle.std.proofs.lemmas.Grind.{common_steps}
use Rattle.std.proofs.Math.Seq.{take-add}
use Rattle.std.specs.Io.KnownBytes.{Appends, Keeps}
use Rattle.sat_base.specs.device.Device.{Writer, WritesOnce, FlushesOnce, WriterAccepts, WriterFails, WritesText, accepts_none, lent_writer}
use Rattle.sat_base.proofs.lemmas.device.Known.{appends_none, appends_more, rest_is}

pub took_none : (w : Writer) → WriterAccepts w w []
took_none w = record { taken = sym (append-nil w.taken); known_bytes = appends_none w.contents; failures = refl; calls = omega arith; few = omega arith; loans = refl }

pub took_more : (a b c : Writer) (xs ys : List ℕ) → WriterAccepts a b xs → WriterAccepts b c ys → WriterAccepts a c (xs ++ ys)
took_more a b c xs ys p q = record {
  taken = q.taken ∙ ap (λ (z : List ℕ). z ++ ys) p.taken ∙ append_assoc a.taken xs ys;
  known_bytes = appends_more a.contents b.contents c.contents xs ys p.known_bytes q.known_bytes;
  failures = q.failures ∙ p.failures;
  calls = omega (arith, p.calls, q.calls);
  few = omega (arith, p.few, q.few, length-append xs ys);
  loans = q.loans ∙ p.loans;
}

-- a failure after some bytes were accepted
pub breaks_later : (a b c : Writer) (xs ys : List ℕ) → WriterAccepts a b xs → WriterFails b c ys → WriterFails a c (xs ++ ys)
breaks_later a b c xs ys p q = record {
  front = xs ++ q.front;
  following = q.following;
  whole = ap (λ (z : List ℕ). xs ++ z) q.whole ∙ sym (append_assoc xs q.front q.following);
  taken = q.taken ∙ ap (λ (z : List ℕ). z ++ q.front) p.taken ∙ append_assoc a.taken xs q.front;
  known_bytes = appends_more a.contents b.contents c.contents xs q.front p.known_bytes q.known_bytes;
  failures = q.failures ∙ ap (λ (n : ℕ). n + 1) p.failures;
  failed = q.failed;
  calls = omega (arith, p.calls, q.calls);
  few = omega (arith, p.few, q.few, length-append xs q.front);
  loans = q.loans ∙ p.loans;
}

-- a failure while a prefix of the text is written
pub breaks_within : (a b : Writer) (xs ys : List ℕ) → WriterFails a b xs → WriterFails a b (xs ++ ys)
breaks_within a b xs ys q = record {
  front = q.front;
  following = q.following ++ ys;
  whole = ap (λ (z : List ℕ). z ++ ys) q.whole ∙ append_assoc q.front q.following ys;
  taken = q.taken;
  known_bytes = q.known_bytes;
  failures = q.failures;
  failed = q.failed;
  calls = q.calls;
  few = q.few;
  loans = q.loans;
}

-- ONE WRITE

some_taken : (n : ℕ) (rest : List ℕ) → (n ≡ 0 → ⊥) → accepts_none n rest ≡ false
some_taken n rest h = grind (arith, common_steps)

none_taken : (n : ℕ) (rest : List ℕ) → n ≡ 0 → 0 < length rest → accepts_none n rest ≡ true
none_taken n rest h k = grind (arith, common_steps)

counted : (t : Bool) (old new : ℕ) → new ≡ (if t then old + 1 else old) → t ≡ false → new ≡ old
counted true old new h e = absurd (let k : ◌≡◌ {A = Bool} true false = e in cc)
counted false old new h e = h

counted_one : (t : Bool) (old new : ℕ) → new ≡ (if t then old + 1 else old) → t ≡ true → new ≡ old + 1
counted_one true old new h e = h
counted_one false old new h e = absurd (let k : ◌≡◌ {A = Bool} false true = e in cc)

pub wrote_some : {E : Type 0} (a b : Writer) (rest : List ℕ) (n : ℕ) → WritesOnce {E = E} (Ok n) rest a b → n ≤ length rest → (n ≡ 0 → ⊥) → WriterAccepts a b (take n rest)
wrote_some a b rest n w k h = record {
  taken = w.taken;
  known_bytes = w.known_bytes;
  failures = counted (accepts_none n rest) a.failures b.failures w.failures.0 (some_taken n rest h);
  calls = omega (arith, w.calls);
  few = let e = length-take-le n rest k in omega (arith, w.calls, w.flushes);
  loans = w.loans;
}

keeps_appends : (a b : Option (List ℕ)) → Keeps a b → Appends a b []
keeps_appends None b h = tt
keeps_appends (Some x) None h = absurd h
keeps_appends (Some x) (Some y) h = h ∙ sym (append-nil x)

none_at : (n : ℕ) (rest : List ℕ) → n ≡ 0 → take n rest ≡ []
none_at n rest h = ap (λ (k : ℕ). take k rest) h

pub wrote_none : {E : Type 0} (a b : Writer) (rest : List ℕ) (n : ℕ) → WritesOnce {E = E} (Ok n) rest a b → n ≡ 0 → 0 < length rest → WriterFails a b rest
wrote_none a b rest n w h k = record {
  front = [];
  following = rest;
  whole = refl;
  taken = w.taken ∙ ap (λ (z : List ℕ). a.taken ++ z) (none_at n rest h);
  known_bytes = subst (Appends a.contents b.contents) (none_at n rest h) w.known_bytes;
  failures = counted_one (accepts_none n rest) a.failures b.failures w.failures.0 (none_taken n rest h k);
  failed = w.failures.1 ∙ none_taken n rest h k;
  calls = omega (arith, w.calls);
  few = omega (arith, w.calls, w.flushes);
  loans = w.loans;
}

pub write_fails : {E : Type 0} (e : E) (a b : Writer) (rest : List ℕ) → WritesOnce {E = E} (Err e) rest a b → WriterFails a b rest
write_fails e a b rest w = record {
  front = [];
  following = rest;
  whole = refl;
  taken = w.taken ∙ sym (append-nil a.taken);
  known_bytes = keeps_appends a.contents b.contents w.known_bytes;
  failures = w.failures.0;
  failed = w.failures.1;
  calls = omega (arith, w.calls);
  few = omega (arith, w.calls, w.flushes);
  loans = w.loans;
}

-- ONE FLUSH

pub flush_takes : {E : Type 0} {u : Unit {0}} (a b : Writer) → FlushesOnce {E = E} (Ok u) a b → WriterAccepts a b []
flush_takes a b f = record {
  taken = f.taken ∙ sym (append-nil a.taken);
  known_bytes = keeps_appends a.contents b.contents f.known_bytes;
  failures = f.failures.0;
  calls = omega (arith, f.calls);
  few = omega (arith, f.calls, f.flushes);
  loans = f.loans;
}

pub flush_fails : {E : Type 0} (e : E) (a b : Writer) → FlushesOnce {E = E} (Err e) a b → WriterFails a b []
flush_fails e a b f = record {
  front = [];
  following = [];
  whole = refl;
  taken = f.taken ∙ sym (append-nil a.taken);
  known_bytes = keeps_appends a.contents b.contents f.known_bytes;
  failures = f.failures.0;
  failed = f.failures.1;
  calls = omega (arith, f.calls);
  few = omega (arith, f.calls, f.flushes);
  loans = f.loans;
}

-- THE NEXT PART OF A PIECE

pub took_next : {E : Type 0} (a b c : Writer) (piece : List ℕ) (i n : ℕ) → WriterAccepts a b (take i piece) → WritesOnce {E = E} (Ok n) (take (length piece - i) (drop i piece)) b c
    → n ≤ length (take (length piece - i) (drop i piece)) → (n ≡ 0 → ⊥) → WriterAccepts a c (take (i + n) piece)
took_next a b c piece i n p w k h =
    let e : take i piece ++ take n (take (length piece - i) (drop i piece)) ≡ take (i + n) piece = ap (λ (z : List ℕ). take i piece ++ take n z) (rest_is piece i) ∙ sym (take-add i n piece) in
    subst (WriterAccepts a c) e (took_more a b c (take i piece) (take n (take (length piece - i) (drop i piece))) p (wrote_some b c (take (length piece - i) (drop i piece)) n w k h))

pub breaks_next : (a b c : Writer) (piece : List ℕ) (i : ℕ) → WriterAccepts a b (take i piece) → WriterFails b c (take (length piece - i) (drop i piece)) → WriterFails a c piece
breaks_next a b c piece i p q =
    let e : take i piece ++ take (length piece - i) (drop i piece) ≡ piece = ap (λ (z : List ℕ). take i piece ++ z) (rest_is piece i) ∙ take-append-drop i piece in
    subst (WriterFails a c) e (breaks_later a b c (take i piece) (take (length piece - i) (drop i piece)) p q)

pub rest_some : (piece : List ℕ) (i : ℕ) → i < length piece → 0 < length (take (length piece - i) (drop i piece))
rest_some piece i h = let e = ap length (rest_is piece i) in omega (arith, length-drop i piece)

-- WHAT A LENDER GETS BACK

loans_end : (W : Type 0) (z v : W) (given back : ℕ) (xs ys : List ℕ) → (given ≡ back → z ≡ v) → ◌≡◌ {A = List ℕ} (back ∷ ys) (given ∷ xs) → z ≡ v
loans_end W z v given back xs ys h e = h (let k : given ≡ back = cc in k)

lent_takes : (a b : Writer) (given back : ℕ) (text : List ℕ) → WriterAccepts (lent_writer given a) (lent_writer back b) text → WriterAccepts a b text
lent_takes a b given back text p = record {
  taken = p.taken;
  known_bytes = p.known_bytes;
  failures = p.failures;
  calls = p.calls;
  few = p.few;
  loans = let k = p.loans in cc;
}

lent_breaks : (a b : Writer) (given back : ℕ) (text : List ℕ) → WriterFails (lent_writer given a) (lent_writer back b) text → WriterFails a b text
lent_breaks a b given back text p = record {
  front = p.front;
  following = p.following;
  whole = p.whole;
  taken = p.taken;
  known_bytes = p.known_bytes;
  failures = p.failures;
  failed = p.failed;
  calls = p.calls;
  few = p.few;
  loans = let k = p.loans in cc;
}

-- a text written through a lent writer was written to the lender's writer
pub lent_puts : {E W : Type 0} (seen : W → Writer) (a z v : W) (given back : ℕ) (text : List ℕ) (r : Result (Unit {0}) E) → (given ≡ back → z ≡ v) → WritesText text r (lent_writer given (seen a)) (lent_writer back (seen v)) → WritesText text r (seen a) (seen z)
lent_puts {E} {W} seen a z v given back text (Ok u) h p =
    subst (λ (x : W). WriterAccepts (seen a) (seen x) text) (sym (loans_end W z v given back (seen a).loans (seen v).loans h p.loans)) (lent_takes (seen a) (seen v) given back text p)
lent_puts {E} {W} seen a z v given back text (Err e) h p =
    subst (λ (x : W). WriterFails (seen a) (seen x) text) (sym (loans_end W z v given back (seen a).loans (seen v).loans h p.loans)) (lent_breaks (seen a) (seen v) given back text p)
