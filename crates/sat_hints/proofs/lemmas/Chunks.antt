-- A text that is read chunk by chunk.
use Rattle.std.proofs.Common.{ℕ, ◌+◌, ◌<◌, ◌≤◌, ◌≡◌, ◌⊎◌, inl, inr, Bool, true, false, Option, None, Some, Result, Ok, Err, IfErr, IfOk, OnErr, List, [], ◌∷◌, ◌++◌, length, length-append, take, refl, sym, ◌∙◌, ap, subst, arith, append_assoc, append-nil}
use Rattle.sat_base.specs.device.Device.{Reader, ReadsOnce, GavePrefix, GaveEnough, FewReads, ReadFails, max_reads, max_read_size}
use Rattle.sat_base.proofs.lemmas.device.Given.{gave_none, gave_more, gave_still, gave_to_end, not_ended, enough_front, few_front, some_given, still_open}
use Rattle.sat_base.proofs.lemmas.device.Known.{consumes_more}
use Rattle.sat_base.proofs.lemmas.dimacs.Parsed.{piece_given}
use Rattle.sat_checker.specs.ProofView.{FoundNoEnd}
use Rattle.sat_hints.specs.Checks.{VerdictHolds}
use Rattle.sat_hints.specs.Faults.{StopsWithinLine, StopsAtLine, GaveTextBeforeFault}
use Rattle.sat_hints.specs.inner.LineChecking.{IsReadyChecker}
use Rattle.sat_hints.specs.inner.Holding.{HasReadText, HasRoomFor, ReadsFurther, CanRunOutOfMemory, ReadsChunk, GivesChunk, GivesVerdict, FailsToGive, ChecksNextChunk, VerdictIsCorrect}
use Rattle.sat_hints.specs.declared.answer.HintFault.{HintFault}
use Rattle.sat_hints.specs.declared.answer.HintFault.TheVariants.{Read, OutOfMemory}
use Rattle.sat_hints.specs.declared.answer.HintVerdict.{HintVerdict}
use Rattle.sat_hints.specs.declared.checking.Checking.{Checking}
use Rattle.sat_hints.proofs.lemmas.Stopping.{read_stops, stops_below}

gave_then : (a b c : Reader) (xs ys : List ℕ) → GavePrefix a b xs → GavePrefix b c ys → GavePrefix a c (xs ++ ys)
gave_then a b c xs ys h k = record {
  gave = k.gave ∙ ap (λ (z : List ℕ). z ++ ys) h.gave ∙ append_assoc a.given xs ys;
  known_bytes = consumes_more a.to_come b.to_come c.to_come xs ys h.known_bytes k.known_bytes;
  loans = k.loans ∙ h.loans;
}

-- ONE READ
-- it found the end
pub read_ends : {E : Type 0} (a b : Reader) (n : ℕ) (room : List ℕ) (old : Checking) (v : HintVerdict) → ReadsOnce {E = E} (Ok n) room a b → n ≡ 0 → 0 < length room → ((text : List ℕ) → HasReadText old text → VerdictHolds v text) → GivesVerdict a b old v
read_ends a b n room old v once none some h =
    let g = gave_to_end a a b [] n room (gave_none a) once none some (omega arith) (omega arith) in
    record {
      bytes = [];
      front = record { gave = g.gave; known_bytes = g.known_bytes; loans = g.loans };
      over = λ e. g.over;
      failures = once.failures.0;
      holds = λ text r rest none. subst (VerdictHolds v) (sym (ap (λ x. (text ++ []) ++ x) (none g.ends) ∙ append-nil (text ++ []) ∙ append-nil text)) (h text r);
    }

-- it gave bytes
pub read_gives : {E : Type 0} (a b : Reader) (n : ℕ) (room : List ℕ) → ReadsOnce {E = E} (Ok n) room a b → 0 < n → n ≤ length room → GivesChunk a b (take n room)
read_gives a b n room once some fits = record {
  front = gave_more a a b [] n room (gave_none a) once;
  some = piece_given n room fits some;
  unended = not_ended a b n room once some;
  failures = once.failures.0;
}

-- the result of checking a chunk that was read is as `ChecksNextChunk` says
pub read_checks : (a b : Reader) (bytes : List ℕ) (old new : Checking) (result : Result (Option HintVerdict) HintFault) → GivesChunk a b bytes → length bytes ≤ max_read_size → IfErr result (λ e. e ≡ OutOfMemory) → IfOk result (λ v. ReadsChunk v old bytes new)
    → OnErr result (CanRunOutOfMemory old bytes) → ChecksNextChunk result a b old new
read_checks a b bytes old new (Ok None) g few memory takes stops = (bytes, g, takes)
read_checks a b bytes old new (Ok (Some v)) g few memory takes stops = record {
  bytes = bytes;
  front = g.front;
  over = still_open b _ g.unended;
  failures = g.failures;
  holds = λ text r rest none. takes text r rest;
}
read_checks a b bytes old new (Err Read) g few memory takes stops = absurd cc
read_checks a b bytes old new (Err OutOfMemory) g few memory takes stops = (bytes, g, few, stops)

-- it failed
pub read_fails : {E : Type 0} (e : E) (a b : Reader) (room : List ℕ) → ReadsOnce {E = E} (Err e) room a b → FailsToGive a b
read_fails e a b room once = record {
  front = gave_still e a a b [] room (gave_none a) once;
  unended = once.ended;
  fails = (once.failures.0, once.failures.1);
}

-- SEVERAL READS
-- `ReadsSoFar start now c count` holds if `count` reads gave a text that `c` has read, at least one byte each.
pub record ReadsSoFar (start now : Reader) (c : Checking) (count : ℕ) : Type 0 where
  pub given : List ℕ
  pub read : HasReadText c given
  pub front : GavePrefix start now given
  pub some : count ≤ length given
  pub unended : 0 < count → now.ended ≡ false
  pub failures : now.failures ≡ start.failures
  pub calls : now.calls ≡ start.calls + count

-- `GoesOn start now c count` holds if, in addition, the next chunk can be read.
pub record GoesOn (start now : Reader) (c : Checking) (count : ℕ) : Type 0 where
  pub ready : IsReadyChecker c.checker
  pub room : HasRoomFor c max_read_size
  pub reads : ReadsSoFar start now c count

-- what was read does not depend on lists and buffers
pub still_read : (a b : Checking) (text : List ℕ) → b.checker ≡ a.checker → b.place ≡ a.place → b.held.items ≡ a.held.items → HasReadText a text → HasReadText b text
still_read a b text j p h r = record {
  lines = r.lines;
  whole = rw h r.whole;
  inside = rw h r.inside;
  fits = rw (h, p) r.fits;
  reaches = rw (h, p) r.reaches;
  are = r.are;
  derivation = r.derivation;
  taken = rw j r.taken;
}

pub reads_none_yet : (start : Reader) (c : Checking) → HasReadText c [] → ReadsSoFar start start c 0
reads_none_yet start c r = record {
  given = [];
  read = r;
  front = gave_none start;
  some = omega arith;
  unended = λ h. absurd (omega arith);
  failures = refl;
  calls = omega arith;
}

module _ (start a b : Reader) (old : Checking) (count : ℕ) (r : ReadsSoFar start a old count) (once : b.calls ≡ a.calls + 1) where
  pub reads_next : (new : Checking) (bytes : List ℕ) → GivesChunk a b bytes → HasReadText new (r.given ++ bytes) → ReadsSoFar start b new (count + 1)
  reads_next new bytes g h = record {
    given = r.given ++ bytes;
    read = h;
    front = gave_then start a b r.given bytes r.front g.front;
    some = let l = length-append r.given bytes in let s = g.some in let k = r.some in omega arith;
    unended = λ h. g.unended;
    failures = g.failures ∙ r.failures;
    calls = let k = r.calls in omega arith;
  }

  few_so_far : (bytes : List ℕ) → b.calls ≤ start.calls + length (r.given ++ bytes) + 1
  few_so_far bytes = let l = length-append r.given bytes in let k = r.some in let c = r.calls in omega arith

  pub verdict_enough : (v : HintVerdict) → GivesVerdict a b old v → GaveEnough start b (VerdictHolds v)
  verdict_enough v g = record {
    text = r.given ++ g.bytes;
    front = gave_then start a b r.given g.bytes r.front g.front;
    over = λ called. g.over;
    few = few_front start b (r.given ++ g.bytes) (gave_then start a b r.given g.bytes r.front g.front) (few_so_far g.bytes);
    holds = λ rest none. g.holds r.given r.read rest (none (let c = r.calls in omega arith));
  }

  -- no read failed before a verdict
  pub unfailed : (v : HintVerdict) → GivesVerdict a b old v → b.failures ≡ start.failures
  unfailed v g = g.failures ∙ r.failures

  -- a read failed
  pub failed_enough : FailsToGive a b → GaveEnough start b (λ text. Unit {0})
  failed_enough f = enough_front start b _ (r.given ++ []) (gave_then start a b r.given [] r.front f.front) f.unended (few_so_far []) (λ rest. tt)

  -- after a read that failed, the fault is that of the text read before
  pub failed_stops : FailsToGive a b → GaveTextBeforeFault start b Read
  failed_stops f = record {
    text = r.given;
    front = subst (GavePrefix start b) (append-nil r.given) (gave_then start a b r.given [] r.front f.front);
    unended = λ called. still_open b _ f.unended;
    holds = read_stops old r.given r.read;
  }

  pub failed_read : FailsToGive a b → ReadFails start b
  failed_read f = (
    inl (f.fails.0 ∙ ap (λ n. n + 1) r.failures, f.fails.1),
    few_front start b (r.given ++ []) (gave_then start a b r.given [] r.front f.front) (few_so_far []),
  )

  -- memory ran out
  module _ (bytes : List ℕ) (g : GivesChunk a b bytes) where
    pub starved_enough : GaveEnough start b (λ text. Unit {0})
    starved_enough = enough_front start b _ (r.given ++ bytes) (gave_then start a b r.given bytes r.front g.front) g.unended (few_so_far bytes) (λ rest. tt)

    pub starved_stops : length bytes ≤ max_read_size → CanRunOutOfMemory old bytes → GaveTextBeforeFault start b OutOfMemory
    starved_stops few stops = record {
      text = r.given ++ bytes;
      front = gave_then start a b r.given bytes r.front g.front;
      unended = λ called. still_open b _ g.unended;
      holds = go (stops r.given r.read);
    }
      where
        go : StopsWithinLine (r.given ++ bytes) ⊎ StopsAtLine (length bytes) (r.given ++ bytes) → StopsWithinLine (r.given ++ bytes) ⊎ StopsAtLine max_read_size (r.given ++ bytes)
        go (inl s) = inl s
        go (inr s) = inr (stops_below (length bytes) max_read_size (r.given ++ bytes) few s)

    pub starved_some : length start.given < length b.given
    starved_some = some_given start b r.given bytes (gave_then start a b r.given bytes r.front g.front) g.some

  -- one of both
  pub err_enough : (new : Checking) (f : HintFault) → ChecksNextChunk (Err f) a b old new → GaveEnough start b (VerdictIsCorrect (Err f))
  err_enough new Read h = failed_enough h
  err_enough new OutOfMemory (bytes, g, few, stops) = starved_enough bytes g

  -- after a fault, the text read before is as the fault says
  pub err_stops : (new : Checking) (f : HintFault) → ChecksNextChunk (Err f) a b old new → GaveTextBeforeFault start b f
  err_stops new Read h = failed_stops h
  err_stops new OutOfMemory (bytes, g, few, stops) = starved_stops bytes g few stops

  -- a fault is a failed read, or no read failed
  pub err_kept : (new : Checking) (f : HintFault) → ChecksNextChunk (Err f) a b old new → (f ≡ Read) ⊎ (b.failures ≡ start.failures)
  err_kept new Read h = inl refl
  err_kept new OutOfMemory (bytes, g, few, stops) = inr (g.failures ∙ r.failures)

  -- the fault `Read` means that the read failed
  pub err_read : (new : Checking) (f : HintFault) → ChecksNextChunk (Err f) a b old new → f ≡ Read → ReadFails start b
  err_read new Read h e = failed_read h
  err_read new OutOfMemory h e = absurd cc

  -- memory runs out only after a byte has been read
  pub err_some : (new : Checking) (f : HintFault) → ChecksNextChunk (Err f) a b old new → f ≡ OutOfMemory → length start.given < length b.given
  err_some new Read h e = absurd cc
  err_some new OutOfMemory (bytes, g, few, stops) e = starved_some bytes g

  -- the check continues
  pub goes_on : (new : Checking) → ChecksNextChunk (Ok None) a b old new → GoesOn start b new (count + 1)
  goes_on new (bytes, g, k) = record { ready = k.0; room = k.1; reads = reads_next new bytes g (k.2 r.given r.read) }

-- the limit of reads was reached
pub limit_enough : (start now : Reader) (c : Checking) (count : ℕ) → ReadsSoFar start now c count → 0 < count → GaveEnough start now (λ text. Unit {0})
limit_enough start now c count r some = let k = r.some in let l = r.calls in enough_front start now _ r.given r.front (r.unended some) (omega arith) (λ rest. tt)

-- if the largest number of reads was made, the text read before is as the fault `Read` says
pub limit_stops : (start now : Reader) (c : Checking) (count : ℕ) → ReadsSoFar start now c count → 0 < count → GaveTextBeforeFault start now Read
limit_stops start now c count r some = record {
  text = r.given;
  front = r.front;
  unended = λ called. still_open now _ (r.unended some);
  holds = read_stops c r.given r.read;
}

-- the largest number of reads counts as a failed read
pub limit_read : (start now : Reader) (c : Checking) (count : ℕ) → ReadsSoFar start now c count → count ≡ max_reads → ReadFails start now
limit_read start now c count r e = (inr (r.failures, r.calls ∙ ap (λ n. start.calls + n) e), few_front start now r.given r.front (let k = r.some in let l = r.calls in omega arith))
