-- Scripts that are read command by command.
use Rattle.std.proofs.Common.{◌≡◌, ℕ, ◌+◌, ◌-◌, ◌*◌, ◌<◌, ◌≤◌, Bool, true, false, List, [], ◌∷◌, ◌++◌, length, length-append, take, drop, Some, None, Ok, Err, refl, sym, ap, subst, ◌∙◌, arith}
use Rattle.std.proofs.lemmas.List.{length-take, length-take-le, take-append-drop}
use Rattle.sat_base.specs.device.Device.{Reader, max_reads}
use Rattle.sat_base.specs.device.Reading.{Source, AtEnd, ConsumesBytes, ConsumesToEnd}
use Rattle.sat_base.specs.script.Script.{Malformed}
use Rattle.sat_base.specs.script.Language.{Reading}
use Rattle.sat_base.specs.text.Chunks.{LeadsByBytes}
use Rattle.sat_base.specs.declared.device.whole.ReadError.{ReadError}
use Rattle.sat_base.specs.declared.device.whole.ReadError.TheVariants as errors
use Rattle.sat_base.proofs.lemmas.device.ReadLemmas.{gave_some, gave_nothing, passes_more}
use Rattle.certify.specs.confirm.Streams.{rest_in}
use Rattle.certify.specs.script.LastChunk.{ConsumesText}
use Rattle.certify.specs.script.LastPiece.{RefillsAhead, ConsumesSome, source_in, waiting_bytes}
use Rattle.certify.specs.script.Commands.{EndsScript, EndsWhateverFollows, ReaderMeansIf, ReceivesBytes, end_reading_if}
use Rattle.certify.specs.script.Streaming.{ReachesNext, ReadsTowardsNext, NextCommandResult, FinishesText, ConsumesWaiting}
use Rattle.certify.specs.declared.script.ahead.LastPiece.{LastPiece}
use Rattle.certify.specs.declared.script.Reached.{Reached}
use Rattle.certify.specs.declared.script.Reached.TheVariants as reached
use Rattle.certify.specs.declared.script.ScriptEnd.{ScriptEnd}
use Rattle.certify.specs.declared.script.reader.ScriptReader.{ScriptReader}
use Rattle.certify.specs.declared.script.stream.CommandStream.{CommandStream}
use Rattle.certify.specs.declared.script.stream.Next.{Next}
use Rattle.certify.specs.declared.script.stream.Next.TheVariants as next
use Rattle.certify.proofs.lemmas.confirm.Streams.{all_over, nothing_after, stays_open, taken_front}
use Rattle.certify.proofs.lemmas.confirm.Joining.{covers_took, failed_then, took_halted, took_none, took_then}
use Rattle.certify.proofs.lemmas.script.LastPieces.{passes_front}
use Rattle.certify.proofs.lemmas.script.Bytes.{followed, goes_nowhere}

-- WAITING BYTES

pub take_parts : (r : Reached) (old new : ScriptReader) (xs w v : List ℕ) (n : ℕ) → xs ≡ w → n ≤ length xs → (0 < length xs → 0 < n) → v ≡ drop n w → ReceivesBytes r old (take n xs) new → ConsumesText r old (take n xs) new
    → (text : List ℕ) × (w ≡ text ++ v) × (0 < length w → 0 < length text) × ReceivesBytes r old text new × ConsumesText r old text new
take_parts r old new xs w v n e low some d t u =
    let l = length-take-le n xs low in
    let same : length xs ≡ length w = ap length e in
    (take n xs, sym (take-append-drop n w) ∙ ap (λ (z : List ℕ). take n z ++ drop n w) (sym e) ∙ ap (λ (z : List ℕ). take n xs ++ z) (sym d), (λ h. let k = some (omega arith) in omega arith), t, u)

came : {R : Type 0} (seen : R → Reader) (r : R) (reached_so : Reached) (old new : CommandStream) → 0 < length (waiting_bytes old.ahead) → ConsumesWaiting {E = ReadError} (Ok reached_so) old new
    → (text : List ℕ) × ConsumesBytes (source_in seen r old.ahead) (source_in seen r new.ahead) text × (0 < length text) × ReceivesBytes reached_so old.reader text new.reader
came seen r reached_so old new some t = (t.0, passes_front (seen r) old.ahead.reads new.ahead.reads (waiting_bytes old.ahead) (waiting_bytes new.ahead) t.0 t.1 t.2, t.3 some, t.4)

module _ {R : Type 0} (seen : R → Reader) (r : R) (old new : CommandStream) (some : 0 < length (waiting_bytes old.ahead)) where
  pub brings_more : ConsumesWaiting {E = ReadError} (Ok reached.More) old new → ReadsTowardsNext (Ok None) (source_in seen r old.ahead) (source_in seen r new.ahead) old.reader new.reader
  brings_more t = let h = came seen r reached.More old new some t in (h.0, h.1, h.3)

  pub brings_command : ConsumesWaiting {E = ReadError} (Ok reached.Command) old new → ReadsTowardsNext (Ok (Some next.Command)) (source_in seen r old.ahead) (source_in seen r new.ahead) old.reader new.reader
  brings_command t = came seen r reached.Command old new some t

  module _ (e : ScriptEnd) (malformed : (asks : Bool) → end_reading_if asks e ≡ ([], Malformed)) where
    pub brings_malformed : (AtEnd (source_in seen r old.ahead) → ⊥) → ConsumesWaiting {E = ReadError} (Ok reached.Malformed) old new → ReadsTowardsNext (Ok (Some (next.End e))) (source_in seen r old.ahead) (source_in seen r new.ahead) old.reader new.reader
    brings_malformed open_yet t =
        let h = came seen r reached.Malformed old new some t in (
          took_halted (source_in seen r old.ahead) (source_in seen r new.ahead) open_yet (h.0, h.1),
          λ asks before m total c.
              ap before (taken_front 0 (source_in seen r old.ahead) (source_in seen r new.ahead) h.0 total h.1 c) ∙ h.3 asks before m (rest_in total (source_in seen r new.ahead)) ∙ sym (malformed asks),
        )

-- memory ran out before waiting bytes were consumed
pub brings_none : {R : Type 0} (seen : R → Reader) (r : R) (old new : CommandStream) (e : ReadError) → e ≡ errors.OutOfMemory → new.ahead ≡ old.ahead → ReadsTowardsNext (Err e) (source_in seen r old.ahead) (source_in seen r new.ahead) old.reader new.reader
brings_none seen r old new e starved same =
    subst (λ (x : ReadError). ReadsTowardsNext (Err x) (source_in seen r old.ahead) (source_in seen r new.ahead) old.reader new.reader) (sym starved)
    (subst (λ (a : LastPiece). ConsumesSome true (source_in seen r old.ahead) (source_in seen r a)) (sym same) (took_none (source_in seen r old.ahead)))

-- consuming a byte leaves fewer calls that can consume bytes
pub taken_fewer : (old new : LastPiece) (text : List ℕ) → waiting_bytes old ≡ text ++ waiting_bytes new → new.reads ≡ old.reads → 0 < length text → 4097 * (max_reads - new.reads) + length (waiting_bytes new) < 4097 * (max_reads - old.reads) + length (waiting_bytes old)
taken_fewer old new text e same some =
    let l : length (waiting_bytes old) ≡ length text + length (waiting_bytes new) = ap length e ∙ length-append text (waiting_bytes new) in
    let m : max_reads - new.reads ≡ max_reads - old.reads = ap (λ (n : ℕ). max_reads - n) same in
    omega arith

-- a read leaves fewer calls that can consume bytes
pub refilled_fewer : (old new : LastPiece) → waiting_bytes old ≡ [] → new.reads ≡ old.reads + 1 → 4097 * (max_reads - new.reads) + length (waiting_bytes new) < 4097 * (max_reads - old.reads) + length (waiting_bytes old)
refilled_fewer old new none more =
    let l = length-take (new.end - new.at) (drop new.at new.piece) in
    let z : length (waiting_bytes old) ≡ 0 = ap length none in
    let w = new.within in
    let b = new.bounded in
    omega arith

-- ANOTHER CHUNK

pub refill_goes : (n : ℕ) (a b : Source) (reader : ScriptReader) → (n ≡ 0 → ⊥) → RefillsAhead (Ok n) a b → ReadsTowardsNext (Ok None) a b reader reader
refill_goes n a b reader some h = ([], gave_some n a b some h.0, goes_nowhere reader)

pub refill_ends : (n : ℕ) (answer : Next) (a b : Source) (old new : ScriptReader) → n ≡ 0 → RefillsAhead (Ok n) a b → FinishesText answer old new → ReadsTowardsNext (Ok (Some answer)) a b old new
refill_ends n next.Command a b old new none h f = absurd f
refill_ends n (next.Last e) a b old new none h f = ([], (gave_nothing n a b none h.0, h.1 none), f)
refill_ends n (next.End e) a b old new none h f =
    let ends : ConsumesToEnd a b [] = (gave_nothing n a b none h.0, h.1 none) in
    ((([], ends.0), λ x. all_over b ends.1), λ asks before m total c. ap before (nothing_after a b [] total ends c) ∙ f asks before m)

-- THE REST OF THE TEXT IS IGNORED
pub brings_over : (a : Source) (reader : ScriptReader) (e : ScriptEnd) → (AtEnd a → ⊥) → EndsWhateverFollows reader e → ReadsTowardsNext (Ok (Some (next.End e))) a a reader reader
brings_over a reader e open_yet ends = (took_halted a a open_yet (took_none a), λ asks before m total c. ends asks before m (rest_in total a))

-- ONE AFTER ANOTHER

module _ (a b c : Source) (old mid new : ScriptReader) (text : List ℕ) (open_yet : AtEnd a → ⊥) (p : ConsumesBytes a b text) (f : (asks : Bool) → LeadsByBytes (ReaderMeansIf asks) old text mid) where
  pub brings_then : (e : ReadError) → ReadsTowardsNext (Err e) b c mid new → NextCommandResult (Err e) a c old new
  brings_then errors.Failed h = failed_then a b c (text, p) h
  brings_then errors.OutOfMemory h = took_then true a b c (text, p) h

  pub follows_more : ReadsTowardsNext (Ok None) b c mid new → (whole : List ℕ) × ConsumesBytes a c whole × ((asks : Bool) → LeadsByBytes (ReaderMeansIf asks) old whole new)
  follows_more h = (text ++ h.0, passes_more a b c text h.0 p h.1, followed reached.More old mid new text h.0 f h.2)

  pub arrives_then : (n : Next) → ReachesNext n b c mid new → ReachesNext n a c old new
  arrives_then next.Command h = let l = length-append text h.0 in (text ++ h.0, passes_more a b c text h.0 p h.1, (let k = h.2 in omega arith), followed reached.Command old mid new text h.0 f h.3)
  arrives_then (next.Last e) h = (text ++ h.0, (passes_more a b c text h.0 p h.1.0, h.1.1), λ asks before m. let k = f asks before m in subst (λ (r : Reading). EndsScript asks true e new r) (sym (k.2 h.0)) (h.2 asks k.0 k.1))
  arrives_then (next.End e) h = (
    took_then false a b c (text, p) h.0,
    λ asks before m total k.
        let g = f asks before m in
        ap before (taken_front 0 a b text total p (covers_took false b c total (stays_open a b text open_yet p) h.0 k)) ∙ g.2 (rest_in total b) ∙ h.1 asks g.0 g.1 total k,
  )

pub some_bytes : (xs : List ℕ) → (xs ≡ [] → ⊥) → 0 < length xs
some_bytes [] u = absurd (u refl)
some_bytes (x ∷ xs) u = omega arith
