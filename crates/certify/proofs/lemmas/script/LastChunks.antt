-- What a reader of scripts has consumed, and that no chunk is read once the script is decided.
use Rattle.std.proofs.Common.{◌≡◌, ℕ, zero, suc, ◌+◌, ◌-◌, ◌≤◌, ◌<◌, List, [], ◌∷◌, ◌++◌, length, take, drop, Bool, false, Option, Some, None, Result, Ok, Err, refl, sym, ap, subst, ◌∙◌, append_assoc, arith, inl, inr}
use Rattle.std.proofs.lemmas.List.{append-nil, append_cancel_left, length-take}
use Rattle.std.specs.Io.KnownBytes.{Consumes, prepend_known}
use Rattle.sat_base.specs.declared.device.whole.ReadError.{ReadError}
use Rattle.sat_base.specs.declared.device.whole.ReadError.TheVariants as errors
use Rattle.sat_base.specs.declared.text.Token.{Token as CodeToken}
use Rattle.sat_base.specs.declared.text.Tokenizer.{Tokenizer}
use Rattle.sat_base.specs.device.Device.{Reader, GavePrefix, max_read_size}
use Rattle.sat_base.specs.device.Reading.{Source, to_come}
use Rattle.sat_base.specs.dimacs.Parsing.{LastReadGaveBytes}
use Rattle.sat_base.specs.script.Language.{Reading, PartialCommand, NoCommand, commands_of, without_lines}
use Rattle.sat_base.specs.text.Chunks.{IgnoresRest}
use Rattle.sat_base.specs.text.Position.{prepend_tokens}
use Rattle.sat_base.specs.text.Text.{Token, Scan, HasEnded, scan, lines, tokens_of}
use Rattle.sat_base.specs.text.Tokenizing.{capped, capped_token, HasRemainingScan, ReceivesPrefix}
use Rattle.sat_base.specs.text.WrongWords.{HaveNoWrongWord, HasValidContinuation}
use Rattle.sat_base.proofs.lemmas.device.Known.{consumes_more, consumes_none}
use Rattle.sat_base.proofs.lemmas.dimacs.ReadToEnd.{none_has_ended}
use Rattle.certify.specs.script.Commands.{HoldsPartialCommand, ReceivesToken, RestMatters}
use Rattle.certify.specs.script.Decided.{IsMalformedSoFar, IsDecided, IsDecidedInLastPiece, MakesNoReadOnceDecided}
use Rattle.certify.specs.script.LastChunk.{HasConsumed, HasConsumedValid, ConsumesText, AccountsFor, AccountsForBytes, AccountsForValidBytes, AccountsUpTo, AccountsTowards, EndsAtLine, KeepsAccount}
use Rattle.certify.specs.script.LastPiece.{RefillsAhead, source_in, waiting_bytes}
use Rattle.certify.specs.script.Streaming.{ConsumesWaiting, FinishesText}
use Rattle.certify.specs.declared.script.ahead.LastPiece.{LastPiece}
use Rattle.certify.specs.declared.script.Reached.{Reached}
use Rattle.certify.specs.declared.script.Reached.TheVariants as reached
use Rattle.certify.specs.declared.script.commands.Commands.{Commands}
use Rattle.certify.specs.declared.script.reader.ScriptReader.{ScriptReader}
use Rattle.certify.specs.declared.script.stream.CommandStream.{CommandStream}
use Rattle.certify.specs.declared.script.stream.Next.{Next}
use Rattle.certify.specs.declared.script.stream.Next.TheVariants as next
use Rattle.certify.proofs.lemmas.script.Bytes.{front_and, reader}
use Rattle.certify.proofs.lemmas.script.Decided.{MeansHand, decided_after, decided_none, valid_so_far, without_append}

-- CONSUMED TEXTS

none_right : HaveNoWrongWord (scan []).tokens
unfolding scan lines tokens_of
none_right = tt

-- nothing was consumed at the start of a script
pub consumed_first : (tokenizer : Tokenizer) (commands : Commands) → HasRemainingScan tokenizer scan → HoldsPartialCommand commands.draft NoCommand → HasConsumedValid (reader tokenizer commands) []
consumed_first tokenizer commands s n = record { consumed = record { before = []; left_of = scan; valid = s; scans = λ rest. refl }; hand = NoCommand; holds = n; means = λ ts. refl; right = ([], none_right) }

-- a tokenizer received bytes that complete no token
consumed_part : (old : ScriptReader) (bytes : List ℕ) (next : Tokenizer) (new : Commands) → ReceivesPrefix old.tokenizer bytes None next → (text : List ℕ) → HasConsumed old text → HasConsumed (reader next new) (text ++ bytes)
consumed_part old bytes next new r text h =
    let k = r h.left_of h.valid in
    record { before = h.before; left_of = k.0; valid = k.1; scans = λ rest. ap scan (append_assoc text bytes rest) ∙ h.scans (bytes ++ rest) ∙ ap (prepend_tokens h.before) (k.2 rest) }

-- it received bytes that complete the token `t`
consumed_token : (old : ScriptReader) (bytes : List ℕ) (t : CodeToken) (next : Tokenizer) (new : Commands) → ReceivesPrefix old.tokenizer bytes (Some t) next → (text : List ℕ) → HasConsumed old text → HasConsumed (reader next new) (text ++ bytes)
consumed_token old bytes t next new r text h =
    let k = r h.left_of h.valid in
    let one : List (ℕ × Token) = ((k.0 []).last, k.2.0) ∷ [] in
    record {
      before = h.before ++ one;
      left_of = k.0;
      valid = k.1;
      scans = λ rest.
          ap scan (append_assoc text bytes rest) ∙ h.scans (bytes ++ rest) ∙ ap (prepend_tokens h.before) (k.2.2 rest)
          ∙ ap (λ (ts : List (ℕ × Token)). record { tokens = ts; last = (k.0 rest).last }) (sym (append_assoc h.before one (k.0 rest).tokens));
    }

-- the unfinished word is wrong
pub consumes_wrong : (old : ScriptReader) (bytes : List ℕ) (next : Tokenizer) (new : Commands) → ReceivesPrefix old.tokenizer bytes None next → ConsumesText reached.Malformed old bytes (reader next new)
consumes_wrong old bytes next new r text h = consumed_part old bytes next new r text h.consumed

-- the unfinished word can continue
pub consumes_part : (old : ScriptReader) (bytes : List ℕ) (next : Tokenizer) → ReceivesPrefix old.tokenizer bytes None next → ((after : List ℕ → Scan) → HasRemainingScan next after → HasValidContinuation after)
    → ConsumesText reached.More old bytes (reader next old.commands)
consumes_part old bytes next r right text h =
    let c = h.consumed in
    let k = r c.left_of c.valid in
    record {
      consumed = record { before = c.before; left_of = k.0; valid = k.1; scans = λ rest. ap scan (append_assoc text bytes rest) ∙ c.scans (bytes ++ rest) ∙ ap (prepend_tokens c.before) (k.2 rest) };
      hand = h.hand;
      holds = h.holds;
      means = h.means;
      right = right k.0 k.1;
    }

-- what a token makes of the tokens before it
means_on : (before : List (ℕ × Token)) (line : ℕ) (given : Token) (hand next : PartialCommand) → MeansHand before hand → ((ts : List Token) → (commands_of hand (given ∷ ts)).1 ≡ (commands_of next ts).1) → MeansHand (before ++ (line, given) ∷ []) next
means_on before line given hand next m n ts =
    ap (λ (z : List Token). (commands_of NoCommand (z ++ ts)).1) (without_append before ((line, given) ∷ []))
    ∙ ap (λ (z : List Token). (commands_of NoCommand z).1) (append_assoc (without_lines before) (given ∷ []) ts) ∙ m (given ∷ ts) ∙ n ts

-- a token was completed and taken
pub consumes_token : (q : Reached) (old : ScriptReader) (bytes : List ℕ) (t : CodeToken) (next : Tokenizer) (new : Commands) → ReceivesPrefix old.tokenizer bytes (Some t) next
    → ((after : List ℕ → Scan) → HasRemainingScan next after → HasValidContinuation after) → ((given : Token) → t ≡ capped_token given → ReceivesToken q old.commands given new) → ConsumesText q old bytes (reader next new)
consumes_token reached.More old bytes t next new r right takes = λ text h.
    let c = h.consumed in
    let k = r c.left_of c.valid in
    let n = takes k.2.0 k.2.1 h.hand h.holds in
    let one : List (ℕ × Token) = ((k.0 []).last, k.2.0) ∷ [] in
    record {
      consumed = record {
        before = c.before ++ one;
        left_of = k.0;
        valid = k.1;
        scans = λ rest.
            ap scan (append_assoc text bytes rest) ∙ c.scans (bytes ++ rest) ∙ ap (prepend_tokens c.before) (k.2.2 rest)
            ∙ ap (λ (ts : List (ℕ × Token)). record { tokens = ts; last = (k.0 rest).last }) (sym (append_assoc c.before one (k.0 rest).tokens));
      };
      hand = n.0;
      holds = n.1;
      means = means_on c.before (k.0 []).last k.2.0 h.hand n.0 h.means (λ ts. ap (λ (x : Reading). x.1) (n.2 false ts));
      right = right k.0 k.1;
    }
consumes_token reached.Command old bytes t next new r right takes = λ text h.
    let c = h.consumed in
    let k = r c.left_of c.valid in
    let n = takes k.2.0 k.2.1 h.hand h.holds in
    let one : List (ℕ × Token) = ((k.0 []).last, k.2.0) ∷ [] in
    record {
      consumed = record {
        before = c.before ++ one;
        left_of = k.0;
        valid = k.1;
        scans = λ rest.
            ap scan (append_assoc text bytes rest) ∙ c.scans (bytes ++ rest) ∙ ap (prepend_tokens c.before) (k.2.2 rest)
            ∙ ap (λ (ts : List (ℕ × Token)). record { tokens = ts; last = (k.0 rest).last }) (sym (append_assoc c.before one (k.0 rest).tokens));
      };
      hand = NoCommand;
      holds = n.2;
      means = means_on c.before (k.0 []).last k.2.0 h.hand NoCommand h.means (λ ts. ap (λ (x : Reading). x.1) (n.3 false ts));
      right = right k.0 k.1;
    }
consumes_token reached.Malformed old bytes t next new r right takes = λ text h. consumed_token old bytes t next new r text h.consumed

pub consumes_nothing : (a : ScriptReader) → ConsumesText reached.More a [] a
consumes_nothing a text h = subst (HasConsumedValid a) (sym (append-nil text)) h

pub consumes_then : (q : Reached) (a b c : ScriptReader) (xs ys : List ℕ) → ConsumesText reached.More a xs b → ConsumesText q b ys c → ConsumesText q a (xs ++ ys) c
consumes_then reached.More a b c xs ys f g = λ text h. subst (HasConsumedValid c) (append_assoc text xs ys) (g (text ++ xs) (f text h))
consumes_then reached.Command a b c xs ys f g = λ text h. subst (HasConsumedValid c) (append_assoc text xs ys) (g (text ++ xs) (f text h))
consumes_then reached.Malformed a b c xs ys f g = λ text h. subst (HasConsumed c) (append_assoc text xs ys) (g (text ++ xs) (f text h))

-- a prefix, and then some of the bytes after it
pub consumes_front : (q : Reached) (a b c : ScriptReader) (xs : List ℕ) (n k : ℕ) → n ≤ length xs → k ≤ length (take (length xs - n) (drop n xs)) → ConsumesText reached.More a (take n xs) b
    → ConsumesText q b (take k (take (length xs - n) (drop n xs))) c → ConsumesText q a (take (n + k) xs) c
consumes_front q a b c xs n k h i f g =
    subst (λ (bs : List ℕ). ConsumesText q a bs c) (sym (front_and n k xs h i)) (consumes_then q a b c (take n xs) (take k (take (length xs - n) (drop n xs))) f g)

-- THE END OF THE TEXT

same_rest : (before : List (ℕ × Token)) (s t : Scan) → prepend_tokens before s ≡ prepend_tokens before t → s ≡ t
same_rest before s t e =
    let tokens : s.tokens ≡ t.tokens = append_cancel_left before s.tokens t.tokens (ap (λ (k : Scan). k.tokens) e) in
    let last : s.last ≡ t.last = ap (λ (k : Scan). k.last) e in
    same s.tokens t.tokens s.last t.last tokens last
  where
    same : (a b : List (ℕ × Token)) (m n : ℕ) → a ≡ b → m ≡ n → ◌≡◌ {A = Scan} (record { tokens = a; last = m }) (record { tokens = b; last = n })
    same a b m n f g = rw (f, g) refl

-- as long as the bytes that follow matter, the consumed text has not ended
consumed_open : (r : ScriptReader) (text : List ℕ) → HasConsumed r text → RestMatters r → HasEnded text → ⊥
consumed_open r text h matters ended = matters h.left_of h.valid ignores
  where
    ignores : IgnoresRest h.left_of
    ignores rest = same_rest h.before (h.left_of rest) (h.left_of []) (sym (h.scans rest) ∙ ended rest ∙ ap scan (sym (append-nil text)) ∙ h.scans [])

not_malformed : (r : ScriptReader) (text : List ℕ) → HasConsumedValid r text → IsMalformedSoFar text → ⊥
not_malformed r text h bad =
    let c = h.consumed in
    valid_so_far r.tokenizer text c.before c.left_of h.hand c.valid (λ rest. ap (λ (s : Scan). s.tokens) (c.scans rest)) h.means h.right bad

-- as long as the script is valid and the bytes that follow matter, it is not decided
undecided : (r : ScriptReader) (text : List ℕ) → HasConsumedValid r text → RestMatters r → IsDecided text → ⊥
undecided r text h matters (inl ended) = consumed_open r text h.consumed matters ended
undecided r text h matters (inr bad) = not_malformed r text h bad

-- CHUNKS

known_fresh : (a b : Option (List ℕ)) (ws vs fresh : List ℕ) → ws ≡ [] → fresh ≡ vs → Consumes (prepend_known ws a) (prepend_known vs b) [] → Consumes a b fresh
known_fresh None b ws vs fresh z e h = tt
known_fresh (Some x) None ws vs fresh z e h = absurd h
known_fresh (Some x) (Some y) ws vs fresh z e h = ap (λ (k : List ℕ). k ++ x) (sym z) ∙ h ∙ ap (λ (k : List ℕ). k ++ y) (sym e)

-- the reader gave more bytes
gave_on : (start : Reader) (a b : Source) (text fresh : List ℕ) → a.waiting ≡ [] → fresh ≡ b.waiting → b.reader.given ≡ a.reader.given ++ fresh → b.reader.loans ≡ a.reader.loans
    → Consumes (to_come a) (to_come b) [] → GavePrefix start a.reader (text ++ a.waiting) → GavePrefix start b.reader (text ++ b.waiting)
gave_on start a b text fresh none all gave loans known g =
    let whole : (text ++ a.waiting) ++ fresh ≡ text ++ b.waiting = ap (λ (z : List ℕ). (text ++ z) ++ fresh) none ∙ ap (λ (z : List ℕ). z ++ fresh) (append-nil text) ∙ ap (λ (z : List ℕ). text ++ z) all in
    record {
      gave = gave ∙ ap (λ (z : List ℕ). z ++ fresh) g.gave ∙ append_assoc start.given (text ++ a.waiting) fresh ∙ ap (λ (z : List ℕ). start.given ++ z) whole;
      known_bytes = subst (Consumes start.to_come b.reader.to_come) whole
          (consumes_more start.to_come a.reader.to_come b.reader.to_come (text ++ a.waiting) fresh g.known_bytes (known_fresh a.reader.to_come b.reader.to_come a.waiting b.waiting fresh none all known));
      loans = loans ∙ g.loans;
    }

-- a script that isn't malformed so far
pub valid_account : (start : Reader) (s : Source) (r : ScriptReader) → AccountsForValidBytes start s r → AccountsForBytes start s r
valid_account start s r h = record { text = h.text; consumed = h.consumed.consumed; front = h.front; last = h.last; gave = h.gave }

-- a reader that reads on has given no chunk too many
pub stops_on : (start : Reader) (s : Source) (r : ScriptReader) → AccountsForBytes start s r → MakesNoReadOnceDecided start s.reader
stops_on start s r h = (h.text ++ s.waiting, h.front, h.last, h.gave)

pub stops_valid : (start : Reader) (s : Source) (r : ScriptReader) → AccountsForValidBytes start s r → MakesNoReadOnceDecided start s.reader
stops_valid start s r h = stops_on start s r (valid_account start s r h)

-- bytes that were waiting are consumed
reads_waiting : (Consumed : ScriptReader → List ℕ → Type 0) (start r : Reader) (n m : ℕ) (ws vs text : List ℕ) (old new : ScriptReader) → ws ≡ text ++ vs
    → ((front : List ℕ) → HasConsumedValid old front → Consumed new (front ++ text))
    → AccountsForValidBytes start (record { reader = r; waiting = ws; reads = n; names = [] }) old → AccountsFor Consumed start (record { reader = r; waiting = vs; reads = m; names = [] }) new
reads_waiting Consumed start r n m ws vs text old new e f h =
    let whole : h.text ++ ws ≡ (h.text ++ text) ++ vs = ap (λ (z : List ℕ). h.text ++ z) e ∙ sym (append_assoc h.text text vs) in
    record {
      text = h.text ++ text;
      consumed = f h.text h.consumed;
      front = subst (GavePrefix start r) whole h.front;
      last = subst IsDecidedInLastPiece whole h.last;
      gave = subst (λ (z : List ℕ). IsDecided z → LastReadGaveBytes start r) whole h.gave;
    }

-- the last read gave bytes if the text is decided by them
chunk_last : (start : Reader) (n : ℕ) (a b : Source) (text : List ℕ) → b.reads ≡ a.reads + 1 → RefillsAhead (Ok n) a b → (0 < n → LastReadGaveBytes a.reader b.reader) → (IsDecided text → ⊥) → IsDecided (text ++ b.waiting) → LastReadGaveBytes start b.reader
chunk_last start zero a b text once f last going ended = absurd (going (subst IsDecided (ap (λ (z : List ℕ). text ++ z) (f.1 refl).waiting ∙ append-nil text) ended))
chunk_last start (suc n) a b text once f last going ended = λ called. let k = f.0.calls in last (omega arith) (omega arith)

-- another chunk is read
pub reads_chunk : (start : Reader) (n : ℕ) (a b : Source) (r : ScriptReader) → a.waiting ≡ [] → b.reads ≡ a.reads + 1 → RestMatters r → (0 < n → LastReadGaveBytes a.reader b.reader) → RefillsAhead (Ok n) a b → AccountsForValidBytes start a r
    → AccountsForValidBytes start b r
reads_chunk start n a b r none once matters last f h =
    let k = f.0 in
    let all : k.fresh ≡ b.waiting = ap (λ (z : List ℕ). z ++ k.fresh) (sym none) ∙ k.flows in
    let long : length k.fresh ≡ length b.waiting = ap length all in
    let room = k.room in
    record {
      text = h.text;
      consumed = h.consumed;
      front = gave_on start a b h.text k.fresh none all k.gave k.loans k.bytes h.front;
      last = decided_after h.text b.waiting (undecided r h.text h.consumed matters) (omega arith);
      gave = chunk_last start n a b h.text once f last (undecided r h.text h.consumed matters);
    }

-- a read that failed gave nothing
pub reads_none : (start : Reader) (e : ReadError) (a b : Source) (r : ScriptReader) → a.waiting ≡ [] → RestMatters r → RefillsAhead (Err e) a b → AccountsForValidBytes start a r → MakesNoReadOnceDecided start b.reader
reads_none start errors.Failed a b r none matters f h =
    let all : f.fresh ≡ b.waiting = ap (λ (z : List ℕ). z ++ f.fresh) (sym none) ∙ f.flows ∙ sym f.none in
    let same : h.text ++ a.waiting ≡ h.text ++ b.waiting = ap (λ (z : List ℕ). h.text ++ z) (none ∙ sym f.none) in (
      h.text ++ b.waiting,
      gave_on start a b h.text f.fresh none all f.gave f.loans f.bytes h.front,
      subst IsDecidedInLastPiece same h.last,
      λ decided. absurd (undecided r h.text h.consumed matters (subst IsDecided (ap (λ (z : List ℕ). h.text ++ z) f.none ∙ append-nil h.text) decided)),
    )
reads_none start errors.OutOfMemory a b r none matters f h = absurd f

-- RESULTS

-- whatever is returned, all bytes are accounted for
pub keeps_any : {T E : Type 0} (r : Result T E) (a b : Source) (old new : ScriptReader) → ((start : Reader) → AccountsForValidBytes start a old → AccountsForBytes start b new) → KeepsAccount (λ k. AccountsForBytes) r a b old new
keeps_any (Ok x) a b old new f = f
keeps_any (Err e) a b old new f = λ start h. stops_on start b new (f start h)

-- whatever is returned, no read was made once the script was decided
pub keeps_stops : {T E : Type 0} (r : Result T E) (a b : Source) (old new : ScriptReader) (start : Reader) → KeepsAccount (λ k. AccountsForBytes) r a b old new → AccountsForValidBytes start a old → MakesNoReadOnceDecided start b.reader
keeps_stops (Ok x) a b old new start f h = stops_on start b new (f start h)
keeps_stops (Err e) a b old new start f h = f start h

-- at the end of the text, the tokenizer is left as it is
finishes_account : (start : Reader) (s : Source) (old new : ScriptReader) → new.tokenizer ≡ old.tokenizer → AccountsForBytes start s old → AccountsForBytes start s new
finishes_account start s old new same h = record {
  text = h.text;
  consumed = record { before = h.consumed.before; left_of = h.consumed.left_of; valid = subst (λ (t : Tokenizer). HasRemainingScan t h.consumed.left_of) (sym same) h.consumed.valid; scans = h.consumed.scans };
  front = h.front;
  last = h.last;
  gave = h.gave;
}

pub finishes_next : (n : Next) (start : Reader) (s : Source) (old new : ScriptReader) → FinishesText n old new → new.tokenizer ≡ old.tokenizer → AccountsForBytes start s old → AccountsUpTo n start s new
finishes_next next.Command start s old new f same h = absurd f
finishes_next (next.Last e) start s old new f same h = finishes_account start s old new same h
finishes_next (next.End e) start s old new f same h = finishes_account start s old new same h

-- ONE AFTER ANOTHER

module _ (a b c : Source) (old mid new : ScriptReader) (f : (start : Reader) → AccountsForValidBytes start a old → AccountsForValidBytes start b mid) where
  pub reads_then_err : {E : Type 0} (e : E) → KeepsAccount {E = E} AccountsTowards (Err e) b c mid new → KeepsAccount {E = E} AccountsUpTo (Err e) a c old new
  reads_then_err e g start h = g start (f start h)

  pub reads_then_next : (E : Type 0) (n : Next) → KeepsAccount {E = E} AccountsTowards (Ok (Some n)) b c mid new → KeepsAccount {E = E} AccountsUpTo (Ok n) a c old new
  reads_then_next E n g start h = g start (f start h)

  pub reads_then_on : (E : Type 0) → KeepsAccount {E = E} AccountsTowards (Ok None) b c mid new → (start : Reader) → AccountsForValidBytes start a old → AccountsForValidBytes start c new
  reads_then_on E g start h = g start (f start h)

-- THE LINE OF THE LAST BYTE

-- the number of lines counted is that of the text consumed
pub line_number : (r : ScriptReader) (line : ℕ) → ((before : List ℕ → Scan) → HasRemainingScan r.tokenizer before → line ≡ capped (before []).last) → (text : List ℕ) → HasConsumed r text → line ≡ capped (scan text).last
line_number r line f text h =
    let all : scan text ≡ prepend_tokens h.before (h.left_of []) = sym (ap scan (append-nil text)) ∙ h.scans [] in
    f h.left_of h.valid ∙ ap (λ (k : Scan). capped k.last) (sym all)

-- at most one chunk waits
pub waiting_few : (a : LastPiece) → a.end ≤ 4096 → length (waiting_bytes a) ≤ max_read_size
waiting_few a h = let l = length-take (a.end - a.at) (drop a.at a.piece) in omega arith

pub ends_at_line : (start : Reader) (s : Source) (r : ScriptReader) (line : ℕ) → length s.waiting ≤ max_read_size → ((text : List ℕ) → HasConsumed r text → line ≡ capped (scan text).last) → AccountsForBytes start s r → EndsAtLine start s.reader line
ends_at_line start s r line few number h = record { text = h.text; rest = s.waiting; front = h.front; few = few; number = number h.text h.consumed }

-- THE START

none_decided : (r : ScriptReader) → HasConsumedValid r [] → IsDecided [] → ⊥
none_decided r h (inl ended) = none_has_ended ended
none_decided r h (inr bad) = not_malformed r [] h bad

-- nothing was read yet
pub reads_first : (start : Reader) (s : Source) (r : ScriptReader) → s.reader ≡ start → s.waiting ≡ [] → HasConsumedValid r [] → AccountsForValidBytes start s r
reads_first start s r same none h = record {
  text = [];
  consumed = h;
  front = record {
    gave = ap (λ (x : Reader). x.given) same ∙ sym (append-nil start.given) ∙ ap (λ (z : List ℕ). start.given ++ z) (sym none);
    known_bytes = subst (λ (x : Reader). Consumes start.to_come x.to_come s.waiting) (sym same) (subst (Consumes start.to_come start.to_come) (sym none) (consumes_none start.to_come));
    loans = ap (λ (x : Reader). x.loans) same;
  };
  last = subst IsDecidedInLastPiece (sym none) decided_none;
  gave = λ decided. absurd (none_decided r h (subst IsDecided none decided));
}

-- THE STREAM OF COMMANDS

module _ {R : Type 0} (seen : R → Reader) (r : R) (old new : CommandStream) where
  -- bytes that were waiting are consumed
  module _ (start : Reader) (h : AccountsForValidBytes start (source_in seen r old.ahead) old.reader) where
    pub keeps_more : ConsumesWaiting {E = ReadError} (Ok reached.More) old new → AccountsForValidBytes start (source_in seen r new.ahead) new.reader
    keeps_more t = reads_waiting HasConsumedValid start (seen r) old.ahead.reads new.ahead.reads (waiting_bytes old.ahead) (waiting_bytes new.ahead) t.0 old.reader new.reader t.1 t.5 h

    pub keeps_command : ConsumesWaiting {E = ReadError} (Ok reached.Command) old new → AccountsForValidBytes start (source_in seen r new.ahead) new.reader
    keeps_command t = reads_waiting HasConsumedValid start (seen r) old.ahead.reads new.ahead.reads (waiting_bytes old.ahead) (waiting_bytes new.ahead) t.0 old.reader new.reader t.1 t.5 h

    pub keeps_malformed : ConsumesWaiting {E = ReadError} (Ok reached.Malformed) old new → AccountsForBytes start (source_in seen r new.ahead) new.reader
    keeps_malformed t = reads_waiting HasConsumed start (seen r) old.ahead.reads new.ahead.reads (waiting_bytes old.ahead) (waiting_bytes new.ahead) t.0 old.reader new.reader t.1 t.5 h
