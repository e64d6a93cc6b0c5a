-- Bytes that are read ahead.
use Rattle.std.proofs.Common.{◌≡◌, ℕ, ◌+◌, ◌-◌, ◌<◌, ◌≤◌, List, [], ◌++◌, length, take, drop, Option, Some, None, Ok, refl, sym, ap, subst, ◌∙◌, append_assoc, arith}
use Rattle.std.proofs.lemmas.List.{append-nil, drop-drop, drop-take, length-take}
use Rattle.std.specs.Io.KnownBytes.{Consumes, prepend_known}
use Rattle.sat_base.specs.device.Device.{Reader, ReadsOnce}
use Rattle.sat_base.specs.device.Reading.{Source, ConsumesWithReads, ConsumesBytes, IsFullyConsumed, one_if_none_given}
use Rattle.sat_base.proofs.lemmas.device.ReadLemmas.{refilled}
use Rattle.certify.specs.script.LastPiece.{RefillsAhead}

pub waiting_taken : (piece : List ℕ) (at end count : ℕ) → at ≤ end → count ≤ length (take (end - at) (drop at piece)) → take (end - (at + count)) (drop (at + count) piece) ≡ drop count (take (end - at) (drop at piece))
waiting_taken piece at end count o h =
    let l = length-take (end - at) (drop at piece) in
    let low : at + count ≤ end = omega arith in
    let parts : end - at ≡ count + (end - (at + count)) = omega arith in
    ap (take (end - (at + count))) (sym (drop-drop count at piece)) ∙ sym (drop-take count (end - (at + count)) (drop at piece)) ∙ ap (λ (n : ℕ). drop count (take n (drop at piece))) (sym parts)

-- a read into the empty buffer gives the next chunk
pub refills_so : {E : Type 0} (count : ℕ) (a b : Reader) (ws room : List ℕ) (n : ℕ) → ReadsOnce {E = E} (Ok count) room a b → count ≤ length room → length room ≡ 4096 → ws ≡ []
    → RefillsAhead (Ok count) (record { reader = a; waiting = ws; reads = n; names = [] }) (record { reader = b; waiting = take (count - 0) (drop 0 room); reads = n + 1; names = [] })
refills_so count a b ws room n r within size e =
    let old : Source = record { reader = a; waiting = ws; reads = n; names = [] } in
    let new : List ℕ → Source = λ vs. record { reader = b; waiting = vs; reads = n + 1; names = [] } in
    let all : count - 0 ≡ count = omega arith in
    let shape : drop 0 (take count room) ≡ take (count - 0) (drop 0 room) = rw all refl in
    let some : 0 < length room = omega arith in
    let most : length room ≤ 4096 = omega arith in
    subst (λ (vs : List ℕ). ConsumesWithReads (one_if_none_given count) old (new vs) [] × (count ≡ 0 → IsFullyConsumed (new vs))) shape (refilled count a b ws room [] n r within some most e)

consumes_front : (k : Option (List ℕ)) (ws vs text : List ℕ) → ws ≡ text ++ vs → Consumes (prepend_known ws k) (prepend_known vs k) text
consumes_front None ws vs text e = tt
consumes_front (Some z) ws vs text e = ap (λ (x : List ℕ). x ++ z) e ∙ append_assoc text vs z

-- waiting bytes were consumed
pub passes_front : (r : Reader) (n m : ℕ) (ws vs text : List ℕ) → ws ≡ text ++ vs → m ≡ n
    → ConsumesBytes (record { reader = r; waiting = ws; reads = n; names = [] }) (record { reader = r; waiting = vs; reads = m; names = [] }) text
passes_front r n m ws vs text e same = record {
  fresh = [];
  gave = sym (append-nil r.given);
  flows = append-nil ws ∙ e;
  bytes = consumes_front r.to_come ws vs text e;
  failures = refl;
  calls = omega arith;
  room = omega arith;
  few = omega arith;
  loans = refl;
  names = refl;
  going = λ z h. let low = h.0 in (omega arith, h.1);
}
