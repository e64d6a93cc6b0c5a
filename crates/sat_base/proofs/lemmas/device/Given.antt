-- What a reader gives, read by read.
use Rattle.std.proofs.Common.{◌≡◌, ℕ, ◌+◌, ◌<◌, ◌≤◌, Bool, true, false, List, [], ◌++◌, length, length-append, take, nat_eq, nat_lt, ◌&&◌, Option, Some, None, Ok, Err, append_assoc, refl, sym, ap, subst, ◌∙◌, arith}
use Rattle.std.proofs.lemmas.List.{append-nil}
use Rattle.std.proofs.lemmas.Grind.{common_steps}
use Rattle.std.specs.Prelude.{IfSome}
use Rattle.std.specs.Io.KnownBytes.{Consumes, Keeps, IsAtEnd}
use Rattle.sat_base.specs.device.Device.{Reader, ReadsOnce, FewReads, GavePrefix, GaveAll, GaveEnough, max_reads}
use Rattle.sat_base.proofs.lemmas.device.Known.{consumes_none, consumes_more}

pub gave_none : (r : Reader) → GavePrefix r r []
gave_none r = record { gave = sym (append-nil r.given); known_bytes = consumes_none r.to_come; loans = refl }

-- at most one more read than bytes given
pub few_reads : (a c : Reader) (xs : List ℕ) → c.given ≡ a.given ++ xs → c.calls ≤ a.calls + length xs + 1 → FewReads a c
few_reads a c xs e h = let k : length c.given ≡ length a.given + length xs = ap length e ∙ length-append a.given xs in omega arith

-- reads of a reader are few if they are at most one more than the bytes given
pub few_front : (a c : Reader) (xs : List ℕ) → GavePrefix a c xs → c.calls ≤ a.calls + length xs + 1 → FewReads a c
few_front a c xs g h = few_reads a c xs g.gave h

-- one more read extends what the reader gave
pub gave_more : {E : Type 0} (a b c : Reader) (xs : List ℕ) (n : ℕ) (room : List ℕ) → GavePrefix a b xs → ReadsOnce {E = E} (Ok n) room b c → GavePrefix a c (xs ++ take n room)
gave_more a b c xs n room p r = record {
  gave = r.given ∙ ap (λ (z : List ℕ). z ++ take n room) p.gave ∙ append_assoc a.given xs (take n room);
  known_bytes = consumes_more a.to_come b.to_come c.to_come xs (take n room) p.known_bytes r.known_bytes.0;
  loans = r.loans ∙ p.loans;
}

consumed_still : (a b c : Option (List ℕ)) (xs : List ℕ) → Consumes a b xs → Keeps b c → Consumes a c xs
consumed_still None b c xs h k = tt
consumed_still (Some s) None c xs h k = absurd h
consumed_still (Some s) (Some t) None xs h k = absurd k
consumed_still (Some s) (Some t) (Some u) xs h k = h ∙ ap (λ (z : List ℕ). xs ++ z) (sym k)

-- a failed read gives nothing
pub gave_still : {E : Type 0} (e : E) (a b c : Reader) (xs room : List ℕ) → GavePrefix a b xs → ReadsOnce {E = E} (Err e) room b c → GavePrefix a c xs
gave_still e a b c xs room p r = record {
  gave = r.given ∙ p.gave;
  known_bytes = consumed_still a.to_come b.to_come c.to_come xs p.known_bytes r.known_bytes;
  loans = r.loans ∙ p.loans;
}

gave_nothing : {E : Type 0} (a b c : Reader) (xs : List ℕ) (n : ℕ) (room : List ℕ) → GavePrefix a b xs → ReadsOnce {E = E} (Ok n) room b c → n ≡ 0 → GavePrefix a c xs
gave_nothing a b c xs n room p r e =
    let f : xs ++ take n room ≡ xs = ap (λ (k : ℕ). xs ++ take k room) e ∙ append-nil xs in
    subst (GavePrefix a c) f (gave_more a b c xs n room p r)

at_end : (n : ℕ) (room : List ℕ) → n ≡ 0 → 0 < length room → (nat_eq n 0 && nat_lt 0 (length room)) ≡ true
at_end n room e h = grind (arith, common_steps)

not_at_end : (n : ℕ) (room : List ℕ) → 0 < n → (nat_eq n 0 && nat_lt 0 (length room)) ≡ false
not_at_end n room h = grind (arith, common_steps)

-- a read that found the end: the reader gave everything
pub gave_to_end : {E : Type 0} (a b c : Reader) (xs : List ℕ) (n : ℕ) (room : List ℕ) → GavePrefix a b xs → ReadsOnce {E = E} (Ok n) room b c → n ≡ 0 → 0 < length room
    → a.calls ≤ b.calls → b.calls ≤ a.calls + length xs → GaveAll a c xs
gave_to_end a b c xs n room p r e h some few =
    let g = gave_nothing a b c xs n room p r e in
    record {
      gave = g.gave;
      ends = r.ended ∙ at_end n room e h;
      known_bytes = g.known_bytes;
      over = r.known_bytes.1 e h;
      called = omega (arith, r.calls);
      few = few_reads a c xs g.gave (omega (arith, r.calls));
      loans = g.loans;
    }

-- a read that found the end, after k reads that gave k bytes or more: the reader gave everything
pub end_after : {E : Type 0} (a b c : Reader) (xs : List ℕ) (n k : ℕ) (room : List ℕ) → GavePrefix a b xs → ReadsOnce {E = E} (Ok n) room b c → n ≡ 0 → 0 < length room
    → b.calls ≡ a.calls + k → k ≤ length xs → GaveAll a c xs
end_after a b c xs n k room p r e h calls some = gave_to_end a b c xs n room p r e h (omega arith) (omega arith)

pub few_after : (a b c : Reader) (xs : List ℕ) (k : ℕ) → GavePrefix a c xs → c.calls ≡ b.calls + 1 → b.calls ≡ a.calls + k → k ≤ length xs → FewReads a c
few_after a b c xs k g once calls some = few_front a c xs g (omega arith)

pub few_before : (a b : Reader) (xs : List ℕ) (k : ℕ) → GavePrefix a b xs → b.calls ≡ a.calls + k → k ≤ length xs → FewReads a b
few_before a b xs k g calls some = few_front a b xs g (omega arith)

-- the reader gave at least one byte
pub some_given : (a c : Reader) (xs ys : List ℕ) → GavePrefix a c (xs ++ ys) → 0 < length ys → length a.given < length c.given
some_given a c xs ys g h = let e = ap length g.gave in let f = length-append a.given (xs ++ ys) in let k = length-append xs ys in omega arith

-- the number of calls after one more call
pub calls_after : (a b c k : ℕ) → c ≡ b + 1 → b ≡ a + k → c ≡ a + (k + 1)
calls_after a b c k e f = omega arith

pub calls_within : (a b c k : ℕ) → c ≡ b + 1 → b ≡ a + k → k < max_reads → c ≤ a + max_reads
calls_within a b c k e f h = omega arith

pub calls_upto : (a b k : ℕ) → b ≡ a + k → k ≤ max_reads → b ≤ a + max_reads
calls_upto a b k f h = omega arith

pub calls_few : (a b c k : ℕ) (xs : List ℕ) → c ≡ b + 1 → b ≡ a + k → k ≤ length xs → c ≤ a + length xs + 1
calls_few a b c k xs e f h = omega arith

pub calls_few_yet : (a b k : ℕ) (xs : List ℕ) → b ≡ a + k → k ≤ length xs → b ≤ a + length xs + 1
calls_few_yet a b k xs f h = omega arith

-- bounds on the number of reads: one for every piece, and one more
pub least_calls : (a b c k n : ℕ) → c ≡ b + 1 → b ≡ a + k → n ≡ k → a + n ≤ c
least_calls a b c k n e f h = omega arith

pub most_calls : (a b c k n : ℕ) → c ≡ b + 1 → b ≡ a + k → n ≡ k → c ≤ a + n + 1
most_calls a b c k n e f h = omega arith

pub no_less : (xs ys : List ℕ) (k : ℕ) → k ≤ length xs → k ≤ length (xs ++ ys)
no_less xs ys k h = let n = length-append xs ys in omega arith

pub not_ended : {E : Type 0} (b c : Reader) (n : ℕ) (room : List ℕ) → ReadsOnce {E = E} (Ok n) room b c → 0 < n → c.ended ≡ false
not_ended b c n room r h = r.ended ∙ not_at_end n room h

-- WHEN THE BYTES GIVEN ARE ENOUGH

pub is_over : (a c : Reader) (xs : List ℕ) → GaveAll a c xs → c.ended ≡ true → IsAtEnd c.to_come
is_over a c xs g e = g.over

-- a reader has not both ended and not ended
pub still_open : (c : Reader) (T : Type 0) → c.ended ≡ false → c.ended ≡ true → T
still_open c T h e = absurd (let k : ◌≡◌ {A = Bool} true false = sym e ∙ h in cc)

-- a text that the reader gave completely is enough to establish P
pub enough_all : (a c : Reader) (P : List ℕ → Type 0) (xs : List ℕ) → GaveAll a c xs → P xs → GaveEnough a c P
enough_all a c P xs g p = record {
  text = xs;
  front = record { gave = g.gave; known_bytes = g.known_bytes; loans = g.loans };
  over = λ called. is_over a c xs g;
  few = g.few;
  holds = λ rest f. subst P (sym (ap (λ (z : List ℕ). xs ++ z) (f g.called g.ends) ∙ append-nil xs)) p;
}

-- a prefix after which P holds of any text is enough to establish P
pub enough_front : (a c : Reader) (P : List ℕ → Type 0) (xs : List ℕ) → GavePrefix a c xs → c.ended ≡ false → c.calls ≤ a.calls + length xs + 1
    → ((rest : List ℕ) → P (xs ++ rest)) → GaveEnough a c P
enough_front a c P xs g e few p = record {
  text = xs;
  front = g;
  over = λ called. still_open c (IsAtEnd c.to_come) e;
  few = few_front a c xs g few;
  holds = λ rest f. p rest;
}

rest_ends : (k : Option (List ℕ)) (rest : List ℕ) → k ≡ Some rest → IsAtEnd k → rest ≡ []
rest_ends None rest h o = absurd cc
rest_ends (Some xs) rest h o = let j : xs ≡ rest = cc in sym j ∙ o

reported_of : (s t : Option (List ℕ)) (xs : List ℕ) (P : List ℕ → Type 0) → Consumes s t xs → ((rest : List ℕ) → t ≡ Some rest → P (xs ++ rest)) → IfSome s P
reported_of None t xs P h k = tt
reported_of (Some all) None xs P h k = absurd h
reported_of (Some all) (Some rest) xs P h k = subst P (sym h) (k rest refl)

-- if the bytes to come are known, P holds of them
pub enough_known : (a c : Reader) (P : List ℕ → Type 0) → GaveEnough a c P → IfSome a.to_come P
enough_known a c P g = reported_of a.to_come c.to_come g.text P g.front.known_bytes (λ rest h. g.holds rest (λ called e. rest_ends c.to_come rest h (g.over called e)))

-- enough for P is enough for whatever follows from P
pub enough_as : (a c : Reader) (P Q : List ℕ → Type 0) → ((text : List ℕ) → P text → Q text) → GaveEnough a c P → GaveEnough a c Q
enough_as a c P Q f g = record { text = g.text; front = g.front; over = g.over; few = g.few; holds = λ rest h. f (g.text ++ rest) (g.holds rest h) }
