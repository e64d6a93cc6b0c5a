-- Reading, step by step.
use Rattle.std.proofs.Common.{◌≡◌, ℕ, ◌+◌, ◌*◌, ◌-◌, ◌/◌, Bool, true, false, nat_eq, nat_lt, ◌&&◌, if◌then◌else◌, ◌<◌, ◌≤◌, zero, suc, List, length, length-append, take, drop, Option, Some, None, [], ◌∷◌, ◌++◌, ◌⊎◌, inl, inr, Ok, Err, refl, sym, subst, ap, append_assoc, ◌∙◌, arith}
use Rattle.std.proofs.lemmas.List.{append-nil, drop_all, length-take, length-take-le, take-append-le}
use Rattle.std.proofs.lemmas.Grind.{common_steps}
use Rattle.std.proofs.Math.Nat.{mul-le-mul_left}
use Rattle.std.specs.Io.KnownBytes.{Consumes, IsAtEnd, Keeps, prepend_known}
use Rattle.sat_base.specs.device.Device.{Reader, ReadsOnce, max_reads}
use Rattle.sat_base.specs.declared.steps.error.StepError.{StepError}
use Rattle.sat_base.specs.declared.steps.error.StepError.TheVariants as errors
use Rattle.sat_base.specs.steps.Formats.{IsPrefixOfText}
use Rattle.sat_base.specs.steps.Numbers.{SpellsNumberBelow}
use Rattle.sat_base.specs.device.Reading.{Source, to_come, ConsumesWithReads, ConsumesBytes, ConsumesToEnd, one_if_none_given, ConsumesAndFails, ReadsAhead, ConsumesNextByte, ConsumesByteWithinText, ReadsValue}
use Rattle.sat_base.proofs.lemmas.device.Known.{consumes_none, consumes_more}
use Rattle.sat_base.proofs.lemmas.steps.Numbers.{Front, front_none, front_more, live, last_read, shut_zero, shut_large, shut_on}

-- CONSUMED BYTES
pub passes_none : (s : Source) → ConsumesBytes s s []
passes_none s = record {
  fresh = [];
  gave = sym (append-nil s.reader.given);
  flows = append-nil s.waiting;
  bytes = consumes_none (to_come s);
  failures = refl;
  calls = refl;
  room = omega arith;
  few = omega arith;
  loans = refl;
  names = refl;
  going = λ e h. h;
}

-- bytes given and bytes consumed, over two calls in a row
flows_more : (a b c fs gs xs ys : List ℕ) → a ++ fs ≡ xs ++ b → b ++ gs ≡ ys ++ c → a ++ (fs ++ gs) ≡ (xs ++ ys) ++ c
flows_more a b c fs gs xs ys h k = sym (append_assoc a fs gs) ∙ ap (λ (z : List ℕ). z ++ gs) h ∙ append_assoc xs b gs ∙ ap (λ (z : List ℕ). xs ++ z) k ∙ sym (append_assoc xs ys c)

room_more : (fs gs : List ℕ) (a b c : ℕ) → length fs + 4096 * a ≤ 4096 * b → length gs + 4096 * b ≤ 4096 * c → length (fs ++ gs) + 4096 * a ≤ 4096 * c
room_more fs gs a b c h k = omega (arith, length-append fs gs)

few_more : (fs gs : List ℕ) (a b c n : ℕ) → b ≤ a + length fs + 0 → c ≤ b + length gs + n → c ≤ a + length (fs ++ gs) + n
few_more fs gs a b c n h k = omega (arith, length-append fs gs)

pub passes_more : {n : ℕ} (old mid new : Source) (xs ys : List ℕ) → ConsumesBytes old mid xs → ConsumesWithReads n mid new ys → ConsumesWithReads n old new (xs ++ ys)
passes_more {n} old mid new xs ys p q = record {
  fresh = p.fresh ++ q.fresh;
  gave = q.gave ∙ ap (λ (z : List ℕ). z ++ q.fresh) p.gave ∙ append_assoc old.reader.given p.fresh q.fresh;
  flows = flows_more old.waiting mid.waiting new.waiting p.fresh q.fresh xs ys p.flows q.flows;
  bytes = consumes_more (to_come old) (to_come mid) (to_come new) xs ys p.bytes q.bytes;
  failures = q.failures ∙ p.failures;
  calls = omega (arith, p.calls, q.calls);
  room = room_more p.fresh q.fresh old.reads mid.reads new.reads p.room q.room;
  few = few_more p.fresh q.fresh old.reads mid.reads new.reads n p.few q.few;
  loans = q.loans ∙ p.loans;
  names = q.names ∙ p.names;
  going = λ e h. p.going refl (q.going e h);
}

pub faults_later : (old mid new : Source) (xs ys : List ℕ) → ConsumesBytes old mid xs → ConsumesAndFails mid new ys → ConsumesAndFails old new (xs ++ ys)
faults_later old mid new xs ys p f = record {
  fresh = p.fresh ++ f.fresh;
  gave = f.gave ∙ ap (λ (z : List ℕ). z ++ f.fresh) p.gave ∙ append_assoc old.reader.given p.fresh f.fresh;
  flows = sym (append_assoc old.waiting p.fresh f.fresh) ∙ ap (λ (z : List ℕ). z ++ f.fresh) p.flows ∙ append_assoc xs mid.waiting f.fresh ∙ ap (λ (z : List ℕ). xs ++ z) f.flows;
  none = f.none;
  bytes = consumes_more (to_come old) (to_come mid) (to_come new) xs ys p.bytes f.bytes;
  cause = elim f.cause [ inl h ↦ inl (h.0 ∙ ap (λ (n : ℕ). n + 1) p.failures, h.1) | inr h ↦ inr (h.0 ∙ p.failures, h.1) ];
  calls = omega (arith, p.calls, f.calls);
  room = room_more p.fresh f.fresh old.reads mid.reads new.reads p.room f.room;
  few = few_more p.fresh f.fresh old.reads mid.reads new.reads 1 p.few f.few;
  loans = f.loans ∙ p.loans;
  names = f.names ∙ p.names;
}

-- consuming bytes, and then a failure or the end with no more bytes consumed
pub faults_there : (old mid new : Source) (xs : List ℕ) → ConsumesBytes old mid xs → ConsumesAndFails mid new [] → ConsumesAndFails old new xs
faults_there old mid new xs p f = subst (ConsumesAndFails old new) (append-nil xs) (faults_later old mid new xs [] p f)

pub ends_there : (old mid new : Source) (xs : List ℕ) → ConsumesBytes old mid xs → ConsumesToEnd mid new [] → ConsumesToEnd old new xs
ends_there old mid new xs p q = (subst (ConsumesWithReads 1 old new) (append-nil xs) (passes_more old mid new xs [] p q.0), q.1)

-- A READ THAT FAILS

keeps_none : (a b : Option (List ℕ)) (ws vs : List ℕ) → ws ≡ [] → vs ≡ [] → Keeps a b → Consumes (prepend_known ws a) (prepend_known vs b) []
keeps_none None b ws vs e f h = tt
keeps_none (Some x) None ws vs e f h = absurd h
keeps_none (Some x) (Some y) ws vs e f h = ap (λ (z : List ℕ). z ++ x) e ∙ sym h ∙ ap (λ (z : List ℕ). z ++ y) (sym f)

pub faults_now : {E : Type 0} (e : E) (a b : Reader) (ws vs room names : List ℕ) (n : ℕ) → ReadsOnce {E = E} (Err e) room a b → ws ≡ [] → vs ≡ [] → ConsumesAndFails (record { reader = a; waiting = ws; reads = n; names = names }) (record { reader = b; waiting = vs; reads = n + 1; names = names }) []
faults_now e a b ws vs room names n r d f = record {
  fresh = [];
  gave = r.given ∙ sym (append-nil a.given);
  flows = append-nil ws ∙ d;
  none = f;
  bytes = keeps_none a.to_come b.to_come ws vs d f r.known_bytes;
  cause = inl (r.failures.0, r.failures.1);
  calls = omega (arith, r.calls);
  room = omega arith;
  few = omega arith;
  loans = r.loans;
  names = refl;
}

-- after `max_reads` reads no further read is made, which is also a failure
pub faults_spent : (s : Source) → s.waiting ≡ [] → max_reads ≤ s.reads → ConsumesAndFails s s []
faults_spent s d h = record {
  fresh = [];
  gave = sym (append-nil s.reader.given);
  flows = append-nil s.waiting ∙ d;
  none = d;
  bytes = consumes_none (to_come s);
  cause = inr (refl, h);
  calls = refl;
  room = omega arith;
  few = omega arith;
  loans = refl;
  names = refl;
}

-- A READ THAT SUCCEEDS

fills_known : (a b : Option (List ℕ)) (ws xs : List ℕ) → ws ≡ [] → Consumes a b xs → Consumes (prepend_known ws a) (prepend_known xs b) []
fills_known None b ws xs e h = tt
fills_known (Some x) None ws xs e h = absurd h
fills_known (Some x) (Some y) ws xs e h = ap (λ (z : List ℕ). z ++ x) e ∙ h

over_known : (b : Option (List ℕ)) (xs : List ℕ) → xs ≡ [] → IsAtEnd b → IsAtEnd (prepend_known xs b)
over_known None xs e h = tt
over_known (Some y) xs e h = ap (λ (z : List ℕ). z ++ y) e ∙ h

few_given : (count reads m : ℕ) → m ≡ count → reads + 1 ≤ reads + m + one_if_none_given count
few_given zero reads m e = omega arith
few_given (suc n) reads m e = omega arith

no_end : (none ended room : Bool) → ended ≡ (none && room) → ◌≡◌ {A = ℕ} (if none then 1 else 0) 0 → ended ≡ true → ⊥
no_end true ended room e h k = omega (arith, h)
no_end false ended room e h k = let f : ended ≡ false = e in cc

pub refilled : {E : Type 0} (count : ℕ) (a b : Reader) (ws room names : List ℕ) (n : ℕ) → ReadsOnce {E = E} (Ok count) room a b → count ≤ length room → 0 < length room → length room ≤ 4096 → ws ≡ []
    → ReadsAhead (Ok tt) count (record { reader = a; waiting = ws; reads = n; names = names }) (record { reader = b; waiting = drop 0 (take count room); reads = n + 1; names = names })
refilled count a b ws room names n r within some size e =
    let l = length-take-le count room within in
    let none : count ≡ 0 → take count room ≡ [] = λ h. ap (λ (k : ℕ). take k room) h in (
      record {
        fresh = take count room;
        gave = r.given;
        flows = ap (λ (z : List ℕ). z ++ take count room) e;
        bytes = fills_known a.to_come b.to_come ws (take count room) e r.known_bytes.0;
        failures = r.failures.0;
        calls = omega (arith, r.calls);
        room = omega (arith, l, within, size);
        few = few_given count n (length (take count room)) l;
        loans = r.loans;
        names = refl;
        going = λ z h. absurd (no_end (nat_eq count 0) b.ended (nat_lt 0 (length room)) r.ended z h.1);
      },
      λ h. record {
        read = omega arith;
        ended = let k : (nat_eq count 0 && nat_lt 0 (length room)) ≡ true = grind (arith, common_steps) in r.ended ∙ k;
        waiting = none h;
        over = over_known b.to_come (take count room) (none h) (r.known_bytes.1 h some);
      },
    )

-- a refill whose bytes were read to the start of a longer buffer
pub refilled_front : {E : Type 0} (count : ℕ) (a b : Reader) (ws room rest names : List ℕ) (n : ℕ) → ReadsOnce {E = E} (Ok count) room a b → count ≤ length room → 0 < length room → length room ≤ 4096 → ws ≡ []
    → ReadsAhead (Ok tt) count (record { reader = a; waiting = ws; reads = n; names = names }) (record { reader = b; waiting = drop 0 (take count (room ++ rest)); reads = n + 1; names = names })
refilled_front count a b ws room rest names n r within some size e =
    subst (λ (z : List ℕ). ReadsAhead (Ok tt) count (record { reader = a; waiting = ws; reads = n; names = names }) (record { reader = b; waiting = drop 0 z; reads = n + 1; names = names })) (sym (take-append-le count room rest within))
    (refilled count a b ws room names n r within some size e)

pub none_waits : (at end : ℕ) (piece : List ℕ) → end ≤ at → drop at (take end piece) ≡ []
none_waits at end piece h = drop_all at (take end piece) (let e = length-take end piece in omega arith)

-- THE GROUPS OF A NUMBER, lowest first: those consumed so far have this value, and the next one has weight `place`
pub record Groups (limit value place : ℕ) (old new : Source) : Type 0 where
  pub text : List ℕ
  pub passes : ConsumesBytes old new text
  pub front : Front text value place
  pub small : value + place < limit
  pub begun : ((text ≡ []) × (value ≡ 0) × (place ≡ 1)) ⊎ ((text ≡ [] → ⊥) × (1 < place))

pub groups_none : (limit : ℕ) (s : Source) → 1 < limit → Groups limit 0 1 s s
groups_none limit s h = record { text = []; passes = passes_none s; front = front_none; small = omega arith; begun = inl (refl, refl, refl) }

pub place_some : (limit value place : ℕ) (old new : Source) → Groups limit value place old new → 0 < place
place_some limit value place old new g = elim g.begun [ inl h ↦ omega (arith, h.2) | inr h ↦ omega (arith, h.1) ]

groups_cut : (limit value place : ℕ) (old mid new : Source) → Groups limit value place old mid → ConsumesToEnd mid new [] → ReadsValue (SpellsNumberBelow limit) (Err errors.Cut) old new
groups_cut limit value place old mid new g h = (g.text, ends_there old mid new g.text g.passes h, live limit g.text value place g.front g.small)

-- if the next group cannot be read, neither can the number
pub groups_stop : (limit value place : ℕ) (old mid new : Source) (e : StepError) → Groups limit value place old mid → ConsumesByteWithinText (Err e) mid new → ReadsValue (SpellsNumberBelow limit) (Err e) old new
groups_stop limit value place old mid new errors.Read g h = (g.text, faults_there old mid new g.text g.passes h, live limit g.text value place g.front g.small)
groups_stop limit value place old mid new errors.Cut g h = groups_cut limit value place old mid new g h
groups_stop limit value place old mid new e g h = absurd h

pub groups_bad : (limit value place b : ℕ) (old mid new : Source) → (g : Groups limit value place old mid) → ConsumesBytes mid new (b ∷ []) → (IsPrefixOfText (SpellsNumberBelow limit) (g.text ++ b ∷ []) → ⊥) → ReadsValue (SpellsNumberBelow limit) (Err errors.BadByte) old new
groups_bad limit value place b old mid new g h k = (g.text, b, passes_more old mid new g.text (b ∷ []) g.passes h, live limit g.text value place g.front g.small, k)

-- a first group of 0 is the complete number
pub groups_zero : (limit value place b : ℕ) (old mid new : Source) → Groups limit value place old mid → ConsumesBytes mid new (b ∷ []) → b ≡ 0 → place ≡ 1 → 1 < limit → ReadsValue (SpellsNumberBelow limit) (Ok 0) old new
groups_zero limit value place b old mid new g h e f l = elim g.begun [
  | inl k ↦ (b ∷ [], subst (λ (z : List ℕ). ConsumesBytes old new (z ++ b ∷ [])) k.0 (passes_more old mid new g.text (b ∷ []) g.passes h), ((omega arith, sym e), omega arith))
  | inr k ↦ absurd (omega (arith, k.1))
]

pub groups_zero_bad : (limit value place b : ℕ) (old mid new : Source) → Groups limit value place old mid → ConsumesBytes mid new (b ∷ []) → b ≡ 0 → (place ≡ 1 → ⊥) → ReadsValue (SpellsNumberBelow limit) (Err errors.BadByte) old new
groups_zero_bad limit value place b old mid new g h e f = elim g.begun [
  | inl k ↦ absurd (f k.2)
  | inr k ↦ groups_bad limit value place b old mid new g h (shut_zero limit g.text value place b g.front k.0 e)
]

-- the next group is the last, and the number is below the limit
pub groups_last : (limit value place b : ℕ) (old mid new : Source) → Groups limit value place old mid → ConsumesBytes mid new (b ∷ []) → (b ≡ 0 → ⊥) → b < 128 → value + place * b < limit → ReadsValue (SpellsNumberBelow limit) (Ok (value + place * b)) old new
groups_last limit value place b old mid new g h z l m = (g.text ++ b ∷ [], passes_more old mid new g.text (b ∷ []) g.passes h, last_read limit g.text value place b g.front l (inr (omega arith)) m)

-- the next group is the last, and the number reaches the limit
pub groups_large : (limit value place b : ℕ) (old mid new : Source) → Groups limit value place old mid → ConsumesBytes mid new (b ∷ []) → b < 128 → limit ≤ value + place * b → ReadsValue (SpellsNumberBelow limit) (Err errors.BadByte) old new
groups_large limit value place b old mid new g h l m = groups_bad limit value place b old mid new g h (shut_large limit g.text value place b g.front l m)

-- the next group is not the last, and any number with these groups reaches the limit
pub groups_on : (limit value place b : ℕ) (old mid new : Source) → Groups limit value place old mid → ConsumesBytes mid new (b ∷ []) → 128 ≤ b → limit ≤ (value + place * (b - 128)) + place * 128 → ReadsValue (SpellsNumberBelow limit) (Err errors.BadByte) old new
groups_on limit value place b old mid new g h l m = groups_bad limit value place b old mid new g h (shut_on limit g.text value place b g.front l m)

-- ROOM for further groups: the largest number for which `value + place * room` is at most `largest`

pub room_start : (largest : ℕ) → (0 + 1 * largest ≤ largest) × (largest < 0 + 1 * (largest + 1))
room_start largest = (omega arith, omega arith)

past_room : (largest value place room b : ℕ) → largest < value + place * (room + 1) → room < b → largest + 1 ≤ value + place * b
past_room largest value place room b h k = let m = mul-le-mul_left place (let j : room + 1 ≤ b = omega arith in j) in omega arith

pub in_room : (largest value place room b : ℕ) → value + place * room ≤ largest → b ≤ room → value + place * b < largest + 1
in_room largest value place room b h k = let m = mul-le-mul_left place k in omega arith

spread_group : (place g : ℕ) → place * (g + 128) ≡ place * g + place * 128
spread_group place g = omega arith

split_group : (place b : ℕ) → 128 ≤ b → place * b ≡ place * (b - 128) + place * 128
split_group place b h = let e : b ≡ (b - 128) + 128 = omega arith in ap (λ (n : ℕ). place * n) e ∙ spread_group place (b - 128)

small_group : (b : ℕ) → nat_lt b 128 ≡ true → b < 128
small_group b h = grind (arith, common_steps)

large_group : (b : ℕ) → nat_lt b 128 ≡ false → 128 ≤ b
large_group b h = grind (arith, common_steps)

by_kind : (largest value place b : ℕ) (old mid new : Source) → Groups (largest + 1) value place old mid → ConsumesBytes mid new (b ∷ []) → largest + 1 ≤ value + place * b → (t : Bool) → nat_lt b 128 ≡ t → ReadsValue (SpellsNumberBelow (largest + 1)) (Err errors.BadByte) old new
by_kind largest value place b old mid new g h k true e = groups_large (largest + 1) value place b old mid new g h (small_group b e) k
by_kind largest value place b old mid new g h k false e = groups_on (largest + 1) value place b old mid new g h (large_group b e) (let s = split_group place b (large_group b e) in omega arith)

-- a group that exceeds the room is a bad byte
pub groups_past : (largest value place room b : ℕ) (old mid new : Source) → Groups (largest + 1) value place old mid → ConsumesBytes mid new (b ∷ []) → largest < value + place * (room + 1) → room < b → ReadsValue (SpellsNumberBelow (largest + 1)) (Err errors.BadByte) old new
groups_past largest value place room b old mid new g h k l = by_kind largest value place b old mid new g h (past_room largest value place room b k l) (nat_lt b 128) refl

low_of : (largest value place room g q : ℕ) → value + place * room ≤ largest → g + 128 * q ≤ room → (value + place * g) + (place * 128) * q ≤ largest
low_of largest value place room g q h k = let m = mul-le-mul_left place k in let e : place * (g + 128 * q) ≡ place * g + (place * 128) * q = omega arith in omega arith

high_of : (largest value place room g q : ℕ) → largest < value + place * (room + 1) → room + 1 ≤ g + 128 * (q + 1) → largest < (value + place * g) + (place * 128) * (q + 1)
high_of largest value place room g q h k = let m = mul-le-mul_left place k in let e : place * (g + 128 * (q + 1)) ≡ place * g + (place * 128) * (q + 1) = omega arith in omega arith

-- the room after a group that is within it and is not the last
pub room_low : (largest value place room b : ℕ) → value + place * room ≤ largest → 128 ≤ b → b ≤ room → (value + place * (b - 128)) + (place * 128) * ((room - (b - 128)) / 128) ≤ largest
room_low largest value place room b h k l = low_of largest value place room (b - 128) ((room - (b - 128)) / 128) h (omega arith)

pub room_high : (largest value place room b : ℕ) → largest < value + place * (room + 1) → 128 ≤ b → b ≤ room → largest < (value + place * (b - 128)) + (place * 128) * ((room - (b - 128)) / 128 + 1)
room_high largest value place room b h k l = high_of largest value place room (b - 128) ((room - (b - 128)) / 128) h (omega arith)

pub room_small : (largest value place room b : ℕ) → value + place * room ≤ largest → 128 ≤ b → b ≤ room → (value + place * (b - 128)) + place * 128 < largest + 1
room_small largest value place room b h k l = let m = mul-le-mul_left place l in let s = split_group place b k in omega arith

not_none : (xs : List ℕ) (b : ℕ) → xs ++ b ∷ [] ≡ [] → ⊥
not_none [] b e = cc
not_none (x ∷ xs) b e = cc

-- the next group is not the last, and the number may be below the limit
pub groups_more : (limit value place b : ℕ) (old mid new : Source) → Groups limit value place old mid → ConsumesBytes mid new (b ∷ []) → 128 ≤ b → b < 256 → (value + place * (b - 128)) + place * 128 < limit → Groups limit (value + place * (b - 128)) (place * 128) old new
groups_more limit value place b old mid new g h l m s = record {
  text = g.text ++ b ∷ [];
  passes = passes_more old mid new g.text (b ∷ []) g.passes h;
  front = front_more g.text value place b l m g.front;
  small = s;
  begun = let p = place_some limit value place old mid g in inr (not_none g.text b, omega arith);
}

-- THE FIRST BYTE OF A PIECE
none_zero : (n : ℕ) → (n ≡ 0 → ⊥) → one_if_none_given n ≡ 0
none_zero n h = grind (arith, common_steps)

pub next_fails : (e : StepError) (n : ℕ) (s t : Source) → ReadsAhead (Err e) n s t → ConsumesNextByte (Err e) s t
next_fails errors.Read n s t h = h
next_fails e n s t h = absurd h

took_known : (a b : Option (List ℕ)) (ws vs text : List ℕ) → ws ≡ text ++ vs → Consumes a (prepend_known ws b) [] → Consumes a (prepend_known vs b) text
took_known None b ws vs text e h = tt
took_known (Some x) None ws vs text e h = absurd h
took_known (Some x) (Some y) ws vs text e h = h ∙ ap (λ (z : List ℕ). z ++ y) e ∙ append_assoc text vs y

pub took_text : (s : Source) (r : Reader) (ws vs names : List ℕ) (n m : ℕ) (text : List ℕ) → ConsumesBytes s (record { reader = r; waiting = ws; reads = n; names = names }) [] → ws ≡ text ++ vs → m ≡ n
    → ConsumesBytes s (record { reader = r; waiting = vs; reads = m; names = names }) text
took_text s r ws vs names n m text p e f = record {
  fresh = p.fresh;
  gave = p.gave;
  flows = p.flows ∙ e;
  bytes = took_known (to_come s) r.to_come ws vs text e p.bytes;
  failures = p.failures;
  calls = omega (arith, p.calls, f);
  room = omega (arith, p.room, f);
  few = omega (arith, p.few, f);
  loans = p.loans;
  names = p.names;
  going = λ e h. p.going e (omega (arith, f, h.0), h.1);
}

-- a read that gave some bytes, and one that gave none
pub gave_some : (n : ℕ) (s t : Source) → (n ≡ 0 → ⊥) → ConsumesWithReads (one_if_none_given n) s t [] → ConsumesBytes s t []
gave_some n s t h p = subst (λ (k : ℕ). ConsumesWithReads k s t []) (none_zero n h) p

pub gave_nothing : (n : ℕ) (s t : Source) → n ≡ 0 → ConsumesWithReads (one_if_none_given n) s t [] → ConsumesWithReads 1 s t []
gave_nothing n s t h p = subst (λ (k : ℕ). ConsumesWithReads (one_if_none_given k) s t []) h p
