-- The bytes of a number, as they are written.
use Rattle.std.proofs.Common.{◌≡◌, ℕ, suc, zero, ◌+◌, ◌*◌, ◌-◌, ◌/◌, ◌%◌, ◌^◌, ◌<◌, ◌≤◌, Bool, true, false, nat_lt, List, [], ◌∷◌, ◌++◌, take, Result, Ok, Err, append_assoc, refl, sym, ap, subst, ◌∙◌, if◌then◌else◌, arith}
use Rattle.std.specs.Prelude.{length}
use Rattle.std.specs.Int.{from_bool}
use Rattle.std.proofs.lemmas.List.{length-append}
use Rattle.std.proofs.lemmas.Grind.{common_steps}
use Rattle.std.proofs.Math.Nat.{pow-succ'}
use Rattle.sat_base.specs.device.Sink.{Sink, AddsToSink, SinkFails, SendsText, SendsValue}
use Rattle.sat_base.specs.steps.Formats.{Format, Both}
use Rattle.sat_base.specs.steps.Numbers.{SpellsNumber, SpellsNumberBelow}
use Rattle.sat_base.proofs.lemmas.steps.Numbers.{group}
use Rattle.sat_base.specs.steps.StepBytes.{groups_of_seven_bits}
use Rattle.sat_base.proofs.lemmas.device.Sending.{sent_none, sent_more, sends_more, sends_stops, sends_breaks, sends_same, sends_last}

small : (n : ℕ) → n < 128 → nat_lt n 128 ≡ true
small n h = grind (arith, common_steps)

large : (n : ℕ) → 128 ≤ n → nat_lt n 128 ≡ false
large n h = grind (arith, common_steps)

-- a number below 128 has one group
pub groups_last : (k n : ℕ) → n < 128 → groups_of_seven_bits k n ≡ n ∷ []
unfolding groups_of_seven_bits
groups_last zero n h = refl
groups_last (suc k) n h = ap (λ (t : Bool). if t then n ∷ [] else (n % 128 + 128) ∷ groups_of_seven_bits k (n / 128)) (small n h)

-- a larger number begins with a group of its low seven bits
pub groups_on : (k n : ℕ) → 128 ≤ n → groups_of_seven_bits (suc k) n ≡ (n % 128 + 128) ∷ groups_of_seven_bits k (n / 128)
unfolding groups_of_seven_bits
groups_on k n h = ap (λ (t : Bool). if t then n ∷ [] else (n % 128 + 128) ∷ groups_of_seven_bits k (n / 128)) (large n h)

-- `GroupsPut number rest old new` holds if the low groups of a number were sent, and `rest` is the number of the other
-- groups.
pub record GroupsPut (number rest : ℕ) (old new : Sink) : Type 0 where
  pub done : List ℕ
  pub left : ℕ
  pub sent : AddsToSink old new done
  pub whole : done ++ groups_of_seven_bits left rest ≡ groups_of_seven_bits 9 number
  pub fits : rest < 128 ^ (left + 1)

pub groups_none : (number : ℕ) (s : Sink) → number < 2 ^ 64 → GroupsPut number number s s
groups_none number s h = record { done = []; left = 9; sent = sent_none s; whole = refl; fits = omega arith }

power : (k n : ℕ) → n < 128 ^ (suc k + 1) → n < 128 * 128 ^ (k + 1)
power k n f = let e : suc k + 1 ≡ suc (k + 1) = omega arith in subst (λ (z : ℕ). n < z) (ap (λ (j : ℕ). 128 ^ j) e ∙ pow-succ' 128 (k + 1)) f

smaller : (p n : ℕ) → n < 128 * p → n / 128 < p
smaller p n f = omega arith

one_less : (left n : ℕ) → 128 ≤ n → n < 128 ^ (left + 1) → (k : ℕ) × (left ≡ suc k) × (n / 128 < 128 ^ (k + 1))
one_less zero n h f = absurd (omega (arith, f))
one_less (suc k) n h f = (k, refl, smaller (128 ^ (k + 1)) n (power k n f))

pub groups_more : (number rest byte : ℕ) (old mid new : Sink) → 128 ≤ rest → byte ≡ rest % 128 + 128 → GroupsPut number rest old mid → AddsToSink mid new (byte ∷ []) → GroupsPut number (rest / 128) old new
groups_more number rest byte old mid new h e g w =
    let k = one_less g.left rest h g.fits in
    record {
      done = g.done ++ byte ∷ [];
      left = k.0;
      sent = sent_more old mid new g.done (byte ∷ []) g.sent w;
      whole = append_assoc g.done (byte ∷ []) (groups_of_seven_bits k.0 (rest / 128)) ∙ ap (λ (b : ℕ). g.done ++ b ∷ groups_of_seven_bits k.0 (rest / 128)) e ∙ ap (λ (z : List ℕ). g.done ++ z) (sym (groups_on k.0 rest h)) ∙ ap (λ (j : ℕ). g.done ++ groups_of_seven_bits j rest) (sym k.1) ∙ g.whole;
      fits = k.2;
    }

-- a failure at a group that is not the last
pub groups_break : (number rest byte : ℕ) (old mid new : Sink) → 128 ≤ rest → byte ≡ rest % 128 + 128 → GroupsPut number rest old mid → SinkFails mid new (byte ∷ []) → SinkFails old new (groups_of_seven_bits 9 number)
groups_break number rest byte old mid new h e g w =
    let k = one_less g.left rest h g.fits in
    let more = groups_of_seven_bits k.0 (rest / 128) in
    let whole : g.done ++ (byte ∷ more) ≡ groups_of_seven_bits 9 number = ap (λ (b : ℕ). g.done ++ b ∷ more) e ∙ ap (λ (z : List ℕ). g.done ++ z) (sym (groups_on k.0 rest h)) ∙ ap (λ (j : ℕ). g.done ++ groups_of_seven_bits j rest) (sym k.1) ∙ g.whole in
    subst (λ (z : List ℕ). SinkFails old new z) whole (sends_breaks old mid new g.done (byte ∷ more) g.sent (sends_stops mid new (byte ∷ []) more w))

-- the last group
pub groups_end : {E : Type 0} (number rest : ℕ) (old mid new : Sink) (r : Result (Unit {0}) E) → rest < 128 → GroupsPut number rest old mid → SendsText (rest ∷ []) r mid new → SendsText (groups_of_seven_bits 9 number) r old new
groups_end number rest old mid new r h g w =
    sends_same old new (g.done ++ rest ∷ []) (groups_of_seven_bits 9 number) r (ap (λ (z : List ℕ). g.done ++ z) (sym (groups_last g.left rest h)) ∙ g.whole) (sends_more old mid new g.done (rest ∷ []) r g.sent w)

-- PENDING GROUPS

-- `GroupsWait number rest before now size` holds if the low groups of a number are pending after `before`, and there is
-- room for the groups of `rest`.
pub record GroupsWait (number rest : ℕ) (before now : List ℕ) (size : ℕ) : Type 0 where
  pub left : ℕ
  pub whole : now ++ groups_of_seven_bits left rest ≡ before ++ groups_of_seven_bits 9 number
  pub room : length now + (left + 1) ≤ size
  pub fits : rest < 128 ^ (left + 1)

pub wait_none : (number : ℕ) (before : List ℕ) (size : ℕ) → number < 2 ^ 64 → length before + 10 ≤ size → GroupsWait number number before before size
wait_none number before size h r = record { left = 9; whole = refl; room = r; fits = omega arith }

one_longer : (xs ys : List ℕ) (byte k left size : ℕ) → ys ≡ xs ++ byte ∷ [] → left ≡ suc k → length xs + (left + 1) ≤ size → length ys + (k + 1) ≤ size
one_longer xs ys byte k left size e f r =
    let n : length ys ≡ length xs + 1 = ap (λ (z : List ℕ). length z) e ∙ length-append xs (byte ∷ []) in
    omega (arith, n, f, r)

pub wait_more : (number rest byte : ℕ) (before now new : List ℕ) (size : ℕ) → 128 ≤ rest → byte ≡ rest % 128 + 128 → GroupsWait number rest before now size → new ≡ now ++ byte ∷ [] → GroupsWait number (rest / 128) before new size
wait_more number rest byte before now new size h e g w =
    let k = one_less g.left rest h g.fits in
    record {
      left = k.0;
      whole = ap (λ (z : List ℕ). z ++ groups_of_seven_bits k.0 (rest / 128)) w ∙ append_assoc now (byte ∷ []) (groups_of_seven_bits k.0 (rest / 128)) ∙ ap (λ (b : ℕ). now ++ b ∷ groups_of_seven_bits k.0 (rest / 128)) e ∙ ap (λ (z : List ℕ). now ++ z) (sym (groups_on k.0 rest h)) ∙ ap (λ (j : ℕ). now ++ groups_of_seven_bits j rest) (sym k.1) ∙ g.whole;
      room = one_longer now new byte k.0 g.left size w k.1 g.room;
      fits = k.2;
    }

pub wait_end : (number rest : ℕ) (before now new : List ℕ) (size : ℕ) → rest < 128 → GroupsWait number rest before now size → new ≡ now ++ rest ∷ [] → new ≡ before ++ groups_of_seven_bits 9 number
wait_end number rest before now new size h g w = w ∙ ap (λ (z : List ℕ). now ++ z) (sym (groups_last g.left rest h)) ∙ g.whole

-- FEW GROUPS, as the first of four bytes

-- a number has one group, or one more
pub one_or_two : (n more : ℕ) → n < 16384 → more ≡ from_bool (nat_lt 0 (n / 128)) → groups_of_seven_bits 9 n ≡ take (1 + more) ((n % 128 + 128 * more) ∷ n / 128 ∷ 0 ∷ 0 ∷ [])
one_or_two n more h e = by_second (nat_lt 0 (n / 128)) refl ∙ ap (λ (m : ℕ). take (1 + m) ((n % 128 + 128 * m) ∷ n / 128 ∷ 0 ∷ 0 ∷ [])) (sym e)
  where
    by_second : (b : Bool) → nat_lt 0 (n / 128) ≡ b → groups_of_seven_bits 9 n ≡ take (1 + from_bool b) ((n % 128 + 128 * from_bool b) ∷ n / 128 ∷ 0 ∷ 0 ∷ [])
    by_second true e = let k : 0 < n / 128 = grind (arith, common_steps) in groups_on 8 n (omega arith) ∙ ap (λ (z : List ℕ). (n % 128 + 128) ∷ z) (groups_last 8 (n / 128) (omega arith))
    by_second false e =
        let k : n / 128 ≡ 0 = grind (arith, common_steps) in
        let low : n ≡ n % 128 + 0 = omega arith in
        groups_last 9 n (omega arith) ∙ ap (λ (m : ℕ). m ∷ []) low

-- a number has three groups, or one more
pub three_or_four : (n more : ℕ) → 16384 ≤ n → n < 268435456 → more ≡ from_bool (nat_lt 0 (n / 2097152))
    → groups_of_seven_bits 9 n ≡ take (3 + more) ((n % 128 + 128) ∷ (n / 128 % 128 + 128) ∷ (n / 16384 % 128 + 128 * more) ∷ n / 2097152 ∷ [])
three_or_four n more h l e =
    two ∙ ap (λ (z : List ℕ). (n % 128 + 128) ∷ (n / 128 % 128 + 128) ∷ z) (ap (groups_of_seven_bits 7) third) ∙ by_fourth (nat_lt 0 (n / 2097152)) refl
    ∙ ap (λ (m : ℕ). take (3 + m) ((n % 128 + 128) ∷ (n / 128 % 128 + 128) ∷ (n / 16384 % 128 + 128 * m) ∷ n / 2097152 ∷ [])) (sym e)
  where
    two : groups_of_seven_bits 9 n ≡ (n % 128 + 128) ∷ (n / 128 % 128 + 128) ∷ groups_of_seven_bits 7 (n / 128 / 128)
    two = groups_on 8 n (omega arith) ∙ ap (λ (z : List ℕ). (n % 128 + 128) ∷ z) (groups_on 7 (n / 128) (omega arith))

    third : n / 128 / 128 ≡ n / 16384
    third = omega arith

    fourth : n / 16384 / 128 ≡ n / 2097152
    fourth = omega arith

    by_fourth : (b : Bool) → nat_lt 0 (n / 2097152) ≡ b
        → (n % 128 + 128) ∷ (n / 128 % 128 + 128) ∷ groups_of_seven_bits 7 (n / 16384) ≡ take (3 + from_bool b) ((n % 128 + 128) ∷ (n / 128 % 128 + 128) ∷ (n / 16384 % 128 + 128 * from_bool b) ∷ n / 2097152 ∷ [])
    by_fourth true e =
        let k : 0 < n / 2097152 = grind (arith, common_steps) in
        let last : groups_of_seven_bits 7 (n / 16384) ≡ (n / 16384 % 128 + 128) ∷ n / 2097152 ∷ [] = groups_on 6 (n / 16384) (omega arith) ∙ ap (λ (z : List ℕ). (n / 16384 % 128 + 128) ∷ z) (ap (groups_of_seven_bits 6) fourth ∙ groups_last 6 (n / 2097152) (omega arith)) in
        ap (λ (z : List ℕ). (n % 128 + 128) ∷ (n / 128 % 128 + 128) ∷ z) last
    by_fourth false e =
        let k : n / 2097152 ≡ 0 = grind (arith, common_steps) in
        let low : n / 16384 ≡ n / 16384 % 128 + 0 = omega arith in
        let last : groups_of_seven_bits 7 (n / 16384) ≡ (n / 16384 % 128 + 0) ∷ [] = groups_last 7 (n / 16384) (omega arith) ∙ ap (λ (m : ℕ). m ∷ []) low in
        ap (λ (z : List ℕ). (n % 128 + 128) ∷ (n / 128 % 128 + 128) ∷ z) last

-- WHAT THE GROUPS SPELL

is_small : (n : ℕ) → nat_lt n 128 ≡ true → n < 128
is_small n h = grind (arith, common_steps)

is_large : (n : ℕ) → nat_lt n 128 ≡ false → 128 ≤ n
is_large n h = grind (arith, common_steps)

goes_on : (k n : ℕ) → 128 ≤ n → SpellsNumber (n / 128) (groups_of_seven_bits k (n / 128)) → SpellsNumber n (groups_of_seven_bits (suc k) n)
goes_on k n h i =
    let whole : n % 128 + 128 - 128 + 128 * (n / 128) ≡ n = omega arith in
    subst (SpellsNumber n) (sym (groups_on k n h)) (subst (λ (m : ℕ). SpellsNumber m ((n % 128 + 128) ∷ groups_of_seven_bits k (n / 128))) whole (group (n % 128 + 128) (n / 128) (groups_of_seven_bits k (n / 128)) (omega arith) (omega arith) (omega arith) i))

by_size : (k n : ℕ) (b : Bool) → nat_lt n 128 ≡ b → (128 ≤ n → SpellsNumber (n / 128) (groups_of_seven_bits k (n / 128))) → SpellsNumber n (groups_of_seven_bits (suc k) n)
by_size k n true e i = subst (SpellsNumber n) (sym (groups_last (suc k) n (is_small n e))) (is_small n e, refl)
by_size k n false e i = goes_on k n (is_large n e) (i (is_large n e))

spells_groups : (k n : ℕ) → n < 128 ^ (k + 1) → SpellsNumber n (groups_of_seven_bits k n)
spells_groups zero n h = let e : n < 128 = h in subst (SpellsNumber n) (sym (groups_last zero n e)) (e, refl)
spells_groups (suc k) n h = by_size k n (nat_lt n 128) refl (λ g. spells_groups k (n / 128) (smaller (128 ^ (k + 1)) n (power k n h)))

pub spells_number : (limit n : ℕ) → n < limit → limit ≤ 2 ^ 64 → SpellsNumberBelow limit n (groups_of_seven_bits 9 n)
spells_number limit n h k = (spells_groups 9 n (omega arith), h)

-- writing a number below the limit
pub number_writes : {E : Type 0} (limit m n : ℕ) (a b : Sink) (r : Result (Unit {0}) E) → m ≡ n → n < limit → limit ≤ 2 ^ 64 → SendsText (groups_of_seven_bits 9 m) r a b → SendsValue (SpellsNumberBelow limit) n (groups_of_seven_bits 9 n) r a b
number_writes limit m n a b (Ok u) e h k w = (subst (λ (j : ℕ). AddsToSink a b (groups_of_seven_bits 9 j)) e w, spells_number limit n h k)
number_writes limit m n a b (Err x) e h k w = subst (λ (j : ℕ). SinkFails a b (groups_of_seven_bits 9 j)) e w

-- a text in one format is a text in another, if it spells a value there
pub writes_as : {A B E : Type 0} (F : Format A) (G : Format B) (x : A) (y : B) (text : List ℕ) (a b : Sink) (r : Result (Unit {0}) E) → (F x text → G y text) → SendsValue F x text r a b → SendsValue G y text r a b
writes_as F G x y text a b (Ok u) f w = (w.0, f w.1)
writes_as F G x y text a b (Err e) f w = w

-- writing one value and then another
pub both_written : {A B E : Type 0} (F : Format A) (G : Format B) (x : A) (y : B) (s t : List ℕ) (a b c : Sink) (r : Result (Unit {0}) E) → AddsToSink a b s → F x s → SendsValue G y t r b c → SendsValue (Both F G) (x, y) (s ++ t) r a c
both_written F G x y s t a b c (Ok u) p f w = (sent_more a b c s t p w.0, (s, t, f, w.1, refl))
both_written F G x y s t a b c (Err e) p f w = sends_breaks a b c s t p w

-- writing the pending bytes after a value
pub writes_last : {A E : Type 0} (F : Format A) (x : A) (text : List ℕ) (a b c : Sink) (r : Result (Unit {0}) E) → AddsToSink a b text → F x text → SendsText [] r b c → SendsValue F x text r a c
writes_last F x text a b c (Ok u) p f w = (sends_last {E = Unit {0}} a b c text (Ok u) p w, f)
writes_last F x text a b c (Err e) p f w = sends_last a b c text (Err e) p w

pub sends_of : {A E : Type 0} (F : Format A) (x : A) (text : List ℕ) (a b : Sink) (r : Result (Unit {0}) E) → SendsValue F x text r a b → SendsText text r a b
sends_of F x text a b (Ok u) w = w.0
sends_of F x text a b (Err e) w = w
