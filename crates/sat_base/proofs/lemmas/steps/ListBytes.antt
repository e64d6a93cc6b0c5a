-- The bytes of lists, item by item.
use Rattle.std.proofs.Common.{◌≡◌, ℕ, ◌+◌, ◌*◌, ◌^◌, ◌<◌, ◌≤◌, List, [], ◌∷◌, ◌++◌, length, drop, get_or, suc, Bool, true, false, Option, None, Some, Result, Ok, Err, refl, sym, subst, ap, ◌∙◌, arith}
use Rattle.std.proofs.lemmas.List.{drop_all}
use Rattle.std.proofs.Math.Seq.{drop-cons}
use Rattle.sat_base.specs.values.Literals.{var_limit}
use Rattle.sat_base.specs.steps.Formats.{Items, Both, ListOf}
use Rattle.sat_base.specs.steps.Numbers.{SpellsNumberBelow}
use Rattle.sat_base.specs.steps.StepText.{SpellsOptionalVariable, SpellsLiteral, SpellsHash, SpellsFlag, SpellsDeletion, SpellsHashedLiterals, tag_of, SpellsFields, SpellsStep}
use Rattle.sat_base.specs.steps.StepBytes.{number_bytes, optional_bytes, flag_bytes, deletion_bytes, numbers_bytes, pairs_bytes, list_bytes, units_bytes, fields_bytes, step_bytes}
use Rattle.sat_base.specs.steps.Steps.{Step, Deletion}
use Rattle.sat_base.specs.device.Sink.{Sink, AddsToSink, SinkFails, SendsText, SendsValue}
use Rattle.sat_base.proofs.lemmas.device.Sending.{sent_more, sends_breaks}
use Rattle.sat_base.proofs.lemmas.steps.NumberBytes.{spells_number, number_writes, writes_as, both_written}

pub next_number : (ns : List ℕ) (i x d : ℕ) → i < length ns → x ≡ get_or ns i d → numbers_bytes (drop i ns) ≡ number_bytes x ++ numbers_bytes (drop (i + 1) ns)
next_number ns i x d h e =
    let n : suc i ≡ i + 1 = omega arith in
    ap numbers_bytes (drop-cons ns i d h) ∙ ap (λ (y : ℕ). number_bytes y ++ numbers_bytes (drop (suc i) ns)) (sym e) ∙ ap (λ (j : ℕ). number_bytes x ++ numbers_bytes (drop j ns)) n

pub last_number : (ns : List ℕ) (i : ℕ) → length ns ≤ i → numbers_bytes (drop i ns) ≡ []
last_number ns i h = ap numbers_bytes (drop_all i ns h)

pub next_pair : (ps : List (ℕ × ℕ)) (i : ℕ) (x d : ℕ × ℕ) → i < length ps → x ≡ get_or ps i d → pairs_bytes (drop i ps) ≡ (number_bytes x.0 ++ number_bytes x.1) ++ pairs_bytes (drop (i + 1) ps)
next_pair ps i x d h e =
    let n : suc i ≡ i + 1 = omega arith in
    ap pairs_bytes (drop-cons ps i d h) ∙ ap (λ (y : ℕ × ℕ). (number_bytes y.0 ++ number_bytes y.1) ++ pairs_bytes (drop (suc i) ps)) (sym e)
    ∙ ap (λ (j : ℕ). (number_bytes x.0 ++ number_bytes x.1) ++ pairs_bytes (drop j ps)) n

pub last_pair : (ps : List (ℕ × ℕ)) (i : ℕ) → length ps ≤ i → pairs_bytes (drop i ps) ≡ []
last_pair ps i h = ap pairs_bytes (drop_all i ps h)

-- WHAT THE BYTES SPELL

items_of : (limit : ℕ) (ns : List ℕ) → limit ≤ 2 ^ 64 → ((k : ℕ) → k < length ns → get_or ns k 0 < limit) → Items (SpellsNumberBelow limit) ns (numbers_bytes ns)
items_of limit [] h f = refl
items_of limit (n ∷ ns) h f = (number_bytes n, numbers_bytes ns, spells_number limit n (f 0 (omega arith)) h, items_of limit ns h (λ k i. f (suc k) (omega arith)), refl)

pub spells_list : (limit : ℕ) (ns : List ℕ) → limit ≤ 2 ^ 64 → length ns < 2 ^ 64 → ((k : ℕ) → k < length ns → get_or ns k 0 < limit) → ListOf (SpellsNumberBelow (2 ^ 64)) (SpellsNumberBelow limit) ns (list_bytes ns)
spells_list limit ns h l f = (number_bytes (length ns), numbers_bytes ns, spells_number (2 ^ 64) (length ns) l (omega arith), items_of limit ns h f, refl)

spells_pair : (p : ℕ × ℕ) → p.0 < 2 * var_limit → p.1 < 2 ^ 64 → Both SpellsLiteral SpellsHash p (number_bytes p.0 ++ number_bytes p.1)
spells_pair p h k = (number_bytes p.0, number_bytes p.1, spells_number (2 * var_limit) p.0 h (omega arith), spells_number (2 ^ 64) p.1 k (omega arith), refl)

pairs_of : (ps : List (ℕ × ℕ)) → ((k : ℕ) → k < length ps → ((get_or ps k (0, 0)).0 < 2 * var_limit) × ((get_or ps k (0, 0)).1 < 2 ^ 64)) → Items (Both SpellsLiteral SpellsHash) ps (pairs_bytes ps)
pairs_of [] f = refl
pairs_of (p ∷ ps) f = let h = f 0 (omega arith) in (number_bytes p.0 ++ number_bytes p.1, pairs_bytes ps, spells_pair p h.0 h.1, pairs_of ps (λ k i. f (suc k) (omega arith)), refl)

pub spells_units : (ps : List (ℕ × ℕ)) → length ps < 2 ^ 64 → ((k : ℕ) → k < length ps → ((get_or ps k (0, 0)).0 < 2 * var_limit) × ((get_or ps k (0, 0)).1 < 2 ^ 64)) → SpellsHashedLiterals ps (units_bytes ps)
spells_units ps l f = (number_bytes (length ps), pairs_bytes ps, spells_number (2 ^ 64) (length ps) l (omega arith), pairs_of ps f, refl)

-- A STEP: its tag, and its fields
pub step_writes : {E : Type 0} (step : Step) (tag : ℕ) (a b c : Sink) (r : Result (Unit {0}) E) → tag ≡ tag_of step → AddsToSink a b (tag ∷ []) → SendsValue SpellsFields step (fields_bytes step) r b c → SendsValue SpellsStep step (step_bytes step) r a c
step_writes step tag a b c (Ok u) e p w = (subst (λ (n : ℕ). AddsToSink a c (n ∷ fields_bytes step)) e (sent_more a b c (tag ∷ []) (fields_bytes step) p w.0), (fields_bytes step, refl, w.1))
step_writes step tag a b c (Err x) e p w = subst (λ (n : ℕ). SinkFails a c (n ∷ fields_bytes step)) e (sends_breaks a b c (tag ∷ []) (fields_bytes step) p w)

-- FLAGS, DELETION PROOFS, OPTIONAL VARIABLES AND UNITS
pub flag_writes : {E : Type 0} (flag : Bool) (a b : Sink) (r : Result (Unit {0}) E) → flag ≡ true → SendsText (number_bytes 1) r a b → SendsValue SpellsFlag flag (flag_bytes flag) r a b
flag_writes flag a b r e w = subst (λ (z : Bool). SendsValue SpellsFlag z (flag_bytes z) r a b) (sym e) (writes_as (SpellsNumberBelow 2) SpellsFlag 1 true (number_bytes 1) a b r (λ h. h) (number_writes 2 1 1 a b r refl (omega arith) (omega arith) w))

pub no_flag_writes : {E : Type 0} (flag : Bool) (a b : Sink) (r : Result (Unit {0}) E) → flag ≡ false → SendsText (number_bytes 0) r a b → SendsValue SpellsFlag flag (flag_bytes flag) r a b
no_flag_writes flag a b r e w = subst (λ (z : Bool). SendsValue SpellsFlag z (flag_bytes z) r a b) (sym e) (writes_as (SpellsNumberBelow 2) SpellsFlag 0 false (number_bytes 0) a b r (λ h. h) (number_writes 2 0 0 a b r refl (omega arith) (omega arith) w))

pub deletion_writes : {E : Type 0} (d e : Deletion) (n : ℕ) (a b : Sink) (r : Result (Unit {0}) E) → d ≡ e → n < 3 → deletion_bytes e ≡ number_bytes n → (SpellsNumberBelow 3 n (number_bytes n) → SpellsDeletion e (number_bytes n)) → SendsText (number_bytes n) r a b → SendsValue SpellsDeletion d (deletion_bytes d) r a b
deletion_writes d e n a b r h k t f w =
    subst (λ (z : Deletion). SendsValue SpellsDeletion z (deletion_bytes z) r a b) (sym h) (subst (λ (z : List ℕ). SendsValue SpellsDeletion e z r a b) (sym t) (writes_as (SpellsNumberBelow 3) SpellsDeletion n e (number_bytes n) a b r f (number_writes 3 n n a b r refl k (omega arith) w)))

pub none_writes : {E : Type 0} (o : Option ℕ) (a b : Sink) (r : Result (Unit {0}) E) → o ≡ None → SendsText (number_bytes 0) r a b → SendsValue SpellsOptionalVariable o (optional_bytes o) r a b
none_writes o a b r h w =
    subst (λ (z : Option ℕ). SendsValue SpellsOptionalVariable z (optional_bytes z) r a b) (sym h) (writes_as (SpellsNumberBelow (var_limit + 1)) SpellsOptionalVariable 0 None (number_bytes 0) a b r (λ i. i) (number_writes (var_limit + 1) 0 0 a b r refl (omega arith) (omega arith) w))

pub some_writes : {E : Type 0} (o : Option ℕ) (v m : ℕ) (a b : Sink) (r : Result (Unit {0}) E) → o ≡ Some v → m ≡ v → m < var_limit → SendsText (number_bytes (m + 1)) r a b → SendsValue SpellsOptionalVariable o (optional_bytes o) r a b
some_writes o v m a b r h e l w =
    subst (λ (z : Option ℕ). SendsValue SpellsOptionalVariable z (optional_bytes z) r a b) (sym h)
    (writes_as (SpellsNumberBelow (var_limit + 1)) SpellsOptionalVariable (v + 1) (Some v) (number_bytes (v + 1)) a b r (λ i. i) (number_writes (var_limit + 1) (m + 1) (v + 1) a b r (ap (λ (n : ℕ). n + 1) e) (omega arith) (omega arith) w))

pub unit_writes : {E : Type 0} (u : ℕ × ℕ) (code : ℕ) (a b c : Sink) (r : Result (Unit {0}) E) → code ≡ u.0 → code < 2 * var_limit → u.1 < 2 ^ 64 → AddsToSink a b (number_bytes code) → SendsText (number_bytes u.1) r b c → SendsValue (Both SpellsLiteral SpellsHash) u (number_bytes u.0 ++ number_bytes u.1) r a c
unit_writes u code a b c r e l h p w =
    both_written SpellsLiteral SpellsHash u.0 u.1 (number_bytes u.0) (number_bytes u.1) a b c r (subst (λ (n : ℕ). AddsToSink a b (number_bytes n)) e p) (spells_number (2 * var_limit) u.0 (omega arith) (omega arith)) (number_writes (2 ^ 64) u.1 u.1 b c r refl h (omega arith) w)
