-- Every place of a line can be completed, and the bytes that lead to a place can be followed by what completes it.
use Rattle.std.proofs.Common.{ℕ, zero, suc, ◌+◌, ◌-◌, ◌*◌, ◌/◌, ◌^◌, ◌<◌, ◌≤◌, ◌≡◌, Bool, true, false, cond, eqb, Option, None, Some, List, [], ◌∷◌, ◌++◌, decimal, refl, sym, ◌∙◌, ap, subst, arith, append_assoc, if◌then◌else◌}
use Rattle.std.proofs.lemmas.Bool.{eqb-true}
use Rattle.std.proofs.lemmas.Fmt.{decimal_digit}
use Rattle.sat_base.specs.values.Literals.{var_limit, is_positive}
use Rattle.sat_base.specs.dimacs.DimacsText.{number_text}
use Rattle.sat_base.specs.text.NumberWords.{IsNumberUpTo, digits_so_far}
use Rattle.sat_base.proofs.lemmas.text.NumberWords.{so_far}
use Rattle.sat_hints.specs.Lines.{Line, Input, Derived, Removed, Core, Fresh, SpellsLine, id_text, id_words, literal_words}
use Rattle.sat_hints.specs.inner.Prefixes.{limit_of, next_of, letter_place, zero_place, sign_place, IsNumberThen, IsPartOfLine, IsRestOfLine, IsWithinLimit, ReachesPlace}
use Rattle.sat_hints.specs.declared.prefixes.Part.{Part}
use Rattle.sat_hints.specs.declared.prefixes.Part.TheVariants.{InputId, DerivedId, RemovedId, FreshVar, Clause, Lists, Ids, End}
use Rattle.sat_hints.specs.declared.prefixes.Place.{Place}
use Rattle.sat_hints.specs.declared.prefixes.Place.TheVariants.{Letter, Space, Item, Digits, Over}

abbrev end : List ℕ
end = 48 ∷ 10 ∷ []

-- bytes, and then more bytes
pub reaches_on : (from here : Place) (to : Option Place) (xs ys : List ℕ) → ReachesPlace from xs (Some here) → ReachesPlace here ys to → ReachesPlace from (xs ++ ys) to
reaches_on from here None xs ys h k = tt
reaches_on from here (Some to) xs ys h k = λ w.
    let a = h w in
    let b = k a.0 in
    (b.0, λ more r. subst (IsRestOfLine from) (sym (append_assoc xs ys more)) (a.1 (ys ++ more) (b.1 more r)))

pub reaches_none : (place : Place) → ReachesPlace place [] (Some place)
reaches_none place = λ w. (w, λ more r. r)

-- LITERALS AND IDS WITH A GIVEN NUMBER
abbrev positive : ℕ → ℕ
positive v = 2 * (v - 1)

abbrev negative : ℕ → ℕ
negative v = 2 * (v - 1) + 1

positive_text : (v : ℕ) → 1 ≤ v → number_text (positive v) ≡ decimal v
positive_text v h =
    let p : is_positive (positive v) ≡ true = grind arith in
    let q : positive v / 2 + 1 ≡ v = omega arith in
    ap (λ s. cond s [] (45 ∷ []) ++ decimal (positive v / 2 + 1)) p ∙ ap decimal q

negative_text : (v : ℕ) → 1 ≤ v → number_text (negative v) ≡ 45 ∷ decimal v
negative_text v h =
    let p : is_positive (negative v) ≡ false = grind arith in
    let q : negative v / 2 + 1 ≡ v = omega arith in
    ap (λ s. cond s [] (45 ∷ []) ++ decimal (negative v / 2 + 1)) p ∙ ap (λ n. 45 ∷ decimal n) q

-- a literal before further literals
literal_first : (l : ℕ) (text ls rest tail : List ℕ) → number_text l ≡ text → rest ≡ literal_words ls ++ tail → text ++ (32 ∷ rest) ≡ literal_words (l ∷ ls) ++ tail
literal_first l text ls rest tail e f = ap (λ t. t ++ (32 ∷ rest)) (sym e) ∙ ap (λ t. number_text l ++ (32 ∷ t)) f ∙ sym (append_assoc (number_text l) (32 ∷ literal_words ls) tail)

id_first_of : (v : ℕ) (ids rest tail : List ℕ) → 1 ≤ v → rest ≡ id_words ids ++ tail → decimal v ++ (32 ∷ rest) ≡ id_words ((v - 1) ∷ ids) ++ tail
id_first_of v ids rest tail h f =
    let e : v ≡ v - 1 + 1 = omega arith in
    ap (λ n. decimal n ++ (32 ∷ rest)) e ∙ ap (λ t. id_text (v - 1) ++ (32 ∷ t)) f ∙ sym (append_assoc (id_text (v - 1)) (32 ∷ id_words ids) tail)

-- A PART THAT BEGINS WITH A NUMBER
clause_of : (l : ℕ) (text rest bytes : List ℕ) → l < 2 * var_limit → number_text l ≡ text → bytes ≡ text ++ (32 ∷ rest) → IsPartOfLine Clause rest → IsPartOfLine Clause bytes
clause_of l text rest bytes p e f (ls, o) = (l ∷ ls, ((p, o.0), f ∙ literal_first l text ls rest end e o.1))

lists_of : (l : ℕ) (text rest bytes : List ℕ) → l < 2 * var_limit → number_text l ≡ text → bytes ≡ text ++ (32 ∷ rest) → IsPartOfLine Lists rest → IsPartOfLine Lists bytes
lists_of l text rest bytes p e f (ls, ids, o) = (l ∷ ls, ids, ((p, o.0), o.1, f ∙ literal_first l text ls rest (48 ∷ 32 ∷ (id_words ids ++ end)) e o.2))

ids_of : (v : ℕ) (rest bytes : List ℕ) → IsNumberUpTo (2 ^ 64 - 1) v → bytes ≡ decimal v ++ (32 ∷ rest) → IsPartOfLine Ids rest → IsPartOfLine Ids bytes
ids_of v rest bytes w f (ids, are, e) = ((v - 1) ∷ ids, ((let a = w.0 in let b = w.1 in omega arith), are), f ∙ id_first_of v ids rest end w.0 e)

number_first : (part : Part) (bytes : List ℕ) → (part ≡ End → ⊥) → IsNumberThen (limit_of part) (IsPartOfLine (next_of part)) 0 bytes → IsPartOfLine part bytes
number_first InputId bytes h n = n
number_first DerivedId bytes h n = n
number_first RemovedId bytes h n = n
number_first FreshVar bytes h n = n
number_first Clause bytes h n = let w = n.within in let a = w.0 in let b = w.1 in clause_of (positive n.value) (decimal n.value) n.rest bytes (omega arith) (positive_text n.value a) n.whole n.following
number_first Lists bytes h n = let w = n.within in let a = w.0 in let b = w.1 in lists_of (positive n.value) (decimal n.value) n.rest bytes (omega arith) (positive_text n.value a) n.whole n.following
number_first Ids bytes h n = ids_of n.value n.rest bytes n.within n.whole n.following
number_first End bytes h n = absurd (h refl)

-- THE FIRST BYTE OF A PART
pub reaches_zero : (part : Part) → ReachesPlace (Item part) (48 ∷ []) (zero_place part)
reaches_zero InputId = tt
reaches_zero DerivedId = tt
reaches_zero RemovedId = tt
reaches_zero FreshVar = tt
reaches_zero Clause = λ w. (tt, λ more e. ([], (tt, ap (λ t. 48 ∷ t) e)))
reaches_zero Lists = λ w. (tt, λ more r. go more r.0 r.1 r.2)
  where
    go : (more rest : List ℕ) → more ≡ 32 ∷ rest → IsPartOfLine Ids rest → IsPartOfLine Lists (48 ∷ more)
    go more rest e (ids, are, f) = ([], ids, (tt, are, ap (λ t. 48 ∷ t) (e ∙ ap (λ t. 32 ∷ t) f)))
reaches_zero Ids = λ w. (tt, λ more e. ([], tt, ap (λ t. 48 ∷ t) e))
reaches_zero End = λ w. (tt, λ more e. ap (λ t. 48 ∷ t) e)

pub reaches_sign : (part : Part) → ReachesPlace (Item part) (45 ∷ []) (sign_place part)
reaches_sign InputId = tt
reaches_sign DerivedId = tt
reaches_sign RemovedId = tt
reaches_sign FreshVar = tt
reaches_sign Clause = λ w. (omega arith, λ more n. let k = n.within in let a = k.0 in let b = k.1 in clause_of (negative n.value) (45 ∷ decimal n.value) n.rest (45 ∷ more) (omega arith) (negative_text n.value a) (ap (λ t. 45 ∷ t) n.whole) n.following)
reaches_sign Lists = λ w. (omega arith, λ more n. let k = n.within in let a = k.0 in let b = k.1 in lists_of (negative n.value) (45 ∷ decimal n.value) n.rest (45 ∷ more) (omega arith) (negative_text n.value a) (ap (λ t. 45 ∷ t) n.whole) n.following)
reaches_sign Ids = tt
reaches_sign End = tt

pub reaches_digit : (part : Part) (b : ℕ) (to : Option Place) → (part ≡ End → ⊥) → ReachesPlace (Digits part 0) (b ∷ []) to → ReachesPlace (Item part) (b ∷ []) to
reaches_digit part b None h k = tt
reaches_digit part b (Some to) h k = λ w. let r = k (omega arith) in (r.0, λ more m. number_first part (b ∷ more) h (r.1 more m))

-- A BYTE OF A NUMBER, AND THE SPACE AFTER IT
pub reaches_end : (part : Part) (number : ℕ) → 0 < number → ReachesPlace (Digits part number) (32 ∷ []) (Some (Item (next_of part)))
reaches_end part number some = λ w. (
  tt,
  λ more r. record {
    value = number;
    rest = more;
    within = (omega arith, w);
    whole = ap (λ ds. ds ++ (32 ∷ more)) (so_far number (omega arith));
    following = r;
  },
)

pub reaches_more : (part : Part) (number b m : ℕ) → IsNumberUpTo (limit_of part) m → decimal m ≡ digits_so_far number ++ (b ∷ []) → ReachesPlace (Digits part number) (b ∷ []) (Some (Digits part m))
reaches_more part number b m within e = λ w. (
  within.1,
  λ more n. record {
    value = n.value;
    rest = n.rest;
    within = n.within;
    whole = sym (append_assoc (digits_so_far number) (b ∷ []) more) ∙ ap (λ ds. ds ++ more) (sym (so_far m within.0 ∙ e)) ∙ n.whole;
    following = n.following;
  },
)

pub reaches_part : (part : Part) → ReachesPlace (Space part) (32 ∷ []) (Some (Item part))
reaches_part part = λ w. (tt, λ more r. (more, refl, r))

-- THE LETTER
-- an id, and then the rest of a line
id_then : (v : ℕ) (rest text : List ℕ) → 1 ≤ v → rest ≡ text → decimal v ++ (32 ∷ rest) ≡ id_words ((v - 1) ∷ []) ++ text
id_then v rest text h e = id_first_of v [] rest text h e

derived_line : (bytes : List ℕ) → IsPartOfLine DerivedId bytes → (line : Line) × SpellsLine (100 ∷ 32 ∷ bytes) line
derived_line bytes n = go n.following
  where
    go : IsPartOfLine Lists n.rest → (line : Line) × SpellsLine (100 ∷ 32 ∷ bytes) line
    go (ls, ids, o) =
        let a = n.within.0 in
        let b = n.within.1 in
        (Derived (n.value - 1) ls ids, (((omega arith, tt), o.0, o.1), ap (λ t. 100 ∷ 32 ∷ t) (n.whole ∙ id_then n.value n.rest (literal_words ls ++ (48 ∷ 32 ∷ (id_words ids ++ end))) a o.2)))

input_line : (bytes : List ℕ) → IsPartOfLine InputId bytes → (line : Line) × SpellsLine (105 ∷ 32 ∷ bytes) line
input_line bytes n = go n.following
  where
    go : IsPartOfLine Clause n.rest → (line : Line) × SpellsLine (105 ∷ 32 ∷ bytes) line
    go (ls, o) =
        let a = n.within.0 in
        let b = n.within.1 in
        (Input (n.value - 1) ls, (((omega arith, tt), o.0), ap (λ t. 105 ∷ 32 ∷ t) (n.whole ∙ id_then n.value n.rest (literal_words ls ++ end) a o.1)))

gone_line : (bytes : List ℕ) → IsPartOfLine RemovedId bytes → (line : Line) × SpellsLine (120 ∷ 32 ∷ bytes) line
gone_line bytes n =
    let a = n.within.0 in
    let b = n.within.1 in
    (Removed (n.value - 1), ((omega arith, tt), ap (λ t. 120 ∷ 32 ∷ t) (n.whole ∙ id_then n.value n.rest end a n.following)))

fresh_line : (bytes : List ℕ) → IsPartOfLine FreshVar bytes → (line : Line) × SpellsLine (101 ∷ 32 ∷ bytes) line
fresh_line bytes n =
    let a = n.within.0 in
    let b = n.within.1 in
    (Fresh (n.value - 1), ((omega arith, tt), ap (λ t. 101 ∷ 32 ∷ t) (n.whole ∙ id_then n.value n.rest end a n.following)))

core_line : (bytes : List ℕ) → IsPartOfLine Lists bytes → (line : Line) × SpellsLine (102 ∷ 32 ∷ bytes) line
core_line bytes (ls, ids, o) = (Core ls ids, ((o.0, o.1), ap (λ t. 102 ∷ 32 ∷ t) o.2))

reaches_space : (letter : ℕ) (part : Part) → ((bytes : List ℕ) → IsPartOfLine part bytes → (line : Line) × SpellsLine (letter ∷ 32 ∷ bytes) line) → ReachesPlace Letter (letter ∷ []) (Some (Space part))
reaches_space letter part h = λ w. (tt, λ more r. subst (λ t. (line : Line) × SpellsLine (letter ∷ t) line) (sym r.1) (h r.0 r.2))

choose : (s : Bool) (b letter : ℕ) (p q : Option Place) → eqb b letter ≡ s → ReachesPlace Letter (letter ∷ []) p → ReachesPlace Letter (b ∷ []) q → ReachesPlace Letter (b ∷ []) (if s then p else q)
choose true b letter p q e h k = subst (λ x. ReachesPlace Letter (x ∷ []) p) (sym (eqb-true b letter e)) h
choose false b letter p q e h k = k

pub reaches_letter : (b : ℕ) → ReachesPlace Letter (b ∷ []) (letter_place b)
reaches_letter b =
    choose (eqb b 100) b 100 _ _ refl (reaches_space 100 DerivedId derived_line)
    (choose (eqb b 120) b 120 _ _ refl (reaches_space 120 RemovedId gone_line)
    (choose (eqb b 105) b 105 _ _ refl (reaches_space 105 InputId input_line)
    (choose (eqb b 102) b 102 _ _ refl (reaches_space 102 Lists core_line)
    (choose (eqb b 101) b 101 _ _ refl (reaches_space 101 FreshVar fresh_line) tt))))

-- EVERY PLACE CAN BE COMPLETED
abbrev Completes : Place → Type 0
Completes place = (b : ℕ) × (more : List ℕ) × IsRestOfLine place (b ∷ more)

abbrev CompletesPart : Part → Type 0
CompletesPart part = (b : ℕ) × (more : List ℕ) × IsPartOfLine part (b ∷ more)

one_text : decimal 1 ≡ 49 ∷ []
one_text = decimal_digit 1 (omega arith)

-- the number 1, and then the rest of the part
one_more : (limit : ℕ) (Rest : List ℕ → Type 0) (b : ℕ) (more : List ℕ) → 1 ≤ limit → Rest (b ∷ more) → IsNumberThen limit Rest 0 (49 ∷ 32 ∷ b ∷ more)
one_more limit Rest b more h r = record { value = 1; rest = b ∷ more; within = (omega arith, h); whole = ap (λ ds. ds ++ (32 ∷ b ∷ more)) (sym one_text); following = r }

part_completes : (part : Part) → CompletesPart part
part_completes InputId = (49, 32 ∷ end, one_more _ _ 48 (10 ∷ []) (omega arith) ([], (tt, refl)))
part_completes DerivedId = (49, 32 ∷ 48 ∷ 32 ∷ end, one_more _ _ 48 (32 ∷ end) (omega arith) ([], [], (tt, tt, refl)))
part_completes RemovedId = (49, 32 ∷ end, one_more _ _ 48 (10 ∷ []) (omega arith) refl)
part_completes FreshVar = (49, 32 ∷ end, one_more _ _ 48 (10 ∷ []) (omega arith) refl)
part_completes Clause = (48, 10 ∷ [], ([], (tt, refl)))
part_completes Lists = (48, 32 ∷ end, ([], [], (tt, tt, refl)))
part_completes Ids = (48, 10 ∷ [], ([], tt, refl))
part_completes End = (48, 10 ∷ [], refl)

least_limit : (part : Part) → 1 ≤ limit_of part
least_limit End = omega arith
least_limit e = omega arith

digits_complete : (part : Part) (number : ℕ) → number ≤ limit_of part → Completes (Digits part number)
digits_complete part zero w = let c = part_completes (next_of part) in (49, 32 ∷ c.0 ∷ c.1, one_more (limit_of part) (IsPartOfLine (next_of part)) c.0 c.1 (least_limit part) c.2)
digits_complete part (suc n) w = let c = part_completes (next_of part) in (32, c.0 ∷ c.1, record { value = suc n; rest = c.0 ∷ c.1; within = (omega arith, w); whole = refl; following = c.2 })

-- every place within its limit is completed by some bytes
pub completes : (place : Place) → IsWithinLimit place → Completes place
completes Letter w = (120, 32 ∷ 49 ∷ 32 ∷ end, (Removed 0, ((omega arith, tt), ap (λ ds. 120 ∷ 32 ∷ ((ds ++ (32 ∷ [])) ++ end)) (sym one_text))))
completes (Space part) w = let c = part_completes part in (32, c.0 ∷ c.1, (c.0 ∷ c.1, refl, c.2))
completes (Item part) w = part_completes part
completes (Digits part number) w = digits_complete part number w
completes Over w = (10, [], refl)
