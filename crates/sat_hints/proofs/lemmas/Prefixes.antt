-- Which bytes can follow at every place of a line.
use Rattle.std.proofs.Common.{ℕ, ◌+◌, ◌/◌, ◌^◌, ◌<◌, ◌≡◌, Bool, true, false, cond, Option, None, Some, List, [], ◌∷◌, ◌++◌, decimal, refl, sym, ◌∙◌, ap, subst, arith, append_assoc}
use Rattle.std.proofs.lemmas.Fmt.{decimal_nonempty, first_decimal}
use Rattle.sat_base.specs.values.Literals.{var_limit, is_positive}
use Rattle.sat_base.specs.dimacs.DimacsText.{number_text}
use Rattle.sat_hints.specs.Lines.{HasNoLf, id_text, id_words, literal_words}
use Rattle.sat_hints.specs.inner.LineReading.{IsLiteralCode}
use Rattle.sat_base.specs.text.NumberWords.{IsNumberUpTo, NoNumberContinues, digits_so_far}
use Rattle.sat_hints.specs.inner.Prefixes.{limit_of, next_of, zero_place, sign_place, IsNumberThen, IsPartOfLine, IsRestOfLine, IsRestOfLineFrom, LeadsToPlace}
use Rattle.sat_hints.specs.declared.prefixes.Part.{Part}
use Rattle.sat_hints.specs.declared.prefixes.Part.TheVariants.{Clause, Lists, Ids, End}
use Rattle.sat_hints.specs.declared.prefixes.Place.{Place}
use Rattle.sat_hints.specs.declared.prefixes.Place.TheVariants.{Item, Digits}
use Rattle.sat_base.proofs.lemmas.text.NumberWords.{number_goes_on, plain_number, plain_so_far, so_far}
use Rattle.sat_hints.proofs.lemmas.Words.{no_sign}
use Rattle.sat_base.proofs.lemmas.text.NumberWords.{at_space, id_first}

abbrev end : List ℕ
end = 48 ∷ 10 ∷ []

-- every limit of a part fits into 64 bits
pub limit_fits : (part : Part) → limit_of part < 2 ^ 64
limit_fits End = omega arith
limit_fits e = omega arith

-- `Turn part bytes` holds if the part begins with a number, with `-` and a number, or with `0`.
data Turn (part : Part) (bytes : List ℕ) : Type 0 where
  begun : IsNumberThen (limit_of part) (IsPartOfLine (next_of part)) 0 bytes → Turn part bytes
  negative : (rest : List ℕ) → bytes ≡ 45 ∷ rest → IsRestOfLineFrom (sign_place part) rest → Turn part bytes
  last : (rest : List ℕ) → bytes ≡ 48 ∷ rest → IsRestOfLineFrom (zero_place part) rest → Turn part bytes

-- `Signed Rest bytes` holds if the bytes begin with a literal and a space, and `Rest` holds of what follows.
data Signed (Rest : List ℕ → Type 0) (bytes : List ℕ) : Type 0 where
  plain : IsNumberThen var_limit Rest 0 bytes → Signed Rest bytes
  minus : (rest : List ℕ) → bytes ≡ 45 ∷ rest → IsNumberThen var_limit Rest 0 rest → Signed Rest bytes

signed : (Rest : List ℕ → Type 0) (l : ℕ) (rest bytes : List ℕ) → IsLiteralCode l → bytes ≡ number_text l ++ (32 ∷ rest) → Rest rest → Signed Rest bytes
signed Rest l rest bytes p e r = go (is_positive l) e
  where
    go : (s : Bool) → bytes ≡ (cond s [] (45 ∷ []) ++ decimal (l / 2 + 1)) ++ (32 ∷ rest) → Signed Rest bytes
    go true e = plain (record { value = l / 2 + 1; rest = rest; within = (omega arith, omega arith); whole = e; following = r })
    go false e = minus (decimal (l / 2 + 1) ++ (32 ∷ rest)) e (record { value = l / 2 + 1; rest = rest; within = (omega arith, omega arith); whole = refl; following = r })

clause_turn : (bytes : List ℕ) → Signed (IsPartOfLine Clause) bytes → Turn Clause bytes
clause_turn bytes (plain w) = begun w
clause_turn bytes (minus rest e w) = negative rest e w

lists_turn : (bytes : List ℕ) → Signed (IsPartOfLine Lists) bytes → Turn Lists bytes
lists_turn bytes (plain w) = begun w
lists_turn bytes (minus rest e w) = negative rest e w

turn : (part : Part) (bytes : List ℕ) → IsPartOfLine part bytes → Turn part bytes
turn Clause bytes ([], o) = last (10 ∷ []) o.1 refl
turn Clause bytes (l ∷ ls, o) = clause_turn bytes (signed (IsPartOfLine Clause) l (literal_words ls ++ end) bytes o.0.0 (o.1 ∙ append_assoc (number_text l) (32 ∷ literal_words ls) end) (ls, (o.0.1, refl)))
turn Lists bytes ([], ids, o) = last (32 ∷ (id_words ids ++ end)) o.2 (id_words ids ++ end, refl, (ids, o.1, refl))
turn Lists bytes (l ∷ ls, ids, o) =
    let tail : List ℕ = 48 ∷ 32 ∷ (id_words ids ++ end) in
    lists_turn bytes (signed (IsPartOfLine Lists) l (literal_words ls ++ tail) bytes o.0.0 (o.2 ∙ append_assoc (number_text l) (32 ∷ literal_words ls) tail) (ls, ids, (o.0.1, o.1, refl)))
turn Ids bytes ([], are, e) = last (10 ∷ []) e refl
turn Ids bytes (i ∷ is, are, e) = begun (record { value = i + 1; rest = id_words is ++ end; within = (omega arith, let k = are.0 in omega arith); whole = e ∙ append_assoc (id_text i) (32 ∷ id_words is) end; following = (is, are.1, refl) })
turn End bytes e = last (10 ∷ []) e refl
turn x bytes h = begun h

-- no number begins with `0`
not_zero : (part : Part) (Rest : List ℕ → Type 0) (more : List ℕ) → IsNumberThen (limit_of part) Rest 0 (48 ∷ more) → ⊥
not_zero part Rest more w =
    let f = limit_fits part in
    let k = w.within in
    let small : w.value < 2 ^ 64 = omega arith in
    id_first (decimal w.value) more w.rest (decimal_nonempty w.value small) (first_decimal w.value k.0 small) w.whole

pub leads_zero : (part : Part) → LeadsToPlace (Item part) (48 ∷ []) (zero_place part)
leads_zero part more h = go (turn part (48 ∷ more) h)
  where
    go : Turn part (48 ∷ more) → IsRestOfLineFrom (zero_place part) more
    go (begun w) = absurd (not_zero part (IsPartOfLine (next_of part)) more w)
    go (negative rest e w) = absurd (let r : ◌≡◌ {A = ℕ} 48 45 = cc in omega arith)
    go (last rest e w) = let r : rest ≡ more = cc in subst (IsRestOfLineFrom (zero_place part)) r w

pub leads_sign : (part : Part) → LeadsToPlace (Item part) (45 ∷ []) (sign_place part)
leads_sign part more h = go (turn part (45 ∷ more) h)
  where
    go : Turn part (45 ∷ more) → IsRestOfLineFrom (sign_place part) more
    go (begun w) = absurd (let f = limit_fits part in let k = w.within in no_sign w.value w.rest more (omega arith) (sym w.whole))
    go (negative rest e w) = let r : rest ≡ more = cc in subst (IsRestOfLineFrom (sign_place part)) r w
    go (last rest e w) = absurd (let r : ◌≡◌ {A = ℕ} 45 48 = cc in omega arith)

-- any other byte begins a number
pub leads_digit : (part : Part) (b : ℕ) (to : Option Place) → (b ≡ 48 → ⊥) → (b ≡ 45 → ⊥) → LeadsToPlace (Digits part 0) (b ∷ []) to → LeadsToPlace (Item part) (b ∷ []) to
leads_digit part b to no_zero no_minus leads more h = go (turn part (b ∷ more) h)
  where
    go : Turn part (b ∷ more) → IsRestOfLineFrom to more
    go (begun w) = leads more w
    go (negative rest e w) = absurd (no_minus (let r : b ≡ 45 = cc in r))
    go (last rest e w) = absurd (no_zero (let r : b ≡ 48 = cc in r))

-- a space ends a number
pub number_ends : (part : Part) (number : ℕ) → number < 2 ^ 64 → 0 < number → LeadsToPlace (Digits part number) (32 ∷ []) (Some (Item (next_of part)))
number_ends part number small more_than more w =
    let f = limit_fits part in
    let k = w.within in
    let e = at_space (digits_so_far number) (decimal w.value) more w.rest (plain_so_far number small) (plain_number w.value (omega arith)) w.whole in
    subst (IsPartOfLine (next_of part)) (sym e.1) w.following

-- a further digit
pub number_goes : (part : Part) (number b m : ℕ) → IsNumberUpTo (limit_of part) m → decimal m ≡ digits_so_far number ++ (b ∷ []) → LeadsToPlace (Digits part number) (b ∷ []) (Some (Digits part m))
number_goes part number b m within e more w = record {
  value = w.value;
  rest = w.rest;
  within = w.within;
  whole = ap (λ ds. ds ++ more) (so_far m within.0 ∙ e) ∙ append_assoc (digits_so_far number) (b ∷ []) more ∙ w.whole;
  following = w.following;
}

-- no line continues with a byte that neither continues nor ends the number
pub number_stops : (part : Part) (number b : ℕ) → number < 2 ^ 64 → (b ≡ 32 → number ≡ 0) → NoNumberContinues (limit_of part) number b → LeadsToPlace (Digits part number) (b ∷ []) None
number_stops part number b small space none more w =
    let r = number_goes_on (limit_of part) (limit_fits part) number b more w.value w.rest small space w.within w.whole in
    none w.value r.0 w.within r.1

-- `LeadsSoFar from bytes here rest` holds if the bytes read so far lead from one place to another, and `rest` was not
-- read yet.
pub record LeadsSoFar (from : Place) (bytes : List ℕ) (here : Place) (rest : List ℕ) : Type 0 where
  pub inside : HasNoLf rest
  pub leads : (more : List ℕ) → IsRestOfLine from (bytes ++ more) → IsRestOfLine here (rest ++ more)
