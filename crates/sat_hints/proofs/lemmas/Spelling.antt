-- Which bytes begin with a hint line.
use Rattle.std.proofs.Common.{ℕ, ◌≡◌, Bor, Option, None, Some, MatchOption, List, [], ◌∷◌, ◌++◌, refl, sym, ◌∙◌, ap, arith, append_assoc}
use Rattle.sat_base.specs.dimacs.DimacsText.{number_text}
use Rattle.sat_hints.specs.Lines.{Input, Derived, Removed, Core, Fresh, id_text, id_words, literal_words, line_text}
use Rattle.sat_hints.specs.inner.LineReading.{IsId, IsVariableIndex, IsLiteralCode, BeginsWithWords, BeginsWithLiteralList, BeginsWithBothLists, BeginsWithNoLine}
use Rattle.sat_base.specs.text.NumberWords.{BeginsWithWord}
use Rattle.sat_hints.proofs.lemmas.Words.{ended_words, same_word, ids_are_words, literals_are_words}

abbrev end : List ℕ
end = 48 ∷ 10 ∷ []

-- `LITS 0` and LF, or `LITS 0 IDS 0` and LF, and then a rest
abbrev one_before : List ℕ → List ℕ → List ℕ
one_before ls rest = literal_words ls ++ (48 ∷ 10 ∷ rest)

abbrev both_before : List ℕ → List ℕ → List ℕ → List ℕ
both_before ls ids rest = literal_words ls ++ (48 ∷ 32 ∷ (id_words ids ++ (48 ∷ 10 ∷ rest)))

-- what is read as `LITS 0` is what the bytes begin with, or they begin with no such list
pub one_answer : (found : Option (Bor (List ℕ))) (bytes ls rest : List ℕ) → BeginsWithWords number_text IsLiteralCode bytes ls rest → MatchOption found ((tail : List ℕ) → rest ≡ 48 ∷ 10 ∷ tail → ⊥) (λ x. rest ≡ 48 ∷ 10 ∷ x.now)
    → MatchOption found ((ks tail : List ℕ) → BeginsWithLiteralList bytes ks tail → ⊥) (λ x. BeginsWithLiteralList bytes ls x.now)
one_answer None bytes ls rest r never = λ ks tail o. never tail (ended_words number_text IsLiteralCode literals_are_words bytes ls rest r ks (10 ∷ tail) o.0 o.1).rests
one_answer (Some x) bytes ls rest r e = (r.are, r.whole ∙ ap (λ t. literal_words ls ++ t) e)

-- without a `0` after the literals, the bytes begin with no two lists
pub both_no_middle : (bytes ls rest : List ℕ) → BeginsWithWords number_text IsLiteralCode bytes ls rest → ((tail : List ℕ) → rest ≡ 48 ∷ 32 ∷ tail → ⊥) → (ks is tail : List ℕ) → BeginsWithBothLists bytes ks is tail → ⊥
both_no_middle bytes ls rest r never ks is tail o =
    never (id_words is ++ (48 ∷ 10 ∷ tail)) (ended_words number_text IsLiteralCode literals_are_words bytes ls rest r ks (32 ∷ (id_words is ++ (48 ∷ 10 ∷ tail))) o.0 o.2).rests

-- what is read as `LITS 0 IDS 0` is what the bytes begin with, or they begin with no such lists
pub both_answer : (found : Option (Bor (List ℕ))) (bytes ls rest following ids last : List ℕ) → BeginsWithWords number_text IsLiteralCode bytes ls rest → rest ≡ 48 ∷ 32 ∷ following → BeginsWithWords id_text IsId following ids last
    → MatchOption found ((tail : List ℕ) → last ≡ 48 ∷ 10 ∷ tail → ⊥) (λ x. last ≡ 48 ∷ 10 ∷ x.now) → MatchOption found ((ks is tail : List ℕ) → BeginsWithBothLists bytes ks is tail → ⊥) (λ x. BeginsWithBothLists bytes ls ids x.now)
both_answer None bytes ls rest following ids last r e s never = λ ks is tail o.
    let m = (ended_words number_text IsLiteralCode literals_are_words bytes ls rest r ks (32 ∷ (id_words is ++ (48 ∷ 10 ∷ tail))) o.0 o.2).rests in
    let f : 48 ∷ 32 ∷ following ≡ 48 ∷ 32 ∷ (id_words is ++ (48 ∷ 10 ∷ tail)) = sym e ∙ m in
    let g : following ≡ id_words is ++ (48 ∷ 10 ∷ tail) = cc in
    never tail (ended_words id_text IsId ids_are_words following ids last s is (10 ∷ tail) o.1 g).rests
both_answer (Some x) bytes ls rest following ids last r e s f = (
  r.are,
  s.are,
  r.whole ∙ ap (λ t. literal_words ls ++ t) (e ∙ ap (λ t. 48 ∷ 32 ∷ t) (s.whole ∙ ap (λ t. id_words ids ++ t) f)),
)

-- THE TEXT OF A LINE, and then a rest
one_text : (ls rest : List ℕ) → (literal_words ls ++ end) ++ rest ≡ one_before ls rest
one_text ls rest = append_assoc (literal_words ls) end rest

both_text : (ls ids rest : List ℕ) → (literal_words ls ++ (48 ∷ 32 ∷ (id_words ids ++ end))) ++ rest ≡ both_before ls ids rest
both_text ls ids rest = append_assoc (literal_words ls) (48 ∷ 32 ∷ (id_words ids ++ end)) rest ∙ ap (λ t. literal_words ls ++ (48 ∷ 32 ∷ t)) (append_assoc (id_words ids) end rest)

-- one id before it
id_before : (id : ℕ) (text rest all : List ℕ) → text ++ rest ≡ all → (id_words (id ∷ []) ++ text) ++ rest ≡ id_text id ++ (32 ∷ all)
id_before id text rest all e = append_assoc (id_words (id ∷ [])) text rest ∙ append_assoc (id_text id) (32 ∷ []) (text ++ rest) ∙ ap (λ t. id_text id ++ (32 ∷ t)) e

input_text : (id : ℕ) (ls rest : List ℕ) → line_text (Input id ls) ++ rest ≡ 105 ∷ 32 ∷ (id_text id ++ (32 ∷ one_before ls rest))
input_text id ls rest = ap (λ t. 105 ∷ 32 ∷ t) (id_before id (literal_words ls ++ end) rest (one_before ls rest) (one_text ls rest))

derived_text : (id : ℕ) (ls ids rest : List ℕ) → line_text (Derived id ls ids) ++ rest ≡ 100 ∷ 32 ∷ (id_text id ++ (32 ∷ both_before ls ids rest))
derived_text id ls ids rest = ap (λ t. 100 ∷ 32 ∷ t) (id_before id (literal_words ls ++ (48 ∷ 32 ∷ (id_words ids ++ end))) rest (both_before ls ids rest) (both_text ls ids rest))

gone_text : (id : ℕ) (rest : List ℕ) → line_text (Removed id) ++ rest ≡ 120 ∷ 32 ∷ (id_text id ++ (32 ∷ 48 ∷ 10 ∷ rest))
gone_text id rest = ap (λ t. 120 ∷ 32 ∷ t) (id_before id end rest (48 ∷ 10 ∷ rest) refl)

fresh_text : (v : ℕ) (rest : List ℕ) → line_text (Fresh v) ++ rest ≡ 101 ∷ 32 ∷ (id_text v ++ (32 ∷ 48 ∷ 10 ∷ rest))
fresh_text v rest = ap (λ t. 101 ∷ 32 ∷ t) (id_before v end rest (48 ∷ 10 ∷ rest) refl)

-- LINES OF EVERY KIND
abbrev IsInput : List ℕ → Type 0
IsInput bytes = (id : ℕ) × (following : List ℕ) × (ls : List ℕ) × (rest : List ℕ) × BeginsWithWord id_text IsId bytes id following × BeginsWithLiteralList following ls rest

abbrev IsDerived : List ℕ → Type 0
IsDerived bytes = (id : ℕ) × (following : List ℕ) × (ls : List ℕ) × (ids : List ℕ) × (rest : List ℕ) × BeginsWithWord id_text IsId bytes id following × BeginsWithBothLists following ls ids rest

abbrev IsGone : List ℕ → Type 0
IsGone bytes = (id : ℕ) × (rest : List ℕ) × BeginsWithWord id_text IsId bytes id (48 ∷ 10 ∷ rest)

abbrev IsFresh : List ℕ → Type 0
IsFresh bytes = (v : ℕ) × (rest : List ℕ) × BeginsWithWord id_text IsVariableIndex bytes v (48 ∷ 10 ∷ rest)

pub not_input : (bytes : List ℕ) → (IsInput bytes → ⊥) → BeginsWithNoLine (105 ∷ 32 ∷ bytes)
not_input bytes never (Input id ls) rest s =
    let f : 105 ∷ 32 ∷ bytes ≡ 105 ∷ 32 ∷ (id_text id ++ (32 ∷ one_before ls rest)) = s.1 ∙ input_text id ls rest in
    let t : bytes ≡ id_text id ++ (32 ∷ one_before ls rest) = cc in
    never (id, one_before ls rest, ls, rest, (s.0.0.0, t), (s.0.1, refl))
not_input bytes never (Derived id ls ids) rest s = let f = s.1 in let r : ◌≡◌ {A = ℕ} 105 100 = cc in omega arith
not_input bytes never (Removed id) rest s = let f = s.1 in let r : ◌≡◌ {A = ℕ} 105 120 = cc in omega arith
not_input bytes never (Core ls ids) rest s = let f = s.1 in let r : ◌≡◌ {A = ℕ} 105 102 = cc in omega arith
not_input bytes never (Fresh v) rest s = let f = s.1 in let r : ◌≡◌ {A = ℕ} 105 101 = cc in omega arith

pub not_derived : (bytes : List ℕ) → (IsDerived bytes → ⊥) → BeginsWithNoLine (100 ∷ 32 ∷ bytes)
not_derived bytes never (Derived id ls ids) rest s =
    let f : 100 ∷ 32 ∷ bytes ≡ 100 ∷ 32 ∷ (id_text id ++ (32 ∷ both_before ls ids rest)) = s.1 ∙ derived_text id ls ids rest in
    let t : bytes ≡ id_text id ++ (32 ∷ both_before ls ids rest) = cc in
    never (id, both_before ls ids rest, ls, ids, rest, (s.0.0.0, t), (s.0.1, s.0.2, refl))
not_derived bytes never (Input id ls) rest s = let f = s.1 in let r : ◌≡◌ {A = ℕ} 100 105 = cc in omega arith
not_derived bytes never (Removed id) rest s = let f = s.1 in let r : ◌≡◌ {A = ℕ} 100 120 = cc in omega arith
not_derived bytes never (Core ls ids) rest s = let f = s.1 in let r : ◌≡◌ {A = ℕ} 100 102 = cc in omega arith
not_derived bytes never (Fresh v) rest s = let f = s.1 in let r : ◌≡◌ {A = ℕ} 100 101 = cc in omega arith

pub not_gone : (bytes : List ℕ) → (IsGone bytes → ⊥) → BeginsWithNoLine (120 ∷ 32 ∷ bytes)
not_gone bytes never (Removed id) rest s =
    let f : 120 ∷ 32 ∷ bytes ≡ 120 ∷ 32 ∷ (id_text id ++ (32 ∷ 48 ∷ 10 ∷ rest)) = s.1 ∙ gone_text id rest in
    let t : bytes ≡ id_text id ++ (32 ∷ 48 ∷ 10 ∷ rest) = cc in
    never (id, rest, (s.0.0, t))
not_gone bytes never (Input id ls) rest s = let f = s.1 in let r : ◌≡◌ {A = ℕ} 120 105 = cc in omega arith
not_gone bytes never (Derived id ls ids) rest s = let f = s.1 in let r : ◌≡◌ {A = ℕ} 120 100 = cc in omega arith
not_gone bytes never (Core ls ids) rest s = let f = s.1 in let r : ◌≡◌ {A = ℕ} 120 102 = cc in omega arith
not_gone bytes never (Fresh v) rest s = let f = s.1 in let r : ◌≡◌ {A = ℕ} 120 101 = cc in omega arith

pub not_fresh : (bytes : List ℕ) → (IsFresh bytes → ⊥) → BeginsWithNoLine (101 ∷ 32 ∷ bytes)
not_fresh bytes never (Fresh v) rest s =
    let f : 101 ∷ 32 ∷ bytes ≡ 101 ∷ 32 ∷ (id_text v ++ (32 ∷ 48 ∷ 10 ∷ rest)) = s.1 ∙ fresh_text v rest in
    let t : bytes ≡ id_text v ++ (32 ∷ 48 ∷ 10 ∷ rest) = cc in
    never (v, rest, (s.0.0, t))
not_fresh bytes never (Input id ls) rest s = let f = s.1 in let r : ◌≡◌ {A = ℕ} 101 105 = cc in omega arith
not_fresh bytes never (Derived id ls ids) rest s = let f = s.1 in let r : ◌≡◌ {A = ℕ} 101 100 = cc in omega arith
not_fresh bytes never (Removed id) rest s = let f = s.1 in let r : ◌≡◌ {A = ℕ} 101 120 = cc in omega arith
not_fresh bytes never (Core ls ids) rest s = let f = s.1 in let r : ◌≡◌ {A = ℕ} 101 102 = cc in omega arith

same_id : (bytes : List ℕ) (x y : ℕ) (r s : List ℕ) → BeginsWithWord id_text IsId bytes x r → BeginsWithWord id_text IsId bytes y s → s ≡ r
same_id bytes x y r s b c = sym (same_word id_text IsId ids_are_words bytes x y r s b c.0 c.1).1

pub input_refused : (bytes following : List ℕ) (id : ℕ) → BeginsWithWord id_text IsId bytes id following → ((ls tail : List ℕ) → BeginsWithLiteralList following ls tail → ⊥) → BeginsWithNoLine (105 ∷ 32 ∷ bytes)
input_refused bytes following id b never = not_input bytes (λ i. never i.2 i.3 (rw (sym (same_id bytes id i.0 following i.1 b i.4)) i.5))

pub derived_refused : (bytes following : List ℕ) (id : ℕ) → BeginsWithWord id_text IsId bytes id following → ((ls ids tail : List ℕ) → BeginsWithBothLists following ls ids tail → ⊥) → BeginsWithNoLine (100 ∷ 32 ∷ bytes)
derived_refused bytes following id b never = not_derived bytes (λ i. never i.2 i.3 i.4 (rw (sym (same_id bytes id i.0 following i.1 b i.5)) i.6))

pub gone_refused : (bytes following : List ℕ) (id : ℕ) → BeginsWithWord id_text IsId bytes id following → ((tail : List ℕ) → following ≡ 48 ∷ 10 ∷ tail → ⊥) → BeginsWithNoLine (120 ∷ 32 ∷ bytes)
gone_refused bytes following id b never = not_gone bytes (λ i. never i.1 (sym (same_id bytes id i.0 following (48 ∷ 10 ∷ i.1) b i.2)))

-- the number of a variable is also that of an id
as_id : (bytes : List ℕ) (v : ℕ) (rest : List ℕ) → BeginsWithWord id_text IsVariableIndex bytes v rest → BeginsWithWord id_text IsId bytes v rest
as_id bytes v rest b = ((let k = b.0 in omega arith), b.1)

pub fresh_refused : (bytes following : List ℕ) (v : ℕ) → BeginsWithWord id_text IsVariableIndex bytes v following → ((tail : List ℕ) → following ≡ 48 ∷ 10 ∷ tail → ⊥) → BeginsWithNoLine (101 ∷ 32 ∷ bytes)
fresh_refused bytes following v b never = not_fresh bytes (λ i. never i.1 (sym (same_id bytes v i.0 following (48 ∷ 10 ∷ i.1) (as_id bytes v following b) (as_id bytes i.0 (48 ∷ 10 ∷ i.1) i.2))))
