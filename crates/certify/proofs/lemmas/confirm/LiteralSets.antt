-- Lists of literals as sets.
use Rattle.std.proofs.Common.{ℕ, zero, suc, ◌+◌, ◌<◌, ◌≤◌, ◌≡◌, ◌||◌, ◌&&◌, inl, inr, Bool, true, false, eqb, List, [], ◌∷◌, ◌++◌, length, take, drop, drop-cons, get_or, Option, Some, None, refl, sym, ◌∙◌, ap, subst, arith}
use Rattle.std.proofs.lemmas.Bool.{true≢false, eqb-true, or_cases}
use Rattle.std.proofs.lemmas.List.{drop_all, take_more}
use Rattle.std.specs.Bool.{MatchBool}
use Rattle.std.specs.List.{AllByRecursion}
use Rattle.sat_base.specs.values.Literals.{mk_lit}
use Rattle.sat_base.specs.script.Script.{Literal, Among}
use Rattle.sat_checker.specs.LiteralSets.{is_among}
use Rattle.sat_checker.specs.matching.Expected.{IsLiteralOf, EachHasItsLiteral, IsSameLiteralSet}
use Rattle.sat_checker.proofs.lemmas.sets.Order.{among-append}
use Rattle.certify.specs.confirm.SpeltLiterals.{AllAmong, AreSpelt}

eqb_refl : (n : ℕ) → eqb n n ≡ true
eqb_refl n = grind (arith)

pub among_is : (xs : List ℕ) (l : ℕ) → is_among xs l ≡ true → Among l xs
among_is [] l e = absurd (true≢false (sym e))
among_is (x ∷ xs) l e = elim (or_cases (eqb x l) (is_among xs l) e) [ inl t ↦ inl (sym (eqb-true x l t)) | inr t ↦ inr (among_is xs l t) ]

pub is_from_among : (xs : List ℕ) (l : ℕ) → Among l xs → is_among xs l ≡ true
is_from_among [] l h = absurd h
is_from_among (x ∷ xs) l (inl e) = rw e (let r = eqb_refl x in rw r refl)
is_from_among (x ∷ xs) l (inr h) = go (eqb x l) (is_from_among xs l h)
  where
    go : (b : Bool) → is_among xs l ≡ true → b || is_among xs l ≡ true
    go true r = refl
    go false r = r

-- the codes that spell literals

spells_once : (names : ℕ → Option ℕ) (l : Literal) (c d : ℕ) → IsLiteralOf names l c → IsLiteralOf names l d → c ≡ d
spells_once names l c d s t = s.is ∙ ap (λ v. mk_lit v l.positive) (some (sym s.named ∙ t.named)) ∙ sym t.is
  where
    some : {v w : ℕ} → Some v ≡ Some w → v ≡ w
    some e = cc

pub spelt_more : (names : ℕ → Option ℕ) (ls : List Literal) (cs : List ℕ) (l : Literal) (c : ℕ) → AreSpelt names ls cs → IsLiteralOf names l c → AreSpelt names (ls ++ l ∷ []) (cs ++ c ∷ [])
spelt_more names [] [] l c a s = (s, tt)
spelt_more names [] (d ∷ cs) l c a s = absurd a
spelt_more names (k ∷ ls) [] l c a s = absurd a
spelt_more names (k ∷ ls) (d ∷ cs) l c a s = (a.0, spelt_more names ls cs l c a.1 s)

among_spelt : (names : ℕ → Option ℕ) (ls : List Literal) (cs codes : List ℕ) → AreSpelt names ls cs → AllAmong cs codes → EachHasItsLiteral names ls codes
among_spelt names [] [] codes a h = tt
among_spelt names [] (c ∷ cs) codes a h = absurd a
among_spelt names (l ∷ ls) [] codes a h = absurd a
among_spelt names (l ∷ ls) (c ∷ cs) codes a h = ((c, a.0, h.0), among_spelt names ls cs codes a.1 h.1)

spelt_among : (names : ℕ → Option ℕ) (ls : List Literal) (cs codes : List ℕ) → AreSpelt names ls cs → EachHasItsLiteral names ls codes → AllAmong cs codes
spelt_among names [] [] codes a h = tt
spelt_among names [] (c ∷ cs) codes a h = absurd a
spelt_among names (l ∷ ls) [] codes a h = absurd a
spelt_among names (l ∷ ls) (c ∷ cs) codes a h = (subst (λ x. Among x codes) (spells_once names l h.0.0 c h.0.1 a.0) h.0.2, spelt_among names ls cs codes a.1 h.1)

-- `EachFrom names ls codes` holds if each code spells one of the literals.
abbrev EachFrom : (ℕ → Option ℕ) → List Literal → List ℕ → Type 0
EachFrom names ls codes = AllByRecursion (λ code. (l : Literal) × IsLiteralOf names l code × Among l ls) codes

from_one : (names : ℕ → Option ℕ) (ls : List Literal) (cs : List ℕ) (c : ℕ) → AreSpelt names ls cs → Among c cs → (l : Literal) × IsLiteralOf names l c × Among l ls
from_one names [] [] c a h = absurd h
from_one names [] (d ∷ cs) c a h = absurd a
from_one names (l ∷ ls) [] c a h = absurd a
from_one names (l ∷ ls) (d ∷ cs) c a (inl e) = (l, subst (IsLiteralOf names l) (sym e) a.0, inl refl)
from_one names (l ∷ ls) (d ∷ cs) c a (inr h) = let p = from_one names ls cs c a.1 h in (p.0, p.1, inr p.2)

one_from : (names : ℕ → Option ℕ) (ls : List Literal) (cs : List ℕ) (c : ℕ) (l : Literal) → AreSpelt names ls cs → IsLiteralOf names l c → Among l ls → Among c cs
one_from names [] cs c l a s h = absurd h
one_from names (k ∷ ls) [] c l a s h = absurd a
one_from names (k ∷ ls) (d ∷ cs) c l a s (inl e) = inl (spells_once names k c d (subst (λ x. IsLiteralOf names x c) e s) a.0)
one_from names (k ∷ ls) (d ∷ cs) c l a s (inr h) = inr (one_from names ls cs c l a.1 s h)

each_from : (names : ℕ → Option ℕ) (ls : List Literal) (cs codes : List ℕ) → AreSpelt names ls cs → AllAmong codes cs → EachFrom names ls codes
each_from names ls cs [] a h = tt
each_from names ls cs (c ∷ codes) a h = (from_one names ls cs c a h.0, each_from names ls cs codes a h.1)

from_each : (names : ℕ → Option ℕ) (ls : List Literal) (cs codes : List ℕ) → AreSpelt names ls cs → EachFrom names ls codes → AllAmong codes cs
from_each names ls cs [] a h = tt
from_each names ls cs (c ∷ codes) a h = (one_from names ls cs c h.0.0 a h.0.1 h.0.2, from_each names ls cs codes a h.1)

pub same_set : (names : ℕ → Option ℕ) (ls : List Literal) (cs codes : List ℕ) → AreSpelt names ls cs → AllAmong cs codes → AllAmong codes cs → IsSameLiteralSet names ls codes
same_set names ls cs codes a h k = (among_spelt names ls cs codes a h, each_from names ls cs codes a k)

-- if the first statement holds, the second decides both
pub both_so : (P Q : Type 0) (first b : Bool) → first ≡ true → MatchBool first P (P → ⊥) → MatchBool b Q (Q → ⊥) → MatchBool b (P × Q) (P × Q → ⊥)
both_so P Q first true e m n = (subst (λ x. MatchBool x P (P → ⊥)) e m, n)
both_so P Q first false e m n = λ p. n p.1

pub first_not : (P Q : Type 0) (first : Bool) → first ≡ false → MatchBool first P (P → ⊥) → P × Q → ⊥
first_not P Q first e m p = subst (λ x. MatchBool x P (P → ⊥)) e m p.0

-- after the literals were spelled, comparing codes decides whether each spelling is among `codes`
pub each_answer : (names : ℕ → Option ℕ) (ls : List Literal) (cs given codes : List ℕ) (first b : Bool) (N : Type 0) → first ≡ true → MatchBool first (AreSpelt names ls cs) N → given ≡ cs → MatchBool b (AllAmong given codes) (AllAmong given codes → ⊥) → MatchBool b (EachHasItsLiteral names ls codes) (EachHasItsLiteral names ls codes → ⊥)
each_answer names ls cs given codes first b N e m g h = go b (subst (λ x. MatchBool x (AreSpelt names ls cs) N) e m) (subst (λ x. MatchBool b (AllAmong x codes) (AllAmong x codes → ⊥)) g h)
  where
    go : (b : Bool) → AreSpelt names ls cs → MatchBool b (AllAmong cs codes) (AllAmong cs codes → ⊥) → MatchBool b (EachHasItsLiteral names ls codes) (EachHasItsLiteral names ls codes → ⊥)
    go true a h = among_spelt names ls cs codes a h
    go false a h = λ s. h (spelt_among names ls cs codes a s)

-- the comparison of the spelt literals as sets decides whether the sets are the same
pub set_answer : (names : ℕ → Option ℕ) (ls : List Literal) (cs given codes : List ℕ) (first b : Bool) (N : Type 0) → first ≡ true → MatchBool first (AreSpelt names ls cs) N → given ≡ cs
    → MatchBool b (AllAmong given codes × AllAmong codes given) (AllAmong given codes × AllAmong codes given → ⊥) → MatchBool b (IsSameLiteralSet names ls codes) (IsSameLiteralSet names ls codes → ⊥)
set_answer names ls cs given codes first b N e m g h = go b (subst (λ x. MatchBool x (AreSpelt names ls cs) N) e m) (subst (λ x. MatchBool b (AllAmong x codes × AllAmong codes x) (AllAmong x codes × AllAmong codes x → ⊥)) g h)
  where
    go : (b : Bool) → AreSpelt names ls cs → MatchBool b (AllAmong cs codes × AllAmong codes cs) (AllAmong cs codes × AllAmong codes cs → ⊥) → MatchBool b (IsSameLiteralSet names ls codes) (IsSameLiteralSet names ls codes → ⊥)
    go true a h = same_set names ls cs codes a h.0 h.1
    go false a h = λ s. h (spelt_among names ls cs codes a s.0, from_each names ls cs codes a s.1)

pub unspelt_each : (names : ℕ → Option ℕ) (ls : List Literal) (codes : List ℕ) (first : Bool) (P : Type 0) → first ≡ false → MatchBool first P ((codes : List ℕ) → EachHasItsLiteral names ls codes → ⊥) → EachHasItsLiteral names ls codes → ⊥
unspelt_each names ls codes first P e m s = subst (λ x. MatchBool x P ((codes : List ℕ) → EachHasItsLiteral names ls codes → ⊥)) e m codes s

-- one more literal is spelled
pub spelt_loop : (names : ℕ → Option ℕ) (ls : List Literal) (cs new : List ℕ) (i : ℕ) (l : Literal) (v code : ℕ) → i < length ls → l ≡ get_or ls i l → AreSpelt names (take i ls) cs → new ≡ cs ++ code ∷ [] → names l.name ≡ Some v → code ≡ mk_lit v l.positive → AreSpelt names (take (i + 1) ls) new
spelt_loop names ls cs new i l v code h is a n e c =
    let more : take (i + 1) ls ≡ take i ls ++ l ∷ [] = take_more ls i l h ∙ ap (λ x. take i ls ++ x ∷ []) (sym is) in
    subst (AreSpelt names (take (i + 1) ls)) (sym n) (subst (λ xs. AreSpelt names xs (cs ++ code ∷ [])) (sym more) (spelt_more names (take i ls) cs l code a (record { variable = v; named = e; is = c })))

-- a literal whose name has no variable is not spelled
pub unspelt : (names : ℕ → Option ℕ) (ls : List Literal) (l : Literal) (codes : List ℕ) → Among l ls → names l.name ≡ None → EachHasItsLiteral names ls codes → ⊥
unspelt names [] l codes h n s = absurd h
unspelt names (k ∷ ls) l codes (inl e) n s = let named = s.0.1.named in let f : names k.name ≡ None = subst (λ x. names x.name ≡ None) e n in absurd (cc)
unspelt names (k ∷ ls) l codes (inr h) n s = unspelt names ls l codes h n s.1

pub among_got : (ls : List Literal) (i : ℕ) (d : Literal) → i < length ls → Among (get_or ls i d) ls
among_got [] i d h = absurd (omega arith)
among_got (l ∷ ls) zero d h = inl refl
among_got (l ∷ ls) (suc i) d h = inr (among_got ls i d (omega arith))

-- LITERALS SPELLED IN ORDER
pub spelt_next : (names : ℕ → Option ℕ) (ls : List Literal) (codes : List ℕ) (i : ℕ) (l : Literal) (code : ℕ) → i < length ls → i < length codes → l ≡ get_or ls i l → code ≡ get_or codes i code → IsLiteralOf names l code
    → AreSpelt names (drop (i + 1) ls) (drop (i + 1) codes) → AreSpelt names (drop i ls) (drop i codes)
spelt_next names ls codes i l code h k a b s r =
    let more : i + 1 ≡ suc i = omega arith in
    let cut : drop i ls ≡ l ∷ drop (i + 1) ls = drop-cons ls i l h ∙ ap (λ (x : Literal). x ∷ drop (suc i) ls) (sym a) ∙ ap (λ (n : ℕ). l ∷ drop n ls) (sym more) in
    let cut_codes : drop i codes ≡ code ∷ drop (i + 1) codes = drop-cons codes i code k ∙ ap (λ (x : ℕ). x ∷ drop (suc i) codes) (sym b) ∙ ap (λ (n : ℕ). code ∷ drop n codes) (sym more) in
    subst (λ (xs : List Literal). AreSpelt names xs (drop i codes)) (sym cut) (subst (λ (xs : List ℕ). AreSpelt names (l ∷ drop (i + 1) ls) xs) (sym cut_codes) (s, r))

pub spelt_end : (names : ℕ → Option ℕ) (ls : List Literal) (codes : List ℕ) (i : ℕ) → length ls ≤ i → length codes ≤ i → AreSpelt names (drop i ls) (drop i codes)
spelt_end names ls codes i h k = rw (drop_all i ls h, drop_all i codes k) tt

among_more : (xs ys : List ℕ) (y : ℕ) → AllAmong xs ys → AllAmong xs (y ∷ ys)
among_more [] ys y h = tt
among_more (x ∷ xs) ys y h = (inr h.0, among_more xs ys y h.1)

all_among : (xs : List ℕ) → AllAmong xs xs
all_among [] = tt
all_among (x ∷ xs) = (inl refl, among_more xs xs x (all_among xs))

-- literals that are spelled in order are spelled among the codes
pub spelt_each : (names : ℕ → Option ℕ) (ls : List Literal) (codes : List ℕ) → AreSpelt names ls codes → EachHasItsLiteral names ls codes
spelt_each names ls codes a = among_spelt names ls codes codes a (all_among codes)

pub spelt_set : (names : ℕ → Option ℕ) (ls : List Literal) (codes : List ℕ) → AreSpelt names ls codes → IsSameLiteralSet names ls codes
spelt_set names ls codes a = same_set names ls codes codes a (all_among codes) (all_among codes)

-- PAIRS COMPARED
or_no : (b : Bool) → b || false ≡ b
or_no true = refl
or_no false = refl

among_push : (xs : List ℕ) (x l : ℕ) → is_among (xs ++ x ∷ []) l ≡ (is_among xs l || eqb x l)
among_push xs x l = among-append xs (x ∷ []) l ∙ ap (λ b. is_among xs l || b) (or_no (eqb x l))

-- one more literal of a list is compared with another
pub among_next : (xs : List ℕ) (i x l : ℕ) (found here : Bool) → i < length xs → x ≡ get_or xs i x → here ≡ eqb x l → found ≡ is_among (take i xs) l → (found || here) ≡ is_among (take (i + 1) xs) l
among_next xs i x l found here h is e f =
    let cut : take (i + 1) xs ≡ take i xs ++ x ∷ [] = take_more xs i x h ∙ ap (λ y. take i xs ++ y ∷ []) (sym is) in
    ap (λ b. found || b) e ∙ ap (λ b. b || eqb x l) f ∙ sym (among_push (take i xs) x l) ∙ ap (λ ys. is_among ys l) (sym cut)

all_more : (xs ys : List ℕ) (x : ℕ) → AllAmong xs ys → Among x ys → AllAmong (xs ++ x ∷ []) ys
all_more [] ys x h m = (m, tt)
all_more (y ∷ xs) ys x h m = (h.0, all_more xs ys x h.1 m)

all_less : (xs ys : List ℕ) (x : ℕ) → AllAmong (xs ++ x ∷ []) ys → AllAmong xs ys × Among x ys
all_less [] ys x h = (tt, h.0)
all_less (y ∷ xs) ys x h = let r = all_less xs ys x h.1 in ((h.0, r.0), r.1)

all_step : (xs ys : List ℕ) (x : ℕ) (all here : Bool) → here ≡ is_among ys x → MatchBool all (AllAmong xs ys) (AllAmong xs ys → ⊥) → MatchBool (all && here) (AllAmong (xs ++ x ∷ []) ys) (AllAmong (xs ++ x ∷ []) ys → ⊥)
all_step xs ys x true true e m = all_more xs ys x m (among_is ys x (sym e))
all_step xs ys x true false e m = λ h. absurd (true≢false (sym (is_from_among ys x (all_less xs ys x h).1) ∙ sym e))
all_step xs ys x false here e m = λ h. m (all_less xs ys x h).0

-- one more literal of the first list is looked for in the second
pub all_next : (xs ys : List ℕ) (i x : ℕ) (all here : Bool) → i < length xs → x ≡ get_or xs i x → here ≡ is_among ys x → MatchBool all (AllAmong (take i xs) ys) (AllAmong (take i xs) ys → ⊥)
    → MatchBool (all && here) (AllAmong (take (i + 1) xs) ys) (AllAmong (take (i + 1) xs) ys → ⊥)
all_next xs ys i x all here h is e m =
    let cut : take (i + 1) xs ≡ take i xs ++ x ∷ [] = take_more xs i x h ∙ ap (λ y. take i xs ++ y ∷ []) (sym is) in
    subst (λ zs. MatchBool (all && here) (AllAmong zs ys) (AllAmong zs ys → ⊥)) (sym cut) (all_step (take i xs) ys x all here e m)
