-- A formula's text ends cleanly exactly when its tokens spell the clauses.
use Rattle.std.proofs.Common.{◌≡◌, ℕ, ◌+◌, ◌*◌, ◌-◌, ◌%◌, ◌<◌, ◌≤◌, List, [], ◌∷◌, ◌++◌, Bool, true, false, Some, None, map, refl, sym, ap, ap₂, ◌∙◌, append_assoc, subst, arith, inl, inr}
use Rattle.std.specs.Prelude.{nat_eq, nat_lt, not, ◌↔◌, ◌⊎◌}
use Rattle.std.proofs.lemmas.List.{append-nil}
use Rattle.std.proofs.lemmas.Bool.Decides.{nat_tests}
use Rattle.sat_base.specs.values.Literals.{variable, is_positive, mk_lit, var_limit}
use Rattle.sat_base.specs.text.Text.{Token, Number, Letter, Header, Wrong, tokens, scan}
use Rattle.sat_base.specs.script.Language.{without_lines}
use Rattle.sat_base.specs.dimacs.Dimacs.{Ending, Clean, Malformed, Limit, Dimacs, PartialClause, TokenEffect, Continues, EndsClause, literals_in, number_effect, token_effect, ending_here, after_token_effect, clauses_of, dimacs}
use Rattle.sat_base.specs.script.ScriptSpelling.{IsZeroToken}
use Rattle.sat_base.specs.dimacs.DimacsSpelling.{signed_number, AreWithinLimit, SpellsClauses, SpellsFormula, OneFormula, CleanIfSpelled}
use Rattle.sat_base.proofs.lemmas.dimacs.WrittenIsRead.{clauses_nil, clauses_cons, coded_back}
use Rattle.sat_base.proofs.lemmas.text.HeaderFirst.{IsWord, AreWords, AreScript, text_is}

-- these clauses and a clean ending
abbrev clean : List (List ℕ) → Dimacs
clean cs = record { clauses = cs; ending = Clean }

-- `SpellsRest done cs ts` holds if the tokens finish the clause with the literals `done`, and then spell the clauses
-- `cs`.
pub record SpellsRest (done : List ℕ) (cs : List (List ℕ)) (ts : List Token) : Type 0 where
  pub literals : List ℕ
  pub last : Token
  pub later : List Token
  pub clauses : List (List ℕ)
  pub is_last : IsZeroToken last
  pub within : AreWithinLimit literals
  pub first : cs ≡ (done ++ literals) ∷ clauses
  pub whole : ts ≡ (map signed_number literals ++ last ∷ []) ++ later
  pub rest : SpellsClauses clauses later

abbrev SpellsFrom : PartialClause → List (List ℕ) → List Token → Type 0
SpellsFrom None cs ts = SpellsClauses cs ts
SpellsFrom (Some done) cs ts = SpellsRest done cs ts

-- `ByZero h cs t ts` holds if the token `t` is a zero, which ends the unfinished clause, and the rest spells the other
-- clauses.
pub record ByZero (h : PartialClause) (cs : List (List ℕ)) (t : Token) (ts : List Token) : Type 0 where
  pub more : List (List ℕ)
  pub is_zero : IsZeroToken t
  pub first : cs ≡ literals_in h ∷ more
  pub rest : SpellsClauses more ts

pub record ByLiteral (h : PartialClause) (cs : List (List ℕ)) (t : Token) (ts : List Token) : Type 0 where
  pub literal : ℕ
  pub is_literal : t ≡ signed_number literal
  pub within : variable literal < var_limit
  pub rest : SpellsRest (literals_in h ++ literal ∷ []) cs ts

abbrev Next : PartialClause → List (List ℕ) → Token → List Token → Type 0
Next h cs t ts = ByZero h cs t ts ⊎ ByLiteral h cs t ts

abbrev first_of : List Token → Token
first_of [] = Wrong
first_of (t ∷ ts) = t

abbrev rest_of : List Token → List Token
rest_of [] = []
rest_of (t ∷ ts) = ts

-- FROM A SPELLING TO ITS NEXT TOKEN
rest_next : (h : PartialClause) (literals : List ℕ) (last : Token) (later : List Token) (clauses cs : List (List ℕ)) (t : Token) (ts : List Token)
    → IsZeroToken last → AreWithinLimit literals → cs ≡ (literals_in h ++ literals) ∷ clauses → t ∷ ts ≡ (map signed_number literals ++ last ∷ []) ++ later → SpellsClauses clauses later → Next h cs t ts
rest_next h [] last later clauses cs t ts z w f e s =
    let same : t ≡ last = ap first_of e in
    let following : ts ≡ later = ap rest_of e in
    inl (record { more = clauses; is_zero = subst IsZeroToken (sym same) z; first = f ∙ ap (λ (ls : List ℕ). ls ∷ clauses) (append-nil (literals_in h)); rest = subst (SpellsClauses clauses) (sym following) s })
rest_next h (l ∷ ls) last later clauses cs t ts z w f e s =
    inr (record {
      literal = l;
      is_literal = ap first_of e;
      within = w.0;
      rest = record {
        literals = ls;
        last = last;
        later = later;
        clauses = clauses;
        is_last = z;
        within = w.1;
        first = f ∙ ap (λ (ks : List ℕ). ks ∷ clauses) (sym (append_assoc (literals_in h) (l ∷ []) ls));
        whole = ap rest_of e;
        rest = s;
      };
    })

next_of : (h : PartialClause) (cs : List (List ℕ)) (t : Token) (ts : List Token) → SpellsFrom h cs (t ∷ ts) → Next h cs t ts
next_of None [] t ts s = absurd (cc)
next_of None (c ∷ cs) t ts s = rest_next None c s.2.0 s.1 cs (c ∷ cs) t ts s.2.1 s.2.2 refl (s.4 ∙ ap (λ (us : List Token). us ++ s.1) s.2.3) s.3
next_of (Some done) cs t ts s = rest_next (Some done) s.literals s.last s.later s.clauses cs t ts s.is_last s.within s.first s.whole s.rest

-- FROM THE NEXT TOKEN TO A SPELLING
by_zero : (h : PartialClause) (cs : List (List ℕ)) (t : Token) (ts : List Token) → ByZero h cs t ts → SpellsFrom h cs (t ∷ ts)
by_zero None cs t ts z = subst (λ (ds : List (List ℕ)). SpellsClauses ds (t ∷ ts)) (sym z.first) (t ∷ [], ts, (t, z.is_zero, tt, refl), z.rest, refl)
by_zero (Some done) cs t ts z = record {
  literals = [];
  last = t;
  later = ts;
  clauses = z.more;
  is_last = z.is_zero;
  within = tt;
  first = z.first ∙ ap (λ (ls : List ℕ). ls ∷ z.more) (sym (append-nil done));
  whole = refl;
  rest = z.rest;
}

by_literal : (h : PartialClause) (cs : List (List ℕ)) (t : Token) (ts : List Token) → ByLiteral h cs t ts → SpellsFrom h cs (t ∷ ts)
by_literal None cs t ts n =
    let s = n.rest in
    subst (λ (ds : List (List ℕ)). SpellsClauses ds (t ∷ ts)) (sym s.first)
    (map signed_number (n.literal ∷ s.literals) ++ s.last ∷ [], s.later, (s.last, s.is_last, (n.within, s.within), refl), s.rest, ap₂ (λ (u : Token) (us : List Token). u ∷ us) n.is_literal s.whole)
by_literal (Some done) cs t ts n = let s = n.rest in record {
  literals = n.literal ∷ s.literals;
  last = s.last;
  later = s.later;
  clauses = s.clauses;
  is_last = s.is_last;
  within = (n.within, s.within);
  first = s.first ∙ ap (λ (ls : List ℕ). ls ∷ s.clauses) (append_assoc done (n.literal ∷ []) s.literals);
  whole = ap₂ (λ (u : Token) (us : List Token). u ∷ us) n.is_literal s.whole;
  rest = s.rest;
}

-- EFFECTS OF TOKENS
variable_coded : (v : ℕ) (b : Bool) → variable (mk_lit v b) ≡ v
variable_coded v true = omega arith
variable_coded v false = omega arith

positive_coded : (v : ℕ) (b : Bool) → is_positive (mk_lit v b) ≡ b
positive_coded v true = let e : (2 * v + 0) % 2 ≡ 0 = omega arith in rw e refl
positive_coded v false = let e : (2 * v + 1) % 2 ≡ 1 = omega arith in rw e refl

twice_not : (b : Bool) → not (not b) ≡ b
twice_not true = refl
twice_not false = refl

-- a number other than 0 is the token of a literal
number_is : (negative : Bool) (value : ℕ) → 0 < value → Number negative value ≡ signed_number (mk_lit (value - 1) (not negative))
number_is negative value some =
    let v : variable (mk_lit (value - 1) (not negative)) ≡ value - 1 = variable_coded (value - 1) (not negative) in
    let p : not (is_positive (mk_lit (value - 1) (not negative))) ≡ negative = ap not (positive_coded (value - 1) (not negative)) ∙ twice_not negative in
    let back : value - 1 + 1 ≡ value = omega arith in
    sym (ap₂ Number p (ap (λ (n : ℕ). n + 1) v ∙ back))

turn_zero : (h : PartialClause) (line : ℕ) (t : Token) → IsZeroToken t → token_effect h line t ≡ EndsClause (literals_in h)
turn_zero h line (Number negative value) z = rw z refl
turn_zero h line e z = absurd z

turn_literal : (h : PartialClause) (line l : ℕ) → variable l < var_limit → token_effect h line (signed_number l) ≡ Continues (Some (literals_in h ++ l ∷ []))
turn_literal h line l w =
    let v = variable l + 1 in
    let some : nat_eq v 0 ≡ false = grind (arith, nat_tests) in
    let within : nat_lt var_limit v ≡ false = grind (arith, nat_tests) in
    let spelled : token_effect h line (Number (not (is_positive l)) v) ≡ Continues (Some (literals_in h ++ mk_lit (v - 1) (not (not (is_positive l))) ∷ [])) = rw (some, within) refl in
    spelled ∙ ap (λ (x : ℕ). Continues (Some (literals_in h ++ x ∷ []))) (coded_back l)

-- SPELLED CLAUSES ARE READ
abbrev AllRead : ℕ → List (ℕ × Token) → Type 0
AllRead last ts = (h : PartialClause) (cs : List (List ℕ)) → SpellsFrom h cs (without_lines ts) → clauses_of h last ts ≡ clean cs

-- a clause has at least its zero
none_whole : (ls : List ℕ) (last : Token) (later : List Token) → [] ≡ (map signed_number ls ++ last ∷ []) ++ later → ⊥
none_whole [] last later e = cc
none_whole (l ∷ ls) last later e = cc

none_read : (h : PartialClause) (last : ℕ) (cs : List (List ℕ)) → SpellsFrom h cs [] → record { clauses = []; ending = ending_here h last } ≡ clean cs
none_read None last [] s = refl
none_read None last (c ∷ cs) s = let e : [] ≡ (map signed_number c ++ s.2.0 ∷ []) ++ s.1 = s.4 ∙ ap (λ (us : List Token). us ++ s.1) s.2.3 in absurd (none_whole c s.2.0 s.1 e)
none_read (Some done) last cs s = absurd (none_whole s.literals s.last s.later s.whole)

next_read : (h : PartialClause) (last : ℕ) (cs : List (List ℕ)) (t : ℕ × Token) (ts : List (ℕ × Token)) → AllRead last ts → Next h cs t.1 (without_lines ts) → after_token_effect (token_effect h t.0 t.1) (λ k. clauses_of k last ts) ≡ clean cs
next_read h last cs t ts ih (inl z) =
    ap (λ (k : TokenEffect). after_token_effect k (λ k. clauses_of k last ts)) (turn_zero h t.0 t.1 z.is_zero)
    ∙ ap (λ (d : Dimacs). record { clauses = literals_in h ∷ d.clauses; ending = d.ending }) (ih None z.more z.rest)
    ∙ ap clean (sym z.first)
next_read h last cs t ts ih (inr n) =
    ap (λ (u : Token). after_token_effect (token_effect h t.0 u) (λ k. clauses_of k last ts)) n.is_literal
    ∙ ap (λ (k : TokenEffect). after_token_effect k (λ k. clauses_of k last ts)) (turn_literal h t.0 n.literal n.within)
    ∙ ih (Some (literals_in h ++ n.literal ∷ [])) cs n.rest

all_read : (last : ℕ) (ts : List (ℕ × Token)) → AllRead last ts
all_read last [] h cs s = clauses_nil h last ∙ none_read h last cs s
all_read last (t ∷ ts) h cs s = clauses_cons h last t ts ∙ next_read h last cs t ts (all_read last ts) (next_of h cs t.1 (without_lines ts) s)

-- CLAUSES THAT ARE READ ARE SPELLED
abbrev AllSpelled : ℕ → List (ℕ × Token) → Type 0
AllSpelled last ts = (h : PartialClause) (cs : List (List ℕ)) → clauses_of h last ts ≡ clean cs → SpellsFrom h cs (without_lines ts)

unclean : {A : Type 0} (line : ℕ) (cs : List (List ℕ)) → record { clauses = []; ending = Malformed line } ≡ clean cs → A
unclean line cs e = let f : Malformed line ≡ Clean = ap (λ (d : Dimacs). d.ending) e in absurd (cc)

past : {A : Type 0} (line : ℕ) (cs : List (List ℕ)) → record { clauses = []; ending = Limit line } ≡ clean cs → A
past line cs e = let f : Limit line ≡ Clean = ap (λ (d : Dimacs). d.ending) e in absurd (cc)

none_spelled : (h : PartialClause) (last : ℕ) (cs : List (List ℕ)) → record { clauses = []; ending = ending_here h last } ≡ clean cs → SpellsFrom h cs []
none_spelled None last cs e = subst (λ (ds : List (List ℕ)). SpellsClauses ds []) (ap (λ (d : Dimacs). d.clauses) e) refl
none_spelled (Some done) last cs e = unclean last cs e

zero_spelled : (h : PartialClause) (last : ℕ) (cs : List (List ℕ)) (t : Token) (ts : List (ℕ × Token)) → IsZeroToken t → AllSpelled last ts
    → record { clauses = literals_in h ∷ (clauses_of None last ts).clauses; ending = (clauses_of None last ts).ending } ≡ clean cs → Next h cs t (without_lines ts)
zero_spelled h last cs t ts z ih e =
    let more = clauses_of None last ts in
    let ends : more.ending ≡ Clean = ap (λ (d : Dimacs). d.ending) e in
    inl (record {
      more = more.clauses;
      is_zero = z;
      first = sym (ap (λ (d : Dimacs). d.clauses) e);
      rest = ih None more.clauses (ap (λ (end : Ending). record { clauses = more.clauses; ending = end }) ends);
    })

literal_spelled : (h : PartialClause) (last line : ℕ) (cs : List (List ℕ)) (negative : Bool) (value : ℕ) (ts : List (ℕ × Token)) (is_past : Bool) → nat_lt var_limit value ≡ is_past → 0 < value → AllSpelled last ts
    → after_token_effect (number_effect h line negative value) (λ k. clauses_of k last ts) ≡ clean cs → Next h cs (Number negative value) (without_lines ts)
literal_spelled h last line cs negative value ts true p some ih e = past line cs (rw p at e)
literal_spelled h last line cs negative value ts false p some ih e =
    let l = mk_lit (value - 1) (not negative) in
    let v : variable l ≡ value - 1 = variable_coded (value - 1) (not negative) in
    let bound : value ≤ var_limit = grind (arith, nat_tests) in
    inr (record { literal = l; is_literal = number_is negative value some; within = omega (arith, v); rest = ih (Some (literals_in h ++ l ∷ [])) cs (rw p at e) })

number_spelled : (h : PartialClause) (last line : ℕ) (cs : List (List ℕ)) (negative : Bool) (value : ℕ) (ts : List (ℕ × Token)) (zero : Bool) → nat_eq value 0 ≡ zero → AllSpelled last ts
    → after_token_effect (token_effect h line (Number negative value)) (λ k. clauses_of k last ts) ≡ clean cs → Next h cs (Number negative value) (without_lines ts)
number_spelled h last line cs negative value ts true z ih e =
    let same : value ≡ 0 = grind (arith, nat_tests) in
    zero_spelled h last cs (Number negative value) ts same ih (rw z at e)
number_spelled h last line cs negative value ts false z ih e =
    let some : 0 < value = grind (arith, nat_tests) in
    literal_spelled h last line cs negative value ts (nat_lt var_limit value) refl some ih (rw z at e)

token_spelled : (h : PartialClause) (last line : ℕ) (cs : List (List ℕ)) (t : Token) (ts : List (ℕ × Token)) → IsWord t → AllSpelled last ts
    → after_token_effect (token_effect h line t) (λ k. clauses_of k last ts) ≡ clean cs → Next h cs t (without_lines ts)
token_spelled h last line cs (Number negative value) ts w ih e = number_spelled h last line cs negative value ts (nat_eq value 0) refl ih e
token_spelled h last line cs (Letter b) ts w ih e = unclean line cs e
token_spelled h last line cs (Header v c) ts w ih e = absurd w
token_spelled h last line cs Wrong ts w ih e = unclean line cs e

put_together : (h : PartialClause) (cs : List (List ℕ)) (t : Token) (ts : List Token) → Next h cs t ts → SpellsFrom h cs (t ∷ ts)
put_together h cs t ts (inl z) = by_zero h cs t ts z
put_together h cs t ts (inr n) = by_literal h cs t ts n

all_spelled : (last : ℕ) (ts : List (ℕ × Token)) → AreWords (without_lines ts) → AllSpelled last ts
all_spelled last [] w h cs e = none_spelled h last cs (sym (clauses_nil h last) ∙ e)
all_spelled last (t ∷ ts) w h cs e =
    put_together h cs t.1 (without_lines ts) (token_spelled h last t.0 cs t.1 ts w.0 (all_spelled last ts w.1) (sym (clauses_cons h last t ts) ∙ e))

-- WITH A HEADER
-- the tokens that spell clauses contain no header
number_no_header : {A : Type 0} (v c l : ℕ) → Header v c ≡ signed_number l → A
number_no_header v c l e = absurd (cc)

none_headed : {A : Type 0} (cs : List (List ℕ)) (v c : ℕ) (ts : List Token) → SpellsClauses cs (Header v c ∷ ts) → A
none_headed {A} cs v c ts s = go (next_of None cs (Header v c) ts s)
  where
    go : Next None cs (Header v c) ts → A
    go (inl z) = absurd z.is_zero
    go (inr n) = number_no_header v c n.literal n.is_literal

headless : (last : ℕ) (ts : List (ℕ × Token)) (cs : List (List ℕ)) → AreWords (without_lines ts) → (clauses_of None last ts ≡ clean cs) ↔ SpellsFormula cs (without_lines ts)
headless last ts cs w = ((λ e. inl (all_spelled last ts w None cs e)), to)
  where
    to : SpellsFormula cs (without_lines ts) → clauses_of None last ts ≡ clean cs
    to (inl s) = all_read last ts None cs s
    to (inr (v, c, rest, e, s)) = absurd (let h : AreWords (Header v c ∷ rest) = rw e at w in h.0)

headed : (last : ℕ) (v c : ℕ) (t : ℕ × Token) (ts : List (ℕ × Token)) (cs : List (List ℕ)) → t.1 ≡ Header v c → AreWords (without_lines ts) → (clauses_of None last (t ∷ ts) ≡ clean cs) ↔ SpellsFormula cs (without_lines (t ∷ ts))
headed last v c t ts cs is w = (
  λ e. inr (v, c, without_lines ts, ap (λ (u : Token). u ∷ without_lines ts) is, all_spelled last ts w None cs (sym goes_on ∙ e)),
  to,
)
  where
    goes_on : clauses_of None last (t ∷ ts) ≡ clauses_of None last ts
    goes_on = clauses_cons None last t ts ∙ ap (λ (u : Token). after_token_effect (token_effect None t.0 u) (λ k. clauses_of k last ts)) is

    to : SpellsFormula cs (without_lines (t ∷ ts)) → clauses_of None last (t ∷ ts) ≡ clean cs
    to (inl s) = none_headed cs v c (without_lines ts) (subst (λ (u : Token). SpellsClauses cs (u ∷ without_lines ts)) is s)
    to (inr (u, d, rest, e, s)) = goes_on ∙ all_read last ts None cs (subst (SpellsClauses cs) (sym (ap rest_of e)) s)

formula_if : (last : ℕ) (ts : List (ℕ × Token)) (cs : List (List ℕ)) → AreScript (without_lines ts) → (clauses_of None last ts ≡ clean cs) ↔ SpellsFormula cs (without_lines ts)
formula_if last ts cs (inl w) = headless last ts cs w
formula_if last [] cs (inr (v, c, rest, w, e)) = absurd (cc)
formula_if last (t ∷ ts) cs (inr (v, c, rest, w, e)) = headed last v c t ts cs (ap first_of e) (subst AreWords (sym (ap rest_of e)) w)

dimacs_is : (text : List ℕ) → dimacs text ≡ clauses_of None (scan text).last (tokens text)
unfolding dimacs
dimacs_is text = refl

pub one_formula : OneFormula
one_formula = record {
  some = λ text. ((dimacs text).clauses, (dimacs text).ending, refl);
  one = λ text cs ds d e a b. let same = sym a ∙ b in (ap (λ (r : Dimacs). r.clauses) same, ap (λ (r : Dimacs). r.ending) same);
}

pub clean_if_spelled : CleanIfSpelled
clean_if_spelled text cs =
    let h = formula_if (scan text).last (tokens text) cs (text_is text) in
    (λ e. h.0 (sym (dimacs_is text) ∙ e), λ s. dimacs_is text ∙ h.1 s)
