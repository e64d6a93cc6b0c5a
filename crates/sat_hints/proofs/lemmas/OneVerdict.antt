-- A text has at most one verdict.
use Rattle.std.proofs.Common.{ℕ, ◌+◌, ◌^◌, ◌<◌, ◌≡◌, Bool, true, false, cond, eqb, nat_eq, List, [], ◌∷◌, ◌++◌, decimal, Option, None, Some, refl, sym, ◌∙◌, ap, subst, arith, ◌⊎◌, inl, inr, append_assoc, append-nil}
use Rattle.std.proofs.lemmas.Bool.{or_cases, eqb-true, true≢false, both_ways}
use Rattle.std.proofs.lemmas.Str.Parse.{digit_from_value}
use Rattle.std.specs.List.{AllByRecursion}
use Rattle.std.specs.Str.Parse.{AllDigits}
use Rattle.sat_base.specs.values.Literals.{negated, variable, is_positive}
use Rattle.sat_base.specs.text.Text.{lines, prepend_to_first}
use Rattle.sat_base.specs.dimacs.DimacsText.{number_text}
use Rattle.sat_checker.specs.LiteralSets.{is_among, is_tautology}
use Rattle.sat_checker.specs.Propagation.{IsUnit, UnitInTurn}
use Rattle.sat_hints.specs.Lines.{Line, Input, Derived, Removed, Core, Fresh, AreIds, AreLiteralCodes, LineIsWithinLimits, LinesAreWithinLimits, spaced_words, id_text, id_words, literal_words, line_text, text_of, HasNoLf, BeginsWithLine, ended, cut_off}
use Rattle.sat_hints.specs.Hints.{named_ids, clauses_under, assumed_by, Conflicts, ConflictsIf, FollowsLines, IsHintDerivation}
use Rattle.sat_hints.specs.Checks.{SomeIsNotUnit, LastIsNotFalsified, IsFaultOf, IsAtFault}
use Rattle.sat_hints.specs.Laws.{ProvedIsNotBad}
use Rattle.sat_hints.specs.inner.LineReading.{IsId, IsLiteralCode}
use Rattle.sat_base.specs.text.NumberWords.{BeginsWithNoWord}
use Rattle.sat_hints.specs.declared.answer.HintWhy.{HintWhy}
use Rattle.sat_hints.specs.declared.answer.HintWhy.TheVariants.{Syntax, IdOrder, UnknownId, NotUnit, NotFalsified, VarInUse}
use Rattle.sat_base.proofs.lemmas.text.NumberWords.{are_digits}
use Rattle.sat_hints.proofs.lemmas.Words.{same_words, ids_are_words, literals_are_words}
use Rattle.sat_base.proofs.lemmas.text.NumberWords.{at_space}
use Rattle.sat_hints.proofs.lemmas.Holding.{no_end_both}

-- CLAUSES GIVE ONE RESULT
all_at : (P : ℕ → Type 0) (ls : List ℕ) (l : ℕ) → AllByRecursion P ls → is_among ls l ≡ true → P l
all_at P [] l h m = absurd (true≢false (sym m))
all_at P (x ∷ xs) l h m = elim (or_cases (eqb x l) (is_among xs l) m) [ inl e ↦ subst P (eqb-true x l e) h.0 | inr k ↦ all_at P xs l h.1 k ]

-- a clause is unit with one literal at most
pub same_unit : (assumed clause : List ℕ) (l m : ℕ) → IsUnit assumed clause l → IsUnit assumed clause m → m ≡ l
same_unit assumed clause l m u v = elim (all_at (λ x. (x ≡ l) ⊎ (is_among assumed (negated x) ≡ true)) clause m u.others v.within) [
  | inl e ↦ e
  | inr k ↦ absurd (both_ways (is_among assumed (negated m)) v.not_false k)
]

turn_not_unit : (cs : List (List ℕ)) (assumed : List ℕ) → UnitInTurn assumed cs → SomeIsNotUnit assumed cs → ⊥
turn_not_unit [] assumed t s = t
turn_not_unit (c ∷ []) assumed t s = s
turn_not_unit (c ∷ d ∷ ds) assumed t s = elim s [
  | inl h ↦ h t.0 t.1
  | inr h ↦ turn_not_unit (d ∷ ds) (t.0 ∷ assumed) t.2 (subst (λ l. SomeIsNotUnit (l ∷ assumed) (d ∷ ds)) (same_unit assumed c t.0 h.0 t.1 h.1) h.2)
]

turn_not_last : (cs : List (List ℕ)) (assumed : List ℕ) → UnitInTurn assumed cs → LastIsNotFalsified assumed cs → ⊥
turn_not_last [] assumed t s = t
turn_not_last (c ∷ []) assumed t s = s t
turn_not_last (c ∷ d ∷ ds) assumed t s = turn_not_last (d ∷ ds) (t.0 ∷ assumed) t.2 (subst (λ l. LastIsNotFalsified (l ∷ assumed) (d ∷ ds)) (same_unit assumed c t.0 s.0 t.1 s.1) s.2)

-- a line that follows the earlier ones is at no fault
module _ (earlier : List Line) (line : Line) (f : FollowsLines earlier line) where
  conflict_at : (assumed : List ℕ) (clauses : List (List ℕ)) → assumed_by line ≡ Some assumed → clauses_under (named_ids line) earlier ≡ Some clauses → is_tautology assumed ≡ false → UnitInTurn assumed clauses
  conflict_at assumed clauses a p t = go (assumed_by line) a f.conflict
    where
      same : f.clauses ≡ clauses
      same = let e : Some f.clauses ≡ Some clauses = sym f.present ∙ p in cc

      go : (o : Option (List ℕ)) → o ≡ Some assumed → ConflictsIf o f.clauses → UnitInTurn assumed clauses
      go None e h = absurd cc
      go (Some b) e h = let g : b ≡ assumed = cc in subst (UnitInTurn assumed) same (elim (subst (λ x. Conflicts x f.clauses) g h) [
        | inl k ↦ absurd (both_ways (is_tautology assumed) t k)
        | inr k ↦ k
      ])

  never_at_fault : (why : HintWhy) → IsFaultOf earlier line why → ⊥
  never_at_fault Syntax h = h
  never_at_fault IdOrder h = h f.in_order
  never_at_fault UnknownId h = let e : ◌≡◌ {A = Option (List (List ℕ))} (Some f.clauses) None = sym f.present ∙ h.1 in cc
  never_at_fault NotUnit h = turn_not_unit h.clauses h.assumed (conflict_at h.assumed h.clauses h.assumes h.present h.consistent) h.fails
  never_at_fault NotFalsified h = turn_not_last h.clauses h.assumed (conflict_at h.assumed h.clauses h.assumes h.present h.consistent) h.fails
  never_at_fault VarInUse h = f.unused h

no_literal : (rest : List ℕ) → BeginsWithNoWord number_text IsLiteralCode (48 ∷ rest)
no_literal rest x t p f = literals_are_words.no_zero x rest t p f

no_id : (rest : List ℕ) → BeginsWithNoWord id_text IsId (48 ∷ rest)
no_id rest x t p f = ids_are_words.no_zero x rest t p f

same_first : (x y : ℕ) (r s : List ℕ) → IsId x → IsId y → id_words (x ∷ []) ++ r ≡ id_words (y ∷ []) ++ s → (x ≡ y) × (r ≡ s)
same_first x y r s p q e =
    let f : id_text x ++ (32 ∷ r) ≡ id_text y ++ (32 ∷ s) = sym (append_assoc (id_text x) (32 ∷ []) r) ∙ e ∙ append_assoc (id_text y) (32 ∷ []) s in
    let g = at_space (id_text x) (id_text y) r s (ids_are_words.plain x p) (ids_are_words.plain y q) f in
    (ids_are_words.one x y p q g.0, g.1)

record SameBoth (ls ks is js : List ℕ) : Type 0 where
  literals : ls ≡ ks
  ids : is ≡ js

same_both : (ls ks is js : List ℕ) → AreLiteralCodes ls → AreLiteralCodes ks → AreIds is → AreIds js → literal_words ls ++ (48 ∷ 32 ∷ (id_words is ++ (48 ∷ 10 ∷ []))) ≡ literal_words ks ++ (48 ∷ 32 ∷ (id_words js ++ (48 ∷ 10 ∷ []))) → SameBoth ls ks is js
same_both ls ks is js a b c d e =
    let w = same_words number_text IsLiteralCode literals_are_words ls ks (48 ∷ 32 ∷ (id_words is ++ (48 ∷ 10 ∷ []))) (48 ∷ 32 ∷ (id_words js ++ (48 ∷ 10 ∷ []))) a b (no_literal (32 ∷ (id_words is ++ (48 ∷ 10 ∷ [])))) (no_literal (32 ∷ (id_words js ++ (48 ∷ 10 ∷ [])))) e in
    let f : 48 ∷ 32 ∷ (id_words is ++ (48 ∷ 10 ∷ [])) ≡ 48 ∷ 32 ∷ (id_words js ++ (48 ∷ 10 ∷ [])) = w.rests in
    let g : id_words is ++ (48 ∷ 10 ∷ []) ≡ id_words js ++ (48 ∷ 10 ∷ []) = cc in
    let v = same_words id_text IsId ids_are_words is js (48 ∷ 10 ∷ []) (48 ∷ 10 ∷ []) c d (no_id (10 ∷ [])) (no_id (10 ∷ [])) g in
    record { literals = w.items; ids = v.items }

other_kind : {A : Type 0} (x y : ℕ) (xs ys : List ℕ) → (x ≡ y → ⊥) → x ∷ xs ≡ y ∷ ys → A
other_kind x y xs ys differ e = absurd (differ (let f : x ≡ y = cc in f))

pub one_line : (k l : Line) → LineIsWithinLimits k → LineIsWithinLimits l → line_text k ≡ line_text l → k ≡ l
one_line (Input i ls) (Input j ks) p q e =
    let f : id_words (i ∷ []) ++ (literal_words ls ++ (48 ∷ 10 ∷ [])) ≡ id_words (j ∷ []) ++ (literal_words ks ++ (48 ∷ 10 ∷ [])) = cc in
    let g = same_first i j _ _ p.0.0 q.0.0 f in
    let w = same_words number_text IsLiteralCode literals_are_words ls ks (48 ∷ 10 ∷ []) (48 ∷ 10 ∷ []) p.1 q.1 (no_literal (10 ∷ [])) (no_literal (10 ∷ [])) g.1 in
    ap (λ x. Input x ls) g.0 ∙ ap (Input j) w.items
one_line (Derived i ls is) (Derived j ks js) p q e =
    let f : id_words (i ∷ []) ++ (literal_words ls ++ (48 ∷ 32 ∷ (id_words is ++ (48 ∷ 10 ∷ [])))) ≡ id_words (j ∷ []) ++ (literal_words ks ++ (48 ∷ 32 ∷ (id_words js ++ (48 ∷ 10 ∷ [])))) = cc in
    let g = same_first i j _ _ p.0.0 q.0.0 f in
    let w = same_both ls ks is js p.1 q.1 p.2 q.2 g.1 in
    ap (λ x. Derived x ls is) g.0 ∙ ap (λ x. Derived j x is) w.literals ∙ ap (Derived j ks) w.ids
one_line (Removed i) (Removed j) p q e =
    let f : id_words (i ∷ []) ++ (48 ∷ 10 ∷ []) ≡ id_words (j ∷ []) ++ (48 ∷ 10 ∷ []) = cc in
    ap Removed (same_first i j _ _ p.0 q.0 f).0
one_line (Core ls is) (Core ks js) p q e =
    let f : literal_words ls ++ (48 ∷ 32 ∷ (id_words is ++ (48 ∷ 10 ∷ []))) ≡ literal_words ks ++ (48 ∷ 32 ∷ (id_words js ++ (48 ∷ 10 ∷ []))) = cc in
    let w = same_both ls ks is js p.0 q.0 p.1 q.1 f in
    ap (λ x. Core x is) w.literals ∙ ap (Core ks) w.ids
one_line (Fresh v) (Fresh w) p q e =
    let f : id_words (v ∷ []) ++ (48 ∷ 10 ∷ []) ≡ id_words (w ∷ []) ++ (48 ∷ 10 ∷ []) = cc in
    ap Fresh (same_first v w _ _ (omega arith) (omega arith) f).0
one_line (Input i ls) (Derived j ks js) p q e = other_kind 105 100 _ _ (λ f. omega arith) e
one_line (Input i ls) (Removed j) p q e = other_kind 105 120 _ _ (λ f. omega arith) e
one_line (Input i ls) (Core ks js) p q e = other_kind 105 102 _ _ (λ f. omega arith) e
one_line (Derived i ls is) (Input j ks) p q e = other_kind 100 105 _ _ (λ f. omega arith) e
one_line (Derived i ls is) (Removed j) p q e = other_kind 100 120 _ _ (λ f. omega arith) e
one_line (Derived i ls is) (Core ks js) p q e = other_kind 100 102 _ _ (λ f. omega arith) e
one_line (Removed i) (Input j ks) p q e = other_kind 120 105 _ _ (λ f. omega arith) e
one_line (Removed i) (Derived j ks js) p q e = other_kind 120 100 _ _ (λ f. omega arith) e
one_line (Removed i) (Core ks js) p q e = other_kind 120 102 _ _ (λ f. omega arith) e
one_line (Core ls is) (Input j ks) p q e = other_kind 102 105 _ _ (λ f. omega arith) e
one_line (Core ls is) (Derived j ks js) p q e = other_kind 102 100 _ _ (λ f. omega arith) e
one_line (Core ls is) (Removed j) p q e = other_kind 102 120 _ _ (λ f. omega arith) e
one_line (Input i ls) (Fresh w) p q e = other_kind 105 101 _ _ (λ f. omega arith) e
one_line (Derived i ls is) (Fresh w) p q e = other_kind 100 101 _ _ (λ f. omega arith) e
one_line (Removed i) (Fresh w) p q e = other_kind 120 101 _ _ (λ f. omega arith) e
one_line (Core ls is) (Fresh w) p q e = other_kind 102 101 _ _ (λ f. omega arith) e
one_line (Fresh v) (Input j ks) p q e = other_kind 101 105 _ _ (λ f. omega arith) e
one_line (Fresh v) (Derived j ks js) p q e = other_kind 101 100 _ _ (λ f. omega arith) e
one_line (Fresh v) (Removed j) p q e = other_kind 101 120 _ _ (λ f. omega arith) e
one_line (Fresh v) (Core ks js) p q e = other_kind 101 102 _ _ (λ f. omega arith) e

-- THE LINES OF A TEXT
digits_no_end : (ds : List ℕ) → AllDigits 10 ds → HasNoLf ds
digits_no_end [] d = tt
digits_no_end (c ∷ cs) d = ((λ e. let r = digit_from_value c d.0 in omega arith), digits_no_end cs d.1)

words_no_end : (word : ℕ → List ℕ) (P : ℕ → Type 0) → ((x : ℕ) → P x → HasNoLf (word x)) → (xs : List ℕ) → AllByRecursion P xs → HasNoLf (spaced_words word xs)
words_no_end word P each [] h = tt
words_no_end word P each (x ∷ xs) h = no_end_both (word x) (32 ∷ spaced_words word xs) (each x h.0) ((λ e. omega arith), words_no_end word P each xs h.1)

ids_no_end : (ids : List ℕ) → AreIds ids → HasNoLf (id_words ids)
ids_no_end = words_no_end id_text IsId (λ x p. digits_no_end (decimal (x + 1)) (are_digits (x + 1) (omega arith)))

signed_no_end : (s : Bool) (n : ℕ) → n < 2 ^ 64 → HasNoLf (cond s [] (45 ∷ []) ++ decimal n)
signed_no_end true n h = digits_no_end (decimal n) (are_digits n h)
signed_no_end false n h = ((λ e. omega arith), digits_no_end (decimal n) (are_digits n h))

literals_no_end : (ls : List ℕ) → AreLiteralCodes ls → HasNoLf (literal_words ls)
literals_no_end = words_no_end number_text IsLiteralCode (λ l p. signed_no_end (is_positive l) (variable l + 1) (omega arith))

zero_no_end : HasNoLf (48 ∷ [])
zero_no_end = ((λ e. omega arith), tt)

space_no_end : HasNoLf (48 ∷ 32 ∷ [])
space_no_end = ((λ e. omega arith), ((λ e. omega arith), tt))

-- so every line is complete
record Ended (bytes : List ℕ) : Type 0 where
  front : List ℕ
  inside : HasNoLf front
  ended : bytes ≡ front ++ (10 ∷ [])

ended_end : Ended (48 ∷ 10 ∷ [])
ended_end = record { front = 48 ∷ []; inside = zero_no_end; ended = refl }

ended_following : (xs ys : List ℕ) → HasNoLf xs → Ended ys → Ended (xs ++ ys)
ended_following xs ys h w = record { front = xs ++ w.front; inside = no_end_both xs w.front h w.inside; ended = ap (λ t. xs ++ t) w.ended ∙ sym (append_assoc xs w.front (10 ∷ [])) }

ended_both : (ls ids : List ℕ) → AreLiteralCodes ls → AreIds ids → Ended (literal_words ls ++ (48 ∷ 32 ∷ (id_words ids ++ (48 ∷ 10 ∷ []))))
ended_both ls ids p q =
    ended_following (literal_words ls) (48 ∷ 32 ∷ (id_words ids ++ (48 ∷ 10 ∷ []))) (literals_no_end ls p)
    (ended_following (48 ∷ 32 ∷ []) (id_words ids ++ (48 ∷ 10 ∷ [])) space_no_end (ended_following (id_words ids) (48 ∷ 10 ∷ []) (ids_no_end ids q) ended_end))

kind_no_end : (k : ℕ) → (k ≡ 10 → ⊥) → HasNoLf (k ∷ 32 ∷ [])
kind_no_end k h = (h, ((λ e. omega arith), tt))

line_ended : (l : Line) → LineIsWithinLimits l → Ended (line_text l)
line_ended (Input id ls) p =
    ended_following (105 ∷ 32 ∷ []) _ (kind_no_end 105 (λ e. omega arith)) (ended_following (id_words (id ∷ [])) _ (ids_no_end (id ∷ []) p.0) (ended_following (literal_words ls) (48 ∷ 10 ∷ []) (literals_no_end ls p.1) ended_end))
line_ended (Derived id ls ids) p =
    ended_following (100 ∷ 32 ∷ []) _ (kind_no_end 100 (λ e. omega arith)) (ended_following (id_words (id ∷ [])) _ (ids_no_end (id ∷ []) p.0) (ended_both ls ids p.1 p.2))
line_ended (Removed id) p = ended_following (120 ∷ 32 ∷ []) _ (kind_no_end 120 (λ e. omega arith)) (ended_following (id_words (id ∷ [])) (48 ∷ 10 ∷ []) (ids_no_end (id ∷ []) p) ended_end)
line_ended (Core ls ids) p = ended_following (102 ∷ 32 ∷ []) _ (kind_no_end 102 (λ e. omega arith)) (ended_both ls ids p.0 p.1)
line_ended (Fresh v) p = ended_following (101 ∷ 32 ∷ []) _ (kind_no_end 101 (λ e. omega arith)) (ended_following (id_words (v ∷ [])) (48 ∷ 10 ∷ []) (ids_no_end (v ∷ []) (omega arith, tt)) ended_end)

not_ten : (b : ℕ) → (b ≡ 10 → ⊥) → nat_eq b 10 ≡ false
not_ten b h = go (nat_eq b 10) refl
  where
    go : (t : Bool) → nat_eq b 10 ≡ t → t ≡ false
    go true e = absurd (h (eqb-true b 10 e))
    go false e = refl

split_front : (front more : List ℕ) → HasNoLf front → lines ((front ++ (10 ∷ [])) ++ more) ≡ (front ++ (10 ∷ [])) ∷ lines more
unfolding lines
split_front [] more h = refl
split_front (b ∷ bs) more h = rw (not_ten b h.0) (ap (prepend_to_first b) (split_front bs more h.1))

split_ended : (bytes more : List ℕ) → Ended bytes → lines (bytes ++ more) ≡ bytes ∷ lines more
split_ended bytes more w = ap (λ t. lines (t ++ more)) w.ended ∙ split_front w.front more w.inside ∙ ap (λ t. t ∷ lines more) (sym w.ended)

split_last : (bytes : List ℕ) → HasNoLf bytes → (bytes ≡ [] → ⊥) → lines bytes ≡ bytes ∷ []
unfolding lines
split_last [] h some = absurd (some refl)
split_last (b ∷ []) h some = rw (not_ten b h.0) refl
split_last (b ∷ c ∷ cs) h some = rw (not_ten b h.0) (ap (prepend_to_first b) (split_last (c ∷ cs) h.1 (λ e. cc)))

pub lines_none : lines [] ≡ []
unfolding lines
lines_none = refl

-- the texts of lines, oldest first
pub texts_in : List Line → List (List ℕ)
texts_in [] = []
texts_in (l ∷ ls) = texts_in ls ++ (line_text l ∷ [])

pub texts_in-cons : (l : Line) (ls : List Line) → texts_in (l ∷ ls) ≡ texts_in ls ++ (line_text l ∷ [])
unfolding texts_in
texts_in-cons l ls = refl

pub texts_in-none : texts_in [] ≡ []
unfolding texts_in
texts_in-none = refl

-- a text that begins with lines is split at these lines first
pub lines_of_text : (ls : List Line) (more : List ℕ) → LinesAreWithinLimits ls → lines (text_of ls ++ more) ≡ texts_in ls ++ lines more
lines_of_text [] more h = sym (ap (λ t. t ++ lines more) texts_in-none)
lines_of_text (l ∷ ls) more h =
    ap lines (append_assoc (text_of ls) (line_text l) more) ∙ lines_of_text ls (line_text l ++ more) h.1 ∙ ap (λ t. texts_in ls ++ t) (split_ended (line_text l) more (line_ended l h.0))
    ∙ sym (append_assoc (texts_in ls) (line_text l ∷ []) (lines more)) ∙ ap (λ t. t ++ lines more) (sym (texts_in-cons l ls))

-- `Oldest ls t more` holds if `t` is the text of the oldest line, and `more` those of the others.
record Oldest (ls : List Line) (t : List ℕ) (more : List (List ℕ)) : Type 0 where
  later : List Line
  line : Line
  are : ls ≡ later ++ (line ∷ [])
  text : t ≡ line_text line
  others : texts_in later ≡ more

oldest : (ls : List Line) (t : List ℕ) (more : List (List ℕ)) → texts_in ls ≡ t ∷ more → Oldest ls t more
oldest [] t more e = absurd (let f : ◌≡◌ {A = List (List ℕ)} [] (t ∷ more) = sym texts_in-none ∙ e in cc)
oldest (l ∷ ls) t more e = go (λ s ss. oldest ls s ss) ls refl (texts_in ls) refl (sym (texts_in-cons l ls) ∙ e)
  where
    go : ((s : List ℕ) (ss : List (List ℕ)) → texts_in ls ≡ s ∷ ss → Oldest ls s ss) → (ks : List Line) → ls ≡ ks → (front : List (List ℕ)) → texts_in ls ≡ front → front ++ (line_text l ∷ []) ≡ t ∷ more → Oldest (l ∷ ls) t more
    go ih [] same front f e' =
        let none : front ≡ [] = sym f ∙ ap texts_in same ∙ texts_in-none in
        let g : line_text l ∷ [] ≡ t ∷ more = ap (λ x. x ++ (line_text l ∷ [])) (sym none) ∙ e' in
        record { later = []; line = l; are = ap (λ x. l ∷ x) same; text = (let x : t ≡ line_text l = cc in x); others = texts_in-none ∙ (let x : [] ≡ more = cc in x) }
    go ih (k ∷ ks) same [] f e' = absurd (nothing (texts_in ks) (sym (texts_in-cons k ks) ∙ ap texts_in (sym same) ∙ f))
      where
        nothing : (xs : List (List ℕ)) → xs ++ (line_text k ∷ []) ≡ [] → ⊥
        nothing [] z = cc
        nothing (x ∷ xs) z = cc
    go ih (k ∷ ks) same (s ∷ ss) f e' =
        let o = ih s ss f in
        let g : t ≡ s = cc in
        let h : ss ++ (line_text l ∷ []) ≡ more = cc in
        record { later = l ∷ o.later; line = o.line; are = ap (λ x. l ∷ x) o.are; text = g ∙ o.text; others = texts_in-cons l o.later ∙ ap (λ x. x ++ (line_text l ∷ [])) o.others ∙ h }

all_second : (P : Line → Type 0) (xs ys : List Line) → AllByRecursion P (xs ++ ys) → AllByRecursion P ys
all_second P [] ys h = h
all_second P (x ∷ xs) ys h = all_second P xs ys h.1

-- `Later all earlier more` holds if all lines are the earlier ones and some later ones, with the texts `more`.
pub record Later (all earlier : List Line) (more : List (List ℕ)) : Type 0 where
  pub later : List Line
  pub are : all ≡ later ++ earlier
  pub others : texts_in later ≡ more

-- a text that begins with that of earlier lines has these lines as its earlier ones
pub later_than : (earlier all : List Line) (more : List (List ℕ)) → LinesAreWithinLimits earlier → LinesAreWithinLimits all → texts_in all ≡ texts_in earlier ++ more → Later all earlier more
later_than [] all more p q e = record { later = all; are = sym (append-nil all); others = e ∙ ap (λ x. x ++ more) texts_in-none }
later_than (l ∷ ls) all more p q e =
    let a = later_than ls all (line_text l ∷ more) p.1 q (e ∙ ap (λ x. x ++ more) (texts_in-cons l ls) ∙ append_assoc (texts_in ls) (line_text l ∷ []) more) in
    let o = oldest a.later (line_text l) more a.others in
    let f : all ≡ o.later ++ (o.line ∷ ls) = a.are ∙ ap (λ x. x ++ ls) o.are ∙ append_assoc o.later (o.line ∷ []) ls in
    let r : LinesAreWithinLimits (o.line ∷ ls) = all_second LineIsWithinLimits o.later (o.line ∷ ls) (subst LinesAreWithinLimits f q) in
    let same : o.line ≡ l = one_line o.line l r.0 p.0 (sym o.text) in
    record { later = o.later; are = f ∙ ap (λ x. o.later ++ (x ∷ ls)) same; others = o.others }

derived_second : (xs ys : List Line) → IsHintDerivation (xs ++ ys) → IsHintDerivation ys
derived_second [] ys h = h
derived_second (x ∷ xs) ys h = derived_second xs ys h.0

-- the lines of a text that begins with the earlier ones and these bytes
pub bad_lines : (earlier : List Line) (bytes rest : List ℕ) → LinesAreWithinLimits earlier → BeginsWithLine bytes rest → (more : List (List ℕ)) × (lines (text_of earlier ++ (bytes ++ rest)) ≡ texts_in earlier ++ (bytes ∷ more))
bad_lines earlier bytes rest p (ended front inside e) = (lines rest, lines_of_text earlier (bytes ++ rest) p ∙ ap (λ x. texts_in earlier ++ x) (split_ended bytes rest (record { front = front; inside = inside; ended = e })))
bad_lines earlier bytes rest p (cut_off inside some e) = ([], lines_of_text earlier (bytes ++ rest) p ∙ ap (λ x. texts_in earlier ++ x) (ap lines (ap (λ x. bytes ++ x) e ∙ append-nil bytes) ∙ split_last bytes inside some))

-- the bytes of a line that follows the earlier ones are at no fault
at_no_fault : (earlier : List Line) (bytes : List ℕ) (why : HintWhy) (l : Line) → bytes ≡ line_text l → LineIsWithinLimits l → FollowsLines earlier l → IsAtFault earlier bytes why → ⊥
at_no_fault earlier bytes Syntax l e p f h = h l (p, e)
at_no_fault earlier bytes z l e p f h = never_at_fault earlier l f z (subst (λ x. IsFaultOf earlier x z) (one_line h.0 l h.1.0 p (sym h.1.1 ∙ e)) h.2)

-- so a derivation has no line at fault
pub derivation_has_none : (all earlier : List Line) (bytes : List ℕ) (more : List (List ℕ)) (why : HintWhy) → LinesAreWithinLimits all → IsHintDerivation all → LinesAreWithinLimits earlier → texts_in all ≡ texts_in earlier ++ (bytes ∷ more) → IsAtFault earlier bytes why → ⊥
derivation_has_none all earlier bytes more why p d q e h =
    let a = later_than earlier all (bytes ∷ more) q p e in
    let o = oldest a.later bytes more a.others in
    let f : all ≡ o.later ++ (o.line ∷ earlier) = a.are ∙ ap (λ x. x ++ earlier) o.are ∙ append_assoc o.later (o.line ∷ []) earlier in
    let r : LinesAreWithinLimits (o.line ∷ earlier) = all_second LineIsWithinLimits o.later (o.line ∷ earlier) (subst LinesAreWithinLimits f p) in
    let g : IsHintDerivation (o.line ∷ earlier) = derived_second o.later (o.line ∷ earlier) (subst IsHintDerivation f d) in
    at_no_fault earlier bytes why o.line o.text r.0 g.1 h

pub proved_is_not_bad : ProvedIsNotBad
proved_is_not_bad text empty cores count line why p k =
    let b = bad_lines k.earlier k.bytes k.rest k.are k.first in
    let all : lines (text_of p.all ++ []) ≡ texts_in p.all ++ [] = lines_of_text p.all [] p.are ∙ ap (λ x. texts_in p.all ++ x) lines_none in
    let e : texts_in p.all ≡ texts_in k.earlier ++ (k.bytes ∷ b.0) = sym (append-nil (texts_in p.all)) ∙ sym all ∙ ap lines (append-nil (text_of p.all) ∙ sym p.whole ∙ k.whole) ∙ b.1 in
    derivation_has_none p.all k.earlier k.bytes b.0 why p.are p.derivation k.are e k.fault
