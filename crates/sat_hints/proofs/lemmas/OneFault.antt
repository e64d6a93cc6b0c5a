-- Two verdicts on a text are equal.
use Rattle.std.proofs.Common.{ℕ, ◌+◌, ◌≡◌, Bool, List, [], ◌∷◌, ◌++◌, length, Option, None, Some, refl, sym, ◌∙◌, ap, subst, inl, inr, append-nil}
use Rattle.sat_base.specs.text.Text.{lines}
use Rattle.sat_base.specs.text.Tokenizing.{capped}
use Rattle.sat_hints.specs.Lines.{Line, LinesAreWithinLimits, SpellsLine, text_of}
use Rattle.sat_hints.specs.Hints.{clauses_under, IsInOrder, named_ids, RenewsUsedVariable, derives_empty, core_count}
use Rattle.sat_hints.specs.Checks.{SomeIsNotUnit, LastIsNotFalsified, RefutationFails, IsFaultOf, IsAtFault, IsBadAt, IsProof}
use Rattle.sat_hints.specs.Laws.{OneVerdict}
use Rattle.sat_hints.specs.declared.answer.HintVerdict.TheVariants.{Proved, Bad}
use Rattle.sat_hints.specs.declared.answer.HintWhy.{HintWhy}
use Rattle.sat_hints.specs.declared.answer.HintWhy.TheVariants.{Syntax, IdOrder, UnknownId, NotUnit, NotFalsified, VarInUse}
use Rattle.sat_hints.proofs.lemmas.Unused.{uses_in_order, uses_none, uses_nothing}
use Rattle.sat_hints.proofs.lemmas.OneVerdict.{same_unit, one_line, texts_in, texts_in-cons, lines_of_text, lines_none, later_than, bad_lines, derivation_has_none, proved_is_not_bad}

-- EQUAL REASONS
fails_once : (cs : List (List ℕ)) (assumed : List ℕ) → SomeIsNotUnit assumed cs → LastIsNotFalsified assumed cs → ⊥
fails_once [] assumed s t = s
fails_once (c ∷ []) assumed s t = s
fails_once (c ∷ d ∷ ds) assumed s t = elim s [
  | inl h ↦ h t.0 t.1
  | inr h ↦ fails_once (d ∷ ds) (t.0 ∷ assumed) (subst (λ l. SomeIsNotUnit (l ∷ assumed) (d ∷ ds)) (same_unit assumed c t.0 h.0 t.1 h.1) h.2) t.2
]

module _ (earlier : List Line) (line : Line) where
  present_or_not : {F : List ℕ → List (List ℕ) → Type 0} → clauses_under (named_ids line) earlier ≡ None → RefutationFails earlier line F → ⊥
  present_or_not e t = let f : ◌≡◌ {A = Option (List (List ℕ))} None (Some t.clauses) = sym e ∙ t.present in cc

  not_both : RefutationFails earlier line SomeIsNotUnit → RefutationFails earlier line LastIsNotFalsified → ⊥
  not_both s t =
      let f : Some s.clauses ≡ Some t.clauses = sym s.present ∙ t.present in
      let g : Some s.assumed ≡ Some t.assumed = sym s.assumes ∙ t.assumes in
      let same : s.clauses ≡ t.clauses = cc in
      let under : s.assumed ≡ t.assumed = cc in
      fails_once t.clauses t.assumed (subst (λ a. SomeIsNotUnit a t.clauses) under (subst (SomeIsNotUnit s.assumed) same s.fails)) t.fails

  unused_order : RenewsUsedVariable earlier line → (IsInOrder earlier line → ⊥) → ⊥
  unused_order u h = h (uses_in_order earlier line u)

  unused_present : RenewsUsedVariable earlier line → clauses_under (named_ids line) earlier ≡ None → ⊥
  unused_present u e = let f : ◌≡◌ {A = Option (List (List ℕ))} None (Some []) = sym e ∙ uses_none earlier line u in cc

  unused_tries : {F : List ℕ → List (List ℕ) → Type 0} → RenewsUsedVariable earlier line → RefutationFails earlier line F → ⊥
  unused_tries u t = let f : ◌≡◌ {A = Option (List ℕ)} None (Some t.assumed) = sym (uses_nothing earlier line u) ∙ t.assumes in cc

  one_reason : (w v : HintWhy) → IsFaultOf earlier line w → IsFaultOf earlier line v → w ≡ v
  one_reason Syntax v h g = absurd h
  one_reason w Syntax h g = absurd g
  one_reason IdOrder IdOrder h g = refl
  one_reason IdOrder UnknownId h g = absurd (h g.0)
  one_reason IdOrder NotUnit h g = absurd (h g.in_order)
  one_reason IdOrder NotFalsified h g = absurd (h g.in_order)
  one_reason UnknownId IdOrder h g = absurd (g h.0)
  one_reason UnknownId UnknownId h g = refl
  one_reason UnknownId NotUnit h g = absurd (present_or_not h.1 g)
  one_reason UnknownId NotFalsified h g = absurd (present_or_not h.1 g)
  one_reason NotUnit IdOrder h g = absurd (g h.in_order)
  one_reason NotUnit UnknownId h g = absurd (present_or_not g.1 h)
  one_reason NotUnit NotUnit h g = refl
  one_reason NotUnit NotFalsified h g = absurd (not_both h g)
  one_reason NotFalsified IdOrder h g = absurd (g h.in_order)
  one_reason NotFalsified UnknownId h g = absurd (present_or_not g.1 h)
  one_reason NotFalsified NotUnit h g = absurd (not_both g h)
  one_reason NotFalsified NotFalsified h g = refl
  one_reason IdOrder VarInUse h g = absurd (unused_order g h)
  one_reason UnknownId VarInUse h g = absurd (unused_present g h.1)
  one_reason NotUnit VarInUse h g = absurd (unused_tries g h)
  one_reason NotFalsified VarInUse h g = absurd (unused_tries g h)
  one_reason VarInUse IdOrder h g = absurd (unused_order h g)
  one_reason VarInUse UnknownId h g = absurd (unused_present h g.1)
  one_reason VarInUse NotUnit h g = absurd (unused_tries h g)
  one_reason VarInUse NotFalsified h g = absurd (unused_tries h g)
  one_reason VarInUse VarInUse h g = refl

-- the reason of a fault: the bytes are not a line, or they are a line at fault
data Reason (earlier : List Line) (bytes : List ℕ) (w : HintWhy) : Type 0 where
  no_line : w ≡ Syntax → ((line : Line) → SpellsLine bytes line → ⊥) → Reason earlier bytes w
  a_line : (line : Line) → SpellsLine bytes line → IsFaultOf earlier line w → Reason earlier bytes w

reason : (earlier : List Line) (bytes : List ℕ) (w : HintWhy) → IsAtFault earlier bytes w → Reason earlier bytes w
reason earlier bytes Syntax h = no_line refl h
reason earlier bytes e h = a_line h.0 h.1 h.2

one_why : (earlier : List Line) (bytes : List ℕ) (w v : HintWhy) → Reason earlier bytes w → Reason earlier bytes v → w ≡ v
one_why earlier bytes w v (no_line e h) (no_line f g) = e ∙ sym f
one_why earlier bytes w v (no_line e h) (a_line l s g) = absurd (h l s)
one_why earlier bytes w v (a_line l s h) (no_line f g) = absurd (g l s)
one_why earlier bytes w v (a_line k s h) (a_line l t g) =
    one_reason earlier l w v (subst (λ x. IsFaultOf earlier x w) (one_line k l s.0 t.0 (sym s.1 ∙ t.1)) h) g

-- EQUAL POSITIONS
-- that two texts are at the same position of a list, or one is in the prefix before the other
data Beside (xs ys : List (List ℕ)) (x y : List ℕ) : Type 0 where
  same : xs ≡ ys → x ≡ y → Beside xs ys x y
  sooner : (following : List (List ℕ)) → ys ≡ xs ++ (x ∷ following) → Beside xs ys x y
  later : (following : List (List ℕ)) → xs ≡ ys ++ (y ∷ following) → Beside xs ys x y

both_longer : (a : List ℕ) (xs ys : List (List ℕ)) (x y : List ℕ) → Beside xs ys x y → Beside (a ∷ xs) (a ∷ ys) x y
both_longer a xs ys x y (same e f) = same (ap (λ t. a ∷ t) e) f
both_longer a xs ys x y (sooner following e) = sooner following (ap (λ t. a ∷ t) e)
both_longer a xs ys x y (later following e) = later following (ap (λ t. a ∷ t) e)

beside : (xs ys : List (List ℕ)) (x y : List ℕ) (more rest : List (List ℕ)) → xs ++ (x ∷ more) ≡ ys ++ (y ∷ rest) → Beside xs ys x y
beside [] [] x y more rest e = same refl (let f : x ≡ y = cc in f)
beside [] (b ∷ bs) x y more rest e = sooner bs (let f : x ≡ b = cc in ap (λ t. t ∷ bs) (sym f))
beside (a ∷ az) [] x y more rest e = later az (let f : a ≡ y = cc in ap (λ t. t ∷ az) f)
beside (a ∷ az) (b ∷ bs) x y more rest e =
    let f : a ≡ b = cc in
    let g : az ++ (x ∷ more) ≡ bs ++ (y ∷ rest) = cc in
    subst (λ t. Beside (a ∷ az) (t ∷ bs) x y) f (both_longer a az bs x y (beside az bs x y more rest g))

ends_in : (ts : List (List ℕ)) (t : List ℕ) → ts ++ (t ∷ []) ≡ [] → ⊥
ends_in [] t e = cc
ends_in (x ∷ xs) t e = cc

no_texts : (ls : List Line) → texts_in ls ≡ [] → ls ≡ []
no_texts [] e = refl
no_texts (l ∷ ls) e = absurd (ends_in (texts_in ls) _ (sym (texts_in-cons l ls) ∙ e))

-- lines with the same texts are equal
same_lines : (ks ls : List Line) → LinesAreWithinLimits ks → LinesAreWithinLimits ls → texts_in ks ≡ texts_in ls → ls ≡ ks
same_lines ks ls p q e =
    let a = later_than ks ls [] p q (sym e ∙ sym (append-nil (texts_in ks))) in
    a.are ∙ ap (λ x. x ++ ks) (no_texts a.later a.others)

-- `SameBad k l w v` holds if two lines at fault have the same number and the same reason.
record SameBad (k l : ℕ) (w v : HintWhy) : Type 0 where
  number : k ≡ l
  why : w ≡ v

module _ (text : List ℕ) (k l : ℕ) (w v : HintWhy) (p : IsBadAt text k w) (q : IsBadAt text l v) where
  at_one_place : Beside (texts_in p.earlier) (texts_in q.earlier) p.bytes q.bytes → SameBad k l w v
  at_one_place (sooner following e) = absurd (derivation_has_none q.earlier p.earlier p.bytes following w q.are q.derivation p.are e p.fault)
  at_one_place (later following e) = absurd (derivation_has_none p.earlier q.earlier q.bytes following v p.are p.derivation q.are e q.fault)
  at_one_place (same e f) =
      let g : q.earlier ≡ p.earlier = same_lines p.earlier q.earlier p.are q.are e in
      let h : IsAtFault p.earlier p.bytes v = subst (λ b. IsAtFault p.earlier b v) (sym f) (subst (λ ls. IsAtFault ls q.bytes v) g q.fault) in
      record {
        number = p.number ∙ ap (λ (ls : List Line). capped (length ls + 1)) (sym g) ∙ sym q.number;
        why = one_why p.earlier p.bytes w v (reason p.earlier p.bytes w p.fault) (reason p.earlier p.bytes v h);
      }

  same_bad : SameBad k l w v
  same_bad =
      let b = bad_lines p.earlier p.bytes p.rest p.are p.first in
      let d = bad_lines q.earlier q.bytes q.rest q.are q.first in
      at_one_place (beside (texts_in p.earlier) (texts_in q.earlier) p.bytes q.bytes b.0 d.0 (sym b.1 ∙ ap lines (sym p.whole ∙ q.whole) ∙ d.1))

-- EQUAL PROOFS
texts_of : (text : List ℕ) (ls : List Line) → LinesAreWithinLimits ls → text ≡ text_of ls → lines text ≡ texts_in ls
texts_of text ls p e =
    ap lines (e ∙ sym (append-nil (text_of ls))) ∙ lines_of_text ls [] p ∙ ap (λ x. texts_in ls ++ x) lines_none ∙ append-nil (texts_in ls)

same_proof : (text : List ℕ) (d e : Bool) (c b m n : ℕ) → IsProof text d c m → IsProof text e b n → Proved d c m ≡ Proved e b n
same_proof text d e c b m n p q =
    let f : q.all ≡ p.all = same_lines p.all q.all p.are q.are (sym (texts_of text p.all p.are p.whole) ∙ texts_of text q.all q.are q.whole) in
    let g : d ≡ e = p.says_empty ∙ ap derives_empty (sym f) ∙ sym q.says_empty in
    let h : c ≡ b = p.counts_cores ∙ ap (λ (ls : List Line). capped (core_count ls)) (sym f) ∙ sym q.counts_cores in
    let i : m ≡ n = p.counts_lines ∙ ap (λ (ls : List Line). capped (length ls)) (sym f) ∙ sym q.counts_lines in
    ap (λ x. Proved x c m) g ∙ ap (λ x. Proved e x m) h ∙ ap (λ x. Proved e b x) i

pub one_verdict : OneVerdict
one_verdict text (Proved d c m) (Proved e b n) p q = same_proof text d e c b m n p q
one_verdict text (Proved d c m) (Bad l v) p q = absurd (proved_is_not_bad text d c m l v p q)
one_verdict text (Bad k w) (Proved e b n) p q = absurd (proved_is_not_bad text e b n k w q p)
one_verdict text (Bad k w) (Bad l v) p q =
    let s = same_bad text k l w v p q in
    ap (λ x. Bad x w) s.number ∙ ap (Bad l) s.why
