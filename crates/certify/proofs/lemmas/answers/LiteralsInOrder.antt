-- The literals of a line, read in order.
use Rattle.std.proofs.Common.{ℕ, ◌+◌, ◌<◌, ◌≤◌, ◌≡◌, ◌↔◌, ◌++◌, ◌∷◌, [], List, map, append-nil, append_assoc, refl, sym, ◌∙◌, ap, subst, arith}
use Rattle.std.proofs.lemmas.List.{map-append}
use Rattle.sat_base.specs.script.Script.{Literal, names_of, AreSortedLiterals}
use Rattle.certify.specs.answers.Answers.{literals_text, literal_text}
use Rattle.certify.specs.answers.AnswerForms.{HaveNames, NamesStrictlyIncrease, IsPrintable, IsName, LiteralsAreInOrder, named_literal, named_literals}
use Rattle.certify.specs.answers.AnswerReading.{HasSecondLine, WhyNoLiterals, CannotBeginLiteral, CannotBeginLiterals, outcome_of, literal_sort_key}
use Rattle.certify.specs.declared.answers.read.AnswerKind.{AnswerKind}
use Rattle.certify.specs.declared.answers.read.AnswerKind.TheVariants as kind
use Rattle.certify.specs.declared.answers.read.AnswerFault.TheVariants.{Text, OutOfMemory}
use Rattle.certify.proofs.lemmas.answers.LinesByKind.{line_literals}
use Rattle.certify.proofs.lemmas.answers.LiteralsOfLines.{Read, not_read, one_read, same_literals}
use Rattle.certify.proofs.lemmas.answers.LineOrder.{RiseFrom, rise_ordered, ordered_rise}

-- the text of each literal and a space after it
abbrev pub words_text : List Literal → List ℕ
words_text [] = []
words_text (l ∷ ls) = literal_text l ++ (32 ∷ words_text ls)

-- `GoOnFrom k line least` holds if places rise after those of the line exactly when they rise from `least`.
abbrev pub GoOnFrom : AnswerKind → List ℕ → ℕ → Type 0
GoOnFrom k line least = (places : List ℕ) → RiseFrom 0 (map (literal_sort_key k) line ++ places) ↔ RiseFrom least places

-- `ReadInOrder k bytes line rest least` holds if the literals of the line have been read word by word and in order, and
-- `rest` is left.
pub record ReadInOrder (k : AnswerKind) (bytes line rest : List ℕ) (least : ℕ) : Type 0 where
  pub read : Read bytes line rest
  pub words : bytes ≡ words_text (named_literals line) ++ rest
  pub order : GoOnFrom k line least

-- the words of joined lists are the joined words
words_joined : (ls ks : List Literal) → words_text (ls ++ ks) ≡ words_text ls ++ words_text ks
words_joined [] ks = refl
words_joined (l ∷ ls) ks = ap (λ t. literal_text l ++ (32 ∷ t)) (words_joined ls ks) ∙ sym (append_assoc (literal_text l) (32 ∷ words_text ls) (words_text ks))

-- a line's text is its words and the end
words_ended : (ls : List Literal) → literals_text ls ≡ words_text ls ++ (48 ∷ 10 ∷ [])
words_ended [] = refl
words_ended (l ∷ ls) = ap (λ t. literal_text l ++ (32 ∷ t)) (words_ended ls) ∙ sym (append_assoc (literal_text l) (32 ∷ words_text ls) (48 ∷ 10 ∷ []))

-- if the names of a list rise, so do those of a prefix
increasing_front : (ls ks : List Literal) → NamesStrictlyIncrease (names_of (ls ++ ks)) → NamesStrictlyIncrease (names_of ls)
increasing_front [] ks h = tt
increasing_front (l ∷ []) ks h = tt
increasing_front (l ∷ m ∷ ls) ks h = (h.0, increasing_front (m ∷ ls) ks h.1)

in_order_front : (ls ks : List Literal) → AreSortedLiterals (ls ++ ks) → AreSortedLiterals ls
in_order_front [] ks h = tt
in_order_front (l ∷ []) ks h = tt
in_order_front (l ∷ m ∷ ls) ks h = (h.0, in_order_front (m ∷ ls) ks h.1)

ordered_front : (k : AnswerKind) (ls ks : List Literal) → LiteralsAreInOrder (outcome_of k (ls ++ ks)) → LiteralsAreInOrder (outcome_of k ls)
ordered_front kind.Sat ls ks h = increasing_front ls ks h
ordered_front kind.Unsat ls ks h = in_order_front ls ks h
ordered_front kind.Unknown ls ks h = tt

-- after one more literal in order, later places must be above its place
goes_on : (k : AnswerKind) (line : List ℕ) (l least : ℕ) → GoOnFrom k line least → least ≤ literal_sort_key k l → GoOnFrom k (line ++ (l ∷ [])) (literal_sort_key k l + 1)
goes_on k line l least g h places =
    let e : map (literal_sort_key k) (line ++ (l ∷ [])) ++ places ≡ map (literal_sort_key k) line ++ (literal_sort_key k l ∷ places)
    = ap (λ t. t ++ places) (map-append (literal_sort_key k) line (l ∷ [])) ∙ append_assoc (map (literal_sort_key k) line) (literal_sort_key k l ∷ []) places in
    (λ r. ((g (literal_sort_key k l ∷ places)).0 (subst (RiseFrom 0) e r)).1, λ r. subst (RiseFrom 0) (sym e) ((g (literal_sort_key k l ∷ places)).1 (h, r)))

-- a line that can be continued in order is in order
in_full_order : (k : AnswerKind) (line : List ℕ) (least : ℕ) → GoOnFrom k line least → LiteralsAreInOrder (outcome_of k (named_literals line))
in_full_order k line least g = rise_ordered k line (subst (RiseFrom 0) (append-nil (map (literal_sort_key k) line)) ((g []).1 tt))

-- literals that were read in order, up to the end of the line, are in form
pub in_form : (k : AnswerKind) (bytes line rest : List ℕ) (least : ℕ) → HasSecondLine k → ReadInOrder k bytes line rest least → IsPrintable (outcome_of k (named_literals line))
in_form k bytes line rest least d r = (subst HaveNames (sym (line_literals k (named_literals line) d)) r.read.names, in_full_order k line least r.order)

-- one more literal was read in order
pub one_in_order : (k : AnswerKind) (bytes line rest following : List ℕ) (l least : ℕ) → ReadInOrder k bytes line rest least → IsName (named_literal l).name → rest ≡ literal_text (named_literal l) ++ (32 ∷ following) → least ≤ literal_sort_key k l
    → ReadInOrder k bytes (line ++ (l ∷ [])) following (literal_sort_key k l + 1)
one_in_order k bytes line rest following l least r n e h = record {
  read = one_read bytes line rest following l r.read n e;
  words =
      let f : literal_text (named_literal l) ++ (32 ∷ following) ≡ words_text (named_literal l ∷ []) ++ following = sym (append_assoc (literal_text (named_literal l)) (32 ∷ []) following) in
      let g : words_text (named_literals (line ++ (l ∷ []))) ≡ words_text (named_literals line) ++ words_text (named_literal l ∷ [])
      = ap words_text (map-append named_literal line (l ∷ [])) ∙ words_joined (named_literals line) (named_literal l ∷ []) in
      r.words ∙ ap (λ t. words_text (named_literals line) ++ t) (e ∙ f) ∙ sym (append_assoc (words_text (named_literals line)) (words_text (named_literal l ∷ [])) following) ∙ ap (λ t. t ++ following) (sym g);
  order = goes_on k line l least r.order h;
}

have_both : (ls ks : List Literal) → HaveNames ls → HaveNames ks → HaveNames (ls ++ ks)
have_both [] ks h i = i
have_both (l ∷ ls) ks h i = (h.0, have_both ls ks h.1 i)

-- any line in form at the beginning of the bytes begins with the literals that were read
begun : (k : AnswerKind) (bytes line rest : List ℕ) (ls : List Literal) (tail : List ℕ) → HasSecondLine k → Read bytes line rest → IsPrintable (outcome_of k ls) → bytes ≡ literals_text ls ++ tail → (more : List Literal) × (ls ≡ named_literals line ++ more)
begun k bytes line rest ls tail d r o e =
    let n : HaveNames ls = subst HaveNames (line_literals k ls d) o.0 in
    let more = r.forth ls tail n e in
    let m = have_both (named_literals line) more.0 r.names more.1.0 in
    (more.0, (same_literals ls (named_literals line ++ more.0) tail tail n m (sym e ∙ r.back more.0 tail more.1.1)).0)

-- the bytes begin with no line if the next literal is out of order
pub out_of_order : (k : AnswerKind) (bytes line rest following : List ℕ) (l least : ℕ) → HasSecondLine k → ReadInOrder k bytes line rest least → IsName (named_literal l).name → rest ≡ literal_text (named_literal l) ++ (32 ∷ following) → literal_sort_key k l < least
    → WhyNoLiterals k bytes Text
out_of_order k bytes line rest following l least d r n e low ls tail o f =
    let b = begun k bytes (line ++ (l ∷ [])) following ls tail d (one_read bytes line rest following l r.read n e) o f in
    let s : LiteralsAreInOrder (outcome_of k (named_literals (line ++ (l ∷ [])))) = ordered_front k (named_literals (line ++ (l ∷ []))) b.0 (subst (λ t. LiteralsAreInOrder (outcome_of k t)) b.1 o.1) in
    let p : RiseFrom 0 (map (literal_sort_key k) line ++ (literal_sort_key k l ∷ [])) = subst (RiseFrom 0) (map-append (literal_sort_key k) line (l ∷ [])) (ordered_rise k (line ++ (l ∷ [])) d s) in
    let q = ((r.order (literal_sort_key k l ∷ [])).0 p).0 in
    omega arith

-- memory is needed for the next literal, which is in order
pub no_room : (k : AnswerKind) (bytes line rest following : List ℕ) (l least : ℕ) → HasSecondLine k → ReadInOrder k bytes line rest least → IsName (named_literal l).name → rest ≡ literal_text (named_literal l) ++ (32 ∷ following) → least ≤ literal_sort_key k l
    → WhyNoLiterals k bytes OutOfMemory
no_room k bytes line rest following l least d r n e h =
    let s = one_in_order k bytes line rest following l least r n e h in
    let t : named_literals (line ++ (l ∷ [])) ≡ named_literals line ++ (named_literal l ∷ []) = map-append named_literal line (l ∷ []) in
    let o = subst (λ ls. IsPrintable (outcome_of k ls)) t (in_form k bytes (line ++ (l ∷ [])) following (literal_sort_key k l + 1) d s) in
    let w = s.words ∙ ap (λ ls. words_text ls ++ following) t in
    (d, (named_literals line, named_literal l, (o, (words_text (named_literals line ++ (named_literal l ∷ [])), following, (words_ended (named_literals line ++ (named_literal l ∷ [])), w)))))

-- PREFIXES OF A TEXT

-- `ReadSoFar k bytes rest least` holds if the literals were read in order, whatever bytes follow.
pub record ReadSoFar (k : AnswerKind) (bytes rest : List ℕ) (least : ℕ) : Type 0 where
  pub line : List ℕ
  pub before : (more : List ℕ) → ReadInOrder k (bytes ++ more) line (rest ++ more) least

-- the next word and its space stay next if more bytes follow
after_space : (l : ℕ) (rest following more : List ℕ) → rest ≡ literal_text (named_literal l) ++ (32 ∷ following) → rest ++ more ≡ literal_text (named_literal l) ++ (32 ∷ (following ++ more))
after_space l rest following more e = ap (λ t. t ++ more) e ∙ append_assoc (literal_text (named_literal l)) (32 ∷ following) more

pub one_so_far : (k : AnswerKind) (bytes rest following : List ℕ) (l least : ℕ) → ReadSoFar k bytes rest least → IsName (named_literal l).name → rest ≡ literal_text (named_literal l) ++ (32 ∷ following) → least ≤ literal_sort_key k l
    → ReadSoFar k bytes following (literal_sort_key k l + 1)
one_so_far k bytes rest following l least r n e h = record {
  line = r.line ++ (l ∷ []);
  before = λ more. one_in_order k (bytes ++ more) r.line (rest ++ more) (following ++ more) l least (r.before more) n (after_space l rest following more e) h;
}

-- a literal out of order begins no line
pub starts_out_of_order : (k : AnswerKind) (bytes rest following : List ℕ) (l least : ℕ) → HasSecondLine k → ReadSoFar k bytes rest least → IsName (named_literal l).name → rest ≡ literal_text (named_literal l) ++ (32 ∷ following) → literal_sort_key k l < least
    → CannotBeginLiterals k bytes
starts_out_of_order k bytes rest following l least d r n e low ls more o f =
    out_of_order k (bytes ++ more) r.line (rest ++ more) (following ++ more) l least d (r.before more) n (after_space l rest following more e) low ls [] o (sym f ∙ sym (append-nil (literals_text ls)))

-- bytes that begin neither with a literal nor with `0` and LF begin no line
pub starts_neither : (k : AnswerKind) (bytes rest : List ℕ) (least : ℕ) → HasSecondLine k → ReadSoFar k bytes rest least → CannotBeginLiteral rest → ((more : List ℕ) → 48 ∷ 10 ∷ [] ≡ rest ++ more → ⊥) → CannotBeginLiterals k bytes
starts_neither k bytes rest least d r none end ls more o f =
    not_read (bytes ++ more) r.line (rest ++ more) (r.before more).read (none more) ls [] (λ e. end more (sym e)) (subst HaveNames (line_literals k ls d) o.0) (sym f ∙ sym (append-nil (literals_text ls)))
