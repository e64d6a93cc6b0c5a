-- The literals of a line, one by one.
use Rattle.std.proofs.Common.{ℕ, ◌+◌, ◌<◌, ◌≤◌, ◌≡◌, ◌∷◌, ◌++◌, [], List, length, drop, get_or, append-nil, append_assoc, sym, ◌∙◌, ap, subst}
use Rattle.std.proofs.lemmas.List.{map-append, drop_more}
use Rattle.std.specs.List.{AllByRecursion}
use Rattle.sat_base.specs.values.Literals.{var_limit}
use Rattle.sat_base.specs.script.Script.{Literal}
use Rattle.certify.specs.answers.Answers.{literals_text, literal_text}
use Rattle.certify.specs.answers.AnswerForms.{HaveNames, IsName, named_literal, named_literals}
use Rattle.certify.specs.answers.AnswerReading.{BeginsNoLiteral}
use Rattle.certify.proofs.lemmas.laws.DistinctTexts.{plain_word, at_space, not_end, same_literals as literals_of_texts}

within_limit : (ls : List Literal) → HaveNames ls → AllByRecursion (λ l. l.name ≤ var_limit) ls
within_limit [] h = tt
within_limit (l ∷ ls) h = (h.0.1, within_limit ls h.1)

-- the text of a line determines its literals
pub same_literals : (ls ks : List Literal) (x y : List ℕ) → HaveNames ls → HaveNames ks → literals_text ls ++ x ≡ literals_text ks ++ y → (ls ≡ ks) × (x ≡ y)
same_literals ls ks x y h k e = literals_of_texts ls ks x y (within_limit ls h) (within_limit ks k) e

-- `Read bytes line rest` holds if the literals of the line have been read, and `rest` is left. Any line at the
-- beginning of the bytes continues in `rest`, and conversely.
pub record Read (bytes line rest : List ℕ) : Type 0 where
  pub names : HaveNames (named_literals line)
  pub forth : (ls : List Literal) (tail : List ℕ) → HaveNames ls → bytes ≡ literals_text ls ++ tail → (more : List Literal) × (HaveNames more × (rest ≡ literals_text more ++ tail))
  pub back : (more : List Literal) (tail : List ℕ) → rest ≡ literals_text more ++ tail → bytes ≡ literals_text (named_literals line ++ more) ++ tail

have_names_snoc : (ls : List Literal) (l : Literal) → HaveNames ls → IsName l.name → HaveNames (ls ++ (l ∷ []))
have_names_snoc [] l h k = (k, tt)
have_names_snoc (m ∷ ls) l h k = (h.0, have_names_snoc ls l h.1 k)

after_word : (m : Literal) (more : List Literal) (following tail : List ℕ) → IsName m.name → HaveNames more → literal_text m ++ (32 ∷ following) ≡ literals_text more ++ tail → (left : List Literal) × (HaveNames left × (following ≡ literals_text left ++ tail))
after_word m [] following tail h k e = absurd (not_end (literal_text m) tail following (plain_word m h.1) (sym e))
after_word m (l ∷ ls) following tail h k e =
    let p = at_space (literal_text m) (literal_text l) following (literals_text ls ++ tail) (plain_word m h.1) (plain_word l k.0.1) (e ∙ append_assoc (literal_text l) (32 ∷ literals_text ls) tail) in
    (ls, (k.1, p.1))

-- one more literal was read
pub one_read : (bytes line rest following : List ℕ) (l : ℕ) → Read bytes line rest → IsName (named_literal l).name → rest ≡ literal_text (named_literal l) ++ (32 ∷ following) → Read bytes (line ++ (l ∷ [])) following
one_read bytes line rest following l r h e = record {
  names = subst HaveNames (sym (map-append named_literal line (l ∷ []))) (have_names_snoc (named_literals line) (named_literal l) r.names h);
  forth = λ ls tail k f. let more = r.forth ls tail k f in after_word (named_literal l) more.0 following tail h more.1.0 (sym e ∙ more.1.1);
  back = λ more tail f.
      let g : rest ≡ literals_text (named_literal l ∷ more) ++ tail
      = e ∙ ap (λ t. literal_text (named_literal l) ++ (32 ∷ t)) f ∙ sym (append_assoc (literal_text (named_literal l)) (32 ∷ literals_text more) tail) in
      let s : named_literals (line ++ (l ∷ [])) ++ more ≡ named_literals line ++ (named_literal l ∷ more)
      = ap (λ t. t ++ more) (map-append named_literal line (l ∷ [])) ∙ append_assoc (named_literals line) (named_literal l ∷ []) more in
      r.back (named_literal l ∷ more) tail g ∙ ap (λ t. literals_text t ++ tail) (sym s);
}

-- if `0` and LF come next, all literals of the line were read
pub all_read : (bytes line rest tail : List ℕ) → Read bytes line rest → rest ≡ 48 ∷ 10 ∷ tail → HaveNames (named_literals line) × (bytes ≡ literals_text (named_literals line) ++ tail)
all_read bytes line rest tail r e = (r.names, r.back [] tail e ∙ ap (λ t. literals_text t ++ tail) (append-nil (named_literals line)))

-- the bytes begin with no line if neither a literal nor the end comes next
pub not_read : (bytes line rest : List ℕ) → Read bytes line rest → BeginsNoLiteral rest → (ls : List Literal) (tail : List ℕ) → (rest ≡ 48 ∷ 10 ∷ tail → ⊥) → HaveNames ls → bytes ≡ literals_text ls ++ tail → ⊥
not_read bytes line rest r none ls tail end h e = let more = r.forth ls tail h e in go more.0 more.1.0 more.1.1
  where
    go : (more : List Literal) → HaveNames more → rest ≡ literals_text more ++ tail → ⊥
    go [] k f = end f
    go (l ∷ ks) k f = none l (literals_text ks ++ tail) k.0 (f ∙ append_assoc (literal_text l) (32 ∷ literals_text ks) tail)

-- appending a literal and a space to the output leaves the text of the later literals
pub literal_pushed : (whole : List ℕ) (ls : List ℕ) (i d : ℕ) (out word spaced : List ℕ) → i < length ls → word ≡ out ++ literal_text (named_literal (get_or ls i d)) → spaced ≡ word ++ 32 ∷ [] → out ++ literals_text (named_literals (drop i ls)) ≡ whole → spaced ++ literals_text (named_literals (drop (i + 1) ls)) ≡ whole
literal_pushed whole ls i d out word spaced h w s before =
    let text = literal_text (named_literal (get_or ls i d)) in
    let rest = literals_text (named_literals (drop (i + 1) ls)) in
    ap (λ xs. xs ++ rest) (s ∙ ap (λ xs. xs ++ 32 ∷ []) w) ∙ append_assoc (out ++ text) (32 ∷ []) rest ∙ append_assoc out text (32 ∷ rest)
    ∙ sym (ap (λ xs. out ++ literals_text (named_literals xs)) (drop_more ls i d h)) ∙ before
