-- Writing a formula's text, part by part.
use Rattle.std.proofs.Common.{◌≡◌, ℕ, ◌+◌, ◌<◌, ◌≤◌, List, [], ◌∷◌, ◌++◌, length, drop, get_or, suc, decimal, codes, Bool, false, if◌then◌else◌, sym, ap, ◌∙◌, arith}
use Rattle.std.proofs.lemmas.List.{drop_all}
use Rattle.std.proofs.Math.Seq.{drop-cons}
use Rattle.sat_base.specs.values.Literals.{is_positive, variable}
use Rattle.sat_base.specs.dimacs.DimacsText.{number_text, clause_line}

-- THE LITERALS OF A CLAUSE
pub next_literal : (ls : List ℕ) (i x d : ℕ) → i < length ls → x ≡ get_or ls i d → clause_line (drop i ls) ≡ number_text x ++ (32 ∷ clause_line (drop (i + 1) ls))
next_literal ls i x d h e =
    let n : suc i ≡ i + 1 = omega arith in
    ap clause_line (drop-cons ls i d h) ∙ ap (λ (y : ℕ). number_text y ++ (32 ∷ clause_line (drop (suc i) ls))) (sym e) ∙ ap (λ (j : ℕ). number_text x ++ (32 ∷ clause_line (drop j ls))) n

pub last_literal : (ls : List ℕ) (i : ℕ) → length ls ≤ i → clause_line (drop i ls) ≡ 48 ∷ 10 ∷ []
last_literal ls i h = ap clause_line (drop_all i ls h)

-- A LITERAL
pub negative_text : (l : ℕ) (b : Bool) → b ≡ is_positive l → b ≡ false → 45 ∷ decimal (variable l + 1) ≡ number_text l
negative_text l b e f = ap (λ (t : Bool). (if t then [] else codes "-") ++ decimal (variable l + 1)) (sym f ∙ e)
