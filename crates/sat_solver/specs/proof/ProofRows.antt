-- Worked examples of widths and lines.
use Rattle.std.specs.Prelude.{◌≡◌, true, false, [], ◌∷◌}
use Rattle.sat_base.specs.steps.Steps.{Redundant, AddClause, AtClause, DeleteClause}
use Rattle.sat_solver.specs.proof.Counting.{nothing_counted, fitting_bits, counting_after}
use Rattle.sat_solver.specs.proof.DratText.{drat_text}

-- `WidthRows` holds if the width for a number of clauses is as follows. From 64: 64 for 4 before the first ask; then 6
-- for 3, 8 for 4 and for 7, 10 for 8. From 6: 8 for 9 clauses before the first ask, and 10 for 17 after it.
abbrev pub WidthRows : Type 0
WidthRows = (fitting_bits false 4 64 ≡ 64) × (fitting_bits true 3 64 ≡ 6) × (fitting_bits true 4 64 ≡ 8) × (fitting_bits true 7 64 ≡ 8) × (fitting_bits true 8 64 ≡ 10) × (fitting_bits false 9 6 ≡ 8) × (fitting_bits true 17 6 ≡ 10)

-- `CountRow` holds if adding the clauses [1, -2] and [1, 2] (codes 0 3 and 0 2) counts two clauses, and the width stays
-- 64 before the first ask
abbrev pub CountRow : Type 0
CountRow = counting_after (AddClause (0 ∷ 2 ∷ [])) (counting_after (AddClause (0 ∷ 3 ∷ [])) nothing_counted) ≡ record { clauses = 2; bits = 64; solving = false }

-- `LineRows` holds if the deletion of the clause [63, -64] is in binary 64 7e 81 01 00 (hex), the derivation of the
-- empty clause is 61 00, and in decimal the addition of the input clause [1] has no line
abbrev pub LineRows : Type 0
LineRows = (drat_text true (DeleteClause (124 ∷ 127 ∷ []) Redundant) ≡ 0x64 ∷ 0x7e ∷ 0x81 ∷ 0x01 ∷ 0x00 ∷ [])
    × (drat_text true (AtClause false [] []) ≡ 0x61 ∷ 0x00 ∷ [])
    × (drat_text false (AddClause (0 ∷ [])) ≡ [])
