-- How the clauses of a formula are spelled: a second definition of the texts that end cleanly.
use Rattle.std.specs.Prelude.{◌≡◌, ℕ, ◌+◌, ◌<◌, ◌↔◌, ◌⊎◌, List, [], ◌∷◌, ◌++◌, map, not}
use Rattle.std.specs.List.{AllByRecursion}
use Rattle.sat_base.specs.values.Literals.{var_limit, variable, is_positive}
use Rattle.sat_base.specs.text.Text.{Token, Number, Header, tokens}
use Rattle.sat_base.specs.dimacs.Dimacs.{Ending, Clean, IsDimacs}
use Rattle.sat_base.specs.script.Language.{without_lines}
use Rattle.sat_base.specs.script.ScriptSpelling.{IsZeroToken}

-- the token of a literal: the number of its variable, counted from 1, negative if the literal is
abbrev pub signed_number : ℕ → Token
signed_number l = Number (not (is_positive l)) (variable l + 1)

-- `AreWithinLimit ls` holds if the numbers of all literals are at most 2^28.
abbrev pub AreWithinLimit : List ℕ → Type 0
AreWithinLimit ls = AllByRecursion (λ l. variable l < var_limit) ls

-- `SpellsClause ls ts` holds if the tokens spell the clause `ls`: the numbers of its literals, then a zero.
abbrev pub SpellsClause : List ℕ → List Token → Type 0
SpellsClause ls ts = (last : Token) × IsZeroToken last × AreWithinLimit ls × (ts ≡ map signed_number ls ++ last ∷ [])

-- `SpellsClauses cs ts` holds if the tokens spell the clauses, one after another.
abbrev pub SpellsClauses : List (List ℕ) → List Token → Type 0
SpellsClauses [] ts = ts ≡ []
SpellsClauses (ls ∷ cs) ts = (front : List Token) × (rest : List Token) × SpellsClause ls front × SpellsClauses cs rest
    × (ts ≡ front ++ rest)

-- `SpellsFormula cs ts` holds if the tokens spell the clauses, possibly after a header.
abbrev pub SpellsFormula : List (List ℕ) → List Token → Type 0
SpellsFormula cs ts = SpellsClauses cs ts
    ⊎ ((vars : ℕ) × (clauses : ℕ) × (rest : List Token) × (ts ≡ Header vars clauses ∷ rest) × SpellsClauses cs rest)

-- `OneFormula` holds if every text has exactly one list of clauses and one ending.
pub record OneFormula : Type 0 where
  pub some : (text : List ℕ) → (cs : List (List ℕ)) × (end : Ending) × IsDimacs text cs end
  pub one : (text : List ℕ) (cs ds : List (List ℕ)) (d e : Ending)
      → IsDimacs text cs d → IsDimacs text ds e → (cs ≡ ds) × (d ≡ e)

-- `CleanIfSpelled` holds if, for every text and list of clauses, the text ends cleanly with these clauses exactly if
-- its tokens are the clauses' literals, each clause followed by a zero, possibly after a header.
abbrev pub CleanIfSpelled : Type 0
CleanIfSpelled = (text : List ℕ) (cs : List (List ℕ)) → IsDimacs text cs Clean ↔ SpellsFormula cs (without_lines (tokens text))
