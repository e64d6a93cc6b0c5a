-- The written text of a formula has the meaning of that formula.
use Rattle.std.specs.Prelude.{◌≡◌, ◌≤◌, ◌<◌, ◌^◌, length, Some}
use Rattle.sat_base.specs.values.Literals.{var_limit}
use Rattle.sat_base.specs.values.Formulas.{Formula, clauses_var_count}
use Rattle.sat_base.specs.text.Text.{dimacs_header}
use Rattle.sat_base.specs.dimacs.Dimacs.{IsDimacs, Clean}
use Rattle.sat_base.specs.dimacs.DimacsText.{dimacs_text}

-- `WrittenIsRead` holds if the text of every formula within the limit of variables and with fewer than 2^64 clauses has
-- these clauses, ends cleanly, and has a header with the two counts.
abbrev pub WrittenIsRead : Type 0
WrittenIsRead = (f : Formula) → clauses_var_count f.clauses ≤ var_limit → f.var_count ≤ var_limit → length f.clauses < 2 ^ 64
    → IsDimacs (dimacs_text f) f.clauses Clean × (dimacs_header (dimacs_text f) ≡ Some (f.var_count, length f.clauses))
