-- The order in which a reduction considers clauses.
use Rattle.std.specs.Prelude.{ℕ, ◌+◌, ◌*◌, ◌^◌, List}
use Rattle.sat_store.specs.clause.Buffer.{header_at}

-- the rank of a clause: by activity, then by offset
abbrev pub clause_rank : List ℕ → ℕ → ℕ
clause_rank words o = (header_at words o).activity * 2 ^ 64 + o

-- the pair of the rank (by activity, then by offset) of the clause at offset `o`, and that offset
abbrev pub with_rank : List ℕ → ℕ → ℕ × ℕ
with_rank words o = (clause_rank words o, o)
