-- Binary clauses as lists of implied literals.
use Rattle.std.specs.Prelude.{ℕ, ◌≡◌, ◌+◌, ◌-◌, ◌/◌, ◌^◌, min, Bool, Option, if◌then◌else◌, List, [], ◌∷◌, ◌++◌, take, replicate, length, slice_index_or as get_or, slice_set as set}
use Rattle.std.specs.List.{filter, sum_by}
use Rattle.sat_base.specs.values.Literals.{negated, variable}
use Rattle.sat_parts.specs.prop.Values.{is_unassigned_var}

-- the lists of implied literals, indexed by literal code, and the number of binary clauses (it saturates at 2^64 - 1)
pub record Binaries : Type 0 where
  pub implied : List (List ℕ)
  pub count : ℕ

-- the literals that the literal l implies
abbrev pub implied_by : List (List ℕ) → ℕ → List ℕ
implied_by implied l = get_or implied l []

-- the lists, with m added to the literals that l implies
abbrev pub with_implied : ℕ → ℕ → List (List ℕ) → List (List ℕ)
with_implied l m implied = set implied l (implied_by implied l ++ m ∷ [])

-- the lists without the last literal that l implies
abbrev pub without_last_implied : ℕ → List (List ℕ) → List (List ℕ)
without_last_implied l implied = set implied l (take (length (implied_by implied l) - 1) (implied_by implied l))

-- the binary clauses with one more clause: the negation of each of its literals implies the other literal
abbrev pub with_binary : ℕ → ℕ → Binaries → Binaries
with_binary a b x = record {
  implied = with_implied (negated b) a (with_implied (negated a) b x.implied);
  count = min (x.count + 1) (2 ^ 64 - 1);
}

-- the binary clauses with lists for exactly `count` literals: excess lists are cut off, and empty lists are added; the
-- number of clauses stays
abbrev pub with_binary_lists : ℕ → Binaries → Binaries
with_binary_lists count x = record x { implied = take count x.implied ++ replicate (count - length x.implied) [] }

-- the unassigned literals of `ls`, or none if the variable `v` is assigned
abbrev pub unassigned_among : List (Option Bool) → (v : ℕ) → List ℕ → List ℕ
unassigned_among values v ls = if is_unassigned_var values v then filter (λ l. is_unassigned_var values (variable l)) ls else []

-- the total length of the lists of implied literals, twice the number of binary clauses (capped at 2^64 - 1)
abbrev pub implications : List (List ℕ) → ℕ
implications implied = min (sum_by (λ (ls : List ℕ). length ls) implied) (2 ^ 64 - 1)

-- `RemovesAssigned values old new` holds if the clauses with an assigned variable were removed, and the others are kept
-- in order.
pub record RemovesAssigned (values : List (Option Bool)) (old new : Binaries) : Type 0 where
  pub size : length new.implied ≡ length old.implied
  pub implied : (l : ℕ) → implied_by new.implied l ≡ unassigned_among values (variable l) (implied_by old.implied l)
  pub count : new.count ≡ implications new.implied / 2
