use Rattle.std.proofs.Common.{ℕ, ◌≡◌, ◌*◌, ◌<◌, ◌≤◌, Bool, true, false, not, List, Option, Some, None, length, refl, sym, subst, inl, inr, arith}
use Rattle.std.proofs.lemmas.Bool.{both_ways, cases_lt}
use Rattle.sat_base.specs.values.Literals.{is_positive, variable}
use Rattle.sat_parts.specs.clause.Orders.{PermutesClause}
use Rattle.sat_parts.specs.clause.Stored.{lit_of, size_of}
use Rattle.sat_parts.specs.prop.Values.{IsFalseLit, IsTrueLit, IsUnassignedLit, value_of}
use Rattle.sat_parts.proofs.lemmas.clause.OrderLemmas.{shuffles_trans, below_shuffled}
use Rattle.sat_parts.proofs.prop.long.visit_clause.Goals as goal

-- the second literal is false, and so are those before the end of the search
rest_false : (v : List ℕ) (a : List (Option Bool)) (o fl end : ℕ) → lit_of v o 1 ≡ fl → IsFalseLit a fl → ((k : ℕ) → 2 ≤ k → k < end → IsFalseLit a (lit_of v o k)) → size_of v o ≤ end → (k : ℕ) → 1 ≤ k → k < size_of v o → IsFalseLit a (lit_of v o k)
rest_false v a o fl end s f h e k l b = elim (cases_lt k 2) [
  | inl one ↦ let i : 1 ≡ k = omega arith in subst (λ j. IsFalseLit a (lit_of v o j)) i (subst (λ x. IsFalseLit a x) (sym s) f)
  | inr two ↦ h k two (omega arith)
]

all_false : (v : List ℕ) (a : List (Option Bool)) (o first : ℕ) → first ≡ lit_of v o 0 → IsFalseLit a first → ((k : ℕ) → 1 ≤ k → k < size_of v o → IsFalseLit a (lit_of v o k)) → (k : ℕ) → k < size_of v o → IsFalseLit a (lit_of v o k)
all_false v a o first e f rest k b = elim (cases_lt k 1) [
  | inl z ↦ let i : 0 ≡ k = omega arith in subst (λ j. IsFalseLit a (lit_of v o j)) i (subst (λ x. IsFalseLit a x) e f)
  | inr one ↦ rest k one b
]

no_value : (value : Option Bool) (p : Bool) → (value ≡ Some p → ⊥) → (value ≡ Some (not p) → ⊥) → value ≡ None
no_value None p f g = refl
no_value (Some true) true f g = absurd (f refl)
no_value (Some true) false f g = absurd (g refl)
no_value (Some false) true f g = absurd (g refl)
no_value (Some false) false f g = absurd (f refl)

pub find_open-at-requires-clause-below : goal.find_open-at-requires-clause-below
find_open-at-requires-clause-below c =
    below_shuffled c.args.clauses.now c.orient.new.clauses c.args.cref (2 * length c.args.assignment.now.current) c.orient.ensures.shuffles c.requires.below

pub add_watch-requires : goal.add_watch-requires
add_watch-requires c =
    let p : PermutesClause c.args.clauses.now c.orient.new.clauses c.args.cref = c.orient.ensures.shuffles in
    let size : size_of c.orient.new.clauses c.args.cref ≡ size_of c.args.clauses.now c.args.cref = p.lits.size in
    let b : lit_of c.orient.new.clauses c.args.cref c.find_open-at.result < 2 * length c.args.assignment.now.current =
    below_shuffled c.args.clauses.now c.orient.new.clauses c.args.cref (2 * length c.args.assignment.now.current) p c.requires.below c.find_open-at.result (omega arith) in
    omega (arith, b, c.swap_second-second.ensures.value, c.not.ensures, c.requires.room)

pub returns-in_err-add_watch-clause-shuffles : goal.returns-in_err-add_watch-clause-shuffles
returns-in_err-add_watch-clause-shuffles c =
    shuffles_trans c.args.clauses.now c.orient.new.clauses c.swap_second-second.new.clauses c.args.cref c.orient.ensures.shuffles c.swap_second-second.ensures.shuffles

pub returns-then-at-len-clause-shuffles : goal.returns-then-at-len-clause-shuffles
returns-then-at-len-clause-shuffles c =
    shuffles_trans c.args.clauses.now c.orient.new.clauses c.swap_second-second.new.clauses c.args.cref c.orient.ensures.shuffles c.swap_second-second.ensures.shuffles

pub returns-in_default-clause-visited : goal.returns-in_default-clause-visited
returns-in_default-clause-visited c = let x = c.in_default.ensures.oriented in (x.0, x.1, x.2, refl)

pub returns-then-lit_is_true-clause-visited : goal.returns-then-lit_is_true-clause-visited
returns-then-lit_is_true-clause-visited c =
    let x = c.in-Some.ensures.oriented in
    (x.0, x.1, refl, subst (λ l. IsTrueLit c.args.assignment.now.current l) x.1 (c.lit_is_true.ensures.0 c.if-lit_is_true.true))

pub returns-then-lit_is_false-clause-visited : goal.returns-then-lit_is_false-clause-visited
returns-then-lit_is_false-clause-visited c =
    let x = c.in-Some.ensures.oriented in
    let v = c.orient.new.clauses in
    let a = c.args.assignment.now.current in
    let ended : size_of c.orient.new.clauses c.args.cref ≤ c.find_open-at.result = omega (arith, c.len.ensures.lits) in (
      x.0,
      x.1,
      refl,
      all_false v a c.args.cref c.in-Some.first x.1 (c.lit_is_false.ensures.0 c.if-lit_is_false.true)
          (rest_false v a c.args.cref c.args.false_lit c.find_open-at.result x.0.second c.requires.falsified c.find_open-at.ensures.before ended),
    )

pub returns-else-lit_is_false-clause-visited : goal.returns-else-lit_is_false-clause-visited
returns-else-lit_is_false-clause-visited c =
    let x = c.in-Some.ensures.oriented in
    let v = c.orient.new.clauses in
    let a = c.args.assignment.now.current in
    let ended : size_of c.orient.new.clauses c.args.cref ≤ c.find_open-at.result = omega (arith, c.len.ensures.lits) in
    let none = no_value (value_of a (variable c.in-Some.first)) (is_positive c.in-Some.first)
    (λ t. both_ways c.lit_is_true.result c.if-lit_is_true.false (c.lit_is_true.ensures.1 t)) (λ f. both_ways c.lit_is_false.result c.if-lit_is_false.false (c.lit_is_false.ensures.1 f)) in (
      x.0,
      x.1,
      refl,
      rest_false v a c.args.cref c.args.false_lit c.find_open-at.result x.0.second c.requires.falsified c.find_open-at.ensures.before ended,
      subst (λ l. IsUnassignedLit a l) x.1 none,
    )
