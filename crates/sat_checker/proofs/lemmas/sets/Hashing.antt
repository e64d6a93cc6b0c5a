-- The hash of a clause, one literal after another.
use Rattle.std.proofs.Common.{ℕ, suc, ◌+◌, ◌*◌, ◌/◌, ◌%◌, ◌<◌, ◌≡◌, Bool, true, false, cond, eqb, length, drop, get_or, List, map, Option, Some, None, refl, sym, ◌∙◌, arith}
use Rattle.std.proofs.Math.Seq.{drop-cons}
use Rattle.std.specs.Int.Bits.{bit_xor, xor_assoc}
use Rattle.std.proofs.lemmas.Bool.{eqb-true, eqb-false}
use Rattle.sat_base.specs.values.Literals.{mk_lit, is_positive, variable}
use Rattle.sat_base.specs.values.Hashes.{hash_of, literal_hash}
use Rattle.sat_checker.specs.Stored.{solver_literal}

pub sign_of : (l v : ℕ) → mk_lit v (is_positive l) ≡ 2 * v + l % 2
sign_of l v = go (eqb (l % 2) 0) refl
  where
    go : (b : Bool) → eqb (l % 2) 0 ≡ b → 2 * v + cond b 0 1 ≡ 2 * v + l % 2
    go true e = let z = eqb-true (l % 2) 0 e in omega arith
    go false e = let z = eqb-false (l % 2) 0 e in omega arith

pub named_some : (names : ℕ → Option ℕ) (l v : ℕ) → names (variable l) ≡ Some v → mk_lit v (is_positive l) ≡ solver_literal names l
named_some names l v e = sign_of l v ∙ sym (rw e refl)

pub named_none : (names : ℕ → Option ℕ) (l : ℕ) → names (variable l) ≡ None → l ≡ solver_literal names l
named_none names l e = rw e (let k : l ≡ 2 * (l / 2) + l % 2 = omega arith in k)

-- the hash of the next literal moves from the remaining hash to the hash so far
pub hash_next : (solver : ℕ → ℕ) (ls : List ℕ) (i hash : ℕ) → i < length ls
    → bit_xor hash (hash_of (map solver (drop i ls))) ≡ bit_xor (bit_xor hash (literal_hash (solver (get_or ls i 0)))) (hash_of (map solver (drop (i + 1) ls)))
hash_next solver ls i hash h = let e : i + 1 ≡ suc i = omega arith in rw (e, drop-cons ls i 0) (sym (xor_assoc hash (literal_hash (solver (get_or ls i 0))) (hash_of (map solver (drop (suc i) ls)))))

pub ruleset named_literal = (named_some, named_none)
