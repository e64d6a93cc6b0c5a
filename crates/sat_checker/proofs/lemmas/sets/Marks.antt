-- Increasing lists have no repeats.
use Rattle.std.proofs.Common.{ℕ, ◌<◌, ◌≡◌, false, eqb, List, [], ◌∷◌, refl, arith}
use Rattle.std.proofs.lemmas.Bool.{ne_eqb}
use Rattle.std.specs.List.{AllByRecursion}
use Rattle.sat_checker.specs.LiteralSets.{is_among}
use Rattle.sat_checker.specs.inner.Marks.{NoRepeats, IsIncreasing}

-- a number below all members is not a member
pub below_all : (l : ℕ) (ls : List ℕ) → AllByRecursion (λ m. l < m) ls → is_among ls l ≡ false
below_all l [] h = refl
below_all l (m ∷ ms) h =
    let e : eqb m l ≡ false = ne_eqb m l (λ s. let k : l < m = h.0 in omega arith) in
    rw e (below_all l ms h.1)

pub once : (ls : List ℕ) → IsIncreasing ls → NoRepeats ls
once [] h = tt
once (l ∷ ls) h = (below_all l ls h.0, once ls h.1)
