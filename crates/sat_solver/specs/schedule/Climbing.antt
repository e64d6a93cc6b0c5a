-- How the words of a trail change from call to call during an ask. A search may have several words; each of them
-- leads to one after the call.
use Rattle.std.specs.Prelude.{ℕ, ◌≤◌, ◌≡◌, List, ◌++◌, length}
use Rattle.sat_parts.specs.prop.TrailWord.{Letter, IsLowerWord}
use Rattle.sat_solver.specs.schedule.Progress.{AskProgress}

-- `IsWordPrefix u v` holds if the word `u` is a prefix of the word `v`
abbrev pub IsWordPrefix : List Letter → List Letter → Type 0
IsWordPrefix u v = (w : List Letter) × (v ≡ u ++ w)

-- `ExtendsEachWord words old new` holds if every word of the trail of `old` is a prefix of some word of the trail of
-- `new`; `words` says which words a state has
abbrev pub ExtendsEachWord : {A : Type 0} (words : A → List Letter → Type 0) (old new : A) → Type 0
ExtendsEachWord words old new = (w : List Letter) → words old w → (v : List Letter) × (words new v × IsWordPrefix w v)

-- `RaisesEachWord words n old new` holds if, for every word of the trail of `old`, `new` has one that is
-- lexicographically higher and has at most `n` letters
abbrev pub RaisesEachWord : {A : Type 0} (words : A → List Letter → Type 0) (n : ℕ) (old new : A) → Type 0
RaisesEachWord words n old new = (w : List Letter) → words old w → (v : List Letter) × (words new v × IsLowerWord w v × (length v ≤ n))

-- `StartsAnew words old new` holds if `new` has some word of the trail whenever `old` has one; how they compare isn't
-- said
abbrev pub StartsAnew : {A : Type 0} (words : A → List Letter → Type 0) (old new : A) → Type 0
StartsAnew words old new = (w : List Letter) → words old w → (v : List Letter) × words new v

-- `AskReachesRound words s n start round next given` holds if some word of the trail of `s` shows that an ask over `n`
-- variables that began before round `start` has reached `round`; the next restart is due at `next`, and `given` terms
-- of Luby's sequence are used
abbrev pub AskReachesRound : {A : Type 0} (words : A → List Letter → Type 0) (s : A) (n start round next given : ℕ) → Type 0
AskReachesRound words s n start round next given = (w : List Letter) × (words s w × AskProgress n start round next given w)

-- `KeepsProgress words round old next given new next' given'` holds if every ask that had reached `round` by `old`,
-- with the next restart due at `next` and `given` terms used, has reached it by `new`, with `next'` and `given'`
abbrev pub KeepsProgress : {A : Type 0} (words : A → List Letter → Type 0) (round : ℕ) (old : A) (next given : ℕ) (new : A) (next' given' : ℕ) → Type 0
KeepsProgress words round old next given new next' given' = (n start : ℕ) → AskReachesRound words old n start round next given → AskReachesRound words new n start round next' given'
