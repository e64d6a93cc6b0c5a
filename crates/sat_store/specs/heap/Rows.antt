-- Examples of activities.
use Rattle.std.specs.Prelude.{ℕ, ◌^◌, ◌≡◌, List, [], ◌∷◌}
use Rattle.std.specs.Fn.{iterate}
use Rattle.sat_store.specs.heap.Vsids.{Queue, no_variables, with_variables, bumped, decayed}

-- a queue of four variables with bump 2^20 and decay one half (500 thousandths), where variable i was bumped i times:
-- the activities are 0, 1, 2 and 3 times 2^20
abbrev pub four_bumped : Queue
four_bumped = iterate (bumped 3) 3 (iterate (bumped 2) 2 (bumped 1 (record (with_variables 4 no_variables) { decay = 500 })))

-- `HasActivitiesAndBump activities bump q` holds if the queue has these activities and this bump.
abbrev pub HasActivitiesAndBump : List ℕ → ℕ → Queue → Type 0
HasActivitiesAndBump activities bump q = (q.activities ≡ activities) × (q.bump ≡ bump)

-- `SixtyDecays` holds if, after sixty decays of `four_bumped`, each of which doubles the bump, the bump is 2^40 and all
-- four activities are 0: the fortieth decay reached 2^60, which divided the bump and all activities by 2^40.
abbrev pub SixtyDecays : Type 0
SixtyDecays = HasActivitiesAndBump (0 ∷ 0 ∷ 0 ∷ 0 ∷ []) (2 ^ 40) (iterate decayed 60 four_bumped)

-- `BumpsPastTheLimit` holds if, after 39 decays of `four_bumped` and two bumps of variable 3, the second of which
-- reaches 2^60, the activities are 0, 0, 0 and 2^20, and the bump is 2^19: both were divided by 2^40.
abbrev pub BumpsPastTheLimit : Type 0
BumpsPastTheLimit = HasActivitiesAndBump (0 ∷ 0 ∷ 0 ∷ 2 ^ 20 ∷ []) (2 ^ 19) (iterate (bumped 3) 2 (iterate decayed 39 four_bumped))
