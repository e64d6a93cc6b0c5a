-- A queue of variables by activity.
use Rattle.std.specs.Prelude.{◌≡◌, ℕ, ◌+◌, ◌-◌, ◌*◌, ◌/◌, ◌^◌, ◌<◌, ◌≤◌, ◌⊎◌, Bool, true, false, nat_lt, if◌then◌else◌, Option, MatchOption, List, [], ◌++◌, length, map, max, replicate, slice_index_or as get_or, slice_set as set}

-- for every variable whether it may be picked for a decision, and its activity; the amount that a bump adds; and the
-- decay factor in thousandths, by which each decay divides the bump
pub record Queue : Type 0 where
  pub available : List Bool
  pub activities : List ℕ
  pub bump : ℕ
  pub decay : ℕ

-- `is_available q v` is true if the variable `v` may be picked.
abbrev pub is_available : Queue → ℕ → Bool
is_available q v = get_or q.available v false

-- the activity of a variable, 0 if there is no such variable; the highest is picked first
abbrev pub activity_of : Queue → ℕ → ℕ
activity_of q v = get_or q.activities v 0

-- the queue without variables, with the default bump 2^20 and the default decay 0.95 (950 thousandths)
abbrev pub no_variables : Queue
no_variables = record { available = []; activities = []; bump = 2 ^ 20; decay = 950 }

-- the queue with new variables up to `count`, which may not be picked and have activity 0
abbrev pub with_variables : ℕ → Queue → Queue
with_variables count q = record q {
  available = q.available ++ replicate (count - length q.available) false;
  activities = q.activities ++ replicate (count - length q.available) 0;
}

-- `GrowsQueue count old new` holds if the old variables stay as they were, and the new ones, up to `count`, may not be
-- picked and have activity 0.
pub record GrowsQueue (count : ℕ) (old new : Queue) : Type 0 where
  pub size : length new.available ≡ max (length old.available) count
  pub kept_available : (v : ℕ) → v < length old.available → is_available new v ≡ is_available old v
  pub kept_activity : (v : ℕ) → v < length old.activities → activity_of new v ≡ activity_of old v
  pub new_available : (v : ℕ) → length old.available ≤ v → is_available new v ≡ false
  pub new_activity : (v : ℕ) → length old.activities ≤ v → activity_of new v ≡ 0
  pub bump : new.bump ≡ old.bump
  pub decay : new.decay ≡ old.decay

-- the queue with all activities and the bump divided by 2 ^ 40; the bump is at least 1
abbrev pub rescaled : Queue → Queue
rescaled q = record q { activities = map (λ a. a / 2 ^ 40) q.activities; bump = max (q.bump / 2 ^ 40) 1 }

-- the queue with the activity of a variable raised, and rescaled if the activity reaches 2 ^ 60
abbrev pub bumped : ℕ → Queue → Queue
bumped v q =
    let raised = record q { activities = set q.activities v (activity_of q v + q.bump) } in
    if nat_lt (activity_of q v + q.bump) (2 ^ 60) then raised else rescaled raised

-- a quotient, rounded up
abbrev pub quotient_up : ℕ → ℕ → ℕ
quotient_up a b = (a + b - 1) / b

-- the queue with the bump divided by the decay factor, rounded up, and then everything rescaled (divided by 2^40) if
-- the bump reaches 2^60
abbrev pub decayed : Queue → Queue
decayed q =
    let later = record q { bump = quotient_up (q.bump * 1000) q.decay } in
    if nat_lt later.bump (2 ^ 60) then later else rescaled later

-- the queue in which `flag` says whether the variable `v` may be picked
abbrev pub with_available : ℕ → Bool → Queue → Queue
with_available v flag q = record q { available = set q.available v flag }

-- `IsNextToPick q v` holds if the variable `v` may be picked, and every other variable that may be picked has a lower
-- activity, or the same activity and a higher index.
pub record IsNextToPick (q : Queue) (v : ℕ) : Type 0 where
  pub available : is_available q v ≡ true
  pub first : (u : ℕ) → is_available q u ≡ true → (activity_of q u < activity_of q v) ⊎ ((activity_of q u ≡ activity_of q v) × (v ≤ u))

-- `NonePickable q` holds if no variable may be picked.
abbrev pub NonePickable : Queue → Type 0
NonePickable q = (v : ℕ) → is_available q v ≡ false

-- `Picks q result after` holds if picking from the queue `q` gives `result` and leaves `after`: the variable of highest
-- activity that may be picked (lowest index among equals), which may then no longer be picked, or `None` if there is
-- none.
abbrev pub Picks : Queue → Option ℕ → Queue → Type 0
Picks q result after = MatchOption result (NonePickable q × (after ≡ q)) (λ v. IsNextToPick q v × (after ≡ with_available v false q))
