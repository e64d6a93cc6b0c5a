-- The progress of an ask.
use Rattle.std.proofs.Common.{◌≡◌, ℕ, zero, suc, ◌+◌, ◌-◌, ◌*◌, ◌^◌, ◌<◌, ◌≤◌, ◌⊎◌, inl, inr, List, arith, sym, ap, ◌∙◌, subst, min}
use Rattle.std.proofs.lemmas.Bool.{cases_lt}
use Rattle.sat_parts.specs.prop.TrailWord.{Letter}
use Rattle.sat_store.specs.schedule.Luby.{luby, wrapped_term_number}
use Rattle.sat_solver.specs.schedule.Ranks.{word_rank}
use Rattle.sat_solver.specs.schedule.Gaps.{term_number_after, gap_end}
use Rattle.sat_solver.specs.schedule.Progress.{LongTermIsAhead, GapIsLong, AskProgress}
use Rattle.sat_solver.specs.schedule.Climbing.{ExtendsEachWord, RaisesEachWord, StartsAnew, AskReachesRound}
use Rattle.sat_solver.proofs.lemmas.schedule.RankLemmas.{rank_below, rank_begins, rank_rises}
use Rattle.sat_solver.proofs.lemmas.schedule.GapLemmas.{long_ahead, pow_double, pow_mono}

pow_next : (n : ℕ) → 2 ^ (n + 1) ≡ 2 ^ suc n
pow_next n = ap (λ (k : ℕ). 2 ^ k) (let d : n + 1 ≡ suc n = omega arith in d)

pow_two_next : (n : ℕ) → 2 ^ (n + 2) ≡ 2 ^ suc (n + 1)
pow_two_next n = ap (λ (k : ℕ). 2 ^ k) (let d : n + 2 ≡ suc (n + 1) = omega arith in d)

double_out : (a b : ℕ) → 2 * (a * b) ≡ 2 * a * b
double_out a b = grind arith

pow_sum : (m n : ℕ) → 2 ^ (m + n) ≡ 2 ^ m * 2 ^ n
pow_sum zero n = ap (λ (k : ℕ). 2 ^ k) (let d : 0 + n ≡ n = omega arith in d) ∙ grind arith
pow_sum (suc m) n =
    let e : 2 ^ (suc m + n) ≡ 2 ^ suc (m + n) = ap (λ (k : ℕ). 2 ^ k) (let d : suc m + n ≡ suc (m + n) = omega arith in d) in
    e ∙ pow_double (m + n) ∙ ap (λ (k : ℕ). 2 * k) (pow_sum m n) ∙ double_out (2 ^ m) (2 ^ n) ∙ ap (λ (k : ℕ). k * 2 ^ n) (sym (pow_double m))

pow_whole : (n : ℕ) → 2 ^ (2 * n + 3) ≡ 2 ^ (n + 2) * 2 ^ (n + 1)
pow_whole n = ap (λ (k : ℕ). 2 ^ k) (let d : 2 * n + 3 ≡ n + 2 + (n + 1) = omega arith in d) ∙ pow_sum (n + 2) (n + 1)

times_next : (g b : ℕ) → (g + 1) * b ≡ g * b + b
times_next g b = grind arith

times_mono : (g a b : ℕ) → g ≤ a → g * b ≤ a * b
times_mono g a b h = grind arith

-- an ask begins
pub progress_begins : (n round next given : ℕ) (w : List Letter) → n < 63 → AskProgress n round round next given w
progress_begins n round next given w few =
    let l : (d : ℕ) × ((d + 1 < 2 ^ suc (n + 1)) × (2 ^ (n + 1) ≤ luby (term_number_after d given + 1))) = long_ahead (n + 1) given (omega arith) in
    record {
      gaps = 0;
      base = round;
      spent = omega arith;
      risen = omega arith;
      due = inl (record { ahead = l.0; few = omega (arith, l.1.0, pow_two_next n); long = l.1.1 });
    }

rank_few : (n : ℕ) (w : List Letter) → word_rank n w + 1 < 2 ^ (n + 1)
rank_few n w = omega (arith, rank_below n w, pow_next n)

gaps_few : (n start round next given : ℕ) (w : List Letter) (p : AskProgress n start round next given w) → p.gaps + 1 ≤ 2 ^ (n + 2)
gaps_few n start round next given w p = elim p.due [ inl x ↦ omega (arith, x.few) | inr x ↦ x.few ]

-- the ask has made few rounds so far
pub progress_few : (n start round next given : ℕ) (w : List Letter) → AskProgress n start round next given w → round + 1 < start + 2 ^ (2 * n + 3)
progress_few n start round next given w p =
    omega (arith, p.spent, p.risen, rank_few n w, times_next p.gaps (2 ^ (n + 1)), times_mono (p.gaps + 1) (2 ^ (n + 2)) (2 ^ (n + 1)) (gaps_few n start round next given w p), pow_whole n)

at_least : (term scale : ℕ) → 0 < scale → term ≤ term * scale
at_least term scale h = grind arith

long_begun : (n round term scale : ℕ) → 0 < scale → 2 ^ (n + 1) ≤ term → (round + 2 ^ (n + 1) ≤ gap_end round term scale) ⊎ (gap_end round term scale ≡ 2 ^ 64 - 1)
long_begun n round term scale some h = elim (cases_lt (round + term * scale) (2 ^ 64 - 1)) [
  | inl lt ↦ inl (omega (arith, at_least term scale some))
  | inr ge ↦ inr (omega arith)
]

-- the search restarts
pub progress_restarts : (n start round next given scale : ℕ) (w v : List Letter) → round < 2 ^ 64 - 1 → next ≤ round → 0 < scale → AskProgress n start round next given w →
    AskProgress n start round (gap_end round (luby (given + 1)) scale) (wrapped_term_number (given + 1)) v
progress_restarts n start round next given scale w v counts over some p =
    let spent : round + 2 * (p.gaps + 1) ≤ start + (p.gaps + 1) * 2 ^ (n + 1) = omega (arith, p.spent, p.risen, rank_few n w, times_next p.gaps (2 ^ (n + 1))) in
    let Next : Type 0 = LongTermIsAhead n (p.gaps + 1) (wrapped_term_number (given + 1)) ⊎ GapIsLong n (p.gaps + 1) round (gap_end round (luby (given + 1)) scale) in
    let due : Next = elim p.due [
      | inl x ↦ coming x.ahead x.few x.long
      | inr x ↦ absurd (elim x.long [
        | inl long ↦ omega (arith, long, p.risen, rank_few n w)
        | inr never ↦ omega (arith, never)
      ])
    ] in
    record { gaps = p.gaps + 1; base = round; spent = spent; risen = omega arith; due = due }
  where
    coming : (d : ℕ) → p.gaps + d + 2 ≤ 2 ^ (n + 2) → 2 ^ (n + 1) ≤ luby (term_number_after d given + 1) →
        LongTermIsAhead n (p.gaps + 1) (wrapped_term_number (given + 1)) ⊎ GapIsLong n (p.gaps + 1) round (gap_end round (luby (given + 1)) scale)
    coming zero few long = inr (record { few = omega arith; long = long_begun n round (luby (given + 1)) scale some long })
    coming (suc d) few long = inl (record { ahead = d; few = omega arith; long = long })

-- a round raises the word
pub progress_climbs : (n start round next given : ℕ) (w v : List Letter) → word_rank n w < word_rank n v → AskProgress n start round next given w → AskProgress n start (round + 1) next given v
progress_climbs n start round next given w v lt p =
    record { gaps = p.gaps; base = p.base; spent = p.spent; risen = omega (arith, p.risen); due = p.due }

-- a change that does not lower the word preserves progress
pub progress_keeps : (n start round next given : ℕ) (w v : List Letter) → word_rank n w ≤ word_rank n v → AskProgress n start round next given w → AskProgress n start round next given v
progress_keeps n start round next given w v le p =
    record { gaps = p.gaps; base = p.base; spent = p.spent; risen = omega (arith, p.risen); due = p.due }

pub come_climbs : {A : Type 0} (words : A → List Letter → Type 0) (s t : A) (n start round next given : ℕ) → RaisesEachWord words n s t →
    AskReachesRound words s n start round next given → AskReachesRound words t n start (round + 1) next given
come_climbs words s t n start round next given c h =
    let x = c h.0 h.1.0 in
    (x.0, (x.1.0, progress_climbs n start round next given h.0 x.0 (rank_rises n h.0 x.0 x.1.2 x.1.1) h.1.1))

pub come_keeps : {A : Type 0} (words : A → List Letter → Type 0) (s t : A) (n start round next given : ℕ) → ExtendsEachWord words s t →
    AskReachesRound words s n start round next given → AskReachesRound words t n start round next given
come_keeps words s t n start round next given c h =
    let x = c h.0 h.1.0 in
    (x.0, (x.1.0, progress_keeps n start round next given h.0 x.0 (subst (λ (v : List Letter). word_rank n h.0 ≤ word_rank n v) (sym x.1.1.1) (rank_begins n h.0 x.1.1.0)) h.1.1))

pub come_restarts : {A : Type 0} (words : A → List Letter → Type 0) (s t : A) (n start round next given scale : ℕ) → StartsAnew words s t →
    round < 2 ^ 64 - 1 → next ≤ round → 0 < scale →
    AskReachesRound words s n start round next given → AskReachesRound words t n start round (gap_end round (luby (given + 1)) scale) (wrapped_term_number (given + 1))
come_restarts words s t n start round next given scale c counts over some h =
    let x = c h.0 h.1.0 in
    (x.0, (x.1, progress_restarts n start round next given scale h.0 x.0 counts over some h.1.1))

pub come_few : {A : Type 0} (words : A → List Letter → Type 0) (s : A) (n start round next given : ℕ) → AskReachesRound words s n start round next given → round + 1 < start + 2 ^ (2 * n + 3)
come_few words s n start round next given h = progress_few n start round next given h.0 h.1.1

pub come_begins : {A : Type 0} (words : A → List Letter → Type 0) (s : A) (n round next given : ℕ) (w : List Letter) → words s w → n < 63 → AskReachesRound words s n round round next given
come_begins words s n round next given w h few = (w, (h, progress_begins n round next given w few))

-- an ask made few rounds, for any number of variables
pub few_rounds : {A : Type 0} (words : A → List Letter → Type 0) (s : A) (n start round next given : ℕ) → round < 2 ^ 64 →
    (n < 63 → AskReachesRound words s n start round next given) → round + 1 < start + 2 ^ (2 * n + 3)
few_rounds words s n start round next given counts h = elim (cases_lt n 63) [
  | inl lt ↦ come_few words s n start round next given (h lt)
  | inr ge ↦ omega (arith, pow_mono 65 (2 * n + 3) (omega arith))
]

-- the limit of rounds isn't reached
pub none_left : (n m start steps most : ℕ) → m ≤ n → steps < start + 2 ^ (2 * m + 3) → start ≤ steps → 2 ^ (2 * n + 3) ≤ min most (2 ^ 64 - 1 - start) → min (start + most) (2 ^ 64 - 1) ≤ steps → ⊥
none_left n m start steps most le few from left end = omega (arith, pow_mono (2 * m + 3) (2 * n + 3) (omega arith))
