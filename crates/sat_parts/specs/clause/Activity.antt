-- Activities of clauses, and passes that replace the headers of all clauses.
use Rattle.std.specs.Prelude.{ℕ, ◌≡◌, ◌+◌, ◌-◌, ◌*◌, ◌/◌, ◌^◌, ◌<◌, ◌≤◌, ◌==◌, min, max, List, length, slice_index_or as get_or, if◌then◌else◌}
use Rattle.std.specs.List.{Contains}
use Rattle.sat_store.specs.clause.Buffer.{HoldsClauses, header_at, lits_at}
use Rattle.sat_store.specs.clause.Header.{Header}
use Rattle.sat_store.specs.heap.Vsids.{quotient_up}
use Rattle.sat_parts.specs.clause.Db.{PutsHeader}

-- `PutsHeaders words words' refs f` holds if every clause of `refs` at an offset p has the header `f p` in `words'`,
-- and the literals that it has in `words`.
pub record PutsHeaders (words words' refs : List ℕ) (f : ℕ → Header) : Type 0 where
  pub size : length words' ≡ length words
  pub holds_clauses : HoldsClauses words' refs
  pub headers : (p : ℕ) → Contains refs p → header_at words' p ≡ f p
  pub lits : (p : ℕ) → Contains refs p → lits_at words' p ≡ lits_at words p

-- `PutsFirstHeaders words words' refs f n` holds if the first `n` clauses of `refs` have in `words'` the headers that
-- `f` gives, the others have their headers of `words`, and all have their literals of `words`.
pub record PutsFirstHeaders (words words' refs : List ℕ) (f : ℕ → Header) (n : ℕ) : Type 0 where
  pub size : length words' ≡ length words
  pub holds_clauses : HoldsClauses words' refs
  pub first : (k : ℕ) → k < n → k < length refs → header_at words' (get_or refs k 0) ≡ f (get_or refs k 0)
  pub rest : (k : ℕ) → n ≤ k → k < length refs → header_at words' (get_or refs k 0) ≡ header_at words (get_or refs k 0)
  pub lits : (k : ℕ) → k < length refs → lits_at words' (get_or refs k 0) ≡ lits_at words (get_or refs k 0)

-- the amount that a bump adds to an activity, and the factor of the decay in thousandths
pub record ActivityScale : Type 0 where
  pub bump : ℕ
  pub decay : ℕ

-- the scale of activities at the start: a bump adds 1024, and the decay factor is 0.999
abbrev pub initial_scale : ActivityScale
initial_scale = record { bump = 1024; decay = 999 }

-- the amount of a bump after rescaling: divided by 2^16 and rounded down, but at least 1
abbrev pub rescaled_bump : ℕ → ℕ
rescaled_bump bump = max (bump / 2 ^ 16) 1

-- the amount of a bump after a decay, before any rescaling: divided by the decay factor, rounded up
abbrev pub decayed_bump : ActivityScale → ℕ
decayed_bump s = quotient_up (s.bump * 1000) s.decay

-- the header `h` with the activity `a`
abbrev pub with_activity : Header → ℕ → Header
with_activity h a = record h { activity = a }

-- the header of the clause at offset p, with its activity rescaled: divided by 2^16
abbrev pub rescaled_header : List ℕ → ℕ → Header
rescaled_header words p = with_activity (header_at words p) ((header_at words p).activity / 2 ^ 16)

-- the activity of the clause at o plus the bump; it saturates at 2^32 - 1
abbrev pub bumped_activity : List ℕ → (o bump : ℕ) → ℕ
bumped_activity words o bump = min ((header_at words o).activity + bump) (2 ^ 32 - 1)

-- `StaysBelowRescaleLimit words o s` holds if the activity of the clause at `o` stays below 2^30 when `s.bump` is
-- added.
abbrev pub StaysBelowRescaleLimit : List ℕ → ℕ → ActivityScale → Type 0
StaysBelowRescaleLimit words o s = bumped_activity words o s.bump < 2 ^ 30

-- `ReachesRescaleLimit words o s` holds if the activity of the clause at `o` reaches 2^30 when `s.bump` is added.
abbrev pub ReachesRescaleLimit : List ℕ → ℕ → ActivityScale → Type 0
ReachesRescaleLimit words o s = 2 ^ 30 ≤ bumped_activity words o s.bump

-- the header of the clause at offset p after the clause at o was bumped and all activities were rescaled
abbrev pub bumped_rescaled_header : List ℕ → (o bump : ℕ) → ℕ → Header
bumped_rescaled_header words o bump p = with_activity (header_at words p) ((if p == o then bumped_activity words o bump else (header_at words p).activity) / 2 ^ 16)

-- `BumpsWithoutRescale words words' refs o s s'` holds if, in the buffer `words'`, the activity of the clause at offset
-- `o` is raised by `s.bump` (capped at 2^32 - 1); no other clause of `refs` and not the scale changed.
abbrev pub BumpsWithoutRescale : (words words' refs : List ℕ) (o : ℕ) (s s' : ActivityScale) → Type 0
BumpsWithoutRescale words words' refs o s s' = (s' ≡ s) × PutsHeader words words' refs o (with_activity (header_at words o) (bumped_activity words o s.bump))

-- `BumpsAndRescales words words' refs o s s'` holds if the activity of the clause at offset `o` was raised by `s.bump`,
-- and then the activities of all clauses of `refs` and the bump were divided by 2^16 (the bump is at least 1).
abbrev pub BumpsAndRescales : (words words' refs : List ℕ) (o : ℕ) (s s' : ActivityScale) → Type 0
BumpsAndRescales words words' refs o s s' = (s' ≡ record s { bump = rescaled_bump s.bump }) × PutsHeaders words words' refs (bumped_rescaled_header words o s.bump)

-- `BumpsIfBelowLimit words words' refs o s s'` holds if, whenever the activity of the clause at offset `o` stays below
-- 2^30 with `s.bump` added, just that is done: nothing is rescaled (`BumpsWithoutRescale`).
abbrev pub BumpsIfBelowLimit : (words words' refs : List ℕ) (o : ℕ) (s s' : ActivityScale) → Type 0
BumpsIfBelowLimit words words' refs o s s' = StaysBelowRescaleLimit words o s → BumpsWithoutRescale words words' refs o s s'

-- `RescalesIfLimitReached words words' refs o s s'` holds if the clause at `o` was bumped and all activities were
-- rescaled (`BumpsAndRescales`), or its activity does not reach 2^30.
abbrev pub RescalesIfLimitReached : (words words' refs : List ℕ) (o : ℕ) (s s' : ActivityScale) → Type 0
RescalesIfLimitReached words words' refs o s s' = ReachesRescaleLimit words o s → BumpsAndRescales words words' refs o s s'

-- the scale after a decay without rescaling
abbrev pub decayed_scale : ActivityScale → ActivityScale
decayed_scale s = record s { bump = decayed_bump s }

-- `DecaysAndRescales words words' refs s s'` holds if the bump was divided by the decay factor, and then the bump (at
-- least 1) and the activities of all clauses of `refs` were divided by 2^16.
abbrev pub DecaysAndRescales : (words words' refs : List ℕ) (s s' : ActivityScale) → Type 0
DecaysAndRescales words words' refs s s' = (s' ≡ record s { bump = rescaled_bump (decayed_bump s) }) × PutsHeaders words words' refs (rescaled_header words)
