-- How learned clauses are graded by the number of their levels, and how analysis updates the clauses that took part.
use Rattle.std.specs.Prelude.{ℕ, ◌≡◌, ◌-◌, ◌^◌, ◌<◌, ◌≤◌, ◌&&◌, nat_le, nat_lt, min, Bool, true, List, [], ◌∷◌, if◌then◌else◌}
use Rattle.std.specs.List.{Contains}
use Rattle.sat_store.specs.clause.Buffer.{header_at, lits_at}
use Rattle.sat_store.specs.clause.Header.{Header, no_header, is_learned}
use Rattle.sat_store.specs.declared.clause.tier.Tier.{Tier}
use Rattle.sat_store.specs.declared.clause.tier.Tier.TheVariants.{Core, Mid, Local}
use Rattle.sat_parts.specs.clause.Activity.{ActivityScale, BumpsIfBelowLimit, RescalesIfLimitReached, DecaysAndRescales, decayed_bump, decayed_scale}
use Rattle.sat_parts.specs.clause.Db.{live_refs, PutsHeader}
use Rattle.sat_parts.specs.clause.Glue.{levels_of, count_distinct, LevelsHaveFlags, FlagsAreClear}
use Rattle.sat_parts.specs.declared.parts.SearchState.{SearchState}
use Rattle.sat_parts.specs.parts.Frame.{ChangesHeaders}
use Rattle.sat_parts.specs.parts.Whole.{SearchStateInvariant}
use Rattle.sat_parts.specs.parts.Words.{TrailWordExtends}

-- the tier of a learned clause with this glue: Core up to 2, Mid up to 6, Local above
abbrev pub tier_for : ℕ → Tier
tier_for glue = if nat_le glue 2 then Core else (if nat_le glue 6 then Mid else Local)

-- the header with this glue, at most 63, and with the tier for it (before it is capped)
abbrev pub with_glue : ℕ → Header → Header
with_glue glue h = record h { glue = min glue 63; tier = tier_for glue }

-- the header of a newly learned clause whose literals have this many levels: its glue is one less (at most 63), with
-- the tier for it
abbrev pub learned_header : ℕ → Header
learned_header levels = with_glue (levels - 1) no_header

-- `with_updated_glue levels h` is the header `h` of an antecedent, marked active. If it is a learned clause, and its
-- literals have fewer levels than its glue, this number becomes its glue, with the tier for it.
abbrev pub with_updated_glue : ℕ → Header → Header
with_updated_glue levels h = if is_learned h.tier && nat_lt levels h.glue then with_glue levels (record h { active = true }) else record h { active = true }

-- the number of different levels of the literals of the clause at position `o` of the buffer
abbrev pub clause_level_count : SearchState → ℕ → ℕ
clause_level_count p o = count_distinct (levels_of p.graph (lits_at p.clauses o))

-- `BumpsClause levels words words' refs o s s'` holds if the activity of the clause at `o` was bumped, with all
-- activities rescaled if it reached the limit, and then its header marked active and its glue updated by the number
-- `levels`
pub record BumpsClause (levels : ℕ) (words words' refs : List ℕ) (o : ℕ) (s s' : ActivityScale) : Type 0 where
  pub raised : List ℕ
  pub one : BumpsIfBelowLimit words raised refs o s s'
  pub all : RescalesIfLimitReached words raised refs o s s'
  pub improves : PutsHeader raised words' refs o (with_updated_glue levels (header_at raised o))

-- `DecaysActivities words words' refs s s'` holds if the amount of a bump grew, as decay of all activities, and, if it
-- reached 2^30, it and all activities were rescaled
pub record DecaysActivities (words words' refs : List ℕ) (s s' : ActivityScale) : Type 0 where
  pub later : decayed_bump s < 2 ^ 30 → (s' ≡ decayed_scale s) × (words' ≡ words)
  pub rescaled : 2 ^ 30 ≤ decayed_bump s → DecaysAndRescales words words' refs s s'

-- `BumpsClauses levels refs os words s words' s'` holds if the clauses at `os` were bumped one after another, and
-- then activities decayed
abbrev pub BumpsClauses : (levels : ℕ → ℕ) (refs os words : List ℕ) (s : ActivityScale) (words' : List ℕ) (s' : ActivityScale) → Type 0
BumpsClauses levels refs [] words s words' s' = DecaysActivities words words' refs s s'
BumpsClauses levels refs (o ∷ os) words s words' s' = (mid : List ℕ) × (t : ActivityScale) × BumpsClause (levels o) words mid refs o s t × BumpsClauses levels refs os mid t words' s'

-- `ChangesOnlyHeaders p p'` holds if only headers of long clauses changed, and the word of the trail is unchanged or
-- extended
pub record ChangesOnlyHeaders (p p' : SearchState) : Type 0 where
  pub holds : SearchStateInvariant p'
  pub headed : ChangesHeaders p p'
  pub refs : p'.db.refs ≡ p.db.refs
  pub word : TrailWordExtends p p'

-- `AreAntecedents p flags os` holds if the clauses at `os` are live, there is a flag for the level of each of their
-- literals, and no flag is set
pub record AreAntecedents (p : SearchState) (flags : List Bool) (os : List ℕ) : Type 0 where
  pub live : (o : ℕ) → Contains os o → Contains (live_refs p.clauses p.db.refs) o
  pub levels : (o : ℕ) → Contains os o → LevelsHaveFlags p.graph flags (lits_at p.clauses o)
  pub clear : FlagsAreClear flags
