-- The header of a long clause, and the three words that hold it.
use Rattle.std.specs.Prelude.{ℕ, ◌+◌, ◌*◌, ◌/◌, ◌%◌, ◌==◌, Bool, true, false, if◌then◌else◌}
use Rattle.sat_store.specs.declared.clause.tier.Tier.{Tier}
use Rattle.sat_store.specs.declared.clause.tier.Tier.TheVariants.{Irred, Core, Mid, Local}

-- the header of a clause: its activity, its tier, its flags, its glue and its number of literals
pub record Header : Type 0 where
  pub activity : ℕ
  pub tier : Tier
  pub deleted : Bool
  pub mark : Bool
  pub glue : ℕ
  pub active : Bool
  pub len : ℕ

-- the number of a tier: 0 for irredundant clauses, and 1, 2, 3 for learned clauses of tiers Core, Mid and Local
abbrev pub tier_index : Tier → ℕ
tier_index Irred = 0
tier_index Core = 1
tier_index Mid = 2
tier_index Local = 3

-- the tier with the number `n`, from 0 to 3: Irred, Core, Mid, Local (also for any higher number)
abbrev pub tier_of : ℕ → Tier
tier_of n = if n == 0 then Irred else (if n == 1 then Core else (if n == 2 then Mid else Local))

-- `is_learned tier` is true if the tier is that of a learned clause.
abbrev pub is_learned : Tier → Bool
is_learned Irred = false
is_learned Core = true
is_learned Mid = true
is_learned Local = true

-- 1 for a true flag, otherwise 0
abbrev pub bit : Bool → ℕ
bit flag = if flag then 1 else 0

-- the header that three words hold: activity, flags (two bits of tier, deleted, mark, six bits of glue, active), length
abbrev pub header_of : ℕ → ℕ → ℕ → Header
header_of activity flags len = record {
  activity = activity;
  tier = tier_of (flags % 4);
  deleted = flags / 4 % 2 == 1;
  mark = flags / 8 % 2 == 1;
  glue = flags / 16 % 64;
  active = flags / 1024 % 2 == 1;
  len = len;
}

-- the flags word of the header `h`, from the lowest bit: two bits of tier, deleted, mark, six bits of glue, active
abbrev pub flags_of : Header → ℕ
flags_of h = tier_index h.tier + 4 * bit h.deleted + 8 * bit h.mark + 16 * h.glue + 1024 * bit h.active

-- the header whose three words are 0: an irredundant clause without literals, with all flags false, glue and activity 0
abbrev pub no_header : Header
no_header = header_of 0 0 0
