-- The header of a clause after a reduction.
use Rattle.std.specs.Prelude.{◌==◌, true, false, not, ◌&&◌, if◌then◌else◌}
use Rattle.sat_store.specs.clause.Header.{Header, tier_index}
use Rattle.sat_store.specs.declared.clause.tier.Tier.{Tier}
use Rattle.sat_store.specs.declared.clause.tier.Tier.TheVariants.{Local}

-- the header after a reduction: in tier Mid, an active live clause becomes inactive, and an inactive live clause
-- moves to tier Local
abbrev pub reduced_header : Header → Header
reduced_header h = if not h.deleted && (tier_index h.tier == 2) then (if h.active then record h { active = false } else record h { tier = Local }) else h

-- the header, with a mark if the clause is live and in `tier`
abbrev pub with_mark : Tier → Header → Header
with_mark tier h = if not h.deleted && (tier_index h.tier == tier_index tier) then record h { mark = true } else h
