-- Parameters of a search, and updates of them.
use Rattle.std.specs.Prelude.{ℕ, Bool, true, ◌&&◌, nat_le, Option, None, Some, unwrap_or}
use Rattle.sat_solver.specs.declared.config.SolverConfig.{SolverConfig}
use Rattle.sat_solver.specs.declared.config.SolverConfigUpdate.{SolverConfigUpdate}

-- the default parameters: decays in thousandths, intervals of reductions in rounds, restart scale 128, and no practical
-- limit of rounds (2^64-1)
abbrev pub defaults : SolverConfig
defaults = record {
  vsids_decay = 950;
  clause_activity_decay = 999;
  reduce_locals_interval = 15000;
  reduce_mids_interval = 10000;
  luby_restart_interval_scale = 128;
  max_steps = 18446744073709551615;
}

-- `is_decay n` is true if `n` is a valid decay, in thousandths: 500 to 999, inclusive
abbrev pub is_decay : ℕ → Bool
is_decay n = nat_le 500 n && nat_le n 999

-- `is_none_or p value` is true if `value` is `None` or its number passes the test `p`
abbrev pub is_none_or : (ℕ → Bool) → Option ℕ → Bool
is_none_or p None = true
is_none_or p (Some n) = p n

-- `is_update_in_range u` is true if every field that `u` changes is in range: decays from 500 to 999, intervals and
-- scale at least 1, `max_steps` any number
abbrev pub is_update_in_range : SolverConfigUpdate → Bool
is_update_in_range u =
    is_none_or is_decay u.vsids_decay && (is_none_or is_decay u.clause_activity_decay
    && (is_none_or (nat_le 1) u.reduce_locals_interval && (is_none_or (nat_le 1) u.reduce_mids_interval && is_none_or (nat_le 1) u.luby_restart_interval_scale)))

-- `updated u c` is the parameters `c` with every field that `u` sets replaced; a field that is `None` in `u` is
-- unchanged
abbrev pub updated : SolverConfigUpdate → SolverConfig → SolverConfig
updated u c = record {
  vsids_decay = unwrap_or u.vsids_decay c.vsids_decay;
  clause_activity_decay = unwrap_or u.clause_activity_decay c.clause_activity_decay;
  reduce_locals_interval = unwrap_or u.reduce_locals_interval c.reduce_locals_interval;
  reduce_mids_interval = unwrap_or u.reduce_mids_interval c.reduce_mids_interval;
  luby_restart_interval_scale = unwrap_or u.luby_restart_interval_scale c.luby_restart_interval_scale;
  max_steps = unwrap_or u.max_steps c.max_steps;
}
