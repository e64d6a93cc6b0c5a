-- How a view sees the two maps that it borrows.
use Rattle.std.specs.Prelude.{if◌then◌else◌}
use Rattle.sat_store.specs.declared.var_map.VarBiMapMut.{VarBiMapMut}
use Rattle.sat_store.specs.variables.Maps.{MapAndInverse, with_swapped_directions}

-- the maps as the view sees them: its own map forward, the other one backward
abbrev pub maps_of_view : VarBiMapMut → MapAndInverse
maps_of_view view = if view.is_turned then with_swapped_directions view.map.now else view.map.now
