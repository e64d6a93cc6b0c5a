-- Commands that hide no name.
use Rattle.std.specs.Prelude.{◌∷◌}
use Rattle.sat_base.specs.script.Script.{Command, Hide}

-- `HidesNothing command` holds if the command hides no name: it is not `h` with a name.
abbrev pub HidesNothing : Command → Type 0
HidesNothing (Hide (name ∷ names)) = ⊥
HidesNothing command = Unit {0}
