-- A search without variables agrees with the empty session.
use Rattle.std.proofs.Common.{◌≡◌, [], refl, ap, arith}
use Rattle.sat_parts.specs.clause.Glue.{FlagsAreClear}
use Rattle.sat_parts.specs.prop.Trails.{TrailState, no_trail}
use Rattle.sat_parts.specs.prop.State.{PropagationState}
use Rattle.sat_solver.specs.session.Session.{empty_session}
use Rattle.sat_parts.specs.parts.Assumed.{PlacesAreCorrect}
use Rattle.sat_parts.specs.parts.Whole.{state, SearchStateInvariant}
use Rattle.sat_solver.proofs.lemmas.fits.LawLemmas.{nothing_fits}
use Rattle.sat_solver.specs.declared.context.Search.{Search}
use Rattle.sat_solver.specs.cdcl.Joint.{global_in, SearchInvariant}

none_clear : FlagsAreClear []
none_clear k = refl

pub search_begins : (c : Search) → SearchStateInvariant c.parts → c.parts.db.refs ≡ [] → c.parts.binary.implied ≡ [] → c.parts.trail ≡ no_trail → c.parts.assignment.current ≡ [] → c.globals.items ≡ [] → c.analysis.flags ≡ [] → c.flags.flags.items ≡ [] → c.assumptions.lits.items ≡ [] →
    ((s : PropagationState) → PlacesAreCorrect c.assumptions s) → SearchInvariant empty_session c
search_begins c holds refs implied trail values globals flags marks lits placed = record {
  valid = record {
    holds = holds;
    fits = rw (refs, implied) (nothing_fits c.parts.clauses (state c.parts) (global_in c) values (ap (λ (t : TrailState). t.lits) trail));
  };
  ready = record {
    free = record {
      names = rw (values, globals) (omega arith);
      size = rw (values, flags) refl;
      clear = rw flags none_clear;
      flags_size = rw (values, marks) (omega arith);
      flags_clear = rw marks none_clear;
    };
    placed = placed (state c.parts);
    there = rw lits (λ k lt. absurd (omega arith));
    asked = rw lits refl;
    used = rw values (λ v lt. absurd (omega arith));
  };
}
