-- A solver with other parameters.
use Rattle.std.proofs.Common.{ℕ, ◌≤◌, ◌<◌, ◌≡◌, ◌∙◌, Bool, true, false, ◌&&◌, Option, None, Some, List, refl, sym, ap, subst}
use Rattle.std.proofs.lemmas.Bool.{leb-true, true≢false}
use Rattle.std.specs.Prelude.{nat_le, unwrap_or}
use Rattle.sat_checker.specs.declared.processing.ProofProcessor.{Ghosts}
use Rattle.sat_solver.specs.Configs.{is_update_in_range, is_decay, is_none_or, updated}
use Rattle.sat_solver.specs.declared.config.SolverConfig.{SolverConfig}
use Rattle.sat_solver.specs.declared.config.SolverConfigUpdate.{SolverConfigUpdate}
use Rattle.sat_solver.specs.declared.variables.Variables.{Variables}
use Rattle.sat_solver.specs.declared.load.literals.MappedLits.{MappedLits}
use Rattle.sat_solver.specs.declared.context.Context.{Context}
use Rattle.sat_solver.specs.declared.context.Search.{Search}
use Rattle.sat_solver.specs.proof.ProofView.{has_missed_step, session_of, steps_of}
use Rattle.sat_solver.specs.variables.Calls.{HasScriptState, NamesInvariant}
use Rattle.sat_solver.specs.clause.Activity.{DecaysAreInRange}
use Rattle.sat_solver.specs.cdcl.Iterations.{IsComplete}
use Rattle.sat_solver.specs.declared.state.SatState.{SatState}
use Rattle.sat_solver.specs.declared.state.SatState.TheVariants as states
use Rattle.sat_solver.specs.solver.Configuring.{SetsDecays, PassesToSearch}
use Rattle.sat_solver.specs.solver.Whole.{SolverPartsInvariant, HoldsInState, SearchCanContinue, HasCore}
use Rattle.sat_solver.proofs.lemmas.solver.ReportingLemmas.{shares_moved}

and_both : (a b : Bool) → (a && b) ≡ true → (a ≡ true) × (b ≡ true)
and_both true b h = (refl, h)
and_both false b h = absurd (true≢false (sym h))

kept_decay : (o : Option ℕ) (n : ℕ) → is_none_or is_decay o ≡ true → 500 ≤ n → n ≤ 999 → (500 ≤ unwrap_or o n) × (unwrap_or o n ≤ 999)
kept_decay None n h low high = (low, high)
kept_decay (Some k) n h low high = (let p = and_both (nat_le 500 k) (nat_le k 999) h in (leb-true 500 k p.0, leb-true k 999 p.1))

pub kept_count : (o : Option ℕ) (n : ℕ) → is_none_or (nat_le 1) o ≡ true → 0 < n → 0 < unwrap_or o n
kept_count None n h low = low
kept_count (Some k) n h low = leb-true 1 k h

record Parts (u : SolverConfigUpdate) : Type 0 where
  vsids : is_none_or is_decay u.vsids_decay ≡ true
  clauses : is_none_or is_decay u.clause_activity_decay ≡ true
  locals : is_none_or (nat_le 1) u.reduce_locals_interval ≡ true
  mids : is_none_or (nat_le 1) u.reduce_mids_interval ≡ true
  scale : is_none_or (nat_le 1) u.luby_restart_interval_scale ≡ true

parts_of : (u : SolverConfigUpdate) → is_update_in_range u ≡ true → Parts u
parts_of u h =
    let a = and_both (is_none_or is_decay u.vsids_decay) (is_none_or is_decay u.clause_activity_decay && (is_none_or (nat_le 1) u.reduce_locals_interval && (is_none_or (nat_le 1) u.reduce_mids_interval && is_none_or (nat_le 1) u.luby_restart_interval_scale))) h in
    let b = and_both (is_none_or is_decay u.clause_activity_decay) (is_none_or (nat_le 1) u.reduce_locals_interval && (is_none_or (nat_le 1) u.reduce_mids_interval && is_none_or (nat_le 1) u.luby_restart_interval_scale)) a.1 in
    let c = and_both (is_none_or (nat_le 1) u.reduce_locals_interval) (is_none_or (nat_le 1) u.reduce_mids_interval && is_none_or (nat_le 1) u.luby_restart_interval_scale) b.1 in
    let d = and_both (is_none_or (nat_le 1) u.reduce_mids_interval) (is_none_or (nat_le 1) u.luby_restart_interval_scale) c.1 in
    record { vsids = a.0; clauses = b.0; locals = c.0; mids = d.0; scale = d.1 }

-- an update in range keeps the decays in their ranges
pub decays_kept : (u : SolverConfigUpdate) (c : SolverConfig) → is_update_in_range u ≡ true → DecaysAreInRange c → DecaysAreInRange (updated u c)
decays_kept u c h d =
    let p = parts_of u h in
    let v = kept_decay u.vsids_decay c.vsids_decay p.vsids d.0 d.1 in
    let k = kept_decay u.clause_activity_decay c.clause_activity_decay p.clauses d.2 d.3 in
    (v.0, v.1, k.0, k.1)

-- an update in range keeps the scale positive
pub scale_kept : (u : SolverConfigUpdate) (scale : ℕ) → is_update_in_range u ≡ true → 0 < scale → 0 < unwrap_or u.luby_restart_interval_scale scale
scale_kept u scale h low = kept_count u.luby_restart_interval_scale scale (parts_of u h).scale low

module _ {W L : Type 0} {G : Ghosts L} (u : SolverConfigUpdate) (c : Context W L G) (n : Variables) (asked : MappedLits) (assumed core : List ℕ) (scale : ℕ) (range : is_update_in_range u ≡ true) where
  abbrev pub changed : Context W L G
  changed = record c { config = updated u c.config }

  going : (b : Context W L G) → SetsDecays changed b → SearchCanContinue c n asked → SearchCanContinue b n asked
  going b d g =
      let bumped = d.bumped (session_of c.proof) g.joined.sound.search in
      subst (λ x. SearchCanContinue x n asked) (sym d.same) (record {
        joined = record {
          sound = record {
            keeps = g.joined.sound.keeps;
            search = bumped.search;
            locals = kept_count u.reduce_locals_interval c.config.reduce_locals_interval (parts_of u range).locals g.joined.sound.locals;
            mids = kept_count u.reduce_mids_interval c.config.reduce_mids_interval (parts_of u range).mids g.joined.sound.mids;
          };
          valid = g.joined.valid;
          shares = shares_moved n c.search b.search g.joined.shares bumped.moved;
        };
        lits = ap (λ ls. ls.items) bumped.moved.lits ∙ g.lits;
      })

  complete : (b : Context W L G) → SetsDecays changed b → IsComplete c.search.assumptions.lits.items c.search.parts → IsComplete b.search.assumptions.lits.items b.search.parts
  complete b d h =
      subst (λ (x : Search). IsComplete x.assumptions.lits.items x.parts) (sym d.search)
      (subst (λ p. IsComplete c.search.assumptions.lits.items p) (sym d.parts) (record { done = h.done; all = h.all; assumed = h.assumed }))

  says : (st : SatState) (b : Context W L G) → PassesToSearch st changed b → HoldsInState st c n asked assumed core → HoldsInState st b n asked assumed core
  says states.Unknown b d h = going b d h
  says states.Sat b d h = (going b d h.0, complete b d h.1)
  says states.UnsatUnderAssumptions b d h = (
    going b d h.0,
    subst (λ x. HasCore x assumed core) (sym d.same) (record { some = h.1.some; codes = h.1.codes; none = h.1.none; same = h.1.same; among = h.1.among }),
  )
  says states.Unsat b d h = subst (λ (x : Context W L G). (session_of x.proof).unsat ≡ true) (sym d) h

  -- proof and parameters, the parts of a core outside the search
  pub core_same : (st : SatState) (b : Context W L G) → PassesToSearch st changed b → (b.proof ≡ c.proof) × (b.config ≡ updated u c.config)
  core_same states.Unsat b d = (ap (λ x. x.proof) d, ap (λ x. x.config) d)
  core_same e b d = (ap (λ x. x.proof) d.same, ap (λ x. x.config) d.same)

  -- the invariant holds after an update
  pub whole_configured : (st : SatState) (b : Context W L G) → PassesToSearch st changed b → SolverPartsInvariant c n asked assumed core scale st → SolverPartsInvariant b n asked assumed core (unwrap_or u.luby_restart_interval_scale scale) st
  whole_configured st b d whole = record {
    valid = subst (λ p. NamesInvariant n (steps_of p)) (sym (core_same st b d).0) whole.valid;
    images = whole.images;
    spelt = whole.spelt;
    globals = whole.globals ∙ ap (λ p. (session_of p).assumed) (sym (core_same st b d).0);
    positive = scale_kept u scale range whole.positive;
    scaled = ap (unwrap_or u.luby_restart_interval_scale) whole.scaled ∙ sym (ap (λ (x : SolverConfig). x.luby_restart_interval_scale) (core_same st b d).1);
    decays = subst DecaysAreInRange (sym (core_same st b d).1) (decays_kept u c.config range whole.decays);
    taking = ap has_missed_step (core_same st b d).0 ∙ whole.taking;
    judged = subst (λ p. HasScriptState n (steps_of p)) (sym (core_same st b d).0) whole.judged;
    says = says st b d whole.says;
  }
