-- A solver before the first call.
use Rattle.std.proofs.Common.{ℕ, ◌<◌, ◌≡◌, ◌∙◌, true, false, not, cond, Option, None, Some, List, [], ◌∷◌, length, map, refl, sym, ap, subst, arith}
use Rattle.std.proofs.lemmas.Bool.{true≢false}
use Rattle.std.proofs.lemmas.List.{get_or_past}
use Rattle.std.proofs.lemmas.Option.{none-some}
use Rattle.sat_base.specs.script.ScriptState.{initial_state}
use Rattle.sat_checker.specs.Stored.{initial_variable}
use Rattle.sat_store.specs.declared.data.VarData.{VarData}
use Rattle.sat_store.specs.variables.VarData.{unused_variable}
use Rattle.sat_checker.specs.declared.processing.ProofProcessor.{Ghosts}
use Rattle.sat_solver.specs.proof.ProofView.{has_missed_step, steps_of}
use Rattle.sat_solver.specs.session.Session.{empty_session, AreAllowedSteps, session_after}
use Rattle.sat_solver.specs.declared.variables.Variables.{Variables}
use Rattle.sat_solver.specs.declared.load.literals.MappedLits.{MappedLits}
use Rattle.sat_solver.specs.declared.context.Context.{Context}
use Rattle.sat_solver.specs.clause.Activity.{DecaysAreInRange}
use Rattle.sat_solver.specs.cdcl.Joint.{SearchInvariant}
use Rattle.sat_solver.specs.variables.Variables.{VariablesInvariant, NamesMatchSteps, is_unit_value, checker_mode, user_of, data_at, global_of, solver_of, names_used, variables_used}
use Rattle.sat_solver.specs.variables.Live.{given_of}
use Rattle.sat_solver.specs.variables.Calls.{NamesInvariant, NamesAgree, HasScriptState}
use Rattle.sat_checker.specs.matching.ProofChecking.{checker_rules}
use Rattle.sat_checker.proofs.lemmas.matching.Bridge.{begun}
use Rattle.sat_solver.specs.solver.Joined.{NamesSearchInvariant}
use Rattle.sat_solver.specs.solver.Whole.{SolverPartsInvariant}
use Rattle.sat_solver.specs.declared.state.SatState.TheVariants as states

none_mapped : (f : ℕ → ℕ) (ls : List ℕ) → [] ≡ map f ls → ls ≡ []
none_mapped f [] e = refl
none_mapped f (l ∷ ls) e = cc

module _ (n : Variables) (tidy : VariablesInvariant n) (none : variables_used n ≡ 0) where
  unused : (v : ℕ) → data_at n v ≡ unused_variable
  unused v = get_or_past n.var_data.items v unused_variable (omega (arith, none))

  no_index : (v : ℕ) → solver_of n v ≡ None
  no_index v = go (solver_of n v) refl
    where
      go : (o : Option ℕ) → solver_of n v ≡ o → solver_of n v ≡ None
      go None e = e
      go (Some x) e = absurd (true≢false (ap (λ d. d.deleted) (sym (unused v)) ∙ tidy.indexed v x e))

  no_name : (u : ℕ) → global_of n u ≡ None
  no_name u = get_or_past n.global_from_user.fwd u None (let r = tidy.reach in omega (arith, none))

  names_none : names_used n ≡ 0
  names_none = (let r = tidy.reach in omega (arith, none))

  variable_first : (v : ℕ) (d : VarData) → d ≡ unused_variable → initial_variable ≡ cond d.deleted initial_variable (record { known = true; mode = checker_mode d.sampling_mode; name = user_of n v })
  variable_first v d e = subst (λ (x : VarData). initial_variable ≡ cond x.deleted initial_variable (record { known = true; mode = checker_mode x.sampling_mode; name = user_of n v })) (sym e) refl

  said : NamesMatchSteps n empty_session
  said = record {
    variables = λ v. variable_first v (data_at n v) (unused v);
    solver_names = λ v. sym (no_index v);
    units = λ v e b. ap (λ d. is_unit_value d.unit b) (sym (unused v));
    unused = λ v e r set lt. absurd (omega arith);
    marked = λ v. ap (λ d. d.assumed) (sym (unused v));
  }

  pub stands_first : NamesInvariant n []
  stands_first = record { tidy = tidy; said = said; may = tt; read = λ u. sym (no_name u) }

  pub agree_first : NamesAgree n [] initial_state []
  agree_first = record {
    judged = record {
      first_unused = (let e = names_none in omega arith);
      no_zero = refl;
      names = λ u. ap (given_of []) (sym (no_name u));
      once = tt;
      in_use = λ v. ap (λ d. not d.deleted) (sym (unused v));
      below = tt;
      distinct = λ v w i e f. absurd (none-some i e);
      identities = omega (arith, none);
      modes_count = refl;
      increasing = tt;
      modes = λ v i e. absurd (none-some i e);
    };
    bridge = begun checker_rules;
  }

  -- before the first step, names and search are joined
  pub joined_first : {W L : Type 0} {G : Ghosts L} (c : Context W L G) → steps_of c.proof ≡ [] → SearchInvariant empty_session c.search → c.search.parts.assignment.current ≡ [] → c.search.globals.items ≡ [] → 0 < c.config.reduce_locals_interval → 0 < c.config.reduce_mids_interval → NamesSearchInvariant n c
  joined_first c steps search values globals locals mids = record {
    sound = record { keeps = subst AreAllowedSteps (sym steps) tt; search = subst (λ ss. SearchInvariant (session_after ss) c.search) (sym steps) search; locals = locals; mids = mids };
    valid = subst (NamesInvariant n) (sym steps) stands_first;
    shares = record {
      size = ap (λ xs. length xs) values ∙ sym (ap (λ xs. length xs) globals);
      few = (let e : length c.search.globals.items ≡ 0 = ap (λ xs. length xs) globals in omega arith);
      below = λ x v e. absurd (none-some x (sym (no_index v) ∙ tidy.solvers.forth v x e));
      same = λ x v e. absurd (none-some x (sym (no_index v) ∙ tidy.solvers.forth v x e));
    };
  }

  -- a solver without steps satisfies its invariant
  pub whole_first : {W L : Type 0} {G : Ghosts L} (c : Context W L G) (asked : MappedLits) (assumed core : List ℕ) (scale : ℕ) → steps_of c.proof ≡ [] → SearchInvariant empty_session c.search → c.search.parts.assignment.current ≡ [] → c.search.globals.items ≡ [] →
      0 < c.config.reduce_locals_interval → 0 < c.config.reduce_mids_interval → asked.order.items ≡ [] → asked.globals.items ≡ [] → assumed ≡ [] → 0 < scale → scale ≡ c.config.luby_restart_interval_scale → DecaysAreInRange c.config → has_missed_step c.proof ≡ false → SolverPartsInvariant c n asked assumed core scale states.Unknown
  whole_first c asked assumed core scale steps search values globals locals mids order asked_globals none_assumed positive scaled decays taking = record {
    valid = valid;
    images = record { count = ap (λ xs. length xs) order ∙ sym (ap (λ xs. length xs) none_assumed); each = λ k lt. absurd (let z : k < 0 = subst (λ (xs : List ℕ). k < length xs) none_assumed lt in omega arith) };
    spelt = record { count = ap (λ xs. length xs) asked_globals ∙ sym (ap (λ xs. length xs) none_assumed); each = λ k lt. absurd (let z : k < 0 = subst (λ (xs : List ℕ). k < length xs) none_assumed lt in omega arith) };
    globals = asked_globals ∙ sym (ap (λ ss. (session_after ss).assumed) steps);
    positive = positive;
    scaled = scaled;
    decays = decays;
    taking = taking;
    judged = subst (HasScriptState n) (sym steps) (initial_state, [], agree_first);
    says = record {
      joined = joined_first c steps search values globals locals mids;
      lits = none_mapped _ c.search.assumptions.lits.items search.ready.asked ∙ sym order;
    };
  }
    where
      valid : NamesInvariant n (steps_of c.proof)
      valid = subst (NamesInvariant n) (sym steps) stands_first
