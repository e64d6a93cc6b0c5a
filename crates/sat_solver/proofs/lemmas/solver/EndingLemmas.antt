-- The proof of a solver was closed.
use Rattle.std.proofs.Common.{ℕ, ◌≡◌, ◌∙◌, false, Option, None, Some, Ok, List, [], ◌∷◌, map, refl, sym, ap, subst}
use Rattle.sat_base.specs.device.Device.{Writer}
use Rattle.sat_base.specs.steps.Steps.{End}
use Rattle.sat_base.specs.values.Clauses.{AllLitsTrue}
use Rattle.sat_checker.specs.Fold.{Holds}
use Rattle.sat_checker.specs.declared.processing.ProofProcessor.{Ghosts}
use Rattle.sat_solver.specs.load.Literals.{user_literal}
use Rattle.sat_checker.specs.matching.Checking.{variable_named}
use Rattle.sat_solver.specs.proof.ProofView.{ClosesTarget, ClosesOpenTarget, HasAllowedSteps, has_missed_step, steps_of, session_of}
use Rattle.sat_solver.specs.session.Session.{AreAllowedSteps, session_after}
use Rattle.sat_solver.specs.declared.proof.Proof.{Proof}
use Rattle.sat_solver.specs.declared.variables.Variables.{Variables}
use Rattle.sat_solver.specs.declared.load.literals.MappedLits.{MappedLits}
use Rattle.sat_solver.specs.declared.context.Context.{Context}
use Rattle.sat_solver.specs.cdcl.Joint.{SearchInvariant}
use Rattle.sat_checker.specs.matching.Traces.{no_step, visible}
use Rattle.sat_solver.specs.variables.Calls.{NamesInvariant, NamesAgree, ChangesScriptState}
use Rattle.sat_checker.specs.matching.Expected.{Finish, IsSameLiteralSet, finish}
use Rattle.sat_solver.proofs.lemmas.variables.Searched.{searches_preserve_names, searches_agree}
use Rattle.sat_solver.specs.declared.solver.Engine.{Engine}
use Rattle.sat_solver.specs.declared.state.SatState.{SatState}
use Rattle.sat_solver.specs.declared.state.SatState.TheVariants as states
use Rattle.sat_solver.specs.solver.Whole.{SolverInvariant, SolverPartsInvariant, HoldsInState, SearchCanContinue, steps_in}
use Rattle.sat_solver.specs.solver.Proving.{EngineCloseReturnsTarget, EngineClosesProof}
use Rattle.sat_solver.proofs.lemmas.session.CertificateLemmas.{is_certificate}
use Rattle.sat_solver.proofs.lemmas.session.DratDerivations.{drat_is_right}
use Rattle.sat_solver.proofs.lemmas.session.ProofLemmas.{since_closed}
use Rattle.sat_solver.proofs.lemmas.solver.ReportingLemmas.{search_rests}
use Rattle.sat_solver.proofs.lemmas.solver.SettlingLemmas.{whole_over}

-- the last step preserves the invariant
pub whole_ended : {W L : Type 0} {G : Ghosts L} (c : Context W L G) (n : Variables) (asked : MappedLits) (assumed core : List ℕ) (scale : ℕ) (state : SatState) (p : Proof W L G) → SolverPartsInvariant c n asked assumed core scale state → steps_of p ≡ End ∷ steps_of c.proof → HasAllowedSteps p → has_missed_step p ≡ has_missed_step c.proof → SolverPartsInvariant (record c { proof = p }) n asked assumed core scale state
whole_ended {W} {L} {G} c n asked assumed core scale state p whole e keeps taking = record {
  valid = valid;
  images = whole.images;
  spelt = whole.spelt;
  globals = whole.globals ∙ sym (ap (λ ss. (session_after ss).assumed) e);
  positive = whole.positive;
  scaled = whole.scaled;
  decays = whole.decays;
  taking = taking ∙ whole.taking;
  judged = (let k = whole.judged in (k.0, k.1, subst (λ ss. NamesAgree n ss k.0 k.1) (sym e) (searches_agree n (steps_of c.proof) End whole.valid (subst AreAllowedSteps e keeps).1 tt k.0 k.1 k.2)));
  says = says state whole.says;
}
  where
    valid : NamesInvariant n (steps_of p)
    valid = subst (NamesInvariant n) (sym e) (searches_preserve_names n (steps_of c.proof) End whole.valid (subst AreAllowedSteps e keeps).1 tt)

    joined : SearchCanContinue c n asked → SearchCanContinue (record c { proof = p }) n asked
    joined g = record {
      joined = record {
        sound = record {
          keeps = keeps;
          search = subst (λ ss. SearchInvariant (session_after ss) c.search) (sym e) (search_rests (session_of c.proof) c.search End g.joined.sound.search tt refl refl);
          locals = g.joined.sound.locals;
          mids = g.joined.sound.mids;
        };
        valid = valid;
        shares = g.joined.shares;
      };
      lits = g.lits;
    }

    says : (st : SatState) → HoldsInState st c n asked assumed core → HoldsInState st (record c { proof = p }) n asked assumed core
    says states.Unknown h = joined h
    says states.Sat h = (joined h.0, h.1)
    says states.UnsatUnderAssumptions h = (
      joined h.0,
      record {
        some = h.1.some;
        codes = h.1.codes;
        none = subst (λ ss. (a : _) → Holds ss a → AllLitsTrue a h.1.codes → ⊥) (sym e) h.1.none;
        same = subst (λ ss. IsSameLiteralSet (variable_named ss) (map user_literal core) h.1.codes) (sym e) h.1.same;
        among = h.1.among;
      },
    )
    says states.Unsat h = ap (λ ss. (session_after ss).unsat) e ∙ h

module _ {W L : Type 0} {G : Ghosts L} (seen : W → Writer) (s : Engine W L G) (whole : SolverInvariant s) (going : s.failed ≡ false) (p : Proof W L G) (keeps : HasAllowedSteps p) where
  -- the target was returned
  pub closed_one : (given : W) → ClosesOpenTarget seen given s.context.proof p → EngineCloseReturnsTarget seen given s (record s { context = record s.context { proof = p } })
  closed_one given c = record {
    going = going;
    whole = ended;
    does = subst (λ ss. ChangesScriptState s.names s.names (steps_in s) ss (λ j. j) (λ j. Finish ∷ [])) (sym c.history) (record {
      valid = searches_preserve_names s.names (steps_in s) End whole.valid may.1 tt;
      kept = λ j live agree. record { live = live; agree = searches_agree s.names (steps_in s) End whole.valid may.1 tt j live agree; trace = visible finish no_step };
    });
    closes = c;
    certificate = λ f from before none since. is_certificate f from (seen given) before (steps_of p) none keeps (since_closed seen f from before given s.context.proof p since c);
    derives = (drat_is_right (steps_of p) keeps).0;
    refutes = λ e. (drat_is_right (steps_of p) keeps).1 (subst (λ st. HoldsInState st (record s.context { proof = p }) s.names s.asked s.assumed.items s.reported.failed_core.items) e ended.says);
    same = refl;
  }
    where
      ended : SolverPartsInvariant (record s.context { proof = p }) s.names s.asked s.assumed.items s.reported.failed_core.items s.clock.restarts.scale s.state
      ended = whole_ended s.context s.names s.asked s.assumed.items s.reported.failed_core.items s.clock.restarts.scale s.state p whole c.history keeps c.taking

      may : AreAllowedSteps (End ∷ steps_in s)
      may = subst AreAllowedSteps c.history keeps

  -- the result of closing a proof
  pub closed_by : (o : Option W) → ClosesTarget seen (Ok o) s.context.proof p → EngineClosesProof seen (Ok o) s (record s { context = record s.context { proof = p } })
  closed_by None c = record { going = going; closes = c; same = refl }
  closed_by (Some given) c = closed_one given c

  pub closed_whole : (o : Option W) → ClosesTarget seen (Ok o) s.context.proof p → SolverInvariant (record s { context = record s.context { proof = p } })
  closed_whole None c = whole_over s.context s.names s.asked s.assumed.items s.reported.failed_core.items s.clock.restarts.scale s.state p whole c.history c.taking
  closed_whole (Some given) c = whole_ended s.context s.names s.asked s.assumed.items s.reported.failed_core.items s.clock.restarts.scale s.state p whole c.history keeps c.taking
