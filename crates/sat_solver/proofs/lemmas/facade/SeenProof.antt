-- What a call does to the proof and to the parameters, as callers see it.
use Rattle.std.proofs.Common.{ℕ, ◌≡◌, ◌∙◌, inl, inr, refl, sym, ap, subst, append-nil, Bool, false, Option, Some, None, Result, Ok, Err, List, [], ◌∷◌, ◌++◌}
use Rattle.std.proofs.Math.Logic.{∥∥₁_elim, ∥∥₁_prop}
use Rattle.std.specs.Prelude.{IfOk, IfSome}
use Rattle.sat_base.specs.device.Device.{Writer}
use Rattle.sat_base.specs.script.ScriptState.{ScriptState}
use Rattle.sat_base.specs.steps.Steps.{Step, End}
use Rattle.sat_checker.specs.declared.processing.ProofProcessor.{Ghosts}
use Rattle.sat_solver.specs.proof.Prefixes.{PrefixSince, TargetReceivesPrefix}
use Rattle.sat_solver.specs.proof.ProofView as proofs
use Rattle.sat_solver.specs.proof.ProofView.{Target, TargetReceives, ReturnsWriter, returned_writer, target_of, steps_of, proof_listeners, has_missed_step}
use Rattle.sat_solver.specs.session.Session.{AreAllowedSteps}
use Rattle.std.specs.Global.{Vec}
use Rattle.sat_parts.specs.clause.Activity.{ActivityScale}
use Rattle.sat_parts.specs.declared.parts.SearchState.{SearchState}
use Rattle.sat_solver.specs.Configs.{updated}
use Rattle.sat_solver.specs.declared.config.SolverConfigUpdate.{SolverConfigUpdate}
use Rattle.sat_solver.specs.declared.context.Context.{Context}
use Rattle.sat_solver.specs.declared.error.SolverError.{SolverError}
use Rattle.sat_solver.specs.declared.error.SolverError.TheVariants as errors
use Rattle.sat_solver.specs.declared.proof.format.ProofFormat.{ProofFormat}
use Rattle.sat_solver.specs.declared.progress.Progress.{Progress}
use Rattle.sat_solver.specs.declared.solver.Engine.{Engine}
use Rattle.sat_solver.specs.declared.state.SatState.{SatState}
use Rattle.sat_solver.specs.declared.state.SatState.TheVariants as states
use Rattle.sat_solver.specs.solver.Configuring as configuring
use Rattle.sat_solver.specs.solver.Progressing as progressing
use Rattle.sat_solver.specs.solver.Proving as proving
use Rattle.sat_solver.specs.solver.Whole.{EngineInvariant}
use Rattle.sat_solver.specs.facade.Answers.{IsOngoing}
use Rattle.sat_solver.specs.facade.View.{Checking, SolverView}
use Rattle.sat_solver.specs.facade.Inner.{MatchesEngine, progress_of}
use Rattle.sat_solver.specs.facade.Configuring.{Configures, decay_after}
use Rattle.sat_solver.specs.facade.Proving.{AddsProcessor, own_listeners, ClosesProof, ClosesText, EnablesChecking, IsCertificate, IsDratRefutation, MakesLast, OpensProof, ReturnsAcceptedPrefix, writer_given}
use Rattle.sat_solver.proofs.lemmas.session.PrefixLemmas.{fronts_are_accepted}
use Rattle.sat_solver.proofs.lemmas.session.ProofLemmas.{carries_none}
use Rattle.sat_solver.proofs.lemmas.facade.Seen.{v, w, refused, differs}
use Rattle.sat_solver.proofs.lemmas.facade.SeenChecker.{begun_seen}

-- a view in which only what the proof shows is replaced
proved_alike : {L : Type 0} (w : SolverView L) {c : Checking} {s s' : List Step} {t t' : Target} {q q' : Bool} {l l' : Option (List L)} {x x' : Bool} → s ≡ s' → t ≡ t' → q ≡ q' → l ≡ l' → x ≡ x'
    → record w { steps = s; target = t; asked = q; listeners = l; lost = x; checking = c } ≡ record w { steps = s'; target = t'; asked = q'; listeners = l'; lost = x'; checking = c }
proved_alike w steps_are target_is asked_is listeners_are lost_is = rw (steps_are, target_is, asked_is, listeners_are, lost_is) refl

numbers : {a b c d e f g h a' b' c' d' e' f' g' h' : ℕ} → a ≡ a' → b ≡ b' → c ≡ c' → d ≡ d' → e ≡ e' → f ≡ f' → g ≡ g' → h ≡ h'
    → let r : Progress = record { conflicts = a; restarts = b; vars = c; binary = d; irred = e; core = f; mid = g; local = h } in
    let r' : Progress = record { conflicts = a'; restarts = b'; vars = c'; binary = d'; irred = e'; core = f'; mid = g'; local = h' } in r ≡ r'
numbers p1 p2 p3 p4 p5 p6 p7 p8 = rw (p1, p2, p3, p4, p5, p6, p7, p8) refl

-- `i` is the script state before a call, and `k` the one after it
module _ {W L : Type 0} {G : Ghosts L} (seen : W → Writer) (i k : ScriptState) where
  -- OPENING

  pub opened : (r : Result (Unit {0}) SolverError) (format : ProofFormat) (target : W) (a b : Engine W L G) → k ≡ i → proving.EngineOpensProof seen r format target a b → OpensProof r format (seen target) (v seen i k a) (w seen i k b)
  opened (Ok x) format target a b e h = record {
    going = h.going;
    first = h.first;
    shut = h.shut;
    same = differs seen i k a b e h.same ∙ proved_alike (v seen i k a) h.steps h.target_is h.asked h.checker.listening h.checker.taking;
  }
  opened (Err errors.HasFailed) format target a b e h = refused seen i k a b _ e h
  opened (Err errors.TooLate) format target a b e h = refused seen i k a b _ e h
  opened (Err x) format target a b e h = absurd h

  -- the listeners of a checker that is begun by a solver that has not failed
  begun_with : (a : Engine W L G) (begun more : List L) → EngineInvariant a → a.failed ≡ false → proofs.ListenersAtRestart a.context.proof begun → Some (begun ++ more) ≡ Some (own_listeners (proof_listeners a.context.proof) ++ more)
  begun_with a begun more solver going h = ap (λ (begun : List L). Some (begun ++ more)) (begun_seen (has_missed_step a.context.proof) a.context.proof.made (proof_listeners a.context.proof) begun (solver going).taking h)

  pub enabled : (r : Result (Unit {0}) SolverError) (a b : Engine W L G) → EngineInvariant a → k ≡ i → proving.EngineEnables seen r a b → EnablesChecking r (v seen i k a) (w seen i k b)
  enabled (Ok x) a b solver e h = record {
    going = h.going;
    first = h.first;
    begun = h.begun;
    same = differs seen i k a b e h.same ∙ proved_alike (v seen i k a) h.checks.steps h.target h.asked (h.checks.listening ∙ ap Some (sym (append-nil h.checks.begun)) ∙ begun_with a h.checks.begun [] solver h.going h.checks.listed) (h.checks.taking ∙ sym (solver h.going).taking);
  }
  enabled (Err errors.HasFailed) a b solver e h = refused seen i k a b _ e h
  enabled (Err errors.TooLate) a b solver e h = refused seen i k a b _ e h
  enabled (Err x) a b solver e h = absurd h

  pub listened : (r : Result (Unit {0}) SolverError) (processor : L) (a b : Engine W L G) → EngineInvariant a → k ≡ i → proving.EngineAddsProcessor seen r processor a b → AddsProcessor r processor (v seen i k a) (w seen i k b)
  listened (Ok x) processor a b solver e h = record {
    going = h.going;
    first = h.first;
    begun = h.begun;
    same = differs seen i k a b e h.same ∙ proved_alike (v seen i k a) h.steps h.target h.asked (h.listens.0.listening ∙ begun_with a h.listens.0.before (processor ∷ []) solver h.going h.listens.0.listed) (h.listens.1 ∙ sym (solver h.going).taking);
  }
  listened (Err errors.HasFailed) processor a b solver e h = refused seen i k a b _ e h
  listened (Err errors.TooLate) processor a b solver e h = refused seen i k a b _ e h
  listened (Err errors.OutOfMemory) processor a b solver e h = record {
    going = h.going;
    first = h.first;
    begun = h.begun;
    failed = h.failed;
    steps = h.steps;
    target = h.target;
    listeners = h.listens.listening ∙ begun_with a h.listens.before [] solver h.going h.listens.listed ∙ ap Some (append-nil (own_listeners (proof_listeners a.context.proof)));
    clock = h.clock;
  }
  listened (Err x) processor a b solver e h = absurd h

  -- CLOSING

  pub closed : (r : Result (Option W) SolverError) (a b : Engine W L G) → k ≡ i → proving.EngineClosesProof seen r a b → ClosesProof (writer_given seen r) (v seen i k a) (w seen i k b)
  closed (Ok None) a b e h = record {
    going = h.going;
    shut = h.closes.shut;
    same = differs seen i k a b e h.same ∙ proved_alike (v seen i k a) h.closes.history h.closes.target h.closes.asked h.closes.listening h.closes.taking;
  }
  closed (Ok (Some given)) a b e h = record {
    going = h.going;
    target = h.closes.target;
    same = differs seen i k a b e h.same ∙ proved_alike (v seen i k a) h.closes.history refl h.closes.asked h.closes.listening h.closes.taking;
  }
  closed (Err errors.HasFailed) a b e h = refused seen i k a b _ e h
  closed (Err (errors.ProofIoError cause)) a b e h = record { going = h.going; failed = h.failed; clock = h.clock }
  closed (Err errors.OutOfMemory) a b e h = record { going = h.going; failed = h.failed; clock = h.clock }
  closed (Err errors.CounterEnd) a b e h = record { going = h.going; failed = h.failed; clock = h.clock }
  closed (Err (errors.ProofProcessorError cause)) a b e h = record { going = h.going; failed = h.failed; clock = h.clock }
  closed (Err x) a b e h = absurd h

  pub last_made : (r : Result (Option W) SolverError) (a b : Engine W L G) → MatchesEngine a i → proving.EngineClosesProof seen r a b → IfOk r (λ o. IfSome o (λ _. MakesLast (v seen i k a) (w seen i k b)))
  last_made (Ok None) a b m h = tt
  last_made (Ok (Some given)) a b m h = let x = m h.going in (h.does.kept i x.0 x.1).trace
  last_made (Err x) a b m h = tt

  pub closed_text : (r : Result (Option W) SolverError) (a b : Engine W L G) → proving.EngineClosesProof seen r a b → ClosesText (writer_given seen r) (v seen i k a) (w seen i k b)
  closed_text (Ok None) a b h = tt
  closed_text (Ok (Some given)) a b h = h.closes.takes
  closed_text (Err errors.HasFailed) a b h = record {
    breaks = record { steps = []; history = ap (λ (s : Engine W L G). steps_of s.context.proof) h.same; listening = ap (λ (s : Engine W L G). proof_listeners s.context.proof) h.same; target = subst (λ (s : Engine W L G). TargetReceives (target_of seen a.context.proof) [] (target_of seen s.context.proof)) (sym h.same) (carries_none (target_of seen a.context.proof)) };
    last = refl;
  }
  closed_text (Err (errors.ProofIoError cause)) a b h = record {
    breaks = record { steps = End ∷ []; history = h.fails.history; listening = h.fails.listening; target = h.fails.target };
    last = refl;
  }
  closed_text (Err errors.OutOfMemory) a b h = elim h.adds [
    | inl x ↦ record {
      breaks = record { steps = []; history = x.history; listening = x.listening; target = x.target };
      last = inl refl;
    }
    | inr x ↦ record {
      breaks = record { steps = End ∷ []; history = x.adds.history; listening = x.adds.listening; target = x.adds.target };
      last = inr refl;
    }
  ]
  closed_text (Err errors.CounterEnd) a b h = record {
    breaks = record { steps = End ∷ []; history = h.fails.adds.history; listening = h.fails.adds.listening; target = h.fails.adds.target };
    last = refl;
  }
  closed_text (Err (errors.ProofProcessorError cause)) a b h = record {
    breaks = record { steps = End ∷ []; history = h.fails.adds.history; listening = h.fails.adds.listening; target = h.fails.adds.target };
    last = refl;
  }
  closed_text (Err e) a b h = absurd h

  pub certificate : (given : W) (a b : Engine W L G) → proving.EngineClosesProof seen (Ok (Some given)) a b → IsCertificate (seen given) (v seen i k a) (w seen i k b)
  certificate given a b h f from before begun wrote = h.certificate f from before begun (record { steps = wrote.steps; following = wrote.following; target = wrote.target })

  pub refutes : (given : W) (a b : Engine W L G) → proving.EngineClosesProof seen (Ok (Some given)) a b → IsDratRefutation (v seen i k a) (w seen i k b)
  refutes given a b h = record { derives = h.derives; refutes = h.refutes }

  pub certified : (r : Result (Option W) SolverError) (a b : Engine W L G) → proving.EngineClosesProof seen r a b → IfOk r (λ o. IfSome o (λ given. IsCertificate (seen given) (v seen i k a) (w seen i k b)))
  certified (Ok None) a b h = tt
  certified (Ok (Some given)) a b h = certificate given a b h
  certified (Err e) a b h = tt

  pub drat_refuted : (r : Result (Option W) SolverError) (a b : Engine W L G) → proving.EngineClosesProof seen r a b → IfOk r (λ o. IfSome o (λ _. IsDratRefutation (v seen i k a) (w seen i k b)))
  drat_refuted (Ok None) a b h = tt
  drat_refuted (Ok (Some given)) a b h = refutes given a b h
  drat_refuted (Err e) a b h = tt

  pub returns_front : (s : Engine W L G) (returned : Option W) → ReturnsWriter (target_of seen s.context.proof) (returned_writer seen returned) → ReturnsAcceptedPrefix (returned_writer seen returned) (v seen i k s)
  returns_front s returned g opened f from given is open_then begun went =
      let follows = subst (λ (t : Target). TargetReceivesPrefix t went.steps (target_of seen s.context.proof)) open_then went.target in
      let gives = subst (λ (o : Option Writer). ReturnsWriter (target_of seen s.context.proof) o) is g in
      ∥∥₁_elim s.context.proof.made.may ∥∥₁_prop (λ may.
      let front = fronts_are_accepted f from given opened.steps went.steps (target_of seen s.context.proof) begun (subst AreAllowedSteps went.history may) follows gives in
      ∣ subst (PrefixSince f from given opened.steps) (sym went.history) front ∣₁)

  -- PARAMETERS

  alike : (parts : SearchState) (decay : ℕ) (u : SolverConfigUpdate) (a b : Engine W L G) → configuring.EngineConfigured u a b → b.context.search.parts ≡ record a.context.search.parts { vsids = parts.vsids } → b.context.search.activity.decay ≡ decay → k ≡ i
      → w seen i k b ≡ record (v seen i k a) { parameters = updated u a.context.config; clock = configuring.at_scale u.luby_restart_interval_scale a.clock; decay = parts.vsids.decay; clause_decay = decay }
  alike parts decay u a b h parts_are decay_is e =
      let assumed = ap (λ (t : Vec ℕ). t.items) h.same.assumed in
      rw (h.failed ∙ sym h.going, h.same.used, h.same.state, h.same.names, parts_are, decay_is, assumed, h.same.reported, h.clock, h.config, h.same.proof, e) refl

  passed : (u : SolverConfigUpdate) (a b : Engine W L G) → configuring.EngineConfigured u a b → configuring.SetsDecays (record a.context { config = updated u a.context.config }) b.context → k ≡ i
      → w seen i k b ≡ record (v seen i k a) { parameters = updated u a.context.config; clock = configuring.at_scale u.luby_restart_interval_scale a.clock; decay = (updated u a.context.config).vsids_decay; clause_decay = (updated u a.context.config).clause_activity_decay }
  passed u a b h p e =
      alike b.context.search.parts (updated u a.context.config).clause_activity_decay u a b h (p.parts ∙ ap (λ (q : SearchState). record a.context.search.parts { vsids = q.vsids }) (sym p.parts)) (ap (λ (q : ActivityScale). q.decay) p.activity) e
      ∙ ap (λ (q : SearchState). record (v seen i k a) { parameters = updated u a.context.config; clock = configuring.at_scale u.luby_restart_interval_scale a.clock; decay = q.vsids.decay; clause_decay = (updated u a.context.config).clause_activity_decay }) p.parts

  changed : (st : SatState) (u : SolverConfigUpdate) (a b : Engine W L G) → configuring.EngineConfigured u a b → configuring.PassesToSearch st (record a.context { config = updated u a.context.config }) b.context → k ≡ i
      → w seen i k b ≡ record (v seen i k a) { parameters = updated u a.context.config; clock = configuring.at_scale u.luby_restart_interval_scale a.clock; decay = decay_after st a.context.search.parts.vsids.decay (updated u a.context.config).vsids_decay; clause_decay = decay_after st a.context.search.activity.decay (updated u a.context.config).clause_activity_decay }
  changed states.Unsat u a b h p e = alike a.context.search.parts a.context.search.activity.decay u a b h (ap (λ (c : Context W L G). c.search.parts) p) (ap (λ (c : Context W L G). c.search.activity.decay) p) e
  changed states.Unknown u a b h p e = passed u a b h p e
  changed states.Sat u a b h p e = passed u a b h p e
  changed states.UnsatUnderAssumptions u a b h p e = passed u a b h p e

  pub configured : (r : Result (Unit {0}) SolverError) (u : SolverConfigUpdate) (a b : Engine W L G) → k ≡ i → configuring.EngineConfigures r u a b → Configures r u (v seen i k a) (w seen i k b)
  configured (Ok x) u a b e h = record { going = h.going; range = h.range; same = changed a.state u a b h h.decays e }
  configured (Err errors.HasFailed) u a b e h = refused seen i k a b _ e h
  configured (Err errors.OutOfRange) u a b e h = refused seen i k a b _ e h
  configured (Err x) u a b e h = absurd h

  -- NUMBERS

  pub progressed : (s : Engine W L G) → EngineInvariant s → (r : Progress) → r.conflicts ≡ s.clock.rounds → r.restarts ≡ s.clock.restarts.count → (EngineInvariant s → s.failed ≡ false → r.vars ≡ progressing.solver_unassigned_count s) → (progressing.EngineIsOngoing s → progressing.CountsClausesIn r s) → IsOngoing (v seen i k s) → r ≡ progress_of s
  progressed s solver r conflicts restarts vars clauses on =
      let c = clauses (record { solver = solver; going = on.going; left = on.left }) in
      numbers conflicts restarts (vars solver on.going) c.binary c.irred c.core c.mid c.local
