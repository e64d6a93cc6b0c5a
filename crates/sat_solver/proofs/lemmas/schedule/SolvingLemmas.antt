-- Rounds, one after another.
use Rattle.std.proofs.Common.{ℕ, ◌+◌, ◌<◌, ◌≤◌, ◌≡◌, ◌≢◌, ◌∙◌, Result, Ok, Err, List, [], ◌∷◌, ◌++◌, length, refl, sym, ap, subst, arith, append_assoc, inl, inr}
use Rattle.sat_base.specs.device.Device.{Writer}
use Rattle.sat_base.specs.steps.Steps.{Step}
use Rattle.sat_checker.specs.declared.processing.ProofProcessor.{Ghosts}
use Rattle.sat_parts.specs.prop.TrailWord.{Letter}
use Rattle.sat_solver.specs.proof.ProofView.{EmitsChecked, steps_of, session_of}
use Rattle.sat_solver.specs.session.Session.{Session, AreAllowedSteps, session_after}
use Rattle.sat_solver.proofs.lemmas.session.ProofLemmas.{gains_none, gains_more}
use Rattle.sat_solver.specs.session.AllowedSteps.{OnlyAllowedSteps, OnlyWidthAfterUnsat}
use Rattle.sat_solver.proofs.lemmas.session.ComingLemmas.{comes_open, comes_last}
use Rattle.sat_parts.specs.declared.parts.SearchState.{SearchState}
use Rattle.sat_parts.specs.parts.Assumed.{variables_of_lits, PlacesAreCorrect}
use Rattle.sat_parts.specs.parts.Whole.{state, SearchStateInvariant}
use Rattle.sat_parts.specs.parts.Words.{IsTrailWordSinceAsk, KeepsRemovedAndIdleForAll, trail_letters}
use Rattle.sat_parts.proofs.lemmas.parts.WordSteps.{word_fits, word_begins}
use Rattle.sat_solver.specs.session.Empowering.{IsEmpowering}
use Rattle.sat_solver.specs.session.Quiet.{AreQuiet}
use Rattle.sat_solver.proofs.lemmas.fits.QuietLemmas.{quiet_never}
use Rattle.sat_solver.specs.schedule.Climbing.{ExtendsEachWord as Goes_up, RaisesEachWord}
use Rattle.sat_solver.specs.declared.schedule.RoundOutcome.{RoundOutcome}
use Rattle.sat_solver.specs.declared.schedule.RoundOutcome.TheVariants as outcomes
use Rattle.sat_solver.specs.declared.error.SolverError.{SolverError}
use Rattle.sat_solver.specs.declared.config.SolverConfig.{SolverConfig}
use Rattle.sat_solver.specs.declared.context.Context.{Context}
use Rattle.sat_solver.specs.variables.Calls.{NamesInvariant, KeepsScriptState}
use Rattle.sat_solver.specs.declared.variables.Variables.{Variables}
use Rattle.sat_solver.proofs.lemmas.variables.Doing.{does_none, does_both}
use Rattle.sat_solver.specs.cdcl.Ending.{RoundSharesIndices, RoundEndsOrFails}
use Rattle.sat_solver.specs.solver.Joined.{NamesSearchInvariant, KeepsNamesSearchInvariant}
use Rattle.sat_solver.proofs.lemmas.solver.AnsweredLemmas.{joined_at}
use Rattle.sat_solver.proofs.lemmas.solver.ReportingLemmas.{shares_moved}
use Rattle.sat_solver.specs.unit_simplify.FreedIndices.{KeepsAsked}
use Rattle.sat_solver.specs.unit_simplify.Passes.{PassesQuietly, PassFailsOr}
use Rattle.sat_solver.proofs.lemmas.unit_simplify.FreedLemmas.{asked_refl, asked_trans}
use Rattle.sat_solver.proofs.lemmas.unit_simplify.PassesLemmas.{passes_goes, falls_goes, falls_later, falls_or}
use Rattle.sat_solver.specs.declared.context.Search.{Search}
use Rattle.sat_parts.specs.parts.Full.{IsBufferFull}
use Rattle.sat_solver.specs.cdcl.Joint.{assumed_indices, SameVarsAndAssumptions, global_in, SearchInvariant}
use Rattle.sat_solver.specs.cdcl.Learning.{LastIsEmpowering}
use Rattle.sat_solver.specs.clause.Reduced.{ReductionEffect, Reduces, ReductionBySteps}
use Rattle.sat_solver.specs.cdcl.Rounds.{RoundLearns, RoundResult}
use Rattle.sat_solver.specs.schedule.Solving.{CountsEmpowering, IsNeverEmpoweringByForm, IsWordOf, search_var_count, RoundsLeadTo, ReachedByAsManyRounds, OutcomeResult, AskEnds, SearchFails, ReducedAt}
use Rattle.sat_solver.proofs.lemmas.cdcl.TurnLemmas.{moved_refl, moved_trans, ready_moved, free_moved, leaves_refl}
use Rattle.sat_parts.specs.parts.Frame.{SameClauses, AddsNoUnit}
use Rattle.sat_solver.proofs.lemmas.fits.LearnedLemmas.{fits_undone}

-- STEPS THAT ADVANCE

-- quiet steps after these do not change how many advanced
pub times_quiet : (earlier xs ys : List Step) (k : ℕ) → AreAllowedSteps (ys ++ (xs ++ earlier)) → AreQuiet ys → CountsEmpowering earlier xs k → CountsEmpowering earlier (ys ++ xs) k
times_quiet earlier xs [] k may quiet h = h
times_quiet earlier xs (y ∷ ys) k may quiet h =
    inl (
      times_quiet earlier xs ys k may.0 quiet.1 h,
      subst (λ zs. IsNeverEmpoweringByForm (session_after zs) y) (sym (append_assoc ys xs earlier)) (record { quiet = quiet.0; never = quiet_never (session_after (ys ++ (xs ++ earlier))) y may.1 quiet.0 }),
    )

-- an advancing step adds 1 to the number
times_more : (earlier xs ys : List Step) (k : ℕ) → AreAllowedSteps (ys ++ (xs ++ earlier)) → LastIsEmpowering (xs ++ earlier) ys → CountsEmpowering earlier xs k → CountsEmpowering earlier (ys ++ xs) (k + 1)
times_more earlier xs ys k may l h =
    subst (λ zs. CountsEmpowering earlier (zs ++ xs) (k + 1)) (sym l.is)
    (inr (
      k,
      refl,
      subst (λ zs. IsEmpowering (session_after zs) l.clause) (sym (append_assoc l.rest xs earlier)) l.advances,
      times_quiet earlier xs l.rest k (subst (λ zs. AreAllowedSteps (zs ++ (xs ++ earlier))) l.is may).0 l.quiet h,
    ))

-- all steps since the start are allowed, as one list
allowed : {W L : Type 0} {G : Ghosts L} (s a b : Context W L G) (xs ys : List Step) → steps_of a.proof ≡ xs ++ steps_of s.proof → steps_of b.proof ≡ ys ++ steps_of a.proof → AreAllowedSteps (steps_of b.proof) → AreAllowedSteps (ys ++ (xs ++ steps_of s.proof))
allowed s a b xs ys e f may = subst (λ zs. AreAllowedSteps (ys ++ zs)) e (subst AreAllowedSteps f may)

-- WORDS

pub words_stay : (am : List ℕ) (p p' : SearchState) → KeepsRemovedAndIdleForAll p p' → (w : List Letter) → IsTrailWordSinceAsk am p w → (v : List Letter) × IsTrailWordSinceAsk am p' v
words_stay am p p' stay w x = (_, record { gone = x.gone; distinct = x.distinct; each = λ k b. (stay am).gone _ (x.each k b); is = refl })

words_moved : (p : SearchState) (a b : Search) → SameVarsAndAssumptions a b → (v : List Letter) → IsTrailWordSinceAsk (assumed_indices a) p v → IsTrailWordSinceAsk (assumed_indices b) p v
words_moved p a b m v x = subst (λ ls. IsTrailWordSinceAsk (variables_of_lits ls.items) p v) (sym m.lits) x

pub core_word : {W L : Type 0} {G : Ghosts L} (c : Context W L G) → IsTrailWordSinceAsk (assumed_indices c.search) c.search.parts (trail_letters c.search.parts.trail)
core_word c = word_begins (assumed_indices c.search) c.search.parts

-- undoing decisions preserves the invariant
pub search_undone : (s : Session) (c : Search) (p : SearchState) → SearchInvariant s c → SearchStateInvariant p → SameClauses c.parts p → AddsNoUnit (state c.parts) (state p) → KeepsRemovedAndIdleForAll c.parts p → PlacesAreCorrect c.assumptions (state p) → SearchInvariant s (record c { parts = p })
search_undone s c p h holds same carries stay placed =
    let moved : SameVarsAndAssumptions c (record c { parts = p }) = record { globals = refl; lits = refl; size = carries.size } in
    record {
      valid = record { holds = holds; fits = fits_undone c.parts p s (global_in c) same carries h.valid.fits };
      ready = ready_moved s s c (record c { parts = p }) h.ready (leaves_refl s) moved (stay (assumed_indices c)) placed (free_moved c (record c { parts = p }) h.ready.free moved refl refl);
    }

-- ROUNDS, ONE AFTER ANOTHER

module _ {W L : Type 0} {G : Ghosts L} (seen : W → Writer) where
  pub gone_none : (a : Context W L G) (n : Variables) → NamesInvariant n (steps_of a.proof) → RoundsLeadTo seen a n 0 a n
  gone_none a n valid = record {
    steps = [];
    adds = gains_none seen a.proof;
    does = does_none n (steps_of a.proof) valid;
    asked = asked_refl n (session_of a.proof);
    moved = moved_refl a.search;
    config = refl;
    times = refl;
  }

  module _ (a b : Context W L G) (na nb : Variables) (config : b.config ≡ a.config) where
    gone_on : (ys : List Step) → EmitsChecked seen ys a.proof b.proof → KeepsScriptState na nb (steps_of a.proof) (steps_of b.proof) → KeepsAsked na nb (session_of a.proof) (session_of b.proof) → SameVarsAndAssumptions a.search b.search →
        (s : Context W L G) (n : Variables) (j k : ℕ) → (g : RoundsLeadTo seen s n k a na) → CountsEmpowering (steps_of s.proof) (ys ++ g.steps) j → RoundsLeadTo seen s n j b nb
    gone_on ys adds does asked moved s n j k g times = record {
      steps = ys ++ g.steps;
      adds = gains_more seen g.steps ys s.proof a.proof b.proof g.adds adds;
      does = does_both n na nb (steps_of s.proof) (steps_of a.proof) (steps_of b.proof) (λ j. j) (λ j. j) (λ j. []) (λ j. []) g.does does;
      asked = asked_trans n na nb (session_of s.proof) (session_of a.proof) (session_of b.proof) g.asked asked;
      moved = moved_trans s.search a.search b.search g.moved moved;
      config = config ∙ g.config;
      times = times;
    }

    -- a call failed after rounds that succeeded
    falls : (e : SolverError) → PassFailsOr (IsBufferFull b.search.parts) seen e a.proof b.proof → (s : Context W L G) (n : Variables) (k : ℕ) → RoundsLeadTo seen s n k a na → SearchFails seen s e b
    falls e f s n k gone = falls_later seen e s.proof a.proof b.proof (gone.steps, gone.adds) f

  -- RESTARTS

  -- decisions were undone, down to the levels of assumptions
  module _ (a : Context W L G) (p : SearchState) (holds : SearchStateInvariant p) (same : SameClauses a.search.parts p) (carries : AddsNoUnit (state a.search.parts) (state p)) (stay : KeepsRemovedAndIdleForAll a.search.parts p) (placed : PlacesAreCorrect a.search.assumptions (state p)) where
    abbrev pub undone : Context W L G
    undone = record a { search = record a.search { parts = p } }

    pub undone_joined : KeepsNamesSearchInvariant a undone
    undone_joined n h = record {
      sound = record {
        keeps = h.sound.keeps;
        search = search_undone (session_of a.proof) a.search p h.sound.search holds same carries stay placed;
        locals = h.sound.locals;
        mids = h.sound.mids;
      };
      valid = h.valid;
      shares = shares_moved n a.search undone.search h.shares (record { globals = refl; lits = refl; size = carries.size });
    }

    pub undone_goes : ReachedByAsManyRounds seen a undone
    undone_goes s n m k g = record {
      steps = g.steps;
      adds = g.adds;
      does = g.does;
      asked = g.asked;
      moved = moved_trans s.search a.search undone.search g.moved (record { globals = refl; lits = refl; size = carries.size });
      config = g.config;
      times = g.times;
    }

  -- REDUCTIONS

  module _ (a b : Context W L G) (n : Variables) (round : ℕ) (config : b.config ≡ a.config) (joined : NamesSearchInvariant n a) where
    abbrev Reduction : Result (Unit {0}) SolverError → Type 0
    Reduction r = ReductionBySteps (Reduces a.config round) seen r a.proof b.proof a.search b.search

    pub reduced_sound : (x : Unit {0}) → Reduction (Ok x) → NamesSearchInvariant n b
    reduced_sound x g = joined_at seen n a joined b g.steps g.went g.searched g.keeps g.ends.0.moved g.ends.0.search config

    pub reduced_words : (x : Unit {0}) → Reduction (Ok x) → Goes_up IsWordOf a b
    reduced_words x g = λ w h. (let y = g.ends.0.word.1 w h in (y.0, (rw g.ends.0.moved.lits y.1.0, y.1.1)))

    pub reduced_goes : (x : Unit {0}) → Reduction (Ok x) → (s : Context W L G) (m : Variables) (k : ℕ) → RoundsLeadTo seen s m k a n → RoundsLeadTo seen s m k b n
    reduced_goes x g = λ s m k gone.
        (let P : Unit {0} → List Step → Type 0 = λ _ _. ReductionEffect (session_of b.proof) a.search b.search × Reduces a.config round a.search.parts b.search.parts in
        let p : PassesQuietly seen n n a.proof b.proof a.search b.search = passes_goes seen x n a.proof b.proof a.search b.search P joined.valid joined.shares g g.ends.0.search g.ends.0.moved g.ends.0.word in
        gone_on a b n n config g.steps g.went p.does p.asked g.ends.0.moved s m k k gone (times_quiet (steps_of s.proof) gone.steps g.steps k (allowed s a b gone.steps g.steps gone.adds.history g.went.history g.keeps) g.quiet gone.times))

    pub reduced_fails : (e : SolverError) → Reduction (Err e) → (s : Context W L G) (m : Variables) (k : ℕ) → RoundsLeadTo seen s m k a n → SearchFails seen s e b
    reduced_fails e g = λ s m k gone.
        (let P : Unit {0} → List Step → Type 0 = λ _ _. ReductionEffect (session_of b.proof) a.search b.search × Reduces a.config round a.search.parts b.search.parts in
        falls a b n n config e (falls_or seen (IsBufferFull b.search.parts) e a.proof b.proof (falls_goes seen e a.proof b.proof P g)) s m k gone)

  -- ROUNDS

  module _ (a b : Context W L G) (na nb : Variables) (config : b.config ≡ a.config) (joined : NamesSearchInvariant na a) where
    abbrev Round : Result RoundOutcome SolverError → Type 0
    Round r = RoundEndsOrFails seen r na nb a.proof b.proof a.search b.search

    learns : (o : RoundOutcome) (steps : List Step) → o ≡ outcomes.Learned → RoundResult o (steps_of a.proof) steps (session_of b.proof) a.search b.search → RoundLearns (steps_of a.proof) steps (session_of b.proof) a.search b.search
    learns o steps e x = subst (λ z. RoundResult z (steps_of a.proof) steps (session_of b.proof) a.search b.search) e x

    pub round_sound : (o : RoundOutcome) → Round (Ok o) → o ≡ outcomes.Learned → NamesSearchInvariant nb b
    round_sound o g = λ e. record {
      sound = record {
        keeps = g.keeps;
        search = (learns o g.steps e g.says).search;
        locals = subst (λ (c : SolverConfig). 0 < c.reduce_locals_interval) (sym config) joined.sound.locals;
        mids = subst (λ (c : SolverConfig). 0 < c.reduce_mids_interval) (sym config) joined.sound.mids;
      };
      valid = g.does.valid;
      shares = subst (λ z. RoundSharesIndices z nb b.search) e g.shares;
    }

    pub round_most : (o : RoundOutcome) → Round (Ok o) → o ≡ outcomes.Learned → search_var_count b ≡ search_var_count a
    round_most o g = λ e. (learns o g.steps e g.says).moved.size

    pub round_words : (o : RoundOutcome) → Round (Ok o) → o ≡ outcomes.Learned → RaisesEachWord IsWordOf (search_var_count a) a b
    round_words o g = λ e w h.
        (let l : RoundLearns (steps_of a.proof) g.steps (session_of b.proof) a.search b.search = learns o g.steps e g.says in
        let y = l.rises.1 w h in
        let fits : length y.0 ≤ length b.search.parts.assignment.current = word_fits (assumed_indices a.search) (state b.search.parts) b.search.parts.vsids y.0 l.search.valid.holds.below.propagation.agrees y.1.0 in
        (y.0, (words_moved b.search.parts a.search b.search l.moved y.0 y.1.0, y.1.1, omega (arith, fits, l.moved.size))))

    pub round_goes : (o : RoundOutcome) → Round (Ok o) → o ≡ outcomes.Learned → (s : Context W L G) (n : Variables) (k : ℕ) → RoundsLeadTo seen s n k a na → RoundsLeadTo seen s n (k + 1) b nb
    round_goes o g = λ e s n k gone.
        (let l : RoundLearns (steps_of a.proof) g.steps (session_of b.proof) a.search b.search = learns o g.steps e g.says in
        gone_on a b na nb config g.steps g.adds g.does g.asked l.moved s n (k + 1) k gone
        (times_more (steps_of s.proof) gone.steps g.steps k (allowed s a b gone.steps g.steps gone.adds.history g.adds.history g.keeps) (subst (λ zs. LastIsEmpowering zs g.steps) gone.adds.history l.last) gone.times))

    following : (s : Context W L G) (steps before : List Step) → steps_of b.proof ≡ steps ++ steps_of a.proof → steps_of a.proof ≡ before ++ steps_of s.proof → steps_of b.proof ≡ (steps ++ before) ++ steps_of s.proof
    following s steps before e f = e ∙ ap (λ ss. steps ++ ss) f ∙ sym (append_assoc steps before (steps_of s.proof))

    end_says : (o : RoundOutcome) (earlier steps : List Step) (s : Session) (c : Search) → o ≢ outcomes.Learned → SameVarsAndAssumptions c a.search → RoundResult o earlier steps s a.search b.search → RoundSharesIndices o nb b.search → OutcomeResult o s nb c b.search
    end_says outcomes.Learned earlier steps s c n m x shares = absurd (n refl)
    end_says outcomes.Model earlier steps s c n m x shares = (record { search = x.0.search; moved = moved_trans c a.search b.search m x.0.moved; complete = x.0.complete }, shares)
    end_says outcomes.Unsat earlier steps s c n m x shares = x.now
    end_says outcomes.Failed earlier steps s c n m x shares = (record { search = x.0.search; moved = moved_trans c a.search b.search m x.0.moved; failing = x.0.failing }, shares)

    end_comes : (o : RoundOutcome) (steps : List Step) → o ≢ outcomes.Learned → steps_of b.proof ≡ steps ++ steps_of a.proof → RoundResult o (steps_of a.proof) steps (session_of b.proof) a.search b.search →
        (s : Context W L G) (before : List Step) → steps_of a.proof ≡ before ++ steps_of s.proof → OnlyAllowedSteps OnlyWidthAfterUnsat (steps_of s.proof) (steps_of b.proof)
    end_comes outcomes.Learned steps n e x s before f = absurd (n refl)
    end_comes outcomes.Model steps n e x s before f = comes_open (steps_of s.proof) (steps_of b.proof) (steps ++ before) (following s steps before e f) x.0.search.valid.fits.consistent
    end_comes outcomes.Failed steps n e x s before f = comes_open (steps_of s.proof) (steps_of b.proof) (steps ++ before) (following s steps before e f) x.0.search.valid.fits.consistent
    end_comes outcomes.Unsat steps n e x s before f =
        comes_last (steps_of s.proof) (x.rest ++ steps_of a.proof) (steps_of b.proof) (x.rest ++ before) x.last (ap (λ ss. x.rest ++ ss) f ∙ sym (append_assoc x.rest before (steps_of s.proof))) x.before
        (e ∙ ap (λ ss. ss ++ steps_of a.proof) x.is)

    end_quiet : (o : RoundOutcome) (earlier steps : List Step) → o ≢ outcomes.Learned → RoundResult o earlier steps (session_of b.proof) a.search b.search → AreQuiet steps
    end_quiet outcomes.Learned earlier steps n x = absurd (n refl)
    end_quiet outcomes.Model earlier steps n x = x.1
    end_quiet outcomes.Unsat earlier steps n x = x.quiet
    end_quiet outcomes.Failed earlier steps n x = x.1

    pub round_ends : (o : RoundOutcome) → Round (Ok o) → o ≢ outcomes.Learned → (s : Context W L G) (n : Variables) (k : ℕ) → RoundsLeadTo seen s n k a na → AskEnds seen s n k o b nb
    round_ends o g = λ not s n k gone. record {
      steps = g.steps ++ gone.steps;
      adds = gains_more seen gone.steps g.steps s.proof a.proof b.proof gone.adds g.adds;
      does = does_both n na nb (steps_of s.proof) (steps_of a.proof) (steps_of b.proof) (λ j. j) (λ j. j) (λ j. []) (λ j. []) gone.does g.does;
      asked = asked_trans n na nb (session_of s.proof) (session_of a.proof) (session_of b.proof) gone.asked g.asked;
      keeps = g.keeps;
      config = config ∙ gone.config;
      comes = end_comes o g.steps not g.adds.history g.says s gone.steps gone.adds.history;
      says = end_says o (steps_of a.proof) g.steps (session_of b.proof) s.search not gone.moved g.says g.shares;
      times = times_quiet (steps_of s.proof) gone.steps g.steps k (allowed s a b gone.steps g.steps gone.adds.history g.adds.history g.keeps) (end_quiet o (steps_of a.proof) g.steps not g.says) gone.times;
    }

    pub round_fails : (e : SolverError) → Round (Err e) → (s : Context W L G) (n : Variables) (k : ℕ) → RoundsLeadTo seen s n k a na → SearchFails seen s e b
    round_fails e g = λ s n k gone. falls a b na nb config e g s n k gone

-- a reduction at this round
pub reduced_at : {W L : Type 0} {G : Ghosts L} (seen : W → Writer) (a b : Context W L G) (round : ℕ) → b.config ≡ a.config → (x : Unit {0}) → ReductionBySteps (Reduces a.config round) seen (Ok x) a.proof b.proof a.search b.search → ReducedAt seen a round b
reduced_at seen a b round config x g = record { steps = g.steps; adds = g.went; reduces = g.ends.1; moved = g.ends.0.moved; config = config }
