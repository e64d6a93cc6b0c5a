-- What the certificate's writer received, whichever call failed.
use Rattle.std.proofs.Common.{◌≡◌, ◌∙◌, inl, inr, Some, Option, Err, List, [], ◌∷◌, ◌++◌, refl, sym, ap, subst, append-nil}
use Rattle.std.proofs.Math.Logic.{∥∥₁_elim, ∥∥₁_prop}
use Rattle.std.specs.Io.KnownBytes.{Appends}
use Rattle.sat_base.specs.device.Device.{Writer}
use Rattle.sat_base.specs.device.Sink.{empty_sink}
use Rattle.sat_base.specs.steps.Steps.{Step, End}
use Rattle.sat_solver.specs.declared.error.SolverError.{SolverError}
use Rattle.sat_solver.specs.declared.proof.format.ProofFormat.TheVariants.{Varisat}
use Rattle.sat_solver.specs.proof.Checked.{has_begun}
use Rattle.sat_solver.specs.proof.Prefixes.{PrefixText, TargetReceivesPrefix}
use Rattle.sat_solver.specs.proof.OutputView.{text_in}
use Rattle.sat_solver.specs.proof.ProofTexts.{ReceivedAcceptedSteps, ReceivedText}
use Rattle.sat_solver.specs.proof.ProofView.{Open, Target, TargetFails, TargetReceives, TargetReceivesAll, ReturnsWriter}
use Rattle.sat_solver.specs.proof.Counting.{nothing_counted as uncounted}
use Rattle.sat_solver.specs.session.Session.{AreAllowedSteps}
use Rattle.sat_solver.specs.facade.Proving.{ClosesText, IsCertificate, ReturnsAcceptedPrefix}
use Rattle.sat_solver.proofs.lemmas.session.CutsLemmas.{cuts_are_free}
use Rattle.sat_solver.proofs.lemmas.session.StepLemmas.{sessions_are_accepted}
use Rattle.sat_solver.proofs.lemmas.facade.LawLemmas.{calls_go_on}
use Rattle.sat_solver.proofs.lemmas.facade.Steps.{reaches_more}
use Rattle.certify.specs.run.Unfinished.{StepsPrefix}
use Rattle.certify.specs.run.Ending.{ReturnedWithPrefix}
use Rattle.certify.specs.run.RunSolver.{Solver}

-- PREFIXES

front_of : (from given : Writer) (made : List Step) → PrefixText Varisat from given made → StepsPrefix from given
front_of from given made h = record {
  made = made;
  steps = h.written;
  counting = h.counting;
  cuts = h.cuts;
  accepted = h.accepts;
  bytes = h.front;
  following = h.following;
  whole = h.whole;
  took = record { taken = h.taken; known_bytes = h.known_bytes };
}

-- the writer received the complete text
whole_of : (from given : Writer) (now : List Step) → ReceivedAcceptedSteps Varisat from given [] now → StepsPrefix from given
whole_of from given now h = record {
  made = h.since.steps;
  steps = h.since.took.written;
  counting = h.since.took.counting;
  cuts = h.since.took.cuts;
  accepted = h.accepted;
  bytes = text_in Varisat h.since.took.written;
  following = [];
  whole = sym (append-nil (text_in Varisat h.since.took.written));
  took = record { taken = h.since.took.takes.taken; known_bytes = h.since.took.takes.known_bytes };
}

-- the writer received a prefix of the text of allowed steps
pub carried_front : (from given : Writer) (steps : List Step) (now : Target) → AreAllowedSteps steps → TargetReceives (Open Varisat uncounted (empty_sink from)) steps now → ReturnsWriter now (Some given)
    → (k : StepsPrefix from given) × (k.made ≡ steps)
carried_front from given steps now may h g =
    let q : Some given ≡ Some h.1.writer = subst (λ (z : Target). ReturnsWriter z (Some given)) h.2 g in
    let same : h.1.writer ≡ given = cc in
    let sent = h.3.wrote.sent in (
      record {
        made = steps;
        steps = h.3.written;
        counting = h.0;
        cuts = h.3.cuts;
        accepted = (sessions_are_accepted h.3.written (cuts_are_free steps h.3.written h.0 h.3.cuts may).may).0;
        bytes = sent.fresh;
        following = h.1.waiting;
        whole = sent.flows;
        took = record {
          taken = ap (λ (z : Writer). z.taken) (sym same) ∙ sent.takes.taken;
          known_bytes = subst (λ (z : Writer). Appends from.contents z.contents sent.fresh) same sent.takes.known_bytes;
        };
      },
      refl,
    )

-- a call of the writer failed while it received the text of allowed steps
pub broken_front : (from given : Writer) (steps : List Step) (now : Target) → AreAllowedSteps steps → TargetFails (Open Varisat uncounted (empty_sink from)) steps now → ReturnsWriter now (Some given)
    → (k : StepsPrefix from given) × (k.made ≡ steps)
broken_front from given steps now may h g =
    let q : Some given ≡ Some h.0 = subst (λ (z : Target). ReturnsWriter z (Some given)) h.1 g in
    let same : h.0 ≡ given = cc in
    let b = h.2.breaks in (
      record {
        made = steps;
        steps = h.2.written;
        counting = h.2.counting;
        cuts = h.2.cuts;
        accepted = (sessions_are_accepted h.2.written (cuts_are_free steps h.2.written h.2.counting h.2.cuts may).may).0;
        bytes = b.front;
        following = b.following;
        whole = b.whole;
        took = record {
          taken = ap (λ (z : Writer). z.taken) (sym same) ∙ b.taken;
          known_bytes = subst (λ (z : Writer). Appends from.contents z.contents b.front) same b.known_bytes;
        };
      },
      refl,
    )

-- the writer received the complete text of allowed steps
pub closed_front : (from given : Writer) (steps : List Step) → AreAllowedSteps steps → ReceivedText Varisat from given steps → (k : StepsPrefix from given) × (k.made ≡ steps)
closed_front from given steps may t = (
  record {
    made = steps;
    steps = t.written;
    counting = t.counting;
    cuts = t.cuts;
    accepted = (sessions_are_accepted t.written (cuts_are_free steps t.written t.counting t.cuts may).may).0;
    bytes = text_in Varisat t.written;
    following = [];
    whole = sym (append-nil (text_in Varisat t.written));
    took = record { taken = t.takes.taken; known_bytes = t.takes.known_bytes };
  },
  refl,
)

-- THE RETURNED WRITER

-- the writer is returned without any further call
pub returned_prefix : (s : Solver) (returned : Option Writer) (given : Writer) → returned ≡ Some given → ReturnsAcceptedPrefix returned s → ReturnedWithPrefix s given
returned_prefix s returned given is h = record {
  front = λ opened from open_then none went.
      ∥∥₁_elim (h opened Varisat from given is open_then (ap has_begun none) went) ∥∥₁_prop (λ k. ∣ front_of from given k.steps k.front ∣₁);
}

-- the writer is returned after closing the proof failed
pub front_after : (s new : Solver) (given : Writer) (e : SolverError) → ClosesText (Err e) s new → ReturnedWithPrefix new given → ReturnedWithPrefix s given
front_after s new given e h g = record {
  front = λ opened from open_then none went.
      g.front opened from open_then none (reaches_more opened s new went ((calls_go_on s new).closing_fails e h));
}

-- the writer is returned after the proof was closed
pub front_closed : (s new : Solver) (given : Writer) → TargetReceivesAll s.target (End ∷ []) given → IsCertificate given s new → ReturnedWithPrefix s given
front_closed s new given takes certificate = record {
  front = λ opened from open_then none went.
      let follows = subst (λ (t : Target). TargetReceivesPrefix t went.steps s.target) open_then went.target in
      elim follows [
        | inl k ↦ ∣ whole_of from given new.steps (certificate Varisat from [] refl (record { steps = went.steps; following = went.history ∙ ap (λ (xs : List Step). went.steps ++ xs) none; target = k })) ∣₁
        | inr k ↦ absurd (subst (λ (t : Target). TargetReceivesAll t (End ∷ []) given) k.3.1 takes)
      ];
}
