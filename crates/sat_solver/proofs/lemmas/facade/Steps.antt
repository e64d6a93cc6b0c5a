-- Steps that calls have made, one call after another.
use Rattle.std.proofs.Common.{◌≡◌, ◌∙◌, inl, inr, List, [], ◌++◌, refl, sym, ap, append_assoc}
use Rattle.sat_base.specs.steps.Steps.{Step}
use Rattle.sat_solver.specs.facade.View.{SolverView}
use Rattle.sat_solver.specs.facade.Calls.{MakesSteps, ReachesBySteps}
use Rattle.sat_solver.specs.facade.Recording.{FailsWhileWriting}
use Rattle.sat_solver.proofs.lemmas.session.ProofLemmas.{carries_more, carries_none, stops_later}
use Rattle.sat_solver.proofs.lemmas.session.PrefixLemmas.{follows_more}

module _ {L : Type 0} where
  -- no step was made
  pub makes_none : (a : SolverView L) → MakesSteps a a
  makes_none a = record { steps = []; history = refl; listening = refl; target = carries_none a.target }

  -- the steps after two calls
  following : (a b c : SolverView L) (xs ys : List Step) → b.steps ≡ xs ++ a.steps → c.steps ≡ ys ++ b.steps → c.steps ≡ (ys ++ xs) ++ a.steps
  following a b c xs ys p q = q ∙ ap (λ z. ys ++ z) p ∙ sym (append_assoc ys xs a.steps)

  -- steps, and then later ones
  pub makes_more : (a b c : SolverView L) → MakesSteps a b → MakesSteps b c → MakesSteps a c
  makes_more a b c p q = record {
    steps = q.steps ++ p.steps;
    history = following a b c p.steps q.steps p.history q.history;
    listening = q.listening ∙ p.listening;
    target = carries_more a.target b.target c.target p.steps q.steps p.target q.target;
  }

  -- steps were written, and a call of the target failed at later ones
  pub breaks_later : (a b c : SolverView L) → MakesSteps a b → FailsWhileWriting b c → FailsWhileWriting a c
  breaks_later a b c p q = record {
    steps = q.steps ++ p.steps;
    history = following a b c p.steps q.steps p.history q.history;
    listening = q.listening ∙ p.listening;
    target = stops_later a.target b.target c.target p.steps q.steps p.target q.target;
  }

  -- WHATEVER WAS RECEIVED

  pub reaches_made : (a b : SolverView L) → MakesSteps a b → ReachesBySteps a b
  reaches_made a b h = record { steps = h.steps; history = h.history; target = inl h.target }

  pub reaches_broken : (a b : SolverView L) → FailsWhileWriting a b → ReachesBySteps a b
  reaches_broken a b h = record { steps = h.steps; history = h.history; target = inr ([], h.steps, refl, h.target) }

  pub reaches_more : (a b c : SolverView L) → ReachesBySteps a b → ReachesBySteps b c → ReachesBySteps a c
  reaches_more a b c p q = record {
    steps = q.steps ++ p.steps;
    history = following a b c p.steps q.steps p.history q.history;
    target = follows_more a.target b.target c.target p.steps q.steps p.target q.target;
  }
