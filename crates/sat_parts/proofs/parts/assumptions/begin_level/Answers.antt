use Rattle.std.proofs.Common.{ℕ, ◌≡◌, ◌+◌, sym, subst, length, inr, Result, Ok, Err}
use Rattle.std.specs.Prelude.{OnOk}
use Rattle.sat_parts.specs.prop.State.{PropagationState}
use Rattle.sat_parts.specs.prop.TrailWord.{decided_on}
use Rattle.sat_parts.specs.parts.Assumed.{AreConsideredUpTo, variables_of_lits}
use Rattle.sat_parts.specs.parts.Frame.{KeepsLevelsTo}
use Rattle.sat_parts.specs.parts.Whole.{state}
use Rattle.sat_parts.proofs.lemmas.parts.AssumeLemmas.{placed_next, among_variables}
use Rattle.sat_parts.proofs.parts.assumptions.begin_level.Goals as goal

two_on_ok : {T E P Q R : Type 0} (r : Result T E) → (P → Q → R) → OnOk r P → OnOk r Q → OnOk r R
two_on_ok (Ok x) f p q = f p q
two_on_ok (Err x) f p q = tt

pub returns-clause-placed : goal.returns-clause-placed
returns-clause-placed c =
    let a = c.args.assumptions.now in
    let s : PropagationState = state c.args.parts.now in
    let s' : PropagationState = state c.assume.new.parts in
    let l = c.args.lit in
    let placed : ((top : ℕ) → KeepsLevelsTo top (state c.args.parts.now) (state c.assume.new.parts)) → state c.assume.new.parts ≡ decided_on c.args.lit (state c.args.parts.now) →
    AreConsideredUpTo c.args.assumptions.now.lits.items c.push.new.self.items (c.args.assumptions.now.place + 1) (state c.assume.new.parts) = λ keeps is.
    subst (λ (z : PropagationState). AreConsideredUpTo a.lits.items c.push.new.self.items (a.place + 1) z) (sym is)
    (rw c.in_ok-push.ensures.items
    (placed_next a.lits.items a.below.items a.place l s c.requires.placed c.requires.next c.requires.is c.requires.holds.below.propagation.agrees c.requires.open c.requires.there
    (subst (λ (z : PropagationState). KeepsLevelsTo (length s.trail.starts) s z) is (keeps (length s.trail.starts))))) in
    two_on_ok c.assume.result placed c.assume.ensures.keeps c.assume.ensures.decided

pub returns-clause-word : goal.returns-clause-word
returns-clause-word c =
    let a = c.args.assumptions.now in
    c.assume.ensures.word (variables_of_lits a.lits.items) (inr (among_variables a.lits.items a.place c.args.lit c.requires.next c.requires.is))
