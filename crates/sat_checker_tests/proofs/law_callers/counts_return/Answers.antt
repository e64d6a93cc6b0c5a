use Rattle.std.proofs.Common.{ℕ, ◌≡◌, ◌&&◌, Bool, true, false, [], ◌∷◌, refl, sym, ◌∙◌, ap, arith}
use Rattle.sat_base.specs.steps.Steps.{AtClause, DeleteClause, Redundant}
use Rattle.sat_checker.specs.Contents.{Contents, same_flag, plus_one_if, minus_one_if, contents_of}
use Rattle.sat_checker.specs.LiteralSets.{same_literals}
use Rattle.sat_checker_tests.proofs.law_callers.counts_return.Goals as goal

less_more : (b : Bool) (n : ℕ) → minus_one_if b (plus_one_if b n) ≡ n
less_more true n = omega arith
less_more false n = refl

pub returns : goal.returns
returns c = λ earlier hashes side set.
    let all = c.contents_follow_steps.ensures.steps in
    ap (λ (x : Contents). x.state.counts side set) (all (DeleteClause (0 ∷ 2 ∷ []) Redundant ∷ AtClause true (0 ∷ 2 ∷ []) hashes ∷ earlier))
    ∙ less_more (same_flag true side && same_literals (0 ∷ 2 ∷ []) set) ((contents_of earlier).state.counts side set) ∙ sym (ap (λ (x : Contents). x.state.counts side set) (all earlier))
