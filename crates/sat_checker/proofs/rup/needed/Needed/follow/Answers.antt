use Rattle.std.proofs.Common.{rules, ℕ, ◌≡◌, ◌||◌, [], ◌∷◌, ◌++◌, ap, subst, ◌∙◌}
use Rattle.sat_checker.specs.LiteralSets.{is_among}
use Rattle.sat_checker.specs.announcements.Needed.{negations_except}
use Rattle.sat_checker.specs.inner.Reasons.{clause_at}
use Rattle.sat_checker.proofs.lemmas.announcements.Marking.{is_needed}
use Rattle.sat_checker.proofs.rup.needed.Needed.follow.Goals as goal

pub returns-clause-followed : goal.returns-clause-followed
returns-clause-followed c = λ g f.
    is_needed c.args.self.now (record { marked = c.mark_others.new.marked; ids = c.push.new.self }) (clause_at c.args.clauses.now c.args.reason.place) c.args.reason.lit g f (search rules)
    (subst (λ ls. (m : ℕ) → is_among c.mark_others.new.marked.literals m ≡ (is_among (negations_except c.args.reason.lit ls) m || is_among c.args.self.now.marked.literals m)) c.literals.ensures.lent c.in_ok-mark_others.ensures.marked)
    (c.in_ok-push.ensures.items ∙ ap (λ i. c.args.self.now.ids.items ++ i ∷ []) c.id.ensures)
