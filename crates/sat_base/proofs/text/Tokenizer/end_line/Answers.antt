use Rattle.std.proofs.Common.{refl, sym, subst}
use Rattle.sat_base.specs.text.Tokenizing.{IsBetweenWords}
use Rattle.sat_base.proofs.lemmas.text.TextRuns.{takes_LF, over_LF, none_fresh, none_over}
use Rattle.sat_base.proofs.lemmas.text.RightWords.{right_ahead, right_after}
use Rattle.sat_base.proofs.text.Tokenizer.end_line.Goals as goal

pub returns-in-Over-clause-takes : goal.returns-in-Over-clause-takes
returns-in-Over-clause-takes c = over_LF c.args.self.now c.in-Over.is

pub returns-in-Over-clause-ended : goal.returns-in-Over-clause-ended
returns-in-Over-clause-ended c = none_over c.args.self.now c.in-Over.is

pub returns : goal.returns
returns c = rw c.allows_header.ensures (record {
  takes = takes_LF c.args.self.now c.token_in-token.result c.saturating_add-self.result c.in_default.not-Over c.token_in-token.ensures c.saturating_add-self.ensures;
  ended = none_fresh _ _ refl;
  right = right_ahead _ (λ e. cc) (λ e. cc);
})

pub returns-in-Over-clause-right : goal.returns-in-Over-clause-right
returns-in-Over-clause-right c = right_after c.args.self.now (subst IsBetweenWords (sym c.in-Over.is) tt)
