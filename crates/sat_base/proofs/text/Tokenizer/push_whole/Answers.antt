use Rattle.std.proofs.lemmas.Grind.{common_steps}
use Rattle.std.proofs.Common.{true, ◌≡◌, ◌<◌, arith}
use Rattle.sat_base.proofs.lemmas.text.WholeNumbers.{whole_at_space, whole_at_LF}
use Rattle.sat_base.proofs.lemmas.text.RightWords.{right_ahead, right_after}
use Rattle.sat_base.proofs.text.Tokenizer.push_whole.Goals as goal

pub returns-then-ended-eq32-clause-takes : goal.returns-then-ended-eq32-clause-takes
returns-then-ended-eq32-clause-takes c = grind (arith, common_steps, whole_at_space)

pub returns-then-ended-eq32-clause-right : goal.returns-then-ended-eq32-clause-right
returns-then-ended-eq32-clause-right c some = right_after _ tt

pub returns-then-ended-eq10-clause-takes : goal.returns-then-ended-eq10-clause-takes
returns-then-ended-eq10-clause-takes c =
    let r = c.in_ok-negative in
    let z : r.negative ≡ true → 0 < r.value = λ n. grind arith in
    whole_at_LF c.args.self.now c.args.bytes.now r.count r.negative r.value c.saturating_add-self.result (grind arith) (grind arith) z c.saturating_add-self.ensures (r.ensures.moves c.args.self.now.place (c.begins_word.ensures (cc)))

pub returns-then-ended-eq10-clause-right : goal.returns-then-ended-eq10-clause-right
returns-then-ended-eq10-clause-right c some = right_ahead _ (λ e. cc) (λ e. cc)
