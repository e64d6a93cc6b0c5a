use Rattle.std.proofs.Common.{arith}
use Rattle.std.proofs.lemmas.Grind.{common_steps}
use Rattle.std.proofs.Common.{Result, Ok, Err, IfOk}
use Rattle.certify.proofs.lemmas.laws.Headlines.{certified_headline}
use Rattle.certify.proofs.headline.headline_over.Goals as goal

-- what is so of a value is so of one that is answered
ok_as : {A E : Type 0} (r : Result A E) (P Q : A → Type 0) → ((a : A) → P a → Q a) → IfOk r P → IfOk r Q
ok_as (Ok a) P Q f h = f a h
ok_as (Err e) P Q f h = tt

pub returns : goal.returns
returns c = grind (arith, common_steps, certified_headline, ok_as)
