use Rattle.std.proofs.Common.{◌≡◌, ap, sym, ◌∙◌}
use Rattle.sat_base.specs.script.Language.{OfClause, OfAsk, OfHide, OfWitness, OfSample}
use Rattle.certify.specs.script.Commands.{kind_of}
use Rattle.certify.proofs.lemmas.judge.Refusals.{says_names}
use Rattle.certify.proofs.refusals.names.Names.refusal.Goals as goal

pub returns-in-Hide-clause-judges : goal.returns-in-Hide-clause-judges
returns-in-Hide-clause-judges c =
    let k : kind_of c.args.command.kind ≡ OfHide = ap kind_of c.in-Hide.is in
    says_names c.args.self.now c.args.command c.limit_refusal.result (λ x. let y : OfHide ≡ OfClause = sym k ∙ x in cc) (λ x. let y : OfHide ≡ OfAsk = sym k ∙ x in cc) c.limit_refusal.ensures

pub returns-in-Witness-clause-judges : goal.returns-in-Witness-clause-judges
returns-in-Witness-clause-judges c =
    let k : kind_of c.args.command.kind ≡ OfWitness = ap kind_of c.in-Witness.is in
    says_names c.args.self.now c.args.command c.limit_refusal-in-Witness.result (λ x. let y : OfWitness ≡ OfClause = sym k ∙ x in cc) (λ x. let y : OfWitness ≡ OfAsk = sym k ∙ x in cc) c.limit_refusal-in-Witness.ensures

pub returns-in-Sample-clause-judges : goal.returns-in-Sample-clause-judges
returns-in-Sample-clause-judges c =
    let k : kind_of c.args.command.kind ≡ OfSample = ap kind_of c.in-Sample.is in
    says_names c.args.self.now c.args.command c.limit_refusal-in-Sample.result (λ x. let y : OfSample ≡ OfClause = sym k ∙ x in cc) (λ x. let y : OfSample ≡ OfAsk = sym k ∙ x in cc) c.limit_refusal-in-Sample.ensures
