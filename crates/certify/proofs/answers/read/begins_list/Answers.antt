use Rattle.certify.proofs.lemmas.answers.LinesByKind.{starts_no_head}
use Rattle.certify.proofs.answers.read.begins_list.Goals as goal

pub returns-in-None : goal.returns-in-None
returns-in-None c = λ no. starts_no_head c.args.kind c.args.head.now c.args.bytes.now c.requires (c.is_prefix.ensures c.if-is_prefix.false) c.in-None.ensures
