use Rattle.std.proofs.Common.{Err, refl, sym, subst, ◌∙◌}
use Rattle.sat_base.specs.declared.dimacs.parser.Parser.{Parser}
use Rattle.sat_base.specs.declared.dimacs.clauses.Refusal.TheVariants as refusal
use Rattle.sat_base.specs.dimacs.Collecting.{CollectsToken, token_of}
use Rattle.sat_base.specs.dimacs.Dimacs.{Malformed, Limit}
use Rattle.sat_base.specs.dimacs.Parsing.{FinishEffect}
use Rattle.sat_base.specs.dimacs.ParserPlaces.{ParserInvariant, progress_of}
use Rattle.sat_base.proofs.lemmas.dimacs.Feeding.{at_end_of, read_none, read_some, finish_parser, finish_answer, FaultAtEnd, finish_fails, finish_inside, finish_short}
use Rattle.sat_base.proofs.dimacs.parser.Parser.finish.Goals as goal

pub returns-in_default-clause-parser : goal.returns-in_default-clause-parser
returns-in_default-clause-parser c =
    let old = c.args.self.now in
    let g = c.requires.goes c.if-self.false in
    subst ParserInvariant (sym c.end.ensures.parser) (finish_parser old old g (read_none old c.requires g (c.in_default.ensures g.left_of g.valid)))

pub returns-in_default-clause-answer : goal.returns-in_default-clause-answer
returns-in_default-clause-answer c =
    let old = c.args.self.now in
    let g = c.requires.goes c.if-self.false in
    subst (λ (p : Parser). FinishEffect c.end.result (progress_of old) (progress_of p)) (sym c.end.ensures.parser)
    (finish_answer c.end.result old old g c.if-self.false (read_none old c.requires g (c.in_default.ensures g.left_of g.valid)) c.end.ensures.answer)

pub returns-in-Ok-clause-parser : goal.returns-in-Ok-clause-parser
returns-in-Ok-clause-parser c =
    let old = c.args.self.now in
    let p : Parser = record old { clauses = c.take.new.self } in
    let g = c.requires.goes c.if-self.false in
    subst ParserInvariant (sym c.end-in-Ok.ensures.parser) (finish_parser old p g (read_some old p c.requires g c.in-Some.token refl refl (c.in-Some.ensures g.left_of g.valid) c.in-Ok.ensures.0 c.in-Ok.ensures.1))

pub returns-in-Ok-clause-answer : goal.returns-in-Ok-clause-answer
returns-in-Ok-clause-answer c =
    let old = c.args.self.now in
    let p : Parser = record old { clauses = c.take.new.self } in
    let g = c.requires.goes c.if-self.false in
    subst (λ (q : Parser). FinishEffect c.end-in-Ok.result (progress_of old) (progress_of q)) (sym c.end-in-Ok.ensures.parser)
    (finish_answer c.end-in-Ok.result old p g c.if-self.false (read_some old p c.requires g c.in-Some.token refl refl (c.in-Some.ensures g.left_of g.valid) c.in-Ok.ensures.0 c.in-Ok.ensures.1) c.end-in-Ok.ensures.answer)

at_malformed : (c : goal.After-line-in-Err-Malformed) → FaultAtEnd Malformed c.line-in-Err-Malformed.result c.args.self.now (at_end_of (record c.args.self.now { clauses = c.take.new.self }))
at_malformed c =
    let e : CollectsToken (Err refusal.Malformed) c.args.self.now.clauses (token_of c.in-Some.token) c.take.new.self = rw c.in-Err-Malformed.field-0-is at c.in-Err-Malformed.ensures in
    finish_fails c.args.self.now (record c.args.self.now { clauses = c.take.new.self }) c.requires c.if-self.false c.in-Some.token Malformed c.line-in-Err-Malformed.result refl c.in-Some.ensures e.0 e.1 c.line-in-Err-Malformed.ensures

pub returns-in-Err-Malformed-clause-parser : goal.returns-in-Err-Malformed-clause-parser
returns-in-Err-Malformed-clause-parser c = (at_malformed c).parser

pub returns-in-Err-Malformed-clause-answer : goal.returns-in-Err-Malformed-clause-answer
returns-in-Err-Malformed-clause-answer c = (at_malformed c).answer

at_limit : (c : goal.After-line-in-Err-Limit) → FaultAtEnd Limit c.line-in-Err-Limit.result c.args.self.now (at_end_of (record c.args.self.now { clauses = c.take.new.self }))
at_limit c =
    let e : CollectsToken (Err refusal.Limit) c.args.self.now.clauses (token_of c.in-Some.token) c.take.new.self = rw c.in-Err-Limit.field-0-is at c.in-Err-Limit.ensures in
    finish_fails c.args.self.now (record c.args.self.now { clauses = c.take.new.self }) c.requires c.if-self.false c.in-Some.token Limit c.line-in-Err-Limit.result refl c.in-Some.ensures e.0 e.1 c.line-in-Err-Limit.ensures

pub returns-in-Err-Limit-clause-parser : goal.returns-in-Err-Limit-clause-parser
returns-in-Err-Limit-clause-parser c = (at_limit c).parser

pub returns-in-Err-Limit-clause-answer : goal.returns-in-Err-Limit-clause-answer
returns-in-Err-Limit-clause-answer c = (at_limit c).answer

pub returns-then-is_literal-clause-parser : goal.returns-then-is_literal-clause-parser
returns-then-is_literal-clause-parser c =
    (finish_inside c.args.self.now c.requires c.if-self.false c.in-Some.token c.line.result c.in-Some.ensures (sym c.is_literal.ensures ∙ c.if-is_literal.true) c.line.ensures).parser

pub returns-then-is_literal-clause-answer : goal.returns-then-is_literal-clause-answer
returns-then-is_literal-clause-answer c =
    (finish_inside c.args.self.now c.requires c.if-self.false c.in-Some.token c.line.result c.in-Some.ensures (sym c.is_literal.ensures ∙ c.if-is_literal.true) c.line.ensures).answer

pub returns-in-Err-OutOfMemory-clause-answer : goal.returns-in-Err-OutOfMemory-clause-answer
returns-in-Err-OutOfMemory-clause-answer c =
    let e : CollectsToken (Err refusal.OutOfMemory) c.args.self.now.clauses (token_of c.in-Some.token) c.take.new.self = rw c.in-Err-OutOfMemory.field-0-is at c.in-Err-OutOfMemory.ensures in
    (c.if-self.false, refl, finish_short c.args.self.now c.requires c.if-self.false c.in-Some.token c.in-Some.ensures (sym c.is_literal.ensures ∙ c.if-is_literal.false) e.1)
