use Rattle.std.proofs.Common.{arith}
use Rattle.std.proofs.lemmas.Grind.{common_steps}
use Rattle.std.proofs.Common.{◌<◌, length, ◌∙◌}
use Rattle.std.proofs.lemmas.Result.{err_from_is_err_and}
use Rattle.certify.specs.declared.script.ScriptEnd.TheVariants as ends
use Rattle.certify.specs.script.LastPiece.{waiting_bytes}
use Rattle.certify.proofs.lemmas.confirm.Compared.{some_list}
use Rattle.certify.proofs.lemmas.script.LastChunks.{keeps_command, keeps_malformed, keeps_more}
use Rattle.certify.proofs.lemmas.script.Streaming.{brings_none, brings_malformed, some_bytes}
use Rattle.certify.proofs.lemmas.script.Tokens.{end_malformed}
use Rattle.certify.proofs.script.stream.CommandStream.advance.Given.{Over}
use Rattle.certify.proofs.script.stream.CommandStream.advance.Goals as goal
use Rattle.certify.proofs.script.stream.CommandStream.advance.Goals.{After-take}

some : (g : Over) (c : After-take g) → 0 < length (waiting_bytes c.args.self.now.ahead)
some g c = some_bytes (waiting_bytes c.args.self.now.ahead) (λ e. some_list c.waiting.result.now c.is_empty.result c.is_empty.ensures c.if-is_empty.false (c.waiting.ensures ∙ e))

pub returns-in_err-take-clause-brings : goal.returns-in_err-take-clause-brings
returns-in_err-take-clause-brings g c = grind (arith, common_steps, err_from_is_err_and, brings_none)

pub returns-in-Malformed-clause-brings : goal.returns-in-Malformed-clause-brings
returns-in-Malformed-clause-brings g c =
    brings_malformed g.S.CountedRead.seen c.args.script.now c.args.self.now c.take.new.self (some g (goal.at.returns-in-Malformed-clause-brings g c).After-take)
    ends.Malformed end_malformed c.requires (rw c.in-Malformed.is at c.in_ok-take.ensures)

pub returns-in-More-clause-stops : goal.returns-in-More-clause-stops
returns-in-More-clause-stops g c = λ start h. keeps_more g.S.CountedRead.seen c.args.script.now c.args.self.now c.take.new.self start h (rw c.in-More.is at c.in_ok-take.ensures)

pub returns-in-Command-clause-stops : goal.returns-in-Command-clause-stops
returns-in-Command-clause-stops g c = λ start h. keeps_command g.S.CountedRead.seen c.args.script.now c.args.self.now c.take.new.self start h (rw c.in-Command.is at c.in_ok-take.ensures)

pub returns-in-Malformed-clause-stops : goal.returns-in-Malformed-clause-stops
returns-in-Malformed-clause-stops g c = λ start h. keeps_malformed g.S.CountedRead.seen c.args.script.now c.args.self.now c.take.new.self start h (rw c.in-Malformed.is at c.in_ok-take.ensures)
