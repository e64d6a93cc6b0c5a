use Rattle.std.proofs.Common.{sym, subst, arith}
use Rattle.sat_base.specs.script.Script.{Command}
use Rattle.sat_base.specs.script.ScriptState.{state_after_accepted}
use Rattle.certify.specs.script.Commands.{kind_of}
use Rattle.certify.specs.refusals.Names.{NamesHaveState}
use Rattle.certify.proofs.lemmas.judge.Taken.{all_taken, known_taken}
use Rattle.certify.proofs.refusals.names.Names.accept.Goals as goal

pub returns : goal.returns
returns c j d h (ls, f, e) =
    let kind = kind_of c.args.command.kind in
    let codes = c.args.command.literals.now in
    let p = c.loop-lit.invariant j h in
    subst (λ (x : Command). NamesHaveState c.loop-lit.self (state_after_accepted x j)) (sym e) (all_taken c.loop-lit.self kind codes c.args.command.past_limit ls j p.0 c.loop-lit.lit-index c.requires f (omega arith) p.1 p.2)

pub returns-then-are_known : goal.returns-then-are_known
returns-then-are_known c j d h (ls, f, e) =
    let command = c.args.command in
    subst (λ (x : Command). NamesHaveState c.args.self.now (state_after_accepted x j)) (sym e)
    (known_taken c.args.self.now (kind_of command.kind) command.literals.now command.past_limit ls j c.requires f (c.are_known.ensures c.if-are_known.true) h)
