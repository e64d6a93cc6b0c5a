-- The line at which a run ended.
use Rattle.std.proofs.Common.{◌≡◌, ℕ, Option, Result, Ok, Err, IfOk, sym, subst}
use Rattle.sat_base.specs.device.Device.{Reader, Writer}
use Rattle.sat_base.specs.device.Reading.{Source}
use Rattle.certify.specs.declared.fault.RunFault.{RunFault}
use Rattle.certify.specs.declared.run.session.RunState.{RunState}
use Rattle.certify.specs.declared.script.reader.ScriptReader.{ScriptReader}
use Rattle.certify.specs.declared.summary.Summary.{Summary}
use Rattle.certify.specs.run.Ending.{EndsRun}
use Rattle.certify.specs.script.LastChunk.{AccountsForBytes, AccountsForValidBytes, EndsAtLine, KeepsAccount}

-- a run that was finished ended at the line of the last byte that was consumed
pub line_if : {C : Type 0} (served : Result (Option ℕ) RunFault) (r : Result Summary RunFault) (s : RunState C) (given before after : Writer) → EndsRun served r s given before after
    → (a b : Source) (old new : ScriptReader) (start : Reader) (line : ℕ) → IfOk r (λ k. k.line ≡ line) → KeepsAccount (λ at. AccountsForBytes) served a b old new → (AccountsForBytes start b new → EndsAtLine start b.reader line)
    → AccountsForValidBytes start a old → IfOk r (λ k. EndsAtLine start b.reader k.line)
line_if served (Err e) s given before after ends a b old new start line is keeps so h = tt
line_if (Ok at) (Ok k) s given before after ends a b old new start line is keeps so h = subst (EndsAtLine start b.reader) (sym is) (so (keeps start h))
line_if (Err e) (Ok k) s given before after ends a b old new start line is keeps so h = absurd (let z : ◌≡◌ {A = Result Summary RunFault} (Ok k) (Err e) = ends.0 in cc)
