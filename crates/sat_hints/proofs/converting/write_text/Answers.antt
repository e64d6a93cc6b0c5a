use Rattle.std.proofs.Common.{sym, ◌∙◌}
use Rattle.sat_hints.specs.inner.LineWriting.{outlet}
use Rattle.sat_hints.proofs.lemmas.Finished.{errs_convert, write_converts}
use Rattle.sat_hints.proofs.converting.write_text.Goals as goal

pub returns-in-Err : goal.returns-in-Err
returns-in-Err g c =
    let S = g.W.CountedWrite.seen in
    errs_convert c.in-Err.error _ _ (outlet S c.args.lines.now) (outlet S c.write_lines.new.lines) c.requires.none c.in-Err.ensures

pub returns-then-has_failed : goal.returns-then-has_failed
returns-then-has_failed g c =
    let S = g.W.CountedWrite.seen in
    write_converts _ _ (outlet S c.args.lines.now) (outlet S c.write_lines.new.lines) (outlet S c.write_out.new.self) c.requires.none c.in-Ok.ensures c.write_out.ensures.puts (sym c.has_failed.ensures ∙ c.if-has_failed.true)
