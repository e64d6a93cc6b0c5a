use Rattle.std.proofs.Common.{rules, refl}
use Rattle.sat_hints.specs.inner.LineWriting.{outlet}
use Rattle.sat_hints.proofs.lemmas.Putting.{first_byte_waits}
use Rattle.sat_hints.proofs.line_writer.LineWriter.write_out_and_put.Goals as goal

pub returns : goal.returns
returns g c =
    let S = g.W.CountedWrite.seen in
    first_byte_waits (S c.write_out.new.self.writer) c.write_out.new.self.bytes c.write_out.new.self.len c.args.byte (outlet S c.args.self.now) (outlet S c.write_out.new.self) _ c.write_out.ensures.none (search rules) c.write_out.ensures.puts c.if-self.false refl c.if-self.false refl
