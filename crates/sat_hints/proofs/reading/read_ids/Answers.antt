use Rattle.sat_hints.specs.Lines.{id_text}
use Rattle.sat_hints.specs.inner.LineReading.{IsId}
use Rattle.std.proofs.Common.{arith, ◌∙◌}
use Rattle.sat_hints.proofs.lemmas.Words.{read_one, id_shortens}
use Rattle.sat_hints.proofs.reading.read_ids.Goals as goal

pub loop-found-preserved : goal.loop-found-preserved
loop-found-preserved c =
    let i = c.loop-found.invariant in
    let k = id_shortens c.loop-found.rest.now c.in-Some.found.0 c.in-Some.found.1.now c.in-Some.ensures in
    record {
      words = read_one id_text IsId c.args.bytes.now c.loop-found.ids.items c.loop-found.rest.now c.in-Some.found.0 c.in-Some.found.1.now c.push_reserved.new.self.items i.words c.in-Some.ensures c.push_reserved.ensures.items;
      capacity = c.push_reserved.ensures.capacity ∙ i.capacity;
      room = omega (arith, k, i.room, c.push_reserved.ensures.len, c.push_reserved.ensures.capacity);
    }

pub push_reserved-requires : goal.push_reserved-requires
push_reserved-requires c = let k = id_shortens c.loop-found.rest.now c.in-Some.found.0 c.in-Some.found.1.now c.in-Some.ensures in omega (arith, k, c.loop-found.invariant.room)
