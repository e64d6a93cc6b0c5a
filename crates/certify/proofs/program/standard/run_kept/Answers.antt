use Rattle.certify.specs.program.Copies.{refusal_count}
use Rattle.certify.specs.program.Printing.{IsWritten}
use Rattle.certify.proofs.lemmas.program.Copying.{keeps_stop, keeps_to_failure, run_keeps}
use Rattle.certify.proofs.program.standard.run_kept.Goals as goal

pub returns-else-script-clause-gave : goal.returns-else-script-clause-gave
returns-else-script-clause-gave g c =
    let old = c.args.script.now in
    let new = c.run_in_memory.new.script in
    run_keeps (g.R.CountedRead.seen old.reader) (g.R.CountedRead.seen new.reader) new.kept.items (refusal_count old.refusals) (refusal_count new.refusals) old.is_refused new.is_refused old.kept.items
    (λ text. IsWritten text c.in-Ok.written) new.copies c.requires.nothing c.requires.enough c.if-script.false old.none new.none c.in-Ok.ensures.wrote c.in-Ok.ensures.kept

pub returns-then-script-clause-reads : goal.returns-then-script-clause-reads
returns-then-script-clause-reads g c =
    let old = c.args.script.now in
    let new = c.run_in_memory.new.script in
    keeps_to_failure (g.R.CountedRead.seen old.reader) (g.R.CountedRead.seen new.reader) old.kept.items new.kept.items (refusal_count old.refusals) (refusal_count new.refusals) (old.none c.requires.enough) c.run_in_memory.ensures.reads

pub returns-then-script-clause-stops : goal.returns-then-script-clause-stops
returns-then-script-clause-stops g c =
    let old = c.args.script.now in
    let new = c.run_in_memory.new.script in
    keeps_stop (g.R.CountedRead.seen old.reader) (g.R.CountedRead.seen new.reader) old.kept.items new.kept.items (refusal_count old.refusals) (refusal_count new.refusals) (old.none c.requires.enough) c.run_in_memory.ensures.stops

pub returns-else-script-clause-reads : goal.returns-else-script-clause-reads
returns-else-script-clause-reads g c =
    let old = c.args.script.now in
    let new = c.run_in_memory.new.script in
    keeps_to_failure (g.R.CountedRead.seen old.reader) (g.R.CountedRead.seen new.reader) old.kept.items new.kept.items (refusal_count old.refusals) (refusal_count new.refusals) (old.none c.requires.enough) c.run_in_memory.ensures.reads

pub returns-else-script-clause-stops : goal.returns-else-script-clause-stops
returns-else-script-clause-stops g c =
    let old = c.args.script.now in
    let new = c.run_in_memory.new.script in
    keeps_stop (g.R.CountedRead.seen old.reader) (g.R.CountedRead.seen new.reader) old.kept.items new.kept.items (refusal_count old.refusals) (refusal_count new.refusals) (old.none c.requires.enough) c.run_in_memory.ensures.stops

pub returns-in-Err-clause-reads : goal.returns-in-Err-clause-reads
returns-in-Err-clause-reads g c =
    let old = c.args.script.now in
    let new = c.run_in_memory.new.script in
    keeps_to_failure (g.R.CountedRead.seen old.reader) (g.R.CountedRead.seen new.reader) old.kept.items new.kept.items (refusal_count old.refusals) (refusal_count new.refusals) (old.none c.requires.enough) c.run_in_memory.ensures.reads

pub returns-in-Err-clause-stops : goal.returns-in-Err-clause-stops
returns-in-Err-clause-stops g c =
    let old = c.args.script.now in
    let new = c.run_in_memory.new.script in
    keeps_stop (g.R.CountedRead.seen old.reader) (g.R.CountedRead.seen new.reader) old.kept.items new.kept.items (refusal_count old.refusals) (refusal_count new.refusals) (old.none c.requires.enough) c.run_in_memory.ensures.stops
