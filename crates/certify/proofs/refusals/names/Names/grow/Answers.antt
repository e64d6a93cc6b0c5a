use Rattle.certify.proofs.lemmas.judge.Taken.{grown, grown_used}
use Rattle.certify.proofs.refusals.names.Names.grow.Goals as goal

pub returns : goal.returns
returns c = record {
  changes = grown c.args.self.now c.args.index c.requires.fresh c.requires.within;
  in_use = grown_used c.args.self.now c.args.index c.requires.fresh;
}
