use Rattle.sat_checker.proofs.lemmas.announcements.Listing.{all_left}
use Rattle.sat_checker.proofs.rup.needed.Needed.has_unit.Goals as goal

pub loop-lit-init : goal.loop-lit-init
loop-lit-init c = λ m t u. all_left c.args.self.now.marked.literals c.literals-lit-items.result.now m c.literals-lit-items.ensures.lent t
