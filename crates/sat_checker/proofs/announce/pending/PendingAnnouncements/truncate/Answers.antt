use Rattle.sat_checker.proofs.lemmas.listeners.News.{seen_first}
use Rattle.sat_checker.proofs.announce.pending.PendingAnnouncements.truncate.Goals as goal

pub returns : goal.returns
returns c = seen_first c.self.inside.literals c.self.inside.ids c.self.inside.items.items c.truncate.new.self.items c.args.self.now c.args.len c.self.view_is c.truncate.ensures.items
