use Rattle.std.proofs.lemmas.Result.{on_ok_weaker}
use Rattle.sat_parts.specs.prop.Ready.{state_of}
use Rattle.sat_parts.proofs.lemmas.prop.StepLemmas.{asks_raised}
use Rattle.sat_parts.proofs.prop.trail.Trail.new_decision_level.Goals as goal

pub returns-clause-preserves : goal.returns-clause-preserves
returns-clause-preserves c =
    on_ok_weaker c.push_level.result
    (λ e. λ a words refs w implied nodes empty h. rw e (asks_raised words refs w implied (state_of a nodes c.args.self.now) c.requires empty h))
    c.push_level.ensures.done
