use Rattle.std.proofs.lemmas.Grind.{common_steps}
use Rattle.std.proofs.Common.{◌+◌, ◌∙◌, sym, ap, arith}
use Rattle.sat_checker.proofs.lemmas.store.Dropping.{gone_left, gone_removed, gone_fewer}
use Rattle.sat_checker.proofs.lemmas.store.Places.{gone_not}
use Rattle.sat_checker.proofs.lemmas.store.Kept.{kept_left, kept_removed, were_counted}
use Rattle.sat_checker.proofs.store.clauses.Clauses.take_count.Goals as goal

pub subtract-requires : goal.subtract-requires
subtract-requires c =
    were_counted c.self.inside.slots c.args.self.now c.take_count.new.self c.self.inside.index c.self.inside.occurrences c.args.redundant c.args.place c.self.view_is c.requires.inside c.requires.some c.self.invariant.0 c.take_count.ensures
    c.args.literals.now c.requires.literals (sym c.is_removed.ensures ∙ c.if-is_removed.true)

pub invariant_of-self : goal.invariant_of-self
invariant_of-self c =
    let gone = sym c.is_removed.ensures ∙ c.if-is_removed.true in
    let kept =
    kept_removed c.self.inside.slots c.args.self.now c.take_count.new.self c.self.inside.index c.self.inside.occurrences c.args.redundant c.args.place c.self.view_is c.requires.inside c.requires.some c.self.invariant.0 c.take_count.ensures
    c.remove.new.self c.subtract.new.self c.args.literals.now c.remove.ensures c.requires.literals c.subtract.ensures gone in (
      kept,
      ap (λ n. n + 1) c.self.invariant.1
          ∙ sym (gone_removed c.self.inside.slots c.args.self.now c.take_count.new.self c.args.redundant c.args.place c.self.view_is c.requires.inside c.requires.some c.take_count.ensures gone),
    )

pub invariant_of-self-else-is_removed : goal.invariant_of-self-else-is_removed
invariant_of-self-else-is_removed c =
    let there = sym c.is_removed.ensures ∙ c.if-is_removed.false in
    let kept =
    kept_left c.self.inside.slots c.args.self.now c.take_count.new.self c.self.inside.index c.self.inside.occurrences c.args.redundant c.args.place c.self.view_is c.requires.inside c.requires.some c.self.invariant.0 c.take_count.ensures
    there in (
      kept,
      c.self.invariant.1 ∙ sym (gone_left c.self.inside.slots c.args.self.now c.take_count.new.self c.args.redundant c.args.place c.self.view_is c.requires.inside c.requires.some c.take_count.ensures there),
    )

pub overflow_add-self : goal.overflow_add-self
overflow_add-self c = grind (arith, common_steps, gone_fewer, gone_not)
