use Rattle.std.proofs.Common.{arith}
use Rattle.std.proofs.lemmas.Grind.{common_steps}
use Rattle.std.proofs.Common.{map, ap, sym, subst, ◌∙◌, is_ok}
use Rattle.sat_checker.specs.inner.Marks.{IsIncreasing}
use Rattle.sat_checker.specs.inner.SlotView.{slot_with}
use Rattle.sat_checker.specs.inner.EntryView.{slot_of}
use Rattle.sat_checker.proofs.lemmas.store.Entries.{entries_over, slots_over, entries_pushed, slots_pushed, on_err}
use Rattle.sat_checker.proofs.store.slots.Slots.push.Goals as goal

pub returns-in_err-lits-clause-err : goal.returns-in_err-lits-clause-err
returns-in_err-lits-clause-err c =
    on_err _ _ (slots_over c.self.inside.buffer.items c.new.new.buffer.items c.self.inside.entries.items c.args.self.now c.new.ensures.kept c.self.invariant c.self.view_is)

pub invariant_of-self-in_err-push : goal.invariant_of-self-in_err-push
invariant_of-self-in_err-push c = grind (arith, common_steps, entries_over, entries_pushed)

pub returns-in_err-push-clause-err : goal.returns-in_err-push-clause-err
returns-in_err-push-clause-err c =
    on_err _ _ (ap (map (slot_of c.new.new.buffer.items)) c.in_err-push.ensures.items ∙ slots_over c.self.inside.buffer.items c.new.new.buffer.items c.self.inside.entries.items c.args.self.now c.new.ensures.kept c.self.invariant c.self.view_is)

pub invariant_of-self-2 : goal.invariant_of-self-2
invariant_of-self-2 c =
    entries_pushed c.new.new.buffer.items c.self.inside.entries.items c.push.new.self.items _ (is_ok c.push.result)
    (entries_over c.self.inside.buffer.items c.new.new.buffer.items c.self.inside.entries.items c.new.ensures.kept c.self.invariant)
    (record { within = c.in_ok-lits.ensures.within; increasing = subst IsIncreasing (sym c.in_ok-lits.ensures.literals) c.requires })
    c.push.ensures.items

pub returns-clause-ok : goal.returns-clause-ok
returns-clause-ok c =
    ap (map (slot_of c.new.new.buffer.items)) c.in_ok-push.ensures.items
    ∙ slots_pushed c.new.new.buffer.items c.self.inside.entries.items c.args.self.now _ (slot_with c.args.id c.args.irredundant c.args.redundant c.args.hash.hash c.args.literals.now)
    (slots_over c.self.inside.buffer.items c.new.new.buffer.items c.self.inside.entries.items c.args.self.now c.new.ensures.kept c.self.invariant c.self.view_is)
    (ap (slot_with c.args.id c.args.irredundant c.args.redundant c.args.hash.hash) c.in_ok-lits.ensures.literals)
