use Rattle.std.proofs.Common.{arith}
use Rattle.std.proofs.lemmas.Grind.{common_steps}
use Rattle.std.proofs.Common.{[], ◌∷◌, ◌∙◌, sym, refl}
use Rattle.std.proofs.lemmas.List.{append-nil}
use Rattle.sat_checker.proofs.lemmas.store.Entries.{on_err}
use Rattle.sat_checker.proofs.lemmas.listeners.News.{items_kept, items_pushed, seen_more, seen_pushed}
use Rattle.sat_checker.proofs.announce.pending.PendingAnnouncements.push.Goals as goal

pub returns-in_err-push-2-clause-err : goal.returns-in_err-push-2-clause-err
returns-in_err-push-2-clause-err c =
    on_err _ _ (seen_more c.self.inside.literals c.self.inside.ids c.push.new.self c.push-2.new.self (c.args.literals.now ∷ []) [] c.self.inside.items.items c.self.inside.items.items c.args.self.now c.self.invariant c.self.view_is
    c.in_ok-push.ensures.ok (c.in_err-push-2.ensures.err ∙ sym (append-nil _)) refl)

pub returns-in_err-push-3-clause-err : goal.returns-in_err-push-3-clause-err
returns-in_err-push-3-clause-err c =
    on_err _ _ (seen_more c.self.inside.literals c.self.inside.ids c.push.new.self c.push-2.new.self (c.args.literals.now ∷ []) (c.args.ids.now ∷ []) c.self.inside.items.items c.push-3.new.self.items c.args.self.now c.self.invariant c.self.view_is
    c.in_ok-push.ensures.ok c.in_ok-push-2.ensures.ok c.in_err-push-3.ensures.items)

pub returns-clause-ok : goal.returns-clause-ok
returns-clause-ok c = grind (arith, common_steps, seen_pushed)

pub invariant_of-self : goal.invariant_of-self
invariant_of-self c = items_kept c.self.inside.literals c.self.inside.ids c.push.new.self c.self.inside.ids [] [] c.self.inside.items.items c.self.inside.items.items c.self.invariant (c.in_err-push.ensures.err ∙ sym (append-nil _)) (sym (append-nil _)) refl

pub invariant_of-self-in_err-push-3 : goal.invariant_of-self-in_err-push-3
invariant_of-self-in_err-push-3 c = grind (arith, common_steps, items_kept)

pub invariant_of-self-2 : goal.invariant_of-self-2
invariant_of-self-2 c = grind (arith, common_steps, items_pushed)
