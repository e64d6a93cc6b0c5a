use Rattle.std.proofs.Common.{ℕ, ◌+◌, ◌<◌, ◌≡◌, List, [], ◌∷◌, length, take, get_or, reverse, sym, ap, ◌∙◌}
use Rattle.std.proofs.lemmas.List.{get_or_read, take_more, reverse-append}
use Rattle.sat_checker.specs.inner.AssumedRoom.{LiteralsAndRoom}
use Rattle.sat_checker.proofs.lemmas.variables.Keeping.{match_true}
use Rattle.sat_checker.proofs.units.valuation.assume_distinct.Goals as goal

next_reversed : (xs : List ℕ) (i : ℕ) → i < length xs → reverse (take (i + 1) xs) ≡ get_or xs i 0 ∷ reverse (take i xs)
next_reversed xs i l = ap reverse (take_more xs i 0 l) ∙ reverse-append (take i xs) (get_or xs i 0 ∷ [])

pub loop-lit-preserved : goal.loop-lit-preserved
loop-lit-preserved c =
    let xs = c.args.literals.now in
    let i : ℕ = c.loop-lit.lit-index in
    let item = get_or_read xs i c.lit-item.result c.loop-lit-test.true c.lit-item.is 0 in
    let new = match_true _ _ _ c.assume_new.ensures c.if-not-assume_new.false in
    record {
      assumed = ap (λ (t : LiteralsAndRoom). t.literals) new ∙ ap (λ ls. c.lit-item.result ∷ ls) c.loop-lit.invariant.assumed ∙ ap (λ l. l ∷ reverse (take i xs)) item ∙ sym (next_reversed xs i c.loop-lit-test.true);
      room = ap (λ (t : LiteralsAndRoom). t.room) new ∙ c.loop-lit.invariant.room;
    }
