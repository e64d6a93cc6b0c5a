use Rattle.std.proofs.Common.{◌≤◌, ◌≡◌, [], length, refl, ap, ◌∙◌, arith}
use Rattle.std.specs.List.{All}
use Rattle.sat_checker.specs.inner.LinkView.{no_pair}
use Rattle.sat_checker.specs.declared.store.links.Link.{Link}
use Rattle.sat_checker.proofs.lemmas.pairs.Changing.{kept_none, lists_none}
use Rattle.sat_checker.proofs.store.sorted_pairs.with_places.Goals as goal
use Rattle.sat_checker.proofs.store.sorted_pairs.with_places.Goals.{In_ok-resize}

module _ (c : In_ok-resize) where
  count : length c.resize.new.self.items ≡ c.args.places
  count = omega (arith, c.in_ok-resize.ensures.len, c.resize.new.self.ok.0)

  few : length c.resize.new.self.items ≤ no_pair
  few = omega (arith, count, c.if-places.false)

  empty : All (λ (l : Link). l.next ≡ no_pair) c.resize.new.self.items
  empty k d l = ap (λ (x : Link). x.next) (c.in_ok-resize.ensures.by_index.1 k d refl (omega (arith, c.new-links.ensures.len)) (omega (arith, l, count)))

pub invariant_of-result : goal.invariant_of-result
invariant_of-result c = kept_none c.in_ok-heads.heads.items c.resize.new.self.items c.shift_for-shift.result (few c) c.in_ok-heads.ensures.none (empty c) (λ l. c.in_ok-heads.ensures.some) c.shift_for-shift.ensures.few c.shift_for-shift.ensures.below

pub returns : goal.returns
returns c =
    ap (λ ps. record { pairs = ps; places = length c.resize.new.self.items }) (lists_none c.in_ok-heads.heads.items c.resize.new.self.items c.shift_for-shift.result (few c) c.in_ok-heads.ensures.none (empty c)).is
    ∙ ap (λ n. record { pairs = []; places = n }) (count c)
