use Rattle.std.proofs.lemmas.Grind.{common_steps}
use Rattle.std.proofs.Common.{◌≡◌, ◌<◌, ◌-◌, ℕ, List, Bool, false, length, set, ap, ◌∙◌, sym, subst, arith}
use Rattle.std.proofs.lemmas.List.{get_or_read}
use Rattle.sat_store.specs.declared.vsids.heap.Entry.{Entry}
use Rattle.sat_store.specs.heap.Heap.{no_entry, var_at, available_by_var, activities_by_var}
use Rattle.sat_store.specs.heap.Vsids.{Queue, IsNextToPick, with_available}
use Rattle.sat_store.proofs.lemmas.heap.QueueLemmas.{none_flagged, front_first, front_fewer}
use Rattle.sat_store.proofs.vsids.VsidsIterator.next.Goals as goal

pub returns-then-self-eq0-clause-steps : goal.returns-then-self-eq0-clause-steps
returns-then-self-eq0-clause-steps c = grind (arith, common_steps, none_flagged)

pub returns-clause-steps : goal.returns-clause-steps
returns-clause-steps c =
    let h = c.self.inside.heap.items in
    let p = c.self.inside.positions.items in
    let a = activities_by_var h p in
    let m = c.self.inside.available in
    let b = c.self.inside.bump in
    let d = c.self.inside.decay in
    let heap = c.self.invariant.0 in
    let some : 0 < m = omega (arith, c.if-self-eq0.false) in
    let within : 0 < length h = omega (arith, heap.within) in
    let read = get_or_read h 0 c.index.result.now within c.index.ensures no_entry in
    let first : c.from_index-first.result ≡ var_at h 0 = c.from_index-first.ensures ∙ ap (λ (e : Entry). e.var) read in (
      subst (λ (q : Queue). IsNextToPick q c.from_index-first.result) c.self.view_is (subst (IsNextToPick (record { available = available_by_var m p; activities = a; bump = b; decay = d })) (sym first) (front_first h p m b d heap some)),
      ap (λ (k : List ℕ). record { available = available_by_var (m - 1) c.take_out.new.positions.items; activities = k; bump = b; decay = d }) c.take_out.ensures.keys
          ∙ ap (λ (f : List Bool). record { available = f; activities = a; bump = b; decay = d }) c.take_out.ensures.flags
          ∙ ap (λ (u : ℕ). record { available = set (available_by_var m p) u false; activities = a; bump = b; decay = d }) (sym first)
          ∙ ap (with_available c.from_index-first.result false) c.self.view_is,
    )

pub returns-clause-goes : goal.returns-clause-goes
returns-clause-goes c = grind (arith, common_steps, front_fewer)
