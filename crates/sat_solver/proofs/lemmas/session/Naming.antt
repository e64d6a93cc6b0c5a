-- Live clauses with their literals in another order.
use Rattle.std.proofs.Common.{ℕ, ◌+◌, ◌<◌, ◌≡◌, false, true, List, sym, ◌∙◌, subst}
use Rattle.sat_checker.specs.LiteralSets.{is_among, canonical}
use Rattle.sat_checker.specs.SortedSets.{NoRepeats}
use Rattle.sat_checker.proofs.lemmas.sets.Canonical.{canonical_among, canonical_increasing, same_increasing}
use Rattle.sat_solver.specs.session.Session.{Session, IsLive}

-- a live clause stays live when its literals are reordered
pub live_same : (s : Session) (c d : List ℕ) → IsLive s c → NoRepeats d → ((l : ℕ) → is_among c l ≡ is_among d l) → IsLive s d
live_same s c d h n same =
    let e : canonical c ≡ canonical d = same_increasing (canonical c) (canonical d) (canonical_increasing c) (canonical_increasing d) (λ l. canonical_among c l ∙ same l ∙ sym (canonical_among d l)) in
    record { once = n; counted = subst (λ set. 0 < s.live false set + s.live true set) e h.counted }
