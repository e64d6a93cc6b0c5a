use Rattle.sat_parts.proofs.lemmas.parts.WordSteps.{extends_refl}
use Rattle.std.proofs.Common.{ℕ, ◌≡◌, ◌≢◌, ◌∙◌, refl, List, set, get_or, arith, ap, get_or-set_other}
use Rattle.sat_parts.specs.clause.Stored.{lit_of}
use Rattle.sat_store.specs.clause.Buffer.{lits_at, swapped}
use Rattle.sat_parts.proofs.lemmas.clause.OrderLemmas.{shuffles_swap}
use Rattle.sat_parts.proofs.lemmas.parts.ShortLemmas.{sound_shuffled}
use Rattle.sat_parts.proofs.lemmas.parts.HeaderFrames.{moved_shuffled}
use Rattle.sat_parts.proofs.parts.clauses.swap_unwatched.Goals as goal

-- a place that isn't exchanged
elsewhere : (ls : List ℕ) (i j k : ℕ) → k ≢ i → k ≢ j → get_or (swapped ls i j) k 0 ≡ get_or ls k 0
elsewhere ls i j k a b = get_or-set_other (set ls i (get_or ls j 0)) j k (get_or ls i 0) 0 b ∙ get_or-set_other ls i k (get_or ls j 0) 0 a

pub returns : goal.returns
returns c =
    let p = c.args.parts.now in
    let n = c.swap_lits.new.self in
    let e = c.swap_lits.ensures in
    let o = c.args.cref in
    let ls = lits_at p.clauses c.args.cref in
    let at : (k : ℕ) → k ≢ c.args.i → k ≢ c.args.j → lit_of c.swap_lits.new.self c.args.cref k ≡ lit_of c.args.parts.now.clauses c.args.cref k = λ k a b. ap (λ (ms : List ℕ). get_or ms k 0) e.lits ∙ elsewhere ls c.args.i c.args.j k a b in
    record {
      holds = sound_shuffled p.clauses n p.db p.watchlists p.binary p.assignment p.graph p.trail p.vsids c.args.cref c.requires.holds c.requires.live
          (shuffles_swap p.clauses n c.args.cref c.args.i c.args.j c.requires.first_within c.requires.second_within e.header e.lits e.others)
          (at 0 (λ q. omega (arith, c.requires.first_unwatched)) (λ q. omega (arith, c.requires.second_unwatched)))
          (at 1 (λ q. omega (arith, c.requires.first_unwatched)) (λ q. omega (arith, c.requires.second_unwatched)));
      swapped = record {
        lits = e.lits;
        moved = moved_shuffled p n c.args.cref c.requires.holds c.requires.live (shuffles_swap p.clauses n c.args.cref c.args.i c.args.j c.requires.first_within c.requires.second_within e.header e.lits e.others);
        same = ((refl, refl, refl), refl, refl);
      };
      db = refl;
      word = extends_refl p;
    }
