use Rattle.std.proofs.Common.{ℕ, List, [], ◌∷◌, refl, ap, ◌∙◌, sym, subst, arith}
use Rattle.std.specs.List.{Contains}
use Rattle.sat_store.specs.clause.Buffer.{HoldsClauses, lits_at}
use Rattle.sat_store.proofs.lemmas.clause.HeldClauses.{holds_none, kept_below}
use Rattle.sat_store_tests.proofs.clauses.store_two.Goals as goal

pub returns : goal.returns
returns c =
    let one = c.in_ok-a.ensures.added.holds_clauses [] (holds_none c.args.buffer.now) in
    let two = c.in_ok-b.ensures.added.holds_clauses (c.in_ok-a.a ∷ []) one in
    let has : Contains (c.in_ok-a.a ∷ []) c.in_ok-a.a = (0, omega arith, refl) in
    record {
      holds_clauses = two;
      differ = λ e. c.in_ok-b.ensures.added.fresh (c.in_ok-a.a ∷ []) one (subst (Contains (c.in_ok-a.a ∷ [])) e has);
      first_lits = (kept_below _ _ (c.in_ok-a.a ∷ []) _ c.in_ok-a.a _ _ one has c.in_ok-b.ensures.added).lits ∙ c.in_ok-a.ensures.added.lits_there;
      second_lits = c.in_ok-b.ensures.added.lits_there;
    }
