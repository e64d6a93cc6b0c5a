-- A part of a live clause replaces it.
use Rattle.std.proofs.Common.{ℕ, ◌-◌, ◌/◌, ◌^◌, ◌<◌, ◌≡◌, true, false, eqb, List, [], ◌∷◌, map, length, get_or, sym, ◌∙◌, ap, subst, arith, ◌⊎◌, inl, inr, Some}
use Rattle.std.proofs.lemmas.Bool.{or_right}
use Rattle.std.specs.List.{Contains}
use Rattle.sat_base.specs.values.Literals.{variable, negated}
use Rattle.sat_base.specs.values.Hashes.{hash_of}
use Rattle.sat_base.specs.steps.Steps.{AtClause}
use Rattle.sat_store.specs.clause.Buffer.{lits_at}
use Rattle.sat_checker.specs.LiteralSets.{is_among, is_subset_of, canonical}
use Rattle.sat_checker.proofs.lemmas.sets.Canonical.{same_tautology}
use Rattle.sat_checker.proofs.lemmas.sets.Subsets.{all_true}
use Rattle.sat_parts.specs.clause.Orders.{AreDistinct, IsReordering}
use Rattle.sat_parts.specs.clause.Stored.{AreLongClauses}
use Rattle.sat_parts.specs.prop.State.{PropagationState, StateIsConsistent}
use Rattle.sat_solver.specs.session.Session.{Session, after, CanDerive, CanDeleteSimplified}
use Rattle.sat_solver.specs.session.LiveClauses.{with_var, AreMapped}
use Rattle.sat_solver.proofs.lemmas.session.Lists.{solver_hash}
use Rattle.sat_solver.proofs.lemmas.session.Naming.{live_same}
use Rattle.sat_solver.proofs.lemmas.session.Mapped.{among_mapped, not_among, once_mapped}
use Rattle.sat_solver.proofs.lemmas.session.StepsOfClauses.{length_sorted, length_mapped}
use Rattle.sat_solver.specs.session.TrailUnits.{IsUsable}
use Rattle.sat_parts.specs.parts.Frame.{IsUnitLit}
use Rattle.sat_solver.specs.session.Matching.{SessionMatches}
use Rattle.sat_solver.specs.session.Listed.{HasNoTautology}
use Rattle.sat_solver.proofs.lemmas.fits.UsableLemmas.{long_usable, long_named, once_distinct, among_place}
use Rattle.sat_solver.proofs.lemmas.fits.FitLemmas.{among_at, mapped_at}
use Rattle.sat_solver.proofs.lemmas.fits.SetLemmas.{same_shuffled, same_mapped, set_shuffled, part_mapped}
use Rattle.sat_solver.proofs.lemmas.fits.PlainLemmas.{part_plain}
use Rattle.sat_solver.proofs.lemmas.fits.ListedLemmas.{MayCome}
use Rattle.sat_solver.proofs.lemmas.fits.ShortenedLemmas.{may_shorten, may_replace, live_plain}

-- a part of a live clause replaces it: the step derives `part`, the parts store `d`, and literal w was dropped
module _ (words live : List ℕ) (implied : List (List ℕ)) (st : PropagationState) (s : Session) (global : ℕ → ℕ) (agrees : StateIsConsistent st) (fits : SessionMatches words live implied st s global) (clauses : AreLongClauses words live (length st.values)) (plain : HasNoTautology s) (o : ℕ) (there : Contains live o) where
  abbrev c : List ℕ
  c = lits_at words o

  usable : IsUsable s global c
  usable = long_usable words live implied s global fits.clauses fits.paired o there

  named_in : (l : ℕ) → is_among c l ≡ true → s.solver_names (global (variable l)) ≡ Some (variable l)
  named_in l t =
      let p = among_place c l t in
      subst (λ z. s.solver_names (global (variable z)) ≡ Some (variable z)) p.1.1 (mapped_at global s.solver_names c p.0 (long_named words live implied s global fits.clauses fits.paired o there) p.1.0)

  all_named : (ls : List ℕ) → ((l : ℕ) → is_among ls l ≡ true → is_among c l ≡ true) → AreMapped global s.solver_names ls
  all_named [] h = tt
  all_named (l ∷ ls) h = (named_in l (h l (among_at (l ∷ ls) 0 (omega arith))), all_named ls (λ m t. h m (or_right (eqb l m) (is_among ls m) t)))

  -- the clause is usable with its literals in any order
  usable_as : (hs : List ℕ) → IsReordering hs c → AreDistinct hs → IsUsable s global hs
  usable_as hs order differ =
      let same : (l : ℕ) → is_among hs l ≡ is_among c l = same_shuffled hs c order in
      let names : AreMapped global s.solver_names hs = all_named hs (λ l t. sym (same l) ∙ t) in
      record {
        live = live_same s (map (with_var global) c) (map (with_var global) hs) usable.live (once_mapped global s.solver_names hs names (once_distinct hs differ)) (same_mapped (with_var global) c hs (λ l. sym (same l)));
        hash = sym (ap (λ ms. hash_of ms / 2 ^ (64 - s.width)) (solver_hash global s.solver_names hs names));
      }

  module _ (part d : List ℕ) (order : IsReordering part d) (differ : AreDistinct d) (two : 1 < length d) (within : (l : ℕ) → is_among d l ≡ true → is_among c l ≡ true) where
    abbrev ks : List ℕ
    ks = map (with_var global) part

    names_d : AreMapped global s.solver_names d
    names_d = all_named d (λ l t. within l t)

    part_of : (ls : List ℕ) → IsReordering ls c → is_subset_of ks (map (with_var global) ls) ≡ true
    part_of ls shuffled = part_mapped (with_var global) part ls (all_true (is_among ls) part (λ l t. same_shuffled ls c shuffled l ∙ within l (sym (same_shuffled part d order l) ∙ t)))

    pub come_shorter : MayCome s.solver_names global part d
    come_shorter = record {
      order = order;
      mapped = names_d;
      once = once_distinct d differ;
      long = two;
      plain = part_plain (map (with_var global) d) (map (with_var global) c) (part_mapped (with_var global) d c (all_true (is_among c) d within)) (live_plain s (map (with_var global) c) plain usable.live);
    }

    -- the part may be derived by the hash of the clause, with its literals in any order
    pub derive_shorter : (hs : List ℕ) (hash : ℕ) → IsReordering hs c → AreDistinct hs → hash ≡ hash_of hs → ((k : ℕ) → k < length c → (is_among d (get_or c k 0) ≡ true) ⊎ IsUnitLit st (negated (get_or c k 0))) → CanDerive s (map (with_var global) part) (hash ∷ [])
    derive_shorter hs hash shuffled distinct e each = may_shorten s global hs part hash fits.width (usable_as hs shuffled distinct) e (λ k lt.
        let j = shuffled.forth k lt in
        subst (λ m. (is_among part m ≡ true) ⊎ (s.units (with_var global (negated m)) ≡ true)) j.1.1 (elim (each j.0 (omega (arith, j.1.0, shuffled.size))) [
          | inl t ↦ inl (same_shuffled part d order (get_or c j.0 0) ∙ t)
          | inr u ↦ inr (fits.known (negated (get_or c j.0 0)) u)
        ]))

    pub replace_shorter : (ls : List ℕ) (w : ℕ) (hashes : List ℕ) → IsReordering ls c → is_among c w ≡ true → is_among d w ≡ false → CanDeleteSimplified (after (AtClause false (map (with_var global) part) hashes) s) (map (with_var global) ls)
    replace_shorter ls w hashes shuffled has missing =
        let size : 1 < length (canonical (map (with_var global) part)) = (
        let e : canonical (map (with_var global) part) ≡ canonical (map (with_var global) d) = set_shuffled (with_var global) part d order in
        let f : length (canonical (map (with_var global) d)) ≡ length (map (with_var global) d) = length_sorted (map (with_var global) d) (once_mapped global s.solver_names d names_d (once_distinct d differ)) in
        let g : length (map (with_var global) d) ≡ length d = length_mapped (with_var global) d in
        let h : length (canonical (map (with_var global) part)) ≡ length (canonical (map (with_var global) d)) = ap (λ (xs : List ℕ). length xs) e in
        omega arith
        ) in
        let same : (y : ℕ) → is_among (map (with_var global) part) y ≡ is_among (map (with_var global) d) y = same_mapped (with_var global) part d (same_shuffled part d order) in
        may_replace s ks (map (with_var global) ls) hashes (with_var global w) size
        (same_tautology ks (map (with_var global) d) same ∙ come_shorter.plain)
        (part_of ls shuffled) (among_mapped (with_var global) ls w (same_shuffled ls c shuffled w ∙ has))
        (same (with_var global w) ∙ not_among global s.solver_names w d (named_in w has) names_d missing)
