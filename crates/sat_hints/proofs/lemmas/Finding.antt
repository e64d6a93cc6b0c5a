-- Looking up the clauses under ids, and propagating through them in turn.
use Rattle.std.proofs.Common.{ℕ, ◌+◌, ◌<◌, ◌≡◌, ◌≢◌, true, false, List, [], ◌∷◌, length, drop, get_or, Option, None, Some, refl, sym, ◌∙◌, ap, subst, ◌⊎◌, inl, inr}
use Rattle.std.proofs.lemmas.List.{drop_more}
use Rattle.sat_checker.specs.LiteralSets.{is_among, is_tautology}
use Rattle.sat_checker.specs.ClauseStates.{becomes_unit, clause_state, clause_state_of}
use Rattle.sat_checker.specs.declared.units.assigned.Look.{Look}
use Rattle.sat_checker.specs.declared.units.assigned.Look.TheVariants as look
use Rattle.sat_checker.specs.inner.AssumedRoom.{AgreeWithinRoom, HasClauseRoom, HasClausesRoom, RoomIsKept}
use Rattle.sat_hints.specs.Hints.{and_clauses}
use Rattle.sat_hints.specs.declared.answer.HintWhy.{HintWhy}
use Rattle.sat_hints.specs.declared.answer.HintWhy.TheVariants.{UnknownId, NotUnit}
use Rattle.sat_hints.specs.declared.active_clauses.ActiveClauses.{ActiveClauses}
use Rattle.sat_hints.specs.inner.Refutation.{unit_failure, refutation_failure}
use Rattle.sat_hints.specs.inner.LineChecking.{refutation_failure_of, WhyNotRefuted}
use Rattle.sat_hints.specs.inner.ActiveClauses.{active_clause, active_clauses, HasRoomForPresent}
use Rattle.sat_hints.proofs.lemmas.Courses.{same_course, is_unit, room_in}

-- `PresentAlike s ids rest` holds if the clauses under all `ids` are present exactly if those under `rest` are.
abbrev pub PresentAlike : ActiveClauses → List ℕ → List ℕ → Type 0
PresentAlike s ids rest = (active_clauses s ids ≡ None → active_clauses s rest ≡ None) × (active_clauses s rest ≡ None → active_clauses s ids ≡ None)

-- a clause is not unit in turn, and further clauses follow it
misses_turn : (assumed c : List ℕ) (o : Option (List ℕ)) (p : Option (List (List ℕ))) → ((f : ℕ → Option HintWhy) → unit_failure (clause_state assumed c) f ≡ Some NotUnit) → and_clauses o p ≢ None → refutation_failure_of assumed (and_clauses (Some c) (and_clauses o p)) ≡ Some NotUnit
misses_turn assumed c None p h n = absurd (n refl)
misses_turn assumed c (Some d) None h n = absurd (n refl)
misses_turn assumed c (Some d) (Some ds) h n = h (λ m. refutation_failure (m ∷ assumed) (d ∷ ds))

-- a clause that is not unit in turn
pub no_turn : (r : Look) (assumed c : List ℕ) → clause_state_of r ≡ clause_state assumed c → (r ≡ look.Falsified) ⊎ (r ≡ look.Rests) → (f : ℕ → Option HintWhy) → unit_failure (clause_state assumed c) f ≡ Some NotUnit
no_turn r assumed c e (inl h) f = ap (λ v. unit_failure v f) (sym e ∙ ap clause_state_of h)
no_turn r assumed c e (inr h) f = ap (λ v. unit_failure v f) (sym e ∙ ap clause_state_of h)

module _ (s : ActiveClauses) (ids : List ℕ) (i id : ℕ) (inside : i < length ids) (is : id ≡ get_or ids i id) where
  next : active_clauses s (drop i ids) ≡ and_clauses (active_clause s id) (active_clauses s (drop (i + 1) ids))
  next = ap (active_clauses s) (drop_more ids i id inside) ∙ ap (λ j. and_clauses (active_clause s j) (active_clauses s (drop (i + 1) ids))) (sym is)

  found : (c : List ℕ) → active_clause s id ≡ Some c → active_clauses s (drop i ids) ≡ and_clauses (Some c) (active_clauses s (drop (i + 1) ids))
  found c e = next ∙ ap (λ o. and_clauses o (active_clauses s (drop (i + 1) ids))) e

  module _ (assumed c : List ℕ) (here : active_clause s id ≡ Some c) where
    following : (h : i + 1 < length ids) → active_clauses s (drop (i + 1) ids) ≡ and_clauses (active_clause s (get_or ids (i + 1) 0)) (active_clauses s (drop (i + 1 + 1) ids))
    following h = ap (active_clauses s) (drop_more ids (i + 1) 0 h)

    pub missed : i + 1 < length ids → ((f : ℕ → Option HintWhy) → unit_failure (clause_state assumed c) f ≡ Some NotUnit) → active_clauses s (drop (i + 1) ids) ≢ None → refutation_failure_of assumed (active_clauses s (drop i ids)) ≡ Some NotUnit
    missed h v n =
        ap (refutation_failure_of assumed) (found c here ∙ ap (and_clauses (Some c)) (following h))
        ∙ misses_turn assumed c (active_clause s (get_or ids (i + 1) 0)) (active_clauses s (drop (i + 1 + 1) ids)) v (λ e. n (following h ∙ e))

    pub lost : active_clauses s (drop (i + 1) ids) ≡ None → refutation_failure_of assumed (active_clauses s (drop i ids)) ≡ Some UnknownId
    lost n = ap (refutation_failure_of assumed) (found c here ∙ ap (and_clauses (Some c)) n)

-- ROOM
-- there is room for the literal that a unit clause makes true
pub opens_in_room : (s : ActiveClauses) (room assumed c : List ℕ) (id l : ℕ) → HasRoomForPresent room s → active_clause s id ≡ Some c → clause_state assumed c ≡ becomes_unit l → (is_among room l ≡ true) × (is_among assumed l ≡ false)
opens_in_room s room assumed c id l h e v = let u = is_unit assumed c l v in ((room_in room c l (h id c e) u.within).0, u.not_true)

room_more : (xs ys c : List ℕ) → RoomIsKept xs ys → HasClauseRoom xs c → HasClauseRoom ys c
room_more xs ys [] s h = tt
room_more xs ys (l ∷ ls) s h = ((s _ h.0.0, s _ h.0.1), room_more xs ys ls s h.1)

-- there is still room for the present clauses if the room only grows
pub room_still : (s : ActiveClauses) (xs ys : List ℕ) → RoomIsKept xs ys → HasRoomForPresent xs s → HasRoomForPresent ys s
room_still s xs ys k h id c e = room_more xs ys c k (h id c e)

rooms : (s : ActiveClauses) (room : List ℕ) → HasRoomForPresent room s → (ids : List ℕ) (cs : List (List ℕ)) → active_clauses s ids ≡ Some cs → HasClausesRoom room cs
rooms s room h [] cs e = let f : [] ≡ cs = cc in subst (HasClausesRoom room) f tt
rooms s room h (id ∷ ids) cs e = go (λ ds. rooms s room h ids ds) (active_clause s id) refl (active_clauses s ids) refl e
  where
    go : ((ds : List (List ℕ)) → active_clauses s ids ≡ Some ds → HasClausesRoom room ds) → (c : Option (List ℕ)) → active_clause s id ≡ c → (ds : Option (List (List ℕ))) → active_clauses s ids ≡ ds → and_clauses c ds ≡ Some cs → HasClausesRoom room cs
    go ih None i ds k e = absurd cc
    go ih (Some c) i None k e = absurd cc
    go ih (Some c) i (Some ds) k e = let f : c ∷ ds ≡ cs = cc in subst (HasClausesRoom room) f (h id c i, ih ds k)

-- assuming only the literals for which there is room gives the same result
module _ (s : ActiveClauses) (ls ids : List ℕ) (why : Option HintWhy) where
  -- the reason that the code finds is that of `WhyNotRefuted`
  pub refuted_by : (room assumed : List ℕ) → HasRoomForPresent room s → is_tautology ls ≡ false → AgreeWithinRoom room assumed ls → why ≡ refutation_failure_of assumed (active_clauses s ids) → WhyNotRefuted s ls ids why
  refuted_by room assumed h t a w = go (active_clauses s ids) refl
    where
      go : (o : Option (List (List ℕ))) → active_clauses s ids ≡ o → WhyNotRefuted s ls ids why
      go None e = inl (e, w ∙ ap (refutation_failure_of assumed) e)
      go (Some cs) e = inr (cs, e, inr (t, w ∙ ap (refutation_failure_of assumed) e ∙ same_course cs room assumed ls (rooms s room h ids cs e) a))

  -- if both signs of a variable are assumed and all clauses are present, there is no failure
  pub refuted_both : is_tautology ls ≡ true → active_clauses s ids ≢ None → why ≡ None → WhyNotRefuted s ls ids why
  refuted_both t n w = go (active_clauses s ids) refl
    where
      go : (o : Option (List (List ℕ))) → active_clauses s ids ≡ o → WhyNotRefuted s ls ids why
      go None e = absurd (n e)
      go (Some cs) e = inr (cs, e, inl (t, w))

  -- if a clause is not present, the reason is `UnknownId`
  pub refuted_unknown : active_clauses s ids ≡ None → why ≡ Some UnknownId → WhyNotRefuted s ls ids why
  refuted_unknown n w = inl (n, w)
