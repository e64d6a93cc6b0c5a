-- A derived clause advances among the written steps exactly if it does among the steps that were made.
use Rattle.std.proofs.Common.{ℕ, ◌+◌, ◌<◌, ◌≡◌, ◌∙◌, ◌⊎◌, Bool, true, false, eqb, cond, Option, Some, None, List, [], ◌∷◌, ◌++◌, map, refl, sym, ap, subst, inl, inr, arith}
use Rattle.std.proofs.lemmas.Bool.{eq-eqb, eqb-true, or_left, true≢false}
use Rattle.std.specs.Prelude.{◌==◌, ◌||◌, nat_eq, if◌then◌else◌}
use Rattle.std.specs.List.{AllByRecursion}
use Rattle.sat_base.specs.values.Literals.{negated}
use Rattle.sat_base.specs.script.Script.{Among}
use Rattle.sat_base.specs.steps.Steps.{Step, AtClause, ChangeHashBits}
use Rattle.sat_checker.specs.LiteralSets.{is_among, canonical, same_literals}
use Rattle.sat_checker.specs.Stored.{Stored, StoredClause, is_unit, unit_literals, long_clauses}
use Rattle.sat_checker.specs.Storing.{clause_with, irredundant_count, redundant_count}
use Rattle.sat_checker.specs.Propagation.{IsFalsified, IsUnit}
use Rattle.sat_checker.specs.Accepts.{ready_after}
use Rattle.sat_checker.specs.Contents.{ProofState, Contents, stored_state, state_after, contents_of, count_of}
use Rattle.sat_checker.specs.Invariants.{IsProperClause}
use Rattle.sat_checker.proofs.lemmas.contents.Steps.{contents_of_steps}
use Rattle.sat_checker.proofs.lemmas.contents.Counts.{found}
use Rattle.sat_checker.proofs.lemmas.invariants.Counted.{tidy_clauses}
use Rattle.sat_checker.proofs.lemmas.invariants.Proper.{all_proper}
use Rattle.sat_checker.proofs.lemmas.meaning.Clauses.{same as same_lists}
use Rattle.sat_checker.proofs.lemmas.sets.Canonical.{canonical_among}
use Rattle.sat_checker.proofs.lemmas.sets.Marks.{once}
use Rattle.sat_checker.proofs.lemmas.sets.Members.{canonical_each}
use Rattle.sat_checker.proofs.lemmas.sets.Order.{among-append}
use Rattle.sat_checker.proofs.lemmas.sets.Rising.{canonical_stays}
use Rattle.sat_solver.specs.session.Session.{Session, session_with, after, last_after, session_after, IsLive, rup_assumptions}
use Rattle.sat_solver.specs.proof.Widths.{narrowed}
use Rattle.sat_solver.specs.proof.Counting.{TruncatesHashes, none_made, ask_begun, one_made, counting_after}
use Rattle.sat_solver.specs.session.Empowering as made
use Rattle.sat_solver.specs.session.Quiet.{IsNeverEmpowering, others_of}
use Rattle.sat_solver.specs.schedule.Solving as made_steps
use Rattle.sat_solver.specs.declared.proof.hash_bits.Counting.{Counting}
use Rattle.sat_solver.proofs.lemmas.session.Mapped.{among_mapped}
use Rattle.sat_solver.proofs.lemmas.session.WidthLemmas.{wide, after_wide}
use Rattle.certify.specs.run.Empowering.{PropagatesTo, leads_none, leads_one, start_literals, StaysUnassignedInStored, LeavesUnassigned, IsEmpoweringFor, DerivesEmpowering}

-- THE SESSION AFTER STEPS
session_is : (steps : List Step) → (last : Option (List ℕ)) × (session_after steps ≡ session_with last (contents_of steps).state)
session_is [] = (None, refl)
session_is (step ∷ earlier) = let h = session_is earlier in (last_after step h.0, ap (after step) h.1)

-- WIDTHS CHANGE NOTHING ELSE

-- writing a new width, if it differs, changes only the width
pub change_wide : (same : Bool) (now : ℕ) (written : List Step) (c : ProofState) (x : ℕ) → (contents_of written).state ≡ wide x c
    → (y : ℕ) × ((contents_of ((if same then [] else ChangeHashBits now ∷ []) ++ written)).state ≡ wide y c)
change_wide true now written c x e = (x, e)
change_wide false now written c x e = (now, ap (wide now) e)

-- the written steps lead to the same state as those that were made, except for the width
pub cuts_state : {c d : Counting} {m w : List Step} → TruncatesHashes c m w d → (x : ℕ) × ((contents_of w).state ≡ wide x (contents_of m).state)
cuts_state none_made = (64, refl)
cuts_state (ask_begun p) = cuts_state p
cuts_state (one_made {d = d} {made = made} {written = written} step k p) =
    let h = cuts_state p in
    let now = (counting_after step d).bits in
    let t = change_wide (nat_eq d.bits now) now written (contents_of made).state h.0 h.1 in
    (t.0, ap (state_after (narrowed now step)) t.1 ∙ after_wide now step t.0 (contents_of made).state k)

-- WHAT THE CHECKER HAS STORED
pub record IsSame (f : Stored) (s : Session) : Type 0 where
  pub units : (l : ℕ) → is_unit f l ≡ s.units l
  pub live : (r : Bool) (set : List ℕ) → count_of r set f.clauses ≡ s.live r set

-- steps that leave the same contents leave the same state of the checker
pub is_same : (steps made : List Step) (x : ℕ) → (contents_of steps).state ≡ wide x (contents_of made).state → IsSame (ready_after steps) (session_after made)
is_same steps made x e =
    let s = session_is made in
    let c : stored_state (ready_after steps) ≡ wide x (contents_of made).state = ap (λ (d : Contents). d.state) (contents_of_steps steps) ∙ e in
    record {
      units = λ l. ap (λ (d : ProofState). d.units l) c ∙ sym (ap (λ (t : Session). t.units l) s.1);
      live = λ r set. ap (λ (d : ProofState). d.counts r set) c ∙ sym (ap (λ (t : Session). t.live r set) s.1);
    }

-- `Kept P cs clause` holds if the clause is stored, and `P` holds of it as stored.
pub record Kept (P : StoredClause → Type 0) (cs : List StoredClause) (clause : List ℕ) : Type 0 where
  pub stored : StoredClause
  pub is : clause ≡ stored.literals
  pub holds : P stored

kept : (P : StoredClause → Type 0) (cs : List StoredClause) (clause : List ℕ) → AllByRecursion P cs → Among clause (map (λ c. c.literals) cs) → Kept P cs clause
kept P [] clause h a = absurd a
kept P (c ∷ cs) clause h (inl e) = record { stored = c; is = e; holds = h.0 }
kept P (c ∷ cs) clause h (inr a) = let k = kept P cs clause h.1 a in record { stored = k.stored; is = k.is; holds = k.holds }

both : (P Q : StoredClause → Type 0) (cs : List StoredClause) → AllByRecursion P cs → AllByRecursion Q cs → AllByRecursion (λ c. P c × Q c) cs
both P Q [] p q = tt
both P Q (c ∷ cs) p q = ((p.0, q.0), both P Q cs p.1 q.1)

proper_of : (cs : List StoredClause) → AllByRecursion IsProperClause (map (λ c. c.literals) cs) → AllByRecursion (λ c. IsProperClause c.literals) cs
proper_of [] h = tt
proper_of (c ∷ cs) h = (h.0, proper_of cs h.1)

-- a stored clause is live in the session
is_live : (steps : List Step) (s : Session) → IsSame (ready_after steps) s → (clause : List ℕ) → Among clause (long_clauses (ready_after steps)) → IsLive s clause
is_live steps s same clause a =
    let f = ready_after steps in
    let tidy = tidy_clauses steps in
    let k = kept (λ c. (IsProperClause c.literals × (clause_with c.literals f.clauses ≡ Some c)) × (0 < c.irredundant + c.redundant)) f.clauses clause
    (both (λ c. IsProperClause c.literals × (clause_with c.literals f.clauses ≡ Some c)) (λ c. 0 < c.irredundant + c.redundant) f.clauses
    (both (λ c. IsProperClause c.literals) (λ c. clause_with c.literals f.clauses ≡ Some c) f.clauses (proper_of f.clauses (all_proper steps)) (found f.clauses tidy.once)) tidy.counted) a in
    let d = k.stored in
    let sorted = canonical_stays d.literals k.holds.0.0.sorted in
    let irredundant : d.irredundant ≡ s.live false (canonical d.literals) =
    sym (ap irredundant_count k.holds.0.1) ∙ same.live false d.literals ∙ ap (s.live false) (sym sorted) in
    let redundant : d.redundant ≡ s.live true (canonical d.literals) =
    sym (ap redundant_count k.holds.0.1) ∙ same.live true d.literals ∙ ap (s.live true) (sym sorted) in
    let some : 0 < s.live false (canonical d.literals) + s.live true (canonical d.literals) = let h = k.holds.1 in omega (arith, irredundant, redundant, h) in
    subst (IsLive s) (sym k.is) (record { once = once d.literals k.holds.0.0.sorted; counted = some })

-- unit propagation over stored clauses is unit propagation over live clauses
each_so : (P Q : ℕ → Type 0) → ((l : ℕ) → P l → Q l) → (ls : List ℕ) → AllByRecursion P ls → AllByRecursion Q ls
each_so P Q f [] h = tt
each_so P Q f (l ∷ ls) h = (f l h.0, each_so P Q f ls h.1)

false_by : (o : ℕ) (start : List ℕ) (holds : ℕ → Bool) → ((m : ℕ) → is_among start m ≡ holds m) → (l : ℕ) → (l ≡ o) ⊎ (is_among start (negated l) ≡ true) → (l ≡ o) ⊎ (holds (negated l) ≡ true)
false_by o start holds h l (inl e) = inl e
false_by o start holds h l (inr e) = inr (sym (h (negated l)) ∙ e)

leads_on : (steps : List Step) (s : Session) → IsSame (ready_after steps) s → {start reached : List ℕ} → PropagatesTo (ready_after steps) start reached → (holds : ℕ → Bool) → ((m : ℕ) → is_among start m ≡ holds m)
    → (picked : List (List ℕ)) × made.UnitPropagates s holds picked (is_among reached)
leads_on steps s same leads_none holds h = ([], λ l e. sym (h l) ∙ e)
leads_on steps s same {start} {reached} (leads_one clause o a u rest) holds h =
    let more = leads_on steps s same rest (λ l. (o == l) || holds l) (λ m. ap (λ (b : Bool). (o == m) || b) (h m)) in
    (clause ∷ more.0, (is_live steps s same clause a, (o, each_so _ _ (false_by o start holds h) clause u.others, u.within, more.1)))

denied_is : (f : Stored) (s : Session) → IsSame f s → (ls : List ℕ) (m : ℕ) → is_among (start_literals f ls) m ≡ rup_assumptions s ls m
denied_is f s same ls m = among-append (map negated ls) (unit_literals f) m ∙ ap (λ (b : Bool). is_among (map negated ls) m || b) (same.units m)

either_way : (b : Bool) → (b ≡ true) ⊎ (b ≡ false)
either_way true = inl refl
either_way false = inr refl

-- an empowering clause with its first literal does not repeat that literal
not_repeated : (s : Session) (l : ℕ) (ls : List ℕ) → made.IsEmpowering s (l ∷ ls) → is_among ls l ≡ false
not_repeated s l ls a = elim (either_way (is_among ls l)) [
  | inl t ↦
      let new = a.stays [] (rup_assumptions s ls) (λ m e. e) in
      absurd (true≢false (sym (or_left (is_among (map negated ls) (negated l)) (s.units (negated l)) (among_mapped negated ls l t)) ∙ new.not_false))
  | inr f ↦ f
]

others_none : (l : ℕ) (ls : List ℕ) → is_among ls l ≡ false → others_of l ls ≡ ls
others_none l [] e = refl
others_none l (m ∷ ms) e = go (eqb m l) e (others_none l ms)
  where
    go : (b : Bool) → (b || is_among ms l) ≡ false → (is_among ms l ≡ false → others_of l ms ≡ ms) → cond b (others_of l ms) (m ∷ others_of l ms) ≡ m ∷ ms
    go true f later = absurd (true≢false f)
    go false f later = ap (λ (ks : List ℕ). m ∷ ks) (later f)

others_first : (l : ℕ) (ls : List ℕ) → is_among ls l ≡ false → others_of l (l ∷ ls) ≡ ls
others_first l ls e = go (eqb l l) (eq-eqb l l refl)
  where
    go : (b : Bool) → b ≡ true → cond b (others_of l ls) (l ∷ others_of l ls) ≡ ls
    go true f = others_none l ls e
    go false f = absurd (true≢false (sym f))

advances_as : (steps : List Step) (s : Session) → IsSame (ready_after steps) s → (clause : List ℕ) → made.IsEmpowering s clause → IsEmpoweringFor (ready_after steps) clause
advances_as steps s same [] a = absurd (let h = a.some in omega (arith, h))
advances_as steps s same (l ∷ ls) a =
    let f = ready_after steps in
    let d = denied_is f s same ls in
    let leaves : LeavesUnassigned f ls l = record {
      agree = λ m e. d (negated m) ∙ a.agree m (sym (d m) ∙ e);
      open_still = λ reached leads.
          let on = leads_on steps s same leads (rup_assumptions s ls) d in
          let new = a.stays on.0 (is_among reached) on.1 in
          record { not_true = new.not_true; not_false = new.not_false; no_conflict = λ c k falsified. new.no_conflict c (is_live steps s same c k) falsified };
    } in
    (l, or_left (eqb l l) (is_among ls l) (eq-eqb l l refl), subst (λ (ks : List ℕ). LeavesUnassigned f ks l) (sym (others_first l ls (not_repeated s l ls a))) leaves)

-- a step that is empowering in the session is so after the steps
pub advancing_as : (steps : List Step) (s : Session) → IsSame (ready_after steps) s → (w : ℕ) (step : Step) → made_steps.IsEmpoweringStep s step → DerivesEmpowering (ready_after steps) (narrowed w step)
advancing_as steps s same w (AtClause r clause hashes) a = advances_as steps s same clause a
advancing_as steps s same w step a = absurd a

-- NO OTHER CLAUSE ADVANCES

-- a clause that is counted is stored
stored_by : (set : List ℕ) (cs : List StoredClause) → 0 < irredundant_count (clause_with set cs) + redundant_count (clause_with set cs) → Among set (map (λ c. c.literals) cs)
stored_by set [] n = absurd (omega arith)
stored_by set (c ∷ cs) n = go (same_literals c.literals set) refl n (stored_by set cs)
  where
    go : (b : Bool) → same_literals c.literals set ≡ b → 0 < irredundant_count (cond b (Some c) (clause_with set cs)) + redundant_count (cond b (Some c) (clause_with set cs))
        → (0 < irredundant_count (clause_with set cs) + redundant_count (clause_with set cs) → Among set (map (λ c. c.literals) cs)) → Among set (map (λ c. c.literals) (c ∷ cs))
    go true q n later = inl (sym (same_lists c.literals set q))
    go false q n later = inr (later n)

is_stored : (steps : List Step) (s : Session) → IsSame (ready_after steps) s → (clause : List ℕ) → IsLive s clause → Among (canonical clause) (long_clauses (ready_after steps))
is_stored steps s same clause live =
    let cs = (ready_after steps).clauses in
    let irredundant : irredundant_count (clause_with (canonical clause) cs) ≡ s.live false (canonical clause) = same.live false (canonical clause) in
    let redundant : redundant_count (clause_with (canonical clause) cs) ≡ s.live true (canonical clause) = same.live true (canonical clause) in
    let n : 0 < irredundant_count (clause_with (canonical clause) cs) + redundant_count (clause_with (canonical clause) cs) = let h = live.counted in omega (arith, irredundant, redundant, h) in
    stored_by (canonical clause) cs n

none_by : (b x : Bool) → (b ≡ true → x ≡ true) → x ≡ false → b ≡ false
none_by true x f e = absurd (true≢false (sym (f refl) ∙ e))
none_by false x f e = refl

-- adding a literal that holds already changes nothing
known_more : (holds : ℕ → Bool) (o : ℕ) → holds o ≡ true → (m : ℕ) → holds m ≡ ((o == m) || holds m)
known_more holds o t m = go (eqb o m) refl
  where
    go : (b : Bool) → eqb o m ≡ b → holds m ≡ (b || holds m)
    go true q = subst (λ (z : ℕ). holds z ≡ true) (eqb-true o m q) t
    go false q = refl

all_false : (holds : ℕ → Bool) (o : ℕ) → holds (negated o) ≡ true → (m : ℕ) → (m ≡ o) ⊎ (holds (negated m) ≡ true) → holds (negated m) ≡ true
all_false holds o t m (inl e) = subst (λ (z : ℕ). holds (negated z) ≡ true) (sym e) t
all_false holds o t m (inr k) = k

still_by : (start : List ℕ) (holds : ℕ → Bool) → ((m : ℕ) → is_among start m ≡ holds m) → (o m : ℕ) → (m ≡ o) ⊎ (holds (negated m) ≡ true) → (m ≡ o) ⊎ (is_among start (negated m) ≡ true)
still_by start holds h o m (inl e) = inl e
still_by start holds h o m (inr k) = inr (h (negated m) ∙ k)

module _ (steps : List Step) (s : Session) (same : IsSame (ready_after steps) s) (l : ℕ) where
  abbrev StaysOpen : List ℕ → Type 0
  StaysOpen start = (reached : List ℕ) → PropagatesTo (ready_after steps) start reached → StaysUnassignedInStored (ready_after steps) l reached

  falsified_by : (start : List ℕ) (holds : ℕ → Bool) → ((m : ℕ) → is_among start m ≡ holds m) → (c : List ℕ) → AllByRecursion (λ m. holds (negated m) ≡ true) c → IsFalsified start (canonical c)
  falsified_by start holds h c k = canonical_each (λ m. is_among start (negated m) ≡ true) c (each_so (λ m. holds (negated m) ≡ true) (λ m. is_among start (negated m) ≡ true) (λ m e. h (negated m) ∙ e) c k)

  -- unit propagation over live clauses is one over stored clauses, without the literals that hold already
  stays : (start : List ℕ) (holds : ℕ → Bool) → ((m : ℕ) → is_among start m ≡ holds m) → StaysOpen start → (picked : List (List ℕ)) (reached : ℕ → Bool) → made.UnitPropagates s holds picked reached → made.StaysUnassignedInSession s l reached
  stays start holds h still [] reached within =
      let o = still start leads_none in
      record {
        not_true = none_by (reached l) (holds l) (within l) (sym (h l) ∙ o.not_true);
        not_false = none_by (reached (negated l)) (holds (negated l)) (within (negated l)) (sym (h (negated l)) ∙ o.not_false);
        no_conflict = λ c live k. o.no_conflict (canonical c) (is_stored steps s same c live) (falsified_by start holds h c (each_so (λ m. reached (negated m) ≡ true) (λ m. holds (negated m) ≡ true) (λ m e. within (negated m) e) c k));
      }
  stays start holds h still (c ∷ cs) reached (live, (o, split, among, rest)) = elim (either_way (holds o)) [
    | inl t ↦ stays start (λ m. (o == m) || holds m) (λ m. h m ∙ known_more holds o t m) still cs reached rest
    | inr f ↦ elim (either_way (holds (negated o))) [
      | inl t ↦
          absurd ((still start leads_none).no_conflict (canonical c) (is_stored steps s same c live)
          (falsified_by start holds h c (each_so (λ m. (m ≡ o) ⊎ (holds (negated m) ≡ true)) (λ m. holds (negated m) ≡ true) (all_false holds o t) c split)))
      | inr g ↦
          let unit : IsUnit start (canonical c) o = record {
            within = canonical_among c o ∙ among;
            not_true = h o ∙ f;
            not_false = h (negated o) ∙ g;
            others = canonical_each (λ m. (m ≡ o) ⊎ (is_among start (negated m) ≡ true)) c
                (each_so (λ m. (m ≡ o) ⊎ (holds (negated m) ≡ true)) (λ m. (m ≡ o) ⊎ (is_among start (negated m) ≡ true)) (still_by start holds h o) c split);
          } in
          stays (o ∷ start) (λ m. (o == m) || holds m) (λ m. ap (λ (b : Bool). (o == m) || b) (h m))
          (λ more leads. still more (leads_one (canonical c) o (is_stored steps s same c live) unit leads)) cs reached rest
    ]
  ]

-- a step that never advances in the session does not derive an empowering clause in the checker
pub never_as : (steps : List Step) (s : Session) → IsSame (ready_after steps) s → (w : ℕ) (step : Step) → IsNeverEmpowering s step → DerivesEmpowering (ready_after steps) (narrowed w step) → ⊥
never_as steps s same w (AtClause r clause hashes) never (l, among, leaves) =
    let others = others_of l clause in
    let d = denied_is (ready_after steps) s same others in
    never l (record {
      among = among;
      agree = λ m e. sym (d (negated m)) ∙ leaves.agree m (d m ∙ e);
      stays = stays steps s same l (start_literals (ready_after steps) others) (rup_assumptions s others) d leaves.open_still;
    })
never_as steps s same w step never a = a
