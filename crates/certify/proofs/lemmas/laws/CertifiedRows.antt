-- Worked rows of the steps that a run may write.
use Rattle.std.proofs.Common.{ℕ, Bool, true, false, not, ◌||◌, ◌≡◌, List, [], ◌∷◌, ◌++◌, Option, None, Some, length, refl, sym, ◌∙◌, ap, subst, inl, inr, ◌⊎◌}
use Rattle.std.proofs.lemmas.Bool.{true≢false}
use Rattle.sat_base.specs.script.Script.{Literal}
use Rattle.sat_base.specs.steps.Steps.{Step, UserVarName, AddClause, AtClause, Assumptions, End}
use Rattle.sat_checker.specs.matching.Expected.{Outcome, Sat, Unsat, Expected, NewName, Adds, Opens, Shows, Closes, Finish, FitsExpected, new_name, adds, opens, shows, closes, finish}
use Rattle.sat_checker.specs.matching.Checking.{is_ordered}
use Rattle.sat_checker.specs.matching.ProofChecking.{checker_rules}
use Rattle.certify.specs.run.Certifies.{Certifies, IsKnownUnsat, complete, left_out, other, ordered, asked, answered}
use Rattle.certify.specs.laws.Rows.{AfterEndUncertified, ChainCertified, ClauseAndAskCertified, ClauseUncertified, CoreUncertified, EarlyUncertified, EndAloneUncertified, KnownWithoutRounds, LeftOutCertified, ModelUncertified, UnknownUncertified, neg, pos}
use Rattle.certify.proofs.lemmas.confirm.FittingSteps.{fits_new_name, fits_adds, fits_shows}
use Rattle.certify.proofs.lemmas.run.Written.{certified_front, next_same}

pub clause_and_ask : ClauseAndAskCertified
clause_and_ask = ordered tt (new_name refl refl) (ordered tt (new_name refl refl)
    (ordered tt (adds (((0, record { variable = 0; named = refl; is = refl }, inl refl), ((2, record { variable = 1; named = refl; is = refl }, inr (inl refl)), tt)), ((pos 1, record { variable = 0; named = refl; is = refl }, inl refl), ((pos 2, record { variable = 1; named = refl; is = refl }, inr (inl refl)), tt))))
    (asked (λ u. absurd (true≢false (sym u))) (opens (tt, tt))
    (ordered refl (shows {line = neg 1 ∷ pos 2 ∷ []} refl ((1, record { variable = 0; named = refl; is = refl }, inl refl), ((2, record { variable = 1; named = refl; is = refl }, inr (inl refl)), tt)) tt)
    (answered (λ u. absurd (true≢false (sym u))) closes (ordered tt finish complete))))))

no_value : (b : Bool) → (b || false) ≡ true → (not b || false) ≡ true → ⊥
no_value true x y = true≢false (sym y)
no_value false x y = true≢false (sym x)

pub left_out_row : LeftOutCertified
left_out_row = ordered tt (new_name refl refl)
    (ordered tt (adds (((0, record { variable = 0; named = refl; is = refl }, inl refl), tt), ((pos 1, record { variable = 0; named = refl; is = refl }, inl refl), tt)))
    (ordered tt (adds (((1, record { variable = 0; named = refl; is = refl }, inl refl), tt), ((neg 1, record { variable = 0; named = refl; is = refl }, inl refl), tt)))
    (ordered tt (new_name refl refl)
    (left_out tt (record { recorded = refl; none = λ a h. no_value (a 0) h.0.1 h.1 })
    (asked (λ u. record { outcome = refl; rounds = refl }) (opens (tt, tt))
    (left_out refl (record { recorded = refl; none = λ a h. no_value (a 0) h.0.1 h.1 })
    (answered (λ u. refl) closes (ordered tt finish complete))))))))

no_chain : (x y : Bool) → (x || false) ≡ true → (not x || (y || false)) ≡ true → (not y || false) ≡ true → ⊥
no_chain true true p q r = true≢false (sym r)
no_chain true false p q r = true≢false (sym q)
no_chain false y p q r = true≢false (sym p)

pub chain : ChainCertified
chain hashes = ordered tt (new_name refl refl)
    (ordered tt (adds (((0, record { variable = 0; named = refl; is = refl }, inl refl), tt), ((pos 1, record { variable = 0; named = refl; is = refl }, inl refl), tt)))
    (ordered tt (new_name refl refl)
    (ordered tt (adds (((1, record { variable = 0; named = refl; is = refl }, inl refl), ((2, record { variable = 1; named = refl; is = refl }, inr (inl refl)), tt)), ((neg 1, record { variable = 0; named = refl; is = refl }, inl refl), ((pos 2, record { variable = 1; named = refl; is = refl }, inr (inl refl)), tt))))
    (ordered tt (adds (((3, record { variable = 1; named = refl; is = refl }, inl refl), tt), ((neg 2, record { variable = 1; named = refl; is = refl }, inl refl), tt)))
    (ordered tt (new_name refl refl)
    (ordered tt (adds (((4, record { variable = 2; named = refl; is = refl }, inl refl), tt), ((pos 3, record { variable = 2; named = refl; is = refl }, inl refl), tt)))
    (asked (λ u. absurd (true≢false (sym u))) (opens (tt, tt))
    (other refl
    (left_out refl (record { recorded = refl; none = λ a h. no_chain (a 0) (a 1) h.0.0.0.1 h.0.0.1 h.0.1 })
    (answered (λ u. refl) closes (ordered tt finish complete)))))))))))

-- the next step is `step`
is_next : {all : List Step} {current : Option Outcome} {earlier : List Step} {es : List Expected} {counts : List ℕ} (later : List Step) (step next : Step) → all ≡ later ++ step ∷ earlier → Certifies checker_rules all current (next ∷ earlier) es counts → next ≡ step
is_next {earlier = earlier} later step next e c = let f = certified_front c in next_same f.0 later next step earlier (sym f.1 ∙ e)

-- if the next step is ordered, no unordered step comes next
no_other : {all earlier : List Step} {current : Option Outcome} {es : List Expected} {counts : List ℕ} (later : List Step) (step : Step) → all ≡ later ++ step ∷ earlier → is_ordered step ≡ true
    → (next : Step) → is_ordered next ≡ false → Certifies checker_rules all current (next ∷ earlier) es counts → ⊥
no_other later step first i next o c = true≢false (sym i ∙ ap is_ordered (sym (is_next later step next first c)) ∙ o)

next_name : {all earlier : List Step} {current : Option Outcome} {name : ℕ} {es : List Expected} {counts : List ℕ} (later : List Step) (step : Step) → all ≡ later ++ step ∷ earlier → is_ordered step ≡ true
    → Certifies checker_rules all current earlier (NewName name ∷ es) counts → FitsExpected (checker_rules.knows earlier) earlier (NewName name) step × Certifies checker_rules all current (step ∷ earlier) es counts
next_name later step first i (left_out m r c) = absurd m
next_name later step first i (other {step = next} o c) = absurd (no_other later step first i next o c)
next_name {all} {earlier} {current} {name} {es} {counts} later step first i (ordered {step = next} s f c) =
    let e = is_next later step next first c in
    (subst (λ x. FitsExpected (checker_rules.knows earlier) earlier (NewName name) x) e f, subst (λ (x : Step). Certifies checker_rules all current (x ∷ earlier) es counts) e c)

next_added : {all earlier : List Step} {current : Option Outcome} {ls : List Literal} {es : List Expected} {counts : List ℕ} (later : List Step) (step : Step) → all ≡ later ++ step ∷ earlier → is_ordered step ≡ true
    → checker_rules.unsat earlier ≡ false → Certifies checker_rules all current earlier (Adds ls ∷ es) counts → FitsExpected (checker_rules.knows earlier) earlier (Adds ls) step × Certifies checker_rules all current (step ∷ earlier) es counts
next_added later step first i u (left_out m r c) = absurd (true≢false (sym r.recorded ∙ u))
next_added later step first i u (other {step = next} o c) = absurd (no_other later step first i next o c)
next_added {all} {earlier} {current} {ls} {es} {counts} later step first i u (ordered {step = next} s f c) =
    let e = is_next later step next first c in
    (subst (λ x. FitsExpected (checker_rules.knows earlier) earlier (Adds ls) x) e f, subst (λ (x : Step). Certifies checker_rules all current (x ∷ earlier) es counts) e c)

left_added : {all earlier : List Step} {current : Option Outcome} {ls : List Literal} {es : List Expected} {counts : List ℕ} (later : List Step) (step : Step) → all ≡ later ++ step ∷ earlier → is_ordered step ≡ true
    → checker_rules.unsat earlier ≡ true → Certifies checker_rules all current earlier (Adds ls ∷ es) counts → FitsExpected (checker_rules.knows earlier) earlier (Adds ls) step ⊎ Certifies checker_rules all current earlier es counts
left_added later step first i u (left_out m r c) = inr c
left_added later step first i u (other {step = next} o c) = absurd (no_other later step first i next o c)
left_added {earlier = earlier} {ls = ls} later step first i u (ordered {step = next} s f c) = inl (subst (λ x. FitsExpected (checker_rules.knows earlier) earlier (Adds ls) x) (is_next later step next first c) f)

-- `OpenedBy all earlier step o es counts` holds if what follows `step`, which opens an ask with outcome `o`, is
-- certified, and `counts` begins with its rounds. If unsat was recorded before, the outcome is the empty core, without
-- a round.
record OpenedBy (all earlier : List Step) (step : Step) (o : Outcome) (es : List Expected) (counts : List ℕ) : Type 0 where
  rounds : ℕ
  rest : List ℕ
  counts_are : counts ≡ rounds ∷ rest
  known : checker_rules.unsat earlier ≡ true → IsKnownUnsat o rounds
  leads : Certifies checker_rules all (Some o) (step ∷ earlier) es rest

next_asked : {all earlier : List Step} {ask : List Literal} {o : Outcome} {es : List Expected} {counts : List ℕ} (later : List Step) (step : Step) → all ≡ later ++ step ∷ earlier → is_ordered step ≡ true → Certifies checker_rules all None earlier (Opens ask o ∷ es) counts → OpenedBy all earlier step o es counts
next_asked later step first i (left_out m r c) = absurd m
next_asked later step first i (other {step = next} o c) = absurd (no_other later step first i next o c)
next_asked later step first i (ordered s f c) = absurd s
next_asked {all} {earlier} {o = o} {es = es} later step first i (asked {step = next} {n = n} {counts = counts} k f c) =
    let e = is_next later step next first c in
    record { rounds = n; rest = counts; counts_are = refl; known = k; leads = subst (λ (x : Step). Certifies checker_rules all (Some o) (x ∷ earlier) es counts) e c }

closes_ordered : {knows : ℕ → Bool} {earlier : List Step} {step : Step} → FitsExpected knows earlier Closes step → is_ordered step ≡ true
closes_ordered closes = refl

-- an unordered step in an ask
next_other : {all earlier : List Step} {o : Outcome} {es : List Expected} {counts : List ℕ} (later : List Step) (step : Step) → all ≡ later ++ step ∷ earlier → is_ordered step ≡ false → Certifies checker_rules all (Some o) earlier (Closes ∷ es) counts → Certifies checker_rules all (Some o) (step ∷ earlier) (Closes ∷ es) counts
next_other later step first i (left_out m r c) = absurd m
next_other {all} {earlier} {o} {es} {counts} later step first i (other {step = next} q c) = subst (λ (x : Step). Certifies checker_rules all (Some o) (x ∷ earlier) (Closes ∷ es) counts) (is_next later step next first c) c
next_other later step first i (ordered s f c) = absurd s
next_other later step first i (answered {step = next} k f c) = absurd (true≢false (sym (closes_ordered f) ∙ ap is_ordered (is_next later step next first c) ∙ i))

-- an ask that is closed once unsat is recorded has the empty core
next_closed : {all earlier : List Step} {o : Outcome} {es : List Expected} {counts : List ℕ} (later : List Step) (step : Step) → all ≡ later ++ step ∷ earlier → is_ordered step ≡ true → checker_rules.unsat earlier ≡ true → Certifies checker_rules all (Some o) earlier (Closes ∷ es) counts → o ≡ Unsat []
next_closed later step first i u (left_out m r c) = absurd m
next_closed later step first i u (other {step = next} q c) = absurd (true≢false (sym i ∙ ap is_ordered (sym (is_next later step next first c)) ∙ q))
next_closed later step first i u (ordered s f c) = absurd s
next_closed later step first i u (answered k f c) = k u

pub core : CoreUncertified
core shown counts c =
    let name = UserVarName 0 (Some 0) in
    let one = AddClause (0 ∷ []) in
    let two = AddClause (1 ∷ []) in
    let ask = Assumptions (0 ∷ []) in
    let a = (next_name (shown ++ ask ∷ two ∷ one ∷ []) name (split shown (ask ∷ two ∷ one ∷ []) name []) refl c).1 in
    let b = (next_added (shown ++ ask ∷ two ∷ []) one (split shown (ask ∷ two ∷ []) one (name ∷ [])) refl refl a).1 in
    let d = (next_added (shown ++ ask ∷ []) two (split shown (ask ∷ []) two (one ∷ name ∷ [])) refl refl b).1 in
    let opened = next_asked shown ask refl refl d in
    absurd (let e = (opened.known refl).outcome in cc)
  where
    split : (xs ys : List Step) (s : Step) (zs : List Step) → xs ++ (ys ++ s ∷ zs) ≡ (xs ++ ys) ++ s ∷ zs
    split [] ys s zs = refl
    split (x ∷ xs) ys s zs = ap (λ ws. x ∷ ws) (split xs ys s zs)

no_fit : (earlier : List Step) (ls : List Literal) (c : List ℕ) → FitsExpected (checker_rules.knows earlier) earlier (Adds ls) (Assumptions c) → ⊥
no_fit earlier ls c f = let p = (fits_adds checker_rules earlier ls (Assumptions c)).0 f in absurd (let q = p.1 in cc)

pub without_rounds : KnownWithoutRounds
without_rounds o n c =
    let n0 = UserVarName 0 (Some 0) in
    let c0 = AddClause (0 ∷ []) in
    let c1 = AddClause (1 ∷ []) in
    let n1 = UserVarName 1 (Some 1) in
    let top : List Step = End ∷ Assumptions [] ∷ Assumptions [] ∷ [] in
    let a = (next_name (top ++ n1 ∷ c1 ∷ c0 ∷ []) n0 refl refl c).1 in
    let b = (next_added (top ++ n1 ∷ c1 ∷ []) c0 refl refl refl a).1 in
    let d = (next_added (top ++ n1 ∷ []) c1 refl refl refl b).1 in
    let e = (next_name top n1 refl refl d).1 in
    elim (left_added (End ∷ Assumptions [] ∷ []) (Assumptions []) refl refl refl e) [
      | inl f ↦ absurd (no_fit (n1 ∷ c1 ∷ c0 ∷ n0 ∷ []) (pos 2 ∷ []) [] f)
      | inr f ↦
          (let opened = next_asked (End ∷ Assumptions [] ∷ []) (Assumptions []) refl refl f in
          let known = opened.known refl in
          let same : n ≡ opened.rounds = (let e = opened.counts_are in cc) in
          (known.outcome, same ∙ known.rounds))
    ]

pub early : EarlyUncertified
early counts c =
    let n0 = UserVarName 0 (Some 0) in
    let c0 = AddClause (0 ∷ []) in
    let n1 = UserVarName 1 (Some 1) in
    let c1 = AddClause (1 ∷ 2 ∷ []) in
    let c2 = AddClause (3 ∷ []) in
    let n2 = UserVarName 2 (Some 2) in
    let top : List Step = End ∷ Assumptions [] ∷ Assumptions [] ∷ [] in
    let a = (next_name (top ++ n2 ∷ c2 ∷ c1 ∷ n1 ∷ c0 ∷ []) n0 refl refl c).1 in
    let b = (next_added (top ++ n2 ∷ c2 ∷ c1 ∷ n1 ∷ []) c0 refl refl refl a).1 in
    let d = (next_name (top ++ n2 ∷ c2 ∷ c1 ∷ []) n1 refl refl b).1 in
    let e = (next_added (top ++ n2 ∷ c2 ∷ []) c1 refl refl refl d).1 in
    let f = (next_added (top ++ n2 ∷ []) c2 refl refl refl e).1 in
    let g = (next_name top n2 refl refl f).1 in
    no_fit (n2 ∷ c2 ∷ c1 ∷ n1 ∷ c0 ∷ n0 ∷ []) (pos 3 ∷ []) [] (next_added (End ∷ Assumptions [] ∷ []) (Assumptions []) refl refl refl g).0

pub unknown : UnknownUncertified
unknown hashes counts c =
    let derived = AtClause false [] hashes in
    let top : List Step = End ∷ Assumptions [] ∷ derived ∷ Assumptions [] ∷ [] in
    let n0 = UserVarName 0 (Some 0) in
    let c0 = AddClause (0 ∷ []) in
    let n1 = UserVarName 1 (Some 1) in
    let c1 = AddClause (1 ∷ 2 ∷ []) in
    let c2 = AddClause (3 ∷ []) in
    let n2 = UserVarName 2 (Some 2) in
    let c3 = AddClause (4 ∷ []) in
    let a = (next_name (top ++ c3 ∷ n2 ∷ c2 ∷ c1 ∷ n1 ∷ c0 ∷ []) n0 refl refl c).1 in
    let b = (next_added (top ++ c3 ∷ n2 ∷ c2 ∷ c1 ∷ n1 ∷ []) c0 refl refl refl a).1 in
    let d = (next_name (top ++ c3 ∷ n2 ∷ c2 ∷ c1 ∷ []) n1 refl refl b).1 in
    let e = (next_added (top ++ c3 ∷ n2 ∷ c2 ∷ []) c1 refl refl refl d).1 in
    let f = (next_added (top ++ c3 ∷ n2 ∷ []) c2 refl refl refl e).1 in
    let g = (next_name (top ++ c3 ∷ []) n2 refl refl f).1 in
    let h = (next_added top c3 refl refl refl g).1 in
    let opened = next_asked (End ∷ Assumptions [] ∷ derived ∷ []) (Assumptions []) refl refl h in
    let more = next_other (End ∷ Assumptions [] ∷ []) derived refl refl opened.leads in
    absurd (let k = next_closed (End ∷ []) (Assumptions []) refl refl refl more in cc)

pub end_alone : EndAloneUncertified
end_alone outcomes counts c = let p = (fits_new_name checker_rules [] 1 End).0 (next_name [] End refl refl c).0 in absurd (let q = p.2 in cc)

no_clause : (counts : List ℕ) → Certifies checker_rules (End ∷ UserVarName 0 (Some 0) ∷ []) None (UserVarName 0 (Some 0) ∷ []) (Adds (pos 1 ∷ []) ∷ Finish ∷ []) counts → ⊥
no_clause counts c = let p = (fits_adds checker_rules (UserVarName 0 (Some 0) ∷ []) (pos 1 ∷ []) End).0 (next_added [] End refl refl refl c).0 in absurd (let q = p.1 in cc)

pub clause_needed : ClauseUncertified
clause_needed counts c = no_clause counts (next_name (End ∷ []) (UserVarName 0 (Some 0)) refl refl c).1

no_model : (counts : List ℕ) → Certifies checker_rules (End ∷ Assumptions [] ∷ Assumptions [] ∷ []) (Some (Sat [])) (Assumptions [] ∷ []) (Shows [] [] [] ∷ Closes ∷ Finish ∷ []) counts → ⊥
no_model counts (left_out m none c) = m
no_model counts (other {step = next} o c) = no_other (End ∷ []) (Assumptions []) refl refl next o c
no_model counts (ordered {step = next} s f c) =
    let e = is_next (End ∷ []) (Assumptions []) next refl c in
    let p = (fits_shows checker_rules (Assumptions [] ∷ []) [] [] [] (Assumptions [])).0 (subst (λ x. FitsExpected (checker_rules.knows (Assumptions [] ∷ [])) (Assumptions [] ∷ []) (Shows [] [] []) x) e f) in
    absurd (let q = p.1 in cc)

pub model_needed : ModelUncertified
model_needed counts c = let opened = next_asked (End ∷ Assumptions [] ∷ []) (Assumptions []) refl refl c in no_model opened.rest opened.leads

-- if nothing is expected, no step follows
none_following : {all : List Step} {current : Option Outcome} {earlier : List Step} {es : List Expected} {counts : List ℕ} → Certifies checker_rules all current earlier es counts → es ≡ [] → all ≡ earlier
none_following complete e = refl
none_following (left_out m none c) e = absurd (cc)
none_following (other o c) e = absurd (cc)
none_following (ordered s f c) e = absurd (cc)
none_following (asked k f c) e = absurd (cc)
none_following (answered k f c) e = absurd (cc)

pub following_end : AfterEndUncertified
following_end step counts (left_out m none c) = m
following_end step counts (other {step = next} o c) = no_other (step ∷ []) End refl refl next o c
following_end step counts (ordered {step = next} s f c) = let e = none_following c refl in absurd (let l : length (step ∷ End ∷ []) ≡ length (next ∷ []) = ap length e in cc)
