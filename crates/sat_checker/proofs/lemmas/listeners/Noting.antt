-- What is noted about a step that announces nothing, and about a derived clause.
use Rattle.std.proofs.Common.{ℕ, ◌+◌, ◌*◌, ◌≤◌, ◌≡◌, Bool, true, false, cond, List, [], ◌∷◌, ◌++◌, Option, Result, Ok, Err, refl, sym, ◌∙◌, ap, subst, arith, IsTrue}
use Rattle.std.specs.Result.{OnOk}
use Rattle.sat_base.specs.steps.Steps as steps
use Rattle.sat_base.specs.steps.Steps.{Step, AddClause, DeleteClause}
use Rattle.sat_checker.specs.Stored.{Stored}
use Rattle.sat_checker.specs.LiteralSets.{canonical, is_tautology}
use Rattle.sat_checker.specs.announcements.Announcements.{Announcement, TautologicalClause, announced, announced_derived, announced_derived_set, id_of_set, announced_input, announced_input_set}
use Rattle.sat_checker.specs.announcements.Needed.{propagations}
use Rattle.sat_checker.specs.listeners.AnnouncingView.{announced_change, deletion_announced}
use Rattle.sat_checker.specs.listeners.NotedView.{AppendsAnnouncements, Announces}
use Rattle.sat_checker.specs.declared.announce.step_announcements.StoreClauseResult.{StoreClauseResult}
use Rattle.sat_checker.specs.declared.announce.step_announcements.Deletion.{Deletion}
use Rattle.sat_checker.specs.declared.announce.notes.Notes.{Notes}
use Rattle.sat_checker.specs.declared.state.CheckerState.{CheckerState}
use Rattle.sat_checker.specs.declared.store.StoreError.{StoreError}
use Rattle.sat_checker.proofs.lemmas.sets.Canonical.{canonical_tautology}

pub none_following : (xs : List Announcement) → xs ++ [] ≡ xs
none_following [] = refl
none_following (x ∷ xs) = ap (λ ys. x ∷ ys) (none_following xs)

pub none_added : (notes : Notes) → AppendsAnnouncements notes [] notes
none_added notes = λ h. sym (none_following notes.news)

pub nothing_noted : (r : Result Bool StoreError) (old : CheckerState) (step : Step) (notes : Notes) → ((f : Stored) → announced f step ≡ []) → Announces r old step notes notes
nothing_noted (Ok b) old step notes e = λ _ f k a h. none_added notes h ∙ ap (λ x. notes.news ++ x) (sym (e f))
nothing_noted (Err d) old step notes e = tt

-- what is noted about an input clause, given whether unsat is recorded
pub input_noted : (f : Stored) (clause : List ℕ) (before after : Notes) → f.unsat ≡ false → AppendsAnnouncements before (announced_input clause f) after → AppendsAnnouncements before (announced f (AddClause clause)) after
input_noted f clause before after e a = λ h. a h ∙ ap (λ b. before.news ++ cond b [] (announced_input clause f)) (sym e)

pub unsat_noted : (f : Stored) (clause : List ℕ) (notes : Notes) → f.unsat ≡ true → AppendsAnnouncements notes (announced f (AddClause clause)) notes
unsat_noted f clause notes e = λ h. none_added notes h ∙ ap (λ b. notes.news ++ cond b [] (announced_input clause f)) (sym e)

-- the announcement of an input clause, given its sorted literals
pub input_reported : (new old : List Announcement) (id : ℕ) (both : Bool) (same : Option ℕ) (ls clause : List ℕ) (f : Stored) → new ≡ old ++ cond both (TautologicalClause id ls ∷ []) (announced_input_set id ls same) → id ≡ f.next_id → both ≡ is_tautology ls → same ≡ id_of_set ls f → ls ≡ canonical clause
    → new ≡ old ++ announced_input clause f
input_reported new old id both same ls clause f e next signs is set =
    e ∙ ap (λ i. old ++ cond both (TautologicalClause i ls ∷ []) (announced_input_set i ls same)) next ∙ ap (λ b. old ++ cond b (TautologicalClause f.next_id ls ∷ []) (announced_input_set f.next_id ls same)) signs
    ∙ ap (λ o. old ++ cond (is_tautology ls) (TautologicalClause f.next_id ls ∷ []) (announced_input_set f.next_id ls o)) is
    ∙ ap (λ xs. old ++ cond (is_tautology xs) (TautologicalClause f.next_id xs ∷ []) (announced_input_set f.next_id xs (id_of_set xs f))) set
    ∙ ap (λ b. old ++ cond b (TautologicalClause f.next_id (canonical clause) ∷ []) (announced_input_set f.next_id (canonical clause) (id_of_set (canonical clause) f))) (canonical_tautology clause)

-- the announcement of a deletion
pub deletion_noted : (f : Stored) (clause : List ℕ) (proof : steps.Deletion) (literals : List ℕ) (deletion : Deletion) (before after : Notes) → (IsTrue before.listening → deletion_announced literals deletion ≡ announced f (DeleteClause clause proof)) → AppendsAnnouncements before (deletion_announced literals deletion) after
    → AppendsAnnouncements before (announced f (DeleteClause clause proof)) after
deletion_noted f clause proof literals deletion before after e a = λ h. a h ∙ ap (λ x. before.news ++ x) (e h)

pub on_ok : {A E : Type 0} (r : Result A E) (P Q : Type 0) → (P → Q) → OnOk r P → OnOk r Q
on_ok (Ok x) P Q w h = w h
on_ok (Err e) P Q w h = tt

pub always_ok : {A E : Type 0} (r : Result A E) (P : Type 0) → P → OnOk r P
always_ok (Ok x) P h = h
always_ok (Err e) P h = tt

-- if the change matches what deriving announces, its announcement is that of the derived clause
pub derived_noted : (new old : List Announcement) (change : StoreClauseResult) (id : ℕ) (redundant both : Bool) (clause literals hashes ids : List ℕ) (f : Stored) → new ≡ old ++ announced_change change id redundant literals ids → id ≡ f.next_id
    → announced_change change f.next_id redundant literals ids ≡ cond both [] (announced_derived_set redundant literals ids f (id_of_set literals f)) → both ≡ is_tautology clause → literals ≡ canonical clause → ids ≡ propagations f clause hashes → new ≡ old ++ announced_derived redundant clause hashes f
derived_noted new old change id redundant both clause literals hashes ids f e next stored signs set listed =
    e ∙ ap (λ i. old ++ announced_change change i redundant literals ids) next ∙ ap (λ x. old ++ x) stored ∙ ap (λ b. old ++ cond b [] (announced_derived_set redundant literals ids f (id_of_set literals f))) signs
    ∙ ap (λ ls. old ++ cond (is_tautology clause) [] (announced_derived_set redundant ls ids f (id_of_set ls f))) set ∙ ap (λ is. old ++ cond (is_tautology clause) [] (announced_derived_set redundant (canonical clause) is f (id_of_set (canonical clause) f))) listed

-- the looks of one pass that files the clauses, of the check, of its notes, and of one more pass
once_more : (n l : ℕ) → (5 + 2 * n) * l ≡ n * l + (n * l + 5 * l)
once_more n l = grind arith

pub looks_judged : (before old mid n l : ℕ) → old ≤ before + l → mid ≤ old + n * l → mid ≤ before + (5 + 2 * n) * l
looks_judged before old mid n l b h = let e = once_more n l in omega arith

pub looks_noted : (before old mid noted len n l : ℕ) → old ≤ before + l → mid ≤ old + n * l → len + old ≤ mid → noted ≤ mid + (len + l) → noted ≤ before + (5 + 2 * n) * l
looks_noted before old mid noted len n l b h r k = let e = once_more n l in omega arith

pub looks_followed : (before old mid noted len n l : ℕ) → old ≤ before + l → mid ≤ old + n * l → len + old ≤ mid → noted ≤ mid + len → noted ≤ before + (5 + 2 * n) * l
looks_followed before old mid noted len n l b h r k = let e = once_more n l in omega arith

-- what was noted after notes with the same news
pub noted_after : (before mid after : Notes) (reported : List Announcement) → mid.listening ≡ before.listening → mid.news ≡ before.news → AppendsAnnouncements mid reported after → AppendsAnnouncements before reported after
noted_after before mid after reported h n a = λ t. a (subst IsTrue (sym h) t) ∙ ap (λ xs. xs ++ reported) n
