-- Worked examples of names, modes, answers, propagations and transcripts, proved by computing.
use Rattle.std.proofs.Common.{ℕ, ◌≡◌, ◌≢◌, ◌||◌, Bool, true, false, cond, eqb, List, [], ◌∷◌, ◌++◌, map, refl, sym, ◌∙◌, ap, subst, inr, Some, None}
use Rattle.std.proofs.lemmas.List.{append-nil, map-append}
use Rattle.sat_base.specs.values.Literals.{negated}
use Rattle.sat_base.specs.values.Hashes.{hash_of}
use Rattle.sat_base.specs.steps.Steps.{Step, AddClause, AtClause, Assumptions}
use Rattle.sat_checker.specs.Accepts.{PassesByHashes, CanGetName, stored_after, ready_after}
use Rattle.sat_checker.specs.Stored.{Sample, Witness, Stored, StoredClause, bucket, unit_literals, initial_variable}
use Rattle.sat_checker.specs.Propagation.{unit_true, tautology}
use Rattle.sat_checker.specs.Rows.{AllAccepted, in_certificate_order, ready_by}
use Rattle.sat_checker.specs.inner.Walk.{walk_buckets}
use Rattle.sat_checker.specs.announcements.Announcements as announcements
use Rattle.sat_checker.specs.announcements.Announcements.{Announcement, Notice, announced, delayed_announcement, notices_after, notices_of}
use Rattle.sat_checker.specs.announcements.Rows.{announcements_of, NameOfUnknown, as_witness, NameOfKnown, NameRemoved, SolverNameSet, ModeChanged, ModeUnchanged, ModeOfNameless, ModelAnnounced, AssumedAnnounced, CoreAnnounced, CoreOfBothSigns, OthersAnnounce, units_and_clauses, UnitsFirst, AssumedUnitsLeftOut, UnneededClauseLeftOut, OnlyLowestUnit, NameOfUnknownTranscribed, NameOfKnownTranscribed, NameRemovedTranscribed, ModesTranscribed, InputsTranscribed, RefutedTranscribed, OthersTranscribed, AnswersTranscribed}
use Rattle.sat_checker.proofs.lemmas.rows.Accepted.{walked}
use Rattle.sat_checker.proofs.lemmas.announcements.Notices.{first_name}
use Rattle.sat_checker.proofs.lemmas.announcements.Clauses.{input_new, input_duplicate, input_tautology, derived_irredundant, redundant_gone, satisfied_kept}

pub name_new : NameOfUnknown
name_new = ((tt, first_name 7), refl)

witness_may : CanGetName (ready_by as_witness) 0 7
witness_may = record { free = λ w e. none_left (eqb w 0) (eqb 0 w || false) e; nameless = refl; not_hidden = λ e. cc }
  where
    none_left : (b d : Bool) → (cond b (record { known = true; mode = Witness; name = None }) (cond d (record { known = true; mode = Sample; name = None }) initial_variable)).name ≢ Some 7
    none_left true d e = cc
    none_left false true e = cc
    none_left false false e = cc

pub name_of_known : NameOfKnown
name_of_known = ((((tt, tt), refl), witness_may), refl)

pub name_removed : NameRemoved
name_removed = (((tt, first_name 7), λ e. cc), refl)

pub solver_name : SolverNameSet
solver_name = ((tt, tt), refl)

pub mode_changed : ModeChanged
mode_changed = (((tt, first_name 7), refl), refl)

pub mode_left : ModeUnchanged
mode_left = (((tt, first_name 7), refl), refl)

pub mode_nameless : ModeOfNameless
mode_nameless = (((tt, tt), refl), refl)

pub modelled : ModelAnnounced
modelled = (((tt, inr (refl, (refl, tt))), record { consistent = refl; apart = (refl, (refl, tt)); units = tt; clauses = (inr refl, tt) }), refl)

pub assumed : AssumedAnnounced
assumed = ((tt, tt), refl)

pub core_failed : CoreAnnounced
core_failed = ((((tt, inr (refl, (refl, tt))), tt), (refl, walked (ready_by (AddClause (1 ∷ 3 ∷ []) ∷ Assumptions (2 ∷ 0 ∷ []) ∷ [])) (3 ∷ 1 ∷ 3 ∷ []) (hash_of (1 ∷ 3 ∷ []) ∷ []) refl)), refl)

pub both_signs : CoreOfBothSigns
both_signs = ((((tt, inr (refl, tt)), tt), (refl, tautology refl)), refl)

pub others_report : OthersAnnounce
others_report = (((tt, tt), refl), ((tt, tt), refl), (((tt, inr (refl, tt)), record { known = refl; nameless = refl; unused = refl; not_assumed = refl }), refl))

-- notices of announcements contain exactly these announcements
reported_again : (f : Stored) (xs : List Announcement) → announcements_of (notices_of f xs) ≡ xs
reported_again f [] = refl
reported_again f (x ∷ xs) = ap (λ ys. x ∷ ys) (reported_again f xs)

-- if nothing was delayed, the announcements of the last step follow the earlier ones
reports_last : (earlier : List Step) (last : Step) (reported : List Announcement) → delayed_announcement (stored_after earlier) ≡ [] → announced (ready_after earlier) last ≡ reported → announcements_of (notices_after (last ∷ earlier)) ≡ announcements_of (notices_after earlier) ++ reported
reports_last earlier last reported d a =
    let s : Stored = stored_after earlier in
    let r : Stored = ready_after earlier in
    let waiting = map-append (λ (t : Notice). t.announcement) (notices_after earlier) (notices_of s (delayed_announcement s)) ∙ ap (λ xs. announcements_of (notices_after earlier) ++ xs) (reported_again s (delayed_announcement s) ∙ d) ∙ append-nil (announcements_of (notices_after earlier)) in
    map-append (λ (t : Notice). t.announcement) (notices_after earlier ++ notices_of s (delayed_announcement s)) (notices_of r (announced r last)) ∙ ap (λ xs. xs ++ announcements_of (notices_of r (announced r last))) waiting
    ∙ ap (λ xs. announcements_of (notices_after earlier) ++ xs) (reported_again r (announced r last) ∙ a)

abbrev long : ℕ → List ℕ → StoredClause
long id literals = record { id = id; literals = literals; irredundant = 1; redundant = 0 }

-- what is stored after `units_and_clauses`, computed once
abbrev held : Stored
held = record (ready_by units_and_clauses) {
  clauses = long 2 (3 ∷ 4 ∷ 8 ∷ []) ∷ long 3 (1 ∷ 6 ∷ []) ∷ long 4 (10 ∷ 12 ∷ []) ∷ long 5 (5 ∷ 7 ∷ 8 ∷ []) ∷ [];
  units = (record { id = 0; literal = 0 }) ∷ (record { id = 1; literal = 2 }) ∷ [];
  next_id = 6;
}

held_is : ready_by units_and_clauses ≡ held
held_is = refl

all_taken : AllAccepted units_and_clauses
all_taken = (((((((tt, inr (refl, tt)), inr (refl, tt)), inr (refl, (refl, (refl, tt)))), inr (refl, (refl, tt))), inr (refl, (refl, tt))), inr (refl, (refl, (refl, tt)))), tt)

after_them : (last : Step) (reported : List Announcement) → announced held last ≡ reported → announcements_of (notices_after (last ∷ in_certificate_order units_and_clauses [])) ≡ announcements_of (notices_after (in_certificate_order units_and_clauses [])) ++ reported
after_them last reported a = reports_last (in_certificate_order units_and_clauses []) last reported refl (ap (λ f. announced f last) held_is ∙ a)

passes_there : (clause : List ℕ) → walk_buckets (map negated clause ++ unit_literals held) (map (bucket held) (0 ∷ [])) ≡ true → PassesByHashes (ready_by units_and_clauses) clause (0 ∷ [])
passes_there clause e = subst (λ f. PassesByHashes f clause (0 ∷ [])) (sym held_is) (walked held clause (0 ∷ []) e)

pub units_first : UnitsFirst
units_first = ((all_taken, passes_there (8 ∷ 14 ∷ []) refl), after_them (AtClause true (8 ∷ 14 ∷ []) (0 ∷ [])) (announcements.AtClause 6 true (8 ∷ 14 ∷ []) (0 ∷ 1 ∷ 2 ∷ 3 ∷ 5 ∷ []) ∷ []) refl)

pub units_held : AssumedUnitsLeftOut
units_held = ((all_taken, passes_there (8 ∷ 1 ∷ 3 ∷ []) refl), after_them (AtClause true (8 ∷ 1 ∷ 3 ∷ []) (0 ∷ [])) (announcements.AtClause 6 true (1 ∷ 3 ∷ 8 ∷ []) (2 ∷ 3 ∷ 5 ∷ []) ∷ []) refl)

pub not_needed : UnneededClauseLeftOut
not_needed = ((all_taken, passes_there (8 ∷ 10 ∷ []) refl), after_them (AtClause true (8 ∷ 10 ∷ []) (0 ∷ [])) (announcements.AtClause 6 true (8 ∷ 10 ∷ []) (0 ∷ 1 ∷ 2 ∷ 3 ∷ 5 ∷ []) ∷ []) refl)

pub unit_alone : OnlyLowestUnit
unit_alone = (((((tt, inr (refl, tt)), inr (refl, tt)), inr (refl, (refl, tt))), unit_true refl), refl)

pub name_new_read : NameOfUnknownTranscribed
name_new_read = (name_new.0, refl)

pub name_of_known_read : NameOfKnownTranscribed
name_of_known_read = (name_of_known.0, refl)

pub name_removed_read : NameRemovedTranscribed
name_removed_read = (name_removed.0, refl)

pub modes_read : ModesTranscribed
modes_read = ((mode_changed.0, refl), ((mode_changed.0, refl), refl))

pub inputs_read : InputsTranscribed
inputs_read = ((input_new.0, refl), (input_duplicate.0, refl), (input_tautology.0, refl), ((tt, inr tt), refl))

pub refuted_read : RefutedTranscribed
refuted_read = refl

pub others_read : OthersTranscribed
others_read = ((derived_irredundant.0, refl), (redundant_gone.0, refl), (satisfied_kept.0, refl), (others_report.2.0, refl))

pub answers_read : AnswersTranscribed
answers_read = (
  ((((((tt, first_name 7), tt), refl)), record { consistent = refl; apart = (refl, (refl, (refl, tt))); units = tt; clauses = tt }), refl),
  (((((tt, first_name 7), tt), refl), tt), refl),
  (((((((tt, first_name 7), tt), refl)), tt), (refl, tautology refl)), refl),
)
