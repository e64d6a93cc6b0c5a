-- The steps made between two places are written between two places, with as many empowering clauses.
use Rattle.std.proofs.Common.{ℕ, ◌≡◌, ◌∙◌, Bool, true, false, Option, Some, None, List, [], ◌∷◌, ◌++◌, refl, sym, ap, subst, inl, inr, append_assoc, append-nil}
use Rattle.std.specs.Prelude.{nat_eq, if◌then◌else◌}
use Rattle.std.specs.List.{AllByRecursion}
use Rattle.sat_base.specs.steps.Steps.{Step, SolverVarName, ChangeHashBits}
use Rattle.sat_checker.specs.Accepts.{ready_after}
use Rattle.sat_checker.specs.Contents.{ProofState, Contents, contents_after, contents_of}
use Rattle.sat_checker.specs.Stored.{Stored}
use Rattle.sat_checker.specs.matching.Checking.{is_ordered}
use Rattle.sat_checker.specs.matching.ProofChecking.{checker_rules}
use Rattle.sat_checker.proofs.lemmas.contents.Steps.{contents_of_steps}
use Rattle.sat_solver.specs.declared.proof.hash_bits.Counting.{Counting}
use Rattle.sat_solver.specs.session.Quiet.{IsNeverEmpowering}
use Rattle.sat_solver.specs.schedule.Solving as made
use Rattle.sat_solver.specs.proof.Counting.{TruncatesHashes, none_made, ask_begun, one_made, width_change, written_for, counting_after}
use Rattle.sat_solver.specs.session.Session.{Session, session_after}
use Rattle.sat_solver.specs.proof.Widths.{narrowed}
use Rattle.certify.specs.run.Empowering.{DerivesEmpowering, CountsEmpoweringFor, AreUnordered}
use Rattle.certify.proofs.lemmas.run.Advanced.{IsSame, advancing_as, cuts_state, is_same, never_as, change_wide}

-- STEPS THAT DERIVE AND RECORD NOTHING

-- `IsAside step` holds if the step sets the index of a variable, or the width.
pub data IsAside : Step → Type 0 where
  index_aside : {v : ℕ} {index : Option ℕ} → IsAside (SolverVarName v index)
  width_aside : {bits : ℕ} → IsAside (ChangeHashBits bits)

abbrev pub AreAside : List Step → Type 0
AreAside = AllByRecursion IsAside

aside_unordered : {step : Step} → IsAside step → is_ordered step ≡ false
aside_unordered index_aside = refl
aside_unordered width_aside = refl

pub asides_unordered : (xs : List Step) → AreAside xs → AreUnordered xs
asides_unordered [] h = tt
asides_unordered (x ∷ xs) h = (aside_unordered h.0, asides_unordered xs h.1)

pub append_unordered : (xs ys : List Step) → AreUnordered xs → AreUnordered ys → AreUnordered (xs ++ ys)
append_unordered [] ys h k = k
append_unordered (x ∷ xs) ys h k = (h.0, append_unordered xs ys h.1 k)

pub reported_aside : (before now : ℕ) → AreAside (width_change before now)
reported_aside before now = go (nat_eq before now)
  where
    go : (same : Bool) → AreAside (if same then [] else ChangeHashBits now ∷ [])
    go true = tt
    go false = (width_aside, tt)

-- such a step never advances among the steps that were made
aside_still : {step : Step} (s : Session) → IsAside step → made.IsNeverEmpoweringByForm s step
aside_still s index_aside = record { quiet = refl; never = tt }
aside_still s width_aside = record { quiet = refl; never = tt }

pub asides_still : (earlier front xs : List Step) (k : ℕ) → AreAside front → made.CountsEmpowering earlier xs k → made.CountsEmpowering earlier (front ++ xs) k
asides_still earlier [] xs k h t = t
asides_still earlier (s ∷ front) xs k h t = inl (asides_still earlier front xs k h.1 t, aside_still (session_after ((front ++ xs) ++ earlier)) h.0)

pub after_asides : (earlier mid xs : List Step) (k : ℕ) → AreAside mid → made.CountsEmpowering (mid ++ earlier) xs k → made.CountsEmpowering earlier (xs ++ mid) k
after_asides earlier mid [] k h t =
    let none : k ≡ 0 = t in
    subst (λ (n : ℕ). made.CountsEmpowering earlier mid n) (sym none) (subst (λ (ms : List Step). made.CountsEmpowering earlier ms 0) (append-nil mid) (asides_still earlier mid [] 0 h refl))
after_asides earlier mid (x ∷ xs) k h (inl (t, still)) =
    inl (after_asides earlier mid xs k h t, subst (λ (v : List Step). made.IsNeverEmpoweringByForm (session_after v) x) (sym (append_assoc xs mid earlier)) still)
after_asides earlier mid (x ∷ xs) k h (inr (j, e, a, t)) =
    inr (j, e, subst (λ (v : List Step). made.IsEmpoweringStep (session_after v) x) (sym (append_assoc xs mid earlier)) a, after_asides earlier mid xs j h t)

-- it never advances among the written steps
aside_never : {step : Step} (f : Stored) → IsAside step → DerivesEmpowering f step → ⊥
aside_never f index_aside a = a
aside_never f width_aside a = a

pub asides_never : (earlier front xs : List Step) (k : ℕ) → AreAside front → CountsEmpoweringFor earlier xs k → CountsEmpoweringFor earlier (front ++ xs) k
asides_never earlier [] xs k h t = t
asides_never earlier (s ∷ front) xs k h t = inl (asides_never earlier front xs k h.1 t, aside_never (ready_after ((front ++ xs) ++ earlier)) h.0)

-- unsat is recorded exactly if the stored state has it
unsat_is : (steps : List Step) → checker_rules.unsat steps ≡ (contents_of steps).state.unsat
unsat_is steps = ap (λ (c : Contents). c.state.unsat) (contents_of_steps steps)

aside_unsat : {step : Step} (c : Contents) → IsAside step → (contents_after step c).state.unsat ≡ c.state.unsat
aside_unsat c (index_aside {index = None}) = refl
aside_unsat c (index_aside {index = Some x}) = refl
aside_unsat c width_aside = refl

asides_contents : (front earlier : List Step) → AreAside front → (contents_of (front ++ earlier)).state.unsat ≡ (contents_of earlier).state.unsat
asides_contents [] earlier h = refl
asides_contents (s ∷ front) earlier h = aside_unsat (contents_of (front ++ earlier)) h.0 ∙ asides_contents front earlier h.1

pub asides_unsat : (front earlier : List Step) → AreAside front → checker_rules.unsat (front ++ earlier) ≡ checker_rules.unsat earlier
asides_unsat front earlier h = unsat_is (front ++ earlier) ∙ asides_contents front earlier h ∙ sym (unsat_is earlier)

-- cutting hashes does not change whether unsat is recorded
pub cut_unsat : {c d : Counting} {m w : List Step} → TruncatesHashes c m w d → checker_rules.unsat w ≡ checker_rules.unsat m
cut_unsat {m = m} {w = w} p = unsat_is w ∙ ap (λ (x : ProofState). x.unsat) (cuts_state p).1 ∙ sym (unsat_is m)

-- BETWEEN TWO PLACES

pub record Split (c : Counting) (made written : List Step) : Type 0 where
  pub front : List Step
  pub back : List Step
  pub mid : Counting
  pub whole : written ≡ front ++ back
  pub cuts : TruncatesHashes c made back mid

pub none_first : {A : Type 0} (s : Step) (ss : List Step) → ◌≡◌ {A = List Step} [] (s ∷ ss) → A
none_first s ss e = absurd (cc)

pub same_later : (s t : Step) (ss ts : List Step) → ◌≡◌ {A = List Step} (s ∷ ss) (t ∷ ts) → ss ≡ ts
same_later s t ss ts e = cc

pub same_first : (s t : Step) (ss ts : List Step) → ◌≡◌ {A = List Step} (s ∷ ss) (t ∷ ts) → s ≡ t
same_first s t ss ts e = cc

-- steps that were cut are split where the steps that were made are
pub split : {c d : Counting} {m w : List Step} → TruncatesHashes c m w d → (later made : List Step) → m ≡ later ++ made → Split c made w
split {c} {d} {m} {w} p [] made e = record { front = []; back = w; mid = d; whole = refl; cuts = subst (λ (n : List Step). TruncatesHashes c n w d) e p }
split none_made (s ∷ later) made e = none_first s (later ++ made) e
split {c} {d} {m} {w} (ask_begun {d = k} p) (s ∷ later) made e = split {c = c} {d = k} {m = m} {w = w} p (s ∷ later) made e
split (one_made {d = d} {made = m} {written = w} step k p) (s ∷ later) made e =
    let q = split p later made (same_later step s m (later ++ made) e) in
    let f = written_for d.bits (counting_after step d).bits step in
    record {
      front = f ++ q.front;
      back = q.back;
      mid = q.mid;
      whole = ap (λ (v : List Step). f ++ v) q.whole ∙ sym (append_assoc f q.front q.back);
      cuts = q.cuts;
    }

pub narrowed_order : (w : ℕ) (step : Step) → is_ordered (narrowed w step) ≡ is_ordered step
narrowed_order w (SolverVarName v name) = refl
narrowed_order w step = refl

unordered_more : (now before : ℕ) (step s : Step) → step ≡ s → (middle : List Step) → is_ordered s ≡ false → AreUnordered middle → AreUnordered (written_for before now step ++ middle)
unordered_more now before step s e middle u h = (narrowed_order now step ∙ ap is_ordered e ∙ u, append_unordered (width_change before now) middle (asides_unordered (width_change before now) (reported_aside before now)) h)

pub record Timed (c : Counting) (opened written steps : List Step) (k : ℕ) : Type 0 where
  pub middle : List Step
  pub before : List Step
  pub mid : Counting
  pub whole : written ≡ middle ++ before
  pub cuts : TruncatesHashes c opened before mid
  pub times : CountsEmpoweringFor before middle k
  pub unordered : AreUnordered steps → AreUnordered middle

-- how the last step was written, after any change of the width, and what was written before it
pub record Head (c : Counting) (step : Step) (made written : List Step) : Type 0 where
  pub bits : ℕ
  pub widths : List Step
  pub back : List Step
  pub mid : Counting
  pub whole : written ≡ narrowed bits step ∷ (widths ++ back)
  pub aside : AreAside widths
  pub cuts : TruncatesHashes c made back mid

pub head_cut : {c d : Counting} {m w : List Step} → TruncatesHashes c m w d → (step : Step) (made : List Step) → m ≡ step ∷ made → Head c step made w
head_cut none_made step made e = none_first step made e
head_cut {c} {d} {m} {w} (ask_begun {d = k} p) step made e = head_cut {c = c} {d = k} {m = m} {w = w} p step made e
head_cut {c} (one_made {d = d} {made = m} {written = w} s k p) step made e =
    let now = (counting_after s d).bits in
    record {
      bits = now;
      widths = width_change d.bits now;
      back = w;
      mid = d;
      whole = ap (λ (x : Step). narrowed now x ∷ (width_change d.bits now ++ w)) (same_first s step m made e);
      aside = reported_aside d.bits now;
      cuts = subst (λ (ms : List Step). TruncatesHashes c ms w d) (same_later s step m made e) p;
    }

-- `Here d step m w` holds if before the step is written, the checker agrees with the session.
record Here (d : Counting) (step : Step) (m w : List Step) : Type 0 where
  same : IsSame (ready_after (width_change d.bits (counting_after step d).bits ++ w)) (session_after m)

here : {c d : Counting} {m w : List Step} (step : Step) → TruncatesHashes c m w d → Here d step m w
here {d = d} {m = m} {w = w} step p =
    let now = (counting_after step d).bits in
    let h = cuts_state p in
    let wider = change_wide (nat_eq d.bits now) now w (contents_of m).state h.0 h.1 in
    record { same = is_same (width_change d.bits now ++ w) m wider.0 wider.1 }

-- the cut steps derive as many empowering clauses as the steps that were made
pub timed : {c d : Counting} {m w : List Step} → TruncatesHashes c m w d → (steps opened : List Step) (k : ℕ) → m ≡ steps ++ opened → made.CountsEmpowering opened steps k → Timed c opened w steps k
timed {c} {d} {m} {w} p [] opened k e t = record { middle = []; before = w; mid = d; whole = refl; cuts = subst (λ (n : List Step). TruncatesHashes c n w d) e p; times = t; unordered = λ u. tt }
timed none_made (s ∷ steps) opened k e t = none_first s (steps ++ opened) e
timed {c} {d} {m} {w} (ask_begun {d = b} p) (s ∷ steps) opened k e t = timed {c = c} {d = b} {m = m} {w = w} p (s ∷ steps) opened k e t
timed (one_made {d = d} {made = m} {written = w} step kw p) (s ∷ steps) opened k e (inl (t, still)) =
    let rest = same_later step s m (steps ++ opened) e in
    let first = same_first step s m (steps ++ opened) e in
    let q = timed p steps opened k rest t in
    let now = (counting_after step d).bits in
    let f = width_change d.bits now in
    let place : f ++ w ≡ (f ++ q.middle) ++ q.before = ap (λ (v : List Step). f ++ v) q.whole ∙ sym (append_assoc f q.middle q.before) in
    let never : IsNeverEmpowering (session_after m) step = subst (λ (x : Step). IsNeverEmpowering (session_after m) x) (sym first) (subst (λ (v : List Step). IsNeverEmpowering (session_after v) s) (sym rest) still.never) in
    record {
      middle = narrowed now step ∷ (f ++ q.middle);
      before = q.before;
      mid = q.mid;
      whole = ap (λ (v : List Step). narrowed now step ∷ v) place;
      cuts = q.cuts;
      times = inl (
        asides_never q.before f q.middle k (reported_aside d.bits now) q.times,
        subst (λ (v : List Step). DerivesEmpowering (ready_after v) (narrowed now step) → ⊥) place (never_as (f ++ w) (session_after m) (here step p).same now step never),
      );
      unordered = λ u. unordered_more now d.bits step s first q.middle u.0 (q.unordered u.1);
    }
timed (one_made {d = d} {made = m} {written = w} step kw p) (s ∷ steps) opened k e (inr (j, n, a, t)) =
    let rest = same_later step s m (steps ++ opened) e in
    let first = same_first step s m (steps ++ opened) e in
    let q = timed p steps opened j rest t in
    let now = (counting_after step d).bits in
    let f = width_change d.bits now in
    let place : f ++ w ≡ (f ++ q.middle) ++ q.before = ap (λ (v : List Step). f ++ v) q.whole ∙ sym (append_assoc f q.middle q.before) in
    let there : made.IsEmpoweringStep (session_after m) step = subst (λ (x : Step). made.IsEmpoweringStep (session_after m) x) (sym first) (subst (λ (v : List Step). made.IsEmpoweringStep (session_after v) s) (sym rest) a) in
    record {
      middle = narrowed now step ∷ (f ++ q.middle);
      before = q.before;
      mid = q.mid;
      whole = ap (λ (v : List Step). narrowed now step ∷ v) place;
      cuts = q.cuts;
      times = inr (
        j,
        n,
        subst (λ (v : List Step). DerivesEmpowering (ready_after v) (narrowed now step)) place (advancing_as (f ++ w) (session_after m) (here step p).same now step there),
        asides_never q.before f q.middle j (reported_aside d.bits now) q.times,
      );
      unordered = λ u. unordered_more now d.bits step s first q.middle u.0 (q.unordered u.1);
    }
