-- What the result of a confirmation says about the three texts.
use Rattle.std.proofs.Common.{ℕ, ◌+◌, ◌-◌, ◌^◌, ◌<◌, ◌≤◌, ◌≡◌, ◌↔◌, ◌⊎◌, inl, inr, min, true, false, List, ◌++◌, length, Result, Ok, Err, refl, subst, arith, []}
use Rattle.std.specs.Prelude.{IfOk}
use Rattle.sat_base.specs.device.Device.{Reader, GaveEnough, max_reads}
use Rattle.sat_base.specs.device.Reading.{Source, AtEnd, new_source}
use Rattle.sat_base.specs.script.ScriptState.{initial_state}
use Rattle.sat_base.specs.steps.Steps.{Step}
use Rattle.sat_base.proofs.lemmas.device.Given.{enough_as}
use Rattle.sat_checker.specs.KernelView.{kernel_looks}
use Rattle.sat_checker.specs.ProofView.{most_bytes}
use Rattle.sat_checker.specs.declared.kernel.Kernel.{Kernel}
use Rattle.certify.specs.confirm.Matches.{TextsMatch}
use Rattle.certify.specs.confirm.Streams.{CertificateCall, CanBeTotal, rest_in, certificate_state_in}
use Rattle.certify.specs.confirm.VerdictPromises.{AreRightAnswers, VerdictIsExact, GaveTextWith, IsSoundVerdict, ConfirmGuarantee, LooksAreBounded, command_count}
use Rattle.certify.specs.confirm.CertificateStates.{CertificateState}
use Rattle.certify.specs.confirm.FedSteps.{StepsAccountForLooks, FeedsSomeSteps}
use Rattle.certify.specs.confirm.Confirming.{ConfirmsRest, TableHoldsAt, NameTable}
use Rattle.certify.specs.confirm.CallResults.{Unconstrained}
use Rattle.certify.specs.confirm.ConfirmedScript.{ConfirmsScript, ConfirmPlace, confirm_result}
use Rattle.certify.specs.script.LastPiece.{ReadFailsAhead, NoReadFailedAhead, ConsumesSome, waiting_bytes}
use Rattle.sat_base.specs.script.Language.{reading}
use Rattle.certify.specs.declared.script.ahead.LastPiece.{LastPiece}
use Rattle.certify.specs.declared.confirm.stop.Stop.{Stop}
use Rattle.certify.specs.declared.confirm.stop.Stop.TheVariants as stop
use Rattle.certify.specs.declared.verdict.ConfirmFault.{ConfirmFault}
use Rattle.certify.specs.declared.verdict.ConfirmFault.TheVariants as fault
use Rattle.certify.specs.declared.verdict.Verdict.{Verdict}
use Rattle.certify.specs.declared.verdict.Verdict.TheVariants.{Yes, No}
use Rattle.certify.specs.declared.verdict.Why.{Why}
use Rattle.certify.proofs.lemmas.confirm.LeftByCommand.{left_begins}
use Rattle.certify.proofs.lemmas.confirm.FewBytes.{nothing_spent}
use Rattle.certify.proofs.lemmas.confirm.LooksBound.{takes_looks}
use Rattle.certify.proofs.lemmas.confirm.Streams.{confirms_so, few_given, gave_enough, moves_halt, read_fails, took_faulted, took_looks}
use Rattle.certify.proofs.lemmas.confirm.Walks.{looks_from, tries_if}
use Rattle.certify.proofs.lemmas.laws.Headlines.{matching_answers, same_matches}
use Rattle.certify.proofs.lemmas.confirm.ReadToEnd.{gave_right_answers}
use Rattle.certify.proofs.lemmas.confirm.Joining.{covers_given, took_kept}
use Rattle.certify.proofs.lemmas.script.FewCommands.{few_read}

-- RIGHT ANSWERS

-- an exact verdict is sound
pub sound_as : {E : Type 0} (r : Result Verdict E) (script answers certificate : Reader × Reader) → IfOk r (VerdictIsExact script answers certificate) → IfOk r (IsSoundVerdict script answers)
sound_as (Err e) script answers certificate h = tt
sound_as (Ok v) script answers certificate h = λ said. gave_right_answers script answers
    (enough_as script.0 script.1 (λ s. GaveTextWith answers (λ a. GaveTextWith certificate (λ c. (v ≡ Yes) ↔ TextsMatch s a c))) (λ s. GaveTextWith answers (AreRightAnswers s))
    (λ s g.
    enough_as answers.0 answers.1 (λ a. GaveTextWith certificate (λ c. (v ≡ Yes) ↔ TextsMatch s a c)) (AreRightAnswers s)
    (λ a k. matching_answers s a (k.text ++ []) ((k.holds [] (λ called ended. refl)).0 said)) g) h)

-- READS THAT FAILED

-- `ResultSays x a c y b d result` holds if the result is correct for three readers, with all their reads counted: a
-- verdict is exact, and at most one read failed, that of the text which the fault names.
abbrev pub ResultSays : Reader → Reader → Reader → Source → Source → Source → Result Verdict ConfirmFault → Type 0
ResultSays x a c y b d (Ok v) = NoReadFailedAhead (new_source x) y × NoReadFailedAhead (new_source a) b × NoReadFailedAhead (new_source c) d × VerdictIsExact (x, y.reader) (a, b.reader) (c, d.reader) v
ResultSays x a c y b d (Err fault.ScriptRead) = ReadFailsAhead (new_source x) y × NoReadFailedAhead (new_source a) b × NoReadFailedAhead (new_source c) d
ResultSays x a c y b d (Err fault.AnswersRead) = NoReadFailedAhead (new_source x) y × ReadFailsAhead (new_source a) b × NoReadFailedAhead (new_source c) d
ResultSays x a c y b d (Err fault.CertificateRead) = NoReadFailedAhead (new_source x) y × NoReadFailedAhead (new_source a) b × ReadFailsAhead (new_source c) d
ResultSays x a c y b d (Err fault.OutOfMemory) = NoReadFailedAhead (new_source x) y × NoReadFailedAhead (new_source a) b × NoReadFailedAhead (new_source c) d
ResultSays x a c y b d (Err fault.CounterEnd) = ⊥

-- `Leaves P x y` holds if no read failed, or one failed and `P` holds.
abbrev Leaves : Type 0 → Reader → Source → Type 0
Leaves P x y = NoReadFailedAhead (new_source x) y ⊎ (P × ReadFailsAhead (new_source x) y)

kept_or : (P : Type 0) (x : Reader) (y : Source) → Leaves P x y → P ⊎ (y.reader.failures ≡ x.failures)
kept_or P x y h = elim h [ inl k ↦ inr k.0 | inr f ↦ inl f.0 ]

few_calls : (rc tc tr m : ℕ) → tc + 0 ≡ rc + tr → tr ≤ m → tc ≤ rc + m
few_calls rc tc tr m e h = omega arith

few_reads : (P : Type 0) (x : Reader) (y : Source) → Leaves P x y → y.reads ≤ max_reads → y.reader.calls ≤ x.calls + max_reads
few_reads P x y h m = elim h [ inl k ↦ few_calls x.calls y.reader.calls y.reads max_reads k.1 m | inr f ↦ few_calls x.calls y.reader.calls y.reads max_reads f.1.1.calls m ]

script_left : (x a c : Reader) (y b d : Source) (r : Result Verdict ConfirmFault) → ResultSays x a c y b d r → Leaves (r ≡ Err fault.ScriptRead) x y
script_left x a c y b d (Err fault.ScriptRead) h = inr (refl, h.0)
script_left x a c y b d (Err fault.CounterEnd) h = absurd h
script_left x a c y b d e h = inl h.0

answers_left : (x a c : Reader) (y b d : Source) (r : Result Verdict ConfirmFault) → ResultSays x a c y b d r → Leaves (r ≡ Err fault.AnswersRead) a b
answers_left x a c y b d (Err fault.AnswersRead) h = inr (refl, h.1)
answers_left x a c y b d (Err fault.CounterEnd) h = absurd h
answers_left x a c y b d e h = inl h.1

certificate_left : (x a c : Reader) (y b d : Source) (r : Result Verdict ConfirmFault) → ResultSays x a c y b d r → Leaves (r ≡ Err fault.CertificateRead) c d
certificate_left x a c y b d (Err fault.CertificateRead) h = inr (refl, h.2)
certificate_left x a c y b d (Err fault.CounterEnd) h = absurd h
certificate_left x a c y b d e h = inl h.2

said_exact : (x a c : Reader) (y b d : Source) (r : Result Verdict ConfirmFault) → ResultSays x a c y b d r → IfOk r (VerdictIsExact (x, y.reader) (a, b.reader) (c, d.reader))
said_exact x a c y b d (Ok v) h = h.3
said_exact x a c y b d (Err e) h = tt

promised : (x a c : Reader) (y b d : Source) (r : Result Verdict ConfirmFault) → y.reads ≤ max_reads → b.reads ≤ max_reads → d.reads ≤ max_reads → ResultSays x a c y b d r → ConfirmGuarantee r (x, y.reader) (a, b.reader) (c, d.reader)
promised x a c y b d r m n k h =
    let T = ResultSays x a c y b d in
    let exact = said_exact x a c y b d r h in
    let s = script_left x a c y b d r h in
    let t = answers_left x a c y b d r h in
    let u = certificate_left x a c y b d r h in
    record {
      exact = exact;
      sound = sound_as r (x, y.reader) (a, b.reader) (c, d.reader) exact;
      script_read = λ e. let f = (subst T e h).0 in read_fails x y f.0 m f.1;
      answers_read = λ e. let f = (subst T e h).1 in read_fails a b f.0 n f.1;
      certificate_read = λ e. let f = (subst T e h).2 in read_fails c d f.0 k f.1;
      counter_end = λ e. subst T e h;
      kept_script = kept_or (r ≡ Err fault.ScriptRead) x y s;
      kept_answers = kept_or (r ≡ Err fault.AnswersRead) a b t;
      kept_certificate = kept_or (r ≡ Err fault.CertificateRead) c d u;
      script_reads = few_reads (r ≡ Err fault.ScriptRead) x y s m;
      answers_reads = few_reads (r ≡ Err fault.AnswersRead) a b t n;
      certificate_reads = few_reads (r ≡ Err fault.CertificateRead) c d u k;
    }

-- FROM THE BEGINNING

-- the place before the first command
abbrev pub begun : Reader → Reader → Reader → Kernel → Step → NameTable → ConfirmPlace
begun x a c checker step table = record {
  script = new_source x;
  answers = new_source a;
  certificate = record { source = new_source c; checker = checker; step = step };
  number = 1;
  table = table;
}

-- `IsBegun checker step table` holds if the table and the checker are those at the start, before any step.
abbrev pub IsBegun : Kernel → Step → NameTable → Type 0
IsBegun checker step table = (rest : List ℕ) → TableHoldsAt table (record { checker = checker; step = step; rest = rest }) initial_state []

unread_open : (r : Reader) → AtEnd (new_source r) → ⊥
unread_open r h = none h.0
  where
    none : 0 < 0 → ⊥
    none k = absurd (omega arith)

-- what holds whatever bytes could follow holds of the text that the reader gave
given : (r : Reader) (t : Source) (P : List ℕ → Type 0) → ConsumesSome false (new_source r) t → ((total : List ℕ) → CanBeTotal t total → P (rest_in total (new_source r))) → GaveEnough r t.reader P
given r t P h f = gave_enough r t h.0.0 P h.0.1 h.1 f

module _ (x a c : Reader) (checker : Kernel) (step : Step) (table : NameTable) (fresh : IsBegun checker step table) (new : ConfirmPlace) where
  abbrev old : ConfirmPlace
  old = begun x a c checker step table

  abbrev last : List ℕ
  last = new.script.reader.given

  abbrev Sure : Verdict → Type 0
  Sure v = VerdictIsExact (x, new.script.reader) (a, new.answers.reader) (c, new.certificate.source.reader) v

  matched : (s t u : List ℕ) (v : CertificateState) → ConfirmsRest 1 (reading s) table t (record { checker = checker; step = step; rest = u }) (Ok tt) → TextsMatch s t u
  matched s t u v h = (same_matches s t u).1 ((left_begins (reading s).0 (reading s).1 t u).1 (h initial_state [] (fresh u)))

  unmatched : (s t u : List ℕ) (why : Why) → ConfirmsRest 1 (reading s) table t (record { checker = checker; step = step; rest = u }) (Err why) → TextsMatch s t u → ⊥
  unmatched s t u why h m = h initial_state [] (fresh u) ((left_begins (reading s).0 (reading s).1 t u).0 ((same_matches s t u).0 m))

  yes_exact : ConfirmsScript reading (Ok tt) old new → Sure Yes
  yes_exact e =
      given x new.script (λ s. GaveTextWith (a, new.answers.reader) (λ t. GaveTextWith (c, new.certificate.source.reader) (λ u. (Yes ≡ Yes) ↔ TextsMatch s t u))) e.0
      (λ total k.
      let s = rest_in total (new_source x) in
      let j = e.1 total k in
      given a new.answers (λ t. GaveTextWith (c, new.certificate.source.reader) (λ u. (Yes ≡ Yes) ↔ TextsMatch s t u)) j.0
      (λ all l.
      let t = rest_in all (new_source a) in
      let p = j.1 all l in
      let h = moves_halt old.certificate new.certificate (unread_open c) p.0 in
      gave_enough c new.certificate.source h.0.0 (λ u. (Yes ≡ Yes) ↔ TextsMatch s t u) h.0.1 h.1
      (λ more m. ((λ said. matched s t (rest_in more (new_source c)) (certificate_state_in more old.certificate) (p.1 more m)), (λ said. refl)))))

  no_exact : (ask : ℕ) (why : Why) → ConfirmsScript reading (Err (stop.No why)) old new → Sure (No ask why)
  no_exact ask why e =
      given x new.script (λ s. GaveTextWith (a, new.answers.reader) (λ t. GaveTextWith (c, new.certificate.source.reader) (λ u. (No ask why ≡ Yes) ↔ TextsMatch s t u))) e.0
      (λ total k.
      let s = rest_in total (new_source x) in
      let j = e.1 total k in
      given a new.answers (λ t. GaveTextWith (c, new.certificate.source.reader) (λ u. (No ask why ≡ Yes) ↔ TextsMatch s t u)) j.0
      (λ all l.
      let t = rest_in all (new_source a) in
      let p = j.1 all l in
      gave_enough c new.certificate.source p.0.0.0 (λ u. (No ask why ≡ Yes) ↔ TextsMatch s t u) p.0.0.1 p.0.1
      (λ more m. ((λ said. absurd (cc)), (λ same. absurd (unmatched s t (rest_in more (new_source c)) why (p.1 more m) same))))))

  result_says : (r : Result (Unit {0}) Stop) (asks : ℕ) → new.script.reads ≤ max_reads → new.certificate.source.reads ≤ max_reads → ConfirmsScript reading r old new → ResultSays x a c new.script new.answers new.certificate.source (confirm_result r asks)
  result_says (Ok u) asks short few e =
      let j = e.1 last (covers_given new.script) in
      let p = j.1 new.answers.reader.given (covers_given new.answers) in
      (took_kept false old.script new.script e.0, took_kept false old.answers new.answers j.0, (p.0.1.failures, p.0.1.calls), yes_exact e)
  result_says (Err (stop.No why)) asks short few e =
      let j = e.1 last (covers_given new.script) in
      let p = j.1 new.answers.reader.given (covers_given new.answers) in
      (took_kept false old.script new.script e.0, took_kept false old.answers new.answers j.0, (p.0.0.1.failures, p.0.0.1.calls), no_exact (min (asks + 1) (2 ^ 64 - 1)) why e)
  result_says (Err stop.CertificateRead) asks short few e = let p = e.1.1 in (e.0, e.1.0, (p.0.0, p.0.1))
  result_says (Err stop.CounterEnd) asks short few e =
      let p = e.1.1 in
      let all = new.certificate.source.reader.given in
      absurd (nothing_spent (rest_in all (new_source c)) (few_given 1 c new.certificate.source p.0.0.0 p.0.0.1 few) (p.1 all (covers_given new.certificate.source) [] (fresh (rest_in all (new_source c))).at.taken))
  result_says (Err stop.TooMany) asks short few e =
      let all = new.script.reader.given in
      let text = rest_in all (new_source x) in
      let many = e.1 all (covers_given new.script) in
      let most = few_given 1 x new.script e.0.0.0 e.0.0.1 short in
      let read = few_read text in
      absurd (too_many (command_count (reading text)) (length text) many read most)
    where
      too_many : (n l : ℕ) → 2 ^ 64 < 1 + n → n ≤ l + 2 → l ≤ most_bytes → ⊥
      too_many n l h k m = absurd (let e : most_bytes + 2 < 2 ^ 64 = omega arith in omega arith)
  result_says (Err z) asks short few e = let p = e.1.1 in (e.0, e.1.0, (p.0.0.1.failures, p.0.0.1.calls))

  -- THE NUMBER OF LOOKS

  certified : (r : Result (Unit {0}) Stop) → ConfirmsScript reading r old new → (q : Result (Unit {0}) Stop) × CertificateCall q old.certificate new.certificate Unconstrained
  certified (Ok u) e =
      let p = (e.1 last (covers_given new.script)).1 new.answers.reader.given (covers_given new.answers) in
      (Ok tt, confirms_so (Ok tt) old.certificate new.certificate (λ v w. ConfirmsRest 1 (reading (rest_in last (new_source x))) table (rest_in new.answers.reader.given (new_source a)) v) Unconstrained (λ total y h. tt) p)
  certified (Err (stop.No why)) e =
      let p = (e.1 last (covers_given new.script)).1 new.answers.reader.given (covers_given new.answers) in
      (Err (stop.No why), confirms_so (Err (stop.No why)) old.certificate new.certificate (λ v w. ConfirmsRest 1 (reading (rest_in last (new_source x))) table (rest_in new.answers.reader.given (new_source a)) v) Unconstrained (λ total y h. tt) p)
  certified (Err stop.AnswersRead) e = (Err stop.OutOfMemory, e.1.1)
  certified (Err stop.ScriptRead) e = (Err stop.OutOfMemory, e.1.1)
  certified (Err stop.TooMany) e = (Err stop.OutOfMemory, e.2.1)
  certified (Err z) e = (Err z, e.1.1)

  module _ (none : kernel_looks checker ≡ 0) where
    reached_by : (bytes : List ℕ) → FeedsSomeSteps (record { checker = checker; step = step; rest = bytes }) (record { checker = new.certificate.checker; step = new.certificate.step; rest = bytes }) → StepsAccountForLooks [] bytes 0 (kernel_looks new.certificate.checker)
    reached_by bytes h = subst (λ k. StepsAccountForLooks [] bytes k (kernel_looks new.certificate.checker)) none (h [] (fresh bytes).at.taken)

    took : (q : Result (Unit {0}) Stop) → CertificateCall q old.certificate new.certificate Unconstrained → LooksAreBounded c new.certificate.source.reader 0 (kernel_looks new.certificate.checker)
    took (Ok u) p = took_looks 0 c new.certificate.source p.0.0 (kernel_looks new.certificate.checker) p.0.1 (λ total k. reached_by (rest_in total (new_source c)) (tries_if true (certificate_state_in total old.certificate) (certificate_state_in total new.certificate) (p.2 total k)))
    took (Err (stop.No why)) p = took_looks 1 c new.certificate.source p.0.0.0 (kernel_looks new.certificate.checker) p.0.0.1 (λ total k. reached_by (rest_in total (new_source c)) (p.2 total k))
    took (Err stop.CertificateRead) p = took_faulted c new.certificate.source p.0.0 (kernel_looks new.certificate.checker) p.0.1 (λ total k. reached_by (rest_in total (new_source c)) (p.1 total k))
    took (Err stop.OutOfMemory) p = took_looks 1 c new.certificate.source p.0.0.0 (kernel_looks new.certificate.checker) p.0.0.1 (λ total k. reached_by (rest_in total (new_source c)) (p.1 total k))
    took (Err stop.CounterEnd) p = took_looks 1 c new.certificate.source p.0.0.0 (kernel_looks new.certificate.checker) p.0.0.1 (λ total k. reached_by (rest_in total (new_source c)) (p.2 total k))
    took (Err e) p = absurd p

    -- the looks of the confirmation, added to those of earlier checkers
    pub looks_added : (r : Result (Unit {0}) Stop) (before after : ℕ) → after ≡ before + kernel_looks new.certificate.checker → ConfirmsScript reading r old new → LooksAreBounded c new.certificate.source.reader before after
    looks_added r before after e ends =
        let q = certified r ends in
        let t = took q.0 q.1 in
        let sum : kernel_looks new.certificate.checker + before ≡ after = omega (arith, e) in
        let zero : 0 + before ≡ before = omega arith in
        takes_looks c new.certificate.source.reader t.text before after t.front (omega (arith, e))
        (λ rest k.
        subst (λ to. StepsAccountForLooks [] (t.text ++ rest) before to) sum
        (subst (λ from. StepsAccountForLooks [] (t.text ++ rest) from (kernel_looks new.certificate.checker + before)) zero (looks_from before [] (t.text ++ rest) 0 (kernel_looks new.certificate.checker) (t.reached rest k))))

-- a confirmation of three texts has the properties in `ConfirmGuarantee`
pub keeps_promises : (x a c : Reader) (checker : Kernel) (step : Step) (table : NameTable) (new : ConfirmPlace) → IsBegun checker step table → (r : Result (Unit {0}) Stop) (asks : ℕ) → new.script.reads ≤ max_reads → new.answers.reads ≤ max_reads → new.certificate.source.reads ≤ max_reads
    → ConfirmsScript reading r (begun x a c checker step table) new → ConfirmGuarantee (confirm_result r asks) (x, new.script.reader) (a, new.answers.reader) (c, new.certificate.source.reader)
keeps_promises x a c checker step table new fresh r asks m n k h =
    promised x a c new.script new.answers new.certificate.source (confirm_result r asks) m n k (result_says x a c checker step table fresh new r asks m k h)

-- a confirmation without bytes read ahead begins before the first command
pub begins : (r : Result (Unit {0}) Stop) (x a c : Reader) (script answers : LastPiece) (certificate : Source) (checker : Kernel) (step : Step) (number : ℕ) (table : NameTable) (new : ConfirmPlace)
    → waiting_bytes script ≡ [] → script.reads ≡ 0 → waiting_bytes answers ≡ [] → answers.reads ≡ 0 → certificate ≡ new_source c → number ≡ 1
    → ConfirmsScript reading r (record {
      script = record { reader = x; waiting = waiting_bytes script; reads = script.reads; names = [] };
      answers = record { reader = a; waiting = waiting_bytes answers; reads = answers.reads; names = [] };
      certificate = record { source = certificate; checker = checker; step = step };
      number = number;
      table = table;
    }) new
    → ConfirmsScript reading r (begun x a c checker step table) new
begins r x a c script answers certificate checker step number table new e f g h i n ends =
    let at : List ℕ → ℕ → List ℕ → ℕ → Source → ℕ → ConfirmPlace = λ w p v q s m. record {
      script = record { reader = x; waiting = w; reads = p; names = [] };
      answers = record { reader = a; waiting = v; reads = q; names = [] };
      certificate = record { source = s; checker = checker; step = step };
      number = m;
      table = table;
    } in
    subst (λ m. ConfirmsScript reading r (at [] 0 [] 0 (new_source c) m) new) n
    (subst (λ s. ConfirmsScript reading r (at [] 0 [] 0 s number) new) i
    (subst (λ q. ConfirmsScript reading r (at [] 0 [] q certificate number) new) h
    (subst (λ v. ConfirmsScript reading r (at [] 0 v answers.reads certificate number) new) g
    (subst (λ p. ConfirmsScript reading r (at [] p (waiting_bytes answers) answers.reads certificate number) new) f
    (subst (λ w. ConfirmsScript reading r (at w script.reads (waiting_bytes answers) answers.reads certificate number) new) e ends)))))
