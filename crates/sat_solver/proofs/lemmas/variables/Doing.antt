-- One call after another.
use Rattle.std.proofs.Common.{List, [], ◌++◌, subst, Result, Ok, Err, OnOk}
use Rattle.std.proofs.lemmas.List.{append-nil}
use Rattle.sat_base.specs.script.ScriptState.{ScriptState}
use Rattle.sat_base.specs.steps.Steps.{Step}
use Rattle.sat_checker.specs.matching.Expected.{Expected}
use Rattle.sat_checker.specs.matching.Traces.{HasTrace, no_step}
use Rattle.sat_checker.specs.matching.ProofChecking.{checker_rules}
use Rattle.sat_checker.proofs.lemmas.matching.Traces.{traces_both}
use Rattle.sat_solver.specs.variables.Calls.{NamesInvariant, ChangesScriptState, KeepsScriptState, HasScriptState}
use Rattle.sat_solver.specs.declared.variables.Variables.{Variables}

pub does_none : (n : Variables) (log : List Step) → NamesInvariant n log → KeepsScriptState n n log log
does_none n log valid = record { valid = valid; kept = λ j live a. record { live = live; agree = a; trace = no_step } }

-- if names and steps match a script state before a call, they match one after it
pub judged_by : {old new : Variables} {from to : List Step} {f : ScriptState → ScriptState} {es : ScriptState → List Expected} → ChangesScriptState old new from to f es → HasScriptState old from → HasScriptState new to
judged_by {f = f} d h = let k = d.kept h.0 h.1 h.2 in (f h.0, k.live, k.agree)

-- one call, then another
pub does_both : (old mid new : Variables) (from mids to : List Step) (f g : ScriptState → ScriptState) (es fs : ScriptState → List Expected) → ChangesScriptState old mid from mids f es → ChangesScriptState mid new mids to g fs → ChangesScriptState old new from to (λ j. g (f j)) (λ j. es j ++ fs (f j))
does_both old mid new from mids to f g es fs one two = record {
  valid = two.valid;
  kept = λ j live a.
      let k = one.kept j live a in
      let l = two.kept (f j) k.live k.agree in
      record { live = l.live; agree = l.agree; trace = traces_both k.trace l.trace };
}

pub ok_both : {E : Type 0} (r : Result Unit E) (old mid new : Variables) (from mids to : List Step) (f g : ScriptState → ScriptState) (es fs : ScriptState → List Expected) → ChangesScriptState old mid from mids f es → OnOk r (ChangesScriptState mid new mids to g fs) → OnOk r (ChangesScriptState old new from to (λ j. g (f j)) (λ j. es j ++ fs (f j)))
ok_both (Ok x) old mid new from mids to f g es fs one two = does_both old mid new from mids to f g es fs one two
ok_both (Err e) old mid new from mids to f g es fs one two = tt

-- a call that changes no script state, after another one
pub ok_after : {E : Type 0} (r : Result Unit E) (old mid new : Variables) (from mids to : List Step) (f : ScriptState → ScriptState) (es : ScriptState → List Expected) → ChangesScriptState old mid from mids f es → OnOk r (KeepsScriptState mid new mids to) → OnOk r (ChangesScriptState old new from to f es)
ok_after (Ok x) old mid new from mids to f es one two = let both = does_both old mid new from mids to f (λ j. j) es (λ j. []) one two in record {
  valid = both.valid;
  kept = λ j live a. let k = both.kept j live a in record { live = k.live; agree = k.agree; trace = subst (HasTrace checker_rules from to) (append-nil (es j)) k.trace };
}
ok_after (Err x) old mid new from mids to f es one two = tt
