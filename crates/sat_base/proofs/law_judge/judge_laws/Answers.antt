use Rattle.sat_base.proofs.lemmas.script.ScriptStates.{judge_kept, given_suffice}
use Rattle.sat_base.proofs.lemmas.script.NamesListed.{lists_in_use}
use Rattle.sat_base.proofs.lemmas.script.NamesInUse.{are_in_use}
use Rattle.sat_base.proofs.law_judge.judge_laws.Goals as goal

pub returns : goal.returns
returns c = record { kept = judge_kept; given = given_suffice; listed = lists_in_use; in_use = are_in_use }
