use Rattle.sat_base.proofs.lemmas.script.ScriptSpellings.{one_reading, read_if_spelled}
use Rattle.sat_base.proofs.lemmas.script.ScriptRowsComputed.{read_rows, malformed_rows}
use Rattle.sat_base.proofs.law_text.script_laws.Goals as goal

pub returns : goal.returns
returns c = record { one = one_reading; spelled = read_if_spelled; read = read_rows; malformed = malformed_rows }
