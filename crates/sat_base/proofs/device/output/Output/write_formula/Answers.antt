use Rattle.std.proofs.Common.{◌≡◌, ◌++◌, [], ℕ, length, ap, ◌∙◌}
use Rattle.std.proofs.lemmas.List.{append-nil}
use Rattle.std.proofs.lemmas.Result.{err_from_is_err_and}
use Rattle.sat_base.specs.device.Sink.{sink_of}
use Rattle.sat_base.specs.values.Formulas.{Formula}
use Rattle.sat_base.specs.dimacs.DimacsText.{header_line, clause_lines, dimacs_text}
use Rattle.sat_base.proofs.lemmas.device.Sending.{stops_same, sends_same, sends_breaks, sends_last, sent_more}
use Rattle.sat_base.proofs.device.output.Output.write_formula.Goals as goal

text_is : (f : Formula) (v n : ℕ) → v ≡ f.var_count → n ≡ length f.clauses → header_line v n ++ clause_lines f.clauses ≡ dimacs_text f
unfolding dimacs_text
text_is f v n e d = ap (λ (k : ℕ). header_line k n ++ clause_lines f.clauses) e ∙ ap (λ (k : ℕ). header_line f.var_count k ++ clause_lines f.clauses) d

pub returns-in_err-put_header-clause-sends : goal.returns-in_err-put_header-clause-sends
returns-in_err-put_header-clause-sends g c =
    let S = g.W.CountedWrite.seen in
    let f = c.args.formula.now in
    let p = err_from_is_err_and c.from_residual.result c.from_residual.ensures.1 in
    rw p.1 (stops_same (sink_of S g.P.Room.waiting c.args.self.now) (sink_of S g.P.Room.waiting c.put_header.new.self) (header_line c.var_count.result c.len.result) (clause_lines f.clauses) (dimacs_text f) (text_is f c.var_count.result c.len.result c.var_count.ensures.count c.len.ensures) c.in_err-put_header.ensures)

pub returns-in_err-put_clauses-clause-sends : goal.returns-in_err-put_clauses-clause-sends
returns-in_err-put_clauses-clause-sends g c =
    let S = g.W.CountedWrite.seen in
    let f = c.args.formula.now in
    let p = err_from_is_err_and c.from_residual-in_err-put_clauses.result c.from_residual-in_err-put_clauses.ensures.1 in
    let header = sink_of S g.P.Room.waiting c.put_header.new.self in
    let text = header_line c.var_count.result c.len.result in
    rw p.1 (stops_same (sink_of S g.P.Room.waiting c.args.self.now) (sink_of S g.P.Room.waiting c.put_clauses.new.self) (text ++ clause_lines f.clauses) [] (dimacs_text f) (append-nil (text ++ clause_lines f.clauses) ∙ text_is f c.var_count.result c.len.result c.var_count.ensures.count c.len.ensures)
    (sends_breaks (sink_of S g.P.Room.waiting c.args.self.now) header (sink_of S g.P.Room.waiting c.put_clauses.new.self) text (clause_lines f.clauses) c.in_ok-put_header.ensures c.in_err-put_clauses.ensures))

pub returns-clause-sends : goal.returns-clause-sends
returns-clause-sends g c =
    let S = g.W.CountedWrite.seen in
    let f = c.args.formula.now in
    let old = sink_of S g.P.Room.waiting c.args.self.now in
    let header = sink_of S g.P.Room.waiting c.put_header.new.self in
    let all = sink_of S g.P.Room.waiting c.put_clauses.new.self in
    let new = sink_of S g.P.Room.waiting c.write_rest.new.self in
    let text = header_line c.var_count.result c.len.result in
    sends_same old new (text ++ clause_lines f.clauses) (dimacs_text f) c.write_rest.result (text_is f c.var_count.result c.len.result c.var_count.ensures.count c.len.ensures)
    (sends_last old all new (text ++ clause_lines f.clauses) c.write_rest.result (sent_more old header all text (clause_lines f.clauses) c.in_ok-put_header.ensures c.in_ok-put_clauses.ensures) c.write_rest.ensures.sends)
