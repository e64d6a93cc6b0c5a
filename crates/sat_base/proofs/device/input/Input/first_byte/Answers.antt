use Rattle.std.proofs.Common.{List, ℕ, [], ◌∷◌}
use Rattle.std.proofs.lemmas.Result.{err_from_is_err_and}
use Rattle.sat_base.specs.device.Waiting.{waiting}
use Rattle.sat_base.specs.device.Reading.{source_of}
use Rattle.sat_base.proofs.lemmas.device.ReadLemmas.{next_fails, took_text, gave_some, gave_nothing}
use Rattle.sat_base.proofs.device.input.Input.first_byte.Goals as goal

pub returns-in_err-refill-clause-reads : goal.returns-in_err-refill-clause-reads
returns-in_err-refill-clause-reads g c =
    let i = c.args.self.now in
    let names : List ℕ = i.reader.ghost_name ∷ i.ahead.ghost_name ∷ [] in
    let p = err_from_is_err_and c.from_residual.result c.from_residual.ensures.1 in
    rw (p.1, p.2) (next_fails c.in_err-refill.field-0.0 c.refill.new.self.end _ _ (c.in_err-refill.ensures.bytes names))

pub returns-then-self-eq0-clause-reads : goal.returns-then-self-eq0-clause-reads
returns-then-self-eq0-clause-reads g c =
    let i = c.args.self.now in
    let names : List ℕ = i.reader.ghost_name ∷ i.ahead.ghost_name ∷ [] in
    let h = c.in_ok-refill.ensures.bytes names in
    (gave_nothing c.refill.new.self.end _ _ c.if-self-eq0.true h.0, h.1 c.if-self-eq0.true)

pub returns-clause-reads : goal.returns-clause-reads
returns-clause-reads g c =
    let i = c.args.self.now in
    let names : List ℕ = i.reader.ghost_name ∷ i.ahead.ghost_name ∷ [] in
    let a = c.refill.new.self in
    let b = c.take_byte.new.self in
    took_text (source_of g.R.CountedRead.seen i) (g.R.CountedRead.seen c.refill.new.reader) (waiting a) (waiting b) names a.reads b.reads (c.take_byte.result ∷ []) (gave_some a.end _ _ c.if-self-eq0.false (c.in_ok-refill.ensures.bytes names).0) c.take_byte.ensures.byte c.take_byte.ensures.reads
