use Rattle.std.proofs.Common.{rules, ◌∙◌, ap, Bool, if◌then◌else◌, ℕ, List, length}
use Rattle.sat_base.specs.dimacs.Dimacs.{dimacs}
use Rattle.sat_base.specs.dimacs.Dimacs.{up_to_last_blank}
use Rattle.sat_base.specs.text.Tokenizing.{capped}
use Rattle.sat_base.proofs.lemmas.dimacs.Parsed.{keeps_always}
use Rattle.sat_base_tests.proofs.dimacs.count_in_parts.Goals as goal

pub returns : goal.returns
returns g c =
    let r = c.in_ok-parser.ensures.given (keeps_always _ (λ f h p q answer e. search rules) _) in
    let p = c.in_ok-parser.parser in
    let at_end = ap (λ (b : Bool). capped (length (dimacs (if b then p.fed else up_to_last_blank p.fed)).clauses)) r.2.2 in
    let of_text = ap (λ (z : List ℕ). capped (length (dimacs z).clauses)) r.2.0 in
    (r.0, r.1, c.clause_count.ensures ∙ at_end ∙ of_text, r.3)
