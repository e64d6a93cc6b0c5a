use Rattle.std.proofs.Common.{ℕ, List, ◌++◌, ◌∙◌, ap, decimal, codes}
use Rattle.certify.specs.program.HintPrinting.{digit_of}
use Rattle.certify.proofs.lemmas.program.PrintedVerdicts.{seven_pieces}
use Rattle.certify.proofs.program.hint_line.push_proved.Goals as goal

pub returns : goal.returns
returns c =
    seven_pieces c.extend_from_slice-5.result c.args.out.now.items c.extend_from_slice.new.self.items c.extend_from_slice-2.new.self.items c.extend_from_slice-3.new.self.items c.push_decimal.new.out.items
    c.extend_from_slice-4.new.self.items c.push_decimal-2.new.out.items c.extend_from_slice-5.new.self.items (codes "proved empty=") (digit_of c.args.empty) (codes " cores=") (decimal c.args.cores) (codes " lines=")
    (decimal c.args.lines) _ c.in_ok-extend_from_slice.ensures.items (c.in_ok-extend_from_slice-2.ensures.items ∙ ap (λ (x : List ℕ). c.extend_from_slice.new.self.items ++ x) c.digit.ensures) c.in_ok-extend_from_slice-3.ensures.items c.in_ok-push_decimal.ensures c.in_ok-extend_from_slice-4.ensures.items
    c.in_ok-push_decimal-2.ensures c.extend_from_slice-5.ensures.items
