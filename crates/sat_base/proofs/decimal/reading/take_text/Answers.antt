use Rattle.std.proofs.Common.{ℕ, ◌+◌, ◌≡◌, ◌++◌, List, length, take, drop, true, false, nat_eq, Option, Some, None, Bor, MatchOption, sym, ◌∙◌, ap}
use Rattle.std.proofs.lemmas.List.{take-append-drop}
use Rattle.std.proofs.Math.Seq.{take-append_seam}
use Rattle.std.specs.Cmp.Lexicographic.{pointwise, same_text, other_text}
use Rattle.sat_base.proofs.decimal.reading.take_text.Goals as goal

taken : (b t : List ℕ) (r : Option (Bor (List ℕ)))
    → MatchOption r (pointwise nat_eq (take (length t) b) t ≡ false) (λ x. (pointwise nat_eq (take (length t) b) t ≡ true) × (x.now ≡ drop (length t) b) × (length x.now + length t ≡ length b))
    → MatchOption r ((tail : List ℕ) → b ≡ t ++ tail → ⊥) (λ rest. b ≡ t ++ rest.now)
taken b t None h = λ tail e. other_text (take (length t) b) t (sym h) (ap (take (length t)) e ∙ take-append_seam t tail)
taken b t (Some x) h = sym (take-append-drop (length t) b) ∙ ap (λ y. y ++ drop (length t) b) (same_text (take (length t) b) t (sym h.0)) ∙ ap (λ y. t ++ y) (sym h.1)

pub returns : goal.returns
returns c = taken c.args.bytes.now c.args.text.now c.strip_prefix.result c.strip_prefix.ensures.cases
