-- The literals of a line are in order exactly when their sort keys rise.
use Rattle.std.proofs.Common.{ℕ, ◌+◌, ◌<◌, ◌≤◌, ◌≡◌, ◌∷◌, [], List, map, arith}
use Rattle.std.proofs.lemmas.Bool.Decides.{nat_tests}
use Rattle.sat_base.specs.values.Literals.{variable}
use Rattle.sat_base.specs.script.Script.{names_of, sort_key, AreSortedLiterals}
use Rattle.certify.specs.answers.AnswerForms.{NamesStrictlyIncrease, LiteralsAreInOrder, named_literal, named_literals}
use Rattle.certify.specs.answers.AnswerReading.{HasSecondLine, outcome_of, literal_sort_key}
use Rattle.certify.specs.declared.answers.read.AnswerKind.{AnswerKind}
use Rattle.certify.specs.declared.answers.read.AnswerKind.TheVariants as kind

-- `RiseFrom least places` holds if the places rise strictly, and the first is at least `least`.
abbrev pub RiseFrom : ℕ → List ℕ → Type 0
RiseFrom least [] = Unit {0}
RiseFrom least (p ∷ ps) = (least ≤ p) × RiseFrom (p + 1) ps

increasing : (least : ℕ) (ls : List ℕ) → RiseFrom least (map variable ls) → NamesStrictlyIncrease (names_of (named_literals ls))
increasing least [] h = tt
increasing least (l ∷ []) h = tt
increasing least (l ∷ m ∷ ls) h = (omega (arith, h.1.0), increasing (variable l + 1) (m ∷ ls) h.1)

increasing_rise : (least l : ℕ) (ls : List ℕ) → least ≤ variable l → NamesStrictlyIncrease (names_of (named_literals (l ∷ ls))) → RiseFrom least (map variable (l ∷ ls))
increasing_rise least l [] h o = (h, tt)
increasing_rise least l (m ∷ ls) h o = (h, increasing_rise (variable l + 1) m ls (omega (arith, o.0)) o.1)

place_named : (l : ℕ) → sort_key (named_literal l) ≡ l + 2
place_named l = grind (arith, nat_tests)

in_order : (least : ℕ) (ls : List ℕ) → RiseFrom least (map (literal_sort_key kind.Unsat) ls) → AreSortedLiterals (named_literals ls)
in_order least [] h = tt
in_order least (l ∷ []) h = tt
in_order least (l ∷ m ∷ ls) h =
    let x : l + 1 ≤ m = h.1.0 in
    let p = place_named l in
    let q = place_named m in
    (omega arith, in_order (l + 1) (m ∷ ls) h.1)

order_rise : (least l : ℕ) (ls : List ℕ) → least ≤ l → AreSortedLiterals (named_literals (l ∷ ls)) → RiseFrom least (map (literal_sort_key kind.Unsat) (l ∷ ls))
order_rise least l [] h o = (h, tt)
order_rise least l (m ∷ ls) h o =
    let x : sort_key (named_literal l) < sort_key (named_literal m) = o.0 in
    let p = place_named l in
    let q = place_named m in
    (h, order_rise (l + 1) m ls (omega arith) o.1)

pub rise_ordered : (k : AnswerKind) (ls : List ℕ) → RiseFrom 0 (map (literal_sort_key k) ls) → LiteralsAreInOrder (outcome_of k (named_literals ls))
rise_ordered kind.Sat ls h = increasing 0 ls h
rise_ordered kind.Unsat ls h = in_order 0 ls h
rise_ordered kind.Unknown ls h = tt

pub ordered_rise : (k : AnswerKind) (ls : List ℕ) → HasSecondLine k → LiteralsAreInOrder (outcome_of k (named_literals ls)) → RiseFrom 0 (map (literal_sort_key k) ls)
ordered_rise kind.Sat [] d h = tt
ordered_rise kind.Sat (l ∷ ls) d h = increasing_rise 0 l ls (omega arith) h
ordered_rise kind.Unsat [] d h = tt
ordered_rise kind.Unsat (l ∷ ls) d h = order_rise 0 l ls (omega arith) h
ordered_rise kind.Unknown ls d h = absurd d
