use Rattle.std.proofs.Common.{◌≡◌, ◌<◌, ◌++◌, ◌∷◌, length, drop, get_or, suc, ◌∙◌, ap, subst, arith}
use Rattle.std.proofs.Math.Seq.{drop-cons}
use Rattle.sat_base.specs.values.Literals.{var_limit}
use Rattle.sat_base.specs.text.NumberWords.{NoNumberContinues, digits_so_far}
use Rattle.certify.proofs.lemmas.answers.NamesAndWords.{at_zero, starts_no_name}
use Rattle.certify.proofs.answers.read.begins_name.Goals as goal

pub returns-in-None : goal.returns-in-None
returns-in-None c = λ no.
    let bytes = c.args.bytes.now in
    let i = c.loop-i.i in
    let inside : i < length bytes = omega arith in
    let e : bytes ≡ digits_so_far c.loop-i.name ++ (get_or bytes i 0 ∷ drop (suc i) bytes) = c.loop-i.invariant.1 ∙ ap (λ r. digits_so_far c.loop-i.name ++ r) (drop-cons bytes i 0 inside) in
    let none : NoNumberContinues var_limit c.loop-i.name (get_or bytes i 0) = subst (λ limit. NoNumberContinues limit c.loop-i.name (get_or bytes i 0)) c.max_count.ensures c.in-None.ensures in
    starts_no_name c.loop-i.name (get_or bytes i 0) bytes (drop (suc i) bytes) c.loop-i.invariant.0 (at_zero (get_or bytes i 0) c.loop-i.name c.else-byte-eq32.either) none e
