use Rattle.std.proofs.Common.{ℕ, [], List, ap, map, sym, subst, arith}
use Rattle.std.specs.String.{string_bytes}
use Rattle.std.proofs.lemmas.List.{drop_all}
use Rattle.certify.specs.program.Calls.{IsParsedAs}
use Rattle.certify.proofs.lemmas.program.Words.{word_at}
use Rattle.certify.proofs.program.call.call_of.Goals as goal

pub returns-in-len4 : goal.returns-in-len4
returns-in-len4 c =
    let words = c.args.words.now in
    subst (λ (ws : List (List ℕ)). IsParsedAs ws c.call_on.result)
    (sym (word_at words 0 _ _ _ (omega arith) c.name-item-then-words-lt5.is c.as_str-in-len4-4.ensures.value
    (word_at words 1 _ _ _ (omega arith) c.script-item.is c.as_str-in-len4.ensures.value
    (word_at words 2 _ _ _ (omega arith) c.answers-item.is c.as_str-in-len4-2.ensures.value
    (word_at words 3 _ _ [] (omega arith) c.certificate-item-then-words-lt5.is c.as_str-in-len4-3.ensures.value
    (ap (map string_bytes) (drop_all 4 words (omega arith))))))))
    c.call_on.ensures

pub returns-in-len5 : goal.returns-in-len5
returns-in-len5 c =
    let words = c.args.words.now in
    subst (λ (ws : List (List ℕ)). IsParsedAs ws c.limited_run.result)
    (sym (word_at words 0 _ _ _ (omega arith) c.name-item-then-words-lt6.is c.as_str-in-len5-4.ensures.value
    (word_at words 1 _ _ _ (omega arith) c.script-item-then-words-lt6.is c.as_str-in-len5.ensures.value
    (word_at words 2 _ _ _ (omega arith) c.answers-item-then-words-lt6.is c.as_str-in-len5-2.ensures.value
    (word_at words 3 _ _ _ (omega arith) c.certificate-item-then-words-lt6.is c.as_str-in-len5-3.ensures.value
    (word_at words 4 _ _ [] (omega arith) c.steps-item.is c.as_str-in-len5-5.ensures.value
    (ap (map string_bytes) (drop_all 5 words (omega arith)))))))))
    c.limited_run.ensures
