-- Lines at the start of a piece.
use Rattle.std.proofs.Common.{ℕ, ◌+◌, ◌<◌, ◌≡◌, Bool, true, false, Option, None, Some, Result, Ok, Err, IfOk, List, [], ◌∷◌, ◌++◌, take, drop, refl, sym, ◌∙◌, ap, subst, arith, append_assoc, append-nil}
use Rattle.std.proofs.lemmas.List.{take-append-drop}
use Rattle.std.proofs.lemmas.Str.Parse.{digit_from_value}
use Rattle.std.specs.List.{AllByRecursion}
use Rattle.std.specs.Str.Parse.{AllDigits}
use Rattle.sat_base.specs.values.Literals.{variable, is_positive}
use Rattle.sat_base.specs.dimacs.DimacsText.{number_text}
use Rattle.sat_hints.specs.Lines.{Line, Input, Derived, Removed, Core, Fresh, LineIsWithinLimits, spaced_words, id_text, id_words, literal_words, line_text, HasNoLf, SpellsLine}
use Rattle.sat_hints.specs.Checks.{IsFaultOf, IsAtFault}
use Rattle.sat_hints.specs.inner.LineReading.{IsId, IsLiteralCode, BeginsWithHintLine, BeginsWithNoLine}
use Rattle.sat_hints.specs.inner.LineChecking.{HasAcceptedLines, LineResultAfter, LineResult}
use Rattle.sat_hints.specs.inner.Holding.{IsWholeLine, ChecksLineBytes, ReadsFurther}
use Rattle.sat_hints.specs.declared.answer.HintWhy.{HintWhy}
use Rattle.sat_hints.specs.declared.answer.HintWhy.TheVariants.{Syntax}
use Rattle.sat_hints.specs.declared.line_checking.LineChecker.{LineChecker}
use Rattle.sat_hints.specs.declared.checking.Checking.{Checking}
use Rattle.sat_base.proofs.lemmas.text.NumberWords.{are_digits}
use Rattle.sat_hints.proofs.lemmas.Reaching.{reaches_none}
use Rattle.sat_hints.proofs.lemmas.Holding.{no_end_both, whole_with, line_has_end, held_more, line_passes, line_faulty, reads_more, reads_after}

-- A LINE'S TEXT HAS ONE LF, AT ITS END
no_end_digits : (ds : List ℕ) → AllDigits 10 ds → HasNoLf ds
no_end_digits [] d = tt
no_end_digits (c ∷ cs) d = ((λ e. let r = digit_from_value c d.0 in omega arith), no_end_digits cs d.1)

no_end_id : (id : ℕ) → IsId id → HasNoLf (id_text id)
no_end_id id p = no_end_digits (id_text id) (are_digits (id + 1) (omega arith))

no_end_literal : (l : ℕ) → IsLiteralCode l → HasNoLf (number_text l)
no_end_literal l p = go (is_positive l) refl
  where
    digits : HasNoLf (id_text (variable l))
    digits = no_end_digits (id_text (variable l)) (are_digits (variable l + 1) (omega arith))

    go : (s : Bool) → is_positive l ≡ s → HasNoLf (number_text l)
    go true e = rw e digits
    go false e = rw e ((λ f. omega arith), digits)

no_end_words : (word : ℕ → List ℕ) (P : ℕ → Type 0) → ((x : ℕ) → P x → HasNoLf (word x)) → (xs : List ℕ) → AllByRecursion P xs → HasNoLf (spaced_words word xs)
no_end_words word P h [] p = tt
no_end_words word P h (x ∷ xs) p = no_end_both (word x) (32 ∷ spaced_words word xs) (h x p.0) ((λ e. omega arith), no_end_words word P h xs p.1)

end_whole : IsWholeLine (48 ∷ 10 ∷ [])
end_whole = record { front = 48 ∷ []; inside = ((λ e. omega arith), tt); ended = refl }

after_letter : (letter : ℕ) (text : List ℕ) → 10 < letter → IsWholeLine text → IsWholeLine (letter ∷ 32 ∷ text)
after_letter letter text h w = whole_with (letter ∷ 32 ∷ []) text ((λ e. omega arith), ((λ e. omega arith), tt)) w

ids_whole : (ids text : List ℕ) → AllByRecursion IsId ids → IsWholeLine text → IsWholeLine (id_words ids ++ text)
ids_whole ids text p w = whole_with (id_words ids) text (no_end_words id_text IsId no_end_id ids p) w

literals_whole : (ls text : List ℕ) → AllByRecursion IsLiteralCode ls → IsWholeLine text → IsWholeLine (literal_words ls ++ text)
literals_whole ls text p w = whole_with (literal_words ls) text (no_end_words number_text IsLiteralCode no_end_literal ls p) w

both_whole : (ls ids : List ℕ) → AllByRecursion IsLiteralCode ls → AllByRecursion IsId ids → IsWholeLine (literal_words ls ++ (48 ∷ 32 ∷ (id_words ids ++ (48 ∷ 10 ∷ []))))
both_whole ls ids p q = literals_whole ls _ p (after_letter 48 (id_words ids ++ (48 ∷ 10 ∷ [])) (omega arith) (ids_whole ids (48 ∷ 10 ∷ []) q end_whole))

-- the text of a line has one LF, its last byte
pub line_is_whole : (line : Line) → LineIsWithinLimits line → IsWholeLine (line_text line)
line_is_whole (Input id ls) p = after_letter 105 _ (omega arith) (ids_whole (id ∷ []) _ p.0 (literals_whole ls (48 ∷ 10 ∷ []) p.1 end_whole))
line_is_whole (Derived id ls ids) p = after_letter 100 _ (omega arith) (ids_whole (id ∷ []) _ p.0 (both_whole ls ids p.1 p.2))
line_is_whole (Removed id) p = after_letter 120 _ (omega arith) (ids_whole (id ∷ []) (48 ∷ 10 ∷ []) p end_whole)
line_is_whole (Core ls ids) p = after_letter 102 _ (omega arith) (both_whole ls ids p.0 p.1)
line_is_whole (Fresh v) p = after_letter 101 _ (omega arith) (ids_whole (v ∷ []) (48 ∷ 10 ∷ []) (let k = p.0 in (omega arith, tt)) end_whole)

-- if bytes whose only LF is the last byte begin with a line, they are that line
only_front : (front xs rest : List ℕ) → HasNoLf front → (HasNoLf xs → ⊥) → front ++ (10 ∷ []) ≡ xs ++ rest → rest ≡ []
only_front front [] rest h never e = absurd (never tt)
only_front [] (x ∷ []) rest h never e = let r : rest ≡ [] = cc in r
only_front [] (x ∷ y ∷ xs) rest h never e = absurd cc
only_front (c ∷ front) (x ∷ xs) rest h never e =
    let same : x ≡ c = cc in
    let more : front ++ (10 ∷ []) ≡ xs ++ rest = cc in
    only_front front xs rest h.1 (λ k. never (subst (λ b. b ≡ 10 → ⊥) (sym same) h.0, k)) more

-- a complete line that begins with a line's text is this text
pub spells_whole : (bytes rest : List ℕ) (line : Line) → IsWholeLine bytes → BeginsWithHintLine bytes line rest → SpellsLine bytes line
spells_whole bytes rest line w r =
    let e : rest ≡ [] = only_front w.front (line_text line) rest w.inside (line_has_end line) (sym w.ended ∙ r.1) in
    (r.0, r.1 ∙ ap (λ t. line_text line ++ t) e ∙ append-nil (line_text line))

-- bytes that do not begin with a line spell none
pub no_line_whole : (bytes : List ℕ) → BeginsWithNoLine bytes → (line : Line) → SpellsLine bytes line → ⊥
no_line_whole bytes none line s = none line [] (s.0, s.1 ∙ sym (append-nil (line_text line)))

-- VERDICTS ON LINES
at_fault : (why : HintWhy) (lines : List Line) (bytes : List ℕ) (line : Line) → SpellsLine bytes line → IsFaultOf lines line why → IsAtFault lines bytes why
at_fault Syntax lines bytes line s f = absurd f
at_fault e lines bytes line s f = (line, s, f)

on_error : (why : Option HintWhy) (old new : LineChecker) (lines : List Line) (bytes : List ℕ) (line : Line) → SpellsLine bytes line → LineResultAfter why old new lines line → ChecksLineBytes why old new lines bytes
on_error None old new lines bytes line s t = (line, s, t.0, t.1)
on_error (Some why) old new lines bytes line s t = (at_fault why lines bytes line s t.0, t.1)

pub taken_whole : {E : Type 0} (r : Result (Option HintWhy) E) (old new : LineChecker) (bytes rest : List ℕ) (line : Line) → BeginsWithHintLine bytes line rest → IfOk r (λ why. LineResult why old new line)
    → IfOk r (λ why. IsWholeLine bytes → (lines : List Line) → HasAcceptedLines old lines → ChecksLineBytes why old new lines bytes)
taken_whole (Ok why) old new bytes rest line read t = λ w lines taken. on_error why old new lines bytes line (spells_whole bytes rest line w read) (t lines taken)
taken_whole (Err e) old new bytes rest line read t = tt

-- a line that is read in place and checked is read as if it had been held
pub reads_line : (why : Option HintWhy) (old new : Checking) (bytes rest : List ℕ) (line : Line) → old.held.items ≡ [] → new.held.items ≡ old.held.items → new.place ≡ old.place → BeginsWithHintLine bytes line rest → LineResult why old.checker new.checker line → ReadsFurther why old (line_text line) new
reads_line why old new bytes rest line none e at r t = line_passes old new (line_text line) (line_is_whole line r.0) why none e at (λ lines taken. on_error why old.checker new.checker lines (line_text line) line (r.0, refl) (t lines taken))

-- PIECES
-- a line is split off the start of a piece
pub line_off : (piece front bytes text rest : List ℕ) → piece ≡ front ++ bytes → bytes ≡ text ++ rest → piece ≡ (front ++ text) ++ rest
line_off piece front bytes text rest e f = e ∙ ap (λ x. front ++ x) f ∙ sym (append_assoc front text rest)

-- bytes without a fault, and then a line at fault
pub reads_fault : (why : HintWhy) (a b c : Checking) (all xs ys rest : List ℕ) → all ≡ (xs ++ ys) ++ rest → ReadsFurther None a xs b → ReadsFurther (Some why) b ys c → ReadsFurther (Some why) a all c
reads_fault why a b c all xs ys rest e h k = subst (λ t. ReadsFurther (Some why) a t c) (sym e) (reads_after why a c (xs ++ ys) rest (reads_more (Some why) a b c xs ys h k))

-- bytes without a fault, and then the rest
pub reads_then : {E : Type 0} (r : Result (Option HintWhy) E) (a b c : Checking) (all xs ys : List ℕ) → all ≡ xs ++ ys → ReadsFurther None a xs b → IfOk r (λ why. ReadsFurther why b ys c) → IfOk r (λ why. ReadsFurther why a all c)
reads_then (Ok why) a b c all xs ys e h k = subst (λ t. ReadsFurther why a t c) (sym e) (reads_more why a b c xs ys h k)
reads_then (Err x) a b c all xs ys e h k = tt

-- bytes without a fault, and then nothing
pub reads_still : (a b c : Checking) (xs : List ℕ) → ReadsFurther None a xs b → c.checker ≡ b.checker → c.held.items ≡ b.held.items → c.place ≡ b.place → ReadsFurther None a xs c
reads_still a b c xs h j e p = subst (λ t. ReadsFurther None a t c) (append-nil xs) (reads_more None a b c xs [] h (held_more b c [] tt j (e ∙ sym (append-nil b.held.items)) (rw p (λ more k. k)) (rw p (reaches_none b.place))))

-- a line that ends with LF and is no hint line
pub bad_line : (c : Checking) (bytes : List ℕ) (end : ℕ) → c.held.items ≡ [] → BeginsWithNoLine bytes → IsWholeLine (take end bytes) → ReadsFurther (Some Syntax) c bytes c
bad_line c bytes end empty none w =
    let whole : take end bytes ++ drop end bytes ≡ bytes = take-append-drop end bytes in
    let never : (line : Line) → SpellsLine (take end bytes) line → ⊥ = λ line s. none line (drop end bytes) (s.0, sym whole ∙ ap (λ x. x ++ drop end bytes) s.1) in
    let front : ReadsFurther (Some Syntax) c (take end bytes) c = λ text r. line_faulty c c (take end bytes) w text r Syntax (subst (λ x. IsAtFault r.lines x Syntax) (sym (ap (λ x. x ++ take end bytes) empty)) never) refl in
    subst (λ x. ReadsFurther (Some Syntax) c x c) whole (reads_after Syntax c c (take end bytes) (drop end bytes) front)
