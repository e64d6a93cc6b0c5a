-- The effect of more bytes on a text that was read so far.
use Rattle.std.proofs.Common.{ℕ, ◌+◌, ◌<◌, ◌≤◌, ◌≡◌, ◌⊎◌, inl, inr, Bool, true, false, eqb, List, [], ◌∷◌, ◌++◌, length, take, drop, get_or, Option, None, Some, refl, sym, ◌∙◌, ap, subst, arith, append_assoc, append-nil}
use Rattle.std.proofs.lemmas.Bool.{both_ways, eqb-true, eq-eqb}
use Rattle.std.proofs.lemmas.List.{take-append-drop, take_more, take_all}
use Rattle.sat_base.specs.text.Tokenizing.{capped}
use Rattle.sat_hints.specs.Lines.{Line, LinesAreWithinLimits, Input, Derived, Removed, Core, Fresh, text_of, line_text, id_words, literal_words, SpellsLine, HasNoLf, BeginsWithLine, ended, cut_off}
use Rattle.sat_hints.specs.Hints.{FollowsLines, IsHintDerivation}
use Rattle.sat_hints.specs.Checks.{IsAtFault, IsBadAt, VerdictHolds}
use Rattle.sat_hints.specs.inner.Prefixes.{IsRestOfLine, LeadsToPlace, ReachesPlace}
use Rattle.sat_hints.specs.declared.prefixes.Place.{Place}
use Rattle.sat_hints.specs.declared.prefixes.Place.TheVariants.{Letter}
use Rattle.sat_hints.specs.inner.LineChecking.{HasAcceptedLines}
use Rattle.sat_hints.specs.inner.Holding.{IsWholeLine, ChecksLineBytes, HasReadText, HasFault, HasReadOrFault, ReadsFurther}
use Rattle.sat_hints.specs.declared.answer.HintWhy.{HintWhy}
use Rattle.sat_hints.specs.declared.answer.HintWhy.TheVariants.{Syntax}
use Rattle.sat_hints.specs.declared.answer.HintVerdict.{HintVerdict}
use Rattle.sat_hints.specs.declared.answer.HintVerdict.TheVariants.{Bad}
use Rattle.sat_hints.specs.declared.checking.Checking.{Checking}
use Rattle.sat_hints.proofs.lemmas.Reaching.{reaches_on, reaches_none}

-- appending bytes without LF
pub no_end_both : (xs ys : List ℕ) → HasNoLf xs → HasNoLf ys → HasNoLf (xs ++ ys)
no_end_both [] ys h k = k
no_end_both (x ∷ xs) ys h k = (h.0, no_end_both xs ys h.1 k)

-- the start of a line, and the rest of it
pub whole_with : (capped bytes : List ℕ) → HasNoLf capped → IsWholeLine bytes → IsWholeLine (capped ++ bytes)
whole_with capped bytes h w = record { front = capped ++ w.front; inside = no_end_both capped w.front h w.inside; ended = ap (λ b. capped ++ b) w.ended ∙ sym (append_assoc capped w.front (10 ∷ [])) }

-- the end of a line
module _ (old new : Checking) (bytes : List ℕ) (w : IsWholeLine bytes) where
  line_follows : (text : List ℕ) (r : HasReadText old text) (line : Line) → SpellsLine (old.held.items ++ bytes) line → FollowsLines r.lines line → HasAcceptedLines new.checker (line ∷ r.lines) → new.held.items ≡ [] → LeadsToPlace Letter new.held.items (Some new.place) → ReachesPlace Letter new.held.items (Some new.place) → HasReadText new (text ++ bytes)
  line_follows text r line s f t e fits reaches = record {
    lines = line ∷ r.lines;
    whole = ap (λ x. x ++ bytes) r.whole ∙ append_assoc (text_of r.lines) old.held.items bytes ∙ ap (λ x. text_of r.lines ++ x) s.1 ∙ sym (append-nil (text_of (line ∷ r.lines))) ∙ ap (λ x. text_of (line ∷ r.lines) ++ x) (sym e);
    inside = subst HasNoLf (sym e) tt;
    fits = fits;
    reaches = reaches;
    are = (s.0, r.are);
    derivation = (r.derivation, f);
    taken = t;
  }

  -- a line that is at fault gives the text its first fault
  pub line_faulty : (text : List ℕ) (r : HasReadText old text) (why : HintWhy) → IsAtFault r.lines (old.held.items ++ bytes) why → new.checker.lines ≡ old.checker.lines → HasFault new (text ++ bytes) why
  line_faulty text r why f e = record {
    count = length r.lines;
    number = e ∙ r.taken.counts_lines;
    bad = λ rest. record {
      earlier = r.lines;
      bytes = old.held.items ++ bytes;
      rest = rest;
      whole = ap (λ x. (x ++ bytes) ++ rest) r.whole ∙ ap (λ x. x ++ rest) (append_assoc (text_of r.lines) old.held.items bytes) ∙ append_assoc (text_of r.lines) (old.held.items ++ bytes) rest;
      are = r.are;
      derivation = r.derivation;
      first = (let k = whole_with old.held.items bytes r.inside w in ended k.front k.inside k.ended);
      fault = f;
      number = refl;
    };
  }

  line_goes : (why : Option HintWhy) (text : List ℕ) (r : HasReadText old text) → ChecksLineBytes why old.checker new.checker r.lines (old.held.items ++ bytes) → new.held.items ≡ [] → LeadsToPlace Letter new.held.items (Some new.place) → ReachesPlace Letter new.held.items (Some new.place) → HasReadOrFault why new (text ++ bytes)
  line_goes None text r t e fits reaches = line_follows text r t.0 t.1 t.2 t.3 e fits reaches
  line_goes (Some why) text r t e fits reaches = line_faulty text r why t.0 t.1

  -- the start of the line was held
  pub line_ends : (why : Option HintWhy) (all : List ℕ) → all ≡ old.held.items ++ bytes → (IsWholeLine all → (lines : List Line) → HasAcceptedLines old.checker lines → ChecksLineBytes why old.checker new.checker lines all) → new.held.items ≡ [] → new.place ≡ Letter → ReadsFurther why old bytes new
  line_ends why all a h e at text r =
      let whole : IsWholeLine all = subst IsWholeLine (sym a) (whole_with old.held.items bytes r.inside w) in
      line_goes why text r (subst (ChecksLineBytes why old.checker new.checker r.lines) a (h whole r.lines r.taken)) e (rw (e, at) (λ more h. h)) (rw (e, at) (reaches_none Letter))

  -- nothing of the line was held
  pub line_passes : (why : Option HintWhy) → old.held.items ≡ [] → new.held.items ≡ old.held.items → new.place ≡ old.place → ((lines : List Line) → HasAcceptedLines old.checker lines → ChecksLineBytes why old.checker new.checker lines bytes) → ReadsFurther why old bytes new
  line_passes why none e at h text r =
      let fits : LeadsToPlace Letter new.held.items (Some new.place) = rw (e, at) r.fits in
      let reaches : ReachesPlace Letter new.held.items (Some new.place) = rw (e, at) r.reaches in
      line_goes why text r (subst (ChecksLineBytes why old.checker new.checker r.lines) (sym (ap (λ b. b ++ bytes) none)) (h r.lines r.taken)) (e ∙ none) fits reaches

leads_on : (capped bytes : List ℕ) (here : Place) (to : Option Place) → LeadsToPlace Letter capped (Some here) → LeadsToPlace here bytes to → LeadsToPlace Letter (capped ++ bytes) to
leads_on capped bytes here to h k more l = k more (h (bytes ++ more) (subst (IsRestOfLine Letter) (append_assoc capped bytes more) l))

-- more bytes of an unfinished line
pub held_more : (old new : Checking) (bytes : List ℕ) → HasNoLf bytes → new.checker ≡ old.checker → new.held.items ≡ old.held.items ++ bytes → LeadsToPlace old.place bytes (Some new.place) → ReachesPlace old.place bytes (Some new.place) → ReadsFurther None old bytes new
held_more old new bytes h e f leads reaches text r = record {
  lines = r.lines;
  whole = ap (λ x. x ++ bytes) r.whole ∙ append_assoc (text_of r.lines) old.held.items bytes ∙ ap (λ x. text_of r.lines ++ x) (sym f);
  inside = subst HasNoLf (sym f) (no_end_both old.held.items bytes r.inside h);
  fits = subst (λ b. LeadsToPlace Letter b (Some new.place)) (sym f) (leads_on old.held.items bytes old.place (Some new.place) r.fits leads);
  reaches = subst (λ b. ReachesPlace Letter b (Some new.place)) (sym f) (reaches_on Letter old.place (Some new.place) old.held.items bytes r.reaches reaches);
  are = r.are;
  derivation = r.derivation;
  taken = subst (λ j. HasAcceptedLines j r.lines) (sym e) r.taken;
}

-- the bytes up to the next LF, if there is one
record Cut (all : List ℕ) : Type 0 where
  bytes : List ℕ
  rest : List ℕ
  whole : all ≡ bytes ++ rest
  ends : (HasNoLf bytes × (rest ≡ [])) ⊎ IsWholeLine bytes

cut : (all : List ℕ) → Cut all
cut [] = record { bytes = []; rest = []; whole = refl; ends = inl (tt, refl) }
cut (b ∷ all) = go (eqb b 10) refl (cut all)
  where
    longer : (bytes rest : List ℕ) → (b ≡ 10 → ⊥) → (HasNoLf bytes × (rest ≡ [])) ⊎ IsWholeLine bytes → (HasNoLf (b ∷ bytes) × (rest ≡ [])) ⊎ IsWholeLine (b ∷ bytes)
    longer bytes rest other (inl h) = inl ((other, h.0), h.1)
    longer bytes rest other (inr w) = inr (whole_with (b ∷ []) bytes (other, tt) w)

    go : (is : Bool) → eqb b 10 ≡ is → Cut all → Cut (b ∷ all)
    go true e c = record { bytes = b ∷ []; rest = all; whole = refl; ends = inr (record { front = []; inside = tt; ended = ap (λ b. b ∷ []) (eqb-true b 10 e) }) }
    go false e c = record { bytes = b ∷ c.bytes; rest = c.rest; whole = ap (λ x. b ∷ x) c.whole; ends = longer c.bytes c.rest (λ f. both_ways (eqb b 10) e (eq-eqb b 10 f)) c.ends }

-- a prefix with which no line begins is a fault, whatever follows
module _ (front : List ℕ) (inside : HasNoLf front) (never : LeadsToPlace Letter front None) where
  some_front : front ≡ [] → ⊥
  some_front e = never (line_text (Removed 0)) (rw e (Removed 0, ((omega arith, tt), refl)))

  begins : (bytes rest : List ℕ) → (HasNoLf bytes × (rest ≡ [])) ⊎ IsWholeLine bytes → BeginsWithLine (front ++ bytes) rest
  begins bytes rest (inl h) = cut_off (no_end_both front bytes inside h.0) (not_empty front some_front) h.1
    where
      not_empty : (xs : List ℕ) → (xs ≡ [] → ⊥) → xs ++ bytes ≡ [] → ⊥
      not_empty [] some e = some refl
      not_empty (x ∷ xs) some e = cc
  begins bytes rest (inr w) = let k = whole_with front bytes inside w in ended k.front k.inside k.ended

  front_faulty : (lines : List Line) (rest : List ℕ) → LinesAreWithinLimits lines → IsHintDerivation lines → IsBadAt (text_of lines ++ (front ++ rest)) (capped (length lines + 1)) Syntax
  front_faulty lines rest are derivation =
      let c = cut rest in
      record {
        earlier = lines;
        bytes = front ++ c.bytes;
        rest = c.rest;
        whole = ap (λ x. text_of lines ++ x) (ap (λ x. front ++ x) c.whole ∙ sym (append_assoc front c.bytes c.rest));
        are = are;
        derivation = derivation;
        first = begins c.bytes c.rest c.ends;
        fault = λ line s. never c.bytes (line, s);
        number = refl;
      }

-- bytes that no line can continue with are a syntax error
pub held_faulty : (old : Checking) (bytes : List ℕ) → HasNoLf bytes → LeadsToPlace old.place bytes None → ReadsFurther (Some Syntax) old bytes old
held_faulty old bytes h leads text r = record {
  count = length r.lines;
  number = r.taken.counts_lines;
  bad = λ rest. subst (λ x. IsBadAt x (capped (length r.lines + 1)) Syntax)
      (sym (ap (λ x. (x ++ bytes) ++ rest) r.whole ∙ ap (λ x. x ++ rest) (append_assoc (text_of r.lines) old.held.items bytes) ∙ append_assoc (text_of r.lines) (old.held.items ++ bytes) rest))
      (front_faulty (old.held.items ++ bytes) (no_end_both old.held.items bytes r.inside h) (leads_on old.held.items bytes old.place None r.fits leads) r.lines rest r.are r.derivation);
}

-- bytes, and then more bytes
pub reads_more : (why : Option HintWhy) (a b c : Checking) (xs ys : List ℕ) → ReadsFurther None a xs b → ReadsFurther why b ys c → ReadsFurther why a (xs ++ ys) c
reads_more why a b c xs ys h k text r = subst (HasReadOrFault why c) (append_assoc text xs ys) (k (text ++ xs) (h text r))

-- bytes after a fault, which are ignored
pub reads_after : (why : HintWhy) (a b : Checking) (xs ys : List ℕ) → ReadsFurther (Some why) a xs b → ReadsFurther (Some why) a (xs ++ ys) b
reads_after why a b xs ys h text r =
    let f = h text r in
    record {
      count = f.count;
      number = f.number;
      bad = λ rest. subst (VerdictHolds (Bad (capped (f.count + 1)) why)) (append_assoc text xs (ys ++ rest) ∙ ap (λ x. text ++ x) (sym (append_assoc xs ys rest)) ∙ sym (append_assoc text (xs ++ ys) rest)) (f.bad (ys ++ rest));
    }

pub reads_none : (c : Checking) → ReadsFurther None c [] c
reads_none c text r = subst (HasReadText c) (sym (append-nil text)) r

-- every line has its LF
no_end_second : (xs ys : List ℕ) → HasNoLf (xs ++ ys) → HasNoLf ys
no_end_second [] ys h = h
no_end_second (x ∷ xs) ys h = no_end_second xs ys h.1

ends : HasNoLf (48 ∷ 10 ∷ []) → ⊥
ends h = h.1.0 refl

-- every line has an LF
pub line_has_end : (line : Line) → HasNoLf (line_text line) → ⊥
line_has_end (Input id ls) h = ends (no_end_second (literal_words ls) (48 ∷ 10 ∷ []) (no_end_second (id_words (id ∷ [])) (literal_words ls ++ (48 ∷ 10 ∷ [])) h.1.1))
line_has_end (Derived id ls ids) h =
    ends (no_end_second (id_words ids) (48 ∷ 10 ∷ []) (no_end_second (literal_words ls) (48 ∷ 32 ∷ (id_words ids ++ (48 ∷ 10 ∷ []))) (no_end_second (id_words (id ∷ [])) (literal_words ls ++ (48 ∷ 32 ∷ (id_words ids ++ (48 ∷ 10 ∷ [])))) h.1.1)).1.1)
line_has_end (Removed id) h = ends (no_end_second (id_words (id ∷ [])) (48 ∷ 10 ∷ []) h.1.1)
line_has_end (Core ls ids) h = ends (no_end_second (id_words ids) (48 ∷ 10 ∷ []) (no_end_second (literal_words ls) (48 ∷ 32 ∷ (id_words ids ++ (48 ∷ 10 ∷ []))) h.1.1).1.1)
line_has_end (Fresh v) h = ends (no_end_second (id_words (v ∷ [])) (48 ∷ 10 ∷ []) h.1.1)

-- a text that ends within a line is at fault there
pub ends_badly : (c : Checking) (text : List ℕ) (v : HintVerdict) → ((count : ℕ) → c.checker.lines ≡ capped count → v ≡ Bad (capped (count + 1)) Syntax) → (c.held.items ≡ [] → ⊥) → HasReadText c text → VerdictHolds v text
ends_badly c text v is some r = subst (λ v. VerdictHolds v text) (sym (is (length r.lines) r.taken.counts_lines)) (record {
  earlier = r.lines;
  bytes = c.held.items;
  rest = [];
  whole = r.whole ∙ ap (λ x. text_of r.lines ++ x) (sym (append-nil c.held.items));
  are = r.are;
  derivation = r.derivation;
  first = cut_off r.inside some refl;
  fault = λ line s. line_has_end line (subst HasNoLf s.1 r.inside);
  number = refl;
})

-- the verdict on a fault
pub says_fault : (c : Checking) (text : List ℕ) (why : HintWhy) (v : HintVerdict) → ((count : ℕ) → c.checker.lines ≡ capped count → v ≡ Bad (capped (count + 1)) why) → HasFault c text why → (rest : List ℕ) → VerdictHolds v (text ++ rest)
says_fault c text why v is f rest = subst (λ v. VerdictHolds v (text ++ rest)) (sym (is f.count f.number)) (f.bad rest)

-- a byte that is not LF continues a prefix without LF
pub goes_on : (bytes : List ℕ) (i : ℕ) → i < length bytes → (get_or bytes i 0 ≡ 10 → ⊥) → HasNoLf (take i bytes) → HasNoLf (take (i + 1) bytes)
goes_on bytes i h other k = rw (take_more bytes i 0 h) (no_end_both (take i bytes) (get_or bytes i 0 ∷ []) k (other, tt))

-- the first LF ends a complete line
pub line_at : (bytes : List ℕ) (i : ℕ) → i < length bytes → get_or bytes i 0 ≡ 10 → HasNoLf (take i bytes) → IsWholeLine (take (i + 1) bytes)
line_at bytes i h e k = record { front = take i bytes; inside = k; ended = take_more bytes i 0 h ∙ ap (λ b. take i bytes ++ (b ∷ [])) e }

-- if no byte is LF, there is no complete line
pub no_line : (bytes : List ℕ) (i : ℕ) → length bytes ≤ i → HasNoLf (take i bytes) → HasNoLf bytes
no_line bytes i h k = subst HasNoLf (take_all i bytes h) k

-- a line is split off the start of a piece
pub split_off : (piece front rest line following : List ℕ) (end : ℕ) → piece ≡ front ++ rest → line ≡ take end rest → following ≡ drop end rest → piece ≡ (front ++ line) ++ following
split_off piece front rest line following end e f g = rw (f, g) (e ∙ ap (λ x. front ++ x) (sym (take-append-drop end rest)) ∙ sym (append_assoc front (take end rest) (drop end rest)))
