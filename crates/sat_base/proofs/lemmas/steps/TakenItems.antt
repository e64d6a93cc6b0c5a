-- Items consumed from the buffered bytes, one after another.
use Rattle.std.proofs.Common.{◌≡◌, ℕ, ◌+◌, ◌-◌, suc, List, [], ◌∷◌, ◌++◌, length, length-append, Result, Ok, Err, append_assoc, refl, sym, ap, subst, ◌∙◌, arith}
use Rattle.std.proofs.lemmas.List.{append-nil}
use Rattle.sat_base.specs.declared.device.ahead.Ahead.{Ahead}
use Rattle.sat_base.specs.declared.steps.error.StepError.{StepError}
use Rattle.sat_base.specs.device.Device.{Reader}
use Rattle.sat_base.specs.device.Reading.{Source, ConsumesBytes, ReadsValue}
use Rattle.sat_base.specs.device.ConsumedAhead.{ConsumesItems}
use Rattle.sat_base.specs.device.Waiting.{waiting}
use Rattle.sat_base.specs.steps.Formats.{Format, Items, Times, IsUniquelyDecodable}
use Rattle.sat_base.proofs.lemmas.device.ReadLemmas.{passes_none, took_text}
use Rattle.sat_base.proofs.lemmas.steps.FormatReads.{Counted, item_read, with_front, front_none}

-- `Taken F n before now whole rest` holds if the texts of `n` items are before `rest`, and these items were appended to
-- `before`.
pub record Taken (F : Format ℕ) (n : ℕ) (before now whole rest : List ℕ) : Type 0 where
  pub items : List ℕ
  pub text : List ℕ
  pub count : length items ≡ n
  pub following : now ≡ before ++ items
  pub spelt : Items F items text
  pub split : whole ≡ text ++ rest

items_more : (F : Format ℕ) (xs : List ℕ) (x : ℕ) (s t : List ℕ) → Items F xs s → F x t → Items F (xs ++ x ∷ []) (s ++ t)
items_more F [] x s t i f = (t, [], f, refl, ap (λ (z : List ℕ). z ++ t) i ∙ sym (append-nil t))
items_more F (y ∷ xs) x s t i f = (i.0, i.1 ++ t, i.2, items_more F xs x i.1 t i.3 f, ap (λ (z : List ℕ). z ++ t) i.4 ∙ append_assoc i.0 i.1 t)

pub taken_more : (F : Format ℕ) (n x : ℕ) (before now whole rest text more : List ℕ) → Taken F n before now whole rest → F x text → rest ≡ text ++ more → Taken F (n + 1) before (now ++ x ∷ []) whole more
taken_more F n x before now whole rest text more t f e = record {
  items = t.items ++ x ∷ [];
  text = t.text ++ text;
  count = length-append t.items (x ∷ []) ∙ ap (λ (k : ℕ). k + 1) t.count;
  following = ap (λ (z : List ℕ). z ++ x ∷ []) t.following ∙ append_assoc before t.items (x ∷ []);
  spelt = items_more F t.items x t.text text t.spelt f;
  split = t.split ∙ ap (λ (z : List ℕ). t.text ++ z) e ∙ sym (append_assoc t.text text more);
}

-- ITEMS READ by a source with buffered bytes

abbrev with_waiting : Reader → List ℕ → ℕ → List ℕ → Source
with_waiting r ws n names = record { reader = r; waiting = ws; reads = n; names = names }

takes : (r : Reader) (text ws : List ℕ) (n : ℕ) (names : List ℕ) → ConsumesBytes (with_waiting r (text ++ ws) n names) (with_waiting r ws n names) text
takes r text ws n names = took_text (with_waiting r (text ++ ws) n names) r (text ++ ws) ws names n n text (passes_none (with_waiting r (text ++ ws) n names)) refl refl

front_two : {A : Type 0} (xs ys : List A) (r : Result (List A) StepError) → with_front xs (with_front ys r) ≡ with_front (xs ++ ys) r
front_two xs ys (Ok zs) = ap (λ ws. Ok ws) (sym (append_assoc xs ys zs))
front_two xs ys (Err e) = refl

-- buffered items, and then whatever is read of the rest
items_then : (F : Format ℕ) → IsUniquelyDecodable F → (more : ℕ) (xs text ws : List ℕ) (s : Reader) (n : ℕ) (names : List ℕ) (r : Result (List ℕ) StepError) (new : Source) → Items F xs text → ReadsValue (Times F more) r (with_waiting s ws n names) new
    → ReadsValue (Times F (length xs + more)) (with_front xs r) (with_waiting s (text ++ ws) n names) new
items_then F one more [] text ws s n names r new i h =
    let z : more ≡ 0 + more = omega arith in
    subst (λ (k : ℕ). ReadsValue (Times F k) (with_front [] r) (with_waiting s (text ++ ws) n names) new) z (subst (λ (z : List ℕ). ReadsValue (Times F more) (with_front [] r) (with_waiting s (z ++ ws) n names) new) (sym i)
    (subst (λ (z : Result (List ℕ) StepError). ReadsValue (Times F more) z (with_waiting s ws n names) new) (front_none r) h))
items_then F one more (x ∷ xs) text ws s n names r new i h =
    let z : suc (length xs + more) ≡ length (x ∷ xs) + more = omega arith in
    let e : i.0 ++ (i.1 ++ ws) ≡ text ++ ws = sym (append_assoc i.0 i.1 ws) ∙ ap (λ (z : List ℕ). z ++ ws) (sym i.4) in
    subst (λ (k : ℕ). ReadsValue (Times F k) (with_front (x ∷ xs) r) (with_waiting s (text ++ ws) n names) new) z
    (subst (λ (z : List ℕ). ReadsValue (Times F (suc (length xs + more))) (with_front (x ∷ xs) r) (with_waiting s z n names) new) e
    (subst (λ (z : Result (List ℕ) StepError). ReadsValue (Times F (suc (length xs + more))) z (with_waiting s (i.0 ++ (i.1 ++ ws)) n names) new) (front_two (x ∷ []) xs r)
    (item_read F one (length xs + more) x (with_waiting s (i.0 ++ (i.1 ++ ws)) n names) (with_waiting s (i.1 ++ ws) n names) new (i.0, takes s i.0 (i.1 ++ ws) n names, i.2) (with_front xs r) (items_then F one more xs i.1 ws s n names r new i.3 h))))

-- a loop over a count that consumes several buffered items at once
pub counted_taken : (F : Format ℕ) → IsUniquelyDecodable F → (count left n : ℕ) (before now : List ℕ) (old : Source) (s : Reader) (names : List ℕ) (a b : Ahead) → ConsumesItems F left n before now a b
    → Counted F count left before old (with_waiting s (waiting a) a.reads names) → Counted F count (left - n) now old (with_waiting s (waiting b) b.reads names)
counted_taken F one count left n before now old s names a b t c = record {
  rests = λ r new h.
      let len : length t.1 + (left - n) ≡ left = omega (arith, t.0, t.3) in
      let i : ReadsValue (Times F (length t.1 + (left - n))) (with_front t.1 r) (with_waiting s (t.2 ++ waiting b) a.reads names) new = items_then F one (left - n) t.1 t.2 (waiting b) s a.reads names r new t.5 (subst (λ (k : ℕ). ReadsValue (Times F (left - n)) r (with_waiting s (waiting b) k names) new) t.7 h) in
      let j : ReadsValue (Times F left) (with_front t.1 r) (with_waiting s (waiting a) a.reads names) new = subst (λ (k : ℕ). ReadsValue (Times F k) (with_front t.1 r) (with_waiting s (waiting a) a.reads names) new) len (subst (λ (z : List ℕ). ReadsValue (Times F (length t.1 + (left - n))) (with_front t.1 r) (with_waiting s z a.reads names) new) (sym t.6) i) in
      subst (λ (z : Result (List ℕ) StepError). ReadsValue (Times F count) z old new) (front_two before t.1 r ∙ ap (λ (z : List ℕ). with_front z r) (sym t.4)) (c.rests (with_front t.1 r) new j);
}
