-- Readers of formats that are composed of others.
use Rattle.std.proofs.Common.{◌≡◌, ℕ, suc, List, [], ◌∷◌, ◌++◌, length, Result, Ok, Err, append_assoc, refl, sym, ap, subst}
use Rattle.std.proofs.lemmas.List.{append-nil}
use Rattle.sat_base.specs.declared.steps.error.StepError.{StepError}
use Rattle.sat_base.specs.declared.steps.error.StepError.TheVariants as errors
use Rattle.sat_base.specs.steps.Formats.{Format, Then, Times, ListOf, IsUniquelyDecodable}
use Rattle.sat_base.specs.device.Reading.{Source, ConsumesBytes, ReadsValue, with_result_value, map_result}
use Rattle.sat_base.proofs.lemmas.steps.Formats.{HasText, live_first, shut_first, live_second, shut_second, Times_text, to_items, from_items}
use Rattle.sat_base.proofs.lemmas.device.ReadLemmas.{passes_none, passes_more, faults_later}

-- the first value of a pair can't be read, so the pair can't
pub first_fails : {A B : Type 0} (F : Format A) (G : A → Format B) → IsUniquelyDecodable F → ((x : A) → HasText (G x)) → (e : StepError) (old new : Source) → ReadsValue F (Err e) old new → ReadsValue (Then F G) (Err e) old new
first_fails F G one some errors.Cut old new r = (r.0, r.1, live_first F G r.0 some r.2)
first_fails F G one some errors.BadByte old new r = (r.0, r.1, r.2, live_first F G r.0 some r.3, shut_first F G one r.0 r.1 r.3 r.4)
first_fails F G one some errors.Read old new r = (r.0, r.1, live_first F G r.0 some r.2)
first_fails F G one some errors.OutOfMemory old new r = (r.0, r.1, live_first F G r.0 some r.2)
first_fails F G one some errors.Ends old new r = absurd r
first_fails F G one some errors.HasFailed old new r = absurd r

-- the first value of a pair was read, so reading the second reads the pair
pub second_gives : {A B : Type 0} (F : Format A) (G : A → Format B) → IsUniquelyDecodable F → (x : A) (a : List ℕ) (old mid new : Source) → F x a → ConsumesBytes old mid a → (r : Result B StepError) → ReadsValue (G x) r mid new → ReadsValue (Then F G) (map_result (λ y. (x, y)) r) old new
second_gives F G one x a old mid new f p (Ok y) r = (a ++ r.0, passes_more old mid new a r.0 p r.1, (a, r.0, f, r.2, refl))
second_gives F G one x a old mid new f p (Err errors.Cut) r = (a ++ r.0, (passes_more old mid new a r.0 p r.1.0, r.1.1), live_second F G x a r.0 f r.2)
second_gives F G one x a old mid new f p (Err errors.BadByte) r = (a ++ r.0, r.1, subst (ConsumesBytes old new) (sym (append_assoc a r.0 (r.1 ∷ []))) (passes_more old mid new a (r.0 ++ r.1 ∷ []) p r.2), live_second F G x a r.0 f r.3, shut_second F G one x a r.0 r.1 f r.4)
second_gives F G one x a old mid new f p (Err errors.Read) r = (a ++ r.0, faults_later old mid new a r.0 p r.1, live_second F G x a r.0 f r.2)
second_gives F G one x a old mid new f p (Err errors.OutOfMemory) r = (a ++ r.0, (passes_more old mid new a r.0 p r.1.0, r.1.1), live_second F G x a r.0 f r.2)
second_gives F G one x a old mid new f p (Err errors.Ends) r = absurd r
second_gives F G one x a old mid new f p (Err errors.HasFailed) r = absurd r

-- reading in one format is reading in another, if both have the same texts and `f` maps the values
pub reads_as : {A B : Type 0} (H : Format A) (K : Format B) (f : A → B) → ((x : A) (t : List ℕ) → H x t → K (f x) t) → ((y : B) (t : List ℕ) → K y t → (x : A) × H x t) → (r : Result A StepError) (old new : Source) → ReadsValue H r old new → ReadsValue K (map_result f r) old new
reads_as H K f to back (Ok x) old new r = (r.0, r.1, to x r.0 r.2)
reads_as H K f to back (Err errors.Cut) old new r = (r.0, r.1, (f r.2.0, r.2.1, r.2.2, to r.2.0 (r.0 ++ r.2.1 ∷ r.2.2) r.2.3))
reads_as H K f to back (Err errors.BadByte) old new r = (r.0, r.1, r.2, (f r.3.0, r.3.1, r.3.2, to r.3.0 (r.0 ++ r.3.1 ∷ r.3.2) r.3.3), λ o. let h = back o.0 ((r.0 ++ r.1 ∷ []) ++ o.1) o.2 in r.4 (h.0, o.1, h.1))
reads_as H K f to back (Err errors.Read) old new r = (r.0, r.1, (f r.2.0, r.2.1, r.2.2, to r.2.0 (r.0 ++ r.2.1 ∷ r.2.2) r.2.3))
reads_as H K f to back (Err errors.OutOfMemory) old new r = (r.0, r.1, (f r.2.0, r.2.1, r.2.2, to r.2.0 (r.0 ++ r.2.1 ∷ r.2.2) r.2.3))
reads_as H K f to back (Err errors.Ends) old new r = absurd r
reads_as H K f to back (Err errors.HasFailed) old new r = absurd r

-- ITEMS
abbrev pub with_front : {A : Type 0} → List A → Result (List A) StepError → Result (List A) StepError
with_front xs (Ok ys) = Ok (xs ++ ys)
with_front xs (Err e) = Err e

item_fails : {A : Type 0} (F : Format A) → IsUniquelyDecodable F → HasText F → (n : ℕ) (e : StepError) (old new : Source) → ReadsValue F (Err e) old new → ReadsValue (Times F (suc n)) (Err e) old new
item_fails F one some n e old new r =
    reads_as (Then F (λ _. Times F n)) (Times F (suc n)) (λ x. x.0 ∷ x.1) (to_items F n) (from_items F n) (Err e) old new (first_fails F (λ _. Times F n) one (λ x. Times_text F some n) e old new r)

consed : {A : Type 0} (x : A) (r : Result (List A) StepError) → map_result {A = A × List A} (λ y. y.0 ∷ y.1) (map_result (λ y. (x, y)) r) ≡ with_front (x ∷ []) r
consed x (Ok y) = refl
consed x (Err e) = refl

pub item_read : {A : Type 0} (F : Format A) → IsUniquelyDecodable F → (n : ℕ) (x : A) (old mid new : Source) → ReadsValue F (Ok x) old mid → (r : Result (List A) StepError) → ReadsValue (Times F n) r mid new → ReadsValue (Times F (suc n)) (with_front (x ∷ []) r) old new
item_read {A} F one n x old mid new i r h =
    subst (λ (z : Result (List A) StepError). ReadsValue (Times F (suc n)) z old new) (consed x r)
    (reads_as (Then F (λ _. Times F n)) (Times F (suc n)) (λ y. y.0 ∷ y.1) (to_items F n) (from_items F n) (map_result (λ y. (x, y)) r) old new (second_gives F (λ _. Times F n) one x i.0 old mid new i.2 i.1 r h))

-- `Counted F count left xs old mid` holds if reading `left` items from `mid` on, after the items `xs`, is reading
-- `count` items from `old` on.
pub record Counted {A : Type 0} (F : Format A) (count left : ℕ) (xs : List A) (old mid : Source) : Type 0 where
  pub rests : (r : Result (List A) StepError) (new : Source) → ReadsValue (Times F left) r mid new → ReadsValue (Times F count) (with_front xs r) old new

pub front_none : {A : Type 0} (r : Result (List A) StepError) → r ≡ with_front [] r
front_none (Ok x) = refl
front_none (Err e) = refl

pub counted_start : {A : Type 0} (F : Format A) (count left : ℕ) (xs : List A) (old : Source) → left ≡ count → xs ≡ [] → Counted F count left xs old old
counted_start {A} F count left xs old e d = record {
  rests = λ r new h. subst (λ (z : List A). ReadsValue (Times F count) (with_front z r) old new) (sym d) (subst (λ (z : Result (List A) StepError). ReadsValue (Times F count) z old new) (front_none r) (subst (λ (n : ℕ). ReadsValue (Times F n) r old new) e h));
}

front_cons : {A : Type 0} (xs : List A) (x : A) (r : Result (List A) StepError) → with_front xs (with_front (x ∷ []) r) ≡ with_front (xs ++ x ∷ []) r
front_cons xs x (Ok y) = ap (λ zs. Ok zs) (sym (append_assoc xs (x ∷ []) y))
front_cons xs x (Err e) = refl

pub counted_more : {A : Type 0} (F : Format A) → IsUniquelyDecodable F → (count left more : ℕ) (xs : List A) (x : A) (old mid later : Source) → left ≡ suc more → ReadsValue F (Ok x) mid later → Counted F count left xs old mid → Counted F count more (xs ++ x ∷ []) old later
counted_more {A} F one count left more xs x old mid later e i c = record {
  rests = λ r new h. subst (λ (z : Result (List A) StepError). ReadsValue (Times F count) z old new) (front_cons xs x r) (c.rests (with_front (x ∷ []) r) new (subst (λ (n : ℕ). ReadsValue (Times F n) (with_front (x ∷ []) r) mid new) (sym e) (item_read F one more x mid later new i r h)));
}

pub counted_fails : {A : Type 0} (F : Format A) → IsUniquelyDecodable F → HasText F → (count left more : ℕ) (xs : List A) (old mid new : Source) (e : StepError) → left ≡ suc more → ReadsValue F (Err e) mid new → Counted F count left xs old mid → ReadsValue (Times F count) (Err e) old new
counted_fails F one some count left more xs old mid new e is i c = c.rests (Err e) new (subst (λ (n : ℕ). ReadsValue (Times F n) (Err e) mid new) (sym is) (item_fails F one some more e mid new i))

pub counted_all : {A : Type 0} (F : Format A) (count left : ℕ) (xs : List A) (old mid : Source) → left ≡ 0 → Counted F count left xs old mid → ReadsValue (Times F count) (Ok xs) old mid
counted_all {A} F count left xs old mid e c =
    subst (λ (zs : List A). ReadsValue (Times F count) (Ok zs) old mid) (append-nil xs) (c.rests (Ok []) mid (subst (λ (n : ℕ). ReadsValue (Times F n) (Ok []) mid mid) (sym e) ([], passes_none mid, (refl, refl))))

-- A LIST: a count, and then this number of items
to_list : {A : Type 0} (C : Format ℕ) (F : Format A) (x : ℕ × List A) (t : List ℕ) → Then C (Times F) x t → ListOf C F x.1 t
to_list C F x t h = (h.0, h.1, subst (λ (n : ℕ). C n h.0) (sym h.3.0) h.2, h.3.1, h.4)

from_list : {A : Type 0} (C : Format ℕ) (F : Format A) (xs : List A) (t : List ℕ) → ListOf C F xs t → (x : ℕ × List A) × Then C (Times F) x t
from_list C F xs t h = ((length xs, xs), (h.0, h.1, h.2, (refl, h.3), h.4))

abbrev second : {A B : Type 0} → A × B → B
second x = x.1

twice : {A : Type 0} (n : ℕ) (r : Result (List A) StepError) → map_result second (map_result (λ y. (n, y)) r) ≡ r
twice n (Ok x) = refl
twice n (Err e) = refl

-- the count of a list can't be read, so the list can't
pub list_fails : {A : Type 0} (C : Format ℕ) (F : Format A) → IsUniquelyDecodable C → HasText F → (e : StepError) (old new : Source) → ReadsValue C (Err e) old new → ReadsValue (ListOf C F) (Err e) old new
list_fails C F one some e old new r =
    reads_as (Then C (Times F)) (ListOf C F) (λ x. x.1) (to_list C F) (from_list C F) (Err e) old new (first_fails C (Times F) one (λ n. Times_text F some n) e old new r)

-- the count of a list was read, so reading its items reads the list
pub list_gives : {A : Type 0} (C : Format ℕ) (F : Format A) → IsUniquelyDecodable C → (n : ℕ) (old mid new : Source) → ReadsValue C (Ok n) old mid → (r : Result (List A) StepError) → ReadsValue (Times F n) r mid new → ReadsValue (ListOf C F) r old new
list_gives {A} C F one n old mid new c r h =
    subst (λ (z : Result (List A) StepError). ReadsValue (ListOf C F) z old new) (twice n r)
    (reads_as (Then C (Times F)) (ListOf C F) second (to_list C F) (from_list C F) (map_result (λ y. (n, y)) r) old new (second_gives C (Times F) one n c.0 old mid new c.2 c.1 r h))

-- a pair whose second value is stored elsewhere
pub pair_giving : {A B : Type 0} (x : A) (y : B) (r : Result (Unit {0}) StepError) → map_result {A = B} {B = A × B} (λ z. (x, z)) (with_result_value y r) ≡ with_result_value {A = A × B} (x, y) r
pair_giving x y (Ok u) = refl
pair_giving x y (Err e) = refl

pub pair_valued : {A B C : Type 0} (x : A) (f : B → C) (r : Result B StepError) → map_result {A = C} {B = A × C} (λ z. (x, z)) (map_result f r) ≡ map_result {A = B} {B = A × C} (λ z. (x, f z)) r
pair_valued x f (Ok z) = refl
pair_valued x f (Err e) = refl

-- an error in the fields after a tag that was compared with `t`
pub stops_at : {X B : Type 0} (F : ℕ → Format B) (t tag : ℕ) (f : X → B) (r : Result X StepError) (d e : StepError) (old new : Source) → r ≡ Err d → d ≡ e → tag ≡ t → ReadsValue (F t) (Err e) old new → ReadsValue (F tag) (map_result f r) old new
stops_at {X} {B} F t tag f r d e old new p q k h =
    subst (λ (z : Result X StepError). ReadsValue (F tag) (map_result f z) old new) (sym p)
    (subst (λ (z : StepError). ReadsValue (F tag) (Err z) old new) (sym q) (subst (λ (n : ℕ). ReadsValue (F n) (Err e) old new) (sym k) h))
