-- One more listener is notified, or returns a fault.
use Rattle.std.proofs.Common.{◌≡◌, ℕ, suc, ◌+◌, ◌<◌, Result, Ok, Err, List, ◌∷◌, ◌++◌, length, get_or, take, drop, set, sym, ap, ◌∙◌, arith, add-zero, subst}
use Rattle.std.proofs.lemmas.List.{get_or-drop, take_more_set, set_split, drop-set-lt}
use Rattle.std.proofs.lemmas.List.Elements.{all_zip_more}
use Rattle.std.proofs.lemmas.Grind.{drop_more_same}
use Rattle.std.proofs.Math.Seq.{split_at, take-append_seam}
use Rattle.anyhow.specs.declared.error.Error.{Error}
use Rattle.sat_checker.specs.listeners.Notifying.{AllNotified, NotifiedUpToFault}

seen : {B : Type 0} (l : List B) (i : ℕ) (x : B) → get_or l i x ≡ get_or (drop i l) 0 x
seen l i x = sym (get_or-drop i l 0 x ∙ ap (λ k. get_or l k x) (add-zero i))

same_read : {B : Type 0} (xs ys : List B) (i : ℕ) (x : B) → drop i ys ≡ drop i xs → x ≡ get_or ys i x → x ≡ get_or xs i x
same_read xs ys i x r e = e ∙ seen ys i x ∙ ap (λ l. get_or l 0 x) r ∙ sym (seen xs i x)

module _ {B : Type 0} (Called : Result Unit Error → B → B → Type 0) (xs ys : List B) (i : ℕ) (x y : B) (same : length ys ≡ length xs) (within : i < length ys) (notified : AllNotified Called (take i xs) (take i ys)) (rest : drop i ys ≡ drop i xs) (read : x ≡ get_or ys i x) where
  pub reported_more : Called (Ok tt) x y → AllNotified Called (take (i + 1) xs) (take (i + 1) (set ys i y))
  reported_more h =
      let inside : i < length xs = omega arith in
      record { each = rw (take_more_set ys i y within) (all_zip_more (Called (Ok tt)) xs (take i ys) i x y inside (same_read xs ys i x rest read) notified.each h) }

  pub rest_more : drop (i + 1) (set ys i y) ≡ drop (i + 1) xs
  rest_more = let lt : i < i + 1 = omega arith in drop-set-lt (i + 1) ys i y lt ∙ drop_more_same ys xs i rest

  pub failed_there : (cause : Error) → Called (Err cause) x y → NotifiedUpToFault Called cause xs (set ys i y)
  failed_there cause h =
      let inside : i < length xs = omega arith in
      let at_x : x ≡ get_or xs i x = same_read xs ys i x rest read in
      let e : drop (i + 1) ys ≡ drop (i + 1) xs = drop_more_same ys xs i rest in
      let k : suc i ≡ i + 1 = omega arith in
      record {
        notified_before = take i xs;
        notified_after = take i ys;
        failed_before = x;
        failed_after = y;
        rest = drop (i + 1) xs;
        were = split_at xs i x inside ∙ ap (λ z. take i xs ++ z ∷ drop (suc i) xs) (sym at_x) ∙ ap (λ n. take i xs ++ x ∷ drop n xs) k;
        are = set_split ys i y within ∙ ap (λ n. take i ys ++ y ∷ drop n ys) k ∙ ap (λ l. take i ys ++ y ∷ l) e;
        notified = notified;
        failed = h;
      }

-- if all items of a vector were overwritten, it has exactly the new items
module _ {A : Type 0} (n : ℕ) (before seen after : List A) (whole : seen ≡ before) (same : length after ≡ n) where
  refilled : after ≡ take n (after ++ drop (length after) before)
  refilled = sym (take-append_seam after (drop (length after) before)) ∙ ap (λ k. take k (after ++ drop (length after) before)) same

  pub some_refilled : (Called : Result Unit Error → A → A → Type 0) (cause : Error) → NotifiedUpToFault Called cause seen after → NotifiedUpToFault Called cause before (take n (after ++ drop (length after) before))
  some_refilled Called cause h = subst (λ xs. NotifiedUpToFault Called cause xs (take n (after ++ drop (length after) before))) whole (subst (λ ys. NotifiedUpToFault Called cause seen ys) refilled h)

  pub refilled_by : (P : List A → List A → Type 0) → P seen after → P before (take n (after ++ drop (length after) before))
  refilled_by P h = subst (λ xs. P xs (take n (after ++ drop (length after) before))) whole (subst (λ ys. P seen ys) refilled h)
