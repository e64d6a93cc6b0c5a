-- Pending announcements, as literals and ids are appended to their shared lists.
use Rattle.std.proofs.Common.{ℕ, zero, suc, ◌<◌, ◌≡◌, List, [], ◌∷◌, ◌++◌, length, take, get_or, map, refl, sym, ◌∙◌, ap, subst, arith, length-append}
use Rattle.std.proofs.lemmas.List.{get_or-map, get_or_append_left, get_or_at, length-map, map-append, take-map}
use Rattle.std.specs.List.{All}
use Rattle.sat_checker.specs.announcements.Announcements.{Announcement}
use Rattle.sat_checker.specs.listeners.PendingView.{announcement_with, announcement_at, IsItem}
use Rattle.sat_checker.specs.declared.announce.pending.AnnouncementKind.{AnnouncementKind}
use Rattle.sat_checker.specs.declared.announce.pending.Item.{Item}

abbrev pub Lists : Type 0
Lists = List (List ℕ)

-- an item stays valid and means the same after lists are appended
pub item_more : (ls ids more less : Lists) (i : Item) → IsItem ls ids i → IsItem (ls ++ more) (ids ++ less) i
item_more ls ids more less i h = record {
  literals_within = let k = h.literals_within in omega (arith, k, length-append ls more);
  ids_within = let k = h.ids_within in omega (arith, k, length-append ids less);
}

same_item : (ls ids more less : Lists) (i : Item) → IsItem ls ids i → announcement_at (ls ++ more) (ids ++ less) i ≡ announcement_at ls ids i
same_item ls ids more less i h =
    ap (λ x. announcement_with i.kind x (get_or (ids ++ less) i.ids [])) (get_or_append_left ls more [] i.literals h.literals_within)
    ∙ ap (announcement_with i.kind (get_or ls i.literals [])) (get_or_append_left ids less [] i.ids h.ids_within)

pub items_more : (ls ids more less : Lists) (is : List Item) → All (IsItem ls ids) is → All (IsItem (ls ++ more) (ids ++ less)) is
items_more ls ids more less is right = λ k d l. item_more ls ids more less (get_or is k d) (right k d l)

pub items_kept : (ls ids new newer more less : Lists) (is js : List Item) → All (IsItem ls ids) is → new ≡ ls ++ more → newer ≡ ids ++ less → js ≡ is → All (IsItem new newer) js
items_kept ls ids new newer more less is js right n m j = rw (n, m, j) (items_more ls ids more less is right)

-- one more item is appended
all_pushed : (P : Item → Type 0) (is : List Item) (i : Item) → All P is → P i → All P (is ++ i ∷ [])
all_pushed P [] i right p zero d l = p
all_pushed P [] i right p (suc k) d l = absurd (omega arith)
all_pushed P (x ∷ is) i right p zero d l = right 0 d (omega arith)
all_pushed P (x ∷ is) i right p (suc k) d l = all_pushed P is i (λ j e m. right (suc j) e (omega arith)) p k d (omega arith)

pub items_pushed : (ls ids new newer : Lists) (l p : List ℕ) (kind : AnnouncementKind) (a b : ℕ) (is js : List Item) → All (IsItem ls ids) is → new ≡ ls ++ l ∷ [] → newer ≡ ids ++ p ∷ [] → a ≡ length ls → b ≡ length ids
    → js ≡ is ++ (record { kind = kind; literals = a; ids = b }) ∷ [] → All (IsItem new newer) js
items_pushed ls ids new newer l p kind a b is js right n m e f j =
    rw (n, m, j)
    (all_pushed (IsItem (ls ++ l ∷ []) (ids ++ p ∷ [])) is (record { kind = kind; literals = a; ids = b }) (items_more ls ids (l ∷ []) (p ∷ []) is right)
    (record { literals_within = omega (arith, length-append ls (l ∷ [])); ids_within = omega (arith, length-append ids (p ∷ [])) }))

same_items : (ls ids more less : Lists) (is : List Item) → All (IsItem ls ids) is → map (announcement_at (ls ++ more) (ids ++ less)) is ≡ map (announcement_at ls ids) is
same_items ls ids more less [] right = refl
same_items ls ids more less (i ∷ is) right =
    ap (λ x. x ∷ map (announcement_at (ls ++ more) (ids ++ less)) is) (same_item ls ids more less i (right 0 i (omega arith)))
    ∙ ap (λ xs. announcement_at ls ids i ∷ xs) (same_items ls ids more less is (λ k d l. right (suc k) d (omega arith)))

-- the announcements stay the same after lists are appended
pub seen_more : (ls ids new newer more less : Lists) (is js : List Item) (value : List Announcement) → All (IsItem ls ids) is → map (announcement_at ls ids) is ≡ value →
    new ≡ ls ++ more → newer ≡ ids ++ less → js ≡ is → map (announcement_at new newer) js ≡ value
seen_more ls ids new newer more less is js value right v n m j = rw (n, m, j) (same_items ls ids more less is right ∙ v)

-- one more announcement is appended
pub seen_pushed : (ls ids new newer : Lists) (l p : List ℕ) (kind : AnnouncementKind) (a b : ℕ) (is js : List Item) (value : List Announcement) → All (IsItem ls ids) is → map (announcement_at ls ids) is ≡ value →
    new ≡ ls ++ l ∷ [] → newer ≡ ids ++ p ∷ [] → a ≡ length ls → b ≡ length ids → js ≡ is ++ (record { kind = kind; literals = a; ids = b }) ∷ [] →
    map (announcement_at new newer) js ≡ value ++ announcement_with kind l p ∷ []
seen_pushed ls ids new newer l p kind a b is js value right v n m e f j =
    rw (n, m, j)
    (map-append (announcement_at (ls ++ l ∷ []) (ids ++ p ∷ [])) is (item ∷ [])
    ∙ ap (λ xs. xs ++ announcement_at (ls ++ l ∷ []) (ids ++ p ∷ []) item ∷ []) (same_items ls ids (l ∷ []) (p ∷ []) is right ∙ v)
    ∙ ap (λ x. value ++ x ∷ []) says)
  where
    item : Item
    item = record { kind = kind; literals = a; ids = b }

    says : announcement_at (ls ++ l ∷ []) (ids ++ p ∷ []) item ≡ announcement_with kind l p
    says =
        ap (λ x. announcement_with kind x (get_or (ids ++ p ∷ []) b [])) (get_or_at ls l [] [] a (sym e))
        ∙ ap (announcement_with kind l) (get_or_at ids p [] [] b (sym f))

-- an item represents the announcement at its place
module _ (ls ids : Lists) (is : List Item) (value : List Announcement) (n : ℕ) (x : Item) (v : map (announcement_at ls ids) is ≡ value) (inside : n < length value) (read : x ≡ get_or is n x) where
  within : n < length is
  within = let k : n < length (map (announcement_at ls ids) is) = subst (λ w. n < length w) (sym v) inside in omega (arith, k, length-map is (announcement_at ls ids))

  pub announcement_read : (d : Announcement) → announcement_at ls ids x ≡ get_or value n d
  announcement_read d = subst (λ w. announcement_at ls ids x ≡ get_or w n d) v (ap (announcement_at ls ids) read ∙ sym (get_or-map (announcement_at ls ids) is n x d within))

-- the first items represent the first announcements
pub seen_first : (ls ids : Lists) (is js : List Item) (value : List Announcement) (n : ℕ) → map (announcement_at ls ids) is ≡ value → js ≡ take n is → map (announcement_at ls ids) js ≡ take n value
seen_first ls ids is js value n v j = rw j (sym (take-map (announcement_at ls ids) n is) ∙ ap (take n) v)
