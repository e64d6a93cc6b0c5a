-- Lists that are parts of one list.
use Rattle.std.proofs.Common.{ℕ, zero, suc, ◌≡◌, ◌≢◌, ◌+◌, ◌-◌, ◌^◌, ◌<◌, ◌≤◌, ◌⊎◌, inl, inr, List, [], ◌∷◌, ◌++◌, length, get_or, set, take, drop, map, min, replicate, refl, sym, ap, ◌∙◌, subst, arith, length-set, get_or-set_same, get_or-set_other}
use Rattle.std.proofs.Math.ListN.{get_or-map}
use Rattle.std.proofs.lemmas.Bool.{cases_lt, cases_eq}
use Rattle.std.proofs.lemmas.List.{ext_get_or, get_or_past, get_or-take, get_or-drop, length-map, length-drop, length-take, take-map, map-append, length_push, get_or_push, get_or_append_left, get_or-append_right, get_or-replicate, length-replicate, set-get_or}
use Rattle.std.proofs.lemmas.List.Sums.{sum_by_more}
use Rattle.std.specs.List.{sum_by}
use Rattle.sat_parts.specs.declared.binary.Place.{Place}
use Rattle.sat_parts.specs.prop.Places.{no_place, place_at, lits_at_place, lists_of, HaveDisjointRooms, ArePlaces, CopiesPadded}

pub lists_at : (places : List Place) (lits : List ℕ) (l : ℕ) → get_or (lists_of places lits) l [] ≡ lits_at_place lits (place_at places l)
lists_at places lits l = get_or-map (lits_at_place lits) places l no_place

pub part_len : (lits : List ℕ) (p : Place) → p.start + p.len ≤ length lits → length (lits_at_place lits p) ≡ p.len
part_len lits p within =
    let n : length (drop p.start lits) ≡ length lits - p.start = length-drop p.start lits in
    let m : length (lits_at_place lits p) ≡ min p.len (length (drop p.start lits)) = length-take p.len (drop p.start lits) in
    omega (arith, n, m)

pub part_at : (lits : List ℕ) (p : Place) (k : ℕ) → k < p.len → get_or (lits_at_place lits p) k 0 ≡ get_or lits (p.start + k) 0
part_at lits p k lt = get_or-take p.len (drop p.start lits) k 0 lt ∙ get_or-drop p.start lits k 0

-- two parts with the same literals are equal
pub part_same : (lits more : List ℕ) (p q : Place) → q.start + q.len ≤ length lits → p.start + p.len ≤ length more → p.len ≡ q.len →
    ((k : ℕ) → k < q.len → get_or more (p.start + k) 0 ≡ get_or lits (q.start + k) 0) → lits_at_place more p ≡ lits_at_place lits q
part_same lits more p q within within' len same =
    let n : length (lits_at_place lits q) ≡ q.len = part_len lits q within in
    let m : length (lits_at_place more p) ≡ p.len = part_len more p within' in
    ext_get_or 0 (lits_at_place more p) (lits_at_place lits q) (m ∙ len ∙ sym n)
    (λ k lt. part_at more p k (omega (arith, m)) ∙ same k (omega (arith, m)) ∙ sym (part_at lits q k (omega (arith, m))))

-- every list lies within the shared list
pub list_within : (places : List Place) (size l : ℕ) → ArePlaces places size → (place_at places l).start + (place_at places l).len ≤ size
list_within places size l h = omega (arith, h.few l, h.within l)

-- places stay valid if every new one is an old one or has no room
pub places_kept : (old new : List Place) (size : ℕ) → ArePlaces old size → ((l : ℕ) → (place_at new l ≡ place_at old l) ⊎ (place_at new l ≡ no_place)) → ArePlaces new size
places_kept old new size h each = record {
  few = λ l. elim (each l) [
    | inl e ↦ subst (λ (p : Place). p.len ≤ p.room) (sym e) (h.few l)
    | inr e ↦ subst (λ (p : Place). p.len ≤ p.room) (sym e) (omega arith)
  ];
  within = λ l. elim (each l) [
    | inl e ↦ subst (λ (p : Place). p.start + p.room ≤ size) (sym e) (h.within l)
    | inr e ↦ subst (λ (p : Place). p.start + p.room ≤ size) (sym e) (omega arith)
  ];
  apart = λ l m n. elim (each l) [
    | inl e ↦ elim (each m) [
      | inl d ↦ subst (λ (p : Place). HaveDisjointRooms p (place_at new m)) (sym e) (subst (λ (q : Place). HaveDisjointRooms (place_at old l) q) (sym d) (h.apart l m n))
      | inr d ↦ subst (λ (q : Place). HaveDisjointRooms (place_at new l) q) (sym d) (inr (omega arith))
    ]
    | inr e ↦ subst (λ (p : Place). HaveDisjointRooms p (place_at new m)) (sym e) (inl (omega arith))
  ];
}

-- one list changes, and the others stay
pub lists_set : (places : List Place) (lits more : List ℕ) (code : ℕ) (p : Place) (xs : List ℕ) → code < length places → lits_at_place more p ≡ xs →
    ((m : ℕ) → m ≢ code → lits_at_place more (place_at places m) ≡ lits_at_place lits (place_at places m)) → lists_of (set places code p) more ≡ set (lists_of places lits) code xs
lists_set places lits more code p xs lt is others =
    let n : length (lists_of (set places code p) more) ≡ length places = length-map (set places code p) (lits_at_place more) ∙ length-set places code p in
    let m : length (set (lists_of places lits) code xs) ≡ length places = length-set (lists_of places lits) code xs ∙ length-map places (lits_at_place lits) in
    let lt' : code < length (lists_of places lits) = omega (arith, length-map places (lits_at_place lits)) in
    ext_get_or [] (lists_of (set places code p) more) (set (lists_of places lits) code xs) (n ∙ sym m)
    (λ l b. elim (cases_eq l code) [
      | inl e ↦
          lists_at (set places code p) more l
          ∙ ap (λ (k : ℕ). lits_at_place more (place_at (set places code p) k)) e
          ∙ ap (λ (q : Place). lits_at_place more q) (get_or-set_same places code p no_place lt)
          ∙ is
          ∙ sym (get_or-set_same (lists_of places lits) code xs [] lt')
          ∙ ap (λ (k : ℕ). get_or (set (lists_of places lits) code xs) k []) (sym e)
      | inr d ↦
          lists_at (set places code p) more l
          ∙ ap (λ (q : Place). lits_at_place more q) (get_or-set_other places code l p no_place d)
          ∙ others l d
          ∙ sym (lists_at places lits l)
          ∙ sym (get_or-set_other (lists_of places lits) code l xs [] d)
    ])

-- writing within the room of one list leaves the others unchanged
pub part_kept : (places : List Place) (lits more : List ℕ) (code m : ℕ) → ArePlaces places (length lits) → length lits ≤ length more → m ≢ code →
    ((k : ℕ) → k < length lits → (k < (place_at places code).start) ⊎ ((place_at places code).start + (place_at places code).room ≤ k) → get_or more k 0 ≡ get_or lits k 0) →
    lits_at_place more (place_at places m) ≡ lits_at_place lits (place_at places m)
part_kept places lits more code m h le n same =
    let q : Place = place_at places m in
    let p : Place = place_at places code in
    let w : q.start + q.len ≤ length lits = list_within places (length lits) m h in
    part_same lits more q q w (omega (arith, w)) refl
    (λ k lt. same (q.start + k) (omega (arith, w)) (elim (h.apart m code n) [
      | inl before ↦ inl (omega (arith, before, h.few m))
      | inr after ↦ inr (omega (arith, after))
    ]))

-- moving a list to a new room leaves all lists as they were
pub lists_moved : (places : List Place) (lits more : List ℕ) (code room : ℕ) → ArePlaces places (length lits) → code < length places → (place_at places code).len ≤ room →
    CopiesPadded (place_at places code).start (place_at places code).len room lits more →
    lists_of (set places code (record { start = length lits; len = (place_at places code).len; room = room })) more ≡ lists_of places lits
lists_moved places lits more code room h lt few c =
    let p : Place = place_at places code in
    let q : Place = record { start = length lits; len = p.len; room = room } in
    let w : p.start + p.len ≤ length lits = list_within places (length lits) code h in
    let here : lits_at_place more q ≡ lits_at_place lits p = part_same lits more q p w (omega (arith, c.size)) refl (λ k b. c.copied k b) in
    lists_set places lits more code q (lits_at_place lits p) lt here
    (λ m n. part_kept places lits more code m h (omega (arith, c.size)) n (λ k b _. c.kept k b))
    ∙ ap (λ (xs : List ℕ). set (lists_of places lits) code xs) (sym (lists_at places lits code))
    ∙ set-get_or (lists_of places lits) code []

-- appending to a list that has room for one more changes only this list
pub lists_pushed : (places : List Place) (lits : List ℕ) (code x : ℕ) → ArePlaces places (length lits) → code < length places → (place_at places code).len < (place_at places code).room →
    lists_of (set places code (record { start = (place_at places code).start; len = (place_at places code).len + 1; room = (place_at places code).room }))
    (set lits ((place_at places code).start + (place_at places code).len) x) ≡ set (lists_of places lits) code (get_or (lists_of places lits) code [] ++ x ∷ [])
lists_pushed places lits code x h lt room =
    let p : Place = place_at places code in
    let q : Place = record { start = p.start; len = p.len + 1; room = p.room } in
    let at : ℕ = p.start + p.len in
    let more : List ℕ = set lits at x in
    let size : length (set lits (p.start + p.len) x) ≡ length lits = length-set lits (p.start + p.len) x in
    let fits : p.start + p.len < length lits = omega (arith, h.within code, room) in
    let n : length (lits_at_place lits p) ≡ p.len = part_len lits p (omega (arith, fits)) in
    let m : length (lits_at_place (set lits (p.start + p.len) x) q) ≡ p.len + 1 = part_len (set lits (p.start + p.len) x) q (omega (arith, fits, size)) in
    let o : length (lits_at_place lits p ++ x ∷ []) ≡ p.len + 1 = length_push (lits_at_place lits p) x ∙ ap (λ (k : ℕ). k + 1) n in
    let here : lits_at_place (set lits (p.start + p.len) x) q ≡ lits_at_place lits p ++ x ∷ [] =
    ext_get_or 0 (lits_at_place (set lits (p.start + p.len) x) q) (lits_at_place lits p ++ x ∷ []) (m ∙ sym o)
    (λ k b. part_at (set lits (p.start + p.len) x) q k (omega (arith, m)) ∙ elim (cases_lt k p.len) [
      | inl less ↦
          get_or-set_other lits (p.start + p.len) (p.start + k) x 0 (omega arith)
          ∙ sym (part_at lits p k less)
          ∙ sym (get_or_append_left (lits_at_place lits p) (x ∷ []) 0 k (omega (arith, n)))
      | inr last ↦
          let e : k ≡ p.len = omega (arith, m) in
          ap (λ (i : ℕ). get_or (set lits (p.start + p.len) x) (p.start + i) 0) e
          ∙ get_or-set_same lits (p.start + p.len) x 0 fits
          ∙ sym (ap (λ (i : ℕ). get_or (lits_at_place lits p ++ x ∷ []) i 0) (e ∙ sym n) ∙ get_or_push (lits_at_place lits p) x 0 (length (lits_at_place lits p)) refl)
    ]) in
    lists_set places lits (set lits (p.start + p.len) x) code q (lits_at_place lits p ++ x ∷ []) lt here
    (λ m n. part_kept places lits (set lits (p.start + p.len) x) code m h (omega (arith, size)) n
    (λ k b away. get_or-set_other lits (p.start + p.len) k x 0 (elim away [ inl a ↦ omega (arith, room) | inr b ↦ omega (arith, room) ])))
    ∙ ap (λ (xs : List ℕ). set (lists_of places lits) code (xs ++ x ∷ [])) (sym (lists_at places lits code))

-- shortening or rewriting a list within its room changes only this list
pub lists_left : (places : List Place) (lits more : List ℕ) (code left : ℕ) (xs : List ℕ) → ArePlaces places (length lits) → length more ≡ length lits → code < length places →
    take left (drop (place_at places code).start more) ≡ xs →
    ((k : ℕ) → (k < (place_at places code).start) ⊎ ((place_at places code).start + (place_at places code).len ≤ k) → get_or more k 0 ≡ get_or lits k 0) →
    lists_of (set places code (record { start = (place_at places code).start; len = left; room = (place_at places code).room })) more ≡ set (lists_of places lits) code xs
lists_left places lits more code left xs h size lt is same =
    lists_set places lits more code (record { start = (place_at places code).start; len = left; room = (place_at places code).room }) xs lt is
    (λ m n. part_kept places lits more code m h (omega (arith, size)) n (λ k b away. same k (elim away [ inl a ↦ inl a | inr b ↦ inr (omega (arith, b, h.few code)) ])))

fewer : {A : Type 0} (d : A) (a b : ℕ) (xs : List A) → a ≤ b → take a (take b xs) ≡ take a xs
fewer {A} d a b xs le =
    let n : length (take b xs) ≡ min b (length xs) = length-take b xs in
    let m : length (take a (take b xs)) ≡ min a (length (take b xs)) = length-take a (take b xs) in
    let o : length (take a xs) ≡ min a (length xs) = length-take a xs in
    ext_get_or d (take a (take b xs)) (take a xs) (omega (arith, n, m, o))
    (λ k lt. get_or-take a (take b xs) k d (omega (arith, m)) ∙ get_or-take b xs k d (omega (arith, m)) ∙ sym (get_or-take a xs k d (omega (arith, m))))

map_replicate : {A B : Type 0} (f : A → B) (n : ℕ) (x : A) → map f (replicate n x) ≡ replicate n (f x)
map_replicate f zero x = refl
map_replicate f (suc n) x = ap (λ (ys : List _). f x ∷ ys) (map_replicate f n x)

-- removing the last literal of a list
pub list_popped : (places : List Place) (lits : List ℕ) (code : ℕ) → ArePlaces places (length lits) →
    take ((place_at places code).len - 1) (drop (place_at places code).start lits) ≡ take (length (get_or (lists_of places lits) code []) - 1) (get_or (lists_of places lits) code [])
list_popped places lits code h =
    let p : Place = place_at places code in
    let n : length (lits_at_place lits p) ≡ p.len = part_len lits p (list_within places (length lits) code h) in
    sym (ap (λ (xs : List ℕ). take (length xs - 1) xs) (lists_at places lits code)
    ∙ ap (λ (k : ℕ). take (k - 1) (lits_at_place lits p)) n
    ∙ fewer 0 (p.len - 1) p.len (drop p.start lits) (omega arith))

-- more or fewer lists
pub lists_resized : (places : List Place) (lits : List ℕ) (count : ℕ) →
    lists_of (take count places ++ replicate (count - length places) no_place) lits ≡ take count (lists_of places lits) ++ replicate (count - length (lists_of places lits)) []
lists_resized places lits count =
    map-append (lits_at_place lits) (take count places) (replicate (count - length places) no_place)
    ∙ ap (λ (xs : List (List ℕ)). xs ++ map (lits_at_place lits) (replicate (count - length places) no_place)) (sym (take-map (lits_at_place lits) count places))
    ∙ ap (λ (xs : List (List ℕ)). take count (lists_of places lits) ++ xs) (map_replicate (lits_at_place lits) (count - length places) no_place)
    ∙ ap (λ (k : ℕ). take count (lists_of places lits) ++ replicate (count - k) []) (sym (length-map places (lits_at_place lits)))

pub places_resized : (places : List Place) (size count : ℕ) → ArePlaces places size → ArePlaces (take count places ++ replicate (count - length places) no_place) size
places_resized places size count h = places_kept places (take count places ++ replicate (count - length places) no_place) size h (λ l.
    elim (cases_lt l (length (take count places))) [
      | inl lt ↦
          let n : length (take count places) ≡ min count (length places) = length-take count places in
          inl (get_or_append_left (take count places) (replicate (count - length places) no_place) no_place l lt ∙ get_or-take count places l no_place (omega (arith, n)))
      | inr le ↦ inr (get_or-append_right (take count places) (replicate (count - length places) no_place) (length (take count places)) l no_place refl le
          ∙ none (count - length places) (l - length (take count places)))
    ])
  where
    none : (n i : ℕ) → get_or (replicate n no_place) i no_place ≡ no_place
    none n i = elim (cases_lt i n) [
      | inl lt ↦ get_or-replicate n i no_place no_place lt
      | inr le ↦ get_or_past (replicate n no_place) i no_place (omega (arith, length-replicate {A = Place} n no_place))
    ]

-- counting the literals of one more list
pub implied_more : (places : List Place) (lits : List ℕ) (code : ℕ) → ArePlaces places (length lits) → code < length places →
    sum_by (λ (ls : List ℕ). length ls) (take (code + 1) (lists_of places lits)) ≡ sum_by (λ (ls : List ℕ). length ls) (take code (lists_of places lits)) + (place_at places code).len
implied_more places lits code h lt =
    sum_by_more (λ (ls : List ℕ). length ls) (lists_of places lits) code [] (omega (arith, length-map places (lits_at_place lits)))
    ∙ ap (λ (n : ℕ). sum_by (λ (ls : List ℕ). length ls) (take code (lists_of places lits)) + n)
    (ap (λ (xs : List ℕ). length xs) (lists_at places lits code) ∙ part_len lits (place_at places code) (list_within places (length lits) code h))

-- removing the last literal, in the variables of the code
pub popped_by : (places : List Place) (lits : List ℕ) (code left : ℕ) (p : Place) → p ≡ place_at places code → left ≡ p.len - 1 → ArePlaces places (length lits) → code < length places →
    lists_of (set places code (record { start = p.start; len = left; room = p.room })) lits ≡ set (lists_of places lits) code (take (length (get_or (lists_of places lits) code []) - 1) (get_or (lists_of places lits) code []))
popped_by places lits code left p e s h lt = rw (s, e) (lists_left places lits lits code ((place_at places code).len - 1) (take (length (get_or (lists_of places lits) code []) - 1) (get_or (lists_of places lits) code [])) h refl lt (list_popped places lits code h) (λ k away. refl))

pub pushed_by : (places : List Place) (lits : List ℕ) (code x : ℕ) (p : Place) → p ≡ place_at places code → ArePlaces places (length lits) → code < length places → (place_at places code).len < (place_at places code).room →
    lists_of (set places code (record { start = p.start; len = p.len + 1; room = p.room })) (set lits (p.start + p.len) x) ≡ set (lists_of places lits) code (get_or (lists_of places lits) code [] ++ x ∷ [])
pushed_by places lits code x p e h lt room = rw e (lists_pushed places lits code x h lt room)

pub moved_by : (places : List Place) (lits more : List ℕ) (code start room : ℕ) (p : Place) → p ≡ place_at places code → start ≡ length lits → ArePlaces places (length lits) → code < length places → p.len ≤ room →
    CopiesPadded p.start p.len room lits more → lists_of (set places code (record { start = start; len = p.len; room = room })) more ≡ lists_of places lits
moved_by places lits more code start room p e s h lt few c = rw (s, e) (lists_moved places lits more code room h lt (subst (λ (q : Place). q.len ≤ room) e few) (subst (λ (q : Place). CopiesPadded q.start q.len room lits more) e c))

pub left_by : (places : List Place) (lits more : List ℕ) (code left : ℕ) (f : List ℕ → List ℕ) (p : Place) → p ≡ place_at places code → ArePlaces places (length lits) → length more ≡ length lits → code < length places →
    take left (drop p.start more) ≡ f (lits_at_place lits p) →
    ((k : ℕ) → (k < p.start) ⊎ (p.start + p.len ≤ k) → get_or more k 0 ≡ get_or lits k 0) →
    lists_of (set places code (record { start = p.start; len = left; room = p.room })) more ≡ set (lists_of places lits) code (f (get_or (lists_of places lits) code []))
left_by places lits more code left f p e h size lt is same =
    rw e (lists_left places lits more code left (f (get_or (lists_of places lits) code [])) h size lt
    (subst (λ (q : Place). take left (drop q.start more) ≡ f (lits_at_place lits q)) e is ∙ ap f (sym (lists_at places lits code)))
    (subst (λ (q : Place). (k : ℕ) → (k < q.start) ⊎ (q.start + q.len ≤ k) → get_or more k 0 ≡ get_or lits k 0) e same))

-- the length of a list whose place was written
pub left_len : (places : List Place) (more : List ℕ) (code left start room : ℕ) → code < length places → start + left ≤ length more →
    left ≡ length (get_or (lists_of (set places code (record { start = start; len = left; room = room })) more) code [])
left_len places more code left start room lt within =
    let q : Place = record { start = start; len = left; room = room } in
    sym (ap (λ (xs : List ℕ). length xs) (lists_at (set places code q) more code ∙ ap (λ (r : Place). lits_at_place more r) (get_or-set_same places code q no_place lt)) ∙ part_len more q within)

-- nothing outside a part changed if what is before and after it did not
pub rest_by : (old cur : List ℕ) (start len : ℕ) → take start cur ≡ take start old → drop len (drop start cur) ≡ drop len (drop start old) → (k : ℕ) → (k < start) ⊎ (start + len ≤ k) → get_or cur k 0 ≡ get_or old k 0
rest_by old cur start len front following k away = elim away [
  | inl lt ↦ sym (get_or-take start cur k 0 lt) ∙ ap (λ (xs : List ℕ). get_or xs k 0) front ∙ get_or-take start old k 0 lt
  | inr le ↦
      let e : start + (len + (k - (start + len))) ≡ k = omega arith in
      let at : (xs : List ℕ) → get_or (drop len (drop start xs)) (k - (start + len)) 0 ≡ get_or xs k 0 = λ xs.
      get_or-drop len (drop start xs) (k - (start + len)) 0 ∙ get_or-drop start xs (len + (k - (start + len))) 0 ∙ ap (λ (i : ℕ). get_or xs i 0) e in
      sym (at cur) ∙ ap (λ (xs : List ℕ). get_or xs (k - (start + len)) 0) following ∙ at old
]

-- counting the literals of one more list, in the variables of the code
pub counted_more : (places : List Place) (lits : List ℕ) (implied : List (List ℕ)) (code all next : ℕ) (p : Place) → implied ≡ lists_of places lits → p ≡ place_at places code → ArePlaces places (length lits) → code < length places →
    all ≡ min (sum_by (λ (ls : List ℕ). length ls) (take code implied)) (2 ^ 64 - 1) → next ≡ min (all + p.len) (2 ^ 64 - 1) →
    next ≡ min (sum_by (λ (ls : List ℕ). length ls) (take (code + 1) implied)) (2 ^ 64 - 1)
counted_more places lits implied code all next p is e h lt counted more =
    let n : sum_by (λ (ls : List ℕ). length ls) (take (code + 1) (lists_of places lits)) ≡ sum_by (λ (ls : List ℕ). length ls) (take code (lists_of places lits)) + (place_at places code).len = implied_more places lits code h lt in
    let m : sum_by (λ (ls : List ℕ). length ls) (take (code + 1) implied) ≡ sum_by (λ (ls : List ℕ). length ls) (take code implied) + p.len =
    rw (is, e) n in
    omega (arith, m, counted, more)
