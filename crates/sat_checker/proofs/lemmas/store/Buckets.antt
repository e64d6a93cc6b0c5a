-- Buckets compared with all stored clauses: looks and room.
use Rattle.std.proofs.Common.{ℕ, ◌+◌, ◌*◌, ◌<◌, ◌≤◌, ◌&&◌, map, ◌≡◌, Bool, true, false, not, cond, eqb, List, [], ◌∷◌, filter, ◌++◌, sym, ap, arith}
use Rattle.std.specs.List.{AllByRecursion}
use Rattle.sat_checker.specs.Looks.{total_length}
use Rattle.sat_checker.specs.Stored.{StoredClause}
use Rattle.sat_checker.specs.inner.Marks.{IsIncreasing, NoRepeats}
use Rattle.sat_checker.specs.inner.SlotView.{Slot, is_removed, is_filed, all_lits, live_clauses, live_literal_count, bucket_in, bucket_of}
use Rattle.sat_checker.specs.inner.AssumedRoom.{RoomIsKept, HasClauseRoom, HasClausesRoom, HasStoredRoom}
use Rattle.sat_checker.proofs.lemmas.sets.Marks.{once}
use Rattle.sat_checker.proofs.lemmas.sets.Members.{each_weaker}
use Rattle.sat_checker.proofs.lemmas.propagation.Walking.{over_buckets, roomy_further}

pub bucket_length : (h : ℕ) (ss : List Slot) → total_length (bucket_in h ss) ≤ live_literal_count ss
bucket_length h [] = omega arith
bucket_length h (s ∷ ss) = go (is_removed s) (eqb s.hash h) (bucket_length h ss)
  where
    go : (b d : Bool) → total_length (bucket_in h ss) ≤ live_literal_count ss → total_length (all_lits (cond (not b && d) (s ∷ filter (is_filed h) ss) (filter (is_filed h) ss))) ≤ total_length (map (λ c. c.literals) (cond b [] (s.clause ∷ []) ++ live_clauses ss))
    go true d ih = ih
    go false true ih = omega arith
    go false false ih = omega arith

pub looks_more : (old looks new i n b : ℕ) → looks ≤ old + i * n → new ≤ looks + b → b ≤ n → new ≤ old + (i + 1) * n
looks_more old looks new i n b h k l = let e : (i + 1) * n ≡ i * n + n = grind arith in omega arith

pub looks_within : (old looks i m n : ℕ) → looks ≤ old + i * n → i ≤ m → looks ≤ old + m * n
looks_within old looks i m n h l = let e : i * n ≤ m * n = grind arith in omega arith

-- the looks for the first items, for one more, and for the rest
pub looks_rest : (old looks then new i k all n m : ℕ) → m ≡ n → k + (i + 1) ≡ all → looks ≤ old + i * n → then ≤ looks + m → new ≤ then + k * m → new ≤ old + all * n
looks_rest old looks then new i k all n m e f g h l =
    let d : (k + (i + 1)) * n ≡ k * n + i * n + n = grind arith in
    let c : all * n ≡ (k + (i + 1)) * n = ap (λ x. x * n) (sym f) in
    let b : k * m ≡ k * n = ap (λ x. k * x) e in
    omega arith

pub walked_more : (old looks new i h : ℕ) (ss : List Slot) → looks ≤ old + i * live_literal_count ss → new ≤ looks + total_length (bucket_in h ss) → new ≤ old + (i + 1) * live_literal_count ss
walked_more old looks new i h ss a b = looks_more old looks new i (live_literal_count ss) (total_length (bucket_in h ss)) a b (bucket_length h ss)

pub walked_within : (old looks new i m h : ℕ) (ss : List Slot) → looks ≤ old + i * live_literal_count ss → new ≤ looks + total_length (bucket_in h ss) → i < m → new ≤ old + m * live_literal_count ss
walked_within old looks new i m h ss a b l = looks_within old new (i + 1) m (live_literal_count ss) (walked_more old looks new i h ss a b) (omega arith)

pub walked_all : (old looks i m : ℕ) (ss : List Slot) → looks ≤ old + i * live_literal_count ss → i ≤ m → looks ≤ old + m * live_literal_count ss
walked_all old looks i m ss a l = looks_within old looks i m (live_literal_count ss) a l

-- if all stored clauses have room, so have the clauses of a bucket
pub bucket_roomy : (room : List ℕ) (h : ℕ) (ss : List Slot) → HasStoredRoom room (live_clauses ss) → HasClausesRoom room (bucket_in h ss)
bucket_roomy room h [] r = tt
bucket_roomy room h (s ∷ ss) r = go (is_removed s) (eqb s.hash h) r (bucket_roomy room h ss)
  where
    go : (b d : Bool) → HasStoredRoom room (cond b [] (s.clause ∷ []) ++ live_clauses ss) → (HasStoredRoom room (live_clauses ss) → HasClausesRoom room (bucket_in h ss))
        → HasClausesRoom room (all_lits (cond (not b && d) (s ∷ filter (is_filed h) ss) (filter (is_filed h) ss)))
    go true d k ih = ih k
    go false true k ih = (k.0, ih k.1)
    go false false k ih = ih k.1

pub buckets_roomy : (room : List ℕ) (hashes : List ℕ) (ss : List Slot) → HasStoredRoom room (live_clauses ss) → AllByRecursion (HasClausesRoom room) (map (bucket_of ss) hashes)
buckets_roomy room [] ss r = tt
buckets_roomy room (h ∷ hs) ss r = (bucket_roomy room h ss r, buckets_roomy room hs ss r)

-- stored clauses still have room if more literals have room
pub stored_further : (old new : List ℕ) (cs : List StoredClause) → RoomIsKept old new → HasStoredRoom old cs → HasStoredRoom new cs
stored_further old new cs s = each_weaker (λ c. HasClauseRoom old c.literals) (λ c. HasClauseRoom new c.literals) (λ c. roomy_further old new c.literals s) cs

-- no literal occurs twice in a clause of a bucket
pub buckets_once : (ss : List Slot) (hashes : List ℕ) → AllByRecursion IsIncreasing (all_lits ss) → AllByRecursion (AllByRecursion NoRepeats) (map (bucket_of ss) hashes)
buckets_once ss [] h = tt
buckets_once ss (k ∷ ks) h = (bucket_once ss h, buckets_once ss ks h)
  where
    bucket_once : (ts : List Slot) → AllByRecursion IsIncreasing (all_lits ts) → AllByRecursion NoRepeats (bucket_in k ts)
    bucket_once [] g = tt
    bucket_once (t ∷ ts) g = go (is_filed k t) (bucket_once ts g.1)
      where
        go : (b : Bool) → AllByRecursion NoRepeats (bucket_in k ts) → AllByRecursion NoRepeats (all_lits (cond b (t ∷ filter (is_filed k) ts) (filter (is_filed k) ts)))
        go true ih = (once t.clause.literals g.0, ih)
        go false ih = ih

pub ruleset over_hashes = (over_buckets, walked_more, walked_within)
