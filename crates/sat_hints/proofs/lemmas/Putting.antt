-- Texts that are put, one after another.
use Rattle.std.proofs.Common.{ℕ, suc, ◌+◌, ◌^◌, ◌<◌, ◌≤◌, ◌≡◌, Bool, true, false, List, [], ◌∷◌, ◌++◌, length, take, drop, get_or, set, decimal, codes, refl, sym, ◌∙◌, ap, subst, arith, append_assoc, append-nil}
use Rattle.std.proofs.lemmas.List.{drop_more, drop_all}
use Rattle.std.proofs.Math.Seq.{take-suc-set}
use Rattle.std.specs.Fmt.{digits}
use Rattle.sat_base.specs.device.Device.{Writer}
use Rattle.sat_base.specs.device.Sink.{Sink, AddsToSink}
use Rattle.sat_base.proofs.lemmas.device.Sending.{sent_none, sent_more, sends_stops, sends_breaks, piece_waits}
use Rattle.sat_hints.specs.Lines.{spaced_words}
use Rattle.sat_hints.specs.inner.LineWriting.{Outlet, PutOrFailed, PutUnlessFailed, PutsText}

put_none_from : (b : Bool) (a : Outlet) → a.failed ≡ b → PutUnlessFailed b [] a a
put_none_from true a e = refl
put_none_from false a e = subst (λ f. PutOrFailed f [] a.sink a.sink) (sym e) (sent_none a.sink)

pub put_none : (a : Outlet) → PutsText [] a a
put_none a = put_none_from a.failed a refl

-- one text, and then another
write_out_and_put_sent : (b c : Bool) (xs ys : List ℕ) (s t u : Sink) → AddsToSink s t xs → PutOrFailed c ys t u → PutOrFailed c (xs ++ ys) s u
write_out_and_put_sent b false xs ys s t u h k = sent_more s t u xs ys h k
write_out_and_put_sent b true xs ys s t u h k = sends_breaks s t u xs ys h k

pub put_more : (xs ys : List ℕ) (a b c : Outlet) → PutsText xs a b → PutsText ys b c → PutsText (xs ++ ys) a c
put_more xs ys a b c h k = go a.failed b.failed refl refl h k
  where
    go : (f g : Bool) → a.failed ≡ f → b.failed ≡ g → PutUnlessFailed f xs a b → PutUnlessFailed g ys b c → PutUnlessFailed f (xs ++ ys) a c
    go true true e d h k = k ∙ h
    go true false e d h k = absurd (let z : true ≡ false = sym e ∙ ap (λ o. o.failed) (sym h) ∙ d in cc)
    go false true e d h k =
        let broken = subst (λ f. PutOrFailed f xs a.sink b.sink) d h in
        subst (λ z. PutOrFailed z.failed (xs ++ ys) a.sink z.sink) (sym k) (subst (λ f. PutOrFailed f (xs ++ ys) a.sink b.sink) (sym d) (sends_stops a.sink b.sink xs ys broken))
    go false false e d h k = write_out_and_put_sent false c.failed xs ys a.sink b.sink c.sink (subst (λ f. PutOrFailed f xs a.sink b.sink) d h) k

pub put_same : (xs ys : List ℕ) (a b : Outlet) → xs ≡ ys → PutsText xs a b → PutsText ys a b
put_same xs ys a b e h = subst (λ t. PutsText t a b) e h

-- three texts, one after another
pub put_three : (xs ys zs : List ℕ) (a b c d : Outlet) → PutsText xs a b → PutsText ys b c → PutsText zs c d → PutsText (xs ++ (ys ++ zs)) a d
put_three xs ys zs a b c d h k l = put_more xs (ys ++ zs) a b d h (put_more ys zs b c d k l)

pub put_four : (xs ys zs ws : List ℕ) (a b c d e : Outlet) → PutsText xs a b → PutsText ys b c → PutsText zs c d → PutsText ws d e → PutsText (xs ++ (ys ++ (zs ++ ws))) a e
put_four xs ys zs ws a b c d e h k l m = put_more xs (ys ++ (zs ++ ws)) a b e h (put_three ys zs ws b c d e k l m)

-- `PutSoFar whole left old new` holds if a prefix of the text was put, and `left` is the rest.
pub record PutSoFar (whole left : List ℕ) (old new : Outlet) : Type 0 where
  pub front : List ℕ
  pub rest : whole ≡ front ++ left
  pub puts : PutsText front old new

pub so_far_none : (whole : List ℕ) (a : Outlet) → PutSoFar whole whole a a
so_far_none whole a = record { front = []; rest = refl; puts = put_none a }

pub so_far_more : (whole left part more : List ℕ) (a b c : Outlet) → PutSoFar whole left a b → left ≡ part ++ more → PutsText part b c → PutSoFar whole more a c
so_far_more whole left part more a b c s e h = record {
  front = s.front ++ part;
  rest = s.rest ∙ ap (λ t. s.front ++ t) e ∙ sym (append_assoc s.front part more);
  puts = put_more s.front part a b c s.puts h;
}

pub so_far_all : (whole left : List ℕ) (a b : Outlet) → PutSoFar whole left a b → left ≡ [] → PutsText whole a b
so_far_all whole left a b s e = put_same s.front whole a b (sym (s.rest ∙ ap (λ t. s.front ++ t) e ∙ append-nil s.front)) s.puts

-- words, each with a space
pub next_word : (word : ℕ → List ℕ) (xs : List ℕ) (i x : ℕ) → i < length xs → x ≡ get_or xs i x → spaced_words word (drop i xs) ≡ (word x ++ (32 ∷ [])) ++ spaced_words word (drop (i + 1) xs)
next_word word xs i x h e =
    ap (spaced_words word) (drop_more xs i x h) ∙ ap (λ y. word y ++ (32 ∷ spaced_words word (drop (i + 1) xs))) (sym e) ∙ sym (append_assoc (word x) (32 ∷ []) (spaced_words word (drop (i + 1) xs)))

pub next_number : (word : ℕ → List ℕ) (xs : List ℕ) (i : ℕ) → i < length xs → spaced_words word (drop i xs) ≡ (word (get_or xs i 0) ++ (32 ∷ [])) ++ spaced_words word (drop (i + 1) xs)
next_number word xs i h = ap (spaced_words word) (drop_more xs i 0 h) ∙ sym (append_assoc (word (get_or xs i 0)) (32 ∷ []) (spaced_words word (drop (i + 1) xs)))

pub no_word : (word : ℕ → List ℕ) (xs : List ℕ) (i : ℕ) → length xs ≤ i → spaced_words word (drop i xs) ≡ []
no_word word xs i h = ap (spaced_words word) (drop_all i xs h)

-- A BYTE
-- there is room for it
pub byte_waits : (w : Writer) (bytes : List ℕ) (len byte : ℕ) (a b : Outlet) → len < length bytes → a.failed ≡ false → a.sink ≡ record { writer = w; waiting = take len bytes } → b.failed ≡ false → b.sink ≡ record { writer = w; waiting = take (len + 1) (set bytes len byte) } → PutsText (byte ∷ []) a b
byte_waits w bytes len byte a b h e f g k =
    let sent : AddsToSink (record { writer = w; waiting = take len bytes }) (record { writer = w; waiting = take (len + 1) (set bytes len byte) }) (byte ∷ [])
    = piece_waits w (take len bytes) (take (len + 1) (set bytes len byte)) (byte ∷ []) (record { writer = w; waiting = take len bytes }) (sent_none (record { writer = w; waiting = take len bytes })) (one_more bytes len byte h) in
    rw e (rw g (subst (λ s. AddsToSink s b.sink (byte ∷ [])) (sym f) (subst (λ t. AddsToSink (record { writer = w; waiting = take len bytes }) t (byte ∷ [])) (sym k) sent)))
  where
    one_more : (bytes : List ℕ) (len byte : ℕ) → len < length bytes → take (len + 1) (set bytes len byte) ≡ take len bytes ++ (byte ∷ [])
    one_more bytes len byte h = let e : len + 1 ≡ suc len = omega arith in ap (λ n. take n (set bytes len byte)) e ∙ take-suc-set bytes len byte h

-- after the pending bytes were written
pub first_byte_waits : (w : Writer) (bytes : List ℕ) (len byte : ℕ) (a b c : Outlet) → len ≡ 0 → 0 < length bytes → PutsText [] a b → b.failed ≡ false → b.sink ≡ record { writer = w; waiting = take len bytes } → c.failed ≡ false → c.sink ≡ record { writer = w; waiting = take 1 (set bytes 0 byte) } → PutsText (byte ∷ []) a c
first_byte_waits w bytes len byte a b c z h p e f g k =
    let f' : b.sink ≡ record { writer = w; waiting = take 0 bytes } = f ∙ ap (λ (n : ℕ). let s : Sink = record { writer = w; waiting = take n bytes } in s) z in
    put_more [] (byte ∷ []) a b c p (byte_waits w bytes 0 byte b c h e f' g k)

-- the ID of the largest id is 2^64
pub past_all : (id : ℕ) → id < 2 ^ 64 → 2 ^ 64 ≤ id + 1 → codes "18446744073709551616 " ≡ decimal (id + 1) ++ (32 ∷ [])
unfolding digits
past_all id h k = let e : id + 1 ≡ 18446744073709551616 = omega arith in rw e refl
