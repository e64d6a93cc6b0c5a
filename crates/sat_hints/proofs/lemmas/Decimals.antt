-- Texts that are appended to bytes.
use Rattle.std.proofs.Common.{ℕ, ◌+◌, ◌<◌, ◌≡◌, false, List, [], ◌∷◌, ◌++◌, length, take, set, sym, ◌∙◌, ap, subst, append_assoc}
use Rattle.sat_base.specs.device.Device.{Writer}
use Rattle.sat_base.specs.device.Sink.{AddsToSink}
use Rattle.sat_base.proofs.lemmas.values.Decimals.{one_put}
use Rattle.sat_base.proofs.lemmas.device.Sending.{sent_none, piece_waits}
use Rattle.sat_hints.specs.inner.LineWriting.{Outlet, PutsText}

-- a text, and one more byte
pub text_put : (old now text : List ℕ) (len end x : ℕ) → end < length now → take end now ≡ take len old ++ text → take (end + 1) (set now end x) ≡ take len old ++ (text ++ (x ∷ []))
text_put old now text len end x h e = one_put now end x h ∙ ap (λ t. t ++ (x ∷ [])) e ∙ append_assoc (take len old) text (x ∷ [])

-- a text that fits into the buffer
pub text_waits : (w : Writer) (bytes later : List ℕ) (len more : ℕ) (text : List ℕ) (a b : Outlet) → a.failed ≡ false → a.sink ≡ record { writer = w; waiting = take len bytes } → b.failed ≡ false → b.sink ≡ record { writer = w; waiting = take more later } → take more later ≡ take len bytes ++ text → PutsText text a b
text_waits w bytes later len more text a b e f g k t =
    let sent : AddsToSink (record { writer = w; waiting = take len bytes }) (record { writer = w; waiting = take more later }) text
    = piece_waits w (take len bytes) (take more later) text (record { writer = w; waiting = take len bytes }) (sent_none (record { writer = w; waiting = take len bytes })) t in
    rw e (rw g (subst (λ s. AddsToSink s b.sink text) (sym f) (subst (λ s. AddsToSink (record { writer = w; waiting = take len bytes }) s text) (sym k) sent)))
