-- Bytes that begin with no complete text: they end too early, or have a byte with which no text continues.
use Rattle.std.proofs.Common.{◌≡◌, ℕ, List, [], ◌∷◌, ◌++◌, length, length-append, append_assoc, sym, ap, ◌∙◌, arith}
use Rattle.std.proofs.lemmas.List.{append-nil}
use Rattle.sat_base.specs.steps.Formats.{Format, IsPrefixOfText, IsProperPrefix, IsUniquelyDecodable}
use Rattle.sat_base.proofs.lemmas.steps.Formats.{shut_first}

-- `BeginsNo F bytes` holds if the bytes begin with no complete text.
abbrev BeginsNo : {A : Type 0} → Format A → List ℕ → Type 0
BeginsNo {A} F bytes = (x : A) (text rest : List ℕ) → bytes ≡ text ++ rest → F x text → ⊥

long : (text rest : List ℕ) (b : ℕ) (more : List ℕ) → text ≡ (text ++ rest) ++ b ∷ more → ⊥
long text rest b more e = omega (arith, ap length e ∙ length-append (text ++ rest) (b ∷ more), length-append text rest)

-- a proper prefix of a text does not begin with a text
pub no_whole : {A : Type 0} (F : Format A) → IsUniquelyDecodable F → (bytes : List ℕ) → IsProperPrefix F bytes → BeginsNo F bytes
no_whole {A} F one bytes l x text rest e f =
    let u : text ++ (rest ++ l.1 ∷ l.2) ≡ (bytes ++ l.1 ∷ l.2) ++ [] = sym (append_assoc text rest (l.1 ∷ l.2)) ∙ ap (λ (z : List ℕ). z ++ l.1 ∷ l.2) (sym e) ∙ sym (append-nil (bytes ++ l.1 ∷ l.2)) in
    let s = one x l.0 text (bytes ++ l.1 ∷ l.2) (rest ++ l.1 ∷ l.2) [] f l.3 u in
    long text rest l.1 l.2 (s.0 ∙ ap (λ (z : List ℕ). z ++ l.1 ∷ l.2) e)

abbrev Any : Format (Unit {0})
Any x bytes = Unit {0}

-- bytes with a first bad byte do not begin with a text
pub no_way : {A : Type 0} (F : Format A) → IsUniquelyDecodable F → (bytes front following : List ℕ) (b : ℕ) → bytes ≡ front ++ b ∷ following → IsProperPrefix F front → (IsPrefixOfText F (front ++ b ∷ []) → ⊥) → BeginsNo F bytes
no_way F one bytes front following b e l shut x text rest w f =
    shut_first F (λ _. Any) one front b l shut ((x, tt), following, (text, rest, f, tt, append_assoc front (b ∷ []) following ∙ sym e ∙ w))
