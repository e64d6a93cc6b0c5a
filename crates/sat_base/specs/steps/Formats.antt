-- Formats: which bytes spell which value.
use Rattle.std.specs.Prelude.{◌≡◌, ℕ, List, [], ◌∷◌, ◌++◌, length}

-- a relation on values and the bytes that spell them
abbrev pub Format : Type 0 → Type 1
Format A = A → List ℕ → Type 0

-- `IsPrefixOfText F bytes` holds if the bytes are a prefix of a text of the format, or all of it.
abbrev pub IsPrefixOfText : {A : Type 0} → Format A → List ℕ → Type 0
IsPrefixOfText {A} F bytes = (x : A) × (more : List ℕ) × F x (bytes ++ more)

-- `IsProperPrefix F bytes` holds if the bytes are a prefix of a text of the format, but not all of it.
abbrev pub IsProperPrefix : {A : Type 0} → Format A → List ℕ → Type 0
IsProperPrefix {A} F bytes = (x : A) × (b : ℕ) × (more : List ℕ) × F x (bytes ++ b ∷ more)

-- `HasBadByte F bytes` holds if `bytes` contain a byte that makes them wrong: those before it are a proper prefix of a
-- text of the format `F`, but no text begins with them and this byte.
pub record HasBadByte {A : Type 0} (F : Format A) (bytes : List ℕ) : Type 0 where
  pub front : List ℕ
  pub byte : ℕ
  pub following : List ℕ
  pub whole : bytes ≡ front ++ byte ∷ following
  pub live : IsProperPrefix F front
  pub shut : IsPrefixOfText F (front ++ byte ∷ []) → ⊥

-- the format of pairs whose text is the first value's text in the format `F`, and then the second one's text in the
-- format that `G` gives for the first value
abbrev pub Then : {A B : Type 0} → Format A → (A → Format B) → Format (A × B)
Then {A} {B} F G x bytes = (a : List ℕ) × (b : List ℕ) × F x.0 a × G x.0 x.1 b × (bytes ≡ a ++ b)

-- the format of pairs whose text is the first value's text in the format `F`, and then the second one's text in the
-- format `G`
abbrev pub Both : {A B : Type 0} → Format A → Format B → Format (A × B)
Both F G = Then F (λ _. G)

-- the format of lists whose text is the items' texts in the format `F`, one after another, without a count
abbrev pub Items : {A : Type 0} → Format A → Format (List A)
Items {A} F [] bytes = bytes ≡ []
Items {A} F (x ∷ xs) bytes = (a : List ℕ) × (b : List ℕ) × F x a × Items F xs b × (bytes ≡ a ++ b)

-- the format of lists of exactly `n` items, whose text is the items' texts in the format `F`, one after another,
-- without a count
abbrev pub Times : {A : Type 0} → Format A → ℕ → Format (List A)
Times {A} F n xs bytes = (length xs ≡ n) × Items F xs bytes

-- the format of lists whose text is the number of items in the format `C`, and then the items' texts in the format `F`
abbrev pub ListOf : {A : Type 0} → Format ℕ → Format A → Format (List A)
ListOf {A} C F xs bytes = (a : List ℕ) × (b : List ℕ) × C (length xs) a × Items F xs b × (bytes ≡ a ++ b)

-- `IsUniquelyDecodable F` holds if no bytes begin with two different texts of the format `F`, and no text spells two
-- values.
abbrev pub IsUniquelyDecodable : {A : Type 0} → Format A → Type 0
IsUniquelyDecodable {A} F = (x y : A) (a b s t : List ℕ) → F x a → F y b → a ++ s ≡ b ++ t → (a ≡ b) × (x ≡ y)
