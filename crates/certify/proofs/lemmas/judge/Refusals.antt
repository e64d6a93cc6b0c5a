-- Why a command is refused, given the states of names.
use Rattle.std.proofs.Common.{ℕ, suc, drop, drop-cons, length, ◌+◌, ◌*◌, ◌≤◌, ◌<◌, ◌≡◌, Bool, true, false, cond, ltb, lt-ltb, get_or, List, [], ◌∷◌, ◌++◌, Option, Some, None, refl, sym, ◌∙◌, ap, arith, ◌⊎◌, inl, inr}
use Rattle.std.proofs.lemmas.List.{drop_all}
use Rattle.std.proofs.lemmas.Bool.{ltb-true}
use Rattle.std.specs.List.{AllByRecursion}
use Rattle.sat_base.specs.values.Literals.{var_limit, variable}
use Rattle.sat_base.specs.script.Script.{Literal, names_of}
use Rattle.sat_base.specs.script.ScriptState.{ScriptState, NameMode, Sampled, Witnessed, identity_of, is_witness, has_witness, WitnessName, first_refusal, refusal_of_names, refusal_of}
use Rattle.certify.specs.answers.AnswerForms.{named_literals}
use Rattle.sat_base.specs.script.Language.{Kind, OfClause, OfAsk, command_of}
use Rattle.certify.specs.script.Commands.{kind_of, FirstIsPastLimit, IsPrefixWithinLimit}
use Rattle.certify.specs.declared.script.Command.{Command as Lent}
use Rattle.certify.specs.declared.refusals.Refusal.{Refusal as CodeRefusal}
use Rattle.certify.specs.declared.refusals.names.Names.{Names}
use Rattle.certify.specs.refusals.Names.{states_of, name_state_in, state_of_mode, state_of_identity, NamesHaveState, is_witnessed, limit_refusal, refusal_of_option, ReportsRefusal}

witness_at : (j : ScriptState) (o : Option ℕ) → has_witness j o ≡ is_witnessed (state_of_identity j.modes o)
witness_at j None = refl
witness_at j (Some i) = go (get_or j.modes i Sampled)
  where
    go : (m : NameMode) → is_witness m ≡ is_witnessed (state_of_mode m)
    go Sampled = refl
    go Witnessed = refl

pub witness_is : (names : Names) (j : ScriptState) (name : ℕ) → NamesHaveState names j → has_witness j (identity_of j name) ≡ is_witnessed (name_state_in (states_of names) name)
witness_is names j name h = witness_at j (identity_of j name) ∙ ap is_witnessed (h.each name)

within : (name : ℕ) → name ≤ var_limit → ltb var_limit name ≡ false
within name h = go (ltb var_limit name) refl
  where
    go : (b : Bool) → ltb var_limit name ≡ b → b ≡ false
    go true e = let x = ltb-true var_limit name e in absurd (omega arith)
    go false e = refl

-- the command is refused for its next name if that is a witness, otherwise as for the later literals
refused_next : (names : Names) (j : ScriptState) (code : ℕ) (codes : List ℕ) (tail : List Literal) → NamesHaveState names j → variable code < var_limit
    → refusal_of_names j (names_of (named_literals (code ∷ codes) ++ tail))
    ≡ cond (is_witnessed (name_state_in (states_of names) (variable code + 1))) (Some (WitnessName (variable code + 1))) (refusal_of_names j (names_of (named_literals codes ++ tail)))
refused_next names j code codes tail h low = rw (within (variable code + 1) (omega arith), witness_is names j (variable code + 1) h) refl

pub refused_at : (names : Names) (j : ScriptState) (codes : List ℕ) (tail : List Literal) (k code : ℕ) (b : Bool) → NamesHaveState names j → k < length codes → code ≡ get_or codes k code → variable code < var_limit
    → is_witnessed (name_state_in (states_of names) (variable code + 1)) ≡ b
    → refusal_of_names j (names_of (named_literals (drop k codes) ++ tail)) ≡ cond b (Some (WitnessName (variable code + 1))) (refusal_of_names j (names_of (named_literals (drop (k + 1) codes) ++ tail)))
refused_at names j codes tail k code b h within at low e =
    let more : k + 1 ≡ suc k = omega arith in
    let cut : drop k codes ≡ code ∷ drop (k + 1) codes = drop-cons codes k code within ∙ ap (λ (x : ℕ). x ∷ drop (suc k) codes) (sym at) ∙ ap (λ (n : ℕ). code ∷ drop n codes) (sym more) in
    ap (λ (xs : List ℕ). refusal_of_names j (names_of (named_literals xs ++ tail))) cut
    ∙ refused_next names j code (drop (k + 1) codes) tail h low
    ∙ ap (λ (d : Bool). cond d (Some (WitnessName (variable code + 1))) (refusal_of_names j (names_of (named_literals (drop (k + 1) codes) ++ tail)))) e

-- after all codes, the command is refused only for a literal past the limit
past_literals : (j : ScriptState) (past : Bool) (ls : List Literal) → FirstIsPastLimit past ls → refusal_of_names j (names_of ls) ≡ refusal_of_option (limit_refusal past)
past_literals j false ls h = ap (λ (ks : List Literal). refusal_of_names j (names_of ks)) h
past_literals j true [] h = absurd h
past_literals j true (l ∷ ls) h = let e : ltb var_limit l.name ≡ true = lt-ltb var_limit l.name h in rw e refl

past_names : (j : ScriptState) (past : Bool) (ls : List Literal) → FirstIsPastLimit past ls → first_refusal true j (names_of ls) ≡ refusal_of_option (limit_refusal past)
past_names j false ls h = ap (λ (ks : List Literal). first_refusal true j (names_of ks)) h
past_names j true [] h = absurd h
past_names j true (l ∷ ls) h = let e : ltb var_limit l.name ≡ true = lt-ltb var_limit l.name h in rw e refl

pub refused_end : (j : ScriptState) (codes : List ℕ) (past : Bool) (ls : List Literal) (k : ℕ) → (f : IsPrefixWithinLimit codes past ls) → length codes ≤ k → refusal_of_names j (names_of (named_literals (drop k codes) ++ f.following)) ≡ refusal_of_option (limit_refusal past)
refused_end j codes past ls k f over =
    ap (λ (xs : List ℕ). refusal_of_names j (names_of (named_literals xs ++ f.following))) (drop_all k codes over) ∙ past_literals j past f.following f.limit

names_within : (j : ScriptState) (codes : List ℕ) (tail : List Literal) → AllByRecursion (λ code. code < 2 * var_limit) codes → first_refusal true j (names_of (named_literals codes ++ tail)) ≡ first_refusal true j (names_of tail)
names_within j [] tail h = refl
names_within j (code ∷ codes) tail h = let low = h.0 in rw (within (variable code + 1) (omega arith)) (names_within j codes tail h.1)

pub names_refused : (j : ScriptState) (codes : List ℕ) (past : Bool) (ls : List Literal) → IsPrefixWithinLimit codes past ls → first_refusal true j (names_of ls) ≡ refusal_of_option (limit_refusal past)
names_refused j codes past ls f = ap (λ (ks : List Literal). first_refusal true j (names_of ks)) f.whole ∙ names_within j codes f.following f.within ∙ past_names j past f.following f.limit

-- COMPLETE COMMANDS
pub says_literals : (names : Names) (lent : Lent) (r : Option CodeRefusal) → (kind_of lent.kind ≡ OfClause) ⊎ (kind_of lent.kind ≡ OfAsk)
    → ((j : ScriptState) (ls : List Literal) → NamesHaveState names j → IsPrefixWithinLimit lent.literals.now lent.past_limit ls → refusal_of_option r ≡ refusal_of_names j (names_of ls)) → ReportsRefusal r names lent
says_literals names lent r (inl k) said j c h (ls, f, e) = said j ls h f ∙ sym (ap (refusal_of j) (e ∙ ap (λ (kind : Kind). command_of kind ls) k))
says_literals names lent r (inr k) said j c h (ls, f, e) = said j ls h f ∙ sym (ap (refusal_of j) (e ∙ ap (λ (kind : Kind). command_of kind ls) k))

name_refusal : (kind : Kind) (j : ScriptState) (ls : List Literal) → (kind ≡ OfClause → ⊥) → (kind ≡ OfAsk → ⊥) → refusal_of j (command_of kind ls) ≡ first_refusal true j (names_of ls)
name_refusal OfClause j ls n m = absurd (n refl)
name_refusal OfAsk j ls n m = absurd (m refl)
name_refusal e j ls n m = refl

-- a command that lists names is refused only for a name past the limit
pub says_names : (names : Names) (lent : Lent) (r : Option CodeRefusal) → (kind_of lent.kind ≡ OfClause → ⊥) → (kind_of lent.kind ≡ OfAsk → ⊥) → r ≡ limit_refusal lent.past_limit → ReportsRefusal r names lent
says_names names lent r n m said j c h (ls, f, e) =
    ap refusal_of_option said ∙ sym (names_refused j lent.literals.now lent.past_limit ls f) ∙ sym (name_refusal (kind_of lent.kind) j ls n m) ∙ sym (ap (refusal_of j) e)
