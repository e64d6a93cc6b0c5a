-- Shared by the walks of functions that build a struct of one zero-sized field: it owns what the field owns.
use Rattle.std.proofs.Common.{List, [], ◌∷◌, refl}
use seplogic.Ra.Ura.{Ura}
use mir.Val.{Val, vstruct, vcons, vnil}
use types.Logic.{Logic}
use types.Kit.{Goal, Step, step, Item, ‵, ◌$◌, move, feq_i, fjoin, fpack}
use denote.RattleType.{RattleType, Valss}
use denote.Steps.{nothing}
use denote.Struct.Struct.{Struct, within}
use Rattle.sat_checker.proofs.lemmas.tally.Makers.{no_bytes}

-- a struct with one zero-sized field
abbrev pub in_one : Val
in_one = vstruct (vcons no_bytes vnil)

abbrev pub One : RattleType → RattleType
One R = Struct (record { name = []; args = []; types = []; fields = R ∷ [] })

pub makes_one : {M : Type 1} {𝓤 : Ura M} {𝓛 : Logic 𝓤} {K : Type 0} {Γ : List (Item 𝓤)} {G : Goal 𝓤 𝓛.H} → K → (R : RattleType) (x : R.Denot) → Step K 𝓛 (‵ ((One R).own_val (x, tt) (in_one ∷ [])) ∷ Γ) G (‵ (R.own_val x (no_bytes ∷ [])) ∷ Γ) G
makes_one k R x = step (λ then.
    nothing k $ move k (1 ∷ 0 ∷ []) $ fjoin k $ feq_i k (List Val) (in_one ∷ []) (in_one ∷ []) refl $ fjoin k $
    fpack k (Valss (R ∷ [])) (within (record { name = []; args = []; types = []; fields = R ∷ [] }) (x, tt) (in_one ∷ [])) (no_bytes ∷ [], tt) $ then)
