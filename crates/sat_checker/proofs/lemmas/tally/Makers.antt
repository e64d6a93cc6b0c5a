-- Shared by the proofs of functions that make a value without bytes: the value owns nothing.
use Rattle.std.proofs.Common.{List, [], ◌∷◌, refl}
use seplogic.Ra.Ura.{Ura}
use mir.Val.{Val, vstruct, vnil}
use types.Logic.{Logic}
use types.Kit.{Goal, Step, step, Item, ‵, ◌$◌, feq_i, fjoin, fpack}
use denote.RattleType.{RattleType, Valss}
use denote.Steps.{nothing}
use denote.Struct.Struct.{Struct, within}

abbrev pub no_bytes : Val
no_bytes = vstruct vnil

abbrev pub Empty : RattleType
Empty = Struct (record { name = []; args = []; types = []; fields = [] })

pub makes_empty : {M : Type 1} {𝓤 : Ura M} {𝓛 : Logic 𝓤} {K : Type 0} {Γ : List (Item 𝓤)} {G : Goal 𝓤 𝓛.H} → K → Step K 𝓛 (‵ (Empty.own_val tt (no_bytes ∷ [])) ∷ Γ) G Γ G
makes_empty k = step (λ then.
    nothing k $ feq_i k (List Val) (no_bytes ∷ []) (no_bytes ∷ []) refl $ fjoin k $
    fpack k (Valss []) (within (record { name = []; args = []; types = []; fields = [] }) tt (no_bytes ∷ [])) tt $ then)
