-- `new` creates an empty roll.
use Rattle.std.proofs.Common.{[], ◌∷◌, refl}
use Rattle.std.proofs.raw_atomic.Walks.{proved}
use mir.Syntax.{a_type}
use mir.MapTy.{inst_fn}
use types.Kit.{‵, raw, ◌⊛◌, ◌$◌, ◌∵◌, !, qed, done, move, keep, split, fjoin, suffices}
use types.Part.{agg}
use types.Run.{enter, returns, and_then, no_more}
use types.ByLocal.{alloc_all, pass_all, free_all, look_at, get, sets}
use denote.RattleType.{RattleType, owns}
use denote.Laws.{Is}
use denote.Param.{param, layouts}
use denote.Signature.{types_at}
use denote.Steps.{nothing, owned}
use denote.Struct.Laws.{makes}
use denote.Triple.Entry.{alive}
use denote.Triple.Walked.{Stays, walk_of, says, ends_at}
use Rattle.std.specs.contracts.marker.PhantomData as mark
use Rattle.sat_checker.proofs.lemmas.tally.Makers.{no_bytes}
use Rattle.sat_solver.proofs.lemmas.session.Rolling.{in_one, makes_one}
use Rattle.sat_solver.specs.contracts.session.roll.Roll as roll
use Rattle.sat_solver.specs.contracts.session.roll.Roll.new as f
use Rattle.sat_solver.proofs.session.roll.Roll.new.Statement.{statement}
use Rattle.sat_solver.proofs.session.roll.Roll.new.Code as code

abbrev stayed : (P : RattleType) → Stays (f.ended P).signature.params (f.ended P).kept
stayed P = tt

pub new_spec : {M : Type 1} → statement M
new_spec 𝓤 𝓛 𝓜 𝓡 wired P _ =
    let c = f.clauses P 𝓛 𝓜.mem 𝓡.returns in let W = walk_of 𝓛 (f.ended P) (stayed P) c in
    let inst = layouts (a_type ∷ []) (P, tt) in let M : RattleType = mark.the_row (param 0 P) in
    proved 𝓛 (f.ended P) (stayed P) c 𝓜 𝓡 tt
    (f.Key.name inst) (inst_fn inst code.function) (code.unfolded 𝓤 𝓛.H 𝓜 𝓡 wired (P, tt))
    (λ κs. tt) (λ κs. tt) (λ κs qs bounds a g are.
    let y : W.Ghost = ((κs, qs, bounds, a, tt), g) in
    let made : (roll.the_row (param 0 P)).Denot = record { of = record {}; items = [] } in
    qed 𝓛 ((raw (alive 𝓛 (f.ended P).signature κs qs) ⊛ ‵ (owns (types_at (f.ended P).signature.params κs) a tt)) ∷ raw ((c κs a).requires g) ∷ []) ∵
    split ! $ keep ! (0 ∷ []) $
    enter ! _ _ _ _ _ $ alloc_all ! (λ l. pass_all ! refl tt $
    sets ! (agg ! (no_more !)) refl (tt, tt) $
    sets ! (agg ! (and_then ! (get ! refl) (no_more !))) refl (tt, (tt, tt)) $
    nothing ! $ owned ! M (Is M) (makes (mark.the_type (param 0 P)) tt 𝓛) (record {}) (no_bytes ∷ []) (tt, (refl, tt)) $
    makes_one ! M (record {}) $ fjoin ! $
    returns ! (look_at ! 0 refl) $ free_all ! refl $
    suffices ! _ (ends_at 𝓛 (f.ended P) (stayed P) c y in_one made tt tt) $ says ! refl $
    nothing ! $ move ! (2 ∷ 0 ∷ 1 ∷ []) $ done !))
