-- `of` creates what contracts see of an underlying error.
use Rattle.std.proofs.Common.{◌≡◌, [], ◌∷◌, refl}
use Rattle.std.proofs.raw_atomic.Walks.{proved}
use mir.Syntax.{a_type, named}
use mir.MapTy.{inst_fn}
use types.Kit.{‵, raw, ◌⊛◌, ◌$◌, ◌∵◌, !, qed, done, move, keep, split, join, fjoin, fpack, suffices}
use base.Fml.{ftrue, fsep}
use types.Part.{agg}
use types.Run.{enter, returns, and_then, no_more}
use types.ByLocal.{alloc_all, pass_all, free_all, look_at, get, sets}
use denote.Builtin.{RefOf}
use denote.Exit.{yes}
use denote.RattleType.{RattleType, owns}
use denote.Laws.{Is}
use denote.Param.{param, layouts}
use denote.Ref.{shr_vals, shr_Tells}
use denote.Signature.{plain, types_at}
use denote.Steps.{nothing, owned}
use denote.Struct.Laws.{makes}
use denote.Triple.Entry.{alive}
use denote.Triple.Walked.{Stays, walk_of, says, stay_dropped, Goes-dropped, ends_at}
use Rattle.std.specs.contracts.marker.PhantomData as mark
use Rattle.sat_checker.proofs.lemmas.tally.Makers.{no_bytes}
use Rattle.sat_solver.proofs.lemmas.session.Rolling.{One, in_one, makes_one}
use Rattle.sat_solver.specs.contracts.proof.kept.Kept as kept
use Rattle.sat_solver.specs.contracts.proof.kept.Kept.TheInside as inside
use Rattle.sat_solver.specs.contracts.proof.kept.Kept.of as f
use Rattle.sat_solver.proofs.proof.kept.Kept.of.Statement.{statement}
use Rattle.sat_solver.proofs.proof.kept.Kept.of.Code as code

abbrev stayed : (P : RattleType) → Stays (f.ended P).signature.params (f.ended P).kept
stayed P = (stay_dropped _ yes, tt)

pub of_spec : {M : Type 1} → statement M
of_spec 𝓤 𝓛 𝓜 𝓡 wired P _ =
    let c = f.clauses P 𝓛 𝓜.mem 𝓡.returns in let W = walk_of 𝓛 (f.ended P) (stayed P) c in
    let inst = layouts (a_type ∷ []) (P, tt) in let M : RattleType = mark.the_row (param 0 P) in let R : RattleType = kept.the_row (param 0 P) in let I : RattleType = inside.the_row (param 0 P) in
    proved 𝓛 (f.ended P) (stayed P) c 𝓜 𝓡 (Goes-dropped 𝓛 2 (RefOf (0 ∷ []) tt (plain (λ _. param 0 P)) (λ _. tt)) yes (λ κs x w. refl), tt)
    (f.Key.name inst) (inst_fn inst code.function) (code.unfolded 𝓤 𝓛.H 𝓜 𝓡 wired (P, tt))
    (λ κs. (shr_vals, tt)) (λ κs. (shr_Tells (named 0) κs.0 (param 0 P), tt)) (λ κs qs bounds a g are.
    let us = shr_vals a.0 in
    let y : W.Ghost = ((κs, qs, bounds, a, (us, tt)), g) in
    let made : R.Denot = a.0.now in
    qed 𝓛 ((raw (alive 𝓛 (f.ended P).signature κs qs) ⊛ ‵ (owns (types_at (f.ended P).signature.params κs) a (us, tt))) ∷ raw ((c κs a).requires g) ∷ []) ∵
    split ! $ keep ! (0 ∷ []) $
    enter ! _ _ _ _ _ $ alloc_all ! (λ l. pass_all ! refl ((tt, tt), tt) $
    sets ! (agg ! (no_more !)) refl (tt, tt) $
    sets ! (agg ! (and_then ! (get ! refl) (no_more !))) refl (tt, (tt, tt)) $
    nothing ! $ nothing ! $ owned ! M (Is M) (makes (mark.the_type (param 0 P)) tt 𝓛) (record {}) (no_bytes ∷ []) (tt, (refl, tt)) $
    makes_one ! M (record {}) $ fjoin ! $ fjoin ! $
    fpack ! ((u : I.Denot) × ((u.cause ≡ a.0.now) × Unit {0})) (λ x. fsep (fsep ((One M).own_val (x.0.of, tt) (in_one ∷ [])) ftrue) ftrue) (record { of = record {}; cause = a.0.now }, (refl, tt)) $
    returns ! (look_at ! 0 refl) $ free_all ! refl $
    suffices ! _ (ends_at 𝓛 (f.ended P) (stayed P) c y in_one made (tt, tt) (tt, tt)) $ says ! refl $
    nothing ! $ nothing ! $ join ! $ move ! (2 ∷ 0 ∷ 1 ∷ []) $ done !))
