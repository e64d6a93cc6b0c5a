-- `after` returns the state after a call.
use Rattle.std.proofs.Common.{[], ◌∷◌, refl}
use Rattle.std.proofs.raw_atomic.Walks.{proved}
use mir.Syntax.{named}
use types.Kit.{‵, raw, ◌⊛◌, ◌$◌, ◌∵◌, !, qed, done, move, keep, split, join, fjoin, suffices}
use types.Part.{agg}
use types.Run.{enter, returns, no_more}
use types.ByLocal.{alloc_all, pass_all, free_all, look_at, sets}
use base.Fml.{ftrue}
use denote.Builtin.{RefOf}
use denote.Exit.{yes}
use denote.RattleType.{owns}
use denote.Ref.{shr_vals, shr_Tells}
use denote.Signature.{plain, types_at, named_lft}
use denote.Steps.{nothing}
use denote.Triple.Entry.{alive}
use denote.Triple.Walked.{Stays, walk_of, says, stay_dropped, Goes-dropped, ends_at}
use Rattle.sat_solver.specs.facade.Judged.{state_after_change}
use Rattle.sat_solver.specs.contracts.facade.judged.Change as change
use Rattle.sat_checker.proofs.lemmas.tally.Makers.{no_bytes, makes_empty}
use Rattle.sat_solver.specs.contracts.facade.judged.Judged as judged
use Rattle.sat_solver.specs.contracts.facade.judged.Judged.after as f
use Rattle.sat_solver.proofs.facade.judged.Judged.after.Statement.{statement}
use Rattle.sat_solver.proofs.facade.judged.Judged.after.Code as code

abbrev stayed : Stays f.ended.signature.params f.ended.kept
stayed = (stay_dropped _ yes, (stay_dropped _ yes, tt))

pub after_spec : {M : Type 1} → statement M
after_spec 𝓤 𝓛 𝓜 𝓡 wired =
    let c = f.clauses 𝓛 𝓜.mem 𝓡.returns in let W = walk_of 𝓛 f.ended stayed c in
    proved 𝓛 f.ended stayed c 𝓜 𝓡 (Goes-dropped 𝓛 3 (RefOf (0 ∷ []) tt (plain (λ _. judged.the_row)) (λ _. tt)) yes (λ κs x w. refl), (Goes-dropped 𝓛 3 (RefOf (1 ∷ []) tt (plain (λ κs. change.the_row (named_lft 3 2 tt κs))) (λ _. tt)) yes (λ κs x w. refl), tt))
    f.Key.name code.function (code.unfolded 𝓤 𝓛.H 𝓜 𝓡 wired)
    (λ κs. (shr_vals, (shr_vals, tt))) (λ κs. (shr_Tells (named 0) κs.0 judged.the_row, (shr_Tells (named 1) κs.1.0 (change.the_row (named_lft 3 2 tt κs)), tt))) (λ κs qs bounds a _ are.
    let vs = shr_vals a.0 in
    let us = shr_vals a.1.0 in
    let y : W.Ghost = ((κs, qs, bounds, a, (vs, (us, tt))), tt) in
    let made : (judged.the_row).Denot = record { state = state_after_change a.1.0.now a.0.now.state } in
    qed 𝓛 ((raw (alive 𝓛 f.signature κs qs) ⊛ ‵ (owns (types_at f.signature.params κs) a (vs, (us, tt)))) ∷ ‵ ftrue ∷ []) ∵
    split ! $ keep ! (0 ∷ []) $
    enter ! _ _ _ _ _ $ alloc_all ! (λ l. pass_all ! refl ((tt, tt), ((tt, tt), tt)) $
    sets ! (agg ! (no_more !)) refl (tt, tt) $
    nothing ! $ makes_empty ! $ fjoin ! $
    returns ! (look_at ! 0 refl) $ free_all ! refl $
    suffices ! _ (ends_at 𝓛 f.ended stayed c y no_bytes made (tt, (tt, tt)) (tt, (tt, tt))) $ says ! refl $
    nothing ! $ nothing ! $ join ! $ nothing ! $ join ! $ move ! (2 ∷ 0 ∷ 1 ∷ []) $ done !))
