-- A search that matches a session matches every session that looks the same to it. A tautology changes nothing for it.
use Rattle.std.proofs.Common.{inl, inr, ℕ, ◌≡◌, ◌∙◌, true, Option, Some, List, [], ◌∷◌, map, sym, ap}
use Rattle.sat_base.specs.values.Literals.{variable, is_positive}
use Rattle.sat_base.specs.steps.Steps.{Step}
use Rattle.sat_checker.specs.LiteralSets.{is_tautology}
use Rattle.sat_parts.specs.clause.Db.{live_refs}
use Rattle.sat_parts.specs.parts.Whole.{state}
use Rattle.sat_solver.specs.session.Session.{Session, session_after}
use Rattle.sat_solver.specs.session.LiveClauses.{with_var, AreMapped}
use Rattle.sat_solver.proofs.lemmas.fits.AddedLemmas.{fits_added_tautology, unit_true}
use Rattle.sat_solver.proofs.lemmas.fits.CodeLemmas.{coded_by}
use Rattle.sat_solver.proofs.lemmas.cdcl.TurnLemmas.{ready_names}
use Rattle.sat_solver.specs.declared.context.Search.{Search}
use Rattle.sat_solver.specs.cdcl.Joint.{global_in, SearchInvariant}
use Rattle.sat_solver.specs.load.Alike.{SameToSearch}
use Rattle.sat_solver.specs.load.Loaded.{IsAdded}
use Rattle.sat_solver.proofs.lemmas.load.LoadingLemmas.{asked_added, leaves_added}

mapped_alike : (global : ℕ → ℕ) (f h : ℕ → Option ℕ) (ls : List ℕ) → ((v : ℕ) → h v ≡ f v) → AreMapped global f ls → AreMapped global h ls
mapped_alike global f h [] same m = m
mapped_alike global f h (l ∷ ls) same m = (same (global (variable l)) ∙ m.0, mapped_alike global f h ls same m.1)

pub search_alike : (s t : Session) (c : Search) → SearchInvariant s c → SameToSearch s t → SearchInvariant t c
search_alike s t c x a =
    let fits = x.valid.fits in
    record {
      valid = record {
        holds = x.valid.holds;
        fits = record {
          clauses = record {
            named = λ d k. mapped_alike (global_in c) s.solver_names t.solver_names d.literals a.names (fits.clauses.named d k);
            once = fits.clauses.once;
            counts = λ r set. a.live r set ∙ fits.clauses.counts r set;
          };
          paired = fits.paired;
          known = λ l u. unit_same l (ready_names s c x.ready l (unit_true (state c.parts) l x.valid.holds.below.propagation.agrees u).0) ∙ fits.known l u;
          sound = λ l n u. (let own = sym (a.names (global_in c (variable l))) ∙ n in fits.sound l own (sym (unit_same l own) ∙ u));
          consistent = a.unsat ∙ fits.consistent;
          width = a.width ∙ fits.width;
        };
      };
      ready = record {
        free = x.ready.free;
        placed = x.ready.placed;
        there = x.ready.there;
        asked = a.assumed ∙ x.ready.asked;
        used = λ v lt. elim (x.ready.used v lt) [ inl own ↦ inl (a.names (global_in c v) ∙ own) | inr idle ↦ inr idle ];
      };
    }
  where
    unit_same : (l : ℕ) → s.solver_names (global_in c (variable l)) ≡ Some (variable l) → t.units (with_var (global_in c) l) ≡ s.units (with_var (global_in c) l)
    unit_same l e = ap t.units (sym (coded_by (global_in c) l)) ∙ a.units (global_in c (variable l)) (variable l) (is_positive l) e ∙ ap s.units (coded_by (global_in c) l)

-- a tautology was added
pub tautology_loads : (steps : List Step) (c : Search) (ls : List ℕ) → IsAdded steps c ls → is_tautology ls ≡ true → SearchInvariant (session_after steps) c
tautology_loads steps c ls added both =
    let x = added.search in
    let p = c.parts in
    rw added.added (record {
      valid = record { holds = x.valid.holds; fits = fits_added_tautology p.clauses (live_refs p.clauses p.db.refs) p.binary.implied (state p) (session_after added.earlier) (global_in c) x.valid.holds.below.propagation.agrees x.valid.fits ls both };
      ready = record {
        free = x.ready.free;
        placed = x.ready.placed;
        there = x.ready.there;
        asked = asked_added (map (with_var (global_in c)) ls) added.earlier x.valid.fits.consistent ∙ x.ready.asked;
        used = λ v lt. elim (x.ready.used v lt) [
          | inl own ↦ inl ((leaves_added (map (with_var (global_in c)) ls) added.earlier x.valid.fits.consistent).names (global_in c v) ∙ own)
          | inr idle ↦ inr idle
        ];
      };
    })
