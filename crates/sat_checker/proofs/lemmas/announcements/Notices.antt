-- Worked examples of announcements, proved by computing.
use Rattle.std.proofs.Common.{ℕ, refl, inr}
use Rattle.sat_checker.specs.Accepts.{CanGetName}
use Rattle.sat_checker.specs.Stored.{nothing_stored}
use Rattle.sat_checker.specs.announcements.Rows.{RefutedAnnounced, RefutedAtWidthZeroAnnounced, HashGivenTwiceAnnounced, CollidingAnnounced, Contradiction, ConflictAndUnitAnnounced}

-- before the first step, variable 0 may get any name
pub first_name : (name : ℕ) → CanGetName nothing_stored 0 name
first_name name = record { free = λ w e. cc; nameless = refl; not_hidden = λ e. cc }

pub refuted_reported : RefutedAnnounced
refuted_reported = refl

pub refuted_at_zero : RefutedAtWidthZeroAnnounced
refuted_at_zero = refl

pub named_twice : HashGivenTwiceAnnounced
named_twice = refl

pub colliding : CollidingAnnounced
colliding = refl

pub contradiction : Contradiction
contradiction = ((((tt, first_name 0), inr (refl, tt)), inr (refl, tt)), refl, refl, refl, refl, refl)

pub conflict_and_unit : ConflictAndUnitAnnounced
conflict_and_unit = refl
