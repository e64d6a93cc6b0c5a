-- The effects of requests.
use Rattle.std.proofs.Common.{ℕ, ◌≡◌, Option, List, inl, inr, refl}
use Rattle.sat_base.specs.device.Device.{Reader, Writer}
use Rattle.certify.specs.program.Calls.{AreArgumentsFor, AreInvalidArguments, NamesFiles, Request, WritesFiles}
use Rattle.certify.specs.program.Effects.{Effect, effect}
use Rattle.certify.specs.program.FileCalls.{DoesCall, IsOpenedFor}
use Rattle.certify.specs.program.Program.{Obeys}
use Rattle.certify.specs.declared.program.opened.OpenCall.{OpenCall}

module _ {F G : Type 0} (remaining : F → Option (List ℕ)) (contents : G → Option (List ℕ)) (words : List (List ℕ)) where
  -- the request was carried out
  pub obeys_opened : (r : Request) (old new : OpenCall F G) (e : Effect) → AreArgumentsFor words r → IsOpenedFor remaining contents r old → DoesCall remaining contents old new e → Obeys remaining contents words e
  obeys_opened r old new e asks h d = inl (r, asks, inl (old, new, h, d))

  module _ (s : ℕ) (x : Reader) (w : Writer) where
    -- the arguments ask for nothing
    pub obeys_misuse : AreInvalidArguments words → s ≡ 2 → Obeys remaining contents words (effect s (x, x) (w, w))
    obeys_misuse none is = inr (none, (is, (refl, refl)))

    -- the request was refused
    pub obeys_refused : (r : Request) → AreArgumentsFor words r → WritesFiles r → s ≡ 2 → Obeys remaining contents words (effect s (x, x) (w, w))
    obeys_refused r asks writes is = inl (r, asks, inr (inl (writes, is, (refl, refl))))

    -- a file could not be opened
    pub obeys_fault : (r : Request) → AreArgumentsFor words r → NamesFiles r → s ≡ 3 → Obeys remaining contents words (effect s (x, x) (w, w))
    obeys_fault r asks names is = inl (r, asks, inr (inr (names, is, (refl, refl))))
