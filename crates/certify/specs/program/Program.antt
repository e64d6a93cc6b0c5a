-- What the program does.
use Rattle.std.specs.Prelude.{ℕ, ◌≡◌, ◌⊎◌, Option, List}
use Rattle.certify.specs.program.Calls.{Request, AreArgumentsFor, AreInvalidArguments, NamesFiles, WritesFiles}
use Rattle.certify.specs.program.Effects.{Effect, LeavesStreams, Misuse}
use Rattle.certify.specs.program.FileCalls.{DoesCall, IsOpenedFor}
use Rattle.certify.specs.declared.program.opened.OpenCall.{OpenCall}

module _ {F G : Type 0} (remaining : F → Option (List ℕ)) (contents : G → Option (List ℕ)) where
  -- `IsCarriedOut request e` holds if the files of the request were opened, and the call was carried out with them,
  -- with the effect `e` (`DoesCall`).
  abbrev pub IsCarriedOut : Request → Effect → Type 0
  IsCarriedOut request e = (old : OpenCall F G) × (new : OpenCall F G) × IsOpenedFor remaining contents request old × DoesCall remaining contents old new e

  -- `DoesRequest request e` holds if the request was carried out with the effect `e`. Otherwise standard input and
  -- output were left alone, and the status is 2, which requires that the request writes files, or 3, which requires
  -- that it names files.
  abbrev pub DoesRequest : Request → Effect → Type 0
  DoesRequest request e = IsCarriedOut request e
      ⊎ (WritesFiles request × (e.status ≡ 2) × LeavesStreams e)
      ⊎ (NamesFiles request × (e.status ≡ 3) × LeavesStreams e)

  -- `Obeys words e`, the promise of the program, holds if the arguments `words` ask for a request, and it was done with
  -- the effect `e`; or if they ask for none, the status is 2, and standard input and output were left alone.
  abbrev pub Obeys : List (List ℕ) → Effect → Type 0
  Obeys words e = ((request : Request) × AreArgumentsFor words request × DoesRequest request e) ⊎ (AreInvalidArguments words × Misuse e)
