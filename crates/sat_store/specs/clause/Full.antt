-- What holds when a result is `StoreFull`.
use Rattle.std.specs.Prelude.{◌≡◌, Result, Err}
use Rattle.sat_store.specs.declared.clause.alloc.StoreError.{StoreError}
use Rattle.sat_store.specs.declared.clause.alloc.StoreError.TheVariants.{StoreFull}

-- `IfStoreFull r p` holds if the proposition `p` holds whenever the result `r` is the error `StoreFull`.
abbrev pub IfStoreFull : {T : Type 0} → Result T StoreError → Type 0 → Type 0
IfStoreFull r p = r ≡ Err StoreFull → p
