use Rattle.std.proofs.Common.{◌∙◌, ap}
use Rattle.sat_store.specs.heap.Vsids.{is_available}
use Rattle.sat_parts.proofs.lemmas.parts.LoadFrames.{says_size}
use Rattle.sat_parts_tests.proofs.loading.load_one.Goals as goal

pub returns : goal.returns
returns c =
    let e = c.in_ok-load.ensures in
    record {
      holds = e.holds;
      bottom = e.kept.1;
      size = says_size c.in_ok-load.field-0 c.args.parts.now c.load.new.parts _ e.says ∙ c.requires.size;
      picks = λ v lt. ap (λ q. is_available q v) e.kept.0 ∙ c.requires.picks v lt;
    }
