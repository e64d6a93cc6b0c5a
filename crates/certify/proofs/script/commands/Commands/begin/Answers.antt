use Rattle.std.proofs.Common.{refl, []}
use Rattle.sat_base.specs.text.Text.{Letter}
use Rattle.sat_base.specs.script.Language.{InCommand}
use Rattle.certify.specs.script.Commands.{kind_of}
use Rattle.certify.proofs.lemmas.script.Tokens.{fails, goes_on, letter_inside, letter_unknown, letter_begins}
use Rattle.certify.proofs.script.commands.Commands.begin.Goals as goal

pub returns-then-self : goal.returns-then-self
returns-then-self c hand h = fails c.args.self.now hand (Letter c.args.letter) (letter_inside c.args.self.now.draft hand c.args.letter c.if-self.true h)

pub returns-in_default : goal.returns-in_default
returns-in_default c hand h = fails c.args.self.now hand (Letter c.args.letter) (letter_unknown hand c.args.letter c.in_default.ensures)

pub returns : goal.returns
returns c hand h =
    let old = c.args.self.now in
    let kind = kind_of c.in-Some.kind in
    let next = letter_begins old.draft hand c.args.letter kind c.if-self.false h c.in-Some.ensures in
    (InCommand kind [], c.begin.ensures, goes_on old (record old { draft = c.begin.new.self }) hand (InCommand kind []) (Letter c.args.letter) refl refl refl next)
