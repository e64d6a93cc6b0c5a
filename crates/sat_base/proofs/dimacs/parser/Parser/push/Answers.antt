use Rattle.std.proofs.Common.{ℕ, List, [], ◌∷◌, ◌++◌, None, Some, Err, refl, sym, ap, subst, true}
use Rattle.std.proofs.lemmas.List.{append-nil}
use Rattle.sat_base.specs.declared.dimacs.clauses.Refusal.TheVariants as refusal
use Rattle.sat_base.specs.declared.dimacs.parser.Parser.{Parser}
use Rattle.sat_base.specs.dimacs.Collecting.{CollectsToken, token_of}
use Rattle.sat_base.specs.dimacs.Parsing.{NeedsMemoryAt, stopped_by_memory}
use Rattle.sat_base.specs.dimacs.ParserPlaces.{progress_of}
use Rattle.sat_base.specs.dimacs.Dimacs.{Malformed, Limit}
use Rattle.sat_base.proofs.lemmas.dimacs.Feeding.{pushed, push_none, push_some, push_short, fed_none, FaultAt, push_fails, push_wrong}
use Rattle.sat_base.proofs.dimacs.parser.Parser.push.Goals as goal

pub returns-in_default-clause-parser : goal.returns-in_default-clause-parser
returns-in_default-clause-parser c =
    let p = pushed c.args.self.now.tokenizer c.push.new.self c.args.byte None c.in_default.ensures.takes c.in_default.ensures.inside c.in_default.ensures.quiet c.in_default.ensures.ended c.in_default.ensures.right in
    push_none c.args.self.now _ c.args.byte c.requires.parser c.requires.open p (record { fed = c.and_byte-self.ensures.0; taken = c.and_byte-self.ensures.1 }) refl refl (c.is_wrong.ensures.right c.if-is_wrong.false)

pub returns-in-Ok-clause-parser : goal.returns-in-Ok-clause-parser
returns-in-Ok-clause-parser c =
    let p = pushed c.args.self.now.tokenizer c.push.new.self c.args.byte (Some c.in-Some.token) c.in-Some.ensures.takes c.in-Some.ensures.inside c.in-Some.ensures.quiet c.in-Some.ensures.ended c.in-Some.ensures.right in
    push_some c.args.self.now _ c.args.byte c.in-Some.token c.requires.parser c.requires.open p (record { fed = c.and_byte-self-in-Ok.ensures.0; taken = c.and_byte-self-in-Ok.ensures.1 }) refl c.in-Ok.ensures.0 c.in-Ok.ensures.1

at_malformed : (c : goal.After-line-in-Err-Malformed) → FaultAt Malformed c.line-in-Err-Malformed.result c.args.byte c.args.self.now
    (record { alloc = c.args.self.now.alloc; tokenizer = c.push.new.self; clauses = c.take.new.self; history = c.and_byte-self-in-Err-Malformed.result; stopped = true; ended = true })
at_malformed c =
    let p = pushed c.args.self.now.tokenizer c.push.new.self c.args.byte (Some c.in-Some.token) c.in-Some.ensures.takes c.in-Some.ensures.inside c.in-Some.ensures.quiet c.in-Some.ensures.ended c.in-Some.ensures.right in
    let e : CollectsToken (Err refusal.Malformed) c.args.self.now.clauses (token_of c.in-Some.token) c.take.new.self = rw c.in-Err-Malformed.field-0-is at c.in-Err-Malformed.ensures in
    push_fails c.args.self.now _ c.args.byte c.in-Some.token Malformed c.line-in-Err-Malformed.result c.requires.parser c.requires.open p
    (record { fed = c.and_byte-self-in-Err-Malformed.ensures.0; taken = c.and_byte-self-in-Err-Malformed.ensures.1 }) refl refl e.0 e.1 c.line-in-Err-Malformed.ensures

pub returns-in-Err-Malformed-clause-parser : goal.returns-in-Err-Malformed-clause-parser
returns-in-Err-Malformed-clause-parser c = (at_malformed c).parser

pub returns-in-Err-Malformed-clause-answer : goal.returns-in-Err-Malformed-clause-answer
returns-in-Err-Malformed-clause-answer c = let f = at_malformed c in (c.requires.open, f.n, f.shown, f.faults)

at_limit : (c : goal.After-line-in-Err-Limit) → FaultAt Limit c.line-in-Err-Limit.result c.args.byte c.args.self.now
    (record { alloc = c.args.self.now.alloc; tokenizer = c.push.new.self; clauses = c.take.new.self; history = c.and_byte-self-in-Err-Limit.result; stopped = true; ended = true })
at_limit c =
    let p = pushed c.args.self.now.tokenizer c.push.new.self c.args.byte (Some c.in-Some.token) c.in-Some.ensures.takes c.in-Some.ensures.inside c.in-Some.ensures.quiet c.in-Some.ensures.ended c.in-Some.ensures.right in
    let e : CollectsToken (Err refusal.Limit) c.args.self.now.clauses (token_of c.in-Some.token) c.take.new.self = rw c.in-Err-Limit.field-0-is at c.in-Err-Limit.ensures in
    push_fails c.args.self.now _ c.args.byte c.in-Some.token Limit c.line-in-Err-Limit.result c.requires.parser c.requires.open p
    (record { fed = c.and_byte-self-in-Err-Limit.ensures.0; taken = c.and_byte-self-in-Err-Limit.ensures.1 }) refl refl e.0 e.1 c.line-in-Err-Limit.ensures

pub returns-in-Err-Limit-clause-parser : goal.returns-in-Err-Limit-clause-parser
returns-in-Err-Limit-clause-parser c = (at_limit c).parser

pub returns-in-Err-Limit-clause-answer : goal.returns-in-Err-Limit-clause-answer
returns-in-Err-Limit-clause-answer c = let f = at_limit c in (c.requires.open, f.n, f.shown, f.faults)

pub returns-in-Err-OutOfMemory-clause-answer : goal.returns-in-Err-OutOfMemory-clause-answer
returns-in-Err-OutOfMemory-clause-answer c =
    let old = c.args.self.now in
    let p = pushed old.tokenizer c.push.new.self c.args.byte (Some c.in-Some.token) c.in-Some.ensures.takes c.in-Some.ensures.inside c.in-Some.ensures.quiet c.in-Some.ensures.ended c.in-Some.ensures.right in
    let e : CollectsToken (Err refusal.OutOfMemory) old.clauses (token_of c.in-Some.token) c.take.new.self = rw c.in-Err-OutOfMemory.field-0-is at c.in-Err-OutOfMemory.ensures in
    let taken : Parser = record old { tokenizer = c.push.new.self; history = record { fed = old.history.fed ++ c.args.byte ∷ []; taken = old.history.taken } } in (
      c.requires.open,
      record {
        front = [];
        byte = c.args.byte;
        following = [];
        whole = refl;
        progress = ap stopped_by_memory (fed_none (progress_of old));
        well = subst (λ (text : List ℕ). NeedsMemoryAt text c.args.byte) (sym (append-nil old.history.fed))
            (push_short old taken c.args.byte c.in-Some.token c.requires.parser c.requires.open p (record { fed = refl; taken = refl }) e.1);
      },
    )

at_wrong : (c : goal.After-line) → FaultAt Malformed c.line.result c.args.byte c.args.self.now
    (record { alloc = c.args.self.now.alloc; tokenizer = c.push.new.self; clauses = c.args.self.now.clauses; history = c.and_byte-self.result; stopped = true; ended = true })
at_wrong c =
    let p = pushed c.args.self.now.tokenizer c.push.new.self c.args.byte None c.in_default.ensures.takes c.in_default.ensures.inside c.in_default.ensures.quiet c.in_default.ensures.ended c.in_default.ensures.right in
    push_wrong c.args.self.now _ c.args.byte c.line.result c.requires.parser c.requires.open p
    (record { fed = c.and_byte-self.ensures.0; taken = c.and_byte-self.ensures.1 }) refl refl refl (c.is_wrong.ensures.wrong c.if-is_wrong.true) c.line.ensures

pub returns-then-is_wrong-clause-parser : goal.returns-then-is_wrong-clause-parser
returns-then-is_wrong-clause-parser c = (at_wrong c).parser

pub returns-then-is_wrong-clause-answer : goal.returns-then-is_wrong-clause-answer
returns-then-is_wrong-clause-answer c = let f = at_wrong c in (c.requires.open, f.n, f.shown, f.faults)
